-- The automaton of a sheet can be sorted and numbered in the words lent, and what is written of it is the card.
use mathlib.Core.List.{List, ◌++◌, ◌∷◌}
use mathlib.Core.Path.{◌∙◌, ◌≡◌, ap, subst, sym}
use Prim.Native.Nat.{◌*◌, ◌+◌, ◌-◌, ◌<◌, ◌≤◌, ℕ}
use native.Mathlib.Nat.{mul-le-mul_left}
use native.Mathlib.Omega.{arith}
use lib.ListN.{get_or, length, length-append, take}
use lib.Seq.{sets}
use Rattle.language.specs.Number.{numbers}
use Rattle.language.specs.Weight.{size}
use Rattle.states_machine.specs.Sheet.{spots}
use Rattle.states_machine.proofs.Accepts.{spots-size}
use Rattle.dfa.specs.Graph.{rest}
use Rattle.dfa.specs.Live.{Single}
use Rattle.sheet_records.specs.declared.edition.Edition.TheVariants.{Present}
use Rattle.sheet_written.specs.Meaning.{term_of, ty_of, type_of}
use Rattle.sheet_written.specs.Width.{heading_width}
use Rattle.sheet_reader.specs.Fine.{Accepted}
use Rattle.sheet_reader.proofs.Right.{gives}
use Rattle.states_words.proofs.Filled.{most-edges}
use Rattle.serve_conditions.proofs.Figures.{asked_low}
use Rattle.states_build.proofs.Room.{asked-suffices}
use Rattle.serve_compare.proofs.FollowPlays.{built-single}
use Rattle.dfa_classes.specs.Places.{number_at, state_at}
use Rattle.dfa_smallest.specs.Table.{Place}
use Rattle.dfa_sorting.specs.Sorted.{Sortable, Sorted}
use Rattle.dfa_numbering.specs.Positions.{Countable, NumberedIn}
use Rattle.dfa_numbering.specs.Tables.{places_of}
use Rattle.dfa_numbering.proofs.laws.Tables.{table-smallest}
use Rattle.card_bytes.specs.InWords.{Legible, States, positions_bytes}
use Rattle.serve_card.specs.Promise.{CardOf}
use Rattle.serve_card.specs.inner.Drawing.{Drawable, Drawn}
use Rattle.serve_card.proofs.Automaton.{card-of-built}
use Rattle.serve_card.proofs.Fits.{card-fits}
use Rattle.serve_card.proofs.Joined.{legible, places-are, states}
use Rattle.serve_card.proofs.Length.{heading-short, space-most}

module _ (s : List ℕ) (ty all place : ℕ) (ws : List ℕ) (D : Drawable s ty all place ws) where
  abbrev n : ℕ
  n = all + 1

  abbrev f : ℕ
  f = all - 1

  abbrev G : List ℕ
  G = rest (5 * (all + 1)) ws

  fine : Accepted D.sheet
  fine = (gives Present s D.sheet ty all D.reads).1

  sized : size (ty_of D.sheet.numbers (type_of D.sheet)) (term_of D.sheet) ≡ all
  sized =
      let g = gives Present s D.sheet ty all D.reads in
      sym (g.3 ∙ ap (λ t. size (ty_of D.sheet.numbers t) (term_of D.sheet)) g.2)

  end-at : f ≡ spots (ty_of D.sheet.numbers (type_of D.sheet)) (term_of D.sheet)
  end-at = omega (arith, sized, spots-size (ty_of D.sheet.numbers (type_of D.sheet)) (term_of D.sheet))

  pub drawn-some : 0 < all
  drawn-some = omega (arith, sized, spots-size (ty_of D.sheet.numbers (type_of D.sheet)) (term_of D.sheet))

  pub drawn-small : all ≤ 4096
  drawn-small = omega (arith, fine.ordered.small, sized)

  single : Single G n f
  single = built-single D.built (omega (arith, end-at, drawn-some)) end-at

  -- twice the edges are at most (1 + K) n
  edges : 2 * get_or G n 0 ≤ (1 + numbers D.sheet.numbers) * (all + 1)
  edges =
      let low : size (ty_of D.sheet.numbers (type_of D.sheet)) (term_of D.sheet) ≤ all + 1 =
      omega (arith, sized) in
      omega (
        arith,
        D.built.settled.first n (omega arith),
        D.built.few,
        mul-le-mul_left (1 + numbers D.sheet.numbers) low,
      )

  -- THEOREM: the automaton can be sorted in the words lent
  pub drawn-sortable : Sortable n f ws
  drawn-sortable =
      let S = asked-suffices D.sheet.numbers all fine.ordered.in_order.z_below D.room in
      let a = asked_low D.sheet.numbers all D.room in
      record {
        single = single;
        low = omega (arith, drawn-some);
        few = omega (arith, drawn-small);
        edges = omega (
          arith,
          most-edges D.sheet.numbers fine.ordered.in_order.z_below n (get_or G n 0) edges,
          drawn-small,
        );
        room = omega (arith, edges, S.links, a);
      }

  -- sorted
  module _ (classes : ℕ) (ws₁ : List ℕ) (O : Sorted G n f classes ws₁) where
    pub drawn-countable : Countable G n (6 * n + 1 + 2 * get_or G n 0) O.own ws₁
    drawn-countable = record {
      packed = O.packed;
      class = O.class;
      own_low = λ p h. omega (arith, O.low p h, O.few);
    }

    -- and numbered
    module _ (count : ℕ) (ws₂ : List ℕ) (M : NumberedIn G n (6 * n + 1 + 2 * get_or G n 0) O.own count ws₂) where
      abbrev Q : List Place
      Q = places_of G n f O.own (number_at n ws₂) (state_at n ws₂) count 0

      -- the words can be read
      pub drawn-legible : Legible n ws₂
      drawn-legible = legible G n (6 * n + 1 + 2 * get_or G n 0) O.own count ws₂ M

      pub drawn-states : States n count ws₂
      drawn-states = states G n (6 * n + 1 + 2 * get_or G n 0) O.own count ws₂ M

      -- THEOREM: the heading, the type and the bytes of the positions are the card
      drawn-card : CardOf s (take (heading_width D.sheet) s ++ (ty ∷ positions_bytes ws₂ n f count 0))
      drawn-card =
          let e = places-are G n (6 * n + 1 + 2 * get_or G n 0) O.own count ws₂ M f count 0 (omega arith) in
          let low : f < n = omega (arith, drawn-some) in
          subst (λ (x : List ℕ). CardOf s (take (heading_width D.sheet) s ++ (ty ∷ x))) (sym e)
          (card-of-built D.sheet fine n ws D.built f end-at s ty all D.reads Q
          (table-smallest G n f single low O.own O.classes count (state_at n ws₂) (number_at n ws₂)
          M.numbered))

      -- the place after them is within what a word can count
      pub drawn-room : place + length (positions_bytes ws₂ n f count 0) ≤ 4294967296
      drawn-room =
          let h = take (heading_width D.sheet) s in
          let a = length-append h (ty ∷ positions_bytes ws₂ n f count 0) in
          let b = heading-short D.sheet fine in
          omega (
            arith,
            card-fits s _ drawn-card,
            space-most drawn-card.sheet.numbers drawn-card.size,
            a,
            b,
            D.after,
            card-size drawn-card,
          )
        where
          card-size : {c : List ℕ} (C : CardOf s c) → C.size ≤ 4096
          card-size C =
              let q = sym C.reads ∙ D.reads in
              let e : C.size ≡ all = cc in
              omega (arith, e, drawn-small)

      -- THEOREM: what is written is the card
      pub drawn : (space space' : List ℕ) (r : ℕ) → r ≡ place + length (positions_bytes ws₂ n f count 0)
          → space' ≡ sets space place (positions_bytes ws₂ n f count 0) → Drawn s ty D.sheet place space r space'
      drawn space space' r e w = record {
        bytes = positions_bytes ws₂ n f count 0;
        is = drawn-card;
        returned = e;
        written = w;
      }
