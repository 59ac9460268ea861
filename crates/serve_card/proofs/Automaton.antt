-- The smallest table of the automaton that is built for a sheet is the table of its positions.
use mathlib.Core.Bool.{Bool, cond, false, true}
use mathlib.Core.List.{List, ◌++◌, ◌∷◌}
use mathlib.Core.Path.{◌∙◌, ◌≡◌, ap, refl, subst, sym}
use Prim.Native.Nat.{◌*◌, ◌+◌, ℕ}
use native.Mathlib.Omega.{arith}
use lib.Dec.{eqb}
use lib.ListN.{take}
use borrow.Author.Tests.{eq-eqb, eqb-true}
use Rattle.language.specs.declared.Numbers.{Numbers}
use Rattle.language.specs.Move.{Word}
use Rattle.language.specs.Ty.{Ty}
use Rattle.states_machine.specs.Range.{TyIn}
use Rattle.states_machine.specs.Sheet.{spots}
use Rattle.dfa.specs.Graph.{rest, δ}
use Rattle.dfa.specs.Reading.{reversed, walk}
use Rattle.dfa.specs.Word.{accepting, after}
use Rattle.dfa.proofs.laws.Reading.{reversed-reversed, walk-reversed}
use Rattle.states_words.specs.Letter.{AllSmall}
use Rattle.states_words.proofs.Ranges.{sheet-range, sheet-small, type_in}
use Rattle.play_records.specs.Spell.{letters}
use Rattle.sheet_written.specs.Written.{Sheet}
use Rattle.sheet_written.specs.Meaning.{term_of, ty_of, type_of}
use Rattle.sheet_written.specs.Width.{heading_width}
use Rattle.sheet_reader.specs.Fine.{Accepted}
use Rattle.sheet_reader.specs.Reader as reader
use Rattle.sheet_reader.specs.Reader.{read_sheet}
use Rattle.sheet_reader.proofs.WellTyped.{accepted-typed}
use Rattle.states_build.specs.inner.Built.{OneBuilt}
use Rattle.serve_compare.specs.Plays.{CompletePlay}
use Rattle.serve_compare.proofs.OnePlay.{play-walks, plays-walk, walk-plays}
use Rattle.dfa_smallest.specs.Table.{Place, Smallest}
use Rattle.serve_card.specs.Positions.{Table}
use Rattle.serve_card.proofs.FromLetters.{Coded, code, letter_at, positions_of}
use Rattle.serve_card.proofs.FromLetters.{small-coded, table-of-letters}
use Rattle.serve_card.specs.Card.{card_bytes, table_bytes}
use Rattle.serve_card.specs.Promise.{CardOf}
use Rattle.card_bytes.specs.Places.{places_bytes}
use Rattle.serve_card.proofs.Tables.{few}
use Rattle.serve_card.proofs.Written.{places-filed}

-- the state f alone accepts
accepts : (f x : ℕ) → x ≡ f → accepting f f x ≡ true
accepts f x e = rw (eq-eqb x f e)

accepted : (f x : ℕ) → accepting f f x ≡ true → x ≡ f
accepted f x h = by (eqb x f) refl h
  where
    by : (b : Bool) → eqb x f ≡ b → cond b true b ≡ true → x ≡ f
    by true d e = eqb-true x f d
    by false d e = let z : ◌≡◌ {A = ℕ} 0 1 = cc in absurd (omega arith)

module _ (S : Sheet) (A : Accepted S) (n : ℕ) (ws : List ℕ)
    (B : OneBuilt S.numbers (ty_of S.numbers (type_of S)) (term_of S) n ws) (f : ℕ)
    (at : f ≡ spots (ty_of S.numbers (type_of S)) (term_of S)) where
  abbrev N : Numbers
  N = S.numbers

  abbrev T : Ty
  T = ty_of S.numbers (type_of S)

  abbrev d : ℕ → ℕ → ℕ
  d = δ (rest (5 * n) ws) n

  -- the words that lead to the end
  abbrev pub Led : List ℕ → Type 0
  Led x = accepting f f (after d 0 x) ≡ true

  in-type : TyIn N T
  in-type = type_in N A.ordered.in_order.z_above (type_of S)

  after-code : (u : Word) → after d 0 (code N u) ≡ walk d 0 (letters N u)
  after-code u = sym (walk-reversed d 0 (code N u)) ∙ ap (walk d 0) (reversed-reversed (letters N u))

  spells : (u : Word) → CompletePlay S u → Led (code N u)
  spells u c =
      let w = play-walks (accepted-typed S A) B.shows B.graph B.settled in-type (sheet-range S A.ordered)
      u c in
      accepts f (after d 0 (code N u)) (after-code u ∙ w ∙ omega (arith, at))

  reads : (u : Word) → AllSmall N u → Led (code N u) → CompletePlay S u
  reads u s h =
      let e = accepted f (after d 0 (code N u)) h in
      (plays-walk (accepted-typed S A) B.shows B.graph B.settled u s).0
      (sym (after-code u) ∙ e ∙ omega (arith, at))

  coded : (x : List ℕ) → Led x → Coded N x
  coded x h =
      let e : walk d 0 (reversed x) ≡ 0 + spots T (term_of S) =
      walk-reversed d 0 x ∙ accepted f (after d 0 x) h ∙ omega (arith, at) in
      let p = walk-plays (accepted-typed S A) B.shows B.graph B.settled
      (omega (arith, A.ordered.in_order.z_below)) (reversed x) e in
      let c = small-coded N p.0 (sheet-small S A.ordered p.0 p.1.1) in
      subst (Coded N) (ap reversed p.1.0 ∙ reversed-reversed x) c

  -- THEOREM: the smallest table of the automaton is the table of the sheet's positions
  table-of-built : (P : List Place) → Smallest Led P → Table S (positions_of S.numbers (few S A) P)
  table-of-built P M = table-of-letters S A Led spells reads coded P M

  -- THEOREM: its bytes by letters are those of the sheet's positions
  bytes-of-built : (P : List Place) → Smallest Led P
      → table_bytes S.numbers (positions_of S.numbers (few S A) P) ≡ places_bytes P
  bytes-of-built P M = places-filed N (few S A) P (letter_at S A Led spells reads coded P M)

  -- THEOREM: the heading, the type and these bytes are the card
  pub card-of-built : (s : List ℕ) (ty size : ℕ) → read_sheet s ≡ reader.accepted S ty size → (P : List Place)
      → Smallest Led P → CardOf s (take (heading_width S) s ++ (ty ∷ places_bytes P))
  unfolding card_bytes
  card-of-built s ty size r P M = record {
    sheet = S;
    type = ty;
    size = size;
    reads = r;
    table = positions_of S.numbers (few S A) P;
    positions = table-of-built P M;
    bytes = ap (λ (x : List ℕ). take (heading_width S) s ++ (ty ∷ x)) (sym (bytes-of-built P M));
  }
