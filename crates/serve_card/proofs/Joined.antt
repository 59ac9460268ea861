-- The bytes that are read from the words of numbered classes are those of the table of these classes.
use mathlib.Core.Bool.{Bool, cond, false, true}
use mathlib.Core.List.{List, [], ◌++◌, ◌∷◌}
use mathlib.Core.Logic.{◌≢◌}
use mathlib.Core.Path.{◌∙◌, ◌≡◌, ap, ap₂, refl, sym}
use Prim.Native.Nat.{◌%◌, ◌+◌, ◌-◌, ◌<◌, ◌≤◌, suc, zero, ℕ}
use native.Mathlib.Decide.{ℕ_discrete}
use native.Mathlib.Omega.{arith}
use lib.Dec.{eqb}
use lib.ListN.{get_or}
use borrow.Author.Tests.{eq-eqb, ne_eqb}
use Rattle.dfa.specs.Graph.{EdgeOf, letter, target, δ}
use Rattle.dfa.specs.Word.{accepting}
use Rattle.dfa.proofs.laws.Edges.{edge-from, edge-step, edge_to, first_edge}
use Rattle.dfa_classes.specs.Packed.{Packed}
use Rattle.dfa_classes.specs.Places.{class_at, first_at, letter_at, number_at, state_at, target_at}
use Rattle.dfa_classes.proofs.laws.Packed.{target-low}
use Rattle.dfa_numbering.specs.Positions.{Countable, NumberedIn}
use Rattle.dfa_numbering.specs.Tables.{arcs_of, place_of, places_of}
use Rattle.card_bytes.specs.Kinds.{POSITION}
use Rattle.card_bytes.specs.Places.{move_bytes, moves_bytes, places_bytes}
use Rattle.card_bytes.specs.InWords.{Legible, States, edge_bytes, edges_bytes, position_bytes}
use Rattle.card_bytes.specs.InWords.{positions_bytes, state_bytes}
use Rattle.card_bytes.proofs.laws.Edges.{none-bytes, some_bytes}
use Rattle.serve_card.proofs.Weights.{few-positions}

module _ (G : List ℕ) (n g : ℕ) (own : ℕ → ℕ) (count : ℕ) (ws : List ℕ) (M : NumberedIn G n g own count ws) where
  abbrev C : Countable G n g own ws
  C = M.countable

  abbrev P : Packed G n g ws
  P = M.countable.packed

  abbrev number : ℕ → ℕ
  number = number_at n ws

  abbrev state : ℕ → ℕ
  state = state_at n ws

  dead_is : class_at ws (n - 1) ≡ own (n - 1)
  dead_is = C.class (n - 1) (omega (arith, P.sized.some))

  -- an edge, as the words have it
  module _ (p e : ℕ) (E : EdgeOf G n p e) where
    target-in : target G n e < n
    target-in = target-low G n g ws P p e E

    target_is : target_at n ws e ≡ target G n e
    target_is = P.targets e (edge-from G n P.graph p e E) (edge_to G n P.graph p e E)

    class-is : class_at ws (target_at n ws e) ≡ own (target G n e)
    class-is = ap (class_at ws) target_is ∙ C.class (target G n e) target-in

    letter-is : letter_at n ws e ≡ letter G n e
    letter-is = P.letters e (edge_to G n P.graph p e E)

  -- the words can be read
  pub legible : Legible n ws
  legible = record {
    some = P.sized.some;
    few = P.sized.few;
    end = omega (arith, P.firsts n (omega arith), P.sized.edges);
    room = omega (arith, P.firsts n (omega arith), P.sized.behind, P.sized.room);
    to = λ p h. omega (arith, P.firsts p h, P.firsts n (omega arith), first_edge G n P.graph p n h (omega arith));
    target = λ p e h a b.
        let E : EdgeOf G n p e = record {
          below = h;
          from = omega (arith, P.firsts p (omega arith), a);
          to = omega (arith, P.firsts (p + 1) (omega arith), b);
        } in
        omega (arith, target_is p e E, target-in p e E);
    class = λ p h. omega (arith, C.class p h, C.own_low p h);
  }

  pub states : States n count ws
  states = record {
    few = omega (arith, few-positions (δ G n) n own 0 count state number M.numbered);
    low = λ k h. M.numbered.low k h;
  }

  -- the class that an edge of a numbered state leads to has a small number
  small-number : (k e : ℕ) → k < count → EdgeOf G n (state k) e → own (target G n e) ≢ own (n - 1)
      → (number (own (target G n e)) - 1) % 65536 ≡ number (own (target G n e)) - 1
  small-number k e h E alive =
      let step : δ G n (state k) (letter G n e) ≡ target G n e = edge-step G n P.graph (state k) e E in
      let c = M.numbered.closed k h (letter G n e) (λ q. alive (ap own (sym step) ∙ q)) in
      let z : number (own (target G n e)) ≡ c.0 + 1 =
      ap (λ x. number (own x)) (sym step) ∙ ap number (sym c.1.1.0)
      ∙ M.numbered.numbers c.0 c.1.0 in
      omega (arith, z, c.1.0, states.few, P.sized.few)

  -- the moves by c edges of a numbered state
  edges_are : (k : ℕ) → k < count → (c i : ℕ) → get_or G (state k) 0 ≤ i → i + c ≡ get_or G (state k + 1) 0
      → edges_bytes ws n c i ≡ moves_bytes (arcs_of G n own number c i)
  unfolding edges_bytes moves_bytes arcs_of
  edges_are k h zero i a b = refl
  edges_are k h (suc c) i a b =
      let E : EdgeOf G n (state k) i = record { below = M.numbered.low k h; from = a; to = omega arith } in
      let r = edges_are k h c (suc i) (omega arith) (omega arith) in
      go (ℕ_discrete (own (target G n i)) (own (n - 1))) E r
    where
      go : Dec (own (target G n i) ≡ own (n - 1)) → EdgeOf G n (state k) i
          → edges_bytes ws n c (suc i) ≡ moves_bytes (arcs_of G n own number c (suc i))
          → edge_bytes ws n i ++ edges_bytes ws n c (suc i)
          ≡ moves_bytes (cond (eqb (own (target G n i)) (own (n - 1))) (arcs_of G n own number c (suc i))
          (record { letter = letter G n i; to = number (own (target G n i)) - 1 }
          ∷ arcs_of G n own number c (suc i)))
      go (yes q) E r =
          let z : edge_bytes ws n i ≡ [] = none-bytes ws n i (class-is (state k) i E ∙ q ∙ sym dead_is) in
          rw (eq-eqb (own (target G n i)) (own (n - 1)) q, z) r
      go (no q) E r =
          let z : edge_bytes ws n i ≡ move_bytes (letter G n i) (number (own (target G n i)) - 1) =
          some_bytes ws n i (λ d. q (sym (class-is (state k) i E) ∙ d ∙ dead_is))
          ∙ ap₂ move_bytes (letter-is (state k) i E)
          (ap (λ x. (number x - 1) % 65536) (class-is (state k) i E) ∙ small-number k i h E q) in
          rw (ne_eqb (own (target G n i)) (own (n - 1)) q) (ap₂ (λ (x y : List ℕ). x ++ y) z r)

  module _ (f : ℕ) where
    end_is : (b : Bool) → ◌≡◌ {A = ℕ} (cond b 1 0) (cond (cond b true b) 1 0)
    end_is true = refl
    end_is false = refl

    position-is : (k : ℕ) → k < count → position_bytes ws n f (state k)
        ≡ POSITION ∷ cond (accepting f f (state k)) 1 0 ∷ moves_bytes (place_of G n f own number (state k)).arcs
    unfolding position_bytes state_bytes
    position-is k h =
        let low = M.numbered.low k h in
        let a : first_at n ws (state k) ≡ get_or G (state k) 0 = P.firsts (state k) (omega (arith, low)) in
        let b : first_at n ws (state k + 1) ≡ get_or G (state k + 1) 0 = P.firsts (state k + 1) (omega (arith, low)) in
        let up = (P.graph.edges (state k) low).le in
        let m = edges_are k h (get_or G (state k + 1) 0 - get_or G (state k) 0) (get_or G (state k) 0) (omega arith)
        (omega (arith, up)) in
        ap₂ (λ (x : ℕ) (y : List ℕ). POSITION ∷ x ∷ y) (end_is (eqb (state k) f))
        (ap₂ (λ x y. edges_bytes ws n (y - x) x) a b ∙ m)

    -- THEOREM: the bytes of the positions from k on are those of the table
    pub places-are : (c k : ℕ) → k + c ≡ count
        → positions_bytes ws n f c k ≡ places_bytes (places_of G n f own number state c k)
    unfolding positions_bytes places_bytes places_of
    places-are zero k e = refl
    places-are (suc c) k e =
        let r = places-are c (suc k) (omega arith) in
        ap₂ (λ (x y : List ℕ). x ++ y) (position-is k (omega arith)) r
