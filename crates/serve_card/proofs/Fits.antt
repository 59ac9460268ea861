-- A card is within the space asked for: its positions stand for different states of the machine, and each has no more
-- moves than its state.
use mathlib.Core.HLevel.{Σ_prop_path}
use mathlib.Core.List.{List, [], ◌++◌, ◌∷◌}
use mathlib.Core.Logic.{◌↔◌}
use mathlib.Core.Path.{◌∙◌, ◌≡◌, ap, refl, subst, sym}
use Prim.Native.Nat.{◌*◌, ◌+◌, ◌<◌, ◌≤◌, suc, zero, ℕ}
use native.Mathlib.Bridge.{le_prop}
use native.Mathlib.Decide.{dec_lt}
use native.Mathlib.Omega.{arith}
use lib.ListN.{get_or, length}
use Rattle.language.specs.declared.Numbers.{Numbers}
use Rattle.language.specs.Move.{Move, Word}
use Rattle.language.specs.Number.{numbers}
use Rattle.language.specs.Ty.{Ty}
use Rattle.language.specs.Term.{Term}
use Rattle.language.specs.Weight.{size as weighed}
use Rattle.language.proofs.NumberLaws.{finites-are, finites-within}
use Rattle.states_machine.specs.Action.{Action, Next, dead, out, to}
use Rattle.states_machine.specs.Degree.{degree, degree_at, number_if, total}
use Rattle.states_machine.specs.Settle.{Index, next, run, settle}
use Rattle.states_machine.specs.Sheet.{begin, spots, steps}
use Rattle.states_machine.proofs.Accepts.{language, spots-size}
use Rattle.states_machine.proofs.Degrees.{few-edges}
use Rattle.sheet_records.specs.declared.edition.Edition.TheVariants.{Present}
use Rattle.states_words.specs.Letter.{letter}
use Rattle.states_words.proofs.Advance.{settle-dead}
use Rattle.states_words.proofs.Ranges.{sheet-range, type_in}
use Rattle.sheet_written.specs.Meaning.{term_of, ty_of, type_of}
use Rattle.sheet_written.specs.Written.{Sheet}
use Rattle.sheet_reader.specs.Fine.{Accepted}
use Rattle.sheet_reader.proofs.Right.{gives}
use Rattle.sheet_reader.proofs.WellTyped.{accepted-typed}
use Rattle.serve_compare.specs.Plays.{CompletePlay, reckoned, whole_type}
use Rattle.dfa_smallest.proofs.Pigeons.{pigeons}
use Rattle.serve_card.specs.Positions.{Arc, Beginning, OnePosition, Position, Table, no_position}
use Rattle.serve_card.specs.Promise.{space_for}
use Rattle.serve_card.specs.Rules.{CardFits}
use Rattle.serve_card.proofs.Length.{all_moves}
use Rattle.serve_card.proofs.Light.{fits-any}
use Rattle.serve_card.proofs.Order.{among-at, arc-later, no-arc}
use Rattle.serve_card.proofs.Slots.{Leads, slot, slot-low, slot-one}
use Rattle.serve_card.proofs.Tables.{few, first_one, leading-one, table-small}
use Rattle.serve_card.proofs.Weights.{sum, sum_first, sum-least, weights}

-- a machine whose states are the numbers below K
module _ {K : ℕ} (step : Index K → Action (Index K) (Unit {0})) where
  run-append : (n : Next (Index K) (Unit {0})) (b u : Word) → run step n (b ++ u) ≡ run step (run step n b) u
  unfolding run
  run-append n [] u = refl
  run-append n (m ∷ b) u = run-append (next step n m) b u

  -- no word leads from nowhere to the end
  lost : (u : Word) → run step dead u ≡ out tt → ⊥
  unfolding run next
  lost [] e = let z : ◌≡◌ {A = ℕ} 0 1 = cc in absurd (omega arith)
  lost (m ∷ u) e = lost u e

  -- the number of a state, the end after them
  unfoldable placed : Next (Index K) (Unit {0}) → ℕ
  placed (to s) = s.0
  placed (out a) = K
  placed dead = K

  placed-low : (n : Next (Index K) (Unit {0})) → placed n < K + 1
  unfolding placed
  placed-low (to s) = omega (arith, s.1)
  placed-low (out a) = omega arith
  placed-low dead = omega arith

  placed_one : (m n : Next (Index K) (Unit {0})) → (m ≡ dead → ⊥) → (n ≡ dead → ⊥) → placed m ≡ placed n → m ≡ n
  unfolding placed
  placed_one (to s) (to r) g h e = ap to (Σ_prop_path (λ k. le_prop) e)
  placed_one (to s) (out a) g h e = absurd (omega (arith, s.1))
  placed_one (out a) (to r) g h e = absurd (omega (arith, r.1))
  placed_one (out a) (out b) g h e = refl
  placed_one dead n g h e = absurd (g refl)
  placed_one (to s) dead g h e = absurd (h refl)
  placed_one (out a) dead g h e = absurd (h refl)

  -- a move that leads on makes or takes an edge of a state
  leads-on : (n : Next (Index K) (Unit {0})) (m : Move) → (next step n m ≡ dead → ⊥)
      → (s : Index K) × ((n ≡ to s) × Leads (step s) m)
  unfolding next
  leads-on (to s) m h = (s, (refl, λ e. h (ap (settle step K) e ∙ settle-dead step K)))
  leads-on (out a) m h = absurd (h refl)
  leads-on dead m h = absurd (h refl)

-- how many edges a state has, by its number
degree-at : (T : Ty) (M : Term) (s : Index (spots T M)) → degree_at T M s.0 ≡ degree (steps T M s)
unfolding degree_at number_if
degree-at T M s = by (dec_lt s.0 (spots T M))
  where
    by : (d : Dec (s.0 < spots T M)) → number_if d (λ h. degree (steps T M (s.0, h))) ≡ degree (steps T M s)
    by (yes h) = ap (λ (x : Index (spots T M)). degree (steps T M x)) (Σ_prop_path (λ k. le_prop) refl)
    by (no h) = absurd (h s.1)

degree-end : (T : Ty) (M : Term) → degree_at T M (spots T M) ≡ 0
unfolding degree_at number_if
degree-end T M = by (dec_lt (spots T M) (spots T M))
  where
    by : (d : Dec (spots T M < spots T M)) → number_if d (λ h. degree (steps T M (spots T M, h))) ≡ 0
    by (yes h) = absurd (omega arith)
    by (no h) = refl

sum-total : (w : ℕ → ℕ) (n : ℕ) → sum w n ≡ total w n
unfolding sum total
sum-total w zero = refl
sum-total w (suc n) = let h = sum-total w n in omega (arith, h)

all-sum : (T : List Position) → all_moves T ≡ sum (λ k. length (get_or T k no_position).arcs) (length T)
unfolding all_moves sum
all-sum [] = refl
all-sum (p ∷ T) =
    let h = all-sum T in
    omega (arith, h, sum_first (λ k. length (get_or (p ∷ T) k no_position).arcs) (length T))

module _ (S : Sheet) (A : Accepted S) (T : List Position) (B : Table S T) where
  abbrev N : Numbers
  N = S.numbers

  abbrev K : ℕ
  K = spots (whole_type S) (term_of S)

  abbrev st : Index K → Action (Index K) (Unit {0})
  st = steps (whole_type S) (term_of S)

  -- where the first beginning of a position leads
  abbrev state : ℕ → Next (Index K) (Unit {0})
  state k = run st (begin (whole_type S) (term_of S)) (B.leading k)

  abbrev place : ℕ → ℕ
  place k = placed st (state k)

  plays : (b u : Word) → (run st (run st (begin (whole_type S) (term_of S)) b) u ≡ out tt) ↔ CompletePlay S (b ++ u)
  plays b u =
      let e = run-append st (begin (whole_type S) (term_of S)) b u in
      let l = language (whole_type S) (term_of S) (accepted-typed S A) (b ++ u) in
      ((λ h. l.0 (e ∙ h)), (λ c. sym e ∙ l.1 c))

  live : (b : Word) → Beginning S b → run st (begin (whole_type S) (term_of S)) b ≡ dead → ⊥
  live b h e = lost st h.0 (ap (λ n. run st n h.0) (sym e) ∙ (plays b h.0).1 h.1)

  state-live : (k : ℕ) → k < length T → state k ≡ dead → ⊥
  state-live k h = live (B.leading k) (B.first k h).begins

  -- different positions have different states
  place-one : (i j : ℕ) → i < length T → j < length T → place i ≡ place j → i ≡ j
  place-one i j g h e =
      let s : state i ≡ state j = placed_one st (state i) (state j) (state-live i g) (state-live j h) e in
      let o : OnePosition S (B.leading i) (B.leading j) = λ u. (
        (λ c. (plays (B.leading j) u).0 (ap (λ n. run st n u) (sym s) ∙ (plays (B.leading i) u).1 c)),
        (λ c. (plays (B.leading i) u).0 (ap (λ n. run st n u) s ∙ (plays (B.leading j) u).1 c)),
      ) in
      leading-one S A T B i j g h
      (first_one S A (B.leading i) (B.leading j) (B.first i g) (B.first j h) o)

  -- THEOREM: there are at most S positions
  positions-few : length T ≤ reckoned S
  positions-few =
      omega (
        arith,
        pigeons (K + 1) (length T) place (λ k h. placed-low st (state k)) place-one,
        spots-size (whole_type S) (term_of S),
      )

  -- a position has no more moves than its state has edges
  module _ (k : ℕ) (h : k < length T) where
    abbrev xs : List Arc
    xs = (get_or T k no_position).arcs

    abbrev by-at : ℕ → Move
    by-at i = (get_or xs i no-arc).by

    move-on : (i : ℕ) → i < length xs → next st (state k) (by-at i) ≡ dead → ⊥
    unfolding run
    move-on i l e =
        let b = ((B.moves k h (by-at i) (get_or xs i no-arc).to).0 (among-at xs i l)).1.0 in
        live (B.leading k ++ (by-at i ∷ [])) b
        (run-append st (begin (whole_type S) (term_of S)) (B.leading k) (by-at i ∷ []) ∙ e)

    by_one : (i j : ℕ) → i < length xs → j < length xs → by-at i ≡ by-at j → i ≡ j
    by_one i j a b e = go (dec_lt i j) (dec_lt j i)
      where
        later : (p q : ℕ) → p < q → q < length xs → letter N (by-at p) < letter N (by-at q)
        later p q l m = arc-later N (few S A) xs (B.ordered k h) (table-small S A T B k h) p q l m

        go : Dec (i < j) → Dec (j < i) → i ≡ j
        go (yes l) d = absurd (omega (arith, later i j l b, ap (letter N) e))
        go (no l) (yes m) = absurd (omega (arith, later j i m a, ap (letter N) e))
        go (no l) (no m) = omega arith

    arcs-few : length xs ≤ degree_at (whole_type S) (term_of S) (place k)
    unfolding placed
    arcs-few = some (dec_lt 0 (length xs))
      where
        of-state : (s : Index K) → state k ≡ to s → length xs ≤ degree_at (whole_type S) (term_of S) (place k)
        of-state s e =
            let on : (i : ℕ) → i < length xs → Leads (st s) (by-at i) = λ i l.
            let r = leads-on st (to s) (by-at i) (λ z. move-on i l (ap (λ n. next st n (by-at i)) e ∙ z)) in
            same-leads r.0 r.1.0 (by-at i) r.1.1 in
            let p = pigeons (degree (st s)) (length xs) (λ i. slot (st s) (by-at i))
            (λ i l. slot-low (st s) (by-at i) (on i l))
            (λ i j l m q. by_one i j l m (slot-one (st s) (by-at i) (by-at j) (on i l) (on j m) q)) in
            let d : degree_at (whole_type S) (term_of S) (place k) ≡ degree (st s) =
            ap (λ n. degree_at (whole_type S) (term_of S) (placed st n)) e ∙ degree-at (whole_type S) (term_of S) s in
            omega (arith, p, d)
          where
            same-leads : (r : Index K) → ◌≡◌ {A = Next (Index K) (Unit {0})} (to s) (to r) → (m : Move)
                → Leads (st r) m → Leads (st s) m
            same-leads r q m l = let f : r ≡ s = cc in subst (λ x. Leads (st x) m) f l

        some : Dec (0 < length xs) → length xs ≤ degree_at (whole_type S) (term_of S) (place k)
        some (yes l) =
            let r = leads-on st (state k) (by-at 0) (move-on 0 l) in
            of-state r.0 r.1.0
        some (no l) = omega arith

  -- THEOREM: twice the moves are at most (1 + K) S
  moves-few : 2 * all_moves T ≤ (1 + numbers N) * reckoned S
  unfolding sum
  moves-few =
      let w = degree_at (whole_type S) (term_of S) in
      let three : 3 ≤ numbers N = omega (arith, A.ordered.in_order.z_above, finites-are N, finites-within N) in
      let f = few-edges N three (whole_type S) (term_of S) (accepted-typed S A)
      (type_in N A.ordered.in_order.z_above (type_of S)) (sheet-range S A.ordered) in
      let a = sum-least (λ k. length (get_or T k no_position).arcs) (λ k. w (place k)) (length T) arcs-few in
      let b = weights (length T) (K + 1) place (λ k h. placed-low st (state k)) place-one w in
      let c : sum w (K + 1) ≡ w K + sum w K = ap (sum w) {x = K + 1} {y = suc K} (omega arith) in
      let e : 1 + K ≡ reckoned S = omega (arith, spots-size (whole_type S) (term_of S)) in
      let g : 2 * total w K ≤ (1 + numbers N) * reckoned S = rw e at f in
      omega (arith, g, all-sum T, a, b, c, degree-end (whole_type S) (term_of S), sum-total w K)

-- THEOREM: a card is within the space asked for
pub card-fits : CardFits
card-fits s c C =
    let S = C.sheet in
    let g = gives Present s S C.type C.size C.reads in
    let z : C.size ≡ reckoned S = g.3 ∙ ap (λ t. weighed (ty_of S.numbers t) (term_of S)) g.2 in
    let f = fits-any S g.1 s C.type C.table C.positions (positions-few S g.1 C.table C.positions)
    (moves-few S g.1 C.table C.positions) in
    omega (arith, ap length C.bytes, ap (space_for S.numbers) z, f)
