-- The letters of the edges of a state that waits climb.
use mathlib.Core.Path.{◌≡◌, refl}
use mathlib.Core.Bool.{Bool, true, false}
use mathlib.Core.List.{List, [], ◌∷◌}
use Prim.Native.Nat.{ℕ, zero, suc, ◌+◌, ◌*◌, ◌-◌, ◌/◌, ◌%◌, ◌≤◌, ◌<◌}
use native.Mathlib.Omega.{arith}
use native.Mathlib.Decide.{dec_lt}
use native.Mathlib.Nat.{mod-eq_of_lt}
use lib.Dec.{eqb, ltb, leb}
use borrow.Author.Tests.{lt-ltb, le-ltb, leb-false}
use Rattle.language.specs.declared.Numbers.{Numbers}
use Rattle.language.specs.Choice.{pick}
use Rattle.language.specs.Number.{numbers}
use Rattle.states_words.specs.declared.Wait.{Wait}
use Rattle.states_path.specs.declared.Site.{Site}
use Rattle.language.specs.Order.{code_at, rank}
use Rattle.language.proofs.NumberLaws.{numbers-within}
use Rattle.language.proofs.OrderLaws.{code-at-below, code-rank, bound, bound-last, zero_at, zero-at}
use Rattle.states_words.specs.inner.Moves.{place_of, letter_of, limit_of, edge_by, value_edge, value_edges}
use Rattle.states_words.specs.inner.Moves.{block_edges}
use Rattle.states_words.specs.inner.Moves.{heard_edges}
use Rattle.states_words.proofs.EdgeLists.{Climbs, climbs-from, climbs-to}
use Rattle.states_words.proofs.EdgeLists.{climbs-append}
use Rattle.states_words.proofs.Heard.{limit-one}
use Rattle.states_words.proofs.HeardEdges.{candidate}

module _ (t : List ℕ) (N : Numbers) (s : Site) (wait : Wait) where
  -- where the letters of a kind at an argument begin, and where those by the values from number r on
  abbrev base : ℕ → ℕ → ℕ
  base k j = k * 16777216 + wait.id * 65536 + j * 256

  abbrev place : ℕ → ℕ → ℕ → ℕ
  place k j r = base k j + pick (ltb k 5) (r - zero_at N) (bound N r)

  first-place : (k j : ℕ) → base k j ≤ place k j 0
  first-place k j = omega arith

  -- the next pair of a kind and an argument
  next-base : (b : ℕ) → base (b / 5) (b % 5) + 256 ≤ base (suc b / 5) (suc b % 5)
  next-base b = cases (dec_lt (b % 5) 4)
    where
      cases : Dec (b % 5 < 4) → base (b / 5) (b % 5) + 256 ≤ base (suc b / 5) (suc b % 5)
      cases (yes l) =
          let e : suc b / 5 ≡ b / 5 = omega arith in
          let f : suc b % 5 ≡ b % 5 + 1 = omega arith in
          omega arith
      cases (no l) =
          let e : suc b / 5 ≡ b / 5 + 1 = omega arith in
          let f : suc b % 5 ≡ 0 = omega arith in
          omega arith

  -- the letters of the candidates
  module _ (few : N.z ≤ 125) (byte : wait.id < 256) where
    letter-candidate : (k j r : ℕ) → k < 7 → j < 5 → r < numbers N →
        letter_of N (candidate N wait k j r) ≡ base k j + pick (ltb k 5) 0 (rank N (code_at N r))
    unfolding letter_of place_of
    letter-candidate k j r x y h =
        rw (mod-eq_of_lt low) (cases (ltb k 5))
      where
        low : code_at N r < 65536
        low = omega (arith, code-at-below N r h, numbers-within N)

        cases : (b : Bool) → pick b (k % 8 * 16777216 + wait.id % 256 * 65536 + j % 256 * 256)
            (k % 8 * 16777216 + wait.id % 256 * 65536 + j % 256 * 256 + rank N (code_at N r)) ≡
            base k j + pick b 0 (rank N (code_at N r))
        cases true = omega arith
        cases false = omega arith

    inside : (k j r : ℕ) → k < 7 → j < 5 → r < numbers N → code_at N r < limit_of t wait k j →
        (place k j r ≤ letter_of N (candidate N wait k j r)) × (letter_of N (candidate N wait k j r) < place k j (suc r))
    inside k j r x y h l = rw (letter-candidate k j r x y h) (cases (dec_lt k 5))
      where
        cases : Dec (k < 5) → (place k j r ≤ base k j + pick (ltb k 5) 0 (rank N (code_at N r))) ×
            (base k j + pick (ltb k 5) 0 (rank N (code_at N r)) < place k j (suc r))
        cases (yes w) =
            let e = zero-at N r (omega (arith, limit-one t wait k j w)) in
            rw (lt-ltb k 5 w) (omega arith, omega arith)
        cases (no w) =
            let b = code-rank N r h few in
            rw (le-ltb k 5 (omega arith)) (omega (arith, b.0), omega (arith, b.1))

    place-next : (k j r : ℕ) → r < numbers N → place k j r ≤ place k j (suc r)
    place-next k j r h = cases (ltb k 5)
      where
        cases : (b : Bool) → base k j + pick b (r - zero_at N) (bound N r) ≤
            base k j + pick b (suc r - zero_at N) (bound N (suc r))
        cases true = omega arith
        cases false = let b = code-rank N r h few in omega (arith, b.0, b.1)

    value-climbs : (k j r : ℕ) → k < 7 → j < 5 → r < numbers N →
        Climbs (place k j r) (place k j (suc r)) (value_edge t N s wait k j (limit_of t wait k j) r)
    unfolding value_edge
    value-climbs k j r x y h = cases (leb (limit_of t wait k j) (code_at N r)) refl
      where
        cases : (b : Bool) → leb (limit_of t wait k j) (code_at N r) ≡ b → Climbs (place k j r) (place k j (suc r))
            (pick b [] (edge_by t N s wait.state (candidate N wait k j r) ∷ []))
        cases true e = unfold Climbs in place-next k j r h
        cases false e = unfold Climbs edge_by in inside k j r x y h (leb-false (limit_of t wait k j) (code_at N r) e)

    values-climb : (k j r : ℕ) → k < 7 → j < 5 → r ≤ numbers N →
        Climbs (place k j 0) (place k j r) (value_edges t N s wait k j (limit_of t wait k j) r)
    unfolding value_edges
    values-climb k j zero x y h = unfold Climbs in omega arith
    values-climb k j (suc r) x y h =
        climbs-append (place k j 0) (place k j r) (place k j (suc r)) _ _ (values-climb k j r x y (omega arith))
        (value-climbs k j r x y h)

    -- the letters of a kind at an argument
    last-place : (k j : ℕ) → place k j (numbers N) ≤ base k j + 256
    last-place k j = cases (ltb k 5)
      where
        cases : (b : Bool) →
            base k j + pick b (numbers N - zero_at N) (bound N (numbers N)) ≤ base k j + 256
        cases true = omega (arith, numbers-within N)
        cases false = omega (arith, bound-last N few)

    block-climbs : (k j : ℕ) → k < 7 → j < 5 → Climbs (base k j) (base k j + 256) (block_edges t N s wait k j)
    unfolding block_edges
    block-climbs k j x y = cases (eqb (limit_of t wait k j) 0)
      where
        cases : (b : Bool) → Climbs (base k j) (base k j + 256)
            (pick b [] (value_edges t N s wait k j (limit_of t wait k j) (numbers N)))
        cases true = unfold Climbs in omega arith
        cases false =
            climbs-from (base k j) (place k j 0) (base k j + 256) _ (first-place k j)
            (climbs-to (place k j 0) (place k j (numbers N)) (base k j + 256) _ (last-place k j)
            (values-climb k j (numbers N) x y (omega arith)))

    -- the letters of all kinds
    heard-climb : (b : ℕ) → b ≤ 35 → Climbs 0 (base (b / 5) (b % 5)) (heard_edges t N s wait b)
    unfolding heard_edges
    heard-climb zero l = unfold Climbs in omega arith
    heard-climb (suc b) l =
        climbs-append 0 (base (b / 5) (b % 5)) (base (suc b / 5) (suc b % 5)) _ _ (heard-climb b (omega arith))
        (climbs-to (base (b / 5) (b % 5)) (base (b / 5) (b % 5) + 256) (base (suc b / 5) (suc b % 5)) _
        (next-base b) (block-climbs (b / 5) (b % 5) (omega arith) (omega arith)))

    pub heard-climbs : Climbs 0 134217728 (heard_edges t N s wait 35)
    heard-climbs = climbs-to 0 (base 7 0) 134217728 _ (omega arith) (heard-climb 35 (omega arith))
