-- How many edges a state that waits has at most.
use mathlib.Core.Bool.{Bool, true, false}
use mathlib.Core.List.{List, [], ◌∷◌}
use Prim.Native.Nat.{ℕ, zero, suc, ◌+◌, ◌/◌, ◌%◌, ◌≤◌, ◌<◌}
use native.Mathlib.Omega.{arith}
use native.Mathlib.Decide.{dec_lt}
use lib.ListN.{length, length-append}
use lib.Dec.{eqb, leb, ltb}
use borrow.Author.Tests.{le-leb, lt-leb, le-ltb, lt-ltb}
use Rattle.language.specs.declared.Numbers.{Numbers}
use Rattle.language.specs.Choice.{pick}
use Rattle.language.specs.Number.{numbers}
use Rattle.language.specs.Order.{code_at}
use Rattle.language.proofs.OrderLaws.{count_below, few-below}
use Rattle.states_words.specs.declared.Wait.{Wait}
use Rattle.states_path.specs.declared.Site.{Site}
use Rattle.states_words.specs.inner.Moves.{limit_of, edge_by, value_edge, value_edges, block_edges}
use Rattle.states_words.specs.inner.Moves.{heard_edges}
use Rattle.states_words.proofs.Heard.{kinds}
use Rattle.states_words.proofs.HeardEdges.{candidate}

module _ (t : List ℕ) (N : Numbers) (s : Site) (wait : Wait) where
  -- by the first values
  value-length : (k j c r : ℕ) → length (value_edge t N s wait k j c r) ≤ pick (ltb (code_at N r) c) 1 0
  unfolding value_edge
  value-length k j c r = cases (dec_lt (code_at N r) c)
    where
      cases : Dec (code_at N r < c) →
          length (pick (leb c (code_at N r)) [] (edge_by t N s wait.state (candidate N wait k j r) ∷ [])) ≤
          pick (ltb (code_at N r) c) 1 0
      cases (yes l) = rw (lt-leb c (code_at N r) l, lt-ltb (code_at N r) c l) (omega arith)
      cases (no l) = rw (le-leb c (code_at N r) (omega arith), le-ltb (code_at N r) c (omega arith)) (omega arith)

  values_length : (k j c r : ℕ) → length (value_edges t N s wait k j c r) ≤ count_below N c r
  unfolding value_edges count_below
  values_length k j c zero = omega arith
  values_length k j c (suc r) =
      rw (length-append (value_edges t N s wait k j c r) (value_edge t N s wait k j c r))
      (omega (arith, values_length k j c r, value-length k j c r))

  block-length : (k j : ℕ) → length (block_edges t N s wait k j) ≤ limit_of t wait k j
  unfolding block_edges
  block-length k j = cases (eqb (limit_of t wait k j) 0)
    where
      cases : (b : Bool) →
          length (pick b [] (value_edges t N s wait k j (limit_of t wait k j) (numbers N))) ≤ limit_of t wait k j
      cases true = omega arith
      cases false =
          omega (arith, values_length k j (limit_of t wait k j) (numbers N), few-below N (limit_of t wait k j))

  -- the sum of the limits of the first b pairs
  unfoldable limits : ℕ → ℕ
  limits zero = 0
  limits (suc b) = limits b + limit_of t wait (b / 5) (b % 5)

  heard-length : (b : ℕ) → length (heard_edges t N s wait b) ≤ limits b
  unfolding heard_edges limits
  heard-length zero = omega arith
  heard-length (suc b) =
      rw (length-append (heard_edges t N s wait b) (block_edges t N s wait (b / 5) (b % 5)))
      (omega (arith, heard-length b, block-length (b / 5) (b % 5)))

  pub heard-few : length (heard_edges t N s wait 35) ≤
      kinds (λ k. limit_of t wait k 0) + (kinds (λ k. limit_of t wait k 1) + kinds (λ k. limit_of t wait k 2)
      + kinds (λ k. limit_of t wait k 3) + kinds (λ k. limit_of t wait k 4))
  unfolding limits
  heard-few = omega (arith, heard-length 35)
