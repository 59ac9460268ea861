-- The edges of a state that waits are those of the candidates below their limits.
use mathlib.Core.Path.{◌≡◌, refl}
use mathlib.Core.Bool.{Bool, true, false}
use mathlib.Core.List.{List, [], ◌∷◌}
use Prim.Native.Nat.{ℕ, zero, suc, ◌+◌, ◌*◌, ◌/◌, ◌%◌, ◌≤◌, ◌<◌}
use native.Mathlib.Omega.{arith}
use native.Mathlib.Decide.{dec_lt}
use lib.Dec.{eqb, leb}
use borrow.Author.Tests.{lt-leb, leb-false, ne_eqb}
use Rattle.language.specs.declared.Numbers.{Numbers}
use Rattle.language.specs.Choice.{pick}
use Rattle.language.specs.Number.{numbers}
use Rattle.states_positions.specs.declared.Move.{Move as Record}
use Rattle.states_words.specs.declared.Wait.{Wait}
use Rattle.states_path.specs.declared.Site.{Site}
use Rattle.states_words.specs.inner.Rows.{Edge}
use Rattle.language.specs.Order.{code_at}
use Rattle.states_words.specs.inner.Moves.{limit_of, edge_by, value_edge, value_edges, block_edges}
use Rattle.states_words.specs.inner.Moves.{heard_edges}
use Rattle.states_words.proofs.EdgeLists.{Each, each_append, each-front, each_back}

-- the move of a kind at an argument, by the value of number r
abbrev pub candidate : Numbers → Wait → ℕ → ℕ → ℕ → Record
candidate N wait k j r = record { kind = k; id = wait.id; arg = j; value = code_at N r }

module _ (t : List ℕ) (N : Numbers) (s : Site) (wait : Wait) where
  abbrev Candidate : (Edge → Type 0) → ℕ → ℕ → ℕ → Type 0
  Candidate P k j r = P (edge_by t N s wait.state (candidate N wait k j r))

  -- what holds of the edges of all candidates below their limits holds of each edge
  module _ (P : Edge → Type 0) where
    each-value : (k j c r : ℕ) → (code_at N r < c → Candidate P k j r) → Each P (value_edge t N s wait k j c r)
    unfolding value_edge
    each-value k j c r h = cases (leb c (code_at N r)) refl
      where
        cases : (b : Bool) → leb c (code_at N r) ≡ b →
            Each P (pick b [] (edge_by t N s wait.state (candidate N wait k j r) ∷ []))
        cases true e = unfold Each in tt
        cases false e = unfold Each in (h (leb-false c (code_at N r) e), tt)

    each-values : (k j c : ℕ) → ((r : ℕ) → r < numbers N → code_at N r < c → Candidate P k j r) →
        (r : ℕ) → r ≤ numbers N → Each P (value_edges t N s wait k j c r)
    unfolding value_edges
    each-values k j c h zero l = unfold Each in tt
    each-values k j c h (suc r) l =
        each_append P _ _ (each-values k j c h r (omega arith)) (each-value k j c r (h r l))

    each-block : (k j : ℕ) → ((r : ℕ) → r < numbers N → code_at N r < limit_of t wait k j → Candidate P k j r) →
        Each P (block_edges t N s wait k j)
    unfolding block_edges
    each-block k j h = cases (eqb (limit_of t wait k j) 0)
      where
        cases : (b : Bool) → Each P (pick b [] (value_edges t N s wait k j (limit_of t wait k j) (numbers N)))
        cases true = unfold Each in tt
        cases false = each-values k j (limit_of t wait k j) h (numbers N) (omega arith)

    pub each-heard : ((k j r : ℕ) → k < 7 → j < 5 → r < numbers N → code_at N r < limit_of t wait k j →
        Candidate P k j r) → (b : ℕ) → b ≤ 35 → Each P (heard_edges t N s wait b)
    unfolding heard_edges
    each-heard h zero l = unfold Each in tt
    each-heard h (suc b) l =
        each_append P _ _ (each-heard h b (omega arith))
        (each-block (b / 5) (b % 5) (λ r x y. h (b / 5) (b % 5) r (omega arith) (omega arith) x y))

    -- and what holds of each edge holds of each candidate below its limit
    of-value : (k j c r : ℕ) → code_at N r < c → Each P (value_edge t N s wait k j c r) → Candidate P k j r
    unfolding value_edge Each
    of-value k j c r l h = (rw (lt-leb c (code_at N r) l) at h).0

    of_values : (k j c r : ℕ) → code_at N r < c → (n : ℕ) → r < n → Each P (value_edges t N s wait k j c n) →
        Candidate P k j r
    unfolding value_edges
    of_values k j c r l zero x h = absurd (omega arith)
    of_values k j c r l (suc n) x h = cases (λ y z. of_values k j c r l n y z) (dec_lt r n)
      where
        last : r ≡ n → Candidate P k j r
        last e = of-value k j c r l (rw (← e) at (each_back P (value_edges t N s wait k j c n) _ h))

        cases : (r < n → Each P (value_edges t N s wait k j c n) → Candidate P k j r) → Dec (r < n) → Candidate P k j r
        cases rec (yes y) = rec y (each-front P _ (value_edge t N s wait k j c n) h)
        cases rec (no y) = last (omega arith)

    of-block : (k j r : ℕ) → r < numbers N → code_at N r < limit_of t wait k j → Each P (block_edges t N s wait k j) →
        Candidate P k j r
    unfolding block_edges
    of-block k j r x l h =
        of_values k j (limit_of t wait k j) r l (numbers N) x
        (rw (ne_eqb (limit_of t wait k j) 0 (omega arith)) at h)

    pub of-heard : (k j r : ℕ) → j < 5 → r < numbers N → code_at N r < limit_of t wait k j → (b : ℕ) →
        5 * k + j < b → Each P (heard_edges t N s wait b) → Candidate P k j r
    unfolding heard_edges
    of-heard k j r y x l zero z h = absurd (omega arith)
    of-heard k j r y x l (suc b) z h = cases (λ w v. of-heard k j r y x l b w v) (dec_lt (5 * k + j) b)
      where
        last : b / 5 ≡ k → b % 5 ≡ j → Candidate P k j r
        last e f = of-block k j r x l (rw (e, f) at (each_back P (heard_edges t N s wait b) _ h))

        cases : (5 * k + j < b → Each P (heard_edges t N s wait b) → Candidate P k j r) → Dec (5 * k + j < b) →
            Candidate P k j r
        cases rec (yes w) = rec w (each-front P _ (block_edges t N s wait (b / 5) (b % 5)) h)
        cases rec (no w) = last (omega arith) (omega arith)
