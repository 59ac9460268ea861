-- Where no number can be too large the words of an edge and of a state's head stand where plain sums say.
use mathlib.Core.Path.{◌≡◌, refl, sym, subst, ◌∙◌, ap}
use mathlib.Core.List.{List}
use Prim.Native.Nat.{ℕ, ◌+◌, ◌*◌, ◌<◌, ◌%◌}
use native.Mathlib.Omega.{arith}
use lib.ListN.{length, length-set}
use Rattle.states_positions.specs.Row.{sum_of, SHORTS, LONGS}
use Rattle.states_step.proofs.Sums.{sum-small, mul_add_small}
use Rattle.states_words.specs.inner.Rows.{FIRSTS, EDGES, held, edge_at, with_edge, with_head}

-- twice a number below this, and all that is before the edges of fewer than 65,536 states, are no number too large
abbrev pub PLAIN : ℕ
PLAIN = 536870912

-- the place of edge e
pub edge-plain : (n e : ℕ) → n < SHORTS → e < PLAIN → edge_at n e ≡ EDGES * n + 1 + 2 * e
unfolding edge_at
edge-plain n e h k =
    ap (λ x. sum_of x (sum_of e e)) (mul_add_small EDGES n 1 (omega arith) h (omega arith))
    ∙ ap (λ x. sum_of (EDGES * n + 1) x) (sum-small e e (omega arith))
    ∙ sum-small (EDGES * n + 1) (e + e) (omega arith) ∙ omega arith

-- a word that there is stays one when another is written
pub still-there : (ws ws' : List ℕ) (i j v : ℕ) → j < length ws → ws' ≡ held ws i v → j < length ws'
still-there ws ws' i j v h e = subst (λ l. j < l) (sym (ap length e ∙ length-set ws i (v % LONGS))) h

pub edge-stored : (ws ws' ws'' : List ℕ) (n e letter target : ℕ) → n < SHORTS → e < PLAIN
    → ws' ≡ held ws (EDGES * n + 1 + 2 * e) letter → ws'' ≡ held ws' (EDGES * n + 1 + 2 * e + 1) target
    → ws'' ≡ with_edge ws n e letter target
unfolding with_edge
edge-stored ws ws' ws'' n e letter target h k first second = second
    ∙ ap (λ w. held w (EDGES * n + 1 + 2 * e + 1) target) first
    ∙ sym (rw (edge-plain n e h k, sum-small (EDGES * n + 1 + 2 * e) 1 (omega arith)) refl)

-- the head of the state p
pub head-stored : (ws ws' ws'' : List ℕ) (n p e silent : ℕ) → n < SHORTS → p < PLAIN
    → ws' ≡ held ws p silent → ws'' ≡ held ws' (FIRSTS * n + p) e → ws'' ≡ with_head ws n p e silent
unfolding with_head
head-stored ws ws' ws'' n p e silent h k first second = second ∙ ap (λ w. held w (FIRSTS * n + p) e) first
    ∙ sym (rw (mul_add_small FIRSTS n p (omega arith) h (omega arith)) refl)
