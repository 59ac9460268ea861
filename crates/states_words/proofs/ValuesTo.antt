-- What each turn of the loops over values that one frame leads on adds to the words.
use mathlib.Core.Path.{◌≡◌}
use mathlib.Core.List.{List}
use Prim.Native.Nat.{ℕ, ◌+◌, ◌*◌, ◌%◌, ◌≤◌, ◌<◌}
use native.Mathlib.Omega.{arith}
use native.Mathlib.Nat.{mul-le-mul}
use native.Mathlib.Numerals.{add-one}
use borrow.Author.Tests.{le-leb, lt-leb}
use Rattle.language.specs.declared.Numbers.{Numbers}
use Rattle.language.specs.Number.{numbers}
use Rattle.language.specs.Order.{code_at, rank}
use Rattle.language.proofs.OrderLaws.{code-at-below}
use Rattle.states_positions.specs.Row.{sum_of}
use Rattle.states_words.specs.inner.Rows.{with_edge, with_edges, past}
use Rattle.states_words.specs.inner.Moves.{edge_to, values_to}
use Rattle.states_words.proofs.Loops.{Wrote, wrote_none, wrote-append}

-- a value times a stride is not too large
pub copy-small : (N : Numbers) (r v stride : ℕ) → numbers N < 65536 → r < numbers N → v ≡ code_at N r → stride < 65536 →
    v * stride ≤ 65535 * 65535
copy-small N r v stride few h c l =
    omega (
      arith,
      mul-le-mul {n₁ = v} {m₁ = stride} {n₂ = 65535} {m₂ = 65535} (omega (arith, code-at-below N r h))
          (omega arith),
    )

-- a turn: no edge, or one
module _ (N : Numbers) (n place below : ℕ) (to : ℕ → ℕ) where
  pub to-first : (e : ℕ) (ws : List ℕ) → Wrote ws n e (values_to N place below to 0) e ws
  unfolding values_to
  to-first e ws = wrote_none ws n e

  pub to_none : (r e e' v : ℕ) (ws ws' : List ℕ) → Wrote ws n e (values_to N place below to r) e' ws' →
      v ≡ code_at N r → below ≤ v → Wrote ws n e (values_to N place below to (r + 1)) e' ws'
  unfolding values_to edge_to
  to_none r e e' v ws ws' a c h =
      rw (add-one) (wrote-append _ _ a (rw (le-leb below (code_at N r) (omega (arith, c))) (wrote_none ws' n e')))

  pub to_some : (r e e' e'' v k letter target : ℕ) (ws ws' ws'' : List ℕ) →
      Wrote ws n e (values_to N place below to r) e' ws' → v ≡ code_at N r → v < below → k ≡ rank N (v % 65536) →
      letter ≡ place + k → target ≡ to v → ws'' ≡ with_edge ws' n e' letter target → e'' ≡ sum_of e' 1 →
      Wrote ws n e (values_to N place below to (r + 1)) e'' ws''
  unfolding values_to edge_to past with_edges
  to_some r e e' e'' v k letter target ws ws' ws'' a c h q l g w x =
      rw (add-one) (wrote-append _ _ a one)
    where
      one : Wrote ws' n e' (edge_to N place below to r) e'' ws''
      one = rw (lt-leb below (code_at N r) (omega (arith, c)), ← c, ← q, ← l, ← g)
          (record { returned = x; written = w })
