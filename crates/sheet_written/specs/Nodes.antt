-- The nodes of a term, its depth, and that its data have values enough: what bounds the rows and levels of a sheet with
-- procedures (document 02 [1]).
use Rattle.std.specs.Prelude.{ℕ, ◌+◌, ◌≤◌, ◌<◌, max}
use Rattle.language.specs.Ty.{Ty, command, expression, variable}
use Rattle.language.specs.Term.{Term, skip, diverge, const, private, name, fetch, operate, assign, seq, while}
use Rattle.language.specs.Term.{cond, new, Args, no_args, arg}

unfoldable mutual
  pub nodes : Term → ℕ
  nodes skip = 1
  nodes diverge = 1
  nodes (const v) = 1
  nodes (private i) = 1
  nodes (name i o T args) = 1 + nodes_args args
  nodes (fetch X) = 1 + nodes X
  nodes (operate m o L R) = 1 + nodes L + nodes R
  nodes (assign m X E) = 1 + nodes X + nodes E
  nodes (seq C M) = 1 + nodes C + nodes M
  nodes (while B C) = 1 + nodes B + nodes C
  nodes (cond B M N) = 1 + nodes B + nodes M + nodes N
  nodes (new m h C) = 1 + nodes C

  pub nodes_args : Args → ℕ
  nodes_args no_args = 0
  nodes_args (arg T M args) = nodes M + nodes_args args

unfoldable mutual
  pub deep : Term → ℕ
  deep skip = 1
  deep diverge = 1
  deep (const v) = 1
  deep (private i) = 1
  deep (name i o T args) = 1 + deep_args args
  deep (fetch X) = 1 + deep X
  deep (operate m o L R) = 1 + max (deep L) (deep R)
  deep (assign m X E) = 1 + max (deep X) (deep E)
  deep (seq C M) = 1 + max (deep C) (deep M)
  deep (while B C) = 1 + max (deep B) (deep C)
  deep (cond B M N) = 1 + max (deep B) (max (deep M) (deep N))
  deep (new m h C) = 1 + deep C

  pub deep_args : Args → ℕ
  deep_args no_args = 0
  deep_args (arg T M args) = max (deep M) (deep_args args)

-- operands and variables have a value, private variables two: so it is in every sheet
unfoldable mutual
  pub Valued : Term → Type 0
  Valued skip = Unit
  Valued diverge = Unit
  Valued (const v) = Unit
  Valued (private i) = Unit
  Valued (name i o T args) = ValuedArgs args
  Valued (fetch X) = Valued X
  Valued (operate m o L R) = (0 < m) × Valued L × Valued R
  Valued (assign m X E) = (0 < m) × Valued X × Valued E
  Valued (seq C M) = Valued C × Valued M
  Valued (while B C) = Valued B × Valued C
  Valued (cond B M N) = Valued B × Valued M × Valued N
  Valued (new m h C) = (2 ≤ m) × Valued C

  pub ValuedArgs : Args → Type 0
  ValuedArgs no_args = Unit
  ValuedArgs (arg T M args) = Valued M × ValuedArgs args

-- what 3 times the weight has over the nodes
unfoldable pub spare : Ty → ℕ
spare command = 1
spare (expression m) = 1
spare (variable m) = 2

-- what twice the depth, and 2 more, may have over 3 times the weight
unfoldable pub slack : Ty → ℕ
slack command = 2
slack (expression m) = 3
slack (variable m) = 1
