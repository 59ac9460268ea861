-- Nodes and depth of a well-typed term, by its weight: a term of weight w has at most 3w - 1 nodes, one of variable
-- type 3w - 2, and depth at most (3w + 1) / 2, so 2w.
use Prim.Native.Nat.{ℕ, ◌+◌, ◌*◌, ◌≤◌, ◌<◌}
use native.Mathlib.Omega.{arith}
use native.Mathlib.Nat.{mul-le-mul_right}
use mathlib.Core.List.{List}
use Rattle.language.specs.Ty.{Ty, command, expression, variable, questions}
use Rattle.language.specs.Term.{Term, skip, diverge, const, private, name, fetch, operate, assign, seq, while}
use Rattle.language.specs.Term.{cond, new, Args, no_args, arg}
use Rattle.language.specs.Typing.{operands, Typed, a_skip, a_diverge, a_const, a_private, a_name}
use Rattle.language.specs.Typing.{a_fetch, an_operate, an_assign, a_seq, a_while, a_cond, a_new, TypedArgs, no_more}
use Rattle.language.specs.Typing.{one_more}
use Rattle.language.specs.Weight.{weight, weight_args}
use Rattle.sheet_written.specs.Nodes.{nodes, nodes_args, deep, deep_args, Valued, ValuedArgs, spare, slack}
use Rattle.sheet_written.proofs.Factors.{some-question}

-- a product is at least its second factor, and twice that
single : (m w : ℕ) → 0 < m → w ≤ m * w
single m w h = omega (arith, mul-le-mul_right w h)

twice : (m w : ℕ) → 2 ≤ m → w + w ≤ m * w
twice m w h = omega (arith, mul-le-mul_right w h)

spare-most : (T : Ty) → spare T ≤ 2
unfolding spare
spare-most command = omega arith
spare-most (expression m) = omega arith
spare-most (variable m) = omega arith

pub slack-least : (T : Ty) → (1 ≤ slack T) × (slack T ≤ 3)
unfolding slack
slack-least command = (omega arith, omega arith)
slack-least (expression m) = (omega arith, omega arith)
slack-least (variable m) = (omega arith, omega arith)

spare-least : (T : Ty) → 1 ≤ spare T
unfolding spare
spare-least command = omega arith
spare-least (expression m) = omega arith
spare-least (variable m) = omega arith

-- a term weighs something
pub heavy : (M : Term) → Valued M → 0 < weight M
unfolding weight Valued
heavy skip v = omega arith
heavy diverge v = omega arith
heavy (const x) v = omega arith
heavy (private i) v = omega arith
heavy (name i o T args) v = omega arith
heavy (fetch X) v = heavy X v
heavy (operate m o L R) v = omega (arith, heavy L v.1)
heavy (assign m X E) v = omega (arith, heavy E v.2)
heavy (seq C M) v = omega (arith, heavy C v.0)
heavy (while B C) v = omega (arith, heavy B v.0)
heavy (cond B M N) v = omega (arith, heavy B v.0)
heavy (new m h C) v = omega (arith, heavy C v.1, twice m (weight C) v.0)

-- THEOREM: nodes
mutual
  unfolding nodes nodes_args weight weight_args Valued ValuedArgs spare

  pub few-nodes : (M : Term) {n : List ℕ} {T : Ty} → Typed n M T → Valued M → nodes M + spare T ≤ 3 * weight M
  few-nodes skip a_skip v = omega arith
  few-nodes diverge (a_diverge {T = T}) v = omega (arith, spare-most T)
  few-nodes (const x) (a_const h) v = omega arith
  few-nodes (private i) (a_private s) v = omega arith
  few-nodes (name i o T args) (a_name a) v = omega (arith, few-nodes-args args a v, spare-most T)
  few-nodes (fetch X) (a_fetch x) v = omega (arith, few-nodes X x v)
  few-nodes (operate m o L R) (an_operate x y) v =
      omega (arith, few-nodes L x v.1, few-nodes R y v.2, single (operands o) (weight R) v.0)
  few-nodes (assign m X E) (an_assign x y) v =
      omega (arith, few-nodes X x v.1, few-nodes E y v.2, single m (weight X) v.0)
  few-nodes (seq C M) (a_seq x y) v = omega (arith, few-nodes C x v.0, few-nodes M y v.1)
  few-nodes (while B C) (a_while x y) v = omega (arith, few-nodes B x v.0, few-nodes C y v.1)
  few-nodes (cond B M N) (a_cond b x y) v =
      omega (arith, few-nodes B b v.0, few-nodes M x v.1, few-nodes N y v.2)
  few-nodes (new m h C) (a_new x) v = omega (arith, few-nodes C x v.1, twice m (weight C) v.0, heavy C v.1)

  few-nodes-args : (args : Args) {n : List ℕ} → TypedArgs n args → ValuedArgs args →
      nodes_args args ≤ 3 * weight_args args
  few-nodes-args no_args no_more v = omega arith
  few-nodes-args (arg T M args) (one_more x a) v =
      omega (
        arith,
        few-nodes M x v.0,
        few-nodes-args args a v.1,
        single (questions T) (weight M) (some-question T),
      )

-- THEOREM: depth
mutual
  unfolding deep deep_args weight weight_args Valued ValuedArgs slack

  pub not-deep : (M : Term) {n : List ℕ} {T : Ty} → Typed n M T → Valued M → 2 * deep M + 2 ≤ 3 * weight M + slack T
  not-deep skip a_skip v = omega arith
  not-deep diverge (a_diverge {T = T}) v = omega (arith, (slack-least T).0)
  not-deep (const x) (a_const h) v = omega arith
  not-deep (private i) (a_private s) v = omega arith
  not-deep (name i o T args) (a_name a) v = omega (arith, not-deep-args args a v, (slack-least T).0)
  not-deep (fetch X) (a_fetch x) v = omega (arith, not-deep X x v)
  not-deep (operate m o L R) (an_operate x y) v =
      omega (
        arith,
        not-deep L x v.1,
        not-deep R y v.2,
        single (operands o) (weight R) v.0,
        heavy R v.2,
        heavy L v.1,
      )
  not-deep (assign m X E) (an_assign x y) v =
      omega (
        arith,
        not-deep X x v.1,
        not-deep E y v.2,
        single m (weight X) v.0,
        heavy X v.1,
        heavy E v.2,
      )
  not-deep (seq C M) (a_seq {T = T} x y) v =
      omega (arith, not-deep C x v.0, not-deep M y v.1, heavy C v.0, heavy M v.1, (slack-least T).0)
  not-deep (while B C) (a_while x y) v =
      omega (arith, not-deep B x v.0, not-deep C y v.1, heavy B v.0, heavy C v.1)
  not-deep (cond B M N) (a_cond {T = T} b x y) v =
      omega (
        arith,
        not-deep B b v.0,
        not-deep M x v.1,
        not-deep N y v.2,
        heavy B v.0,
        heavy M v.1,
        heavy N v.2,
        (slack-least T).0,
      )
  not-deep (new m h C) (a_new x) v = omega (arith, not-deep C x v.1, twice m (weight C) v.0, heavy C v.1)

  not-deep-args : (args : Args) {n : List ℕ} → TypedArgs n args → ValuedArgs args →
      2 * deep_args args ≤ 3 * weight_args args + 1
  not-deep-args no_args no_more v = omega arith
  not-deep-args (arg T M args) (one_more x a) v =
      omega (
        arith,
        not-deep M x v.0,
        not-deep-args args a v.1,
        single (questions T) (weight M) (some-question T),
        (slack-least T).1,
      )

-- in the words of the design: at most 3w - 1 nodes, at most 2w deep
pub nodes-bound : (M : Term) {n : List ℕ} {T : Ty} → Typed n M T → Valued M → nodes M + 1 ≤ 3 * weight M
nodes-bound M {T = T} x v = omega (arith, few-nodes M x v, spare-least T)
