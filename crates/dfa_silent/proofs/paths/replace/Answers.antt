-- `replace` keeps what `Replacing` says.
use native.Mathlib.Omega.{arith}
use mathlib.Core.Path.{sym, ◌∙◌}
use Rattle.dfa_silent.proofs.laws.Replace.{replace-first, replace-only, replace-less, replace-again}
use Rattle.dfa_silent.proofs.paths.replace.Goals as goal

pub loop-words-init : goal.loop-words-init
loop-words-init c = replace-first _ _ _ _ _ c.requires.1.0

pub overflow_add-n : goal.overflow_add-n
overflow_add-n c = omega (arith, c.requires.0.few, c.loop-words.invariant.below)

pub at-requires : goal.at-requires
at-requires c = omega (
  arith,
  c.requires.0.room,
  c.loop-words.invariant.below,
  c.loop-words.invariant.only.len,
)

pub overflow_add-n-in-loop-words : goal.overflow_add-n-in-loop-words
overflow_add-n-in-loop-words c = omega (
  arith,
  c.requires.0.few,
  c.loop-words.invariant.below,
)

pub put-requires : goal.put-requires
put-requires c = (
  omega (
    arith,
    c.requires.0.room,
    c.loop-words.invariant.below,
    c.loop-words.invariant.only.len,
  ),
  c.requires.1.1.1,
)

pub silent_step-x-requires : goal.silent_step-x-requires
silent_step-x-requires c = let l = replace-only _ _ _ _ _ _ _ _
    c.requires.0
    c.requires.1.1.0
    c.loop-words.invariant (sym
    c.at.ensures ∙
    c.loop-words-test.true) c.put.ensures in omega (
      arith,
      c.requires.0.room,
      c.loop-words.invariant.below,
      l.len,
    )

pub loop-words-smaller : goal.loop-words-smaller
loop-words-smaller c = replace-less _ _ _ _ _ _ _ _
    c.requires.0
    c.requires.1.1.0
    c.loop-words.invariant (sym
    c.at.ensures ∙
    c.loop-words-test.true) c.put.ensures

pub loop-words-preserved : goal.loop-words-preserved
loop-words-preserved c = replace-again _ _ _ _ _ _ _ _
    c.requires.0
    c.requires.1.1.0
    c.loop-words.invariant (sym
    c.at.ensures ∙
    c.loop-words-test.true) c.put.ensures _
    c.silent_step-x.ensures

pub shape_of-words : goal.shape_of-words
shape_of-words c = c.loop-words.invariant.only.len

pub returns : goal.returns
returns c = (c.loop-words.invariant, λ e. c.loop-words-test.false (c.at.ensures ∙ e))
