use native.Mathlib.Omega.{arith}
use mathlib.Core.Path.{refl}
use Rattle.serve_profile.proofs.Leaves.{any_none, any-past, any_here, any-again}
use Rattle.serve_profile.proofs.offence.+any_loud.Goals as goal

pub returns-then-left-eq0 : goal.returns-then-left-eq0
returns-then-left-eq0 t c = any_none _ _ _ _ c.if-left-eq0.true

pub returns-then-end-at : goal.returns-then-end-at
returns-then-end-at t c = any-past _ _ _ _ c.if-left-eq0.false c.if-end-at.true

pub returns-then-word_of-ne-EXPRESSIONS : goal.returns-then-word_of-ne-EXPRESSIONS
returns-then-word_of-ne-EXPRESSIONS t c =
    any_here _ _ _ _ _ c.if-left-eq0.false c.if-end-at.false c.word_of.ensures.0
    (λ e. omega (arith, e, c.if-word_of-ne-EXPRESSIONS.true))

pub returns : goal.returns
returns t c =
    any-again _ _ _ _ _ _ _ _ c.if-left-eq0.false c.if-end-at.false c.word_of.ensures.0
    (omega (arith, c.if-word_of-ne-EXPRESSIONS.false)) c.word_of-next.ensures.0 refl c.any_loud.ensures
