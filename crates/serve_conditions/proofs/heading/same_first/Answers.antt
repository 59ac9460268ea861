-- What `same_first` gives is what `same_first` says, case by case.
use native.Mathlib.Omega.{arith}
use mathlib.Core.Path.{sym, ◌∙◌}
use Rattle.serve_conditions.proofs.Headings.{same-differ, same-all}
use Rattle.serve_conditions.proofs.heading.same_first.Goals as goal

pub returns-then-get_or : goal.returns-then-get_or
returns-then-get_or c =
    same-differ _ _ _ _ c.loop-i-test.true (λ e. c.if-get_or.true (c.get_or.ensures ∙ e ∙ sym c.get_or-in-loop-i.ensures))

pub returns : goal.returns
returns c = same-all _ _ _ (λ k h. c.loop-i.invariant k (omega arith))
