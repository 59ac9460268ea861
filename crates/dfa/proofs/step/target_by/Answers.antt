-- What `target_by` gives is what `look` says, case by case.
use native.Mathlib.Omega.{arith}
use mathlib.Core.Path.{sym, ◌∙◌}
use Rattle.dfa.proofs.laws.Look.{look_at, look-before}
use Rattle.dfa.proofs.step.target_by.Goals as goal

pub returns-then-end-i : goal.returns-then-end-i
returns-then-end-i c = sym (look-before _ _ _ _ _ c.requires.0 (λ h. absurd (omega arith)))

pub returns-then-at-m : goal.returns-then-at-m
returns-then-at-m c = c.at-then-at-m.ensures ∙ sym (look_at _ _ _ _ _ (omega arith) (sym c.at.ensures
    ∙ c.if-at-m.true))

pub returns : goal.returns
returns c = sym (look-before _ _ _ _ _ c.requires.0
    (λ h. let z = c.requires.1.1 h in
    omega (arith, c.at.ensures, c.if-at-m.false)))
