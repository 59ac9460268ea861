-- `past` keeps what `Past` says.
use native.Mathlib.Omega.{arith}
use mathlib.Core.Path.{sym, ◌∙◌}
use Rattle.dfa.proofs.laws.Look.{past-hit, past-stay}
use Rattle.dfa.proofs.step.past.Goals as goal

pub returns-then-end-i : goal.returns-then-end-i
returns-then-end-i c = past-stay _ _ _ _ _ c.requires.0 (λ h. absurd (omega arith))

pub returns-then-at-m : goal.returns-then-at-m
returns-then-at-m c = past-hit _ _ _ _ _ c.requires.0 (omega arith)
    (sym c.at.ensures ∙ c.if-at-m.true)

pub returns : goal.returns
returns c = past-stay _ _ _ _ _ c.requires.0
    (λ h. let z = c.requires.1 h in omega (arith, c.at.ensures, c.if-at-m.false))
