use mathlib.Core.Path.{◌≡◌}
use Rattle.weight_theory.specs.Stack.{copied}
use Rattle.weight_forms.proofs.words.copy.Given as goal

abbrev pub invariant-loop-i : goal.invariant-loop-i
invariant-loop-i l = l.t ≡ copied l.to l.from l.i l.initial.t
