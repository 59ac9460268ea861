use mathlib.Core.Path.{◌≡◌}
use Rattle.weight_theory.specs.Stack.{cleared}
use Rattle.weight_forms.proofs.words.clear.Given as goal

abbrev pub invariant-loop-i : goal.invariant-loop-i
invariant-loop-i l = l.t ≡ cleared l.at l.i l.initial.t
