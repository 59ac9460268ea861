use mathlib.Core.Path.{◌≡◌}
use Rattle.weight_theory.specs.Stack.{summed}
use Rattle.weight_forms.proofs.sum.add_words.Given as goal

abbrev pub invariant-loop-i : goal.invariant-loop-i
invariant-loop-i l = l.t ≡ summed l.to l.from l.factor l.i l.initial.t
