use mathlib.Core.Path.{◌≡◌}
use Rattle.sheet_parts.specs.Scope.{passed}
use Rattle.sheet_parts.proofs.scope.enter_parameters.Given as goal

abbrev pub invariant-loop-j : goal.invariant-loop-j
invariant-loop-j l = l.st ≡ passed l.s l.place l.number l.j l.initial.st
