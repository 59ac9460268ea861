use Rattle.std.proofs.Common.{◌≡◌, ◌-◌}
use Rattle.states_names.specs.Name.{arg_spots}
use Rattle.states_names.proofs.name.spots.Given as goal

abbrev pub invariant-loop-j : goal.invariant-loop-j
invariant-loop-j l = l.all ≡ arg_spots l.t l.at l.j (l.n - l.j)
