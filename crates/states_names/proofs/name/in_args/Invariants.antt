use Rattle.std.proofs.Common.{◌≡◌, ◌-◌}
use Rattle.states_names.specs.Name.{in_args}
use Rattle.states_names.proofs.name.in_args.Given as goal

abbrev pub invariant-loop : goal.invariant-loop
invariant-loop l =
    in_args l.t l.at l.arg (l.n - l.counter) l.rest l.start l.replies ≡ in_args l.t l.at l.j l.n l.k l.base l.after
