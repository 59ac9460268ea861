use Rattle.std.proofs.Common.{◌≡◌, ◌-◌}
use Rattle.states_names.specs.Name.{reply_of}
use Rattle.states_names.proofs.name.reply.Given as goal

abbrev pub invariant-loop : goal.invariant-loop
invariant-loop l =
    reply_of l.t l.id l.at l.arg (l.n - l.counter) l.rest l.next ≡ reply_of l.t l.id l.at l.j l.n l.k l.next
