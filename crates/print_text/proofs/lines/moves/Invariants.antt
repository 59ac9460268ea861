use Prim.Native.Nat.{◌-◌, ◌≤◌}
use mathlib.Core.Path.{◌≡◌}
use lib.ListN.{length, drop}
use Rattle.print_text.specs.Page.{page, pushes}
use Rattle.print_text.specs.Text.{moves_text}
use Rattle.print_text.proofs.lines.moves.Given as goal

abbrev pub invariant-loop : goal.invariant-loop
invariant-loop l = (l.place ≤ length l.s) × (pushes (moves_text (l.count - l.counter) (drop l.place l.s)) (page l.out l.next) ≡
    pushes (moves_text l.count l.s) (page l.initial.out l.at))
