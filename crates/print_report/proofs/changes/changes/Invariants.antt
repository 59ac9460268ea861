use Prim.Native.Nat.{◌-◌}
use mathlib.Core.Path.{◌≡◌}
use Rattle.print_text.specs.Page.{page, pushes}
use Rattle.print_report.specs.Changes.{changes_text}
use Rattle.print_report.proofs.changes.changes.Given as goal

abbrev pub invariant-loop-i : goal.invariant-loop-i
invariant-loop-i l =
    pushes (changes_text (l.count - l.i) l.i l.list) (page l.out l.next) ≡ pushes (changes_text l.count 0 l.list) (page l.initial.out l.at)
