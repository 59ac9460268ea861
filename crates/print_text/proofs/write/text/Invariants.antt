use mathlib.Core.Path.{◌≡◌}
use lib.ListN.{take}
use Rattle.print_text.specs.Page.{page, pushes}
use Rattle.print_text.proofs.write.text.Given as goal

abbrev pub invariant-loop-v : goal.invariant-loop-v
invariant-loop-v l = page l.out l.next ≡ pushes (take l.v-index l.bytes) (page l.initial.out l.at)
