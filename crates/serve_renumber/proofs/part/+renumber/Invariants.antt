use Prim.Native.Nat.{◌+◌, ◌*◌}
use Rattle.serve_renumber.proofs.part.+renumber.Given as goal

abbrev pub decreases-renumber_block : goal.decreases-renumber_block
decreases-renumber_block l = l.left * 512 + 1

abbrev pub decreases-renumber_call : goal.decreases-renumber_call
decreases-renumber_call l = l.left * 512 + 300

abbrev pub decreases-renumber_part : goal.decreases-renumber_part
decreases-renumber_part l = l.left * 512

abbrev pub decreases-renumber_parts : goal.decreases-renumber_parts
decreases-renumber_parts l = l.left * 512 + 1 + l.count

abbrev pub decreases-renumber_routine : goal.decreases-renumber_routine
decreases-renumber_routine l = l.left * 512 + 1
