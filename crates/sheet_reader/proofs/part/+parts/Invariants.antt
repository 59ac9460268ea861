use Prim.Native.Nat.{◌+◌, ◌*◌}
use Rattle.sheet_reader.proofs.part.+parts.Given as goal

abbrev pub decreases-read_block : goal.decreases-read_block
decreases-read_block l = l.left * 2048 + 600

abbrev pub decreases-read_next : goal.decreases-read_next
decreases-read_next l = l.left * 2048 + 2 * l.count

abbrev pub decreases-read_part : goal.decreases-read_part
decreases-read_part l = l.left * 2048

abbrev pub decreases-read_parts : goal.decreases-read_parts
decreases-read_parts l = l.left * 2048 + 2 * l.count + 1

abbrev pub decreases-read_record : goal.decreases-read_record
decreases-read_record l = l.left * 2048 + 700

abbrev pub decreases-read_routine : goal.decreases-read_routine
decreases-read_routine l = l.left * 2048 + 600

abbrev pub decreases-read_scope : goal.decreases-read_scope
decreases-read_scope l = l.left * 2048 + 650

abbrev pub decreases-read_usable : goal.decreases-read_usable
decreases-read_usable l = l.left * 2048 + 550
