use Prim.Native.Nat.{◌+◌, ◌*◌}
use Rattle.term_expand.proofs.Turns.{Led}
use Rattle.term_expand.proofs.expand.+expand.Given as goal

abbrev pub decreases-enter : goal.decreases-enter
decreases-enter l = 8 * l.left + 4

abbrev pub decreases-expand : goal.decreases-expand
decreases-expand l = 8 * l.left + 1

abbrev pub decreases-expand_own : goal.decreases-expand_own
decreases-expand_own l = 8 * l.left

abbrev pub decreases-expand_part : goal.decreases-expand_part
decreases-expand_part l = 8 * l.left + 2

abbrev pub decreases-expand_parts : goal.decreases-expand_parts
decreases-expand_parts l = 8 * l.left + 3

abbrev pub decreases-expand_record : goal.decreases-expand_record
decreases-expand_record l = 8 * l.left + 5

abbrev pub decreases-expand_row : goal.decreases-expand_row
decreases-expand_row l = 8 * l.left + 4

abbrev pub invariant-expand_own-loop-turns : goal.invariant-expand_own-loop-turns
invariant-expand_own-loop-turns l =
    Led l.t l.marks l.slots l.level l.left l.at l.initial.rows l.n l.own l.rows l.around l.turns l.here l.made
