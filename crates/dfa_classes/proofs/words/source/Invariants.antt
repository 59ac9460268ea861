use Prim.Native.Nat.{◌*◌, ◌+◌, ◌-◌, ◌<◌, ◌≤◌}
use lib.ListN.{get_or}
use Rattle.dfa_classes.proofs.words.source.Given as goal

abbrev pub invariant-loop-low : goal.invariant-loop-low
invariant-loop-low l = (l.low < l.high) × ((l.high ≤ l.n) × ((get_or l.words (5 * l.n + l.low) 0 ≤ l.e)
    × (l.e < get_or l.words (5 * l.n + l.high) 0)))

abbrev pub decreases-loop-low : goal.decreases-loop-low
decreases-loop-low l = l.high - l.low
