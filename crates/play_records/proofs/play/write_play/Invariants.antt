use lib.ListN.{take, drop}
use Rattle.play_records.proofs.Written.{Writing}
use Rattle.play_records.proofs.play.write_play.Given as goal

abbrev pub invariant-loop-letter : goal.invariant-loop-letter
invariant-loop-letter l = Writing (take l.len (drop l.base l.words)) l.initial.s l.at l.letter-index l.s
