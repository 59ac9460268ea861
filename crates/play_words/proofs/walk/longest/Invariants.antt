use Rattle.play_words.proofs.SearchingPlays.{Searched}
use Rattle.play_words.proofs.walk.longest.Given as goal

abbrev pub invariant-loop-i : goal.invariant-loop-i
invariant-loop-i l = Searched l.n l.words l.play l.total l.p l.at l.i l.count
