use Rattle.dfa_silent.specs.inner.Settle.{Replacing, unlike}
use Rattle.dfa_silent.proofs.paths.replace.Given as goal

abbrev pub invariant-loop-words : goal.invariant-loop-words
invariant-loop-words l = Replacing l.n l.p l.old l.new l.x l.initial.words l.words

abbrev pub decreases-loop-words : goal.decreases-loop-words
decreases-loop-words l = unlike l.words l.n l.new l.n
