use Rattle.dfa_search.specs.Trace.{Spells}
use Rattle.dfa_search.proofs.word.spell.Given as goal

abbrev pub invariant-loop-i : goal.invariant-loop-i
invariant-loop-i l = Spells l.n l.k l.d l.initial.words l.words l.i l.e
