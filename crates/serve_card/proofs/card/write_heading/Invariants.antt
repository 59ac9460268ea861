use Rattle.serve_card.proofs.Heading.{Headed}
use Rattle.serve_card.proofs.card.write_heading.Given as goal

abbrev pub invariant-loop-i : goal.invariant-loop-i
invariant-loop-i l = Headed l.sheet l.initial.space l.i l.space
