-- What `first_letter` gives is what `first_letter` says, case by case.
use Rattle.play_records.specs.Bytes.{first_letter}
use Rattle.play_records.proofs.play.first_letter.Goals as goal

pub returns : goal.returns
unfolding first_letter
returns c = simp (← c.get_or.ensures, ← c.get_or-2.ensures, ← c.get_or-3.ensures, ← c.get_or-4.ensures, ← c.letter_from.ensures)
