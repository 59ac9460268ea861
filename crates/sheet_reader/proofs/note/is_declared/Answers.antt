-- Declared names have the standings between that of retired ids and those of variables.
use Rattle.sheet_reader.proofs.Notes.{standing-low, standing-high}
use Rattle.sheet_reader.proofs.note.is_declared.Goals as goal

pub returns-then-c-le-RETIRED : goal.returns-then-c-le-RETIRED
returns-then-c-le-RETIRED c = standing-low _ c.if-c-le-RETIRED.true

pub returns : goal.returns
returns c = standing-high _ c.if-c-le-RETIRED.false
