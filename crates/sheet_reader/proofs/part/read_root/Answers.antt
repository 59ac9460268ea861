-- A sequence takes its second part as it is.
use Rattle.sheet_reader.proofs.Steps.{root-reads}
use Rattle.sheet_reader.proofs.part.read_root.Goals as goal

pub returns : goal.returns
returns c = root-reads _ _ _ _ c.read_next.ensures
