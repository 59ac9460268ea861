-- A constant twice, and the notes.
use Rattle.weight_records.proofs.Whole.{settled}
use Rattle.weight_records.proofs.record.settle.Goals as goal

pub returns : goal.returns
returns c = settled _ _ _ _ _ _ _ _ c.requires.1.0 c.set_constant.ensures c.set_constant-2.ensures c.note.ensures
