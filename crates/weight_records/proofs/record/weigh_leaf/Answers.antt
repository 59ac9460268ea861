-- Its own weight, and the notes.
use Rattle.weight_records.proofs.Whole.{leaf-weighed}
use Rattle.weight_records.proofs.record.weigh_leaf.Goals as goal

pub returns : goal.returns
returns c =
    λ k. leaf-weighed k _ _ _ _ _ _ _ _ c.height_of-row.ensures.0 c.own_of.ensures c.set_constant.ensures
    c.note.ensures
