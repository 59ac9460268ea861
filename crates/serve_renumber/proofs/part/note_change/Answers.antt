-- Four bytes are written.
use Rattle.serve_renumber.proofs.Leaves.{noted}
use Rattle.serve_renumber.proofs.part.note_change.Goals as goal

pub returns : goal.returns
returns c =
    noted _ _ _ _ _ _ _ _ _ c.put.ensures
    c.put-2.ensures c.put-3.ensures c.put-4.ensures
