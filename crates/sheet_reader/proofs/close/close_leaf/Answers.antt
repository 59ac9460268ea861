-- The row is written, the use noted, and the record weighed by its kind and its detail.
use Rattle.sheet_reader.proofs.Leaves.{leaf-closed}
use Rattle.sheet_reader.proofs.close.close_leaf.Goals as goal

pub returns : goal.returns
returns c =
    λ k around e f l. leaf-closed c.args.n c.args.r c.args.ty around k _ c.requires.0 e f c.write_typed.ensures c.note_use.ensures (λ R. c.weigh_leaf.ensures k l R)
