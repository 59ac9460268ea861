-- Started, its parts added, and closed.
use native.Mathlib.Omega.{arith}
use Rattle.weight_records.proofs.PartsFew.{parts-few}
use Rattle.weight_records.proofs.record.weigh_plain.Goals as goal

pub come_of-mark-requires : goal.come_of-mark-requires
come_of-mark-requires c = (c.requires.1, parts-few _ _ _ c.parts_of-n.ensures)

pub add_parts-requires : goal.add_parts-requires
add_parts-requires c =
    omega (
      arith,
      c.requires,
      c.saturating_sub-to.ensures,
      c.height_of-row.ensures.1,
      parts-few _ _ _ c.parts_of-n.ensures,
    )
