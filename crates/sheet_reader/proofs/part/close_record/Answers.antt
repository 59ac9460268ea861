-- The type and the row of a record, from the answer of its parts; the note of its use; and its form.
use native.Mathlib.Omega.{arith}
use Rattle.sheet_reader.specs.table.Fill.{closed_answer, closed_table}
use Rattle.sheet_reader.proofs.Core.{closed-table, closed-as}
use Rattle.sheet_reader.proofs.Bounds.{ends-within, ends-typed}
use Rattle.sheet_reader.proofs.part.close_record.Goals as goal

pub returns-in_default : goal.returns-in_default
unfolding closed_answer closed_table
returns-in_default c = record { answer = simp c.in_default.is; table = simp c.in_default.is }

pub overflow_cast-ty : goal.overflow_cast-ty
overflow_cast-ty c =
    omega (arith, ends-typed 4096 c.requires.1 c.in-Ok.is)

pub close_sum-requires : goal.close_sum-requires
close_sum-requires c =
    (c.requires.0, omega (arith, ends-within 4096 c.requires.1 c.in-Ok.is))

pub returns-in-Some : goal.returns-in-Some
returns-in-Some c =
    let p = closed-as _ _ _ _ _ c.in-Ok.is (c.in-Some.ensures.closed _ c.args.around) in
    record { answer = p.0; table = p.1 }

pub write_row-requires : goal.write_row-requires
write_row-requires c =
    (omega (arith, c.requires.0), omega (arith, ends-within 4096 c.requires.1 c.in-Ok.is))

pub weigh_record-requires : goal.weigh_record-requires
weigh_record-requires c =
    (omega (arith, c.requires.0), omega (arith, c.used_number-k.ensures.small))

pub returns : goal.returns
unfolding closed_answer
returns c = record {
  answer = simp (c.in-Ok.is, ← c.type_of-own.ensures);
  table = closed-table _ _ _ _ _ c.in-Ok.is c.type_of-own.ensures c.in_default-close_sum.ensures.other
      c.write_row.ensures
      c.note_use.ensures c.used_number-k.ensures.number c.weigh_record.ensures;
}
