-- The row is written, and the record weighed by its parts, or as any other.
use Rattle.sheet_reader.specs.table.Number.{used_number}
use Rattle.sheet_reader.proofs.Sums.{sum_is, sum-few, sum-here, sum-at, sum-kind, sum-closed, sum-weighed}
use Rattle.sheet_reader.proofs.close.close_sum.Goals as goal

pub weigh_parts-requires : goal.weigh_parts-requires
weigh_parts-requires c =
    let S = sum_is _ _ _ _ c.sum_row.ensures c.in_ok-row.was in (
      c.requires.0,
      sum-few (sum-here _ _ _ _ c.args.next S),
    )

pub returns-then-weigh_parts : goal.returns-then-weigh_parts
returns-then-weigh_parts c = let S = sum_is _ _ _ _ c.sum_row.ensures c.in_ok-row.was in
    let w = c.write_typed.ensures in
    let W = c.weigh_parts.ensures (used_number c.args.r) _ _ (sum-at
    _ _ _ _ _ S w c.requires.0) (sum-kind _ _ _ _ _ S w) in
    record { other = tt; closed = (λ s around. sum-closed _ _ _ _ _ S w (rw c.if-weigh_parts.true at W) s around) }

pub returns : goal.returns
returns c = let S = sum_is _ _ _ _ c.sum_row.ensures c.in_ok-row.was in
    let w = c.write_typed.ensures in
    let W = c.weigh_parts.ensures 0 _ _ (sum-at _ _ _ _ _ S
    w c.requires.0) (sum-kind _ _ _ _ _ S w) in
    let v = rw c.if-weigh_parts.false at W in
    record { other = tt; closed = (λ s around. sum-closed _ _ _ _ _ S w (sum-weighed _ _ _ _ _ S w (rw v at c.weigh_record.ensures)) s around) }
