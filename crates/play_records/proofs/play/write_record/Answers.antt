-- `write_record` gives the place after a record, and leaves its bytes.
use Rattle.play_records.proofs.Written.{put_three, put_four}
use Rattle.play_records.proofs.play.write_record.Goals as goal

pub returns-then-l-lt-VALUE : goal.returns-then-l-lt-VALUE
returns-then-l-lt-VALUE c =
    let p = put_three _ _ _ _ _ _ c.put.ensures c.put-2.ensures c.put-3.ensures c.if-l-lt-VALUE.true in
    record { returned = p.0; written = p.1 }

pub returns : goal.returns
returns c =
    let p = put_four _ _ _ _ _ _ c.put.ensures c.put-2.ensures c.put-3.ensures
    _ c.if-l-lt-VALUE.false c.put-4.ensures in
    record { returned = p.0; written = p.1 }
