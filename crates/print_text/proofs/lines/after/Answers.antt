-- `after` gives the place after a record, which is within the bytes.
use borrow.Author.Rules.{rules}
use Rattle.print_text.proofs.Printed.{width-short, width-long, room, no_room}
use Rattle.print_text.proofs.lines.after.Goals as goal

pub returns-then-left-lt-BARE_BYTES : goal.returns-then-left-lt-BARE_BYTES
returns-then-left-lt-BARE_BYTES c =
    let p = no_room c.args.s.now c.args.place 3
    (width-short c.args.s.now c.args.place _ c.get_or.ensures c.if-get_or-lt-VALUE.true) c.requires c.if-left-lt-BARE_BYTES.true in
    record { within = p.0; rest = p.1 }

pub returns-then-get_or-lt-VALUE : goal.returns-then-get_or-lt-VALUE
returns-then-get_or-lt-VALUE c =
    let p = room c.args.s.now c.args.place 3
    (width-short c.args.s.now c.args.place _ c.get_or.ensures c.if-get_or-lt-VALUE.true) c.requires c.if-left-lt-BARE_BYTES.false in
    record { within = p.0; rest = p.1 }

pub returns-then-left-lt-VALUED_BYTES : goal.returns-then-left-lt-VALUED_BYTES
returns-then-left-lt-VALUED_BYTES c =
    let p = no_room c.args.s.now c.args.place 4
    (width-long c.args.s.now c.args.place _ c.get_or.ensures c.if-get_or-lt-VALUE.false) c.requires c.if-left-lt-VALUED_BYTES.true in
    record { within = p.0; rest = p.1 }

pub returns : goal.returns
returns c =
    let p = room c.args.s.now c.args.place 4
    (width-long c.args.s.now c.args.place _ c.get_or.ensures c.if-get_or-lt-VALUE.false) c.requires c.if-left-lt-VALUED_BYTES.false in
    record { within = p.0; rest = p.1 }
