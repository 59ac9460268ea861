-- By what reading says, and by the lengths.
use Rattle.sheet_judge.proofs.Judging.{is-err}
use Rattle.serve_renumber.proofs.Finishing.{accepted-of, service-refused, service-short, service-narrow, service-done}
use Rattle.serve_renumber.proofs.renumber.renumber.Goals as goal

pub returns-in_default : goal.returns-in_default
returns-in_default c =
    service-refused c.args.s.now c.args.out.now c.args.list.now _ _ c.judge_earlier-x.ensures
    (is-err c.err.ensures.value c.unwrap.ensures) c.of_sheet.ensures

pub returns-then-out-s : goal.returns-then-out-s
returns-then-out-s c =
    service-short c.args.s.now c.args.out.now c.args.list.now _ _
    (accepted-of c.args.s.now _ _ c.judge_earlier-x.ensures c.in-Ok.is) c.if-out-s.true c.too_short.ensures

pub returns-then-list-lt-LIST : goal.returns-then-list-lt-LIST
returns-then-list-lt-LIST c =
    service-narrow c.args.s.now c.args.out.now c.args.list.now _ _
    (accepted-of c.args.s.now _ _ c.judge_earlier-x.ensures c.in-Ok.is) c.if-out-s.false c.if-list-lt-LIST.true
    c.too_short-then-list-lt-LIST.ensures

pub renumber_accepted-requires : goal.renumber_accepted-requires
renumber_accepted-requires c =
    (accepted-of c.args.s.now _ _ c.judge_earlier-x.ensures c.in-Ok.is, c.if-out-s.false, c.if-list-lt-LIST.false)

pub returns : goal.returns
returns c =
    service-done c.args.s.now c.args.out.now _ c.args.list.now _ _ _
    (accepted-of c.args.s.now _ _ c.judge_earlier-x.ensures c.in-Ok.is) c.if-out-s.false c.if-list-lt-LIST.false
    c.renumber_accepted.ensures
