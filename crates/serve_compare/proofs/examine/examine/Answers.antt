-- `examine` keeps what `ExaminePromise` says.
use native.Mathlib.Omega.{arith}
use borrow.Author.Rules.{rules}
use Rattle.sheet_judge.proofs.Judging.{is-err}
use Rattle.serve_compare.proofs.ReadSheets.{refused-sheet, taken, size-some, size_small}
use Rattle.serve_compare.proofs.ComparePlays.{refused-old, refused-new, refused-pair, passed}
use Rattle.serve_compare.proofs.ComparePlays.{both, accepted-call, two_ready, deciding, examined}
use Rattle.serve_compare.proofs.examine.examine.Goals as goal

pub returns-in_default : goal.returns-in_default
returns-in_default c =
    refused-old _ _ c.args.words.now c.args.space.now _
    (refused-sheet _ _ c.load-x.ensures (is-err c.err.ensures.value c.unwrap.ensures))
    c.of_sheet.ensures

pub returns-in_default-y : goal.returns-in_default-y
returns-in_default-y c =
    let A = taken _ _ c.load-x.ensures c.in-Ok.is in
    refused-new _ _ c.args.words.now
    c.args.space.now c.args.most A (refused-sheet _ _ c.load-y.ensures
    (is-err c.err-in_default-y.ensures.value c.unwrap-in_default-y.ensures)) c.of_sheet-in_default-y.ensures

pub overflow_add-all : goal.overflow_add-all
overflow_add-all c =
    let A = taken _ _ c.load-x.ensures c.in-Ok.is in
    let B = taken _ _ c.load-y.ensures c.in-Ok-y.is in
    omega (arith, size_small A, size_small B)

pub pair_reason-requires : goal.pair_reason-requires
pair_reason-requires c =
    let A = taken _ _ c.load-x.ensures c.in-Ok.is in
    let B = taken _ _ c.load-y.ensures c.in-Ok-y.is in
    (omega (arith, size-some A), omega (arith, size_small A, size_small B))

pub returns-in-Some : goal.returns-in-Some
returns-in-Some c =
    let A = taken _ _ c.load-x.ensures c.in-Ok.is in
    let B = taken _ _ c.load-y.ensures c.in-Ok-y.is in
    refused-pair _ _ c.args.words.now
    c.args.space.now A B c.alike-matching.ensures c.numbers_of-n.ensures c.pair_reason.ensures _
    c.in-Some.is c.both_cause.ensures

pub two_from_rows-requires : goal.two_from_rows-requires
two_from_rows-requires c =
    let A = taken _ _ c.load-x.ensures c.in-Ok.is in
    let B = taken _ _ c.load-y.ensures c.in-Ok-y.is in
    let P = passed _ _ c.args.words.now c.args.space.now A B c.alike-matching.ensures c.numbers_of-n.ensures c.pair_reason.ensures
    c.in_default-pair_reason.is in
    two_ready (both A B c.alike-matching.ensures P.matched c.numbers_of-n.ensures) c.args.words.now P.words-enough

pub decide-found-requires : goal.decide-found-requires
decide-found-requires c =
    let A = taken _ _ c.load-x.ensures c.in-Ok.is in
    let B = taken _ _ c.load-y.ensures c.in-Ok-y.is in
    let P = passed _ _ c.args.words.now c.args.space.now A B c.alike-matching.ensures c.numbers_of-n.ensures c.pair_reason.ensures
    c.in_default-pair_reason.is in
    deciding (both A B c.alike-matching.ensures P.matched c.numbers_of-n.ensures) c.args.words.now _ _ P.words-enough
    c.two_from_rows.auto.words P.space-enough c.two_from_rows.ensures

pub overflow_add-result : goal.overflow_add-result
overflow_add-result c =
    let A = taken _ _ c.load-x.ensures c.in-Ok.is in
    let B = taken _ _ c.load-y.ensures c.in-Ok-y.is in
    omega (arith, size_small A, size_small B)

pub overflow_sub-result : goal.overflow_sub-result
overflow_sub-result c =
    let A = taken _ _ c.load-x.ensures c.in-Ok.is in
    omega (arith, size-some A)

pub returns : goal.returns
returns c =
    let A = taken _ _ c.load-x.ensures c.in-Ok.is in
    let B = taken _ _ c.load-y.ensures c.in-Ok-y.is in
    let P = passed _ _ c.args.words.now
    c.args.space.now A B c.alike-matching.ensures c.numbers_of-n.ensures c.pair_reason.ensures
    c.in_default-pair_reason.is in
    examined (both A B c.alike-matching.ensures P.matched c.numbers_of-n.ensures) c.args.most c.args.words.now _
    c.decide-found.new.words _ _ _ _ P.words-enough
    c.two_from_rows.auto.words P.space-enough
    c.two_from_rows.ensures c.decide-found.ensures
    c.decide-found.auto.words c.clear.ensures
    (accepted-call _ _ c.args.words.now c.args.space.now A B c.alike-matching.ensures c.numbers_of-n.ensures c.pair_reason.ensures
    c.in_default-pair_reason.is)
