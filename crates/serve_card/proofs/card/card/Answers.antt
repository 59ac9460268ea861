-- `card` keeps what `CardPromise` says.
use borrow.Author.Rules.{rules}
use mathlib.Core.Path.{◌∙◌, ap, refl, sym}
use native.Mathlib.Omega.{arith}
use lib.ListN.{replicate}
use Rattle.sheet_judge.proofs.Judging.{is-err}
use Rattle.serve_compare.proofs.FollowAnswers.{one-ready}
use Rattle.serve_compare.proofs.ReadSheets.{fit-as, refused-sheet, size_small, taken}
use Rattle.serve_card.proofs.Answers.{card-drawable, carded, heading-in, refuses-lent, refuses-sheet, rooted}
use Rattle.serve_card.proofs.Answers.{words-enough}
use Rattle.serve_card.proofs.card.card.Goals as goal

pub returns-in_default : goal.returns-in_default
returns-in_default c =
    let a = c.args in
    refuses-sheet a.sheet.now a.words.now a.space.now
    (refused-sheet _ _ c.load-x.ensures (is-err c.err.ensures.value c.unwrap.ensures)) c.of_sheet.ensures

pub lent_reason-requires : goal.lent_reason-requires
lent_reason-requires c =
    let A = taken _ _ c.load-x.ensures c.in-Ok.is in
    omega (arith, size_small A)

pub returns-in-Some : goal.returns-in-Some
returns-in-Some c =
    let A = taken _ _ c.load-x.ensures
    c.in-Ok.is in
    let F = fit-as A (sym c.numbers_of-n.ensures) refl in
    let a = c.args in
    refuses-lent F a.words.now a.space.now c.lent_reason.ensures c.in-Some.is
    c.both_cause.ensures

pub one_from_rows-requires : goal.one_from_rows-requires
one_from_rows-requires c =
    let A = taken _ _ c.load-x.ensures
    c.in-Ok.is in
    let F = fit-as A (sym c.numbers_of-n.ensures) refl in
    let a = c.args in
    one-ready F a.words.now
    (words-enough F a.words.now a.space.now c.lent_reason.ensures c.in_default-lent_reason.is)

pub write_heading-place-requires : goal.write_heading-place-requires
write_heading-place-requires c =
    let A = taken _ _ c.load-x.ensures
    c.in-Ok.is in
    heading-in A

pub write_table-length-requires : goal.write_table-length-requires
write_table-length-requires c =
    let A = taken _ _ c.load-x.ensures
    c.in-Ok.is in
    let F = fit-as A (sym c.numbers_of-n.ensures) refl in
    let a = c.args in
    let o = c.one_from_rows in
    let h = c.write_heading-place.ensures in (
      a.sheet.now,
      (
        _,
        card-drawable F a.words.now a.space.now c.lent_reason.ensures c.in_default-lent_reason.is
            _ _ _ (rooted A F) h.returned o.auto.words o.ensures,
      ),
    )

pub returns : goal.returns
returns c =
    let A = taken _ _ c.load-x.ensures
    c.in-Ok.is in
    let F = fit-as A (sym c.numbers_of-n.ensures) refl in
    let a = c.args in
    let o = c.one_from_rows in
    let h = c.write_heading-place.ensures in
    let t = c.write_table-length in
    carded F a.words.now a.space.now c.lent_reason.ensures c.in_default-lent_reason.is _ _ _ _ _ _ _ (rooted A F)
    (heading-in A).0 h.returned o.auto.words o.ensures h.written t.ensures
    (c.clear.ensures ∙ ap (λ k. replicate k 0) (t.auto.words ∙ o.auto.words))
