-- `follow` keeps what `FollowPromise` says.
use borrow.Author.Rules.{rules}
use native.Mathlib.Omega.{arith}
use mathlib.Core.Path.{refl, sym, ap, ◌∙◌}
use lib.ListN.{replicate}
use Rattle.sheet_judge.proofs.Judging.{is-err}
use Rattle.serve_compare.proofs.ReadSheets.{refused-sheet, taken, fit-as, size_small}
use Rattle.serve_compare.proofs.FollowAnswers.{
  refuses-sheet,
  refuses-words,
  refuses-play,
  counted-enough,
  one-ready,
}
use Rattle.serve_compare.proofs.FollowAnswers.{opened-markable, opened-graph, followed}
use Rattle.serve_compare.proofs.follow.follow.Goals as goal

pub returns-in_default : goal.returns-in_default
returns-in_default c =
    refuses-sheet c.args.sheet.now c.args.play.now c.args.words.now _
    (refused-sheet _ _ c.load-x.ensures (is-err c.err.ensures.value c.unwrap.ensures)) c.of_sheet.ensures refl

pub words_asked-requires : goal.words_asked-requires
words_asked-requires c = omega (arith, size_small (taken _ _ c.load-x.ensures c.in-Ok.is))

pub returns-then-words-words_asked : goal.returns-then-words-words_asked
returns-then-words-words_asked c =
    let F = fit-as (taken _ _ c.load-x.ensures c.in-Ok.is) (sym c.numbers_of-n.ensures) refl
    in
    refuses-words F c.args.play.now c.args.words.now _ (rw c.words_asked.ensures at c.if-words-words_asked.true)
    c.both_cause.ensures refl

pub returns-in_default-parsed : goal.returns-in_default-parsed
returns-in_default-parsed c =
    let F = fit-as (taken _ _ c.load-x.ensures c.in-Ok.is) (sym c.numbers_of-n.ensures) refl in
    refuses-play F c.args.play.now c.args.words.now _ (rw c.words_asked.ensures at c.if-words-words_asked.false)
    c.count_moves-parsed.ensures (is-err c.err-in_default-parsed.ensures.value c.unwrap-in_default-parsed.ensures) c.play_cause.ensures refl

pub one_from_rows-requires : goal.one_from_rows-requires
one_from_rows-requires c =
    let F = fit-as (taken _ _ c.load-x.ensures c.in-Ok.is) (sym c.numbers_of-n.ensures) refl in
    one-ready F c.args.words.now (rw c.words_asked.ensures at c.if-words-words_asked.false)

pub overflow_sub-all : goal.overflow_sub-all
overflow_sub-all c =
    let F = fit-as (taken _ _ c.load-x.ensures c.in-Ok.is) (sym c.numbers_of-n.ensures) refl in
    omega (arith, F.some)

pub mark_live-requires : goal.mark_live-requires
mark_live-requires c =
    let F = fit-as (taken _ _ c.load-x.ensures c.in-Ok.is) (sym c.numbers_of-n.ensures) refl in
    opened-markable F c.args.words.now _ (rw c.words_asked.ensures
    at c.if-words-words_asked.false) c.one_from_rows.ensures c.one_from_rows.auto.words

pub longest-reach-requires : goal.longest-reach-requires
longest-reach-requires c =
    let F = fit-as (taken _ _ c.load-x.ensures c.in-Ok.is) (sym c.numbers_of-n.ensures)
    refl in (
      opened-graph F c.args.words.now _ (rw c.words_asked.ensures at c.if-words-words_asked.false) c.one_from_rows.ensures c.mark_live.new.words
          c.mark_live.ensures,
      counted-enough c.args.play.now c.count_moves-parsed.ensures c.in-Ok-parsed.is,
    )

pub overflow_sub-result : goal.overflow_sub-result
overflow_sub-result c =
    let F = fit-as (taken _ _ c.load-x.ensures c.in-Ok.is) (sym c.numbers_of-n.ensures) refl in
    omega (arith, F.some)

pub returns : goal.returns
returns c =
    let F = fit-as (taken _ _ c.load-x.ensures c.in-Ok.is) (sym c.numbers_of-n.ensures) refl in
    followed F c.args.words.now _ (rw c.words_asked.ensures at c.if-words-words_asked.false) c.one_from_rows.ensures _ c.mark_live.ensures c.args.play.now _
    (λ i. omega (arith, c.type_inv.play i)) c.count_moves-parsed.ensures c.in-Ok-parsed.is
    c.longest-reach.ensures
    (c.clear.ensures ∙ ap (λ k. replicate k 0) (c.mark_live.auto.words ∙ c.one_from_rows.auto.words))
