-- What `moves` writes is the text `moves_text`.
use borrow.Author.Rules.{rules}
use Rattle.print_text.proofs.Printed.{moves-start, moves-again, moves-end}
use Rattle.print_text.proofs.lines.moves.Goals as goal

pub loop-init : goal.loop-init
loop-init c = (search rules, moves-start _ _ _)

pub loop-preserved : goal.loop-preserved
loop-preserved c = (
  c.after-place.ensures.within,
  moves-again _ _ c.loop.counter c.loop.place _ _ c.loop.invariant.1 _ c.after-place.result c.loop-test.true
      c.first_move-next.ensures c.after-place.ensures.rest,
)

pub returns : goal.returns
returns c =
    moves-end _ _ c.loop.counter c.loop.place _ _ c.loop.invariant.1 c.loop.auto.counter-end c.loop-test.false
