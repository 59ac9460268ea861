-- `find` keeps what `Found` says.
use mathlib.Core.Path.{sym, ◌∙◌}
use Rattle.dfa_search.proofs.ClassLaws.{find-again, find-parent, find-last}
use Rattle.dfa_search.proofs.classes.find.Goals as goal

pub returns-then-g-p : goal.returns-then-g-p
returns-then-g-p c = λ n w h. let l = c.loop-p in
    find-last n _ _ _ _ (find-parent _ _ _ l.y _ l.invariant.0 l.invariant.1)
    (sym c.at-g.ensures ∙ c.if-g-p.true) w h

pub loop-p-preserved : goal.loop-p-preserved
loop-p-preserved c = let l = c.loop-p in (
  find-again _ _ l.work _ l.y l.p _ l.invariant.0 l.invariant.1
      c.loop-p-test.true
      c.at-g.ensures
      c.put.ensures,
  c.at-p-in-loop-p.ensures,
)

pub returns : goal.returns
returns c = λ n w h. find-last n _ _ _ _ c.loop-p.invariant.0 (sym c.loop-p.invariant.1
    ∙ c.loop-p-test.false) w h
