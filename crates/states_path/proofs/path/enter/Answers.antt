-- `enter` keeps what `Arrived` says.
use Rattle.std.proofs.Common.{sym, ◌∙◌}
use Rattle.states_path.proofs.PathInner.{entered}
use Rattle.states_path.proofs.PathNarrow.{entered-narrow}
use Rattle.states_path.proofs.PathDeeper.{goes-deeper}
use Rattle.states_path.proofs.PathArrives.{arrives, arrives-deep}
use Rattle.states_path.proofs.path.enter.Goals as goal

pub returns-in-Here : goal.returns-in-Here
returns-in-Here c = arrives _ _ _ _ _ _ c.loop-at-test.true c.loop-at.invariant.0 c.loop-at.invariant.1 (sym c.in-Here.is ∙ c.spot_at-d.ensures)

pub child-l-requires : goal.child-l-requires
child-l-requires c = record {
  term_rows = c.requires.term_rows;
  sound = (
    c.loop-at.invariant.0.sound,
    (
      c.requires.kept_path.1.1,
      (entered _ c.requires.term_rows.1 _ _ _ _ _ _ _ _ _ c.requires.kept_path.1.1
          c.loop-at-test.true c.loop-at.invariant.0 c.loop-at.invariant.1
          (sym c.in-Inside.is ∙ c.spot_at-d.ensures)).begins,
    ),
  );
}

pub put_level-requires : goal.put_level-requires
put_level-requires c = (
  c.loop-at-test.true,
  entered-narrow _ c.requires.term_rows _ _ _ _
      _ _ _ _ _ c.requires.kept_path.1.1
      c.loop-at-test.true c.loop-at.invariant.0 (sym c.in-Inside.is ∙ c.spot_at-d.ensures) c.loop-at.invariant.1 _ c.child-l.ensures,
)

pub loop-at-preserved : goal.loop-at-preserved
loop-at-preserved c = goes-deeper _ c.requires.term_rows _ _ _ _ _ _ _ _ _ _ _ c.requires.kept_path.1.1 c.loop-at-test.true c.loop-at.invariant.0 c.loop-at.invariant.1 (sym c.in-Inside.is ∙ c.spot_at-d.ensures) c.child-l.ensures c.put_level.ensures

pub returns : goal.returns
returns c = arrives-deep _ _ _ _ _ c.loop-at-test.false c.loop-at.invariant.0 c.loop-at.invariant.1
