-- `link_edges` keeps what `Links` says.
use native.Mathlib.Omega.{arith}
use Rattle.dfa_live.proofs.laws.Links.{bounds, link-begun, link-within, link-done, link-low, link-less, link_fits}
use Rattle.dfa_live.proofs.laws.Links.{link_at, link-again}
use Rattle.dfa_live.proofs.links.link_edges.Goals as goal

pub loop-e-init : goal.loop-e-init
loop-e-init c = link-begun _ _ _ _ _ _ _ c.loop-p.invariant c.loop-p-test.true c.at-first.ensures c.at-behind.ensures

pub at-t-requires : goal.at-t-requires
at-t-requires c =
    let d = bounds _ _ _ c.loop-e.invariant.links.held in
    let w = link-within _ _ _ _ _ _ _ c.loop-p.invariant c.loop-p-test.true c.at-first.ensures c.at-behind.ensures _ _
    c.loop-e.invariant c.loop-e-test.true in
    omega (arith, d.room, w.0)

pub link-requires : goal.link-requires
link-requires c =
    let b = bounds _ _ _ c.requires.0 in
    let d = bounds _ _ _ c.loop-e.invariant.links.held in
    let w = link-within _ _ _ _ _ _ _ c.loop-p.invariant c.loop-p-test.true c.at-first.ensures c.at-behind.ensures _ _
    c.loop-e.invariant c.loop-e-test.true in
    let low = link-low _ _ _ _ _ _ c.loop-e.invariant w.0 _ w.1 c.at-t.ensures in (
      omega (arith, d.room, low),
      (
        link_fits _ _ _ _ _ _ c.loop-e.invariant w.0 _ w.1 c.at-t.ensures _ _ (omega (arith, b.is, c.at-end.ensures))
            c.link_place.ensures,
        (
          link-less _ _ _ _ _ _ c.loop-e.invariant w.0 _ w.1 c.at-t.ensures,
          (omega (arith, d.edges, w.0), omega (arith, b.few, c.loop-e.invariant.below)),
        ),
      ),
    )

pub loop-e-preserved : goal.loop-e-preserved
loop-e-preserved c =
    let b = bounds _ _ _ c.requires.0 in
    let w = link-within _ _ _ _ _ _ _ c.loop-p.invariant c.loop-p-test.true c.at-first.ensures c.at-behind.ensures _ _
    c.loop-e.invariant c.loop-e-test.true in
    link-again _ _ _ _ _ _ c.loop-e.invariant w.0 _ w.1 c.at-t.ensures _ _
    (link_at _ _ _ _ _ _ c.loop-e.invariant w.0 _ w.1 c.at-t.ensures _ _ (omega (arith, b.is, c.at-end.ensures))
    c.link_place.ensures) c.link.ensures

pub loop-p-preserved : goal.loop-p-preserved
loop-p-preserved c = link-done _ _ _ _ _ _ _ c.loop-p.invariant c.loop-p-test.true c.at-first.ensures
    c.at-behind.ensures _ _ c.loop-e.invariant c.loop-e-test.false c.loop-e.auto.e-end
