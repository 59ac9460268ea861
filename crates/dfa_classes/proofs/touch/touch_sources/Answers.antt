-- `touch_sources` touches the sources of the edges in the list of a state.
use mathlib.Core.Path.{refl}
use native.Mathlib.Omega.{arith}
use Rattle.dfa_classes.proofs.laws.Sources.{edge-asks, source-asks, source_goes, sources-again, sources-first}
use Rattle.dfa_classes.proofs.laws.Sources.{sources-last, sources-less}
use Rattle.dfa_classes.proofs.touch.touch_sources.Goals as goal

pub source-p-requires : goal.source-p-requires
source-p-requires c = let Q = c.requires in
    let F = sources-first _ _ _ _ _ _ _ _ _ _ Q.touching Q.low c.head-next.ensures in
    let S = c.loop-next.invariant _ _ _ _ Q.inside F in
    source-asks _ _ _ _ _ _ _ _ _ _ _ S c.loop-next-test.true _ refl

pub touch-m-requires : goal.touch-m-requires
touch-m-requires c = let Q = c.requires in
    let F = sources-first _ _ _ _ _ _ _ _ _ _ Q.touching Q.low
    c.head-next.ensures in
    let S = c.loop-next.invariant _ _ _ _ Q.inside F in
    record {
      graph = Q.graph;
      splitter = Q.splitter;
      own = Q.own;
      count = Q.count;
      touching = S.touching;
      low = c.source-p.ensures.0;
      goes = source_goes _ _ _ _ _ _ _ _ _ _ _ S c.loop-next-test.true _ refl _
          c.source-p.ensures Q.inside;
    }

pub edge_next-next-requires : goal.edge_next-next-requires
edge_next-next-requires c = let Q =
    c.requires in
    let F = sources-first _ _ _ _ _ _ _ _ _ _ Q.touching Q.low
    c.head-next.ensures in
    let S = c.loop-next.invariant _ _ _ _ Q.inside F in
    let r = edge-asks _ _ _ _ _ _ _ _ _ _ _ S
    c.loop-next-test.true _ refl in
    let D = c.touch-m.ensures _ _ _ _ S.touching
    (source_goes _ _ _ _ _ _ _ _ _ _ _ S c.loop-next-test.true _
    refl _ c.source-p.ensures Q.inside) in
    (r.0, (r.1.0, omega (arith, r.1.1, D.keeps.len)))

pub loop-next-smaller : goal.loop-next-smaller
loop-next-smaller c = let Q =
    c.requires in
    let F = sources-first _ _ _ _ _ _ _ _ _ _ Q.touching Q.low
    c.head-next.ensures in
    let S = c.loop-next.invariant _ _ _ _ Q.inside F
    in
    sources-less _ _ _ _ _ _ _ _ _ _ _ S
    c.loop-next-test.true _ refl _
    c.source-p.ensures _ _ _
    (c.touch-m.ensures _ _ _ _ S.touching
    (source_goes _ _ _ _ _ _ _ _ _ _ _ S
    c.loop-next-test.true _ refl _
    c.source-p.ensures Q.inside))
    c.edge_next-next.ensures

pub loop-next-preserved : goal.loop-next-preserved
loop-next-preserved c = λ G s own count i F. let S =
    c.loop-next.invariant G s own count i F in
    sources-again _ _ _ _ _ _ _ _ _ _ _ S
    c.loop-next-test.true _ refl _
    c.source-p.ensures _ _ _
    (c.touch-m.ensures _ _ _ _ S.touching
    (source_goes _ _ _ _ _ _ _ _ _ _ _ S
    c.loop-next-test.true _ refl _
    c.source-p.ensures i))
    c.edge_next-next.ensures

pub returns : goal.returns
returns c = λ G s own count T i. let Q = c.requires in
    let F = sources-first _ _ _ _ _ _ _ _ _ _ T Q.low c.head-next.ensures in
    let S = c.loop-next.invariant _ _ _ _ i F in
    sources-last _ _ _ _ _ _ _ _ _ _ _ S c.loop-next-test.false
