-- `link_edges` puts edge after edge in the list of its target.
use mathlib.Core.Path.{subst}
use native.Mathlib.Omega.{arith}
use lib.ListN.{get_or}
use Rattle.dfa_classes.specs.inner.Linking.{Linking}
use Rattle.dfa_classes.proofs.laws.Linking.{end_is, first-is, head-asks, link-again}
use Rattle.dfa_classes.proofs.laws.Linking.{link-asks}
use Rattle.dfa_classes.proofs.links.link_edges.Goals as goal

pub head-next-requires : goal.head-next-requires
head-next-requires c = let L₀ =
    c.requires.linking in
    let L = c.loop-e.invariant _ L₀ (first-is _ _ _ _ L₀ _
    c.first_edge-e.ensures) in
    head-asks _ _ _ _ _ _ L (omega (
      arith,
      c.loop-e-test.true,
      end_is _ _ _ _ L₀ _
          c.first_edge-end.ensures,
    ))
    _ c.edge_target-t.ensures

pub link-requires : goal.link-requires
link-requires c = let L₀ =
    c.requires.linking in
    let L = c.loop-e.invariant _ L₀ (first-is _ _ _ _ L₀ _
    c.first_edge-e.ensures) in
    link-asks _ _ _ _ _ _ L (omega (
      arith,
      c.loop-e-test.true,
      end_is _ _ _ _
          L₀ _ c.first_edge-end.ensures,
    ))
    _ c.edge_target-t.ensures _ c.head-next.ensures

pub loop-e-preserved : goal.loop-e-preserved
loop-e-preserved c = λ G L₀ e. let L = c.loop-e.invariant G
    L₀ e in
    link-again _ _ _ _ _ _ L (omega (
      arith,
      c.loop-e-test.true,
      end_is _ _ _ _ L₀ _
          c.first_edge-end.ensures,
    ))
    _ c.edge_target-t.ensures _
    c.head-next.ensures _ c.link.ensures

pub returns : goal.returns
returns c = λ G L₀. let L = c.loop-e.invariant G L₀ (first-is _ _ _ _ L₀ _ c.first_edge-e.ensures)
    in
    subst (λ x. Linking G c.args.n
    c.args.g
    c.args.words.now x c.loop-e.words) {x =
    c.loop-e.e} {y = get_or G c.args.n 0}
    (omega (
      arith,
      L.high,
      c.loop-e-test.false,
      end_is _ _ _ _ L₀ _
          c.first_edge-end.ensures,
    )) L
