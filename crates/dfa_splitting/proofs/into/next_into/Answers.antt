-- `next_into` passes over the edges that do not lead into the class.
use mathlib.Core.Path.{◌∙◌, sym}
use Rattle.dfa.proofs.laws.Live.{no_true}
use Rattle.dfa_splitting.proofs.laws.Into.{skipped-end, skipped-hit, skipping-edge, skips-again}
use Rattle.dfa_splitting.proofs.into.next_into.Goals as goal

pub returns-then-enters : goal.returns-then-enters
returns-then-enters c = λ G g S. record {
  skipped = skipped-hit _ _ _ _ S.some S.dead _ _ _ (c.loop-i.invariant G g S)
      c.loop-i-test.true
      ((c.enters.ensures G g (skipping-edge _ _ _ _ _ _ _ S _ (c.loop-i.invariant G g S)
      c.loop-i-test.true)).0 c.if-enters.true);
  low = c.loop-i-test.true;
}

pub loop-i-preserved : goal.loop-i-preserved
loop-i-preserved c = λ G g S. skips-again _ _ _ _ S.some S.dead _ _ _ (c.loop-i.invariant G g S)
    c.loop-i-test.true
    (λ q. no_true (sym c.if-enters.false ∙ (c.enters.ensures G g (skipping-edge _ _ _ _ _ _ _ S _
    (c.loop-i.invariant G g S)
    c.loop-i-test.true)).1 q))

pub returns : goal.returns
returns c = λ G g S. record {
  skipped = skipped-end _ _ _ _ S.some S.dead _ _ _ (c.loop-i.invariant G g S) c.loop-i-test.false;
  low = tt;
}
