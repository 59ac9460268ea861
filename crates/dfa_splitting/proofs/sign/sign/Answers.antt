-- `sign` puts the letters together, edge by edge.
use mathlib.Core.Path.{◌∙◌, sym}
use Rattle.dfa.proofs.laws.Live.{no_true}
use Rattle.dfa_splitting.proofs.laws.Signs.{sign-edge, sign-first, sign-last, sign-less, sign-more, sign-room}
use Rattle.dfa_splitting.proofs.sign.sign.Goals as goal
use Rattle.dfa_splitting.proofs.sign.sign.Goals.{then-enters, else-enters}

pub edge_letter-requires : goal.edge_letter-requires
edge_letter-requires c = let S = c.requires.1.1.1 in let L =
    c.loop-i.invariant.1 _ _ _ S (sign-first _ _ _ _ _ _ S _ _ _
    c.first_edge-i.ensures
    c.first_edge-end.ensures) in sign-room _ _ _ _ _ _ S _ _ _ _ L
    c.loop-i-test.true

pub loop-i-preserved : goal.loop-i-preserved
loop-i-preserved c =
    elim c.if-enters.branch [
      | then-enters w ↦ rw w.v-is (
        w.mix-v.ensures.1,
        λ G g cls S F. let L = c.loop-i.invariant.1 G g cls S F in
            sign-more _ _ _ _ _ _ S _ _ _ _ L _ _ c.loop-i-test.true
            ((c.enters.ensures G g (sign-edge _ _ _ _ _ _ S _ _ _ _ L c.loop-i-test.true)).0 w.if-enters.true)
            w.edge_letter.ensures w.mix-v.ensures.0,
      )
      | else-enters w ↦ rw w.v-is (
        c.loop-i.invariant.0,
        λ G g cls S F. let L = c.loop-i.invariant.1 G g cls S F in
            sign-less _ _ _ _ _ _ S _ _ _ _ L c.loop-i-test.true
            (λ q. no_true (sym w.if-enters.false
            ∙ (c.enters.ensures G g (sign-edge _ _ _ _ _ _ S _ _ _ _ L c.loop-i-test.true)).1 q)),
      )
    ]

pub returns : goal.returns
returns c = (
  c.loop-i.invariant.0,
  λ G g cls S. let L = c.loop-i.invariant.1 G g cls S (sign-first _ _ _ _ _ _ S _ _ _
      c.first_edge-i.ensures
      c.first_edge-end.ensures) in
      sign-last _ _ _ _ _ _ S _ _ _ _ L c.loop-i-test.false,
)
