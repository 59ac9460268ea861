-- `meet` goes through the edges of a state.
use Rattle.dfa_numbering.proofs.laws.Counting.{meet-again, meet-first, meet-last, note-asks}
use Rattle.dfa_numbering.proofs.laws.Counting.{target-asks}
use Rattle.dfa_numbering.proofs.number.meet.Goals as goal

pub edge_target-t-requires : goal.edge_target-t-requires
edge_target-t-requires c = let Q = c.requires in let M =
    c.loop-e.invariant _ _ _ _ Q.dead_is (meet-first _ _ _ _ _ _ _ Q.dead_is _ _ _ _ Q.counting
    Q.more Q.state c.first_edge-e.ensures
    c.first_edge-end.ensures) in
    target-asks _ _ _ _ _ _ _ Q.dead_is _ _ _ _ _ M c.loop-e-test.true

pub note-k-requires : goal.note-k-requires
note-k-requires c = let Q = c.requires in
    let M = c.loop-e.invariant _ _ _ _ Q.dead_is (meet-first _ _ _ _ _ _ _ Q.dead_is _ _
    _ _ Q.counting Q.more Q.state
    c.first_edge-e.ensures
    c.first_edge-end.ensures) in
    note-asks _ _ _ _ _ _ _ Q.dead_is _ _ _ _ _ M c.loop-e-test.true _
    c.edge_target-t.ensures

pub loop-e-preserved : goal.loop-e-preserved
loop-e-preserved c = λ G g own head d F. let M = c.loop-e.invariant G g own
    head d F in
    meet-again _ _ _ _ _ _ _ d _ _ _ _ _ M c.loop-e-test.true _
    c.edge_target-t.ensures _ _ c.note-k.ensures

pub returns : goal.returns
returns c = λ G g own head C h q d. let M = c.loop-e.invariant G g own head d (meet-first _ _ _ _ _ _ _ d _ _ _ _ C h
    q
    c.first_edge-e.ensures c.first_edge-end.ensures) in
    (meet-last _ _ _ _ _ _ _ d _ _ _ _ _ M c.loop-e-test.false, M.len)
