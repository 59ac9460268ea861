-- `number_states` goes through the numbered classes.
use mathlib.Core.Path.{◌∙◌}
use native.Mathlib.Omega.{arith}
use Rattle.dfa_numbering.proofs.laws.Counting.{count-first, count-last, count_room}
use Rattle.dfa_numbering.proofs.laws.Counting.{turn-again}
use Rattle.dfa_numbering.proofs.laws.Counting.{turn-asks, turn-counting, turn-few, turn_small}
use Rattle.dfa_numbering.proofs.number.number_states.Goals as goal

pub overflow_add-n : goal.overflow_add-n
overflow_add-n c =
    let at-2 = c.at-dead in
    let B =
    c.requires.1.1.1
    in let R = count_room _ _ _ _ _ B in let S = c.loop-head.invariant.0 _ _ _
    (at-2.ensures ∙ B.class _
    (omega (arith, R.0))) (count-first _ _ _ _ _ B _
    c.zero.ensures _ _ _
    at-2.ensures
    c.note-tail.ensures) in
    omega (arith, R.1.0, turn_small _ _ _ _ _ _ _ S c.loop-head-test.true)

pub at-p-requires : goal.at-p-requires
at-p-requires c =
    let at-2 = c.at-dead in
    let B =
    c.requires.1.1.1
    in let R = count_room _ _ _ _ _ B in let S = c.loop-head.invariant.0 _ _ _
    (at-2.ensures ∙ B.class _
    (omega (arith, R.0))) (count-first _ _ _ _ _ B _
    c.zero.ensures _ _ _
    at-2.ensures
    c.note-tail.ensures) in
    turn-asks _ _ _ _ _ _ _ S c.loop-head-test.true

pub meet-tail-requires : goal.meet-tail-requires
meet-tail-requires c =
    let asked = c.requires in
    let at-2 = c.at-dead in
    let B =
    asked.1.1.1
    in let R = count_room _ _ _ _ _ B in let S = c.loop-head.invariant.0 _ _ _
    (at-2.ensures
    ∙ B.class _ (omega (arith, R.0))) (count-first _ _ _ _ _ B _
    c.zero.ensures _ _ _
    at-2.ensures
    c.note-tail.ensures) in
    record {
      graph =
          asked.0;
      g =
          asked.1.0;
      own =
          asked.1.1.0;
      head = c.loop-head.head;
      counting = turn-counting _ _ _ _ _ _ _ S c.loop-head-test.true;
      more = c.loop-head-test.true;
      state = c.at-p.ensures;
      dead_is =
          (at-2.ensures
          ∙ B.class _ (omega (arith, R.0)));
    }

pub overflow_add-head : goal.overflow_add-head
overflow_add-head c =
    let at-2 = c.at-dead in
    let B =
    c.requires.1.1.1
    in let R = count_room _ _ _ _ _ B in let S = c.loop-head.invariant.0
    _ _ _
    (at-2.ensures
    ∙ B.class _ (omega (arith, R.0))) (count-first _ _ _ _ _ B _
    c.zero.ensures
    _ _ _
    at-2.ensures
    c.note-tail.ensures) in
    omega (arith, turn_small _ _ _ _ _ _ _ S c.loop-head-test.true)

pub loop-head-smaller : goal.loop-head-smaller
loop-head-smaller c =
    let at-2 = c.at-dead in
    let B =
    c.requires.1.1.1
    in let R = count_room _ _ _ _ _ B in let S = c.loop-head.invariant.0
    _ _ _
    (at-2.ensures
    ∙ B.class _ (omega (arith, R.0))) (count-first _ _ _ _ _ B _
    c.zero.ensures
    _ _ _
    at-2.ensures
    c.note-tail.ensures) in
    omega (
      arith,
      turn_small _ _ _ _ _ _ _ S c.loop-head-test.true,
      turn-few _ _ _ _ _ _ _ S c.loop-head-test.true,
    )

pub loop-head-preserved : goal.loop-head-preserved
loop-head-preserved c =
    let at-2 = c.at-dead in (
      (λ G g own d F. let S = c.loop-head.invariant.0 G g own d F in
          turn-again _ _ _ _ _ _ _ (c.meet-tail.ensures _ _ _ _ (turn-counting _ _ _ _ _ _ _ S
          c.loop-head-test.true)
          c.loop-head-test.true
          c.at-p.ensures d).0),
      (let B =
          c.requires.1.1.1
          in let R = count_room _ _ _ _ _ B in let S =
          c.loop-head.invariant.0 _ _ _
          (at-2.ensures
          ∙ B.class _ (omega (arith, R.0))) (count-first _ _ _ _ _ B _
          c.zero.ensures
          _ _ _
          at-2.ensures
          c.note-tail.ensures) in
          (c.meet-tail.ensures _ _ _ _ (turn-counting _ _ _ _ _ _ _ S
          c.loop-head-test.true)
          c.loop-head-test.true
          c.at-p.ensures
          (at-2.ensures
          ∙ B.class _ (omega (arith, R.0)))).1
          ∙ c.loop-head.invariant.1),
    )

pub returns : goal.returns
returns c = λ G g own B. let R = count_room _ _ _ _ _ B in
    count-last _ _ _ _ _ _ _ (c.loop-head.invariant.0 G g own
    (c.at-dead.ensures ∙ B.class _
    (omega (arith, R.0))) (count-first _ _ _ _ _ B _
    c.zero.ensures _ _ _
    c.at-dead.ensures
    c.note-tail.ensures)) c.loop-head-test.false
