-- `mark` keeps what `Marks` says.
use native.Mathlib.Omega.{arith}
use Prim.Native.Nat.{◌%◌, ◌/◌}
use mathlib.Core.Path.{ap}
use Rattle.dfa_live.proofs.laws.Links.{bounds}
use Rattle.dfa_live.proofs.laws.Marking.{few-queued, mark-first, mark-take, mark-along, mark-last}
use Rattle.dfa_live.proofs.laws.Marking.{after_less, entry-low, list_low, source-low, along-place, along-room}
use Rattle.dfa_live.proofs.marks.mark.Goals as goal

pub overflow_add-tail : goal.overflow_add-tail
overflow_add-tail c = let M = c.loop-head.invariant _ c.requires
    (mark-first _ _ _ _ _ c.requires
    c.note-tail.ensures.1 c.note-tail.ensures.0) in
    omega (arith, few-queued _ _ _ _ _ M.queued, M.taken.below, M.held.few, M.held.graph.few)

pub at-t-requires : goal.at-t-requires
at-t-requires c =
    let M = c.loop-head.invariant _
    c.requires (mark-first _ _ _
    _ _ c.requires
    c.note-tail.ensures.1
    c.note-tail.ensures.0) in
    omega (
      arith,
      few-queued _ _ _ _ _ M.queued,
      c.loop-head-test.true,
      c.if-next-eq-NO_EDGE.true,
      M.held.room,
    )

pub at-next-requires : goal.at-next-requires
at-next-requires c =
    let M = c.loop-head.invariant _
    c.requires
    (mark-first _ _ _ _ _
    c.requires
    c.note-tail.ensures.1
    c.note-tail.ensures.0) in
    let l = entry-low _ _ _ _ _ _ _ _ _ _ M (omega (
      arith,
      c.loop-head-test.true,
      c.if-next-eq-NO_EDGE.true,
    )) (ap (λ x. x % 16384) c.at-t.ensures) in
    omega (arith, M.held.room)

pub loop-head-smaller-then-next-eq-NO_EDGE : goal.loop-head-smaller-then-next-eq-NO_EDGE
loop-head-smaller-then-next-eq-NO_EDGE c =
    let M = c.loop-head.invariant _
    c.requires (mark-first _ _ _ _ _
    c.requires
    c.note-tail.ensures.1
    c.note-tail.ensures.0) in
    let l = entry-low _ _ _ _ _ _ _ _ _ _ M (omega (
      arith,
      c.loop-head-test.true,
      c.if-next-eq-NO_EDGE.true,
    )) (ap
    (λ x. x % 16384) c.at-t.ensures) in
    omega (
      arith,
      few-queued _ _ _ _ _ M.queued,
      list_low _ _ _ _ _ _ _ _ _ _ M l
          (ap (λ x. x / 16384) c.at-next.ensures),
      c.loop-head-test.true,
      c.if-next-eq-NO_EDGE.true,
    )

pub loop-head-preserved-then-next-eq-NO_EDGE : goal.loop-head-preserved-then-next-eq-NO_EDGE
loop-head-preserved-then-next-eq-NO_EDGE c =
    λ v U M. mark-take _ _ _ _ _ _ _ _ _ _ (c.loop-head.invariant v U M)
    c.if-next-eq-NO_EDGE.true c.loop-head-test.true
    (ap (λ x. x % 16384) c.at-t.ensures) (ap (λ x. x / 16384) c.at-next.ensures)

pub link_place-requires : goal.link_place-requires
link_place-requires c =
    let F = mark-first _ _ _ _ _
    c.requires
    c.note-tail.ensures.1
    c.note-tail.ensures.0 in let M =
    c.loop-head.invariant _
    c.requires F in
    let b = bounds _ _ _ F.held in (
      b.few,
      (
        omega (arith, c.at-end.ensures),
        omega (
          arith,
          M.taken.below,
          M.held.few,
        ),
      ),
    )

pub at-v-requires : goal.at-v-requires
at-v-requires c =
    let F = mark-first _ _ _ _ _
    c.requires
    c.note-tail.ensures.1
    c.note-tail.ensures.0 in let M =
    c.loop-head.invariant _
    c.requires F in
    let b = bounds _ _ _ F.held in
    along-room _ _ _ _ _ _ _ _ M c.if-next-eq-NO_EDGE.false _ _ (omega (
      arith,
      c.at-end.ensures,
    )) c.link_place.ensures

pub note-tail-requires-else-next-eq-NO_EDGE : goal.note-tail-requires-else-next-eq-NO_EDGE
note-tail-requires-else-next-eq-NO_EDGE c =
    let F = mark-first _ _ _ _ _
    c.requires
    c.note-tail.ensures.1
    c.note-tail.ensures.0 in
    let M = c.loop-head.invariant _
    c.requires F in
    let b = bounds _ _ _ F.held in
    let l = source-low _ _ _ _ _ _ _ _ M c.if-next-eq-NO_EDGE.false _ _
    (along-place _ _ _ _ _ _ _ _ M c.if-next-eq-NO_EDGE.false _ _ (omega (
      arith,
      c.at-end.ensures,
    ))
    c.link_place.ensures)
    c.at-v.ensures in
    (omega (arith, few-queued _ _ _ _ _ M.queued, M.held.room), (omega (arith, M.held.room), omega arith))

pub loop-head-smaller : goal.loop-head-smaller
loop-head-smaller c =
    let F = mark-first _ _ _ _ _
    c.requires
    c.note-tail.ensures.1
    c.note-tail.ensures.0 in let M =
    c.loop-head.invariant _
    c.requires F in
    let b = bounds _ _ _ F.held in
    let l = after_less _ _ _ _ _ _ _ _ M c.if-next-eq-NO_EDGE.false _ _
    (along-place _ _ _ _ _ _ _ _ M c.if-next-eq-NO_EDGE.false _ _
    (omega (
      arith,
      c.at-end.ensures,
    ))
    c.link_place.ensures)
    c.at-v.ensures in
    omega arith

pub loop-head-preserved : goal.loop-head-preserved
loop-head-preserved c =
    λ v U M. let b = bounds _ _ _ M.held in let L =
    c.loop-head.invariant v U M in
    mark-along _ _ _ _ _ _ _ _ L c.if-next-eq-NO_EDGE.false _ _
    (along-place _ _ _ _ _ _ _ _ L c.if-next-eq-NO_EDGE.false _ _ (omega
    (arith, c.at-end.ensures))
    c.link_place.ensures)
    c.at-v.ensures _ _ c.note-tail-else-next-eq-NO_EDGE.ensures.1
    c.note-tail-else-next-eq-NO_EDGE.ensures.0 U.end

pub returns : goal.returns
returns c = λ U. mark-last _ _ _ _ _ _ _ _ U.single (c.loop-head.invariant _ U (mark-first _ _ _ _ _ U
    c.note-tail.ensures.1
    c.note-tail.ensures.0)) c.loop-head-test.false
