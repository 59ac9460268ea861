-- `group` brings the states that go into the class as the first does to the front.
use native.Mathlib.Omega.{arith}
use mathlib.Core.Path.{refl}
use Rattle.dfa_splitting.proofs.laws.Grouping.{exchange-asks, group-bring, group-first}
use Rattle.dfa_splitting.proofs.laws.Grouping.{group-last, group-leave, group-pass, group-small, group-sure}
use Rattle.dfa_splitting.proofs.laws.Grouping.{pass-asks, same-asks}
use Rattle.dfa_splitting.proofs.split.group.Goals as goal
use Rattle.dfa_splitting.proofs.split.group.Goals.{else-copied-v, else-copied-v-via-else-copied-v}
use Rattle.dfa_splitting.proofs.split.group.Goals.{else-copied-v-via-then-copied-v+else-alike, then-copied-v+then-alike}

pub loop-i-init : goal.loop-i-init
loop-i-init c = λ G own count k A Q. group-first _ _ _ _ _ _ _ _ _ _ A _ refl

pub copied-requires : goal.copied-requires
copied-requires c = let D = c.loop-i.invariant _ _ _ _
    c.requires.able
    c.requires.quick in
    pass-asks _ _ _ _ _ _ _ _ _ _
    c.requires.able _ _ _ D
    c.loop-i-test.true _ _ c.member-p.ensures
    c.member-first.ensures

pub alike-requires : goal.alike-requires
alike-requires c =
    let asked = c.requires in
    let D = c.loop-i.invariant _ _ _ _
    asked.able
    asked.quick
    in (
      _,
      (
        _,
        same-asks _ _ _ _ _ _ _ _ _ _
            asked.able
            _ _ _ D c.loop-i-test.true _ _
            c.member-p.ensures
            c.member-first.ensures,
      ),
    )

pub exchange-requires : goal.exchange-requires
exchange-requires c =
    let asked = c.requires in
    let D =
    c.loop-i.invariant _ _ _ _
    asked.able
    asked.quick
    in
    exchange-asks _ _ _ _ _ _ _ _ _ _
    asked.able
    _ _ _ D c.loop-i-test.true _ _
    c.member-p.ensures
    c.member-first.ensures

pub overflow_add-end-then-alike : goal.overflow_add-end-then-alike
overflow_add-end-then-alike c =
    let asked = c.requires in
    let D =
    c.loop-i.invariant
    _ _ _ _
    asked.able
    asked.quick
    in
    omega (
      arith,
      group-small _ _ _ _ _ _ _ _ _ _
          asked.able,
      D.order,
      c.loop-i-test.true,
    )

pub loop-i-preserved : goal.loop-i-preserved
loop-i-preserved c =
    let still = c.loop-i-test.true in
    let from = c.member-p.ensures in
    let first = c.member-first.ensures in
    elim c.if-copied-v.branch [
      | then-copied-v+then-alike w ↦ rw (w.end-is, w.words-is) (λ G own count k A Q.
          let D = c.loop-i.invariant G own count k A Q in
          group-bring _ _ _ _ _ _ _ _ _ _ A _ _ _ D still _ _ from first _ _
          (w.alike.ensures G _ (same-asks _ _ _ _ _ _ _ _ _ _ A _ _ _ D still _ _ from first)
          (group-sure _ _ _ _ _ _ _ _ _ _ A _ _ _ D still _ _ from first _ _ Q c.copied-v.ensures c.copied.ensures
          w.if-copied-v.true))
          w.if-alike.true w.exchange.ensures)
      | else-copied-v w ↦ rw (w.end-is, w.words-is) (elim w.else-copied-v.branch [
        | else-copied-v-via-then-copied-v+else-alike v ↦ λ G own count k A Q.
            let D = c.loop-i.invariant G own count k A Q in
            group-leave _ _ _ _ _ _ _ _ _ _ A _ _ _ D still _ _ from first _
            (v.alike.ensures G _ (same-asks _ _ _ _ _ _ _ _ _ _ A _ _ _ D still _ _ from first)
            (group-sure _ _ _ _ _ _ _ _ _ _ A _ _ _ D still _ _ from first _ _ Q c.copied-v.ensures
            c.copied.ensures v.if-copied-v.true))
            v.if-alike.false
        | else-copied-v-via-else-copied-v v ↦ λ G own count k A Q.
            group-pass _ _ _ _ _ _ _ _ _ _ A _ _ _ (c.loop-i.invariant G own count k A Q) still _ _ from first _ _ Q
            c.copied-v.ensures c.copied.ensures v.if-copied-v.false
      ])
    ]

pub returns : goal.returns
returns c = λ G own count k A Q. group-last _ _ _ _ _ _ _ _ _ _ A _ _ _ (c.loop-i.invariant G own count k A Q)
    c.loop-i-test.false
