-- `split` carves the groups off a class, one after the other.
use native.Mathlib.Omega.{arith}
use Rattle.dfa_splitting.proofs.laws.Splitting.{carve-first, class-asks, signed-set, split-last, state-able}
use Rattle.dfa_splitting.proofs.laws.Splitting.{state-again, state-asks, state-none, state-quick}
use Rattle.dfa_splitting.proofs.laws.Splitting.{touched-asks}
use Rattle.dfa_splitting.proofs.laws.Splitting.{zero-asks}
use Rattle.dfa_splitting.proofs.split.split.Goals as goal

pub from-start-requires : goal.from-start-requires
from-start-requires c = let Q = c.requires in class-asks _ _ _ _ _ _ _ _ _ Q.splitting _ Q.low Q.some

pub to-end-requires : goal.to-end-requires
to-end-requires c = let Q = c.requires in class-asks _ _ _ _ _ _ _ _ _ Q.splitting _
    Q.low Q.some

pub touched-requires : goal.touched-requires
touched-requires c = let Q = c.requires in touched-asks _ _ _ _ _ _ _ _ _
    Q.splitting _ Q.low Q.some

pub set_touched-requires : goal.set_touched-requires
set_touched-requires c = let Q = c.requires in zero-asks
    _ _ _ _ _ _ _ _ _ Q.splitting _ Q.low Q.some

pub group-mid-requires : goal.group-mid-requires
group-mid-requires c = let Q =
    c.requires
    in
    let Z = signed-set _ _ _ _ _ _ _ _ Q.signed (class-asks _ _ _ _ _ _ _ _ _ Q.splitting _ Q.low Q.some).0
    c.set_touched.ensures in
    let S = c.loop-low.invariant _ _ _ (carve-first _ _ _ _ _ _ _ _ _ Q.splitting _ Q.low Q.some _ _ _
    _ c.from-start.ensures
    c.to-end.ensures
    (omega (arith, c.touched.ensures))
    c.set_touched.ensures) Z in
    record {
      graph = Q.graph;
      own = S.cur;
      count = c.loop-low.m;
      c = c.loop-low.c;
      able = state-able _ _ _ _ _ _ _ _ _ _ _ _ _ _ S c.loop-low-test.true;
      quick = state-quick _ _ _ _ _ _ _ _ _ _ _ _ _ _ S c.loop-low-test.true Z;
    }

pub carve-c-requires : goal.carve-c-requires
carve-c-requires c =
    let set-touched-2 = c.set_touched
    in
    let Q =
    c.requires
    in
    let Z = signed-set _ _ _ _ _ _ _ _ Q.signed (class-asks _ _ _ _ _ _ _ _ _ Q.splitting _ Q.low Q.some).0
    set-touched-2.ensures in
    let S = c.loop-low.invariant _ _ _ (carve-first _ _ _ _ _ _ _ _ _
    Q.splitting _ Q.low Q.some _ _ _ _
    c.from-start.ensures
    c.to-end.ensures
    (omega (
      arith,
      c.touched.ensures,
    ))
    set-touched-2.ensures) Z
    in
    let D = c.group-mid.ensures _ _ _ _ (state-able _ _ _ _ _ _ _ _ _ _ _ _ _ _ S
    c.loop-low-test.true)
    (state-quick _ _ _ _ _ _ _ _ _ _ _ _ _ _ S c.loop-low-test.true
    Z) in
    state-asks _ _ _ _ _ _ _ _ _ _ _ _ _ _ S c.loop-low-test.true _ _ D
    c.if-mid-end.true

pub overflow_add-m : goal.overflow_add-m
overflow_add-m c =
    let set-touched-2 = c.set_touched in
    let Q =
    c.requires
    in
    let Z = signed-set _ _ _ _ _ _ _ _ Q.signed (class-asks _ _ _ _ _ _ _ _ _ Q.splitting _ Q.low Q.some).0
    set-touched-2.ensures
    in
    let S = c.loop-low.invariant _ _ _
    (carve-first _ _ _ _ _ _ _ _ _ Q.splitting _ Q.low Q.some _ _ _ _
    c.from-start.ensures
    c.to-end.ensures
    (omega (
      arith,
      c.touched.ensures,
    ))
    set-touched-2.ensures)
    Z in
    let D = c.group-mid.ensures _ _ _ _ (state-able _ _ _ _ _ _ _
    _ _ _ _ _ _ _ S c.loop-low-test.true)
    (state-quick _ _ _ _ _ _ _ _ _ _ _ _ _ _ S
    c.loop-low-test.true Z) in
    let a = state-asks _ _ _ _ _ _ _ _ _ _ _ _ _ _ S
    c.loop-low-test.true _ _ D
    c.if-mid-end.true in
    omega (arith, a.1.0, a.1.1.1.1.1.0)

pub loop-low-smaller-then-mid-end : goal.loop-low-smaller-then-mid-end
loop-low-smaller-then-mid-end c =
    let set-touched-2 = c.set_touched in
    let Q =
    c.requires
    in
    let Z = signed-set _ _ _ _ _ _ _ _ Q.signed (class-asks _ _ _ _ _ _ _ _ _ Q.splitting _ Q.low Q.some).0
    set-touched-2.ensures
    in
    let S = c.loop-low.invariant _ _ _
    (carve-first _ _ _ _ _ _ _ _ _ Q.splitting _ Q.low Q.some _ _ _ _
    c.from-start.ensures
    c.to-end.ensures
    (omega (
      arith,
      c.touched.ensures,
    ))
    set-touched-2.ensures)
    Z in
    let D = c.group-mid.ensures _ _ _ _ (state-able _ _ _ _ _ _ _
    _ _ _ _ _ _ _ S c.loop-low-test.true)
    (state-quick _ _ _ _ _ _ _ _ _ _ _ _ _ _ S
    c.loop-low-test.true Z) in
    omega (arith, D.start, c.loop-low-test.true)

pub loop-low-preserved-then-mid-end : goal.loop-low-preserved-then-mid-end
loop-low-preserved-then-mid-end c = λ G cls count F Z. let S =
    c.loop-low.invariant G cls count F Z in
    let D = c.group-mid.ensures _ _ _ _ (state-able _ _ _ _ _ _ _
    _ _ _ _ _ _ _ S c.loop-low-test.true)
    (state-quick _ _ _ _ _ _ _ _ _ _ _ _ _ _ S
    c.loop-low-test.true Z) in
    state-again _ _ _ _ _ _ _ _ _ _ _ _ _ _ S
    c.loop-low-test.true _ _ D
    c.if-mid-end.true _ _ c.carve-c.ensures

pub loop-low-preserved : goal.loop-low-preserved
loop-low-preserved c = λ G cls count F Z. let S = c.loop-low.invariant G cls count F Z
    in
    let D = c.group-mid.ensures _ _ _ _ (state-able _ _ _ _ _ _ _ _ _ _ _ _ _ _ S
    c.loop-low-test.true)
    (state-quick _ _ _ _ _ _ _ _ _ _ _ _ _ _ S c.loop-low-test.true Z) in
    state-none _ _ _ _ _ _ _ _ _ _ _ _ _ _ S c.loop-low-test.true _ _ D
    c.if-mid-end.false

pub returns : goal.returns
returns c = λ G cls count cur T Z l t. let S = c.loop-low.invariant G cls count (carve-first _ _ _ _ _ _ _ _ _ T _ l t _
    _ _ _
    c.from-start.ensures
    c.to-end.ensures (omega (
      arith,
      c.touched.ensures,
    ))
    c.set_touched.ensures)
    (signed-set _ _ _ _ _ _ _ _ Z (class-asks _ _ _ _ _ _ _ _ _ T _ l t).0
    c.set_touched.ensures) in
    split-last _ _ _ _ _ _ _ _ _ _ _ _ _ _ _ _ S c.loop-low-test.false
    c.set_touched.ensures
    (touched-asks _ _ _ _ _ _ _ _ _ T _ l t).0 (touched-asks _ _ _ _ _ _ _ _ _ T _ l t).1.1.1
