-- `refine` takes the classes as splitters, one after the other.
use mathlib.Core.Path.{◌∙◌, refl}
use native.Mathlib.Omega.{arith}
use Rattle.dfa_splitting.proofs.laws.Refining.{refine-again, refine-first, refine-last, turn-few, turn-touched}
use Rattle.dfa_splitting.proofs.laws.Refining.{turn-touching}
use Rattle.dfa_classes.proofs.laws.Touching.{few-classes}
use Rattle.dfa_sorting.proofs.refine.refine.Goals as goal

pub loop-s-init : goal.loop-s-init
loop-s-init c = ((λ G f R. refine-first _ _ _ R.single R.low _ _ R), refl)

pub touch_all-m-requires : goal.touch_all-m-requires
touch_all-m-requires c = let R = c.requires.refinable in let S =
    c.loop-s.invariant.0 _ _ R in
    record {
      graph = c.requires.graph;
      own = S.own;
      count = c.loop-s.count;
      touching = turn-touching _ _ _ R.single R.low _ _ _ _ S c.loop-s-test.true;
      low = c.loop-s-test.true;
    }

pub split_all-k-requires : goal.split_all-k-requires
split_all-k-requires c = let R = c.requires.refinable in
    let S = c.loop-s.invariant.0 _ _ R in
    let A = c.touch_all-m.ensures _ _ _ (turn-touching _ _ _ R.single R.low _ _ _ _ S
    c.loop-s-test.true)
    c.loop-s-test.true in
    record {
      graph = c.requires.graph;
      cls = S.own;
      touched = turn-touched _ _ _ R.single R.low _ _ _ _ S
          c.loop-s-test.true _ _ A;
    }

pub rename-requires : goal.rename-requires
rename-requires c = let R =
    c.requires.refinable in
    let S = c.loop-s.invariant.0 _ _ R in
    let A = c.touch_all-m.ensures _ _ _ (turn-touching _ _ _
    R.single R.low _ _ _ _ S
    c.loop-s-test.true)
    c.loop-s-test.true in
    let B = c.split_all-k.ensures _ _ (turn-touched _ _ _ R.single R.low _ _ _ _ S
    c.loop-s-test.true _ _ A) in
    let a = turn-few _ _ _ R.single R.low _ _ _ _ S
    c.loop-s-test.true _ _ A _ _ B in
    record { own = B.cur; parted = B.parting.parted; few = a.0; room = a.1.0 }

pub overflow_add-s : goal.overflow_add-s
overflow_add-s c = let R =
    c.requires.refinable
    in let S =
    c.loop-s.invariant.0
    _ _ R in let z = S.ready.packed.sized in
    omega (
      arith,
      c.loop-s-test.true,
      few-classes _ _ _ _ S.ready.parted,
    )

pub loop-s-smaller : goal.loop-s-smaller
loop-s-smaller c = let R =
    c.requires.refinable
    in let S =
    c.loop-s.invariant.0
    _ _ R in let z = S.ready.packed.sized in
    omega (
      arith,
      c.loop-s-test.true,
      few-classes _ _ _ _ S.ready.parted,
    )

pub loop-s-preserved : goal.loop-s-preserved
loop-s-preserved c = (
  (λ G f R. let S =
      c.loop-s.invariant.0
      G f R in
      let A = c.touch_all-m.ensures _ _
      _ (turn-touching _ _ _ R.single R.low _ _ _ _ S
      c.loop-s-test.true)
      c.loop-s-test.true
      in
      let B = c.split_all-k.ensures _ _ (turn-touched _ _ _ R.single
      R.low _ _ _ _ S
      c.loop-s-test.true
      _ _ A) in
      refine-again _ _ _ R.single R.low _ _ _ _ S
      c.loop-s-test.true
      _ _ A _ _ B _
      (c.rename.ensures _ B.parting.parted)),
  (let R =
      c.requires.refinable
      in let S =
      c.loop-s.invariant.0
      _ _ R in
      let A = c.touch_all-m.ensures _ _
      _ (turn-touching _ _ _ R.single R.low _ _ _ _ S
      c.loop-s-test.true)
      c.loop-s-test.true
      in
      let B = c.split_all-k.ensures _ _ (turn-touched _ _ _ R.single
      R.low _ _ _ _ S
      c.loop-s-test.true
      _ _ A) in
      let N = c.rename.ensures _ B.parting.parted in N.len ∙ B.len ∙ A.len ∙
      c.loop-s.invariant.1),
)

pub returns : goal.returns
returns c = λ G f R. refine-last _ _ _ R.single R.low _ _ _ _ (c.loop-s.invariant.0 G f R) c.loop-s-test.false
