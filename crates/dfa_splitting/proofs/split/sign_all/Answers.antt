-- `sign_all` goes through the listed classes.
use native.Mathlib.Omega.{arith}
use Rattle.dfa_splitting.proofs.laws.Refining.{d-class, d-touched, signs-able, signs-again, signs-asks}
use Rattle.dfa_splitting.proofs.laws.Refining.{signs-last, signs-listed, till-low}
use Rattle.dfa_splitting.proofs.split.sign_all.Goals as goal

pub listed-d-requires : goal.listed-d-requires
listed-d-requires c = let T = c.requires.1.touched in
    signs-listed _ _ _ _ _ _ _ _ T _ _ (c.loop-x.invariant _ _ _ T) c.loop-x-test.true

pub from-start-requires : goal.from-start-requires
from-start-requires c = let T = c.requires.1.touched in
    d-class _ _ _ _ _ _ _ _ T _ _ (c.loop-x.invariant _ _ _ T)
    c.loop-x-test.true _ c.listed-d.ensures

pub touched-requires : goal.touched-requires
touched-requires c = let T = c.requires.1.touched in
    d-touched _ _ _ _ _ _ _ _ T _ _ (c.loop-x.invariant _ _ _ T)
    c.loop-x-test.true _ c.listed-d.ensures

pub overflow_add-till : goal.overflow_add-till
overflow_add-till c = let T = c.requires.1.touched in let D
    = c.loop-x.invariant _ _ _ T in omega (
      arith,
      till-low _ _ _ _ _ _ _ _ T _ _ D c.loop-x-test.true _
          c.listed-d.ensures,
      (d-class _ _ _ _ _ _ _ _ T _ _ D c.loop-x-test.true _
          c.listed-d.ensures).1.0,
      c.from-start.ensures,
      c.touched.ensures,
    )

pub sign_places-requires : goal.sign_places-requires
sign_places-requires c = let T =
    c.requires.1.touched in
    signs-asks _ _ _ _ _ _ _ _ T _ _ (c.loop-x.invariant _ _ _
    T) c.loop-x-test.true _
    c.listed-d.ensures _ _
    c.from-start.ensures (omega (
      arith,
      c.from-start.ensures,
      c.touched.ensures,
    ))

pub loop-x-preserved : goal.loop-x-preserved
loop-x-preserved c = λ G cls count T. let D =
    c.loop-x.invariant G cls count T
    in
    signs-again _ _ _ _ _ _ _ _ T _ _ D
    c.loop-x-test.true _
    c.listed-d.ensures _ _
    c.from-start.ensures
    (omega (
      arith,
      c.from-start.ensures,
      c.touched.ensures,
    )) _
    (c.sign_places.ensures _ _ (signs-able _ _ _ _ _ _ _ _ T _ _ D
    c.loop-x-test.true _
    c.listed-d.ensures))

pub returns : goal.returns
returns c = λ G cls count T. signs-last _ _ _ _ _ _ _ _ T _ _ (c.loop-x.invariant G cls count T) c.loop-x-test.false
