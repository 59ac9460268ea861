-- `sign_places` goes from place to place.
use Prim.Native.Nat.{◌<◌}
use native.Mathlib.Omega.{arith}
use Rattle.dfa_splitting.proofs.laws.Signs.{p-low, places-again, places-last}
use Rattle.dfa_splitting.proofs.laws.Signs.{places-room, places-signing}
use Rattle.dfa_splitting.proofs.split.sign_places.Goals as goal

pub sign-v-requires : goal.sign-v-requires
sign-v-requires c = let D = c.loop-i.invariant _ _
    c.requires.able in (
      _,
      (
        _,
        (
          _,
          places-signing _ _ _ _ _ _ c.args.till _
              c.requires.able _ _ D (omega (
                arith,
                c.loop-i-test.true,
                c.requires.top,
              )) _ c.member-p.ensures,
        ),
      ),
    )

pub overflow_add-g-in-loop-i : goal.overflow_add-g-in-loop-i
overflow_add-g-in-loop-i c = let D = c.loop-i.invariant _ _
    c.requires.able in let z =
    c.requires.able.packed.sized in
    omega (
      arith,
      z.few,
      z.behind,
      z.edges,
      p-low _ _ _ _ _ _
          c.args.till _
          c.requires.able _ _ D (omega (
            arith,
            c.loop-i-test.true,
            c.requires.top,
          )) _
          c.member-p.ensures,
    )

pub put-requires : goal.put-requires
put-requires c = let D = c.loop-i.invariant _ _
    c.requires.able in
    let r = places-room _ _ _ _ _ _ c.args.till _
    c.requires.able _ _ D (omega (
      arith,
      c.loop-i-test.true,
      c.requires.top,
    )) _
    c.member-p.ensures in
    (r.1.1, omega (arith, c.sign-v.ensures.0))

pub loop-i-preserved : goal.loop-i-preserved
loop-i-preserved c = λ G cls A. let D = c.loop-i.invariant G cls A in
    let l : c.loop-i.i < c.args.n = omega (arith, c.loop-i-test.true, c.requires.top) in
    places-again _ _ _ _ _ _ c.args.till _ A _ _ D l _ c.member-p.ensures _
    (c.sign-v.ensures.1 _ _ _ (places-signing _ _ _ _ _ _ c.args.till _ A _ _ D l _ c.member-p.ensures))
    _ c.put.ensures

pub returns : goal.returns
returns c = λ G cls A. places-last _ _ _ _ _ _ _ _ A _ _ (c.loop-i.invariant G cls A)
    (c.loop-i.auto.i-end c.requires.order) c.loop-i-test.false
