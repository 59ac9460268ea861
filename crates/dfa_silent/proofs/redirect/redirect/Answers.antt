-- `redirect` keeps what `Redirected` says.
use native.Mathlib.Omega.{arith}
use Rattle.dfa_silent.proofs.laws.Settle.{scan, redirect-first, redirect-whole, redirect-target, ended-lt}
use Rattle.dfa_silent.proofs.laws.Settle.{redirect-again}
use Rattle.dfa_silent.proofs.redirect.redirect.Goals as goal

pub loop-i-init : goal.loop-i-init
loop-i-init c =
    redirect-first _ _ _ c.requires.0 c.at-first.ensures

pub at-x-requires : goal.at-x-requires
at-x-requires c = let s = scan c.args.n
    c.args.words.now
    c.requires.0 in
    omega (arith, c.at-end.ensures, c.loop-i.invariant.len)

pub settled_at-y-requires : goal.settled_at-y-requires
settled_at-y-requires c = (
  redirect-whole _ _ _ _
      c.requires.1
      c.loop-i.invariant,
  redirect-target _ _ _ _ _
      c.requires.0
      c.loop-i.invariant
      (omega (arith, c.at-end.ensures)) c.at-x.ensures,
)

pub put-requires : goal.put-requires
put-requires c = let s = scan
    c.args.n
    c.args.words.now c.requires.0
    in (
      omega (
        arith,
        c.at-end.ensures,
        c.loop-i.invariant.len,
      ),
      omega (
        arith,
        s.few,
        c.settled_at-y.ensures,
        ended-lt _ _ _ (redirect-whole _ _ _ _
            c.requires.1
            c.loop-i.invariant) (redirect-target _ _ _ _ _
            c.requires.0
            c.loop-i.invariant
            (omega (arith, c.at-end.ensures))
            c.at-x.ensures),
      ),
    )

pub loop-i-preserved : goal.loop-i-preserved
loop-i-preserved c = redirect-again _ _ _ _ _ _ _
    c.requires.0 c.loop-i.invariant
    (omega (arith, c.at-end.ensures))
    c.at-x.ensures
    c.settled_at-y.ensures c.put.ensures
