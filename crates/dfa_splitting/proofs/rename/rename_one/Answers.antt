-- `rename_one` goes through the places of a class.
use native.Mathlib.Omega.{arith}
use Rattle.dfa_splitting.proofs.laws.Renaming.{p-low, rename-asks}
use Rattle.dfa_splitting.proofs.rename.rename_one.Goals as goal

pub from-start-requires : goal.from-start-requires
from-start-requires c = rename-asks _ _ _ c.requires

pub to-end-requires : goal.to-end-requires
to-end-requires c = rename-asks _ _ _ c.requires

pub put-requires : goal.put-requires
put-requires c = let Q = c.requires in
    let I = c.loop-i.invariant _ _ Q.parted Q.low
    c.from-start.ensures in
    let l = p-low _ _ _ _ _ Q.parted Q.low _ _ _ I.1 (omega (
      arith,
      I.0,
      c.from-start.ensures,
    ))
    c.loop-i-test.true
    c.to-end.ensures _ c.member-p.ensures in
    let a = rename-asks _ _ _ Q in
    (omega (arith, l, Q.room, I.1.len), omega (arith, a.0, Q.few))
