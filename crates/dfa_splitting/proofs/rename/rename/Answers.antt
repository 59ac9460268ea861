-- `rename` goes through the new classes.
use native.Mathlib.Omega.{arith}
use Rattle.dfa_splitting.proofs.laws.Renaming.{still-parted, upto-again}
use Rattle.dfa_splitting.proofs.rename.rename.Goals as goal

pub rename_one-requires : goal.rename_one-requires
rename_one-requires c = let Q = c.requires in let I = c.loop-c.invariant _
    Q.parted in
    record {
      own = Q.own;
      count = c.args.k;
      parted = still-parted _ _ _ _ Q.parted _ _ _ I.1;
      low = c.loop-c-test.true;
      few = Q.few;
      room = omega (arith, Q.room, I.1.len);
    }

pub loop-c-preserved : goal.loop-c-preserved
loop-c-preserved c = λ own P. let I = c.loop-c.invariant own P in (
  omega (arith, I.0),
  upto-again _ _ _ _ P _ _ _ I.1 I.0 _
      (c.rename_one.ensures _ _ (still-parted _ _ _ _ P _ _ _ I.1)
      c.loop-c-test.true),
)
