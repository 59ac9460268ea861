-- What `put_level` leaves is what `with_level` says.
use borrow.Author.Rules.{rules}
use native.Mathlib.Omega.{arith}
use Rattle.states_path.proofs.PathWords.{thirteen, fours}
use mathlib.Core.Path.{refl}
use Rattle.states_path.proofs.levels.put_level.Goals as goal

pub put_four-requires : goal.put_four-requires
put_four-requires c = (search rules, (fours _ c.requires.1).first)

pub put_four-requires-2 : goal.put_four-requires-2
put_four-requires-2 c = (search rules, (fours _ c.requires.1).second)

pub put_four-requires-3 : goal.put_four-requires-3
put_four-requires-3 c = (search rules, (fours _ c.requires.1).third)

pub overflow_cast-p : goal.overflow_cast-p
overflow_cast-p c =
    record {
      fits = omega (
        arith,
        (fours _ c.requires.1
            ).last,
      );
    }

pub returns : goal.returns
returns c = thirteen _ _ _ _ _ _ _ c.put_four.ensures c.put_four-2.ensures c.put_four-3.ensures refl
