-- One step of each recursion, as the code takes it: the last argument, or the first of those that are left.
use Rattle.std.proofs.Common.{◌≡◌, ℕ, zero, suc, ◌+◌, ◌-◌, ◌<◌, List, leb, refl, arith}
use native.Mathlib.Numerals.{sub-one}
use Rattle.language.specs.Choice.{pick}
use Rattle.states_positions.specs.Row.{part_of, part_weight, part_class, part_values, sum_of}
use Rattle.states_positions.specs.Types.{answers_of}
use Rattle.states_positions.specs.declared.Out.TheVariants.{Stuck}
use Rattle.states_positions.specs.declared.Spot.TheVariants.{Here}
use Rattle.states_names.specs.Name.{copies_of, arg_spots, reply_here, reply_of, arg_here, in_args}

pub spots_none : (t : List ℕ) (at j n : ℕ) → n ≡ 0 → arg_spots t at j n ≡ 0
unfolding arg_spots
spots_none t at j n e = rw e refl

pub spots_step : (t : List ℕ) (at j n : ℕ) → 0 < n →
    arg_spots t at j n ≡ sum_of (copies_of t at j) (arg_spots t at (j + 1) (n - 1))
unfolding arg_spots
spots_step t at j zero h = absurd (omega arith)
spots_step t at j (suc n) h = simp sub-one

pub reply_none : (t : List ℕ) (id at j n k next : ℕ) → n ≡ 0 → reply_of t id at j n k next ≡ Stuck
unfolding reply_of
reply_none t id at j n k next e = rw e refl

pub reply_step : (t : List ℕ) (id at j n k next : ℕ) → 0 < n → reply_of t id at j n k next ≡
    pick (leb (answers_of (part_class t at j) (part_values t at j)) k)
    (reply_of t id at (sum_of j 1) (n - 1) (k - answers_of (part_class t at j) (part_values t at j)) next)
    (reply_here id (part_class t at j) (part_values t at j) (sum_of j 1) k next)
unfolding reply_of
reply_step t id at j zero k next h = absurd (omega arith)
reply_step t id at j (suc n) k next h = simp sub-one

pub args_none : (t : List ℕ) (at j n k base after : ℕ) → n ≡ 0 → in_args t at j n k base after ≡ Here Stuck
unfolding in_args
args_none t at j n k base after e = rw e refl

pub args_step : (t : List ℕ) (at j n k base after : ℕ) → 0 < n → in_args t at j n k base after ≡
    pick (leb (copies_of t at j) k)
    (in_args t at (sum_of j 1) (n - 1) (k - copies_of t at j) (sum_of base (copies_of t at j))
    (sum_of after (answers_of (part_class t at j) (part_values t at j))))
    (arg_here (part_of t at j) (part_class t at j) (part_values t at j) (part_weight t at j) k base after)
unfolding in_args
args_step t at j zero k base after h = absurd (omega arith)
args_step t at j (suc n) k base after h = simp sub-one
