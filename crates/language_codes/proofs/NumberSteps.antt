-- The remainder of a division rounded down, as the library has it.
use Rattle.std.proofs.Common.{◌≡◌, ℕ, ℤ, pos, negsuc, refl, ap, arith}
use Rattle.std.specs.Int.{int_rem_euclid}
use Rattle.language.specs.Number.{modulo}

pub rem_euclid_is : (v : ℤ) (n : ℕ) → int_rem_euclid v (pos n) ≡ pos (modulo v n)
unfolding modulo
rem_euclid_is (pos a) n = refl
rem_euclid_is (negsuc a) n = ap pos (omega arith)
