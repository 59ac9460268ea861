-- That the words that are asked for hold the automata.
use Prim.Native.Nat.{ℕ, ◌+◌, ◌≤◌}
use native.Mathlib.Omega.{arith}
use native.Mathlib.Nat.{mul-le-mul_right}
use Rattle.language.specs.declared.Numbers.{Numbers}
use Rattle.sheet_records.specs.Limits.{greatest_z}
use Rattle.states_words.specs.inner.Sheets.{Suffices}
use Rattle.serve_conditions.specs.Lent.{words_asked}
use Rattle.serve_conditions.proofs.Figures.{enough}

-- the words that are asked for suffice for the states
pub asked-suffices : (N : Numbers) (n : ℕ) {k : ℕ} → N.z ≤ greatest_z → words_asked N n ≤ k → Suffices N (n + 1) k
unfolding words_asked
asked-suffices N n z h =
    let e = enough N z in
    record {
      graph = omega (arith, h, mul-le-mul_right (n + 1) e.0);
      links = omega (arith, h, mul-le-mul_right (n + 1) e.1);
    }
