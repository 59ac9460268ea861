-- Weights held at 4,097, as the code keeps them: a sum or product over 4,096 is over 4,096 in the end (document 01,
-- "Reckoned size").
use Rattle.std.specs.Prelude.{ℕ, min, ◌≡◌}
use Rattle.sheet_records.specs.Limits.{held_at}
use Rattle.sheet_written.specs.Form.{Form}

unfoldable pub held : ℕ → ℕ
held n = min n held_at

pub record SameForm (f g : Form) : Type 0 where
  pub constants : f.constant ≡ g.constant
  pub coefficients : (s : ℕ) → f.of s ≡ g.of s
