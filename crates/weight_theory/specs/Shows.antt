-- What a form of the stack shows: a form held at 4,097. Document 02 [1], "Reckoned size".
use Rattle.std.specs.Prelude.{ℕ, ◌≤◌, ◌<◌, List, ◌≡◌, length, get_or}
use Rattle.sheet_written.specs.Form.{Form}
use Rattle.sheet_written.specs.Held.{held}
use Rattle.weight_theory.specs.Stack.{form_words, spot, form_word, coefficient_of}

-- how many parameters may enclose a part
abbrev pub most_parameters : ℕ
most_parameters = 128

-- the greatest number of a parameter
abbrev pub last_parameter : ℕ
last_parameter = 127

pub record Shows (t : List ℕ) (row : ℕ) (f : Form) : Type 0 where
  pub few : form_word t row 0 ≤ most_parameters
  pub constant : form_word t row 1 ≡ held f.constant
  pub coefficients : (s : ℕ) → coefficient_of t row s ≡ held (f.of s)

-- all words but those of one form are as they were
pub record OnlyForm (t t' : List ℕ) (row : ℕ) : Type 0 where
  pub long : length t' ≡ length t
  pub before : (i : ℕ) → i < spot row 0 → get_or t' i 0 ≡ get_or t i 0
  pub after : (i : ℕ) → spot row form_words ≤ i → get_or t' i 0 ≡ get_or t i 0
