-- What an operator on numbers gives, by the class of each operand, four by four. Document 02, [8]. A row is the class
-- of the left operand, a column that of the right one: finite, minus infinity, infinity, not-a-number. SHEETS 5.5.
use Rattle.std.specs.Prelude.{ℕ, List, [], ◌∷◌, get_or}

-- a row of a table, and an entry
abbrev row : ℕ → ℕ → ℕ → ℕ → List ℕ
row a b c d = a ∷ b ∷ c ∷ d ∷ []

abbrev pub entry : List (List ℕ) → ℕ → ℕ → ℕ
entry t a b = get_or (get_or t a []) b 0

-- the entry where arithmetic decides; else, of the first four tables, the class of the result
abbrev pub arithmetic : ℕ
arithmetic = 0

abbrev pub sums : List (List ℕ)
sums = row 0 1 2 3 ∷ row 1 1 3 3 ∷ row 2 3 2 3 ∷ row 3 3 3 3 ∷ []

abbrev pub differences : List (List ℕ)
differences = row 0 2 1 3 ∷ row 1 3 1 3 ∷ row 2 2 3 3 ∷ row 3 3 3 3 ∷ []

-- of a finite number and an infinity, arithmetic decides by the sign of their product
abbrev pub products : List (List ℕ)
products = row 0 0 0 3 ∷ row 0 2 1 3 ∷ row 0 1 2 3 ∷ row 3 3 3 3 ∷ []

abbrev pub remainders : List (List ℕ)
remainders = row 0 3 3 3 ∷ row 3 3 3 3 ∷ row 3 3 3 3 ∷ row 3 3 3 3 ∷ []

-- of the last two tables, the truth of the result
abbrev pub no : ℕ
no = 1

abbrev pub yes : ℕ
yes = 2

abbrev pub below : List (List ℕ)
below = row 0 1 2 1 ∷ row 2 1 2 1 ∷ row 1 1 1 1 ∷ row 1 1 1 1 ∷ []

abbrev pub alike : List (List ℕ)
alike = row 0 1 1 1 ∷ row 1 2 1 1 ∷ row 1 1 2 1 ∷ row 1 1 1 1 ∷ []
