-- The values of number data in the order of their signed bytes (document 01, "Move records and their order"). Document
-- 02, [8]: minus infinity is -127, infinity 126, not-a-number 127; so the one comes before -Z to Z, the others after.
-- SHEETS 6.2.
use Rattle.std.specs.Prelude.{ℕ, ◌+◌, ◌-◌, ◌<◌, ◌≡◌, eqb, leb, ltb, pos, ◌-ℤ◌, ◌<ℤ◌}
use Rattle.language.specs.declared.Numbers.{Numbers}
use Rattle.language.specs.Choice.{pick}
use Rattle.language.specs.Number.{infinities, finites, numbers, byte_count, signed}

-- the place of -Z among the values, which are counted from 0: minus infinity comes before it, where there is one
unfoldable pub first_number : Numbers → ℕ
first_number N = pick (eqb N.rule infinities) 1 0

-- the value at place r; infinity and not-a-number come after the numbers, as their codes do
unfoldable pub code_at : Numbers → ℕ → ℕ
code_at N r =
    pick (ltb r (first_number N)) (finites N)
    (pick (ltb (r - first_number N) N.z) (r - first_number N + N.z + 1)
    (pick (ltb (r - first_number N) (finites N)) (r - first_number N - N.z) r))

-- the ranks of the value 0, of minus infinity, of infinity and of not-a-number
abbrev pub RANK-ZERO : ℕ
RANK-ZERO = 128

abbrev pub RANK-LEAST : ℕ
RANK-LEAST = 1

abbrev pub RANK-GREATEST : ℕ
RANK-GREATEST = 254

abbrev pub RANK-NONE : ℕ
RANK-NONE = 255

-- the rank of a value: the signed value plus 128
unfoldable pub rank : Numbers → ℕ → ℕ
rank N v =
    pick (leb v N.z) (RANK-ZERO + v)
    (pick (ltb v (finites N)) (RANK-ZERO + v - finites N)
    (pick (eqb v (finites N)) RANK-LEAST (pick (eqb v (finites N + 1)) RANK-GREATEST RANK-NONE)))

-- the value with a rank
unfoldable pub unranked : Numbers → ℕ → ℕ
unranked N r =
    pick (eqb r RANK-LEAST) (finites N)
    (pick (eqb r RANK-GREATEST) (finites N + 1)
    (pick (eqb r RANK-NONE) (finites N + 2)
    (pick (leb RANK-ZERO r) (r - RANK-ZERO) (r + finites N - RANK-ZERO))))

-- that this is the order, under every rule
pub record InOrder (N : Numbers) : Type 0 where
  -- at each place there is a value, and each value has a place
  pub value : (r : ℕ) → r < numbers N → code_at N r < numbers N
  pub place : (v : ℕ) → v < numbers N → (r : ℕ) × (r < numbers N) × (code_at N r ≡ v)
  -- signed values rise with the places
  pub rising : (r s : ℕ) → r < s → s < numbers N → signed N (code_at N r) <ℤ signed N (code_at N s)
  -- a rank is the signed value plus 128, and a byte; it tells the value
  pub ranked : (v : ℕ) → v < numbers N → signed N v ≡ pos (rank N v) -ℤ pos RANK-ZERO
  pub byte : (v : ℕ) → v < numbers N → rank N v < byte_count
  pub again : (v : ℕ) → v < numbers N → unranked N (rank N v) ≡ v
