-- Words of the table of parts, and sums and products that may be too large.
use Rattle.std.specs.Prelude.{ℕ, ◌+◌, ◌*◌, ◌/◌, ◌%◌, ◌≡◌, List, length, ltb}
use Rattle.language.specs.Choice.{pick}
use Rattle.sheet_rows.specs.Row.{word}
use Rattle.sheet_rows.specs.PartKind.{WEIGHT, CLASS, VALUES, DETAIL, PARTS, ID-SPAN, COUNT-SPAN, ONCE}
use Rattle.term_closing.specs.Rows.{TERM-WORDS}

-- the words of all rows of a term, as the code has them
abbrev pub Long : List ℕ → Type 0
Long t = length t ≡ TERM-WORDS

-- the place of part j
abbrev pub part_of : List ℕ → ℕ → ℕ → ℕ
part_of t at j = word t at (PARTS + j)

-- its weight, its class and its number of values
unfoldable pub part_weight : List ℕ → ℕ → ℕ → ℕ
part_weight t at j = word t (part_of t at j) WEIGHT

unfoldable pub part_class : List ℕ → ℕ → ℕ → ℕ
part_class t at j = word t (part_of t at j) CLASS

unfoldable pub part_values : List ℕ → ℕ → ℕ → ℕ
part_values t at j = word t (part_of t at j) VALUES

-- the id of a name, how many arguments it has, and how many second waits
unfoldable pub name_id : List ℕ → ℕ → ℕ
name_id t at = word t at DETAIL % ID-SPAN

unfoldable pub name_count : List ℕ → ℕ → ℕ
name_count t at = word t at DETAIL / ID-SPAN % COUNT-SPAN

unfoldable pub name_spent : List ℕ → ℕ → ℕ
name_spent t at = word t at DETAIL / ONCE

-- how many numbers a word of 16 bits can be
abbrev pub SHORTS : ℕ
SHORTS = 65536

-- how many numbers a word of 32 bits can be
abbrev pub LONGS : ℕ
LONGS = 4294967296

-- numbers below this are added, and those below the next are multiplied: sum and product are words of 32 bits
abbrev pub SUM-LIMIT : ℕ
SUM-LIMIT = 2147483648

abbrev pub FACTOR-LIMIT : ℕ
FACTOR-LIMIT = 65536

-- a + b, and 0 where one of them is too large
unfoldable pub sum_of : ℕ → ℕ → ℕ
sum_of a b = pick (ltb a SUM-LIMIT) (pick (ltb b SUM-LIMIT) (a + b) 0) 0

-- x * w + n, and 0 where one of them is too large
unfoldable pub mul_add_of : ℕ → ℕ → ℕ → ℕ
mul_add_of x w n =
    pick (ltb x FACTOR-LIMIT) (pick (ltb w FACTOR-LIMIT) (pick (ltb n SUM-LIMIT) (x * w + n) 0) 0) 0
