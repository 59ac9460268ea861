-- Whole numbers from -Z to Z, and their codes. Document 01, "The sheet, byte by byte": "Byte 0 is Z .. the whole
-- numbers are -Z to Z. Byte 1 is the overflow rule". Document 02, [8]: "Overflow rule 2 has three more values". SHEETS
-- 2.1 and 5.1.
--
-- Inside, a value is a code. A truth is its own code, 0 or 1. A number v has the code v modulo 2Z + 1: 0 to Z are
-- themselves, then come -Z to -1. So false and 0 have the code 0, and a truth's code is also that of a number. After
-- the numbers come minus infinity, infinity and not-a-number, which only rule 2 has.
use Rattle.std.specs.Prelude.{ℕ, suc, ◌+◌, ◌-◌, ◌*◌, ◌%◌, Bool, true, eqb, leb, ltb, ℤ, pos, negsuc, ◌-ℤ◌}
use Rattle.language.specs.declared.Numbers.{Numbers}
use Rattle.language.specs.Choice.{pick}

-- the overflow rules by their numbers: what becomes of a result outside -Z to Z. It has no play; a multiple of 2Z + 1
-- is added or taken away; it becomes an infinity
abbrev pub no_play : ℕ
no_play = 0

abbrev pub turning : ℕ
turning = 1

abbrev pub infinities : ℕ
infinities = 2

-- how many numbers there are from -Z to Z
unfoldable pub finites : Numbers → ℕ
finites N = 2 * N.z + 1

-- how many more values a rule has
unfoldable pub extras : Numbers → ℕ
extras N = pick (eqb N.rule infinities) 3 0

-- how many values there are: K of number data (document 01, "Reckoned size"; document 02, [8]: "so K for numbers is
-- 2Z + 4")
unfoldable pub numbers : Numbers → ℕ
numbers N = finites N + extras N

-- the classes of values
abbrev pub finite : ℕ
finite = 0

abbrev pub minus_infinity : ℕ
minus_infinity = 1

abbrev pub infinity : ℕ
infinity = 2

abbrev pub not_a_number : ℕ
not_a_number = 3

-- the class of the value with a code
unfoldable pub class_of : Numbers → ℕ → ℕ
class_of N c =
    pick (ltb c (finites N)) finite
    (pick (eqb c (finites N)) minus_infinity (pick (eqb c (finites N + 1)) infinity not_a_number))

-- the code of the value of a class that is not finite
unfoldable pub special : Numbers → ℕ → ℕ
special N k = 2 * N.z + k

-- the remainder of a division rounded down: from 0 up to, but not including, n
unfoldable pub modulo : ℤ → ℕ → ℕ
modulo (pos a) n = a % n
modulo (negsuc a) n = n - suc (a % n)

-- the code of a number; of one outside -Z to Z, the code of the one that differs from it by a multiple of 2Z + 1
unfoldable pub code : Numbers → ℤ → ℕ
code N v = modulo v (finites N)

-- the number that has a code; "minus infinity (byte -127), infinity (126) and not-a-number (127)"
unfoldable pub signed : Numbers → ℕ → ℤ
signed N c =
    pick (leb c N.z) (pos c)
    (pick (ltb c (finites N)) (pos c -ℤ pos (finites N))
    (pick (eqb c (finites N)) (negsuc 126) (pick (eqb c (finites N + 1)) (pos 126) (pos 127))))

-- the first byte that stands for a negative number, in two's complement
abbrev pub negative : ℕ
negative = 128

-- how many bytes there are
abbrev pub byte_count : ℕ
byte_count = 256

-- the number that a byte stands for, in two's complement
unfoldable pub from_byte : ℕ → ℤ
from_byte b = pick (ltb b negative) (pos b) (pos b -ℤ pos byte_count)

-- the byte of a number
unfoldable pub to_byte : ℤ → ℕ
to_byte v = modulo v byte_count

-- whether a byte stands for a number from -Z to Z
unfoldable pub in_range : Numbers → ℕ → Bool
in_range N b = pick (leb b N.z) true (leb (byte_count - N.z) b)
