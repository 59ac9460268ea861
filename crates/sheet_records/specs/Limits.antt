-- The limits of sheets by name, each in this place alone. Document 01, "The sheet, byte by byte" and "Reckoned size";
-- document 02 [1] for procedures, [8] for the overflow rule, [11] for Z. SHEETS 2 and 7.3.
use Rattle.std.specs.Prelude.{ℕ}

-- Z is from 1 to this number
abbrev pub greatest_z : ℕ
greatest_z = 31

-- the greatest Z of document 01: "up to 7 the old figure stands"
abbrev pub earlier_z : ℕ
earlier_z = 7

-- the overflow rule is from 0 to this number
abbrev pub greatest_rule : ℕ
greatest_rule = 2

-- how many bytes and how many name records a sheet may have
abbrev pub most_bytes : ℕ
most_bytes = 4096

abbrev pub most_names : ℕ
most_names = 32

-- how deep its term may be, and its greatest reckoned size
abbrev pub greatest_depth : ℕ
greatest_depth = 32

abbrev pub greatest_size : ℕ
greatest_size = 4096

-- where weights and sizes are held: what is over the greatest size stays over it
abbrev pub held_at : ℕ
held_at = 4097

-- where ranges of bytes end, each with the first number that is outside: bytes, ids, types, counts of arguments or
-- parameters, truths, operators, data of a new
abbrev pub bytes : ℕ
bytes = 256

abbrev pub ids : ℕ
ids = 255

abbrev pub types : ℕ
types = 5

abbrev pub counts : ℕ
counts = 5

abbrev pub truths : ℕ
truths = 2

abbrev pub operators : ℕ
operators = 9

abbrev pub data_types : ℕ
data_types = 3

-- the byte of an argument type or a parameter that is not there
abbrev pub not_there : ℕ
not_there = 255
