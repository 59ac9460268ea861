-- How much follow, compare and look ask to be lent, and how many words card does. Document 01, "Three services";
-- document 02, [9] for look, [12] for card, [11]: "Where Z is above 7, working words are 128 for each position counted
-- where 01 says 32; up to 7 the old figure stands". SHEETS 8.3, 8.4, 8.7 and 8.9.
use Rattle.std.specs.Prelude.{ℕ, ◌+◌, ◌*◌, ◌-◌, ltb}
use Rattle.language.specs.declared.Numbers.{Numbers}
use Rattle.language.specs.Choice.{pick}
use Rattle.sheet_records.specs.Limits.{earlier_z}

-- how many words are asked for each state, and how many bytes of play space for each move
unfoldable pub words_a_state : Numbers → ℕ
words_a_state N = pick (ltb earlier_z N.z) 128 32

abbrev pub bytes_a_move : ℕ
bytes_a_move = 4

-- words that are asked for, for sizes that add up to n, and bytes of play space
unfoldable pub words_asked : Numbers → ℕ → ℕ
words_asked N n = words_a_state N * (n + 1)

abbrev pub bytes_asked : ℕ → ℕ
bytes_asked n = bytes_a_move * (n - 1)
