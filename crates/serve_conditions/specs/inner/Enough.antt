-- That the words asked for each state suffice.
use Rattle.std.specs.Prelude.{◌+◌, ◌*◌, ◌≤◌}
use Rattle.language.specs.declared.Numbers.{Numbers}
use Rattle.language.specs.Number.{numbers}
use Rattle.sheet_records.specs.Limits.{greatest_z}
use Rattle.serve_conditions.specs.Lent.{words_a_state}

-- the words that are asked for each state suffice for K numbers, whatever the range and the rule: 8 + K are enough for
-- the graph, and half of 10 + 3 K with the lists of edges by target
abbrev pub Enough : Type 0
Enough = (N : Numbers) → N.z ≤ greatest_z →
    (8 + numbers N ≤ words_a_state N) × (10 + 3 * numbers N ≤ 2 * words_a_state N)
