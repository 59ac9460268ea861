-- What of a record its parts are judged by. Only inner contracts cite it.
use Rattle.std.specs.Prelude.{ℕ}
use Rattle.sheet_records.specs.declared.kind.Rule.{Rule}
use Rattle.sheet_heads.specs.declared.head.Record.{Record}

-- a record of which only the place, the rule and the body bytes are known
unfoldable pub bare : ℕ → Rule → ℕ → ℕ → Record
bare place rule a b = record { place = place; kind = 0; rule = rule; parts = 0; a = a; b = b; next = 0 }
