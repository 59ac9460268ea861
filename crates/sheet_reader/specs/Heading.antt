-- The judgement of name records. Document 01, "The sheet, byte by byte", kinds 1 and 2, and "Three services", the
-- order; document 02 [5] for kind 3, "Refused: as for kind 1". SHEETS 2.3 and 9.2.
use Rattle.std.specs.Prelude.{ℕ, zero, suc, ◌+◌, List, get_or, take, drop, eqb, ltb, Result, Ok, Err}
use Rattle.language.specs.Choice.{pick}
use Rattle.language.specs.Term.{Often, freely, once}
use Rattle.sheet_records.specs.declared.refusal.Refusal.{Refusal}
use Rattle.sheet_records.specs.Limits.{ids, types, counts}
use Rattle.sheet_records.specs.Refusal.{refusal, id_taken}
use Rattle.sheet_judgements.specs.Judge.{and_then, below, unused}
use Rattle.sheet_records.specs.Standing.{free}
use Rattle.sheet_written.specs.Written.{Name, declare, retire}

-- an id that is neither declared nor retired
unfoldable pub fresh : List ℕ → List ℕ → ℕ → Result (Unit {0}) Refusal
fresh s st at =
    and_then (below s at ids) (pick (eqb (get_or st (get_or s at 0) 0) free) (Ok tt) (Err (refusal id_taken at)))

-- the type of argument j of the record at a place
unfoldable pub argument : List ℕ → ℕ → ℕ → Result (Unit {0}) Refusal
argument s at j = pick (ltb j (get_or s (at + 3) 0)) (below s (at + 4 + j) types) (unused s (at + 4 + j))

abbrev pub arguments : List ℕ → ℕ → Result (Unit {0}) Refusal
arguments s at = and_then (argument s at 0) (and_then (argument s at 1) (and_then (argument s at 2) (argument s at 3)))

-- the body of the declare record at a place: id, result type, count, four argument types
unfoldable pub declare_of : List ℕ → List ℕ → ℕ → Result (Unit {0}) Refusal
declare_of s st at =
    and_then (fresh s st (at + 1)) (and_then (below s (at + 2) types) (and_then (below s (at + 3) counts) (arguments s at)))

-- the body of the retire record at a place: id
unfoldable pub retire_of : List ℕ → List ℕ → ℕ → Result (Unit {0}) Refusal
retire_of s st at = fresh s st (at + 1)

-- how often a name asks, by the number that the shape of its record has
unfoldable pub often_of : ℕ → Often
often_of zero = freely
often_of (suc n) = once

-- the records themselves
unfoldable pub declare_at : List ℕ → ℕ → ℕ → Name
declare_at s at asks =
    declare (often_of asks) (get_or s (at + 1) 0) (get_or s (at + 2) 0) (take (get_or s (at + 3) 0) (drop (at + 4) s))

unfoldable pub retire_at : List ℕ → ℕ → Name
retire_at s at = retire (get_or s (at + 1) 0)
