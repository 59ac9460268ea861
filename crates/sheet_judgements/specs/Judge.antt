-- Judgements of single bytes, one after the other. Document 01, "Three services": "bytes left to right, each byte judged before
-- the next is looked for". SHEETS 9.2.
use Rattle.std.specs.Prelude.{ℕ, zero, suc, ◌+◌, ◌*◌, Bool, true, false, List, length, get_or, eqb, leb, ltb, Result, Ok, Err}
use Rattle.language.specs.Choice.{pick}
use Rattle.sheet_records.specs.Limits.{ids, types, counts, not_there}
use Rattle.sheet_records.specs.Refusal.{refusal, cut_short, out_of_range, id_taken, id_enclosed}
use Rattle.sheet_records.specs.Standing.{standing_of, is_named, is_held}
use Rattle.sheet_records.specs.declared.standing.Standing.{Standing}
use Rattle.sheet_records.specs.declared.edition.Edition.{Edition}
use Rattle.sheet_records.specs.declared.edition.Edition.TheVariants.{Earlier, Present}
use Rattle.sheet_records.specs.declared.refusal.Refusal.{Refusal}

-- a judgement, then another
unfoldable pub and_then : Result (Unit {0}) Refusal → Result (Unit {0}) Refusal → Result (Unit {0}) Refusal
and_then (Ok x) k = k
and_then (Err x) k = Err x

-- a byte below a limit
unfoldable pub below : List ℕ → ℕ → ℕ → Result (Unit {0}) Refusal
below s at limit =
    pick (leb (length s) at) (Err (refusal cut_short (length s)))
    (pick (leb limit (get_or s at 0)) (Err (refusal out_of_range at)) (Ok tt))

-- a byte of something that is not there
unfoldable pub unused : List ℕ → ℕ → Result (Unit {0}) Refusal
unused s at =
    pick (leb (length s) at) (Err (refusal cut_short (length s)))
    (pick (eqb (get_or s at 0) not_there) (Ok tt) (Err (refusal out_of_range at)))

-- the id of a binder: "a bound id that is declared or retired gets 4"
unfoldable pub bound : List ℕ → List ℕ → ℕ → Result (Unit {0}) Refusal
bound s st at =
    and_then (below s at ids)
    (pick (is_named (standing_of (get_or st (get_or s at 0) 0))) (Err (refusal id_taken at)) (Ok tt))

-- Document 02 [3]: "a new, a procedure or a parameter may not take an id that an enclosing one holds"; by the earlier rule
-- it may
unfoldable pub hides : Edition → Standing → Bool
hides Earlier c = false
hides Present c = is_held c

-- "16 at the id byte, judged after 4"
unfoldable pub apart : Edition → List ℕ → List ℕ → ℕ → Result (Unit {0}) Refusal
apart ed s st at =
    pick (hides ed (standing_of (get_or st (get_or s at 0) 0))) (Err (refusal id_enclosed at)) (Ok tt)

-- whether one of the first j parameters of the procedure at a place has an id
unfoldable pub earlier : List ℕ → ℕ → ℕ → ℕ → Bool
earlier s place zero id = false
earlier s place (suc j) id = pick (eqb (get_or s (place + 4 + 2 * j) 0) id) true (earlier s place j id)

-- "and so does a parameter with the id of an earlier parameter of the same record"
unfoldable pub unlike : List ℕ → ℕ → ℕ → Result (Unit {0}) Refusal
unlike s place j =
    pick (earlier s place j (get_or s (place + 4 + 2 * j) 0)) (Err (refusal id_taken (place + 4 + 2 * j))) (Ok tt)

-- the id of parameter j
unfoldable pub parameter_id : Edition → List ℕ → List ℕ → ℕ → ℕ → Result (Unit {0}) Refusal
parameter_id ed s st place j =
    and_then (bound s st (place + 4 + 2 * j)) (and_then (unlike s place j) (apart ed s st (place + 4 + 2 * j)))

-- pair j of the procedure at a place: a parameter's id and type, or 255 255
unfoldable pub pair : Edition → List ℕ → List ℕ → ℕ → ℕ → Result (Unit {0}) Refusal
pair ed s st place j =
    pick (ltb j (get_or s (place + 3) 0))
    (and_then (parameter_id ed s st place j) (below s (place + 5 + 2 * j) types))
    (and_then (unused s (place + 4 + 2 * j)) (unused s (place + 5 + 2 * j)))

-- the body of the procedure at a place: id, result type, count of parameters, four pairs
unfoldable pub procedure_of : Edition → List ℕ → List ℕ → ℕ → Result (Unit {0}) Refusal
procedure_of ed s st place =
    and_then (bound s st (place + 1)) (and_then (apart ed s st (place + 1)) (and_then (below s (place + 2) types)
    (and_then (below s (place + 3) counts) (and_then (pair ed s st place 0) (and_then (pair ed s st place 1)
    (and_then (pair ed s st place 2) (pair ed s st place 3)))))))
