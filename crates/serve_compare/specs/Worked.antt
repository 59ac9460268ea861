-- The sheets worked through: document 01, "Sheets worked through", the rows marked • as one table, with a single
-- claim over all its rows; and what document 02, [5], says of the tenth. SHEETS 12.
use Rattle.std.specs.Prelude.{◌≡◌, List, [], ◌∷◌, ◌++◌, ℕ, length}
use Rattle.language.specs.Move.{Word}
use Rattle.sheet_written.specs.Written.{Sheet}
use Rattle.sheet_reader.specs.Reader.{read_sheet, accepted}
use Rattle.serve_compare.specs.Plays.{Alike, FirstPlay}
use Rattle.sheet_records.specs.declared.refusal.Sheets.{Sheets}
use Rattle.sheet_records.specs.declared.refusal.Sheets.TheVariants.{Old, New}

-- the same complete plays; or which sheet has the first complete play of exactly one, 0 old or 1 new, and its number
-- of moves
pub data Result : Type 0 where
  same : Result
  apart : Sheets → ℕ → Result

-- a row: the bytes and the sizes of both sheets, and the result
pub record TableRow : Type 0 where
  pub old : List ℕ
  pub new : List ℕ
  pub old_size : ℕ
  pub new_size : ℕ
  pub result : Result

-- what a result says of two sheets
unfoldable pub Says : Result → Sheet → Sheet → Type 0
Says same S T = (u : Word) → Alike S T u
Says (apart which moves) S T = (u : Word) × (FirstPlay S T which u × (length u ≡ moves))

-- a row holds: the bytes are read as two sheets of these sizes, and the result is so
pub record Worked (r : TableRow) : Type 0 where
  pub first_sheet : Sheet
  pub second_sheet : Sheet
  pub first_type : ℕ
  pub second_type : ℕ
  pub first_reads : read_sheet r.old ≡ accepted first_sheet first_type r.old_size
  pub second_reads : read_sheet r.new ≡ accepted second_sheet second_type r.new_size
  pub says : Says r.result first_sheet second_sheet

-- every row of a table holds
unfoldable pub Every : List TableRow → Type 0
Every [] = Unit
Every (r ∷ rs) = Worked r × Every rs

-- the headings, with Z = 1: no names; f, of id 7, which takes a command and is a command; c, of id 8, a command; e,
-- of id 9, a number expression
abbrev plain : List ℕ
plain = 1 ∷ 0 ∷ []

abbrev with_f : ℕ → List ℕ
with_f rule = 1 ∷ rule ∷ 1 ∷ 7 ∷ 0 ∷ 1 ∷ 0 ∷ 255 ∷ 255 ∷ 255 ∷ []

abbrev with_c : List ℕ
with_c = 1 ∷ 0 ∷ 1 ∷ 8 ∷ 0 ∷ 0 ∷ 255 ∷ 255 ∷ 255 ∷ 255 ∷ []

abbrev with_e : List ℕ
with_e = 1 ∷ 0 ∷ 1 ∷ 9 ∷ 2 ∷ 0 ∷ 255 ∷ 255 ∷ 255 ∷ 255 ∷ []

-- v := 0; (f(v := 1); if !v = 1 then diverge else skip), where v has the id 1
abbrev snaps : List ℕ
snaps =
    24 ∷ 23 ∷ 20 ∷ 1 ∷ 19 ∷ 0 ∷
    24 ∷ 20 ∷ 7 ∷ 23 ∷ 20 ∷ 1 ∷ 19 ∷ 1 ∷
    25 ∷ 22 ∷ 4 ∷ 21 ∷ 20 ∷ 1 ∷ 19 ∷ 1 ∷ 17 ∷ 0 ∷ 16 ∷ []

-- f(v := !v + 1)
abbrev counts : List ℕ
counts = 20 ∷ 7 ∷ 23 ∷ 20 ∷ 1 ∷ 22 ∷ 0 ∷ 21 ∷ 20 ∷ 1 ∷ 19 ∷ 1 ∷ []

-- a heading, the old and the new term, their sizes and the result
abbrev row : List ℕ → List ℕ → List ℕ → ℕ → ℕ → Result → TableRow
row heading old new S T r =
    record { old = heading ++ old; new = heading ++ new; old_size = S; new_size = T; result = r }

-- the rows, in the order of document 01
abbrev pub table : List TableRow
table =
    -- old skip, new diverge
    row plain (16 ∷ []) (17 ∷ 0 ∷ []) 4 4 (apart Old 2) ∷
    -- old while true do skip, new diverge
    row plain (26 ∷ 18 ∷ 1 ∷ 16 ∷ []) (17 ∷ 0 ∷ []) 5 4 same ∷
    -- old c; diverge, new diverge
    row with_c (24 ∷ 20 ∷ 8 ∷ 17 ∷ 0 ∷ []) (17 ∷ 0 ∷ []) 6 4 same ∷
    -- old new number v in c, new c
    row with_c (27 ∷ 1 ∷ 2 ∷ 20 ∷ 8 ∷ []) (20 ∷ 8 ∷ []) 9 5 same ∷
    -- old c; c, new c
    row with_c (24 ∷ 20 ∷ 8 ∷ 20 ∷ 8 ∷ []) (20 ∷ 8 ∷ []) 7 5 (apart New 4) ∷
    -- old e + 0, new e
    row with_e (22 ∷ 0 ∷ 20 ∷ 9 ∷ 19 ∷ 0 ∷ []) (20 ∷ 9 ∷ []) 10 7 same ∷
    -- old e - e, new 0
    row with_e (22 ∷ 1 ∷ 20 ∷ 9 ∷ 20 ∷ 9 ∷ []) (19 ∷ 0 ∷ []) 13 6 (apart New 2) ∷
    -- old new v in (v := 0; f(v := 1); if !v = 1 then diverge else skip), new f(diverge)
    row (with_f 0) (27 ∷ 1 ∷ 2 ∷ snaps) (20 ∷ 7 ∷ 17 ∷ 0 ∷ []) 75 7 same ∷
    -- old new v in f(v := !v + 1), new f(skip), rule 1
    row (with_f 1) (27 ∷ 1 ∷ 2 ∷ counts) (20 ∷ 7 ∷ 16 ∷ []) 45 7 same ∷
    -- the same, rule 0
    row (with_f 0) (27 ∷ 1 ∷ 2 ∷ counts) (20 ∷ 7 ∷ 16 ∷ []) 45 7 (apart New 8) ∷
    []

-- the claim: every row of the table holds
abbrev pub AllWorked : Type 0
AllWorked = Every table

-- document 02, [5]: "With f so declared and Z = 1, rule 0, the tenth row of 01's table becomes "same"": f of kind 3
abbrev with_f_once : List ℕ
with_f_once = 1 ∷ 0 ∷ 3 ∷ 7 ∷ 0 ∷ 1 ∷ 0 ∷ 255 ∷ 255 ∷ 255 ∷ []

abbrev pub once_table : List TableRow
once_table = row with_f_once (27 ∷ 1 ∷ 2 ∷ counts) (20 ∷ 7 ∷ 16 ∷ []) 48 8 same ∷ []

-- the claim: that row holds
abbrev pub OnceWorked : Type 0
OnceWorked = Every once_table
