-- What document 02 [4] says of the renumbering, as statements.
use Rattle.std.specs.Prelude.{ℕ, suc, ◌+◌, ◌≤◌, ◌<◌, ◌≡◌, Bool, true, List, [], ◌∷◌, ◌++◌, length}
use Rattle.language.specs.Weight.{size}
use Rattle.sheet_records.specs.Limits.{ids}
use Rattle.sheet_written.specs.Written.{Written, Sheet}
use Rattle.sheet_written.specs.Meaning.{ty_of, term_of, type_of}
use Rattle.sheet_written.specs.Fine.{WellFormed}
use Rattle.sheet_written.specs.Like.{Like}
use Rattle.sheet_written.specs.Rules.{SameSheets, with_term}
use Rattle.sheet_written.specs.Hiding.{Apart, WellFormedApart, Hiding, hiding}
use Rattle.sheet_written.specs.Width.{width, heading_width}
use Rattle.sheet_written.specs.Renumber.{put, is_bound, taken_at_first, lowest, left, Change}
use Rattle.sheet_written.specs.Renumber.{renumbered, none_left, renumber_sheet}

-- the changes take one id after the other, each "the lowest id that is neither declared, retired, nor bound anywhere in
-- the sheet as read or as changed so far"
unfoldable pub Gives : (ℕ → Bool) → List Change → (ℕ → Bool) → Type 0
Gives taken [] then = then ≡ taken
Gives taken (c ∷ cs) then = (c.given ≡ lowest taken) × (c.given < ids) × Gives (put c.given true taken) cs then

-- what holds of the old id of each change
unfoldable pub Olds : (ℕ → Type 0) → List Change → Type 0
Olds P [] = Unit
Olds P (c ∷ cs) = P c.old × Olds P cs

-- what each change replaces
unfoldable pub replaced : List Change → List Hiding
replaced [] = []
replaced (c ∷ cs) = record { place = c.place; id = c.old } ∷ replaced cs

-- "left to right": the places rise, from low on and below high
unfoldable pub Ascending : ℕ → ℕ → List Change → Type 0
Ascending low high [] = low ≤ high
Ascending low high (c ∷ cs) = (low ≤ c.place) × Ascending (suc c.place) high cs

-- "the id byte for which no id is left": the binders before it got ids, and then all are taken
pub record NoneLeft (taken : ℕ → Bool) (hs : List Hiding) (p : ℕ) : Type 0 where
  pub made : List Change
  pub last : ℕ → Bool
  pub id : ℕ
  pub rest : List Hiding
  pub gives : Gives taken made last
  pub full : ids ≤ lowest last
  -- as many binders got ids as there were ids left
  pub many : length made ≡ left taken ids
  pub stopped : replaced made ++ (record { place = p; id = id } ∷ rest) ≡ hs

-- the term W is written for the sheet S, with the changes cs
pub record Renumbered (S : Sheet) (W : Written) (cs : List Change) : Type 0 where
  -- "The sheet written is accepted"
  pub accepted : WellFormedApart (with_term S W)
  -- "the uses it governs follow": nothing but the ids of binders and of these uses is another
  pub like : Like S.names [] [] S.term W
  -- "and has the plays the earlier rule gave the old one"
  pub same_term : term_of S ≡ term_of (with_term S W)
  pub same_sheets : SameSheets S (with_term S W)
  pub same_size : size (ty_of S.numbers (type_of S)) (term_of S)
      ≡ size (ty_of S.numbers (type_of (with_term S W))) (term_of (with_term S W))
  -- "It writes the sheet at the same length"
  pub same_width : width S.term ≡ width W
  -- "and lists each binding record's change, left to right": a change for each binder that hides another
  pub listed : replaced cs ≡ hiding [] (heading_width S) S.term
  pub places : Ascending (heading_width S) (heading_width S + width S.term) cs
  pub olds : Olds (λ id. (id < ids) × (is_bound S.term id ≡ true)) cs
  -- "That space must have 1,020 bytes", four for each change: so they suffice
  pub few : length cs ≤ 254
  -- the sheet written has nothing to change
  pub again : renumber_sheet (with_term S W) ≡ renumbered W [] (taken_at_first (with_term S W))

unfoldable pub RenumberRule : Type 0
RenumberRule =
    (S : Sheet) (W : Written) (cs : List Change) (then : ℕ → Bool) → WellFormed S →
    renumber_sheet S ≡ renumbered W cs then → Renumbered S W cs

-- the ids that are given, in any sheet
unfoldable pub GivenRule : Type 0
GivenRule =
    (S : Sheet) (W : Written) (cs : List Change) (then : ℕ → Bool) → renumber_sheet S ≡ renumbered W cs then →
    Gives (taken_at_first S) cs then

-- "a sheet with nothing to change comes back unaltered"
unfoldable pub UnalteredRule : Type 0
UnalteredRule = (S : Sheet) → Apart [] S.term → renumber_sheet S ≡ renumbered S.term [] (taken_at_first S)

-- a sheet that comes back without a change had nothing to change
unfoldable pub NothingRule : Type 0
NothingRule =
    (S : Sheet) (W : Written) (then : ℕ → Bool) → renumber_sheet S ≡ renumbered W [] then →
    Apart [] S.term × (S.term ≡ W)

-- where ids are left for all binders that hide others, the sheet is not refused
pub record Passes (S : Sheet) : Type 0 where
  pub written : Written
  pub changes : List Change
  pub taken : ℕ → Bool
  pub passes : renumber_sheet S ≡ renumbered written changes taken

unfoldable pub EnoughRule : Type 0
EnoughRule =
    (S : Sheet) → length (hiding [] (heading_width S) S.term) ≤ left (taken_at_first S) ids → Passes S

-- "17 at the id byte for which no id is left", in any sheet
unfoldable pub RefusedRule : Type 0
RefusedRule =
    (S : Sheet) (p : ℕ) → renumber_sheet S ≡ none_left p →
    NoneLeft (taken_at_first S) (hiding [] (heading_width S) S.term) p
