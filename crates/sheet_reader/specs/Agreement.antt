-- That the reader and what a sheet in order is agree, each way and by either rule (docs/DEMANDS.md, clause 1.4), how
-- the two rules differ, and that no sheet with a Z of document 01 is read otherwise since 02 [11]. SHEETS 2 and 9.
use Rattle.std.specs.Prelude.{◌≡◌, ◌↔◌, List, [], ◌∷◌, ℕ, ◌≤◌, get_or}
use Rattle.language.specs.Weight.{size}
use Rattle.sheet_records.specs.Limits.{earlier_z}
use Rattle.sheet_records.specs.Refusal.{id_enclosed}
use Rattle.sheet_records.specs.declared.edition.Edition.{Edition}
use Rattle.sheet_records.specs.declared.edition.Edition.TheVariants.{Earlier, Present}
use Rattle.sheet_written.specs.Written.{Sheet}
use Rattle.sheet_written.specs.Hiding.{Apart, Hiding, hiding}
use Rattle.sheet_written.specs.Width.{heading_width}
use Rattle.sheet_reader.specs.Encoding.{encode_sheet}
use Rattle.sheet_written.specs.Meaning.{ty_of, term_of, type_of}
use Rattle.sheet_reader.specs.Fine.{AcceptedUnder}
use Rattle.sheet_reader.specs.Reader.{whole_by, checks, read_under, accepted, rejected}

-- what is accepted is the bytes of a sheet in order, with its type and its exact size
abbrev pub ReaderGives : Type 0
ReaderGives = (ed : Edition) (s : List ℕ) (S : Sheet) (ty n : ℕ) → read_under ed s ≡ accepted S ty n →
    (s ≡ encode_sheet S) × AcceptedUnder ed S × (ty ≡ type_of S) × (n ≡ size (ty_of S.numbers ty) (term_of S))

-- the bytes of every sheet in order are accepted, with its type and its exact size
abbrev pub ReaderAccepts : Type 0
ReaderAccepts = (ed : Edition) (S : Sheet) → AcceptedUnder ed S →
    read_under ed (encode_sheet S) ≡ accepted S (type_of S) (size (ty_of S.numbers (type_of S)) (term_of S))

-- what the present rule accepts the earlier one accepted, as the same sheet, with the same type and size
abbrev pub EarlierToo : Type 0
EarlierToo = (s : List ℕ) (S : Sheet) (ty n : ℕ) → read_under Present s ≡ accepted S ty n →
    read_under Earlier s ≡ accepted S ty n

-- what the earlier rule accepted the present one accepts exactly if no binder stands in the scope of one with its id
abbrev pub PresentApart : Type 0
PresentApart = (s : List ℕ) (S : Sheet) (ty n : ℕ) → read_under Earlier s ≡ accepted S ty n →
    (read_under Present s ≡ accepted S ty n) ↔ Apart [] S.term

-- document 02 [3], "Refused: 16 at the id byte": what the earlier rule accepted, and in which some binder hides
-- another, the present one refuses at the first that does
abbrev pub HiddenRefused : Type 0
HiddenRefused = (s : List ℕ) (S : Sheet) (ty n : ℕ) (h : Hiding) (hs : List Hiding) →
    read_under Earlier s ≡ accepted S ty n → hiding [] (heading_width S) S.term ≡ h ∷ hs →
    read_under Present s ≡ rejected id_enclosed h.place

-- document 02 [11], of Z up to 7: such a sheet is read as with 7 for the greatest Z, to the sheet, its type and its
-- size or to the number and the place of its refusal
abbrev pub EarlierRange : Type 0
EarlierRange = (ed : Edition) (s : List ℕ) → get_or s 0 0 ≤ earlier_z → read_under ed s ≡ checks s (whole_by earlier_z ed s)

-- "No sheet on disk changes its plays or its size": what was accepted with 7 for the greatest Z is accepted, as the
-- same sheet, with the same type and size
abbrev pub StillAccepted : Type 0
StillAccepted = (ed : Edition) (s : List ℕ) (S : Sheet) (ty n : ℕ) →
    checks s (whole_by earlier_z ed s) ≡ accepted S ty n → read_under ed s ≡ accepted S ty n
