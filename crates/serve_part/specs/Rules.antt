-- What document 02 [7] says, as statements: "The head of setting wants to compare only the part an editor touched.
-- Prove that she may." SHEETS 8.6.
use Rattle.std.specs.Prelude.{◌≡◌, ◌↔◌, ◌⊎◌, List, ◌++◌, ℕ, ◌≤◌, length, Result}
use Rattle.std.proofs.Math.Option.{none}
use Rattle.language.specs.Move.{Word}
use Rattle.sheet_records.specs.Limits.{most_bytes, most_names, greatest_size}
use Rattle.sheet_records.specs.Refusal.{too_long, too_many_names, too_large}
use Rattle.sheet_records.specs.declared.refusal.Cause.{Cause}
use Rattle.sheet_written.specs.Written.{Written, Name, Sheet}
use Rattle.sheet_written.specs.Meaning.{type_of}
use Rattle.sheet_reader.specs.Fine.{Accepted}
use Rattle.sheet_reader.specs.Encoding.{encode, encode_sheet}
use Rattle.sheet_reader.specs.Reader.{read_sheet, rejected}
use Rattle.sheet_judge.specs.Mark.{uses_of}
use Rattle.sheet_judge.specs.declared.mark.Uses.{Uses}
use Rattle.serve_compare.specs.Plays.{reckoned, Alike}
use Rattle.serve_compare.specs.Refusals.{compare_refusal}
use Rattle.serve_compare.specs.Promise.{Holds, Same, ComparePromise}
use Rattle.serve_compare.specs.declared.Comparison.{Comparison}
use Rattle.serve_part.specs.Around.{Around, filled}
use Rattle.serve_part.specs.Part.{PartOf, part_sheet, Lists, Differ}
use Rattle.serve_part.specs.Bytes.{StandsAt}
use Rattle.sheet_records.specs.declared.refusal.Reason.{Reason}

-- Of plays: two parts "of one type" that have the same complete plays as sheets of their own make whole sheets that
-- have the same complete plays
abbrev pub PartsAlike : Type 0
PartsAlike = (S T P Q : Sheet) (C : Around) (m n : Written) → Accepted S → Accepted T → Differ S T C m n →
    PartOf S C m P → PartOf T C n Q → type_of P ≡ type_of Q → ((u : Word) → Alike P Q u) → (u : Word) → Alike S T u

-- two sheets "were called the same" by what keeps compare's promise, with whatever words and play space it was lent
pub record CalledSame (old new : List ℕ) : Type 0 where
  pub words : List ℕ
  pub space : List ℕ
  pub words_after : List ℕ
  pub space-after : List ℕ
  pub old_uses : Uses
  pub new_uses : Uses
  pub kept : ComparePromise old new words space (Same old_uses new_uses) words_after space-after

-- Of answers: "Suppose the two parts .. were compared as sheets of their own .. and were called the same. Then the
-- whole sheets, if compare accepts them, are called the same": by whatever keeps compare's promise, where nothing is
-- refused
abbrev pub PartsCompared : Type 0
PartsCompared = (old new old-part new-part : List ℕ) (S T P Q : Sheet) (C : Around) (m n : Written) →
    Holds old S → Holds new T → Differ S T C m n →
    Holds old-part P → Holds new-part Q → PartOf S C m P → PartOf T C n Q → CalledSame old-part new-part →
    (ws space : List ℕ) (r : Result Comparison Cause) (ws' space' : List ℕ) → ComparePromise old new ws space r ws' space' →
    compare_refusal old new (length ws) (length space) ≡ none → r ≡ Same (uses_of S) (uses_of T)

-- two lists that are the same before and after a stretch of each
pub record OneStretch (old new old-part new-part : List ℕ) : Type 0 where
  pub before : List ℕ
  pub behind : List ℕ
  pub of_old : old ≡ before ++ (old-part ++ behind)
  pub of_new : new ≡ before ++ (new-part ++ behind)

-- The bytes of sheets that differ in one part only are the same before and after the bytes of the part, which stands at
-- one place in both
abbrev pub BytesDiffer : Type 0
BytesDiffer = (S T : Sheet) (C : Around) (m n : Written) → Differ S T C m n →
    (x : OneStretch (encode_sheet S) (encode_sheet T) (encode m) (encode n)) ×
    StandsAt S C m (length x.before) × StandsAt T C n (length x.before)

-- And the other way: two accepted sheets whose bytes are the same before and after a stretch of each, which is a part
-- of both, differ in that part only; the terms around the parts need not be known to be the same
abbrev pub BytesTell : Type 0
BytesTell = (old new : List ℕ) (S T : Sheet) (C D : Around) (m n : Written) → Holds old S → Holds new T →
    (x : OneStretch old new (encode m) (encode n)) → StandsAt S C m (length x.before) →
    StandsAt T D n (length x.before) → Differ S T C m n

-- The records of names may stand in any order: a sheet whose records are those of the whole sheet and those that
-- declare the private variables is the sheet of the part
abbrev pub AnyOrder : Type 0
AnyOrder = (S P : Sheet) (C : Around) (m : Written) → Accepted S → S.term ≡ filled C m → Accepted P →
    P.numbers ≡ S.numbers → P.term ≡ m → ((n : Name) → Lists n P.names ↔ Lists n (part_sheet S C m).names) →
    PartOf S C m P

-- The sheet of a part is accepted but for its length, its number of names and its size, causes 1, 9 and 11
abbrev pub PartAccepted : Type 0
PartAccepted = (S : Sheet) (C : Around) (m : Written) → Accepted S → S.term ≡ filled C m →
    length (encode_sheet (part_sheet S C m)) ≤ most_bytes → length (part_sheet S C m).names ≤ most_names →
    reckoned (part_sheet S C m) ≤ greatest_size → Accepted (part_sheet S C m) × PartOf S C m (part_sheet S C m)

-- If it is refused, then by one of these three numbers
abbrev pub PartRefused : Type 0
PartRefused = (S : Sheet) (C : Around) (m : Written) → Accepted S → S.term ≡ filled C m → (n : Reason) (p : ℕ) →
    read_sheet (encode_sheet (part_sheet S C m)) ≡ rejected n p → (n ≡ too_long) ⊎ ((n ≡ too_many_names) ⊎ (n ≡ too_large))
