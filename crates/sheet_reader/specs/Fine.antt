-- Which sheets are accepted: those in order (sheet_written/specs/Fine) of at most 4,096 bytes; by the present rule no binder
-- hides another. Document 01, "The sheet, byte by byte"; document 02 [3]. SHEETS 2, 3.2 and 7.3.
use Rattle.std.specs.Prelude.{◌≤◌, ◌≡◌, [], length}
use Rattle.sheet_records.specs.Limits.{most_bytes}
use Rattle.sheet_records.specs.declared.edition.Edition.{Edition}
use Rattle.sheet_records.specs.declared.edition.Edition.TheVariants.{Present}
use Rattle.sheet_written.specs.Written.{Sheet}
use Rattle.sheet_written.specs.Fine as fine
use Rattle.sheet_written.specs.Hiding.{Apart}
use Rattle.sheet_reader.specs.Encoding.{encode_sheet}

pub record AcceptedUnder (ed : Edition) (S : Sheet) : Type 0 where
  pub ordered : fine.WellFormed S
  pub short : length (encode_sheet S) ≤ most_bytes
  -- "a new, a procedure or a parameter may not take an id that an enclosing one holds"
  pub apart : ed ≡ Present → Apart [] S.term

abbrev pub Accepted : Sheet → Type 0
Accepted S = AcceptedUnder Present S
