-- The mark as the code makes it of the notes: masks of the name records. Only inner contracts cite it.
use Rattle.std.specs.Prelude.{ℕ, zero, suc, ◌+◌, ◌-◌, ◌*◌, ◌^◌, Bool, true, List, get_or}
use Rattle.std.specs.Int.Bits.{bit_and}
use Rattle.std.specs.Int.Count.{ones, count_trailing_zeros}
use Rattle.sheet_records.specs.Kind.{shape_of}
use Rattle.sheet_records.specs.declared.kind.Shape.{Shape}
use Rattle.sheet_records.specs.declared.kind.Shape.TheVariants.{Part, Declare, Retire, Unknown}
use Rattle.sheet_written.specs.Uses.{bit}
use Rattle.sheet_reader.specs.table.Notes.{is_noted}
use Rattle.sheet_judge.specs.declared.mark.Uses.{Uses}

-- a bit for the record of a shape at a place, the lowest, and those of the records after it: set where f holds of the id
-- that the record declares; the first record that is no name record has none, nor have those after it
unfoldable pub mask_as : (ℕ → Bool) → List ℕ → ℕ → (ℕ → ℕ) → Shape → ℕ
mask_as f s at rest (Declare body once) = bit (f (get_or s (at + 1) 0)) + 2 * rest (at + 1 + body)
mask_as f s at rest (Retire body) = 2 * rest (at + 1 + body)
mask_as f s at rest (Part body parts rule) = 0
mask_as f s at rest Unknown = 0

-- of at most so many name records from a place on
unfoldable pub mask : (ℕ → Bool) → ℕ → List ℕ → ℕ → ℕ
mask f zero s at = 0
mask f (suc left) s at = mask_as f s at (λ next. mask f left s next) (shape_of (get_or s at 0))

-- every id
abbrev pub every : ℕ → Bool
every id = true

-- "ones of the 32-bit mark count names used; trailing zeros of the masked complement find the first unused record"
unfoldable pub uses_by : ℕ → ℕ → Uses
uses_by mark declared = record {
  mark = mark;
  used = ones mark;
  unused = count_trailing_zeros 32 (bit_and ((2 ^ 32 - 1) - mark) declared);
}

-- of a sheet with a table whose notes are made
unfoldable pub uses_at : List ℕ → List ℕ → Uses
uses_at s t = uses_by (mask (is_noted t) 32 s 2) (mask every 32 s 2)

-- how many name records of a sheet declare a name, also where it is refused: those from its third byte on
unfoldable pub declared_at : List ℕ → ℕ
declared_at s = ones (mask every 32 s 2)
