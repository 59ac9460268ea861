-- The complete plays of sheets, and what tells two sheets apart. Document 01, "Plays", "Move records and their order".
-- SHEETS 4.5 and 6.3.
use Rattle.std.specs.Prelude.{◌↔◌, ℕ, zero, suc}
use Rattle.language.specs.Move.{Word, Before}
use Rattle.language.specs.Weight.{size}
use Rattle.sheet_written.specs.Written.{Sheet}
use Rattle.sheet_written.specs.Meaning.{term_of}
use Rattle.sheet_records.specs.declared.refusal.Sheets.{Sheets}
use Rattle.sheet_records.specs.declared.refusal.Sheets.TheVariants.{Old, New, Both}
pub use Rattle.sheet_written.specs.Meaning.{whole_type, CompletePlay}

-- the reckoned size of a sheet
abbrev pub reckoned : Sheet → ℕ
reckoned S = size (whole_type S) (term_of S)

-- both sheets have the play, or neither has it
abbrev pub Alike : Sheet → Sheet → Word → Type 0
Alike S T u = CompletePlay S u ↔ CompletePlay T u

-- exactly one sheet has the play: 0 the old one, 1 the new one
unfoldable pub Only : Sheets → Sheet → Sheet → Word → Type 0
Only Old S T u = CompletePlay S u × (CompletePlay T u → ⊥)
Only New S T u = CompletePlay T u × (CompletePlay S u → ⊥)
Only Both S T u = ⊥

-- the first complete play of exactly one of them, and which has it
pub record FirstPlay (S T : Sheet) (which : Sheets) (u : Word) : Type 0 where
  pub only : Only which S T u
  pub earlier : (v : Word) → Before S.numbers v u → Alike S T v
