-- What becomes of the plays of a sheet where names are declared by kind 3 instead of kind 1, document 02 [5], as
-- statements. SHEETS 4.4.5.
use Rattle.std.specs.Prelude.{◌↔◌, [], ℕ}
use Rattle.language.specs.Move.{Word}
use Rattle.language.specs.Term.{Often}
use Rattle.language.specs.AskOnce.{Sparing, all_freely}
use Rattle.sheet_written.specs.Written.{Sheet}
use Rattle.sheet_written.specs.Asking.{with_kinds}
use Rattle.serve_compare.specs.Plays.{CompletePlay, Alike}

-- the complete plays of a sheet are those that it has with kind 1 alone in which each call of a name of kind 3 "puts at
-- most one question to its arguments, all taken together"
abbrev pub KindsPlay : Type 0
KindsPlay = (κ : ℕ → Often) (S : Sheet) (u : Word) →
    CompletePlay (with_kinds κ S) u ↔ (CompletePlay (with_kinds all_freely S) u × Sparing κ [] u)

-- so two sheets that are the same with kind 1 alone are the same with names of kind 3
abbrev pub KindsAlike : Type 0
KindsAlike = (κ : ℕ → Often) (S T : Sheet) →
    ((u : Word) → Alike (with_kinds all_freely S) (with_kinds all_freely T) u) →
    (u : Word) → Alike (with_kinds κ S) (with_kinds κ T) u
