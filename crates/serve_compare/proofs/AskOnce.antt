-- Sheets whose names are declared by kind 3 instead of kind 1.
use mathlib.Core.Path.{◌≡◌, ap}
use Prim.Native.Nat.{ℕ}
use Rattle.language.specs.Term.{Often}
use Rattle.language.specs.AskOnce.{all_freely}
use Rattle.language.proofs.AskOnceLaws.{sparing-plays}
use Rattle.sheet_written.specs.Written.{Sheet}
use Rattle.sheet_written.specs.Meaning.{ty_of, term_of}
use Rattle.sheet_written.specs.Asking.{with_kinds}
use Rattle.sheet_written.proofs.Asking.{kinds-type, kinds-term}
use Rattle.serve_compare.specs.Plays.{whole_type}
use Rattle.serve_compare.specs.AskOnce.{KindsPlay, KindsAlike}

same_type : (κ : ℕ → Often) (S : Sheet) → whole_type (with_kinds κ S) ≡ whole_type S
unfolding with_kinds
same_type κ S = ap (ty_of S.numbers) (kinds-type κ S)

-- THEOREM: the complete plays of a sheet with names of kind 3
kinds-play : KindsPlay
kinds-play κ S u =
    rw (same_type κ S, kinds-term κ S, same_type all_freely S, kinds-term all_freely S)
    (sparing-plays κ (whole_type S) (term_of S) u)

-- THEOREM: what is the same with kind 1 is the same with kind 3
pub kinds-alike : KindsAlike
kinds-alike κ S T h u = (
  λ x. let (y, s) = (kinds-play κ S u).0 x in (kinds-play κ T u).1 ((h u).0 y, s),
  λ x. let (y, s) = (kinds-play κ T u).0 x in (kinds-play κ S u).1 ((h u).1 y, s),
)
