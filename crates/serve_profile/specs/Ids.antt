-- The profile and the ids of binders. Document 02 [13], and [4] for renumbering.
use Rattle.std.specs.Prelude.{ℕ, ◌≡◌, Bool, List, []}
use Rattle.sheet_written.specs.Written.{Written, Sheet}
use Rattle.sheet_written.specs.Fine.{WellFormed}
use Rattle.sheet_written.specs.Like.{Like}
use Rattle.sheet_written.specs.Rules.{with_term}
use Rattle.sheet_written.specs.Renumber.{Change, renumbered, renumber_sheet}
use Rattle.serve_profile.specs.Offence.{offences}

-- the ids of binders do not matter: two sheets that are the same but for these offend at the same places
unfoldable pub IdsAside : Type 0
IdsAside =
    (S : Sheet) (W : Written) → Like S.names [] [] S.term W → offences S ≡ offences (with_term S W)

-- so renumbering (02 [4]) keeps the profile: the sheet written offends at the same places as the one read
unfoldable pub RenumberKeeps : Type 0
RenumberKeeps =
    (S : Sheet) (W : Written) (cs : List Change) (then : ℕ → Bool) → WellFormed S →
    renumber_sheet S ≡ renumbered W cs then → offences S ≡ offences (with_term S W)
