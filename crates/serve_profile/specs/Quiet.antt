-- What document 02 [13] says of a sheet in the profile: "For a sheet of expression type in the profile, every complete
-- play consists of *ask*, *read* and value moves only."
use Rattle.std.specs.Prelude.{ℕ, ◌≡◌, true, [], ◌∷◌}
use Rattle.language.specs.Ty.{ask, read, value}
use Rattle.language.specs.Move.{Event, question, answer, move, Word}
use Rattle.sheet_written.specs.Written.{Sheet}
use Rattle.sheet_written.specs.Meaning.{type_of, CompletePlay}
use Rattle.sheet_written.specs.Fine.{WellFormed}
use Rattle.serve_profile.specs.Offence.{is_expression, InProfile}

-- *ask*, *read* and value
pub data Calm : Event → Type 0 where
  asks : Calm (question ask)
  reads : Calm (question read)
  gives : {v : ℕ} → Calm (answer (value v))

-- moves of these kinds only
unfoldable pub AllCalm : Word → Type 0
AllCalm [] = Unit
AllCalm (move p e ∷ u) = Calm e × AllCalm u

unfoldable pub QuietPlays : Type 0
QuietPlays =
    (S : Sheet) → WellFormed S → is_expression (type_of S) ≡ true → InProfile S →
    (u : Word) → CompletePlay S u → AllCalm u
