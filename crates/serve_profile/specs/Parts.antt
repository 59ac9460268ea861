-- What document 02 [13] says of the plays of a sheet, said of each expression in it.
use Rattle.std.specs.Prelude.{ℕ, ◌≡◌, Bool, true, List, [], ◌∷◌}
use Rattle.language.specs.Ty.{ask, Answer}
use Rattle.language.specs.Move.{Word}
use Rattle.language.specs.Play.{Plays}
use Rattle.language.specs.declared.Numbers.{Numbers}
use Rattle.sheet_written.specs.Written.{Written, Name}
use Rattle.sheet_written.specs.Meaning.{Binder, a_block, a_parameter, a_procedure, typed, Terms, resolve}
use Rattle.sheet_written.specs.Fine.{Fine}
use Rattle.serve_profile.specs.Offence.{is_expression, offending}
use Rattle.serve_profile.specs.Quiet.{AllCalm}

-- binders that are blocks only: no procedure and no parameter is around
unfoldable pub Blocks : List Binder → Type 0
Blocks [] = Unit
Blocks (a_block id d ∷ bs) = Blocks bs
Blocks (a_parameter id ty ∷ bs) = ⊥
Blocks (a_procedure id ty tys ∷ bs) = ⊥

-- what `QuietPlays` says, of an expression in any sheet where only blocks are around it and nothing in it offends: it
-- runs nothing and writes nothing, also no private variable. Where a parameter is around it this is not so
-- (proofs/Worked, `passing`).
unfoldable pub QuietParts : Type 0
QuietParts =
    (N : Numbers) (ns : List Name) (bs : List Binder) (ρ : Terms) (W : Written) (i : Bool) (at n : ℕ) → Blocks bs →
    Fine N ns bs W → is_expression (typed ns bs W) ≡ true → offending ns bs i at W ≡ [] →
    (a : Answer) (u : Word) → Plays (resolve N ns bs ρ n W) ask a u → AllCalm u
