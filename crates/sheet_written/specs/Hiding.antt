-- Which binders hide an enclosing one. Document 02 [3]: "a new, a procedure or a parameter may not take an id that an
-- enclosing one holds; a procedure's id encloses only its second term, a parameter only the first. Side by side is
-- still fine."
use Rattle.std.specs.Prelude.{ℕ, ◌+◌, ◌≡◌, ◌↔◌, Bool, false, ◌||◌, List, [], ◌∷◌, ◌++◌, eqb}
use Rattle.language.specs.Choice.{pick}
use Rattle.sheet_records.specs.Kind.{record_width}
use Rattle.sheet_records.specs.declared.kind.Rule.TheVariants.{Use, Operate, New, Procedure}
use Rattle.sheet_written.specs.Written.{Written, skip, diverge, truth, number, call, fetch, operate, assign}
use Rattle.sheet_written.specs.Written.{sequence, while, choose, new, procedure, Parameter, Writtens, none, more}
use Rattle.sheet_written.specs.Written.{Sheet}
use Rattle.sheet_written.specs.Meaning.{Binder, a_block, id_of, inside, after}
use Rattle.sheet_written.specs.Fine.{WellFormed}
use Rattle.sheet_written.specs.Width.{width}

-- an enclosing binder has the id
unfoldable pub is_held : List Binder → ℕ → Bool
is_held [] id = false
is_held (b ∷ bs) id = eqb (id_of b) id || is_held bs id

unfoldable pub Unheld : List Binder → ℕ → Type 0
Unheld bs id = is_held bs id ≡ false

-- no parameter of a record has the id of an enclosing binder; they do not enclose each other
unfoldable pub ApartParameters : List Binder → List Parameter → Type 0
ApartParameters bs [] = Unit
ApartParameters bs (p ∷ ps) = Unheld bs p.id × ApartParameters bs ps

-- no binder of a term has the id of one that encloses it; the binders around the term are given
unfoldable mutual
  pub Apart : List Binder → Written → Type 0
  Apart bs skip = Unit
  Apart bs (diverge ty) = Unit
  Apart bs (truth b) = Unit
  Apart bs (number b) = Unit
  Apart bs (call id ws) = AllApart bs ws
  Apart bs (fetch v) = Apart bs v
  Apart bs (operate op x y) = Apart bs x × Apart bs y
  Apart bs (assign x y) = Apart bs x × Apart bs y
  Apart bs (sequence x y) = Apart bs x × Apart bs y
  Apart bs (choose b x y) = Apart bs b × Apart bs x × Apart bs y
  Apart bs (while x y) = Apart bs x × Apart bs y
  Apart bs (new id d c) = Unheld bs id × Apart (a_block id d ∷ bs) c
  Apart bs (procedure id ty ps x y) =
      Unheld bs id × ApartParameters bs ps × Apart (inside ps bs) x × Apart (after id ty ps bs) y

  pub AllApart : List Binder → Writtens → Type 0
  AllApart bs none = Unit
  AllApart bs (more w ws) = Apart bs w × AllApart bs ws

-- a sheet that is accepted from [3] on: accepted under the earlier rule, and no binder hides another
pub record WellFormedApart (S : Sheet) : Type 0 where
  pub accepted : WellFormed S
  pub apart : Apart [] S.term

-- a binder that hides another: the place of its id byte, and its id
pub record Hiding : Type 0 where
  pub place : ℕ
  pub id : ℕ

-- an id whose byte is at a place
unfoldable pub hiding_id : List Binder → ℕ → ℕ → List Hiding
hiding_id bs at id = pick (is_held bs id) (record { place = at; id = id } ∷ []) []

unfoldable pub hiding_parameters : List Binder → ℕ → List Parameter → List Hiding
hiding_parameters bs at [] = []
hiding_parameters bs at (p ∷ ps) = hiding_id bs at p.id ++ hiding_parameters bs (2 + at) ps

-- the binders that hide others, in the order of their id bytes, of a term whose kind byte is at a place: the first is
-- where "16 at the id byte" is due (sheet_reader/specs/Agreement, HiddenRefused)
unfoldable mutual
  pub hiding : List Binder → ℕ → Written → List Hiding
  hiding bs at skip = []
  hiding bs at (diverge ty) = []
  hiding bs at (truth b) = []
  hiding bs at (number b) = []
  hiding bs at (call id ws) = all_hiding bs (record_width Use + at) ws
  hiding bs at (fetch v) = hiding bs (1 + at) v
  hiding bs at (operate op x y) =
      hiding bs (record_width Operate + at) x ++ hiding bs (record_width Operate + at + width x) y
  hiding bs at (assign x y) = hiding bs (1 + at) x ++ hiding bs (1 + at + width x) y
  hiding bs at (sequence x y) = hiding bs (1 + at) x ++ hiding bs (1 + at + width x) y
  hiding bs at (choose b x y) =
      hiding bs (1 + at) b ++ (hiding bs (1 + at + width b) x ++ hiding bs (1 + at + width b + width x) y)
  hiding bs at (while x y) = hiding bs (1 + at) x ++ hiding bs (1 + at + width x) y
  hiding bs at (new id d c) = hiding_id bs (1 + at) id ++ hiding (a_block id d ∷ bs) (record_width New + at) c
  hiding bs at (procedure id ty ps x y) =
      hiding_id bs (1 + at) id ++ (hiding_parameters bs (4 + at) ps
      ++ (hiding (inside ps bs) (record_width Procedure + at) x
      ++ hiding (after id ty ps bs) (record_width Procedure + at + width x) y))

  pub all_hiding : List Binder → ℕ → Writtens → List Hiding
  all_hiding bs at none = []
  all_hiding bs at (more w ws) = hiding bs at w ++ all_hiding bs (at + width w) ws

-- no binder hides another exactly if none is found
unfoldable pub ApartRule : Type 0
ApartRule = (W : Written) (bs : List Binder) (at : ℕ) → Apart bs W ↔ (hiding bs at W ≡ [])
