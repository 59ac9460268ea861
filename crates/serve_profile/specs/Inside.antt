-- The same said without a list of places: a record offends that may not stand inside an expression, and stands inside a
-- part of expression type. Document 02 [13]: "inside a part of expression type (the whole term counts as a part, and a
-- part's own record is inside it)".
use Rattle.std.specs.Prelude.{ℕ, ◌+◌, ◌≡◌, ◌↔◌, true, List, [], ◌∷◌}
use Rattle.sheet_written.specs.Written.{Written, Name, Sheet}
use Rattle.sheet_written.specs.Meaning.{Binder, typed}
use Rattle.sheet_written.specs.Width.{width, heading_width}
use Rattle.sheet_written.specs.Pieces.{Piece, pieces, own_width}
use Rattle.serve_profile.specs.Offence.{is_expression, loud, offences}

-- the part X, with the binders cs around it, has its kind byte at p, in the part W, which has the binders bs around it
-- and its kind byte at a place
mutual
  pub data Stands : List Binder → ℕ → Written → List Binder → ℕ → Written → Type 0 where
    itself : {bs : List Binder} {at : ℕ} {W : Written} → Stands bs at W bs at W
    below : {bs cs : List Binder} {at p : ℕ} {W X : Written} → StandsIn (at + own_width W) (pieces bs W) cs p X →
        Stands bs at W cs p X

  -- the same of parts that stand one after the other from a place on
  pub data StandsIn : ℕ → List Piece → List Binder → ℕ → Written → Type 0 where
    in_first : {at p : ℕ} {q : Piece} {qs : List Piece} {cs : List Binder} {X : Written} →
        Stands q.around at q.term cs p X → StandsIn at (q ∷ qs) cs p X
    in_later : {at p : ℕ} {q : Piece} {qs : List Piece} {cs : List Binder} {X : Written} →
        StandsIn (at + width q.term) qs cs p X → StandsIn at (q ∷ qs) cs p X

-- some record at a place of a part is loud, and stands inside a part of expression type
pub record Offends (ns : List Name) (bs : List Binder) (at : ℕ) (W : Written) (p : ℕ) : Type 0 where
  pub around : List Binder
  pub place : ℕ
  pub part : Written
  pub stands : Stands bs at W around place part
  pub expression : is_expression (typed ns around part) ≡ true
  pub within : List Binder
  pub found : Written
  pub inside : Stands around place part within p found
  pub is_loud : loud ns within found ≡ true

-- a place of a list
pub data Has : List ℕ → ℕ → Type 0 where
  has_first : {p : ℕ} {ps : List ℕ} → Has (p ∷ ps) p
  has_later : {p q : ℕ} {ps : List ℕ} → Has ps p → Has (q ∷ ps) p

unfoldable pub OffenceRule : Type 0
OffenceRule =
    (S : Sheet) (p : ℕ) → Has (offences S) p ↔ Offends S.names [] (heading_width S) S.term p
