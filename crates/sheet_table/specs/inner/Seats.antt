-- What the table says of each record by the place of its kind byte: where its part ends, and the class of its type.
-- Only inner contracts cite it.
use Rattle.std.specs.Prelude.{ℕ, ◌+◌, ◌≤◌, ◌≡◌, List, [], ◌∷◌, length}
use Rattle.sheet_rows.specs.Row.{word, class_of}
use Rattle.sheet_written.specs.Written.{Written, Name}
use Rattle.sheet_written.specs.Meaning.{Binder, typed}
use Rattle.sheet_rows.specs.PartKind.{END, CLASS}
use Rattle.sheet_written.specs.Width.{width}
use Rattle.sheet_written.specs.Pieces.{Piece, pieces, own_width}

module _ (ns : List Name) (t : List ℕ) where
  -- the row at a place is that of a term; it has at most four parts
  pub record Seat (bs : List Binder) (at : ℕ) (W : Written) : Type 0 where
    pub ended : word t at END ≡ at + width W
    pub classed : word t at CLASS ≡ class_of (typed ns bs W)
    pub few : length (pieces bs W) ≤ 4

  -- the rows of a term and of its parts
  mutual
    pub data Seated : List Binder → ℕ → Written → Type 0 where
      seated : {bs : List Binder} {at : ℕ} {W : Written} → Seat bs at W → SeatedAll (at + own_width W) (pieces bs W) →
          Seated bs at W

    pub data SeatedAll : ℕ → List Piece → Type 0 where
      seated_none : {at : ℕ} → SeatedAll at []
      seated_more : {at : ℕ} {p : Piece} {ps : List Piece} → Seated p.around at p.term →
          SeatedAll (at + width p.term) ps → SeatedAll at (p ∷ ps)
