-- What writing the positions of a sheet asks, and what it leaves.
use Rattle.std.specs.Prelude.{List, ◌++◌, ◌∷◌, ◌≡◌, ◌+◌, ◌≤◌, ℕ, length, take}
use Rattle.std.proofs.lemmas.List.Edits.{sets}
use Rattle.sheet_written.specs.Meaning.{term_of, ty_of, type_of}
use Rattle.sheet_written.specs.Written.{Sheet}
use Rattle.sheet_written.specs.Width.{heading_width}
use Rattle.sheet_reader.specs.Reader.{accepted, read_sheet}
use Rattle.states_build.specs.inner.Built.{OneBuilt}
use Rattle.serve_conditions.specs.Lent.{words_asked}
use Rattle.serve_card.specs.Promise.{CardOf}

-- the words hold the automaton of the sheet that the bytes s hold, and the place is that after its heading and its type
pub record Drawable (s : List ℕ) (ty all place : ℕ) (ws : List ℕ) : Type 0 where
  pub sheet : Sheet
  pub reads : read_sheet s ≡ accepted sheet ty all
  pub after : place ≡ heading_width sheet + 1
  pub room : words_asked sheet.numbers all ≤ length ws
  pub built : OneBuilt sheet.numbers (ty_of sheet.numbers (type_of sheet)) (term_of sheet) (all + 1) ws

-- bytes are written from the place on that, with the heading and the type before them, are the card
pub record Drawn (s : List ℕ) (ty : ℕ) (sheet : Sheet) (place : ℕ) (space : List ℕ) (r : ℕ) (space' : List ℕ) :
    Type 0 where
  pub bytes : List ℕ
  pub is : CardOf s (take (heading_width sheet) s ++ (ty ∷ bytes))
  pub returned : r ≡ place + length bytes
  pub written : space' ≡ sets space place bytes
