-- What document 02 [12] says of cards, as statements.
use Rattle.std.specs.Prelude.{List, [], ◌++◌, ◌∷◌, ◌↔◌, ◌⊎◌, ◌≡◌, ◌+◌, ◌<◌, ◌≤◌, ℕ, drop, get_or, length, take}
use Rattle.std.specs.Prelude.{Result}
use Rattle.std.proofs.Math.Option.{none, some}
use Rattle.language.specs.Move.{Move, Word}
use Rattle.sheet_records.specs.Refusal.{both_sheets, cause, old_sheet, headings_differ, space_too_short, too_few_words}
use Rattle.sheet_records.specs.declared.refusal.Cause.{Cause}
use Rattle.sheet_records.specs.declared.refusal.Reason.{Reason}
use Rattle.sheet_written.specs.Written.{Sheet}
use Rattle.sheet_written.specs.Width.{heading_width}
use Rattle.sheet_judge.specs.declared.mark.Uses.{Uses}
use Rattle.sheet_reader.specs.Reader.{accepted, read_sheet, rejected}
use Rattle.states_words.specs.Letter.{Small}
use Rattle.serve_compare.specs.Demands.{CheckNumber}
use Rattle.serve_compare.specs.Plays.{Alike, CompletePlay}
use Rattle.serve_compare.specs.Promise.{Same, ComparePromise}
use Rattle.serve_compare.specs.Refusals.{compare_refusal}
use Rattle.serve_compare.specs.declared.Comparison.{Comparison}
use Rattle.serve_card.specs.Card.{card_bytes}
use Rattle.serve_card.specs.Reading.{read_table}
use Rattle.serve_card.specs.Positions.{Among, Position, no_position}
use Rattle.serve_card.specs.Smallest.{HasPlays}
use Rattle.serve_card.specs.Promise.{CardOf, CardPromise, card_refusal, space_for}

-- "For two sheets that compare accepts, the cards are equal bytes exactly if it says "same""
abbrev pub SameCards : Type 0
SameCards = (old new c d : List ℕ) (words space : ℕ) (C : CardOf old c) (D : CardOf new d)
    → compare_refusal old new words space ≡ none
    → (c ≡ d) ↔ ((u : Word) → Alike C.sheet D.sheet u)

-- the same by compare's answer
abbrev pub SaysSame : Result Comparison Cause → Type 0
SaysSame r = (old new : Uses) × (r ≡ Same old new)

abbrev pub SameByCompare : Type 0
SameByCompare = (old new c d ws space : List ℕ) (r : Result Comparison Cause) (ws' space' : List ℕ) → CardOf old c → CardOf new d
    → ComparePromise old new ws space r ws' space' → compare_refusal old new (length ws) (length space) ≡ none
    → (c ≡ d) ↔ SaysSame r

-- a sheet has one card
abbrev pub OneCard : Type 0
OneCard = (s c d : List ℕ) → CardOf s c → CardOf s d → c ≡ d

-- "Space must be 128 × S bytes, or 512 × S where Z is above 7": no card is longer
abbrev pub CardFits : Type 0
CardFits = (s c : List ℕ) (C : CardOf s c) → length c ≤ space_for C.sheet.numbers C.size

-- what card promises allows one answer and one state of everything lent
abbrev pub CardUnique : Type 0
CardUnique = (s ws space : List ℕ) (r r₂ : Result ℕ Cause) (ws₁ ws₂ space₁ space₂ : List ℕ)
    → CardPromise s ws space r ws₁ space₁ → CardPromise s ws space r₂ ws₂ space₂
    → (r ≡ r₂) × ((ws₁ ≡ ws₂) × (space₁ ≡ space₂))

-- a card tells the plays: whatever table has these bytes after the heading and the type, of moves whose parts are in
-- range, has exactly the complete plays of the sheet
abbrev pub CardTells : Type 0
CardTells = (s c : List ℕ) (C : CardOf s c) (U : List Position)
    → ((k : ℕ) → k < length U → (m : Move) (j : ℕ) → Among (get_or U k no_position).arcs m j
    → Small C.sheet.numbers m)
    → c ≡ card_bytes s (heading_width C.sheet) C.type C.sheet.numbers U → HasPlays C.sheet U

-- what is read from a card after the heading and the type is its table, which has exactly the complete plays
abbrev pub CardReads : Type 0
CardReads = (s c : List ℕ) (C : CardOf s c)
    → (read_table C.sheet.numbers (drop (heading_width C.sheet + 1) c) ≡ C.table)
    × HasPlays C.sheet (read_table C.sheet.numbers (drop (heading_width C.sheet + 1) c))

-- "A routine without plays has no positions"
abbrev pub NoPositions : Type 0
NoPositions = (s c : List ℕ) (C : CardOf s c) → ((u : Word) → CompletePlay C.sheet u → ⊥)
    → c ≡ take (heading_width C.sheet) s ++ (C.type ∷ [])

-- "Refused: the sheet's own, then 13, then 14": the sheet's own is check's
pub record SheetRefused (s : List ℕ) (x : Cause) : Type 0 where
  pub reason : Reason
  pub place : ℕ
  pub reads : read_sheet s ≡ rejected reason place
  pub known : CheckNumber reason
  pub says : x ≡ cause reason old_sheet place

-- 13 and 14 are of a sheet that is accepted
pub record LentRefused (s : List ℕ) (x : Cause) : Type 0 where
  pub sheet : Sheet
  pub type : ℕ
  pub size : ℕ
  pub reads : read_sheet s ≡ accepted sheet type size
  pub says : (x ≡ cause too_few_words both_sheets 0) ⊎ (x ≡ cause space_too_short both_sheets 0)

-- card refuses by these, and by no others
abbrev pub CardNumbers : Type 0
CardNumbers = (s : List ℕ) (words space : ℕ) (x : Cause) → card_refusal s words space ≡ some x
    → SheetRefused s x ⊎ LentRefused s x

-- sheets with other headings or types have other cards
abbrev pub OtherHeading : Type 0
OtherHeading = (old new c d : List ℕ) (C : CardOf old c) (D : CardOf new d) → c ≡ d
    → (take (heading_width C.sheet) old ≡ take (heading_width D.sheet) new) × (C.type ≡ D.type)

-- so any two sheets with equal cards are not refused by 12, whatever is lent, and have the same complete plays
abbrev pub EqualCards : Type 0
EqualCards = (old new c d : List ℕ) (C : CardOf old c) (D : CardOf new d) → c ≡ d
    → ((words space : ℕ) (x : Cause) → compare_refusal old new words space ≡ some x → x.reason ≡ headings_differ → ⊥)
    × ((u : Word) → Alike C.sheet D.sheet u)
