-- What card promises, for all slices lent. Document 02 [12].
use Rattle.std.specs.Prelude.{◌≡◌, List, ◌++◌, ◌*◌, ℕ, ltb, drop, length, Result, Ok, Err}
use Rattle.std.proofs.Math.Option.{Option, none, some}
use Rattle.language.specs.Choice.{pick}
use Rattle.language.specs.declared.Numbers.{Numbers}
use Rattle.sheet_records.specs.Limits.{earlier_z}
use Rattle.sheet_records.specs.Refusal.{both_sheets, old_sheet, space_too_short, too_few_words}
use Rattle.sheet_records.specs.declared.refusal.Cause.{Cause}
use Rattle.sheet_written.specs.Written.{Sheet}
use Rattle.sheet_written.specs.Width.{heading_width}
use Rattle.sheet_reader.specs.Reader.{accepted, read_sheet}
use Rattle.serve_conditions.specs.Lent.{words_asked}
use Rattle.serve_compare.specs.Promise.{Cleared}
use Rattle.serve_compare.specs.Refusals.{on_read}
use Rattle.serve_conditions.specs.Pair.{refusing}
use Rattle.serve_card.specs.Positions.{Position, Table}
use Rattle.serve_card.specs.Card.{card_bytes}

-- "Space must be 128 × S bytes, or 512 × S where Z is above 7"
unfoldable pub space_for : Numbers → ℕ → ℕ
space_for N size = pick (ltb earlier_z N.z) 512 128 * size

-- "then 13, then 14": of a sheet that is read, its range and rule, so many words and bytes of card space, and its size.
-- "Working words are as for follow"
abbrev pub lent_refusal : Numbers → ℕ → ℕ → ℕ → Option Cause
lent_refusal N words space size =
    pick (ltb words (words_asked N size)) (refusing too_few_words both_sheets 0)
    (pick (ltb space (space_for N size)) (refusing space_too_short both_sheets 0) none)

-- "Refused: the sheet's own, then 13, then 14"
unfoldable pub card_refusal : List ℕ → ℕ → ℕ → Option Cause
card_refusal s words space =
    on_read (read_sheet s) old_sheet (λ N root ty size. lent_refusal N words space size)

-- c is the card of the sheet that the bytes s hold
pub record CardOf (s : List ℕ) (c : List ℕ) : Type 0 where
  pub sheet : Sheet
  pub type : ℕ
  pub size : ℕ
  pub reads : read_sheet s ≡ accepted sheet type size
  pub table : List Position
  pub positions : Table sheet table
  pub bytes : c ≡ card_bytes s (heading_width sheet) type sheet.numbers table

-- the answer to an accepted call: the card at the start of the space, the rest of it untouched, all words 0
pub record Carded (s ws space : List ℕ) (r : Result ℕ Cause) (ws' space' : List ℕ) : Type 0 where
  pub card : List ℕ
  pub is : CardOf s card
  pub answer : r ≡ Ok (length card)
  pub written : space' ≡ card ++ drop (length card) space
  pub cleared : Cleared ws ws'

unfoldable pub CardedBy : Option Cause → List ℕ → List ℕ → List ℕ → Result ℕ Cause → List ℕ → List ℕ → Type 0
CardedBy none s ws space r ws' space' = Carded s ws space r ws' space'
CardedBy (some x) s ws space r ws' space' = (r ≡ Err x) × ((ws' ≡ ws) × (space' ≡ space))

abbrev pub CardPromise : List ℕ → List ℕ → List ℕ → Result ℕ Cause → List ℕ → List ℕ → Type 0
CardPromise s ws space r ws' space' = CardedBy (card_refusal s (length ws) (length space)) s ws space r ws' space'
