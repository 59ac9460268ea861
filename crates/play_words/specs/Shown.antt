-- The play of an entry of the search, in the words and in play space.
use Rattle.std.specs.Prelude.{◌≡◌, List, ℕ, ◌+◌, ◌*◌, length, get_or, take, eqb, Option, Some}
use Rattle.std.proofs.lemmas.List.Edits.{sets}
use Rattle.language.specs.Choice.{pick}
use Rattle.dfa.specs.Reading.{reversed}
use Rattle.dfa_search.specs.Spelled.{Spelled}
use Rattle.play_records.specs.Bytes.{records_by}
use Rattle.play_words.specs.declared.Difference.{Difference}
use Rattle.sheet_records.specs.declared.refusal.Sheets.TheVariants.{Old, New}

-- the play of entry k is written: its letters' records, its number of moves, and the sheet by where it ends
pub record Shown (n k f : ℕ) (ws space : List ℕ) (r : Option Difference) (space' : List ℕ) : Type 0 where
  pub letters : List ℕ
  pub spelled : Spelled n (take (5 * n) ws) k (reversed letters)
  pub answer : r ≡ Some (record { sheet = pick (eqb (get_or ws (n + 4 * k) 0) f) Old New; moves = length letters })
  pub written : space' ≡ sets space 0 (records_by letters)
