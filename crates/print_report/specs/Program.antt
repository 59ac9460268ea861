-- What holds of the programs: the one that compares, document 01, "A program reads `old.sheet` and `new.sheet`", and
-- the one that renumbers, document 02, [4].
use Rattle.std.specs.Prelude.{◌≡◌, List, ℕ, ◌≤◌, length, take, Result}
use Rattle.std.proofs.Math.Option.{some}
use Rattle.sheet_records.specs.declared.refusal.Cause.{Cause}
use Rattle.serve_compare.specs.Promise.{ComparePromise}
use Rattle.sheet_records.specs.Refusal.{space_too_short}
use Rattle.serve_compare.specs.Refusals.{compare_refusal}
use Rattle.serve_compare.specs.declared.Comparison.{Comparison}
use Rattle.print_text.specs.Text.{text_of}
use Rattle.print_report.specs.Reported.{Reported}
use Rattle.serve_renumber.specs.Outcome.{RenumberPromise}
use Rattle.print_report.specs.declared.changes.Told.{Told}
use Rattle.print_report.specs.Changes.{renumber_text, RenumberReported}

-- how many working words, bytes of play space and bytes for the text the program that compares lends
abbrev pub lent_words : ℕ
lent_words = 16384

abbrev pub lent_space : ℕ
lent_space = 2040

abbrev pub lent_text : ℕ
lent_text = 8192

-- how many bytes for the text the program that renumbers lends
abbrev pub lent_changes : ℕ
lent_changes = 4096

-- no refusal that the program that compares prints has the number 14
abbrev pub Never14 : Type 0
Never14 = (old new : List ℕ) (x : Cause) → compare_refusal old new lent_words lent_space ≡ some x →
    x.reason ≡ space_too_short → ⊥

-- every text that it can print, of whatever two sheets, has room
abbrev pub BufferHolds : Type 0
BufferHolds = (old new ws space : List ℕ) (r : Result Comparison Cause) (ws' space' : List ℕ) → length ws ≡ lent_words →
    length space ≡ lent_space → ComparePromise old new ws space r ws' space' →
    length (text_of old new r space') ≤ lent_text

-- so the bytes that it prints are the whole text of the answer
abbrev pub PrintsWhole : Type 0
PrintsWhole = (old new ws space out : List ℕ) (count : ℕ) (ws' space' out' : List ℕ) → length ws ≡ lent_words →
    length space ≡ lent_space → length out ≡ lent_text → (R : Reported old new ws space out count ws' space' out') →
    take count out' ≡ text_of old new R.answer space'

-- every text that the program renumber can print, of whatever sheet, has room
abbrev pub RenumberBufferHolds : Type 0
RenumberBufferHolds = (s output list : List ℕ) (r : Result ℕ Cause) (output' list' : List ℕ) →
    RenumberPromise s r output output' list list' → length (renumber_text r list') ≤ lent_changes

-- so the bytes that it prints are the whole text of the answer
abbrev pub RenumberPrintsWhole : Type 0
RenumberPrintsWhole = (s output list out : List ℕ) (t : Told) (output' list' out' : List ℕ) →
    length out ≡ lent_changes → (R : RenumberReported s output list out t output' list' out') →
    take t.count out' ≡ renumber_text R.answer list'
