-- What report promises.
use Rattle.std.specs.Prelude.{◌≡◌, List, ℕ, Result}
use Rattle.sheet_records.specs.declared.refusal.Cause.{Cause}
use Rattle.serve_compare.specs.Promise.{ComparePromise}
use Rattle.serve_compare.specs.declared.Comparison.{Comparison}
use Rattle.print_text.specs.Page.{page, pushes}
use Rattle.print_text.specs.Text.{text_of}

-- an answer of compare, and its text at the start of out, as much as there is room for
pub record Reported (old new ws space out : List ℕ) (count : ℕ) (ws' space' out' : List ℕ) : Type 0 where
  pub answer : Result Comparison Cause
  pub compared : ComparePromise old new ws space answer ws' space'
  pub written : page out' count ≡ pushes (text_of old new answer space') (page out 0)
