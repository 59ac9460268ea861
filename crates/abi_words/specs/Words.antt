-- The words of an answer: its kind and its values, 0 for the rest of five words; then three words for the names that
-- the sheet checked or the old sheet uses and three for those of the new sheet, 0 where the answer tells of none.
-- Document 01, "Three services": "Check takes a sheet and gives its type and size"; follow gives "the greatest number
-- of moves" and "whether the whole given play is complete"; compare gives ""same", or "apart" with the sheet that has
-- the play, its number of moves"; "A refusal carries its number, which sheet, and the place". Document 02, [4]: of
-- renumber "the number of changes is given"; [6]: "Compare passes on both sheets' marks"; [9]: look "reports how many
-- moves were looked through"; [12]: "Make a card for each sheet and give its length".
use Rattle.std.specs.Prelude.{ℕ, ◌+◌, ◌*◌, ◌/◌, ◌%◌, ◌≡◌, List, [], ◌∷◌, ◌++◌, length, drop, ltb}
use Rattle.std.specs.Prelude.{Option, Some, None, Result, Ok, Err}
use Rattle.language.specs.Choice.{pick}
use Rattle.sheet_records.specs.declared.refusal.Cause.{Cause}
use Rattle.sheet_judge.specs.declared.mark.Uses.{Uses}
use Rattle.sheet_judge.specs.declared.check.Checked.{Checked}
use Rattle.play_words.specs.declared.Difference.{Difference}
use Rattle.serve_compare.specs.declared.Following.{Following}
use Rattle.serve_compare.specs.declared.Comparison.{Comparison}
use Rattle.serve_compare.specs.declared.Looking.{Looking}
use Rattle.serve_compare.specs.declared.Outcome.{Outcome}
use Rattle.serve_compare.specs.declared.Outcome.TheVariants.{Same, Apart, SoFar}
use Rattle.sheet_records.specs.Refusal.{number_of, sheet_number}

-- the kinds of answers
abbrev pub kind_refused : ℕ
kind_refused = 0

abbrev pub kind_accepted : ℕ
kind_accepted = 1

abbrev pub kind_follows : ℕ
kind_follows = 2

abbrev pub kind_same : ℕ
kind_same = 3

abbrev pub kind_apart : ℕ
kind_apart = 4

abbrev pub kind_renumbered : ℕ
kind_renumbered = 5

abbrev pub kind_so_far : ℕ
kind_so_far = 6

abbrev pub kind_card : ℕ
kind_card = 7

-- how many numbers a word of 32 bits can be
abbrev pub word_values : ℕ
word_values = 4294967296

-- a number in two words: its low 32 bits, and the others
abbrev pub low_half : ℕ → ℕ
low_half v = v % word_values

abbrev pub high_half : ℕ → ℕ
high_half v = v / word_values

-- nothing is lost by it
abbrev pub GivenWhole : Type 0
GivenWhole = (v : ℕ) → low_half v + word_values * high_half v ≡ v

-- how many words an answer has
abbrev pub answer_words : ℕ
answer_words = 11

-- the names that a sheet uses: the mark, how many of its bits are set, and the first declared record without one
abbrev pub uses_words : Uses → List ℕ
uses_words u = u.mark ∷ u.used ∷ u.unused ∷ []

-- where an answer tells of no names of a sheet
abbrev pub no_uses : List ℕ
no_uses = 0 ∷ 0 ∷ 0 ∷ []

-- a refusal: number, sheet (0 old, 1 new, 2 both) and place
unfoldable pub refusal_words : Cause → List ℕ
refusal_words x =
    (kind_refused ∷ number_of x.reason ∷ sheet_number x.sheet ∷ low_half x.place ∷ high_half x.place ∷ []) ++ no_uses ++ no_uses

-- accepted: type and size, and the names used
unfoldable pub check_words : Result Checked Cause → List ℕ
check_words (Ok c) = (kind_accepted ∷ c.ty ∷ c.size ∷ 0 ∷ 0 ∷ []) ++ uses_words c.uses ++ no_uses
check_words (Err x) = refusal_words x

-- followed: 1 where the play is complete, else 0, and how many moves
unfoldable pub follow_words : Result Following Cause → List ℕ
follow_words (Ok f) =
    (kind_follows ∷ pick f.complete 1 0 ∷ low_half f.count ∷ high_half f.count ∷ 0 ∷ []) ++ no_uses ++ no_uses
follow_words (Err x) = refusal_words x

-- same; or apart: the sheet, 0 old or 1 new, and how many moves
unfoldable pub found_words : Option Difference → List ℕ
found_words None = kind_same ∷ 0 ∷ 0 ∷ 0 ∷ 0 ∷ []
found_words (Some d) = kind_apart ∷ sheet_number d.sheet ∷ low_half d.moves ∷ high_half d.moves ∷ 0 ∷ []

-- either with the names that both sheets use
unfoldable pub compare_words : Result Comparison Cause → List ℕ
compare_words (Ok c) = found_words c.found ++ uses_words c.old ++ uses_words c.new
compare_words (Err x) = refusal_words x

-- looked through: same, apart with the sheet, or same so far; and how many moves were looked through
unfoldable pub outcome_words : Outcome → ℕ → List ℕ
outcome_words Same looked = kind_same ∷ 0 ∷ low_half looked ∷ high_half looked ∷ 0 ∷ []
outcome_words (Apart sheet) looked = kind_apart ∷ sheet_number sheet ∷ low_half looked ∷ high_half looked ∷ 0 ∷ []
outcome_words SoFar looked = kind_so_far ∷ 0 ∷ low_half looked ∷ high_half looked ∷ 0 ∷ []

-- with the names that both sheets use
unfoldable pub look_words : Result Looking Cause → List ℕ
look_words (Ok x) = outcome_words x.outcome x.looked ++ uses_words x.old ++ uses_words x.new
look_words (Err x) = refusal_words x

-- renumbered: how many changes
unfoldable pub renumber_words : Result ℕ Cause → List ℕ
renumber_words (Ok changes) = (kind_renumbered ∷ changes ∷ 0 ∷ 0 ∷ 0 ∷ []) ++ no_uses ++ no_uses
renumber_words (Err x) = refusal_words x

-- the card: its length, how many bytes it has
unfoldable pub card_words : Result ℕ Cause → List ℕ
card_words (Ok bytes) = (kind_card ∷ 0 ∷ low_half bytes ∷ high_half bytes ∷ 0 ∷ []) ++ no_uses ++ no_uses
card_words (Err x) = refusal_words x

-- the words lent, with an answer in the first of them; all as they were where there are too few
unfoldable pub answered : List ℕ → List ℕ → List ℕ
answered words out = pick (ltb (length out) answer_words) out (words ++ drop answer_words out)

-- what the service returns: 1 where the answer is written, 0 where too few words are lent for it
unfoldable pub status : List ℕ → ℕ
status out = pick (ltb (length out) answer_words) 0 1
