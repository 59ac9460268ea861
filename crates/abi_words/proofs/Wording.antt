-- The words of each answer.
use Prim.Native.Nat.{ℕ}
use mathlib.Core.Path.{◌≡◌, refl}
use mathlib.Core.Bool.{Bool, true, false}
use mathlib.Core.List.{List, [], ◌∷◌, ◌++◌}
use Rattle.std.specs.Prelude.{Option, Some, None, Result, Ok, Err}
use Rattle.sheet_records.specs.declared.refusal.Cause.{Cause}
use Rattle.sheet_judge.specs.declared.mark.Uses.{Uses}
use Rattle.sheet_judge.specs.declared.check.Checked.{Checked}
use Rattle.play_words.specs.declared.Difference.{Difference}
use Rattle.serve_compare.specs.declared.Following.{Following}
use Rattle.serve_compare.specs.declared.Comparison.{Comparison}
use Rattle.serve_compare.specs.declared.Looking.{Looking}
use Rattle.serve_compare.specs.declared.Outcome.{Outcome}
use Rattle.serve_compare.specs.declared.Outcome.TheVariants.{Same, Apart, SoFar}
use Rattle.abi_words.specs.Words.{kind_refused, kind_accepted, kind_follows, kind_same, kind_apart, kind_renumbered}
use Rattle.abi_words.specs.Words.{low_half, high_half, uses_words, no_uses, refusal_words, check_words, follow_words}
use Rattle.abi_words.specs.Words.{found_words, compare_words, kind_so_far, outcome_words, look_words, renumber_words, answered, status}
use Rattle.abi_words.specs.Words.{kind_card, card_words}
use Rattle.sheet_records.specs.Refusal.{number_of, sheet_number}
use Rattle.sheet_records.specs.declared.refusal.Sheets.{Sheets}

-- an answer by other words for the same
pub returned-as : (out out' ws ws₂ : List ℕ) (x : ℕ) → ws ≡ ws₂ → x ≡ status out → out' ≡ answered ws out →
    (x ≡ status out) × (out' ≡ answered ws₂ out)
returned-as out out' ws ws₂ x e t w = rw (← e) (t, w)

-- a refusal by its numbers
pub words-numbered : (number sheet place low high : ℕ) → low ≡ low_half place → high ≡ high_half place →
    ((kind_refused ∷ number ∷ sheet ∷ low ∷ high ∷ []) ++ no_uses ++ no_uses) ≡
    ((kind_refused ∷ number ∷ sheet ∷ low_half place ∷ high_half place ∷ []) ++ no_uses ++ no_uses)
words-numbered number sheet place low high p q = rw (p, q) refl

-- the words of each answer
pub words-refused : (x : Cause) (number sheet low high : ℕ) → number ≡ number_of x.reason →
    sheet ≡ sheet_number x.sheet → low ≡ low_half x.place → high ≡ high_half x.place →
    ((kind_refused ∷ number ∷ sheet ∷ low ∷ high ∷ []) ++ no_uses ++ no_uses) ≡ refusal_words x
unfolding refusal_words
words-refused x number sheet low high n s p q = rw (n, s, p, q) refl

pub words-accepted : (r : Result Checked Cause) (ty size : ℕ) (uses : Uses) → r ≡ Ok (record { ty = ty; size = size; uses = uses }) →
    ((kind_accepted ∷ ty ∷ size ∷ 0 ∷ 0 ∷ []) ++ uses_words uses ++ no_uses) ≡ check_words r
unfolding check_words
words-accepted r ty size uses e = rw e refl

pub words-not-accepted : (r : Result Checked Cause) (x : Cause) → r ≡ Err x → refusal_words x ≡ check_words r
unfolding check_words
words-not-accepted r x e = rw e refl

pub words-complete : (r : Result Following Cause) (count low high : ℕ) (complete : Bool) → r ≡ Ok (record { count = count; complete = complete }) →
    complete ≡ true → low ≡ low_half count → high ≡ high_half count →
    ((kind_follows ∷ 1 ∷ low ∷ high ∷ 0 ∷ []) ++ no_uses ++ no_uses) ≡ follow_words r
unfolding follow_words
words-complete r count low high complete e c p q = rw (e, c, p, q) refl

pub words-begun : (r : Result Following Cause) (count low high : ℕ) (complete : Bool) → r ≡ Ok (record { count = count; complete = complete }) →
    complete ≡ false → low ≡ low_half count → high ≡ high_half count →
    ((kind_follows ∷ 0 ∷ low ∷ high ∷ 0 ∷ []) ++ no_uses ++ no_uses) ≡ follow_words r
unfolding follow_words
words-begun r count low high complete e c p q = rw (e, c, p, q) refl

pub words-not-followed : (r : Result Following Cause) (x : Cause) → r ≡ Err x → refusal_words x ≡ follow_words r
unfolding follow_words
words-not-followed r x e = rw e refl

pub words_same : (r : Result Comparison Cause) (found : Option Difference) (old new : Uses) →
    r ≡ Ok (record { found = found; old = old; new = new }) → found ≡ None →
    ((kind_same ∷ 0 ∷ 0 ∷ 0 ∷ 0 ∷ []) ++ uses_words old ++ uses_words new) ≡ compare_words r
unfolding compare_words found_words
words_same r found old new e f = rw (e, f) refl

pub words-apart : (r : Result Comparison Cause) (found : Option Difference) (d : Difference) (sheet low high : ℕ)
    (old new : Uses) → r ≡ Ok (record { found = found; old = old; new = new }) → found ≡ Some d →
    sheet ≡ sheet_number d.sheet → low ≡ low_half d.moves → high ≡ high_half d.moves →
    ((kind_apart ∷ sheet ∷ low ∷ high ∷ 0 ∷ []) ++ uses_words old ++ uses_words new) ≡ compare_words r
unfolding compare_words found_words
words-apart r found d sheet low high old new e f s p q = rw (e, f, s, p, q) refl

pub words-not-compared : (r : Result Comparison Cause) (x : Cause) → r ≡ Err x → refusal_words x ≡ compare_words r
unfolding compare_words
words-not-compared r x e = rw e refl

pub words-depth : (kind a looked low high : ℕ) (old new : Uses) → low ≡ low_half looked → high ≡ high_half looked →
    ((kind ∷ a ∷ low ∷ high ∷ 0 ∷ []) ++ uses_words old ++ uses_words new) ≡
    ((kind ∷ a ∷ low_half looked ∷ high_half looked ∷ 0 ∷ []) ++ uses_words old ++ uses_words new)
words-depth kind a looked low high old new p q = rw (p, q) refl

pub words-looked-same : (r : Result Looking Cause) (o : Outcome) (looked : ℕ) (old new : Uses) →
    r ≡ Ok (record { outcome = o; looked = looked; old = old; new = new }) → o ≡ Same →
    ((kind_same ∷ 0 ∷ low_half looked ∷ high_half looked ∷ 0 ∷ []) ++ uses_words old ++ uses_words new) ≡ look_words r
unfolding look_words outcome_words
words-looked-same r o looked old new e f = rw (e, f) refl

pub words-looked-apart : (r : Result Looking Cause) (o : Outcome) (which : Sheets) (sheet looked : ℕ) (old new : Uses) →
    r ≡ Ok (record { outcome = o; looked = looked; old = old; new = new }) → o ≡ Apart which →
    sheet ≡ sheet_number which →
    ((kind_apart ∷ sheet ∷ low_half looked ∷ high_half looked ∷ 0 ∷ []) ++ uses_words old ++ uses_words new) ≡ look_words r
unfolding look_words outcome_words
words-looked-apart r o which sheet looked old new e f s = rw (e, f, s) refl

pub words-looked-so-far : (r : Result Looking Cause) (o : Outcome) (looked : ℕ) (old new : Uses) →
    r ≡ Ok (record { outcome = o; looked = looked; old = old; new = new }) → o ≡ SoFar →
    ((kind_so_far ∷ 0 ∷ low_half looked ∷ high_half looked ∷ 0 ∷ []) ++ uses_words old ++ uses_words new) ≡ look_words r
unfolding look_words outcome_words
words-looked-so-far r o looked old new e f = rw (e, f) refl

pub words-not-looked : (r : Result Looking Cause) (x : Cause) → r ≡ Err x → refusal_words x ≡ look_words r
unfolding look_words
words-not-looked r x e = rw e refl

pub words-renumbered : (r : Result ℕ Cause) (changes : ℕ) → r ≡ Ok changes →
    ((kind_renumbered ∷ changes ∷ 0 ∷ 0 ∷ 0 ∷ []) ++ no_uses ++ no_uses) ≡ renumber_words r
unfolding renumber_words
words-renumbered r changes e = rw e refl

pub words-not-renumbered : (r : Result ℕ Cause) (x : Cause) → r ≡ Err x → refusal_words x ≡ renumber_words r
unfolding renumber_words
words-not-renumbered r x e = rw e refl

pub words-card : (r : Result ℕ Cause) (length low high : ℕ) → r ≡ Ok length → low ≡ low_half length → high ≡ high_half length →
    ((kind_card ∷ 0 ∷ low ∷ high ∷ 0 ∷ []) ++ no_uses ++ no_uses) ≡ card_words r
unfolding card_words
words-card r length low high e p q = rw (e, p, q) refl

pub words-no-card : (r : Result ℕ Cause) (x : Cause) → r ≡ Err x → refusal_words x ≡ card_words r
unfolding card_words
words-no-card r x e = rw e refl
