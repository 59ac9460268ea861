-- What the boundary promises, once an answer is written.
use Prim.Native.Nat.{ℕ, ◌≤◌}
use mathlib.Core.Path.{◌≡◌}
use mathlib.Core.List.{List}
use Rattle.std.specs.Prelude.{Result}
use Rattle.sheet_records.specs.declared.refusal.Cause.{Cause}
use lib.ListN.{length}
use borrow.Author.Tests.{le-ltb}
use Rattle.sheet_judge.specs.declared.check.Checked.{Checked}
use Rattle.serve_compare.specs.Promise.{FollowPromise, ComparePromise}
use Rattle.serve_compare.specs.Look.{LookPromise}
use Rattle.serve_compare.specs.declared.Following.{Following}
use Rattle.serve_compare.specs.declared.Comparison.{Comparison}
use Rattle.serve_compare.specs.declared.Looking.{Looking}
use Rattle.serve_renumber.specs.Outcome.{RenumberPromise}
use Rattle.serve_card.specs.Promise.{CardPromise}
use Rattle.abi_words.specs.Words.{answer_words, check_words, follow_words, compare_words, look_words, renumber_words}
use Rattle.abi_words.specs.Words.{card_words, answered, status}
use Rattle.abi.specs.Returned.{FollowReturned, CompareReturned, LookReturned, RenumberReturned, CardReturned}
use Rattle.abi.specs.Returned.{answers}

-- check's answer, by what check gives
pub check-returned : (out out' : List ℕ) (r y : Result Checked Cause) (x : ℕ) → r ≡ y → x ≡ status out →
    out' ≡ answered (check_words r) out → (x ≡ status out) × (out' ≡ answered (check_words y) out)
check-returned out out' r y x e t w = rw (← e) (t, w)

-- with room for the answer
pub follow-returned : (s play ws out ws' out' : List ℕ) (x : ℕ) (a : Result Following Cause) → answer_words ≤ length out →
    FollowPromise s play ws a ws' → x ≡ status out → out' ≡ answered (follow_words a) out →
    FollowReturned s play ws out x ws' out'
unfolding status answered
follow-returned s play ws out ws' out' x a h p t w =
    answers a h (rw (le-ltb (length out) answer_words h) at t) p (rw (le-ltb (length out) answer_words h) at w)

pub compare-returned : (old new ws space out ws' space' out' : List ℕ) (x : ℕ) (a : Result Comparison Cause) →
    answer_words ≤ length out → ComparePromise old new ws space a ws' space' → x ≡ status out →
    out' ≡ answered (compare_words a) out → CompareReturned old new ws space out x ws' space' out'
unfolding status answered
compare-returned old new ws space out ws' space' out' x a h p t w =
    answers a h (rw (le-ltb (length out) answer_words h) at t) p (rw (le-ltb (length out) answer_words h) at w)

pub look-returned : (old new : List ℕ) (limit : ℕ) (ws space out ws' space' out' : List ℕ) (x : ℕ) (a : Result Looking Cause) →
    answer_words ≤ length out → LookPromise old new limit ws space a ws' space' → x ≡ status out →
    out' ≡ answered (look_words a) out → LookReturned old new limit ws space out x ws' space' out'
unfolding status answered
look-returned old new limit ws space out ws' space' out' x a h p t w =
    answers a h (rw (le-ltb (length out) answer_words h) at t) p (rw (le-ltb (length out) answer_words h) at w)

pub renumber-returned : (s output list out output' list' out' : List ℕ) (x : ℕ) (a : Result ℕ Cause) →
    answer_words ≤ length out → RenumberPromise s a output output' list list' → x ≡ status out →
    out' ≡ answered (renumber_words a) out → RenumberReturned s output list out x output' list' out'
unfolding status answered
renumber-returned s output list out output' list' out' x a h p t w =
    answers a h (rw (le-ltb (length out) answer_words h) at t) p (rw (le-ltb (length out) answer_words h) at w)

pub card-returned : (s ws space out ws' space' out' : List ℕ) (x : ℕ) (a : Result ℕ Cause) → answer_words ≤ length out →
    CardPromise s ws space a ws' space' → x ≡ status out → out' ≡ answered (card_words a) out →
    CardReturned s ws space out x ws' space' out'
unfolding status answered
card-returned s ws space out ws' space' out' x a h p t w =
    answers a h (rw (le-ltb (length out) answer_words h) at t) p (rw (le-ltb (length out) answer_words h) at w)
