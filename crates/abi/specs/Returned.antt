-- What the boundary promises of follow, compare, look, renumber and card: where fewer words are lent than an answer
-- has, 0, and nothing changes; else 1, the answer in the first words of `out`, and what the service promises of all
-- else.
use Rattle.std.specs.Prelude.{◌≡◌, List, ◌++◌, ℕ, ◌≤◌, ◌<◌, length, drop, Result}
use Rattle.sheet_records.specs.declared.refusal.Cause.{Cause}
use Rattle.serve_compare.specs.Promise.{FollowPromise, ComparePromise}
use Rattle.serve_compare.specs.Look.{LookPromise}
use Rattle.serve_compare.specs.declared.Following.{Following}
use Rattle.serve_compare.specs.declared.Comparison.{Comparison}
use Rattle.serve_compare.specs.declared.Looking.{Looking}
use Rattle.serve_renumber.specs.Outcome.{RenumberPromise}
use Rattle.serve_card.specs.Promise.{CardPromise}
use Rattle.abi_words.specs.Words.{answer_words, follow_words, compare_words, look_words, renumber_words, card_words}

pub data FollowReturned (s play ws out : List ℕ) (r : ℕ) (ws' out' : List ℕ) : Type 0 where
  no_room : length out < answer_words → r ≡ 0 → ws' ≡ ws → out' ≡ out → FollowReturned s play ws out r ws' out'
  answers : (a : Result Following Cause) → answer_words ≤ length out → r ≡ 1 → FollowPromise s play ws a ws' →
      out' ≡ follow_words a ++ drop answer_words out → FollowReturned s play ws out r ws' out'

pub data CompareReturned (old new ws space out : List ℕ) (r : ℕ) (ws' space' out' : List ℕ) : Type 0 where
  no_room : length out < answer_words → r ≡ 0 → ws' ≡ ws → space' ≡ space → out' ≡ out →
      CompareReturned old new ws space out r ws' space' out'
  answers : (a : Result Comparison Cause) → answer_words ≤ length out → r ≡ 1 → ComparePromise old new ws space a ws' space' →
      out' ≡ compare_words a ++ drop answer_words out → CompareReturned old new ws space out r ws' space' out'

pub data LookReturned (old new : List ℕ) (limit : ℕ) (ws space out : List ℕ) (r : ℕ) (ws' space' out' : List ℕ) :
    Type 0 where
  no_room : length out < answer_words → r ≡ 0 → ws' ≡ ws → space' ≡ space → out' ≡ out →
      LookReturned old new limit ws space out r ws' space' out'
  answers : (a : Result Looking Cause) → answer_words ≤ length out → r ≡ 1 → LookPromise old new limit ws space a ws' space' →
      out' ≡ look_words a ++ drop answer_words out → LookReturned old new limit ws space out r ws' space' out'

pub data RenumberReturned (s output list out : List ℕ) (r : ℕ) (output' list' out' : List ℕ) : Type 0 where
  no_room : length out < answer_words → r ≡ 0 → output' ≡ output → list' ≡ list → out' ≡ out →
      RenumberReturned s output list out r output' list' out'
  answers : (a : Result ℕ Cause) → answer_words ≤ length out → r ≡ 1 → RenumberPromise s a output output' list list' →
      out' ≡ renumber_words a ++ drop answer_words out → RenumberReturned s output list out r output' list' out'

pub data CardReturned (s ws space out : List ℕ) (r : ℕ) (ws' space' out' : List ℕ) : Type 0 where
  no_room : length out < answer_words → r ≡ 0 → ws' ≡ ws → space' ≡ space → out' ≡ out →
      CardReturned s ws space out r ws' space' out'
  answers : (a : Result ℕ Cause) → answer_words ≤ length out → r ≡ 1 → CardPromise s ws space a ws' space' →
      out' ≡ card_words a ++ drop answer_words out → CardReturned s ws space out r ws' space' out'
