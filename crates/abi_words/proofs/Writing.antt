-- The words of an answer, where there is room for them and where there is none.
use Prim.Native.Nat.{ℕ, ◌≤◌, ◌<◌}
use mathlib.Core.Path.{◌≡◌, refl}
use mathlib.Core.List.{List, ◌++◌}
use lib.ListN.{length, drop}
use borrow.Author.Tests.{lt-ltb, le-ltb}
use Rattle.abi_words.specs.Words.{answer_words, answered, status}

module _ (out words : List ℕ) where
  -- no room for the answer
  pub short : length out < answer_words → (0 ≡ status out) × (out ≡ answered words out)
  unfolding status answered
  short h = rw (lt-ltb _ _ h) (refl, refl)

  -- room for it
  pub long : answer_words ≤ length out → (1 ≡ status out) × (words ++ drop answer_words out ≡ answered words out)
  unfolding status answered
  long h = rw (le-ltb _ _ h) (refl, refl)
