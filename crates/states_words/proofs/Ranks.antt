-- A rank fits a word, and so does a letter without one.
use Prim.Native.Nat.{ℕ, ◌+◌, ◌-◌, ◌%◌, ◌<◌}
use native.Mathlib.Omega.{arith}
use native.Mathlib.Nat.{mod-lt}
use mathlib.Core.Path.{◌≡◌}
use mathlib.Core.Bool.{Bool, true, false}
use lib.Dec.{leb, ltb, eqb}
use Rattle.language.specs.Choice.{pick}
use Rattle.language.specs.declared.Numbers.{Numbers}
use Rattle.language.specs.Number.{finites}
use Rattle.language.specs.Order.{rank}
use Rattle.states_words.specs.inner.Moves.{place_of}

pub rank-small : (N : Numbers) (v r : ℕ) → r ≡ rank N (v % 65536) → r < 65664
unfolding rank
rank-small N v r e =
    rw e (go (leb w N.z) (ltb w (finites N)) (eqb w (finites N)) (eqb w (finites N + 1)))
  where
    w : ℕ
    w = v % 65536

    low : v % 65536 < 65536
    low = mod-lt v (omega arith)

    go : (a b c d : Bool) →
        pick a (128 + v % 65536) (pick b (128 + v % 65536 - finites N) (pick c 1 (pick d 254 255))) < 65664
    go true b c d = omega (arith, low)
    go false true c d = omega (arith, low)
    go false false true d = omega arith
    go false false false true = omega arith
    go false false false false = omega arith

pub place-small : (kind id arg place : ℕ) → place ≡ place_of kind id arg → place < 134217728
unfolding place_of
place-small kind id arg place e = omega arith
