-- Words of moves and their letters: the states after them, their lengths and their order.
use mathlib.Core.Path.{◌≡◌, refl, ap}
use mathlib.Core.Logic.{inl, inr}
use mathlib.Core.List.{[], ◌∷◌}
use Prim.Native.Nat.{ℕ, suc, ◌≤◌}
use native.Mathlib.Omega.{arith}
use lib.ListN.{length}
use Rattle.language.specs.declared.Numbers.{Numbers}
use Rattle.language.specs.Move.{Word, First, Before}
use Rattle.states_words.specs.Letter.{letter}
use Rattle.states_words.proofs.LetterLaws.{letter-order}
use Rattle.dfa.specs.Reading as reading
use Rattle.dfa.specs.Reading.{walk, Lex}
use Rattle.states_words.specs.Letter.{along, AllSmall}
use Rattle.play_records.specs.Spell.{letters}

-- the state after a word of moves is the state after its letters
pub walk-letters : (d : ℕ → ℕ → ℕ) (N : Numbers) (p : ℕ) (u : Word) → walk d p (letters N u) ≡ along d N p u
unfolding letters along
walk-letters d N p [] = refl
walk-letters d N p (m ∷ u) = walk-letters d N (d p (letter N m)) u

-- a letter for each move
pub letters-length : (N : Numbers) (u : Word) → length (letters N u) ≡ length u
unfolding letters
letters-length N [] = refl
letters-length N (m ∷ u) = ap suc (letters-length N u)

module _ (N : Numbers) (few : N.z ≤ 125) where
  -- the first move that differs has the first letter that differs
  letters-lex : (u v : Word) → AllSmall N u → AllSmall N v → First N u v → Lex (letters N u) (letters N v)
  unfolding letters AllSmall
  letters-lex [] v h k l = absurd l
  letters-lex (m ∷ u) [] h k l = absurd l
  letters-lex (m ∷ u) (n ∷ v) h k (inl l) = inl (letter-order N few m n h.0 k.0 l)
  letters-lex (m ∷ u) (n ∷ v) h k (inr l) = inr (ap (letter N) l.0, letters-lex u v h.1 k.1 l.1)

  -- THEOREM: the letters of words are in the order of the words
  pub letters-before : (u v : Word) → AllSmall N u → AllSmall N v → Before N u v →
      reading.Before (letters N u) (letters N v)
  letters-before u v h k (inl l) = inl (omega (arith, letters-length N u, letters-length N v))
  letters-before u v h k (inr l) =
      inr (omega (arith, letters-length N u, letters-length N v, l.0), letters-lex u v h k l.1)
