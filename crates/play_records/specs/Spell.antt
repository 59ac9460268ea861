-- The letters of a word of moves, first move first.
use Rattle.std.specs.Prelude.{List, [], ◌∷◌, ℕ}
use Rattle.language.specs.declared.Numbers.{Numbers}
use Rattle.language.specs.Move.{Word}
use Rattle.states_words.specs.Letter.{letter}

-- the letter of each move
unfoldable pub letters : Numbers → Word → List ℕ
letters N [] = []
letters N (m ∷ u) = letter N m ∷ letters N u
