-- A letter without its rank leaves room for one.
use native.Mathlib.Omega.{arith}
use Rattle.states_words.proofs.Ranks.{place-small, rank-small}
use Rattle.states_words.proofs.letters.letter_of.Goals as goal

pub overflow_add-result : goal.overflow_add-result
overflow_add-result c =
    omega (arith, place-small _ _ _ _ c.place_of-place.ensures, rank-small _ _ _ c.rank_of.ensures)
