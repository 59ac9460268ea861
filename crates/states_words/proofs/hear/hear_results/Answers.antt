-- `hear_results` writes the edges `value_edges`, and gives the number of the edge after them.
use native.Mathlib.Omega.{arith}
use Rattle.states_words.proofs.Ranks.{place-small}
use Rattle.states_words.proofs.Loops.{told, wrote}
use Rattle.states_words.proofs.HeardResults.{values-led}
use Rattle.states_words.proofs.hear.hear_results.Goals as goal

pub answer_copies-requires : goal.answer_copies-requires
answer_copies-requires c =
    (omega (arith, place-small _ _ _ _ c.place_of-place.ensures), c.ways_of-led.ensures.small _ _ c.in-Copies.is)

pub answer_either-requires : goal.answer_either-requires
answer_either-requires c = omega (arith, place-small _ _ _ _ c.place_of-place.ensures)

pub returns-in-Copies : goal.returns-in-Copies
returns-in-Copies c =
    let p =
    told (values-led _ _ _ _ _ _ _ _ _ c.requires.answering c.place_of-place.ensures
    (λ r h l. c.ways_of-led.ensures.apart _ _ _ c.in-Copies.is l) _ _ _ _
    (wrote c.answer_copies.ensures.returned c.answer_copies.ensures.written)) in
    record { returned = p.0; written = p.1 }

pub returns-in-Either : goal.returns-in-Either
returns-in-Either c =
    let p =
    told (values-led _ _ _ _ _ _ _ _ _ c.requires.answering c.place_of-place.ensures
    (λ r h l. c.ways_of-led.ensures.two _ _ _ _ c.in-Either.is l) _ _ _ _
    (wrote c.answer_either.ensures.returned c.answer_either.ensures.written)) in
    record { returned = p.0; written = p.1 }
