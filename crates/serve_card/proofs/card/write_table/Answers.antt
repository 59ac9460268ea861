-- `write_table` sorts and numbers the states, and writes the positions.
use borrow.Author.Rules.{rules}
use native.Mathlib.Omega.{arith}
use Rattle.serve_card.proofs.Drawing.{drawn, drawn-countable, drawn-legible, drawn-room, drawn-some, drawn-sortable}
use Rattle.serve_card.proofs.Drawing.{drawn-small, drawn-states}
use Rattle.serve_card.proofs.card.write_table.Goals as goal

pub overflow_add-all : goal.overflow_add-all
overflow_add-all c = omega (arith, drawn-small _ _ _ _ _ c.requires.1.1)

pub overflow_sub-all : goal.overflow_sub-all
overflow_sub-all c = omega (arith, drawn-some _ _ _ _ _ c.requires.1.1)

pub sort_states-requires : goal.sort_states-requires
sort_states-requires c = drawn-sortable _ _ _ _ _ c.requires.1.1

pub overflow_add-all-2 : goal.overflow_add-all-2
overflow_add-all-2 c =
    let D = c.requires.1.1 in
    omega (arith, drawn-small _ _ _ _ _ D)

pub number_states-count-requires : goal.number_states-count-requires
number_states-count-requires c =
    let D = c.requires.1.1 in
    (_, (_, (_, drawn-countable _ _ _ _ _ D _ _ c.sort_states.ensures)))

pub overflow_add-all-3 : goal.overflow_add-all-3
overflow_add-all-3 c =
    let D = c.requires.1.1 in
    omega (arith, drawn-small _ _ _ _ _ D)

pub overflow_sub-all-2 : goal.overflow_sub-all-2
overflow_sub-all-2 c =
    let D = c.requires.1.1 in
    omega (arith, drawn-some _ _ _ _ _ D)

pub write_positions-requires : goal.write_positions-requires
write_positions-requires c =
    let D = c.requires.1.1 in
    let O = c.sort_states.ensures in
    let M = c.number_states-count.ensures _ _ _ (drawn-countable _ _ _ _ _ D _ _ O) in
    (drawn-legible _ _ _ _ _ D _ _ O _ _ M, (drawn-states _ _ _ _ _ D _ _ O _ _ M, drawn-room _ _ _ _ _ D _ _ O _ _ M))

pub returns : goal.returns
returns c = λ s ty D.
    let O = c.sort_states.ensures in
    let M = c.number_states-count.ensures _ _ _ (drawn-countable _ _ _ _ _ D _ _ O) in
    let W = c.write_positions.ensures in
    drawn _ _ _ _ _ D _ _ O _ _ M _ _ _ W.returned W.written
