-- `answer_copies` writes the edges `values_to`, and gives the number of the edge after them.
use native.Mathlib.Omega.{arith}
use mathlib.Core.Path.{refl}
use Rattle.states_words.proofs.Ranks.{rank-small}
use Rattle.states_words.proofs.ValuesTo.{copy-small, to-first, to_none, to_some}
use Rattle.states_words.proofs.answers.answer_copies.Goals as goal
use Rattle.states_words.proofs.answers.answer_copies.Goals.{then-v-below, else-v-below}

pub loop-r-init : goal.loop-r-init
loop-r-init c = to-first _ _ _ _ _ _ _

pub overflow_add-place : goal.overflow_add-place
overflow_add-place c = omega (arith, c.requires.0, rank-small _ _ _ c.rank_of.ensures)

pub overflow_mul-v : goal.overflow_mul-v
overflow_mul-v c =
    let all = c.numbers-all.ensures in
    omega (
      arith,
      copy-small _ _ _ _ (omega (arith, all)) (omega (arith, all)) c.code_at-v.ensures c.requires.1.1,
    )

pub overflow_add-to : goal.overflow_add-to
overflow_add-to c =
    let all = c.numbers-all.ensures in
    omega (
      arith,
      c.requires.1.0,
      copy-small _ _ _ _ (omega (arith, all)) (omega (arith, all)) c.code_at-v.ensures c.requires.1.1,
    )

pub loop-r-preserved : goal.loop-r-preserved
loop-r-preserved c =
    elim c.if-v-below.branch [
      | then-v-below w ↦
          rw (w.next-is, w.words-is) (to_some _ _ _ _ _ _ _ _ _ _ _ _ _ _ _ _ c.loop-r.invariant c.code_at-v.ensures
          w.if-v-below.true w.rank_of.ensures refl refl w.write_edge.ensures w.sum-next.ensures)
      | else-v-below w ↦
          rw (w.next-is, w.words-is) (to_none _ _ _ _ _ _ _ _ _ _ _ c.loop-r.invariant c.code_at-v.ensures
          w.if-v-below.false)
    ]
