-- `longest` counts the moves that begin a complete play.
use native.Mathlib.Omega.{arith}
use Prim.Native.Nat.{◌*◌}
use Rattle.dfa.proofs.laws.Rest.{rest-length}
use Rattle.play_words.proofs.WalkingPlays.{walked-again}
use Rattle.play_words.proofs.SearchingPlays.{search-first, search-marked, search-unmarked, search-last}
use Rattle.play_words.proofs.SearchingPlays.{not-marked}
use Rattle.play_words.proofs.walk.longest.Goals as goal
use Rattle.play_words.proofs.walk.longest.Goals.{then-is_marked, else-is_marked}

pub loop-i-init : goal.loop-i-init
loop-i-init c = search-first _ _ _ _ c.requires.0 c.requires.1

pub overflow_add-at : goal.overflow_add-at
overflow_add-at c =
    let h = (walked-again _ _ _ _ _ _ _ _ _ _ _ c.requires.0 c.loop-i.invariant.walked
    c.loop-i-test.true c.first_letter.ensures c.next_state-p.ensures c.get_or.ensures
    c.width_of-at.ensures).within in
    omega (arith, h, c.well_formed)

pub is_marked-requires : goal.is_marked-requires
is_marked-requires c =
    let W = walked-again _ _ _ _ _ _ _ _ _ _ _ c.requires.0 c.loop-i.invariant.walked
    c.loop-i-test.true c.first_letter.ensures c.next_state-p.ensures c.get_or.ensures c.width_of-at.ensures in
    let r = rest-length (5 * c.args.n)
    c.args.words.now in (
      c.requires.0.few,
      (
        W.below,
        omega
            (arith, c.requires.0.room),
      ),
    )

pub loop-i-preserved : goal.loop-i-preserved
loop-i-preserved c =
    let W = walked-again _ _ _ _ _ _ _ _ _ _ _ c.requires.0 c.loop-i.invariant.walked
    c.loop-i-test.true c.first_letter.ensures c.next_state-p.ensures c.get_or.ensures c.width_of-at.ensures in
    elim c.if-is_marked.branch [
      | then-is_marked w ↦ rw w.count-is (search-marked _ _ _ _ _ _ _ _ _ _ c.loop-i.invariant W c.loop-i-test.true
          (c.is_marked.ensures.0 w.if-is_marked.true))
      | else-is_marked w ↦ rw w.count-is (search-unmarked _ _ _ _ _ _ _ _ _ _ c.loop-i.invariant W c.loop-i-test.true
          (not-marked _ _ w.if-is_marked.false c.is_marked.ensures))
    ]

pub returns : goal.returns
returns c = search-last _ _ _ _ _ _ _ _ c.loop-i.invariant c.loop-i-test.false
