-- What `write_play` leaves is the records of the letters.
use Prim.Native.Nat.{ℕ, ◌+◌, ◌-◌}
use native.Mathlib.Omega.{arith}
use mathlib.Core.Path.{◌≡◌, ap}
use lib.ListN.{get_or, take, drop, length-take}
use Rattle.play_records.proofs.Written.{writing-again, writing-last}
use Rattle.play_records.proofs.play.write_play.Goals as goal

pub loop-letter-preserved : goal.loop-letter-preserved
loop-letter-preserved c =
    let n : (c.args.base + c.args.len) - c.args.base ≡ c.args.len = omega arith in
    let same = ap (λ k. get_or (take k (drop c.args.base c.args.words.now)) c.loop-letter.letter-index 0) n in
    writing-again c.loop-letter.invariant _ _ _ (omega (arith, length-take {A = ℕ})) same
    c.write_record-at.ensures.returned c.write_record-at.ensures.written

pub returns : goal.returns
returns c = writing-last c.loop-letter.invariant (omega (arith, length-take {A = ℕ}))
