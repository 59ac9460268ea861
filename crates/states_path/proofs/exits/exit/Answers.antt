-- What `exit` gives is what `target_of` says, case by case.
use native.Mathlib.Omega.{arith}
use mathlib.Core.Path.{refl, ◌∙◌}
use Rattle.states_path.proofs.PathSteps.{exit-first, exit-last, exit-within, exit-leads, exit-stops, exit-says, exit-hears}
use Rattle.states_path.proofs.PathSteps.{exit-again, exit-less, own-there}
use Rattle.states_path.proofs.PathCode.{fewer}
use Rattle.states_path.proofs.exits.exit.Goals as goal

pub loop-up-init : goal.loop-up-init
loop-up-init c = exit-first _ _ _ _ _ _ _ c.requires c.block_at-own.ensures _ _ _ c.up_at-up.ensures

pub frame_at-requires : goal.frame_at-requires
frame_at-requires c = omega (
  arith,
  c.requires.few,
  exit-within _ _ _ _ _ _ _ c.requires c.block_at-own.ensures _ _ _ _
      c.loop-up.invariant,
  c.loop-up-test.true,
)

pub led-requires : goal.led-requires
led-requires c =
    let w = exit-within _ _ _ _ _ _ _ c.requires
    c.block_at-own.ensures _ _ _ _ c.loop-up.invariant in (
      fewer _ _ _ c.requires (omega (arith, w)),
      λ h. own-there _ _ _ _ _ (omega (arith, w)) c.block_at-own.ensures h,
    )

pub returns-in-Go : goal.returns-in-Go
returns-in-Go c = exit-leads _ _ _ _ _ _ _ c.requires c.block_at-own.ensures _ _ _
    _ _ _ c.loop-up.invariant c.loop-up-test.true
    c.frame_at.ensures c.exits-o.ensures
    _ c.in-Go.is (c.led.ensures _ _ refl)

pub up_at-up-requires-in-Exit : goal.up_at-up-requires-in-Exit
up_at-up-requires-in-Exit c = fewer _ _ _ c.requires
    (omega (
      arith,
      exit-within _ _ _ _ _ _ _ c.requires c.block_at-own.ensures _ _ _ _
          c.loop-up.invariant,
    ))

pub loop-up-smaller : goal.loop-up-smaller
loop-up-smaller c = exit-less _ _ _ c.loop-up-test.true c.up_at-up-in-Exit.ensures

pub loop-up-preserved : goal.loop-up-preserved
loop-up-preserved c = exit-again _ _ _ _ _ _ _ c.requires c.block_at-own.ensures _ _ _
    _ _ _ c.loop-up.invariant c.loop-up-test.true
    c.frame_at.ensures c.exits-o.ensures
    _ c.in-Exit.is c.up_at-up-in-Exit.ensures

pub returns-in-Say : goal.returns-in-Say
returns-in-Say c = absurd (exit-says _ _ _ _ _ _ _ c.requires c.block_at-own.ensures _ _ _ _ _ _
    c.loop-up.invariant c.loop-up-test.true
    c.frame_at.ensures c.exits-o.ensures c.in-Say.is)

pub returns-in-Hear : goal.returns-in-Hear
returns-in-Hear c = absurd (exit-hears _ _ _ _ _ _ _ c.requires c.block_at-own.ensures _ _ _ _ _ _
    c.loop-up.invariant c.loop-up-test.true
    c.frame_at.ensures c.exits-o.ensures c.in-Hear.is)

pub returns-in-Stuck : goal.returns-in-Stuck
returns-in-Stuck c = exit-stops _ _ _ _ _ _ _ c.requires c.block_at-own.ensures _ _ _ _ _ _ c.loop-up.invariant c.loop-up-test.true
    c.frame_at.ensures c.exits-o.ensures _ c.in-Stuck.is c.dead-in-Stuck.ensures

pub returns : goal.returns
returns c = c.dead-2.ensures ∙ exit-last _ _ _ _ _ _ _ c.requires c.block_at-own.ensures _ _ _ _ c.loop-up.invariant
    c.loop-up-test.false
