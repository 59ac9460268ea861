-- `write_heading` writes the heading byte by byte, then the type.
use mathlib.Core.Path.{refl}
use native.Mathlib.Omega.{arith}
use Rattle.serve_card.proofs.Heading.{headed-again, headed-first, headed-last, headed-length}
use Rattle.serve_card.proofs.card.write_heading.Goals as goal

pub loop-i-init : goal.loop-i-init
loop-i-init c = headed-first _ _

pub loop-i-preserved : goal.loop-i-preserved
loop-i-preserved c =
    headed-again _ _ _ _ c.loop-i.invariant _ _ c.put.ensures
    (omega (arith, c.loop-i-test.true, c.requires.0))
    c.get_or.ensures

pub returns : goal.returns
returns c = record {
  returned = refl;
  written = headed-last _ _ _ _ _ c.loop-i.auto.i-end c.loop-i-test.false c.loop-i.invariant _ _
      c.put-2.ensures;
}
