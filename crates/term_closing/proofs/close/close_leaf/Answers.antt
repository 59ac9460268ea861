-- All words of a row without parts.
use native.Mathlib.Omega.{arith}
use Rattle.std.proofs.lemmas.Grind.{common_steps}
use Rattle.term_closing.specs.Close.{closed_row}
use Rattle.term_closing.proofs.Leaves.{leaf-weighs}
use Rattle.term_closing.proofs.close.close_leaf.Goals as goal

pub returns : goal.returns
unfolding closed_row
returns c =
    let t = c.args.t.now in
    let weighs = leaf-weighs t c.args.rows.now c.args.at 12288 12288 12288 12288 c.requires in
    grind (arith, common_steps, weighs)
