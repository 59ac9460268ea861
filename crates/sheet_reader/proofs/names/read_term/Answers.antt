-- The answer of the root, handed on.
use native.Mathlib.Omega.{arith}
use Rattle.sheet_reader.proofs.Core.{handed}
use Rattle.sheet_reader.proofs.Whole.{term-read, term-refused}
use Rattle.sheet_reader.proofs.Bounds.{part-beyond, beyond-typed}
use Rattle.sheet_reader.proofs.names.read_term.Goals as goal

pub overflow_cast-result : goal.overflow_cast-result
overflow_cast-result c =
    let b = part-beyond _ _ _ _ _ _ _ c.type_inv.s c.read_root.ensures.answer in
    omega (arith, beyond-typed _ _ b c.in_ok-term.was)

pub returns-in_err-term : goal.returns-in_err-term
returns-in_err-term c =
    rw (handed _ c.from_residual.ensures.1) (term-refused _ _ _ c.read_root.ensures c.in_err-term.was)

pub returns : goal.returns
returns c =
    term-read _ _ _ c.read_root.ensures c.in_ok-term.was
