-- A byte must be there before its kind is judged.
use borrow.Author.Tests.{lt-leb}
use Rattle.sheet_heads.specs.Head.{head_of}
use Rattle.sheet_heads.proofs.head.too_deep.Goals as goal

pub returns : goal.returns
unfolding head_of
returns c = λ ed st N.
    rw (c.refuse-2.ensures, lt-leb _ _ c.if-s-at.false, ← c.shape_of-shape.ensures) (c.deep_reason.ensures _)
