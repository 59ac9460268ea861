-- The words that `negyvosal_check` writes are `check_words`, where there is room for them.
use borrow.Author.Rules.{rules}
use Rattle.abi.proofs.Returning.{check-returned}
use Rattle.abi.proofs.negyvosal_check.Goals as goal

pub returns : goal.returns
returns c =
    let p = check-returned _ _ _ _ _ c.check-r.ensures
    c.answer_check.ensures.returned c.answer_check.ensures.written in
    record { returned = p.0; written = p.1 }
