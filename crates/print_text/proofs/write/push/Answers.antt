-- `push` writes one byte, if there is room.
use borrow.Author.Rules.{rules}
use Rattle.print_text.proofs.Pages.{pushed_room, pushed-full}
use Rattle.print_text.proofs.write.push.Goals as goal

pub returns-then-at-out : goal.returns-then-at-out
returns-then-at-out c = pushed_room _ _ _ c.if-at-out.true

pub returns : goal.returns
returns c = pushed-full _ _ _ c.if-at-out.false
