-- The whole term, in slots that hold no row.
use mathlib.Core.Path.{refl}
use Rattle.term_expand.proofs.Expansion.{by-top}
use Rattle.term_expand.proofs.expand.expand_term.Goals as goal

pub returns : goal.returns
returns c = by-top _ _ _ _ _ _ _ _ refl c.expand_own.ensures
