-- What `lent_reason` gives is what `reason_of` says, case by case.
use borrow.Author.Rules.{rules}
use borrow.Author.Tests.{le-ltb, lt-ltb}
use native.Mathlib.Omega.{arith}
use Rattle.serve_conditions.specs.Pair.{reason_of}
use Rattle.serve_card.proofs.lent.lent_reason.Goals as goal

pub words_asked-requires : goal.words_asked-requires
words_asked-requires c = omega (arith, c.requires)

pub returns-then-words-words_asked : goal.returns-then-words-words_asked
unfolding reason_of
returns-then-words-words_asked c = simp (← c.words_asked.ensures, lt-ltb _ _ c.if-words-words_asked.true)

pub returns-then-space-space_asked : goal.returns-then-space-space_asked
unfolding reason_of
returns-then-space-space_asked c =
    simp (
      ← c.words_asked.ensures,
      ← c.space_asked.ensures,
      le-ltb _ _ c.if-words-words_asked.false,
      lt-ltb _ _ c.if-space-space_asked.true,
    )

pub returns : goal.returns
unfolding reason_of
returns c =
    simp (
      ← c.words_asked.ensures,
      ← c.space_asked.ensures,
      le-ltb _ _ c.if-words-words_asked.false,
      le-ltb _ _ c.if-space-space_asked.false,
    )
