-- What `pair_reason` gives is what `reason_of` says, case by case.
use borrow.Author.Tests.{lt-ltb, le-ltb}
use Rattle.serve_conditions.specs.Pair.{reason_of}
use Rattle.serve_conditions.proofs.pair.pair_reason.Goals as goal

pub returns-then-not-matching : goal.returns-then-not-matching
unfolding reason_of
returns-then-not-matching c = simp (c.if-not-matching.true)

pub returns-then-words-words_asked : goal.returns-then-words-words_asked
unfolding reason_of
returns-then-words-words_asked c = simp (c.if-not-matching.false, ← c.words_asked.ensures, lt-ltb _ _ c.if-words-words_asked.true)

pub returns-then-space-size : goal.returns-then-space-size
unfolding reason_of
returns-then-space-size c =
    simp (c.if-not-matching.false, ← c.words_asked.ensures, le-ltb _ _ c.if-words-words_asked.false, lt-ltb _ _ c.if-space-size.true)

pub returns : goal.returns
unfolding reason_of
returns c =
    simp (c.if-not-matching.false, ← c.words_asked.ensures, le-ltb _ _ c.if-words-words_asked.false, le-ltb _ _ c.if-space-size.false)
