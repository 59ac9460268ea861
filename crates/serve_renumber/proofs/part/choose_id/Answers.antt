-- An id is kept, wanting or given.
use native.Mathlib.Omega.{arith}
use mathlib.Core.Path.{refl}
use Rattle.serve_renumber.proofs.Choosing.{id-kept, id-none, id-given}
use Rattle.serve_renumber.proofs.part.choose_id.Goals as goal

pub returns-then-not-held : goal.returns-then-not-held
returns-then-not-held c =
    id-kept _ _ _ _ _ _ _ _ (omega arith) c.word.ensures.0 c.held.ensures
    (c.if-not-held.true)

pub returns-then-low-ge-IDS : goal.returns-then-low-ge-IDS
returns-then-low-ge-IDS c =
    id-none _ _ _ _ _ _ _ _ _ c.word.ensures.0 c.held.ensures (c.if-not-held.false)
    c.lowest_free-low.ensures.0 c.if-low-ge-IDS.true

pub returns : goal.returns
returns c =
    id-given _ _ _ _ _ _ _ _ _ _ _ _ c.word.ensures.0 c.held.ensures (c.if-not-held.false) c.lowest_free-low.ensures.0 c.if-low-ge-IDS.false
    c.note_change.ensures c.put.ensures refl
