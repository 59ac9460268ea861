-- The word of the id, where the record is a use of a declared name.
use Rattle.sheet_reader.proofs.Notes.{note-made, note-other, note-kind}
use Rattle.sheet_reader.proofs.note.note_use.Goals as goal

pub returns-then-is_declared : goal.returns-then-is_declared
returns-then-is_declared c =
    note-made _ _ c.if-r-eq-USE.true
    c.is_declared.ensures
    c.if-is_declared.true c.put.ensures

pub returns-else-is_declared : goal.returns-else-is_declared
returns-else-is_declared c =
    note-other _ _ c.if-r-eq-USE.true c.is_declared.ensures c.if-is_declared.false

pub returns-else-r-eq-USE : goal.returns-else-r-eq-USE
returns-else-r-eq-USE c = note-kind _ _ c.if-r-eq-USE.false
