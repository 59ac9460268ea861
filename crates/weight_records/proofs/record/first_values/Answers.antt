-- After both tests, the word of that row.
use Rattle.weight_records.proofs.Whole.{first_read}
use Rattle.weight_records.proofs.record.first_values.Goals as goal

pub returns : goal.returns
returns c = (c.short_of.ensures.1, λ h. first_read _ _ _ _ c.word_of-place.ensures.0 c.if-place-at.false c.if-place-ge-MOST_BYTES.false c.short_of.ensures.0)
