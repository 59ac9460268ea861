-- The numbers of reasons, as the code has them of their cases.
use Rattle.std.proofs.Common.{◌≡◌, ◌+◌, refl}
use denote.Enum.Declared.{tag_of}
use Rattle.sheet_records.specs.Refusal.{number_of}
use Rattle.sheet_records.specs.declared.refusal.Reason.{Reason}
use Rattle.sheet_records.specs.declared.refusal.Reason.TheVariants.{TooLong, CutShort, OutOfRange, IdTaken, IdUnknown}
use Rattle.sheet_records.specs.declared.refusal.Reason.TheVariants.{IdRetired, WrongType, TooDeep, TooManyNames, LeftOver}
use Rattle.sheet_records.specs.declared.refusal.Reason.TheVariants.{TooLarge, HeadingsDiffer, TooFewWords, SpaceTooShort}
use Rattle.sheet_records.specs.declared.refusal.Reason.TheVariants.{BadPlay, IdEnclosed, NoIdLeft, NotQuiet}
use Rattle.sheet_records.specs.contracts.refusal.Reason as reason

pub reason-number : (r : Reason) → tag_of reason.the_type r + 1 ≡ number_of r
reason-number TooLong = refl
reason-number CutShort = refl
reason-number OutOfRange = refl
reason-number IdTaken = refl
reason-number IdUnknown = refl
reason-number IdRetired = refl
reason-number WrongType = refl
reason-number TooDeep = refl
reason-number TooManyNames = refl
reason-number LeftOver = refl
reason-number TooLarge = refl
reason-number HeadingsDiffer = refl
reason-number TooFewWords = refl
reason-number SpaceTooShort = refl
reason-number BadPlay = refl
reason-number IdEnclosed = refl
reason-number NoIdLeft = refl
reason-number NotQuiet = refl
