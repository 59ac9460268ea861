-- The term of an accepted sheet is well scoped and well typed.
use mathlib.Core.List.{[]}
use Rattle.language.specs.Typing.{Typed}
use Rattle.sheet_written.specs.Written.{Sheet}
use Rattle.sheet_written.specs.Meaning.{ty_of, term_of, type_of}
use Rattle.sheet_written.proofs.WellTyped as terms
use Rattle.sheet_reader.specs.Fine.{Accepted}

-- THEOREM: the term of an accepted sheet is well typed
pub accepted-typed : (S : Sheet) → Accepted S → Typed [] (term_of S) (ty_of S.numbers (type_of S))
accepted-typed S A = terms.accepted-typed S A.ordered
