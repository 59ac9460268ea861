-- Three ways to compare a part alone that do not do, as statements; each is proved to be false. `OwnBlock` is so even
-- where the sheets of the parts are accepted, so that compare may call them the same. Of the other two it is the plays
-- that mislead: in what proves them false a part uses an id that its own sheet does not declare, which compare refuses
-- by 5.
use Rattle.std.specs.Prelude.{◌≡◌, List, [], ℕ}
use Rattle.language.specs.Move.{Word}
use Rattle.sheet_written.specs.Written.{Written, new, procedure, Parameter, Sheet}
use Rattle.sheet_written.specs.Meaning.{type_of}
use Rattle.sheet_written.specs.Rules.{with_term}
use Rattle.sheet_reader.specs.Fine.{Accepted}
use Rattle.serve_compare.specs.Plays.{Alike}
use Rattle.serve_part.specs.Around.{Around, filled, enclosing}
use Rattle.serve_part.specs.Part.{Differ}

-- the part with the names of the whole sheet and no more, accepted or not: a use of a private variable then has no
-- play
abbrev pub Undeclared : Type 0
Undeclared = (S T : Sheet) (C : Around) (m n : Written) → Accepted S → Accepted T → Differ S T C m n →
    type_of (with_term S m) ≡ type_of (with_term T n) → ((u : Word) → Alike (with_term S m) (with_term T n) u) →
    (u : Word) → Alike S T u

-- the part in a block of its own, with the id and the data of the one that encloses it, in sheets that are accepted
abbrev pub OwnBlock : Type 0
OwnBlock = (S T : Sheet) (id d : ℕ) (C : Around) (m n : Written) → Accepted S → Accepted T →
    S.numbers ≡ T.numbers → S.names ≡ T.names → enclosing C [] ≡ [] →
    S.term ≡ new id d (filled C m) → T.term ≡ new id d (filled C n) →
    Accepted (with_term S (new id d m)) → Accepted (with_term T (new id d n)) →
    ((u : Word) → Alike (with_term S (new id d m)) (with_term T (new id d n)) u) → (u : Word) → Alike S T u

-- a part inside the term in which a procedure may be used, left aside by document 02 [7], with the names of the whole
-- sheet and no more, accepted or not: a use of the procedure then has no play
abbrev pub InScope : Type 0
InScope = (S T : Sheet) (id ty : ℕ) (ps : List Parameter) (body m n : Written) → Accepted S → Accepted T →
    S.numbers ≡ T.numbers → S.names ≡ T.names →
    S.term ≡ procedure id ty ps body m → T.term ≡ procedure id ty ps body n →
    type_of (with_term S m) ≡ type_of (with_term T n) → ((u : Word) → Alike (with_term S m) (with_term T n) u) →
    (u : Word) → Alike S T u
