-- A part as a sheet of its own. Document 02 [7]: "compared as sheets of their own under the same overflow rule, Z and
-- names, with every private variable whose block encloses them declared as a name without arguments". SHEETS 8.6.
use Rattle.std.specs.Prelude.{ℕ, ◌+◌, ◌≡◌, List, [], ◌∷◌, ◌++◌}
use Rattle.language.specs.Term.{Often, freely}
use Rattle.sheet_written.specs.Written.{Written, Name, declare, Sheet}
use Rattle.sheet_written.specs.Meaning.{Binder, a_block, a_parameter, a_procedure, Meaning, private, named, retired}
use Rattle.sheet_written.specs.Meaning.{free, declared, meaning}
use Rattle.serve_part.specs.Around.{Around, filled, enclosing}

-- what an id means in the whole sheet and what it is declared as in the sheet of the part: a private variable as a name
-- of the type that it has, without arguments, of either kind, any other id as in the whole sheet
pub data DeclaredAs : Meaning → Meaning → Type 0 where
  as_name : {k d : ℕ} {o : Often} → DeclaredAs (private k d) (named o (2 + d) [])
  same_name : {o : Often} {ty : ℕ} {tys : List ℕ} → DeclaredAs (named o ty tys) (named o ty tys)
  same_retired : DeclaredAs retired retired
  same_free : DeclaredAs free free

-- P is the sheet of the part m that stands in S in the gap of C; its records of names may stand in any order
pub record PartOf (S : Sheet) (C : Around) (m : Written) (P : Sheet) : Type 0 where
  -- "under the same overflow rule, Z"
  pub numbers : P.numbers ≡ S.numbers
  -- "and names, with every private variable whose block encloses them declared as a name without arguments"
  pub names : (id : ℕ) → DeclaredAs (meaning S.names (enclosing C []) id) (declared P.names id)
  pub term : P.term ≡ m

-- the records that declare the variables of blocks, the outermost first
unfoldable pub declaring : List Binder → List Name
declaring [] = []
declaring (a_block id d ∷ bs) = declaring bs ++ (declare freely id (2 + d) [] ∷ [])
declaring (a_parameter id ty ∷ bs) = declaring bs
declaring (a_procedure id ty tys ∷ bs) = declaring bs

-- the sheet of a part, with these records after those of the whole sheet
unfoldable pub part_sheet : Sheet → Around → Written → Sheet
part_sheet S C m =
    record { numbers = S.numbers; names = S.names ++ declaring (enclosing C []); term = m }

-- a record stands in a list
pub data Lists (n : Name) : List Name → Type 0 where
  first : {ns : List Name} → Lists n (n ∷ ns)
  later : {k : Name} {ns : List Name} → Lists n ns → Lists n (k ∷ ns)

-- "two accepted sheets that differ in one part only": m in the first, n in the second
pub record Differ (S T : Sheet) (C : Around) (m n : Written) : Type 0 where
  pub numbers : S.numbers ≡ T.numbers
  pub names : S.names ≡ T.names
  pub first : S.term ≡ filled C m
  pub second : T.term ≡ filled C n
