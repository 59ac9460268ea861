-- Which terms are in order: ranges, scope, types and depth. Document 01, "The sheet, byte by byte" (types after figure
-- 1 of document 001); document 02 [1] for procedures.
use Rattle.std.specs.Prelude.{ℕ, ◌+◌, ◌≤◌, ◌<◌, max, ◌≡◌, true, List, [], ◌∷◌, length}
use Rattle.language.specs.Number.{in_range}
use Rattle.language.specs.Weight.{size}
use Rattle.language.specs.declared.Numbers.{Numbers}
use Rattle.sheet_records.specs.Limits.{greatest_z, greatest_rule, most_names, greatest_depth, greatest_size, bytes, ids}
use Rattle.sheet_records.specs.Limits.{types, counts, truths, operators, data_types}
use Rattle.sheet_parts.specs.Types as a-type
use Rattle.sheet_parts.specs.Rule.{operand_type}
use Rattle.sheet_written.specs.Written.{Written, skip, diverge, truth, number, call, fetch, operate, assign}
use Rattle.sheet_written.specs.Written.{sequence, while, choose, new, procedure, Parameter, Writtens, none, more}
use Rattle.sheet_written.specs.Written.{Name, declare, retire, Sheet}
use Rattle.sheet_written.specs.Meaning.{Binder, a_block, Meaning, private, argument, routine, named, retired, free}
use Rattle.sheet_written.specs.Meaning.{declared, meaning, inside, after, typed, ty_of, term_of, type_of}

-- "the whole term has depth 1, its parts depth 2"; both terms of a procedure are its parts
unfoldable mutual
  pub depth : Written → ℕ
  depth skip = 1
  depth (diverge ty) = 1
  depth (truth b) = 1
  depth (number b) = 1
  depth (call id ws) = 1 + depths ws
  depth (fetch v) = 1 + depth v
  depth (operate op l r) = 1 + max (depth l) (depth r)
  depth (assign v e) = 1 + max (depth v) (depth e)
  depth (sequence c m) = 1 + max (depth c) (depth m)
  depth (choose b m n) = 1 + max (depth b) (max (depth m) (depth n))
  depth (while b c) = 1 + max (depth b) (depth c)
  depth (new id d c) = 1 + depth c
  depth (procedure id ty ps body rest) = 1 + max (depth body) (depth rest)

  pub depths : Writtens → ℕ
  depths none = 0
  depths (more w ws) = max (depth w) (depths ws)

-- a use by what its id means: a private variable or a parameter has no arguments, a procedure those of its parameters,
-- a name those that it declares
unfoldable pub FineUse : Meaning → Type 0 → (List ℕ → Type 0) → Type 0
FineUse (private k d) P Q = P
FineUse (argument k ty) P Q = P
FineUse (routine k ty tys) P Q = Q tys
FineUse (named often ty tys) P Q = Q tys
FineUse retired P Q = ⊥
FineUse free P Q = ⊥

-- the id j is none of the parameters before
unfoldable pub Unlike : ℕ → List Parameter → Type 0
Unlike j [] = Unit
Unlike j (p ∷ ps) = (p.id ≡ j → ⊥) × Unlike j ps

-- "a bound id that is declared or retired gets 4, and so does a parameter with the id of an earlier parameter of the
-- same record"; the earlier ones are given, the last first
unfoldable pub FineParameters : List Name → List Parameter → List Parameter → Type 0
FineParameters ns earlier [] = Unit
FineParameters ns earlier (p ∷ ps) =
    (p.id < ids) × (declared ns p.id ≡ free) × Unlike p.id earlier × (p.holds < types)
    × FineParameters ns (p ∷ earlier) ps

-- a term in the scope of names and of enclosing binders
unfoldable mutual
  pub Fine : Numbers → List Name → List Binder → Written → Type 0
  Fine N ns bs skip = Unit
  Fine N ns bs (diverge ty) = ty < types
  Fine N ns bs (truth b) = b < truths
  Fine N ns bs (number b) = (b < bytes) × (in_range N b ≡ true)
  Fine N ns bs (call id ws) = (id < ids) × FineUse (meaning ns bs id) (ws ≡ none) (λ tys. FineArgs N ns bs ws tys)
  Fine N ns bs (fetch v) = Fine N ns bs v × (a-type.truth_variable ≤ typed ns bs v)
  Fine N ns bs (operate op l r) =
      (op < operators) × Fine N ns bs l × (typed ns bs l ≡ operand_type op) × Fine N ns bs r
      × (typed ns bs r ≡ operand_type op)
  Fine N ns bs (assign v e) =
      Fine N ns bs v × (a-type.truth_variable ≤ typed ns bs v) × Fine N ns bs e × (typed ns bs e + 2 ≡ typed ns bs v)
  Fine N ns bs (sequence c m) = Fine N ns bs c × (typed ns bs c ≡ a-type.command) × Fine N ns bs m
  Fine N ns bs (choose b m n) =
      Fine N ns bs b × (typed ns bs b ≡ a-type.truth) × Fine N ns bs m × Fine N ns bs n
      × (typed ns bs n ≡ typed ns bs m)
  Fine N ns bs (while b c) =
      Fine N ns bs b × (typed ns bs b ≡ a-type.truth) × Fine N ns bs c × (typed ns bs c ≡ a-type.command)
  Fine N ns bs (new id d c) =
      let inner : List Binder = a_block id d ∷ bs in
      (id < ids) × (declared ns id ≡ free) × (0 < d) × (d < data_types) × Fine N ns inner c
      × (typed ns inner c ≡ a-type.command)
  Fine N ns bs (procedure id ty ps body rest) =
      (id < ids) × (declared ns id ≡ free) × (ty < types) × (length ps < counts) × FineParameters ns [] ps
      × Fine N ns (inside ps bs) body × (typed ns (inside ps bs) body ≡ ty) × Fine N ns (after id ty ps bs) rest

  -- arguments of the given types
  pub FineArgs : Numbers → List Name → List Binder → Writtens → List ℕ → Type 0
  FineArgs N ns bs none [] = Unit
  FineArgs N ns bs none (ty ∷ tys) = ⊥
  FineArgs N ns bs (more w ws) [] = ⊥
  FineArgs N ns bs (more w ws) (ty ∷ tys) = Fine N ns bs w × (typed ns bs w ≡ ty) × FineArgs N ns bs ws tys

unfoldable pub AllTypes : List ℕ → Type 0
AllTypes [] = Unit
AllTypes (ty ∷ tys) = (ty < types) × AllTypes tys

-- name records, after those in earlier, the last first
unfoldable pub FineNames : List Name → List Name → Type 0
FineNames earlier [] = Unit
FineNames earlier (declare often id ty tys ∷ ns) =
    (id < ids) × (declared earlier id ≡ free) × (ty < types) × (length tys < counts) × AllTypes tys
    × FineNames (declare often id ty tys ∷ earlier) ns
FineNames earlier (retire id ∷ ns) =
    (id < ids) × (declared earlier id ≡ free) × FineNames (retire id ∷ earlier) ns

-- A sheet in order but for the limits on bytes, records, depth and size, by either edition, whatever the byte of the
-- overflow rule. Each has a reckoned size: demand 3 speaks of these.
pub record InOrder (S : Sheet) : Type 0 where
  pub z_above : 0 < S.numbers.z
  pub z_below : S.numbers.z ≤ greatest_z
  pub fine_names : FineNames [] S.names
  pub fine_term : Fine S.numbers S.names [] S.term

-- A sheet in order and within the limits, by the earlier rule. The bound on the length of its bytes is left to the crate
-- that has the encoding.
pub record WellFormed (S : Sheet) : Type 0 where
  pub in_order : InOrder S
  pub rule_below : S.numbers.rule ≤ greatest_rule
  pub few_names : length S.names ≤ most_names
  pub shallow : depth S.term ≤ greatest_depth
  pub small : size (ty_of S.numbers (type_of S)) (term_of S) ≤ greatest_size
