-- What an id means, the type of a term as written, and the let-free term that it stands for. Document 01, "The sheet,
-- byte by byte"; document 02 [1]: "An inner name hides an outer one, as with new", "The procedure doesn't see its own
-- id", "the argument is played anew at every use of the parameter, in the scope of the caller". Document 001, section
-- 7, lemma 34: the term is let-free.
use Rattle.std.specs.Prelude.{ℕ, zero, suc, ◌+◌, ◌-◌, ◌<◌, List, [], ◌∷◌, Bool, true, false, length, eqb}
use Rattle.std.proofs.Common.{arith}
use Rattle.language.specs.Choice.{pick}
use Rattle.language.specs.Number.{finites, numbers, code, from_byte}
use Rattle.language.specs.Ty.{Ty, command, expression, variable}
use Rattle.language.specs.Term as t
use Rattle.language.specs.Term.{Term, Often, Args, Operation}
use Rattle.language.specs.Move.{Word}
use Rattle.language.specs.Play.{Complete}
use Rattle.language.specs.Typing.{operands}
use Rattle.language.specs.declared.Numbers.{Numbers}
use Rattle.sheet_parts.specs.Rule.{values, result_type}
use Rattle.sheet_written.specs.Environment.{beyond}
use Rattle.sheet_written.specs.Written.{Written, skip, diverge, truth, number, call, fetch, operate, assign}
use Rattle.sheet_written.specs.Written.{sequence, while, choose, new, procedure, Parameter, Writtens, none, more}
use Rattle.sheet_written.specs.Written.{Name, declare, retire, Sheet}

-- what encloses a term and holds an id
pub data Binder : Type 0 where
  -- a new: its id and its data, 1 truth or 2 number
  a_block : ℕ → ℕ → Binder
  -- a parameter: its id and its type
  a_parameter : ℕ → ℕ → Binder
  -- a procedure: its id, its result type and the types of its parameters
  a_procedure : ℕ → ℕ → List ℕ → Binder

-- Binders are numbered from the outermost, which is 0.
pub data Meaning : Type 0 where
  -- a private variable: its number and its data
  private : ℕ → ℕ → Meaning
  -- a parameter: its number and its type
  argument : ℕ → ℕ → Meaning
  -- a procedure: its number, its result type and the types of its parameters
  routine : ℕ → ℕ → List ℕ → Meaning
  -- a declared name: how often it asks in a call, the result type and the argument types
  named : Often → ℕ → List ℕ → Meaning
  retired free : Meaning

unfoldable pub declared : List Name → ℕ → Meaning
declared [] id = free
declared (declare often k ty tys ∷ ns) id = pick (eqb k id) (named often ty tys) (declared ns id)
declared (retire k ∷ ns) id = pick (eqb k id) retired (declared ns id)

unfoldable pub id_of : Binder → ℕ
id_of (a_block id d) = id
id_of (a_parameter id ty) = id
id_of (a_procedure id ty tys) = id

-- what a use of the binder with number k means
unfoldable pub meant : ℕ → Binder → Meaning
meant k (a_block id d) = private k d
meant k (a_parameter id ty) = argument k ty
meant k (a_procedure id ty tys) = routine k ty tys

-- the binders are the enclosing ones, the innermost first
unfoldable pub meaning : List Name → List Binder → ℕ → Meaning
meaning ns [] id = declared ns id
meaning ns (b ∷ bs) id = pick (eqb (id_of b) id) (meant (length bs) b) (meaning ns bs id)

-- the binders around a procedure's term, and around the term in which it may be used
unfoldable pub inside : List Parameter → List Binder → List Binder
inside [] bs = bs
inside (p ∷ ps) bs = inside ps (a_parameter p.id p.holds ∷ bs)

unfoldable pub types_of : List Parameter → List ℕ
types_of [] = []
types_of (p ∷ ps) = p.holds ∷ types_of ps

unfoldable pub after : ℕ → ℕ → List Parameter → List Binder → List Binder
after id ty ps bs = a_procedure id ty (types_of ps) ∷ bs

-- the type with a number
unfoldable pub ty_of : Numbers → ℕ → Ty
ty_of N ty =
    pick (eqb ty 0) command
    (pick (eqb ty 1) (expression (values N ty))
    (pick (eqb ty 2) (expression (values N ty)) (variable (values N ty))))

unfoldable pub use_type : Meaning → ℕ
use_type (private k d) = 2 + d
use_type (argument k ty) = ty
use_type (routine k ty tys) = ty
use_type (named often ty tys) = ty
use_type retired = 0
use_type free = 0

-- the type of a term, by its number; a procedure "itself has the type of its second term"
unfoldable pub typed : List Name → List Binder → Written → ℕ
typed ns bs skip = 0
typed ns bs (diverge ty) = ty
typed ns bs (truth b) = 1
typed ns bs (number b) = 2
typed ns bs (call id ws) = use_type (meaning ns bs id)
typed ns bs (fetch v) = typed ns bs v - 2
typed ns bs (operate op l r) = result_type op
typed ns bs (assign v e) = 0
typed ns bs (sequence c m) = typed ns bs m
typed ns bs (choose b m n) = typed ns bs m
typed ns bs (while b c) = 0
typed ns bs (new id d c) = 0
typed ns bs (procedure id ty ps body rest) = typed ns (after id ty ps bs) rest

-- a variable's data has a value
unfoldable pub some_value : (N : Numbers) (ty : ℕ) → 0 < values N ty
unfolding values numbers finites
some_value N ty = go (eqb ty 1) (eqb ty 3)
  where
    go : (a b : Bool) → 0 < pick a 2 (pick b 2 (numbers N))
    go true b = omega arith
    go false true = omega arith
    go false false = omega arith

-- a use by what its id means; an accepted sheet uses no id that is retired or free
unfoldable pub by_meaning {ℓ} : {X : Type ℓ} → Meaning → X → (ℕ → X) → (ℕ → X) → (ℕ → X) → (Often → ℕ → List ℕ → X) →
    X
by_meaning (private k d) o v a r g = v k
by_meaning (argument k ty) o v a r g = a k
by_meaning (routine k ty tys) o v a r g = r k
by_meaning (named often ty tys) o v a r g = g often ty tys
by_meaning retired o v a r g = o
by_meaning free o v a r g = o

-- What stands for the binders, by their numbers. The level of a place is the number of blocks of the let-free term
-- around it.
pub record Terms : Type 0 where
  -- of a private variable: the level of its block
  pub level : ℕ → ℕ
  -- of a parameter: its argument at a level
  pub passed : ℕ → ℕ → Term
  -- of a procedure: its term for arguments, at a level
  pub body : ℕ → (ℕ → ℕ → Term) → ℕ → Term

unfoldable pub no_terms : Terms
no_terms = record { level = λ k. 0; passed = λ k n. t.diverge; body = λ k xs n. t.diverge }

-- one binder more, with the number k
unfoldable pub with-level : ℕ → ℕ → Terms → Terms
with-level k n ρ = record { level = beyond k ρ.level (λ j. n); passed = ρ.passed; body = ρ.body }

unfoldable pub with-body : ℕ → ((ℕ → ℕ → Term) → ℕ → Term) → Terms → Terms
with-body k p ρ = record { level = ρ.level; passed = ρ.passed; body = beyond k ρ.body (λ j. p) }

-- parameters with the numbers from k on
unfoldable pub with_passed : ℕ → (ℕ → ℕ → Term) → Terms → Terms
with_passed k xs ρ = record { level = ρ.level; passed = beyond k ρ.passed xs; body = ρ.body }

-- the term, at level n, that a term as written stands for
unfoldable mutual
  pub resolve : Numbers → List Name → List Binder → Terms → ℕ → Written → Term
  resolve N ns bs ρ n skip = t.skip
  resolve N ns bs ρ n (diverge ty) = t.diverge
  resolve N ns bs ρ n (truth b) = t.const b
  resolve N ns bs ρ n (number b) = t.const (code N (from_byte b))
  resolve N ns bs ρ n (call id ws) =
      by_meaning (meaning ns bs id) t.diverge
      (λ k. t.private (n - suc (ρ.level k)))
      (λ k. ρ.passed k n)
      (λ k. ρ.body k (λ j l. resolved N ns bs ρ l ws j) n)
      (λ often ty tys. t.name id often (ty_of N ty) (resolve_args N ns bs ρ n ws tys))
  resolve N ns bs ρ n (fetch v) = t.fetch (resolve N ns bs ρ n v)
  resolve N ns bs ρ n (operate op l r) =
      let o : Operation = record { over = N; operator = op } in
      t.operate (operands o) o (resolve N ns bs ρ n l) (resolve N ns bs ρ n r)
  resolve N ns bs ρ n (assign v e) =
      t.assign (values N (typed ns bs v)) (resolve N ns bs ρ n v) (resolve N ns bs ρ n e)
  resolve N ns bs ρ n (sequence c m) = t.seq (resolve N ns bs ρ n c) (resolve N ns bs ρ n m)
  resolve N ns bs ρ n (choose b x y) =
      t.cond (resolve N ns bs ρ n b) (resolve N ns bs ρ n x) (resolve N ns bs ρ n y)
  resolve N ns bs ρ n (while b c) = t.while (resolve N ns bs ρ n b) (resolve N ns bs ρ n c)
  resolve N ns bs ρ n (new id d c) =
      t.new (values N d) (some_value N d)
      (resolve N ns (a_block id d ∷ bs) (with-level (length bs) n ρ) (suc n) c)
  resolve N ns bs ρ n (procedure id ty ps body rest) =
      resolve N ns (after id ty ps bs)
      (with-body (length bs) (λ xs l. resolve N ns (inside ps bs) (with_passed (length bs) xs ρ) l body) ρ) n rest

  -- arguments of the given types, of a declared name
  pub resolve_args : Numbers → List Name → List Binder → Terms → ℕ → Writtens → List ℕ → Args
  resolve_args N ns bs ρ n none tys = t.no_args
  resolve_args N ns bs ρ n (more w ws) [] = t.no_args
  resolve_args N ns bs ρ n (more w ws) (ty ∷ tys) =
      t.arg (ty_of N ty) (resolve N ns bs ρ n w) (resolve_args N ns bs ρ n ws tys)

  -- argument j of a procedure, counted from 0, at level n
  pub resolved : Numbers → List Name → List Binder → Terms → ℕ → Writtens → ℕ → Term
  resolved N ns bs ρ n none j = t.diverge
  resolved N ns bs ρ n (more w ws) zero = resolve N ns bs ρ n w
  resolved N ns bs ρ n (more w ws) (suc j) = resolved N ns bs ρ n ws j

-- the whole term of a sheet, and its type
unfoldable pub term_of : Sheet → Term
term_of S = resolve S.numbers S.names [] no_terms 0 S.term

unfoldable pub type_of : Sheet → ℕ
type_of S = typed S.names [] S.term

abbrev pub whole_type : Sheet → Ty
whole_type S = ty_of S.numbers (type_of S)

-- "A complete play of a sheet is a play of its whole term by these rules" (01)
abbrev pub CompletePlay : Sheet → Word → Type 0
CompletePlay S u = Complete (whole_type S) (term_of S) u
