-- The expansion of a term to shared rows. Document 02 [1]: a part that comes down to a parameter is that parameter's
-- row; the term of a procedure is expanded at each use, and before it each argument that it uses, once; every other
-- record makes one row, whose number is taken before its parts are expanded, in their order.
use Rattle.std.specs.Prelude.{ℕ, suc, ◌<◌, ◌≡◌, List, [], ◌∷◌, length}
use Rattle.std.proofs.Math.Option.{Option, some}
use Rattle.language.specs.Number.{code, from_byte}
use Rattle.language.specs.Ty.{Ty}
use Rattle.language.specs.Term.{Operation}
use Rattle.language.specs.Typing.{operands}
use Rattle.language.specs.declared.Numbers.{Numbers}
use Rattle.language.specs.Term.{Often}
use Rattle.sheet_parts.specs.Rule.{values}
use Rattle.sheet_written.specs.Environment.{beyond}
use Rattle.sheet_written.specs.Written.{Written, skip, diverge, truth, number, call, fetch, operate, assign}
use Rattle.sheet_written.specs.Written.{sequence, while, choose, new, procedure, Parameter, Writtens, none, more}
use Rattle.sheet_written.specs.Written.{Name, Sheet}
use Rattle.sheet_written.specs.Meaning.{private, routine, named, meaning, typed, ty_of}
use Rattle.sheet_written.specs.Come.{come}
use Rattle.sheet_written.specs.Context.{Context, whole, in_block, in_procedure, in_scope, binders, downs, uses, Sees}
use Rattle.sheet_written.specs.Shared as s
use Rattle.sheet_written.specs.Shared.{Parts, no_part, part, Row}

-- the rows of the enclosing binders, by their numbers: of a new, of a parameter's argument
pub record Slots : Type 0 where
  pub block : ℕ → ℕ
  pub passed : ℕ → ℕ

unfoldable pub no_slots : Slots
no_slots = record { block = λ k. 0; passed = λ k. 0 }

unfoldable pub with_block : ℕ → ℕ → Slots → Slots
with_block k r ε = record { block = beyond k ε.block (λ j. r); passed = ε.passed }

-- arguments with the numbers from k on
unfoldable pub with_rows : ℕ → (ℕ → ℕ) → Slots → Slots
with_rows k rows ε = record { block = ε.block; passed = beyond k ε.passed rows }

abbrev pub operation : Numbers → ℕ → Operation
operation N op = record { over = N; operator = op }

-- Expands Γ ε W n r m: where n rows are made, W in Γ becomes the row r, and then m are made. R has the rows in the end;
-- of those before n and from m on nothing is said.
module _ (N : Numbers) (ns : List Name) (R : ℕ → Option Row) where
  mutual
    pub data Expands : Context → Slots → Written → ℕ → ℕ → ℕ → Type 0 where
      of_slot : {Γ : Context} {ε : Slots} {W : Written} {n r s : ℕ} → come ns (binders Γ) (downs ns Γ) W ≡ suc s →
          r ≡ ε.passed s → Expands Γ ε W n r n
      of_scope : {Γ : Context} {ε : Slots} {n r m id ty : ℕ} {ps : List Parameter} {body rest : Written} →
          Expands (in_scope id ty ps body Γ) ε rest n r m → Expands Γ ε (procedure id ty ps body rest) n r m
      -- the rows of arguments that the procedure does not use may be any
      of_use : {Γ Δ : Context} {ε : Slots} {n i r m id ty : ℕ} {tys : List ℕ} {ws : Writtens} {ps : List Parameter}
          {body : Written} {rows : ℕ → ℕ} → meaning ns (binders Γ) id ≡ routine (length (binders Δ)) ty tys →
          Sees Γ Δ ps body →
          Passes Γ ε (uses N ns Δ ps body) rows 0 ps ws n i →
          Expands (in_procedure ps Δ) (with_rows (length (binders Δ)) rows ε) body i r m → Expands Γ ε (call id ws) n r m
      of_skip : {Γ : Context} {ε : Slots} {n : ℕ} → R n ≡ some s.skip → Expands Γ ε skip n n (suc n)
      of_diverge : {Γ : Context} {ε : Slots} {n ty : ℕ} → R n ≡ some s.diverge → Expands Γ ε (diverge ty) n n (suc n)
      of_truth : {Γ : Context} {ε : Slots} {n b : ℕ} → R n ≡ some (s.const b) → Expands Γ ε (truth b) n n (suc n)
      of_number : {Γ : Context} {ε : Slots} {n b : ℕ} → R n ≡ some (s.const (code N (from_byte b))) →
          Expands Γ ε (number b) n n (suc n)
      of_private : {Γ : Context} {ε : Slots} {n id k d : ℕ} {ws : Writtens} → meaning ns (binders Γ) id ≡ private k d →
          R n ≡ some (s.private (ε.block k)) → Expands Γ ε (call id ws) n n (suc n)
      of_name : {Γ : Context} {ε : Slots} {n m id ty : ℕ} {often : Often} {tys : List ℕ} {ws : Writtens} {xs : Parts} →
          meaning ns (binders Γ) id ≡ named often ty tys → ExpandsArgs Γ ε ws tys (suc n) xs m →
          R n ≡ some (s.name id often (ty_of N ty) xs) → Expands Γ ε (call id ws) n n m
      of_fetch : {Γ : Context} {ε : Slots} {n a m : ℕ} {x : Written} → Expands Γ ε x (suc n) a m →
          R n ≡ some (s.fetch a) → Expands Γ ε (fetch x) n n m
      of_operate : {Γ : Context} {ε : Slots} {n a i b m op : ℕ} {x y : Written} →
          Expands Γ ε x (suc n) a i → Expands Γ ε y i b m →
          R n ≡ some (s.operate (operands (operation N op)) (operation N op) a b) → Expands Γ ε (operate op x y) n n m
      of_assign : {Γ : Context} {ε : Slots} {n a i b m : ℕ} {x y : Written} → Expands Γ ε x (suc n) a i →
          Expands Γ ε y i b m → R n ≡ some (s.assign (values N (typed ns (binders Γ) x)) a b) →
          Expands Γ ε (assign x y) n n m
      of_sequence : {Γ : Context} {ε : Slots} {n a i b m : ℕ} {x y : Written} → Expands Γ ε x (suc n) a i →
          Expands Γ ε y i b m → R n ≡ some (s.seq a b) → Expands Γ ε (sequence x y) n n m
      of_choose : {Γ : Context} {ε : Slots} {n a i b j c m : ℕ} {q x y : Written} → Expands Γ ε q (suc n) a i →
          Expands Γ ε x i b j → Expands Γ ε y j c m → R n ≡ some (s.cond a b c) → Expands Γ ε (choose q x y) n n m
      of_while : {Γ : Context} {ε : Slots} {n a i b m : ℕ} {x y : Written} → Expands Γ ε x (suc n) a i →
          Expands Γ ε y i b m → R n ≡ some (s.while a b) → Expands Γ ε (while x y) n n m
      -- its row is known before its block is expanded
      of_new : {Γ : Context} {ε : Slots} {n a m id d : ℕ} {x : Written} →
          Expands (in_block id d Γ) (with_block (length (binders Γ)) n ε) x (suc n) a m →
          R n ≡ some (s.new (values N d) a) → Expands Γ ε (new id d x) n n m

    -- the arguments of a declared name, of the given types
    pub data ExpandsArgs : Context → Slots → Writtens → List ℕ → ℕ → Parts → ℕ → Type 0 where
      no_args : {Γ : Context} {ε : Slots} {n : ℕ} → ExpandsArgs Γ ε none [] n no_part n
      one_arg : {Γ : Context} {ε : Slots} {n a i m ty : ℕ} {w : Written} {ws : Writtens} {tys : List ℕ} {T : Ty}
          {xs : Parts} →
          T ≡ ty_of N ty → Expands Γ ε w n a i → ExpandsArgs Γ ε ws tys i xs m →
          ExpandsArgs Γ ε (more w ws) (ty ∷ tys) n (part T a xs) m

    -- Passes Γ ε used rows j ps ws n m: the arguments ws, from number j on, become the rows that are given by number;
    -- only those that are used are expanded
    pub data Passes : Context → Slots → (ℕ → ℕ) → (ℕ → ℕ) → ℕ → List Parameter → Writtens → ℕ → ℕ → Type 0 where
      no_more : {Γ : Context} {ε : Slots} {used rows : ℕ → ℕ} {j n : ℕ} → Passes Γ ε used rows j [] none n n
      one_used : {Γ : Context} {ε : Slots} {used rows : ℕ → ℕ} {j n i m : ℕ} {q : Parameter} {ps : List Parameter}
          {w : Written} {ws : Writtens} → 0 < used j → Expands Γ ε w n (rows j) i →
          Passes Γ ε used rows (suc j) ps ws i m →
          Passes Γ ε used rows j (q ∷ ps) (more w ws) n m
      one_unused : {Γ : Context} {ε : Slots} {used rows : ℕ → ℕ} {j n m : ℕ} {q : Parameter} {ps : List Parameter}
          {w : Written} {ws : Writtens} → used j ≡ 0 → Passes Γ ε used rows (suc j) ps ws n m →
          Passes Γ ε used rows j (q ∷ ps) (more w ws) n m

-- a whole sheet becomes the row r of n rows
unfoldable pub Expansion : Sheet → (ℕ → Option Row) → ℕ → ℕ → Type 0
Expansion S R r n = Expands S.numbers S.names R whole no_slots S.term 0 r n
