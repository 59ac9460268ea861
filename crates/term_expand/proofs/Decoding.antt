-- Rows by their words, and what they weigh.
use Prim.Native.Nat.{ℕ, zero, suc, ◌+◌, ◌*◌, ◌%◌, ◌≤◌, ◌<◌}
use native.Mathlib.Omega.{arith}
use mathlib.Core.Path.{◌≡◌, refl}
use mathlib.Core.Option.{some}
use mathlib.Core.List.{List, [], ◌∷◌}
use lib.ListN.{length}
use lib.Dec.{eqb}
use Rattle.language.specs.Typing.{operands}
use Rattle.language.specs.declared.Numbers.{Numbers}
use Rattle.language.specs.Term.{Often}
use Rattle.sheet_written.specs.Written.{Name}
use Rattle.sheet_written.specs.Meaning.{Binder, named, declared, meant, a_block, a_parameter, a_procedure}
use Rattle.sheet_written.specs.Meaning.{meaning, ty_of, id_of}
use Rattle.sheet_written.specs.Shared as s
use Rattle.sheet_written.specs.Expand.{operation}
use Rattle.sheet_rows.specs.PartKind.{SKIP, DIVERGE, CONSTANT, NAME, FETCH, OPERATE, ASSIGN, SEQUENCE, IF, WHILE, NEW}
use Rattle.sheet_rows.specs.PartKind.{PRIVATE, KIND, DETAIL, PARTS, WEIGHT}
use Rattle.sheet_rows.specs.Row.{word}
use Rattle.sheet_written.proofs.Tests.{by-test}
use Rattle.term_closing.specs.Rows.{parts_from, named_row, row_of, decode}
use Rattle.term_closing.specs.Close.{bit_of, first_bits, name_weight, first_values, weight_of, kind_weight}
use Rattle.term_expand.proofs.Frames.{lower-part}

not_named : (k : ℕ) (c : Binder) (often : Often) (ty : ℕ) (tys : List ℕ) → meant k c ≡ named often ty tys → ⊥
unfolding meant
not_named k (a_block id d) often ty tys e = let z : ◌≡◌ {A = ℕ} 0 1 = cc in omega arith
not_named k (a_parameter id d) often ty tys e = let z : ◌≡◌ {A = ℕ} 0 1 = cc in omega arith
not_named k (a_procedure id d ts) often ty tys e = let z : ◌≡◌ {A = ℕ} 0 1 = cc in omega arith

-- the first c bits, and no other
pub bit-first : (c i : ℕ) → i < c → c ≤ 4 → bit_of (first_bits c) i ≡ 1
unfolding bit_of first_bits
bit-first zero i h l = absurd (omega arith)
bit-first (suc zero) zero h l = refl
bit-first (suc zero) (suc i) h l = absurd (omega arith)
bit-first (suc (suc zero)) zero h l = refl
bit-first (suc (suc zero)) (suc zero) h l = refl
bit-first (suc (suc zero)) (suc (suc i)) h l = absurd (omega arith)
bit-first (suc (suc (suc zero))) zero h l = refl
bit-first (suc (suc (suc zero))) (suc zero) h l = refl
bit-first (suc (suc (suc zero))) (suc (suc zero)) h l = refl
bit-first (suc (suc (suc zero))) (suc (suc (suc i))) h l = absurd (omega arith)
bit-first (suc (suc (suc (suc zero)))) zero h l = refl
bit-first (suc (suc (suc (suc zero)))) (suc zero) h l = refl
bit-first (suc (suc (suc (suc zero)))) (suc (suc zero)) h l = refl
bit-first (suc (suc (suc (suc zero)))) (suc (suc (suc zero))) h l = refl
bit-first (suc (suc (suc (suc zero)))) (suc (suc (suc (suc i)))) h l = absurd (omega arith)
bit-first (suc (suc (suc (suc (suc c))))) i h l = absurd (omega arith)

pub bit-later : (c i : ℕ) → c ≤ i → i < 4 → bit_of (first_bits c) i ≡ 0
unfolding bit_of first_bits
bit-later zero zero h l = refl
bit-later zero (suc zero) h l = refl
bit-later zero (suc (suc zero)) h l = refl
bit-later zero (suc (suc (suc zero))) h l = refl
bit-later (suc zero) (suc zero) h l = refl
bit-later (suc zero) (suc (suc zero)) h l = refl
bit-later (suc zero) (suc (suc (suc zero))) h l = refl
bit-later (suc (suc zero)) (suc (suc zero)) h l = refl
bit-later (suc (suc zero)) (suc (suc (suc zero))) h l = refl
bit-later (suc (suc (suc zero))) (suc (suc (suc zero))) h l = refl
bit-later (suc c) zero h l = absurd (omega arith)
bit-later (suc (suc c)) (suc zero) h l = absurd (omega arith)
bit-later (suc (suc (suc c))) (suc (suc zero)) h l = absurd (omega arith)
bit-later (suc (suc (suc (suc c)))) (suc (suc (suc zero))) h l = absurd (omega arith)
bit-later c (suc (suc (suc (suc i)))) h l = absurd (omega arith)

-- an id that means a name inside binders is declared as that name
pub name-declared : (ns : List Name) (bs : List Binder) (id ty : ℕ) (often : Often) (tys : List ℕ) →
    meaning ns bs id ≡ named often ty tys → declared ns id ≡ named often ty tys
unfolding meaning
name-declared ns [] id ty often tys e = e
name-declared ns (b ∷ bs) id ty often tys e =
    by-test (eqb (id_of b) id)
    (λ h.
    let x : meant (length bs) b ≡ named often ty tys = rw h at e in
    absurd (never b x))
    (λ h.
    let x : meaning ns bs id ≡ named often ty tys = rw h at e in
    name-declared ns bs id ty often tys x)
  where
    never : (c : Binder) → meant (length bs) c ≡ named often ty tys → ⊥
    never c x = not_named (length bs) c often ty tys x

module _ (N : Numbers) (ns : List Name) (T : List ℕ) (n : ℕ) where
  pub row-skip : word T n 0 ≡ SKIP → decode N ns T n ≡ some s.skip
  unfolding decode row_of
  row-skip k = rw k

  pub row-diverge : word T n 0 ≡ DIVERGE → decode N ns T n ≡ some s.diverge
  unfolding decode row_of
  row-diverge k = rw k

  pub row-const : (v : ℕ) → word T n 0 ≡ CONSTANT → word T n 4 ≡ v → decode N ns T n ≡ some (s.const v)
  unfolding decode row_of
  row-const v k e = rw (k, e)

  pub row-private : (v : ℕ) → word T n 0 ≡ PRIVATE → word T n 4 ≡ v → decode N ns T n ≡ some (s.private v)
  unfolding decode row_of
  row-private v k e = rw (k, e)

  pub row-fetch : (a : ℕ) → word T n 0 ≡ FETCH → word T n 5 ≡ a → decode N ns T n ≡ some (s.fetch a)
  unfolding decode row_of
  row-fetch a k e = rw (k, e)

  pub row-operate : (op a b : ℕ) → word T n 0 ≡ OPERATE → word T n 4 ≡ op → word T n 5 ≡ a → word T n 6 ≡ b →
      decode N ns T n ≡ some (s.operate (operands (operation N op)) (operation N op) a b)
  unfolding decode row_of
  row-operate op a b k d e f = rw (k, d, e, f)

  pub row-assign : (v a b : ℕ) → word T n 0 ≡ ASSIGN → word T n 4 ≡ v → word T n 5 ≡ a → word T n 6 ≡ b →
      decode N ns T n ≡ some (s.assign v a b)
  unfolding decode row_of
  row-assign v a b k d e f = rw (k, d, e, f)

  pub row-seq : (a b : ℕ) → word T n 0 ≡ SEQUENCE → word T n 5 ≡ a → word T n 6 ≡ b → decode N ns T n ≡ some (s.seq a b)
  unfolding decode row_of
  row-seq a b k e f = rw (k, e, f)

  pub row-while : (a b : ℕ) → word T n 0 ≡ WHILE → word T n 5 ≡ a → word T n 6 ≡ b → decode N ns T n ≡ some (s.while
      a b)
  unfolding decode row_of
  row-while a b k e f = rw (k, e, f)

  pub row-cond : (a b c : ℕ) → word T n 0 ≡ IF → word T n 5 ≡ a → word T n 6 ≡ b → word T n 7 ≡ c →
      decode N ns T n ≡ some (s.cond a b c)
  unfolding decode row_of
  row-cond a b c k e f g = rw (k, e, f, g)

  pub row_new : (v a : ℕ) → word T n 0 ≡ NEW → word T n 4 ≡ v → word T n 5 ≡ a → decode N ns T n ≡ some (s.new v a)
  unfolding decode row_of
  row_new v a k d e = rw (k, d, e)

  -- the row of a name
  parts_same : (tys : List ℕ) (f g : ℕ → ℕ) (j : ℕ) → ((i : ℕ) → j ≤ i → i < j + length tys → f i ≡ g i) →
      parts_from N tys f j ≡ parts_from N tys g j
  unfolding parts_from
  parts_same [] f g j h = refl
  parts_same (ty ∷ tys) f g j h =
      rw (h j (omega arith) (omega arith), parts_same tys f g (suc j) (λ i p q. h i (omega arith) (omega arith)))

  pub row-name : (id c ty : ℕ) (often : Often) (tys : List ℕ) (f : ℕ → ℕ) → word T n 0 ≡ NAME →
      word T n 4 ≡ id + 256 * c → id < 256 → declared ns id ≡ named often ty tys →
      ((i : ℕ) → i < length tys → word T n (PARTS + i) ≡ f i) →
      decode N ns T n ≡ some (s.name id often (ty_of N ty) (parts_from N tys f 0))
  unfolding decode row_of named_row
  row-name id c ty often tys f k e h g p =
      let z : (id + 256 * c) % 256 ≡ id = lower-part 256 id c h in
      let q = parts_same tys (λ j. word T n (PARTS + j)) f 0 (λ i a b. p i (omega arith)) in
      rw (k, e, z, g, q)

-- the weights of rows by kind, and their details
module _ (t B : List ℕ) (at a b c d : ℕ) where
  pub weight-one : word t at KIND ≡ SKIP → weight_of t B at a b c d ≡ 1
  unfolding weight_of kind_weight
  weight-one k = rw k

  pub weight-diverge : word t at KIND ≡ DIVERGE → weight_of t B at a b c d ≡ 1
  unfolding weight_of kind_weight
  weight-diverge k = rw k

  pub weight-constant : word t at KIND ≡ CONSTANT → weight_of t B at a b c d ≡ 1
  unfolding weight_of kind_weight
  weight-constant k = rw k

  pub weight-private : word t at KIND ≡ PRIVATE → weight_of t B at a b c d ≡ 2
  unfolding weight_of kind_weight
  weight-private k = rw k

  pub weight-fetch : word t at KIND ≡ FETCH → weight_of t B at a b c d ≡ word B a WEIGHT
  unfolding weight_of kind_weight
  weight-fetch k = rw k

  pub weight-operate : word t at KIND ≡ OPERATE →
      weight_of t B at a b c d ≡ word B a WEIGHT + first_values t at * word B b WEIGHT
  unfolding weight_of kind_weight
  weight-operate k = rw k

  pub weight-assign : word t at KIND ≡ ASSIGN →
      weight_of t B at a b c d ≡ word B b WEIGHT + first_values t at * word B a WEIGHT
  unfolding weight_of kind_weight
  weight-assign k = rw k

  pub weight-sequence : word t at KIND ≡ SEQUENCE → weight_of t B at a b c d ≡ word B a WEIGHT + word B b WEIGHT
  unfolding weight_of kind_weight
  weight-sequence k = rw k

  pub weight-while : word t at KIND ≡ WHILE → weight_of t B at a b c d ≡ word B a WEIGHT + word B b WEIGHT
  unfolding weight_of kind_weight
  weight-while k = rw k

  pub weight-if : word t at KIND ≡ IF →
      weight_of t B at a b c d ≡ word B a WEIGHT + (word B b WEIGHT + word B c WEIGHT)
  unfolding weight_of kind_weight
  weight-if k = rw k

  pub weight-new : word t at KIND ≡ NEW → weight_of t B at a b c d ≡ word t at DETAIL * word B a WEIGHT
  unfolding weight_of kind_weight
  weight-new k = rw k

  pub weight-name : word t at KIND ≡ NAME →
      weight_of t B at a b c d ≡ name_weight t at (word B a WEIGHT) (word B b WEIGHT) (word B c WEIGHT) (word B d WEIGHT)
  unfolding weight_of kind_weight
  weight-name k = rw k
