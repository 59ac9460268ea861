-- The ids of a term in order: those bound are neither declared nor retired, and those used are declared or bound.
use Prim.Native.Nat.{ℕ, ◌<◌}
use mathlib.Core.Path.{◌≡◌, refl, sym, ap, ◌∙◌, subst}
use mathlib.Core.Bool.{Bool, true, false, ◌||◌}
use mathlib.Core.List.{List, [], ◌∷◌}
use lib.ListN.{length}
use lib.Dec.{eqb}
use borrow.Author.Tests.{eq-eqb}
use Rattle.language.specs.Choice.{pick}
use Rattle.language.specs.declared.Numbers.{Numbers}
use Rattle.sheet_written.specs.Written.{Written, skip, diverge, truth, number, call, fetch, operate, assign}
use Rattle.sheet_written.specs.Written.{sequence, while, choose, new, procedure, Parameter, Writtens, none, more}
use Rattle.sheet_written.specs.Written.{Name}
use Rattle.sheet_written.specs.Meaning.{Binder, a_block, a_parameter, a_procedure, Meaning, private, argument}
use Rattle.sheet_written.specs.Meaning.{routine, named, retired, free, declared, meaning, inside, after, id_of}
use Rattle.sheet_written.specs.Meaning.{types_of}
use Rattle.sheet_written.specs.Fine.{FineUse, FineParameters, Fine, FineArgs}
use Rattle.sheet_written.specs.Renumber.{holds_id, is_bound, is_bound_in}
use Rattle.sheet_written.proofs.Scopes.{meaning-past}
use Rattle.sheet_written.proofs.Lowest.{or_left, or_right, by-id}

-- the parameters of a record are marked
unfoldable pub Marked : (ℕ → Bool) → List Parameter → Type 0
Marked s [] = Unit
Marked s (p ∷ ps) = (s p.id ≡ true) × Marked s ps

-- the ids of a term are in order and marked
unfoldable mutual
  pub Known : List Name → (ℕ → Bool) → Written → Type 0
  Known ns s skip = Unit
  Known ns s (diverge ty) = Unit
  Known ns s (truth b) = Unit
  Known ns s (number b) = Unit
  Known ns s (call id ws) = (id < 255) × (s id ≡ true) × AllKnown ns s ws
  Known ns s (fetch v) = Known ns s v
  Known ns s (operate op x y) = Known ns s x × Known ns s y
  Known ns s (assign x y) = Known ns s x × Known ns s y
  Known ns s (sequence x y) = Known ns s x × Known ns s y
  Known ns s (choose b x y) = Known ns s b × Known ns s x × Known ns s y
  Known ns s (while x y) = Known ns s x × Known ns s y
  Known ns s (new id d c) = (id < 255) × (s id ≡ true) × (declared ns id ≡ free) × Known ns s c
  Known ns s (procedure id ty ps x y) =
      (id < 255) × (s id ≡ true) × (declared ns id ≡ free) × Marked s ps × FineParameters ns [] ps
      × Known ns s x × Known ns s y × (length ps < 5)

  pub AllKnown : List Name → (ℕ → Bool) → Writtens → Type 0
  AllKnown ns s none = Unit
  AllKnown ns s (more w ws) = Known ns s w × AllKnown ns s ws

-- a use in order has a meaning
used-something : (m : Meaning) (P : Type 0) (Q : List ℕ → Type 0) → FineUse m P Q → m ≡ free → ⊥
unfolding FineUse
used-something m P Q h e = subst (λ (x : Meaning). FineUse x P Q) e h

-- the parameters are among the ids that a test finds
marked_all : (s : ℕ → Bool) (ps : List Parameter) → ((j : ℕ) → holds_id j ps ≡ true → s j ≡ true) → Marked s ps
unfolding Marked holds_id
marked_all s [] h = tt
marked_all s (p ∷ ps) h =
    (h p.id (rw (eq-eqb p.id p.id refl) refl), marked_all s ps (λ j e. h j (holds_later (eqb p.id j) e)))
  where
    holds_later : {b : Bool} (a : Bool) → b ≡ true → pick a true b ≡ true
    holds_later true e = refl
    holds_later false e = e

module _ (N : Numbers) (ns : List Name) (s : ℕ → Bool) where
  -- what means something is marked
  Means : List Binder → Type 0
  Means bs = (j : ℕ) → (meaning ns bs j ≡ free → ⊥) → s j ≡ true

  means-more : (c : Binder) (bs : List Binder) → s (id_of c) ≡ true → Means bs → Means (c ∷ bs)
  unfolding Means
  means-more c bs e h j g =
      by-id (id_of c) j (λ i. ap s (sym i) ∙ e) (λ i. h j (λ z. g (meaning-past ns c bs j i ∙ z)))

  means-inside : (ps : List Parameter) (bs : List Binder) → Marked s ps → Means bs → Means (inside ps bs)
  unfolding Marked inside id_of
  means-inside [] bs m h = h
  means-inside (p ∷ ps) bs m h =
      let c : Binder = a_parameter p.id p.holds in
      means-inside ps (c ∷ bs) m.1 (means-more c bs m.0 h)

  known-use : (bs : List Binder) (ws : Writtens) (m : Meaning) →
      FineUse m (ws ≡ none) (λ tys. FineArgs N ns bs ws tys) →
      ((tys : List ℕ) → FineArgs N ns bs ws tys → AllKnown ns s ws) → AllKnown ns s ws
  unfolding FineUse Known
  known-use bs ws (private k d) h g = subst (AllKnown ns s) (sym h) tt
  known-use bs ws (argument k ty) h g = subst (AllKnown ns s) (sym h) tt
  known-use bs ws (routine k ty tys) h g = g tys h
  known-use bs ws (named often ty tys) h g = g tys h
  known-use bs ws retired h g = absurd h
  known-use bs ws free h g = absurd h

  -- two parts, each of whose bound ids are bound in the whole
  left-of : (a b : ℕ → Bool) → ((j : ℕ) → (a j || b j) ≡ true → s j ≡ true) → (j : ℕ) → a j ≡ true → s j ≡ true
  left-of a b h j e = h j (or_left (a j) (b j) e)

  right_of : (a b : ℕ → Bool) → ((j : ℕ) → (a j || b j) ≡ true → s j ≡ true) → (j : ℕ) → b j ≡ true → s j ≡ true
  right_of a b h j e = h j (or_right (a j) (b j) e)

  mutual
    unfolding Fine FineArgs Known is_bound is_bound_in Means id_of after

    pub known : (W : Written) (bs : List Binder) → Fine N ns bs W → ((j : ℕ) → is_bound W j ≡ true → s j ≡ true) →
        ((j : ℕ) → (meaning ns bs j ≡ free → ⊥) → s j ≡ true) → Known ns s W
    known skip bs f h m = tt
    known (diverge ty) bs f h m = tt
    known (truth b) bs f h m = tt
    known (number b) bs f h m = tt
    known (call id ws) bs f h m = (
      f.0,
      m id (used-something (meaning ns bs id) (ws ≡ none) (λ tys. FineArgs N ns bs ws tys) f.1),
      known-use bs ws (meaning ns bs id) f.1 (λ tys g. known-all ws bs tys g h m),
    )
    known (fetch v) bs f h m = known v bs f.0 h m
    known (operate op x y) bs f h m = (
      known x bs f.1 (left-of (is_bound x) (is_bound y) h) m,
      known y bs f.3 (right_of (is_bound x) (is_bound y) h) m,
    )
    known (assign x y) bs f h m = (
      known x bs f.0 (left-of (is_bound x) (is_bound y) h) m,
      known y bs f.2 (right_of (is_bound x) (is_bound y) h) m,
    )
    known (sequence x y) bs f h m = (
      known x bs f.0 (left-of (is_bound x) (is_bound y) h) m,
      known y bs f.2 (right_of (is_bound x) (is_bound y) h) m,
    )
    known (choose b x y) bs f h m =
        let r : (j : ℕ) → (is_bound x j || is_bound y j) ≡ true → s j ≡ true =
        right_of (is_bound b) (λ j. is_bound x j || is_bound y j) h in (
          known b bs f.0 (left-of (is_bound b) (λ j. is_bound x j || is_bound y j) h) m,
          known x bs f.2 (left-of (is_bound x) (is_bound y) r) m,
          known y bs f.3 (right_of (is_bound x) (is_bound y) r) m,
        )
    known (while x y) bs f h m = (
      known x bs f.0 (left-of (is_bound x) (is_bound y) h) m,
      known y bs f.2 (right_of (is_bound x) (is_bound y) h) m,
    )
    known (new id d c) bs f h m =
        let e : s id ≡ true = left-of (eqb id) (is_bound c) h id (eq-eqb id id refl) in (
          f.0,
          e,
          f.1,
          known c (a_block id d ∷ bs) f.4 (right_of (eqb id) (is_bound c) h)
              (means-more (a_block id d) bs e m),
        )
    known (procedure id ty ps x y) bs f h m =
        let parts : ℕ → Bool = λ j. is_bound x j || is_bound y j in
        let params : ℕ → Bool = λ j. holds_id j ps in
        let e : s id ≡ true = left-of (eqb id) (λ j. params j || parts j) h id (eq-eqb id id refl) in
        let h' : (j : ℕ) → (params j || parts j) ≡ true → s j ≡ true =
        right_of (eqb id) (λ j. params j || parts j) h in
        let h'' : (j : ℕ) → parts j ≡ true → s j ≡ true = right_of params parts h' in
        let k : Marked s ps = marked_all s ps (left-of params parts h') in (
          f.0,
          e,
          f.1,
          k,
          f.4,
          known x (inside ps bs) f.5 (left-of (is_bound x) (is_bound y) h'') (means-inside ps bs k m),
          known y (a_procedure id ty (types_of ps) ∷ bs) f.7 (right_of (is_bound x) (is_bound y) h'')
              (means-more (a_procedure id ty (types_of ps)) bs e m),
          f.3,
        )

    known-all : (ws : Writtens) (bs : List Binder) (tys : List ℕ) → FineArgs N ns bs ws tys →
        ((j : ℕ) → is_bound_in ws j ≡ true → s j ≡ true) →
        ((j : ℕ) → (meaning ns bs j ≡ free → ⊥) → s j ≡ true) → AllKnown ns s ws
    known-all none bs tys f h m = tt
    known-all (more w ws) bs [] f h m = absurd f
    known-all (more w ws) bs (ty ∷ tys) f h m = (
      known w bs f.0 (left-of (is_bound w) (is_bound_in ws) h) m,
      known-all ws bs tys f.2 (right_of (is_bound w) (is_bound_in ws) h) m,
    )
