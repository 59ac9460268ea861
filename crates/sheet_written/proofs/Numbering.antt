-- The numbers of binders, and environments by number.
use Prim.Native.Nat.{ℕ, suc, ◌+◌, ◌-◌, ◌≤◌, ◌<◌}
use native.Mathlib.Omega.{arith}
use mathlib.Core.Path.{◌≡◌}
use mathlib.Core.Bool.{Bool, true, false}
use mathlib.Core.List.{List, [], ◌∷◌}
use lib.ListN.{length}
use lib.Dec.{eqb, ltb}
use borrow.Author.Tests.{lt-ltb, le-ltb}
use Rattle.sheet_written.specs.Environment.{either, beyond}
use Rattle.sheet_written.specs.Written.{Name, declare, retire}
use Rattle.sheet_written.specs.Meaning.{Binder, a_block, a_parameter, a_procedure, Meaning, private, argument}
use Rattle.sheet_written.specs.Meaning.{routine, named, retired, free, declared, id_of, meant, meaning}
use Rattle.sheet_written.proofs.Tests.{by-test}
use Rattle.language.specs.Term.{Often}

-- below k an environment stays, from k on it is what is given
pub beyond_below {ℓ} : {X : Type ℓ} (k : ℕ) (f g : ℕ → X) (j : ℕ) → j < k → beyond k f g j ≡ f j
unfolding beyond
beyond_below k f g j h = rw (lt-ltb j k h)

pub beyond_above {ℓ} : {X : Type ℓ} (k : ℕ) (f g : ℕ → X) (j : ℕ) → beyond k f g (k + j) ≡ g j
unfolding beyond
beyond_above k f g j =
    let e : k + j - k ≡ j = omega arith in
    rw (le-ltb (k + j) k (omega arith), e)

pub beyond-at {ℓ} : {X : Type ℓ} (k : ℕ) (f g : ℕ → X) → beyond k f g k ≡ g 0
unfolding beyond
beyond-at k f g =
    let e : k - k ≡ 0 = omega arith in
    rw (le-ltb k k (omega arith), e)

-- what holds of all before and of all given holds of all after
pub beyond-all {ℓ κ} : {X : Type ℓ} (P : X → Type κ) (k : ℕ) (f g : ℕ → X) → ((j : ℕ) → P (f j)) → ((j : ℕ) → P (g j)) →
    (j : ℕ) → P (beyond k f g j)
unfolding beyond
beyond-all P k f g h l j = go (ltb j k)
  where
    go : (b : Bool) → P (either b (f j) (g (j - k)))
    go true = h j
    go false = l (j - k)

-- and of two
pub beyond-both {ℓ κ μ} : {X : Type ℓ} {Y : Type κ} (R : X → Y → Type μ) (k : ℕ) (f g : ℕ → X) (f' g' : ℕ → Y) →
    ((j : ℕ) → R (f j) (f' j)) → ((j : ℕ) → R (g j) (g' j)) → (j : ℕ) → R (beyond k f g j) (beyond k f' g' j)
unfolding beyond
beyond-both R k f g f' g' h l j = go (ltb j k)
  where
    go : (b : Bool) → R (either b (f j) (g (j - k))) (either b (f' j) (g' (j - k)))
    go true = h j
    go false = l (j - k)

-- the number of what is meant is below k
unfoldable pub Below : ℕ → Meaning → Type 0
Below k (private j d) = j < k
Below k (argument j ty) = j < k
Below k (routine j ty tys) = j < k
Below k (named often ty tys) = Unit
Below k retired = Unit
Below k free = Unit

below_more : (k l : ℕ) (m : Meaning) → k ≤ l → Below k m → Below l m
unfolding Below
below_more k l (private j d) h b = omega arith
below_more k l (argument j d) h b = omega arith
below_more k l (routine j ty tys) h b = omega arith
below_more k l (named often ty tys) h b = tt
below_more k l retired h b = tt
below_more k l free h b = tt

-- what holds of every name, of what is retired and of what is free holds of all that is declared
pub all-declared : (P : Meaning → Type 0) (ns : List Name) (id : ℕ) → ((often : Often) (ty : ℕ) (tys : List ℕ) →
    P (named often ty tys)) → P retired → P free → P (declared ns id)
unfolding declared
all-declared P [] id n r f = f
all-declared P (declare often j ty tys ∷ ns) id n r f =
    by-test (eqb j id) (λ t. rw t (n often ty tys)) (λ t. rw t (all-declared P ns id n r f))
all-declared P (retire j ∷ ns) id n r f = by-test (eqb j id) (λ t. rw t r) (λ t. rw t (all-declared P ns id n r f))

below-declared : (ns : List Name) (id : ℕ) → Below 0 (declared ns id)
unfolding Below
below-declared ns id = all-declared (Below 0) ns id (λ often ty tys. tt) tt tt

below-meant : (k : ℕ) (b : Binder) → Below (suc k) (meant k b)
unfolding Below meant
below-meant k (a_block id d) = omega arith
below-meant k (a_parameter id d) = omega arith
below-meant k (a_procedure id ty tys) = omega arith

-- a use means one of the enclosing binders, or a name
pub below : (ns : List Name) (bs : List Binder) (id : ℕ) → Below (length bs) (meaning ns bs id)
unfolding meaning
below ns [] id = below-declared ns id
below ns (b ∷ bs) id =
    by-test (eqb (id_of b) id)
    (λ t. rw t (below-meant (length bs) b))
    (λ t. rw t (below_more (length bs) (suc (length bs)) (meaning ns bs id) (omega arith) (below ns bs id)))

-- what holds of the new binder's meaning, and of the meanings before, holds of the meanings after
pub one-more-binder {ℓ} : (P : Meaning → Type ℓ) (ns : List Name) (b : Binder) (bs : List Binder) →
    P (meant (length bs) b) →
    ((id : ℕ) → Below (length bs) (meaning ns bs id) → P (meaning ns bs id)) → (id : ℕ) → P (meaning ns (b ∷ bs) id)
unfolding meaning
one-more-binder P ns b bs h f id =
    by-test (eqb (id_of b) id) (λ t. rw t h) (λ t. rw t (f id (below ns bs id)))
