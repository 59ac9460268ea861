-- The records of names of a part's own sheet: what they declare does not depend on their order.
use Prim.Native.Nat.{ℕ, ◌+◌}
use native.Mathlib.Omega.{arith}
use mathlib.Core.Path.{◌≡◌, refl, sym, ap, ◌∙◌, subst, subst₂}
use mathlib.Core.Logic.{◌↔◌, ◌⊎◌, inl, inr}
use mathlib.Core.List.{List, [], ◌∷◌, ◌++◌}
use lib.Dec.{eqb}
use borrow.Author.Tests.{eqb-true, eqb-false, eq-eqb, ne_eqb}
use Rattle.language.specs.Choice.{pick}
use Rattle.language.specs.Term.{freely}
use Rattle.sheet_written.specs.Written.{Name, declare, retire}
use Rattle.sheet_written.specs.Meaning.{Binder, a_block, a_parameter, a_procedure, Meaning, private, named, retired, free}
use Rattle.sheet_written.specs.Meaning.{declared, id_of, meant, meaning}
use Rattle.sheet_written.specs.Fine.{FineNames}
use Rattle.sheet_written.proofs.Tests.{by-test}
use Rattle.sheet_written.proofs.Scopes.{meaning-here, meaning-past}
use Rattle.serve_part.specs.Part.{DeclaredAs, as_name, same_name, same_retired, same_free, declaring, Lists}
use Rattle.serve_part.specs.Part.{first, later}

-- the id of a record and what it declares
unfoldable pub id_in : Name → ℕ
id_in (declare often id ty tys) = id
id_in (retire id) = id

unfoldable pub declared_in : Name → Meaning
declared_in (declare often id ty tys) = named often ty tys
declared_in (retire id) = retired

declared-more : (n : Name) (ns : List Name) (id : ℕ) →
    declared (n ∷ ns) id ≡ pick (eqb (id_in n) id) (declared_in n) (declared ns id)
unfolding declared id_in declared_in
declared-more (declare often k ty tys) ns id = refl
declared-more (retire k) ns id = refl

declared-here : (n : Name) (ns : List Name) (id : ℕ) → id_in n ≡ id → declared (n ∷ ns) id ≡ declared_in n
declared-here n ns id e = declared-more n ns id ∙ rw (eq-eqb (id_in n) id e)

pub declared-past : (n : Name) (ns : List Name) (id : ℕ) → (id_in n ≡ id → ⊥) → declared (n ∷ ns) id ≡ declared ns id
declared-past n ns id h = declared-more n ns id ∙ rw (ne_eqb (id_in n) id h)

not_free : (n : Name) → declared_in n ≡ free → ⊥
unfolding declared_in
not_free (declare often k ty tys) e = let z : ◌≡◌ {A = ℕ} 0 1 = cc in absurd (omega arith)
not_free (retire k) e = let z : ◌≡◌ {A = ℕ} 0 1 = cc in absurd (omega arith)

as-itself : (n : Name) → DeclaredAs (declared_in n) (declared_in n)
unfolding declared_in
as-itself (declare often k ty tys) = same_name
as-itself (retire k) = same_retired

-- an id that records leave free has none
free-past : (n : Name) (ns : List Name) (id : ℕ) → declared (n ∷ ns) id ≡ free →
    (id_in n ≡ id → ⊥) × (declared ns id ≡ free)
free-past n ns id h =
    by-test (eqb (id_in n) id)
    (λ t. absurd (not_free n (sym (declared-here n ns id (eqb-true (id_in n) id t)) ∙ h)))
    (λ t. let e = eqb-false (id_in n) id t in (e, sym (declared-past n ns id e) ∙ h))

pub free-none : {n : Name} {ns : List Name} {id : ℕ} → Lists n ns → declared ns id ≡ free → id_in n ≡ id → ⊥
free-none {n} {id = id} (first {ns = ns}) h e = (free-past n ns id h).0 e
free-none {n} {id = id} (later {k = k} {ns = ns} l) h e = free-none l (free-past k ns id h).1 e

-- where an id is declared or retired, or that it is free
data Found (ns : List Name) (id : ℕ) : Type 0 where
  nowhere : declared ns id ≡ free → Found ns id
  by : (n : Name) → Lists n ns → id_in n ≡ id → declared ns id ≡ declared_in n → Found ns id

found-more : (k : Name) (ns : List Name) (id : ℕ) → (id_in k ≡ id → ⊥) → Found ns id → Found (k ∷ ns) id
found-more k ns id h (nowhere e) = nowhere (declared-past k ns id h ∙ e)
found-more k ns id h (by n l i e) = by n (later l) i (declared-past k ns id h ∙ e)

find : (ns : List Name) (id : ℕ) → Found ns id
unfolding declared
find [] id = nowhere refl
find (n ∷ ns) id =
    by-test (eqb (id_in n) id)
    (λ t. let e = eqb-true (id_in n) id t in by n first e (declared-here n ns id e))
    (λ t. found-more n ns id (eqb-false (id_in n) id t) (find ns id))

-- a record after others, in order
pub fine-rest : (e : List Name) (n : Name) (ns : List Name) → FineNames e (n ∷ ns) →
    (declared e (id_in n) ≡ free) × FineNames (n ∷ e) ns
unfolding FineNames id_in
fine-rest e (declare often k ty tys) ns f = (f.1, f.5)
fine-rest e (retire k) ns f = (f.1, f.2)

fine-free : {n : Name} (e : List Name) {ns : List Name} → FineNames e ns → Lists n ns → declared e (id_in n) ≡ free
fine-free {n} e f (first {ns = ns}) = (fine-rest e n ns f).0
fine-free {n} e f (later {k = k} {ns = ns} l) =
    (free-past k e (id_in n) (fine-free (k ∷ e) (fine-rest e k ns f).1 l)).1

-- each record in order declares its id
fine-one : {n : Name} (e : List Name) {ns : List Name} → FineNames e ns → Lists n ns →
    declared ns (id_in n) ≡ declared_in n
fine-one {n} e f (first {ns = ns}) = declared-here n ns (id_in n) refl
fine-one {n} e f (later {k = k} {ns = ns} l) =
    declared-past k ns (id_in n) (free-past k e (id_in n) (fine-free (k ∷ e) (fine-rest e k ns f).1 l)).0
    ∙ fine-one (k ∷ e) (fine-rest e k ns f).1 l

-- lists one after the other
lists-left : {n : Name} {ns : List Name} (ms : List Name) → Lists n ns → Lists n (ns ++ ms)
lists-left ms first = first
lists-left ms (later l) = later (lists-left ms l)

lists-right : {n : Name} (ns : List Name) {ms : List Name} → Lists n ms → Lists n (ns ++ ms)
lists-right [] l = l
lists-right (k ∷ ns) l = later (lists-right ns l)

pub lists-either : {n : Name} (ns : List Name) {ms : List Name} → Lists n (ns ++ ms) → Lists n ns ⊎ Lists n ms
lists-either [] l = inr l
lists-either (k ∷ ns) first = inl first
lists-either {n} (k ∷ ns) {ms} (later l) = go (lists-either ns l)
  where
    go : Lists n ns ⊎ Lists n ms → Lists n (k ∷ ns) ⊎ Lists n ms
    go (inl x) = inl (later x)
    go (inr x) = inr x

-- binders that are news
unfoldable pub News : List Binder → Type 0
News [] = Unit
News (a_block id d ∷ bs) = News bs
News (a_parameter id ty ∷ bs) = ⊥
News (a_procedure id ty tys ∷ bs) = ⊥

-- what an id means there: the variable of a new, which is declared, or what it means without them
data Means (ns : List Name) (bs : List Binder) (id : ℕ) : Type 0 where
  a-variable : (k d : ℕ) → meaning ns bs id ≡ private k d → Lists (declare freely id (2 + d) []) (declaring bs) →
      Means ns bs id
  another : meaning ns bs id ≡ declared ns id →
      ((n : Name) → Lists n (declaring bs) → id_in n ≡ id → ⊥) → Means ns bs id

means-more : (ns : List Name) (i d : ℕ) (bs : List Binder) (id : ℕ) → (i ≡ id → ⊥) → Means ns bs id →
    Means ns (a_block i d ∷ bs) id
unfolding declaring id_of id_in
means-more ns i d bs id h (a-variable k e f l) =
    a-variable k e (meaning-past ns (a_block i d) bs id h ∙ f) (lists-left _ l)
means-more ns i d bs id h (another f g) =
    another (meaning-past ns (a_block i d) bs id h ∙ f) (λ n l e. go n (lists-either (declaring bs) l) e)
  where
    go : (n : Name) → Lists n (declaring bs) ⊎ Lists n (declare freely i (2 + d) [] ∷ []) → id_in n ≡ id → ⊥
    go n (inl x) e = g n x e
    go n (inr first) e = h e
    go n (inr (later x)) e = elim x [ ]

pub no_record : {n : Name} {ns : List Name} → Lists n ns → ns ≡ [] → ⊥
no_record first e = let z : ◌≡◌ {A = ℕ} 0 1 = cc in absurd (omega arith)
no_record (later l) e = let z : ◌≡◌ {A = ℕ} 0 1 = cc in absurd (omega arith)

means : (ns : List Name) (bs : List Binder) (id : ℕ) → News bs → Means ns bs id
unfolding News declaring meaning id_of meant
means ns [] id w = another refl (λ n l. absurd (no_record l refl))
means ns (a_block i d ∷ bs) id w =
    by-test (eqb i id)
    (λ t. let e = eqb-true i id t in
    a-variable _ d (meaning-here ns (a_block i d) bs id e)
    (subst (λ x. Lists (declare freely x (2 + d) []) (declaring bs ++ (declare freely i (2 + d) [] ∷ []))) e
    (lists-right (declaring bs) first)))
    (λ t. means-more ns i d bs id (eqb-false i id t) (means ns bs id w))
means ns (a_parameter i ty ∷ bs) id w = absurd w
means ns (a_procedure i ty tys ∷ bs) id w = absurd w

-- THEOREM: records in order, of the whole sheet and of the enclosing variables, declare what they should, in any order
pub any_order : (ns ms : List Name) (bs : List Binder) → FineNames [] ns → FineNames [] ms → News bs →
    ((n : Name) → Lists n ms ↔ Lists n (ns ++ declaring bs)) → (id : ℕ) →
    DeclaredAs (meaning ns bs id) (declared ms id)
unfolding declared_in id_in
any_order ns ms bs f g w h id = go (means ns bs id w)
  where
    unknown : declared ns id ≡ free → ((n : Name) → Lists n (declaring bs) → id_in n ≡ id → ⊥) → Found ms id →
        declared ms id ≡ free
    unknown e r (nowhere i) = i
    unknown e r (by n l i j) = absurd (one_of (lists-either ns ((h n).0 l)))
      where
        one_of : Lists n ns ⊎ Lists n (declaring bs) → ⊥
        one_of (inl x) = free-none x e i
        one_of (inr x) = r n x i

    known : ((n : Name) → Lists n (declaring bs) → id_in n ≡ id → ⊥) → Found ns id →
        DeclaredAs (declared ns id) (declared ms id)
    known r (nowhere e) = subst₂ DeclaredAs (sym e) (sym (unknown e r (find ms id))) same_free
    known r (by n l i e) =
        let d = ap (declared ms) (sym i) ∙ fine-one [] g ((h n).1 (lists-left (declaring bs) l)) in
        subst₂ DeclaredAs (sym e) (sym d) (as-itself n)

    go : Means ns bs id → DeclaredAs (meaning ns bs id) (declared ms id)
    go (a-variable k d e l) =
        subst₂ DeclaredAs (sym e) (sym (fine-one [] g ((h (declare freely id (2 + d) [])).1 (lists-right ns l)))) as_name
    go (another e r) = subst (λ x. DeclaredAs x (declared ms id)) (sym e) (known r (find ns id))
