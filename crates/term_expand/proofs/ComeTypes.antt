-- A part that comes down to a parameter has the parameter's type. Document 02 [1].
use Prim.Native.Nat.{ℕ, zero, suc, ◌+◌, ◌-◌, ◌≤◌, ◌<◌}
use native.Mathlib.Omega.{arith}
use mathlib.Core.Path.{◌≡◌, refl, sym, ap, ◌∙◌}
use mathlib.Core.Bool.{Bool, true, false}
use mathlib.Core.List.{List, [], ◌∷◌}
use lib.ListN.{length, get_or}
use lib.Dec.{ltb}
use borrow.Author.Tests.{eq-eqb, ne_eqb, ltb-true, ltb-false}
use Rattle.language.specs.declared.Numbers.{Numbers}
use Rattle.sheet_written.specs.Environment.{beyond}
use Rattle.sheet_written.specs.Written.{Written, skip, diverge, truth, number, call, fetch, operate, assign, sequence}
use Rattle.sheet_written.specs.Written.{while, choose, new, procedure, Parameter, Writtens, none, more, Name}
use Rattle.sheet_written.specs.Meaning.{Binder, a_block, a_parameter, a_procedure, Meaning, private, argument, routine, named}
use Rattle.sheet_written.specs.Meaning.{retired, free, meant, meaning, inside, types_of, after, typed, use_type}
use Rattle.sheet_written.specs.Meaning.{by_meaning}
use Rattle.sheet_written.specs.Fine.{FineUse, Fine, FineArgs}
use Rattle.sheet_written.specs.Come.{come, comes, through}
use Rattle.sheet_written.specs.Context.{Context, whole, in_block, in_procedure, in_scope, binders, downs, Sees, sees_it}
use Rattle.sheet_written.specs.Context.{from_block, from_procedure, from_scope}
use Rattle.sheet_written.proofs.Numbering.{Below, beyond_below, beyond-at, all-declared, one-more-binder}
use Rattle.term_expand.specs.Types.{type_at}

by-test : {P : Type 0} (t : Bool) → (t ≡ true → P) → (t ≡ false → P) → P
by-test true f g = f refl
by-test false f g = g refl

-- beyond the binders there is no parameter
type-none : (bs : List Binder) (s : ℕ) → length bs ≤ s → type_at bs s ≡ 0
unfolding type_at
type-none [] s l = refl
type-none (a_block id d ∷ bs) s l = type-none bs s (omega arith)
type-none (a_parameter id ty ∷ bs) s l = rw (ne_eqb s (length bs) (λ e. omega arith)) (type-none bs s (omega arith))
type-none (a_procedure id ty tys ∷ bs) s l = type-none bs s (omega arith)

-- the parameters outside a procedure, and its own
pub type-outside : (ps : List Parameter) (bs : List Binder) (s : ℕ) → s < length bs →
    type_at (inside ps bs) s ≡ type_at bs s
unfolding inside type_at
type-outside [] bs s l = refl
type-outside (p ∷ ps) bs s l =
    type-outside ps (a_parameter p.id p.holds ∷ bs) s (omega arith)
    ∙ rw (ne_eqb s (length bs) (λ e. omega arith)) refl

pub type-own : (ps : List Parameter) (bs : List Binder) (j : ℕ) →
    type_at (inside ps bs) (length bs + j) ≡ get_or (types_of ps) j 0
unfolding inside types_of type_at
type-own [] bs j = type-none bs (length bs + j) (omega arith)
type-own (p ∷ ps) bs zero =
    let b : Binder = a_parameter p.id p.holds in
    let e : length bs + 0 ≡ length bs = omega arith in
    type-outside ps (b ∷ bs) (length bs + 0) (omega arith) ∙ rw (eq-eqb (length bs + 0) (length bs) e) refl
type-own (p ∷ ps) bs (suc j) =
    let b : Binder = a_parameter p.id p.holds in
    let e : length bs + suc j ≡ suc (length bs) + j = omega arith in
    rw e (type-own ps (b ∷ bs) j)

pub longer : (qs : List Parameter) (bs : List Binder) → length bs ≤ length (inside qs bs)
unfolding inside
longer [] bs = omega arith
longer (q ∷ qs) bs = omega (arith, longer qs (a_parameter q.id q.holds ∷ bs))

-- all parameters around a procedure's term, own ones from their first number on
own-types : (ps : List Parameter) (bs : List Binder) (t : ℕ) →
    type_at (inside ps bs) t ≡ beyond (length bs) (type_at bs) (λ j. get_or (types_of ps) j 0) t
unfolding beyond
own-types ps bs t = by-test (ltb t (length bs))
    (λ l. rw l (type-outside ps bs t (ltb-true t (length bs) l)))
    (λ l. let g = ltb-false t (length bs) l in
    let e : length bs + (t - length bs) ≡ t = omega arith in
    rw l (ap (type_at (inside ps bs)) (sym e) ∙ type-own ps bs (t - length bs)))

pub type-sees : {Γ Δ : Context} {ps : List Parameter} {body : Written} → Sees Γ Δ ps body → (s : ℕ) →
    s < length (binders Δ) → (type_at (binders Γ) s ≡ type_at (binders Δ) s) × (s < length (binders Γ))
unfolding binders after type_at
type-sees sees_it s l = (refl, omega arith)
type-sees (from_block x) s l = let y = type-sees x s l in (y.0, omega (arith, y.1))
type-sees (from_procedure {Γ = Γ} {qs = qs} x) s l =
    let y = type-sees x s l in
    (type-outside qs (binders Γ) s y.1 ∙ y.0, omega (arith, y.1, longer qs (binders Γ)))
type-sees (from_scope x) s l = let y = type-sees x s l in (y.0, omega (arith, y.1))

-- a use of the procedure k, whose term comes down to c
through-typed : (τ : ℕ → ℕ) (tys : List ℕ) (g : ℕ → ℕ) (k s ty c : ℕ) →
    ((t : ℕ) → c ≡ suc t → ty ≡ beyond k τ (λ j. get_or tys j 0) t) → ((j : ℕ) → g j ≡ suc s → get_or tys j 0 ≡ τ s) →
    through k c g ≡ suc s → ty ≡ τ s
unfolding through beyond
through-typed τ tys g k s ty zero h f e = absurd (omega arith)
through-typed τ tys g k s ty (suc t) h f e =
    h t refl ∙ by-test (ltb t k)
    (λ l. let same : t ≡ s = one_less (rw l at e) in rw (l, same) refl)
    (λ l. rw l (f (t - k) (rw l at e)))
  where
    one_less : {a b : ℕ} → suc a ≡ suc b → a ≡ b
    one_less q = omega arith

module _ (N : Numbers) (ns : List Name) where
  -- what the terms of the procedures of a context come down to has their type
  unfoldable pub ComesTyped : Context → Type 0
  ComesTyped whole = Unit
  ComesTyped (in_block id d Γ) = ComesTyped Γ
  ComesTyped (in_procedure ps Γ) = ComesTyped Γ
  ComesTyped (in_scope id ty ps body Γ) =
      ((t : ℕ) → come ns (inside ps (binders Γ)) (downs ns Γ) body ≡ suc t → ty ≡ type_at (inside ps (binders Γ)) t)
      × ComesTyped Γ

  unfoldable Right : List Binder → (ℕ → ℕ) → Meaning → Type 0
  Right bs κ (private k d) = Unit
  Right bs κ (argument k ty) = ty ≡ type_at bs k
  Right bs κ (routine k ty tys) =
      (t : ℕ) → κ k ≡ suc t → ty ≡ beyond k (type_at bs) (λ j. get_or tys j 0) t
  Right bs κ (named often ty tys) = Unit
  Right bs κ retired = Unit
  Right bs κ free = Unit

  -- what is right of binders below n stays so
  right-more : (bs cs : List Binder) (κ μ : ℕ → ℕ) (n : ℕ) (m : Meaning) →
      ((s : ℕ) → s < n → type_at cs s ≡ type_at bs s) → ((k : ℕ) → k < n → μ k ≡ κ k) → Below n m → Right bs κ m →
      Right cs μ m
  unfolding Right Below beyond
  right-more bs cs κ μ n (private k d) f g b h = tt
  right-more bs cs κ μ n (argument k ty) f g b h = h ∙ sym (f k b)
  right-more bs cs κ μ n (routine k ty tys) f g b h = λ t e.
      h t (sym (g k b) ∙ e) ∙ by-test (ltb t k)
      (λ l. rw l (sym (f t (omega (arith, ltb-true t k l)))))
      (λ l. rw l refl)
  right-more bs cs κ μ n (named often ty tys) f g b h = tt
  right-more bs cs κ μ n retired f g b h = tt
  right-more bs cs κ μ n free f g b h = tt

  rights-inside : (κ : ℕ → ℕ) (ps : List Parameter) (bs : List Binder) → ((j : ℕ) → Right bs κ (meaning ns bs j)) →
      (id : ℕ) → Right (inside ps bs) κ (meaning ns (inside ps bs) id)
  unfolding inside Right meant type_at
  rights-inside κ [] bs f = f
  rights-inside κ (p ∷ ps) bs f =
      let b : Binder = a_parameter p.id p.holds in
      rights-inside κ ps (b ∷ bs) (one-more-binder (Right (b ∷ bs) κ) ns b bs
      (rw (eq-eqb (length bs) (length bs) refl) refl)
      (λ j l. right-more bs (b ∷ bs) κ κ (length bs) (meaning ns bs j)
      (λ s h. rw (ne_eqb s (length bs) (λ e. omega arith)) refl) (λ k h. refl) l (f j)))

  comes-right : (Γ : Context) → ComesTyped Γ → (id : ℕ) → Right (binders Γ) (downs ns Γ) (meaning ns (binders Γ) id)
  unfolding ComesTyped Right binders downs after meant meaning type_at
  comes-right whole c id = all-declared (Right [] (λ k. 0)) ns id (λ often ty tys. tt) tt tt
  comes-right (in_block i d Γ) c id =
      one-more-binder (Right (a_block i d ∷ binders Γ) (downs ns Γ)) ns (a_block i d) (binders Γ) tt
      (λ j b. right-more (binders Γ) (a_block i d ∷ binders Γ) (downs ns Γ) (downs ns Γ) (length (binders Γ))
      (meaning ns (binders Γ) j) (λ s l. refl) (λ k l. refl) b (comes-right Γ c j)) id
  comes-right (in_procedure ps Γ) c id = rights-inside (downs ns Γ) ps (binders Γ) (λ j. comes-right Γ c j) id
  comes-right (in_scope i ty ps body Γ) c id =
      let bs : List Binder = binders Γ in
      let κ : ℕ → ℕ = downs ns Γ in
      let b : Binder = a_procedure i ty (types_of ps) in
      let μ : ℕ → ℕ = beyond (length bs) κ (λ j. come ns (inside ps bs) κ body) in
      one-more-binder (Right (b ∷ bs) μ) ns b bs
      (λ t e. c.0 t (sym (beyond-at (length bs) κ (λ j. come ns (inside ps bs) κ body)) ∙ e) ∙ own-types ps bs t)
      (λ j l. right-more bs (b ∷ bs) κ μ (length bs) (meaning ns bs j) (λ s h. refl)
      (λ k h. beyond_below (length bs) κ (λ i. come ns (inside ps bs) κ body) k h) l (comes-right Γ c.1 j)) id

  same_type : (id ty : ℕ) (ps : List Parameter) (body : Written) (Γ : Context) (s n : ℕ) →
      n ≡ type_at (binders (in_scope id ty ps body Γ)) s → n ≡ type_at (binders Γ) s
  unfolding binders after type_at
  same_type id ty ps body Γ s n e = e

  -- a use, by what its id means
  of-meaning : (Γ : Context) (ws : Writtens) (s : ℕ) (m : Meaning) → Right (binders Γ) (downs ns Γ) m →
      FineUse m (ws ≡ none) (λ tys. FineArgs N ns (binders Γ) ws tys) →
      ((tys : List ℕ) → FineArgs N ns (binders Γ) ws tys → (j : ℕ) →
      comes ns (binders Γ) (downs ns Γ) ws j ≡ suc s → get_or tys j 0 ≡ type_at (binders Γ) s) →
      by_meaning m 0 (λ k. 0) (λ k. suc k)
      (λ k. through k (downs ns Γ k) (λ j. comes ns (binders Γ) (downs ns Γ) ws j)) (λ often ty tys. 0) ≡ suc s →
      use_type m ≡ type_at (binders Γ) s
  unfolding by_meaning Right FineUse use_type
  of-meaning Γ ws s (private k d) h f g e = absurd (omega arith)
  of-meaning Γ ws s (argument k ty) h f g e = let same : k ≡ s = omega arith in h ∙ ap (type_at (binders Γ)) same
  of-meaning Γ ws s (routine k ty tys) h f g e =
      through-typed (type_at (binders Γ)) tys (λ j. comes ns (binders Γ) (downs ns Γ) ws j) k s ty (downs ns Γ k) h
      (λ j i. g tys f j i) e
  of-meaning Γ ws s (named often ty tys) h f g e = absurd (omega arith)
  of-meaning Γ ws s retired h f g e = absurd (omega arith)
  of-meaning Γ ws s free h f g e = absurd (omega arith)

  -- THEOREM: a part that comes down to a parameter has its type
  mutual
    unfolding come comes Fine FineArgs typed binders downs after ComesTyped

    pub come-typed : (W : Written) (Γ : Context) → Fine N ns (binders Γ) W → ComesTyped Γ → (s : ℕ) →
        come ns (binders Γ) (downs ns Γ) W ≡ suc s → typed ns (binders Γ) W ≡ type_at (binders Γ) s
    come-typed skip Γ f c s e = absurd (omega arith)
    come-typed (diverge ty) Γ f c s e = absurd (omega arith)
    come-typed (truth b) Γ f c s e = absurd (omega arith)
    come-typed (number b) Γ f c s e = absurd (omega arith)
    come-typed (call id ws) Γ f c s e =
        of-meaning Γ ws s (meaning ns (binders Γ) id) (comes-right Γ c id) f.1
        (λ tys g j h. comes-typed ws tys Γ g c s j h) e
    come-typed (fetch v) Γ f c s e = absurd (omega arith)
    come-typed (operate op x y) Γ f c s e = absurd (omega arith)
    come-typed (assign x y) Γ f c s e = absurd (omega arith)
    come-typed (sequence x y) Γ f c s e = absurd (omega arith)
    come-typed (choose b x y) Γ f c s e = absurd (omega arith)
    come-typed (while x y) Γ f c s e = absurd (omega arith)
    come-typed (new id d x) Γ f c s e = absurd (omega arith)
    come-typed (procedure id ty ps body rest) Γ f c s e =
        same_type id ty ps body Γ s (typed ns (after id ty ps (binders Γ)) rest)
        (come-typed rest (in_scope id ty ps body Γ) f.7
        ((λ t h. sym f.6 ∙ come-typed body (in_procedure ps Γ) f.5 c t h), c) s e)

    comes-typed : (ws : Writtens) (tys : List ℕ) (Γ : Context) → FineArgs N ns (binders Γ) ws tys → ComesTyped Γ →
        (s j : ℕ) → comes ns (binders Γ) (downs ns Γ) ws j ≡ suc s → get_or tys j 0 ≡ type_at (binders Γ) s
    comes-typed none tys Γ f c s j e = absurd (omega arith)
    comes-typed (more w ws) [] Γ f c s j e = absurd f
    comes-typed (more w ws) (ty ∷ tys) Γ f c s zero e = sym f.1 ∙ come-typed w Γ f.0 c s e
    comes-typed (more w ws) (ty ∷ tys) Γ f c s (suc j) e = comes-typed ws tys Γ f.2 c s j e
