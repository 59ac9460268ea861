-- A part that comes down to a parameter uses it: the parameter encloses the part, and has a coefficient above 0.
-- Document 02 [1].
use Prim.Native.Nat.{ℕ, zero, suc, ◌+◌, ◌-◌, ◌≤◌, ◌<◌}
use native.Mathlib.Omega.{arith}
use mathlib.Core.Path.{◌≡◌, refl, sym}
use mathlib.Core.Logic.{◌⊎◌, inl, inr}
use mathlib.Core.List.{List, [], ◌∷◌}
use lib.ListN.{length}
use lib.Dec.{ltb}
use borrow.Author.Tests.{ltb-true, ltb-false, lt-ltb, eq-eqb}
use Rattle.language.specs.declared.Numbers.{Numbers}
use Rattle.language.specs.Weight.{use_weight}
use Rattle.sheet_written.specs.Environment.{beyond}
use Rattle.sheet_written.specs.Written.{Written, skip, diverge, truth, number, call, fetch, operate, assign}
use Rattle.sheet_written.specs.Written.{sequence, while, choose, new, procedure, Parameter, Writtens, none, more}
use Rattle.sheet_written.specs.Written.{Name}
use Rattle.sheet_written.specs.Meaning.{Binder, a_block, a_parameter, a_procedure, Meaning, private, argument}
use Rattle.sheet_written.specs.Meaning.{routine, named, retired, free, declared, meant, meaning, inside, after}
use Rattle.sheet_written.specs.Meaning.{by_meaning}
use Rattle.sheet_written.specs.Form.{Form, only, unit, plus, lower, instance, form_of, form_args, formed}
use Rattle.sheet_written.specs.Come.{through, come, comes}
use Rattle.sheet_written.specs.Occurs.{IsParameter}
use Rattle.sheet_written.specs.Context.{Context, whole, in_block, in_procedure, in_scope, binders, forms, downs}
use Rattle.sheet_written.specs.Context.{Sees, sees_it, from_block, from_procedure, from_scope}
use Rattle.sheet_written.proofs.Tests.{by-test}
use Rattle.sheet_written.proofs.Numbering.{all-declared, one-more-binder}
use Rattle.sheet_written.proofs.Factors.{summand}
use Rattle.sheet_written.proofs.Alike.{parameter-more, inside-parameter, parameter-below}
use Rattle.sheet_written.proofs.Contexts.{sees-form, sees-count, sees-come, sees-parameter, Found, Found-right}
use Rattle.sheet_written.proofs.Contexts.{found}

-- a use that means a parameter means an enclosing one
unfoldable pub Argument-right : List Binder → Meaning → Type 0
Argument-right bs (private k d) = Unit
Argument-right bs (argument k ty) = IsParameter bs k
Argument-right bs (routine k ty tys) = Unit
Argument-right bs (named often ty tys) = Unit
Argument-right bs retired = Unit
Argument-right bs free = Unit

argument-declared : (bs : List Binder) (ns : List Name) (id : ℕ) → Argument-right bs (declared ns id)
unfolding Argument-right
argument-declared bs ns id = all-declared (Argument-right bs) ns id (λ often ty tys. tt) tt tt

argument-meant : (c : Binder) (bs : List Binder) → Argument-right (c ∷ bs) (meant (length bs) c)
unfolding Argument-right meant IsParameter
argument-meant (a_block id d) bs = tt
argument-meant (a_parameter id ty) bs = inl refl
argument-meant (a_procedure id ty tys) bs = tt

argument-more : (c : Binder) (bs : List Binder) (m : Meaning) → Argument-right bs m → Argument-right (c ∷ bs) m
unfolding Argument-right
argument-more c bs (private k d) h = tt
argument-more c bs (argument k ty) h = parameter-more c bs k h
argument-more c bs (routine k ty tys) h = tt
argument-more c bs (named often ty tys) h = tt
argument-more c bs retired h = tt
argument-more c bs free h = tt

pub is-parameter : (ns : List Name) (bs : List Binder) (id : ℕ) → Argument-right bs (meaning ns bs id)
unfolding meaning
is-parameter ns [] id = argument-declared [] ns id
is-parameter ns (c ∷ bs) id =
    one-more-binder (Argument-right (c ∷ bs)) ns c bs (argument-meant c bs)
    (λ j b. argument-more c bs (meaning ns bs j) (is-parameter ns bs j)) id

abbrev pub Uses : List Binder → Form → ℕ → Type 0
Uses bs f s = IsParameter bs s × (0 < f.of s)

module _ (N : Numbers) (ns : List Name) where
  -- it holds of the terms of the procedures that may be used
  unfoldable pub Known : Context → Type 0
  Known whole = Unit
  Known (in_block id d Γ) = Known Γ
  Known (in_procedure ps Γ) = Known Γ
  Known (in_scope id ty ps body Γ) =
      ((s : ℕ) → come ns (inside ps (binders Γ)) (downs ns Γ) body ≡ suc s →
      Uses (inside ps (binders Γ)) (form_of N ns (inside ps (binders Γ)) (forms N ns Γ) body) s)
      × Known Γ

  known-sees : {Γ Δ : Context} {ps : List Parameter} {body : Written} → Sees Γ Δ ps body → Known Γ → (s : ℕ) →
      come ns (inside ps (binders Δ)) (downs ns Δ) body ≡ suc s →
      Uses (inside ps (binders Δ)) (form_of N ns (inside ps (binders Δ)) (forms N ns Δ) body) s
  unfolding Known
  known-sees sees_it h = h.0
  known-sees (from_block x) h = known-sees x h
  known-sees (from_procedure x) h = known-sees x h
  known-sees (from_scope x) h = known-sees x h.1

  -- a procedure's own parameter, or one around it
  own-or-outer : (ps : List Parameter) (bs : List Binder) (t : ℕ) → IsParameter (inside ps bs) t → t < length bs →
      IsParameter bs t
  own-or-outer ps bs t z l = go (inside-parameter ps bs t z)
    where
      go : IsParameter bs t ⊎ ((j : ℕ) × (j < length ps) × (t ≡ length bs + j)) → IsParameter bs t
      go (inl x) = x
      go (inr (j, b, e)) = absurd (omega arith)

  own_below : (ps : List Parameter) (bs : List Binder) (t : ℕ) → IsParameter (inside ps bs) t → length bs ≤ t →
      t - length bs < length ps
  own_below ps bs t z l = go (inside-parameter ps bs t z)
    where
      go : IsParameter bs t ⊎ ((j : ℕ) × (j < length ps) × (t ≡ length bs + j)) → t - length bs < length ps
      go (inl x) = absurd (omega (arith, parameter-below bs t x))
      go (inr (j, b, e)) = omega arith

  -- the procedure's term comes down to t
  through-uses : (Γ Δ : Context) (ps : List Parameter) (f : Form) (xs : ℕ → Form) (g : ℕ → ℕ) (c s : ℕ) →
      ((t : ℕ) → IsParameter (binders Δ) t → IsParameter (binders Γ) t) →
      ((t : ℕ) → c ≡ suc t → Uses (inside ps (binders Δ)) f t) →
      ((j : ℕ) → g j ≡ suc s → Uses (binders Γ) (xs j) s) →
      through (length (binders Δ)) c g ≡ suc s →
      Uses (binders Γ) (instance (length (binders Δ)) (length ps) f xs) s
  unfolding through beyond instance lower plus
  through-uses Γ Δ ps f xs g zero s z h a e = absurd (omega arith)
  through-uses Γ Δ ps f xs g (suc t) s z h a e =
      let k : ℕ = length (binders Δ) in
      let u : Uses (inside ps (binders Δ)) f t = h t refl in
      by-test (ltb t k)
      (λ i.
      let l : t < k = ltb-true t k i in
      let same : s ≡ t = sym (suc-injective (rw i at e)) in
      rw same (z t (own-or-outer ps (binders Δ) t u.0 l), rw (lt-ltb t k l) (omega (arith, u.1))))
      (λ i.
      let l : k ≤ t = ltb-false t k i in
      let sum : k + (t - k) ≡ t = omega arith in
      let v : Uses (binders Γ) (xs (t - k)) s = a (t - k) (rw i at e) in
      let b : 0 < f.of (k + (t - k)) = rw sum u.1 in (
        v.0,
        omega (
          arith,
          summand (length ps) (λ j. f.of (k + j)) xs s (t - k)
              (own_below ps (binders Δ) t u.0 l) b v.1,
        ),
      ))
    where
      suc-injective : {a b : ℕ} → suc a ≡ suc b → a ≡ b
      suc-injective q = omega arith

  routine-uses : (Γ : Context) (s k : ℕ) (tys : List ℕ) (ws : Writtens) → Found Γ k tys → Known Γ →
      ((j : ℕ) → comes ns (binders Γ) (downs ns Γ) ws j ≡ suc s →
      Uses (binders Γ) (formed N ns (binders Γ) (forms N ns Γ) ws j) s) →
      through k (downs ns Γ k) (λ j. comes ns (binders Γ) (downs ns Γ) ws j) ≡ suc s →
      Uses (binders Γ) (instance k ((forms N ns Γ).count k) ((forms N ns Γ).form k)
      (λ j. formed N ns (binders Γ) (forms N ns Γ) ws j)) s
  routine-uses Γ s k tys ws o h a e =
      let Δ : Context = o.around in
      let ps : List Parameter = o.parameters in
      let k' : ℕ = length (binders Δ) in
      let f : Form = form_of N ns (inside ps (binders Δ)) (forms N ns Δ) o.body in
      let c : ℕ = come ns (inside ps (binders Δ)) (downs ns Δ) o.body in
      let e' : through k' c (λ j. comes ns (binders Γ) (downs ns Γ) ws j) ≡ suc s =
      rw (o.number, sees-come ns o.sees) at e in
      rw (o.number, sees-form N ns o.sees, sees-count N ns o.sees)
      (through-uses Γ Δ ps f (λ j. formed N ns (binders Γ) (forms N ns Γ) ws j)
      (λ j. comes ns (binders Γ) (downs ns Γ) ws j) c s (λ t. sees-parameter t o.sees)
      (known-sees o.sees h) a e')

  come-use : (Γ : Context) (s id : ℕ) (ws : Writtens) (m : Meaning) → Found-right Γ m → Argument-right (binders Γ) m →
      Known Γ → ((j : ℕ) → comes ns (binders Γ) (downs ns Γ) ws j ≡ suc s →
      Uses (binders Γ) (formed N ns (binders Γ) (forms N ns Γ) ws j) s) →
      by_meaning m 0 (λ k. 0) (λ k. suc k) (λ k. through k (downs ns Γ k) (λ j. comes ns (binders Γ) (downs ns Γ) ws j))
      (λ often ty tys. 0) ≡ suc s →
      Uses (binders Γ) (by_meaning m (only 1)
      (λ k. only 2)
      (λ k. unit k)
      (λ k. instance k ((forms N ns Γ).count k) ((forms N ns Γ).form k)
      (λ j. formed N ns (binders Γ) (forms N ns Γ) ws j))
      (λ often ty tys. plus (only (use_weight often)) (form_args N ns (binders Γ) (forms N ns Γ) ws tys))) s
  unfolding by_meaning Found-right Argument-right unit
  come-use Γ s id ws (private k d) o z h a e = absurd (omega arith)
  come-use Γ s id ws (argument k ty) o z h a e =
      let same : s ≡ k = omega arith in rw same (z, rw (eq-eqb k k refl) (omega arith))
  come-use Γ s id ws (routine k ty tys) o z h a e = routine-uses Γ s k tys ws o h a e
  come-use Γ s id ws (named often ty tys) o z h a e = absurd (omega arith)
  come-use Γ s id ws retired o z h a e = absurd (omega arith)
  come-use Γ s id ws free o z h a e = absurd (omega arith)

  mutual
    unfolding come comes form_of formed binders forms downs after IsParameter Known

    come-known : (W : Written) (Γ : Context) (s : ℕ) → Known Γ → come ns (binders Γ) (downs ns Γ) W ≡ suc s →
        Uses (binders Γ) (form_of N ns (binders Γ) (forms N ns Γ) W) s
    come-known skip Γ s h e = absurd (omega arith)
    come-known (diverge ty) Γ s h e = absurd (omega arith)
    come-known (truth b) Γ s h e = absurd (omega arith)
    come-known (number b) Γ s h e = absurd (omega arith)
    come-known (call id ws) Γ s h e =
        come-use Γ s id ws (meaning ns (binders Γ) id) (found ns Γ id) (is-parameter ns (binders Γ) id) h
        (λ j i. comes-known ws Γ s j h i) e
    come-known (fetch v) Γ s h e = absurd (omega arith)
    come-known (operate op x y) Γ s h e = absurd (omega arith)
    come-known (assign x y) Γ s h e = absurd (omega arith)
    come-known (sequence x y) Γ s h e = absurd (omega arith)
    come-known (choose b x y) Γ s h e = absurd (omega arith)
    come-known (while x y) Γ s h e = absurd (omega arith)
    come-known (new id d c) Γ s h e = absurd (omega arith)
    come-known (procedure id ty ps body rest) Γ s h e =
        come-known rest (in_scope id ty ps body Γ) s (λ i g. come-known body (in_procedure ps Γ) i h g, h) e

    comes-known : (ws : Writtens) (Γ : Context) (s j : ℕ) → Known Γ → comes ns (binders Γ) (downs ns Γ) ws j ≡ suc s →
        Uses (binders Γ) (formed N ns (binders Γ) (forms N ns Γ) ws j) s
    comes-known none Γ s j h e = absurd (omega arith)
    comes-known (more w ws) Γ s zero h e = come-known w Γ s h e
    comes-known (more w ws) Γ s (suc j) h e = comes-known ws Γ s j h e

  known : (Γ : Context) → Known Γ
  unfolding Known binders forms downs
  known whole = tt
  known (in_block id d Γ) = known Γ
  known (in_procedure ps Γ) = known Γ
  known (in_scope id ty ps body Γ) = (λ s e. come-known body (in_procedure ps Γ) s (known Γ) e, known Γ)

  -- THEOREM: a part that comes down to a parameter uses it
  pub come-used : (W : Written) (Γ : Context) (s : ℕ) → come ns (binders Γ) (downs ns Γ) W ≡ suc s →
      Uses (binders Γ) (form_of N ns (binders Γ) (forms N ns Γ) W) s
  come-used W Γ s e = come-known W Γ s (known Γ) e
