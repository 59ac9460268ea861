-- A part that comes down to a parameter uses no other, and makes no row. Document 02 [1].
use Prim.Native.Nat.{ℕ, zero, suc, ◌+◌, ◌-◌, ◌*◌, ◌≤◌, ◌<◌}
use native.Mathlib.Omega.{arith}
use native.Mathlib.Nat.{zero-mul, mul-zero}
use mathlib.Core.Path.{◌≡◌, refl}
use mathlib.Core.Logic.{◌⊎◌, inl, inr}
use mathlib.Core.List.{List}
use lib.ListN.{length}
use lib.Dec.{eqb, ltb}
use borrow.Author.Tests.{ltb-true, ltb-false, eqb-true, eqb-false, ne_eqb}
use Rattle.language.specs.declared.Numbers.{Numbers}
use Rattle.language.specs.Weight.{use_weight}
use Rattle.sheet_written.specs.Environment.{beyond}
use Rattle.sheet_written.specs.Written.{Written, skip, diverge, truth, number, call, fetch, operate, assign}
use Rattle.sheet_written.specs.Written.{sequence, while, choose, new, procedure, Parameter, Writtens, none, more}
use Rattle.sheet_written.specs.Written.{Name}
use Rattle.sheet_written.specs.Meaning.{Meaning, private, argument, routine, named, retired, free, meaning, inside}
use Rattle.sheet_written.specs.Meaning.{after, by_meaning}
use Rattle.sheet_written.specs.Form.{Form, only, unit, plus, times, lower, sums, instance, form_of, form_args, formed}
use Rattle.sheet_written.specs.Form.{total}
use Rattle.sheet_written.specs.Come.{through, come, comes}
use Rattle.sheet_written.specs.Made.{sign, made, made_args, mades}
use Rattle.sheet_written.specs.Context.{Context, whole, in_block, in_procedure, in_scope, binders, forms, downs}
use Rattle.sheet_written.specs.Context.{makes, Sees, sees_it, from_block, from_procedure, from_scope}
use Rattle.sheet_written.proofs.Tests.{by-test}
use Rattle.sheet_written.proofs.Contexts.{sees-form, sees-count, sees-come, sees-made, Found-right, found}

-- the form has no coefficient but that of s, and nothing is made
abbrev pub Alone : Form → ℕ → ℕ → Type 0
Alone f m s = ((i : ℕ) → (i ≡ s → ⊥) → f.of i ≡ 0) × (m ≡ 0)

product-none : (a b : ℕ) → (a ≡ 0) ⊎ (b ≡ 0) → a * b ≡ 0
product-none a b (inl e) = rw e (zero-mul b)
product-none a b (inr e) = rw e (mul-zero a)

sums_none : (m : ℕ) (c : ℕ → ℕ) (f : ℕ → Form) (i : ℕ) → ((j : ℕ) → (c j ≡ 0) ⊎ ((f j).of i ≡ 0)) → (sums m c f).of i ≡ 0
unfolding sums plus times only
sums_none zero c f i h = refl
sums_none (suc m) c f i h = omega (arith, sums_none m c f i h, product-none (c m) ((f m).of i) (h m))

pub sign-none : (n : ℕ) → n ≡ 0 → sign n ≡ 0
unfolding sign
sign-none zero e = refl
sign-none (suc n) e = absurd (omega arith)

signed-none : (a b : ℕ) → (a ≡ 0) ⊎ (b ≡ 0) → sign a * b ≡ 0
signed-none a b (inl e) = product-none (sign a) b (inl (sign-none a e))
signed-none a b (inr e) = product-none (sign a) b (inr e)

total-signed : (m : ℕ) (c g : ℕ → ℕ) → ((j : ℕ) → (c j ≡ 0) ⊎ (g j ≡ 0)) → total m (λ j. sign (c j) * g j) ≡ 0
unfolding total
total-signed zero c g h = refl
total-signed (suc m) c g h = omega (arith, total-signed m c g h, signed-none (c m) (g m) (h m))

lower-none : (k : ℕ) (f : Form) (i : ℕ) → (i < k → f.of i ≡ 0) → (lower k f).of i ≡ 0
unfolding lower
lower-none k f i h = by-test (ltb i k) (λ t. rw t (h (ltb-true i k t))) (λ t. rw t)

-- a use of the procedure k, whose term comes down to c
through-alone : (k m : ℕ) (f : Form) (fs : ℕ → Form) (g ν : ℕ → ℕ) (μ c s : ℕ) → ((t : ℕ) → c ≡ suc t → Alone f μ t) →
    ((j : ℕ) → g j ≡ suc s → Alone (fs j) (ν j) s) → through k c g ≡ suc s →
    Alone (instance k m f fs) (μ + total m (λ j. sign (f.of (k + j)) * ν j)) s
unfolding through beyond instance plus
through-alone k m f fs g ν μ zero s h a e = absurd (omega arith)
through-alone k m f fs g ν μ (suc t) s h a e =
    let u : Alone f μ t = h t refl in
    by-test (ltb t k)
    (λ x.
    let l : t < k = ltb-true t k x in
    let e' : suc t ≡ suc s = rw x at e in
    let own : (j : ℕ) → f.of (k + j) ≡ 0 = λ j. u.0 (k + j) (λ y. omega arith) in
    let others : (i : ℕ) → (i ≡ s → ⊥) → (lower k f).of i + (sums m (λ j. f.of (k + j)) fs).of i ≡ 0 =
    λ i n. omega (
      arith,
      lower-none k f i (λ b. u.0 i (λ y. n (omega arith))),
      sums_none m (λ j. f.of (k + j)) fs i (λ j. inl (own j)),
    ) in
    (others, omega (arith, u.1, total-signed m (λ j. f.of (k + j)) ν (λ j. inl (own j)))))
    (λ x.
    let l : k ≤ t = ltb-false t k x in
    let v : Alone (fs (t - k)) (ν (t - k)) s = a (t - k) (rw x at e) in
    let which : (j : ℕ) → (f.of (k + j) ≡ 0) ⊎ (j ≡ t - k) = λ j.
    by-test (eqb (k + j) t)
    (λ y. let z : k + j ≡ t = eqb-true (k + j) t y in inr (omega arith))
    (λ y. inl (u.0 (k + j) (eqb-false (k + j) t y))) in
    let others : (i : ℕ) → (i ≡ s → ⊥) → (lower k f).of i + (sums m (λ j. f.of (k + j)) fs).of i ≡ 0 =
    λ i n. omega (
      arith,
      lower-none k f i (λ b. u.0 i (λ y. omega arith)),
      sums_none m (λ j. f.of (k + j)) fs i (λ j. form-at (t - k) fs i j (v.0 i n) (which j)),
    ) in
    (others, omega (arith, u.1, total-signed m (λ j. f.of (k + j)) ν (λ j. made_at (t - k) ν j v.1 (which j)))))
  where
    form-at : (d : ℕ) (fs : ℕ → Form) (i j : ℕ) {c : ℕ} → (fs d).of i ≡ 0 → (c ≡ 0) ⊎ (j ≡ d) →
        (c ≡ 0) ⊎ ((fs j).of i ≡ 0)
    form-at d fs i j z (inl x) = inl x
    form-at d fs i j z (inr x) = inr (rw x z)

    made_at : (d : ℕ) (ν : ℕ → ℕ) (j : ℕ) {c : ℕ} → ν d ≡ 0 → (c ≡ 0) ⊎ (j ≡ d) → (c ≡ 0) ⊎ (ν j ≡ 0)
    made_at d ν j z (inl x) = inl x
    made_at d ν j z (inr x) = inr (rw x z)

module _ (N : Numbers) (ns : List Name) where
  -- it holds of the terms of the procedures that may be used
  unfoldable Lonely : Context → Type 0
  Lonely whole = Unit
  Lonely (in_block id d Γ) = Lonely Γ
  Lonely (in_procedure ps Γ) = Lonely Γ
  Lonely (in_scope id ty ps body Γ) =
      ((s : ℕ) → come ns (inside ps (binders Γ)) (downs ns Γ) body ≡ suc s →
      Alone (form_of N ns (inside ps (binders Γ)) (forms N ns Γ) body)
      (made N ns (inside ps (binders Γ)) (forms N ns Γ) (makes N ns Γ) body) s)
      × Lonely Γ

  lonely-sees : {Γ Δ : Context} {ps : List Parameter} {body : Written} → Sees Γ Δ ps body → Lonely Γ → (s : ℕ) →
      come ns (inside ps (binders Δ)) (downs ns Δ) body ≡ suc s →
      Alone (form_of N ns (inside ps (binders Δ)) (forms N ns Δ) body)
      (made N ns (inside ps (binders Δ)) (forms N ns Δ) (makes N ns Δ) body) s
  unfolding Lonely
  lonely-sees sees_it h = h.0
  lonely-sees (from_block x) h = lonely-sees x h
  lonely-sees (from_procedure x) h = lonely-sees x h
  lonely-sees (from_scope x) h = lonely-sees x h.1

  -- a use, by what its id means
  alone-use : (Γ : Context) (s : ℕ) (ws : Writtens) (m : Meaning) → Found-right Γ m → Lonely Γ →
      ((j : ℕ) → comes ns (binders Γ) (downs ns Γ) ws j ≡ suc s →
      Alone (formed N ns (binders Γ) (forms N ns Γ) ws j) (mades N ns (binders Γ) (forms N ns Γ) (makes N ns Γ) ws j)
      s) →
      by_meaning m 0 (λ k. 0) (λ k. suc k) (λ k. through k (downs ns Γ k) (λ j. comes ns (binders Γ) (downs ns Γ) ws j))
      (λ often ty tys. 0) ≡ suc s →
      Alone
      (by_meaning m (only 1)
      (λ k. only 2)
      (λ k. unit k)
      (λ k. instance k ((forms N ns Γ).count k) ((forms N ns Γ).form k)
      (λ j. formed N ns (binders Γ) (forms N ns Γ) ws j))
      (λ often ty tys. plus (only (use_weight often)) (form_args N ns (binders Γ) (forms N ns Γ) ws tys)))
      (by_meaning m 1
      (λ k. 1)
      (λ k. 0)
      (λ k. makes N ns Γ k + total ((forms N ns Γ).count k)
      (λ j. sign (((forms N ns Γ).form k).of (k + j)) * mades N ns (binders Γ) (forms N ns Γ) (makes N ns Γ) ws j))
      (λ often ty tys. 1 + made_args N ns (binders Γ) (forms N ns Γ) (makes N ns Γ) ws tys)) s
  unfolding by_meaning Found-right unit
  alone-use Γ s ws (private k d) o h a e = absurd (omega arith)
  alone-use Γ s ws (argument k ty) o h a e =
      let others : (i : ℕ) → (i ≡ s → ⊥) → (unit k).of i ≡ 0 = λ i n. rw (ne_eqb i k (λ y. n (omega arith))) in
      (others, refl)
  alone-use Γ s ws (routine k ty tys) o h a e =
      let Δ : Context = o.around in
      let ps : List Parameter = o.parameters in
      let c : ℕ = come ns (inside ps (binders Δ)) (downs ns Δ) o.body in
      let e' : through (length (binders Δ)) c (λ j. comes ns (binders Γ) (downs ns Γ) ws j) ≡ suc s =
      rw (o.number, sees-come ns o.sees) at e in
      rw (o.number, sees-form N ns o.sees, sees-count N ns o.sees, sees-made N ns o.sees)
      (through-alone (length (binders Δ)) (length ps) (form_of N ns (inside ps (binders Δ)) (forms N ns Δ) o.body)
      (λ j. formed N ns (binders Γ) (forms N ns Γ) ws j) (λ j. comes ns (binders Γ) (downs ns Γ) ws j)
      (λ j. mades N ns (binders Γ) (forms N ns Γ) (makes N ns Γ) ws j)
      (made N ns (inside ps (binders Δ)) (forms N ns Δ) (makes N ns Δ) o.body) c s (lonely-sees o.sees h) a
      e')
  alone-use Γ s ws (named often ty tys) o h a e = absurd (omega arith)
  alone-use Γ s ws retired o h a e = absurd (omega arith)
  alone-use Γ s ws free o h a e = absurd (omega arith)

  mutual
    unfolding come comes form_of formed made mades binders forms downs makes after Lonely

    alone-known : (W : Written) (Γ : Context) (s : ℕ) → Lonely Γ → come ns (binders Γ) (downs ns Γ) W ≡ suc s →
        Alone (form_of N ns (binders Γ) (forms N ns Γ) W) (made N ns (binders Γ) (forms N ns Γ) (makes N ns Γ) W) s
    alone-known skip Γ s h e = absurd (omega arith)
    alone-known (diverge ty) Γ s h e = absurd (omega arith)
    alone-known (truth b) Γ s h e = absurd (omega arith)
    alone-known (number b) Γ s h e = absurd (omega arith)
    alone-known (call id ws) Γ s h e =
        alone-use Γ s ws (meaning ns (binders Γ) id) (found ns Γ id) h (λ j i. alones-known ws Γ s j h i) e
    alone-known (fetch v) Γ s h e = absurd (omega arith)
    alone-known (operate op x y) Γ s h e = absurd (omega arith)
    alone-known (assign x y) Γ s h e = absurd (omega arith)
    alone-known (sequence x y) Γ s h e = absurd (omega arith)
    alone-known (choose b x y) Γ s h e = absurd (omega arith)
    alone-known (while x y) Γ s h e = absurd (omega arith)
    alone-known (new id d c) Γ s h e = absurd (omega arith)
    alone-known (procedure id ty ps body rest) Γ s h e =
        alone-known rest (in_scope id ty ps body Γ) s (λ i g. alone-known body (in_procedure ps Γ) i h g, h) e

    alones-known : (ws : Writtens) (Γ : Context) (s j : ℕ) → Lonely Γ → comes ns (binders Γ) (downs ns Γ) ws j ≡ suc s →
        Alone (formed N ns (binders Γ) (forms N ns Γ) ws j) (mades N ns (binders Γ) (forms N ns Γ) (makes N ns Γ) ws j)
        s
    alones-known none Γ s j h e = absurd (omega arith)
    alones-known (more w ws) Γ s zero h e = alone-known w Γ s h e
    alones-known (more w ws) Γ s (suc j) h e = alones-known ws Γ s j h e

  lonely : (Γ : Context) → Lonely Γ
  unfolding Lonely binders forms downs makes
  lonely whole = tt
  lonely (in_block id d Γ) = lonely Γ
  lonely (in_procedure ps Γ) = lonely Γ
  lonely (in_scope id ty ps body Γ) = (λ s e. alone-known body (in_procedure ps Γ) s (lonely Γ) e, lonely Γ)

  -- THEOREM: a part that comes down to a parameter makes no row
  pub come-alone : (W : Written) (Γ : Context) (s : ℕ) → come ns (binders Γ) (downs ns Γ) W ≡ suc s →
      Alone (form_of N ns (binders Γ) (forms N ns Γ) W) (made N ns (binders Γ) (forms N ns Γ) (makes N ns Γ) W) s
  come-alone W Γ s e = alone-known W Γ s (lonely Γ) e
