-- What the environments of a context say of the procedures that may be used in it, document 02 [1].
use Prim.Native.Nat.{ℕ, ◌<◌}
use native.Mathlib.Omega.{arith}
use mathlib.Core.Path.{◌≡◌, refl, ◌∙◌}
use mathlib.Core.Logic.{inr}
use mathlib.Core.List.{List, [], ◌∷◌}
use lib.ListN.{length}
use Rattle.language.specs.declared.Numbers.{Numbers}
use Rattle.sheet_written.specs.Written.{Written, Parameter, Name}
use Rattle.sheet_written.specs.Meaning.{Binder, a_block, a_parameter, a_procedure, Meaning, private, argument}
use Rattle.sheet_written.specs.Meaning.{routine, named, retired, free, declared, meant, meaning, inside, after}
use Rattle.sheet_written.specs.Meaning.{types_of}
use Rattle.sheet_written.specs.Form.{with_form, form_of}
use Rattle.sheet_written.specs.Come.{come}
use Rattle.sheet_written.specs.Made.{made}
use Rattle.sheet_written.specs.Occurs.{IsParameter}
use Rattle.sheet_written.specs.Context.{Context, whole, in_block, in_procedure, in_scope, binders, forms, downs}
use Rattle.sheet_written.specs.Context.{makes, Sees, sees_it, from_block, from_procedure, from_scope}
use Rattle.sheet_written.proofs.Numbering.{all-declared, beyond_below, beyond-at, one-more-binder}
use Rattle.sheet_written.proofs.Renaming.{length-inside}

pub sees_below : {Γ Δ : Context} {ps : List Parameter} {body : Written} → Sees Γ Δ ps body →
    length (binders Δ) < length (binders Γ)
unfolding binders after
sees_below sees_it = omega arith
sees_below (from_block s) = omega (arith, sees_below s)
sees_below (from_procedure {Γ = Γ} {qs = qs} s) = omega (arith, sees_below s, length-inside qs (binders Γ))
sees_below (from_scope s) = omega (arith, sees_below s)

module _ (N : Numbers) (ns : List Name) where
  pub sees-form : {Γ Δ : Context} {ps : List Parameter} {body : Written} → Sees Γ Δ ps body →
      (forms N ns Γ).form (length (binders Δ)) ≡ form_of N ns (inside ps (binders Δ)) (forms N ns Δ) body
  unfolding forms with_form
  sees-form {Δ = Δ} {ps = ps} {body = body} sees_it =
      beyond-at (length (binders Δ)) (forms N ns Δ).form (λ j. form_of N ns (inside ps (binders Δ)) (forms N ns Δ) body)
  sees-form (from_block s) = sees-form s
  sees-form (from_procedure s) = sees-form s
  sees-form {Δ = Δ} (from_scope {Γ = Γ} {qs = qs} {other = other} s) =
      beyond_below (length (binders Γ)) (forms N ns Γ).form
      (λ j. form_of N ns (inside qs (binders Γ)) (forms N ns Γ) other)
      (length (binders Δ)) (sees_below s)
      ∙ sees-form s

  pub sees-count : {Γ Δ : Context} {ps : List Parameter} {body : Written} → Sees Γ Δ ps body →
      (forms N ns Γ).count (length (binders Δ)) ≡ length ps
  unfolding forms with_form
  sees-count {Δ = Δ} {ps = ps} sees_it = beyond-at (length (binders Δ)) (forms N ns Δ).count (λ j. length ps)
  sees-count (from_block s) = sees-count s
  sees-count (from_procedure s) = sees-count s
  sees-count {Δ = Δ} (from_scope {Γ = Γ} {qs = qs} s) =
      beyond_below (length (binders Γ)) (forms N ns Γ).count (λ j. length qs) (length (binders Δ)) (sees_below s)
      ∙ sees-count s

  pub sees-made : {Γ Δ : Context} {ps : List Parameter} {body : Written} → Sees Γ Δ ps body →
      makes N ns Γ (length (binders Δ)) ≡ made N ns (inside ps (binders Δ)) (forms N ns Δ) (makes N ns Δ) body
  unfolding makes
  sees-made {Δ = Δ} {ps = ps} {body = body} sees_it =
      beyond-at (length (binders Δ)) (makes N ns Δ)
      (λ j. made N ns (inside ps (binders Δ)) (forms N ns Δ) (makes N ns Δ) body)
  sees-made (from_block s) = sees-made s
  sees-made (from_procedure s) = sees-made s
  sees-made {Δ = Δ} (from_scope {Γ = Γ} {qs = qs} {other = other} s) =
      beyond_below (length (binders Γ)) (makes N ns Γ)
      (λ j. made N ns (inside qs (binders Γ)) (forms N ns Γ) (makes N ns Γ) other) (length (binders Δ)) (sees_below s)
      ∙ sees-made s

pub sees-come : (ns : List Name) {Γ Δ : Context} {ps : List Parameter} {body : Written} → Sees Γ Δ ps body →
    downs ns Γ (length (binders Δ)) ≡ come ns (inside ps (binders Δ)) (downs ns Δ) body
unfolding downs
sees-come ns {Δ = Δ} {ps = ps} {body = body} sees_it =
    beyond-at (length (binders Δ)) (downs ns Δ) (λ j. come ns (inside ps (binders Δ)) (downs ns Δ) body)
sees-come ns (from_block s) = sees-come ns s
sees-come ns (from_procedure s) = sees-come ns s
sees-come ns {Δ = Δ} (from_scope {Γ = Γ} {qs = qs} {other = other} s) =
    beyond_below (length (binders Γ)) (downs ns Γ) (λ j. come ns (inside qs (binders Γ)) (downs ns Γ) other)
    (length (binders Δ)) (sees_below s)
    ∙ sees-come ns s

-- the parameters around are those inside too
parameter-inside : (ps : List Parameter) (bs : List Binder) (s : ℕ) → IsParameter bs s →
    IsParameter (inside ps bs) s
unfolding inside IsParameter
parameter-inside [] bs s h = h
parameter-inside (p ∷ ps) bs s h = parameter-inside ps (a_parameter p.id p.holds ∷ bs) s (inr h)

pub sees-parameter : {Γ Δ : Context} {ps : List Parameter} {body : Written} (s : ℕ) → Sees Γ Δ ps body →
    IsParameter (binders Δ) s → IsParameter (binders Γ) s
unfolding binders after IsParameter
sees-parameter s sees_it h = h
sees-parameter s (from_block x) h = sees-parameter s x h
sees-parameter s (from_procedure {Γ = Γ} {qs = qs} x) h = parameter-inside qs (binders Γ) s (sees-parameter s x h)
sees-parameter s (from_scope x) h = sees-parameter s x h

-- what holds of every parameter, and of all that is meant outside, holds of all that is meant inside
pub all-inside : (P : Meaning → Type 0) (ns : List Name) (ps : List Parameter) (bs : List Binder) →
    ((k ty : ℕ) → P (argument k ty)) → ((id : ℕ) → P (meaning ns bs id)) → (id : ℕ) → P (meaning ns (inside ps bs) id)
unfolding inside meant
all-inside P ns [] bs h f = f
all-inside P ns (p ∷ ps) bs h f =
    let b : Binder = a_parameter p.id p.holds in
    all-inside P ns ps (b ∷ bs) h (one-more-binder P ns b bs (h (length bs) p.holds) (λ id l. f id))

-- what is meant is a procedure that may be used
pub record Found (Γ : Context) (k : ℕ) (tys : List ℕ) : Type 0 where
  pub around : Context
  pub parameters : List Parameter
  pub body : Written
  pub sees : Sees Γ around parameters body
  pub number : k ≡ length (binders around)
  pub types : tys ≡ types_of parameters

unfoldable pub Found-right : Context → Meaning → Type 0
Found-right Γ (private k d) = Unit
Found-right Γ (argument k ty) = Unit
Found-right Γ (routine k ty tys) = Found Γ k tys
Found-right Γ (named often ty tys) = Unit
Found-right Γ retired = Unit
Found-right Γ free = Unit

found_declared : (Γ : Context) (ns : List Name) (id : ℕ) → Found-right Γ (declared ns id)
unfolding Found-right
found_declared Γ ns id = all-declared (Found-right Γ) ns id (λ often ty tys. tt) tt tt

found-more : (Γ Γ' : Context) (m : Meaning) →
    ((Δ : Context) (ps : List Parameter) (body : Written) → Sees Γ Δ ps body → Sees Γ' Δ ps body) →
    Found-right Γ m → Found-right Γ' m
unfolding Found-right
found-more Γ Γ' (private k d) f h = tt
found-more Γ Γ' (argument k ty) f h = tt
found-more Γ Γ' (routine k ty tys) f h = record {
  around = h.around;
  parameters = h.parameters;
  body = h.body;
  sees = f h.around h.parameters h.body h.sees;
  number = h.number;
  types = h.types;
}
found-more Γ Γ' (named often ty tys) f h = tt
found-more Γ Γ' retired f h = tt
found-more Γ Γ' free f h = tt

pub found : (ns : List Name) (Γ : Context) (id : ℕ) → Found-right Γ (meaning ns (binders Γ) id)
unfolding binders after meaning meant Found-right
found ns whole id = found_declared whole ns id
found ns (in_block i d Γ) id =
    one-more-binder (Found-right (in_block i d Γ)) ns (a_block i d) (binders Γ) tt
    (λ j b. found-more Γ (in_block i d Γ) (meaning ns (binders Γ) j) (λ Δ qs b x. from_block x) (found ns Γ j)) id
found ns (in_procedure ps Γ) id =
    all-inside (Found-right (in_procedure ps Γ)) ns ps (binders Γ) (λ k ty. tt)
    (λ j. found-more Γ (in_procedure ps Γ) (meaning ns (binders Γ) j) (λ Δ qs b x. from_procedure x)
    (found ns Γ j)) id
found ns (in_scope i ty ps body Γ) id =
    one-more-binder (Found-right (in_scope i ty ps body Γ)) ns (a_procedure i ty (types_of ps)) (binders Γ)
    (record { around = Γ; parameters = ps; body = body; sees = sees_it; number = refl; types = refl })
    (λ j b. found-more Γ (in_scope i ty ps body Γ) (meaning ns (binders Γ) j) (λ Δ qs b x. from_scope x)
    (found ns Γ j)) id
