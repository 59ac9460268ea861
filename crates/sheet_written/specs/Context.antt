-- Where a term as written stands: the news and procedures around it, with the terms of the procedures that it may use.
-- Document 02 [1]; forms (specs/Form), what parts come down to (specs/Come) and rows made (specs/Made) are those of the
-- terms of these procedures.
use Rattle.std.specs.Prelude.{ℕ, ◌+◌, List, [], ◌∷◌, length}
use Rattle.language.specs.declared.Numbers.{Numbers}
use Rattle.sheet_written.specs.Environment.{beyond}
use Rattle.sheet_written.specs.Written.{Written, Parameter, Name}
use Rattle.sheet_written.specs.Meaning.{Binder, a_block, inside, after}
use Rattle.sheet_written.specs.Form.{Forms, no_forms, with_form, form_of}
use Rattle.sheet_written.specs.Come.{come}
use Rattle.sheet_written.specs.Made.{made}

pub data Context : Type 0 where
  whole : Context
  -- the block of a new: its id and its data
  in_block : ℕ → ℕ → Context → Context
  -- the term of a procedure with the given parameters
  in_procedure : List Parameter → Context → Context
  -- the term in which a procedure may be used: its id, its result type, its parameters and its term
  in_scope : ℕ → ℕ → List Parameter → Written → Context → Context

unfoldable pub binders : Context → List Binder
binders whole = []
binders (in_block id d Γ) = a_block id d ∷ binders Γ
binders (in_procedure ps Γ) = inside ps (binders Γ)
binders (in_scope id ty ps body Γ) = after id ty ps (binders Γ)

unfoldable pub forms : Numbers → List Name → Context → Forms
forms N ns whole = no_forms
forms N ns (in_block id d Γ) = forms N ns Γ
forms N ns (in_procedure ps Γ) = forms N ns Γ
forms N ns (in_scope id ty ps body Γ) =
    with_form (length (binders Γ)) (form_of N ns (inside ps (binders Γ)) (forms N ns Γ) body) (length ps) (forms N ns Γ)

unfoldable pub downs : List Name → Context → ℕ → ℕ
downs ns whole = λ k. 0
downs ns (in_block id d Γ) = downs ns Γ
downs ns (in_procedure ps Γ) = downs ns Γ
downs ns (in_scope id ty ps body Γ) =
    beyond (length (binders Γ)) (downs ns Γ) (λ j. come ns (inside ps (binders Γ)) (downs ns Γ) body)

unfoldable pub makes : Numbers → List Name → Context → ℕ → ℕ
makes N ns whole = λ k. 0
makes N ns (in_block id d Γ) = makes N ns Γ
makes N ns (in_procedure ps Γ) = makes N ns Γ
makes N ns (in_scope id ty ps body Γ) =
    beyond (length (binders Γ)) (makes N ns Γ)
    (λ j. made N ns (inside ps (binders Γ)) (forms N ns Γ) (makes N ns Γ) body)

-- the coefficients of a procedure's own parameters: which arguments it uses
unfoldable pub uses : Numbers → List Name → Context → List Parameter → Written → ℕ → ℕ
uses N ns Δ ps body j = (form_of N ns (inside ps (binders Δ)) (forms N ns Δ) body).of (length (binders Δ) + j)

-- in Γ the procedure may be used that stands in Δ and has the given parameters and the given term
pub data Sees : Context → Context → List Parameter → Written → Type 0 where
  sees_it : {Δ : Context} {id ty : ℕ} {ps : List Parameter} {body : Written} → Sees (in_scope id ty ps body Δ) Δ ps body
  from_block : {Γ Δ : Context} {ps : List Parameter} {body : Written} {id d : ℕ} → Sees Γ Δ ps body →
      Sees (in_block id d Γ) Δ ps body
  from_procedure : {Γ Δ : Context} {ps : List Parameter} {body : Written} {qs : List Parameter} → Sees Γ Δ ps body →
      Sees (in_procedure qs Γ) Δ ps body
  from_scope : {Γ Δ : Context} {ps : List Parameter} {body : Written} {id ty : ℕ} {qs : List Parameter}
      {other : Written} → Sees Γ Δ ps body → Sees (in_scope id ty qs other Γ) Δ ps body
