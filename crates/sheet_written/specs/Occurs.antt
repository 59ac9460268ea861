-- A term inside a term, and the enclosing parameters.
use Rattle.std.specs.Prelude.{ℕ, ◌<◌, ◌≡◌, ◌⊎◌, List, [], ◌∷◌, length}
use Rattle.language.specs.Ty.{Ty}
use Rattle.language.specs.Term.{Term, name, fetch, operate, assign, seq, while}
use Rattle.language.specs.Term.{cond, new, Often, Args, arg, Operation}
use Rattle.sheet_written.specs.Meaning.{Binder, a_block, a_parameter, a_procedure}
use Rattle.sheet_written.specs.Form.{Form}

-- P is the term, or stands in it
mutual
  pub data Part (P : Term) : Term → Type 0 where
    whole : Part P P
    in-name : {i : ℕ} {o : Often} {T : Ty} {args : Args} → PartArgs P args → Part P (name i o T args)
    in-fetch : {X : Term} → Part P X → Part P (fetch X)
    in_left : {m : ℕ} {o : Operation} {L R : Term} → Part P L → Part P (operate m o L R)
    in_right : {m : ℕ} {o : Operation} {L R : Term} → Part P R → Part P (operate m o L R)
    in_target : {m : ℕ} {X E : Term} → Part P X → Part P (assign m X E)
    in_source : {m : ℕ} {X E : Term} → Part P E → Part P (assign m X E)
    in_first : {C M : Term} → Part P C → Part P (seq C M)
    in_second : {C M : Term} → Part P M → Part P (seq C M)
    in_test : {B C : Term} → Part P B → Part P (while B C)
    in_loop : {B C : Term} → Part P C → Part P (while B C)
    in_if : {B M N : Term} → Part P B → Part P (cond B M N)
    in_then : {B M N : Term} → Part P M → Part P (cond B M N)
    in_else : {B M N : Term} → Part P N → Part P (cond B M N)
    in-new : {m : ℕ} {h : 0 < m} {C : Term} → Part P C → Part P (new m h C)

  pub data PartArgs (P : Term) : Args → Type 0 where
    this : {T : Ty} {M : Term} {args : Args} → Part P M → PartArgs P (arg T M args)
    later : {T : Ty} {M : Term} {args : Args} → PartArgs P args → PartArgs P (arg T M args)

-- s is the number of an enclosing parameter
unfoldable pub IsParameter : List Binder → ℕ → Type 0
IsParameter [] s = ⊥
IsParameter (a_block id d ∷ bs) s = IsParameter bs s
IsParameter (a_parameter id ty ∷ bs) s = (s ≡ length bs) ⊎ IsParameter bs s
IsParameter (a_procedure id ty tys ∷ bs) s = IsParameter bs s

-- it holds of the enclosing parameters that a form has a coefficient for
abbrev pub Each : List Binder → Form → (ℕ → Type 0) → Type 0
Each bs f P = (s : ℕ) → IsParameter bs s → 0 < f.of s → P s
