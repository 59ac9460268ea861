-- What may be used stays so while later parts are read, and inside news and procedures; a procedure more.
use Prim.Native.Nat.{ℕ, ◌%◌, ◌≤◌, ◌<◌}
use native.Mathlib.Omega.{arith}
use mathlib.Core.Path.{◌≡◌, ap, ◌∙◌}
use mathlib.Core.List.{List}
use lib.ListN.{length}
use Rattle.language.specs.declared.Numbers.{Numbers}
use Rattle.sheet_rows.specs.Row.{word}
use Rattle.sheet_written.specs.Environment.{beyond}
use Rattle.sheet_written.specs.Written.{Written, Parameter, Name}
use Rattle.sheet_rows.specs.PartKind.{PARTS}
use Rattle.sheet_written.specs.Context.{Context, whole, in_block, in_procedure, in_scope, binders}
use Rattle.sheet_written.specs.Context.{Sees, sees_it, from_block, from_procedure, from_scope}
use Rattle.sheet_written.proofs.Numbering.{beyond_below, beyond-at}
use Rattle.sheet_written.proofs.Contexts.{sees_below}
use Rattle.weight_theory.specs.Stack.{slot_of}
use Rattle.weight_theory.specs.Plan.{come_at}
use Rattle.weight_theory.specs.Weighed.{ReadyOne, Ready}
use Rattle.weight_theory.proofs.FormLaws.{shows_kept}
use Rattle.sheet_table.proofs.weights.Keeping.{Kept}

-- the records of the procedures that Γ sees stand before a place
abbrev pub Behind : Context → (ℕ → ℕ) → ℕ → Type 0
Behind Γ π at = (Δ : Context) (ps : List Parameter) (body : Written) → Sees Γ Δ ps body → π (length (binders Δ)) < at

pub behind-later : (Γ : Context) (π : ℕ → ℕ) (at at' : ℕ) → at ≤ at' → Behind Γ π at → Behind Γ π at'
behind-later Γ π at at' h B Δ ps body x = omega (arith, B Δ ps body x)

pub behind-block : (id d : ℕ) (Γ : Context) (π : ℕ → ℕ) (at : ℕ) → Behind Γ π at → Behind (in_block id d Γ) π at
behind-block id d Γ π at B Δ ps body (from_block x) = B Δ ps body x

pub behind-inside : (qs : List Parameter) (Γ : Context) (π : ℕ → ℕ) (at : ℕ) → Behind Γ π at →
    Behind (in_procedure qs Γ) π at
behind-inside qs Γ π at B Δ ps body (from_procedure x) = B Δ ps body x

pub behind-scope : (id ty : ℕ) (qs : List Parameter) (term : Written) (Γ : Context) (π : ℕ → ℕ) (p at : ℕ) → p < at →
    Behind Γ π at → Behind (in_scope id ty qs term Γ) (beyond (length (binders Γ)) π (λ j. p)) at
behind-scope id ty qs term Γ π p at h B Δ ps body sees_it = rw (beyond-at (length (binders Γ)) π (λ j. p)) h
behind-scope id ty qs term Γ π p at h B Δ ps body (from_scope x) =
    rw (beyond_below (length (binders Γ)) π (λ j. p) (length (binders Δ)) (sees_below x)) (B Δ ps body x)

module _ (N : Numbers) (ns : List Name) where
  one_kept : (t u : List ℕ) (p at at' h h' : ℕ) (Δ : Context) (ps : List Parameter) (body : Written) → p < at →
      at ≤ at' → h ≤ h' → Kept t u 0 at h → ReadyOne N ns t p at h Δ ps body → ReadyOne N ns u p at' h' Δ ps body
  unfolding come_at
  one_kept t u p at at' h h' Δ ps body b l g K R =
      let e : word u p PARTS ≡ word t p PARTS = K.rows p PARTS (omega arith) b (omega arith) in
      let m : slot_of u (word t p PARTS) ≡ slot_of t (word t p PARTS) =
      K.slots (word t p PARTS) (omega arith) R.before in
      record {
        placed = R.placed;
        before = rw e (omega (arith, R.before));
        few = R.few;
        four = R.four;
        comes = rw e (ap (λ x. x % 128) (K.marks (word t p PARTS) (omega arith) R.before) ∙ R.comes);
        below = rw (e, m) (omega (arith, R.below));
        formed = rw (e, m)
            (shows_kept t u (slot_of t (word t p PARTS)) _
            (λ i c. K.forms (slot_of t (word t p PARTS)) i R.below c) R.formed);
      }

  pub ready-kept : (t u : List ℕ) (Γ : Context) (π : ℕ → ℕ) (at at' h h' : ℕ) → Behind Γ π at → at ≤ at' → h ≤ h' →
      Kept t u 0 at h → Ready N ns t Γ π at h → Ready N ns u Γ π at' h'
  ready-kept t u Γ π at at' h h' B l g K R = record {
    each = λ Δ ps body x.
        one_kept t u (π (length (binders Δ))) at at' h h' Δ ps body (B Δ ps body x) l g K (R.each Δ ps body x);
  }

  block-each : (t : List ℕ) (id d : ℕ) (Γ : Context) (π : ℕ → ℕ) (at h : ℕ) → Ready N ns t Γ π at h →
      (Δ : Context) (ps : List Parameter) (body : Written) → Sees (in_block id d Γ) Δ ps body →
      ReadyOne N ns t (π (length (binders Δ))) at h Δ ps body
  block-each t id d Γ π at h R Δ ps body (from_block x) = R.each Δ ps body x

  pub ready-block : (t : List ℕ) (id d : ℕ) (Γ : Context) (π : ℕ → ℕ) (at h : ℕ) → Ready N ns t Γ π at h →
      Ready N ns t (in_block id d Γ) π at h
  ready-block t id d Γ π at h R = record { each = block-each t id d Γ π at h R }

  inside-each : (t : List ℕ) (qs : List Parameter) (Γ : Context) (π : ℕ → ℕ) (at h : ℕ) → Ready N ns t Γ π at h →
      (Δ : Context) (ps : List Parameter) (body : Written) → Sees (in_procedure qs Γ) Δ ps body →
      ReadyOne N ns t (π (length (binders Δ))) at h Δ ps body
  inside-each t qs Γ π at h R Δ ps body (from_procedure x) = R.each Δ ps body x

  pub ready-inside : (t : List ℕ) (qs : List Parameter) (Γ : Context) (π : ℕ → ℕ) (at h : ℕ) → Ready N ns t Γ π at h →
      Ready N ns t (in_procedure qs Γ) π at h
  ready-inside t qs Γ π at h R = record { each = inside-each t qs Γ π at h R }

  -- a procedure more
  scope-each : (t : List ℕ) (id ty : ℕ) (qs : List Parameter) (term : Written) (Γ : Context) (π : ℕ → ℕ) (p at h : ℕ) →
      Ready N ns t Γ π at h → ReadyOne N ns t p at h Γ qs term → (Δ : Context) (ps : List Parameter)
      (body : Written) → Sees (in_scope id ty qs term Γ) Δ ps body →
      ReadyOne N ns t (beyond (length (binders Γ)) π (λ j. p) (length (binders Δ))) at h Δ ps body
  scope-each t id ty qs term Γ π p at h R O Δ ps body sees_it = rw (beyond-at (length (binders Γ)) π (λ j. p)) O
  scope-each t id ty qs term Γ π p at h R O Δ ps body (from_scope x) =
      rw (beyond_below (length (binders Γ)) π (λ j. p) (length (binders Δ)) (sees_below x)) (R.each Δ ps body x)

  pub ready-scope : (t : List ℕ) (id ty : ℕ) (qs : List Parameter) (term : Written) (Γ : Context) (π : ℕ → ℕ)
      (p at h : ℕ) → Ready N ns t Γ π at h → ReadyOne N ns t p at h Γ qs term →
      Ready N ns t (in_scope id ty qs term Γ) (beyond (length (binders Γ)) π (λ j. p)) at h
  ready-scope t id ty qs term Γ π p at h R O = record { each = scope-each t id ty qs term Γ π p at h R O }

  -- around a whole term there is none
  pub ready-whole : (t : List ℕ) (π : ℕ → ℕ) (at h : ℕ) → Ready N ns t whole π at h
  unfolding binders
  ready-whole t π at h = record { each = λ Δ ps body x. absurd (omega (arith, sees_below x)) }

pub behind-whole : (π : ℕ → ℕ) (at : ℕ) → Behind whole π at
unfolding binders
behind-whole π at Δ ps body x = absurd (omega (arith, sees_below x))
