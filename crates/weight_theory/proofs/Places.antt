-- What the rows of parts say, whatever their kind.
use Prim.Native.Nat.{ℕ, ◌+◌, ◌*◌, ◌%◌, ◌≤◌, ◌<◌}
use native.Mathlib.Omega.{arith}
use mathlib.Core.List.{List}
use mathlib.Core.Path.{◌≡◌, sym, ◌∙◌}
use lib.ListN.{length}
use Rattle.language.specs.declared.Numbers.{Numbers}
use Rattle.sheet_parts.specs.Rule.{values}
use Rattle.sheet_rows.specs.Row.{class_of}
use Rattle.sheet_written.specs.Written.{Written, skip, diverge, truth, number, call, fetch, operate, assign}
use Rattle.sheet_written.specs.Written.{sequence, while, choose, new, procedure, Parameter, Name}
use Rattle.sheet_written.specs.Meaning.{typed}
use Rattle.sheet_written.specs.Fine.{depth}
use Rattle.sheet_written.specs.Come.{come}
use Rattle.sheet_written.specs.Context.{Context, binders, downs}
use Rattle.sheet_rows.specs.PartKind.{KIND, CLASS, VALUES, PROCEDURE}
use Rattle.sheet_rows.specs.Row.{word}
use Rattle.sheet_written.specs.Table.{PartRow, Shown, shown_skip, shown_diverge, shown_truth, shown_number}
use Rattle.sheet_written.specs.Table.{shown_private, shown_parameter, shown_use, shown_name, shown_fetch, shown_operate}
use Rattle.sheet_written.specs.Table.{shown_assign, shown_sequence, shown_choose, shown_while, shown_new, shown_procedure}
use Rattle.sheet_written.specs.Marks.{Marked}
use Rattle.sheet_written.proofs.Reach.{come-bound}
use Rattle.weight_theory.specs.Plan.{come_at}

depth-some : (W : Written) → 0 < depth W
unfolding depth
depth-some skip = omega arith
depth-some (diverge ty) = omega arith
depth-some (truth b) = omega arith
depth-some (number b) = omega arith
depth-some (call id ws) = omega arith
depth-some (fetch v) = omega arith
depth-some (operate op x y) = omega arith
depth-some (assign x y) = omega arith
depth-some (sequence x y) = omega arith
depth-some (choose b x y) = omega arith
depth-some (while x y) = omega arith
depth-some (new id d c) = omega arith
depth-some (procedure id ty ps body rest) = omega arith

pub data IsProcedure : Written → Type 0 where
  it-is : {id ty : ℕ} {ps : List Parameter} {body rest : Written} → IsProcedure (procedure id ty ps body rest)

module _ (N : Numbers) (ns : List Name) (t : List ℕ) where
  -- a row of any kind
  pub record AnyRow (Γ : Context) (W : Written) (at end : ℕ) : Type 0 where
    pub kind : ℕ
    pub row : PartRow N ns t Γ kind W at end

  row_of : {Γ : Context} {π : ℕ → ℕ} {at end : ℕ} {W : Written} → Shown N ns t Γ π at end W → AnyRow Γ W at end
  row_of (shown_skip r) = record { kind = _; row = r }
  row_of (shown_diverge r) = record { kind = _; row = r }
  row_of (shown_truth r d) = record { kind = _; row = r }
  row_of (shown_number r d) = record { kind = _; row = r }
  row_of (shown_private m r d) = record { kind = _; row = r }
  row_of (shown_parameter m r d) = record { kind = _; row = r }
  row_of (shown_use m r d f b a) = record { kind = _; row = r }
  row_of (shown_name m r d f b a) = record { kind = _; row = r }
  row_of (shown_fetch r p b x) = record { kind = _; row = r }
  row_of (shown_operate r d p q b x y) = record { kind = _; row = r }
  row_of (shown_assign r p q b x y) = record { kind = _; row = r }
  row_of (shown_sequence r p q b x y) = record { kind = _; row = r }
  row_of (shown_choose r p q s b x y z) = record { kind = _; row = r }
  row_of (shown_while r p q b x y) = record { kind = _; row = r }
  row_of (shown_new r d p b x) = record { kind = _; row = r }
  row_of (shown_procedure r d p q b f x y) = record { kind = _; row = r }

  -- a row of kind 28 is a procedure's
  other : {X : Type 0} (k : ℕ) {Γ : Context} {W : Written} {at end : ℕ} → (k ≡ PROCEDURE → ⊥) →
      PartRow N ns t Γ k W at end → word t at KIND ≡ PROCEDURE → X
  other k n r e = absurd (n (sym r.kinded ∙ e))

  pub is-procedure : {Γ : Context} {π : ℕ → ℕ} {at end : ℕ} {W : Written} → Shown N ns t Γ π at end W →
      word t at KIND ≡ PROCEDURE → IsProcedure W
  is-procedure (shown_skip r) e = other _ (λ i. omega arith) r e
  is-procedure (shown_diverge r) e = other _ (λ i. omega arith) r e
  is-procedure (shown_truth r d) e = other _ (λ i. omega arith) r e
  is-procedure (shown_number r d) e = other _ (λ i. omega arith) r e
  is-procedure (shown_private m r d) e = other _ (λ i. omega arith) r e
  is-procedure (shown_parameter m r d) e = other _ (λ i. omega arith) r e
  is-procedure (shown_use m r d f b a) e = other _ (λ i. omega arith) r e
  is-procedure (shown_name m r d f b a) e = other _ (λ i. omega arith) r e
  is-procedure (shown_fetch r p b x) e = other _ (λ i. omega arith) r e
  is-procedure (shown_operate r d p q b x y) e = other _ (λ i. omega arith) r e
  is-procedure (shown_assign r p q b x y) e = other _ (λ i. omega arith) r e
  is-procedure (shown_sequence r p q b x y) e = other _ (λ i. omega arith) r e
  is-procedure (shown_choose r p q s b x y z) e = other _ (λ i. omega arith) r e
  is-procedure (shown_while r p q b x y) e = other _ (λ i. omega arith) r e
  is-procedure (shown_new r d p b x) e = other _ (λ i. omega arith) r e
  is-procedure (shown_procedure r d p q b f x y) e = it-is

  pub places : {Γ : Context} {π : ℕ → ℕ} {at end : ℕ} {W : Written} → Shown N ns t Γ π at end W →
      (at < end) × (end ≤ 4096)
  places s = ((row_of s).row.before, (row_of s).row.within)

  pub values_of : {Γ : Context} {π : ℕ → ℕ} {at end : ℕ} {W : Written} → Shown N ns t Γ π at end W →
      word t at VALUES ≡ values N (typed ns (binders Γ) W)
  values_of s = (row_of s).row.valued

  pub class-of : {Γ : Context} {π : ℕ → ℕ} {at end : ℕ} {W : Written} → Shown N ns t Γ π at end W →
      word t at CLASS ≡ class_of (typed ns (binders Γ) W)
  class-of s = (row_of s).row.classed

  -- what a marked part comes down to is in its mark
  plain-mark : (v c : ℕ) → v ≡ c → c < 128 → v % 128 ≡ c
  plain-mark v c e h = omega arith

  mixed-mark : (v c u : ℕ) → v ≡ c + 128 * u → c < 128 → v % 128 ≡ c
  mixed-mark v c u e h = omega arith

  mark_of : (W : Written) (M : List ℕ) (Γ : Context) (at : ℕ) → Marked N ns t M Γ at W →
      come ns (binders Γ) (downs ns Γ) W < 128 → come_at M at ≡ come ns (binders Γ) (downs ns Γ) W
  unfolding Marked come_at
  mark_of skip M Γ at m h = plain-mark _ _ m h
  mark_of (diverge ty) M Γ at m h = plain-mark _ _ m h
  mark_of (truth b) M Γ at m h = plain-mark _ _ m h
  mark_of (number b) M Γ at m h = plain-mark _ _ m h
  mark_of (call id ws) M Γ at m h = plain-mark _ _ m.0 h
  mark_of (fetch v) M Γ at m h = plain-mark _ _ m.0 h
  mark_of (operate op x y) M Γ at m h = plain-mark _ _ m.0 h
  mark_of (assign x y) M Γ at m h = plain-mark _ _ m.0 h
  mark_of (sequence x y) M Γ at m h = plain-mark _ _ m.0 h
  mark_of (choose b x y) M Γ at m h = plain-mark _ _ m.0 h
  mark_of (while x y) M Γ at m h = plain-mark _ _ m.0 h
  mark_of (new id d c) M Γ at m h = plain-mark _ _ m.0 h
  mark_of (procedure id ty ps body rest) M Γ at m h = mixed-mark _ _ _ m.0 h

  pub marked-come : (W : Written) (M : List ℕ) (Γ : Context) (at left : ℕ) → Marked N ns t M Γ at W →
      depth W ≤ left → length (binders Γ) + 4 * left ≤ 128 → come_at M at ≡ come ns (binders Γ) (downs ns Γ) W
  marked-come W M Γ at left m h f =
      mark_of W M Γ at m (omega (arith, come-bound W ns (binders Γ) (downs ns Γ), depth-some W))
