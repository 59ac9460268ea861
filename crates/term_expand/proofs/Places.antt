-- The table of parts where the places of procedures change, and what it has of a procedure that may be used.
use Prim.Native.Nat.{ℕ, ◌+◌, ◌*◌, ◌≤◌, ◌<◌}
use native.Mathlib.Omega.{arith}
use mathlib.Core.Path.{◌≡◌, sym, ◌∙◌}
use mathlib.Core.List.{List}
use lib.ListN.{length, get_or}
use Rattle.language.specs.declared.Numbers.{Numbers}
use Rattle.sheet_written.specs.Environment.{beyond}
use Rattle.sheet_written.specs.Written.{Written, Parameter, Writtens, Name}
use Rattle.sheet_written.specs.Meaning.{routine, inside}
use Rattle.sheet_written.specs.Fine.{Fine}
use Rattle.sheet_written.specs.Context.{Context, whole, in_block, in_procedure, in_scope, binders, Sees, sees_it}
use Rattle.sheet_written.specs.Context.{from_block, from_procedure, from_scope}
use Rattle.sheet_rows.specs.PartKind.{DETAIL, PARTS}
use Rattle.sheet_rows.specs.Row.{word}
use Rattle.sheet_written.specs.Table.{PartRow, Shown, shown_skip, shown_diverge, shown_truth, shown_number}
use Rattle.sheet_written.specs.Table.{shown_private, shown_parameter, shown_use, shown_name, shown_fetch, shown_operate}
use Rattle.sheet_written.specs.Table.{shown_assign, shown_sequence, shown_choose, shown_while, shown_new}
use Rattle.sheet_written.specs.Table.{shown_procedure, ShownArgs, shown_none, shown_more, Known, Few, FewIn}
use Rattle.sheet_written.specs.Marks.{used_bits, Marked, MarkedIn}
use Rattle.sheet_written.proofs.Numbering.{beyond_below, beyond-at}
use Rattle.sheet_written.proofs.Contexts.{sees_below, Found, Found-right, found}
use Rattle.term_expand.specs.Contract.{FineIn}

-- the procedures that may be used have the same places
abbrev pub Same : Context → (ℕ → ℕ) → (ℕ → ℕ) → Type 0
Same Γ π π' = (Δ : Context) (ps : List Parameter) (body : Written) → Sees Γ Δ ps body →
    π' (length (binders Δ)) ≡ π (length (binders Δ))

-- those inside a scope too, where one more has a place
pub same-scope : (Γ : Context) (id ty : ℕ) (ps : List Parameter) (body : Written) (π π' : ℕ → ℕ) (at : ℕ) → Same Γ π
    π' →
    Same (in_scope id ty ps body Γ) (beyond (length (binders Γ)) π (λ j. at)) (beyond (length (binders Γ)) π' (λ j. at))
same-scope Γ id ty ps body π π' at f Δ qs other sees_it =
    beyond-at (length (binders Γ)) π' (λ j. at) ∙ sym (beyond-at (length (binders Γ)) π (λ j. at))
same-scope Γ id ty ps body π π' at f Δ qs other (from_scope s) =
    beyond_below (length (binders Γ)) π' (λ j. at) (length (binders Δ)) (sees_below s)
    ∙ (f Δ qs other s ∙ sym (beyond_below (length (binders Γ)) π (λ j. at) (length (binders Δ)) (sees_below s)))

same_block : (Γ : Context) (id d : ℕ) (π π' : ℕ → ℕ) → Same Γ π π' → Same (in_block id d Γ) π π'
same_block Γ id d π π' f Δ ps body (from_block s) = f Δ ps body s

pub same-procedure : (Γ : Context) (ps : List Parameter) (π π' : ℕ → ℕ) → Same Γ π π' → Same (in_procedure ps Γ) π π'
same-procedure Γ qs π π' f Δ ps body (from_procedure s) = f Δ ps body s

-- places of procedures from the number of the binders on
pub same-beyond : (Γ : Context) (π : ℕ → ℕ) (at : ℕ) → Same Γ π (beyond (length (binders Γ)) π (λ j. at))
same-beyond Γ π at Δ ps body s = beyond_below (length (binders Γ)) π (λ j. at) (length (binders Δ)) (sees_below s)

use-place : (Γ : Context) (π π' : ℕ → ℕ) (k : ℕ) (tys : List ℕ) → Same Γ π π' → Found Γ k tys → π' k ≡ π k
use-place Γ π π' k tys f x = rw x.number (f x.around x.parameters x.body x.sees)

module _ (N : Numbers) (ns : List Name) (t : List ℕ) where
  -- the row of a part
  pub shown-row : {Γ : Context} {π : ℕ → ℕ} {at end : ℕ} {W : Written} → Shown N ns t Γ π at end W →
      (k : ℕ) × PartRow N ns t Γ k W at end
  shown-row (shown_skip p) = (_, p)
  shown-row (shown_diverge p) = (_, p)
  shown-row (shown_truth p e) = (_, p)
  shown-row (shown_number p e) = (_, p)
  shown-row (shown_private m p e) = (_, p)
  shown-row (shown_parameter m p e) = (_, p)
  shown-row (shown_use m p e l b a) = (_, p)
  shown-row (shown_name m p e l b a) = (_, p)
  shown-row (shown_fetch p e b x) = (_, p)
  shown-row (shown_operate p d e f b x y) = (_, p)
  shown-row (shown_assign p e f b x y) = (_, p)
  shown-row (shown_sequence p e f b x y) = (_, p)
  shown-row (shown_choose p e f g b x y z) = (_, p)
  shown-row (shown_while p e f b x y) = (_, p)
  shown-row (shown_new p d e b x) = (_, p)
  shown-row (shown_procedure p d e f b l x y) = (_, p)

  pub shown-before : {Γ : Context} {π : ℕ → ℕ} {at end : ℕ} {W : Written} → Shown N ns t Γ π at end W → at < end
  shown-before x = (shown-row x).1.before

  pub shown-within : {Γ : Context} {π : ℕ → ℕ} {at end : ℕ} {W : Written} → Shown N ns t Γ π at end W → end ≤ 4096
  shown-within x = (shown-row x).1.within

  -- a part is shown where procedures have the same places
  mutual
    unfolding Found-right

    pub shown-same : {Γ : Context} {π π' : ℕ → ℕ} {at end : ℕ} {W : Written} → Same Γ π π' →
        Shown N ns t Γ π at end W → Shown N ns t Γ π' at end W
    shown-same f (shown_skip p) = shown_skip p
    shown-same f (shown_diverge p) = shown_diverge p
    shown-same f (shown_truth p e) = shown_truth p e
    shown-same f (shown_number p e) = shown_number p e
    shown-same f (shown_private m p e) = shown_private m p e
    shown-same f (shown_parameter m p e) = shown_parameter m p e
    shown-same {Γ = Γ} {π = π} {π' = π'} f (shown_use {id = id} {k = k} {ty = ty} {tys = tys} m p e l b a) =
        let x : Found-right Γ (routine k ty tys) = rw m at (found ns Γ id) in
        shown_use {π = π'} {k = k} m p (rw (use-place Γ π π' k tys f x) e) l b (args-same f a)
    shown-same f (shown_name m p e l b a) = shown_name m p e l b (args-same f a)
    shown-same f (shown_fetch p e b x) = shown_fetch p e b (shown-same f x)
    shown-same f (shown_operate p d e g b x y) = shown_operate p d e g b (shown-same f x) (shown-same f y)
    shown-same f (shown_assign p e g b x y) = shown_assign p e g b (shown-same f x) (shown-same f y)
    shown-same f (shown_sequence p e g b x y) = shown_sequence p e g b (shown-same f x) (shown-same f y)
    shown-same f (shown_choose p e g h b x y z) =
        shown_choose p e g h b (shown-same f x) (shown-same f y) (shown-same f z)
    shown-same f (shown_while p e g b x y) = shown_while p e g b (shown-same f x) (shown-same f y)
    shown-same {Γ = Γ} {π = π} {π' = π'} f (shown_new {id = id} {d = d} p e g b x) =
        shown_new p e g b (shown-same (same_block Γ id d π π' f) x)
    shown-same {Γ = Γ} {π = π} {π' = π'} f
        (shown_procedure {at = at} {id = id} {ty = ty} {ps = ps} {body = body} p d e g b l x y) =
        shown_procedure p d e g b l (shown-same (same-procedure Γ ps π π' f) x)
        (shown-same (same-scope Γ id ty ps body π π' at f) y)

    args-same : {Γ : Context} {π π' : ℕ → ℕ} {at j from end : ℕ} {ws : Writtens} {tys : List ℕ} → Same Γ π π' →
        ShownArgs N ns t Γ π at j from end ws tys → ShownArgs N ns t Γ π' at j from end ws tys
    args-same f shown_none = shown_none
    args-same f (shown_more e x y) = shown_more e (shown-same f x) (args-same f y)

  -- the terms of procedures, seen from a later place
  pub known-later : (Γ : Context) (π : ℕ → ℕ) (at to : ℕ) → at ≤ to → Known N ns t Γ π at → Known N ns t Γ π to
  unfolding Known
  known-later whole π at to l h = tt
  known-later (in_block id d Γ) π at to l h = known-later Γ π at to l h
  known-later (in_procedure ps Γ) π at to l h = known-later Γ π at to l h
  known-later (in_scope id ty ps body Γ) π at to l h = (h.0, omega (arith, h.1, l), h.2, h.3, h.4, h.5, h.6)

  pub known_same : (Γ : Context) (π π' : ℕ → ℕ) (at : ℕ) → Same Γ π π' → Known N ns t Γ π at → Known N ns t Γ π' at
  unfolding Known
  known_same whole π π' at f h = tt
  known_same (in_block id d Γ) π π' at f h = known_same Γ π π' at (λ Δ ps body s. f Δ ps body (from_block s)) h
  known_same (in_procedure qs Γ) π π' at f h = known_same Γ π π' at (λ Δ ps body s. f Δ ps body (from_procedure s)) h
  known_same (in_scope id ty ps body Γ) π π' at f h =
      let g : Same Γ π π' = λ Δ qs other s. f Δ qs other (from_scope s) in
      let e : π' (length (binders Γ)) ≡ π (length (binders Γ)) = f Γ ps body sees_it in
      let k : Known N ns t Γ π' (π (length (binders Γ))) = known_same Γ π π' (π (length (binders Γ))) g h.6 in
      let x : Shown N ns t (in_procedure ps Γ) π' (word t (π (length (binders Γ))) PARTS) h.0 body =
      shown-same (same-procedure Γ ps π π' g) h.5 in
      rw e (h.0, h.1, h.2, h.3, h.4, x, k)

  -- what the table has of a procedure that may be used at a place
  pub record Seen (Δ : Context) (ps : List Parameter) (body : Written) (π : ℕ → ℕ) (at : ℕ) : Type 0 where
    pub end : ℕ
    pub earlier : end ≤ at
    pub number : word t (π (length (binders Δ))) DETAIL ≡ length (binders Δ)
    pub later : π (length (binders Δ)) < word t (π (length (binders Δ))) PARTS
    pub inside-sheet : π (length (binders Δ)) < 4096
    pub shown : Shown N ns t (in_procedure ps Δ) π (word t (π (length (binders Δ))) PARTS) end body
    pub known : Known N ns t Δ π (π (length (binders Δ)))

  pub sees_known : {Γ Δ : Context} {ps : List Parameter} {body : Written} (π : ℕ → ℕ) (at : ℕ) → Sees Γ Δ ps body →
      Known N ns t Γ π at → Seen Δ ps body π at
  unfolding Known
  sees_known π at sees_it h = record {
    end = h.0;
    earlier = h.1;
    number = h.2;
    later = h.3;
    inside-sheet = h.4;
    shown = h.5;
    known = h.6;
  }
  sees_known π at (from_block s) h = sees_known π at s h
  sees_known π at (from_procedure s) h = sees_known π at s h
  sees_known {Δ = Δ} {ps = ps} {body = body} π at (from_scope {Γ = Γ} s) h =
      let x : Seen Δ ps body π (π (length (binders Γ))) = sees_known π (π (length (binders Γ))) s h.6 in
      record {
        end = x.end;
        earlier = omega (arith, x.earlier, h.3, shown-before h.5, h.1);
        number = x.number;
        later = x.later;
        inside-sheet = x.inside-sheet;
        shown = x.shown;
        known = x.known;
      }

  module _ (marks : List ℕ) where
    pub marked-same : (Γ : Context) (π π' : ℕ → ℕ) → Same Γ π π' → MarkedIn N ns t marks Γ π → MarkedIn N ns t marks
        Γ π'
    unfolding MarkedIn
    marked-same whole π π' f h = tt
    marked-same (in_block id d Γ) π π' f h = marked-same Γ π π' (λ Δ ps body s. f Δ ps body (from_block s)) h
    marked-same (in_procedure qs Γ) π π' f h = marked-same Γ π π' (λ Δ ps body s. f Δ ps body (from_procedure s)) h
    marked-same (in_scope id ty ps body Γ) π π' f h =
        let m : MarkedIn N ns t marks Γ π' = marked-same Γ π π' (λ Δ qs other s. f Δ qs other (from_scope s)) h.4 in
        rw (f Γ ps body sees_it) (h.0, h.1, h.2, h.3, m)

    -- what the marks have of it
    pub record SeenMarks (Δ : Context) (ps : List Parameter) (body : Written) (π : ℕ → ℕ) : Type 0 where
      pub come : ℕ
      pub small : come < 128
      pub mark : get_or marks (π (length (binders Δ))) 0 ≡ come + 128 * used_bits N ns Δ ps body
      pub marked : Marked N ns t marks (in_procedure ps Δ) (word t (π (length (binders Δ))) PARTS) body
      pub marked_in : MarkedIn N ns t marks Δ π

    pub sees-marked : {Γ Δ : Context} {ps : List Parameter} {body : Written} (π : ℕ → ℕ) → Sees Γ Δ ps body →
        MarkedIn N ns t marks Γ π → SeenMarks Δ ps body π
    unfolding MarkedIn
    sees-marked π sees_it h = record { come = h.0; small = h.1; mark = h.2; marked = h.3; marked_in = h.4 }
    sees-marked π (from_block s) h = sees-marked π s h
    sees-marked π (from_procedure s) h = sees-marked π s h
    sees-marked π (from_scope s) h = sees-marked π s h.4

  pub sees-fine : {Γ Δ : Context} {ps : List Parameter} {body : Written} → Sees Γ Δ ps body → FineIn N ns Γ →
      Fine N ns (inside ps (binders Δ)) body × FineIn N ns Δ
  unfolding FineIn
  sees-fine sees_it h = h
  sees-fine (from_block s) h = sees-fine s h
  sees-fine (from_procedure s) h = sees-fine s h
  sees-fine (from_scope s) h = sees-fine s h.1

pub sees-few : {Γ Δ : Context} {ps : List Parameter} {body : Written} → Sees Γ Δ ps body → FewIn Γ →
    Few (in_procedure ps Δ) body × FewIn Δ
unfolding FewIn
sees-few sees_it h = h
sees-few (from_block s) h = sees-few s h
sees-few (from_procedure s) h = sees-few s h
sees-few (from_scope s) h = sees-few s h.1
