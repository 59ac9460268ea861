-- Document 02 [7]: the part that differs may be compared alone.
use Prim.Native.Nat.{ℕ, ◌+◌}
use native.Mathlib.Omega.{arith}
use mathlib.Core.Path.{◌≡◌, refl, sym, ap, ◌∙◌, subst, subst₂}
use mathlib.Core.Bool.{Bool, true, false}
use mathlib.Core.Logic.{◌↔◌, ◌⊎◌, inl, inr}
use mathlib.Core.List.{List, []}
use mathlib.Core.Option.{Option, none, some}
use lib.ListN.{length}
use Rattle.language.specs.Ty.{Ty}
use Rattle.language.specs.Move.{Word}
use Rattle.language.specs.Play.{Complete}
use Rattle.language.specs.Term.{Term}
use Rattle.language.specs.declared.Numbers.{Numbers}
use Rattle.sheet_records.specs.declared.refusal.Cause.{Cause}
use Rattle.sheet_records.specs.declared.edition.Edition.TheVariants.{Present}
use Rattle.sheet_written.specs.Written.{Written, Name, Sheet}
use Rattle.sheet_written.specs.Meaning.{ty_of, typed, no_terms, resolve, term_of, type_of}
use Rattle.sheet_written.specs.Width.{heading_width}
use Rattle.sheet_written.proofs.WellTyped.{fine-known}
use Rattle.sheet_reader.specs.Fine.{Accepted}
use Rattle.sheet_reader.proofs.Right.{gives}
use Rattle.sheet_judge.specs.Mark.{uses_of}
use Rattle.sheet_judge.specs.declared.mark.Uses.{Uses}
use Rattle.serve_compare.specs.Plays.{Alike}
use Rattle.serve_conditions.specs.Pair.{matching, pair_refusal}
use Rattle.serve_compare.specs.Refusals.{on_read, compare_refusal}
use Rattle.serve_compare.specs.Demands.{Shown}
use Rattle.serve_compare.specs.Promise.{Holds, Same, ComparedBy, ComparePromise}
use Rattle.serve_compare.proofs.ReadSheets.{two-first}
use Rattle.serve_compare.proofs.ComparePlays.{as_one}
use Rattle.serve_compare.proofs.Exactly.{exact-answer, not-same}
use Rattle.serve_compare.proofs.Unique.{one-sheet, held-accepted}
use Rattle.serve_part.specs.Around.{Around, filled, enclosing}
use Rattle.serve_part.specs.Rules.{PartsAlike, CalledSame, PartsCompared}
use Rattle.serve_part.proofs.Filling.{Equal}
use Rattle.serve_part.proofs.Gap.{Declares, whole-type, whole-plays}

-- terms that play the same between the questions and answers of their type have the same complete plays
complete-same : (T : Ty) (M M' : Term) → Equal T M M' → (u : Word) → Complete T M u ↔ Complete T M' u
complete-same T M M' h u =
    (λ (q, a, w, x, p, e). (q, a, w, x, (h q a x w).0 p, e), λ (q, a, w, x, p, e). (q, a, w, x, (h q a x w).1 p, e))

-- a sheet is its three parts
sheet-as : (S : Sheet) {N : Numbers} {ns : List Name} {W : Written} → S.numbers ≡ N → S.names ≡ ns → S.term ≡ W →
    S ≡ record { numbers = N; names = ns; term = W }
sheet-as S e f g = λ i. record { numbers = e i; names = f i; term = g i }

-- the same of sheets given by their three parts
alike-parts : (N : Numbers) (ns ns' ns'' : List Name) (C : Around) (m n : Written) →
    Accepted (record { numbers = N; names = ns; term = filled C m }) →
    Accepted (record { numbers = N; names = ns; term = filled C n }) →
    Declares ns (enclosing C []) ns' → Declares ns (enclosing C []) ns'' →
    type_of (record { numbers = N; names = ns'; term = m }) ≡ type_of (record { numbers = N; names = ns''; term = n }) →
    ((u : Word) → Alike (record { numbers = N; names = ns'; term = m })
    (record { numbers = N; names = ns''; term = n }) u) →
    (u : Word) → Alike (record { numbers = N; names = ns; term = filled C m })
    (record { numbers = N; names = ns; term = filled C n }) u
unfolding type_of term_of
alike-parts N ns ns' ns'' C m n A B h h' e p u =
    let k = fine-known [] ns A.ordered.in_order.fine_names in
    rw (← whole-type N ns k ns' ns'' C m n h h' e p)
    (complete-same (ty_of N (typed ns [] (filled C m))) (resolve N ns [] no_terms 0 (filled C m))
    (resolve N ns [] no_terms 0 (filled C n))
    (whole-plays N ns k ns' ns'' C m n h h' e p A.ordered.in_order.fine_term
    B.ordered.in_order.fine_term) u)

-- THEOREM: parts with the same plays make whole sheets with the same plays
parts-alike : PartsAlike
parts-alike S T P Q C m n A B d p q e h =
    let N = S.numbers in
    let ns = S.names in
    let s = sheet-as S refl refl d.first in
    let t = sheet-as T (sym d.numbers) (sym d.names) d.second in
    let f = sheet-as P p.numbers refl p.term in
    let g = sheet-as Q (q.numbers ∙ sym d.numbers) refl q.term in
    subst₂ (λ X Y. (u : Word) → Alike X Y u) (sym s) (sym t)
    (alike-parts N ns P.names Q.names C m n (subst Accepted s A) (subst Accepted t B) p.names
    (subst (λ x. Declares x (enclosing C []) Q.names) (sym d.names) q.names)
    (sym (ap type_of f) ∙ e ∙ ap type_of g) (subst₂ (λ X Y. (u : Word) → Alike X Y u) f g h))

-- what is called the same is not refused
not_refused : (old new ws space ws' space' : List ℕ) (v w : Uses) →
    ComparePromise old new ws space (Same v w) ws' space' →
    compare_refusal old new (length ws) (length space) ≡ none
unfolding ComparedBy
not_refused old new ws space ws' space' v w p = go (compare_refusal old new (length ws) (length space)) p
  where
    go : (x : Option Cause) → ComparedBy x old new ws space (Same v w) ws' space' → x ≡ none
    go none c = refl
    go (some x) (e, f) = let z : ◌≡◌ {A = ℕ} 0 1 = cc in absurd (omega arith)

-- what is not refused has one result type
one_type : (old new : List ℕ) (words space : ℕ) {S T : Sheet} → Holds old S → Holds new T →
    compare_refusal old new words space ≡ none → type_of S ≡ type_of T
unfolding compare_refusal on_read
one_type old new words space {S} {T} h k e =
    by (matching old new (heading_width S) (heading_width T) h.type k.type) refl (rw (h.reads, k.reads) at e)
  where
    by : (c : Bool) → matching old new (heading_width S) (heading_width T) h.type k.type ≡ c →
        pair_refusal c S.numbers words space (h.size + k.size) ≡ none → type_of S ≡ type_of T
    by true d f =
        sym (gives Present old S h.type h.size h.reads).2
        ∙ (as_one (heading_width T) (two-first S) (sym d) refl).types
        ∙ (gives Present new T k.type k.size k.reads).2
    by false d f = let z : ◌≡◌ {A = ℕ} 0 1 = cc in absurd (omega arith)

-- what is called the same has the same plays
called-alike : (old new : List ℕ) {S T : Sheet} → Holds old S → Holds new T → CalledSame old new → (u : Word) →
    Alike S T u
called-alike old new {S} {T} h k c =
    let x = exact-answer old new c.words c.space (Same c.old_uses c.new_uses) c.words_after
    c.space-after c.kept
    (not_refused old new c.words c.space c.words_after c.space-after c.old_uses c.new_uses
    c.kept) in
    subst₂ (λ X Y. (u : Word) → Alike X Y u) (one-sheet x.first_held h) (one-sheet x.second_held k)
    (go x.first_sheet x.second_sheet x.decided)
  where
    go : (X Y : Sheet) →
        ((Same c.old_uses c.new_uses ≡ Same (uses_of X) (uses_of Y)) × ((u : Word) → Alike X Y u))
        ⊎ Shown X Y (Same c.old_uses c.new_uses) c.space-after →
        (u : Word) → Alike X Y u
    go X Y (inl (e, f)) = f
    go X Y (inr s) = absurd (not-same _ _ _ _ _ _ (sym s.answer))

-- THEOREM: whole sheets whose parts were called the same are called the same
pub parts-compared : PartsCompared
parts-compared old new old-part new-part S T P Q C m n h k d i j p q c ws space r ws' space' w e =
    let x = exact-answer old new ws space r ws' space' w e in
    let f = one-sheet x.first_held h in
    let g = one-sheet x.second_held k in
    let v = parts-alike S T P Q C m n (held-accepted h) (held-accepted k) d p q
    (one_type old-part new-part (length c.words) (length c.space) i j
    (not_refused old-part new-part c.words c.space c.words_after c.space-after c.old_uses
    c.new_uses c.kept))
    (called-alike old-part new-part i j c) in
    subst₂ (λ X Y. r ≡ Same (uses_of X) (uses_of Y)) f g
    (x.same_exactly.1 (subst₂ (λ X Y. (u : Word) → Alike X Y u) (sym f) (sym g) v))
