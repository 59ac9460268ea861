-- The rows to which an accepted sheet is expanded represent its term, as the automaton reads them. Document 02 [1].
use Prim.Native.Nat.{ℕ, ◌≤◌, ◌<◌}
use native.Mathlib.Omega.{arith}
use mathlib.Core.Path.{◌≡◌, refl, sym, ap, ◌∙◌, subst}
use mathlib.Core.Bool.{Bool, true, false}
use mathlib.Core.Option.{Option, none, some}
use mathlib.Core.List.{List, [], ◌∷◌}
use lib.ListN.{length}
use lib.Dec.{eqb, ltb}
use borrow.Author.Tests.{lt-ltb, ltb-true}
use Rattle.language.specs.Choice.{pick}
use Rattle.language.specs.Ty.{Ty}
use Rattle.language.specs.declared.Numbers.{Numbers}
use Rattle.language.specs.Term.{Often}
use Rattle.sheet_written.specs.Written.{Name, declare, retire, Sheet}
use Rattle.sheet_written.specs.Meaning.{named, declared, use_type, meaning, ty_of, term_of, type_of}
use Rattle.sheet_written.specs.Fine.{FineNames, WellFormed}
use Rattle.sheet_written.specs.Occurs.{IsParameter}
use Rattle.sheet_written.specs.Context.{whole, binders}
use Rattle.sheet_written.specs.Shared.{Row}
use Rattle.sheet_written.specs.Expand.{no_slots, Expands, Expansion}
use Rattle.sheet_written.specs.Rules.{RowsRepresent, FewRows}
use Rattle.sheet_written.proofs.Expanding.{expands-sheet}
use Rattle.sheet_written.proofs.Making.{expands-same, few-rows}
use Rattle.sheet_written.proofs.Valuing.{accepted-light, accepted-deep}
use Rattle.sheet_rows.specs.Rep as n
use Rattle.term_closing.specs.Rows.{decode}
use Rattle.term_expand.specs.Local.{Local}
use Rattle.term_expand.specs.Words.{Worded, AllWorded, no_block}
use Rattle.term_expand.proofs.Bridge.{bridge}
use Rattle.term_expand.proofs.Covering.{RowTyped, TypedIn, Blocks, Covered, cover, typed-row}

by-test : {P : Type 0} (t : Bool) → (t ≡ true → P) → (t ≡ false → P) → P
by-test true f g = f refl
by-test false f g = g refl

-- the first rows alone
unfoldable first_of : ℕ → (ℕ → Option Row) → ℕ → Option Row
first_of m R i = pick (ltb i m) (R i) none

first-same : (m : ℕ) (R : ℕ → Option Row) (i : ℕ) → i < m → first_of m R i ≡ R i
unfolding first_of
first-same m R i l = rw (lt-ltb i m l) refl

first_below : (m : ℕ) (R : ℕ → Option Row) (i : ℕ) (x : Row) → first_of m R i ≡ some x → (i < m) × (R i ≡ some x)
unfolding first_of
first_below m R i x e = by-test (ltb i m)
    (λ t. (ltb-true i m t, rw t at e))
    (λ t. let h = rw t at e in let z : ◌≡◌ {A = ℕ} 0 1 = cc in absurd (omega arith))

-- what the name records of an accepted sheet declare
few-types : (earlier ns : List Name) → FineNames earlier ns → (i ty : ℕ) (often : Often) (tys : List ℕ) →
    declared ns i ≡ named often ty tys → (ty < 5) × (length tys ≤ 4)
unfolding FineNames declared
few-types earlier [] f i ty often tys e = let z : ◌≡◌ {A = ℕ} 0 1 = cc in absurd (omega arith)
few-types earlier (declare o k t ts ∷ ns) f i ty often tys e = by-test (eqb k i)
    (λ q. let h : named o t ts ≡ named often ty tys = rw q at e in
    let a : t ≡ ty = cc in
    let b : ts ≡ tys = cc in
    (omega (arith, f.2), omega (arith, f.3, ap length b)))
    (λ q. few-types (declare o k t ts ∷ earlier) ns f.5 i ty often tys (rw q at e))
few-types earlier (retire k ∷ ns) f i ty often tys e = by-test (eqb k i)
    (λ q. let h = rw q at e in let z : ◌≡◌ {A = ℕ} 0 1 = cc in absurd (omega arith))
    (λ q. few-types (retire k ∷ earlier) ns f.2 i ty often tys (rw q at e))

five-types : (earlier ns : List Name) → FineNames earlier ns → (i : ℕ) → use_type (declared ns i) < 5
unfolding FineNames declared use_type
five-types earlier [] f i = omega arith
five-types earlier (declare o k t ts ∷ ns) f i = by-test (eqb k i)
    (λ q. rw q f.2) (λ q. rw q (five-types (declare o k t ts ∷ earlier) ns f.5 i))
five-types earlier (retire k ∷ ns) f i = by-test (eqb k i)
    (λ q. rw q (omega arith)) (λ q. rw q (five-types (retire k ∷ earlier) ns f.2 i))

-- THEOREM: the rows of an accepted sheet represent its term
module _ (S : Sheet) (A : WellFormed S) (u : List ℕ) (r m : ℕ)
    (x : Expands S.numbers S.names (decode S.numbers S.names u) whole no_slots S.term 0 r m)
    (lo : Local S.numbers S.names u x) where
  abbrev N : Numbers
  N = S.numbers

  abbrev R : ℕ → Option Row
  R = decode N S.names u

  expansion : Expansion S (first_of m R) r m
  unfolding Expansion
  expansion = expands-same N S.names R (first_of m R) x (λ i a b. first-same m R i b)

  few : m ≤ 12288
  unfolding FewRows
  few = few-rows S (first_of m R) r m A expansion

  unfoldable covers : RowTyped N S.names u r (type_of S) × Covered N S.names u 0 m
  unfolding type_of binders TypedIn Blocks meaning IsParameter
  covers =
      cover N S.names u
      (λ i ty often tys e. (few-types [] S.names A.in_order.fine_names i ty often tys e).1) x lo
      A.in_order.fine_term tt (five-types [] S.names A.in_order.fine_names) tt (λ s z l. absurd z) few

  all : AllWorded N u (first_of m R)
  all i y e =
      let b = first_below m R i y e in
      let c = covers.1.rows i (omega arith) b.0 in
      (c.1, same c.0 y c.1 (sym c.2 ∙ b.1) c.3)
    where
      inside : {y z : Row} → some y ≡ some z → y ≡ z
      inside e = cc

      same : {i : ℕ} (z y : Row) (T : Ty) → some z ≡ some y → Worded N u i z T → Worded N u i y T
      same {i} z y T e h = subst (λ o. Worded N u i o T) (inside e) h

  pub rows-represent : n.Rep N u 6144 r [] [] (term_of S) (ty_of N (type_of S))
  unfolding RowsRepresent
  rows-represent =
      bridge N u (first_of m R) all (expands-sheet S (first_of m R) r m expansion) [] no_block 6144 (accepted-deep S A)
      (omega (arith, accepted-light S A)) (ty_of N (type_of S)) (typed-row N S.names u covers.0)
