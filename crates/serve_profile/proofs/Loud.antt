-- What the table says of a record: whether it is loud, and where the expression around it ends.
use Prim.Native.Nat.{ℕ, zero, suc, ◌+◌, ◌≤◌, ◌<◌}
use native.Mathlib.Omega.{arith}
use mathlib.Core.Path.{◌≡◌, refl, ap, ◌∙◌}
use mathlib.Core.Bool.{Bool, true, false, ◌||◌, not}
use mathlib.Core.List.{List, [], ◌∷◌}
use lib.ListN.{length}
use lib.Dec.{eqb, ltb}
use borrow.Author.Tests.{le-leb, lt-leb, lt-ltb, le-ltb, ne_eqb}
use Rattle.language.specs.Choice.{pick}
use Rattle.language.specs.declared.Numbers.{Numbers}
use Rattle.sheet_records.specs.Kind.{shape_of, body_in}
use Rattle.sheet_rows.specs.Row.{word, class_of}
use Rattle.sheet_written.specs.Written.{Written, skip, diverge, truth, number, call, fetch, operate, assign, sequence}
use Rattle.sheet_written.specs.Written.{while, choose, new, procedure, Writtens, none, more, Name}
use Rattle.sheet_written.specs.Meaning.{Binder, Meaning, private, argument, routine, named, retired, free, meaning, typed}
use Rattle.sheet_written.specs.Fine.{Fine, FineUse, FineArgs}
use Rattle.sheet_written.specs.Width.{width, widths}
use Rattle.sheet_written.specs.Pieces.{piece, each, pieces, own_width}
use Rattle.sheet_table.specs.inner.Seats.{Seat, seated, SeatedAll, seated_more}
use Rattle.sheet_reader.proofs.Widths.{width_some}
use Rattle.serve_profile.specs.Offence.{is_expression, any_loud, loud_use, loud, within}
use Rattle.serve_profile.specs.inner.Pass.{loud_from, loud_at, reach_at}
use Rattle.serve_profile.proofs.Pieces.{kind_of}

-- the class of a type says whether it is that of an expression
class-expression : (ty : ℕ) → eqb (class_of ty) 1 ≡ is_expression ty
unfolding class_of is_expression
class-expression zero = refl
class-expression (suc zero) = refl
class-expression (suc (suc zero)) = refl
class-expression (suc (suc (suc n))) =
    let ty : ℕ = suc (suc (suc n)) in
    rw (
      ne_eqb ty 0 (λ e. omega (arith, e)),
      le-ltb ty 3 (omega arith),
      ne_eqb ty 1 (λ e. omega (arith, e)),
      ne_eqb ty 2 (λ e. omega (arith, e)),
    ) refl

module _ (N : Numbers) (ns : List Name) (t : List ℕ) where
  class-of : (bs : List Binder) (at : ℕ) (W : Written) → Seat ns t bs at W →
      eqb (word t at 2) 1 ≡ is_expression (typed ns bs W)
  class-of bs at W S = ap (λ (k : ℕ). eqb k 1) S.classed ∙ class-expression (typed ns bs W)

  -- arguments of the given types
  loud-args : (bs : List Binder) (ws : Writtens) (tys : List ℕ) (left at end : ℕ) → SeatedAll ns t at (each bs ws) →
      FineArgs N ns bs ws tys → end ≡ at + widths ws → length (each bs ws) ≤ left →
      loud_from t left at end ≡ any_loud tys
  unfolding FineArgs each piece widths loud_from any_loud
  loud-args bs none [] zero at end S F e l = refl
  loud-args bs none [] (suc left) at end S F e l = rw (le-leb end at (omega (arith, e))) refl
  loud-args bs none (ty ∷ tys) left at end S F e l = absurd F
  loud-args bs (more w ws) [] left at end S F e l = absurd F
  loud-args bs (more w ws) (ty ∷ tys) zero at end S F e l = absurd (omega (arith, l))
  loud-args bs (more w ws) (ty ∷ tys) (suc left) at end (seated_more (seated Q R) S) F e l =
      rw (lt-leb end at (omega (arith, e, width_some w)), class-of bs at w Q, F.1, Q.ended)
      (go (is_expression ty)
      (loud-args bs ws tys left (at + width w) end S F.2 (omega (arith, e)) (omega (arith, l))))
    where
      go : (b : Bool) → loud_from t left (at + width w) end ≡ any_loud tys →
          pick b (loud_from t left (at + width w) end) true ≡ (not b || any_loud tys)
      go true h = h
      go false h = refl

  no_args : (bs : List Binder) (ws : Writtens) → ws ≡ none → FineArgs N ns bs ws []
  unfolding FineArgs
  no_args bs ws e = rw e tt

  loud-use : (bs : List Binder) (ws : Writtens) (at end : ℕ) (m : Meaning) → SeatedAll ns t (at + 2) (each bs ws) →
      length (each bs ws) ≤ 4 → end ≡ at + (2 + widths ws) →
      FineUse m (ws ≡ none) (λ tys. FineArgs N ns bs ws tys) → loud_from t 4 (at + 2) end ≡ loud_use m
  unfolding FineUse loud_use any_loud
  loud-use bs ws at end (private k d) S l e F =
      loud-args bs ws [] 4 (at + 2) end S (no_args bs ws F) (omega (arith, e)) l
  loud-use bs ws at end (argument k ty) S l e F =
      loud-args bs ws [] 4 (at + 2) end S (no_args bs ws F) (omega (arith, e)) l
  loud-use bs ws at end (routine k ty tys) S l e F = loud-args bs ws tys 4 (at + 2) end S F (omega (arith, e)) l
  loud-use bs ws at end (named often ty tys) S l e F = loud-args bs ws tys 4 (at + 2) end S F (omega (arith, e)) l
  loud-use bs ws at end retired S l e F = absurd F
  loud-use bs ws at end free S l e F = absurd F

  -- the place after the bytes of a use
  past-use : (at : ℕ) → at + 1 + body_in (shape_of 20) ≡ at + 2
  unfolding body_in shape_of
  past-use at = omega arith

  -- a record of the kind
  pub loud-right : (bs : List Binder) (at : ℕ) (W : Written) → Fine N ns bs W → Seat ns t bs at W →
      SeatedAll ns t (at + own_width W) (pieces bs W) → loud_at t at (kind_of W) ≡ loud ns bs W
  unfolding Fine loud_at kind_of loud pieces own_width width
  loud-right bs at skip F S R = refl
  loud-right bs at (diverge ty) F S R = refl
  loud-right bs at (truth b) F S R = refl
  loud-right bs at (number b) F S R = refl
  loud-right bs at (call id ws) F S R =
      ap (λ (p : ℕ). loud_from t 4 p (word t at 1)) (past-use at)
      ∙ loud-use bs ws at (word t at 1) (meaning ns bs id) R S.few S.ended F.1
  loud-right bs at (fetch v) F S R = refl
  loud-right bs at (operate op x y) F S R = refl
  loud-right bs at (assign x y) F S R = refl
  loud-right bs at (sequence x y) F S R = refl
  loud-right bs at (choose b x y) F S R = refl
  loud-right bs at (while x y) F S R = refl
  loud-right bs at (new id d c) F S R = refl
  loud-right bs at (procedure id ty ps x y) F S R = refl

-- A part, from a place up to another, that stands inside an expression lies before the place where that ends; any other
-- begins there or after it.
pub data Side (until at end : ℕ) : Bool → Type 0 where
  inner : end ≤ until → Side until at end true
  outer : until ≤ at → Side until at end false

-- the same after the record of the part is read
pub record Reached (until again at end : ℕ) (j : Bool) : Type 0 where
  pub side : Side again at end j
  pub tests : ltb at again ≡ j
  pub later : {p e : ℕ} {i : Bool} → end ≤ p → p < e → Side until p e i → Side again p e i

module _ (ns : List Name) (t : List ℕ) (N : Numbers) where
  pub reaches : (bs : List Binder) (at until : ℕ) (W : Written) (i : Bool) → Seat ns t bs at W →
      Side until at (at + width W) i → Reached until (reach_at t at until) at (at + width W) (within ns bs i W)
  unfolding reach_at within
  reaches bs at until W true S (inner h) =
      let l : at < until = omega (arith, h, width_some W) in
      rw (lt-ltb at until l) (record { side = inner h; tests = lt-ltb at until l; later = λ g k s. s })
  reaches bs at until W false S (outer h) =
      rw (le-ltb at until h, class-of N ns t bs at W S, S.ended) (go (is_expression (typed ns bs W)))
    where
      far : {p e : ℕ} {i : Bool} → at + width W ≤ p → p < e → Side until p e i → Side (at + width W) p e i
      far g k (inner m) = absurd (omega (arith, g, k, m, h, width_some W))
      far g k (outer m) = outer g

      go : (b : Bool) → Reached until (pick b (at + width W) until) at (at + width W) b
      go true = record {
        side = inner (omega arith);
        tests = lt-ltb at (at + width W) (omega (arith, width_some W));
        later = far;
      }
      go false = record { side = outer h; tests = le-ltb at until h; later = λ g k s. s }
