-- A judgement that is good, part by part.
use Prim.Native.Nat.{ℕ, zero, suc, ◌+◌, ◌-◌, ◌*◌, ◌≤◌, ◌<◌}
use native.Mathlib.Omega.{arith}
use mathlib.Core.Path.{◌≡◌, refl, sym, ◌∙◌}
use mathlib.Core.Bool.{Bool, true, false}
use mathlib.Core.List.{List}
use lib.ListN.{length, get_or}
use lib.Dec.{leb, eqb, ltb}
use borrow.Author.Tests.{eq-eqb, ne_eqb, eqb-true, leb-false}
use Rattle.language.specs.Choice.{pick}
use Rattle.sheet_judgements.specs.Judge.{and_then, below, unused, bound, apart, earlier, parameter_id, pair}
use Rattle.sheet_judgements.specs.Judge.{procedure_of}
use Rattle.sheet_records.specs.declared.edition.Edition.{Edition}
use Rattle.sheet_records.specs.declared.refusal.Refusal.{Refusal}
use Rattle.std.specs.Prelude.{Result, Ok, Err}
use Rattle.sheet_judgements.proofs.Tests.{pick-false, pick_true}

not_good : {x : Refusal} → ◌≡◌ {A = Result (Unit {0}) Refusal} (Err x) (Ok tt) → ⊥
not_good h = cc

-- both judgements are good
both-good : (x y : Result (Unit {0}) Refusal) → and_then x y ≡ Ok tt → (x ≡ Ok tt) × (y ≡ Ok tt)
unfolding and_then
both-good (Ok x) y h = (refl, h)
both-good (Err x) y h = absurd (not_good h)

module _ (s : List ℕ) (at : ℕ) where
  -- a byte below a limit
  below-good : (limit : ℕ) → below s at limit ≡ Ok tt → (at < length s) × (get_or s at 0 < limit)
  unfolding below
  below-good limit h =
      let o = pick-false (leb (length s) at) not_good h in
      let i = pick-false (leb limit (get_or s at 0)) not_good o.1 in
      (leb-false (length s) at o.0, leb-false limit (get_or s at 0) i.0)

  -- a byte of something that is not there
  unused-good : unused s at ≡ Ok tt → (at < length s) × (get_or s at 0 ≡ 255)
  unfolding unused
  unused-good h =
      let o = pick-false (leb (length s) at) not_good h in
      let i = pick_true (eqb (get_or s at 0) 255) not_good o.1 in
      (leb-false (length s) at o.0, eqb-true (get_or s at 0) 255 i.0)

-- the id and the type of a pair that is good stand in the list
pair_inside :
    (ed : Edition) (s st : List ℕ) (place j : ℕ) → pair ed s st place j ≡ Ok tt → place + 5 + 2 * j < length s
unfolding pair
pair_inside ed s st place j h = go (ltb j (get_or s (place + 3) 0)) h
  where
    go : (t : Bool) → pick t (and_then (parameter_id ed s st place j) (below s (place + 5 + 2 * j) 5))
        (and_then (unused s (place + 4 + 2 * j)) (unused s (place + 5 + 2 * j))) ≡ Ok tt → place + 5 + 2 * j < length s
    go true h = (below-good s (place + 5 + 2 * j) 5 (both-good _ _ h).1).0
    go false h = (unused-good s (place + 5 + 2 * j) (both-good _ _ h).1).0

-- all its eleven bytes stand in the list
pub procedure-inside :
    (ed : Edition) (s st : List ℕ) (place : ℕ) → procedure_of ed s st place ≡ Ok tt → place + 11 < length s
unfolding procedure_of
procedure-inside ed s st place h =
    let a = (both-good (bound s st (place + 1)) _ h).1 in
    let r = (both-good (apart ed s st (place + 1)) _ a).1 in
    let n = (both-good (below s (place + 2) 5) _ r).1 in
    let p = (both-good (below s (place + 3) 5) _ n).1 in
    let q = (both-good (pair ed s st place 0) _ p).1 in
    let u = (both-good (pair ed s st place 1) _ q).1 in
    let i = pair_inside ed s st place 3 (both-good (pair ed s st place 2) (pair ed s st place 3) u).1 in
    omega arith

-- earlier parameters, the last one first: one has the id
pub earlier-met :
    (s : List ℕ) (place j i x id : ℕ) → 0 < i → x ≡ get_or s (place + 4 + 2 * (i - 1)) 0 → x ≡ id →
    earlier s place j id ≡ earlier s place i id → true ≡ earlier s place j id
unfolding earlier
earlier-met s place j zero x id h p e r = absurd (omega arith)
earlier-met s place j (suc i) x id h p e r =
    let z : suc i - 1 ≡ i = omega arith in
    sym (r ∙ rw (eq-eqb (get_or s (place + 4 + 2 * i) 0) id (sym (rw z at p) ∙ e)))

-- it has another one
pub earlier-again :
    (s : List ℕ) (place j i x id : ℕ) → 0 < i → x ≡ get_or s (place + 4 + 2 * (i - 1)) 0 → (x ≡ id → ⊥) →
    earlier s place j id ≡ earlier s place i id → earlier s place j id ≡ earlier s place (i - 1) id
unfolding earlier
earlier-again s place j zero x id h p d r = absurd (omega arith)
earlier-again s place j (suc i) x id h p d r =
    let z : suc i - 1 ≡ i = omega arith in
    rw z (r ∙ rw (ne_eqb (get_or s (place + 4 + 2 * i) 0) id (λ e. d ((rw z at p) ∙ e))))

-- none has
pub earlier-none :
    (s : List ℕ) (place j i id : ℕ) → i ≤ 0 → earlier s place j id ≡ earlier s place i id → false ≡ earlier s place j id
unfolding earlier
earlier-none s place j zero id h r = sym r
earlier-none s place j (suc i) id h r = absurd (omega arith)
