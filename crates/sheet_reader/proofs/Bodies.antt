-- The body of a procedure's record: what its judgement says.
use Rattle.std.specs.Prelude.{Ok}
use Prim.Native.Nat.{ℕ, ◌+◌, ◌*◌, ◌≤◌, ◌<◌}
use native.Mathlib.Omega.{arith}
use mathlib.Core.Path.{◌≡◌, refl}
use mathlib.Core.Bool.{false}
use mathlib.Core.List.{List}
use lib.ListN.{length, get_or}
use lib.Dec.{ltb}
use borrow.Author.Tests.{ltb-true, ltb-false}
use Rattle.sheet_records.specs.Standing.{standing_of, is_named}
use Rattle.sheet_judgements.specs.Judge.{and_then, bound, hides, apart, earlier, unlike, parameter_id, pair}
use Rattle.sheet_judgements.specs.Judge.{procedure_of}
use Rattle.sheet_records.specs.declared.edition.Edition.{Edition}
use Rattle.sheet_reader.proofs.Standings.{by-test}
use Rattle.sheet_reader.proofs.Answers.{pick_all}
use Rattle.sheet_reader.proofs.Judgement.{JudgedAll, good, bad, judged-map, both-all, below_all, unused-all, four}
use Rattle.sheet_reader.proofs.Judgement.{below-is, unused-is}

-- the id of a binder
pub record Bound (ed : Edition) (s st : List ℕ) (p : ℕ) : Type 0 where
  pub within : p < length s
  pub below : get_or s p 0 < 255
  pub unnamed : is_named (standing_of (get_or st (get_or s p 0) 0)) ≡ false
  pub unhiding : hides ed (standing_of (get_or st (get_or s p 0) 0)) ≡ false

-- parameter j of the procedure at a place
pub record Given (ed : Edition) (s st : List ℕ) (at j : ℕ) : Type 0 where
  pub id : Bound ed s st (at + 4 + 2 * j)
  pub unlike : earlier s at j (get_or s (at + 4 + 2 * j) 0) ≡ false
  pub within : at + 5 + 2 * j < length s
  pub known : get_or s (at + 5 + 2 * j) 0 < 5

-- a pair that holds none
pub record Blank (s : List ℕ) (at j : ℕ) : Type 0 where
  pub id-within : at + 4 + 2 * j < length s
  pub id : get_or s (at + 4 + 2 * j) 0 ≡ 255
  pub within : at + 5 + 2 * j < length s
  pub type : get_or s (at + 5 + 2 * j) 0 ≡ 255

-- pair j
pub record Pair (ed : Edition) (s st : List ℕ) (at j : ℕ) : Type 0 where
  pub used : j < get_or s (at + 3) 0 → Given ed s st at j
  pub padding : get_or s (at + 3) 0 ≤ j → Blank s at j

-- the whole body
pub record Body (ed : Edition) (s st : List ℕ) (at : ℕ) : Type 0 where
  pub id : Bound ed s st (at + 1)
  pub type-within : at + 2 < length s
  pub type-known : get_or s (at + 2) 0 < 5
  pub count-within : at + 3 < length s
  pub few : get_or s (at + 3) 0 < 5
  pub pairs : (j : ℕ) → j < 4 → Pair ed s st at j

bound_all :
    (s st : List ℕ) (p : ℕ) →
    JudgedAll ((p < length s) × (get_or s p 0 < 255) × (is_named (standing_of (get_or st (get_or s p 0) 0)) ≡ false))
    (bound s st p)
unfolding bound
bound_all s st p =
    both-all (below_all s p 255)
    (λ b. pick_all (JudgedAll _) (is_named (standing_of (get_or st (get_or s p 0) 0))) (λ e. bad)
    (λ e. good (b.0, b.1, e)))

apart-all :
    (ed : Edition) (s st : List ℕ) (p : ℕ) →
    JudgedAll (hides ed (standing_of (get_or st (get_or s p 0) 0)) ≡ false) (apart ed s st p)
unfolding apart
apart-all ed s st p =
    pick_all (JudgedAll _) (hides ed (standing_of (get_or st (get_or s p 0) 0))) (λ e. bad) (λ e. good e)

unlike-all :
    (s : List ℕ) (at j : ℕ) → JudgedAll (earlier s at j (get_or s (at + 4 + 2 * j) 0) ≡ false) (unlike s at j)
unfolding unlike
unlike-all s at j =
    pick_all (JudgedAll _) (earlier s at j (get_or s (at + 4 + 2 * j) 0)) (λ e. bad) (λ e. good e)

id-all :
    (ed : Edition) (s st : List ℕ) (at j : ℕ) →
    JudgedAll (Bound ed s st (at + 4 + 2 * j) × (earlier s at j (get_or s (at + 4 + 2 * j) 0) ≡ false))
    (parameter_id ed s st at j)
unfolding parameter_id
id-all ed s st at j =
    both-all (bound_all s st (at + 4 + 2 * j)) (λ b.
    both-all (unlike-all s at j) (λ e.
    judged-map (λ u. (record { within = b.0; below = b.1; unnamed = b.2; unhiding = u }, e))
    (apart-all ed s st (at + 4 + 2 * j))))

pair-all : (ed : Edition) (s st : List ℕ) (at j : ℕ) → JudgedAll (Pair ed s st at j) (pair ed s st at j)
unfolding pair
pair-all ed s st at j =
    pick_all (JudgedAll (Pair ed s st at j)) (ltb j (get_or s (at + 3) 0))
    (λ e. both-all (id-all ed s st at j) (λ i. judged-map (λ b. record {
      used = λ l. record { id = i.0; unlike = i.1; within = b.0; known = b.1 };
      padding = λ l. absurd (omega (arith, ltb-true j (get_or s (at + 3) 0) e));
    }) (below_all s (at + 5 + 2 * j) 5)))
    (λ e. both-all (unused-all s (at + 4 + 2 * j)) (λ i. judged-map (λ b. record {
      used = λ l. absurd (omega (arith, ltb-false j (get_or s (at + 3) 0) e));
      padding = λ l. record { id-within = i.0; id = i.1; within = b.0; type = b.1 };
    })
    (unused-all s (at + 5 + 2 * j))))

pub procedure-all : (ed : Edition) (s st : List ℕ) (at : ℕ) → JudgedAll (Body ed s st at) (procedure_of ed s st at)
unfolding procedure_of
procedure-all ed s st at =
    both-all (bound_all s st (at + 1)) (λ i.
    both-all (apart-all ed s st (at + 1)) (λ u.
    both-all (below_all s (at + 2) 5) (λ t.
    both-all (below_all s (at + 3) 5) (λ c.
    both-all (pair-all ed s st at 0) (λ a₀.
    both-all (pair-all ed s st at 1) (λ a₁.
    both-all (pair-all ed s st at 2) (λ a₂.
    judged-map (λ a₃. record {
      id = record { within = i.0; below = i.1; unnamed = i.2; unhiding = u };
      type-within = t.0;
      type-known = t.1;
      count-within = c.0;
      few = c.1;
      pairs = four (Pair ed s st at) a₀ a₁ a₂ a₃;
    }) (pair-all ed s st at 3))))))))

-- the other way round
pub bound-is : {ed : Edition} (s st : List ℕ) (p : ℕ) → Bound ed s st p → bound s st p ≡ Ok tt
unfolding bound and_then
bound-is s st p B = rw (below-is s p 255 B.within B.below, B.unnamed) refl

apart-is : (ed : Edition) (s st : List ℕ) (p : ℕ) → Bound ed s st p → apart ed s st p ≡ Ok tt
unfolding apart
apart-is ed s st p B = rw B.unhiding refl

pub pair_is : (ed : Edition) (s st : List ℕ) (at j : ℕ) → Pair ed s st at j → pair ed s st at j ≡ Ok tt
unfolding pair parameter_id unlike and_then
pair_is ed s st at j P =
    pick_all (λ x. x ≡ Ok tt) (ltb j (get_or s (at + 3) 0))
    (λ e. let G = P.used (ltb-true j (get_or s (at + 3) 0) e) in
    rw (
      bound-is s st (at + 4 + 2 * j) G.id,
      G.unlike,
      apart-is ed s st (at + 4 + 2 * j) G.id,
      below-is s (at + 5 + 2 * j) 5 G.within G.known,
    ) refl)
    (λ e. let B = P.padding (ltb-false j (get_or s (at + 3) 0) e) in
    rw (unused-is s (at + 4 + 2 * j) B.id-within B.id, unused-is s (at + 5 + 2 * j) B.within B.type) refl)

pub procedure-is : (ed : Edition) (s st : List ℕ) (at : ℕ) → Body ed s st at → procedure_of ed s st at ≡ Ok tt
unfolding procedure_of and_then
procedure-is ed s st at B =
    rw (
      bound-is s st (at + 1) B.id,
      apart-is ed s st (at + 1) B.id,
      below-is s (at + 2) 5 B.type-within B.type-known,
      below-is s (at + 3) 5 B.count-within B.few,
      pair_is ed s st at 0 (B.pairs 0 (omega arith)),
      pair_is ed s st at 1 (B.pairs 1 (omega arith)),
      pair_is ed s st at 2 (B.pairs 2 (omega arith)),
      pair_is ed s st at 3 (B.pairs 3 (omega arith)),
    ) refl

-- the whole body stands within the sheet
pub body-within : {ed : Edition} (s st : List ℕ) (at : ℕ) → Body ed s st at → at + 12 ≤ length s
body-within s st at B =
    let c = get_or s (at + 3) 0 in
    let P = B.pairs 3 (omega arith) in
    by-test (ltb 3 c) (λ t. omega (arith, (P.used (ltb-true 3 c t)).within))
    (λ t. omega (arith, (P.padding (ltb-false 3 c t)).within))
