-- Name records: what their judgement says.
use Rattle.std.specs.Prelude.{Result, Ok, Err}
use Prim.Native.Nat.{ℕ, zero, suc, ◌+◌, ◌≤◌, ◌<◌}
use native.Mathlib.Omega.{arith}
use mathlib.Core.Path.{◌≡◌, refl}
use mathlib.Core.List.{List}
use lib.ListN.{length, get_or}
use lib.Dec.{eqb, leb, ltb}
use borrow.Author.Tests.{eqb-true, leb-false, ltb-true, ltb-false, lt-leb, eq-eqb}
use Rattle.sheet_records.specs.declared.refusal.Refusal.{Refusal}
use Rattle.sheet_judgements.specs.Judge.{and_then, below, unused}
use Rattle.sheet_reader.specs.Heading.{fresh, argument, declare_of, retire_of}
use Rattle.sheet_reader.proofs.Answers.{pick_all}

-- P of a good judgement, nothing of a bad one
pub data JudgedAll (P : Type 0) : Result (Unit {0}) Refusal → Type 0 where
  good : P → JudgedAll P (Ok tt)
  bad : {x : Refusal} → JudgedAll P (Err x)

pub judged-map : {P Q : Type 0} {j : Result (Unit {0}) Refusal} → (P → Q) → JudgedAll P j → JudgedAll Q j
judged-map f (good p) = good (f p)
judged-map f bad = bad

pub both-all : {P Q : Type 0} {a b : Result (Unit {0}) Refusal} → JudgedAll P a → (P → JudgedAll Q b) → JudgedAll Q (and_then a b)
unfolding and_then
both-all (good p) f = f p
both-all bad f = bad

-- the type of argument j of the record at a place
pub record Argument (s : List ℕ) (at j : ℕ) : Type 0 where
  pub inside : at + 4 + j < length s
  pub known : j < get_or s (at + 3) 0 → get_or s (at + 4 + j) 0 < 5
  pub padding : get_or s (at + 3) 0 ≤ j → get_or s (at + 4 + j) 0 ≡ 255

-- a good id, and a good declare record
pub record Fresh (s st : List ℕ) (p : ℕ) : Type 0 where
  pub inside : p < length s
  pub below : get_or s p 0 < 255
  pub free : get_or st (get_or s p 0) 0 ≡ 0

pub record Declaration (s st : List ℕ) (at : ℕ) : Type 0 where
  pub id : Fresh s st (at + 1)
  pub type-inside : at + 2 < length s
  pub type-known : get_or s (at + 2) 0 < 5
  pub count-inside : at + 3 < length s
  pub few : get_or s (at + 3) 0 < 5
  pub arguments : (j : ℕ) → j < 4 → Argument s at j

pub below_all : (s : List ℕ) (p limit : ℕ) → JudgedAll ((p < length s) × (get_or s p 0 < limit)) (below s p limit)
unfolding below
below_all s p limit =
    pick_all (JudgedAll _) (leb (length s) p) (λ e. bad)
    (λ e. pick_all (JudgedAll _) (leb limit (get_or s p 0)) (λ e'. bad)
    (λ e'. good (leb-false (length s) p e, leb-false limit (get_or s p 0) e')))

pub unused-all : (s : List ℕ) (p : ℕ) → JudgedAll ((p < length s) × (get_or s p 0 ≡ 255)) (unused s p)
unfolding unused
unused-all s p =
    pick_all (JudgedAll _) (leb (length s) p) (λ e. bad)
    (λ e. pick_all (JudgedAll _) (eqb (get_or s p 0) 255)
    (λ e'. good (leb-false (length s) p e, eqb-true (get_or s p 0) 255 e')) (λ e'. bad))

fresh-all : (s st : List ℕ) (p : ℕ) → JudgedAll (Fresh s st p) (fresh s st p)
unfolding fresh
fresh-all s st p =
    both-all (below_all s p 255)
    (λ b. pick_all (JudgedAll _) (eqb (get_or st (get_or s p 0) 0) 0)
    (λ e. good (record { inside = b.0; below = b.1; free = eqb-true (get_or st (get_or s p 0) 0) 0 e })) (λ e. bad))

argument-all : (s : List ℕ) (at j : ℕ) → JudgedAll (Argument s at j) (argument s at j)
unfolding argument
argument-all s at j =
    pick_all (JudgedAll (Argument s at j)) (ltb j (get_or s (at + 3) 0))
    (λ e. judged-map (λ b. record {
      inside = b.0;
      known = λ l. b.1;
      padding = λ l. absurd (omega (arith, ltb-true j (get_or s (at + 3) 0) e));
    })
    (below_all s (at + 4 + j) 5))
    (λ e. judged-map (λ b. record {
      inside = b.0;
      known = λ l. absurd (omega (arith, ltb-false j (get_or s (at + 3) 0) e));
      padding = λ l. b.1;
    })
    (unused-all s (at + 4 + j)))

pub four : (P : ℕ → Type 0) → P 0 → P 1 → P 2 → P 3 → (j : ℕ) → j < 4 → P j
four P a b c d zero h = a
four P a b c d (suc zero) h = b
four P a b c d (suc (suc zero)) h = c
four P a b c d (suc (suc (suc zero))) h = d
four P a b c d (suc (suc (suc (suc j)))) h = absurd (omega arith)

pub declare-all : (s st : List ℕ) (at : ℕ) → JudgedAll (Declaration s st at) (declare_of s st at)
unfolding declare_of
declare-all s st at =
    both-all (fresh-all s st (at + 1)) (λ i.
    both-all (below_all s (at + 2) 5) (λ t.
    both-all (below_all s (at + 3) 5) (λ c.
    both-all (argument-all s at 0) (λ a₀.
    both-all (argument-all s at 1) (λ a₁.
    both-all (argument-all s at 2) (λ a₂.
    judged-map (λ a₃. record {
      id = i;
      type-inside = t.0;
      type-known = t.1;
      count-inside = c.0;
      few = c.1;
      arguments = four (Argument s at) a₀ a₁ a₂ a₃;
    }) (argument-all s at 3)))))))

pub retire-all : (s st : List ℕ) (at : ℕ) → JudgedAll (Fresh s st (at + 1)) (retire_of s st at)
unfolding retire_of
retire-all s st at = fresh-all s st (at + 1)

-- the other way round
pub below-is : (s : List ℕ) (p limit : ℕ) → p < length s → get_or s p 0 < limit → below s p limit ≡ Ok tt
unfolding below
below-is s p limit l h = rw (lt-leb (length s) p l, lt-leb limit (get_or s p 0) h) refl

pub unused-is : (s : List ℕ) (p : ℕ) → p < length s → get_or s p 0 ≡ 255 → unused s p ≡ Ok tt
unfolding unused
unused-is s p l h = rw (lt-leb (length s) p l, eq-eqb (get_or s p 0) 255 h) refl

fresh-is : (s st : List ℕ) (p : ℕ) → Fresh s st p → fresh s st p ≡ Ok tt
unfolding fresh and_then
fresh-is s st p F =
    rw (below-is s p 255 F.inside F.below, eq-eqb (get_or st (get_or s p 0) 0) 0 F.free) refl

argument_is : (s : List ℕ) (at j : ℕ) → Argument s at j → argument s at j ≡ Ok tt
unfolding argument
argument_is s at j A =
    pick_all (λ x. x ≡ Ok tt) (ltb j (get_or s (at + 3) 0))
    (λ e. below-is s (at + 4 + j) 5 A.inside (A.known (ltb-true j (get_or s (at + 3) 0) e)))
    (λ e. unused-is s (at + 4 + j) A.inside (A.padding (ltb-false j (get_or s (at + 3) 0) e)))

pub declare-is : (s st : List ℕ) (at : ℕ) → Declaration s st at → declare_of s st at ≡ Ok tt
unfolding declare_of and_then
declare-is s st at D =
    rw (
      fresh-is s st (at + 1) D.id,
      below-is s (at + 2) 5 D.type-inside D.type-known,
      below-is s (at + 3) 5 D.count-inside D.few,
      argument_is s at 0 (D.arguments 0 (omega arith)),
      argument_is s at 1 (D.arguments 1 (omega arith)),
      argument_is s at 2 (D.arguments 2 (omega arith)),
      argument_is s at 3 (D.arguments 3 (omega arith)),
    ) refl

pub retire-is : (s st : List ℕ) (at : ℕ) → Fresh s st (at + 1) → retire_of s st at ≡ Ok tt
unfolding retire_of
retire-is s st at F = fresh-is s st (at + 1) F
