-- What the leaves read and write is what their definitions say.
use Prim.Native.Nat.{ℕ, suc, ◌+◌, ◌-◌, ◌*◌, ◌/◌, ◌%◌, ◌≤◌, ◌<◌, min}
use native.Mathlib.Omega.{arith}
use mathlib.Core.Path.{◌≡◌, refl, sym, ap, ap₂, ◌∙◌}
use mathlib.Core.List.{List}
use lib.ListN.{get_or, set}
use borrow.Author.Tests.{eq-eqb, ne_eqb, le-leb, lt-leb}
use Rattle.sheet_written.specs.Renumber.{lowest_from, lowest}
use Rattle.serve_renumber.specs.Work.{marked, took_parameters, took_ids, named_entry, name_entry}
use Rattle.serve_renumber.specs.Work.{becomes_in, note}

-- four bytes of a change
pub noted : (l l₁ l₂ l₃ l₄ : List ℕ) (n place id given : ℕ) → l₁ ≡ set l (4 * n) (place % 256) →
    l₂ ≡ set l₁ (4 * n + 1) (place / 256) → l₃ ≡ set l₂ (4 * n + 2) id → l₄ ≡ set l₃ (4 * n + 3) given →
    l₄ ≡ note n (record { place = place; old = id; given = given }) l
unfolding note
noted l l₁ l₂ l₃ l₄ n place id given a b c d = rw (d, c, b, a) refl

-- entries
pub becomes-held : (e id : ℕ) → 2048 ≤ e → (e % 256 ≡ becomes_in e id) × (e % 256 < 256)
unfolding becomes_in
becomes-held e id h = (rw (le-leb 2048 e h) refl, omega arith)

pub becomes-free : (e id : ℕ) → e < 2048 → id ≡ becomes_in e id
unfolding becomes_in
becomes-free e id h = rw (lt-leb 2048 e h) refl

pub entry-declared : (kind count r : ℕ) → (kind ≡ 2 → ⊥) → r ≡ named_entry count → r ≡ name_entry kind count
unfolding name_entry
entry-declared kind count r n e = rw (ne_eqb kind 2 n) e

pub entry-retired : (kind count : ℕ) → kind ≡ 2 → 0 ≡ name_entry kind count
unfolding name_entry
entry-retired kind count e = rw e refl

-- the search of an id
pub lowest-first : (k : List ℕ) → lowest (marked k) ≡ lowest_from (marked k) 0 (255 - 0)
unfolding lowest
lowest-first k = refl

pub lowest-here : (k : List ℕ) (id r : ℕ) → id < 255 → lowest (marked k) ≡ lowest_from (marked k) id (255 - id) →
    r ≡ get_or k id 0 → (r ≡ 1 → ⊥) → id ≡ lowest (marked k)
unfolding lowest_from
lowest-here k id r h e g n =
    let d : 255 - id ≡ suc (254 - id) = omega arith in
    let f = rw d at e in
    sym (f ∙ rw (ne_eqb (get_or k id 0) 1 (λ i. n (g ∙ i))) refl)

pub lowest-again : (k : List ℕ) (id r : ℕ) → id < 255 → lowest (marked k) ≡ lowest_from (marked k) id (255 - id) →
    r ≡ get_or k id 0 → r ≡ 1 → lowest (marked k) ≡ lowest_from (marked k) (id + 1) (255 - (id + 1))
unfolding lowest_from
lowest-again k id r h e g n =
    let d : 255 - id ≡ suc (254 - id) = omega arith in
    let f = rw d at e in
    let a : suc id ≡ id + 1 = omega arith in
    let b : 254 - id ≡ 255 - (id + 1) = omega arith in
    f ∙ rw (eq-eqb (get_or k id 0) 1 (sym g ∙ n), a, b) refl

pub lowest-last : (k : List ℕ) (id : ℕ) → id ≡ 255 → lowest (marked k) ≡ lowest_from (marked k) id (255 - id) →
    255 ≡ lowest (marked k)
unfolding lowest_from
lowest-last k id h e = let f = rw h at e in sym f

-- ids of records taken
pub took-none : (s k : List ℕ) (at count : ℕ) → count ≡ 0 → k ≡ took_parameters s at count k
unfolding took_parameters
took-none s k at count e = rw e refl

pub took_more : (s k k₁ k₂ : List ℕ) (at id count : ℕ) → (count ≡ 0 → ⊥) → id ≡ get_or s at 0 → k₁ ≡ set k id 1 →
    k₂ ≡ took_parameters s (at + 2) (count - 1) k₁ → k₂ ≡ took_parameters s at count k
unfolding took_parameters
took_more s k k₁ k₂ at id count n i e f =
    let c : count ≡ suc (count - 1) = omega arith in
    rw c (f ∙ ap (took_parameters s (at + 2) (count - 1)) (e ∙ ap (λ x. set k x 1) i))

pub took-new : (s k k₁ : List ℕ) (at kind id count : ℕ) → kind ≡ 27 → id ≡ get_or s (at + 1) 0 → k₁ ≡ set k id 1 →
    k₁ ≡ took_ids s at kind count k
unfolding took_ids
took-new s k k₁ at kind id count e i f = rw (eq-eqb kind 27 e) (f ∙ ap (λ x. set k x 1) i)

pub took-procedure : (s k k₁ k₂ : List ℕ) (at kind id c m : ℕ) → (kind ≡ 27 → ⊥) → kind ≡ 28 →
    id ≡ get_or s (at + 1) 0 → c ≡ get_or s (at + 3) 0 → m ≡ min c 4 → k₁ ≡ set k id 1 →
    k₂ ≡ took_parameters s (at + 4) m k₁ → k₂ ≡ took_ids s at kind (min (get_or s (at + 3) 0) 4) k
unfolding took_ids
took-procedure s k k₁ k₂ at kind id c m n e i g h f q =
    let p : m ≡ min (get_or s (at + 3) 0) 4 = h ∙ ap (λ x. min x 4) g in
    rw (ne_eqb kind 27 n, eq-eqb kind 28 e)
    (q ∙ ap₂ (took_parameters s (at + 4)) p (f ∙ ap (λ x. set k x 1) i))

pub took-nothing : (s k : List ℕ) (at kind count : ℕ) → (kind ≡ 27 → ⊥) → (kind ≡ 28 → ⊥) → k ≡ took_ids s at kind
    count k
unfolding took_ids
took-nothing s k at kind count n m = rw (ne_eqb kind 27 n, ne_eqb kind 28 m) refl
