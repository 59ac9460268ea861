-- Rows without parts: what they weigh.
use Prim.Native.Nat.{ℕ, ◌+◌, ◌/◌, ◌%◌, min}
use native.Mathlib.Omega.{arith}
use native.Mathlib.Decide.{ℕ_discrete}
use mathlib.Core.Path.{◌≡◌, refl}
use mathlib.Core.List.{List}
use mathlib.Core.Bool.{Bool, true, false}
use lib.Dec.{ltb}
use Rattle.language.specs.Choice.{pick}
use borrow.Author.Tests.{ne_eqb}
use Rattle.sheet_rows.specs.PartKind.{NAME, FETCH, OPERATE, ASSIGN, SEQUENCE, IF, WHILE, NEW, PRIVATE, KIND, DETAIL}
use Rattle.sheet_rows.specs.PartKind.{ONCE}
use Rattle.sheet_rows.specs.Row.{word}
use Rattle.term_closing.specs.Close.{first_bits, parts_of, argument_weight, name_weight, weight_of, leaf_weight, kind_weight}

-- a name without a bit has no arguments
first-none : (c : ℕ) → first_bits c ≡ 0 → c ≡ 0
unfolding first_bits
first-none c h = go (ℕ_discrete c 0) (ℕ_discrete c 1) (ℕ_discrete c 2) (ℕ_discrete c 3) h
  where
    go : Dec (c ≡ 0) → Dec (c ≡ 1) → Dec (c ≡ 2) → Dec (c ≡ 3) → first_bits c ≡ 0 → c ≡ 0
    go (yes a) b d e h = a
    go (no a) (yes b) d e h = let g : ◌≡◌ {A = ℕ} 1 0 = rw b at h in absurd (omega arith)
    go (no a) (no b) (yes d) e h = let g : ◌≡◌ {A = ℕ} 3 0 = rw d at h in absurd (omega arith)
    go (no a) (no b) (no d) (yes e) h = let g : ◌≡◌ {A = ℕ} 7 0 = rw e at h in absurd (omega arith)
    go (no a) (no b) (no d) (no e) h =
        let g : ◌≡◌ {A = ℕ} 15 0 = rw (ne_eqb c 0 a, ne_eqb c 1 b, ne_eqb c 2 d, ne_eqb c 3 e) at h in absurd (omega arith)

-- a row of another kind
plain-leaf : (t : List ℕ) (at k a b c d : ℕ) → (k ≡ NAME → ⊥) → parts_of k (word t at DETAIL) ≡ 0 →
    min (kind_weight t at k a b c d) 4097 ≡ leaf_weight k (word t at DETAIL)
unfolding parts_of kind_weight leaf_weight
plain-leaf t at k a b c d n h = go (ℕ_discrete k PRIVATE)
  where
    one : (x : Bool) → min (pick x 1 1) 4097 ≡ pick x 1 1
    one true = refl
    one false = refl

    go : Dec (k ≡ PRIVATE) → min (kind_weight t at k a b c d) 4097 ≡ leaf_weight k (word t at DETAIL)
    go (yes e) = rw e refl
    go (no e) =
        rw (
          ne_eqb k NAME n,
          ne_eqb k PRIVATE e,
          ne_eqb k FETCH (λ x. let g : ◌≡◌ {A = ℕ} 1 0 = rw x at h in absurd (omega arith)),
          ne_eqb k OPERATE (λ x. let g : ◌≡◌ {A = ℕ} 3 0 = rw x at h in absurd (omega arith)),
          ne_eqb k ASSIGN (λ x. let g : ◌≡◌ {A = ℕ} 3 0 = rw x at h in absurd (omega arith)),
          ne_eqb k SEQUENCE (λ x. let g : ◌≡◌ {A = ℕ} 3 0 = rw x at h in absurd (omega arith)),
          ne_eqb k WHILE (λ x. let g : ◌≡◌ {A = ℕ} 3 0 = rw x at h in absurd (omega arith)),
          ne_eqb k IF (λ x. let g : ◌≡◌ {A = ℕ} 7 0 = rw x at h in absurd (omega arith)),
          ne_eqb k NEW (λ x. let g : ◌≡◌ {A = ℕ} 1 0 = rw x at h in absurd (omega arith)),
        ) (one (ltb k NAME))

-- a name
name-leaf : (t : List ℕ) (at a b c d : ℕ) → word t at DETAIL / 256 % 8 ≡ 0 →
    name_weight t at a b c d ≡ 2 + word t at DETAIL / ONCE % 2
unfolding name_weight argument_weight
name-leaf t at a b c d z = rw z (omega arith)

-- it has no arguments
name-none : (k d : ℕ) → k ≡ NAME → parts_of k d ≡ 0 → d / 256 % 8 ≡ 0
unfolding parts_of
name-none k d e h = first-none (d / 256 % 8) (rw e at h)

module _ (t rows : List ℕ) (at a b c d : ℕ) (h : parts_of (word t at KIND) (word t at DETAIL) ≡ 0) where
  named : word t at KIND ≡ NAME → min (weight_of t rows at a b c d) 4097 ≡ leaf_weight (word t at KIND) (word t at DETAIL)
  unfolding weight_of kind_weight leaf_weight
  named e = rw e (rw (name-leaf t at _ _ _ _ (name-none _ _ e h)) (omega arith))

  other : (word t at KIND ≡ NAME → ⊥) →
      min (weight_of t rows at a b c d) 4097 ≡ leaf_weight (word t at KIND) (word t at DETAIL)
  unfolding weight_of
  other e = plain-leaf t at (word t at KIND) _ _ _ _ e h

  -- THEOREM: a row without parts weighs 2 where it is a name, 3 where that asks once, 2 where it is a private variable,
  -- else 1
  pub leaf-weighs : min (weight_of t rows at a b c d) 4097 ≡ leaf_weight (word t at KIND) (word t at DETAIL)
  leaf-weighs = go (ℕ_discrete (word t at KIND) NAME)
    where
      go : Dec (word t at KIND ≡ NAME) →
          min (weight_of t rows at a b c d) 4097 ≡ leaf_weight (word t at KIND) (word t at DETAIL)
      go (yes e) = named e
      go (no e) = other e
