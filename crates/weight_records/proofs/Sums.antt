-- Parts whose forms have no coefficients are added to a constant.
use Prim.Native.Nat.{ℕ, zero, suc, ◌+◌, ◌*◌, ◌≤◌, ◌<◌, min}
use native.Mathlib.Omega.{arith}
use mathlib.Core.List.{List}
use mathlib.Core.Path.{◌≡◌, refl, ap, ap₂, ◌∙◌}
use lib.ListN.{length}
use Rattle.sheet_rows.specs.PartKind.{PARTS}
use Rattle.sheet_rows.specs.Row.{word}
use Rattle.sheet_written.specs.Held.{held}
use Rattle.weight_theory.specs.Stack.{spot, form_word, constant_form, added_form}
use Rattle.weight_theory.specs.Step.{part_added, parts_added}
use Rattle.weight_records.specs.inner.Sum.{times, sum_from, SumOf}
use Rattle.weight_records.proofs.Bare.{added-bare}
use Rattle.weight_records.proofs.Plans.{Plan, one, two, three}

module _ (t : List ℕ) (at k row kind detail n first second from : ℕ) (P : Plan t at k row kind detail n first second)
    (l : from + n ≤ row) (h : spot row 1 < length t) (w : (j : ℕ) → j < n → form_word t (from + j) 0 ≡ 0) where
  -- one of them
  part-bare : (j a : ℕ) → j < n → part_added kind detail k at from row j (constant_form row a t)
      ≡ constant_form row (a + times first second j * form_word t (from + j) 1) t
  unfolding part_added
  part-bare j a g =
      let u : List ℕ = constant_form row a t in
      ap₂ (λ f e. added_form row (from + j) f e u) (P.factor a j g) (P.extra a (word u at (PARTS + j)))
      ∙ added-bare row (from + j) a (times first second j) t (omega arith) h (w j g)

  -- those from j on
  pub parts-bare : (m j a : ℕ) → j + m ≤ n → parts_added kind detail k at from row m j (constant_form row a t)
      ≡ constant_form row (sum_from t from first second m j a) t
  unfolding parts_added sum_from
  parts-bare zero j a g = refl
  parts-bare (suc m) j a g =
      ap (λ u. parts_added kind detail k at from row m (suc j) u) (part-bare j a (omega arith))
      ∙ parts-bare m (suc j) (a + times first second j * form_word t (from + j) 1) (omega arith)

-- the sum of one constant, of two, and of three, held at each step
held_first : (z c : ℕ) → c ≡ min z 4097 → held c ≡ held (0 + z)
unfolding held
held_first z c e = omega arith

held-second : (z y c m d : ℕ) → c ≡ min z 4097 → m ≡ min y 4097 → d ≡ min (c + m) 4097 → held d ≡ held (0 + z + y)
unfolding held
held-second z y c m d p q e = omega arith

held-third : (z y x c m d r : ℕ) → c ≡ min z 4097 → m ≡ min y 4097 → d ≡ min (c + m) 4097 → r ≡ min (d + x) 4097 →
    held r ≡ held (0 + z + y + 1 * x)
unfolding held
held-third z y x c m d r p q e f = omega arith

module _ (t : List ℕ) (from first second x₁ c : ℕ) (b₁ : (form_word t from 0 ≡ 0) × (x₁ ≡ form_word t from 1))
    (p₁ : c ≡ min (first * x₁) 4097) where
  first-bare : form_word t (from + 0) 0 ≡ 0
  first-bare = let z : from + 0 ≡ from = omega arith in ap (λ i. form_word t i 0) z ∙ b₁.0

  first_word : x₁ ≡ form_word t (from + 0) 1
  first_word = let z : from ≡ from + 0 = omega arith in b₁.1 ∙ ap (λ i. form_word t i 1) z

  pub sum_one : (n : ℕ) → n ≡ 1 → SumOf t from n first second c
  unfolding sum_from times
  sum_one n h = rw h (record {
    bare = one (λ j. form_word t (from + j) 0 ≡ 0) first-bare;
    sum = rw first_word at (held_first (first * x₁) c p₁);
  })

  module _ (x₂ m d : ℕ) (b₂ : (form_word t (from + 1) 0 ≡ 0) × (x₂ ≡ form_word t (from + 1) 1))
      (p₂ : m ≡ min (second * x₂) 4097) (q₂ : d ≡ min (c + m) 4097) where
    pub sum-two : (n : ℕ) → n ≡ 2 → SumOf t from n first second d
    unfolding sum_from times
    sum-two n h = rw h (record {
      bare = two (λ j. form_word t (from + j) 0 ≡ 0) first-bare b₂.0;
      sum = rw (first_word, b₂.1) at (held-second (first * x₁) (second * x₂) c m d p₁ p₂ q₂);
    })

    pub sum-three : (x₃ r n : ℕ) → (form_word t (from + 2) 0 ≡ 0) × (x₃ ≡ form_word t (from + 2) 1) →
        r ≡ min (d + x₃) 4097 → n ≡ 3 → SumOf t from n first second r
    unfolding sum_from times
    sum-three x₃ r n b₃ q₃ h = rw h (record {
      bare = three (λ j. form_word t (from + j) 0 ≡ 0) first-bare b₂.0 b₃.0;
      sum = rw (first_word, b₂.1, b₃.1) at (held-third (first * x₁) (second * x₂) x₃ c m d r p₁ p₂ q₂ q₃);
    })
