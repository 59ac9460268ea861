-- Results of operators are codes: of a number for plus, minus, times and remainder, of a truth for the others.
use Rattle.std.specs.Prelude.{Option, None, Some}
use Prim.Native.Nat.{ℕ, zero, suc, ◌+◌, ◌≤◌, ◌<◌}
use native.Mathlib.Omega.{arith}
use mathlib.Core.Path.{◌≡◌, refl}
use mathlib.Core.Bool.{Bool, true, false}
use mathlib.Core.List.{List, [], ◌∷◌}
use lib.Dec.{eqb, ltb, leb}
use lib.ListN.{get_or}
use lib.IntN.{ℤ, pos, nat_abs, ◌+ℤ◌, ◌-ℤ◌, ◌*ℤ◌}
use lib.Signed.{lt_z}
use borrow.Author.Tests.{eq-eqb, ne_eqb, eqb-true, eqb-false, lt-ltb, ltb-true, ltb-false, leb-true}
use Rattle.language.specs.declared.Numbers.{Numbers}
use Rattle.language.specs.Choice.{pick}
use Rattle.language.specs.Number.{infinities, finites, extras, numbers, finite, class_of, special, signed}
use Rattle.language.specs.Tables.{entry, arithmetic, sums, differences, products, remainders}
use Rattle.language.specs.Operators.{equal, gives_number}
use Rattle.language.specs.Operator.{infinity_by, beyond, fit, fit_some, remainder, truth, by_classes, settled}
use Rattle.language.specs.Operator.{scaled, plus_of, minus_of, times_of, remainder_of, less_of, equal_of, operate}
use Rattle.language.proofs.NumberLaws.{code_below, by-test}

-- a result, if there is one, is below n
pick-below :
    {n r : ℕ} {a b : Option ℕ} (t : Bool) → (t ≡ true → a ≡ Some r → r < n) → (t ≡ false → b ≡ Some r → r < n) →
    pick t a b ≡ Some r → r < n
pick-below true h k = h refl
pick-below false h k = k refl

none_below : {n r : ℕ} → ◌≡◌ {A = Option ℕ} None (Some r) → r < n
none_below e = let z : ◌≡◌ {A = ℕ} 0 1 = cc in absurd (omega arith)

some_below : {n r c : ℕ} → c < n → Some c ≡ Some r → r < n
some_below {n} {r} {c} h e = let d : c ≡ r = cc in omega arith

truth-below : (b : Bool) {r : ℕ} → Some (truth b) ≡ Some r → r < 2
unfolding truth
truth-below true = some_below {c = 1} (omega arith)
truth-below false = some_below {c = 0} (omega arith)

-- no entry of a table is above 3
unfoldable few_of : List ℕ → Bool
few_of [] = true
few_of (x ∷ xs) = pick (leb x 3) (few_of xs) false

unfoldable few_in : List (List ℕ) → Bool
few_in [] = true
few_in (r ∷ rs) = pick (few_of r) (few_in rs) false

pick-both : (a b : Bool) → pick a b false ≡ true → (a ≡ true) × (b ≡ true)
pick-both true b e = (refl, e)
pick-both false b e = let z : ◌≡◌ {A = ℕ} 0 1 = cc in absurd (omega arith)

few-of : (xs : List ℕ) (i : ℕ) → few_of xs ≡ true → get_or xs i 0 ≤ 3
unfolding few_of
few-of [] i e = omega arith
few-of (x ∷ xs) zero e = leb-true x 3 (pick-both (leb x 3) (few_of xs) e).0
few-of (x ∷ xs) (suc i) e = few-of xs i (pick-both (leb x 3) (few_of xs) e).1

few-in : (t : List (List ℕ)) (a b : ℕ) → few_in t ≡ true → entry t a b ≤ 3
unfolding few_in
few-in [] a b e = omega arith
few-in (r ∷ rs) zero b e = few-of r b (pick-both (few_of r) (few_in rs) e).0
few-in (r ∷ rs) (suc a) b e = few-in rs a b (pick-both (few_of r) (few_in rs) e).1

-- there are four classes
pub class-below : (N : Numbers) (c : ℕ) → class_of N c < 4
unfolding class_of
class-below N c =
    by-test (ltb c (finites N)) (λ t. rw t (omega arith)) (λ t.
    by-test (eqb c (finites N)) (λ u. rw (t, u) (omega arith)) (λ u.
    by-test (eqb c (finites N + 1)) (λ w. rw (t, u, w) (omega arith)) (λ w. rw (t, u, w) (omega arith))))

module _ (N : Numbers) where
  -- the value of a class that is not finite, where there are such values
  special-below : (k : ℕ) → k ≤ 3 → N.rule ≡ infinities → special N k < numbers N
  unfolding special numbers extras finites
  special-below k h e = rw (eq-eqb N.rule 2 e) (omega arith)

  infinity-below : (v : ℤ) → N.rule ≡ infinities → infinity_by N v < numbers N
  unfolding infinity_by
  infinity-below v e =
      by-test (eqb (nat_abs v) 0) (λ t. rw t (special-below 3 (omega arith) e)) (λ t.
      by-test (lt_z v (pos 0)) (λ u. rw (t, u) (special-below 1 (omega arith) e)) (λ u.
      rw (t, u) (special-below 2 (omega arith) e)))

  fit-below : (v : ℤ) {r : ℕ} → fit N v ≡ Some r → r < numbers N
  unfolding fit beyond
  fit-below v =
      pick-below (ltb N.z (nat_abs v))
      (λ t. pick-below (eqb N.rule 0) (λ u. none_below) (λ u.
      some_below (by-test (eqb N.rule 2)
      (λ w. rw w (infinity-below v (eqb-true N.rule 2 w)))
      (λ w. rw w (code_below N v)))))
      (λ t. some_below (code_below N v))

  fit-some-below : (o : Option ℤ) {r : ℕ} → fit_some N o ≡ Some r → r < numbers N
  unfolding fit_some
  fit-some-below None =
      pick-below (eqb N.rule 2)
      (λ t. some_below (special-below 3 (omega arith) (eqb-true N.rule 2 t)))
      (λ t. none_below)
  fit-some-below (Some v) = fit-below v

  -- two values: both finite, or there are infinities
  pub data Pair (x y : ℕ) : Type 0 where
    finite-pair : x < finites N → y < finites N → Pair x y
    any-pair : N.rule ≡ infinities → Pair x y

  pair_of : (x y : ℕ) → x < numbers N → y < numbers N → Pair x y
  unfolding numbers extras
  pair_of x y h k =
      by-test (eqb N.rule 2) (λ t. any-pair (eqb-true N.rule 2 t)) (λ t.
      finite-pair (plain x t h) (plain y t k))
    where
      plain : (c : ℕ) → eqb N.rule 2 ≡ false → c < finites N + pick (eqb N.rule 2) 3 0 → c < finites N
      plain c t h = let l : c < finites N + 0 = rw t at h in omega arith

  pub finite-class : (c : ℕ) → c < finites N → class_of N c ≡ finite
  unfolding class_of
  finite-class c h = rw (lt-ltb c (finites N) h)

  module _ (x y : ℕ) (p : Pair x y) where
    settled-below :
        (t : List (List ℕ)) → few_in t ≡ true → entry t finite finite ≡ arithmetic → (o : Option ℕ) {r : ℕ} →
        (o ≡ Some r → r < numbers N) → settled N (by_classes t N x y) o ≡ Some r → r < numbers N
    unfolding settled
    settled-below t f z o {r} h = go p
      where
        go : Pair x y →
            pick (eqb (by_classes t N x y) 0) o (Some (special N (by_classes t N x y))) ≡ Some r → r < numbers N
        go (finite-pair a b) = λ e. h (rw (finite-class x a, finite-class y b, z) at e)
        go (any-pair e) =
            pick-below (eqb (by_classes t N x y) 0) (λ u. h) (λ u.
            some_below (special-below (by_classes t N x y) (few-in t (class_of N x) (class_of N y) f) e))

    scaled-below : (v : ℤ) {r : ℕ} → scaled N x y v ≡ Some r → r < numbers N
    unfolding scaled
    scaled-below v {r} = go p
      where
        go : Pair x y →
            pick (ltb x (finites N))
            (pick (ltb y (finites N)) (fit N v) (Some (infinity_by N v))) (Some (infinity_by N v)) ≡ Some r →
            r < numbers N
        go (finite-pair a b) = λ e. fit-below v (rw (lt-ltb x (finites N) a, lt-ltb y (finites N) b) at e)
        go (any-pair e) =
            pick-below (ltb x (finites N))
            (λ t. pick-below (ltb y (finites N)) (λ u. fit-below v) (λ u. some_below (infinity-below v e)))
            (λ t. some_below (infinity-below v e))

    pub operate-number : (op : ℕ) {r : ℕ} → op < equal → operate N op x y ≡ Some r → r < numbers N
    unfolding operate plus_of minus_of times_of remainder_of few_in few_of
    operate-number op h =
        pick-below (eqb op 0) (λ t. settled-below sums refl refl _ (fit-below (signed N x +ℤ signed N y))) (λ t₀.
        pick-below (eqb op 1) (λ t. settled-below differences refl refl _ (fit-below (signed N x -ℤ signed N y))) (λ t₁.
        pick-below (eqb op 2)
        (λ t. settled-below products refl refl _ (scaled-below (signed N x *ℤ signed N y))) (λ t₂.
        pick-below (eqb op 3)
        (λ t. settled-below remainders refl refl _ (fit-some-below (remainder (signed N x) (signed N y)))) (λ t₃.
        absurd (between (eqb-false op 0 t₀) (eqb-false op 1 t₁) (eqb-false op 2 t₂) (eqb-false op 3 t₃))))))
      where
        between : (op ≡ 0 → ⊥) → (op ≡ 1 → ⊥) → (op ≡ 2 → ⊥) → (op ≡ 3 → ⊥) → ⊥
        between a b c d = omega arith

  operate-truth : (op x y : ℕ) {r : ℕ} → equal ≤ op → operate N op x y ≡ Some r → r < 2
  unfolding operate
  operate-truth op x y h =
      rw (not-this 0 (omega arith), not-this 1 (omega arith), not-this 2 (omega arith), not-this 3 (omega arith))
      (pick-below (eqb op 4) (λ t. truth-below (equal_of N x y)) (λ t.
      pick-below (eqb op 5) (λ t. truth-below (less_of N x y)) (λ t.
      pick-below (eqb op 6) (λ t. truth-below (pick (eqb x 1) (eqb y 1) false)) (λ t.
      pick-below (eqb op 7) (λ t. truth-below (pick (eqb x 1) true (eqb y 1))) (λ t.
      truth-below (eqb x y))))))
    where
      not-this : (k : ℕ) → k < 4 → eqb op k ≡ false
      not-this k l = ne_eqb op k (λ e. omega arith)

  -- THEOREM: the result of an operator on two values is a value of its result
  pub operate-below :
      (op x y : ℕ) {r : ℕ} → x < numbers N → y < numbers N → operate N op x y ≡ Some r →
      r < pick (gives_number op) (numbers N) 2
  operate-below op x y h k e =
      by-test (gives_number op)
      (λ t. rw t (operate-number x y (pair_of x y h k) op (ltb-true op equal t) e))
      (λ t. rw t (operate-truth op x y (ltb-false op equal t) e))
