-- Laws of the arguments looked at, by the tests of the function.
use Prim.Native.Nat.{ℕ, zero, suc, ◌-◌, ◌≤◌, ◌<◌}
use native.Mathlib.Omega.{arith}
use mathlib.Core.Path.{◌≡◌, refl, sym, ◌∙◌}
use mathlib.Core.Bool.{Bool, true, false}
use mathlib.Core.List.{List}
use borrow.Author.Tests.{le-leb, lt-leb, eq-eqb, ne_eqb}
use Rattle.sheet_rows.specs.Row.{word}
use Rattle.serve_profile.specs.inner.Pass.{loud_from}

pub any_none : (t : List ℕ) (left at end : ℕ) → left ≡ 0 → false ≡ loud_from t left at end
unfolding loud_from
any_none t left at end e = rw e refl

pub any-past : (t : List ℕ) (left at end : ℕ) → (left ≡ 0 → ⊥) → end ≤ at → false ≡ loud_from t left at end
unfolding loud_from
any-past t zero at end n h = absurd (n refl)
any-past t (suc left) at end n h = rw (le-leb end at h) refl

pub any_here : (t : List ℕ) (left at end class : ℕ) → (left ≡ 0 → ⊥) → at < end → class ≡ word t at 2 →
    (class ≡ 1 → ⊥) → true ≡ loud_from t left at end
unfolding loud_from
any_here t zero at end class n h e m = absurd (n refl)
any_here t (suc left) at end class n h e m =
    rw (lt-leb end at h, ne_eqb (word t at 2) 1 (λ q. m (e ∙ q))) refl

pub any-again : (t : List ℕ) (left fewer at end class next : ℕ) (r : Bool) → (left ≡ 0 → ⊥) → at < end →
    class ≡ word t at 2 → class ≡ 1 → next ≡ word t at 1 → fewer ≡ left - 1 → r ≡ loud_from t fewer next end →
    r ≡ loud_from t left at end
unfolding loud_from
any-again t zero fewer at end class next r n h e m k l g = absurd (n refl)
any-again t (suc left) fewer at end class next r n h e m k l g =
    let f : fewer ≡ left = omega (arith, l) in
    rw (lt-leb end at h, eq-eqb (word t at 2) 1 (sym e ∙ m)) (g ∙ rw (f, k) refl)
