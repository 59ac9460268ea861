-- The changes of a list, one after the other, and the text of the answer of renumber.
use Prim.Native.Nat.{ℕ, suc, ◌+◌, ◌-◌, ◌*◌, ◌≤◌, ◌<◌}
use native.Mathlib.Omega.{arith}
use mathlib.Core.Path.{◌≡◌, refl, ap}
use mathlib.Core.Bool.{true, false}
use mathlib.Core.List.{List}
use Rattle.std.specs.Prelude.{Result, Ok, Err}
use lib.ListN.{get_or}
use Rattle.sheet_records.specs.declared.refusal.Cause.{Cause}
use Rattle.print_text.specs.Page.{Page, pushes}
use Rattle.print_text.specs.Text.{refused_text}
use Rattle.print_report.specs.Changes.{change_text, change_at, changes_text, changed_text, renumber_text, is_renumbered}
use Rattle.print_text.proofs.Pages.{pushes-append}

-- a change, by the bytes that are read
pub change-found : {q : Page} (p : Page) (list : List ℕ) (i low high old given : ℕ) → low ≡ get_or list (4 * i) 0 →
    high ≡ get_or list (4 * i + 1) 0 → old ≡ get_or list (4 * i + 2) 0 → given ≡ get_or list (4 * i + 3) 0 →
    q ≡ pushes (change_text (low + 256 * high) old given) p → q ≡ pushes (change_at i list) p
unfolding change_at
change-found p list i low high old given a b c d h = rw (← a, ← b, ← c, ← d) h

-- the loop over the changes: its start, a turn and its end
pub changes-start : (list : List ℕ) (count : ℕ) (p : Page) →
    pushes (changes_text (count - 0) 0 list) p ≡ pushes (changes_text count 0 list) p
changes-start list count p = ap (λ (n : ℕ). pushes (changes_text n 0 list) p) (omega arith)

module _ (list : List ℕ) (count i : ℕ) (p₀ p : Page)
    (inv : pushes (changes_text (count - i) i list) p ≡ pushes (changes_text count 0 list) p₀) where
  pub changes-again : (q : Page) → i < count → q ≡ pushes (change_at i list) p →
      pushes (changes_text (count - (i + 1)) (i + 1) list) q ≡ pushes (changes_text count 0 list) p₀
  unfolding changes_text
  changes-again q h e =
      let n : count - i ≡ suc (count - (i + 1)) = omega arith in
      let k = rw (n, pushes-append) at inv in
      rw e k

  pub changes-end : i ≤ count → count ≤ i → p ≡ pushes (changes_text count 0 list) p₀
  unfolding changes_text pushes
  changes-end h l = let n : count - i ≡ 0 = omega arith in rw n at inv

-- the whole text, and what else is told
module _ (p : Page) (list : List ℕ) {r : Result ℕ Cause} where
  pub told-changed : {q : Page} {n : ℕ} → r ≡ Ok n → q ≡ pushes (changed_text n list) p →
      (q ≡ pushes (renumber_text r list) p) × (true ≡ is_renumbered r)
  unfolding renumber_text is_renumbered
  told-changed e h = rw e (h, refl)

  pub told-refused : {q : Page} {x : Cause} → r ≡ Err x → q ≡ pushes (refused_text x) p →
      (q ≡ pushes (renumber_text r list) p) × (false ≡ is_renumbered r)
  unfolding renumber_text is_renumbered
  told-refused e h = rw e (h, refl)
