-- The marks of a table's places, copied one after the other.
use Prim.Native.Nat.{ℕ, ◌+◌, ◌≤◌, ◌<◌}
use native.Mathlib.Decide.{ℕ_discrete}
use native.Mathlib.Omega.{arith}
use mathlib.Core.Path.{◌≡◌, sym, ap, ◌∙◌}
use mathlib.Core.List.{List}
use lib.ListN.{get_or, set, length, length-set}
use lib.Seq.{get_or-drop, get_or-set_same, get_or-set_other}
use Rattle.term_load.specs.Loaded.{MarksOf}

-- those of the first i places are copied
pub record Copied (t M : List ℕ) (i : ℕ) : Type 0 where
  pub long : length M ≡ 4096
  pub marks : MarksOf t M i

pub copied_none : (t M : List ℕ) → length M ≡ 4096 → Copied t M 0
copied_none t M l = record { long = l; marks = record { each = λ j h. absurd (omega arith) } }

copied_at : (t M : List ℕ) (i j v : ℕ) → i < length M → v ≡ get_or t (37120 + i) 0 → MarksOf t M i → Dec (j ≡ i) →
    j < i + 1 → get_or (set M i v) j 0 ≡ get_or t (37120 + j) 0
copied_at t M i j v h q e (yes p) l =
    ap (λ k. get_or (set M i v) k 0) p ∙ get_or-set_same M i v 0 h ∙ q ∙ ap (λ k. get_or t (37120 + k) 0) (sym p)
copied_at t M i j v h q e (no p) l =
    get_or-set_other M i j v 0 (λ r. p (omega arith)) ∙ e.each j (omega arith) ∙ get_or-drop 37120 t j 0

pub copied_more : (t M M' : List ℕ) (i v : ℕ) → Copied t M i → i < 4096 → v ≡ get_or t (37120 + i) 0 → M' ≡ set M i v →
    Copied t M' (i + 1)
copied_more t M M' i v C h q e = rw e (record {
  long = length-set M i v ∙ C.long;
  marks = record {
    each = λ j l.
        copied_at t M i j v (omega (arith, C.long)) q C.marks (ℕ_discrete j i) l ∙ sym (get_or-drop 37120 t j 0);
  };
})

pub copied_all : (t M : List ℕ) (i : ℕ) → 4096 ≤ i → Copied t M i → MarksOf t M 4096
copied_all t M i h C = record { each = λ j l. C.marks.each j (omega arith) }
