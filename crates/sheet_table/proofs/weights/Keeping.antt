-- What stays of the rows, the marks, the slots and the forms of a table of parts while others are written.
use Prim.Native.Nat.{ℕ, ◌+◌, ◌*◌, ◌≤◌, ◌<◌}
use native.Mathlib.Omega.{arith}
use mathlib.Core.Path.{◌≡◌, refl, sym, ◌∙◌}
use mathlib.Core.Bool.{Bool, true, false}
use mathlib.Core.List.{List}
use lib.ListN.{length, get_or, set, length-set}
use lib.Seq.{get_or-set_other, get_or-drop}
use Rattle.language.specs.Choice.{pick}
use Rattle.language.specs.declared.Numbers.{Numbers}
use Rattle.sheet_rows.specs.Row.{cell, word, row_written, linked}
use Rattle.sheet_heads.specs.declared.head.Record.{Record}
use Rattle.weight_theory.specs.Stack.{marks_from, slots_from, height-at, form_words, marks_in, slot_of, height_of, spot}
use Rattle.weight_theory.specs.Stack.{form_word}
use Rattle.weight_theory.specs.Weighed.{OnlyAt}
use Rattle.sheet_reader.specs.table.Notes.{uses_name, noted}
use Rattle.sheet_table.proofs.Rows.{linked-else, written-else, noted-else}

-- the rows, marks and slots of the places from lo up to hi and the forms below a height are as they were
pub record Kept (t t' : List ℕ) (lo hi h : ℕ) : Type 0 where
  pub long : length t' ≡ length t
  pub rows : (p i : ℕ) → lo ≤ p → p < hi → i < 9 → word t' p i ≡ word t p i
  pub marks : (p : ℕ) → lo ≤ p → p < hi → get_or (marks_in t') p 0 ≡ get_or (marks_in t) p 0
  pub slots : (p : ℕ) → lo ≤ p → p < hi → slot_of t' p ≡ slot_of t p
  pub forms : (row i : ℕ) → row < h → i < form_words → form_word t' row i ≡ form_word t row i

pub kept-none : (t : List ℕ) (lo hi h : ℕ) → Kept t t lo hi h
kept-none t lo hi h = record {
  long = refl;
  rows = λ p i a b c. refl;
  marks = λ p a b. refl;
  slots = λ p a b. refl;
  forms = λ r i a b. refl;
}

pub kept_then : {t u v : List ℕ} {lo hi h : ℕ} → Kept t u lo hi h → Kept u v lo hi h → Kept t v lo hi h
kept_then A B = record {
  long = B.long ∙ A.long;
  rows = λ p i a b c. B.rows p i a b c ∙ A.rows p i a b c;
  marks = λ p a b. B.marks p a b ∙ A.marks p a b;
  slots = λ p a b. B.slots p a b ∙ A.slots p a b;
  forms = λ r i a b. B.forms r i a b ∙ A.forms r i a b;
}

pub kept_less : {t u : List ℕ} {lo hi h : ℕ} (lo' hi' h' : ℕ) → lo ≤ lo' → hi' ≤ hi → h' ≤ h → Kept t u lo hi h →
    Kept t u lo' hi' h'
kept_less lo' hi' h' l g k A = record {
  long = A.long;
  rows = λ p i a b c. A.rows p i (omega arith) (omega arith) c;
  marks = λ p a b. A.marks p (omega arith) (omega arith);
  slots = λ p a b. A.slots p (omega arith) (omega arith);
  forms = λ r i a b. A.forms r i (omega arith) b;
}

-- only words before the marks are written
pub record Before (t t' : List ℕ) : Type 0 where
  pub long : length t' ≡ length t
  pub rest : (i : ℕ) → marks_from ≤ i → get_or t' i 0 ≡ get_or t i 0

before-set : (t u : List ℕ) (j v : ℕ) → j < marks_from → Before t u → Before t (set u j v)
before-set t u j v h B = record {
  long = length-set u j v ∙ B.long;
  rest = λ i g. get_or-set_other u j i v 0 (λ e. omega arith) ∙ B.rest i g;
}

before-itself : (t : List ℕ) → Before t t
before-itself t = record { long = refl; rest = λ i g. refl }

before-then : (t u v : List ℕ) → Before t u → Before u v → Before t v
before-then t u v A B = record { long = B.long ∙ A.long; rest = λ i g. B.rest i g ∙ A.rest i g }

before-linked : (p j part : ℕ) (t : List ℕ) → p < 4096 → j < 4 → Before t (linked p j part t)
unfolding linked cell
before-linked p j part t h g = before-set t t (9 * p + (5 + j)) part (omega arith) (before-itself t)

before-row : (N : Numbers) (r : Record) (ty number end : ℕ) (t : List ℕ) → r.place < 4096 →
    Before t (row_written N r ty number end t)
unfolding row_written cell
before-row N r ty number end t h =
    before-set t _ (9 * r.place + 4) _ (omega arith)
    (before-set t _ (9 * r.place + 3) _ (omega arith)
    (before-set t _ (9 * r.place + 2) _ (omega arith)
    (before-set t _ (9 * r.place + 1) _ (omega arith)
    (before-set t t (9 * r.place + 0) _ (omega arith) (before-itself t)))))

before-noted : (r : Record) (t : List ℕ) → (uses_name r ≡ true → r.a < 256) → Before t (noted r t)
unfolding noted
before-noted r t h = go (uses_name r) h
  where
    go : (b : Bool) → (b ≡ true → r.a < 256) → Before t (pick b (set t (36864 + r.a) 1) t)
    go true g = let l : r.a < 256 = g refl in before-set t t (36864 + r.a) 1 (omega arith) (before-itself t)
    go false g = before-itself t

height-before : (t u : List ℕ) → Before t u → height_of u ≡ height_of t
unfolding height_of
height-before t u B = B.rest height-at (omega arith)

kept-before : (t u : List ℕ) (lo hi h : ℕ) → Before t u →
    ((p i : ℕ) → lo ≤ p → p < hi → i < 9 → word u p i ≡ word t p i) → Kept t u lo hi h
unfolding slot_of form_word spot
kept-before t u lo hi h B f = record {
  long = B.long;
  rows = f;
  marks = λ p a b.
      get_or-drop marks_from u p 0 ∙ (B.rest (marks_from + p) (omega arith) ∙ sym (get_or-drop marks_from t p 0));
  slots = λ p a b. B.rest (slots_from + p) (omega arith);
  forms = λ r i a b. B.rest (spot r i) (omega arith);
}

-- the place of a part is put into the row at p
pub kept-linked : (p j part : ℕ) (t : List ℕ) (lo hi h : ℕ) → p < 4096 → j < 4 →
    ((q : ℕ) → lo ≤ q → q < hi → q ≡ p → ⊥) → Kept t (linked p j part t) lo hi h
kept-linked p j part t lo hi h g k n =
    kept-before t (linked p j part t) lo hi h (before-linked p j part t g k)
    (λ q i a b c. linked-else p j part t q i k c (λ e f. n q a b e))

pub height-linked : (p j part : ℕ) (t : List ℕ) → p < 4096 → j < 4 → height_of (linked p j part t) ≡ height_of t
height-linked p j part t g k = height-before t (linked p j part t) (before-linked p j part t g k)

-- the row of a record is written, and its use noted
module _ (N : Numbers) (r : Record) (ty number end : ℕ) (t : List ℕ) (low : r.place < 4096)
    (small : uses_name r ≡ true → r.a < 256) where
  before-closed : Before t (noted r (row_written N r ty number end t))
  before-closed =
      before-then t (row_written N r ty number end t) (noted r (row_written N r ty number end t))
      (before-row N r ty number end t low) (before-noted r (row_written N r ty number end t) small)

  pub kept-closed : (lo hi h : ℕ) → hi ≤ 4096 → ((q : ℕ) → lo ≤ q → q < hi → q ≡ r.place → ⊥) →
      Kept t (noted r (row_written N r ty number end t)) lo hi h
  kept-closed lo hi h g n =
      kept-before t (noted r (row_written N r ty number end t)) lo hi h before-closed
      (λ q i a b c. noted-else r (row_written N r ty number end t) q i (omega arith) c
      ∙ written-else N r ty number end t q i c (λ e. absurd (n q a b e)))

  pub height-closed : height_of (noted r (row_written N r ty number end t)) ≡ height_of t
  height-closed = height-before t (noted r (row_written N r ty number end t)) before-closed

-- a record is weighed
pub kept-weighed : (t u : List ℕ) (at h : ℕ) → at ≤ 4096 → OnlyAt t u at h → Kept t u 0 at h
unfolding word cell
kept-weighed t u at h g O = record {
  long = O.long;
  rows = λ p i a b c. O.table (9 * p + i) (omega arith);
  marks = λ p a b. O.marks p (λ e. omega arith) (omega arith);
  slots = λ p a b. O.slots p (λ e. omega arith) (omega arith);
  forms = O.forms;
}
