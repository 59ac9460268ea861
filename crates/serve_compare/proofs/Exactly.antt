-- Demand 2: where nothing is refused, compare says "same" exactly if the two sheets have the same complete plays, and
-- else gives the first play of exactly one.
use Prim.Native.Nat.{ℕ, zero, suc}
use native.Mathlib.Omega.{arith}
use mathlib.Core.Path.{◌≡◌, refl, sym, ap, ◌∙◌}
use mathlib.Core.Logic.{◌⊎◌, inl, inr}
use mathlib.Core.List.{List, [], ◌∷◌, ◌++◌}
use Rattle.std.specs.Prelude.{Option, Some, None, Result, Ok, Err}
use Rattle.sheet_records.specs.declared.refusal.Cause.{Cause}
use lib.ListN.{length, take}
use Rattle.language.specs.Move.{Word, records}
use Rattle.sheet_written.specs.Written.{Sheet}
use Rattle.serve_compare.specs.Plays.{Alike, Only}
use Rattle.serve_compare.specs.Promise.{Same, Apart, Decided, same, apart, Compared, ComparedBy}
use Rattle.serve_compare.specs.Demands.{Shown, Exact, ExactAnswer}
use Rattle.sheet_judge.specs.Mark.{uses_of}
use Rattle.sheet_judge.specs.declared.mark.Uses.{Uses}
use Rattle.serve_compare.specs.declared.Comparison.{Comparison}
use Rattle.play_words.specs.declared.Difference.{Difference}
use Rattle.sheet_records.specs.declared.refusal.Sheets.{Sheets}
use Rattle.sheet_records.specs.declared.refusal.Sheets.TheVariants.{Old, New, Both}

-- a play of exactly one is not alike
pub not_alike : (which : Sheets) (S T : Sheet) (u : Word) → Only which S T u → Alike S T u → ⊥
unfolding Only
not_alike Old S T u o a = o.1 (a.0 o.0)
not_alike New S T u o a = o.1 (a.1 o.0)
not_alike Both S T u o a = o

-- which kind an answer is
side : Option Difference → ℕ
side None = 0
side (Some d) = 1

kind : Result Comparison Cause → ℕ
kind (Ok c) = side c.found
kind (Err x) = 2

-- "apart" is not "same"
pub not-same : (which : Sheets) (moves : ℕ) (u v w x : Uses) → Apart which moves u v ≡ Same w x → ⊥
unfolding kind side
not-same which moves u v w x e = let z : ◌≡◌ {A = ℕ} 1 0 = ap kind e in omega arith

-- what is written before the rest of play space stands first in it
stands-first : (xs ys : List ℕ) → take (length xs) (xs ++ ys) ≡ xs
stands-first [] ys = refl
stands-first (x ∷ xs) ys = ap (λ (y : List ℕ). x ∷ y) (stands-first xs ys)

module _ (S T : Sheet) (space : List ℕ) (r : Result Comparison Cause) (space' : List ℕ) where
  same_if : Decided S T space r space' → r ≡ Same (uses_of S) (uses_of T) → (u : Word) → Alike S T u
  same_if (same d) e = d.plays
  same_if (apart d) e = absurd (not-same _ _ _ _ _ _ (sym d.answer ∙ e))

  only_if : Decided S T space r space' → ((u : Word) → Alike S T u) → r ≡ Same (uses_of S) (uses_of T)
  only_if (same d) h = d.answer
  only_if (apart d) h = absurd (not_alike d.which S T d.play d.first.only (h d.play))

  one_of : Decided S T space r space' →
      ((r ≡ Same (uses_of S) (uses_of T)) × ((u : Word) → Alike S T u)) ⊎ Shown S T r space'
  one_of (same d) = inl (d.answer, d.plays)
  one_of (apart d) = inr (record {
    which = d.which;
    play = d.play;
    answer = d.answer;
    first = d.first;
    records_first = rw d.written (stands-first (records S.numbers d.play) _);
    short = d.short;
  })

-- THEOREM: demand 2
pub exact-answer : ExactAnswer
unfolding ComparedBy
exact-answer old new ws space r ws' space' p e = of (rw e at p)
  where
    of : Compared old new ws space r ws' space' → Exact old new r space'
    of c =
        let S = c.first_sheet in
        let T = c.second_sheet in
        record {
          first_sheet = S;
          second_sheet = T;
          first_held = c.first_held;
          second_held = c.second_held;
          decided = one_of S T space r space' c.decided;
          same_exactly = (same_if S T space r space' c.decided, only_if S T space r space' c.decided);
        }
