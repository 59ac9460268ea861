-- Entries of the scope, and the ids taken.
use Prim.Native.Nat.{ℕ, zero, suc, ◌+◌, ◌*◌, ◌≤◌, ◌<◌}
use native.Mathlib.Omega.{arith}
use mathlib.Core.Path.{◌≡◌, refl, sym, ◌∙◌}
use mathlib.Core.Bool.{Bool, true}
use mathlib.Core.List.{List, ◌∷◌}
use lib.ListN.{length, set, length-set}
use lib.Seq.{get_or-set_same, get_or-set_other}
use borrow.Author.Tests.{eq-eqb, ne_eqb, le-leb}
use Rattle.sheet_written.specs.Written.{Name}
use Rattle.sheet_written.specs.Meaning.{Binder, id_of, meant, meaning}
use Rattle.sheet_written.specs.Hiding.{is_held}
use Rattle.sheet_written.specs.Renumber.{put, lowest_from, lowest}
use Rattle.sheet_written.proofs.Lowest.{by-id, put-here, put-past}
use Rattle.serve_renumber.specs.Work.{marked, Takes, bound_entry, held_in, arguments_in, becomes_in, arity, Scoped}

held-bound : (g c : ℕ) → held_in (bound_entry g c) ≡ true
unfolding held_in bound_entry
held-bound g c = le-leb 2048 (2048 + 256 * c + g) (omega arith)

arguments-bound : (g c : ℕ) → g < 256 → c ≤ 4 → arguments_in (bound_entry g c) ≡ c
unfolding arguments_in bound_entry
arguments-bound g c h i = omega arith

becomes-bound : (g c id : ℕ) → g < 256 → becomes_in (bound_entry g c) id ≡ g
unfolding becomes_in bound_entry
becomes-bound g c id h = rw (le-leb 2048 (2048 + 256 * c + g) (omega arith)) (omega arith)

-- one binder more
pub scoped-bound : (ns : List Name) (bs : List Binder) (f : ℕ → ℕ) (scope : List ℕ) (b : Binder) (id g c : ℕ) →
    Scoped ns bs f scope → id_of b ≡ id → id < 255 → g < 256 → c ≤ 4 → c ≡ arity (meant (length bs) b) →
    Scoped ns (b ∷ bs) (put id g f) (set scope id (bound_entry g c))
unfolding is_held meaning
scoped-bound ns bs f scope b id g c S i s h m a =
    let e : ℕ = bound_entry g c in
    let inside : id < length scope = omega (arith, S.sized) in
    record {
      sized = length-set scope id e ∙ S.sized;
      helds = λ j l. by-id j id
          (λ t. rw (t, get_or-set_same scope id e 0 inside, held-bound g c, eq-eqb (id_of b) id i) refl)
          (λ n. rw (get_or-set_other scope id j e 0 n, ne_eqb (id_of b) j (λ t. n (sym t ∙ i)))
          (S.helds j l));
      becomes = λ j l. by-id j id
          (λ t. rw (t, get_or-set_same scope id e 0 inside, becomes-bound g c id h, put-here id g f) refl)
          (λ n. rw (get_or-set_other scope id j e 0 n, put-past id g f j n) (S.becomes j l));
      counts = λ j l. by-id j id
          (λ t. rw (t, get_or-set_same scope id e 0 inside, arguments-bound g c h m, eq-eqb (id_of b) id i) a)
          (λ n. rw (get_or-set_other scope id j e 0 n, ne_eqb (id_of b) j (λ t. n (sym t ∙ i)))
          (S.counts j l));
    }

-- one id more taken
pub takes-put : (k : List ℕ) (taken : ℕ → Bool) (id : ℕ) → Takes k taken → Takes (set k id 1) (put id true taken)
takes-put k taken id T = record {
  sized = length-set k id 1 ∙ T.sized;
  marks = λ j l. by-id j id
      (λ t. rw (t, get_or-set_same k id 1 0 (omega (arith, T.sized)), put-here id true taken) refl)
      (λ n. rw (get_or-set_other k id j 1 0 n, put-past id true taken j n) (T.marks j l));
}

-- what is taken, in other words
pub takes_same : (k : List ℕ) (taken then : ℕ → Bool) → ((j : ℕ) → taken j ≡ then j) → Takes k taken → Takes k then
takes_same k taken then h T = record { sized = T.sized; marks = λ j l. T.marks j l ∙ h j }

-- the lowest id
lowest-from : (k : List ℕ) (taken : ℕ → Bool) (n id : ℕ) → Takes k taken → id + n ≤ 255 →
    lowest_from (marked k) id n ≡ lowest_from taken id n
unfolding lowest_from
lowest-from k taken zero id T h = refl
lowest-from k taken (suc n) id T h =
    rw (T.marks id (omega (arith, h)), lowest-from k taken n (suc id) T (omega (arith, h))) refl

pub lowest-same : (k : List ℕ) (taken : ℕ → Bool) → Takes k taken → lowest (marked k) ≡ lowest taken
unfolding lowest
lowest-same k taken T = lowest-from k taken 255 0 T (omega arith)
