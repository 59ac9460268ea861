-- The turns of the loop over scopes and uses of procedures: what the present part becomes, the first one becomes.
use Prim.Native.Nat.{ℕ, ◌+◌, ◌-◌, ◌<◌, ◌≤◌}
use native.Mathlib.Omega.{arith}
use mathlib.Core.Path.{◌≡◌}
use mathlib.Core.List.{List}
use lib.ListN.{get_or}
use Rattle.sheet_rows.specs.PartKind.{PROCEDURE, ROUTINE, KIND, PARTS}
use Rattle.sheet_rows.specs.Row.{word}
use Rattle.term_closing.specs.Rows.{ROWS}
use Rattle.term_closing.specs.Close.{come_of, more_of}
use Rattle.term_expand.specs.Contract.{Expanding, Entered, Recorded}
use Rattle.term_expand.proofs.Joins.{kind-scope, kind-use, kind-record}
use Rattle.term_expand.proofs.Expansion.{by-come, by_end, by_kind}

-- the expansion of the first part has come to the part at a place: what that becomes, the first one becomes
pub record Led (t marks slots₀ : List ℕ) (level₀ left at₀ : ℕ) (rows₀ : List ℕ) (n₀ : ℕ) (slots rows : List ℕ)
    (level turns at n : ℕ) : Type 0 where
  pub leads : (after : List ℕ) (r m : ℕ) → Expanding t marks slots level turns at rows after n r m →
      Expanding t marks slots₀ level₀ left at₀ rows₀ after n₀ r m
  pub fewer : turns ≤ left

module _ (t marks slots₀ : List ℕ) (level₀ left at₀ : ℕ) (rows₀ : List ℕ) (n₀ : ℕ) where
  module _ (slots rows : List ℕ) (level turns at n : ℕ)
      (l : Led t marks slots₀ level₀ left at₀ rows₀ n₀ slots rows level turns at n) where
    -- no turns are left
    pub led-end : turns ≤ 0 → Expanding t marks slots₀ level₀ left at₀ rows₀ rows n₀ ROWS n
    led-end h = l.leads rows ROWS n (by_end t marks slots level turns at rows n (omega (arith, h)))

    module _ (come : ℕ) (e : come ≡ come_of (get_or marks at 0)) where
      -- a parameter's row
      pub led-come : (r : ℕ) → 0 < come → r ≡ get_or slots (come - 1) 0 →
          Expanding t marks slots₀ level₀ left at₀ rows₀ rows n₀ r n
      led-come r h g = l.leads rows r n (by-come t marks slots level turns at rows n e h g)

      module _ (z : come ≤ 0) (h : 0 < turns) (kind : ℕ) (k : kind ≡ word t at KIND) where
        -- the scope of a procedure
        pub led-scope : (p more : ℕ) → kind ≡ PROCEDURE → p ≡ word t at (PARTS + 1) → more ≡ more_of level 1 →
            Led t marks slots₀ level₀ left at₀ rows₀ n₀ slots rows more (turns - 1) p n
        led-scope p more f g i = record {
          leads = λ after r m x. l.leads after r m (by_kind t marks slots level turns at rows after n e z
              (λ y. omega (arith, h, y))
              (kind-scope t marks slots level (turns - 1) at rows after n r m kind k p more f g i x));
          fewer = omega (arith, l.fewer);
        }

        -- the term of a procedure that is used
        pub led-use : (inner between : List ℕ) (body more i : ℕ) → kind ≡ ROUTINE →
            Entered t marks slots inner level (turns - 1) at rows between n body more i →
            Led t marks slots₀ level₀ left at₀ rows₀ n₀ inner between more (turns - 1) body i
        led-use inner between body more i f u = record {
          leads = λ after r m x. l.leads after r m (by_kind t marks slots level turns at rows after n e z
              (λ y. omega (arith, h, y))
              (kind-use t marks slots level (turns - 1) at rows after n r m kind k f (u.used after r m x)));
          fewer = omega (arith, l.fewer);
        }

        -- any other part
        pub led-record : (after : List ℕ) (r m : ℕ) → (kind ≡ PROCEDURE → ⊥) → (kind ≡ ROUTINE → ⊥) →
            Recorded t marks slots level (turns - 1) at rows after n r m →
            Expanding t marks slots₀ level₀ left at₀ rows₀ after n₀ r m
        led-record after r m f g x = l.leads after r m (by_kind t marks slots level turns at rows after n e z
            (λ y. omega (arith, h, y))
            (kind-record t marks slots level (turns - 1) at rows after n r m kind k f g x))
