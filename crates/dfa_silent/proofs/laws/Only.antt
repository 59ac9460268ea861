-- What a store among the ends leaves. Assumes nothing.
use mathlib.Core.List.{List}
use mathlib.Core.Path.{◌∙◌, refl}
use Prim.Native.Nat.{◌+◌, ◌<◌, ℕ}
use native.Mathlib.Omega.{arith}
use lib.ListN.{length-set, set}
use lib.Seq.{get_or-set_other}
use Rattle.dfa_silent.specs.inner.Settle.{Only, Steps}

pub only_none : (n : ℕ) (ws : List ℕ) → Only n ws ws
only_none n ws = record { len = refl; low = λ i h. refl; high = λ i h. refl }

pub only_set : (n i v : ℕ) (ws₀ ws : List ℕ) → i < n → Only n ws₀ ws → Only n ws₀ (set ws (n + i) v)
only_set n i v ws₀ ws h o = record {
  len = length-set ws (n + i) v ∙ o.len;
  low = λ j l. get_or-set_other ws (n + i) j v 0 (λ e. omega arith) ∙ o.low j l;
  high = λ j l. get_or-set_other ws (n + i) j v 0 (λ e. omega arith) ∙ o.high j l;
}

pub only-both : (n : ℕ) (w₀ w₁ w₂ : List ℕ) → Only n w₀ w₁ → Only n w₁ w₂ → Only n w₀ w₂
only-both n w₀ w₁ w₂ a b = record
    { len = b.len ∙ a.len; low = λ i h. b.low i h ∙ a.low i h; high = λ i h. b.high i h ∙ a.high i h }

-- what holds of the words before holds where only the ends have changed
pub steps-same : (n : ℕ) (ws₀ ws : List ℕ) → Only n ws₀ ws → Steps n ws₀ → Steps n ws
steps-same n ws₀ ws o s = record
    { few = s.few; room = omega (arith, s.room, o.len); small = λ p h. rw (o.low p h) (s.small p h) }
