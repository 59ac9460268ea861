-- The heading and the type, written byte by byte. Assumes nothing.
use mathlib.Core.List.{List, [], ◌++◌, ◌∷◌}
use mathlib.Core.Path.{◌∙◌, ◌≡◌, ap, ap₂, refl, subst, sym}
use Prim.Native.Nat.{◌+◌, ◌<◌, ◌≤◌, ℕ}
use native.Mathlib.Nat.{zero-add}
use native.Mathlib.Numerals.{add-one}
use native.Mathlib.Omega.{arith}
use lib.ListN.{get_or, length, length-set, length-take, set, take}
use lib.Seq.{length-sets, sets, take-suc}
use Rattle.play_records.proofs.WritingPlays.{sets-append}

-- i bytes of s are written at the start of the space
pub record Headed (s space : List ℕ) (i : ℕ) (space' : List ℕ) : Type 0 where
  pub within : i ≤ length s
  pub same : space' ≡ sets space 0 (take i s)

-- one byte more
one_more : (space xs space₁ space₂ : List ℕ) (i v : ℕ) → length xs ≡ i → space₁ ≡ sets space 0 xs
    → space₂ ≡ set space₁ i v
    → space₂ ≡ sets space 0 (xs ++ (v ∷ []))
one_more space xs space₁ space₂ i v l a b =
    b ∙ ap₂ (λ (t : List ℕ) k. set t k v) a (sym l ∙ sym (zero-add (length xs))) ∙ sym (sets-append xs (v ∷ []) space 0)

taken-length : (i : ℕ) (s : List ℕ) → i ≤ length s → length (take i s) ≡ i
taken-length i s h = omega (arith, length-take i s, h)

pub headed-first : (s space : List ℕ) → Headed s space 0 space
headed-first s space = record { within = omega arith; same = refl }

-- the next byte of s
pub headed-again : (s space : List ℕ) (i : ℕ) (space₁ : List ℕ) → Headed s space i space₁ → (space₂ : List ℕ) (v : ℕ)
    → space₂ ≡ set space₁ i v → i < length s → v ≡ get_or s i 0 → Headed s space (i + 1) space₂
headed-again s space i space₁ H space₂ v b h e = record {
  within = omega arith;
  same = one_more space (take i s) space₁ space₂ i v (taken-length i s H.within) H.same b
      ∙ ap (λ (x : ℕ). sets space 0 (take i s ++ (x ∷ []))) e
      ∙ ap (sets space 0) (sym (take-suc s i 0 h))
      ∙ ap (λ k. sets space 0 (take k s)) (sym (add-one i));
}

-- the type after all of them
pub headed-last : (s space : List ℕ) (root i : ℕ) (space₁ : List ℕ) → i ≤ root → root ≤ i → Headed s space i space₁
    → (space₂ : List ℕ) (v : ℕ) → space₂ ≡ set space₁ root v → space₂ ≡ sets space 0 (take root s ++ (v ∷ []))
headed-last s space root i space₁ a b H space₂ v e =
    let K : Headed s space root space₁ = subst (λ k. Headed s space k space₁) {x = i} {y = root} (omega arith) H in
    one_more space (take root s) space₁ space₂ root v (taken-length root s K.within) K.same e

-- the space keeps its length
pub headed-length : (s space : List ℕ) (root i : ℕ) (space₁ : List ℕ) → Headed s space i space₁ → (space₂ : List ℕ)
    (v : ℕ) → space₂ ≡ set space₁ root v → length space₂ ≡ length space
headed-length s space root i space₁ H space₂ v e =
    ap length e ∙ length-set space₁ root v ∙ ap length H.same ∙ length-sets space 0 (take i s)
