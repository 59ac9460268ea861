-- Bytes at a place, and what follows them.
use Prim.Native.Nat.{ℕ, ◌+◌, ◌≤◌, ◌<◌}
use native.Mathlib.Omega.{arith}
use native.Mathlib.Numerals.{add-one}
use native.Mathlib.Nat.{add-zero}
use native.Mathlib.Decide.{dec_le}
use mathlib.Core.Path.{◌≡◌, refl, sym, ap, ◌∙◌}
use mathlib.Core.List.{List, [], ◌∷◌, ◌++◌, append_assoc}
use lib.ListN.{length, get_or, drop, drop_of_length-le}
use lib.Seq.{drop-cons, drop-drop, drop-append_seam, get_or-drop}
use Rattle.sheet_reader.proofs.Parsed.{Byte}

-- bytes that were read
module _ (s : List ℕ) where
  pub one_byte : (at k : ℕ) → Byte s at k → drop at s ≡ k ∷ drop (at + 1) s
  one_byte at k (l, e) = drop-cons s at 0 l ∙ rw (e, add-one at) refl

  pub two_bytes : (at k a : ℕ) → Byte s at k → Byte s (at + 1) a → drop at s ≡ k ∷ a ∷ drop (at + 2) s
  two_bytes at k a b c =
      let e : at + 1 + 1 ≡ at + 2 = omega arith in
      one_byte at k b ∙ ap (λ (l : List ℕ). k ∷ l) (one_byte (at + 1) a c ∙ rw e refl)

  pub three-bytes :
      (at k a d : ℕ) → Byte s at k → Byte s (at + 1) a → Byte s (at + 2) d → drop at s ≡ k ∷ a ∷ d ∷ drop (at + 3) s
  three-bytes at k a d b c f =
      let e : at + 2 + 1 ≡ at + 3 = omega arith in
      two_bytes at k a b c ∙ ap (λ (l : List ℕ). k ∷ a ∷ l) (one_byte (at + 2) d f ∙ rw e refl)

-- two parts that follow one another
pub join : {X Y : List ℕ} (x y Z : List ℕ) → X ≡ x ++ Y → Y ≡ y ++ Z → X ≡ (x ++ y) ++ Z
join x y Z p q = p ∙ ap (λ (l : List ℕ). x ++ l) q ∙ sym (append_assoc x y Z)

-- bytes by what the list is from a place on
module _ (s : List ℕ) where
  pub byte-there : (p k : ℕ) (l : List ℕ) → drop p s ≡ k ∷ l → Byte s p k
  byte-there p k l e = (inside (dec_le (length s) p), value)
    where
      inside : Dec (length s ≤ p) → p < length s
      inside (yes h) =
          let n : drop p s ≡ [] = drop_of_length-le s h in
          let z : ◌≡◌ {A = ℕ} 0 1 = cc in absurd (omega arith)
      inside (no h) = omega arith

      value : get_or s p 0 ≡ k
      value = ap (λ (n : ℕ). get_or s n 0) (sym (add-zero p)) ∙ sym (get_or-drop p s 0 0)
          ∙ ap (λ (x : List ℕ). get_or x 0 0) e

  pub past_one : (p k : ℕ) (l : List ℕ) → drop p s ≡ k ∷ l → drop (p + 1) s ≡ l
  past_one p k l e = sym (drop-drop 1 p s) ∙ ap (λ (x : List ℕ). drop 1 x) e

  pub past : (p : ℕ) (x y : List ℕ) → drop p s ≡ x ++ y → drop (p + length x) s ≡ y
  past p x y e =
      sym (drop-drop (length x) p s) ∙ ap (λ (z : List ℕ). drop (length x) z) e ∙ drop-append_seam x y

  -- the kind byte, the body bytes and what follows
  pub open_none : (p k : ℕ) (l : List ℕ) → drop p s ≡ k ∷ l → Byte s p k × (drop (p + 1 + 0) s ≡ l)
  open_none p k l e = (byte-there p k l e, rw (add-zero (p + 1)) (past_one p k l e))

  pub open-one : (p k a : ℕ) (l : List ℕ) → drop p s ≡ k ∷ a ∷ l →
      Byte s p k × Byte s (p + 1) a × (drop (p + 1 + 1) s ≡ l)
  open-one p k a l e =
      let e' =
      past_one p k (a ∷ l) e in (byte-there p k (a ∷ l) e, byte-there (p + 1) a l e', past_one (p + 1) a l e')

  pub open-two :
      (p k a d : ℕ) (l : List ℕ) → drop p s ≡ k ∷ a ∷ d ∷ l →
      Byte s p k × Byte s (p + 1) a × Byte s (p + 2) d × (drop (p + 1 + 2) s ≡ l)
  open-two p k a d l e =
      let (b, b', e') = open-one p k a (d ∷ l) e in
      let n : p + 1 + 1 ≡ p + 2 = omega arith in
      let n' : p + 1 + 2 ≡ p + 2 + 1 = omega arith in
      let e'' : drop (p + 2) s ≡ d ∷ l = rw n at e' in
      (b, b', byte-there (p + 2) d l e'', rw n' (past_one (p + 2) d l e''))

  pub two-parts :
      (p : ℕ) (x y z : List ℕ) → drop p s ≡ (x ++ y) ++ z →
      (drop p s ≡ x ++ (y ++ z)) × (drop (p + length x) s ≡ y ++ z)
  two-parts p x y z e = let e' = e ∙ append_assoc x y z in (e', past p x (y ++ z) e')
