-- Signs of one letter, which say the letter. Assumes nothing.
use mathlib.Core.List.{List}
use mathlib.Core.Logic.{◌≢◌, ◌↔◌}
use mathlib.Core.Path.{◌∙◌, ◌≡◌, ap, sym}
use Prim.Native.Nat.{◌+◌, ◌-◌, ◌<◌, ◌≤◌, suc, zero, ℕ}
use native.Mathlib.Decide.{dec_lt, ℕ_discrete}
use native.Mathlib.Omega.{arith}
use lib.ListN.{get_or}
use Rattle.dfa.specs.Graph.{Edges, letter, look, target, δ}
use Rattle.dfa.proofs.laws.Look.{edges-tail, look_at, look-before, look-past}
use Rattle.dfa_smallest.specs.Classes.{SameInto}
use Rattle.dfa_splitting.specs.inner.Signs.{mixed, sign_from, sign_of}
use Rattle.dfa_splitting.proofs.laws.Into.{left_out, not_dead}
use Rattle.dfa_splitting.proofs.laws.Mixed.{mixed-first, mixed-more}
use Rattle.dfa_splitting.proofs.laws.Signs.{sign-end, sign-into, sign-past}

module _ (G : List ℕ) (n : ℕ) (cls : ℕ → ℕ) (s : ℕ) where
  abbrev left : ℕ → ℕ → ℕ → ℕ
  left i end v = sign_from G n cls s (end - i) i v

  -- the sign of more letters than one stays such a one
  many : (t end i v : ℕ) → end - i ≤ t → 134217729 ≤ v → 134217729 ≤ left i end v
  many zero end i v l h = rw (sign-end G n cls s i end v (omega arith)) h
  many (suc t) end i v l h = go (λ w. many t end (i + 1) w (omega arith)) (dec_lt i end)
      (ℕ_discrete (cls (target G n i)) s)
    where
      go : ((w : ℕ) → 134217729 ≤ w → 134217729 ≤ left (i + 1) end w) → Dec (i < end) → Dec (cls (target G n i) ≡ s)
          → 134217729 ≤ left i end v
      go rec (no k) a = rw (sign-end G n cls s i end v (omega arith)) h
      go rec (yes k) (no a) = rw (sign-past G n cls s i end v k a) (rec v h)
      go rec (yes k) (yes a) = rw (sign-into G n cls s i end v k a) (rec (mixed v (letter G n i))
          (mixed-more v (letter G n i) (omega arith)))

  module _ (some : 0 < s) (dead : cls (n - 1) ≡ 0) where
    -- no letter leads into the class by the edges from i to end
    abbrev Nowhere : ℕ → ℕ → Type 0
    Nowhere i end = (m : ℕ) → cls (look G n m (end - i) i) ≡ s → ⊥

    at-end : (i end : ℕ) → Edges G n i end → end ≤ i → Nowhere i end
    at-end i end e h m = not_dead G n cls s some dead (look G n m (end - i) i)
        (look-before G n m i end e (λ u. absurd (omega arith)))

    -- where the sign stays that of one letter, no edge more leads into the class
    abbrev Alone : ℕ → ℕ → ℕ → Type 0
    Alone i end v = Edges G n i end → left i end v < 134217729 → (left i end v ≡ v) × Nowhere i end

    alone : (t end i v : ℕ) → end - i ≤ t → 0 < v → Alone i end v
    alone zero end i v l h e f = (sign-end G n cls s i end v (omega arith), at-end i end e (omega arith))
    alone (suc t) end i v l h e f = go (alone t end (i + 1) v (omega arith) h) (dec_lt i end)
        (ℕ_discrete (cls (target G n i)) s)
      where
        go : Alone (i + 1) end v → Dec (i < end) → Dec (cls (target G n i) ≡ s) → (left i end v ≡ v) × Nowhere i end
        go rec (no k) a = (sign-end G n cls s i end v (omega arith), at-end i end e (omega arith))
        go rec (yes k) (no a) =
            let q = sign-past G n cls s i end v k a in
            let r = rec (edges-tail G n i end e k) (omega arith) in
            (q ∙ r.0, λ m x. r.1 m ((left_out G n cls s some dead i end e k a m).0 x))
        go rec (yes k) (yes a) =
            let q = sign-into G n cls s i end v k a in
            let w = mixed v (letter G n i) in
            absurd (omega (arith, f, q, many t end (i + 1) w (omega arith) (mixed-more v (letter G n i) h)))

    -- the letter that leads into the class is the one that the sign says
    abbrev Says : ℕ → ℕ → Type 0
    Says i end = Edges G n i end → left i end 0 < 134217729 → (m : ℕ)
        → (cls (look G n m (end - i) i) ≡ s) ↔ (m + 1 ≡ left i end 0)

    says_none : (i end : ℕ) → end ≤ i → Says i end
    says_none i end h e f m =
        ((λ x. absurd (at-end i end e h m x)), (λ x. absurd (omega (arith, x, sign-end G n cls s i end 0 h))))

    says-one : (i end : ℕ) → i < end → cls (target G n i) ≡ s → Says i end
    says-one i end k a e f m = go (ℕ_discrete (letter G n i) m)
      where
        q : left i end 0 ≡ left (i + 1) end (letter G n i + 1)
        q = sign-into G n cls s i end 0 k a
            ∙ ap (left (i + 1) end) (mixed-first (letter G n i) (e.small i (omega arith) k).0)

        r : (left (i + 1) end (letter G n i + 1) ≡ letter G n i + 1) × Nowhere (i + 1) end
        r = alone (end - (i + 1)) end (i + 1) (letter G n i + 1) (omega arith) (omega arith) (edges-tail G n i end e k)
            (omega (arith, f, q))

        go : Dec (letter G n i ≡ m) → (cls (look G n m (end - i) i) ≡ s) ↔ (m + 1 ≡ left i end 0)
        go (yes z) = ((λ x. omega (arith, q, r.0, z)), (λ x. ap cls (look_at G n m i end k z) ∙ a))
        go (no z) = (
          (λ x. absurd (r.1 m (sym (ap cls (look-past G n m i end k z)) ∙ x))),
          (λ x. absurd (z (omega (arith, q, r.0, x)))),
        )

    says_past : (i end : ℕ) → i < end → cls (target G n i) ≢ s → Says (i + 1) end → Says i end
    says_past i end k a rec e f m =
        let q = sign-past G n cls s i end 0 k a in
        let r = rec (edges-tail G n i end e k) (omega (arith, f, q)) m in
        let o = left_out G n cls s some dead i end e k a m in
        ((λ x. r.0 (o.0 x) ∙ sym q), (λ x. o.1 (r.1 (x ∙ q))))

    says : (t end i : ℕ) → end - i ≤ t → Says i end
    says zero end i l = says_none i end (omega arith)
    says (suc t) end i l = go (says t end (i + 1) (omega arith)) (dec_lt i end) (ℕ_discrete (cls (target G n i)) s)
      where
        go : Says (i + 1) end → Dec (i < end) → Dec (cls (target G n i) ≡ s) → Says i end
        go rec (no k) a = says_none i end (omega arith)
        go rec (yes k) (yes a) = says-one i end k a
        go rec (yes k) (no a) = says_past i end k a rec

    -- states with the same sign, that of one letter, go into the class by the same letters
    pub same-letters : (p q : ℕ) → Edges G n (get_or G p 0) (get_or G (p + 1) 0)
        → Edges G n (get_or G q 0) (get_or G (q + 1) 0) → sign_of G n cls s p ≡ sign_of G n cls s q
        → sign_of G n cls s p < 134217729 → SameInto (δ G n) cls s p q
    same-letters p q e f h l m =
        let a = says (get_or G (p + 1) 0 - get_or G p 0) (get_or G (p + 1) 0) (get_or G p 0) (omega arith) e l m in
        let b = says (get_or G (q + 1) 0 - get_or G q 0) (get_or G (q + 1) 0) (get_or G q 0) (omega arith) f
        (omega (arith, h)) m in
        ((λ x. b.1 (a.0 x ∙ h)), (λ x. a.1 (b.0 x ∙ sym h)))
