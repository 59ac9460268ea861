-- Signs. Assumes nothing.
use mathlib.Core.List.{List}
use mathlib.Core.Logic.{◌≢◌}
use mathlib.Core.Path.{◌∙◌, ◌≡◌, ap, refl, subst, sym}
use Prim.Native.Nat.{◌*◌, ◌+◌, ◌-◌, ◌<◌, ◌≤◌, suc, zero, ℕ}
use native.Mathlib.Decide.{dec_lt, ℕ_discrete}
use native.Mathlib.Numerals.{add-one}
use native.Mathlib.Omega.{arith}
use lib.ListN.{get_or, length, length-set, set}
use lib.Seq.{get_or-set_other, get_or-set_same}
use borrow.Author.Tests.{eq-eqb, ne_eqb}
use Rattle.dfa.specs.Graph.{EdgeOf, Edges, letter, target, δ}
use Rattle.dfa.proofs.laws.Look.{edges-tail}
use Rattle.dfa.proofs.laws.Edges.{edge_to}
use Rattle.dfa_smallest.specs.Classes.{SameInto}
use Rattle.dfa_classes.specs.Places.{class_at, copy_at, member_at}
use Rattle.dfa_classes.proofs.laws.Packed.{edge-room, packed_keep, target-low}
use Rattle.dfa_splitting.specs.inner.Into.{Entering, LeftAlike}
use Rattle.dfa_splitting.specs.inner.Signs.{HasSign, SignLoop, Signable, SignedTo, Signing, mixed, sign_from}
use Rattle.dfa_splitting.specs.inner.Signs.{sign_of}
use Rattle.dfa_splitting.proofs.laws.Into.{both_out, left-only, left_out, letters-differ, right-only}

-- the sign after one edge, and after the last
module _ (G : List ℕ) (n : ℕ) (cls : ℕ → ℕ) (s : ℕ) where
  sign-hit : (k i v : ℕ) → cls (target G n i) ≡ s
      → sign_from G n cls s (suc k) i v ≡ sign_from G n cls s k (i + 1) (mixed v (letter G n i))
  unfolding sign_from
  sign-hit k i v e = rw (eq-eqb (cls (target G n i)) s e)
      (ap (λ j. sign_from G n cls s k j (mixed v (letter G n i))) (sym (add-one i)))

  sign-miss : (k i v : ℕ) → cls (target G n i) ≢ s
      → sign_from G n cls s (suc k) i v ≡ sign_from G n cls s k (i + 1) v
  unfolding sign_from
  sign-miss k i v ne = rw (ne_eqb (cls (target G n i)) s ne) (ap (λ j. sign_from G n cls s k j v) (sym (add-one i)))

  sign_zero : (i v : ℕ) → sign_from G n cls s zero i v ≡ v
  unfolding sign_from
  sign_zero i v = refl

  pub sign-into : (i end v : ℕ) → i < end → cls (target G n i) ≡ s
      → sign_from G n cls s (end - i) i v ≡ sign_from G n cls s (end - (i + 1)) (i + 1) (mixed v (letter G n i))
  sign-into i end v h e = ap (λ k. sign_from G n cls s k i v) {x = end - i} {y = suc (end - (i + 1))} (omega arith)
      ∙ sign-hit (end - (i + 1)) i v e

  pub sign-past : (i end v : ℕ) → i < end → cls (target G n i) ≢ s
      → sign_from G n cls s (end - i) i v ≡ sign_from G n cls s (end - (i + 1)) (i + 1) v
  sign-past i end v h ne = ap (λ k. sign_from G n cls s k i v) {x = end - i} {y = suc (end - (i + 1))} (omega arith)
      ∙ sign-miss (end - (i + 1)) i v ne

  pub sign-end : (i end v : ℕ) → end ≤ i → sign_from G n cls s (end - i) i v ≡ v
  sign-end i end v h = ap (λ k. sign_from G n cls s k i v) {x = end - i} {y = zero} (omega arith) ∙ sign_zero i v

-- edges by which the same letters lead into the class give the same sign
module _ (G : List ℕ) (n : ℕ) (cls : ℕ → ℕ) (s : ℕ) (some : 0 < s) (dead : cls (n - 1) ≡ 0) where
  abbrev Alike : ℕ → ℕ → ℕ → ℕ → ℕ → Type 0
  Alike i ie j je v = sign_from G n cls s (ie - i) i v ≡ sign_from G n cls s (je - j) j v

  left-past : (i ie j je : ℕ) → Edges G n i ie → i < ie → cls (target G n i) ≢ s → LeftAlike G n cls s i ie j je
      → LeftAlike G n cls s (i + 1) ie j je
  left-past i ie j je e h ne x m = let o = left_out G n cls s some dead i ie e h ne m in
      ((λ y. (x m).0 (o.1 y)), (λ y. o.0 ((x m).1 y)))

  right-past : (i ie j je : ℕ) → Edges G n j je → j < je → cls (target G n j) ≢ s → LeftAlike G n cls s i ie j je
      → LeftAlike G n cls s i ie (j + 1) je
  right-past i ie j je e h ne x m = let o = left_out G n cls s some dead j je e h ne m in
      ((λ y. o.0 ((x m).0 y)), (λ y. (x m).1 (o.1 y)))

  same-letter : (i ie j je : ℕ) → Edges G n i ie → Edges G n j je → i < ie → j < je → cls (target G n i) ≡ s
      → cls (target G n j) ≡ s → LeftAlike G n cls s i ie j je → letter G n i ≡ letter G n j
  same-letter i ie j je e f h k a b x = go (ℕ_discrete (letter G n i) (letter G n j))
    where
      go : Dec (letter G n i ≡ letter G n j) → letter G n i ≡ letter G n j
      go (yes q) = q
      go (no q) = absurd (letters-differ G n cls s some dead i ie j je e f h k a b q x)

  abbrev Rest : ℕ → ℕ → ℕ → Type 0
  Rest t ie je = (i j v : ℕ) → (ie - i) + (je - j) ≤ t → Edges G n i ie → Edges G n j je
      → LeftAlike G n cls s i ie j je → Alike i ie j je v

  sign-alike : (t ie je : ℕ) → Rest t ie je
  sign-alike zero ie je i j v l e f x = sign-end G n cls s i ie v (omega arith)
      ∙ sym (sign-end G n cls s j je v (omega arith))
  sign-alike (suc t) ie je i j v l e f x = go (λ i' j' v'. sign-alike t ie je i' j' v') (dec_lt i ie) (dec_lt j je)
      (ℕ_discrete (cls (target G n i)) s) (ℕ_discrete (cls (target G n j)) s)
    where
      go : Rest t ie je → Dec (i < ie) → Dec (j < je) → Dec (cls (target G n i) ≡ s) → Dec (cls (target G n j) ≡ s)
          → Alike i ie j je v
      go rec (no h) (no k) a b = sign-end G n cls s i ie v (omega arith)
          ∙ sym (sign-end G n cls s j je v (omega arith))
      go rec (yes h) k (no a) b = sign-past G n cls s i ie v h a
          ∙ rec (i + 1) j v (omega arith) (edges-tail G n i ie e h) f (left-past i ie j je e h a x)
      go rec (no h) (yes k) a (no b) = rec i (j + 1) v (omega arith) e (edges-tail G n j je f k)
          (right-past i ie j je f k b x) ∙ sym (sign-past G n cls s j je v k b)
      go rec (yes h) (yes k) (yes a) (no b) = rec i (j + 1) v (omega arith) e (edges-tail G n j je f k)
          (right-past i ie j je f k b x) ∙ sym (sign-past G n cls s j je v k b)
      go rec (yes h) (no k) (yes a) b = absurd (left-only G n cls s some dead i ie j je f h (omega arith) a x)
      go rec (no h) (yes k) a (yes b) = absurd (right-only G n cls s some dead i ie j je e k (omega arith) b x)
      go rec (yes h) (yes k) (yes a) (yes b) =
          let q = same-letter i ie j je e f h k a b x in
          sign-into G n cls s i ie v h a
          ∙ rec (i + 1) (j + 1) (mixed v (letter G n i)) (omega arith) (edges-tail G n i ie e h)
          (edges-tail G n j je f k) ((both_out G n cls s some dead i ie j je e f h k a b q).1 x)
          ∙ ap (λ m. sign_from G n cls s (je - (j + 1)) (j + 1) (mixed v m)) q
          ∙ sym (sign-into G n cls s j je v k b)

  -- states that go into the class by the same letters have the same sign
  pub same_sign : (p q : ℕ) → Edges G n (get_or G p 0) (get_or G (p + 1) 0) → Edges G n (get_or G q 0) (get_or G (q + 1) 0)
      → SameInto (δ G n) cls s p q → sign_of G n cls s p ≡ sign_of G n cls s q
  same_sign p q e f x = sign-alike ((get_or G (p + 1) 0 - get_or G p 0) + (get_or G (q + 1) 0 - get_or G q 0))
      (get_or G (p + 1) 0) (get_or G (q + 1) 0) (get_or G p 0) (get_or G q 0) 0 (omega arith) e f x

-- the loop of sign
module _ (G : List ℕ) (g n p : ℕ) (cls : ℕ → ℕ) (ws : List ℕ) (S : Signing G g n p cls ws) where
  pub sign-first : (s i end : ℕ) → i ≡ get_or ws (5 * n + p) 0 → end ≡ get_or ws (5 * n + (p + 1)) 0
      → SignLoop G n p cls s i end 0
  sign-first s i end e f =
      let a = e ∙ S.packed.firsts p (omega (arith, S.low)) in
      let b = f ∙ S.packed.firsts (p + 1) (omega (arith, S.low)) in
      let l = (S.packed.graph.edges p S.low).le in
      record { ends = b; from = omega arith; le = omega arith; left = rw (a, b) refl }

  module _ (s i end v : ℕ) (L : SignLoop G n p cls s i end v) where
    is-edge : i < end → EdgeOf G n p i
    is-edge h = record { below = S.low; from = L.from; to = omega (arith, L.ends) }

    pub sign-edge : i < end → Entering G g n i ws
    sign-edge h = record { packed = S.packed; source = p; edge = is-edge h }

    pub sign-room : i < end → (n ≤ 8192) × ((i < 262144) × (6 * n + 2 + 2 * i < length ws))
    sign-room h = edge-room G n g ws S.packed i (edge_to G n S.packed.graph p i (is-edge h))

    class-is : i < end → class_at ws (target G n i) ≡ cls (target G n i)
    class-is h = S.class (target G n i) (target-low G n g ws S.packed p i (is-edge h))

    pub sign-more : (a w : ℕ) → i < end → class_at ws (target G n i) ≡ s → a ≡ get_or ws (6 * n + 1 + 2 * i) 0
        → w ≡ mixed v a → SignLoop G n p cls s (i + 1) end w
    sign-more a w h e ea ew =
        let l = ea ∙ S.packed.letters i (edge_to G n S.packed.graph p i (is-edge h)) in
        record {
          ends = L.ends;
          from = omega (arith, L.from);
          le = omega arith;
          left = ap (sign_from G n cls s (end - (i + 1)) (i + 1)) (ew ∙ ap (mixed v) l)
              ∙ sym (sign-into G n cls s i end v h (sym (class-is h) ∙ e)) ∙ L.left;
        }

    pub sign-less : i < end → class_at ws (target G n i) ≢ s → SignLoop G n p cls s (i + 1) end v
    sign-less h ne = record {
      ends = L.ends;
      from = omega (arith, L.from);
      le = omega arith;
      left = sym (sign-past G n cls s i end v h (λ q. ne (class-is h ∙ q))) ∙ L.left;
    }

    pub sign-last : end ≤ i → v ≡ sign_of G n cls s p
    sign-last h = sym (sign-end G n cls s i end v h) ∙ L.left

-- the loop of sign_places
module _ (G : List ℕ) (n g s : ℕ) (cls : ℕ → ℕ) (low till : ℕ) (ws₀ : List ℕ) (A : Signable G n g cls ws₀) where
  module _ (i : ℕ) (ws : List ℕ) (D : SignedTo G n g s cls low i ws₀ ws) (h : i < n) where
    module _ (p : ℕ) (e : p ≡ member_at n ws i) where
      p-is : p ≡ member_at n ws₀ i
      p-is = let z = A.packed.sized in e ∙ D.keeps (n + i) (omega arith)

      pub p-low : p < n
      p-low = omega (arith, p-is, A.members i h)

      pub places-signing : Signing G g n p cls ws
      places-signing = let z = A.packed.sized in record {
        packed = packed_keep G n g ws₀ A.packed ws D.len (λ x a b. D.keeps x (omega arith));
        low = p-low;
        class = λ t l. D.keeps t (omega arith) ∙ A.class t l;
      }

      pub places-room : (n ≤ 8192) × ((g ≤ 600000) × (g + 3 * n + p < length ws))
      places-room = let z = A.packed.sized in (z.few, (omega arith, omega (arith, D.len, p-low)))

      module _ (v : ℕ) (ev : v ≡ sign_of G n cls s p) where
        abbrev w : List ℕ
        w = set ws (g + 3 * n + p) v

        own_sign : (q : ℕ) → q ≡ p → HasSign G n g s cls w q
        own_sign q r = ap (λ x. copy_at n g w x) r ∙ get_or-set_same ws (g + 3 * n + p) v 0 places-room.1.1 ∙ ev
            ∙ ap (sign_of G n cls s) (sym r)

        has : (q : ℕ) → HasSign G n g s cls ws q → HasSign G n g s cls w q
        has q k = go (ℕ_discrete q p)
          where
            go : Dec (q ≡ p) → HasSign G n g s cls w q
            go (yes r) = own_sign q r
            go (no r) = get_or-set_other ws (g + 3 * n + p) (g + 3 * n + q) v 0 (λ x. r (omega arith)) ∙ k

        pub places-again : (ws' : List ℕ) → ws' ≡ set ws (g + 3 * n + p) v → SignedTo G n g s cls low (i + 1) ws₀ ws'
        places-again ws' f = rw f (record {
          len = length-set ws (g + 3 * n + p) v ∙ D.len;
          keeps = λ x l. get_or-set_other ws (g + 3 * n + p) x v 0 (λ q. omega arith) ∙ D.keeps x l;
          stays = λ q k. has q (D.stays q k);
          signs = λ x a b. go x a b (ℕ_discrete x i);
        })
          where
            go : (x : ℕ) → low ≤ x → x < i + 1 → Dec (x ≡ i) → HasSign G n g s cls w (member_at n ws₀ x)
            go x a b (yes q) = own_sign (member_at n ws₀ x) (ap (member_at n ws₀) q ∙ sym p-is)
            go x a b (no q) = has (member_at n ws₀ x) (D.signs x a (omega arith))

  pub places-last : (i : ℕ) (ws : List ℕ) → SignedTo G n g s cls low i ws₀ ws → i ≤ till → till ≤ i
      → SignedTo G n g s cls low till ws₀ ws
  places-last i ws D a b = subst (λ k. SignedTo G n g s cls low k ws₀ ws) {x = i} {y = till} (omega arith) D
