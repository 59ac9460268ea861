-- States that go into one class by the same letters, brought together. Assumes nothing.
use mathlib.Core.Bool.{Bool, false, true}
use mathlib.Core.List.{List}
use mathlib.Core.Logic.{◌↔◌, ◌⊎◌, inl, inr}
use mathlib.Core.Path.{◌∙◌, ◌≡◌, ap, refl, subst, sym}
use Prim.Native.Nat.{◌*◌, ◌+◌, ◌-◌, ◌<◌, ◌≤◌, ℕ}
use native.Mathlib.Decide.{dec_lt, ℕ_discrete}
use native.Mathlib.Omega.{arith}
use lib.ListN.{length}
use Rattle.dfa.specs.Graph.{δ}
use Rattle.dfa.proofs.laws.Live.{no_true}
use Rattle.dfa.proofs.laws.Look.{δ-lt}
use Rattle.dfa_smallest.specs.Classes.{SameInto}
use Rattle.dfa_classes.specs.Places.{class_at, copy_at, exchanged, from_at, member_at, place_at, to_at}
use Rattle.dfa_splitting.specs.inner.Grouping.{Groupable, GroupedTo, Quick}
use Rattle.dfa_splitting.specs.inner.Into.{Comparing}
use Rattle.dfa_classes.proofs.laws.Packed.{packed_keep}
use Rattle.dfa_classes.proofs.laws.Places.{exchanged-length, exchanged-member, exchanged-other, exchanged-parted}
use Rattle.dfa_classes.proofs.laws.Places.{swap-left, swap-other, swap-right}
use Rattle.dfa_classes.proofs.laws.Touching.{few-classes}

-- classes that agree on the states agree on what goes into them
pub same-into-of : (δ : ℕ → ℕ → ℕ) (cls cls' : ℕ → ℕ) (s p q : ℕ) → ((m : ℕ) → cls' (δ p m) ≡ cls (δ p m))
    → ((m : ℕ) → cls' (δ q m) ≡ cls (δ q m)) → SameInto δ cls s p q → SameInto δ cls' s p q
same-into-of δ cls cls' s p q a b h m =
    ((λ x. b m ∙ (h m).0 (sym (a m) ∙ x)), (λ x. a m ∙ (h m).1 (sym (b m) ∙ x)))

module _ (G : List ℕ) (n g s : ℕ) (own : ℕ → ℕ) (count c low till : ℕ) (ws₀ : List ℕ)
    (A : Groupable G n g s own count c low till ws₀) where
  top : till ≤ n
  top = omega (arith, A.to, A.parted.top c A.class)

  pub first-low : (p : ℕ) → p ≡ member_at n ws₀ low → p < n
  first-low p e = rw e (A.parted.member_low low (omega (arith, A.less, top)))

  pub group-small : till ≤ 8192
  group-small = let z = A.packed.sized in omega (arith, top)

  pub group-first : (i : ℕ) → i ≡ low + 1 → GroupedTo G n g s own count c low till ws₀ i i ws₀
  group-first i e = record {
    able = A;
    len = refl;
    keeps = λ x h. refl;
    fixed = λ x h k. refl;
    start = omega arith;
    order = omega arith;
    last = omega (arith, A.less);
    first = refl;
    same = λ x u v. subst (λ y. SameInto (δ G n) (class_at ws₀) s (member_at n ws₀ low) (member_at n ws₀ y)) {x = low}
        {y = x} (omega arith) (λ m. ((λ z. z), (λ z. z)));
    other = λ x u v h. omega arith;
  }

  module _ (end i : ℕ) (ws : List ℕ) (D : GroupedTo G n g s own count c low till ws₀ end i ws) (h : i < till)
      (p first : ℕ) (ep : p ≡ member_at n ws i) (ef : first ≡ member_at n ws₀ low) where
    -- what is asked along the way
    pub same-asks : Comparing G g n s first p ws
    same-asks = record {
      packed = D.able.packed;
      left = rw ef (A.parted.member_low low (omega (arith, A.less, top)));
      right = rw ep (D.able.parted.member_low i (omega (arith, top)));
      some = A.some;
      dead = D.able.dead;
    }

    -- the classes of states are read in ws as in ws₀
    to-first : SameInto (δ G n) (class_at ws) s first p → SameInto (δ G n) (class_at ws₀) s (member_at n ws₀ low) p
    to-first k = subst (λ f. SameInto (δ G n) (class_at ws₀) s f p) ef
        (same-into-of (δ G n) (class_at ws) (class_at ws₀) s first p
        (λ m. sym (D.keeps (δ G n first m) (inl (goes first m same-asks.left))))
        (λ m. sym (D.keeps (δ G n p m) (inl (goes p m same-asks.right)))) k)
      where
        goes : (x m : ℕ) → x < n → δ G n x m < n
        goes x m l = δ-lt G n x m A.packed.graph l

    of-first : SameInto (δ G n) (class_at ws₀) s (member_at n ws₀ low) p → SameInto (δ G n) (class_at ws) s first p
    of-first k = same-into-of (δ G n) (class_at ws₀) (class_at ws) s first p
        (λ m. D.keeps (δ G n first m) (inl (δ-lt G n first m A.packed.graph same-asks.left)))
        (λ m. D.keeps (δ G n p m) (inl (δ-lt G n p m A.packed.graph same-asks.right)))
        (subst (λ f. SameInto (δ G n) (class_at ws₀) s f p) (sym ef) k)

    -- p is left where it is
    pub group-leave : (b : Bool) → ((b ≡ true) ↔ SameInto (δ G n) (class_at ws) s first p) → b ≡ false
        → GroupedTo G n g s own count c low till ws₀ end (i + 1) ws
    group-leave b t f = record {
      able = D.able;
      len = D.len;
      keeps = D.keeps;
      fixed = D.fixed;
      start = D.start;
      order = omega (arith, D.order);
      last = omega arith;
      first = D.first;
      same = D.same;
      other = λ x u v k. go x u v k (ℕ_discrete x i);
    }
      where
        go : (x : ℕ) → end ≤ x → x < i + 1
            → SameInto (δ G n) (class_at ws₀) s (member_at n ws₀ low) (member_at n ws x) → Dec (x ≡ i) → ⊥
        go x u v k (yes q) = no_true (sym f ∙ t.1 (of-first (subst (SameInto (δ G n) (class_at ws₀) s (member_at n ws₀
            low))
            (ap (member_at n ws) q ∙ sym ep) k)))
        go x u v k (no q) = D.other x u (omega arith) k

    -- p has another sign
    pub group-pass : (v w : ℕ) → Quick G n g s low till ws₀ → v ≡ copy_at n g ws₀ first → w ≡ copy_at n g ws p
        → (w ≡ v → ⊥) → GroupedTo G n g s own count c low till ws₀ end (i + 1) ws
    group-pass v w Q ev ew ne = group-leave false ((λ e. no_true e), (λ k. absurd (ne (same k)))) refl
      where
        same : SameInto (δ G n) (class_at ws) s first p → w ≡ v
        same k = let z = A.packed.sized in ew ∙ D.keeps (g + 3 * n + p) (inr (omega arith))
            ∙ sym (Q.alike p same-asks.right (to-first k)) ∙ ap (copy_at n g ws₀) (sym ef) ∙ sym ev

    -- p stood between low and till from the beginning
    place-there : (low ≤ place_at n ws₀ p) × (place_at n ws₀ p < till)
    place-there = go (dec_lt (place_at n ws₀ p) low) (dec_lt (place_at n ws₀ p) till)
      where
        is-i : (place_at n ws₀ p < low) ⊎ (till ≤ place_at n ws₀ p) → i ≡ place_at n ws₀ p
        is-i o =
            let x = place_at n ws₀ p in
            let l = A.parted.place_low p same-asks.right in
            let e : member_at n ws x ≡ p = D.fixed x l o ∙ A.parted.member_place p same-asks.right in
            sym (D.able.parted.place_member i (omega (arith, top))) ∙ ap (place_at n ws) (sym ep ∙ sym e)
            ∙ D.able.parted.place_member x l

        go : Dec (place_at n ws₀ p < low) → Dec (place_at n ws₀ p < till)
            → (low ≤ place_at n ws₀ p) × (place_at n ws₀ p < till)
        go (yes a) b = absurd (omega (arith, is-i (inl a), D.start, D.order))
        go (no a) (no b) = absurd (omega (arith, is-i (inr (omega arith))))
        go (no a) (yes b) = (omega arith, b)

    -- p has the sign of the first: where it is that of one letter, it goes into s as the first does
    pub group-sure : (v w : ℕ) → Quick G n g s low till ws₀ → v ≡ copy_at n g ws₀ first → w ≡ copy_at n g ws p → w ≡ v
        → v < 134217729 → SameInto (δ G n) (class_at ws) s first p
    group-sure v w Q ev ew e l =
        let f = ev ∙ ap (copy_at n g ws₀) ef in
        of-first (Q.exact p same-asks.right place-there.0 place-there.1 (sym f ∙ sym e ∙ ew ∙ word)
        (omega (arith, f)))
      where
        word : copy_at n g ws p ≡ copy_at n g ws₀ p
        word = let z = A.packed.sized in D.keeps (g + 3 * n + p) (inr (omega arith))

    pub pass-asks : (p < n) × ((n ≤ 8192) × ((g ≤ 600000) × (g + 4 * n ≤ length ws)))
    pass-asks = let z = D.able.packed.sized in (same-asks.right, (z.few, (omega arith, z.room)))

    i-low : i < n
    i-low = omega (arith, top)

    end_low : end < n
    end_low = omega (arith, top, D.order)

    few : count ≤ n
    few = few-classes n ws own count D.able.parted

    pub exchange-asks : (n ≤ 8192) × ((end < n) × ((i < n) × ((5 * n ≤ length ws)
        × ((member_at n ws end < n) × (member_at n ws i < n)))))
    exchange-asks = let z = D.able.packed.sized in (
      z.few,
      (
        end_low,
        (
          i-low,
          (
            omega arith,
            (
              D.able.parted.member_low end end_low,
              D.able.parted.member_low i i-low,
            ),
          ),
        ),
      ),
    )

    abbrev w₁ : List ℕ
    w₁ = exchanged n ws end i

    room : 5 * n ≤ length ws
    room = let z = D.able.packed.sized in omega arith

    from_is : c < n → from_at n w₁ c ≡ from_at n ws c
    from_is l = exchanged-other n ws own count D.able.parted room end i end_low i-low (3 * n + c) (inr (omega
        arith))

    to_is : c < n → to_at n w₁ c ≡ to_at n ws c
    to_is l = exchanged-other n ws own count D.able.parted room end i end_low i-low (4 * n + c) (inr (omega arith))

    same-own : own (member_at n ws end) ≡ own (member_at n ws i)
    same-own =
        D.able.parted.whole c A.class end (omega (arith, D.able.from, D.start)) (omega (
          arith,
          D.able.to,
          D.order,
        ))
        ∙ sym (D.able.parted.whole c A.class i (omega (arith, D.able.from, D.start, D.order))
        (omega (arith, D.able.to)))

    member_is : (x : ℕ) → x < n → (x ≡ end → ⊥) → (x ≡ i → ⊥) → member_at n w₁ x ≡ member_at n ws x
    member_is x l a b = exchanged-member n ws own count D.able.parted room end i end_low i-low x l
        ∙ ap (member_at n ws) (swap-other end i x a b)

    at-end : member_at n w₁ end ≡ p
    at-end = exchanged-member n ws own count D.able.parted room end i end_low i-low end end_low
        ∙ ap (member_at n ws) (swap-left end i end refl) ∙ sym ep

    at_i : member_at n w₁ i ≡ member_at n ws end
    at_i = exchanged-member n ws own count D.able.parted room end i end_low i-low i i-low
        ∙ ap (member_at n ws) (swap-right end i i refl)

    -- p is brought to the front
    group-more : SameInto (δ G n) (class_at ws) s first p → GroupedTo G n g s own count c low till ws₀ (end + 1) (i + 1)
        w₁
    group-more k =
        let cl : c < n = omega (arith, A.class, few) in
        record {
          able = record {
            packed = packed_keep G n g ws D.able.packed w₁
                (exchanged-length n ws own count D.able.parted room end i end_low i-low)
                (λ x u v. exchanged-other n ws own count D.able.parted room end i end_low i-low x (inr (omega
                arith)));
            parted = exchanged-parted n ws own count D.able.parted room end i end_low i-low same-own few;
            some = A.some;
            dead = exchanged-other n ws own count D.able.parted room end i end_low i-low (n - 1)
                (inl (omega (arith, i-low))) ∙ D.able.dead;
            less = A.less;
            class = A.class;
            from = rw (from_is cl) D.able.from;
            to = rw (to_is cl) D.able.to;
          };
          len = exchanged-length n ws own count D.able.parted room end i end_low i-low ∙ D.len;
          keeps = λ x u. exchanged-other n ws own count D.able.parted room end i end_low i-low x u ∙ D.keeps x u;
          fixed = λ x l u. member_is x l (λ q. away x u (omega (arith, D.start)) (omega (arith, D.order)))
              (λ q. away x u (omega (arith, D.start, D.order)) (omega arith)) ∙ D.fixed x l u;
          start = omega (arith, D.start);
          order = omega (arith, D.order);
          last = omega arith;
          first = member_is low (omega (arith, D.start, end_low)) (λ q. omega (arith, D.start))
              (λ q. omega (arith, D.start, D.order)) ∙ D.first;
          same = λ x u v. same x u v (ℕ_discrete x end);
          other = λ x u v y. other x u v y (ℕ_discrete x i);
        }
      where
        away : (x : ℕ) → (x < low) ⊎ (till ≤ x) → low ≤ x → x < till → ⊥
        away x (inl l) a b = omega arith
        away x (inr l) a b = omega arith

        same : (x : ℕ) → low ≤ x → x < end + 1 → Dec (x ≡ end)
            → SameInto (δ G n) (class_at ws₀) s (member_at n ws₀ low) (member_at n w₁ x)
        same x u v (yes q) = subst (SameInto (δ G n) (class_at ws₀) s (member_at n ws₀ low))
            (sym (ap (member_at n w₁) q ∙ at-end)) (to-first k)
        same x u v (no q) = subst (SameInto (δ G n) (class_at ws₀) s (member_at n ws₀ low))
            (sym (member_is x (omega (arith, end_low)) q (λ r. omega (arith, D.order)))) (D.same x u (omega arith))

        other : (x : ℕ) → end + 1 ≤ x → x < i + 1
            → SameInto (δ G n) (class_at ws₀) s (member_at n ws₀ low) (member_at n w₁ x) → Dec (x ≡ i) → ⊥
        other x u v y (yes q) = D.other end (omega arith) (omega arith)
            (subst (SameInto (δ G n) (class_at ws₀) s (member_at n ws₀ low)) (ap (member_at n w₁) q ∙ at_i) y)
        other x u v y (no q) = D.other x (omega arith) (omega arith)
            (subst (SameInto (δ G n) (class_at ws₀) s (member_at n ws₀ low))
            (member_is x (omega (arith, i-low)) (λ r. omega arith) q) y)

    pub group-bring : (b : Bool) (w : List ℕ) → ((b ≡ true) ↔ SameInto (δ G n) (class_at ws) s first p) → b ≡ true
        → w ≡ exchanged n ws end i → GroupedTo G n g s own count c low till ws₀ (end + 1) (i + 1) w
    group-bring b w t f e = rw e (group-more (t.0 f))

  pub group-last : (end i : ℕ) (ws : List ℕ) → GroupedTo G n g s own count c low till ws₀ end i ws → till ≤ i
      → GroupedTo G n g s own count c low till ws₀ end till ws
  group-last end i ws D h = subst (λ x. GroupedTo G n g s own count c low till ws₀ end x ws) {x = i} {y = till}
      (omega (arith, D.last)) D
