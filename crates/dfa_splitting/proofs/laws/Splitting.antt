-- A class split by the letters that lead into the class s. Assumes nothing.
use mathlib.Core.Bool.{cond}
use mathlib.Core.List.{List}
use mathlib.Core.Logic.{◌≢◌, ◌⊎◌, inl, inr}
use mathlib.Core.Path.{◌∙◌, ◌≡◌, ap, refl, subst, sym}
use Prim.Native.Nat.{◌*◌, ◌+◌, ◌-◌, ◌<◌, ◌≤◌, ℕ}
use native.Mathlib.Decide.{dec_lt, ℕ_discrete}
use native.Mathlib.Omega.{arith}
use lib.Dec.{eqb, ltb}
use lib.ListN.{get_or, length, length-set, set}
use lib.Seq.{get_or-set_other, get_or-set_same}
use borrow.Author.Tests.{eq-eqb, le-ltb, lt-ltb, ne_eqb}
use Rattle.dfa.specs.Graph.{δ}
use Rattle.dfa.proofs.laws.Look.{δ-lt}
use Rattle.dfa_smallest.specs.Classes.{Into, SameInto}
use Rattle.dfa_smallest.proofs.Pigeons.{pigeons}
use Rattle.dfa_classes.specs.Parted.{Parted}
use Rattle.dfa_classes.specs.Places.{class_at, copy_at, from_at, member_at, place_at, to_at, touched_at}
use Rattle.dfa_splitting.specs.inner.Grouping.{Groupable, GroupedTo, Quick}
use Rattle.dfa_splitting.specs.inner.Signs.{Signed}
use Rattle.dfa_splitting.specs.inner.Splitting.{CarveState, Carved, Carving, Parting, SplitOne, Splitting}
use Rattle.dfa_splitting.specs.inner.Splitting.{front, rear}
use Rattle.dfa_classes.specs.inner.Touching.{IsTouched}
use Rattle.dfa_splitting.proofs.laws.Grouping.{same-into-of}
use Rattle.dfa_classes.proofs.laws.Packed.{packed_keep}
use Rattle.dfa_classes.proofs.laws.Places.{first_member}
use Rattle.dfa_classes.proofs.laws.Touching.{few-classes, parted-keep}

-- going into s by the same letters is an equivalence
module _ (d : ℕ → ℕ → ℕ) (cls : ℕ → ℕ) (s : ℕ) where
  into-sym : (p q : ℕ) → SameInto d cls s p q → SameInto d cls s q p
  into-sym p q h m = ((h m).1, (h m).0)

  into-trans : (p q r : ℕ) → SameInto d cls s p q → SameInto d cls s q r → SameInto d cls s p r
  into-trans p q r h k m = ((λ x. (k m).0 ((h m).0 x)), (λ x. (h m).1 ((k m).1 x)))

  pub into-moves : (p q : ℕ) → SameInto d cls s p q → Into d cls s p → Into d cls s q
  into-moves p q h i = (i.0, (h i.0).0 i.1)

  into-none : (p q : ℕ) → (Into d cls s p → ⊥) → (Into d cls s q → ⊥) → SameInto d cls s p q
  into-none p q a b m = ((λ x. absurd (a (m, x))), (λ x. absurd (b (m, x))))

-- where the words of signs stay, signs do
pub signed-keep : (G : List ℕ) (n g s : ℕ) (cls : ℕ → ℕ) (ws ws' : List ℕ) → Signed G n g s cls ws
    → ((p : ℕ) → copy_at n g ws' p ≡ copy_at n g ws p) → Signed G n g s cls ws'
signed-keep G n g s cls ws ws' S k = record {
  alike = λ p q a b i x. k p ∙ S.alike p q a b i x ∙ sym (k q);
  exact = λ p q a b i j e l. S.exact p q a b i j (sym (k p) ∙ e ∙ k q) (omega (arith, k p));
}

pub signed-set : (G : List ℕ) (n g s : ℕ) (cls : ℕ → ℕ) (ws ws' : List ℕ) (d : ℕ) → Signed G n g s cls ws → d < n
    → ws' ≡ set ws (g + n + d) 0 → Signed G n g s cls ws'
signed-set G n g s cls ws ws' d S l e = rw e (signed-keep G n g s cls ws (set ws (g + n + d) 0) S
    (λ p. get_or-set_other ws (g + n + d) (g + 3 * n + p) 0 0 (λ q. omega arith)))

-- before the loop of split
module _ (G : List ℕ) (n g s : ℕ) (cls : ℕ → ℕ) (count : ℕ) (ws : List ℕ) (cur : ℕ → ℕ) (k : ℕ)
    (S : Splitting G n g s cls count ws cur k) where
  P : Parting G n g s cls count ws cur k
  P = S.parting

  few : k ≤ n
  few = few-classes n ws cur k P.parted

  module _ (d : ℕ) (low : d < k) (some : 0 < touched_at n g ws d) where
    pub class-asks : (d < n) × ((n ≤ 8192) × (5 * n ≤ length ws))
    class-asks = let z = P.packed.sized in (omega (arith, few), (z.few, omega arith))

    pub touched-asks : (d < n) × ((n ≤ 8192) × ((g ≤ 600000) × (g + 4 * n ≤ length ws)))
    touched-asks = let z = P.packed.sized in (omega (arith, few), (z.few, (omega arith, z.room)))

    pub zero-asks : (d < n) × ((0 ≤ n) × ((n ≤ 8192) × ((g ≤ 600000) × (g + 4 * n ≤ length ws))))
    zero-asks = let z = P.packed.sized in (omega (arith, few), (omega arith, (z.few, (omega arith, z.room))))

    pub sum-small : from_at n ws d + touched_at n g ws d ≤ 8192
    sum-small = let z = P.packed.sized in omega (arith, P.within d low, P.parted.top d low)

    abbrev w₁ : List ℕ
    w₁ = set ws (g + n + d) 0

    w₁-other : (x : ℕ) → x ≢ g + n + d → get_or w₁ x 0 ≡ get_or ws x 0
    w₁-other x ne = get_or-set_other ws (g + n + d) x 0 0 ne

    w₁-zero : touched_at n g w₁ d ≡ 0
    w₁-zero = let z = P.packed.sized in get_or-set_same ws (g + n + d) 0 0 (omega (arith, few))

    w₁-touched : (c : ℕ) → c ≢ d → touched_at n g w₁ c ≡ touched_at n g ws c
    w₁-touched c ne = w₁-other (g + n + c) (λ q. ne (omega arith))

    other-d : (c : ℕ) → 0 < touched_at n g w₁ c → c ≢ d
    other-d c h e = omega (arith, h, ap (touched_at n g w₁) e, w₁-zero)

    w₁-words : (x : ℕ) → x < g + n → get_or w₁ x 0 ≡ get_or ws x 0
    w₁-words x h = w₁-other x (λ q. omega arith)

    parting₁ : Parting G n g s cls count w₁ cur k
    parting₁ =
        let z = P.packed.sized in
        record {
          packed = packed_keep G n g ws P.packed w₁ (length-set ws (g + n + d) 0) (λ x a b. w₁-words x b);
          parted = parted-keep n ws w₁ cur k P.parted (λ x a b. w₁-words x (omega arith));
          class = λ p h. w₁-words p (omega arith) ∙ P.class p h;
          some = P.some;
          dead = P.dead;
          above = P.above;
          finer = P.finer;
          number = P.number;
          joined = P.joined;
          within = λ c h. within c h (ℕ_discrete c d);
          fresh = λ c a b. w₁-touched c (λ q. omega arith) ∙ P.fresh c a b;
          goes = λ p h t i. P.goes p h (omega (arith, w₁-touched (cur p) (other-d (cur p) t))) (back p h t i);
          comes = λ p h t i. forth p h t (P.comes p h (omega (arith, w₁-touched (cur p) (other-d (cur p) t))) i);
        }
      where
        from-w : (c : ℕ) → c < n → from_at n w₁ c ≡ from_at n ws c
        from-w c h = let z = P.packed.sized in w₁-words (3 * n + c) (omega arith)

        to-w : (c : ℕ) → c < n → to_at n w₁ c ≡ to_at n ws c
        to-w c h = let z = P.packed.sized in w₁-words (4 * n + c) (omega arith)

        place-w : (p : ℕ) → p < n → place_at n w₁ p ≡ place_at n ws p
        place-w p h = let z = P.packed.sized in w₁-words (2 * n + p) (omega arith)

        cur-n : (p : ℕ) → p < n → cur p < n
        cur-n p h = omega (arith, P.parted.own_low p h, few)

        within : (c : ℕ) → c < k → Dec (c ≡ d) → from_at n w₁ c + touched_at n g w₁ c ≤ to_at n w₁ c
        within c h (yes q) = subst (λ x. from_at n w₁ x + touched_at n g w₁ x ≤ to_at n w₁ x) {x = d} {y = c} (sym q)
            (omega (arith, w₁-zero, from-w d (omega (arith, few)), to-w d (omega (arith, few)), P.parted.some d low))
        within c h (no q) = omega (
          arith,
          w₁-touched c q,
          from-w c (omega (arith, few)),
          to-w c (omega (arith, few)),
          P.within c h,
        )

        back : (p : ℕ) → p < n → 0 < touched_at n g w₁ (cur p) → IsTouched n g cur w₁ p → IsTouched n g cur ws p
        back p h t i = omega (
          arith,
          i,
          place-w p h,
          from-w (cur p) (cur-n p h),
          w₁-touched (cur p) (other-d (cur p) t),
        )

        forth : (p : ℕ) → p < n → 0 < touched_at n g w₁ (cur p) → IsTouched n g cur ws p → IsTouched n g cur w₁ p
        forth p h t i = omega (
          arith,
          i,
          place-w p h,
          from-w (cur p) (cur-n p h),
          w₁-touched (cur p) (other-d (cur p) t),
        )

    pub carve-first : (start end till : ℕ) (w : List ℕ) → start ≡ from_at n ws d → end ≡ to_at n ws d
        → till ≡ start + touched_at n g ws d → w ≡ set ws (g + n + d) 0
        → CarveState G n g s cls count k till end w w k d start
    carve-first start end till w es ee et ew = rw ew (record {
      cur = cur;
      more = omega arith;
      len = refl;
      keeps = λ x h. refl;
      carving = record {
        parting = parting₁;
        others = λ p q a b e ne t. S.apart p q a b e (sym (w₁-touched (cur p) ne) ∙ t);
        d_low = low;
        d_zero = w₁-zero;
        d_to = w₁-words (4 * n + d) (omega (arith, few, P.packed.sized.behind)) ∙ sym ee;
        d_from = λ h. w₁-words (3 * n + d) (omega (arith, few, P.packed.sized.behind)) ∙ sym es;
        low_till = omega arith;
        till_end = omega (arith, P.within d low);
        inside = λ p h e l. P.goes p h (some_at p e) (at p e (omega (arith, l, place-w p h)));
        outside = λ p h e l i. not_at p e (P.comes p h (some_at p e) i) (omega (arith, l, place-w p h));
        done = λ h. absurd (omega arith);
      };
    })
      where
        place-w : (p : ℕ) → p < n → place_at n w₁ p ≡ place_at n ws p
        place-w p h = w₁-words (2 * n + p) (omega (arith, P.packed.sized.behind))

        some_at : (p : ℕ) → cur p ≡ d → 0 < touched_at n g ws (cur p)
        some_at p e = subst (λ x. 0 < touched_at n g ws x) {x = d} {y = cur p} (sym e) some

        at : (p : ℕ) → cur p ≡ d → place_at n ws p < till → IsTouched n g cur ws p
        at p e l = subst (λ x. place_at n ws p < from_at n ws x + touched_at n g ws x) {x = d} {y = cur p} (sym e)
            (omega arith)

        not_at : (p : ℕ) → cur p ≡ d → IsTouched n g cur ws p → till ≤ place_at n ws p → ⊥
        not_at p e i l =
            let u : place_at n ws p < from_at n ws d + touched_at n g ws d =
            subst (λ x. place_at n ws p < from_at n ws x + touched_at n g ws x) {x = cur p} {y = d} e i in
            omega arith

-- a turn of the loop
module _ (G : List ℕ) (n g s : ℕ) (cls : ℕ → ℕ) (count : ℕ) (ws : List ℕ) (cur : ℕ → ℕ) (k d low till end : ℕ)
    (C : Carving G n g s cls count ws cur k d low till end) (more : low < till) where
  Q : Parting G n g s cls count ws cur k
  Q = C.parting

  few-k : k ≤ n
  few-k = few-classes n ws cur k Q.parted

  cur-low : (p : ℕ) → p < n → cur p < n
  cur-low p h = omega (arith, Q.parted.own_low p h, few-k)

  able : Groupable G n g s cur k d low till ws
  able = let z = Q.packed.sized in record {
    packed = Q.packed;
    parted = Q.parted;
    some = Q.some;
    dead = Q.class (n - 1) (omega arith) ∙ Q.dead;
    less = more;
    class = C.d_low;
    from = omega (arith, C.d_from more);
    to = omega (arith, C.till_end, C.d_to);
  }

  -- the first state is a state, and goes into s
  first-low : member_at n ws low < n
  first-low = Q.parted.member_low low (omega (arith, more, C.till_end, C.d_to, Q.parted.top d C.d_low))

  first_goes : Into (δ G n) cls s (member_at n ws low)
  first_goes =
      let t = Q.parted.top d C.d_low in
      let l = low-is t in
      C.inside (member_at n ws low) (Q.parted.member_low low l)
      (Q.parted.whole d C.d_low low (omega (arith, C.d_from more)) (omega (arith, C.d_to, C.till_end)))
      (omega (arith, Q.parted.place_member low l))
    where
      low-is : to_at n ws d ≤ n → low < n
      low-is t = omega (arith, more, C.till_end, C.d_to)

  -- so do the states at the places from low to till
  goes-there : (q : ℕ) → q < n → low ≤ place_at n ws q → place_at n ws q < till → Into (δ G n) cls s q
  goes-there q h a b = C.inside q h
      (ap cur (sym (Q.parted.member_place q h)) ∙ Q.parted.whole d C.d_low (place_at n ws q)
      (omega (arith, C.d_from more)) (omega (arith, C.d_to, C.till_end))) b

  -- the words have the classes `cls`
  class-of : (q m : ℕ) → q < n → class_at ws (δ G n q m) ≡ cls (δ G n q m)
  class-of q m h = Q.class (δ G n q m) (δ-lt G n q m Q.packed.graph h)

  quick : Signed G n g s cls ws → Quick G n g s low till ws
  quick S = record {
    alike = λ q h x. S.alike (member_at n ws low) q first-low h first_goes
        (same-into-of (δ G n) (class_at ws) cls s (member_at n ws low) q
        (λ m. sym (class-of (member_at n ws low) m first-low)) (λ m. sym (class-of q m h)) x);
    exact = λ q h a b e l. same-into-of (δ G n) cls (class_at ws) s (member_at n ws low) q
        (λ m. class-of (member_at n ws low) m first-low) (λ m. class-of q m h)
        (S.exact (member_at n ws low) q first-low h first_goes (goes-there q h a b) e l);
  }

  module _ (mid : ℕ) (v : List ℕ) (D : GroupedTo G n g s cur k d low till ws mid till v) where
    R : Parted n v cur k
    R = D.able.parted

    abbrev pub r : ℕ
    r = member_at n ws low

    -- states outside of the places from low to till stay
    stays : (p : ℕ) → p < n → (place_at n ws p < low) ⊎ (till ≤ place_at n ws p) → place_at n v p ≡ place_at n ws p
    stays p h o =
        let x = place_at n ws p in
        let l = Q.parted.place_low p h in
        let e : member_at n v x ≡ p = D.fixed x l o ∙ Q.parted.member_place p h in
        ap (place_at n v) (sym e) ∙ R.place_member x l

    stays-back : (p : ℕ) → p < n → till ≤ place_at n v p → place_at n ws p ≡ place_at n v p
    stays-back p h o =
        let x = place_at n v p in
        let l = R.place_low p h in
        let e : member_at n ws x ≡ p = sym (D.fixed x l (inr o)) ∙ R.member_place p h in
        ap (place_at n ws) (sym e) ∙ Q.parted.place_member x l

    -- so do those of other classes
    out : (p : ℕ) → p < n → cur p ≢ d → (place_at n ws p < low) ⊎ (till ≤ place_at n ws p)
    out p h ne = go (dec_lt (place_at n ws p) low) (dec_lt (place_at n ws p) till)
      where
        go : Dec (place_at n ws p < low) → Dec (place_at n ws p < till) → (place_at n ws p < low) ⊎ (till ≤ place_at n ws p)
        go (yes a) b = inl a
        go (no a) (no b) = inr (omega arith)
        go (no a) (yes b) = absurd (ne (ap cur (sym (Q.parted.member_place p h)) ∙ Q.parted.whole d C.d_low
            (place_at n ws p) (omega (arith, C.d_from more)) (omega (arith, C.d_to, C.till_end))))

    word-is : (x : ℕ) → 3 * n ≤ x → get_or v x 0 ≡ get_or ws x 0
    word-is x h = D.keeps x (inr h)

    touched-is : (c : ℕ) → touched_at n g v c ≡ touched_at n g ws c
    touched-is c = let z = Q.packed.sized in word-is (g + n + c) (omega arith)

    from-v : (c : ℕ) → from_at n v c ≡ from_at n ws c
    from-v c = word-is (3 * n + c) (omega arith)

    to-v : (c : ℕ) → to_at n v c ≡ to_at n ws c
    to-v c = word-is (4 * n + c) (omega arith)

    not-d : (c : ℕ) → 0 < touched_at n g ws c → c ≢ d
    not-d c h e = omega (arith, h, ap (touched_at n g ws) e, C.d_zero)

    touched-there : (p : ℕ) → p < n → 0 < touched_at n g v (cur p) → IsTouched n g cur v p → IsTouched n g cur ws p
    touched-there p h t i =
        let ne = not-d (cur p) (omega (arith, touched-is (cur p))) in
        omega (arith, i, stays p h (out p h ne), from-v (cur p), touched-is (cur p))

    touched-here : (p : ℕ) → p < n → 0 < touched_at n g v (cur p) → IsTouched n g cur ws p → IsTouched n g cur v p
    touched-here p h t i =
        let ne = not-d (cur p) (omega (arith, touched-is (cur p))) in
        omega (arith, i, stays p h (out p h ne), from-v (cur p), touched-is (cur p))

    parting-v : Parting G n g s cls count v cur k
    parting-v = record {
      packed = D.able.packed;
      parted = R;
      class = λ p h. D.keeps p (inl h) ∙ Q.class p h;
      some = Q.some;
      dead = Q.dead;
      above = Q.above;
      finer = Q.finer;
      number = Q.number;
      joined = Q.joined;
      within = λ c h. omega (arith, Q.within c h, from-v c, to-v c, touched-is c);
      fresh = λ c a b. touched-is c ∙ Q.fresh c a b;
      goes = λ p h t i. Q.goes p h (omega (arith, touched-is (cur p))) (touched-there p h t i);
      comes = λ p h t i. touched-here p h t (Q.comes p h (omega (arith, touched-is (cur p))) i);
    }

    inside-v : (p : ℕ) → p < n → cur p ≡ d → place_at n v p < till → Into (δ G n) cls s p
    inside-v p h e l = C.inside p h e (go (dec_lt (place_at n ws p) till))
      where
        go : Dec (place_at n ws p < till) → place_at n ws p < till
        go (yes a) = a
        go (no a) = absurd (omega (arith, stays p h (inr (omega arith))))

    outside-v : (p : ℕ) → p < n → cur p ≡ d → till ≤ place_at n v p → Into (δ G n) cls s p → ⊥
    outside-v p h e l i = C.outside p h e (omega (arith, stays-back p h l)) i

    -- the classes of the words are `cls`
    to-cls : (p q : ℕ) → p < n → q < n → SameInto (δ G n) (class_at ws) s p q → SameInto (δ G n) cls s p q
    to-cls p q a b h = same-into-of (δ G n) (class_at ws) cls s p q
        (λ m. sym (Q.class (δ G n p m) (δ-lt G n p m Q.packed.graph a)))
        (λ m. sym (Q.class (δ G n q m) (δ-lt G n q m Q.packed.graph b))) h

    of-cls : (p q : ℕ) → p < n → q < n → SameInto (δ G n) cls s p q → SameInto (δ G n) (class_at ws) s p q
    of-cls p q a b h = same-into-of (δ G n) cls (class_at ws) s p q
        (λ m. Q.class (δ G n p m) (δ-lt G n p m Q.packed.graph a))
        (λ m. Q.class (δ G n q m) (δ-lt G n q m Q.packed.graph b)) h

    r-low : r < n
    r-low = Q.parted.member_low low (omega (arith, more, C.till_end, C.d_to, Q.parted.top d C.d_low))

    -- the members of d from its first place on
    at_least : (p : ℕ) → p < n → cur p ≡ d → low ≤ place_at n v p
    at_least p h e = omega (
      arith,
      from-v d,
      C.d_from more,
      subst (λ x. from_at n v x ≤ place_at n v p) {x = cur p} {y = d} e (R.own_from p h),
    )

    grouped-in : (p : ℕ) → p < n → cur p ≡ d → place_at n v p < mid → SameInto (δ G n) cls s r p
    grouped-in p h e l = to-cls r p r-low h (subst (λ x. SameInto (δ G n) (class_at ws) s r x)
        (R.member_place p h) (D.same (place_at n v p) (at_least p h e) l))

    grouped-out : (p : ℕ) → p < n → cur p ≡ d → mid ≤ place_at n v p → place_at n v p < till
        → SameInto (δ G n) cls s r p → ⊥
    grouped-out p h e l u k = D.other (place_at n v p) l u (subst (λ x. SameInto (δ G n) (class_at ws) s r x)
        (sym (R.member_place p h)) (of-cls r p r-low h k))

    -- all that is left of d is one group
    carve-none : end ≤ mid → Carving G n g s cls count v cur k d mid till end
    carve-none all = record {
      parting = parting-v;
      others = λ p q a b e ne t. C.others p q a b e ne (sym (touched-is (cur p)) ∙ t);
      d_low = C.d_low;
      d_zero = touched-is d ∙ C.d_zero;
      d_to = to-v d ∙ C.d_to;
      d_from = λ h. absurd (omega (arith, C.till_end));
      low_till = D.order;
      till_end = C.till_end;
      inside = inside-v;
      outside = outside-v;
      done = λ h p q a b e f. into-trans (δ G n) cls s p r q
          (into-sym (δ G n) cls s r p (grouped-in p a e (omega (arith, top p a e))))
          (grouped-in q b f (omega (arith, top q b f)));
    }
      where
        top : (p : ℕ) → p < n → cur p ≡ d → place_at n v p < end
        top p h e = omega (
          arith,
          to-v d,
          C.d_to,
          subst (λ x. place_at n v p < to_at n v x) {x = cur p} {y = d} e (R.own_to p h),
        )

    -- d is cut at mid
    module _ (cut : mid < end) where
      -- there is a class number left
      few-more : k < n
      few-more = let t = pigeons n (k + 1) f low-f one in omega arith
        where
          f : ℕ → ℕ
          f c = cond (eqb c k) mid (from_at n v c)

          at-k : (c : ℕ) → c ≡ k → f c ≡ mid
          at-k c e = rw (eq-eqb c k e)

          at_other : (c : ℕ) → c ≢ k → f c ≡ from_at n v c
          at_other c e = rw (ne_eqb c k e)

          d-top : end ≤ n
          d-top = omega (arith, C.d_to, Q.parted.top d C.d_low)

          low-f : (c : ℕ) → c < k + 1 → f c < n
          low-f c h = go (ℕ_discrete c k)
            where
              go : Dec (c ≡ k) → f c < n
              go (yes e) = rw (at-k c e) (omega (arith, d-top))
              go (no e) = rw (at_other c e) (omega (arith, R.some c (omega arith), R.top c (omega arith)))

          mid-d : cur (member_at n v mid) ≡ d
          mid-d = R.whole d C.d_low mid (omega (arith, from-v d, C.d_from more, D.start))
              (omega (arith, to-v d, C.d_to))

          clash : (c : ℕ) → c < k → from_at n v c ≢ mid
          clash c h e =
              let cd : c ≡ d = sym (first_member n v cur k R c h) ∙ ap (λ x. cur (member_at n v x)) e ∙ mid-d in
              omega (arith, ap (from_at n v) cd, from-v d, C.d_from more, D.start)

          one : (c e : ℕ) → c < k + 1 → e < k + 1 → f c ≡ f e → c ≡ e
          one c e h l q = go (ℕ_discrete c k) (ℕ_discrete e k)
            where
              go : Dec (c ≡ k) → Dec (e ≡ k) → c ≡ e
              go (yes a) (yes b) = a ∙ sym b
              go (yes a) (no b) = absurd (clash e (omega arith) (sym (at_other e b) ∙ sym q ∙ at-k c a))
              go (no a) (yes b) = absurd (clash c (omega arith) (sym (at_other c a) ∙ q ∙ at-k e b))
              go (no a) (no b) = sym (first_member n v cur k R c (omega arith))
                  ∙ ap (λ x. cur (member_at n v x)) (sym (at_other c a) ∙ q ∙ at_other e b)
                  ∙ first_member n v cur k R e (omega arith)

      carve-asks : (d < n) × ((k < n) × ((low ≤ mid) × ((mid ≤ end) × ((end ≤ n) × ((n ≤ 8192)
          × (5 * n ≤ length v))))))
      carve-asks = let z = D.able.packed.sized in (
        omega (arith, C.d_low, few-k),
        (
          few-more,
          (
            omega (arith, D.start),
            (
              omega arith,
              (omega (arith, C.d_to, Q.parted.top d C.d_low), (z.few, omega arith)),
            ),
          ),
        ),
      )

      -- x has the front and y the rear, one of them is d and the other k
      module _ (x y : ℕ) (which : ((x ≡ k) × (y ≡ d)) ⊎ ((x ≡ d) × ((y ≡ k) × (d ≢ 0)))) (w : List ℕ)
          (w-len : length w ≡ length v) (w-x : from_at n w x ≡ low) (w-x-to : to_at n w x ≡ mid)
          (w-y : from_at n w y ≡ mid) (w-y-to : to_at n w y ≡ end)
          (w-from : (c : ℕ) → c ≢ d → c ≢ k → c < n → from_at n w c ≡ from_at n v c)
          (w-to : (c : ℕ) → c ≢ d → c ≢ k → c < n → to_at n w c ≡ to_at n v c)
          (w-low : (i : ℕ) → i < 3 * n → get_or w i 0 ≡ get_or v i 0)
          (w-high : (i : ℕ) → 5 * n ≤ i → get_or w i 0 ≡ get_or v i 0) where
        x-not-y : x ≢ y
        x-not-y e = go which
          where
            go : ((x ≡ k) × (y ≡ d)) ⊎ ((x ≡ d) × ((y ≡ k) × (d ≢ 0))) → ⊥
            go (inl (a, b)) = omega (arith, a, b, C.d_low)
            go (inr (a, (b, c))) = omega (arith, a, b, C.d_low)

        x-low : x < k + 1
        x-low = go which
          where
            go : ((x ≡ k) × (y ≡ d)) ⊎ ((x ≡ d) × ((y ≡ k) × (d ≢ 0))) → x < k + 1
            go (inl (a, b)) = omega (arith, a)
            go (inr (a, b)) = omega (arith, a, C.d_low)

        y-low : y < k + 1
        y-low = go which
          where
            go : ((x ≡ k) × (y ≡ d)) ⊎ ((x ≡ d) × ((y ≡ k) × (d ≢ 0))) → y < k + 1
            go (inl (a, b)) = omega (arith, b, C.d_low)
            go (inr (a, (b, c))) = omega (arith, b)

        -- a class that is neither d nor k is neither x nor y, and back
        not-xy : (c : ℕ) → c ≢ d → c ≢ k → (c ≢ x) × (c ≢ y)
        not-xy c a b = go which
          where
            go : ((x ≡ k) × (y ≡ d)) ⊎ ((x ≡ d) × ((y ≡ k) × (d ≢ 0))) → (c ≢ x) × (c ≢ y)
            go (inl (e, f)) = ((λ q. b (q ∙ e)), (λ q. a (q ∙ f)))
            go (inr (e, (f, h))) = ((λ q. a (q ∙ e)), (λ q. b (q ∙ f)))

        not-dk : (c : ℕ) → c ≢ x → c ≢ y → (c ≢ d) × (c ≢ k)
        not-dk c a b = go which
          where
            go : ((x ≡ k) × (y ≡ d)) ⊎ ((x ≡ d) × ((y ≡ k) × (d ≢ 0))) → (c ≢ d) × (c ≢ k)
            go (inl (e, f)) = ((λ q. b (q ∙ sym f)), (λ q. a (q ∙ sym e)))
            go (inr (e, (f, h))) = ((λ q. a (q ∙ sym e)), (λ q. b (q ∙ sym f)))

        unfoldable new : ℕ → ℕ
        new p = cond (eqb (cur p) d) (cond (ltb (place_at n v p) mid) x y) (cur p)

        new-front : (p : ℕ) → cur p ≡ d → place_at n v p < mid → new p ≡ x
        unfolding new
        new-front p e l = rw (eq-eqb (cur p) d e, lt-ltb (place_at n v p) mid l)

        new-rear : (p : ℕ) → cur p ≡ d → mid ≤ place_at n v p → new p ≡ y
        unfolding new
        new-rear p e l = rw (eq-eqb (cur p) d e, le-ltb (place_at n v p) mid l)

        new-other : (p : ℕ) → cur p ≢ d → new p ≡ cur p
        unfolding new
        new-other p ne = rw (ne_eqb (cur p) d ne)

        -- where a state is now
        data Where (p : ℕ) : Type 0 where
          in-front : cur p ≡ d → place_at n v p < mid → new p ≡ x → Where p
          in-rear : cur p ≡ d → mid ≤ place_at n v p → new p ≡ y → Where p
          elsewhere : cur p ≢ d → new p ≡ cur p → new p ≢ x → new p ≢ y → Where p

        spot : (p : ℕ) → p < n → Where p
        spot p h = go (ℕ_discrete (cur p) d) (dec_lt (place_at n v p) mid)
          where
            go : Dec (cur p ≡ d) → Dec (place_at n v p < mid) → Where p
            go (yes e) (yes l) = in-front e l (new-front p e l)
            go (yes e) (no l) = in-rear e (omega arith) (new-rear p e (omega arith))
            go (no e) b =
                let o = new-other p e in
                let t = not-xy (cur p) e (λ q. omega (arith, Q.parted.own_low p h)) in
                elsewhere e o (λ q. t.0 (sym o ∙ q)) (λ q. t.1 (sym o ∙ q))

        front-is : (p : ℕ) → p < n → new p ≡ x → (cur p ≡ d) × (place_at n v p < mid)
        front-is p h e = go (spot p h)
          where
            go : Where p → (cur p ≡ d) × (place_at n v p < mid)
            go (in-front a b c) = (a, b)
            go (in-rear a b c) = absurd (x-not-y (sym e ∙ c))
            go (elsewhere a b c f) = absurd (c e)

        rear-is : (p : ℕ) → p < n → new p ≡ y → (cur p ≡ d) × (mid ≤ place_at n v p)
        rear-is p h e = go (spot p h)
          where
            go : Where p → (cur p ≡ d) × (mid ≤ place_at n v p)
            go (in-front a b c) = absurd (x-not-y (sym c ∙ e))
            go (in-rear a b c) = (a, b)
            go (elsewhere a b c f) = absurd (f e)

        -- new classes are parts of the old ones
        cur-of-new : (p q : ℕ) → p < n → q < n → new p ≡ new q → cur p ≡ cur q
        cur-of-new p q h l e = go (spot p h)
          where
            go : Where p → cur p ≡ cur q
            go (in-front a b c) = a ∙ sym (front-is q l (sym e ∙ c)).0
            go (in-rear a b c) = a ∙ sym (rear-is q l (sym e ∙ c)).0
            go (elsewhere a b c f) = at (spot q l)
              where
                at : Where q → cur p ≡ cur q
                at (in-front i j m) = absurd (c (e ∙ m))
                at (in-rear i j m) = absurd (f (e ∙ m))
                at (elsewhere i j m o) = sym b ∙ e ∙ j

        place-w : (p : ℕ) → p < n → place_at n w p ≡ place_at n v p
        place-w p h = w-low (2 * n + p) (omega arith)

        member-w : (i : ℕ) → i < n → member_at n w i ≡ member_at n v i
        member-w i h = w-low (n + i) (omega arith)

        touched-w : (c : ℕ) → touched_at n g w c ≡ touched_at n g v c
        touched-w c = let z = Q.packed.sized in w-high (g + n + c) (omega arith)

        end-top : end ≤ n
        end-top = omega (arith, C.d_to, Q.parted.top d C.d_low)

        parted-w : Parted n w new (k + 1)
        parted-w = record {
          member_low = λ i h. rw (member-w i h) (R.member_low i h);
          place_low = λ p h. rw (place-w p h) (R.place_low p h);
          member_place = λ p h. ap (member_at n w) (place-w p h) ∙ member-w (place_at n v p) (R.place_low p h)
              ∙ R.member_place p h;
          place_member = λ i h. ap (place_at n w) (member-w i h) ∙ place-w (member_at n v i) (R.member_low i h)
              ∙ R.place_member i h;
          own_low = λ p h. own_low p h (spot p h);
          own_from = λ p h. own_from p h (spot p h);
          own_to = λ p h. own_to p h (spot p h);
          whole = λ c h i a b. whole c h i a b (ℕ_discrete c x) (ℕ_discrete c y);
          some = λ c h. some c h (ℕ_discrete c x) (ℕ_discrete c y);
          top = λ c h. top c h (ℕ_discrete c x) (ℕ_discrete c y);
        }
          where
            cn : (p : ℕ) → p < n → cur p ≢ d → (from_at n w (cur p) ≡ from_at n v (cur p)) × (to_at n w (cur p) ≡ to_at n v
                (cur p))
            cn p h e =
                let l : cur p ≢ k = λ q. omega (arith, Q.parted.own_low p h) in
                (w-from (cur p) e l (cur-low p h), w-to (cur p) e l (cur-low p h))

            own_low : (p : ℕ) → p < n → Where p → new p < k + 1
            own_low p h (in-front a b c) = rw c x-low
            own_low p h (in-rear a b c) = rw c y-low
            own_low p h (elsewhere a b c f) = omega (arith, b, Q.parted.own_low p h)

            own_from : (p : ℕ) → p < n → Where p → from_at n w (new p) ≤ place_at n w p
            own_from p h (in-front a b c) = rw (c, w-x, place-w p h) (at_least p h a)
            own_from p h (in-rear a b c) = rw (c, w-y, place-w p h) b
            own_from p h (elsewhere a b c f) = rw (b, (cn p h a).0, place-w p h) (R.own_from p h)

            own_to : (p : ℕ) → p < n → Where p → place_at n w p < to_at n w (new p)
            own_to p h (in-front a b c) = rw (c, w-x-to, place-w p h) b
            own_to p h (in-rear a b c) = rw (c, w-y-to, place-w p h) (omega (
              arith,
              to-v d,
              C.d_to,
              subst (λ x. place_at n v p < to_at n v x) {x = cur p} {y = d} a (R.own_to p h),
            ))
            own_to p h (elsewhere a b c f) = rw (b, (cn p h a).1, place-w p h) (R.own_to p h)

            in-d : (i : ℕ) → low ≤ i → i < end → cur (member_at n v i) ≡ d
            in-d i a b = R.whole d C.d_low i (omega (arith, from-v d, C.d_from more)) (omega (
              arith,
              to-v d,
              C.d_to,
            ))

            whole : (c : ℕ) → c < k + 1 → (i : ℕ) → from_at n w c ≤ i → i < to_at n w c → Dec (c ≡ x) → Dec (c ≡ y)
                → new (member_at n w i) ≡ c
            whole c h i a b (yes e) f =
                let u : low ≤ i = omega (arith, a, ap (from_at n w) e, w-x) in
                let t : i < mid = omega (arith, b, ap (to_at n w) e, w-x-to) in
                let l : i < n = omega (arith, end-top) in
                ap new (member-w i l) ∙ new-front (member_at n v i) (in-d i u (omega arith))
                (rw (R.place_member i l) t) ∙ sym e
            whole c h i a b (no e) (yes f) =
                let u : mid ≤ i = omega (arith, a, ap (from_at n w) f, w-y) in
                let t : i < end = omega (arith, b, ap (to_at n w) f, w-y-to) in
                let l : i < n = omega (arith, end-top) in
                ap new (member-w i l) ∙ new-rear (member_at n v i) (in-d i (omega (arith, D.start)) t)
                (rw (R.place_member i l) u) ∙ sym f
            whole c h i a b (no e) (no f) =
                let o = not-dk c e f in
                let ck : c < k = less c h o.1 in
                let cl : c < n = omega (arith, ck, few-k) in
                let u : from_at n v c ≤ i = omega (arith, a, w-from c o.0 o.1 cl) in
                let t : i < to_at n v c = omega (arith, b, w-to c o.0 o.1 cl) in
                let l : i < n = omega (arith, t, R.top c ck) in
                let is : cur (member_at n v i) ≡ c = R.whole c ck i u t in
                ap new (member-w i l) ∙ new-other (member_at n v i) (λ q. o.0 (sym is ∙ q)) ∙ is
              where
                less : (c : ℕ) → c < k + 1 → c ≢ k → c < k
                less c h ne = go (dec_lt c k)
                  where
                    go : Dec (c < k) → c < k
                    go (yes q) = q
                    go (no q) = absurd (ne (omega arith))

            old : (c : ℕ) → c < k + 1 → c ≢ x → c ≢ y → (c < k) × ((from_at n w c ≡ from_at n v c) × (to_at n w c ≡ to_at n
                v c))
            old c h e f =
                let o = not-dk c e f in
                go o (dec_lt c k)
              where
                go : (c ≢ d) × (c ≢ k) → Dec (c < k) → (c < k) × ((from_at n w c ≡ from_at n v c) × (to_at n w c ≡ to_at n v
                    c))
                go o (yes q) = (
                  q,
                  (
                    w-from c o.0 o.1 (omega (arith, few-k)),
                    w-to c o.0 o.1 (omega (
                      arith,
                      few-k,
                    )),
                  ),
                )
                go o (no q) = absurd (o.1 (omega arith))

            some : (c : ℕ) → c < k + 1 → Dec (c ≡ x) → Dec (c ≡ y) → from_at n w c < to_at n w c
            some c h (yes e) f = omega (arith, ap (from_at n w) e, ap (to_at n w) e, w-x, w-x-to, D.start)
            some c h (no e) (yes f) = omega (arith, ap (from_at n w) f, ap (to_at n w) f, w-y, w-y-to)
            some c h (no e) (no f) = let o = old c h e f in omega (arith, o.1.0, o.1.1, R.some c o.0)

            top : (c : ℕ) → c < k + 1 → Dec (c ≡ x) → Dec (c ≡ y) → to_at n w c ≤ n
            top c h (yes e) f = omega (arith, ap (to_at n w) e, w-x-to, end-top)
            top c h (no e) (yes f) = omega (arith, ap (to_at n w) f, w-y-to, end-top)
            top c h (no e) (no f) = let o = old c h e f in omega (arith, o.1.1, R.top c o.0)

        touched-x : touched_at n g w x ≡ 0
        touched-x = go which
          where
            go : ((x ≡ k) × (y ≡ d)) ⊎ ((x ≡ d) × ((y ≡ k) × (d ≢ 0))) → touched_at n g w x ≡ 0
            go (inl (a, b)) = ap (touched_at n g w) a ∙ touched-w k ∙ touched-is k ∙ Q.fresh k (omega arith) few-more
            go (inr (a, b)) = ap (touched_at n g w) a ∙ touched-w d ∙ touched-is d ∙ C.d_zero

        touched-y : touched_at n g w y ≡ 0
        touched-y = go which
          where
            go : ((x ≡ k) × (y ≡ d)) ⊎ ((x ≡ d) × ((y ≡ k) × (d ≢ 0))) → touched_at n g w y ≡ 0
            go (inl (a, b)) = ap (touched_at n g w) b ∙ touched-w d ∙ touched-is d ∙ C.d_zero
            go (inr (a, (b, c))) = ap (touched_at n g w) b ∙ touched-w k ∙ touched-is k ∙ Q.fresh k (omega arith)
                few-more

        number-w : (p : ℕ) → p < n → (new p ≡ cls p) ⊎ ((count ≤ new p) × (Into (δ G n) cls s p ⊎ (cls p ≢ 0)))
        number-w p h = go (spot p h) which (Q.number p h)
          where
            go : Where p → ((x ≡ k) × (y ≡ d)) ⊎ ((x ≡ d) × ((y ≡ k) × (d ≢ 0)))
                → (cur p ≡ cls p) ⊎ ((count ≤ cur p) × (Into (δ G n) cls s p ⊎ (cls p ≢ 0)))
                → (new p ≡ cls p) ⊎ ((count ≤ new p) × (Into (δ G n) cls s p ⊎ (cls p ≢ 0)))
            go (elsewhere a b c f) z (inl o) = inl (b ∙ o)
            go (elsewhere a b c f) z (inr o) = inr (rw b o.0, o.1)
            go (in-front a b c) (inl (e, f)) o =
                inr (omega (arith, c, e, Q.above), inl (inside-v p h a (omega (arith, D.order))))
            go (in-front a b c) (inr (e, f)) (inl o) = inl (c ∙ e ∙ sym a ∙ o)
            go (in-front a b c) (inr (e, f)) (inr o) = inr (omega (arith, c, e, a, o.0), o.1)
            go (in-rear a b c) (inl (e, f)) (inl o) = inl (c ∙ f ∙ sym a ∙ o)
            go (in-rear a b c) (inl (e, f)) (inr o) = inr (omega (arith, c, f, a, o.0), o.1)
            go (in-rear a b c) (inr (e, (f, i))) (inl o) =
                inr (omega (arith, c, f, Q.above), inr (λ z. i (sym a ∙ o ∙ z)))
            go (in-rear a b c) (inr (e, (f, i))) (inr o) = inr (omega (arith, c, f, Q.above), o.1)

        -- states that go into s by the same letters are on one side
        one_side : (p q : ℕ) → p < n → q < n → cur p ≡ d → cur q ≡ d → SameInto (δ G n) cls s p q
            → place_at n v p < mid → place_at n v q < mid
        one_side p q h l a b e u = go (dec_lt (place_at n v q) mid) (dec_lt (place_at n v q) till)
          where
            go : Dec (place_at n v q < mid) → Dec (place_at n v q < till) → place_at n v q < mid
            go (yes i) j = i
            go (no i) (yes j) = absurd (grouped-out q l b (omega arith) j
                (into-trans (δ G n) cls s r p q (grouped-in p h a u) e))
            go (no i) (no j) = absurd (outside-v q l b (omega arith)
                (into-moves (δ G n) cls s p q e (inside-v p h a (omega (arith, D.order)))))

        joined-w : (p q : ℕ) → p < n → q < n → cls p ≡ cls q → SameInto (δ G n) cls s p q → new p ≡ new q
        joined-w p q h l e f = go (spot p h) (spot q l)
          where
            c : cur p ≡ cur q
            c = Q.joined p q h l e f

            go : Where p → Where q → new p ≡ new q
            go (in-front a b i) (in-front u w z) = i ∙ sym z
            go (in-front a b i) (in-rear u w z) = absurd (omega (arith, one_side p q h l a u f b))
            go (in-front a b i) (elsewhere u w z t) = absurd (u (sym c ∙ a))
            go (in-rear a b i) (in-front u w z) =
                absurd (omega (arith, one_side q p l h u a (into-sym (δ G n) cls s p q f) w))
            go (in-rear a b i) (in-rear u w z) = i ∙ sym z
            go (in-rear a b i) (elsewhere u w z t) = absurd (u (sym c ∙ a))
            go (elsewhere a b i j) (in-front u w z) = absurd (a (c ∙ u))
            go (elsewhere a b i j) (in-rear u w z) = absurd (a (c ∙ u))
            go (elsewhere a b i j) (elsewhere u w z t) = b ∙ c ∙ sym w

        -- a class with touched members is neither x nor y
        waits : (p : ℕ) → p < n → 0 < touched_at n g w (new p) → (cur p ≢ d) × (new p ≡ cur p)
        waits p h t = go (spot p h)
          where
            go : Where p → (cur p ≢ d) × (new p ≡ cur p)
            go (in-front a b c) = absurd (omega (arith, t, ap (touched_at n g w) c, touched-x))
            go (in-rear a b c) = absurd (omega (arith, t, ap (touched_at n g w) c, touched-y))
            go (elsewhere a b c f) = (a, b)

        from-cur : (p : ℕ) → p < n → cur p ≢ d → from_at n w (cur p) ≡ from_at n v (cur p)
        from-cur p h e = w-from (cur p) e (λ q. omega (arith, Q.parted.own_low p h)) (cur-low p h)

        touched-old : (p : ℕ) → p < n → cur p ≢ d → new p ≡ cur p → IsTouched n g new w p → IsTouched n g cur v p
        touched-old p h e f t =
            let u : place_at n w p < from_at n w (cur p) + touched_at n g w (cur p) =
            subst (λ c. place_at n w p < from_at n w c + touched_at n g w c) {x = new p} {y = cur p} f t in
            omega (arith, u, place-w p h, from-cur p h e, touched-w (cur p))

        touched-new : (p : ℕ) → p < n → cur p ≢ d → new p ≡ cur p → IsTouched n g cur v p → IsTouched n g new w p
        touched-new p h e f t =
            subst (λ c. place_at n w p < from_at n w c + touched_at n g w c) {x = cur p} {y = new p} (sym f)
            (omega (arith, t, place-w p h, from-cur p h e, touched-w (cur p)))

        some-old : (p : ℕ) → p < n → new p ≡ cur p → 0 < touched_at n g w (new p) → 0 < touched_at n g v (cur p)
        some-old p h f t = omega (arith, t, ap (touched_at n g w) f, touched-w (cur p))

        parting-w : Parting G n g s cls count w new (k + 1)
        parting-w = record {
          packed = packed_keep G n g v D.able.packed w w-len (λ i a b. w-high i a);
          parted = parted-w;
          class = λ p h. w-low p (omega arith) ∙ parting-v.class p h;
          some = Q.some;
          dead = Q.dead;
          above = omega (arith, Q.above);
          finer = λ p q h l e. Q.finer p q h l (cur-of-new p q h l e);
          number = number-w;
          joined = joined-w;
          within = λ c h. within c h (ℕ_discrete c x) (ℕ_discrete c y);
          fresh = λ c a b. touched-w c ∙ touched-is c ∙ Q.fresh c (omega arith) b;
          goes = λ p h t i. let o = waits p h t in
              parting-v.goes p h (some-old p h o.1 t) (touched-old p h o.0 o.1 i);
          comes = λ p h t i. let o = waits p h t in
              touched-new p h o.0 o.1 (parting-v.comes p h (some-old p h o.1 t) i);
        }
          where
            within : (c : ℕ) → c < k + 1 → Dec (c ≡ x) → Dec (c ≡ y) → from_at n w c + touched_at n g w c ≤ to_at n w c
            within c h (yes e) f = omega (
              arith,
              ap (from_at n w) e,
              ap (to_at n w) e,
              ap (touched_at n g w) e,
              w-x,
              w-x-to,
              touched-x,
              D.start,
            )
            within c h (no e) (yes f) = omega (
              arith,
              ap (from_at n w) f,
              ap (to_at n w) f,
              ap (touched_at n g w) f,
              w-y,
              w-y-to,
              touched-y,
            )
            within c h (no e) (no f) = go (not-dk c e f) (dec_lt c k)
              where
                go : (c ≢ d) × (c ≢ k) → Dec (c < k) → from_at n w c + touched_at n g w c ≤ to_at n w c
                go o (yes q) = omega (
                  arith,
                  w-from c o.0 o.1 (omega (arith, few-k)),
                  w-to c o.0 o.1 (omega (arith, few-k)),
                  touched-w c,
                  parting-v.within c q,
                )
                go o (no q) = absurd (o.1 (omega arith))

        carve-turn : Carving G n g s cls count w new (k + 1) y mid till end
        carve-turn = record {
          parting = parting-w;
          others = λ p q h l e ne t. others p q h l e ne t (spot p h);
          d_low = y-low;
          d_zero = touched-y;
          d_to = w-y-to;
          d_from = λ h. w-y;
          low_till = D.order;
          till_end = C.till_end;
          inside = λ p h e u. inside-v p h (rear-is p h e).0 (omega (arith, place-w p h));
          outside = λ p h e u i. outside-v p h (rear-is p h e).0 (omega (arith, place-w p h)) i;
          done = λ u p q h l e f. into-none (δ G n) cls s p q
              (outside-v p h (rear-is p h e).0 (omega (arith, (rear-is p h e).1)))
              (outside-v q l (rear-is q l f).0 (omega (arith, (rear-is q l f).1)));
        }
          where
            others : (p q : ℕ) → p < n → q < n → new p ≡ new q → new p ≢ y → touched_at n g w (new p) ≡ 0 → Where p
                → SameInto (δ G n) cls s p q
            others p q h l e ne t (in-front a b c) =
                let f = front-is q l (sym e ∙ c) in
                into-trans (δ G n) cls s p r q (into-sym (δ G n) cls s r p (grouped-in p h a b)) (grouped-in q l f.0
                f.1)
            others p q h l e ne t (in-rear a b c) = absurd (ne c)
            others p q h l e ne t (elsewhere a b c f) = C.others p q h l (cur-of-new p q h l e) a
                (sym (touched-is (cur p)) ∙ sym (touched-w (cur p)) ∙ ap (touched_at n g w) (sym b) ∙ t)

        turned : (cur' : ℕ → ℕ) × Carving G n g s cls count w cur' (k + 1) y mid till end
        turned = (new, carve-turn)

      -- what carve leaves
      module _ (n-d : d < n) (n-k : k < n) where
        dk : d ≢ k
        dk e = omega (arith, C.d_low)

        room : 5 * n ≤ length v
        room = let z = D.able.packed.sized in omega arith

        carve-again : (e : ℕ) (w : List ℕ) → Carved n d k low mid end v e w
            → (cur' : ℕ → ℕ) × Carving G n g s cls count w cur' (k + 1) e mid till end
        carve-again e w (front ee ew) = rw ee (turned k d (inl (refl, refl)) w
            (rw ew (simp length-set)) (rw ew k-from) (rw ew k-to) (rw ew d_from) (rw ew d_to)
            (λ c a b l. rw ew (others c a b l)) (λ c a b l. rw ew (others-to c a b l))
            (λ i l. rw ew (below i l)) (λ i l. rw ew (above i l)))
          where
            three : (i : ℕ) → i ≢ 3 * n + k → i ≢ 4 * n + k → i ≢ 3 * n + d
                → get_or (set (set (set v (3 * n + k) low) (4 * n + k) mid) (3 * n + d) mid) i 0 ≡ get_or v i 0
            three i a b c = get_or-set_other (set (set v (3 * n + k) low) (4 * n + k) mid) (3 * n + d) i mid 0 c
                ∙ get_or-set_other (set v (3 * n + k) low) (4 * n + k) i mid 0 b ∙ get_or-set_other v (3 * n + k) i low 0 a

            k-from : from_at n (set (set (set v (3 * n + k) low) (4 * n + k) mid) (3 * n + d) mid) k ≡ low
            k-from = get_or-set_other (set (set v (3 * n + k) low) (4 * n + k) mid) (3 * n + d) (3 * n + k) mid 0
                (λ q. dk (omega arith))
                ∙ get_or-set_other (set v (3 * n + k) low) (4 * n + k) (3 * n + k) mid 0 (λ q. omega arith)
                ∙ get_or-set_same v (3 * n + k) low 0 (omega (arith, room))

            k-to : to_at n (set (set (set v (3 * n + k) low) (4 * n + k) mid) (3 * n + d) mid) k ≡ mid
            k-to = get_or-set_other (set (set v (3 * n + k) low) (4 * n + k) mid) (3 * n + d) (4 * n + k) mid 0
                (λ q. omega arith)
                ∙ get_or-set_same (set v (3 * n + k) low) (4 * n + k) mid 0 (rw length-set (omega (arith, room)))

            d_from : from_at n (set (set (set v (3 * n + k) low) (4 * n + k) mid) (3 * n + d) mid) d ≡ mid
            d_from = get_or-set_same (set (set v (3 * n + k) low) (4 * n + k) mid) (3 * n + d) mid 0
                (simp length-set (omega (arith, room)))

            d_to : to_at n (set (set (set v (3 * n + k) low) (4 * n + k) mid) (3 * n + d) mid) d ≡ end
            d_to = three (4 * n + d) (λ q. omega arith) (λ q. dk (omega arith)) (λ q. omega arith) ∙ to-v d ∙ C.d_to

            others : (c : ℕ) → c ≢ d → c ≢ k → c < n
                → from_at n (set (set (set v (3 * n + k) low) (4 * n + k) mid) (3 * n + d) mid) c ≡ from_at n v c
            others c a b l = three (3 * n + c) (λ q. b (omega arith)) (λ q. omega arith) (λ q. a (omega arith))

            others-to : (c : ℕ) → c ≢ d → c ≢ k → c < n
                → to_at n (set (set (set v (3 * n + k) low) (4 * n + k) mid) (3 * n + d) mid) c ≡ to_at n v c
            others-to c a b l = three (4 * n + c) (λ q. omega arith) (λ q. b (omega arith)) (λ q. omega arith)

            below : (i : ℕ) → i < 3 * n → get_or (set (set (set v (3 * n + k) low) (4 * n + k) mid) (3 * n + d) mid) i 0 ≡
                get_or v i 0
            below i l = three i (λ q. omega arith) (λ q. omega arith) (λ q. omega arith)

            above : (i : ℕ) → 5 * n ≤ i → get_or (set (set (set v (3 * n + k) low) (4 * n + k) mid) (3 * n + d) mid) i 0 ≡
                get_or v i 0
            above i l = three i (λ q. omega arith) (λ q. omega arith) (λ q. omega arith)
        carve-again e w (rear ee nz ew) = rw ee (turned d k (inr (refl, (refl, nz))) w
            (rw ew (simp length-set)) (rw ew d_from) (rw ew d_to) (rw ew k-from) (rw ew k-to)
            (λ c a b l. rw ew (others c a b l)) (λ c a b l. rw ew (others-to c a b l))
            (λ i l. rw ew (below i l)) (λ i l. rw ew (above i l)))
          where
            three : (i : ℕ) → i ≢ 3 * n + k → i ≢ 4 * n + k → i ≢ 4 * n + d
                → get_or (set (set (set v (3 * n + k) mid) (4 * n + k) end) (4 * n + d) mid) i 0 ≡ get_or v i 0
            three i a b c = get_or-set_other (set (set v (3 * n + k) mid) (4 * n + k) end) (4 * n + d) i mid 0 c
                ∙ get_or-set_other (set v (3 * n + k) mid) (4 * n + k) i end 0 b ∙ get_or-set_other v (3 * n + k) i mid 0 a

            k-from : from_at n (set (set (set v (3 * n + k) mid) (4 * n + k) end) (4 * n + d) mid) k ≡ mid
            k-from = get_or-set_other (set (set v (3 * n + k) mid) (4 * n + k) end) (4 * n + d) (3 * n + k) mid 0
                (λ q. omega arith)
                ∙ get_or-set_other (set v (3 * n + k) mid) (4 * n + k) (3 * n + k) end 0 (λ q. omega arith)
                ∙ get_or-set_same v (3 * n + k) mid 0 (omega (arith, room))

            k-to : to_at n (set (set (set v (3 * n + k) mid) (4 * n + k) end) (4 * n + d) mid) k ≡ end
            k-to = get_or-set_other (set (set v (3 * n + k) mid) (4 * n + k) end) (4 * n + d) (4 * n + k) mid 0
                (λ q. dk (omega arith))
                ∙ get_or-set_same (set v (3 * n + k) mid) (4 * n + k) end 0 (rw length-set (omega (arith, room)))

            d_from : from_at n (set (set (set v (3 * n + k) mid) (4 * n + k) end) (4 * n + d) mid) d ≡ low
            d_from = three (3 * n + d) (λ q. dk (omega arith)) (λ q. omega arith) (λ q. omega arith) ∙ from-v d ∙
                C.d_from more

            d_to : to_at n (set (set (set v (3 * n + k) mid) (4 * n + k) end) (4 * n + d) mid) d ≡ mid
            d_to = get_or-set_same (set (set v (3 * n + k) mid) (4 * n + k) end) (4 * n + d) mid 0
                (simp length-set (omega (arith, room)))

            others : (c : ℕ) → c ≢ d → c ≢ k → c < n
                → from_at n (set (set (set v (3 * n + k) mid) (4 * n + k) end) (4 * n + d) mid) c ≡ from_at n v c
            others c a b l = three (3 * n + c) (λ q. b (omega arith)) (λ q. omega arith) (λ q. omega arith)

            others-to : (c : ℕ) → c ≢ d → c ≢ k → c < n
                → to_at n (set (set (set v (3 * n + k) mid) (4 * n + k) end) (4 * n + d) mid) c ≡ to_at n v c
            others-to c a b l = three (4 * n + c) (λ q. omega arith) (λ q. b (omega arith)) (λ q. a (omega arith))

            below : (i : ℕ) → i < 3 * n → get_or (set (set (set v (3 * n + k) mid) (4 * n + k) end) (4 * n + d) mid) i 0 ≡
                get_or v i 0
            below i l = three i (λ q. omega arith) (λ q. omega arith) (λ q. omega arith)

            above : (i : ℕ) → 5 * n ≤ i → get_or (set (set (set v (3 * n + k) mid) (4 * n + k) end) (4 * n + d) mid) i 0 ≡
                get_or v i 0
            above i l = three i (λ q. omega arith) (λ q. omega arith) (λ q. omega arith)

-- what carve keeps
module _ (n d k low mid end : ℕ) (v : List ℕ) (d-n : d < n) (k-n : k < n) where
  carved-length : (e : ℕ) (w : List ℕ) → Carved n d k low mid end v e w → length w ≡ length v
  carved-length e w (front ee ew) = rw ew (simp length-set)
  carved-length e w (rear ee nz ew) = rw ew (simp length-set)

  carved-high : (e : ℕ) (w : List ℕ) → Carved n d k low mid end v e w → (i : ℕ) → 5 * n ≤ i
      → get_or w i 0 ≡ get_or v i 0
  carved-high e w (front ee ew) i l = ap (λ u. get_or u i 0) ew
      ∙ get_or-set_other (set (set v (3 * n + k) low) (4 * n + k) mid) (3 * n + d) i mid 0 (λ q. omega arith)
      ∙ get_or-set_other (set v (3 * n + k) low) (4 * n + k) i mid 0 (λ q. omega arith)
      ∙ get_or-set_other v (3 * n + k) i low 0 (λ q. omega arith)
  carved-high e w (rear ee nz ew) i l = ap (λ u. get_or u i 0) ew
      ∙ get_or-set_other (set (set v (3 * n + k) mid) (4 * n + k) end) (4 * n + d) i mid 0 (λ q. omega arith)
      ∙ get_or-set_other (set v (3 * n + k) mid) (4 * n + k) i end 0 (λ q. omega arith)
      ∙ get_or-set_other v (3 * n + k) i mid 0 (λ q. omega arith)

-- the loop of split
module _ (G : List ℕ) (n g s : ℕ) (cls : ℕ → ℕ) (count k₀ till end : ℕ) (ws₁ ws : List ℕ) (k d low : ℕ)
    (S : CarveState G n g s cls count k₀ till end ws₁ ws k d low) (more : low < till) where
  pub state-able : Groupable G n g s S.cur k d low till ws
  state-able = able G n g s cls count ws S.cur k d low till end S.carving more

  pub state-quick : Signed G n g s cls ws₁ → Quick G n g s low till ws
  state-quick T = quick G n g s cls count ws S.cur k d low till end S.carving more
      (signed-keep G n g s cls ws₁ ws T (λ p. S.keeps (g + 3 * n + p) (omega arith)))

  module _ (mid : ℕ) (v : List ℕ) (D : GroupedTo G n g s S.cur k d low till ws mid till v) where
    behind : 6 * n < g
    behind = let z = S.carving.parting.packed.sized in omega arith

    pub state-asks : mid < end → (d < n) × ((k < n) × ((low ≤ mid) × ((mid ≤ end) × ((end ≤ n) × ((n ≤ 8192)
        × (5 * n ≤ length v))))))
    state-asks cut = carve-asks G n g s cls count ws S.cur k d low till end S.carving more mid v D cut

    pub state-again : mid < end → (e : ℕ) (w : List ℕ) → Carved n d k low mid end v e w
        → CarveState G n g s cls count k₀ till end ws₁ w (k + 1) e mid
    state-again cut e w c =
        let a = state-asks cut in
        let t = carve-again G n g s cls count ws S.cur k d low till end S.carving more mid v D cut a.0
        a.1.0
        e w c in
        record {
          cur = t.0;
          carving = t.1;
          more = omega (arith, S.more);
          len = carved-length n d k low mid end v a.0 a.1.0 e w c ∙ D.len ∙ S.len;
          keeps = λ x h. carved-high n d k low mid end v a.0 a.1.0 e w c x (omega (arith, behind))
              ∙ D.keeps x (inr (omega (arith, behind))) ∙ S.keeps x h;
        }

    pub state-none : end ≤ mid → CarveState G n g s cls count k₀ till end ws₁ v k d mid
    state-none all = record {
      cur = S.cur;
      carving = carve-none G n g s cls count ws S.cur k d low till end S.carving more mid v D all;
      more = S.more;
      len = D.len ∙ S.len;
      keeps = λ x h. D.keeps x (inr (omega (arith, behind))) ∙ S.keeps x h;
    }

-- after it
pub split-last : (G : List ℕ) (n g s : ℕ) (cls : ℕ → ℕ) (count k₀ till end : ℕ) (ws₀ ws₁ ws : List ℕ)
    (k d₀ d low : ℕ) → CarveState G n g s cls count k₀ till end ws₁ ws k d low → till ≤ low
    → ws₁ ≡ set ws₀ (g + n + d₀) 0 → d₀ < n → g + 4 * n ≤ length ws₀ → SplitOne G n g s cls count d₀ ws₀ k₀ k ws
split-last G n g s cls count k₀ till end ws₀ ws₁ ws k d₀ d low S h e l room =
    let C = S.carving in
    record {
      cur = S.cur;
      splitting = record { parting = C.parting; apart = λ p q a b f t. go C p q a b f t (ℕ_discrete (S.cur p) d) };
      more = S.more;
      len = S.len ∙ ap length e ∙ length-set ws₀ (g + n + d₀) 0;
      zero = S.keeps (g + n + d₀) (omega arith) ∙ ap (λ w. get_or w (g + n + d₀) 0) e
          ∙ get_or-set_same ws₀ (g + n + d₀) 0 0 (omega arith);
      keeps = λ x u ne. S.keeps x u ∙ ap (λ w. get_or w x 0) e ∙ get_or-set_other ws₀ (g + n + d₀) x 0 0 ne;
    }
  where
    go : Carving G n g s cls count ws S.cur k d low till end → (p q : ℕ) → p < n → q < n → S.cur p ≡ S.cur q
        → touched_at n g ws (S.cur p) ≡ 0 → Dec (S.cur p ≡ d) → SameInto (δ G n) cls s p q
    go C p q a b f t (yes z) = C.done h p q a b z (sym f ∙ z)
    go C p q a b f t (no z) = C.others p q a b f z t
