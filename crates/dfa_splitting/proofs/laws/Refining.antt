-- Classes made finer, splitter by splitter. Assumes nothing.
use mathlib.Core.Bool.{false, true}
use mathlib.Core.List.{List, []}
use mathlib.Core.Logic.{◌≢◌, ◌⊎◌, inl, inr}
use mathlib.Core.Path.{◌∙◌, ◌≡◌, ap, refl, subst, sym}
use Prim.Native.Nat.{◌*◌, ◌+◌, ◌-◌, ◌<◌, ◌≤◌, suc, zero, ℕ}
use native.Mathlib.Decide.{dec_lt, ℕ_discrete}
use native.Mathlib.Omega.{arith}
use lib.ListN.{get_or, length}
use borrow.Author.Tests.{eq-eqb, ne_eqb}
use Rattle.dfa.specs.Graph.{look, δ}
use Rattle.dfa.specs.Live.{Single}
use Rattle.dfa.specs.Word.{accepting}
use Rattle.dfa.proofs.laws.Look.{δ-lt}
use Rattle.dfa_smallest.specs.Classes.{Accepting, Finite, Into, Refining, Split}
use Rattle.dfa_smallest.proofs.Refining.{refined, refining-on}
use Rattle.dfa_smallest.proofs.Pigeons.{pigeons}
use Rattle.dfa_classes.specs.Places.{class_at, from_at, list_at, member_at, place_at, to_at, touched_at}
use Rattle.dfa_splitting.specs.inner.Refining.{Ready, Refinable, RefineState, Refined, SplitAll, SplitState}
use Rattle.dfa_splitting.specs.inner.Refining.{SignedAll, Touched}
use Rattle.dfa_splitting.specs.inner.Signs.{HasSign, Signable, Signed, SignedTo, SigningAll, ToSign}
use Rattle.dfa_splitting.proofs.laws.Signs.{same_sign}
use Rattle.dfa_splitting.proofs.laws.Exact.{same-letters}
use Rattle.dfa_splitting.proofs.laws.Splitting.{into-moves, signed-keep}
use Rattle.dfa_splitting.specs.inner.Renaming.{RenamedAll}
use Rattle.dfa_splitting.specs.inner.Splitting.{SplitOne}
use Rattle.dfa_classes.specs.inner.Sources.{AllTouched}
use Rattle.dfa_classes.specs.inner.Touching.{IsTouched, Touching}
use Rattle.dfa_classes.proofs.laws.Packed.{packed_keep}
use Rattle.dfa_classes.proofs.laws.Touching.{few-classes, few-own, parted-keep}

-- the loop of split_all
module _ (G : List ℕ) (n g s : ℕ) (cls : ℕ → ℕ) (count m : ℕ) (ws : List ℕ) (T : Touched G n g s cls count m ws) where
  t : Touching G n g s cls count ws m
  t = T.touching

  few-n : count ≤ n
  few-n = few-own G n g s cls count ws m t

  pub split-first : Signed G n g s cls ws → SplitState G n g s cls count m ws ws count 0
  split-first signed = record {
    cur = cls;
    signed = signed;
    more = omega arith;
    len = refl;
    few = omega (arith, few-n, pigeons count m (list_at n g ws) t.list_low t.list_one);
    splitting = record {
      parting = record {
        packed = t.packed;
        parted = t.parted;
        class = t.class;
        some = T.some;
        dead = T.dead;
        above = omega arith;
        finer = λ p q a b e. e;
        number = λ p h. inl refl;
        joined = λ p q a b e f. e;
        within = t.within;
        fresh = t.fresh;
        goes = λ p h u i. t.into p h i;
        comes = λ p h u i. T.all p h i;
      };
      apart = λ p q a b e z m. (
        (λ x. absurd (none p a z (m, x))),
        (λ x. absurd (none q b (ap (touched_at n g ws) (sym e)
            ∙ z) (m, x))),
      );
    };
    pending = λ c h u. pending c h u (dec_lt c count);
    list_low = t.list_low;
    list_some = λ y a b. t.list_some y b;
    list_one = t.list_one;
  }
    where
      none : (p : ℕ) → p < n → touched_at n g ws (cls p) ≡ 0 → Into (δ G n) cls s p → ⊥
      none p h z i = let u = T.all p h i in let f = t.parted.own_from p h in omega arith

      pending : (c : ℕ) → c < n → 0 < touched_at n g ws c → Dec (c < count)
          → (y : ℕ) × ((0 ≤ y) × ((y < m) × (list_at n g ws y ≡ c)))
      pending c h u (yes l) = let f = t.listed c l u in (f.0, (omega arith, (f.1.0, f.1.1)))
      pending c h u (no l) = absurd (omega (arith, u, t.fresh c (omega arith) h))

  module _ (v : List ℕ) (k x : ℕ) (S : SplitState G n g s cls count m ws v k x) (h : x < m) where
    pub listed-asks : (x < n) × ((n ≤ 8192) × ((g ≤ 600000) × (g + 4 * n ≤ length v)))
    listed-asks = let z = S.splitting.parting.packed.sized in
        (omega (arith, S.few), (z.few, (omega arith, z.room)))

    module _ (d : ℕ) (e : d ≡ list_at n g v x) where
      pub d_low : d < k
      d_low = omega (arith, S.list_low x h, S.more)

      pub d-some : 0 < touched_at n g v d
      d-some = subst (λ y. 0 < touched_at n g v y) {x = list_at n g v x} {y = d} (sym e) (S.list_some x (omega arith) h)

      d-n : d < n
      d-n = omega (arith, S.list_low x h, few-n)

      pub split-again : (k' : ℕ) (w : List ℕ) → SplitOne G n g s cls count d v k k' w
          → SplitState G n g s cls count m ws w k' (x + 1)
      split-again k' w O = record {
        cur = O.cur;
        splitting = O.splitting;
        signed = signed-keep G n g s cls v w S.signed
            (λ p. O.keeps (g + 3 * n + p) (omega arith) (λ q. omega (arith, d-n)));
        more = omega (arith, O.more, S.more);
        len = O.len ∙ S.len;
        few = S.few;
        pending = λ c a u. pending c a u (ℕ_discrete c d);
        list_low = λ y a. rw (list-is y) (S.list_low y a);
        list_some = λ y a b. rw (list-is y) (some_is (list_at n g v y) (other y a b) (S.list_some y (omega arith) b));
        list_one = λ y z a b q. S.list_one y z a b (sym (list-is y) ∙ q ∙ list-is z);
      }
        where
          list-is : (y : ℕ) → list_at n g w y ≡ list_at n g v y
          list-is y = O.keeps (g + 2 * n + y) (omega arith) (λ q. omega (arith, d-n))

          touched-is : (c : ℕ) → c ≢ d → touched_at n g w c ≡ touched_at n g v c
          touched-is c ne = O.keeps (g + n + c) (omega arith) (λ q. ne (omega arith))

          some_is : (c : ℕ) → c ≢ d → 0 < touched_at n g v c → 0 < touched_at n g w c
          some_is c ne u = omega (arith, touched-is c ne)

          other : (y : ℕ) → x + 1 ≤ y → y < m → list_at n g v y ≢ d
          other y a b q = let z = S.list_one y x b h (q ∙ e) in omega arith

          pending : (c : ℕ) → c < n → 0 < touched_at n g w c → Dec (c ≡ d)
              → (y : ℕ) × ((x + 1 ≤ y) × ((y < m) × (list_at n g w y ≡ c)))
          pending c a u (yes q) = absurd (omega (arith, u, ap (touched_at n g w) q, O.zero))
          pending c a u (no q) =
              let f = S.pending c a (omega (arith, touched-is c q)) in (
                f.0,
                (
                  next f.0 f.1.0 f.1.1.1 (ℕ_discrete f.0 x),
                  (
                    f.1.1.0,
                    list-is f.0 ∙
                        f.1.1.1,
                  ),
                ),
              )
            where
              next : (y : ℕ) → x ≤ y → list_at n g v y ≡ c → Dec (y ≡ x) → x + 1 ≤ y
              next y l z (yes r) = absurd (q (sym z ∙ ap (list_at n g v) r ∙ sym e))
              next y l z (no r) = less (dec_lt x y)
                where
                  less : Dec (x < y) → x + 1 ≤ y
                  less (yes o) = omega arith
                  less (no o) = absurd (r (omega arith))

  pub split_done : (v : List ℕ) (k x : ℕ) → SplitState G n g s cls count m ws v k x → m ≤ x
      → SplitAll G n g s cls count ws k v
  split_done v k x S h =
      let few = few-classes n v S.cur k S.splitting.parting.parted in
      record {
        cur = S.cur;
        parting = S.splitting.parting;
        len = S.len;
        zero = zero-at;
        apart = λ p q a b e. S.splitting.apart p q a b e
            (zero-at (S.cur p) (omega (arith, few, S.splitting.parting.parted.own_low p a)));
      }
    where
      zero-at : (c : ℕ) → c < n → touched_at n g v c ≡ 0
      zero-at c a = go (dec_lt 0 (touched_at n g v c))
        where
          go : Dec (0 < touched_at n g v c) → touched_at n g v c ≡ 0
          go (yes u) = let f = S.pending c a u in absurd (omega (arith, f.1.0, f.1.1.0))
          go (no u) = omega arith

-- from the words before the signs on
pub split_from : (G : List ℕ) (n g s : ℕ) (cls : ℕ → ℕ) (count m : ℕ) (ws ws₁ : List ℕ)
    → SignedAll G n g s cls count m ws ws₁ → (k : ℕ) (v : List ℕ) → SplitAll G n g s cls count ws₁ k v
    → SplitAll G n g s cls count ws k v
split_from G n g s cls count m ws ws₁ A k v S = record {
  cur = S.cur;
  parting = S.parting;
  apart = S.apart;
  zero = S.zero;
  len = S.len ∙ A.len;
}

-- the loop of sign_all
module _ (G : List ℕ) (n g s : ℕ) (cls : ℕ → ℕ) (count m : ℕ) (ws : List ℕ) (T : Touched G n g s cls count m ws) where
  u : Touching G n g s cls count ws m
  u = T.touching

  few-u : count ≤ n
  few-u = few-own G n g s cls count ws m u

  pub few-m : m ≤ n
  few-m = omega (arith, few-u, pigeons count m (list_at n g ws) u.list_low u.list_one)

  module _ (x : ℕ) (v : List ℕ) (D : SigningAll G n g s cls x ws v) where
    z : (n ≤ 8192) × ((g ≤ 600000) × ((6 * n < g) × (g + 4 * n ≤ length v)))
    z = let y = u.packed.sized in (y.few, (omega arith, (omega arith, omega (arith, D.len))))

    v-touching : Touching G n g s cls count v m
    v-touching = record {
      packed = packed_keep G n g ws u.packed v D.len (λ i a b. D.keeps i (omega arith));
      parted = parted-keep n ws v cls count u.parted (λ i a b. D.keeps i (omega (arith, z.1.1.0)));
      class = λ p l. D.keeps p (omega (arith, z.1.1.0)) ∙ u.class p l;
      within = λ c l. omega (
        arith,
        from-v c (omega (arith, few-u)),
        to-v c (omega (arith, few-u)),
        touched-v c (omega
            (arith, few-u)),
        u.within c l,
      );
      fresh = λ c a b. touched-v c b ∙ u.fresh c a b;
      into = λ p l t. u.into p l (back p l t);
      listed = λ c l t. let f = u.listed c l (omega (arith, touched-v c (omega (arith, few-u)))) in
          (f.0, (f.1.0, list-v f.0 f.1.0 ∙ f.1.1));
      list_low = λ y l. rw (list-v y l) (u.list_low y l);
      list_some = λ y l. rw (list-v y l) (omega (
        arith,
        touched-v (list_at n g ws y) (omega (
          arith,
          few-u,
          u.list_low y l,
        )),
        u.list_some y l,
      ));
      list_one = λ a b h k e. u.list_one a b h k (sym (list-v a h) ∙ e ∙ list-v b k);
    }
      where
        from-v : (c : ℕ) → c < n → from_at n v c ≡ from_at n ws c
        from-v c h = D.keeps (3 * n + c) (omega (arith, z.1.1.0))

        to-v : (c : ℕ) → c < n → to_at n v c ≡ to_at n ws c
        to-v c h = D.keeps (4 * n + c) (omega (arith, z.1.1.0))

        touched-v : (c : ℕ) → c < n → touched_at n g v c ≡ touched_at n g ws c
        touched-v c h = D.keeps (g + n + c) (omega arith)

        list-v : (y : ℕ) → y < m → list_at n g v y ≡ list_at n g ws y
        list-v y h = D.keeps (g + 2 * n + y) (omega (arith, few-m))

        back : (p : ℕ) → p < n → IsTouched n g cls v p → IsTouched n g cls ws p
        back p h t = let o = u.parted.own_low p h in
            omega (
              arith,
              t,
              D.keeps (2 * n + p) (omega (arith, z.1.1.0)),
              from-v (cls p) (omega (arith, few-u)),
              touched-v (cls p) (omega (arith, few-u)),
            )

    module _ (h : x < m) where
      pub signs-listed : (x < n) × ((n ≤ 8192) × ((g ≤ 600000) × (g + 4 * n ≤ length v)))
      signs-listed = (omega (arith, few-m), (z.0, (z.1.0, z.1.1.1)))

      module _ (d : ℕ) (e : d ≡ list_at n g v x) where
        d-is : d ≡ list_at n g ws x
        d-is = e ∙ D.keeps (g + 2 * n + x) (omega (arith, few-m))

        d-count : d < count
        d-count = omega (arith, d-is, u.list_low x h)

        pub d-class : (d < n) × ((n ≤ 8192) × (5 * n ≤ length v))
        d-class = (omega (arith, d-count, few-u), (z.0, omega (arith, z.1.1)))

        pub d-touched : (d < n) × ((n ≤ 8192) × ((g ≤ 600000) × (g + 4 * n ≤ length v)))
        d-touched = (omega (arith, d-count, few-u), (z.0, (z.1.0, z.1.1.1)))

        pub till-low : from_at n v d + touched_at n g v d ≤ n
        till-low = omega (arith, v-touching.within d d-count, v-touching.parted.top d d-count)

        pub signs-able : Signable G n g cls v
        signs-able = record {
          packed = v-touching.packed;
          members = v-touching.parted.member_low;
          class =
              v-touching.class;
        }

        module _ (a b : ℕ) (ea : a ≡ from_at n v d) (eb : b ≡ from_at n v d + touched_at n g v d) where
          pub signs-asks : ToSign n g a b v
          signs-asks = record {
            graph = G;
            cls = cls;
            able = signs-able;
            order = omega arith;
            top = omega (
              arith,
              till-low,
            );
          }

          pub signs-again : (w : List ℕ) → SignedTo G n g s cls a b v w → SigningAll G n g s cls (x + 1) ws w
          signs-again w E = record {
            len = E.len ∙ D.len;
            keeps = λ y l. E.keeps y l ∙ D.keeps y l;
            signs = λ y l i p q. go y l i p q (ℕ_discrete y x);
          }
            where
              a_is : a ≡ from_at n ws (list_at n g ws x)
              a_is = ea ∙ D.keeps (3 * n + d) (omega (arith, z.1.1.0, d-class.0)) ∙ ap (from_at n ws) d-is

              b_is : b ≡ a + touched_at n g ws (list_at n g ws x)
              b_is = omega (arith, eb, ea, D.keeps (g + n + d) (omega (arith, d-class.0)), ap (touched_at n g ws) d-is)

              go : (y : ℕ) → y < x + 1 → (i : ℕ) → from_at n ws (list_at n g ws y) ≤ i
                  → i < from_at n ws (list_at n g ws y) + touched_at n g ws (list_at n g ws y) → Dec (y ≡ x)
                  → HasSign G n g s cls w (member_at n ws i)
              go y l i p q (yes r) = subst (HasSign G n g s cls w)
                  (D.keeps (n + i) (omega (arith, z.1.1.0, low-i))) (E.signs i from-a to-b)
                where
                  from-a : a ≤ i
                  from-a = omega (arith, a_is, ap (λ k. from_at n ws (list_at n g ws k)) r)

                  to-b : i < b
                  to-b = omega (
                    arith,
                    a_is,
                    b_is,
                    ap (λ k. from_at n ws (list_at n g ws k)) r,
                    ap (λ k. touched_at n g ws (list_at n g ws k)) r,
                  )

                  low-i : i < n
                  low-i = omega (arith, to-b, eb, till-low)
              go y l i p q (no r) = E.stays (member_at n ws i) (D.signs y (omega arith) i p q)

    pub signs-last : m ≤ x → SignedAll G n g s cls count m ws v
    signs-last h = record {
      len = D.len;
      touched = record { touching = v-touching; all = all; dead = T.dead; some = T.some };
      signed = record {
        alike = λ p q a b i k. has p a i ∙ same_sign G n cls s T.some T.dead p q (u.packed.graph.edges p a)
            (u.packed.graph.edges q b) k ∙ sym (has q b (into-moves (δ G n) cls s p q k i));
        exact = λ p q a b i j e l. same-letters G n cls s T.some T.dead p q (u.packed.graph.edges p a)
            (u.packed.graph.edges q b) (sym (has p a i) ∙ e ∙ has q b j) (omega (arith, has p a i));
      };
    }
      where
        all : (p : ℕ) → p < n → Into (δ G n) cls s p → IsTouched n g cls v p
        all p a i = let o = u.parted.own_low p a in
            omega (
              arith,
              T.all p a i,
              D.keeps (2 * n + p) (omega (arith, z.1.1.0)),
              D.keeps (3 * n + cls p)
                  (omega (arith, z.1.1.0, few-u)),
              D.keeps (g + n + cls p) (omega (arith, few-u)),
            )

        has : (p : ℕ) → p < n → Into (δ G n) cls s p → HasSign G n g s cls v p
        has p a i =
            let t = T.all p a i in
            let o = u.parted.own_from p a in
            let f = u.listed (cls p) (u.parted.own_low p a) (omega arith) in
            subst (HasSign G n g s cls v) (u.parted.member_place p a)
            (D.signs f.0 (omega (arith, f.1.0)) (place_at n ws p) (omega (arith, ap (from_at n ws) f.1.1))
            (omega (arith, ap (from_at n ws) f.1.1, ap (touched_at n g ws) f.1.1)))

-- no class is touched
ready-touching : (G : List ℕ) (n g s : ℕ) (own : ℕ → ℕ) (count : ℕ) (ws : List ℕ) → Ready G n g own count ws
    → Touching G n g s own count ws 0
ready-touching G n g s own count ws R =
    let few = few-classes n ws own count R.parted in
    record {
      packed = R.packed;
      parted = R.parted;
      class = R.class;
      within = λ c h. omega (arith, R.zero c (omega arith), R.parted.some c h);
      fresh = λ c a b. R.zero c b;
      into = λ p h t. absurd (let f = R.parted.own_from p h in
          omega (arith, t, R.zero (own p) (omega (arith, R.parted.own_low p h))));
      listed = λ c h t. absurd (omega (arith, t, R.zero c (omega arith)));
      list_low = λ x l. absurd (omega arith);
      list_some = λ x l. absurd (omega arith);
      list_one = λ x y l m e. absurd (omega arith);
    }

-- the automaton
module _ (G : List ℕ) (n f : ℕ) (single : Single G n f) (low : f < n) where
  dead-step : (m : ℕ) → δ G n (n - 1) m ≡ n - 1
  unfolding look
  dead-step m = ap (λ k. look G n m k (get_or G (n - 1) 0)) {x = get_or G (n - 1 + 1) 0 - get_or G (n - 1) 0} {y = zero}
      (omega (arith, ap (λ k. get_or G k 0) {x = n - 1 + 1} {y = n} (omega (arith, single.graph.some)), single.empty))

  pub finite : Finite (δ G n) (accepting f f) n (n - 1)
  finite = record {
    inside = λ p m h. δ-lt G n p m single.graph h;
    low = omega (arith, single.graph.some);
    stays = dead-step;
    ends = rw (ne_eqb (n - 1) f (λ e. single.other (sym e)));
  }

  accepts-f : accepting f f f ≡ true
  accepts-f = rw (eq-eqb f f refl)

  refuses : (p : ℕ) → p ≢ f → accepting f f p ≡ false
  refuses p ne = rw (ne_eqb p f ne)

  -- before the loop of refine
  module _ (g : ℕ) (ws : List ℕ) (R : Refinable G n g f ws) where
    own-one : (p : ℕ) → p < n → R.own p ≡ 1 → p ≡ f
    own-one p h e = go (ℕ_discrete p f)
      where
        go : Dec (p ≡ f) → p ≡ f
        go (yes q) = q
        go (no q) = absurd (omega (arith, e, R.others p h q))

    own-two : (p : ℕ) → p < n → R.own p < 2
    own-two p h = R.ready.parted.own_low p h

    pub refine-first : RefineState G n g f ws 2 1
    refine-first = record {
      own = R.own;
      ready = R.ready;
      some = omega arith;
      refining = record {
        zero = R.others (n - 1) (omega (arith, single.graph.some)) (λ e. single.other (sym e));
        low = own-two;
        joins = λ p q a b e. joins p q a b (e []) (ℕ_discrete p f) (ℕ_discrete q f);
        live = λ p h ne. live p h (ℕ_discrete p f) ne;
        final = λ p q a b e. final p q a b e (ℕ_discrete p f) (ℕ_discrete q f);
        stable = λ p q a b e m ne. stable (R.own (δ G n p m)) (R.own (δ G n q m)) ne;
      };
    }
      where
        false-true : {A : Type 0} → true ≡ false → A
        false-true e = let z : ◌≡◌ {A = ℕ} 0 1 = cc in absurd (omega arith)

        joins : (p q : ℕ) → p < n → q < n → accepting f f p ≡ accepting f f q → Dec (p ≡ f) → Dec (q ≡ f)
            → R.own p ≡ R.own q
        joins p q a b e (yes x) (yes y) = ap R.own (x ∙ sym y)
        joins p q a b e (yes x) (no y) = false-true (sym (ap (accepting f f) x ∙ accepts-f) ∙ e ∙ refuses q y)
        joins p q a b e (no x) (yes y) = false-true (sym (ap (accepting f f) y ∙ accepts-f) ∙ sym e ∙ refuses p x)
        joins p q a b e (no x) (no y) = R.others p a x ∙ sym (R.others q b y)

        live : (p : ℕ) → p < n → Dec (p ≡ f) → R.own p ≢ 0 → Accepting (δ G n) (accepting f f) p
        live p h (yes x) ne = ([], ap (accepting f f) x ∙ accepts-f)
        live p h (no x) ne = absurd (ne (R.others p h x))

        final : (p q : ℕ) → p < n → q < n → R.own p ≡ R.own q → Dec (p ≡ f) → Dec (q ≡ f)
            → accepting f f p ≡ accepting f f q
        final p q a b e (yes x) (yes y) = ap (accepting f f) (x ∙ sym y)
        final p q a b e (yes x) (no y) = absurd (y (own-one q b (sym e ∙ ap R.own x ∙ R.accepts)))
        final p q a b e (no x) (yes y) = absurd (x (own-one p a (e ∙ ap R.own y ∙ R.accepts)))
        final p q a b e (no x) (no y) = refuses p x ∙ sym (refuses q y)

        stable : (a b : ℕ) → a ≢ b → (1 ≤ a) ⊎ (1 ≤ b)
        stable zero zero ne = absurd (ne refl)
        stable zero (suc b) ne = inr (omega arith)
        stable (suc a) b ne = inl (omega arith)

  -- a turn of the loop
  module _ (g : ℕ) (ws : List ℕ) (count s : ℕ) (S : RefineState G n g f ws count s) (left : s < count) where
    pub turn-touching : Touching G n g s S.own count ws 0
    turn-touching = ready-touching G n g s S.own count ws S.ready

    module _ (m : ℕ) (v : List ℕ) (A : AllTouched G n g s S.own count ws m v) where
      pub turn-touched : Touched G n g s S.own count m v
      turn-touched = record {
        touching = A.touching;
        dead = S.refining.zero;
        some = S.some;
        all = λ p h i. A.all p h i S.refining.zero S.some;
      }

      module _ (k : ℕ) (u : List ℕ) (B : SplitAll G n g s S.own count v k u) where
        turn-split : Split (δ G n) n S.own s count B.cur k
        turn-split = record {
          low = B.parting.parted.own_low;
          finer = B.parting.finer;
          number = B.parting.number;
          apart = B.apart;
          joined = B.parting.joined;
        }

        pub turn-few : (n ≤ 8192) × ((5 * n ≤ length u) × (k ≤ n))
        turn-few = let z = B.parting.packed.sized in
            (z.few, (omega arith, few-classes n u B.cur k B.parting.parted))

        pub refine-again : (w : List ℕ) → RenamedAll n B.cur count u w → RefineState G n g f w k (s + 1)
        refine-again w N =
            let z = B.parting.packed.sized in
            record {
              own = B.cur;
              some = omega arith;
              refining = subst (λ x. Refining (δ G n) (accepting f f) n (n - 1) B.cur x k) {x = suc s} {y = s + 1}
                  (omega arith)
                  (refining-on (δ G n) (accepting f f) n (n - 1) finite S.own s count S.refining S.some left
                  B.cur k
                  turn-split);
              ready = record {
                packed = packed_keep G n g u B.parting.packed w N.len (λ x a b. N.keeps x (omega arith));
                parted = parted-keep n u w B.cur k B.parting.parted (λ x a b. N.keeps x a);
                class = λ p h. class p h (dec_lt (B.cur p) count);
                zero = λ c h. N.keeps (g + n + c) (omega arith) ∙ B.zero c h;
              };
            }
          where
            class : (p : ℕ) → p < n → Dec (B.cur p < count) → class_at w p ≡ B.cur p
            class p h (no l) = N.here p h (omega arith)
            class p h (yes l) = N.there p h l ∙ B.parting.class p h ∙ old (B.parting.number p h)
              where
                old : (B.cur p ≡ S.own p) ⊎ ((count ≤ B.cur p) × (Into (δ G n) S.own s p ⊎ (S.own p ≢ 0)))
                    → S.own p ≡ B.cur p
                old (inl e) = sym e
                old (inr e) = absurd (omega (arith, e.0))

  pub refine-last : (g : ℕ) (ws : List ℕ) (count s : ℕ) → RefineState G n g f ws count s → count ≤ s
      → Refined G n g f count ws
  refine-last g ws count s S h = record {
    own = S.own;
    ready = S.ready;
    classes = refined (δ G n) (accepting f f) n (n - 1) finite S.own s count S.refining h;
  }
