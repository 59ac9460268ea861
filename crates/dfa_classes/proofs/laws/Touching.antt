-- One state more is touched. Assumes nothing.
use mathlib.Core.Bool.{cond}
use mathlib.Core.List.{List}
use mathlib.Core.Logic.{◌≢◌, ◌⊎◌, inl, inr}
use mathlib.Core.Path.{◌∙◌, ◌≡◌, ap, refl, subst, sym}
use Prim.Native.Nat.{◌*◌, ◌+◌, ◌<◌, ◌≤◌, ℕ}
use native.Mathlib.Decide.{dec_lt, ℕ_discrete}
use native.Mathlib.Omega.{arith}
use lib.Dec.{eqb}
use lib.ListN.{get_or, length, length-set, set}
use lib.Seq.{get_or-set_other, get_or-set_same}
use borrow.Author.Tests.{eq-eqb, ne_eqb}
use Rattle.dfa.specs.Graph.{δ}
use Rattle.dfa_smallest.specs.Classes.{Into}
use Rattle.dfa_smallest.proofs.Pigeons.{pigeons}
use Rattle.dfa_classes.specs.Packed.{Packed}
use Rattle.dfa_classes.specs.Parted.{Parted}
use Rattle.dfa_classes.specs.Places.{class_at, exchanged, from_at, list_at, member_at, place_at, to_at, touched_at}
use Rattle.dfa_classes.specs.inner.Touching.{IsTouched, TouchKeeps, Touches, Touching}
use Rattle.dfa_classes.proofs.laws.Packed.{packed_keep}
use Rattle.dfa_classes.proofs.laws.Places.{exchanged-length, exchanged-other, exchanged-parted}
use Rattle.dfa_classes.proofs.laws.Places.{exchanged-place, first_member, swap, swap-all, swap-other, swap-right}

-- there are no more classes than states
pub few-classes : (n : ℕ) (ws : List ℕ) (own : ℕ → ℕ) (count : ℕ) → Parted n ws own count → count ≤ n
few-classes n ws own count P = pigeons n count (λ c. member_at n ws (from_at n ws c))
    (λ c h. P.member_low (from_at n ws c) (omega (arith, P.some c h, P.top c h)))
    (λ c d h k e. sym (first_member n ws own count P c h) ∙ ap own e ∙ first_member n ws own count P d k)

-- what stays where members, places and the places of classes do
pub parted-keep : (n : ℕ) (ws ws' : List ℕ) (own : ℕ → ℕ) (count : ℕ) → Parted n ws own count
    → ((i : ℕ) → n ≤ i → i < 5 * n → get_or ws' i 0 ≡ get_or ws i 0) → Parted n ws' own count
parted-keep n ws ws' own count P keep =
    let few = few-classes n ws own count P in
    record {
      member_low = λ i h. rw (mem i h) (P.member_low i h);
      place_low = λ p h. rw (pla p h) (P.place_low p h);
      member_place = λ p h. ap (member_at n ws') (pla p h) ∙ mem (place_at n ws p) (P.place_low p h) ∙ P.member_place p
          h;
      place_member = λ i h. ap (place_at n ws') (mem i h) ∙ pla (member_at n ws i) (P.member_low i h) ∙ P.place_member i
          h;
      own_low = P.own_low;
      own_from = λ p h. rw (fro (own p) (omega (arith, P.own_low p h)), pla p h) (P.own_from p h);
      own_to = λ p h. rw (toa (own p) (omega (arith, P.own_low p h)), pla p h) (P.own_to p h);
      whole = λ c l x u v.
          let f = fro c (omega arith) in let t = toa c (omega arith) in
          ap own (mem x (omega (arith, P.top c l))) ∙ P.whole c l x (omega arith) (omega arith);
      some = λ c l. rw (fro c (omega arith), toa c (omega arith)) (P.some c l);
      top = λ c l. rw (toa c (omega arith)) (P.top c l);
    }
  where
    mem : (i : ℕ) → i < n → member_at n ws' i ≡ member_at n ws i
    mem i h = keep (n + i) (omega arith) (omega arith)

    pla : (p : ℕ) → p < n → place_at n ws' p ≡ place_at n ws p
    pla p h = keep (2 * n + p) (omega arith) (omega arith)

    fro : (c : ℕ) → c < n → from_at n ws' c ≡ from_at n ws c
    fro c h = keep (3 * n + c) (omega arith) (omega arith)

    toa : (c : ℕ) → c < n → to_at n ws' c ≡ to_at n ws c
    toa c h = keep (4 * n + c) (omega arith) (omega arith)

module _ (G : List ℕ) (n g s : ℕ) (own : ℕ → ℕ) (count : ℕ) (ws : List ℕ) (k : ℕ)
    (T : Touching G n g s own count ws k) where
  pub touch-room : (n ≤ 8192) × ((g ≤ 600000) × (g + 4 * n ≤ length ws))
  touch-room = let z = T.packed.sized in (z.few, (omega arith, z.room))

  pub few-own : count ≤ n
  few-own = few-classes n ws own count T.parted

  pub class_low : (p d : ℕ) → p < n → d ≡ class_at ws p → d < n
  class_low p d h e = omega (arith, e, T.class p h, T.parted.own_low p h, few-own)

  -- what a class without touched members, and one more, leave room for
  few-more : (d : ℕ) → d < count → touched_at n g ws d ≡ 0 → k < count
  few-more d h z = let r = pigeons count (k + 1) f low one in omega arith
    where
      f : ℕ → ℕ
      f x = cond (eqb x k) d (list_at n g ws x)

      at-k : (x : ℕ) → x ≡ k → f x ≡ d
      at-k x e = rw (eq-eqb x k e)

      at_other : (x : ℕ) → x ≢ k → f x ≡ list_at n g ws x
      at_other x e = rw (ne_eqb x k e)

      low : (x : ℕ) → x < k + 1 → f x < count
      low x l = go (ℕ_discrete x k)
        where
          go : Dec (x ≡ k) → f x < count
          go (yes e) = rw (at-k x e) h
          go (no e) = rw (at_other x e) (T.list_low x (omega arith))

      none : (x : ℕ) → x < k → list_at n g ws x ≢ d
      none x l e = omega (arith, T.list_some x l, ap (touched_at n g ws) e)

      one : (x y : ℕ) → x < k + 1 → y < k + 1 → f x ≡ f y → x ≡ y
      one x y l m e = go (ℕ_discrete x k) (ℕ_discrete y k)
        where
          go : Dec (x ≡ k) → Dec (y ≡ k) → x ≡ y
          go (yes a) (yes b) = a ∙ sym b
          go (yes a) (no b) = absurd (none y (omega arith) (sym (at_other y b) ∙ sym e ∙ at-k x a))
          go (no a) (yes b) = absurd (none x (omega arith) (sym (at_other x a) ∙ e ∙ at-k y b))
          go (no a) (no b) = T.list_one x y (omega arith) (omega arith) (sym (at_other x a) ∙ e ∙ at_other y b)

  module _ (p d c first i : ℕ) (low : p < n) (goes : Into (δ G n) own s p) (ed : d ≡ class_at ws p)
      (ec : c ≡ touched_at n g ws d) (ef : first ≡ from_at n ws d + c) (ei : i ≡ place_at n ws p) where
    own_is : own p ≡ d
    own_is = sym (T.class p low) ∙ sym ed

    d-count : d < count
    d-count = omega (arith, own_is, T.parted.own_low p low)

    d_low : d < n
    d_low = omega (arith, d-count, few-own)

    module _ (new : first ≤ i) where
      i-top : i < to_at n ws d
      i-top = omega (
        arith,
        subst (λ e. place_at n ws p < to_at n ws e) {x = own p} {y = d} own_is (T.parted.own_to p
            low),
      )

      i-low : i < n
      i-low = omega (arith, i-top, T.parted.top d d-count)

      first-low : first < n
      first-low = omega (arith, i-low)

      -- what exchange and set_touched ask
      pub exchange-asks : (n ≤ 8192) × ((first < n) × ((i < n) × ((5 * n ≤ length ws)
          × ((member_at n ws first < n) × (member_at n ws i < n)))))
      exchange-asks = let z = T.packed.sized in (
        z.few,
        (
          first-low,
          (
            i-low,
            (
              omega arith,
              (
                T.parted.member_low first first-low,
                T.parted.member_low i i-low,
              ),
            ),
          ),
        ),
      )

      pub touched-asks : (v : List ℕ) → v ≡ exchanged n ws first i
          → (d < n) × ((c + 1 ≤ n) × ((n ≤ 8192) × ((g ≤ 600000) × (g + 4 * n ≤ length v))))
      touched-asks v e = let z = T.packed.sized in (
        d_low,
        (
          omega (arith, i-low),
          (
            z.few,
            (
              omega arith,
              rw e (omega (
                arith,
                exchanged-length n ws own count T.parted (omega arith) first i first-low i-low,
              )),
            ),
          ),
        ),
      )

      same-own : own (member_at n ws first) ≡ own (member_at n ws i)
      same-own = T.parted.whole d d-count first (omega arith) (omega (arith, i-top)) ∙ sym own_is
          ∙ ap own (sym (ap (member_at n ws) ei ∙ T.parted.member_place p low))

      abbrev w₁ : List ℕ
      w₁ = exchanged n ws first i

      abbrev w₂ : List ℕ
      w₂ = set w₁ (g + n + d) (c + 1)

      room₁ : 5 * n ≤ length ws
      room₁ = let z = T.packed.sized in omega arith

      w₂-length : length w₂ ≡ length ws
      w₂-length = length-set w₁ (g + n + d) (c + 1) ∙ exchanged-length n ws own count T.parted room₁ first i
          first-low i-low

      -- the words that stay
      w₂-other : (x : ℕ) → (x < n) ⊎ (3 * n ≤ x) → x ≢ g + n + d → get_or w₂ x 0 ≡ get_or ws x 0
      w₂-other x h ne = get_or-set_other w₁ (g + n + d) x (c + 1) 0 ne
          ∙ exchanged-other n ws own count T.parted room₁ first i first-low i-low x h

      w₂-from : (e : ℕ) → e < n → from_at n w₂ e ≡ from_at n ws e
      w₂-from e h = let z = T.packed.sized in w₂-other (3 * n + e) (inr (omega arith)) (λ q. omega arith)

      w₂-to : (e : ℕ) → e < n → to_at n w₂ e ≡ to_at n ws e
      w₂-to e h = let z = T.packed.sized in w₂-other (4 * n + e) (inr (omega arith)) (λ q. omega arith)

      w₂-touched : touched_at n g w₂ d ≡ c + 1
      w₂-touched = let z = T.packed.sized in
          get_or-set_same w₁ (g + n + d) (c + 1) 0
          (omega (arith, d_low, exchanged-length n ws own count T.parted room₁ first i first-low i-low))

      w₂-touched-other : (e : ℕ) → e ≢ d → touched_at n g w₂ e ≡ touched_at n g ws e
      w₂-touched-other e ne = let z = T.packed.sized in
          w₂-other (g + n + e) (inr (omega arith)) (λ q. ne (omega arith))

      w₂-list : (x : ℕ) → list_at n g w₂ x ≡ list_at n g ws x
      w₂-list x = let z = T.packed.sized in
          w₂-other (g + 2 * n + x) (inr (omega arith)) (λ q. omega (arith, d_low))

      w₂-place : (q : ℕ) → q < n → place_at n w₂ q ≡ swap first i (place_at n ws q)
      w₂-place q h = let z = T.packed.sized in
          get_or-set_other w₁ (g + n + d) (2 * n + q) (c + 1) 0 (λ e. omega arith)
          ∙ exchanged-place n ws own count T.parted room₁ first i first-low i-low q h

      w₂-packed : Packed G n g w₂
      w₂-packed = packed_keep G n g ws T.packed w₂ w₂-length
          (λ x a b. w₂-other x (inr (omega arith)) (λ q. omega arith))

      w₂-parted : Parted n w₂ own count
      w₂-parted = let z = T.packed.sized in
          parted-keep n w₁ w₂ own count
          (exchanged-parted n ws own count T.parted room₁ first i first-low i-low same-own few-own)
          (λ x a b. get_or-set_other w₁ (g + n + d) x (c + 1) 0 (λ q. omega arith))

      w₂-class : (q : ℕ) → q < n → class_at w₂ q ≡ own q
      w₂-class q h = let z = T.packed.sized in w₂-other q (inl h) (λ e. omega arith) ∙ T.class q h

      w₂-within : (e : ℕ) → e < count → from_at n w₂ e + touched_at n g w₂ e ≤ to_at n w₂ e
      w₂-within e h = go (ℕ_discrete e d)
        where
          go : Dec (e ≡ d) → from_at n w₂ e + touched_at n g w₂ e ≤ to_at n w₂ e
          go (yes q) = subst (λ x. from_at n w₂ x + touched_at n g w₂ x ≤ to_at n w₂ x) {x = d} {y = e} (sym q)
              (rw (w₂-from d d_low, w₂-to d d_low, w₂-touched) (omega (arith, i-top)))
          go (no q) = rw (w₂-from e (omega (arith, few-own)), w₂-to e (omega (arith, few-own)), w₂-touched-other e q)
              (T.within e h)

      -- a state of another class is not moved
      other_place : (q : ℕ) → q < n → own q ≢ d → place_at n w₂ q ≡ place_at n ws q
      other_place q h ne = w₂-place q h ∙ swap-other first i (place_at n ws q)
          (λ e. ne (ap own (sym (T.parted.member_place q h) ∙ ap (member_at n ws) e)
          ∙ T.parted.whole d d-count first (omega arith) (omega (arith, i-top))))
          (λ e. ne (ap own (sym (T.parted.member_place q h) ∙ ap (member_at n ws) (e ∙ ei)
          ∙ T.parted.member_place p low) ∙ own_is))

      -- nor one that is touched
      early-place : (q : ℕ) → q < n → place_at n ws q < first → place_at n w₂ q ≡ place_at n ws q
      early-place q h l = w₂-place q h ∙ swap-other first i (place_at n ws q) (λ e. omega arith) (λ e. omega arith)

      touched-d : (q : ℕ) → own q ≡ d → IsTouched n g own w₂ q → place_at n w₂ q < first + 1
      touched-d q e t =
          let u : place_at n w₂ q < from_at n w₂ d + touched_at n g w₂ d =
          subst (λ x. place_at n w₂ q < from_at n w₂ x + touched_at n g w₂ x) {x = own q} {y = d} e t in
          omega (arith, u, w₂-from d d_low, w₂-touched)

      from-d : (q : ℕ) → own q ≡ d → place_at n w₂ q < first + 1 → IsTouched n g own w₂ q
      from-d q e l = subst (λ x. place_at n w₂ q < from_at n w₂ x + touched_at n g w₂ x) {x = d} {y = own q} (sym e)
          (omega (arith, l, w₂-from d d_low, w₂-touched))

      old-d : (q : ℕ) → own q ≡ d → IsTouched n g own ws q → place_at n ws q < first
      old-d q e t =
          let u : place_at n ws q < from_at n ws d + touched_at n g ws d =
          subst (λ x. place_at n ws q < from_at n ws x + touched_at n g ws x) {x = own q} {y = d} e t in
          omega arith

      was-d : (q : ℕ) → own q ≡ d → place_at n ws q < first → IsTouched n g own ws q
      was-d q e l = subst (λ x. place_at n ws q < from_at n ws x + touched_at n g ws x) {x = d} {y = own q} (sym e)
          (omega arith)

      other-touched : (q : ℕ) → q < n → own q ≢ d → IsTouched n g own w₂ q → IsTouched n g own ws q
      other-touched q h ne t =
          let low' = T.parted.own_low q h in
          omega (arith, t, other_place q h ne, w₂-from (own q) (omega (arith, few-own)), w₂-touched-other (own q) ne)

      touched-other : (q : ℕ) → q < n → own q ≢ d → IsTouched n g own ws q → IsTouched n g own w₂ q
      touched-other q h ne t =
          let low' = T.parted.own_low q h in
          omega (arith, t, other_place q h ne, w₂-from (own q) (omega (arith, few-own)), w₂-touched-other (own q) ne)

      w₂-grows : (q : ℕ) → q < n → IsTouched n g own ws q → IsTouched n g own w₂ q
      w₂-grows q h t = go (ℕ_discrete (own q) d)
        where
          go : Dec (own q ≡ d) → IsTouched n g own w₂ q
          go (yes e) = let l = old-d q e t in from-d q e (omega (arith, early-place q h l))
          go (no e) = touched-other q h e t

      w₂-done : IsTouched n g own w₂ p
      w₂-done = from-d p own_is (omega (arith, w₂-place p low, swap-right first i (place_at n ws p) (sym ei)))

      w₂-into : (q : ℕ) → q < n → IsTouched n g own w₂ q → Into (δ G n) own s q
      w₂-into q h t = go (ℕ_discrete (own q) d)
        where
          go : Dec (own q ≡ d) → Into (δ G n) own s q
          go (no e) = T.into q h (other-touched q h e t)
          go (yes e) = at (ℕ_discrete (place_at n ws q) i) (ℕ_discrete (place_at n ws q) first)
            where
              is-p : place_at n ws q ≡ i → p ≡ q
              is-p z = sym (T.parted.member_place p low) ∙ ap (member_at n ws) (sym ei ∙ sym z)
                  ∙ T.parted.member_place q h

              less : place_at n w₂ q < first + 1
              less = touched-d q e t

              at : Dec (place_at n ws q ≡ i) → Dec (place_at n ws q ≡ first) → Into (δ G n) own s q
              at (yes z) w = subst (Into (δ G n) own s) {x = p} {y = q} (is-p z) goes
              at (no z) (yes w) = absurd (omega (arith, less, w₂-place q h, moved))
                where
                  moved : swap first i (place_at n ws q) ≡ i
                  moved = swap-all (λ y. y ≡ i) first i (place_at n ws q) (λ x. refl) (λ x. absurd (z x))
                      (λ x y. absurd (x w))
              at (no z) (no w) = T.into q h (was-d q e (below (dec_lt (place_at n ws q) first)))
                where
                  below : Dec (place_at n ws q < first) → place_at n ws q < first
                  below (yes x) = x
                  below (no x) = absurd (more (swap-other first i (place_at n ws q) w z))
                    where
                      more : swap first i (place_at n ws q) ≡ place_at n ws q → ⊥
                      more y = w (omega (arith, less, w₂-place q h))

      w₂-keeps : TouchKeeps n g ws w₂
      w₂-keeps = let z = T.packed.sized in record {
        len = w₂-length;
        classes = λ x l. w₂-other x (inl l) (λ e. omega arith);
        graph = λ x a b. w₂-other x (inr a) (λ e. omega arith);
        copy = λ x l. w₂-other x (inr (omega arith)) (λ e. omega (arith, d_low));
      }

      -- the class of p is listed already
      touch-more : 0 < c → Touches G n g s own count p ws k w₂
      touch-more some = record {
        touching = record {
          packed = w₂-packed;
          parted = w₂-parted;
          class = w₂-class;
          within = w₂-within;
          into = w₂-into;
          fresh = λ e a b. w₂-touched-other e (λ q. omega (arith, d-count)) ∙ T.fresh e a b;
          listed = λ e h t. listed e h t (ℕ_discrete e d);
          list_low = λ x l. rw (w₂-list x) (T.list_low x l);
          list_some = λ x l. rw (w₂-list x) (some_at (list_at n g ws x) (T.list_some x l));
          list_one = λ x y l m e. T.list_one x y l m (sym (w₂-list x) ∙ e ∙ w₂-list y);
        };
        keeps = w₂-keeps;
        grows = w₂-grows;
        done = w₂-done;
      }
        where
          listed : (e : ℕ) → e < count → 0 < touched_at n g w₂ e → Dec (e ≡ d)
              → (x : ℕ) × ((x < k) × (list_at n g w₂ x ≡ e))
          listed e h t (yes q) = let f = T.listed d d-count (omega arith) in
              (f.0, (f.1.0, w₂-list f.0 ∙ f.1.1 ∙ sym q))
          listed e h t (no q) = let f = T.listed e h (omega (arith, w₂-touched-other e q)) in
              (f.0, (f.1.0, w₂-list f.0 ∙ f.1.1))

          some_at : (e : ℕ) → 0 < touched_at n g ws e → 0 < touched_at n g w₂ e
          some_at e h = go (ℕ_discrete e d)
            where
              go : Dec (e ≡ d) → 0 < touched_at n g w₂ e
              go (yes q) = subst (λ x. 0 < touched_at n g w₂ x) {x = d} {y = e} (sym q) (omega (arith, w₂-touched))
              go (no q) = omega (arith, w₂-touched-other e q)

      pub touched-more : (v v' : List ℕ) → v ≡ w₁ → v' ≡ set v (g + n + d) (c + 1) → 0 < c
          → Touches G n g s own count p ws k v'
      touched-more v v' e f h = rw (f, e) (touch-more h)

      -- it is listed now
      module _ (none : c ≡ 0) where
        k-low : k < n
        k-low = omega (arith, few-more d d-count (sym ec ∙ none), few-own)

        pub listed-asks : (v v' : List ℕ) → v ≡ w₁ → v' ≡ set v (g + n + d) (c + 1)
            → (k < n) × ((d ≤ n) × ((n ≤ 8192) × ((g ≤ 600000) × (g + 4 * n ≤ length v'))))
        listed-asks v v' e f = let z = T.packed.sized in
            (k-low, (omega (arith, d_low), (z.few, (omega arith, rw (f, e) (omega (arith, w₂-length))))))

        abbrev w₃ : List ℕ
        w₃ = set w₂ (g + 2 * n + k) d

        w₃-other : (x : ℕ) → x ≢ g + 2 * n + k → get_or w₃ x 0 ≡ get_or w₂ x 0
        w₃-other x ne = get_or-set_other w₂ (g + 2 * n + k) x d 0 ne

        w₃-last : list_at n g w₃ k ≡ d
        w₃-last = let z = T.packed.sized in
            get_or-set_same w₂ (g + 2 * n + k) d 0 (omega (arith, w₂-length, k-low))

        w₃-list : (x : ℕ) → x ≢ k → list_at n g w₃ x ≡ list_at n g ws x
        w₃-list x ne = w₃-other (g + 2 * n + x) (λ q. ne (omega arith)) ∙ w₂-list x

        w₃-touched : (e : ℕ) → e < n → touched_at n g w₃ e ≡ touched_at n g w₂ e
        w₃-touched e h = w₃-other (g + n + e) (λ q. omega arith)

        w₃-from : (e : ℕ) → e < n → from_at n w₃ e ≡ from_at n w₂ e
        w₃-from e h = let z = T.packed.sized in w₃-other (3 * n + e) (λ q. omega arith)

        w₃-to : (e : ℕ) → e < n → to_at n w₃ e ≡ to_at n w₂ e
        w₃-to e h = let z = T.packed.sized in w₃-other (4 * n + e) (λ q. omega arith)

        w₃-place : (q : ℕ) → q < n → place_at n w₃ q ≡ place_at n w₂ q
        w₃-place q h = let z = T.packed.sized in w₃-other (2 * n + q) (λ e. omega arith)

        to-w₃ : (q : ℕ) → q < n → IsTouched n g own w₂ q → IsTouched n g own w₃ q
        to-w₃ q h t =
            let l : own q < n = omega (arith, T.parted.own_low q h, few-own) in
            omega (arith, t, w₃-place q h, w₃-from (own q) l, w₃-touched (own q) l)

        from-w₃ : (q : ℕ) → q < n → IsTouched n g own w₃ q → IsTouched n g own w₂ q
        from-w₃ q h t =
            let l : own q < n = omega (arith, T.parted.own_low q h, few-own) in
            omega (arith, t, w₃-place q h, w₃-from (own q) l, w₃-touched (own q) l)

        w₃-length : length w₃ ≡ length ws
        w₃-length = length-set w₂ (g + 2 * n + k) d ∙ w₂-length

        not_listed : (x : ℕ) → x < k → list_at n g ws x ≢ d
        not_listed x l e = omega (arith, T.list_some x l, ap (touched_at n g ws) e)

        touch-new : Touches G n g s own count p ws (k + 1) w₃
        touch-new = let z = T.packed.sized in record {
          touching = record {
            packed = packed_keep G n g w₂ w₂-packed w₃ (length-set w₂ (g + 2 * n + k) d)
                (λ x a b. w₃-other x (λ q. omega arith));
            parted = parted-keep n w₂ w₃ own count w₂-parted (λ x a b. w₃-other x (λ q. omega arith));
            class = λ q h. w₃-other q (λ e. omega arith) ∙ w₂-class q h;
            within = λ e h. let l : e < n = omega (arith, few-own) in
                rw (w₃-from e l, w₃-to e l, w₃-touched e l) (w₂-within e h);
            into = λ q h t. w₂-into q h (from-w₃ q h t);
            fresh = λ e a b. w₃-touched e b ∙ w₂-touched-other e (λ q. omega (arith, d-count)) ∙ T.fresh e a b;
            listed = λ e h t. listed e h t (ℕ_discrete e d);
            list_low = λ x l. lows x l (ℕ_discrete x k);
            list_some = λ x l. some x l (ℕ_discrete x k);
            list_one = λ x y l m e. one x y l m e (ℕ_discrete x k) (ℕ_discrete y k);
          };
          keeps = record {
            len = w₃-length;
            classes = λ x l. w₃-other x (λ q. omega arith) ∙ w₂-keeps.classes x l;
            graph = λ x a b. w₃-other x (λ q. omega arith) ∙ w₂-keeps.graph x a b;
            copy = λ x l. w₃-other x (λ q. omega (arith, k-low)) ∙ w₂-keeps.copy x l;
          };
          grows = λ q h t. to-w₃ q h (w₂-grows q h t);
          done = to-w₃ p low w₂-done;
        }
          where
            listed : (e : ℕ) → e < count → 0 < touched_at n g w₃ e → Dec (e ≡ d)
                → (x : ℕ) × ((x < k + 1) × (list_at n g w₃ x ≡ e))
            listed e h t (yes q) = (k, (omega arith, w₃-last ∙ sym q))
            listed e h t (no q) =
                let l : e < n = omega (arith, few-own) in
                let f = T.listed e h (omega (arith, w₃-touched e l, w₂-touched-other e q)) in
                (f.0, (omega (arith, f.1.0), w₃-list f.0 (λ y. omega (arith, f.1.0)) ∙ f.1.1))

            lows : (x : ℕ) → x < k + 1 → Dec (x ≡ k) → list_at n g w₃ x < count
            lows x l (yes q) = subst (λ y. list_at n g w₃ y < count) {x = k} {y = x} (sym q) (rw w₃-last d-count)
            lows x l (no q) = rw (w₃-list x q) (T.list_low x (omega arith))

            some : (x : ℕ) → x < k + 1 → Dec (x ≡ k) → 0 < touched_at n g w₃ (list_at n g w₃ x)
            some x l (yes q) = subst (λ y. 0 < touched_at n g w₃ (list_at n g w₃ y)) {x = k} {y = x} (sym q)
                (rw w₃-last (omega (arith, w₃-touched d d_low, w₂-touched)))
            some x l (no q) =
                let m : x < k = omega arith in
                let lt : list_at n g ws x < n = omega (arith, T.list_low x m, few-own) in
                rw (w₃-list x q) (omega (
                  arith,
                  w₃-touched (list_at n g ws x) lt,
                  w₂-touched-other (list_at n g ws x) (not_listed x m),
                  T.list_some x m,
                ))

            one : (x y : ℕ) → x < k + 1 → y < k + 1 → list_at n g w₃ x ≡ list_at n g w₃ y → Dec (x ≡ k) → Dec (y ≡ k)
                → x ≡ y
            one x y l m e (yes a) (yes b) = a ∙ sym b
            one x y l m e (yes a) (no b) = absurd (not_listed y (omega arith)
                (sym (w₃-list y b) ∙ sym e ∙ ap (list_at n g w₃) a ∙ w₃-last))
            one x y l m e (no a) (yes b) = absurd (not_listed x (omega arith)
                (sym (w₃-list x a) ∙ e ∙ ap (list_at n g w₃) b ∙ w₃-last))
            one x y l m e (no a) (no b) = T.list_one x y (omega arith) (omega arith)
                (sym (w₃-list x a) ∙ e ∙ w₃-list y b)

        pub touched-new : (v v' v'' : List ℕ) → v ≡ w₁ → v' ≡ set v (g + n + d) (c + 1)
            → v'' ≡ set v' (g + 2 * n + k) d → Touches G n g s own count p ws (k + 1) v''
        touched-new v v' v'' e f h = rw (h, f, e) touch-new
