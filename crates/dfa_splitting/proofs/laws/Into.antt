-- Edges into a class, of two states side by side. Assumes nothing.
use mathlib.Core.Bool.{Bool, false, true}
use mathlib.Core.List.{List}
use mathlib.Core.Logic.{◌≢◌, ◌↔◌}
use mathlib.Core.Path.{◌∙◌, ◌≡◌, ap, refl, subst, sym}
use Prim.Native.Nat.{◌%◌, ◌*◌, ◌+◌, ◌-◌, ◌<◌, ◌≤◌, ℕ}
use native.Mathlib.Decide.{dec_lt, ℕ_discrete}
use native.Mathlib.Omega.{arith}
use lib.ListN.{get_or, length}
use Rattle.dfa.specs.Graph.{Edges, letter, look, target, δ}
use Rattle.dfa.proofs.laws.Look.{edges-tail, look_at, look-before, look-past}
use Rattle.dfa_smallest.specs.Classes.{SameInto}
use Rattle.dfa.proofs.laws.Live.{no_true}
use Rattle.dfa.proofs.laws.Edges.{edge-from, edge_to}
use Rattle.dfa_classes.specs.Places.{class_at}
use Rattle.dfa_classes.proofs.laws.Packed.{edge-room, target-low}
use Rattle.dfa_splitting.specs.inner.Into.{Comparing, Entering, Into-loop, LeftAlike, Skipped, Skipping, Skips}

-- an edge in range
module _ (G : List ℕ) (g n e : ℕ) (ws : List ℕ) (E : Entering G g n e ws) where
  pub entering-room : (n ≤ 8192) × ((e < 262144) × (6 * n + 2 + 2 * e < length ws))
  entering-room = edge-room G n g ws E.packed e (edge_to G n E.packed.graph E.source e E.edge)

  pub entering-target : (t : ℕ) → t ≡ get_or ws (6 * n + 2 + 2 * e) 0 % 8192 → t ≡ target G n e
  entering-target t q = q ∙ E.packed.targets e (edge-from G n E.packed.graph E.source e E.edge)
      (edge_to G n E.packed.graph E.source e E.edge)

  pub entering-low : (t : ℕ) → t ≡ get_or ws (6 * n + 2 + 2 * e) 0 % 8192 → t < length ws
  entering-low t q =
      let is = entering-target t q in
      let low = target-low G n g ws E.packed E.source e E.edge in
      let z = E.packed.sized in omega arith

-- the edges that next_into looks at
module _ (G : List ℕ) (g n s i end : ℕ) (ws : List ℕ) (S : Skipping G g n s i end ws) where
  pub skipping-edge : (r : ℕ) → Skips G n (class_at ws) s i end r → r < end → Entering G g n r ws
  skipping-edge r K h = record {
    packed = S.packed;
    source = S.source;
    edge = record { below = S.low; from = omega (arith, S.first, K.ge); to = omega (arith, S.last) };
  }

-- the edges that same_into looks at
module _ (G : List ℕ) (g n s p q : ℕ) (ws : List ℕ) (C : Comparing G g n s p q ws) where
  skip-left : (i ie : ℕ) → ie ≡ get_or G (p + 1) 0 → get_or G p 0 ≤ i → Edges G n i ie → Skipping G g n s i ie ws
  skip-left i ie e h E = record
      { packed = C.packed; source = p; low = C.left; first = h; last = e; edges = E; some = C.some; dead = C.dead }

  skip-right : (j je : ℕ) → je ≡ get_or G (q + 1) 0 → get_or G q 0 ≤ j → Edges G n j je → Skipping G g n s j je ws
  skip-right j je e h E = record
      { packed = C.packed; source = q; low = C.right; first = h; last = e; edges = E; some = C.some; dead = C.dead }

  -- the first and the last edge of p and of q
  pub skip-p : (i ie : ℕ) → i ≡ get_or ws (5 * n + p) 0 → ie ≡ get_or ws (5 * n + (p + 1)) 0 → Skipping G g n s i ie ws
  skip-p i ie e f =
      let ei = e ∙ C.packed.firsts p (omega (arith, C.left)) in
      let ef = f ∙ C.packed.firsts (p + 1) (omega (arith, C.left)) in
      skip-left i ie ef (omega arith) (rw (ei, ef) (C.packed.graph.edges p C.left))

  pub skip-q : (j je : ℕ) → j ≡ get_or ws (5 * n + q) 0 → je ≡ get_or ws (5 * n + (q + 1)) 0 → Skipping G g n s j je ws
  skip-q j je e f =
      let ei = e ∙ C.packed.firsts q (omega (arith, C.right)) in
      let ef = f ∙ C.packed.firsts (q + 1) (omega (arith, C.right)) in
      skip-right j je ef (omega arith) (rw (ei, ef) (C.packed.graph.edges q C.right))

  module _ (i ie j je : ℕ) (I : Into-loop G n p q (class_at ws) s i ie j je) where
    pub left-room : i < ie → (n ≤ 8192) × ((i < 262144) × (6 * n + 2 + 2 * i < length ws))
    left-room h = edge-room G n g ws C.packed i (edge_to G n C.packed.graph p i
        (record { below = C.left; from = I.from; to = omega (arith, I.ends) }))

    pub right-room : j < je → (n ≤ 8192) × ((j < 262144) × (6 * n + 2 + 2 * j < length ws))
    right-room h = edge-room G n g ws C.packed j (edge_to G n C.packed.graph q j
        (record { below = C.right; from = I.from_other; to = omega (arith, I.ends_other) }))

    pub left-letter : i < ie → (a : ℕ) → a ≡ get_or ws (6 * n + 1 + 2 * i) 0 → a ≡ letter G n i
    left-letter h a e = e ∙ C.packed.letters i (edge_to G n C.packed.graph p i
        (record { below = C.left; from = I.from; to = omega (arith, I.ends) }))

    pub right-letter : j < je → (a : ℕ) → a ≡ get_or ws (6 * n + 1 + 2 * j) 0 → a ≡ letter G n j
    right-letter h a e = e ∙ C.packed.letters j (edge_to G n C.packed.graph q j
        (record { below = C.right; from = I.from_other; to = omega (arith, I.ends_other) }))

    pub skip-next-left : i < ie → Skipping G g n s (i + 1) ie ws
    skip-next-left h = skip-left (i + 1) ie I.ends (omega (arith, I.from)) (edges-tail G n i ie I.edges h)

    pub skip-next-right : j < je → Skipping G g n s (j + 1) je ws
    skip-next-right h = skip-right (j + 1) je I.ends_other (omega (arith, I.from_other))
        (edges-tail G n j je I.edges_other h)

module _ (G : List ℕ) (n : ℕ) (cls : ℕ → ℕ) (s : ℕ) (some : 0 < s) (dead : cls (n - 1) ≡ 0) where
  -- the dead state is not in the class
  pub not_dead : (x : ℕ) → x ≡ n - 1 → cls x ≡ s → ⊥
  not_dead x e h = omega (arith, ap cls e)

  -- the letter of the first edge does not come again
  pub gone : (i ie : ℕ) → Edges G n i ie → i < ie → look G n (letter G n i) (ie - (i + 1)) (i + 1) ≡ n - 1
  gone i ie e h = look-before G n (letter G n i) (i + 1) ie (edges-tail G n i ie e h)
      (λ l. e.rising i (omega arith) l)

  -- an edge that does not lead into the class may be left out
  pub left_out : (i ie : ℕ) → Edges G n i ie → i < ie → cls (target G n i) ≢ s → (m : ℕ)
      → (cls (look G n m (ie - i) i) ≡ s) ↔ (cls (look G n m (ie - (i + 1)) (i + 1)) ≡ s)
  left_out i ie e h ne m = go (ℕ_discrete (letter G n i) m)
    where
      go : Dec (letter G n i ≡ m) → (cls (look G n m (ie - i) i) ≡ s) ↔ (cls (look G n m (ie - (i + 1)) (i + 1)) ≡ s)
      go (yes q) = (
        (λ x. absurd (ne (sym (ap cls (look_at G n m i ie h q)) ∙ x))),
        (λ x. absurd (not_dead (look G n m (ie - (i + 1)) (i + 1)) (rw q at (gone i ie e h)) x)),
      )
      go (no q) = let l = ap cls (look-past G n m i ie h q) in ((λ x. sym l ∙ x), (λ x. l ∙ x))

  -- two edges with one letter may be left out together
  pub both_out : (i ie j je : ℕ) → Edges G n i ie → Edges G n j je → i < ie → j < je → cls (target G n i) ≡ s
      → cls (target G n j) ≡ s → letter G n i ≡ letter G n j
      → LeftAlike G n cls s (i + 1) ie (j + 1) je ↔ LeftAlike G n cls s i ie j je
  both_out i ie j je e f h k a b q = (
    (λ x m. to x m (ℕ_discrete (letter G n i) m)),
    (λ x m. back x m
        (ℕ_discrete (letter G n i) m)),
  )
    where
      to : LeftAlike G n cls s (i + 1) ie (j + 1) je → (m : ℕ) → Dec (letter G n i ≡ m)
          → (cls (look G n m (ie - i) i) ≡ s) ↔ (cls (look G n m (je - j) j) ≡ s)
      to x m (yes z) = (
        (λ y. ap cls (look_at G n m j je k (sym q ∙ z)) ∙ b),
        (λ y. ap cls (look_at G n m i ie h z) ∙ a),
      )
      to x m (no z) =
          let l = ap cls (look-past G n m i ie h z) in
          let r = ap cls (look-past G n m j je k (λ w. z (q ∙ w))) in
          ((λ y. r ∙ (x m).0 (sym l ∙ y)), (λ y. l ∙ (x m).1 (sym r ∙ y)))

      back : LeftAlike G n cls s i ie j je → (m : ℕ) → Dec (letter G n i ≡ m)
          → (cls (look G n m (ie - (i + 1)) (i + 1)) ≡ s) ↔ (cls (look G n m (je - (j + 1)) (j + 1)) ≡ s)
      back x m (yes z) = (
        (λ y. absurd (not_dead (look G n m (ie - (i + 1)) (i + 1)) (rw z at (gone i ie e h)) y)),
        (λ y. absurd (not_dead (look G n m (je - (j + 1)) (j + 1)) (rw (sym q ∙ z) at (gone j je f k)) y)),
      )
      back x m (no z) =
          let l = ap cls (look-past G n m i ie h z) in
          let r = ap cls (look-past G n m j je k (λ w. z (q ∙ w))) in
          ((λ y. sym r ∙ (x m).0 (l ∙ y)), (λ y. sym l ∙ (x m).1 (r ∙ y)))

  -- two edges with different letters tell the states apart
  pub letters-differ : (i ie j je : ℕ) → Edges G n i ie → Edges G n j je → i < ie → j < je → cls (target G n i) ≡ s
      → cls (target G n j) ≡ s → letter G n i ≢ letter G n j → LeftAlike G n cls s i ie j je → ⊥
  letters-differ i ie j je e f h k a b ne x = go (dec_lt (letter G n i) (letter G n j))
    where
      go : Dec (letter G n i < letter G n j) → ⊥
      go (yes l) = not_dead (look G n (letter G n i) (je - j) j) (look-before G n (letter G n i) j je f (λ u. l))
          ((x (letter G n i)).0 (ap cls (look_at G n (letter G n i) i ie h refl) ∙ a))
      go (no l) = not_dead (look G n (letter G n j) (ie - i) i)
          (look-before G n (letter G n j) i ie e (λ u. omega (arith, ne')))
          ((x (letter G n j)).1 (ap cls (look_at G n (letter G n j) j je k refl) ∙ b))
        where
          ne' : letter G n j < letter G n i
          ne' = more (ℕ_discrete (letter G n i) (letter G n j))
            where
              more : Dec (letter G n i ≡ letter G n j) → letter G n j < letter G n i
              more (yes z) = absurd (ne z)
              more (no z) = omega arith

  -- an edge into the class beside none
  pub left-only : (i ie j je : ℕ) → Edges G n j je → i < ie → je ≤ j → cls (target G n i) ≡ s
      → LeftAlike G n cls s i ie j je → ⊥
  left-only i ie j je f h k a x = not_dead (look G n (letter G n i) (je - j) j)
      (look-before G n (letter G n i) j je f (λ u. absurd (omega arith)))
      ((x (letter G n i)).0 (ap cls (look_at G n (letter G n i) i ie h refl) ∙ a))

  pub right-only : (i ie j je : ℕ) → Edges G n i ie → j < je → ie ≤ i → cls (target G n j) ≡ s
      → LeftAlike G n cls s i ie j je → ⊥
  right-only i ie j je e h k a x = not_dead (look G n (letter G n j) (ie - i) i)
      (look-before G n (letter G n j) i ie e (λ u. absurd (omega arith)))
      ((x (letter G n j)).1 (ap cls (look_at G n (letter G n j) j je h refl) ∙ a))

  -- no edge is left
  none_left : (i ie j je : ℕ) → Edges G n i ie → Edges G n j je → ie ≤ i → je ≤ j → LeftAlike G n cls s i ie j je
  none_left i ie j je e f h k m = (
    (λ x. absurd (not_dead (look G n m (ie - i) i) (look-before G n m i ie e (λ u. absurd (omega arith))) x)),
    (λ x. absurd (not_dead (look G n m (je - j) j) (look-before G n m j je f (λ u. absurd (omega arith))) x)),
  )

  -- next_into
  pub skips-again : (i end r : ℕ) → Skips G n cls s i end r → r < end → cls (target G n r) ≢ s
      → Skips G n cls s i end (r + 1)
  skips-again i end r S h ne =
      let o = left_out r end S.edges h ne in
      record {
        ge = omega (arith, S.ge);
        le = omega arith;
        edges = edges-tail G n r end S.edges h;
        same = λ m. ((λ x. (o m).0 ((S.same m).0 x)), (λ x. (S.same m).1 ((o m).1 x)));
      }

  pub skipped-end : (i end r : ℕ) → Skips G n cls s i end r → end ≤ r → Skipped G n cls s i end end
  skipped-end i end r S h = record {
    skips = subst (λ k. Skips G n cls s i end k) {x = r} {y = end} (omega (arith, S.le)) S;
    hit = λ l. absurd (omega arith);
  }

  pub skipped-hit : (i end r : ℕ) → Skips G n cls s i end r → r < end → cls (target G n r) ≡ s
      → Skipped G n cls s i end r
  skipped-hit i end r S h e = record { skips = S; hit = λ l. e }

  -- two lists of edges, skipped on both sides
  skip_both : (i ie r j je t : ℕ) → Skips G n cls s i ie r → Skips G n cls s j je t
      → LeftAlike G n cls s r ie t je ↔ LeftAlike G n cls s i ie j je
  skip_both i ie r j je t S T = (
    (λ x m. ((λ y. (T.same m).1 ((x m).0 ((S.same m).0 y))), (λ y. (S.same m).1 ((x m).1 ((T.same m).0 y))))),
    (λ x m. ((λ y. (T.same m).0 ((x m).0 ((S.same m).1 y))), (λ y. (S.same m).0 ((x m).1 ((T.same m).1 y))))),
  )

  module _ (p q : ℕ) where
    -- before the loop of same_into
    loop-first : (a ie b je i j : ℕ) → a ≡ get_or G p 0 → ie ≡ get_or G (p + 1) 0 → b ≡ get_or G q 0
        → je ≡ get_or G (q + 1) 0 → Skipped G n cls s a ie i → Skipped G n cls s b je j
        → Into-loop G n p q cls s i ie j je
    loop-first a ie b je i j ea ee eb ef S T = record {
      ends = ee;
      ends_other = ef;
      from = omega (arith, S.skips.ge);
      from_other = omega (arith, T.skips.ge);
      edges = S.skips.edges;
      edges_other = T.skips.edges;
      hit = S.hit;
      hit_other = T.hit;
      same = rw (ea, eb) at (skip_both a ie i b je j S.skips T.skips);
    }

    module _ (i ie j je : ℕ) (I : Into-loop G n p q cls s i ie j je) where
      -- after two edges with one letter
      pub loop-again : (r t : ℕ) → i < ie → j < je → letter G n i ≡ letter G n j → Skipped G n cls s (i + 1) ie r
          → Skipped G n cls s (j + 1) je t → Into-loop G n p q cls s r ie t je
      loop-again r t h k e S T =
          let o = both_out i ie j je I.edges I.edges_other h k (I.hit h) (I.hit_other k) e in
          let u = skip_both (i + 1) ie r (j + 1) je t S.skips T.skips in
          record {
            ends = I.ends;
            ends_other = I.ends_other;
            from = omega (arith, S.skips.ge, I.from);
            from_other = omega (arith, T.skips.ge, I.from_other);
            edges = S.skips.edges;
            edges_other = T.skips.edges;
            hit = S.hit;
            hit_other = T.hit;
            same = ((λ x. I.same.0 (o.0 (u.0 x))), (λ x. u.1 (o.1 (I.same.1 x))));
          }

      whole_is : SameInto (δ G n) cls s p q ↔ LeftAlike G n cls s (get_or G p 0) ie (get_or G q 0) je
      whole_is = rw (I.ends, I.ends_other) ((λ x. x), (λ x. x))

      told : LeftAlike G n cls s i ie j je → SameInto (δ G n) cls s p q
      told x = whole_is.1 (I.same.0 x)

      refuted : (LeftAlike G n cls s i ie j je → ⊥) → SameInto (δ G n) cls s p q → ⊥
      refuted x y = x (I.same.1 (whole_is.0 y))

      never : {A : Type 0} → (A → ⊥) → (false ≡ true) ↔ A
      never f = ((λ e. no_true e), (λ a. absurd (f a)))

      -- the answers
      pub more_left : i < ie → je ≤ j → (false ≡ true) ↔ SameInto (δ G n) cls s p q
      more_left h k = never (refuted (left-only i ie j je I.edges_other h k (I.hit h)))

      pub other-letter : i < ie → j < je → letter G n i ≢ letter G n j → (false ≡ true) ↔ SameInto (δ G n) cls s p q
      other-letter h k ne =
          never (refuted (letters-differ i ie j je I.edges I.edges_other h k (I.hit h) (I.hit_other k) ne))

      pub at-end : (b : Bool) → ie ≤ i → (b ≡ true → je ≤ j) → (b ≡ false → j < je)
          → (b ≡ true) ↔ SameInto (δ G n) cls s p q
      at-end true h f g = ((λ e. told (none_left i ie j je I.edges I.edges_other h (f refl))), (λ x. refl))
      at-end false h f g = never (refuted (right-only i ie j je I.edges (g refl) h (I.hit_other (g refl))))

-- the loop of same_into begins
pub started : (G : List ℕ) (g n s p q : ℕ) (ws : List ℕ) → Comparing G g n s p q ws → (a ie b je i j : ℕ)
    → a ≡ get_or ws (5 * n + p) 0 → ie ≡ get_or ws (5 * n + (p + 1)) 0 → b ≡ get_or ws (5 * n + q) 0
    → je ≡ get_or ws (5 * n + (q + 1)) 0 → Skipped G n (class_at ws) s a ie i → Skipped G n (class_at ws) s b je j
    → Into-loop G n p q (class_at ws) s i ie j je
started G g n s p q ws C a ie b je i j ea ee eb ef S T =
    loop-first G n (class_at ws) s C.some C.dead p q a ie b je i j
    (ea ∙ C.packed.firsts p (omega (arith, C.left))) (ee ∙ C.packed.firsts (p + 1) (omega (arith, C.left)))
    (eb ∙ C.packed.firsts q (omega (arith, C.right))) (ef ∙ C.packed.firsts (q + 1) (omega (arith, C.right))) S T
