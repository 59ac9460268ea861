-- What a turn of run keeps, its start and its end. Assumes nothing.
use mathlib.Core.Bool.{Bool, beq, false, true}
use mathlib.Core.List.{List, [], ◌++◌}
use mathlib.Core.Logic.{◌≢◌, ◌⊎◌, inl, inr}
use mathlib.Core.Path.{◌∙◌, ◌≡◌, ap, ap₂, refl, subst, sym}
use Prim.Native.Nat.{◌*◌, ◌+◌, ◌<◌, ◌≤◌, suc, zero, ℕ}
use native.Mathlib.Decide.{dec_lt}
use native.Mathlib.Omega.{arith}
use lib.ListN.{drop, get_or, length, length-take, set, take}
use borrow.Author.Tests.{le-ltb, lt-ltb}
use Rattle.dfa.specs.Graph.{rest, δ}
use Rattle.dfa_difference.specs.Outcome.{Setting, ToldApart}
use Rattle.dfa_search.specs.Spelled.{Spelled, more, none}
use Rattle.dfa.specs.Word.{First, accepting, after}
use Rattle.dfa_difference.specs.declared.Task.{Task}
use Rattle.dfa.specs.declared.step.Move.{Move}
use Rattle.dfa_search.specs.Classes.{Low, Rep, linked}
use Rattle.dfa_difference.specs.inner.Comparison.{Entry, Top}
use Rattle.dfa_search.specs.Classes.{merge}
use Rattle.dfa_difference.specs.inner.Level.{Deep, alike_at}
use Rattle.dfa_difference.specs.inner.Queue.{Grown, Visited, pushed}
use Rattle.dfa_difference.specs.inner.State.{Expanding, Half, State, Turn}
use Rattle.dfa.specs.Step.{Moved}
use Rattle.dfa_difference.proofs.laws.Alike.{beq-no, beq-yes}
use Rattle.dfa_search.proofs.ClassLaws.{linked-low, linked-rep, low-frame, rep-frame}
use Rattle.dfa_difference.proofs.laws.Comparison.{agree, all_same, begin, begun, roots-1, told, told_at}
use Rattle.dfa_difference.proofs.laws.Queue.{at-0, at_1, pushed-below, pushed-length}
use Rattle.dfa.proofs.laws.Rest.{back, back-length, back-rest, rest-length}
use Rattle.dfa_difference.proofs.laws.Turn.{bounds, turn-again, turn_last}

pub record Within (n head tail : ℕ) (ws : List ℕ) : Type 0 where
  pub head-lt : head < n
  pub tail-lt : tail < n
  pub few : n ≤ 8193
  pub room : 5 * n ≤ length ws
  pub graph : 5 * n + n < length ws

-- the entries of a state
module _ (G : List ℕ) (t : Task) (s : Setting G t) (ws : List ℕ) (head tail : ℕ) (u : State G t ws head tail) where
  pub tail-low : tail < t.n
  tail-low = omega (arith, u.top.inv.count, roots-1 _ _ _ _ _ u.E head tail u.rep u.top.inv s.p_lt)

  spell : (b k : ℕ) → k < b → k < tail → Spelled t.n ws k (u.E k).word
  spell zero k l w = absurd (omega arith)
  spell (suc b) zero l w = rw (ap (λ (e : Entry). e.word) u.top.inv.start) none
  spell (suc b) (suc k) l w =
      let f = u.queue.from (suc k) w (omega arith) in
      rw (u.queue.word (suc k) w (omega arith))
      (more (suc k) (omega arith) f (spell b _ (omega arith) (omega arith)))

  pub spells : (k : ℕ) → k < tail → Spelled t.n ws k (u.E k).word
  spells k = spell (suc k) k (omega arith)

  abbrev fin : ℕ → Bool
  fin = accepting t.f t.g

  alike_is : (k : ℕ) → k < tail
      → alike_at t.n ws k t.f t.g ≡ beq (fin (u.E k).left) (fin (u.E k).right)
  alike_is k h = ap₂ (λ a b. beq (fin a) (fin b)) (u.queue.first k h) (u.queue.second k h)

  alike-yes : (k : ℕ) → k < tail → alike_at t.n ws k t.f t.g ≡ true → fin (u.E k).left ≡ fin (u.E k).right
  alike-yes k h e = beq-yes _ _ (sym (alike_is k h) ∙ e)

  alike-no : (k : ℕ) → k < tail → alike_at t.n ws k t.f t.g ≡ false → fin (u.E k).left ≢ fin (u.E k).right
  alike-no k h e = beq-no _ _ (sym (alike_is k h) ∙ e)

  -- an entry of fewer than `most` letters may be expanded
  pub run_on : head < tail → length (u.E head).word < t.most → alike_at t.n ws head t.f t.g ≡ true
      → Half G t ws head tail 0
  run_on h l e = record {
    E = u.E;
    rep = u.rep;
    low = u.low;
    queue = u.queue;
    reps = u.reps;
    brief = u.brief;
    shallow = l;
    mid = begin _ _ _ _ _ u.E head tail u.rep u.top h (alike-yes head h e);
  }

  told-entry : (k : ℕ) → k < tail → First t.n (δ G t.n) fin t.p t.q (u.E k).word → ToldApart G t ws k
  told-entry k h f = record {
    word = (u.E k).word;
    first = f;
    within = u.brief k h;
    spelled = spells k h;
    trail = record {
      few = s.graph.few;
      room = u.low.room;
      below = omega (arith, tail-low);
      from = λ j g l. u.queue.from j (omega arith) g;
    };
    left = u.queue.first k h ∙ (u.top.inv.reach k h).0;
  }

  pub run-told : head < tail → alike_at t.n ws head t.f t.g ≡ false → ToldApart G t ws head
  run-told h e = told-entry head h (told _ _ _ _ _ u.E head tail u.rep u.top s.p_lt h (alike-no head h e))

  pub run-same : tail ≤ head → (x : List ℕ)
      → fin (after (δ G t.n) t.p x) ≡ fin (after (δ G t.n) t.q x)
  run-same h x = all_same _ _ _ _ _ u.E tail u.rep (subst (λ k. Top t.n (δ G t.n) fin t.p t.q
      u.E k tail u.rep) {x = head} {y = tail} (omega (arith, u.top.within)) u.top) x

  -- the last level
  module _ (d : Deep t.n ws head tail t.most) where
    pub last-told : (k : ℕ) → head ≤ k → k < tail
        → ((j : ℕ) → head ≤ j → j < k → alike_at t.n ws j t.f t.g ≡ true)
        → alike_at t.n ws k t.f t.g ≡ false → ToldApart G t ws k
    last-told k g h a e = told-entry k h (told_at _ _ _ _ _ u.E head tail u.rep u.top s.p_lt k h
        (λ j b c. omega (arith, d k g h _ (spells k h), d j b c _ (spells j c)))
        (λ j b c. alike-yes j (omega arith) (a j b c)) (alike-no k h e))

    pub last-same : ((k : ℕ) → head ≤ k → k < tail → alike_at t.n ws k t.f t.g ≡ true) → (x : List ℕ)
        → length x ≤ t.most → fin (after (δ G t.n) t.p x) ≡ fin (after (δ G t.n) t.q x)
    last-same a x l = agree _ _ _ _ _ u.E head tail u.rep u.top x
        (λ k b c. omega (arith, d k b c _ (spells k c))) (λ k b c e. alike-yes k c (a k b c))

-- the start
module _ (G : List ℕ) (t : Task) (s : Setting G t) (ne : t.p ≢ t.q) (w₁ : List ℕ) (room : 5 * t.n ≤ length w₁)
    (own : (x : ℕ) → x < t.n → get_or w₁ x 0 ≡ x) where
  own_low : Low t.n w₁
  own_low = record { room = room; few = s.graph.few; low = λ x h. omega (arith, own x h) }

  own-rep : Rep t.n w₁ (λ x. x)
  own-rep = record { up = own; root = λ x h e. refl }

  module _ (w₂ : List ℕ) (low₂ : Low t.n w₂) where
    room₂ : t.n + 4 * 0 + 4 ≤ length w₂
    room₂ = omega (arith, low₂.room, s.graph.some)

    below₂ : (i : ℕ) → i < t.n → get_or (pushed w₂ (t.n + 4 * 0) t.p t.q 0 0) i 0 ≡ get_or w₂ i 0
    below₂ i h = pushed-below t.n w₂ 0 t.p t.q 0 0 room₂ i (omega arith)

    one : (a b : ℕ) → ((a ≡ t.p) × (b ≡ t.q)) ⊎ ((a ≡ t.q) × (b ≡ t.p)) → a ≢ b
        → Rep t.n w₂ (merge (λ x. x) a b) → State G t (pushed w₂ (t.n + 4 * 0) t.p t.q 0 0) 0 1
    one a b ab n' r = record {
      E = λ k. record { left = t.p; right = t.q; word = [] };
      rep = merge (λ x. x) a b;
      low = low-frame t.n w₂ _ below₂ (pushed-length t.n w₂ 0 t.p t.q 0 0 room₂) low₂;
      queue = record {
        first = λ k h. subst (λ z. get_or (pushed w₂ (t.n + 4 * 0) t.p t.q 0 0) (t.n + 4 * z) 0 ≡ t.p)
            {x = 0} {y = k} (omega arith) (at-0 t.n w₂ 0 t.p t.q 0 0 room₂);
        second = λ k h. subst (λ z. get_or (pushed w₂ (t.n + 4 * 0) t.p t.q 0 0) (t.n + 4 * z + 1) 0 ≡ t.q)
            {x = 0} {y = k} (omega arith) (at_1 t.n w₂ 0 t.p t.q 0 0 room₂);
        from = λ k h l. absurd (omega arith);
        word = λ k h l. absurd (omega arith);
      };
      reps = rep-frame t.n w₂ _ (merge (λ x. x) a b) below₂ r;
      brief = λ k h. omega arith;
      top = begun _ _ _ _ _ s.p_lt s.q_lt a b ab n';
    }

  pub start-state : (w₂ w₃ : List ℕ) → w₂ ≡ linked w₁ t.p t.q → w₃ ≡ pushed w₂ (t.n + 4 * 0) t.p t.q 0 0
      → State G t w₃ 0 1
  start-state w₂ w₃ e₂ e₃ = subst (λ v. State G t v 0 1)
      (sym (e₃ ∙ ap (λ v. pushed v (t.n + 4 * 0) t.p t.q 0 0) e₂)) (go (dec_lt t.p t.q))
    where
      go : Dec (t.p < t.q) → State G t (pushed (linked w₁ t.p t.q) (t.n + 4 * 0) t.p t.q 0 0) 0 1
      go (yes h) = rw (lt-ltb t.p t.q h) (one (set w₁ t.q t.p) (linked-low t.n w₁ t.q t.p h
          s.q_lt own_low) t.q t.p (inr (refl, refl)) (λ e. ne (sym e))
          (linked-rep t.n w₁ t.q t.p h s.q_lt own_low (λ x. x) (λ x. refl) own-rep t.q t.p refl refl))
      go (no h) = rw (le-ltb t.p t.q (omega arith)) (one (set w₁ t.p t.q) (linked-low t.n w₁ t.p
          t.q (omega arith) s.p_lt own_low) t.p t.q (inl (refl, refl)) ne
          (linked-rep t.n w₁ t.p t.q (omega arith) s.p_lt own_low (λ x. x) (λ x. refl) own-rep t.p
          t.q refl refl))

pub within : (t : Task) (ws : List ℕ) (head tail lo : ℕ) → Setting (rest (5 * t.n) ws) t → Half (rest (5 * t.n) ws)
    t (take (5 * t.n) ws) head tail lo → Within t.n head tail ws
within t ws head tail lo s h =
    let b = bounds (rest (5 * t.n) ws) t s (take (5 * t.n) ws) head tail lo h in
    let r = rest-length (5 * t.n) ws in
    let f = length-take (5 * t.n) ws in
    record { head-lt = b.head-lt; tail-lt = b.tail-lt; few = b.few; room = omega arith; graph = omega arith }

pub expand-within : (t : Task) (head tail : ℕ) (ws₀ ws : List ℕ) (i ie j je last : ℕ)
    → Expanding t head tail ws₀ ws i ie j je last → Within t.n head last ws
expand-within t head tail ws₀ ws i ie j je last f = within t ws head last f.turn.lo f.set_at f.turn.half

-- entries that came before others came
grown-on : (n from tail r r' : ℕ) (ws ws₁ ws₂ : List ℕ) → Grown n from tail r ws ws₁ → Grown n from r r' ws₁ ws₂
    → Grown n from tail r' ws ws₂
grown-on n from tail r r' ws ws₁ ws₂ a b = record {
  more = omega (arith, a.more, b.more);
  stays = λ i h l. b.stays i h (omega (arith, a.more)) ∙ a.stays i h l;
  fresh = λ k h l. go k h l (dec_lt k r);
}
  where
    go : (k : ℕ) → tail ≤ k → k < r' → Dec (k < r) → get_or ws₂ (n + 4 * k + 2) 0 ≡ from
    go k h l (yes c) = b.stays (n + 4 * k + 2) (omega arith) (omega arith) ∙ a.fresh k h c
    go k h l (no c) = b.fresh k (omega arith) l

pub grown-first : (n from tail : ℕ) (ws : List ℕ) → Grown n from tail tail ws ws
grown-first n from tail ws = record {
  more = omega arith;
  stays = λ i h l. refl;
  fresh = λ k h l. absurd (omega
      arith);
}

pub expand-again : (t : Task) (head tail : ℕ) (ws₀ ws ys : List ℕ) (i ie j je last last' : ℕ) (r : Move)
    → (f : Expanding t head tail ws₀ ws i ie j je last) → Moved (rest (5 * t.n) ws) t.n i ie j je r
    → length ys ≡ length (take (5 * t.n) ws) → Visited t.n last head r.letter r.a r.b last'
    (take (5 * t.n) ws) ys
    → Expanding t head tail ws₀ (ys ++ drop (5 * t.n) ws) r.i ie r.j je last'
expand-again t head tail ws₀ ws ys i ie j je last last' r f m len v =
    let w = (expand-within t head tail ws₀ ws i ie j je last f).room in
    record {
      grown = back (5 * t.n) ws ys w len (λ G w. Grown t.n head tail last' (take (5 * t.n) ws₀) w)
          (grown-on t.n head tail last last' (take (5 * t.n) ws₀) (take (5 * t.n) ws) ys f.grown v.grown);
      turn = back (5 * t.n) ws ys w len (λ G w. Turn G t head w r.i ie r.j je last')
          (turn-again _ t f.set_at head _ i ie j je last f.turn r.letter m.next ys r.i r.j m.pi
          m.pj r.a r.b last' m.a_is m.b_is v);
      len = back-length (5 * t.n) ws ys w len ∙ f.len;
      graph = back-rest (5 * t.n) ws ys w len ∙ f.graph;
      set_at = subst (λ G. Setting G t) (sym (back-rest (5 * t.n) ws ys w len)) f.set_at;
    }

pub expand-last : (t : Task) (head tail : ℕ) (ws₀ ws : List ℕ) (i ie j je last : ℕ)
    → Expanding t head tail ws₀ ws i ie j je last → ie + je ≤ i + j → State (rest (5 * t.n) ws₀) t (take (5 * t.n)
    ws) (head + 1) last
expand-last t head tail ws₀ ws i ie j je last f h = subst (λ G. State G t (take (5 * t.n) ws) (head + 1) last) f.graph
    (turn_last _ t head _ i ie j je last f.turn h)
