-- What filling and closing leave in the words is the explicit automaton of one sheet, or of two.
use mathlib.Core.Path.{◌≡◌, refl, sym, ◌∙◌, ap}
use mathlib.Core.Bool.{cond}
use mathlib.Core.List.{List}
use Prim.Native.Nat.{ℕ, ◌+◌, ◌*◌, ◌-◌, ◌≤◌, ◌<◌}
use native.Mathlib.Omega.{arith}
use native.Mathlib.Decide.{dec_lt}
use native.Mathlib.Nat.{zero-add, mul-le-mul_left, mul-le-mul_right}
use lib.Dec.{ltb}
use lib.ListN.{length}
use borrow.Author.Tests.{lt-ltb, le-ltb}
use Rattle.sheet_records.specs.Limits.{greatest_z}
use Rattle.language.specs.declared.Numbers.{Numbers}
use Rattle.language.specs.Number.{numbers}
use Rattle.language.proofs.NumberLaws.{numbers-within}
use Rattle.language.specs.Ty.{Ty}
use Rattle.language.specs.Term.{Term}
use Rattle.language.specs.Weight.{size}
use Rattle.states_machine.specs.Sheet.{spots}
use Rattle.states_machine.proofs.Accepts.{spots-size}
use Rattle.states_path.specs.declared.Site.{Site}
use Rattle.states_words.specs.inner.Rows.{StateRow, no_edges, closed_of}
use Rattle.states_words.specs.inner.Moves.{row_of, edges_after, filled_of}
use Rattle.states_words.specs.inner.Shown.{Fine, edges_below, ShownRows, Room, Automaton}
use Rattle.states_words.specs.inner.Ready.{Ready}
use Rattle.states_words.specs.inner.Sheets.{Suffices, OneSheet, TwoSheets}
use Rattle.states_words.proofs.Writing.{closed-length, all_edges, closed-automaton}
use Rattle.states_words.proofs.Automata.{first_of, graph-of, silent-of}
use Rattle.states_words.proofs.Placed.{Placed, filled-length, placed-few, placed-after, placed-fine}
use Rattle.states_words.proofs.Placed.{placed-shown, placed-explicit}

-- the rows r below K, then states without edges
unfoldable ended : ℕ → (ℕ → StateRow) → ℕ → StateRow
ended K r p = cond (ltb p K) (r p) no_edges

ended-below : (K : ℕ) (r : ℕ → StateRow) (p : ℕ) → p < K → ended K r p ≡ r p
unfolding ended
ended-below K r p h = rw (lt-ltb p K h) refl

ended-past : (K : ℕ) (r : ℕ → StateRow) (p : ℕ) → K ≤ p → ended K r p ≡ no_edges
unfolding ended
ended-past K r p h = rw (le-ltb p K h) refl

-- the rows a below c, then the rows b
unfoldable joined : ℕ → (ℕ → StateRow) → (ℕ → StateRow) → ℕ → StateRow
joined c a b p = cond (ltb p c) (a p) (b (p - c))

joined-below : (c : ℕ) (a b : ℕ → StateRow) (p : ℕ) → p < c → joined c a b p ≡ a p
unfolding joined
joined-below c a b p h = rw (lt-ltb p c h) refl

joined-past : (c : ℕ) (a b : ℕ → StateRow) (p k : ℕ) → p ≡ c + k → joined c a b p ≡ b k
unfolding joined
joined-past c a b p k h = rw (le-ltb p c (omega arith)) (ap b (omega arith))

-- no states are shown
shown_none : (ws : List ℕ) (n : ℕ) (row : ℕ → StateRow) → ShownRows ws n 0 row
shown_none ws n row = record {
  silents = λ p h. absurd (omega arith);
  firsts = λ p h. absurd (omega arith);
  edges = λ p h. absurd (omega arith);
}

-- the edges of n states by the most numbers that there can be, where there are at most (1 + K) / 2 for each
pub most-edges : (N : Numbers) → N.z ≤ greatest_z → (n e : ℕ) → 2 * e ≤ (1 + numbers N) * n → 2 * e ≤ 67 * n
most-edges N z n e h =
    let most : 1 + numbers N ≤ 67 = omega (arith, numbers-within N) in
    omega (arith, h, mul-le-mul_right n most)

-- the words that suffice for the states are room for their edges
room_for : (N : Numbers) → N.z ≤ greatest_z → (ws : List ℕ) (n e : ℕ) → 0 < n → n ≤ 8193 → Suffices N n (length ws) →
    2 * e ≤ (1 + numbers N) * n → Room ws n e
room_for N z ws n e some few long h =
    record { few = few; words = omega (arith, h, long.graph); small = omega (arith, most-edges N z n e h) }

-- the states below c, and the dead state c, closed
closing : (ws : List ℕ) (n e c : ℕ) (row : ℕ → StateRow) → n ≡ c + 1 → e ≡ edges_below row c → row c ≡ no_edges →
    Room ws n (edges_below row c) → ((p : ℕ) → p < c → Fine n (row p)) → ShownRows ws n c row →
    Automaton (closed_of ws n e) n row
closing ws n e c row q f dead R fine S =
    let g : c ≡ n - 1 = omega arith in
    let dead' : row (n - 1) ≡ no_edges = rw (← g) dead in
    let R' : Room ws n (edges_below row (n - 1)) = rw (← g) R in
    let S' : ShownRows ws n (n - 1) row = rw (← g) S in
    rw (f, g) (closed-automaton ws n row (omega arith) dead' R' (λ p h. fine p (omega arith)) S')

-- the site of a sheet whose first state is o, in an automaton of n states
abbrev site : ℕ → ℕ → ℕ → Site
site root n o = record { root = root; n = n; o = o }

-- the first sheet of an automaton
module _ {N : Numbers} {t : List ℕ} {root : ℕ} {T : Ty} {M : Term} (R : Ready N t root T M) (n : ℕ)
    {row : ℕ → StateRow} (P : Placed N t (site root n 0) (spots T M) row) where
  -- it has few edges, which end where those of its rows end
  first-few : 2 * edges_below row (size T M) ≤ (1 + numbers N) * size T M
  unfolding edges_below
  first-few =
      let h = placed-few (site root n 0) R P in
      omega (arith, rw (zero-add (size T M)) at h)

  -- also for each of all states
  first-all : size T M ≤ n → 2 * edges_below row (size T M) ≤ (1 + numbers N) * n
  first-all l = omega (arith, first-few, mul-le-mul_left (1 + numbers N) l)

  -- they are fewer than words can count
  first_counted : edges_below row (size T M) < 2147483648
  first_counted = omega (arith, most-edges N R.z_below (size T M) _ first-few, R.small)

  first-after : edges_after t N (site root n 0) 0 ≡ edges_below row (size T M)
  unfolding edges_below
  first-after =
      let small : edges_below row (0 + size T M) < 2147483648 =
      rw (zero-add (size T M)) first_counted in
      placed-after (site root n 0) R P small ∙ ap (edges_below row) (zero-add (size T M))

  -- its rows are fine, and filling shows them
  module _ (most : n ≤ 8193) (room : size T M < n) where
    first-room : 0 + spots T M + 1 < n
    first-room = omega (arith, spots-size T M)

    first_fine : (p : ℕ) → p < size T M → Fine n (row p)
    first_fine p h = placed-fine (site root n 0) R P first-room most p (omega arith) (omega arith)

    first-shown : (ws : List ℕ) → Room ws n (edges_below row (size T M)) →
        ShownRows (filled_of t N (site root n 0) ws 0) n (size T M) row
    unfolding edges_below
    first-shown ws Q =
        let Q' : Room ws n (edges_below row (0 + size T M)) = rw (zero-add (size T M)) Q in
        let S = placed-shown (site root n 0) R P first-room most ws Q' (shown_none ws n row) in
        rw (zero-add (size T M)) at S

-- one sheet
module _ {N : Numbers} {t : List ℕ} {root : ℕ} {T : Ty} {M : Term} (R : Ready N t root T M) {n : ℕ}
    (ends : n ≡ size T M + 1) where
  abbrev s : Site
  s = site root n 0

  -- the rows of all states
  one-rows : ℕ → StateRow
  one-rows = ended (spots T M) (row_of t N s)

  one_placed : Placed N t s (spots T M) one-rows
  unfolding one-rows
  one_placed = record {
    rows = λ k h. rw (zero-add k) (ended-below (spots T M) (row_of t N s) k h);
    end = ended-past (spots T M) (row_of t N s) (0 + spots T M) (omega arith);
  }

  one-dead : (p : ℕ) → size T M ≤ p → one-rows p ≡ no_edges
  unfolding one-rows
  one-dead p h = ended-past (spots T M) (row_of t N s) p (omega (arith, spots-size T M))

  -- the words are their automaton
  one-automaton : (ws : List ℕ) → Suffices N n (length ws) →
      Automaton (closed_of (filled_of t N s ws 0) n (edges_after t N s 0)) n one-rows
  one-automaton ws long =
      let P = one_placed in
      let c = size T M in
      let e = edges_below one-rows c in
      let vs = filled_of t N s ws 0 in
      let few : n ≤ 8193 = omega (arith, R.small) in
      let Q : (xs : List ℕ) → length xs ≡ length ws → Room xs n e =
      λ xs l. room_for N R.z_below xs n e (omega arith) few (rw l long) (first-all R n P (omega arith)) in
      closing vs n (edges_after t N s 0) c one-rows ends (first-after R n P) (one-dead c (omega arith))
      (Q vs (filled-length t N s ws 0)) (first_fine R n P few (omega arith))
      (first-shown R n P few (omega arith) ws (Q ws refl))

  -- THEOREM: the words that one sheet leaves, filled and closed, are its explicit automaton
  pub one-sheet : {ws ws₁ ws₂ : List ℕ} {e : ℕ} → Suffices N n (length ws) →
      ws₁ ≡ filled_of t N (record { root = root; n = n; o = 0 }) ws 0 →
      e ≡ edges_after t N (record { root = root; n = n; o = 0 }) 0 → ws₂ ≡ closed_of ws₁ n e →
      OneSheet N T M n ws ws₂
  one-sheet {ws} long f a c =
      let vs = filled_of t N s ws 0 in
      let A = one-automaton ws long in
      let dead = one-dead (n - 1) (omega arith) in
      let last : n - 1 ≡ size T M = omega arith in
      rw (c, f, a) (record {
        same_length = closed-length vs n (edges_after t N s 0) ∙ filled-length t N s ws 0;
        graph = graph-of A;
        silent = silent-of A;
        shows = placed-explicit s R one_placed (omega (arith, spots-size T M)) (omega (arith, R.small)) _ A dead;
        barren = first_of A (n - 1) (omega arith) ∙ sym (all_edges n one-rows (omega arith) dead) ∙
            sym (first_of A n (omega arith));
        few = omega (
          arith,
          first_of A n (omega arith),
          all_edges n one-rows (omega arith) dead,
          ap (edges_below one-rows) last,
          first-few R n one_placed,
        );
      })

-- two sheets
module _ {N : Numbers} {t t' : List ℕ} {root root' : ℕ} {T : Ty} {M M' : Term} (R : Ready N t root T M)
    (R' : Ready N t' root' T M') {n : ℕ} (ends : n ≡ size T M + size T M' + 1) where
  abbrev old : Site
  old = site root n 0

  abbrev new : Site
  new = site root' n (size T M)

  few-states : n ≤ 8193
  few-states = omega (arith, R.small, R'.small)

  -- the rows of all states
  two-rows : ℕ → StateRow
  two-rows = joined (size T M) (ended (spots T M) (row_of t N old)) (ended (spots T M') (row_of t' N new))

  old-rows : (p : ℕ) → p < size T M → two-rows p ≡ ended (spots T M) (row_of t N old) p
  unfolding two-rows
  old-rows p h = joined-below (size T M) _ _ p h

  new-rows : (k : ℕ) → two-rows (size T M + k) ≡ ended (spots T M') (row_of t' N new) k
  unfolding two-rows
  new-rows k = joined-past (size T M) _ _ (size T M + k) k refl

  old-placed : Placed N t old (spots T M) two-rows
  old-placed = record {
    rows = λ k h. rw (zero-add k)
        (old-rows k (omega (arith, spots-size T M)) ∙ ended-below (spots T M) (row_of t N old) k h);
    end = rw (zero-add (spots T M))
        (old-rows (spots T M) (omega (arith, spots-size T M)) ∙
        ended-past (spots T M) (row_of t N old) (spots T M) (omega arith));
  }

  new-placed : Placed N t' new (spots T M') two-rows
  new-placed = record {
    rows = λ k h. new-rows k ∙ ended-below (spots T M') (row_of t' N new) k h;
    end = new-rows (spots T M') ∙ ended-past (spots T M') (row_of t' N new) (spots T M') (omega arith);
  }

  new-room : size T M + spots T M' + 1 < n
  new-room = omega (arith, spots-size T M')

  two-dead : two-rows (size T M + size T M') ≡ no_edges
  two-dead =
      new-rows (size T M') ∙
      ended-past (spots T M') (row_of t' N new) (size T M') (omega (arith, spots-size T M'))

  last-dead : two-rows (n - 1) ≡ no_edges
  last-dead = ap two-rows {x = n - 1} {y = size T M + size T M'} (omega arith) ∙ two-dead

  -- the edges of both are few
  two-few : 2 * edges_below two-rows (size T M + size T M') ≤ (1 + numbers N) * n
  two-few =
      let l : size T M + size T M' ≤ n = omega arith in
      omega (arith, placed-few new R' new-placed, first-few R n old-placed, mul-le-mul_left (1 + numbers N) l)

  two-counted : edges_below two-rows (size T M + size T M') < 2147483648
  two-counted = omega (arith, most-edges N R.z_below n _ two-few, few-states)

  two-fine : (p : ℕ) → p < size T M + size T M' → Fine n (two-rows p)
  two-fine p h = by (dec_lt p (size T M))
    where
      by : Dec (p < size T M) → Fine n (two-rows p)
      by (yes l) = first_fine R n old-placed few-states (omega arith) p l
      by (no l) = placed-fine new R' new-placed new-room few-states p (omega arith) h

  -- the words are their automaton
  two-automaton : (ws : List ℕ) (a b : ℕ) → Suffices N n (length ws) → a ≡ edges_after t N old 0 →
      b ≡ edges_after t' N new a → Automaton (closed_of (filled_of t' N new (filled_of t N old ws 0) a) n b) n two-rows
  two-automaton ws a b long p q =
      let c = size T M + size T M' in
      let vs = filled_of t N old ws 0 in
      let e = edges_below two-rows (size T M) in
      let f = edges_below two-rows c in
      let Q : (xs : List ℕ) (d : ℕ) → length xs ≡ length ws → 2 * d ≤ (1 + numbers N) * n → Room xs n d =
      λ xs d l h. room_for N R.z_below xs n d (omega arith) few-states (rw l long) h in
      let p' : a ≡ e = p ∙ first-after R n old-placed in
      let q' : b ≡ f =
      q ∙ ap (edges_after t' N new) p' ∙ placed-after new R' new-placed two-counted in
      let S : ShownRows vs n (size T M) two-rows =
      first-shown R n old-placed few-states (omega arith) ws
      (Q ws e refl (first-all R n old-placed (omega arith))) in
      let len = filled-length t N old ws 0 in
      let S' : ShownRows (filled_of t' N new vs e) n c two-rows =
      placed-shown new R' new-placed new-room few-states vs (Q vs f len two-few) S in
      rw p'
      (closing (filled_of t' N new vs e) n b c two-rows ends q' two-dead
      (Q (filled_of t' N new vs e) f (filled-length t' N new vs e ∙ len) two-few) two-fine S')

  -- THEOREM: the words that two sheets leave, filled one after the other and closed, are their explicit automata
  pub two-sheets : {ws ws₁ ws₂ ws₃ : List ℕ} {e₁ e₂ : ℕ} → Suffices N n (length ws) →
      ws₁ ≡ filled_of t N (record { root = root; n = n; o = 0 }) ws 0 →
      e₁ ≡ edges_after t N (record { root = root; n = n; o = 0 }) 0 →
      ws₂ ≡ filled_of t' N (record { root = root'; n = n; o = size T M }) ws₁ e₁ →
      e₂ ≡ edges_after t' N (record { root = root'; n = n; o = size T M }) e₁ → ws₃ ≡ closed_of ws₂ n e₂ →
      TwoSheets N T M M' n ws ws₃
  two-sheets {ws} {e₁ = e₁} {e₂ = e₂} long f a g b c =
      let vs = filled_of t N old ws 0 in
      let A = two-automaton ws e₁ e₂ long a b in
      rw (c, g, f) (record {
        same_length = closed-length (filled_of t' N new vs e₁) n e₂ ∙ filled-length t' N new vs e₁ ∙
            filled-length t N old ws 0;
        graph = graph-of A;
        silent = silent-of A;
        shows_old = placed-explicit old R old-placed (omega (arith, spots-size T M)) few-states _ A last-dead;
        shows_new = placed-explicit new R' new-placed new-room few-states _ A last-dead;
      })
