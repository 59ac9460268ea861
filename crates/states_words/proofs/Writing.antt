-- Writing rows into words shows them.
use mathlib.Core.Path.{◌≡◌, refl, sym, ◌∙◌, ap, subst}
use mathlib.Core.Logic.{◌≢◌}
use mathlib.Core.List.{List, [], ◌∷◌, ◌++◌}
use Prim.Native.Nat.{ℕ, zero, suc, ◌+◌, ◌*◌, ◌-◌, ◌<◌, ◌≤◌, ◌%◌}
use native.Mathlib.Omega.{arith}
use native.Mathlib.Decide.{dec_lt}
use native.Mathlib.Nat.{mod-eq_of_lt, add-zero, add-suc}
use lib.ListN.{length, get_or, set, length-set}
use lib.Seq.{get_or-set_same, get_or-set_other}
use Rattle.states_positions.specs.Row.{sum_of, mul_add_of}
use Rattle.states_step.proofs.Sums.{sum-small, mul_add_small}
use Rattle.states_words.specs.inner.Rows.{Edge, StateRow, no_edges, edge_at, with_edge, with_edges, past, with_head}
use Rattle.states_words.specs.inner.Rows.{with_row, before, with_rows, closed_of}
use Rattle.states_words.specs.inner.Shown.{Rising, Fine, Standing, edges_below, ShownRows, Room, Automaton}

-- edges in two runs
pub with_append : (ws : List ℕ) (n e : ℕ) (xs ys : List Edge) →
    with_edges ws n e (xs ++ ys) ≡ with_edges (with_edges ws n e xs) n (past e xs) ys
unfolding with_edges past
with_append ws n e [] ys = refl
with_append ws n e (x ∷ xs) ys = with_append (with_edge ws n e x.letter x.target) n (sum_of e 1) xs ys

pub past-append : (e : ℕ) (xs ys : List Edge) → past e (xs ++ ys) ≡ past (past e xs) ys
unfolding past
past-append e [] ys = refl
past-append e (x ∷ xs) ys = past-append (sum_of e 1) xs ys

past-plus : (e : ℕ) (xs : List Edge) → e + length xs < 2147483648 → past e xs ≡ e + length xs
unfolding past
past-plus e [] h = omega arith
past-plus e (x ∷ xs) h = rw (sum-small e 1 (omega arith)) (past-plus (e + 1) xs (omega arith) ∙ omega arith)

-- lengths stay
two-length : (ws : List ℕ) (i j a b : ℕ) → length (set (set ws i a) j b) ≡ length ws
two-length ws i j a b = length-set (set ws i a) j b ∙ length-set ws i a

edge-length : (ws : List ℕ) (n e l t : ℕ) → length (with_edge ws n e l t) ≡ length ws
unfolding with_edge
edge-length ws n e l t = two-length ws (edge_at n e) (sum_of (edge_at n e) 1) (l % 4294967296) (t % 4294967296)

edges-length : (ws : List ℕ) (n e : ℕ) (xs : List Edge) → length (with_edges ws n e xs) ≡ length ws
unfolding with_edges
edges-length ws n e [] = refl
edges-length ws n e (x ∷ xs) =
    edges-length (with_edge ws n e x.letter x.target) n (sum_of e 1) xs ∙
    edge-length ws n e x.letter x.target

head-length : (ws : List ℕ) (n p e s : ℕ) → length (with_head ws n p e s) ≡ length ws
unfolding with_head
head-length ws n p e s = two-length ws p (mul_add_of 5 n p) (s % 4294967296) (e % 4294967296)

pub row-length : (ws : List ℕ) (n o k e : ℕ) (r : StateRow) → length (with_row ws n o k e r) ≡ length ws
unfolding with_row
row-length ws n o k e r =
    edges-length (with_head ws n (sum_of o k) e r.silent) n e r.edges ∙
    head-length ws n (sum_of o k) e r.silent

pub rows-length : (ws : List ℕ) (n o e : ℕ) (r : ℕ → StateRow) (c : ℕ) → length (with_rows ws n o e r c) ≡ length ws
unfolding with_rows
rows-length ws n o e r zero = refl
rows-length ws n o e r (suc c) =
    row-length (with_rows ws n o e r c) n o c (before e r c) (r c) ∙ rows-length ws n o e r c

pub closed-length : (ws : List ℕ) (n e : ℕ) → length (closed_of ws n e) ≡ length ws
unfolding closed_of
closed-length ws n e =
    length-set (with_head ws n (n - 1) e 0) (mul_add_of 6 n 0) (e % 4294967296) ∙ head-length ws n (n - 1) e 0

-- two words written one after the other: the others stay, and both are there
two-other : (ws : List ℕ) (i j a b k : ℕ) → k ≢ i → k ≢ j → get_or (set (set ws i a) j b) k 0 ≡ get_or ws k 0
two-other ws i j a b k p q = get_or-set_other (set ws i a) j k b 0 q ∙ get_or-set_other ws i k a 0 p

two-first : (ws : List ℕ) (i j a b : ℕ) → i < length ws → i ≢ j → get_or (set (set ws i a) j b) i 0 ≡ a
two-first ws i j a b h q = get_or-set_other (set ws i a) j i b 0 q ∙ get_or-set_same ws i a 0 h

two-second : (ws : List ℕ) (i j a b : ℕ) → j < length ws → get_or (set (set ws i a) j b) j 0 ≡ b
two-second ws i j a b h = get_or-set_same (set ws i a) j b 0 (omega (arith, length-set ws i a))

-- an edge is two words, and a head is two words
edge-at : (n e : ℕ) → n ≤ 8193 → 6 * n + 1 + 2 * e < 2147483648 → edge_at n e ≡ 6 * n + 1 + 2 * e
unfolding edge_at
edge-at n e f h =
    rw (mul_add_small 6 n 1 (omega arith) (omega arith) (omega arith), sum-small e e (omega arith))
    (sum-small (6 * n + 1) (e + e) (omega arith) ∙ omega arith)

edge-is : (ws : List ℕ) (n e l t : ℕ) → n ≤ 8193 → 6 * n + 2 + 2 * e < 2147483648 →
    with_edge ws n e l t ≡
    set (set ws (6 * n + 1 + 2 * e) (l % 4294967296)) (6 * n + 2 + 2 * e) (t % 4294967296)
unfolding with_edge
edge-is ws n e l t f h =
    let q : sum_of (6 * n + 1 + 2 * e) 1 ≡ 6 * n + 2 + 2 * e =
    sum-small (6 * n + 1 + 2 * e) 1 (omega arith) ∙ omega arith in
    rw (edge-at n e f (omega arith), q)

head-is : (ws : List ℕ) (n p e s : ℕ) → n ≤ 8193 → p < n →
    with_head ws n p e s ≡ set (set ws p (s % 4294967296)) (5 * n + p) (e % 4294967296)
unfolding with_head
head-is ws n p e s f h = rw (mul_add_small 5 n p (omega arith) (omega arith) (omega arith))

-- the words that edges from edge e on leave: those before them, and those after them
edges_other : (ws : List ℕ) (n e : ℕ) (xs : List Edge) → n ≤ 8193 →
    6 * n + 1 + 2 * (e + length xs) < 2147483648 → (j : ℕ) →
    ((6 * n + 1 + 2 * e ≤ j) → j < 6 * n + 1 + 2 * (e + length xs) → ⊥) →
    get_or (with_edges ws n e xs) j 0 ≡ get_or ws j 0
unfolding with_edges
edges_other ws n e [] f s j out = refl
edges_other ws n e (x ∷ xs) f s j out =
    rw (sum-small e 1 (omega arith), edge-is ws n e x.letter x.target f (omega arith))
    (edges_other
    (set (set ws (6 * n + 1 + 2 * e) (x.letter % 4294967296)) (6 * n + 2 + 2 * e) (x.target % 4294967296))
    n (e + 1) xs f (omega arith) j (λ a b. out (omega arith) (omega arith)) ∙
    two-other ws (6 * n + 1 + 2 * e) (6 * n + 2 + 2 * e) (x.letter % 4294967296) (x.target % 4294967296) j
    (λ q. out (omega arith) (omega arith)) (λ q. out (omega arith) (omega arith)))

-- the words of a row: its head, and its edges
row_other : (ws : List ℕ) (n o k e : ℕ) (r : StateRow) → n ≤ 8193 → o + k < n →
    6 * n + 1 + 2 * (e + length r.edges) < 2147483648 → (j : ℕ) → j ≢ o + k → j ≢ 5 * n + (o + k) →
    ((6 * n + 1 + 2 * e ≤ j) → j < 6 * n + 1 + 2 * (e + length r.edges) → ⊥) →
    get_or (with_row ws n o k e r) j 0 ≡ get_or ws j 0
unfolding with_row
row_other ws n o k e r f l s j a b out =
    rw (sum-small o k (omega arith))
    (edges_other (with_head ws n (o + k) e r.silent) n e r.edges f s j out ∙
    rw (head-is ws n (o + k) e r.silent f l)
    (two-other ws (o + k) (5 * n + (o + k)) (r.silent % 4294967296) (e % 4294967296) j a b))

-- edges stand on where their words stay
standing_on : (ws vs : List ℕ) (n e : ℕ) (xs : List Edge) →
    ((j : ℕ) → 6 * n + 1 + 2 * e ≤ j → j < 6 * n + 1 + 2 * (e + length xs) → get_or vs j 0 ≡ get_or ws j 0) →
    Standing ws n e xs → Standing vs n e xs
unfolding Standing
standing_on ws vs n e [] same h = tt
standing_on ws vs n e (x ∷ xs) same h = (
  same (6 * n + 1 + 2 * e) (omega arith) (omega arith) ∙ h.0,
  same (6 * n + 2 + 2 * e) (omega arith) (omega arith) ∙ h.1,
  standing_on ws vs n (suc e) xs (λ j a b. same j (omega arith) (omega arith)) h.2,
)

-- an edge that is written is there
edge-letter : (ws : List ℕ) (n e l t : ℕ) → Room ws n (suc e) → l < 4294967296 →
    get_or (with_edge ws n e l t) (6 * n + 1 + 2 * e) 0 ≡ l
edge-letter ws n e l t R h =
    rw (edge-is ws n e l t R.few (omega (arith, R.small)), mod-eq_of_lt h)
    (two-first ws (6 * n + 1 + 2 * e) (6 * n + 2 + 2 * e) l (t % 4294967296) (omega (arith, R.words))
    (λ z. omega arith))

edge-target : (ws : List ℕ) (n e l t : ℕ) → Room ws n (suc e) → t < 4294967296 →
    get_or (with_edge ws n e l t) (6 * n + 2 + 2 * e) 0 ≡ t
edge-target ws n e l t R h =
    rw (edge-is ws n e l t R.few (omega (arith, R.small)), mod-eq_of_lt h)
    (two-second ws (6 * n + 1 + 2 * e) (6 * n + 2 + 2 * e) (l % 4294967296) t (omega (arith, R.words)))

-- room for fewer edges, in words as long
less : {ws : List ℕ} (vs : List ℕ) {n e : ℕ} (d : ℕ) → length vs ≡ length ws → d ≤ e → Room ws n e → Room vs n d
less vs d l h R =
    record { few = R.few; words = omega (arith, R.words, l); small = omega (arith, R.small) }

-- edges that are written stand
edges-stand : (ws : List ℕ) (n e a : ℕ) (xs : List Edge) → Room ws n (e + length xs) → Rising n a xs →
    Standing (with_edges ws n e xs) n e xs
unfolding Standing Rising with_edges
edges-stand ws n e a [] R h = tt
edges-stand ws n e a (x ∷ xs) R h =
    let q : sum_of e 1 ≡ suc e = sum-small e 1 (omega (arith, R.small)) ∙ omega arith in
    let len = edge-length ws n e x.letter x.target in
    let one = less ws (suc e) refl (omega arith) R in
    let stays : (j : ℕ) → j < 6 * n + 1 + 2 * suc e →
    get_or (with_edges (with_edge ws n e x.letter x.target) n (suc e) xs) j 0 ≡
    get_or (with_edge ws n e x.letter x.target) j 0 =
    λ j b. edges_other (with_edge ws n e x.letter x.target) n (suc e) xs R.few
    (omega (arith, R.small)) j (λ c d. absurd (omega arith)) in
    rw q (
      stays (6 * n + 1 + 2 * e) (omega arith) ∙
          edge-letter ws n e x.letter x.target one (omega (arith, h.1)),
      stays (6 * n + 2 + 2 * e) (omega arith) ∙
          edge-target ws n e x.letter x.target one (omega (arith, h.2, R.few)),
      subst (λ (us : List ℕ). Standing us n (suc e) xs)
          (ap (λ (j : ℕ). with_edges (with_edge ws n e x.letter x.target) n j xs) (sym q))
          (edges-stand (with_edge ws n e x.letter x.target) n (suc e) (suc x.letter) xs
          (less (with_edge ws n e x.letter x.target) (suc e + length xs) len (omega arith) R) h.3),
    )

-- a head that is written is there
row-silent : (ws : List ℕ) (n o k p e : ℕ) (r : StateRow) → o + k ≡ p → p < n → r.silent < 4294967296 →
    Room ws n (e + length r.edges) → get_or (with_row ws n o k e r) p 0 ≡ r.silent
unfolding with_row
row-silent ws n o k p e r q l h R =
    rw (sum-small o k (omega (arith, R.few)) ∙ q)
    (edges_other (with_head ws n p e r.silent) n e r.edges R.few R.small p (λ a b. omega arith) ∙
    rw (head-is ws n p e r.silent R.few l, mod-eq_of_lt h)
    (two-first ws p (5 * n + p) r.silent (e % 4294967296) (omega (arith, R.words)) (λ z. omega arith)))

row_first : (ws : List ℕ) (n o k p e : ℕ) (r : StateRow) → o + k ≡ p → p < n → Room ws n (e + length r.edges) →
    get_or (with_row ws n o k e r) (5 * n + p) 0 ≡ e
unfolding with_row
row_first ws n o k p e r q l R =
    let small : e % 4294967296 ≡ e = mod-eq_of_lt (omega (arith, R.small)) in
    rw (sum-small o k (omega (arith, R.few)) ∙ q)
    (edges_other (with_head ws n p e r.silent) n e r.edges R.few R.small (5 * n + p)
    (λ a b. omega arith) ∙
    rw (head-is ws n p e r.silent R.few l, small)
    (two-second ws p (5 * n + p) (r.silent % 4294967296) e (omega (arith, R.words))))

row-stands : (ws : List ℕ) (n o k e : ℕ) (r : StateRow) → Fine n r → Room ws n (e + length r.edges) →
    Standing (with_row ws n o k e r) n e r.edges
unfolding with_row
row-stands ws n o k e r F R =
    edges-stand (with_head ws n (sum_of o k) e r.silent) n e 0 r.edges
    (less (with_head ws n (sum_of o k) e r.silent) (e + length r.edges)
    (head-length ws n (sum_of o k) e r.silent) (omega arith) R) F.rising

-- more states have more edges
edges_more : (row : ℕ → StateRow) (p d q : ℕ) → p + d ≡ q → edges_below row p ≤ edges_below row q
unfolding edges_below
edges_more row p zero q e = subst (λ (x : ℕ). edges_below row p ≤ edges_below row x) {x = p} {y = q} (omega arith)
    (omega arith)
edges_more row p (suc d) zero e = absurd (omega arith)
edges_more row p (suc d) (suc q) e = omega (arith, edges_more row p d q (omega arith))

pub edges-up : (row : ℕ → StateRow) (p q : ℕ) → p ≤ q → edges_below row p ≤ edges_below row q
edges-up row p q h = edges_more row p (q - p) q (omega arith)

-- rows are shown on where their words stay
shown-on : (ws vs : List ℕ) (n c : ℕ) (row : ℕ → StateRow) →
    ((j : ℕ) → j < c → get_or vs j 0 ≡ get_or ws j 0) →
    ((j : ℕ) → 5 * n ≤ j → j < 5 * n + c → get_or vs j 0 ≡ get_or ws j 0) →
    ((j : ℕ) → 6 * n + 1 ≤ j → j < 6 * n + 1 + 2 * edges_below row c → get_or vs j 0 ≡ get_or ws j 0) →
    ShownRows ws n c row → ShownRows vs n c row
unfolding edges_below
shown-on ws vs n c row silent first edge S = record {
  silents = λ p h. silent p h ∙ S.silents p h;
  firsts = λ p h. first (5 * n + p) (omega arith) (omega arith) ∙ S.firsts p h;
  edges = λ p h. standing_on ws vs n (edges_below row p) (row p).edges
      (λ j a b. edge j (omega arith) (omega (arith, edges-up row (suc p) c h))) (S.edges p h);
}

-- a fact for the states below p and for p holds below p + 1
below_suc : (P : ℕ → Type 0) (p : ℕ) → ((j : ℕ) → j < p → P j) → P p → (j : ℕ) → j < suc p → P j
below_suc P p old new j h = by (dec_lt j p)
  where
    by : Dec (j < p) → P j
    by (yes a) = old j a
    by (no a) = subst P {x = p} {y = j} (omega arith) new

-- THEOREM: a row that is written is shown
pub row-shown : (ws : List ℕ) (n o k p : ℕ) (row : ℕ → StateRow) → o + k ≡ p → p < n → Fine n (row p) →
    Room ws n (edges_below row (suc p)) → ShownRows ws n p row →
    ShownRows (with_row ws n o k (edges_below row p) (row p)) n (suc p) row
unfolding edges_below
row-shown ws n o k p row q l F R S =
    let vs = with_row ws n o k (edges_below row p) (row p) in
    let stays : (j : ℕ) → j ≢ p → j ≢ 5 * n + p → j < 6 * n + 1 + 2 * edges_below row p → get_or vs j 0 ≡ get_or ws j 0 =
    λ j a b c. row_other ws n o k (edges_below row p) (row p) R.few (omega arith) R.small j
    (λ z. a (omega arith)) (λ z. b (omega arith)) (λ d e. omega arith) in
    let T : ShownRows vs n p row =
    shown-on ws vs n p row (λ j h. stays j (λ z. omega arith) (λ z. omega arith) (omega arith))
    (λ j a h. stays j (λ z. omega arith) (λ z. omega arith) (omega arith))
    (λ j a h. stays j (λ z. omega arith) (λ z. omega arith) (omega arith)) S in
    record {
      silents = below_suc (λ (j : ℕ). get_or vs j 0 ≡ (row j).silent) p T.silents
          (row-silent ws n o k p (edges_below row p) (row p) q l (omega (arith, F.silent_state, R.few)) R);
      firsts = below_suc (λ (j : ℕ). get_or vs (5 * n + j) 0 ≡ edges_below row j) p T.firsts
          (row_first ws n o k p (edges_below row p) (row p) q l R);
      edges = below_suc (λ (j : ℕ). Standing vs n (edges_below row j) (row j).edges) p T.edges
          (row-stands ws n o k (edges_below row p) (row p) F R);
    }

-- the edges of one more state
edges-next : (row : ℕ → StateRow) (o c : ℕ) →
    edges_below row (o + suc c) ≡ edges_below row (o + c) + length (row (o + c)).edges
unfolding edges_below
edges-next row o c = rw (add-suc o c)

-- the first edge after the c states from o on, where r k is the row of the state o + k
pub before-is : (o : ℕ) (row r : ℕ → StateRow) (c : ℕ) → ((k : ℕ) → k < c → row (o + k) ≡ r k) →
    edges_below row (o + c) < 2147483648 → before (edges_below row o) r c ≡ edges_below row (o + c)
unfolding before
before-is o row r zero same h = rw (add-zero o)
before-is o row r (suc c) same h =
    let e = edges-next row o c in
    rw (before-is o row r c (λ k l. same k (omega arith)) (omega arith), ← same c (omega arith))
    (past-plus (edges_below row (o + c)) (row (o + c)).edges (omega arith) ∙ sym e)

-- THEOREM: the rows of a sheet that are written one after the other are shown
pub rows-shown : (ws : List ℕ) (n o : ℕ) (row r : ℕ → StateRow) (c : ℕ) → ((k : ℕ) → k < c → row (o + k) ≡ r k) →
    ((k : ℕ) → k < c → Fine n (r k)) → o + c ≤ n → Room ws n (edges_below row (o + c)) → ShownRows ws n o row →
    ShownRows (with_rows ws n o (edges_below row o) r c) n (o + c) row
unfolding with_rows
rows-shown ws n o row r zero same fine l R S = rw (add-zero o) S
rows-shown ws n o row r (suc c) same fine l R S =
    let e = edges-next row o c in
    let vs = with_rows ws n o (edges_below row o) r c in
    let T : ShownRows vs n (o + c) row =
    rows-shown ws n o row r c (λ k h. same k (omega arith)) (λ k h. fine k (omega arith)) (omega arith)
    (less ws (edges_below row (o + c)) refl (omega arith) R) S in
    let R' : Room vs n (edges_below row (suc (o + c))) =
    rw (← add-suc o c)
    (less vs (edges_below row (o + suc c)) (rows-length ws n o (edges_below row o) r c) (omega arith) R) in
    rw (
      add-suc o c,
      before-is o row r c (λ k h. same k (omega arith)) (omega (arith, R.small)),
      ← same c (omega arith),
    )
    (row-shown vs n o c (o + c) row refl (omega arith) (rw (same c (omega arith)) (fine c (omega arith))) R' T)

-- a state without edges
pub none-fine : (n : ℕ) → Fine n no_edges
unfolding Rising
none-fine n = record { silent_state = omega arith; rising = tt }

pub none_more : (row : ℕ → StateRow) (p : ℕ) → row p ≡ no_edges → edges_below row (suc p) ≡ edges_below row p
unfolding edges_below
none_more row p e = rw e (omega arith)

-- closing writes the row of the dead state, and the end of the edges
closed_is : (ws : List ℕ) (n e : ℕ) → n ≤ 8193 → closed_of ws n e ≡
    set (with_row ws n 0 (n - 1) e no_edges) (6 * n) (e % 4294967296)
unfolding closed_of with_row with_edges
closed_is ws n e f =
    let s : sum_of 0 (n - 1) ≡ n - 1 = sum-small 0 (n - 1) (omega arith) ∙ omega arith in
    let p : mul_add_of 6 n 0 ≡ 6 * n = mul_add_small 6 n 0 (omega arith) (omega arith) (omega arith) ∙ omega arith in
    rw (s, p)

-- the dead state has no edges
pub all_edges : (n : ℕ) (row : ℕ → StateRow) → 0 < n → row (n - 1) ≡ no_edges → edges_below row n ≡ edges_below row (n - 1)
all_edges n row some dead =
    subst (λ (x : ℕ). edges_below row x ≡ edges_below row (n - 1)) {x = suc (n - 1)} {y = n} (omega arith)
    (none_more row (n - 1) dead)

module _ (ws : List ℕ) (n : ℕ) (row : ℕ → StateRow) (some : 0 < n) (dead : row (n - 1) ≡ no_edges)
    (R : Room ws n (edges_below row (n - 1))) where
  -- THEOREM: closing shows the row of the dead state too
  closed-shown : ShownRows ws n (n - 1) row → ShownRows (closed_of ws n (edges_below row (n - 1))) n n row
  closed-shown S =
      let e = edges_below row (n - 1) in
      let vs = with_row ws n 0 (n - 1) e no_edges in
      let R' : Room ws n (edges_below row (suc (n - 1))) = rw (none_more row (n - 1) dead) R in
      let F : Fine n (row (n - 1)) = rw dead (none-fine n) in
      let T : ShownRows (with_row ws n 0 (n - 1) e (row (n - 1))) n (suc (n - 1)) row =
      row-shown ws n 0 (n - 1) (n - 1) row (omega arith) (omega arith) F R' S in
      let T' : ShownRows vs n n row =
      subst (λ (x : ℕ). ShownRows vs n x row) {x = suc (n - 1)} {y = n} (omega arith) (rw dead at T) in
      let stays : (j : ℕ) → j ≢ 6 * n → get_or (set vs (6 * n) (e % 4294967296)) j 0 ≡ get_or vs j 0 =
      λ j a. get_or-set_other vs (6 * n) j (e % 4294967296) 0 a in
      rw (closed_is ws n e R.few)
      (shown-on vs (set vs (6 * n) (e % 4294967296)) n n row (λ j h. stays j (λ z. omega arith))
      (λ j a h. stays j (λ z. omega arith)) (λ j a h. stays j (λ z. omega arith)) T')

  -- THEOREM: closing writes the end of the edges
  closed-last : get_or (closed_of ws n (edges_below row (n - 1))) (6 * n) 0 ≡ edges_below row n
  closed-last =
      let e = edges_below row (n - 1) in
      let small : e % 4294967296 ≡ e = mod-eq_of_lt (omega (arith, R.small)) in
      rw (closed_is ws n e R.few, small, all_edges n row some dead)
      (get_or-set_same (with_row ws n 0 (n - 1) e no_edges) (6 * n) e 0
      (omega (arith, row-length ws n 0 (n - 1) e no_edges, R.words)))

  -- THEOREM: the rows of all other states, closed, are an automaton
  pub closed-automaton : ((p : ℕ) → p < n - 1 → Fine n (row p)) → ShownRows ws n (n - 1) row →
      Automaton (closed_of ws n (edges_below row (n - 1))) n row
  closed-automaton fine S =
      let e = edges_below row (n - 1) in
      record {
        some = some;
        few = R.few;
        room = omega (arith, closed-length ws n e, all_edges n row some dead, R.words);
        shown = closed-shown S;
        last = closed-last;
        fine = λ p h. below_suc (λ (x : ℕ). Fine n (row x)) (n - 1) fine (rw dead (none-fine n)) p (omega arith);
      }
