-- Words that show right rows are an explicit automaton.
use mathlib.Core.Path.{◌≡◌, refl, ap, ◌∙◌}
use mathlib.Core.Bool.{cond}
use mathlib.Core.List.{List, [], ◌∷◌}
use Prim.Native.Nat.{ℕ, suc, ◌+◌, ◌*◌, ◌-◌, ◌<◌, ◌≤◌, ◌^◌}
use native.Mathlib.Omega.{arith}
use native.Mathlib.Decide.{ℕ_discrete, dec_lt}
use native.Mathlib.Numerals.{add-one}
use lib.Dec.{eqb}
use lib.ListN.{length, get_or}
use Rattle.language.specs.declared.Numbers.{Numbers}
use Rattle.states_words.specs.Letter.{letter}
use Rattle.states_machine.specs.Action.{Action}
use Rattle.states_machine.specs.Settle.{Index}
use Rattle.dfa.specs.Graph as graph
use Rattle.dfa.specs.Graph.{rest, look, δ, Graph}
use Rattle.dfa_silent.specs.Silent.{Silent}
use Rattle.dfa.proofs.laws.Rest.{rest_at, rest-length}
use Rattle.states_words.specs.Explicit.{Explicit}
use Rattle.states_words.specs.inner.Rows.{Edge, StateRow, no_edges}
use Rattle.states_words.specs.inner.Shown.{lookup, Rising, Standing, edges_below, Automaton, Right}
use Rattle.states_words.proofs.Writing.{edges-up}

module _ (ws : List ℕ) (n : ℕ) where
  -- an edge of the graph is an edge of the words
  letter_at : (i : ℕ) → graph.letter (rest (5 * n) ws) n i ≡ get_or ws (6 * n + 1 + 2 * i) 0
  letter_at i = rest_at (5 * n) ws (n + 1 + 2 * i) ∙ ap (λ (j : ℕ). get_or ws j 0) (omega arith)

  target_at : (i : ℕ) → graph.target (rest (5 * n) ws) n i ≡ get_or ws (6 * n + 2 + 2 * i) 0
  target_at i = rest_at (5 * n) ws (n + 2 + 2 * i) ∙ ap (λ (j : ℕ). get_or ws j 0) (omega arith)

  -- letters of edges that stand rise
  stand-rise : (e a : ℕ) (xs : List Edge) → Standing ws n e xs → Rising n a xs → (k : ℕ) → e ≤ k →
      k + 1 < e + length xs → get_or ws (6 * n + 1 + 2 * k) 0 < get_or ws (6 * n + 1 + 2 * (k + 1)) 0
  unfolding Standing Rising
  stand-rise e a [] S R k l h = absurd (omega arith)
  stand-rise e a (x ∷ []) S R k l h = absurd (omega arith)
  stand-rise e a (x ∷ y ∷ xs) S R k l h = by (ℕ_discrete e k)
      (λ g. stand-rise (suc e) (suc x.letter) (y ∷ xs) S.2 R.3 k g (omega arith))
    where
      by : Dec (e ≡ k) → (suc e ≤ k → get_or ws (6 * n + 1 + 2 * k) 0 < get_or ws (6 * n + 1 + 2 * (k + 1)) 0) →
          get_or ws (6 * n + 1 + 2 * k) 0 < get_or ws (6 * n + 1 + 2 * (k + 1)) 0
      by (no c) later = later (omega arith)
      by (yes c) later =
          let first : get_or ws (6 * n + 1 + 2 * k) 0 ≡ x.letter = rw (← c) S.0 in
          let second : get_or ws (6 * n + 1 + 2 * (k + 1)) 0 ≡ y.letter = rw (← c, add-one e) S.2.0 in
          omega (arith, R.3.0)

  -- letters and targets of edges that stand are in range
  stand-small : (e a : ℕ) (xs : List Edge) → Standing ws n e xs → Rising n a xs → (k : ℕ) → e ≤ k →
      k < e + length xs → (get_or ws (6 * n + 1 + 2 * k) 0 < 2 ^ 27) × (get_or ws (6 * n + 2 + 2 * k) 0 < n)
  unfolding Standing Rising
  stand-small e a [] S R k l h = absurd (omega arith)
  stand-small e a (x ∷ xs) S R k l h = by (ℕ_discrete e k)
      (λ g. stand-small (suc e) (suc x.letter) xs S.2 R.3 k g (omega arith))
    where
      by : Dec (e ≡ k) →
          (suc e ≤ k → (get_or ws (6 * n + 1 + 2 * k) 0 < 2 ^ 27) × (get_or ws (6 * n + 2 + 2 * k) 0 < n)) →
          (get_or ws (6 * n + 1 + 2 * k) 0 < 2 ^ 27) × (get_or ws (6 * n + 2 + 2 * k) 0 < n)
      by (no c) later = later (omega arith)
      by (yes c) later = rw (← c, S.0, S.1) (R.1, R.2)

  -- edges that stand lead where the list leads
  stand-look : (e x : ℕ) (xs : List Edge) → Standing ws n e xs →
      look (rest (5 * n) ws) n x (length xs) e ≡ lookup (n - 1) xs x
  unfolding Standing look lookup
  stand-look e x [] S = refl
  stand-look e x (y ∷ xs) S =
      rw (letter_at e, target_at e, S.0, S.1)
      (ap (cond (eqb y.letter x) y.target) (stand-look (suc e) x xs S.2))

module _ {ws : List ℕ} {n : ℕ} {row : ℕ → StateRow} (A : Automaton ws n row) where
  -- the first edge of a state, and the end of the edges
  pub first_of : (p : ℕ) → p ≤ n → get_or (rest (5 * n) ws) p 0 ≡ edges_below row p
  first_of p h = rest_at (5 * n) ws p ∙ by (dec_lt p n)
    where
      by : Dec (p < n) → get_or ws (5 * n + p) 0 ≡ edges_below row p
      by (yes l) = A.shown.firsts p l
      by (no l) =
          let e : p ≡ n = omega arith in
          rw e (ap (λ (j : ℕ). get_or ws j 0) {x = 5 * n + n} {y = 6 * n} (omega arith) ∙ A.last)

  next_of : (p : ℕ) → p < n → get_or (rest (5 * n) ws) (p + 1) 0 ≡ edges_below row p + length (row p).edges
  unfolding edges_below
  next_of p h = rw (add-one p) (first_of (suc p) h)

  -- THEOREM: the words are a graph
  pub graph-of : Graph (rest (5 * n) ws) n
  unfolding edges_below
  graph-of =
      let len = rest-length (5 * n) ws in
      record {
        some = A.some;
        few = A.few;
        room = omega (arith, len, A.room);
        edges = λ p h.
            let st = A.shown.edges p h in
            let ri = (A.fine p h).rising in
            rw (first_of p (omega arith), next_of p h) (record {
              le = omega arith;
              room = omega (arith, len, A.room, edges-up row (suc p) n h);
              rising = λ k l u. rw (letter_at ws n k, letter_at ws n (k + 1))
                  (stand-rise ws n (edges_below row p) 0 (row p).edges st ri k l u);
              small = λ k l u. rw (letter_at ws n k, target_at ws n k)
                  (stand-small ws n (edges_below row p) 0 (row p).edges st ri k l u);
            });
      }

  -- THEOREM: the words are silent steps
  pub silent-of : Silent n ws
  silent-of p h = rw (A.shown.silents p h) (A.fine p h).silent_state

  -- THEOREM: a letter leads where the row of the state leads
  leads-of : (p x : ℕ) → p < n → δ (rest (5 * n) ws) n p x ≡ lookup (n - 1) (row p).edges x
  leads-of p x h =
      let e : edges_below row p + length (row p).edges - edges_below row p ≡ length (row p).edges = omega arith in
      rw (first_of p (omega arith), next_of p h, e)
      (stand-look ws n (edges_below row p) x (row p).edges (A.shown.edges p h))

  -- a state without edges stays, and every letter leads to the dead state
  none_stays : (p : ℕ) → p < n → row p ≡ no_edges → get_or ws p 0 ≡ 0
  none_stays p h e = A.shown.silents p h ∙ rw e

  none-leads : (p x : ℕ) → p < n → row p ≡ no_edges → δ (rest (5 * n) ws) n p x ≡ n - 1
  unfolding lookup
  none-leads p x h e = leads-of p x h ∙ rw e

  -- THEOREM: the words show a machine whose actions the rows from o on show
  pub explicit-of : {N : Numbers} {o K : ℕ} (step : Index K → Action (Index K) (Unit {0})) → o + K + 1 < n →
      ((k : Index K) → Right N n o (step k) (row (o + k.0))) → row (o + K) ≡ no_edges → row (n - 1) ≡ no_edges →
      Explicit N ws (rest (5 * n) ws) n o step
  explicit-of {N} {o} {K} step room right end dead = record {
    room = room;
    silent = λ k. A.shown.silents (o + k.0) (omega (arith, k.1)) ∙ (right k).silent_right;
    end_stays = none_stays (o + K) (omega arith) end;
    dead_stays = none_stays (n - 1) (omega arith) dead;
    edges = λ k m s. leads-of (o + k.0) (letter N m) (omega (arith, k.1)) ∙ (right k).edges_right m s;
    others = λ k x no. leads-of (o + k.0) x (omega (arith, k.1)) ∙ (right k).no_others x no;
    end_edges = λ m. none-leads (o + K) m (omega arith) end;
    dead_edges = λ m. none-leads (n - 1) m (omega arith) dead;
  }
