-- A sheet among the rows of an automaton: its rows from a state on, then the end. Filling writes them.
use mathlib.Core.Path.{◌≡◌, refl, sym, ◌∙◌, ap}
use mathlib.Core.List.{List}
use Prim.Native.Nat.{ℕ, zero, suc, ◌+◌, ◌*◌, ◌-◌, ◌≤◌, ◌<◌}
use native.Mathlib.Omega.{arith}
use native.Mathlib.Decide.{dec_lt}
use native.Mathlib.Nat.{add-zero, add-suc}
use lib.ListN.{length}
use Rattle.language.specs.declared.Numbers.{Numbers}
use Rattle.language.specs.Number.{numbers}
use Rattle.language.specs.Ty.{Ty}
use Rattle.language.specs.Term.{Term}
use Rattle.language.specs.Weight.{size}
use Rattle.states_machine.specs.Sheet.{spots, steps}
use Rattle.states_machine.proofs.Accepts.{spots-size}
use Rattle.dfa.specs.Graph.{rest}
use Rattle.states_path.specs.declared.Site.{Site}
use Rattle.states_words.specs.Explicit.{Explicit}
use Rattle.states_path.specs.States.{spots_of}
use Rattle.states_words.specs.inner.Rows.{StateRow, no_edges, with_rows}
use Rattle.states_words.specs.inner.Moves.{row_of, edges_after, filled_of}
use Rattle.states_words.specs.inner.Shown.{Fine, edges_below, ShownRows, Room, Automaton}
use Rattle.states_words.specs.inner.Ready.{Ready}
use Rattle.states_words.proofs.Writing.{row-length, rows-length, row-shown, before-is, rows-shown, none-fine}
use Rattle.states_words.proofs.Writing.{none_more}
use Rattle.states_words.proofs.Automata.{explicit-of}
use Rattle.states_words.proofs.SheetRows.{spots-ready, row-right, sheet-few}

-- the rows of a sheet of K states stand from its first state on, and then the end
pub record Placed (N : Numbers) (t : List ℕ) (s : Site) (K : ℕ) (row : ℕ → StateRow) : Type 0 where
  pub rows : (k : ℕ) → k < K → row (s.o + k) ≡ row_of t N s k
  pub end : row (s.o + K) ≡ no_edges

-- the edges of c states from o on
edges-from : (row r : ℕ → StateRow) (o c : ℕ) → ((k : ℕ) → k < c → row (o + k) ≡ r k) →
    edges_below row (o + c) ≡ edges_below row o + edges_below r c
unfolding edges_below
edges-from row r o zero same = rw (add-zero o) (omega arith)
edges-from row r o (suc c) same =
    rw (add-suc o c, same c (omega arith)) (omega (arith, edges-from row r o c (λ k h. same k (omega arith))))

-- filling keeps the length
pub filled-length : (t : List ℕ) (N : Numbers) (s : Site) (ws : List ℕ) (e : ℕ) →
    length (filled_of t N s ws e) ≡ length ws
unfolding filled_of
filled-length t N s ws e =
    row-length (with_rows ws s.n s.o e (row_of t N s) (spots_of t s.root)) s.n s.o (spots_of t s.root)
    (edges_after t N s e) no_edges ∙
    rows-length ws s.n s.o e (row_of t N s) (spots_of t s.root)

module _ {N : Numbers} {t : List ℕ} (s : Site) {T : Ty} {M : Term} (R : Ready N t s.root T M) {row : ℕ → StateRow}
    (P : Placed N t s (spots T M) row) where
  -- the edges before the end, and those with it
  edges-before : edges_below row (s.o + spots T M) ≡ edges_below row s.o + edges_below (row_of t N s) (spots T M)
  edges-before = edges-from row (row_of t N s) s.o (spots T M) P.rows

  after-end : s.o + size T M ≡ suc (s.o + spots T M)
  after-end = omega (arith, spots-size T M)

  edges-with : edges_below row (s.o + size T M) ≡ edges_below row (s.o + spots T M)
  edges-with = rw after-end (none_more row (s.o + spots T M) P.end)

  -- THEOREM: the sheet has few edges
  pub placed-few : 2 * edges_below row (s.o + size T M) ≤ 2 * edges_below row s.o + (1 + numbers N) * size T M
  placed-few = omega (arith, edges-with, edges-before, sheet-few s R)

  -- THEOREM: its edges end where those of its rows end
  pub placed-after : edges_below row (s.o + size T M) < 2147483648 →
      edges_after t N s (edges_below row s.o) ≡ edges_below row (s.o + size T M)
  unfolding edges_after
  placed-after h =
      rw (spots-ready s R)
      (before-is s.o row (row_of t N s) (spots T M) P.rows (omega (arith, edges-with)) ∙ sym edges-with)

  module _ (room : s.o + spots T M + 1 < s.n) (most : s.n ≤ 8193) where
    -- THEOREM: its rows are fine
    pub placed-fine : (p : ℕ) → s.o ≤ p → p < s.o + size T M → Fine s.n (row p)
    placed-fine p l h = by (dec_lt (p - s.o) (spots T M))
      where
        at : row (s.o + (p - s.o)) ≡ row p
        at = ap row (omega arith)

        by : Dec (p - s.o < spots T M) → Fine s.n (row p)
        by (yes k) = rw (sym at ∙ P.rows (p - s.o) k) (row-right s R room most (p - s.o) k).fine
        by (no k) =
            rw (ap row {x = p} {y = s.o + spots T M} (omega (arith, spots-size T M)) ∙ P.end) (none-fine s.n)

    -- THEOREM: filling shows them
    pub placed-shown : (ws : List ℕ) → Room ws s.n (edges_below row (s.o + size T M)) →
        ShownRows ws s.n s.o row → ShownRows (filled_of t N s ws (edges_below row s.o)) s.n
        (s.o + size T M) row
    unfolding filled_of
    placed-shown ws Q S =
        let e = edges_below row s.o in
        let vs = with_rows ws s.n s.o e (row_of t N s) (spots T M) in
        let Q' : Room ws s.n (edges_below row (s.o + spots T M)) = rw (← edges-with) Q in
        let B : ShownRows vs s.n (s.o + spots T M) row =
        rows-shown ws s.n s.o row (row_of t N s) (spots T M) P.rows
        (λ k h. (row-right s R room most k h).fine) (omega arith) Q' S in
        let len = rows-length ws s.n s.o e (row_of t N s) (spots T M) in
        let W : Room vs s.n (edges_below row (suc (s.o + spots T M))) =
        rw (← after-end)
        (record { few = Q.few; words = omega (arith, Q.words, len); small = Q.small }) in
        let a : edges_after t N s e ≡ edges_below row (s.o + spots T M) =
        placed-after (omega (arith, Q.small)) ∙ edges-with in
        rw (spots-ready s R, a, after-end, ← P.end)
        (row-shown vs s.n s.o (spots T M) (s.o + spots T M) row refl (omega arith)
        (rw P.end (none-fine s.n)) W B)

    -- THEOREM: the automaton shows the machine of the sheet
    pub placed-explicit : (ws : List ℕ) → Automaton ws s.n row → row (s.n - 1) ≡ no_edges →
        Explicit N ws (rest (5 * s.n) ws) s.n s.o (steps T M)
    placed-explicit ws A dead =
        explicit-of A (steps T M) room
        (λ k. rw (P.rows k.0 k.1) (row-right s R room most k.0 k.1)) P.end dead
