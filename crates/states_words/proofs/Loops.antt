-- What each turn of the code's loops adds to the words.
use Prim.Native.Nat.{ℕ, ◌+◌, ◌≤◌, ◌<◌, ◌/◌, ◌%◌}
use native.Mathlib.Omega.{arith}
use native.Mathlib.Numerals.{add-one}
use mathlib.Core.Path.{◌≡◌, refl, sym, ◌∙◌}
use mathlib.Core.List.{List, [], ◌++◌}
use borrow.Author.Tests.{le-leb, lt-leb, eq-eqb, ne_eqb}
use Rattle.language.specs.declared.Numbers.{Numbers}
use Rattle.language.specs.Number.{numbers}
use Rattle.states_positions.specs.declared.Move.{Move}
use Rattle.states_positions.specs.declared.Out.{Out}
use Rattle.states_positions.specs.declared.Out.TheVariants.{Say, Hear}
use Rattle.states_positions.specs.Row.{sum_of}
use Rattle.states_words.specs.declared.Wait.{Wait}
use Rattle.states_path.specs.declared.Site.{Site}
use Rattle.states_path.specs.States.{spots_of, sheet_at, target_of}
use Rattle.states_words.specs.inner.Rows.{Edge, StateRow, with_edge, with_edges, past, with_head, with_row, before}
use Rattle.states_words.specs.inner.Rows.{with_rows}
use Rattle.language.specs.Order.{code_at}
use Rattle.states_words.specs.inner.Moves.{letter_of, limit_of, wait_of, silent_of, edge_by, value_edge}
use Rattle.states_words.specs.inner.Moves.{value_edges, block_edges, heard_edges, edges_of, row_for, row_of}
use Rattle.states_words.specs.inner.Moves.{edges_after, filled_of}
use Rattle.states_words.proofs.Writing.{with_append, past-append}

-- e' and ws' are what follows from the edge e and the words ws when the edges xs are written
pub record Wrote (ws : List ℕ) (n e : ℕ) (xs : List Edge) (e' : ℕ) (ws' : List ℕ) : Type 0 where
  pub returned : e' ≡ past e xs
  pub written : ws' ≡ with_edges ws n e xs

-- as a contract says it
pub told : {ws ws' : List ℕ} {n e e' : ℕ} {xs : List Edge} → Wrote ws n e xs e' ws' →
    (e' ≡ past e xs) × (ws' ≡ with_edges ws n e xs)
told w = (w.returned, w.written)

pub wrote : {ws ws' : List ℕ} {n e e' : ℕ} {xs : List Edge} → e' ≡ past e xs → ws' ≡ with_edges ws n e xs →
    Wrote ws n e xs e' ws'
wrote f w = record { returned = f; written = w }

pub wrote_none : (ws : List ℕ) (n e : ℕ) → Wrote ws n e [] e ws
unfolding past with_edges
wrote_none ws n e = record { returned = refl; written = refl }

pub wrote-append : {ws ws' ws'' : List ℕ} {n e e' e'' : ℕ} (xs ys : List Edge) → Wrote ws n e xs e' ws' →
    Wrote ws' n e' ys e'' ws'' → Wrote ws n e (xs ++ ys) e'' ws''
wrote-append {ws} {n = n} {e = e} xs ys a b =
    record {
      returned = rw (past-append e xs ys, ← a.returned) b.returned;
      written = rw (with_append ws n e xs ys, ← a.returned, ← a.written) b.written;
    }

module _ (t : List ℕ) (N : Numbers) (s : Site) (wait : Wait) where
  -- one value
  pub value_none : (kind arg below r e v : ℕ) (ws : List ℕ) → v ≡ code_at N r → below ≤ v →
      Wrote ws s.n e (value_edge t N s wait kind arg below r) e ws
  unfolding value_edge
  value_none kind arg below r e v ws c h =
      rw (le-leb below (code_at N r) (omega (arith, c))) (wrote_none ws s.n e)

  pub value-some : (kind arg below r e v e' letter target : ℕ) (ws ws' : List ℕ) → v ≡ code_at N r → v < below →
      letter ≡ letter_of N (record { kind = kind; id = wait.id; arg = arg; value = v }) →
      target ≡ target_of s (sheet_at t N s.root wait.state
      (record { kind = kind; id = wait.id; arg = arg; value = v })) →
      ws' ≡ with_edge ws s.n e letter target → e' ≡ sum_of e 1 →
      Wrote ws s.n e (value_edge t N s wait kind arg below r) e' ws'
  unfolding value_edge edge_by past with_edges
  value-some kind arg below r e v e' letter target ws ws' c h l g w x =
      rw (lt-leb below (code_at N r) (omega (arith, c)), ← c, ← l, ← g) (record { returned = x; written = w })

  -- a turn of the loop over values, and the loop over kinds and arguments
  pub block_none : (kind arg e l : ℕ) (ws : List ℕ) → l ≡ limit_of t wait kind arg → l ≡ 0 →
      Wrote ws s.n e (block_edges t N s wait kind arg) e ws
  unfolding block_edges
  block_none kind arg e l ws c z = rw (eq-eqb (limit_of t wait kind arg) 0 (sym c ∙ z)) (wrote_none ws s.n e)

  pub values-first : (kind arg below e : ℕ) (ws : List ℕ) → Wrote ws s.n e (value_edges t N s wait kind arg below 0)
      e ws
  unfolding value_edges
  values-first kind arg below e ws = wrote_none ws s.n e

  pub values-again : (kind arg below e r e' e'' : ℕ) (ws ws' ws'' : List ℕ) →
      Wrote ws s.n e (value_edges t N s wait kind arg below r) e' ws' →
      Wrote ws' s.n e' (value_edge t N s wait kind arg below r) e'' ws'' →
      Wrote ws s.n e (value_edges t N s wait kind arg below (r + 1)) e'' ws''
  unfolding value_edges
  values-again kind arg below e r e' e'' ws ws' ws'' a b = rw (add-one) (wrote-append _ _ a b)

  pub block-some : (kind arg e e' l r : ℕ) (ws ws' : List ℕ) → l ≡ limit_of t wait kind arg → (l ≡ 0 → ⊥) →
      r ≡ numbers N → Wrote ws s.n e (value_edges t N s wait kind arg l r) e' ws' →
      Wrote ws s.n e (block_edges t N s wait kind arg) e' ws'
  unfolding block_edges
  block-some kind arg e e' l r ws ws' c z q a =
      rw (ne_eqb (limit_of t wait kind arg) 0 (λ h. z (c ∙ h)), ← c, ← q) a

  pub heard-first : (e : ℕ) (ws : List ℕ) → Wrote ws s.n e (heard_edges t N s wait 0) e ws
  unfolding heard_edges
  heard-first e ws = wrote_none ws s.n e

  pub heard-again : (e b e' e'' : ℕ) (ws ws' ws'' : List ℕ) → Wrote ws s.n e (heard_edges t N s wait b) e' ws' →
      Wrote ws' s.n e' (block_edges t N s wait (b / 5) (b % 5)) e'' ws'' →
      Wrote ws s.n e (heard_edges t N s wait (b + 1)) e'' ws''
  unfolding heard_edges
  heard-again e b e' e'' ws ws' ws'' a c = rw (add-one) (wrote-append _ _ a c)

-- a head, an edge and edges, by what the calls before them give
pub head_of : (ws ws' : List ℕ) (n o k p e silent : ℕ) (s : Site) (d : Out) → silent ≡ silent_of s d → p ≡ sum_of o k →
    ws' ≡ with_head ws n p e silent → ws' ≡ with_head ws n (sum_of o k) e (silent_of s d)
head_of ws ws' n o k p e silent s d h q w = rw (← h, ← q) w

pub edge_of : (ws ws' : List ℕ) (N : Numbers) (n e o next letter target : ℕ) (m : Move) → letter ≡ letter_of N m →
    target ≡ sum_of o next → ws' ≡ with_edge ws n e letter target → ws' ≡ with_edge ws n e (letter_of N m) (sum_of o next)
edge_of ws ws' N n e o next letter target m l g w = rw (← l, ← g) w

pub wrote_by : (t : List ℕ) (N : Numbers) (s : Site) (wait : Wait) (k at kind value count e e' : ℕ) (ws ws' : List ℕ) →
    wait ≡ wait_of t k at kind value count → e' ≡ past e (heard_edges t N s wait 35) →
    ws' ≡ with_edges ws s.n e (heard_edges t N s wait 35) →
    Wrote ws s.n e (heard_edges t N s (wait_of t k at kind value count) 35) e' ws'
wrote_by t N s wait k at kind value count e e' ws ws' h f w = rw (← h) (record { returned = f; written = w })

module _ (t : List ℕ) (N : Numbers) (s : Site) where
  -- one state: silent, saying a move, waiting
  unfoldable pub WroteRow : List ℕ → ℕ → ℕ → ℕ → List ℕ → Type 0
  WroteRow ws k e e' ws' = (e' ≡ past e (row_of t N s k).edges) × (ws' ≡ with_row ws s.n s.o k e (row_of t N s k))

  abbrev none : Move
  none = record { kind = 255; id = 0; arg = 0; value = 0 }

  row_as : (k e e' : ℕ) (o : Out) (ws ws₁ ws' : List ℕ) → o ≡ sheet_at t N s.root k none →
      ws₁ ≡ with_head ws s.n (sum_of s.o k) e (silent_of s o) → Wrote ws₁ s.n e (edges_of t N s k o) e' ws' →
      WroteRow ws k e e' ws'
  unfolding WroteRow row_of row_for with_row
  row_as k e e' o ws ws₁ ws' c h w = rw (← c, ← h) (w.returned, w.written)

  pub row-silent : (k e : ℕ) (o : Out) (ws ws₁ : List ℕ) → o ≡ sheet_at t N s.root k none →
      ws₁ ≡ with_head ws s.n (sum_of s.o k) e (silent_of s o) → edges_of t N s k o ≡ [] → WroteRow ws k e e ws₁
  row-silent k e o ws ws₁ c h z = row_as k e e o ws ws₁ ws₁ c h (rw z (wrote_none ws₁ s.n e))

  pub row-say : (k e e' next : ℕ) (said : Move) (o : Out) (ws ws₁ ws' : List ℕ) → o ≡ sheet_at t N s.root k none →
      ws₁ ≡ with_head ws s.n (sum_of s.o k) e (silent_of s o) → o ≡ Say said next →
      ws' ≡ with_edge ws₁ s.n e (letter_of N said) (sum_of s.o next) → e' ≡ sum_of e 1 → WroteRow ws k e e' ws'
  unfolding edges_of past with_edges
  row-say k e e' next said o ws ws₁ ws' c h z w f =
      row_as k e e' o ws ws₁ ws' c h (rw z (record { returned = f; written = w }))

  pub row-hear : (k e e' at kind value count : ℕ) (o : Out) (ws ws₁ ws' : List ℕ) → o ≡ sheet_at t N s.root k none →
      ws₁ ≡ with_head ws s.n (sum_of s.o k) e (silent_of s o) → o ≡ Hear at kind value count →
      Wrote ws₁ s.n e (heard_edges t N s (wait_of t k at kind value count) 35) e' ws' → WroteRow ws k e e' ws'
  unfolding edges_of
  row-hear k e e' at kind value count o ws ws₁ ws' c h z w = row_as k e e' o ws ws₁ ws' c h (rw z w)

-- the states below k are written
pub record Filled (row : ℕ → StateRow) (n o e : ℕ) (ws : List ℕ) (k e' : ℕ) (ws' : List ℕ) : Type 0 where
  pub returned : e' ≡ before e row k
  pub written : ws' ≡ with_rows ws n o e row k

pub filled-first : (row : ℕ → StateRow) (n o e : ℕ) (ws : List ℕ) → Filled row n o e ws 0 e ws
unfolding before with_rows
filled-first row n o e ws = record { returned = refl; written = refl }

pub filled-again : {row : ℕ → StateRow} {n o e k e' e'' : ℕ} {ws ws' ws'' : List ℕ} → Filled row n o e ws k e' ws' →
    e'' ≡ past e' (row k).edges → ws'' ≡ with_row ws' n o k e' (row k) → Filled row n o e ws (k + 1) e'' ws''
unfolding before with_rows
filled-again {k = k} F f w =
    rw (add-one) (record { returned = rw (← F.returned) f; written = rw (← F.returned, ← F.written) w })

-- with the end
pub filled-last : (t : List ℕ) (N : Numbers) (s : Site) (e k e' all p : ℕ) (ws ws' ws'' : List ℕ) →
    Filled (row_of t N s) s.n s.o e ws k e' ws' → k ≡ all → all ≡ spots_of t s.root → p ≡ sum_of s.o all →
    ws'' ≡ with_head ws' s.n p e' 0 → (e' ≡ edges_after t N s e) × (ws'' ≡ filled_of t N s ws e)
unfolding edges_after filled_of with_row with_edges
filled-last t N s e k e' all p ws ws' ws'' F z a q w =
    rw (← a, ← z, ← F.returned, ← F.written) (refl, rw (z, ← q) w)
