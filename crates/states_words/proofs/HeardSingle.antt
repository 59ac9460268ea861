-- The values below 1 are one edge: the value 0 stands at one place.
use mathlib.Core.Path.{◌≡◌, refl, sym, ◌∙◌}
use mathlib.Core.List.{List, [], ◌∷◌, ◌++◌}
use Prim.Native.Nat.{ℕ, zero, suc, ◌+◌, ◌-◌, ◌*◌, ◌≤◌, ◌<◌}
use native.Mathlib.Omega.{arith}
use native.Mathlib.Decide.{dec_lt, ℕ_discrete}
use borrow.Author.Tests.{lt-ltb, le-ltb, le-leb, eq-eqb, ne_eqb}
use Rattle.language.specs.declared.Numbers.{Numbers}
use Rattle.language.specs.Number.{finites, numbers}
use Rattle.language.specs.Order.{first_number, code_at}
use Rattle.language.proofs.NumberLaws.{numbers-above}
use Rattle.language.proofs.OrderLaws.{code-at-each, zero-at}
use Rattle.states_positions.specs.Row.{sum_of}
use Rattle.states_path.specs.declared.Site.{Site}
use Rattle.states_path.specs.States.{sheet_at, target_of}
use Rattle.states_words.specs.declared.Wait.{Wait}
use Rattle.states_words.specs.inner.Rows.{Edge, with_edge, with_edges, past}
use Rattle.states_words.specs.inner.Moves.{letter_of, zero_place, first_place, end_place}
use Rattle.states_words.specs.inner.Moves.{edge_by, value_edge, value_edges}
use Rattle.states_words.proofs.Loops.{Wrote, wrote_none}

module _ (N : Numbers) where
  -- the place of the value 0
  is_zero : code_at N (zero_place N) ≡ 0
  unfolding code_at zero_place finites
  is_zero =
      let d : first_number N + N.z - first_number N ≡ N.z = omega arith in
      rw (
        le-ltb (first_number N + N.z) (first_number N) (omega arith),
        d,
        le-ltb N.z N.z (omega arith),
        lt-ltb N.z (2 * N.z + 1) (omega arith),
      ) (omega arith)

  zero-place : (r : ℕ) → code_at N r < 1 → r ≡ zero_place N
  zero-place r h = zero-at N r h ∙ sym (zero-at N (zero_place N) (omega (arith, is_zero)))

  zero-code : (code_at N (zero_place N) ≡ 0) × (zero_place N < numbers N)
  zero-code =
      let p = code-at-each N 0 (numbers-above N) in
      (is_zero, omega (arith, zero-place p.0 (omega (arith, p.2)), p.1))

  -- the first place is not after the end
  first-before-end : (below : ℕ) → first_place N below ≤ end_place N below
  unfolding first_place end_place
  first-before-end below = go (ℕ_discrete below 1)
    where
      go : Dec (below ≡ 1) → first_place N below ≤ end_place N below
      go (yes e) = rw (eq-eqb below 1 e) (omega arith)
      go (no n) = rw (ne_eqb below 1 n) (omega arith)

  pub places-within : (below r end : ℕ) → r ≡ first_place N below → end ≡ end_place N below → r ≤ end
  places-within below r end f e = omega (arith, first-before-end below)

module _ (t : List ℕ) (N : Numbers) (s : Site) (wait : Wait) (kind arg : ℕ) where
  -- the edge by the value 0
  single : Edge
  single = edge_by t N s wait.state (record { kind = kind; id = wait.id; arg = arg; value = 0 })

  -- the place of the value 0 has that edge, and every other none
  at_zero : (r : ℕ) → r ≡ zero_place N → value_edge t N s wait kind arg 1 r ≡ single ∷ []
  unfolding value_edge single
  at_zero r e = rw (e, (zero-code N).0)

  off_zero : (r : ℕ) → (r ≡ zero_place N → ⊥) → value_edge t N s wait kind arg 1 r ≡ []
  unfolding value_edge
  off_zero r n = cases (dec_lt (code_at N r) 1)
    where
      cases : Dec (code_at N r < 1) → value_edge t N s wait kind arg 1 r ≡ []
      cases (yes l) = absurd (n (zero-place N r l))
      cases (no l) = rw (le-leb 1 (code_at N r) (omega arith))

  up_to_zero : (r : ℕ) → r ≤ zero_place N → value_edges t N s wait kind arg 1 r ≡ []
  unfolding value_edges
  up_to_zero zero l = refl
  up_to_zero (suc r) l =
      let h = up_to_zero r (omega arith) in
      rw (h, off_zero r (λ e. omega arith))

  past-zero : (r : ℕ) → zero_place N < r → value_edges t N s wait kind arg 1 r ≡ single ∷ []
  unfolding value_edges
  past-zero zero l = absurd (omega arith)
  past-zero (suc r) l = cases (λ x. past-zero r x) (dec_lt (zero_place N) r)
    where
      cases : (zero_place N < r → value_edges t N s wait kind arg 1 r ≡ single ∷ []) → Dec (zero_place N < r) →
          value_edges t N s wait kind arg 1 r ++ value_edge t N s wait kind arg 1 r ≡ single ∷ []
      cases rec (yes x) = rw (rec x, off_zero r (λ e. omega arith))
      cases rec (no x) = rw (up_to_zero r (omega arith), at_zero r (omega arith))

  -- THEOREM: of the values below 1 there is one edge
  pub single-wrote : (e e' letter target : ℕ) (ws ws' : List ℕ) →
      letter ≡ letter_of N (record { kind = kind; id = wait.id; arg = arg; value = 0 }) →
      target ≡ target_of s (sheet_at t N s.root wait.state
      (record { kind = kind; id = wait.id; arg = arg; value = 0 })) →
      ws' ≡ with_edge ws s.n e letter target → e' ≡ sum_of e 1 →
      Wrote ws s.n e (value_edges t N s wait kind arg 1 (numbers N)) e' ws'
  unfolding single edge_by past with_edges
  single-wrote e e' letter target ws ws' l g w x =
      rw (past-zero (numbers N) (zero-code N).1, ← l, ← g) (record { returned = x; written = w })

  -- no value below a limit comes before the first place, and none from the end on
  none_before : (below : ℕ) → value_edges t N s wait kind arg below (first_place N below) ≡ []
  unfolding first_place value_edges
  none_before below = go (ℕ_discrete below 1)
    where
      go : Dec (below ≡ 1) → value_edges t N s wait kind arg below (first_place N below) ≡ []
      go (yes e) = rw (eq-eqb below 1 e, e) (up_to_zero (zero_place N) (omega arith))
      go (no n) = rw (ne_eqb below 1 n) refl

  none_after : (below : ℕ) →
      value_edges t N s wait kind arg below (end_place N below) ≡ value_edges t N s wait kind arg below (numbers N)
  unfolding end_place
  none_after below = go (ℕ_discrete below 1)
    where
      go : Dec (below ≡ 1) →
          value_edges t N s wait kind arg below (end_place N below) ≡ value_edges t N s wait kind arg below (numbers N)
      go (yes e) =
          rw (eq-eqb below 1 e, e) (past-zero (zero_place N + 1) (omega arith) ∙
          sym (past-zero (numbers N) (zero-code N).1))
      go (no n) = rw (ne_eqb below 1 n) refl

  pub values-from : (below r e : ℕ) (ws : List ℕ) → r ≡ first_place N below →
      Wrote ws s.n e (value_edges t N s wait kind arg below r) e ws
  values-from below r e ws h = rw (h, none_before below) (wrote_none ws s.n e)

  pub values-to : (below r end e e' : ℕ) (ws ws' : List ℕ) → end ≡ end_place N below → r ≤ end → end ≤ r →
      Wrote ws s.n e (value_edges t N s wait kind arg below r) e' ws' →
      Wrote ws s.n e (value_edges t N s wait kind arg below (numbers N)) e' ws'
  values-to below r end e e' ws ws' h l g w =
      let q : r ≡ end_place N below = omega arith in
      rw (← none_after below, ← q) w
