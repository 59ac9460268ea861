-- The edges by values that one frame leads on are those of the values with which the name answers.
use mathlib.Core.Path.{◌≡◌, refl}
use mathlib.Core.List.{List}
use Prim.Native.Nat.{ℕ, zero, suc, ◌≤◌, ◌<◌}
use native.Mathlib.Omega.{arith}
use native.Mathlib.Decide.{dec_lt, ℕ_discrete}
use borrow.Author.Tests.{le-leb, lt-leb}
use Rattle.language.specs.declared.Numbers.{Numbers}
use Rattle.language.specs.Number.{numbers}
use Rattle.language.specs.Order.{code_at}
use Rattle.sheet_rows.specs.Row.{word}
use Rattle.states_positions.specs.declared.Out.TheVariants.{Exit}
use Rattle.states_step.specs.walk.Shows.{Words}
use Rattle.states_path.specs.declared.Site.{Site}
use Rattle.states_path.specs.States.{target_of}
use Rattle.states_path.specs.Path.{rise_all}
use Rattle.states_path.specs.Levels.{frames_of}
use Rattle.states_words.specs.declared.Wait.{Wait}
use Rattle.states_words.specs.inner.Waiting.{Listening, Calling, Answering}
use Rattle.states_words.specs.inner.Moves.{place_of, letter_of, answer_kind, limit_of, edge_by, value_edge, value_edges}
use Rattle.states_words.specs.inner.Moves.{block_edges, edge_to, values_to}
use Rattle.states_words.proofs.Heard.{limit-one}
use Rattle.states_words.proofs.HeardAnswers.{limit-own, other-kind, own-small, answering}
use Rattle.states_words.proofs.Loops.{Wrote, block-some}

-- values that lead where the answers of the name lead have the edges of these
module _ (t : List ℕ) (N : Numbers) (s : Site) (p : List ℕ) (c : ℕ) (wait : Wait) (place below : ℕ) (to : ℕ → ℕ)
    (answers : Answering t N s p c wait 5 below) (at : place ≡ place_of 5 wait.id 0)
    (led : (r : ℕ) → r < numbers N → code_at N r < below →
    to (code_at N r) ≡ target_of s (rise_all N (frames_of p c) (Exit 5 (code_at N r) 0 0))) where
  edge_to_lem : (r : ℕ) → r < numbers N → edge_to N place below to r ≡ value_edge t N s wait 5 0 below r
  unfolding edge_to value_edge edge_by letter_of
  edge_to_lem r h = cases (dec_lt (code_at N r) below)
    where
      cases : Dec (code_at N r < below) → edge_to N place below to r ≡ value_edge t N s wait 5 0 below r
      cases (yes l) = rw (lt-leb below (code_at N r) l, at, led r h l, answers.exits (code_at N r) l)
      cases (no l) = rw (le-leb below (code_at N r) (omega arith))

  values-to : (r : ℕ) → r ≤ numbers N → values_to N place below to r ≡ value_edges t N s wait 5 0 below r
  unfolding values_to value_edges
  values-to zero h = refl
  values-to (suc r) h =
      let rest = values-to r (omega arith) in
      rw (rest, edge_to_lem r h)

  pub values-led : (e e' : ℕ) (ws ws' : List ℕ) → Wrote ws s.n e (values_to N place below to (numbers N)) e' ws' →
      Wrote ws s.n e (value_edges t N s wait 5 0 below (numbers N)) e' ws'
  values-led e e' ws ws' a = rw (← values-to (numbers N) (omega arith)) a

-- only answers with values are more than one
module _ (t : List ℕ) (N : Numbers) (s : Site) (wait : Wait) (kind below : ℕ) (calls : Calling wait)
    (limit : below ≡ limit_of t wait kind 0) (some : below ≡ 0 → ⊥) (more : below ≡ 1 → ⊥) where
  value-kind : kind ≡ 5
  value-kind = cases (dec_lt kind 5) (ℕ_discrete kind own)
    where
      own : ℕ
      own = answer_kind (word t wait.at 2) wait.kind

      many : 1 < below
      many = omega (arith, some, more)

      cases : Dec (kind < 5) → Dec (kind ≡ own) → kind ≡ 5
      cases (yes l) d = absurd (omega (arith, many, limit-one t wait kind 0 l))
      cases (no l) (yes d) = omega (arith, own-small _ _ kind d)
      cases (no l) (no d) = absurd (omega (
        arith,
        many,
        limit-own t wait calls kind,
        other-kind (word t wait.at 2) (word t wait.at 3) wait.kind wait.value kind d,
      ))

  pub answering-values : (p : List ℕ) (c : ℕ) → Words t → Listening t N s.root p c wait →
      Answering t N s p c wait 5 below
  answering-values p c small L =
      let a : Answering t N s p c wait kind below = answering t wait calls N s p c kind below small L limit in
      rw value-kind at a

  pub block-values : (e e' : ℕ) (ws ws' : List ℕ) →
      Wrote ws s.n e (value_edges t N s wait 5 0 below (numbers N)) e' ws' →
      Wrote ws s.n e (block_edges t N s wait kind 0) e' ws'
  block-values e e' ws ws' a =
      block-some t N s wait kind 0 e e' below (numbers N) ws ws' limit some refl (rw value-kind a)
