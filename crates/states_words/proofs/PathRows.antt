-- The row of a state at which the path has arrived.
use mathlib.Core.Path.{◌≡◌, refl, sym, ◌∙◌, ap}
use mathlib.Core.List.{List, []}
use Prim.Native.Nat.{ℕ, ◌-◌}
use Rattle.language.specs.declared.Numbers.{Numbers}
use Rattle.states_positions.specs.declared.Move.{Move}
use Rattle.states_positions.specs.declared.Frame.{Frame}
use Rattle.states_positions.specs.declared.Out.{Out}
use Rattle.states_positions.specs.declared.Out.TheVariants.{Go, Exit, Say, Hear, Stuck}
use Rattle.states_positions.specs.Row.{sum_of}
use Rattle.states_path.specs.declared.Site.{Site}
use Rattle.states_words.specs.declared.Wait.{Wait}
use Rattle.states_path.specs.Path.{rise_all, Owned}
use Rattle.states_path.specs.Levels.{frames_of}
use Rattle.states_path.specs.Kept.{Arrived}
use Rattle.states_words.specs.inner.Rows.{with_edge, with_edges, past, with_head}
use Rattle.states_words.specs.inner.Moves.{letter_of, wait_of, visible_of, silent_of, edges_of, heard_edges}
use Rattle.states_path.specs.States.{target_of}
use Rattle.states_path.proofs.PathRise.{Quiet, q-go, q-exit, q-stuck, quiet_all}
use Rattle.states_path.proofs.PathLead.{rise-say, rise-hear, rise-stuck}
use Rattle.states_path.proofs.PathSays.{frames-owned}
use Rattle.states_words.proofs.Loops.{WroteRow, row-silent, row-say, row-hear, head_of, edge_of, wrote_by}

-- a silent step, an exit and none make no move
quiet-silent : (s : Site) (o : Out) → Quiet o → silent_of s o ≡ sum_of (target_of s o) 1
unfolding silent_of visible_of
quiet-silent s o (q-go next l u) = refl
quiet-silent s o (q-exit k x l u) = refl
quiet-silent s o q-stuck = refl

quiet-edges : (t : List ℕ) (N : Numbers) (s : Site) (k : ℕ) (o : Out) → Quiet o → edges_of t N s k o ≡ []
unfolding edges_of
quiet-edges t N s k o (q-go next l u) = refl
quiet-edges t N s k o (q-exit i x l u) = refl
quiet-edges t N s k o q-stuck = refl

pub is-go : {o : Out} {next l u : ℕ} → o ≡ Go next l u → Quiet o
is-go {next = next} {l = l} {u = u} e = rw e (q-go next l u)

pub is-exit : {o : Out} {k x l u : ℕ} → o ≡ Exit k x l u → Quiet o
is-exit {k = k} {x = x} {l = l} {u = u} e = rw e (q-exit k x l u)

pub is_stuck : {o : Out} → o ≡ Stuck → Quiet o
is_stuck e = rw e q-stuck

-- the silent word
module _ (N : Numbers) (s : Site) (fs : List Frame) (o : Out) where
  pub silent-quiet : (d r : ℕ) → Quiet o → d ≡ target_of s (rise_all N fs o) → r ≡ sum_of d 1 →
      r ≡ silent_of s (rise_all N fs o)
  silent-quiet d r q e h =
      h ∙ ap (λ (y : ℕ). sum_of y 1) e ∙ sym (quiet-silent s (rise_all N fs o) (quiet_all N fs o q))

  pub silent-stuck : (d r : ℕ) → o ≡ Stuck → d ≡ s.n - 1 → r ≡ sum_of d 1 → r ≡ silent_of s (rise_all N fs o)
  unfolding target_of
  silent-stuck d r e g h = silent-quiet d r (is_stuck e) (rw (e, rise-stuck N fs) g) h

  pub silent-say : {m : Move} {next : ℕ} → Owned fs → o ≡ Say m next → 0 ≡ silent_of s (rise_all N fs o)
  unfolding silent_of visible_of
  silent-say {m = m} {next = next} w e = rw (e, (rise-say N fs m next w).1)

  pub silent-hear : {at q x n : ℕ} → o ≡ Hear at q x n → 0 ≡ silent_of s (rise_all N fs o)
  unfolding silent_of visible_of
  silent-hear {at = at} {q = q} {x = x} {n = n} e = rw (e, rise-hear N fs at q x n)

-- the row
module _ (t : List ℕ) (N : Numbers) (s : Site) (p : List ℕ) (c k e : ℕ) (out : Out) (A : Arrived t s.root p c k out)
    (ws ws₁ : List ℕ) (silent at : ℕ) (hs : silent ≡ silent_of s (rise_all N (frames_of p c) out))
    (ha : at ≡ sum_of s.o k) (hw : ws₁ ≡ with_head ws s.n at e silent) where
  abbrev did : Out
  did = rise_all N (frames_of p c) out

  head : ws₁ ≡ with_head ws s.n (sum_of s.o k) e (silent_of s did)
  head = head_of ws ws₁ s.n s.o k at e silent s did hs ha hw

  pub row-quiet : Quiet out → WroteRow t N s ws k e e ws₁
  row-quiet q =
      row-silent t N s k e did ws ws₁ (sym (A.at.does N)) head
      (quiet-edges t N s k did (quiet_all N (frames_of p c) out q))

  pub row-says : (m : Move) (next letter to e' : ℕ) (ws' : List ℕ) → out ≡ Say m next → letter ≡ letter_of N m →
      to ≡ target_of s (rise_all N (frames_of p c) (Go next 0 0)) → ws' ≡ with_edge ws₁ s.n e letter to → e' ≡ sum_of e 1 →
      WroteRow t N s ws k e e' ws'
  unfolding target_of
  row-says m next letter to e' ws' eo el et ew ee =
      let r = rise-say N (frames_of p c) m next (frames-owned p c A.kept.sound) in
      let g : to ≡ sum_of s.o r.0 = et ∙ ap (λ (y : Out). target_of s y) r.2 in
      row-say t N s k e e' r.0 m did ws ws₁ ws' (sym (A.at.does N)) head
      (ap (λ (y : Out). rise_all N (frames_of p c) y) eo ∙ r.1)
      (edge_of ws₁ ws' N s.n e s.o r.0 letter to m el g ew) ee

  pub row-hears : (of q x n e' : ℕ) (wait : Wait) (ws' : List ℕ) → out ≡ Hear of q x n → wait ≡ wait_of t k of q x n →
      e' ≡ past e (heard_edges t N s wait 35) → ws' ≡ with_edges ws₁ s.n e (heard_edges t N s wait 35) →
      WroteRow t N s ws k e e' ws'
  row-hears of q x n e' wait ws' eo er ee ew =
      row-hear t N s k e e' of q x n did ws ws₁ ws' (sym (A.at.does N)) head
      (ap (λ (y : Out). rise_all N (frames_of p c) y) eo ∙ rise-hear N (frames_of p c) of q x n)
      (wrote_by t N s wait k of q x n e e' ws₁ ws' er ee ew)
