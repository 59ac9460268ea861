-- What marking the live states keeps. Assumes nothing.
use mathlib.Core.List.{List}
use mathlib.Core.Logic.{◌≢◌}
use mathlib.Core.Path.{◌∙◌, ◌≡◌, ap, refl, sym}
use Prim.Native.Nat.{◌%◌, ◌*◌, ◌+◌, ◌/◌, ◌<◌, ◌≤◌, suc, zero, ℕ}
use native.Mathlib.Decide.{ℕ_discrete}
use native.Mathlib.Omega.{arith}
use lib.ListN.{get_or, length, length-set, set}
use lib.Seq.{get_or-set_other, get_or-set_same}
use borrow.Author.Tests.{eq-eqb, ne_eqb}
use Rattle.dfa.specs.Live.{Live}
use Rattle.dfa.specs.Frame.{SameFrom}
use Rattle.dfa_live.specs.inner.Links.{head_at}
use Rattle.dfa_live.specs.inner.Marking.{Queued, entry_at, mark_at, noted, tail_after}
use Rattle.dfa_live.proofs.laws.Links.{packed-next, packed-source}
use Rattle.dfa_live.proofs.laws.Sums.{sum_less, sum_more}

-- the state p is noted: it is marked, and what was marked and queued still is
pub record Notes (G : List ℕ) (n f : ℕ) (ws ws' : List ℕ) (tail tail' p : ℕ) : Type 0 where
  pub queued : Queued G n f ws' tail'
  pub marked : mark_at n ws' p ≡ 1
  pub grows : tail ≤ tail'
  pub marks : (x : ℕ) → x < n → mark_at n ws x ≡ 1 → mark_at n ws' x ≡ 1
  pub entries : (k : ℕ) → k < tail → entry_at n ws' k ≡ entry_at n ws k
  pub len : length ws' ≡ length ws
  pub heads : (t : ℕ) → t < n → head_at ws' t ≡ head_at ws t
  pub high : SameFrom (2 * n) ws ws'

module _ (G : List ℕ) (n f : ℕ) (ws : List ℕ) (tail p : ℕ) (Q : Queued G n f ws tail) (room : 2 * n ≤ length ws)
    (few : n ≤ 16384) (h : p < n) (l : Live G n f p) where
  -- it is marked already
  note-old : mark_at n ws p ≡ 1 → Notes G n f ws ws tail tail p
  note-old e = record {
    queued = Q;
    marked = e;
    grows = omega arith;
    marks = λ x a b. b;
    entries = λ k a. refl;
    len = refl;
    heads = λ t a. refl;
    high = λ i a. refl;
  }

  -- it is not
  module _ (e : mark_at n ws p ≢ 1) where
    was : mark_at n ws p ≡ 0
    was = by (mark_at n ws p) (Q.bits p h) e
      where
        by : (m : ℕ) → m ≤ 1 → m ≢ 1 → m ≡ 0
        by zero a b = refl
        by (suc zero) a b = absurd (b refl)
        by (suc (suc m)) a b = absurd (omega arith)

    fits : tail < n
    fits = omega (arith, sum_less ws n n p Q.bits h was, Q.count)

    abbrev ws' : List ℕ
    ws' = set (set ws (n + p) 1) tail (head_at (set ws (n + p) 1) tail * 16384 + p)

    other : (i : ℕ) → i ≢ tail → i ≢ n + p → get_or ws' i 0 ≡ get_or ws i 0
    other i a b = get_or-set_other (set ws (n + p) 1) tail i (head_at (set ws (n + p) 1) tail * 16384 + p) 0 a
        ∙ get_or-set_other ws (n + p) i 1 0 b

    this-mark : mark_at n ws' p ≡ 1
    this-mark =
        get_or-set_other (set ws (n + p) 1) tail (n + p) (head_at (set ws (n + p) 1) tail * 16384 + p) 0
        (λ q. omega (arith, fits))
        ∙ get_or-set_same ws (n + p) 1 0 (omega arith)

    other-mark : (x : ℕ) → x ≢ p → mark_at n ws' x ≡ mark_at n ws x
    other-mark x ne = other (n + x) (λ q. omega (arith, fits)) (λ q. ne (omega arith))

    -- the word of the new entry
    this-word : get_or ws' tail 0 ≡ head_at ws tail * 16384 + p
    this-word =
        get_or-set_same (set ws (n + p) 1) tail (head_at (set ws (n + p) 1) tail * 16384 + p) 0
        (rw length-set (omega (arith, fits)))
        ∙ ap (λ v. v / 16384 * 16384 + p) (get_or-set_other ws (n + p) tail 1 0 (λ q. omega (arith, fits)))

    this-entry : entry_at n ws' tail ≡ p
    this-entry = rw this-word (packed-source (head_at ws tail) p (omega arith))

    other-entry : (k : ℕ) → k < tail → entry_at n ws' k ≡ entry_at n ws k
    other-entry k a = ap (λ v. v % 16384) (other k (λ q. omega arith) (λ q. omega (arith, fits)))

    -- the lists begin as before
    heads-stay : (t : ℕ) → t < n → head_at ws' t ≡ head_at ws t
    heads-stay t a = go (ℕ_discrete t tail)
      where
        go : Dec (t ≡ tail) → head_at ws' t ≡ head_at ws t
        go (yes q) = rw (q, this-word) (packed-next (head_at ws tail) p (omega arith))
        go (no q) = ap (λ v. v / 16384) (other t q (λ w. omega arith))

    marks_stay : (x : ℕ) → x < n → mark_at n ws x ≡ 1 → mark_at n ws' x ≡ 1
    marks_stay x a b = other-mark x (λ q. omega (arith, ap (mark_at n ws) q, was)) ∙ b

    -- what holds of the new entry and of the others
    each-entry : (P : ℕ → Type 0) → P tail → ((k : ℕ) → k < tail → P k) → (k : ℕ) → k < tail + 1 → P k
    each-entry P new old k a = go (ℕ_discrete k tail)
      where
        go : Dec (k ≡ tail) → P k
        go (yes q) = rw q new
        go (no q) = old k (omega arith)

    -- what holds of p and of the other states
    each-state : (P : ℕ → Type 0) → P p → ((x : ℕ) → x ≢ p → P x) → (x : ℕ) → P x
    each-state P new old x = go (ℕ_discrete x p)
      where
        go : Dec (x ≡ p) → P x
        go (yes q) = rw q new
        go (no q) = old x q

    note-new : Notes G n f ws ws' tail (tail + 1) p
    note-new = record {
      queued = record {
        bits = each-state (λ x. x < n → mark_at n ws' x ≤ 1) (λ a. omega (arith, this-mark))
            (λ x q a. rw (other-mark x q) (Q.bits x a));
        count = sum_more ws ws' n n p h was this-mark (λ x a q. other-mark x q) ∙ ap (λ k. k + 1) Q.count;
        states = each-entry (λ k. entry_at n ws' k < n) (rw this-entry h)
            (λ k a. rw (other-entry k a) (Q.states k a));
        marked = each-entry (λ k. mark_at n ws' (entry_at n ws' k) ≡ 1) (rw this-entry this-mark)
            (λ k a. rw (other-entry k a) (marks_stay (entry_at n ws k) (Q.states k a) (Q.marked k a)));
        place = each-state (λ x. x < n → mark_at n ws' x ≡ 1 → (k : ℕ) × ((k < tail + 1) × (entry_at n ws' k ≡ x)))
            (λ a b. (tail, (omega arith, this-entry)))
            (λ x q a b. let z = Q.place x a (sym (other-mark x q) ∙ b) in
            (z.0, (omega (arith, z.1.0), other-entry z.0 z.1.0 ∙ z.1.1)));
        live = each-state (λ x. x < n → mark_at n ws' x ≡ 1 → Live G n f x) (λ a b. l)
            (λ x q a b. Q.live x a (sym (other-mark x q) ∙ b));
      };
      marked = this-mark;
      grows = omega arith;
      marks = marks_stay;
      entries = other-entry;
      len = length-set (set ws (n + p) 1) tail (head_at (set ws (n + p) 1) tail * 16384 + p) ∙ length-set ws (n + p) 1;
      heads = heads-stay;
      high = λ i a. other i (λ q. omega (arith, fits)) (λ q. omega arith);
    }

  -- THEOREM: noting a live state marks it
  pub note-notes : (ws' : List ℕ) (tail' : ℕ) → ws' ≡ noted ws n tail p → tail' ≡ tail_after ws n tail p
      → Notes G n f ws ws' tail tail' p
  note-notes v r ev er = go (ℕ_discrete (mark_at n ws p) 1)
    where
      go : Dec (mark_at n ws p ≡ 1) → Notes G n f ws v tail r p
      go (yes e) = rw (ev, er, eq-eqb (mark_at n ws p) 1 e) (note-old e)
      go (no e) = rw (ev, er, ne_eqb (mark_at n ws p) 1 e) (note-new e)
