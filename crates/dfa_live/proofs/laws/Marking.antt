-- The loop that marks the live states. Assumes nothing.
use mathlib.Core.List.{List, [], ◌∷◌}
use mathlib.Core.Logic.{◌≢◌, ◌⊎◌, inl, inr}
use mathlib.Core.Path.{◌∙◌, ◌≡◌, ap, refl, sym}
use Prim.Native.Nat.{◌%◌, ◌*◌, ◌+◌, ◌-◌, ◌/◌, ◌<◌, ◌≤◌, ℕ}
use native.Mathlib.Decide.{dec_lt, ℕ_discrete}
use native.Mathlib.Omega.{arith}
use lib.ListN.{get_or, length}
use Rattle.dfa.specs.Graph.{EdgeOf, target, δ}
use Rattle.dfa.specs.Live.{Live, Single}
use Rattle.dfa_live.specs.Marks.{Marks}
use Rattle.dfa.specs.Reading.{walk}
use Rattle.dfa.specs.Frame.{SameFrom}
use Rattle.dfa_live.specs.inner.Links.{Held, Latest, Linked, head_at, link_of, link_place}
use Rattle.dfa_live.specs.inner.Marking.{Marking, Queued, Taken, Unmarked, entry_at, mark_at, noted, tail_after}
use Rattle.dfa.proofs.laws.Edges.{edge-from, edge-live, edge_to, live-walk, one-source, step-edge}
use Rattle.dfa_live.proofs.laws.Links.{held-above, linked-keep, place-room}
use Rattle.dfa.proofs.laws.Live.{dead-refuses, no_true}
use Rattle.dfa.proofs.laws.Look.{δ-lt}
use Rattle.dfa_live.proofs.laws.Marks.{Notes, note-notes}
use Rattle.dfa_live.proofs.laws.Sums.{sum-most, sum-none}

-- the accepting state is live
live_end : (G : List ℕ) (n f : ℕ) → Live G n f f
live_end G n f = (live-walk G n f f).1 ([], refl)

-- no state is marked and none is queued
queued-none : (G : List ℕ) (n f : ℕ) (ws : List ℕ) → ((p : ℕ) → p < n → mark_at n ws p ≡ 0) → Queued G n f ws 0
queued-none G n f ws z = record {
  bits = λ p h. omega (arith, z p h);
  count = sum-none ws n n z;
  states = λ k h. absurd (omega arith);
  marked = λ k h. absurd (omega arith);
  place = λ p h e. absurd (omega (arith, z p h));
  live = λ p h e. absurd (omega (arith, z p h));
}

-- what noting a state leaves of the loop
module _ (G : List ℕ) (n f : ℕ) (ws₀ ws ws' : List ℕ) (head tail tail' p : ℕ) (N : Notes G n f ws ws' tail tail' p)
    (held : Held G n ws) (linked : Linked G n ws (get_or G n 0)) (len : length ws ≡ length ws₀)
    (keep : SameFrom (2 * n) ws₀ ws) where
  noted-marking : (next : ℕ) → Taken G n ws' head tail' next → mark_at n ws' f ≡ 1
      → Marking G n f ws₀ ws' head tail' next
  noted-marking next T s = record {
    held = held-above G n ws ws' held N.len N.high;
    linked = linked-keep G n (get_or G n 0) ws ws' linked N.heads N.high;
    queued = N.queued;
    taken = T;
    start = s;
    len = N.len ∙ len;
    keep = λ i a. N.high i a ∙ keep i a;
  }

-- before the loop: the accepting state is noted
pub mark-first : (n f : ℕ) (ws ws' : List ℕ) (tail : ℕ) (U : Unmarked n f ws) → ws' ≡ noted ws n 0 f
    → tail ≡ tail_after ws n 0 f → Marking U.graph n f ws ws' 0 tail 0
mark-first n f ws ws' tail U e t =
    let N = note-notes U.graph n f ws 0 f (queued-none U.graph n f ws U.none) (omega (arith, U.held.room))
    (omega (arith, U.held.graph.few)) U.end (live_end U.graph n f) ws' tail e t in
    noted-marking U.graph n f ws ws ws' 0 0 tail f N U.held U.linked refl (λ i a. refl) 0
    (record {
      within = omega arith;
      done = λ k h. absurd (omega arith);
      some = λ h. absurd (omega arith);
      above = λ h. absurd (omega arith);
      below = omega arith;
      leads = λ h. absurd (omega arith);
    })
    N.marked

-- the queue has room for every state
pub few-queued : (G : List ℕ) (n f : ℕ) (ws : List ℕ) (tail : ℕ) → Queued G n f ws tail → tail ≤ n
few-queued G n f ws tail Q = omega (arith, sum-most ws n n Q.bits, Q.count)

-- an entry is a state, and a list begins with an edge or is empty
pub entry-low : (G : List ℕ) (n f : ℕ) (ws₀ ws : List ℕ) (head tail next t k : ℕ) → Marking G n f ws₀ ws head tail next
    → k < tail → t ≡ entry_at n ws k → t < n
entry-low G n f ws₀ ws head tail next t k M h et = rw et (M.queued.states k h)

pub list_low : (G : List ℕ) (n f : ℕ) (ws₀ ws : List ℕ) (head tail next t v : ℕ) → Marking G n f ws₀ ws head tail next
    → t < n → v ≡ head_at ws t → v ≤ 200000
list_low G n f ws₀ ws head tail next t v M h e = omega (arith, (M.linked.heads t h).within, M.held.few)

-- an entry is taken, and its list begun
pub mark-take : (G : List ℕ) (n f : ℕ) (ws₀ ws : List ℕ) (head tail next t next' : ℕ)
    → Marking G n f ws₀ ws head tail next → next ≡ 0 → head < tail + next → t ≡ entry_at n ws head → next' ≡ head_at ws t
    → Marking G n f ws₀ ws (head + 1) tail next'
mark-take G n f ws₀ ws head tail next t next' M z h et en = record {
  held = M.held;
  linked = M.linked;
  queued = M.queued;
  start = M.start;
  len = M.len;
  keep = M.keep;
  taken = record {
    within = omega arith;
    done = λ k a p e E q r. done k a p e E q r (ℕ_discrete k head);
    some = λ a. omega arith;
    above = λ a. first.above a;
    below = first.within;
    leads = λ a. first.leads a ∙ et ∙ ap (entry_at n ws) {x = head} {y = head + 1 - 1} (omega arith);
  };
}
  where
    first : Latest G n t (get_or G n 0) next'
    first = rw en (M.linked.heads t (entry-low G n f ws₀ ws head tail next t head M (omega arith) et))

    done : (k : ℕ) → k < head + 1 → (p e : ℕ) → EdgeOf G n p e → target G n e ≡ entry_at n ws k
        → (k + 1 ≡ head + 1 → next' ≤ e) → Dec (k ≡ head) → mark_at n ws p ≡ 1
    done k a p e E q r (yes i) = absurd (first.later e (edge-from G n M.held.graph p e E) (r (omega arith))
        (edge_to G n M.held.graph p e E) (q ∙ ap (entry_at n ws) i ∙ sym et))
    done k a p e E q r (no i) = M.taken.done k (omega arith) p e E q (λ w. omega arith)

-- the word of an edge of the list, where the end of the edges is read from the words
module _ (G : List ℕ) (n f : ℕ) (ws₀ ws : List ℕ) (head tail next : ℕ) (M : Marking G n f ws₀ ws head tail next)
    (some : next ≢ 0) (at end : ℕ) (d : end ≡ get_or G n 0) (q : at ≡ link_place n end (next - 1)) where
  pub along-place : at ≡ link_place n (get_or G n 0) (next - 1)
  along-place = q ∙ ap (λ x. link_place n x (next - 1)) d

  pub along-room : at < length ws
  along-room = rw along-place (place-room n (get_or G n 0) (next - 1) (length ws) (omega (arith, M.taken.below))
      M.held.room M.held.link_room)

-- an edge of the list is gone along
module _ (G : List ℕ) (n f : ℕ) (ws₀ ws : List ℕ) (head tail next : ℕ) (M : Marking G n f ws₀ ws head tail next)
    (some : next ≢ 0) (at v : ℕ) (el : at ≡ link_place n (get_or G n 0) (next - 1)) (ev : v ≡ get_or ws at 0) where
  v-is : v ≡ link_of G n ws (next - 1)
  v-is = ev ∙ ap (λ i. get_or ws i 0) el

  from : get_or G 0 0 ≤ next - 1
  from = omega (arith, M.taken.above (omega arith))

  to : next - 1 < get_or G n 0
  to = omega (arith, M.taken.below)

  -- its source
  source : EdgeOf G n (v % 16384) (next - 1)
  source = rw v-is (M.linked.sources (next - 1) from to)

  pub source-low : v % 16384 < n
  source-low = source.below

  -- the next of the list
  after : Latest G n (target G n (next - 1)) (next - 1) (v / 16384)
  after = rw v-is (M.linked.nexts (next - 1) from to)

  pub after_less : v / 16384 < next
  after_less = omega (arith, after.within)

  head-some : 0 < head
  head-some = M.taken.some (omega arith)

  goal : target G n (next - 1) ≡ entry_at n ws (head - 1)
  goal = M.taken.leads (omega arith)

  source-live : Live G n f (v % 16384)
  source-live = edge-live G n M.held.graph f (v % 16384) (next - 1) source
      (rw goal (M.queued.live (entry_at n ws (head - 1)) (M.queued.states (head - 1) last)
      (M.queued.marked (head - 1) last)))
    where
      last : head - 1 < tail
      last = omega (arith, M.taken.within, head-some)

  module _ (ws' : List ℕ) (tail' : ℕ) (N : Notes G n f ws ws' tail tail' (v % 16384)) where
    entry : (k : ℕ) → k < head → entry_at n ws' k ≡ entry_at n ws k
    entry k a = N.entries k (omega (arith, M.taken.within))

    -- an edge to a taken state, if not left: an older one, this one, or none
    done : (k : ℕ) → k < head → (p e : ℕ) → EdgeOf G n p e → target G n e ≡ entry_at n ws' k
        → (k + 1 ≡ head → v / 16384 ≤ e) → Dec (k + 1 ≡ head) → Dec (next ≤ e) → Dec (e ≡ next - 1)
        → mark_at n ws' p ≡ 1
    done k a p e E q r (no i) d b = N.marks p E.below
        (M.taken.done k a p e E (q ∙ entry k a) (λ w. absurd (i w)))
    done k a p e E q r (yes i) (yes d) b = N.marks p E.below
        (M.taken.done k a p e E (q ∙ entry k a) (λ w. d))
    done k a p e E q r (yes i) (no d) (yes b) =
        rw (one-source G n M.held.graph p (v % 16384) e E (rw b source)) N.marked
    done k a p e E q r (yes i) (no d) (no b) = absurd (after.later e (edge-from G n M.held.graph p e E) (r i)
        (omega arith) (q ∙ entry k a ∙ ap (entry_at n ws) {x = k} {y = head - 1} (omega arith) ∙ sym goal))

    taken_next : Taken G n ws' head tail' (v / 16384)
    taken_next = record {
      within = omega (arith, M.taken.within, N.grows);
      done = λ k a p e E q r. done k a p e E q r (ℕ_discrete (k + 1) head) (dec_le next e) (ℕ_discrete e (next - 1));
      some = λ a. head-some;
      above = λ a. after.above a;
      below = omega (arith, after.within, to);
      leads = λ a. after.leads a ∙ goal ∙ sym (entry (head - 1) (omega (arith, head-some)));
    }
      where
        dec_le : (a b : ℕ) → Dec (a ≤ b)
        dec_le a b = go (dec_lt b a)
          where
            go : Dec (b < a) → Dec (a ≤ b)
            go (yes l) = no (λ w. omega arith)
            go (no l) = yes (omega arith)

  pub mark-along : (ws' : List ℕ) (tail' : ℕ) → ws' ≡ noted ws n tail (v % 16384)
      → tail' ≡ tail_after ws n tail (v % 16384) → f < n → Marking G n f ws₀ ws' head tail' (v / 16384)
  mark-along ws' tail' ew et lf =
      let N = note-notes G n f ws tail (v % 16384) M.queued (omega (arith, M.held.room))
      (omega (arith, M.held.graph.few)) source-low source-live ws' tail' ew et in
      noted-marking G n f ws₀ ws ws' head tail tail' (v % 16384) N M.held M.linked M.len M.keep (v / 16384)
      (taken_next ws' tail' N) (N.marks f lf M.start)

-- after the loop: a live state is marked
module _ (G : List ℕ) (n f : ℕ) (ws₀ ws : List ℕ) (head tail next : ℕ) (s : Single G n f)
    (M : Marking G n f ws₀ ws head tail next) (h : tail + next ≤ head) where
  -- the sources of the edges to a marked state
  closed : (p e : ℕ) → EdgeOf G n p e → mark_at n ws (target G n e) ≡ 1 → target G n e < n → mark_at n ws p ≡ 1
  closed p e E m l =
      let z = M.queued.place (target G n e) l m in
      M.taken.done z.0 (omega (arith, z.1.0)) p e E (sym z.1.1)
      (λ w. omega (arith, M.taken.within))

  -- the dead state is not live
  dead-out : Live G n f (n - 1) → ⊥
  dead-out l = no_true (sym (dead-refuses G n f s l.0) ∙ l.1)

  all-marked : (w : List ℕ) (p : ℕ) → p < n → walk (δ G n) p w ≡ f → mark_at n ws p ≡ 1
  all-marked [] p l e = rw e M.start
  all-marked (m ∷ w) p l e =
      let low = δ-lt G n p m s.graph l in
      let then = all-marked w (δ G n p m) low e in
      go low then ((live-walk G n f (δ G n p m)).1 (w, e)) (step-edge G n s.graph p m l)
    where
      go : δ G n p m < n → mark_at n ws (δ G n p m) ≡ 1 → Live G n f (δ G n p m)
          → (δ G n p m ≡ n - 1) ⊎ ((e : ℕ) × (EdgeOf G n p e × (δ G n p m ≡ target G n e))) → mark_at n ws p ≡ 1
      go low then live (inl d) = absurd (dead-out (rw d at live))
      go low then live (inr (e, (E, q))) = closed p e E (rw q at then) (rw q at low)

  -- THEOREM: exactly the live states are marked
  pub mark-last : Marks G n f ws × SameFrom (2 * n) ws₀ ws
  mark-last =
      ((λ p l. (M.queued.live p l, λ a. let w = (live-walk G n f p).0 a in all-marked w.0 p l w.1)), M.keep)
