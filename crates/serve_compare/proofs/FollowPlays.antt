-- What the settled automaton of a sheet says of a play: how far it begins complete plays, and whether it is one.
use mathlib.Core.Path.{◌≡◌, refl, sym, ap, ◌∙◌}
use mathlib.Core.Bool.{Bool, true}
use mathlib.Core.Logic.{◌↔◌, ◌⊎◌, inl, inr}
use mathlib.Core.List.{List, ◌++◌, map}
use Prim.Native.Nat.{ℕ, ◌+◌, ◌*◌, ◌-◌, ◌≤◌, ◌<◌}
use native.Mathlib.Omega.{arith}
use native.Mathlib.Decide.{dec_lt}
use lib.ListN.{length, take, drop, length-map, get_or}
use lib.Seq.{take_all}
use Rattle.language.specs.declared.Numbers.{Numbers}
use Rattle.language.specs.Ty.{Ty}
use Rattle.language.specs.Term.{Term}
use Rattle.language.specs.Move.{Word, record_of}
use Rattle.states_machine.specs.Action.{Next, to, out, dead, Action, go, say, hear}
use Rattle.states_machine.specs.Range.{TyIn}
use Rattle.states_machine.specs.Settle.{Index}
use Rattle.states_machine.specs.Sheet.{spots}
use Rattle.dfa.specs.Graph.{δ, rest}
use Rattle.dfa.specs.Live.{Single, Live}
use Rattle.dfa.specs.Reading.{walk}
use Rattle.dfa_silent.specs.Silent.{Silent}
use Rattle.states_words.specs.Explicit.{packed, silent_word, Explicit}
use Rattle.states_words.proofs.Ranges.{type_in, sheet-range}
use Rattle.states_words.specs.Letter.{AllSmall}
use Rattle.sheet_written.specs.Written.{Sheet}
use Rattle.sheet_written.specs.Meaning.{ty_of, term_of, type_of}
use Rattle.sheet_reader.specs.Fine.{Accepted}
use Rattle.sheet_reader.proofs.WellTyped.{accepted-typed}
use Rattle.serve_compare.specs.Plays.{CompletePlay}
use Rattle.serve_compare.specs.Promise.{Begins, Greatest, NoPlay, Counted}
use Rattle.states_build.specs.inner.Built.{OneBuilt}
use Rattle.play_records.specs.Bytes.{first_letter}
use Rattle.play_records.specs.Spell.{letters}
use Rattle.play_words.specs.Walk.{state_after, Longest}
use Rattle.serve_compare.proofs.OnePlay.{plays-small, play-walks, walk-plays}
use Rattle.serve_compare.proofs.Lengths.{play-or-none}
use Rattle.serve_compare.proofs.LivePlay.{live-begins, single-end}
use Rattle.play_records.proofs.PlayRecords.{letters-records, records-letters, same-records, same-letters}
use Rattle.play_records.proofs.WritingPlays.{Good}

-- the state to which a transition leads is one of the n states
packed-below : (n : ℕ) {K : ℕ} → K + 1 < n → (x : Next (Index K) (Unit {0})) → packed 0 n x < n
unfolding packed
packed-below n h (to s) = omega (arith, s.1)
packed-below n h (out a) = omega arith
packed-below n h dead = omega arith

-- and so is that of a silent step
silent-below : (n : ℕ) {K : ℕ} → K + 1 < n → (a : Action (Index K) (Unit {0})) → silent_word 0 n a ≤ n
unfolding silent_word
silent-below n h (go x) = packed-below n h x
silent-below n h (say m x) = omega arith
silent-below n h (hear l k) = omega arith

-- the silent steps of an automaton that is alone lead to its states
silent-all : {N : Numbers} {S G : List ℕ} {n K : ℕ} {step : Index K → Action (Index K) (Unit {0})} →
    Explicit N S G n 0 step → n ≡ K + 2 → Silent n S
silent-all {S = S} {n = n} {K = K} {step = step} E e p h = by (dec_lt p K) (dec_lt p (K + 1))
  where
    by : Dec (p < K) → Dec (p < K + 1) → get_or S p 0 ≤ n
    by (yes l) d =
        let at : p ≡ 0 + p = omega arith in
        rw at (omega (arith, E.silent (p, l), silent-below n (omega (arith, E.room)) (step (p, l))))
    by (no l) (yes d) =
        let at : p ≡ 0 + K = omega arith in
        rw at (omega (arith, E.end_stays))
    by (no l) (no d) =
        let at : p ≡ n - 1 = omega arith in
        rw at (omega (arith, E.dead_stays))

-- THEOREM: the automaton of a sheet has one accepting state
pub built-single : {N : Numbers} {T : Ty} {M : Term} {n f : ℕ} {ws : List ℕ} → OneBuilt N T M n ws →
    n ≡ spots T M + 2 → f ≡ spots T M → Single (rest (5 * n) ws) n f
built-single B e h = rw h (single-end B.shows B.graph (silent-all B.shows e) B.settled B.barren)

module _ (S : Sheet) (A : Accepted S) (n : ℕ) (ws : List ℕ)
    (B : OneBuilt S.numbers (ty_of S.numbers (type_of S)) (term_of S) n ws)
    (rs : List (List ℕ)) (good : Good rs) where
  -- the numbers, the type and the term of the sheet, and its automaton
  abbrev N : Numbers
  N = S.numbers

  abbrev T : Ty
  T = ty_of S.numbers (type_of S)

  abbrev M : Term
  M = term_of S

  abbrev G : List ℕ
  G = rest (5 * n) ws

  -- its numbers and its type are in range, and every move of its plays has a letter
  few : N.z ≤ 125
  few = omega (arith, A.ordered.in_order.z_below)

  in-type : TyIn N T
  in-type = type_in N A.ordered.in_order.z_above (type_of S)

  small : (u : Word) → CompletePlay S u → AllSmall N u
  small = plays-small N (accepted-typed S A) in-type (sheet-range S A.ordered)

  -- the state after k records is live exactly if they begin a complete play
  live-exactly : (k : ℕ) → k ≤ length rs → Live G n (spots T M) (state_after G n rs k) ↔ Begins S rs k
  live-exactly k l =
      let h = live-begins few (accepted-typed S A) B.shows B.graph B.settled in-type
      (sheet-range S A.ordered) (take k (map first_letter rs)) in (
        (λ a. to-begins (h.0 a).0 (h.0 a).1 (h.0 a).2 (h.0 a).3),
        (λ (u, (c, (j, e))).
            h.1 (u, drop k (letters N u), records-letters N (omega (arith, few)) k u rs (small u c) j e, c)),
      )
    where
      to-begins : (u : Word) (x : List ℕ) → letters N u ≡ take k (map first_letter rs) ++ x → CompletePlay S u →
          Begins S rs k
      to-begins u x e c = (u, (c, letters-records N (omega (arith, few)) k u rs x (small u c) good l e))

  -- the state after all records is the end exactly if they are those of a complete play
  end-exactly : (state_after G n rs (length rs) ≡ spots T M) ↔
      ((u : Word) × (CompletePlay S u × (map (record_of N) u ≡ rs)))
  end-exactly = (
    (λ a. found (walk-plays (accepted-typed S A) B.shows B.graph B.settled few (map first_letter rs)
        (sym (ap (walk (δ G n) 0) all) ∙ a ∙ omega arith))),
    (λ (u, (c, e)). ap (walk (δ G n) 0) (all ∙ spelt u c e) ∙
        play-walks (accepted-typed S A) B.shows B.graph B.settled in-type (sheet-range S A.ordered) u c ∙
        omega arith),
  )
    where
      all : take (length rs) (map first_letter rs) ≡ map first_letter rs
      all = take_all (length rs) (map first_letter rs) (omega (arith, length-map rs first_letter))

      spelt : (u : Word) → CompletePlay S u → map (record_of N) u ≡ rs → map first_letter rs ≡ letters N u
      spelt u c e = sym (same-letters N (omega (arith, few)) u (small u c) ∙ ap (map first_letter) e)

      found : ((u : Word) × ((letters N u ≡ map first_letter rs) × CompletePlay S u)) →
          (u : Word) × (CompletePlay S u × (map (record_of N) u ≡ rs))
      found (u, (e, c)) = (u, (c, same-records N (omega (arith, few)) u rs (small u c) good e))

  -- THEOREM: the longest live beginning and the last state are what follow promises
  pub counts : (f count : ℕ) (complete : Bool) → f ≡ spots T M → Longest G n f rs count →
      (complete ≡ true) ↔ (state_after G n rs (length rs) ≡ f) → Counted S rs count complete
  counts f count complete ef L w = record {
    within = L.within;
    greatest = by L.alive (play-or-none T M N (omega (arith, few)) (accepted-typed S A) in-type
        (sheet-range S A.ordered));
    whole = ((λ t. end-exactly.0 (w.0 t ∙ ef)), (λ p. w.1 (end-exactly.1 p ∙ sym ef)));
  }
    where
      no_more : (k : ℕ) → count < k → k ≤ length rs → Begins S rs k → ⊥
      no_more k h l b = L.beyond k h l (rw ef ((live-exactly k l).1 b))

      by : (count ≡ 0) ⊎ Live G n f (state_after G n rs count) →
          ((u : Word) × CompletePlay S u) ⊎ ((u : Word) → CompletePlay S u → ⊥) → Greatest S rs count ⊎ NoPlay S count
      by (inr a) d = inl (record { begins = (live-exactly count L.within).0 (rw ef at a); no_more = no_more })
      by (inl e) (inl (u, c)) = inl (record { begins = rw e (u, (c, (omega arith, refl))); no_more = no_more })
      by (inl e) (inr h) = inr (record { none = h; zero = e })
