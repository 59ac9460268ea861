-- The automaton of a closed term has as many states as the term's size, and accepts exactly its complete plays.
use mathlib.Core.Path.{◌≡◌, refl, sym, ap, ap₂}
use mathlib.Core.Logic.Iff
use mathlib.Core.Logic.{◌↔◌}
use mathlib.Core.List.{[], ◌∷◌, ◌++◌}
use Prim.Native.Nat.{ℕ, ◌+◌}
use native.Mathlib.Omega.{arith}
use Rattle.language.specs.Ty.{Ty, Question, Answer, Fits, Answers}
use Rattle.language.specs.Move.{answer, Move, move, Word}
use Rattle.language.specs.Term.{Term}
use Rattle.language.specs.Play.{Plays, whole, Complete}
use Rattle.language.specs.Weight.{size}
use Rattle.language.specs.Typing.{Typed}
use Rattle.states_machine.specs.Action.{to, out, asked, answered, opened, who, heard, Hears, Action, map_action}
use Rattle.states_machine.specs.Decide.{answers?, fits_of}
use Rattle.states_machine.specs.Position.{entry}
use Rattle.states_machine.specs.Settle.{settle, run}
use Rattle.states_machine.specs.Sheet.{Spot, start, within, reply, opens, sheet, spots, numbered_spots, index}
use Rattle.states_machine.specs.Sheet.{numbered_step, steps, begin}
use Rattle.states_machine.proofs.Iff.{◌▸◌, each}
use Rattle.states_machine.proofs.Unique.{Answers-prop}
use Rattle.states_machine.proofs.Execution.{Rest, Reads, After, Reaches, Reaches-dead, ends_at, stepped}
use Rattle.states_machine.proofs.Embedding.{parts, ends}
use Rattle.states_machine.proofs.Outcome.{when-iff}
use Rattle.states_machine.proofs.Thread.{Moves, Thread}
use Rattle.states_machine.proofs.Block.{Tidy, clear, seen, used}
use Rattle.states_machine.proofs.Means.{Means-iff}
use Rattle.states_machine.proofs.Machine.{machine}
use Rattle.states_machine.proofs.Scope.{Scoped, scoped_of, tidy}
use Rattle.states_machine.proofs.Correct.{correct}
use Rattle.states_machine.proofs.Settled.{settle-stops, settle-iff, run-iff}

-- a word without private moves is followed by reading it
read_off : {d : ℕ} {u : Word} → Tidy d u → d ≡ 0 → (w : Word) (Q : Unit {0} → Rest) → Thread [] u tt w Q →
    (v : Word) × (w ≡ u ++ v) × Q tt v
unfolding Thread Moves Reads
read_off clear z w Q t = (w, refl, t)
read_off (seen s) z [] Q t = absurd t
read_off (seen s) z (x ∷ w) Q t =
    let r = read_off s z w Q t.1 in
    (r.0, ap₂ (λ x u. x ∷ u) (sym t.0) r.1, r.2)
read_off (used h p s) z w Q t = absurd (omega arith)

-- and back
read-on : {d : ℕ} {u : Word} → Tidy d u → d ≡ 0 → (v : Word) (Q : Unit {0} → Rest) → Q tt v → Thread [] u tt (u ++ v) Q
unfolding Thread Moves Reads
read-on clear z v Q t = t
read-on (seen s) z v Q t = (refl, read-on s z v Q t)
read-on (used h p s) z v Q t = absurd (omega arith)

-- the exit, with nothing left
abbrev End : Unit {0} → Rest
End b v = (b ≡ tt) × (v ≡ [])

module _ (T : Ty) (M : Term) where
  -- the machine of the sheet
  abbrev W : Spot T M → Action (Spot T M) (Unit {0})
  W = sheet T M

  -- the last move
  reads_end : (m : Move) (v : Word) → Reads m v (λ x. Reaches W (out tt) x End) ↔ (v ≡ m ∷ [])
  unfolding Reads
  reads_end m v = (forth v, λ e. rw e (refl, (ends_at W tt [] End).1 (refl, refl)))
    where
      forth : (v : Word) → Reads m v (λ x. Reaches W (out tt) x End) → v ≡ m ∷ []
      forth [] x = absurd x
      forth (y ∷ v) x = ap₂ (λ x u. x ∷ u) (sym x.0) ((ends_at W tt v End).0 x.1).1

  -- from a state about to answer, the answer is the last move
  answered-iff : (q : Question) (a : Answer) (h : Answers T q a) (v : Word) →
      Reaches W (to (reply (q, a, h))) v End ↔ (v ≡ move whole (answer a) ∷ [])
  unfolding sheet After
  answered-iff q a h v = stepped W (reply (q, a, h)) v End ▸ reads_end (move whole (answer a)) v

  -- what follows the question q
  abbrev Answered : Question → Word → Type 0
  Answered q v = (a : Answer) × (w : Word) × Answers T q a × Plays M q a w × (v ≡ w ++ (move whole (answer a) ∷ []))

  -- after the question: a play, and its answer
  asked-iff : Scoped M 0 → (q : Question) (f : Fits T q) (v : Word) →
      Reaches W (to (within ((q, f), entry M))) v End ↔ Answered q v
  unfolding sheet
  asked-iff sc q f v =
      parts (machine M [] q) W (λ s. within ((q, f), s.1)) _ (λ t. refl) (tt, entry M) v End
      ▸ correct M 0 sc [] q tt v _
      ▸ Means-iff (λ e x.
      when-iff (λ n. Reaches W n x End) (Reaches-dead W x End) Answers-prop (answers? T q e.1) _
      ▸ each (λ h. answered-iff q e.1 h x))
      ▸ (
        λ m.
            let t = read_off (tidy M 0 sc q _ _ m.plays) refl v _ m.thread in
            (m.answer, m.word, t.2.0, m.plays, rw (t.1, t.2.1)),
        λ p.
            let (a, w, h, pl, e) = p in
            record {
              answer = a;
              word = w;
              plays = pl;
              thread = rw e (read-on (tidy M 0 sc q a w pl) refl (move whole (answer a) ∷ []) _ (h, refl));
            },
      )

  -- an execution of the sheet is a complete play
  complete-iff : Scoped M 0 → (u : Word) → Reaches W (to start) u End ↔ Complete T M u
  unfolding sheet After Hears heard who opens Reads
  complete-iff sc u = stepped W start u End ▸ (forth u, back)
    where
      forth : (u : Word) → After (W start) u (λ n v. Reaches W n v End) → Complete T M u
      forth u (asked j q, h, x) = absurd h
      forth u (answered a, h, x) = absurd h
      forth [] (opened q, h, x) = absurd x
      forth (m ∷ v) (opened q, h, (e, x)) =
          let (a, w, ha, p, ev) = (asked-iff sc q h v).0 x in
          (q, a, w, ha, p, ap₂ (λ x u. x ∷ u) (sym e) ev)

      back : Complete T M u → After (W start) u (λ n v. Reaches W n v End)
      back (q, a, w, h, p, e) = rw e (opened q, fits_of h, (refl, (asked-iff sc q (fits_of h) _).1 (a, w, h, p, refl)))

  -- the states as numbers
  same_step : (t : Spot T M) → steps T M (index T M t) ≡ map_action (index T M) (λ e. out e) (sheet T M t)
  unfolding steps numbered_step
  same_step t = ap (numbered_step T M) ((numbered_spots T M).decode_code t)

  -- with the end there are as many states as the size
  pub spots-size : spots T M + 1 ≡ size T M
  unfolding spots size
  spots-size = omega arith

  -- the automaton of a scoped term accepts exactly its complete plays
  pub accepts : Scoped M 0 → (u : Word) → (run (steps T M) (begin T M) u ≡ out tt) ↔ Complete T M u
  unfolding begin
  accepts sc u =
      let n = to (index T M start) in
      Iff.symm (run-iff (steps T M) u tt (settle (steps T M) (spots T M) n) (settle-stops (steps T M) (spots T M) n))
      ▸ Iff.symm (settle-iff (steps T M) u End n)
      ▸ ends (sheet T M) (steps T M) (index T M) (λ e. e) same_step start u End
      ▸ complete-iff sc u

  -- and so does that of a closed term of type T
  pub language : Typed [] M T → (u : Word) → (run (steps T M) (begin T M) u ≡ out tt) ↔ Complete T M u
  language t u = accepts (scoped_of M t) u
