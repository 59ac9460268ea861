-- The verdict on the automata of two terms, from the first word that tells their first states apart.
use mathlib.Core.Path.{◌≡◌, refl, sym, ap, ◌∙◌, subst}
use mathlib.Core.Logic.{◌≢◌, ◌⊎◌, inl, inr}
use mathlib.Core.List.{List, ◌∷◌}
use Rattle.std.specs.Prelude.{Option, Some, None}
use Prim.Native.Nat.{ℕ, ◌+◌, ◌*◌, ◌-◌, ◌≤◌}
use native.Mathlib.Omega.{arith}
use lib.ListN.{length, get_or, take}
use lib.Seq.{get_or-take}
use lib.Dec.{eqb}
use borrow.Author.Tests.{eq-eqb, ne_eqb}
use Rattle.language.specs.Choice.{pick}
use Rattle.language.specs.declared.Numbers.{Numbers}
use Rattle.language.specs.Ty.{Ty}
use Rattle.language.specs.Term.{Term}
use Rattle.language.specs.Play.{Complete}
use Rattle.states_machine.specs.Sheet.{spots, steps}
use Rattle.states_machine.proofs.Accepts.{spots-size}
use Rattle.dfa.specs.Graph.{rest, δ}
use Rattle.dfa_difference.specs.Outcome.{Setting, ToldApart, Outcome}
use Rattle.dfa.specs.Reading.{walk, FirstWord, reversed}
use Rattle.dfa_search.specs.Spelled.{Spelled, none, more as longer}
use Rattle.dfa.specs.Word.{accepting, after}
use Rattle.dfa_difference.specs.declared.Task.{Task}
use Rattle.dfa.proofs.laws.Reading.{reversed-length, reversed-reversed, walk-reversed, first_word}
use Rattle.dfa_silent.proofs.laws.Settled.{settled-graph}
use Rattle.states_words.specs.Explicit.{Explicit}
use Rattle.states_words.specs.Letter.{AllSmall}
use Rattle.states_build.specs.inner.Built.{TwoBuilt}
use Rattle.serve_conditions.proofs.Figures.{asked_low}
use Rattle.serve_compare.specs.inner.Deciding.{Deciding, OnlyTerm, Verdicts, alike, differ}
use Rattle.play_words.specs.Shown.{Shown}
use Rattle.play_words.specs.declared.Difference.{Difference}
use Rattle.serve_compare.proofs.OnePlay.{plays-small}
use Rattle.serve_compare.proofs.TwoPlays.{FoundPlay, ends, same_plays, first-play}
use Rattle.play_records.proofs.WritingPlays.{records-written}
use Rattle.sheet_records.specs.declared.refusal.Sheets.TheVariants.{Old, New}

-- the comparison of the first states of two automata of `all` and `more` states with their ends
abbrev pub task : ℕ → ℕ → ℕ → Task
task all more most = record { n = all + more + 1; p = 0; q = all; f = all - 1; g = all + more - 1; most = most }

-- the word of an entry is its only one
spelled-unique : {n : ℕ} {ws : List ℕ} {k : ℕ} {x y : List ℕ} → Spelled n ws k x → Spelled n ws k y → x ≡ y
spelled-unique none none = refl
spelled-unique none (longer k h l s) = absurd (omega arith)
spelled-unique (longer k h l s) none = absurd (omega arith)
spelled-unique {n} {ws} (longer k h l s) (longer k' h' l' s') =
    ap (λ v. get_or ws (n + 4 * k + 3) 0 ∷ v) (spelled-unique s s')

-- two terms ready to be compared
module _ (ws space : List ℕ) (all more : ℕ) (D : Deciding ws space all more) where
  -- their numbers, type and terms, the number of states, the automaton, and what built it
  abbrev N : Numbers
  N = D.numbers

  abbrev T : Ty
  T = D.type

  abbrev M : Term
  M = D.term

  abbrev M' : Term
  M' = D.other_term

  abbrev n : ℕ
  n = all + more + 1

  abbrev G : List ℕ
  G = rest (5 * n) ws

  abbrev B : TwoBuilt N T M M' n ws
  B = D.built

  -- the size of the first is its states with the end
  pub all-is : all ≡ spots T M + 1
  all-is = sym D.sized ∙ sym (spots-size T M)

  -- the same of the second
  more-is : more ≡ spots T M' + 1
  more-is = sym D.other_sized ∙ sym (spots-size T M')

  -- what first_difference asks for
  pub setting : (most : ℕ) → Setting G (task all more most) × (5 * n ≤ length ws)
  setting most = (
    record {
      graph = settled-graph B.silent_words B.unsettled G n B.graph B.quiet B.settled;
      p_lt = omega arith;
      q_lt = omega (arith, more-is);
    },
    omega (arith, asked_low N (all + more) D.room),
  )

  -- the second automaton stands behind the end of the first
  shows_second : Explicit N B.silent_words B.unsettled n (spots T M + 1) (steps T M')
  shows_second =
      subst (λ o. Explicit N B.silent_words B.unsettled n o (steps T M')) (sym (spots-size T M))
      B.other_shows

  -- the ends accept
  fin-is : (x : ℕ) → accepting (all - 1) (all + more - 1) x ≡ ends T M M' x
  fin-is x =
      let f : all - 1 ≡ spots T M = omega (arith, all-is) in
      let g : all + more - 1 ≡ spots T M + 1 + spots T M' = omega (arith, all-is, more-is) in
      rw (f, g)

  -- the first state of the second automaton
  second-start : (w : List ℕ) → ends T M M' (walk (δ G n) all w) ≡ ends T M M' (walk (δ G n) (spots T M + 1) w)
  second-start w = ap (λ p. ends T M M' (walk (δ G n) p w)) all-is

  -- where no word of at most so many letters tells the first states apart, the terms have the same plays of at most so
  -- many moves
  pub decided-same : (most : ℕ) (ws₁ : List ℕ) (v : Option ℕ) → v ≡ None →
      Outcome G (task all more most) ws₁ v → Verdicts N T M M' most space None space
  decided-same most ws₁ v e o = alike refl (same_plays (omega (arith, D.z_below)) D.typed D.other_typed
      B.shows shows_second B.graph B.settled D.type_in D.term_in D.other_in most agree) refl
    where
      told : Outcome G (task all more most) ws₁ None
      told = subst (λ v. Outcome G (task all more most) ws₁ v) e o

      read : (p : ℕ) (w : List ℕ) → ends T M M' (walk (δ G n) p w) ≡
          accepting (all - 1) (all + more - 1) (after (δ G n) p (reversed w))
      read p w = sym (fin-is (walk (δ G n) p w)) ∙ ap (accepting (all - 1) (all + more - 1))
          (ap (walk (δ G n) p) (sym (reversed-reversed w)) ∙ walk-reversed (δ G n) p (reversed w))

      agree : (w : List ℕ) → length w ≤ most →
          ends T M M' (walk (δ G n) 0 w) ≡ ends T M M' (walk (δ G n) (spots T M + 1) w)
      agree w l = read 0 w ∙ told (reversed w) (omega (arith, reversed-length w)) ∙ sym (read all w) ∙ second-start w

  -- what tells the terms apart
  module _ (most : ℕ) (ws₁ : List ℕ) (k : ℕ) (told : ToldApart G (task all more most) (take (5 * n) ws₁) k) where
    -- the play found
    found : FoundPlay N T M M' (after (δ G n) 0 told.word) (reversed told.word)
    found =
        subst (λ p. FoundPlay N T M M' p (reversed told.word)) (walk-reversed (δ G n) 0 told.word)
        (first-play (omega (arith, D.z_below)) D.typed D.other_typed B.shows shows_second B.graph
        B.settled D.type_in D.term_in D.other_in (reversed told.word) first)
      where
        given : FirstWord n (δ G n) (accepting (all - 1) (all + more - 1)) 0 all (reversed told.word)
        given = first_word _ _ _ _ _ told.word told.first

        first : FirstWord n (δ G n) (ends T M M') 0 (spots T M + 1) (reversed told.word)
        first = record {
          differ = λ e. given.differ (fin-is _ ∙ e ∙ sym (second-start (reversed told.word)) ∙ sym (fin-is _));
          least = λ v b. sym (fin-is _) ∙ given.least v b ∙ fin-is _ ∙ second-start v;
          short = given.short;
        }

    -- every move of it has a letter
    found-small : AllSmall N found.word
    found-small = by found.only
      where
        by : ((after (δ G n) 0 told.word ≡ spots T M) ×
            (Complete T M found.word × (Complete T M' found.word → ⊥))) ⊎
            ((after (δ G n) 0 told.word ≢ spots T M) ×
            (Complete T M' found.word × (Complete T M found.word → ⊥))) → AllSmall N found.word
        by (inl h) = plays-small N D.typed D.type_in D.term_in found.word h.1.0
        by (inr h) = plays-small N D.other_typed D.type_in D.other_in found.word h.1.0

    -- its length
    found-short : length found.word ≤ all + more - 1
    found-short =
        let s = (first_word _ _ _ _ _ told.word told.first).short in omega (arith, found.moves)

    -- the sheet that has it, by where it ends
    found-only : (p : ℕ) → p ≡ after (δ G n) 0 told.word →
        OnlyTerm (pick (eqb p (all - 1)) Old New) T M M' found.word
    unfolding OnlyTerm
    found-only p e = by found.only
      where
        by : ((after (δ G n) 0 told.word ≡ spots T M) ×
            (Complete T M found.word × (Complete T M' found.word → ⊥))) ⊎
            ((after (δ G n) 0 told.word ≢ spots T M) ×
            (Complete T M' found.word × (Complete T M found.word → ⊥))) →
            OnlyTerm (pick (eqb p (all - 1)) Old New) T M M' found.word
        by (inl h) = rw (eq-eqb p (all - 1) (omega (arith, all-is))) h.1
        by (inr h) = rw (ne_eqb p (all - 1) (λ d. h.0 (omega (arith, all-is)))) h.1

    -- the play shown is the first play of exactly one of the terms
    pub decided-apart : {r : Option Difference} {space' : List ℕ} → Shown n k (all - 1) ws₁ space r space' →
        Verdicts N T M M' most space r space'
    decided-apart {r} {space'} s =
        differ (pick (eqb (get_or ws₁ (n + 4 * k) 0) (all - 1)) Old New) found.word
        (rw (found.moves, ← same-letters) s.answer) (found-only (get_or ws₁ (n + 4 * k) 0) ends_there)
        found.earlier (omega (arith, found.moves, reversed-length told.word, told.within))
        (s.written ∙ rw (same-letters, ← found.spells)
        (records-written N (omega (arith, D.z_below)) found.word found-small space
        (omega (arith, found-short, D.space_room))))
      where
        same-letters : s.letters ≡ reversed told.word
        same-letters = sym (reversed-reversed s.letters) ∙ ap reversed (spelled-unique s.spelled told.spelled)

        ends_there : get_or ws₁ (n + 4 * k) 0 ≡ after (δ G n) 0 told.word
        ends_there = sym (get_or-take (5 * n) ws₁ (n + 4 * k) 0 (omega (arith, told.trail.below))) ∙ told.left
