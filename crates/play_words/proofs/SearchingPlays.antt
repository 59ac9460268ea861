-- What the walk keeps that finds the longest beginning of a play whose state is live.
use mathlib.Core.Path.{◌≡◌, refl, sym, ap, ◌∙◌}
use mathlib.Core.Bool.{Bool, true, false}
use mathlib.Core.Logic.{◌↔◌, ◌≢◌, ◌⊎◌, inl, inr}
use mathlib.Core.List.{List, [], ◌∷◌, map}
use Prim.Native.Nat.{ℕ, ◌+◌, ◌*◌, ◌≤◌, ◌<◌}
use native.Mathlib.Decide.{ℕ_discrete}
use native.Mathlib.Omega.{arith}
use lib.ListN.{length, get_or, take}
use Rattle.dfa.specs.Graph.{δ, rest, Graph}
use Rattle.dfa.specs.Live.{Live}
use Rattle.dfa.specs.Reading.{walk}
use Rattle.dfa.proofs.laws.Look.{δ-lt}
use Rattle.dfa.proofs.laws.SameEdges.{same-walk}
use Rattle.play_records.specs.Records.{moves, parse}
use Rattle.play_records.specs.Bytes.{first_letter}
use Rattle.play_words.specs.Walk.{AtLeast, state_after, Marked, Reached}
use Rattle.play_words.proofs.WalkingPlays.{Walked, walked-first, walked-state}

-- the mark of the state after k records
abbrev mark : ℕ → List ℕ → List (List ℕ) → ℕ → ℕ
mark n ws rs k = get_or ws (n + state_after (rest (5 * n) ws) n rs k) 0

-- of the first i records, `count` are the last after which the state is marked
pub record Searched (n : ℕ) (ws play : List ℕ) (total p at i count : ℕ) : Type 0 where
  pub walked : Walked (rest (5 * n) ws) n play total p at i
  pub upto : i ≤ total
  pub within : count ≤ i
  pub alive : (count ≡ 0) ⊎ (mark n ws walked.all count ≡ 1)
  pub beyond : (k : ℕ) → count < k → k ≤ i → mark n ws walked.all k ≢ 1

-- before the first record
pub search-first : (n : ℕ) (ws play : List ℕ) (total : ℕ) → Graph (rest (5 * n) ws) n → AtLeast play total →
    Searched n ws play total 0 0 0 0
search-first n ws play total g h = record {
  walked = walked-first (rest (5 * n) ws) n play total g h;
  upto = omega arith;
  within = omega arith;
  alive = inl refl;
  beyond = λ k a b. absurd (omega arith);
}

-- what is not said to be marked is not
pub not-marked : (r : Bool) (m : ℕ) → r ≡ false → (r ≡ true) ↔ (m ≡ 1) → m ≢ 1
not-marked r m e h k = let t = h.1 k in cc

module _ (n : ℕ) (ws play : List ℕ) (total p at i count p' at' : ℕ) (S : Searched n ws play total p at i count)
    (W : Walked (rest (5 * n) ws) n play total p' at' (i + 1)) (h : i < total) where
  -- the records of both are those of the play
  same : S.walked.all ≡ W.all
  same = let e = S.walked.whole in let f = W.whole in cc

  -- the state after one more record
  here : mark n ws W.all (i + 1) ≡ get_or ws (n + p') 0
  here = ap (λ q. get_or ws (n + q) 0) (sym (walked-state (rest (5 * n) ws) n play total p' at' (i + 1) W))

  -- it is marked
  pub search-marked : get_or ws (n + p') 0 ≡ 1 → Searched n ws play total p' at' (i + 1) (i + 1)
  search-marked e = record {
    walked = W;
    upto = omega arith;
    within = omega arith;
    alive = inr (here ∙ e);
    beyond = λ k a b. absurd (omega arith);
  }

  -- it is not
  pub search-unmarked : get_or ws (n + p') 0 ≢ 1 → Searched n ws play total p' at' (i + 1) count
  search-unmarked e = record {
    walked = W;
    upto = omega arith;
    within = omega (arith, S.within);
    alive = rw same at S.alive;
    beyond = λ k a b. by k a b (ℕ_discrete k (i + 1));
  }
    where
      by : (k : ℕ) → count < k → k ≤ i + 1 → Dec (k ≡ i + 1) → mark n ws W.all k ≢ 1
      by k a b (yes q) = rw q (λ m. e (sym here ∙ m))
      by k a b (no q) = rw same at (S.beyond k a (omega arith))

-- a word leads to one of the states
walk-below : (G : List ℕ) (n : ℕ) → Graph G n → (p : ℕ) (w : List ℕ) → p < n → walk (δ G n) p w < n
walk-below G n g p [] h = h
walk-below G n g p (m ∷ w) h = walk-below G n g (δ G n p m) w (δ-lt G n p m g h)

-- the words tell which beginnings are live
module _ (n : ℕ) (ws : List ℕ) (f : ℕ) (T : Marked n f ws) (rs : List (List ℕ)) where
  -- a beginning leads to the same state
  state : (k : ℕ) → state_after (rest (5 * n) ws) n rs k ≡ state_after T.automaton n rs k
  state k = same-walk T.automaton (rest (5 * n) ws) n T.graph T.same 0 (take k (map first_letter rs))
      T.graph.some

  tells : (k : ℕ) → (mark n ws rs k ≡ 1) ↔ Live T.automaton n f (state_after T.automaton n rs k)
  tells k = rw (state k) (T.marks (state_after T.automaton n rs k)
      (walk-below T.automaton n T.graph 0 (take k (map first_letter rs)) T.graph.some))

-- after the last record
pub search-last : (n : ℕ) (ws play : List ℕ) (total p at i count : ℕ) →
    Searched n ws play total p at i count → total ≤ i → (f : ℕ) (T : Marked n f ws) (rs : List (List ℕ)) →
    parse 0 play ≡ moves rs → length rs ≡ total →
    Reached T.automaton n f rs (record { count = count; last = p })
search-last n ws play total p at i count S h f T rs e l = record {
  longest = record {
    within = omega (arith, S.within, S.upto);
    alive = live (rw same at S.alive);
    beyond = λ k a b m. (rw same at (S.beyond k a (omega arith))) ((tells n ws f T rs k).1 m);
  };
  last = (rw same at (walked-state (rest (5 * n) ws) n play total p at i S.walked)) ∙ state n ws f T rs i ∙
      ap (state_after T.automaton n rs) {x = i} {y = length rs} (omega (arith, S.upto));
}
  where
    same : S.walked.all ≡ rs
    same = let d = S.walked.whole in cc

    live : (count ≡ 0) ⊎ (mark n ws rs count ≡ 1) →
        (count ≡ 0) ⊎ Live T.automaton n f (state_after T.automaton n rs count)
    live (inl z) = inl z
    live (inr z) = inr ((tells n ws f T rs count).0 z)
