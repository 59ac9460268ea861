-- The letters of a word of moves agree with those of given records exactly where the moves have these records.
use mathlib.Core.Path.{◌≡◌, refl, sym, ap, ap₂, ◌∙◌}
use mathlib.Core.List.{List, [], ◌∷◌, ◌++◌, map}
use Prim.Native.Nat.{ℕ, zero, suc, ◌≤◌}
use native.Mathlib.Omega.{arith}
use lib.ListN.{length, take, drop}
use Rattle.language.specs.declared.Numbers.{Numbers}
use Rattle.language.specs.Move.{Word, record_of}
use Rattle.states_words.specs.Letter.{letter}
use Rattle.states_words.specs.Letter.{AllSmall}
use Rattle.play_records.specs.Bytes.{first_letter}
use Rattle.play_records.specs.Spell.{letters}
use Rattle.play_records.proofs.WritingPlays.{Good, record-letter, record-again}

module _ (N : Numbers) (few : N.z ≤ 125) where
  -- a word whose letters begin with those of k records begins with these records
  pub letters-records : (k : ℕ) (u : Word) (rs : List (List ℕ)) (x : List ℕ) → AllSmall N u → Good rs →
      k ≤ length rs → letters N u ≡ take k (map first_letter rs) ++ x →
      (k ≤ length u) × (take k (map (record_of N) u) ≡ take k rs)
  unfolding letters AllSmall Good
  letters-records zero u rs x s g l e = (omega arith, refl)
  letters-records (suc k) u [] x s g l e = absurd (omega arith)
  letters-records (suc k) [] (r ∷ rs) x s g l e = absurd (cc)
  letters-records (suc k) (m ∷ u) (r ∷ rs) x s g l e =
      let first : first_letter r ≡ letter N m = cc in
      let others : letters N u ≡ take k (map first_letter rs) ++ x = cc in
      let h = letters-records k u rs x s.1 g.1 (omega arith) others in
      (omega (arith, h.0), ap₂ (λ a b. a ∷ b) (sym (record-again N few g.0 m s.0 first)) h.1)

  -- and the other way round
  pub records-letters : (k : ℕ) (u : Word) (rs : List (List ℕ)) → AllSmall N u → k ≤ length u →
      take k (map (record_of N) u) ≡ take k rs → letters N u ≡ take k (map first_letter rs) ++ drop k (letters N u)
  unfolding letters AllSmall
  records-letters zero u rs s l e = refl
  records-letters (suc k) [] rs s l e = absurd (omega arith)
  records-letters (suc k) (m ∷ u) [] s l e = absurd (cc)
  records-letters (suc k) (m ∷ u) (r ∷ rs) s l e =
      let first : record_of N m ≡ r = cc in
      let others : take k (map (record_of N) u) ≡ take k rs = cc in
      ap₂ (λ a b. a ∷ b) (sym (record-letter N few m s.0) ∙ ap first_letter first)
      (records-letters k u rs s.1 (omega arith) others)

  -- a word whose letters are those of records has these records
  pub same-records : (u : Word) (rs : List (List ℕ)) → AllSmall N u → Good rs → letters N u ≡ map first_letter rs →
      map (record_of N) u ≡ rs
  unfolding letters AllSmall Good
  same-records [] [] s g e = refl
  same-records [] (r ∷ rs) s g e = absurd (cc)
  same-records (m ∷ u) [] s g e = absurd (cc)
  same-records (m ∷ u) (r ∷ rs) s g e =
      let first : first_letter r ≡ letter N m = cc in
      let others : letters N u ≡ map first_letter rs = cc in
      ap₂ (λ a b. a ∷ b) (sym (record-again N few g.0 m s.0 first)) (same-records u rs s.1 g.1 others)

  -- and the other way round
  pub same-letters : (u : Word) → AllSmall N u → letters N u ≡ map first_letter (map (record_of N) u)
  unfolding letters AllSmall
  same-letters [] s = refl
  same-letters (m ∷ u) s = ap₂ (λ a b. a ∷ b) (sym (record-letter N few m s.0)) (same-letters u s.1)
