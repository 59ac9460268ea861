-- The letters of moves are in the order of moves, and different for different moves.
use Prim.Native.Nat.{ℕ, ◌+◌, ◌*◌, ◌≤◌, ◌<◌}
use native.Mathlib.Omega.{arith}
use mathlib.Core.Path.{◌≡◌, refl, sym, ◌∙◌}
use mathlib.Core.Logic.{inl, inr}
use mathlib.Core.List.{List, [], ◌∷◌}
use Rattle.language.specs.declared.Numbers.{Numbers}
use Rattle.language.specs.Ty.{run, ask, read, write, done, ok, value}
use Rattle.language.specs.Move.{Event, question, answer, at, private, Move, move, kind, value_of}
use Rattle.language.specs.Move.{ByValue, Earlier}
use Rattle.language.proofs.OrderLaws.{rank-small, rank-order, unrank}
use Rattle.states_words.specs.Letter.{ranked, letter, event_of, Values, Small}

module _ (N : Numbers) (few : N.z ≤ 125) where
  -- a rank is a byte
  pub ranked-byte : (vs : List ℕ) → Values N vs → ranked N vs < 256
  unfolding ranked Values
  ranked-byte [] h = omega arith
  ranked-byte (v ∷ vs) h = rank-small N few v h

  -- ranks are in the order of signed values
  by_value : (xs ys : List ℕ) → Values N xs → Values N ys → ByValue N xs ys → ranked N xs < ranked N ys
  unfolding ranked Values
  by_value [] ys hx hy h = absurd h
  by_value (x ∷ xs) [] hx hy h = absurd h
  by_value (x ∷ xs) (y ∷ ys) hx hy h = rank-order N few x y hx hy h

  -- THEOREM: an earlier move has a smaller letter
  pub letter-order : (m n : Move) → Small N m → Small N n → Earlier N m n → letter N m < letter N n
  unfolding Small letter
  letter-order (move (at i j) e) (move (at k l) f) hm hn h =
      let a = ranked-byte (value_of e) hm.2 in
      let b = ranked-byte (value_of f) hn.2 in
      go a b h
    where
      go : ranked N (value_of e) < 256 → ranked N (value_of f) < 256 → Earlier N (move (at i j) e) (move (at k l) f) →
          kind e * 16777216 + i * 65536 + j * 256 + ranked N (value_of e) <
          kind f * 16777216 + k * 65536 + l * 256 + ranked N (value_of f)
      go a b (inl h) = omega (arith, hm.0, hm.1, hn.0, hn.1)
      go a b (inr (d, inl h)) = omega (arith, hm.0, hm.1, hn.0, hn.1)
      go a b (inr (d, inr (e₁, inl h))) = omega (arith, hm.0, hm.1, hn.0, hn.1)
      go a b (inr (d, inr (e₁, inr (e₂, h)))) =
          omega (arith, by_value (value_of e) (value_of f) hm.2 hn.2 h)
  letter-order (move (at i j) e) (move (private k) f) hm hn h = absurd h
  letter-order (move (private i) e) n hm hn h = absurd h

  -- what happens in a move is found again by its kind and rank
  pub event-again : (e : Event) → Values N (value_of e) → event_of N (kind e) (ranked N (value_of e)) ≡ e
  unfolding event_of kind value_of ranked Values
  event-again (question run) h = refl
  event-again (question ask) h = refl
  event-again (question read) h = refl
  event-again (question (write v)) h = rw (unrank N few v h)
  event-again (answer done) h = refl
  event-again (answer ok) h = refl
  event-again (answer (value v)) h = rw (unrank N few v h)

  -- THEOREM: different moves have different letters
  pub letter-injective : (m n : Move) → Small N m → Small N n → letter N m ≡ letter N n → m ≡ n
  unfolding Small letter
  letter-injective (move (at i j) e) (move (at k l) f) hm hn h =
      let a = ranked-byte (value_of e) hm.2 in
      let b = ranked-byte (value_of f) hn.2 in
      let i-k : i ≡ k = omega (arith, hm.0, hm.1, hn.0, hn.1) in
      let j-l : j ≡ l = omega (arith, hm.0, hm.1, hn.0, hn.1) in
      let k-k : kind e ≡ kind f = omega (arith, hm.0, hm.1, hn.0, hn.1) in
      let r-r : ranked N (value_of e) ≡ ranked N (value_of f) = omega (arith, hm.0, hm.1, hn.0, hn.1) in
      let e-f : e ≡ f = sym (event-again e hm.2) ∙ rw (k-k, r-r) (event-again f hn.2) in
      rw (i-k, j-l, e-f)
  letter-injective (move (at i j) e) (move (private k) f) hm hn h = absurd hn
  letter-injective (move (private i) e) n hm hn h = absurd hm
