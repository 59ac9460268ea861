-- The bytes of positions by letters are those by moves, where all letters are of moves.
use mathlib.Core.Bool.{cond}
use mathlib.Core.List.{List, [], ◌++◌, ◌∷◌, map}
use mathlib.Core.Logic.{inl, inr}
use mathlib.Core.Path.{◌∙◌, ◌≡◌, ap, ap₂, refl}
use Prim.Native.Nat.{◌<◌, ◌≤◌, suc, ℕ}
use native.Mathlib.Omega.{arith}
use lib.ListN.{get_or, length}
use Rattle.language.specs.declared.Numbers.{Numbers}
use Rattle.language.specs.Move.{Move, record_of}
use Rattle.states_words.specs.Letter.{Small, letter}
use Rattle.play_records.proofs.WritingPlays.{record-by}
use Rattle.dfa_smallest.specs.Table as table
use Rattle.dfa_smallest.specs.Table.{Has, Place, nowhere}
use Rattle.card_bytes.specs.Kinds.{filed}
use Rattle.card_bytes.specs.Places.{move_bytes, moves_bytes, places_bytes}
use Rattle.serve_card.specs.Card.{arc_bytes, arcs_bytes, table_bytes}
use Rattle.serve_card.proofs.FromLetters.{arc_of, letter-back, move_of, position_of, positions_of}

module _ (N : Numbers) (few : N.z ≤ 125) where
  move-filed : (m : Move) (to : ℕ) → Small N m → filed (record_of N m) to ≡ move_bytes (letter N m) to
  unfolding move_bytes
  move-filed m to s = ap (λ (r : List ℕ). filed r to) (record-by N few m s)

  -- letters that are those of moves
  abbrev pub Lettered : List table.Arc → Type 0
  Lettered xs = (l j : ℕ) → Has xs l j → (m : Move) × (Small N m × (letter N m ≡ l))

  arc-filed : (a : table.Arc) → (m : Move) × (Small N m × (letter N m ≡ a.letter))
      → arc_bytes N (arc_of N few a) ≡ move_bytes a.letter a.to
  unfolding arc_bytes arc_of
  arc-filed a c =
      let q = letter-back N few a.letter c in
      move-filed (move_of N few a.letter) a.to q.1 ∙ ap (λ l. move_bytes l a.to) q.0

  arcs-filed : (xs : List table.Arc) → Lettered xs → arcs_bytes N (map (arc_of N few) xs) ≡ moves_bytes xs
  unfolding arcs_bytes moves_bytes Has
  arcs-filed [] c = refl
  arcs-filed (a ∷ xs) c =
      ap₂ (λ x y. x ++ y) (arc-filed a (c a.letter a.to (inl (refl, refl))))
      (arcs-filed xs (λ l j h. c l j (inr h)))

  -- THEOREM: the bytes by letters are those by moves
  pub places-filed : (T : List Place) → ((k : ℕ) → k < length T → Lettered (get_or T k nowhere).arcs)
      → table_bytes N (positions_of N few T) ≡ places_bytes T
  unfolding table_bytes places_bytes position_of
  places-filed [] c = refl
  places-filed (p ∷ T) c =
      ap₂ (λ x y. (40 ∷ cond p.final 1 0 ∷ x) ++ y) (arcs-filed p.arcs (c 0 (omega arith)))
      (places-filed T (λ k h. c (suc k) (omega arith)))
