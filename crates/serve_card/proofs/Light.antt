-- A sheet of size 4, the least, has at most one complete play, so that its card fits too.
use mathlib.Core.List.{List, [], ◌++◌, ◌∷◌}
use mathlib.Core.Logic.{inl, inr}
use mathlib.Core.Path.{◌∙◌, ◌≡◌, ap, refl, subst, sym}
use Prim.Native.Nat.{◌*◌, ◌+◌, ◌<◌, ◌≤◌, suc, ℕ}
use native.Mathlib.Nat.{mul-le-mul_right}
use native.Mathlib.Decide.{dec_lt}
use native.Mathlib.Omega.{arith}
use lib.ListN.{get_or, length}
use Rattle.language.specs.Number.{numbers}
use Rattle.language.specs.Ty.{Answer, Question, Ty, answers, ask, command, done, expression, questions, run, value}
use Rattle.language.specs.Ty.{read, to_ask, to_read, to_run, to_write, variable}
use Rattle.language.specs.Term as t
use Rattle.language.specs.Term.{Term, assign, cond, const, diverge, fetch, name, new, operate, seq, skip, while}
use Rattle.language.specs.Weight.{size, weight}
use Rattle.language.specs.Move.{Move, Word, answer, move, question}
use Rattle.language.specs.Play.{Complete, Plays, hide, whole}
use Rattle.states_step.proofs.Parts.{positive, some-question}
use Rattle.states_words.specs.Letter.{letter}
use Rattle.states_words.proofs.LetterLaws.{letter-order}
use Rattle.sheet_written.specs.Meaning.{term_of}
use Rattle.sheet_written.specs.Written.{Sheet}
use Rattle.sheet_written.specs.Width.{heading_width}
use Rattle.sheet_reader.specs.Fine.{Accepted}
use Rattle.serve_compare.specs.Plays.{reckoned, whole_type}
use Rattle.serve_card.specs.Positions.{Among, Arc, Ascending, Position, Table, no_position}
use Rattle.serve_card.specs.Card.{card_bytes}
use Rattle.serve_card.specs.Promise.{space_for}
use Rattle.serve_card.proofs.Length.{all_moves, card-length, fits, heading-short, space-least}
use Rattle.serve_card.proofs.Order.{small-last}
use Rattle.serve_card.proofs.Tables.{begin-small, few}

-- a product of some and a number is at least the number
some-times : (m x r : ℕ) → x < m → r ≤ m * r
some-times m x r h = let k : 1 ≤ m = omega arith in omega (arith, mul-le-mul_right r k)

-- a term of weight 1 makes no moves
light : (M : Term) → weight M ≡ 1 → (q : Question) (a : Answer) (u : Word) → Plays M q a u → u ≡ []
unfolding weight Plays hide
light (const v) h q a u p = p.1
light (operate m o L R) h q a u p =
    absurd (omega (arith, h, positive L, positive R, some-times m p.0.0 (weight R) p.0.1))
light skip h q a u p = p.1
light diverge h q a u p = absurd p
light (seq C M) h q a u p = absurd (omega (arith, positive C, positive M))
light (while B C) h q a u p = absurd (omega (arith, positive B, positive C))
light (cond B M N) h q a u p = absurd (omega (arith, positive B, positive M, positive N))
light (name i o T args) h q a u p = absurd (omega arith)
light (t.private i) h q a u p = absurd (omega arith)
light (fetch X) h q a u p = light X h read a u p
light (assign m X E) h q a u p =
    absurd (omega (arith, h, positive E, positive X, some-times m p.1.0 (weight X) p.1.1))
light (new m k C) h q a u p =
    let e = light C (omega (arith, h, positive C, some-times m 0 (weight C) k)) q a p.0 p.1 in
    p.3 ∙ ap hide e

-- the one play that a type may have then
unfoldable only-play : Ty → Word
only-play command = move whole (question run) ∷ move whole (answer done) ∷ []
only-play (expression m) = move whole (question ask) ∷ move whole (answer (value 0)) ∷ []
only-play (variable m) = []

-- a term of size 4 has at most one complete play
one-play : (T : Ty) (M : Term) → size T M ≡ 4 → (u : Word) → Complete T M u → u ≡ only-play T
unfolding size questions answers only-play
one-play T M h u (q, a, w, to_run, p, e) =
    e ∙ ap (λ (x : Word). move whole (question run) ∷ (x ++ (move whole (answer done) ∷ [])))
    (light M (omega arith) run done w p)
one-play T M h u (q, a, w, to_ask {m} {v} l, p, e) =
    let z : v ≡ 0 = omega (arith, h, positive M, l) in
    e ∙ ap (λ (x : Word). move whole (question ask) ∷ (x ++ (move whole (answer (value v)) ∷ [])))
    (light M (omega (arith, h, positive M, l)) ask (value v) w p)
    ∙ ap (λ n. move whole (question ask) ∷ move whole (answer (value n)) ∷ []) z
one-play T M h u (q, a, w, to_read {m} {v} l, p, e) =
    absurd (omega (arith, h, positive M, l, some-times (1 + m) 0 (weight M) (omega arith)))
one-play T M h u (q, a, w, to_write {m} {v} l, p, e) =
    absurd (omega (arith, h, positive M, l, some-times (1 + m) 0 (weight M) (omega arith)))

after_same : (b : Word) (m n : Move) (u v : Word) → (b ++ (m ∷ [])) ++ u ≡ (b ++ (n ∷ [])) ++ v → m ≡ n
after_same [] m n u v e = cc
after_same (k ∷ b) m n u v e =
    let f : (b ++ (m ∷ [])) ++ u ≡ (b ++ (n ∷ [])) ++ v = cc in
    after_same b m n u v f

module _ (S : Sheet) (A : Accepted S) (four : reckoned S ≡ 4) (T : List Position) (B : Table S T) where
  -- a position has at most one move
  one-move : (k : ℕ) → k < length T → (xs : List Arc) → (get_or T k no_position).arcs ≡ xs → length xs ≤ 1
  unfolding Among Ascending
  one-move k h [] e = omega arith
  one-move k h (a ∷ []) e = omega arith
  one-move k h (a ∷ (b ∷ xs)) e =
      let p = ((B.moves k h a.by a.to).0 (rw e (inl (refl, refl)))).1.0 in
      let q = ((B.moves k h b.by b.to).0 (rw e (inr (inl (refl, refl))))).1.0 in
      let l = B.leading k in
      let f : a.by ≡ b.by = after_same l a.by b.by p.0 q.0
      (one-play (whole_type S) (term_of S) four ((l ++ (a.by ∷ [])) ++ p.0) p.1
      ∙ sym (one-play (whole_type S) (term_of S) four ((l ++ (b.by ∷ [])) ++ q.0) q.1)) in
      let o : Ascending S.numbers (a ∷ (b ∷ xs)) = subst (Ascending S.numbers) e (B.ordered k h) in
      let s = begin-small S A (l ++ (a.by ∷ [])) p in
      let r = begin-small S A (l ++ (b.by ∷ [])) q in
      let g = letter-order S.numbers (few S A) a.by b.by (small-last S.numbers l a.by s)
      (small-last S.numbers l b.by r) o.0 in
      absurd (omega (arith, g, ap (letter S.numbers) f))

  light-moves : (U : List Position) → ((k : ℕ) → k < length U → length (get_or U k no_position).arcs ≤ 1)
      → all_moves U ≤ length U
  unfolding all_moves
  light-moves [] h = omega arith
  light-moves (p ∷ U) h =
      let i = light-moves U (λ k l. h (suc k) (omega arith)) in
      omega (arith, i, h 0 (omega arith))

  -- THEOREM: no more moves than positions
  light-few : all_moves T ≤ length T
  light-few = light-moves T (λ k h. one-move k h (get_or T k no_position).arcs refl)

no-moves : (U : List Position) → length U ≤ 0 → all_moves U ≤ 0
unfolding all_moves
no-moves [] h = omega arith
no-moves (p ∷ U) h = absurd (omega arith)

-- no size is below 4 where there is a play
size-least : (T : Ty) (M : Term) → (u : Word) → Complete T M u → 4 ≤ size T M
unfolding size questions answers
size-least T M u (q, a, w, to_run, p, e) = omega (arith, positive M)
size-least T M u (q, a, w, to_ask l, p, e) = omega (arith, positive M, l)
size-least T M u (q, a, w, to_read {m} l, p, e) =
    omega (arith, positive M, l, some-times (1 + m) 0 (weight M) (omega arith))
size-least T M u (q, a, w, to_write {m} l, p, e) =
    omega (arith, positive M, l, some-times (1 + m) 0 (weight M) (omega arith))

size-some : (T : Ty) (M : Term) → 3 ≤ size T M
unfolding size
size-some T M = omega (arith, positive M, some-times (questions T) 0 (weight M) (some-question T))

-- THEOREM: a card of at most S positions and (1 + K) / 2 × S moves fits
pub fits-any : (S : Sheet) → Accepted S → (s : List ℕ) (ty : ℕ) (T : List Position) → Table S T
    → length T ≤ reckoned S → 2 * all_moves T ≤ (1 + numbers S.numbers) * reckoned S
    → length (card_bytes s (heading_width S) ty S.numbers T) ≤ space_for S.numbers (reckoned S)
fits-any S A s ty T B k m = by (dec_lt 0 (length T)) (dec_lt 4 (reckoned S))
  where
    room : 128 * reckoned S ≤ space_for S.numbers (reckoned S)
    room = space-least S.numbers (reckoned S)

    long : length (card_bytes s (heading_width S) ty S.numbers T)
        ≤ heading_width S + 1 + 2 * length T + 7 * all_moves T
    long = card-length s (heading_width S) ty S.numbers T

    by : Dec (0 < length T) → Dec (4 < reckoned S)
        → length (card_bytes s (heading_width S) ty S.numbers T) ≤ space_for S.numbers (reckoned S)
    by d (yes l) = fits S A s ty (reckoned S) T l k m
    by (no e) (no l) =
        let n : all_moves T ≤ 0 = no-moves T (omega arith) in
        omega (arith, room, long, heading-short S A, size-some (whole_type S) (term_of S), n)
    by (yes e) (no l) =
        let b = (B.first 0 e).begins in
        let g = size-least (whole_type S) (term_of S) (B.leading 0 ++ b.0) b.1 in
        let f = light-few S A (omega (arith, g)) T B in
        omega (arith, room, long, heading-short S A, f, g)
