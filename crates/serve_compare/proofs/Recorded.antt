-- The records of a complete play, read as a play is given, are one for each of its moves.
use Prim.Native.Nat.{ℕ, ◌+◌}
use mathlib.Core.Path.{◌≡◌, refl, ap}
use mathlib.Core.Bool.{true, false}
use mathlib.Core.List.{List, [], ◌∷◌, map}
use lib.Dec.{ltb}
use Rattle.language.specs.declared.Numbers.{Numbers}
use Rattle.language.specs.Ty.{run, ask, read, write, done, ok, value}
use Rattle.language.specs.Move.{Word, question, answer, at, private, move, value_of, kind, bytes, record_of, records}
use Rattle.states_words.specs.Letter.{Small, AllSmall}
use Rattle.states_words.proofs.Ranges.{sheet-small}
use Rattle.play_records.specs.Records.{moves, preceded, parse}
use Rattle.serve_compare.specs.Demands.{RecordsOfMoves}

-- a record of three bytes, and what follows it
three : (p k i j : ℕ) (s : List ℕ) (rs : List (List ℕ)) → ltb k 5 ≡ true → parse (p + 3) s ≡ moves rs →
    parse p (k ∷ i ∷ j ∷ s) ≡ moves ((k ∷ i ∷ j ∷ []) ∷ rs)
unfolding parse preceded
three p k i j [] rs h e = rw h (ap (preceded (k ∷ i ∷ j ∷ [])) e)
three p k i j (v ∷ s) rs h e = rw h (ap (preceded (k ∷ i ∷ j ∷ [])) e)

-- a record of four bytes, and what follows it
four : (p k i j v : ℕ) (s : List ℕ) (rs : List (List ℕ)) → ltb k 5 ≡ false → ltb k 7 ≡ true →
    parse (p + 4) s ≡ moves rs → parse p (k ∷ i ∷ j ∷ v ∷ s) ≡ moves ((k ∷ i ∷ j ∷ v ∷ []) ∷ rs)
unfolding parse preceded
four p k i j v s rs g h e = rw (g, h) (ap (preceded (k ∷ i ∷ j ∷ v ∷ [])) e)

one_each : (N : Numbers) (p : ℕ) (u : Word) → AllSmall N u → parse p (records N u) ≡ moves (map (record_of N) u)
unfolding records record_of kind value_of bytes AllSmall Small parse
one_each N p [] h = refl
one_each N p (move (private i) e ∷ u) h = absurd h.0
one_each N p (move (at i j) (question run) ∷ u) h = three p 0 i j (records N u) _ refl (one_each N (p + 3) u h.1)
one_each N p (move (at i j) (question ask) ∷ u) h = three p 2 i j (records N u) _ refl (one_each N (p + 3) u h.1)
one_each N p (move (at i j) (question read) ∷ u) h = three p 3 i j (records N u) _ refl (one_each N (p + 3) u h.1)
one_each N p (move (at i j) (question (write v)) ∷ u) h =
    four p 6 i j _ (records N u) _ refl refl (one_each N (p + 4) u h.1)
one_each N p (move (at i j) (answer done) ∷ u) h = three p 1 i j (records N u) _ refl (one_each N (p + 3) u h.1)
one_each N p (move (at i j) (answer ok) ∷ u) h = three p 4 i j (records N u) _ refl (one_each N (p + 3) u h.1)
one_each N p (move (at i j) (answer (value v)) ∷ u) h =
    four p 5 i j _ (records N u) _ refl refl (one_each N (p + 4) u h.1)

-- THEOREM: a complete play has as many records as moves
pub records-of-moves : RecordsOfMoves
records-of-moves S u A c = one_each S.numbers 0 u (sheet-small S A.ordered u c)
