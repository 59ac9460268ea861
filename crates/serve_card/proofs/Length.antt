-- How long a card is, by its positions and moves, and that it fits where the sheet's size is 5 or more.
use mathlib.Core.List.{List, [], ◌∷◌}
use mathlib.Core.Path.{◌≡◌, refl}
use mathlib.Core.Bool.{Bool, false, true}
use Prim.Native.Nat.{◌%◌, ◌*◌, ◌+◌, ◌/◌, ◌<◌, ◌≤◌, suc, zero, ℕ}
use native.Mathlib.Decide.{dec_lt}
use native.Mathlib.Nat.{mul-le-mul_right}
use native.Mathlib.Omega.{arith}
use lib.Dec.{ltb}
use lib.ListN.{length, length-append, take}
use borrow.Author.Tests.{le-ltb, lt-ltb}
use Rattle.language.specs.Choice.{pick}
use Rattle.language.specs.declared.Numbers.{Numbers}
use Rattle.language.specs.Number.{numbers}
use Rattle.language.proofs.NumberLaws.{numbers-within}
use Rattle.sheet_records.specs.Limits.{earlier_z}
use Rattle.language.specs.Ty.{ask, done, ok, read, run, value, write}
use Rattle.language.specs.Move.{Event, Move, answer, at, bytes, move, private, question, record_of, value_of}
use Rattle.sheet_written.specs.Written.{Name, Sheet, declare, retire}
use Rattle.sheet_written.specs.Width.{name_width, names_width, heading_width}
use Rattle.sheet_reader.specs.Fine.{Accepted}
use Rattle.card_bytes.specs.Kinds.{filed}
use Rattle.serve_card.specs.Positions.{Arc, Position}
use Rattle.serve_card.specs.Card.{arc_bytes, arcs_bytes, card_bytes, table_bytes}
use Rattle.serve_card.specs.Promise.{space_for}

-- all moves of a table
unfoldable pub all_moves : List Position → ℕ
all_moves [] = 0
all_moves (p ∷ T) = length p.arcs + all_moves T

one_value : (N : Numbers) (e : Event) → length (bytes N (value_of e)) ≤ 1
unfolding bytes value_of
one_value N (question run) = omega arith
one_value N (question ask) = omega arith
one_value N (question read) = omega arith
one_value N (question (write v)) = omega arith
one_value N (answer done) = omega arith
one_value N (answer ok) = omega arith
one_value N (answer (value v)) = omega arith

pub four_bytes : (N : Numbers) (m : Move) → length (record_of N m) ≤ 4
unfolding record_of
four_bytes N (move (at i j) e) = omega (arith, one_value N e)
four_bytes N (move (private i) e) = omega arith

arc-length : (N : Numbers) (a : Arc) → length (arc_bytes N a) ≤ 7
unfolding arc_bytes filed
arc-length N a =
    let r = record_of N a.by in
    omega (arith, four_bytes N a.by, length-append r (a.to % 256 ∷ a.to / 256 ∷ []))

arcs-length : (N : Numbers) (xs : List Arc) → length (arcs_bytes N xs) ≤ 7 * length xs
unfolding arcs_bytes
arcs-length N [] = omega arith
arcs-length N (a ∷ xs) =
    let h = arcs-length N xs in
    omega (arith, h, arc-length N a, length-append (arc_bytes N a) (arcs_bytes N xs))

-- two bytes for each position, seven for each move
table-length : (N : Numbers) (T : List Position) → length (table_bytes N T) ≤ 2 * length T + 7 * all_moves T
unfolding table_bytes all_moves
table-length N [] = omega arith
table-length N (p ∷ T) =
    let h = table-length N T in
    omega (arith, h, arcs-length N p.arcs, length-append (arcs_bytes N p.arcs) (table_bytes N T))

name-short : (n : Name) → name_width n ≤ 8
unfolding name_width
name-short (declare often id ty tys) = omega arith
name-short (retire id) = omega arith

names-short : (ns : List Name) → names_width ns ≤ 8 * length ns
unfolding names_width
names-short [] = omega arith
names-short (n ∷ ns) = omega (arith, name-short n, names-short ns)

pub heading-short : (S : Sheet) → Accepted S → heading_width S ≤ 258
unfolding heading_width
heading-short S A = omega (arith, names-short S.names, A.ordered.few_names)

take-length : (n : ℕ) (s : List ℕ) → length (take n s) ≤ n
take-length zero s = omega arith
take-length (suc n) [] = omega arith
take-length (suc n) (x ∷ s) = let h = take-length n s in omega arith

pub card-length : (s : List ℕ) (h ty : ℕ) (N : Numbers) (T : List Position)
    → length (card_bytes s h ty N T) ≤ h + 1 + 2 * length T + 7 * all_moves T
unfolding card_bytes
card-length s h ty N T =
    omega (arith, length-append (take h s) (ty ∷ table_bytes N T), take-length h s, table-length N T)

-- at least 128 bytes are asked for each unit of size, and 512 where Z is above 7
pub space-least : (N : Numbers) (size : ℕ) → 128 * size ≤ space_for N size
unfolding space_for
space-least N size = go (ltb earlier_z N.z)
  where
    go : (b : Bool) → 128 * size ≤ pick b 512 128 * size
    go true = omega arith
    go false = omega arith

pub space-most : (N : Numbers) (size : ℕ) → space_for N size ≤ 512 * size
unfolding space_for
space-most N size = go (ltb earlier_z N.z)
  where
    go : (b : Bool) → pick b 512 128 * size ≤ 512 * size
    go true = omega arith
    go false = omega arith

pub space-few : (N : Numbers) (size : ℕ) → N.z ≤ earlier_z → space_for N size ≡ 128 * size
unfolding space_for
space-few N size h = rw (le-ltb earlier_z N.z h) refl

pub space-more : (N : Numbers) (size : ℕ) → earlier_z < N.z → space_for N size ≡ 512 * size
unfolding space_for
space-more N size h = rw (lt-ltb earlier_z N.z h) refl

-- THEOREM: a card of at most S positions and (1 + K) / 2 × S moves fits where S is 5 or more
pub fits : (S : Sheet) → Accepted S → (s : List ℕ) (ty size : ℕ) (T : List Position) → 5 ≤ size → length T ≤ size
    → 2 * all_moves T ≤ (1 + numbers S.numbers) * size
    → length (card_bytes s (heading_width S) ty S.numbers T) ≤ space_for S.numbers size
fits S A s ty size T h k m = by (dec_lt earlier_z S.numbers.z)
  where
    long : length (card_bytes s (heading_width S) ty S.numbers T)
        ≤ heading_width S + 1 + 2 * length T + 7 * all_moves T
    long = card-length s (heading_width S) ty S.numbers T

    by : Dec (earlier_z < S.numbers.z)
        → length (card_bytes s (heading_width S) ty S.numbers T) ≤ space_for S.numbers size
    by (yes l) =
        let most : 1 + numbers S.numbers ≤ 67 =
        omega (arith, numbers-within S.numbers, A.ordered.in_order.z_below) in
        omega (arith, m, mul-le-mul_right size most, long, heading-short S A, space-more S.numbers size l)
    by (no l) =
        let most : 1 + numbers S.numbers ≤ 19 = omega (arith, numbers-within S.numbers) in
        omega (arith, m, mul-le-mul_right size most, long, heading-short S A, space-least S.numbers size)
