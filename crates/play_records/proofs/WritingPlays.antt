-- The records of moves and of letters, and how the code writes them.
use Prim.Native.Nat.{ℕ, suc, ◌+◌, ◌*◌, ◌/◌, ◌%◌, ◌≤◌, ◌<◌}
use native.Mathlib.Omega.{arith}
use native.Mathlib.Nat.{add-zero}
use mathlib.Core.Path.{◌≡◌, refl, sym, ap, ap₂, ◌∙◌}
use mathlib.Core.List.{List, [], ◌∷◌, ◌++◌}
use lib.Dec.{ltb}
use lib.ListN.{length, get_or, drop, set, length-append}
use lib.Seq.{sets, sets-eq}
use borrow.Author.Tests.{lt-ltb, le-ltb, ltb-true, ltb-false}
use Rattle.language.specs.declared.Numbers.{Numbers}
use Rattle.language.specs.Choice.{pick}
use lib.IntN.{pos, ◌-ℤ◌}
use Rattle.language.specs.Number.{numbers, modulo, signed, to_byte}
use Rattle.language.specs.Ty.{run, ask, read, write, done, ok, value}
use Rattle.language.specs.Move.{question, answer, at, private, Move, move, Word, kind, value_of, bytes}
use Rattle.language.specs.Move.{record_of, records}
use Rattle.states_words.specs.Letter.{ranked, letter}
use Rattle.language.specs.Order.{rank}
use Rattle.language.proofs.NumberLaws.{minus-below, modulo-below, by-test}
use Rattle.language.proofs.OrderLaws.{rank-small, signed-rank, up-128}
use Rattle.states_words.specs.Letter.{Values, Small}
use Rattle.states_words.proofs.LetterLaws.{ranked-byte}
use Rattle.states_words.specs.Letter.{AllSmall}
use Rattle.play_records.specs.Records.{Given, moves, bad, preceded, parse}
use Rattle.play_records.specs.Bytes.{letter_from, first_letter, record_by, records_by}
use Rattle.play_records.specs.Spell.{letters}

-- the records that there are: bytes of a kind, an id, an argument and, in kinds 5 and 6, a value
pub data Record : List ℕ → Type 0 where
  short : (k i j : ℕ) → k < 5 → i < 256 → j < 256 → Record (k ∷ i ∷ j ∷ [])
  long : (k i j v : ℕ) → 5 ≤ k → k < 7 → i < 256 → j < 256 → v < 256 → Record (k ∷ i ∷ j ∷ v ∷ [])

-- the letter of a record of three bytes
letter-short : (k i j : ℕ) → k < 5 → first_letter (k ∷ i ∷ j ∷ []) ≡ k * 16777216 + i * 65536 + j * 256
unfolding first_letter letter_from
letter-short k i j h = rw (lt-ltb k 5 h)

-- the letter of a record of four bytes
letter-long : (k i j v : ℕ) → 5 ≤ k →
    first_letter (k ∷ i ∷ j ∷ v ∷ []) ≡ k * 16777216 + i * 65536 + j * 256 + (v + 128) % 256
unfolding first_letter letter_from
letter-long k i j v h = rw (le-ltb k 5 h)

-- records with one letter are the same
same-record : {r s : List ℕ} → Record r → Record s → first_letter r ≡ first_letter s → r ≡ s
same-record (short k i j hk hi hj) (short l m n hl hm hn) e =
    let f : k * 16777216 + i * 65536 + j * 256 ≡ l * 16777216 + m * 65536 + n * 256 =
    sym (letter-short k i j hk) ∙ e ∙ letter-short l m n hl in
    let a : k ≡ l = omega arith in
    let b : i ≡ m = omega arith in
    let c : j ≡ n = omega arith in
    rw (a, b, c)
same-record (short k i j hk hi hj) (long l m n v gl hl hm hn hv) e =
    absurd (omega (arith, sym (letter-short k i j hk) ∙ e ∙ letter-long l m n v gl))
same-record (long k i j u gk hk hi hj hu) (short l m n hl hm hn) e =
    absurd (omega (arith, sym (letter-long k i j u gk) ∙ e ∙ letter-short l m n hl))
same-record (long k i j u gk hk hi hj hu) (long l m n v gl hl hm hn hv) e =
    let f : k * 16777216 + i * 65536 + j * 256 + (u + 128) % 256 ≡
    l * 16777216 + m * 65536 + n * 256 + (v + 128) % 256 =
    sym (letter-long k i j u gk) ∙ e ∙ letter-long l m n v gl in
    let a : k ≡ l = omega arith in
    let b : i ≡ m = omega arith in
    let c : j ≡ n = omega arith in
    let d : u ≡ v = omega arith in
    rw (a, b, c, d)

-- all of a list are records
unfoldable pub Good : List (List ℕ) → Type 0
Good [] = Unit
Good (r ∷ rs) = Record r × Good rs

-- where a play is records, all of them are
unfoldable pub GoodGiven : Given → Type 0
GoodGiven (moves rs) = Good rs
GoodGiven (bad place) = Unit

-- a record more at the start
good-before : (r : List ℕ) (g : Given) → Record r → GoodGiven g → GoodGiven (preceded r g)
unfolding GoodGiven Good preceded
good-before r (moves rs) h k = (h, k)
good-before r (bad place) h k = tt

-- a record of four bytes, where there is its kind, and those after it
good-four : (k i j v place : ℕ) (g : Given) → 5 ≤ k → i < 256 → j < 256 → v < 256 → GoodGiven g →
    GoodGiven (pick (ltb k 7) (preceded (k ∷ i ∷ j ∷ v ∷ []) g) (bad place))
unfolding GoodGiven
good-four k i j v place g gk hi hj hv h =
    by-test (ltb k 7)
    (λ t. rw t (good-before (k ∷ i ∷ j ∷ v ∷ []) g (long k i j v gk (ltb-true k 7 t) hi hj hv) h))
    (λ t. rw t tt)

-- THEOREM: the records of a play of bytes are records
good-parse : (place : ℕ) (s : List ℕ) → ((i : ℕ) → get_or s i 0 < 256) → GoodGiven (parse place s)
unfolding GoodGiven Good parse
good-parse place [] h = tt
good-parse place (k ∷ []) h = tt
good-parse place (k ∷ i ∷ []) h = tt
good-parse place (k ∷ i ∷ j ∷ []) h =
    by-test (ltb k 5) (λ t. rw t (short k i j (ltb-true k 5 t) (h 1) (h 2), tt)) (λ t. rw t tt)
good-parse place (k ∷ i ∷ j ∷ v ∷ s) h =
    let three = good-parse (place + 3) (v ∷ s) (λ n. h (suc (suc (suc n)))) in
    let four = good-parse (place + 4) s (λ n. h (suc (suc (suc (suc n))))) in
    by-test (ltb k 5)
    (λ t. rw t (good-before (k ∷ i ∷ j ∷ []) _ (short k i j (ltb-true k 5 t) (h 1) (h 2)) three))
    (λ t. rw t (good-four k i j v place _ (ltb-false k 5 t) (h 1) (h 2) (h 3) four))

-- THEOREM: the same, where it has no bad record
pub good-moves : (s : List ℕ) → ((i : ℕ) → get_or s i 0 < 256) → (rs : List (List ℕ)) → parse 0 s ≡ moves rs → Good rs
unfolding GoodGiven
good-moves s h rs e = rw e at (good-parse 0 s h)

-- the record of a letter has three bytes or four
pub record-width : (l : ℕ) → (3 ≤ length (record_by l)) × (length (record_by l) ≤ 4)
unfolding record_by
record-width l =
    by-test (ltb (l / 16777216) 5) (λ t. rw t (omega arith, omega arith)) (λ t. rw t (omega arith, omega arith))

-- its bytes, where it is one of three bytes
by-short : (k i j l : ℕ) → k < 5 → i < 256 → j < 256 → l ≡ k * 16777216 + i * 65536 + j * 256 + 0 →
    k ∷ i ∷ j ∷ [] ≡ record_by l
unfolding record_by
by-short k i j l hk hi hj e =
    let a : l / 16777216 % 256 ≡ k = omega arith in
    let b : l / 65536 % 256 ≡ i = omega arith in
    let c : l / 256 % 256 ≡ j = omega arith in
    rw (lt-ltb (l / 16777216) 5 (omega arith), a, b, c)

-- its bytes, where it is one of four bytes
by-long : (k i j r v l : ℕ) → 5 ≤ k → k < 7 → i < 256 → j < 256 → r < 256 → v ≡ (r + 128) % 256 →
    l ≡ k * 16777216 + i * 65536 + j * 256 + r → k ∷ i ∷ j ∷ v ∷ [] ≡ record_by l
unfolding record_by
by-long k i j r v l gk hk hi hj hr ev e =
    let a : l / 16777216 % 256 ≡ k = omega arith in
    let b : l / 65536 % 256 ≡ i = omega arith in
    let c : l / 256 % 256 ≡ j = omega arith in
    let d : l % 256 ≡ r = omega arith in
    rw (le-ltb (l / 16777216) 5 (omega arith), a, b, c, d, ev)

-- the byte of a number, by its rank
rank-byte : (r : ℕ) → r < 256 → to_byte (pos r -ℤ pos 128) ≡ (r + 128) % 256
unfolding to_byte modulo
rank-byte r h =
    by-test (ltb r 128)
    (λ t. rw (minus-below r 128 (ltb-true r 128 t)) (omega (arith, ltb-true r 128 t)))
    (λ t. rw (up-128 r (ltb-false r 128 t)) (omega (arith, ltb-false r 128 t)))

module _ (N : Numbers) (few : N.z ≤ 125) where
  -- the byte of a value, by its rank
  value-byte : (v : ℕ) → v < numbers N → to_byte (signed N v) ≡ (rank N v + 128) % 256
  value-byte v h = rw (signed-rank N few v h) (rank-byte (rank N v) (rank-small N few v h))

  -- it is a byte
  byte-below : (v : ℕ) → to_byte (signed N v) < 256
  unfolding to_byte
  byte-below v = modulo-below (signed N v) 256 (omega arith)

  -- a move's record is a record
  record-good : (m : Move) → Small N m → Record (record_of N m)
  unfolding Small record_of kind value_of bytes
  record-good (move (private i) e) h = absurd h
  record-good (move (at i j) (question run)) (hi, hj, hv) = short 0 i j (omega arith) hi hj
  record-good (move (at i j) (question ask)) (hi, hj, hv) = short 2 i j (omega arith) hi hj
  record-good (move (at i j) (question read)) (hi, hj, hv) = short 3 i j (omega arith) hi hj
  record-good (move (at i j) (question (write v))) (hi, hj, hv) =
      long 6 i j _ (omega arith) (omega arith) hi hj (byte-below v)
  record-good (move (at i j) (answer done)) (hi, hj, hv) = short 1 i j (omega arith) hi hj
  record-good (move (at i j) (answer ok)) (hi, hj, hv) = short 4 i j (omega arith) hi hj
  record-good (move (at i j) (answer (value v))) (hi, hj, hv) =
      long 5 i j _ (omega arith) (omega arith) hi hj (byte-below v)

  -- it is the one that the code writes for its letter
  pub record-by : (m : Move) → Small N m → record_of N m ≡ record_by (letter N m)
  unfolding Small Values record_of letter kind value_of bytes ranked
  record-by (move (private i) e) h = absurd h
  record-by (move (at i j) (question run)) (hi, hj, hv) = by-short 0 i j _ (omega arith) hi hj refl
  record-by (move (at i j) (question ask)) (hi, hj, hv) = by-short 2 i j _ (omega arith) hi hj refl
  record-by (move (at i j) (question read)) (hi, hj, hv) = by-short 3 i j _ (omega arith) hi hj refl
  record-by (move (at i j) (question (write v))) (hi, hj, hv) =
      by-long 6 i j (rank N v) _ _ (omega arith) (omega arith) hi hj (ranked-byte N few (v ∷ []) hv)
      (value-byte v hv) refl
  record-by (move (at i j) (answer done)) (hi, hj, hv) = by-short 1 i j _ (omega arith) hi hj refl
  record-by (move (at i j) (answer ok)) (hi, hj, hv) = by-short 4 i j _ (omega arith) hi hj refl
  record-by (move (at i j) (answer (value v))) (hi, hj, hv) =
      by-long 5 i j (rank N v) _ _ (omega arith) (omega arith) hi hj (ranked-byte N few (v ∷ []) hv)
      (value-byte v hv) refl

  -- the letter of a value's byte
  value-letter : (k i j v : ℕ) → 5 ≤ k → v < numbers N →
      first_letter (k ∷ i ∷ j ∷ to_byte (signed N v) ∷ []) ≡ k * 16777216 + i * 65536 + j * 256 + rank N v
  unfolding ranked Values
  value-letter k i j v gk hv =
      letter-long k i j _ gk ∙ omega (arith, value-byte v hv, ranked-byte N few (v ∷ []) hv)

  -- THEOREM: the letter of a move's record is the move's letter
  pub record-letter : (m : Move) → Small N m → first_letter (record_of N m) ≡ letter N m
  unfolding Small Values record_of letter kind value_of bytes ranked
  record-letter (move (private i) e) h = absurd h
  record-letter (move (at i j) (question run)) h = letter-short 0 i j (omega arith) ∙ omega arith
  record-letter (move (at i j) (question ask)) h = letter-short 2 i j (omega arith) ∙ omega arith
  record-letter (move (at i j) (question read)) h = letter-short 3 i j (omega arith) ∙ omega arith
  record-letter (move (at i j) (question (write v))) (hi, hj, hv) = value-letter 6 i j v (omega arith) hv
  record-letter (move (at i j) (answer done)) h = letter-short 1 i j (omega arith) ∙ omega arith
  record-letter (move (at i j) (answer ok)) h = letter-short 4 i j (omega arith) ∙ omega arith
  record-letter (move (at i j) (answer (value v))) (hi, hj, hv) = value-letter 5 i j v (omega arith) hv

  -- THEOREM: a record with a move's letter is the move's record
  pub record-again : {r : List ℕ} → Record r → (m : Move) → Small N m → first_letter r ≡ letter N m → r ≡ record_of N m
  record-again g m h e = same-record g (record-good m h) (e ∙ sym (record-letter m h))

-- one run of stores after another
pub sets-append : (xs ys s : List ℕ) (i : ℕ) → sets s i (xs ++ ys) ≡ sets (sets s i xs) (i + length xs) ys
sets-append [] ys s i = rw (add-zero i)
sets-append (x ∷ xs) ys s i =
    let e : i + suc (length xs) ≡ suc i + length xs = omega arith in
    rw e (sets-append xs ys (set s i x) (suc i))

-- a record has at most four bytes
record-short : {r : List ℕ} → Record r → length r ≤ 4
record-short (short k i j hk hi hj) = omega arith
record-short (long k i j v gk hk hi hj hv) = omega arith

module _ (N : Numbers) (few : N.z ≤ 125) where
  -- a play's records are those of its letters
  written : (u : Word) → AllSmall N u → records_by (letters N u) ≡ records N u
  unfolding records_by letters records AllSmall
  written [] h = refl
  written (m ∷ u) h = ap₂ (λ x y. x ++ y) (sym (record-by N few m h.0)) (written u h.1)

  -- its records have at most four bytes each
  records-short : (u : Word) → AllSmall N u → length (records N u) ≤ 4 * length u
  unfolding records AllSmall
  records-short [] h = omega arith
  records-short (m ∷ u) h =
      omega (
        arith,
        length-append (record_of N m) (records N u),
        records-short u h.1,
        record-short (record-good N (omega arith) m h.0),
      )

  -- THEOREM: the letters of a play are written as its records, at the start of the space
  pub records-written : (u : Word) → AllSmall N u → (space : List ℕ) → 4 * length u ≤ length space →
      sets space 0 (records_by (letters N u)) ≡ records N u ++ drop (length (records N u)) space
  records-written u h space room =
      let e : 0 + length (records N u) ≡ length (records N u) = omega arith in
      let l : 0 + length (records N u) ≤ length space = omega (arith, records-short u h) in
      ap (sets space 0) (written u h) ∙ rw e at (sets-eq (records N u) space 0 l)
