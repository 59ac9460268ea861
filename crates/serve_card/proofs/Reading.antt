-- The table is read back from the bytes of a card.
use mathlib.Core.Bool.{Bool, cond, false, true}
use mathlib.Core.List.{List, [], ◌++◌, ◌∷◌, append_assoc}
use mathlib.Core.Path.{◌∙◌, ◌≡◌, ap, ap₂, refl, subst, sym}
use Prim.Native.Nat.{◌%◌, ◌*◌, ◌+◌, ◌/◌, ◌≤◌, suc, zero, ℕ}
use native.Mathlib.Nat.{mod-add-div'}
use native.Mathlib.Omega.{arith}
use lib.ListN.{drop, length, length-append, length-take, take}
use Rattle.language.specs.declared.Numbers.{Numbers}
use Rattle.language.specs.Number.{numbers, signed, to_byte}
use Rattle.language.specs.Ty.{ask, done, ok, read, run, value, write}
use Rattle.language.specs.Move.{Move, answer, at, bytes, kind, move, private, question, record_of, value_of}
use Rattle.states_words.specs.Letter.{Small, event_of, letter, ranked}
use Rattle.states_words.proofs.LetterLaws.{event-again}
use Rattle.play_records.specs.Bytes.{first_letter, letter_from}
use Rattle.play_records.proofs.WritingPlays.{record-letter}
use Rattle.sheet_records.specs.declared.edition.Edition.TheVariants.{Present}
use Rattle.sheet_written.specs.Width.{heading_width}
use Rattle.sheet_reader.specs.Fine.{Accepted}
use Rattle.sheet_reader.proofs.Right.{gives}
use Rattle.card_bytes.specs.Kinds.{filed, move_kind}
use Rattle.serve_card.specs.Card.{arc_bytes, arcs_bytes, card_bytes, table_bytes}
use Rattle.serve_card.specs.Positions.{Arc, Position}
use Rattle.serve_card.specs.Reading.{Read, arc_from, move_from, moved, nothing, opened, read_records, read_table}
use Rattle.serve_card.specs.Rules.{CardReads}
use Rattle.serve_card.specs.Smallest.{HasPlays}
use Rattle.serve_card.proofs.Bytes.{SmallArcs, SmallTable, same-arc, small-first, small-rest}
use Rattle.serve_card.proofs.Plays.{is-table}
use Rattle.serve_card.proofs.SameCards.{heading-within}
use Rattle.serve_card.proofs.Tables.{few, table-small}

module _ (N : Numbers) (few : N.z ≤ 125) where
  -- the bytes x are read as r
  abbrev Reads : List ℕ → Read → Type 0
  Reads x r = (n : ℕ) → length x ≤ n → read_records N n x ≡ r

  reads_none : Reads [] nothing
  unfolding read_records
  reads_none zero h = refl
  reads_none (suc n) h = refl

  -- one record more at the start
  reads_three : (k i j low high : ℕ) (x : List ℕ) (r : Read) → Reads x r
      → Reads (41 ∷ k ∷ i ∷ j ∷ low ∷ high ∷ x) (moved (arc_from N k i j 0 low high) r)
  unfolding read_records
  reads_three k i j low high x r R zero h = absurd (omega arith)
  reads_three k i j low high x r R (suc n) h = ap (moved (arc_from N k i j 0 low high)) (R n (omega arith))

  reads-four : (k i j v low high : ℕ) (x : List ℕ) (r : Read) → Reads x r
      → Reads (42 ∷ k ∷ i ∷ j ∷ v ∷ low ∷ high ∷ x) (moved (arc_from N k i j v low high) r)
  unfolding read_records
  reads-four k i j v low high x r R zero h = absurd (omega arith)
  reads-four k i j v low high x r R (suc n) h = ap (moved (arc_from N k i j v low high)) (R n (omega arith))

  reads-position : (b : Bool) (x : List ℕ) (r : Read) → Reads x r → Reads (40 ∷ cond b 1 0 ∷ x) (opened b r)
  unfolding read_records
  reads-position b x r R zero h = absurd (omega arith)
  reads-position true x r R (suc n) h = ap (opened true) (R n (omega arith))
  reads-position false x r R (suc n) h = ap (opened false) (R n (omega arith))

  -- a number from its two bytes
  two_bytes : (t : ℕ) → t % 256 + t / 256 * 256 ≡ t
  two_bytes t = mod-add-div' t 256

  reads_short : (k i j to : ℕ) (x : List ℕ) (r : Read) (m : Move) → move_from N k i j 0 ≡ m → Reads x r
      → Reads (41 ∷ k ∷ i ∷ j ∷ to % 256 ∷ to / 256 ∷ x) (moved (record { by = m; to = to }) r)
  reads_short k i j to x r m e R =
      subst (λ (a : Arc). Reads (41 ∷ k ∷ i ∷ j ∷ to % 256 ∷ to / 256 ∷ x) (moved a r))
      (same-arc (arc_from N k i j 0 (to % 256) (to / 256)) (record { by = m; to = to }) e (two_bytes to))
      (reads_three k i j (to % 256) (to / 256) x r R)

  reads-long : (k i j v to : ℕ) (x : List ℕ) (r : Read) (m : Move) → move_from N k i j v ≡ m → Reads x r
      → Reads (42 ∷ k ∷ i ∷ j ∷ v ∷ to % 256 ∷ to / 256 ∷ x) (moved (record { by = m; to = to }) r)
  reads-long k i j v to x r m e R =
      subst (λ (a : Arc). Reads (42 ∷ k ∷ i ∷ j ∷ v ∷ to % 256 ∷ to / 256 ∷ x) (moved a r))
      (same-arc (arc_from N k i j v (to % 256) (to / 256)) (record { by = m; to = to }) e (two_bytes to))
      (reads-four k i j v (to % 256) (to / 256) x r R)

  -- a value is found again by its byte
  written-again : (i j v : ℕ) → Small N (move (at i j) (question (write v)))
      → move_from N 6 i j (to_byte (signed N v)) ≡ move (at i j) (question (write v))
  unfolding Small letter record_of kind value_of bytes ranked first_letter letter_from move_from
  written-again i j v s =
      let b : (to_byte (signed N v) + 128) % 256 ≡ ranked N (v ∷ []) =
      omega (arith, record-letter N few (move (at i j) (question (write v))) s) in
      ap (move (at i j)) (ap (event_of N 6) b ∙ event-again N few (question (write v)) s.2)

  answered-again : (i j v : ℕ) → Small N (move (at i j) (answer (value v)))
      → move_from N 5 i j (to_byte (signed N v)) ≡ move (at i j) (answer (value v))
  unfolding Small letter record_of kind value_of bytes ranked first_letter letter_from move_from
  answered-again i j v s =
      let b : (to_byte (signed N v) + 128) % 256 ≡ ranked N (v ∷ []) =
      omega (arith, record-letter N few (move (at i j) (answer (value v))) s) in
      ap (move (at i j)) (ap (event_of N 5) b ∙ event-again N few (answer (value v)) s.2)

  -- the bytes of a move are read as the move
  reads-move : (m : Move) (to : ℕ) (x : List ℕ) (r : Read) → Small N m → Reads x r
      → Reads (filed (record_of N m) to ++ x) (moved (record { by = m; to = to }) r)
  unfolding filed move_kind record_of kind value_of bytes move_from event_of
  reads-move (move (private i) e) to x r s R = absurd (unfold Small in s)
  reads-move (move (at i j) (question run)) to x r s R = reads_short 0 i j to x r _ refl R
  reads-move (move (at i j) (question ask)) to x r s R = reads_short 2 i j to x r _ refl R
  reads-move (move (at i j) (question read)) to x r s R = reads_short 3 i j to x r _ refl R
  reads-move (move (at i j) (question (write v))) to x r s R =
      reads-long 6 i j (to_byte (signed N v)) to x r _ (written-again i j v s) R
  reads-move (move (at i j) (answer done)) to x r s R = reads_short 1 i j to x r _ refl R
  reads-move (move (at i j) (answer ok)) to x r s R = reads_short 4 i j to x r _ refl R
  reads-move (move (at i j) (answer (value v))) to x r s R =
      reads-long 5 i j (to_byte (signed N v)) to x r _ (answered-again i j v s) R

  -- so are those of moves
  reads-arcs : (xs : List Arc) (x : List ℕ) (U : List Position) → SmallArcs N xs
      → Reads x (record { arcs = []; positions = U })
      → Reads (arcs_bytes N xs ++ x) (record { arcs = xs; positions = U })
  unfolding arcs_bytes arc_bytes moved
  reads-arcs [] x U s R = R
  reads-arcs (a ∷ xs) x U s R =
      let q = reads-arcs xs x U (small-rest N a xs s) R in
      subst (λ (y : List ℕ). Reads y (record { arcs = a ∷ xs; positions = U }))
      (sym (append_assoc (arc_bytes N a) (arcs_bytes N xs) x))
      (reads-move a.by a.to (arcs_bytes N xs ++ x) (record { arcs = xs; positions = U }) (small-first N a xs s) q)

  -- and of positions
  reads-table : (T : List Position) → SmallTable N T → Reads (table_bytes N T) (record { arcs = []; positions = T })
  unfolding table_bytes opened
  reads-table [] s = reads_none
  reads-table (p ∷ T) s =
      let q = reads-table T (λ k h. s (suc k) (omega arith)) in
      reads-position p.end (arcs_bytes N p.arcs ++ table_bytes N T) (record { arcs = p.arcs; positions = T })
      (reads-arcs p.arcs (table_bytes N T) T (s 0 (omega arith)) q)

  -- THEOREM: a table is read back from its bytes
  read_back : (T : List Position) → SmallTable N T → read_table N (table_bytes N T) ≡ T
  unfolding read_table
  read_back T s = ap (λ (r : Read). r.positions) (reads-table T s (length (table_bytes N T)) (omega arith))

drop-front : (xs ys : List ℕ) → drop (length xs) (xs ++ ys) ≡ ys
drop-front [] ys = refl
drop-front (x ∷ xs) ys = drop-front xs ys

-- what stands after the heading and the type
after-type : (s : List ℕ) (h ty : ℕ) (N : Numbers) (T : List Position) → h ≤ length s
    → drop (h + 1) (card_bytes s h ty N T) ≡ table_bytes N T
unfolding card_bytes
after-type s h ty N T k =
    let front = take h s ++ (ty ∷ []) in
    let l : h + 1 ≡ length front = omega (arith, length-append (take h s) (ty ∷ []), length-take h s, k) in
    ap₂ drop l (sym (append_assoc (take h s) (ty ∷ []) (table_bytes N T))) ∙ drop-front front (table_bytes N T)

-- THEOREM: what is read from a card is its table, which has exactly the complete plays
pub card-reads : CardReads
card-reads s c C =
    let S = C.sheet in
    let g = gives Present s S C.type C.size C.reads in
    let A : Accepted S = g.1 in
    let h = heading_width S in
    let e : read_table S.numbers (drop (h + 1) c) ≡ C.table =
    ap (λ (x : List ℕ). read_table S.numbers (drop (h + 1) x)) C.bytes
    ∙ ap (read_table S.numbers) (after-type s h C.type S.numbers C.table (heading-within s S g.0))
    ∙ read_back S.numbers (few S A) C.table (table-small S A C.table C.positions) in
    (e, subst (HasPlays S) (sym e) (is-table S A C.table C.positions))
