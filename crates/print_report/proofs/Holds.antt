-- The program's buffer holds every text that it can print: at most 510 moves of 15 bytes each, after three
-- lines.
use Prim.Native.Nat.{ℕ, zero, suc, ◌+◌, ◌*◌, ◌≤◌, ◌<◌}
use native.Mathlib.Omega.{arith}
use mathlib.Core.Path.{◌≡◌, refl, ap, ◌∙◌}
use mathlib.Core.Bool.{Bool, true, false}
use mathlib.Core.List.{List, [], ◌∷◌, ◌++◌, append_assoc}
use mathlib.Core.Option.{Option, none, some}
use lib.ListN.{length, drop}
use lib.Seq.{take-append_seam}
use Rattle.language.specs.declared.Numbers.{Numbers}
use Rattle.language.specs.Number.{signed, to_byte}
use Rattle.language.specs.Ty.{run, ask, read, write, done, ok, value}
use Rattle.language.specs.Move.{
  question,
  answer,
  at,
  private,
  Move,
  move,
  Word,
  kind,
  value_of,
  bytes,
  record_of,
  records,
}
use Rattle.language.specs.Weight.{size}
use Rattle.language.proofs.NumberLaws.{modulo-below}
use Rattle.states_words.specs.Letter.{Small}
use Rattle.sheet_written.specs.Written.{Name, Sheet}
use Rattle.sheet_written.specs.Uses.{is_declared, is_used, bit, count, used_of, declared_in}
use Rattle.sheet_reader.specs.Fine.{Accepted}
use Rattle.sheet_written.specs.Meaning.{ty_of, term_of}
use Rattle.sheet_records.specs.declared.edition.Edition.TheVariants.{Present}
use Rattle.std.specs.Prelude.{Result}
use Rattle.sheet_records.specs.declared.refusal.Cause.{Cause}
use Rattle.sheet_reader.specs.Reader.{read_sheet}
use Rattle.sheet_judge.specs.Mark.{uses_of}
use Rattle.sheet_reader.proofs.Right.{gives}
use Rattle.states_words.specs.Letter.{AllSmall}
use Rattle.states_words.proofs.Ranges.{sheet-small}
use Rattle.serve_compare.specs.Plays.{reckoned, Only}
use Rattle.serve_compare.specs.Refusals.{compare_refusal}
use Rattle.serve_compare.specs.Promise.{Holds, Decided, same, apart, ComparedBy}
use Rattle.serve_compare.specs.declared.Comparison.{Comparison}
use Rattle.serve_compare.proofs.Unique.{held-accepted}
use Rattle.print_text.specs.Text.{found_text, ascii, first_move, first_width, moves_text, size_in, declared_of, sheets_text}
use Rattle.print_text.specs.Text.{text_of}
use Rattle.print_report.specs.Program.{BufferHolds, PrintsWhole}
use Rattle.print_report.proofs.Fits.{reported-fits}
use Rattle.print_report.proofs.Lent.{Bounded, bounded}
use Rattle.print_report.proofs.Short.{AtMost, all, looser, both, refused-short, sizes-short, uses-short, apart-short}
use Rattle.print_report.proofs.Short.{plain-line, valued-line}
use Rattle.sheet_records.specs.declared.refusal.Sheets.{Sheets}
use Rattle.sheet_records.specs.declared.refusal.Sheets.TheVariants.{Old, New, Both}

-- the line of a move's record, and what follows the record
module _ (M N : Numbers) where
  byte-below : (v : ℕ) → to_byte (signed M v) < 256
  unfolding to_byte
  byte-below v = modulo-below (signed M v) 256 (omega arith)

  first-line : (m : Move) → Small N m → (s : List ℕ) → AtMost 15 (first_move (record_of M m ++ s))
      × (drop (first_width (record_of M m ++ s)) (record_of M m ++ s) ≡ s)
  unfolding Small record_of kind value_of bytes first_move first_width
  first-line (move (private i) e) h s = absurd h
  first-line (move (at i j) (question run)) (hi, hj, hv) s = (plain-line 0 i j _ (omega arith) hi hj, refl)
  first-line (move (at i j) (answer done)) (hi, hj, hv) s = (plain-line 1 i j _ (omega arith) hi hj, refl)
  first-line (move (at i j) (question ask)) (hi, hj, hv) s = (plain-line 2 i j _ (omega arith) hi hj, refl)
  first-line (move (at i j) (question read)) (hi, hj, hv) s = (plain-line 3 i j _ (omega arith) hi hj, refl)
  first-line (move (at i j) (answer ok)) (hi, hj, hv) s = (plain-line 4 i j _ (omega arith) hi hj, refl)
  first-line (move (at i j) (answer (value v))) (hi, hj, hv) s =
      (valued-line 5 i j _ (omega arith) (omega arith) hi hj (byte-below v), refl)
  first-line (move (at i j) (question (write v))) (hi, hj, hv) s =
      (valued-line 6 i j _ (omega arith) (omega arith) hi hj (byte-below v), refl)

  -- the lines of a play
  lines : (u : Word) → AllSmall N u → (s : List ℕ) → AtMost (15 * length u) (moves_text (length u) (records M u ++ s))
  unfolding moves_text records AllSmall
  lines [] h s = all []
  lines (m ∷ u) h s =
      let f = first-line m h.0 (records M u ++ s) in
      let p = both f.0 (lines u h.1 s) in
      rw (append_assoc (record_of M m) (records M u) s, f.1) (looser (15 * suc (length u)) (omega arith) p)

-- a play that one of two sheets has
small_of : (S T : Sheet) → Accepted S → Accepted T → (which : Sheets) (u : Word) → Only which S T u →
    (N : Numbers) × AllSmall N u
unfolding Only
small_of S T A B Old u h = (S.numbers, sheet-small S A.ordered u h.0)
small_of S T A B New u h = (T.numbers, sheet-small T B.ordered u h.0)
small_of S T A B Both u h = absurd h

-- the size that is printed is the reckoned one
held-reckoned : {s : List ℕ} {S : Sheet} → Holds s S → size_in (read_sheet s) ≡ reckoned S
unfolding size_in
held-reckoned {s} {S} h =
    let g = gives Present s S h.type h.size h.reads in
    rw h.reads (g.3 ∙ ap (λ (t : ℕ). size (ty_of S.numbers t) (term_of S)) g.2)

-- no more of the records than there are
count_most : (f : Name → Bool) (ns : List Name) → count f ns ≤ length ns
unfolding count bit
count_most f [] = omega arith
count_most f (n ∷ ns) = go (f n) (count_most f ns)
  where
    go : (b : Bool) → count f ns ≤ length ns → bit b + count f ns ≤ suc (length ns)
    go true h = omega arith
    go false h = omega arith

-- the names that a sheet uses and those that it declares: at most 32
few-used : {s : List ℕ} (S : Sheet) → Holds s S → (uses_of S).used ≤ 32
unfolding uses_of used_of
few-used S h = omega (arith, count_most (is_used S) S.names, (held-accepted h).ordered.few_names)

few-declared : {s : List ℕ} (S : Sheet) → Holds s S → declared_of (read_sheet s) ≤ 32
unfolding declared_of declared_in
few-declared S h =
    rw h.reads (omega (arith, count_most is_declared S.names, (held-accepted h).ordered.few_names))

-- the lines of two sheets
sheets-short : {old new : List ℕ} (S T : Sheet) → Holds old S → Holds new T → size_in (read_sheet old) < 10000 →
    size_in (read_sheet new) < 10000 → AtMost 45 (sheets_text old new (uses_of S) (uses_of T))
unfolding sheets_text
sheets-short {old} {new} S T h k l m =
    both (sizes-short (size_in (read_sheet old)) (size_in (read_sheet new)) l m)
    (uses-short (uses_of S).used (declared_of (read_sheet old)) (uses_of T).used (declared_of (read_sheet new))
    (few-used S h) (few-declared S h) (few-used T k) (few-declared T k))

-- the text of an accepted call
accepted-text : {old new space : List ℕ} {S T : Sheet} {r : Result Comparison Cause} {space' : List ℕ} → Holds old S → Holds new T →
    size_in (read_sheet old) + size_in (read_sheet new) ≤ 511 → Decided S T space r space' →
    AtMost 8192 (text_of old new r space')
unfolding text_of found_text
accepted-text {old} {new} {space} {S} {T} h k b (same d) =
    let p = both (sheets-short S T h k (omega arith) (omega arith)) (all (ascii "same\n")) in
    rw d.answer (looser 8192 (omega arith) p)
accepted-text {old} {new} {space} {S} {T} h k b (apart d) =
    let u = d.play in
    let few : length u ≤ 510 = omega (arith, d.short, held-reckoned h, held-reckoned k) in
    let a = small_of S T (held-accepted h) (held-accepted k) d.which u d.first.only in
    let p = both (both (sheets-short S T h k (omega arith) (omega arith))
    (apart-short d.which (length u) (omega (arith, few))))
    (lines S.numbers a.0 u a.1 (drop (length (records S.numbers u)) space)) in
    rw (d.answer, d.written) (looser 8192 (omega (arith, few)) p)

-- THEOREM: the buffer holds every text
buffer-holds : BufferHolds
unfolding ComparedBy Bounded text_of
buffer-holds old new ws space r ws' space' a b p =
    go (compare_refusal old new (length ws) (length space)) (rw (a, b) (bounded old new)) p
  where
    go : (x : Option Cause) → Bounded (size_in (read_sheet old) + size_in (read_sheet new)) x →
        ComparedBy x old new ws space r ws' space' → length (text_of old new r space') ≤ 8192
    go none n c = (accepted-text c.first_held c.second_held n c.decided).holds
    go (some x) n c =
        let p = refused-short x (omega (arith, n.0)) (omega (arith, n.2)) in
        rw c.0 (looser 8192 (omega arith) p).holds

-- THEOREM: what is printed is the whole text
pub prints-whole : PrintsWhole
prints-whole old new ws space out count ws' space' out' a b c R =
    let h = buffer-holds old new ws space R.answer ws' space' a b R.compared in
    let f = reported-fits R (omega arith) in
    rw (f.0, f.1) (take-append_seam _ _)
