-- The table that a reader leaves has the rows of the records at the places of their kind bytes (specs/inner/Seats).
use Prim.Native.Nat.{ℕ, ◌+◌, ◌≤◌}
use native.Mathlib.Omega.{arith}
use mathlib.Core.Path.{◌≡◌, refl, sym, ap, ◌∙◌, subst}
use mathlib.Core.List.{List, [], ◌∷◌}
use lib.ListN.{length}
use Rattle.language.specs.declared.Numbers.{Numbers}
use Rattle.sheet_rows.specs.Row.{class_of}
use Rattle.sheet_records.specs.declared.edition.Edition.{Edition}
use Rattle.sheet_heads.specs.declared.head.Record.{Record}
use Rattle.sheet_written.specs.Written as w
use Rattle.sheet_written.specs.Written.{Written, Name}
use Rattle.sheet_written.specs.Meaning.{Binder, typed}
use Rattle.sheet_written.specs.Width.{width, widths}
use Rattle.sheet_reader.specs.Reader.{Tree, written, writtens, build, first, rest}
use Rattle.sheet_reader.specs.table.Fill.{fill}
use Rattle.sheet_reader.proofs.Parsed.{Parsed, p-skip, p-diverge, p-truth, p-number, p-private, p-parameter}
use Rattle.sheet_reader.proofs.Parsed.{p-use, p-name, p-fetch, p-operate, p-assign, p-sequence, p-if, p-while, p-new}
use Rattle.sheet_reader.proofs.Parsed.{p-procedure, p-none, p-more}
use Rattle.sheet_written.specs.Pieces.{Piece, piece, each, pieces, own_width}
use Rattle.sheet_table.specs.inner.Seats.{Seat, Seated, seated, SeatedAll, seated_none}
use Rattle.sheet_table.specs.inner.Seats.{seated_more}
use Rattle.sheet_table.proofs.Rows.{Holds}
use Rattle.sheet_table.proofs.Spans.{placed}
use Rattle.sheet_table.proofs.Stored.{Stored, StoredParts, stores, own, parts, head, tail}
use Rattle.sheet_table.proofs.Shows.{Told, told}

-- a part that was read: how many bytes it has, and its rows
record Sits (ns : List Name) (U : List ℕ) (bs : List Binder) (at next : ℕ) (W : Written) : Type 0 where
  wide : next ≡ at + width W
  sits : Seated ns U bs at W

record SitsAll (ns : List Name) (U : List ℕ) (bs : List Binder) (at next : ℕ) (ws : w.Writtens) (n : ℕ) : Type 0 where
  counted : length (each bs ws) ≡ n
  wide : next ≡ at + widths ws
  sits : SeatedAll ns U at (each bs ws)

module _ {N : Numbers} {ns : List Name} {U : List ℕ} where
  seat : {r : Record} {at ty number end : ℕ} (bs : List Binder) (W : Written) → Holds N r ty number end U at →
      typed ns bs W ≡ ty → end ≡ at + width W → length (pieces bs W) ≤ 4 → Seat ns U bs at W
  seat bs W h y e l = record { ended = h.ended ∙ e; classed = h.class ∙ sym (ap class_of y); few = l }

  sit : {r : Record} {at ty number end : ℕ} (bs : List Binder) (W : Written) → Holds N r ty number end U at →
      typed ns bs W ≡ ty → end ≡ at + width W → length (pieces bs W) ≤ 4 →
      SeatedAll ns U (at + own_width W) (pieces bs W) → Sits ns U bs at end W
  sit bs W h y e l ps = record { wide = e; sits = seated (seat bs W h y e l) ps }

module _ {ns : List Name} {U : List ℕ} where
  one : {bs : List Binder} {at next : ℕ} {x : Written} → Sits ns U bs at next x → SeatedAll ns U at (piece bs x ∷ [])
  unfolding piece
  one X = seated_more X.sits seated_none

  before : {bs : List Binder} {at mid : ℕ} {x : Written} {ps : List Piece} → Sits ns U bs at mid x →
      SeatedAll ns U mid ps → SeatedAll ns U at (piece bs x ∷ ps)
  unfolding piece
  before {ps = ps} X s = seated_more X.sits (subst (λ (k : ℕ). SeatedAll ns U k ps) X.wide s)

module _ (N : Numbers) (s : List ℕ) (ns : List Name) (U : List ℕ) where
  -- a table that holds the rows of a reading has them at these places
  sits-read : {ed : Edition} {left at ty next : ℕ} {bs : List Binder} {π : ℕ → ℕ} {t : Tree} →
      Parsed ed N s ns left bs π at t ty next → Told s ns bs at t ty next → Stored N U at t →
      Sits ns U bs at next (written s t)
  unfolding written writtens build first rest typed width widths pieces own_width each
  sits-read d =
      elim d as
      (λ left bs π at t ty next d. Told s ns bs at t ty next → Stored N U at t → Sits ns U bs at next (written s t))
      (λ left bs π at ts tys next ds. (p j : ℕ) → StoredParts N U p j ts →
      SitsAll ns U bs at next (writtens s ts) (length tys)) [
        | p-skip {bs = bs} st ↦ λ T S.
            rw st.ruled (sit bs w.skip (own S) refl refl (omega arith) seated_none)
        | p-diverge {bs = bs} {r = r} st b h ↦ λ T S.
            rw st.ruled (sit bs (w.diverge r.a) (own S) refl refl (omega arith) seated_none)
        | p-truth {bs = bs} {r = r} st b h ↦ λ T S.
            rw st.ruled (sit bs (w.truth r.a) (own S) refl refl (omega arith) seated_none)
        | p-number {bs = bs} {r = r} st b h g ↦ λ T S.
            rw st.ruled (sit bs (w.number r.a) (own S) refl refl (omega arith) seated_none)
        | p-private {bs = bs} {r = r} st b h m l g e c ↦ λ T S.
            rw st.ruled (sit bs (w.call r.a w.none) (own S) (rw st.ruled at T.types) refl (omega arith)
            seated_none)
        | p-parameter {bs = bs} {r = r} st b h m l g c ↦ λ T S.
            rw st.ruled (sit bs (w.call r.a w.none) (own S) (rw st.ruled at T.types) refl (omega arith)
            seated_none)
        | p-use {at = at} {bs = bs} {r = r} {ts = ts} st b h m l e g k o c (ds → xs) ↦ λ T S.
            let A = xs at 0 (parts S) in
            rw st.ruled (sit bs (w.call r.a (writtens s ts)) (own S) (rw st.ruled at T.types)
            (omega (arith, A.wide)) (omega (arith, A.counted)) A.sits)
        | p-name {at = at} {bs = bs} {r = r} {ts = ts} st b h m l e g k c (ds → xs) ↦ λ T S.
            let A = xs at 0 (parts S) in
            rw st.ruled (sit bs (w.call r.a (writtens s ts)) (own S) (rw st.ruled at T.types)
            (omega (arith, A.wide)) (omega (arith, A.counted)) A.sits)
        | p-fetch {bs = bs} {t = t} st (d → x) h ↦ λ T S.
            let X = x (told N s ns d) (head (parts S)) in
            rw st.ruled (sit bs (w.fetch (written s t)) (own S) (rw st.ruled at T.types)
            (omega (arith, X.wide)) (omega arith) (one X))
        | p-operate {bs = bs} {r = r} {t = t} {u = u} st b h (d → x) (f → y) ↦ λ T S.
            let ps = parts S in
            let X = x (told N s ns d) (head ps) in
            let Y = y (told N s ns f) (head (tail ps)) in
            rw st.ruled (sit bs (w.operate r.a (written s t) (written s u)) (own S) refl
            (omega (arith, X.wide, Y.wide)) (omega arith) (before X (one Y)))
        | p-assign {bs = bs} {t = t} {u = u} st (d → x) h (f → y) ↦ λ T S.
            let ps = parts S in
            let X = x (told N s ns d) (head ps) in
            let Y = y (told N s ns f) (head (tail ps)) in
            rw st.ruled (sit bs (w.assign (written s t) (written s u)) (own S) refl
            (omega (arith, X.wide, Y.wide)) (omega arith) (before X (one Y)))
        | p-sequence {bs = bs} {t = t} {u = u} st (d → x) (f → y) ↦ λ T S.
            let ps = parts S in
            let X = x (told N s ns d) (head ps) in
            let Y = y (told N s ns f) (head (tail ps)) in
            rw st.ruled (sit bs (w.sequence (written s t) (written s u)) (own S) (rw st.ruled at T.types)
            (omega (arith, X.wide, Y.wide)) (omega arith) (before X (one Y)))
        | p-if {bs = bs} {b = b} {t = t} {u = u} st (d → x) (f → y) (g → z) ↦ λ T S.
            let ps = parts S in
            let X = x (told N s ns d) (head ps) in
            let Y = y (told N s ns f) (head (tail ps)) in
            let Z = z (told N s ns g) (head (tail (tail ps))) in
            rw st.ruled (sit bs (w.choose (written s b) (written s t) (written s u)) (own S)
            (rw st.ruled at T.types) (omega (arith, X.wide, Y.wide, Z.wide)) (omega arith)
            (before X (before Y (one Z))))
        | p-while {bs = bs} {t = t} {u = u} st (d → x) (f → y) ↦ λ T S.
            let ps = parts S in
            let X = x (told N s ns d) (head ps) in
            let Y = y (told N s ns f) (head (tail ps)) in
            rw st.ruled (sit bs (w.while (written s t) (written s u)) (own S) refl
            (omega (arith, X.wide, Y.wide)) (omega arith) (before X (one Y)))
        | p-new {bs = bs} {r = r} {t = t} st b h m v c l g (d → x) ↦ λ T S.
            let X = x (told N s ns d) (head (parts S)) in
            rw st.ruled (sit bs (w.new r.a r.b (written s t)) (own S) refl (omega (arith, X.wide)) (omega arith)
            (one X))
        | p-procedure {ty = ty} {ps = qs} {bs = bs} {r = r} {t = t} {u = u} st b h m v c l n k q v' (d → x) (f → y) ↦ λ T S.
            let ps = parts S in
            let X = x (told N s ns d) (head ps) in
            let Y = y (told N s ns f) (head (tail ps)) in
            rw (st.ruled, st.place, c.1, q.are) (sit bs (w.procedure r.a ty qs (written s t) (written s u)) (own S)
            (rw (st.ruled, st.place, c.1, q.are) at T.types) (omega (arith, X.wide, Y.wide)) (omega arith)
            (before X (one Y)))
        | p-none ↦ λ p j S. record { counted = refl; wide = omega arith; sits = seated_none }
        | p-more (d → x) (ds → xs) ↦ λ p j S.
            let X = x (told N s ns d) (head S) in
            let A = xs p (j + 1) (tail S) in
            record {
              counted = omega (arith, A.counted);
              wide = omega (arith, X.wide, A.wide);
              sits = before X A.sits;
            }
      ]

-- the table that `fill` leaves has the rows of the whole term
pub seats-whole :
    {ed : Edition} (N : Numbers) (s : List ℕ) (ns : List Name) {left root ty next : ℕ} {π : ℕ → ℕ} {x : Tree} →
    length s ≤ 4096 → Parsed ed N s ns left [] π root x ty next → (t : List ℕ) → length t ≡ 58313 →
    Seated ns (fill N x t) [] root (written s x)
seats-whole N s ns {x = x} short d t room =
    let p = placed N s ns d in
    (sits-read N s ns (fill N x t) d (told N s ns d)
    (stores N (fill N x t) p.span t room (omega (arith, p.within)) (λ q i a b c. refl))).sits
