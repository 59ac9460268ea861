-- A new: its row is known before its block is expanded.
use Prim.Native.Nat.{ℕ, ◌+◌, ◌*◌, ◌≤◌, ◌<◌}
use native.Mathlib.Omega.{arith}
use mathlib.Core.Path.{◌≡◌, refl, ◌∙◌}
use mathlib.Core.List.{List, [], ◌∷◌}
use lib.ListN.{length, set, length-set}
use Rattle.language.specs.declared.Numbers.{Numbers}
use Rattle.sheet_parts.specs.Rule.{values}
use Rattle.sheet_written.specs.Written.{Written, new, none, more, Name}
use Rattle.sheet_written.specs.Fine.{Fine, depth}
use Rattle.sheet_written.specs.Made.{made}
use Rattle.sheet_written.specs.Occurs.{IsParameter}
use Rattle.sheet_written.specs.Context.{Context, in_block, binders, forms, makes}
use Rattle.sheet_written.specs.Shared as s
use Rattle.sheet_written.specs.Expand.{Slots, with_block, of_new}
use Rattle.sheet_rows.specs.PartKind.{NEW, KIND, DETAIL, PARTS, WEIGHT}
use Rattle.sheet_rows.specs.Row.{word}
use Rattle.sheet_written.specs.Table.{PartRow, Shown, shown_none, shown_more, Known, Few, FewIn}
use Rattle.sheet_written.specs.Marks.{Marked, MarkedArgs, MarkedIn}
use Rattle.term_closing.specs.Rows.{ROWS, row_weight, TERM-WORDS}
use Rattle.term_expand.specs.Local.{Local}
use Rattle.term_closing.specs.Close.{more_of, first_bits, parts_of, detail_of}
use Rattle.term_expand.specs.Contract.{FineIn, Weighs, turns, Expanded, Closed}
use Rattle.term_expand.proofs.Slotting.{shows_new}
use Rattle.term_expand.proofs.Running.{Site, Passed, rows_of, many, Good}
use Rattle.term_expand.proofs.Decoding.{row_new, weight-new}
use Rattle.term_expand.proofs.Closing.{sum_made, close, one-part, right}

detail-new : (t slots : List ℕ) (at : ℕ) → word t at KIND ≡ NEW → detail_of t slots at ≡ word t at DETAIL
unfolding detail_of
detail-new t slots at k = rw k

module _ (N : Numbers) (ns : List Name) (t marks slots : List ℕ) (Γ : Context) (ε : Slots) (π : ℕ → ℕ) (level at : ℕ)
    (S : Site N ns t marks slots Γ ε π at level) where
  -- what is around its block
  site-new : (id d n : ℕ) → length (binders Γ) < 128 →
      Site N ns t marks (set slots level n) (in_block id d Γ) (with_block (length (binders Γ)) n ε) π at (more_of
      level 1)
  unfolding Known MarkedIn FineIn FewIn binders more_of
  site-new id d n h =
      let e : level ≡ length (binders Γ) = S.numbered in
      record {
        known = S.known;
        marked_in = S.marked_in;
        fine_in = S.fine_in;
        few-in = S.few-in;
        shows = rw e (shows_new slots ε (binders Γ) id d n (omega (arith, S.long, h)) S.shows);
        long = length-set slots level n ∙ S.long;
        numbered = omega (arith, e, h);
      }

  module _ (left end : ℕ) {rows after : List ℕ} {n m : ℕ}
      (C : Closed t marks (set slots level n) (more_of level 1) left at rows after n m)
      (R : (x y : ℕ) → at < x → x < y → y ≤ end → turns x y ≤ left)
      (Q : Passed Γ ε n) (Z : length rows ≡ TERM-WORDS) where
    pub new_row : (id d : ℕ) (x : Written) (a : ℕ) → PartRow N ns t Γ NEW (new id d x) at end →
        word t at DETAIL ≡ values N d → word t at PARTS ≡ a → at < a → Shown N ns t (in_block id d Γ) π a end x →
        Marked N ns t marks Γ at (new id d x) → Fine N ns (binders Γ) (new id d x) → Few Γ (new id d x) →
        n + rows_of N ns Γ (new id d x) ≤ ROWS → Expanded N ns Γ ε (new id d x) rows after n n m
    unfolding made parts_of Local row_weight many MarkedArgs Good sum_made first_bits Marked Fine Few depth binders forms
        makes
        with_block IsParameter Weighs
    new_row id d x a p o e h g k f l r =
        let B : Context = in_block id d Γ in
        let δ : Slots = with_block (length (binders Γ)) n ε in
        let I : List ℕ = set slots level n in
        let Y : Site N ns t marks I B δ π at (more_of level 1) = site-new id d n (omega arith) in
        close N ns t marks I B δ π (more_of level 1) left at C Y Γ ε (new id d x) (more x none) (0 ∷ []) a end (omega
        arith)
        (rw p.kinded refl) (shown_more e g shown_none) (k.1, tt) (f.4, omega arith, tt) (omega arith) h R Q
        (λ T w. w) Z
        (λ T w z.
        let y = one-part N ns t marks I B δ π (more_of level 1) left at C Y T x (omega arith) z in
        let c : word t at DETAIL * word C.between C.a WEIGHT ≡ values N d * word T C.a WEIGHT =
        rw (o, y.weighs) refl in
        record {
          expands = of_new y.expands (row_new N ns T n (values N d) C.a (w.kinded ∙ p.kinded)
              (w.detailed ∙ (detail-new t I at p.kinded ∙ o)) w.first);
          local = (
            right N ns t marks I B δ π (more_of level 1) left at C Y Γ (new id d x) end NEW T
                (s.new (values N d) C.a) p w
                (weight-new t C.between at C.a C.b C.c C.d p.kinded ∙ c),
            y.local,
          );
        })
