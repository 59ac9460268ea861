-- Whatever part the table has is expanded: by what it comes down to, and by its kind.
use Prim.Native.Nat.{ℕ, zero, suc, ◌+◌, ◌-◌, ◌≤◌, ◌<◌}
use native.Mathlib.Omega.{arith}
use native.Mathlib.Nat.{mod-eq_of_lt}
use mathlib.Core.Path.{◌≡◌, refl, sym, ◌∙◌}
use mathlib.Core.List.{List}
use lib.ListN.{length, get_or}
use Rattle.language.specs.declared.Numbers.{Numbers}
use Rattle.sheet_written.specs.Environment.{beyond}
use Rattle.sheet_written.specs.Written.{Written, skip, diverge, truth, number, call, fetch, operate, assign, sequence}
use Rattle.sheet_written.specs.Written.{while, choose, new, procedure, Parameter, none, Name}
use Rattle.sheet_written.specs.Meaning.{private, argument, meaning, after, by_meaning}
use Rattle.sheet_written.specs.Fine.{Fine, depth}
use Rattle.sheet_written.specs.Come.{come}
use Rattle.sheet_written.specs.Made.{made}
use Rattle.sheet_written.specs.Occurs.{IsParameter}
use Rattle.sheet_written.specs.Context.{Context, whole, in_procedure, in_scope, binders, forms, makes, downs}
use Rattle.sheet_written.specs.Expand.{Slots, no_slots, of_slot, of_scope}
use Rattle.sheet_rows.specs.PartKind.{PROCEDURE, ROUTINE, NEW, KIND, DETAIL, PARTS}
use Rattle.sheet_rows.specs.Row.{word}
use Rattle.sheet_written.specs.Table.{PartRow, Shown, shown_skip, shown_diverge, shown_truth, shown_number}
use Rattle.sheet_written.specs.Table.{shown_private, shown_parameter, shown_use, shown_name, shown_fetch, shown_operate}
use Rattle.sheet_written.specs.Table.{shown_assign, shown_sequence, shown_choose, shown_while, shown_new}
use Rattle.sheet_written.specs.Table.{shown_procedure, Known, Few, FewIn}
use Rattle.sheet_written.specs.Marks.{Marked, MarkedIn}
use Rattle.sheet_written.proofs.Numbering.{beyond-at}
use Rattle.sheet_written.proofs.Renaming.{length-inside}
use Rattle.sheet_written.proofs.Alike.{parameter-below}
use Rattle.sheet_written.proofs.ComeUsed.{come-used}
use Rattle.term_closing.specs.Rows.{ROWS}
use Rattle.term_expand.specs.Local.{Local}
use Rattle.term_closing.specs.Close.{come_of, more_of}
use Rattle.term_expand.specs.Contract.{FineIn, Shows, Weighs, turns, Placed, Expanded, Expanding, Closed, ByKind}
use Rattle.term_expand.specs.Contract.{Top}
use Rattle.term_expand.proofs.Places.{same-procedure, same-beyond, shown-before, shown-within, shown-same}
use Rattle.term_expand.proofs.Places.{known_same, marked-same}
use Rattle.term_expand.proofs.Frames.{lower-part, below-refl, between-refl}
use Rattle.term_expand.proofs.Slotting.{shows-parameter}
use Rattle.term_expand.proofs.Running.{Site, rows_of}
use Rattle.term_expand.proofs.Recording.{reach, skip-row, diverge-row, truth-row, number-row, private-row}
use Rattle.term_expand.proofs.Recording.{fetch-row, operate-row, assign-row, sequence-row, while-row, choose-row}
use Rattle.term_expand.proofs.Blocks.{new_row}
use Rattle.term_expand.proofs.Naming.{name-row}
use Rattle.term_expand.proofs.Using.{length_types, deep-few, use-row}

-- what a part comes down to is below 128
come-small : (N : Numbers) (ns : List Name) (Γ : Context) (W : Written) → Few Γ W →
    come ns (binders Γ) (downs ns Γ) W < 128
come-small N ns Γ W h = go (come ns (binders Γ) (downs ns Γ) W) refl
  where
    go : (c : ℕ) → come ns (binders Γ) (downs ns Γ) W ≡ c → c < 128
    go zero e = omega arith
    go (suc s) e = omega (arith, parameter-below (binders Γ) s (come-used N ns W Γ s e).0, deep-few Γ W h)

-- the mark says it
come-mark : (N : Numbers) (ns : List Name) (t marks : List ℕ) (Γ : Context) (at : ℕ) (W : Written) →
    Marked N ns t marks Γ at W → come ns (binders Γ) (downs ns Γ) W < 128 →
    come_of (get_or marks at 0) ≡ come ns (binders Γ) (downs ns Γ) W
unfolding Marked come_of
come-mark N ns t marks Γ at skip m h = rw m (mod-eq_of_lt h)
come-mark N ns t marks Γ at (diverge ty) m h = rw m (mod-eq_of_lt h)
come-mark N ns t marks Γ at (truth b) m h = rw m (mod-eq_of_lt h)
come-mark N ns t marks Γ at (number b) m h = rw m (mod-eq_of_lt h)
come-mark N ns t marks Γ at (call id ws) m h = rw m.0 (mod-eq_of_lt h)
come-mark N ns t marks Γ at (fetch x) m h = rw m.0 (mod-eq_of_lt h)
come-mark N ns t marks Γ at (operate op x y) m h = rw m.0 (mod-eq_of_lt h)
come-mark N ns t marks Γ at (assign x y) m h = rw m.0 (mod-eq_of_lt h)
come-mark N ns t marks Γ at (sequence x y) m h = rw m.0 (mod-eq_of_lt h)
come-mark N ns t marks Γ at (choose q x y) m h = rw m.0 (mod-eq_of_lt h)
come-mark N ns t marks Γ at (while x y) m h = rw m.0 (mod-eq_of_lt h)
come-mark N ns t marks Γ at (new id d x) m h = rw m.0 (mod-eq_of_lt h)
come-mark N ns t marks Γ at (procedure id ty ps body rest) m h = rw m.0 (lower-part 128 _ _ h)

-- a parameter comes down to itself
not-parameter : (ns : List Name) (Γ : Context) (id k ty : ℕ) → meaning ns (binders Γ) id ≡ argument k ty →
    come ns (binders Γ) (downs ns Γ) (call id none) ≡ 0 → ⊥
unfolding come by_meaning
not-parameter ns Γ id k ty e z =
    let y : suc k ≡ 0 = rw e at z in
    omega (arith, y)

-- a private variable makes a row
room-private : (N : Numbers) (ns : List Name) (Γ : Context) (n id k d : ℕ) → meaning ns (binders Γ) id ≡ private k d →
    n + rows_of N ns Γ (call id none) ≤ ROWS → n < ROWS
unfolding made by_meaning
room-private N ns Γ n id k d e h =
    let g : n + 1 ≤ ROWS = rw e at h in
    omega (arith, g)

module _ (N : Numbers) (ns : List Name) (t marks slots rows : List ℕ) (Γ : Context) (ε : Slots) (π : ℕ → ℕ)
    (level left at end n : ℕ) where
  site : {W : Written} → Placed N ns t marks slots rows Γ ε π W at end level left n →
      Site N ns t marks slots Γ ε π at level
  site pl = record {
    known = pl.known;
    marked_in = pl.marked_in;
    fine_in = pl.fine_in;
    few-in = pl.few-in;
    shows = pl.shows;
    long = pl.long;
    numbered = pl.numbered;
  }

  parts-reach : {W : Written} → Placed N ns t marks slots rows Γ ε π W at end level left n →
      (x y : ℕ) → at < x → x < y → y ≤ end → turns x y ≤ left - 1
  parts-reach pl =
      reach at end left (shown-before N ns t pl.shown) (shown-within N ns t pl.shown) pl.enough

  term-reach : {W : Written} → Placed N ns t marks slots rows Γ ε π W at end level left n →
      (x y : ℕ) → x < y → y ≤ at → turns x y ≤ left - 1
  unfolding turns
  term-reach pl x y h l = omega (arith, shown-before N ns t pl.shown, shown-within N ns t pl.shown, pl.enough)

  -- the scope of a procedure
  module _ (after : List ℕ) (r m : ℕ) (id ty a b : ℕ) (ps : List Parameter) (body rest : Written)
      (pl : Placed N ns t marks slots rows Γ ε π (procedure id ty ps body rest) at end level left n)
      (p : PartRow N ns t Γ PROCEDURE (procedure id ty ps body rest) at end) (d : word t at DETAIL ≡ length (binders Γ))
      (e : word t at PARTS ≡ a) (f : word t at (PARTS + 1) ≡ b) (h : at < a) (l : length ps ≤ 4)
      (x : Shown N ns t (in_procedure ps Γ) π a b body)
      (y : Shown N ns t (in_scope id ty ps body Γ) (beyond (length (binders Γ)) π (λ j. at)) b end rest) where
    abbrev places : ℕ → ℕ
    places = beyond (length (binders Γ)) π (λ j. at)

    known-scope : Known N ns t (in_scope id ty ps body Γ) places (word t at (PARTS + 1))
    unfolding Known
    known-scope =
        let z : places (length (binders Γ)) ≡ at = beyond-at (length (binders Γ)) π (λ j. at) in
        let x' : Shown N ns t (in_procedure ps Γ) places (word t at PARTS) b body =
        rw e (shown-same N ns t (same-procedure Γ ps π places (same-beyond Γ π at)) x) in
        rw z (
          b,
          omega (arith, f),
          d,
          omega (arith, e, h),
          omega (arith, p.before, p.within),
          x',
          known_same N ns t Γ π places at (same-beyond Γ π at) pl.known,
        )

    marked-scope : MarkedIn N ns t marks (in_scope id ty ps body Γ) places
    unfolding MarkedIn Marked
    marked-scope =
        let z : places (length (binders Γ)) ≡ at = beyond-at (length (binders Γ)) π (λ j. at) in
        rw z (
          come ns (binders Γ) (downs ns Γ) (procedure id ty ps body rest),
          come-small N ns Γ (procedure id ty ps body rest) pl.few,
          pl.marked.0,
          pl.marked.1,
          marked-same N ns t marks Γ π places (same-beyond Γ π at) pl.marked_in,
        )

    placed-scope : Placed N ns t marks slots rows (in_scope id ty ps body Γ) ε places rest (word t at (PARTS + 1)) end
        (more_of level 1) (left - 1) n
    unfolding Marked Fine FineIn Few FewIn depth Shows IsParameter binders after forms makes made more_of
    placed-scope = record {
      shown = rw f y;
      known = known-scope;
      marked = pl.marked.2;
      marked_in = marked-scope;
      fine = pl.fine.7;
      fine_in = (pl.fine.5, pl.fine_in);
      few = omega (arith, pl.few);
      few-in = (omega (arith, pl.few, length-inside ps (binders Γ), length_types ps, l), pl.few-in);
      shows = pl.shows;
      long = pl.long;
      passed = pl.passed;
      numbered = omega (arith, pl.numbered, pl.few);
      enough = parts-reach pl (word t at (PARTS + 1)) end (omega (arith, f, h, shown-before N ns t x))
          (omega (arith, f, shown-before N ns t y)) (omega arith);
      room = pl.room;
      sized = pl.sized;
    }

    scope-row : Expanded N ns (in_scope id ty ps body Γ) ε rest rows after n r m →
        Expanded N ns Γ ε (procedure id ty ps body rest) rows after n r m
    unfolding Weighs IsParameter binders after Local
    scope-row z = record {
      kept = z.kept;
      sized = z.sized;
      within = z.within;
      given = λ T v w.
          let g = z.given T v w in
          record { expands = of_scope g.expands; local = g.local; weighs = g.weighs };
    }

  module _ (after : List ℕ) (r m : ℕ) (X : ByKind t marks slots level (left - 1) at rows after n r m) where
    plain : (kind : ℕ) → word t at KIND ≡ kind → (kind ≡ PROCEDURE → ⊥) → (kind ≡ ROUTINE → ⊥) → (kind ≡ NEW → ⊥) →
        (r ≡ n) × Closed t marks slots level (left - 1) at rows after n m
    plain kind e f g h = (X.recorded (λ i. f (sym e ∙ i)) (λ i. g (sym e ∙ i))).plain (λ i. h (sym e ∙ i))

    by-shown : {W : Written} → Placed N ns t marks slots rows Γ ε π W at end level left n →
        come ns (binders Γ) (downs ns Γ) W ≡ 0 → Shown N ns t Γ π at end W → Expanded N ns Γ ε W rows after n r m
    by-shown pl z (shown_skip p) =
        let c = plain _ p.kinded (λ i. omega arith) (λ i. omega arith) (λ i. omega arith) in
        rw c.0 (skip-row N ns t marks slots Γ ε π level (left - 1) at end c.1 (site pl) (parts-reach pl) pl.passed
        pl.sized p pl.room)
    by-shown pl z (shown_diverge {ty = ty} p) =
        let c = plain _ p.kinded (λ i. omega arith) (λ i. omega arith) (λ i. omega arith) in
        rw c.0 (diverge-row N ns t marks slots Γ ε π level (left - 1) at end c.1 (site pl) (parts-reach pl)
        pl.passed pl.sized ty p pl.room)
    by-shown pl z (shown_truth {b = b} p e) =
        let c = plain _ p.kinded (λ i. omega arith) (λ i. omega arith) (λ i. omega arith) in
        rw c.0 (truth-row N ns t marks slots Γ ε π level (left - 1) at end c.1 (site pl) (parts-reach pl)
        pl.passed pl.sized b p e pl.room)
    by-shown pl z (shown_number {b = b} p e) =
        let c = plain _ p.kinded (λ i. omega arith) (λ i. omega arith) (λ i. omega arith) in
        rw c.0 (number-row N ns t marks slots Γ ε π level (left - 1) at end c.1 (site pl) (parts-reach pl)
        pl.passed pl.sized b p e pl.room)
    by-shown pl z (shown_private {id = id} {k = k} {d = d} q p e) =
        let c = plain _ p.kinded (λ i. omega arith) (λ i. omega arith) (λ i. omega arith) in
        rw c.0 (private-row N ns t marks slots Γ ε π level (left - 1) at end c.1 (site pl) (parts-reach pl)
        pl.passed pl.sized id k d none q p e (room-private N ns Γ n id k d q pl.room))
    by-shown pl z (shown_parameter {id = id} {k = k} {ty = ty} q p e) = absurd (not-parameter ns Γ id k ty q z)
    by-shown pl z (shown_use {from = from} {id = id} {k = k} {ty = ty} {tys = tys} {ws = ws} q p e l b a) =
        use-row N ns t marks slots Γ ε π level (left - 1) at end (X.routine p.kinded) (site pl) (parts-reach pl)
        (term-reach pl) pl.passed pl.sized id k ty from tys ws q e l b a pl.marked pl.fine pl.few
        pl.room
    by-shown pl z (shown_name {from = from} {id = id} {ty = ty} {often = often} {tys = tys} {ws = ws} q p e l b a) =
        let c = plain _ p.kinded (λ i. omega arith) (λ i. omega arith) (λ i. omega arith) in
        rw c.0 (name-row N ns t marks slots Γ ε π level (left - 1) at end c.1 (site pl) (parts-reach pl) pl.passed
        pl.sized id ty from often tys ws q p e l b a pl.marked pl.fine pl.few pl.room)
    by-shown pl z (shown_fetch {a = a} {x = v} p e b x) =
        let c = plain _ p.kinded (λ i. omega arith) (λ i. omega arith) (λ i. omega arith) in
        rw c.0 (fetch-row N ns t marks slots Γ ε π level (left - 1) at end c.1 (site pl) (parts-reach pl)
        pl.passed pl.sized v a p e b x pl.marked pl.fine pl.few pl.room)
    by-shown pl z (shown_operate {a = a} {b = b} {op = op} {x = v} {y = w} p d e f h x y) =
        let c = plain _ p.kinded (λ i. omega arith) (λ i. omega arith) (λ i. omega arith) in
        rw c.0 (operate-row N ns t marks slots Γ ε π level (left - 1) at end c.1 (site pl) (parts-reach pl)
        pl.passed pl.sized op v w a b p d e f h x y pl.marked pl.fine pl.few pl.room)
    by-shown pl z (shown_assign {a = a} {b = b} {x = v} {y = w} p e f h x y) =
        let c = plain _ p.kinded (λ i. omega arith) (λ i. omega arith) (λ i. omega arith) in
        rw c.0 (assign-row N ns t marks slots Γ ε π level (left - 1) at end c.1 (site pl) (parts-reach pl)
        pl.passed pl.sized v w a b p e f h x y pl.marked pl.fine pl.few pl.room)
    by-shown pl z (shown_sequence {a = a} {b = b} {x = v} {y = w} p e f h x y) =
        let c = plain _ p.kinded (λ i. omega arith) (λ i. omega arith) (λ i. omega arith) in
        rw c.0 (sequence-row N ns t marks slots Γ ε π level (left - 1) at end c.1 (site pl) (parts-reach pl)
        pl.passed pl.sized v w a b p e f h x y pl.marked pl.fine pl.few pl.room)
    by-shown pl z (shown_choose {a = a} {b = b} {c = i} {q = q} {x = v} {y = w} p e f g h u x y) =
        let c = plain _ p.kinded (λ i. omega arith) (λ i. omega arith) (λ i. omega arith) in
        rw c.0 (choose-row N ns t marks slots Γ ε π level (left - 1) at end c.1 (site pl) (parts-reach pl)
        pl.passed pl.sized q v w a b i p e f g h u x y pl.marked pl.fine pl.few pl.room)
    by-shown pl z (shown_while {a = a} {b = b} {x = v} {y = w} p e f h x y) =
        let c = plain _ p.kinded (λ i. omega arith) (λ i. omega arith) (λ i. omega arith) in
        rw c.0 (while-row N ns t marks slots Γ ε π level (left - 1) at end c.1 (site pl) (parts-reach pl)
        pl.passed pl.sized v w a b p e f h x y pl.marked pl.fine pl.few pl.room)
    by-shown pl z (shown_new {a = a} {id = id} {d = d} {x = v} p o e h x) =
        let f = p.kinded in
        let c = (X.recorded (λ i. omega (arith, f, i)) (λ i. omega (arith, f, i))).block f in
        rw c.0 (new_row N ns t marks slots Γ ε π level at (site pl) (left - 1) end c.1 (parts-reach pl) pl.passed
        pl.sized id d v a p o e h x pl.marked pl.fine pl.few pl.room)
    by-shown pl z (shown_procedure {a = a} {b = b} {id = id} {ty = ty} {ps = ps} {body = body} {rest = rest} p d e f
        h l x
        y) =
        let pl' = placed-scope after r m id ty a b ps body rest pl p d e f h l x y in
        let g = (X.scope p.kinded).of N ns (in_scope id ty ps body Γ) ε (beyond (length (binders Γ)) π (λ j. at))
        rest end
        pl' in
        scope-row after r m id ty a b ps body rest pl p d e f h l x y g

module _ (t marks slots : List ℕ) (level left at : ℕ) (rows : List ℕ) where
  -- a part that comes down to a parameter
  pub by-come : (n : ℕ) {r come : ℕ} → come ≡ come_of (get_or marks at 0) → 0 < come → r ≡ get_or slots (come - 1) 0 →
      Expanding t marks slots level left at rows rows n r n
  unfolding Local Weighs
  by-come n {r = r} {come = c} e h g = record {
    of = λ N ns Γ ε π W end pl.
        let k : c ≡ come ns (binders Γ) (downs ns Γ) W =
        e ∙ come-mark N ns t marks Γ at W pl.marked (come-small N ns Γ W pl.few) in
        let s : come ns (binders Γ) (downs ns Γ) W ≡ suc (c - 1) = sym k ∙ omega (arith, h) in
        let p : IsParameter (binders Γ) (c - 1) = (come-used N ns W Γ (c - 1) s).0 in
        let q : r ≡ ε.passed (c - 1) = g ∙ shows-parameter slots ε (binders Γ) (c - 1) pl.shows p in
        record {
          kept = below-refl n rows;
          sized = pl.sized;
          within = rw q (pl.passed (c - 1) p);
          given = λ T v w. record { expands = of_slot s q; local = tt; weighs = rw q (w.1 (c - 1) p) };
        };
  }

  -- there are turns left
  pub by_end : (n : ℕ) → left ≡ 0 → Expanding t marks slots level left at rows rows n ROWS n
  unfolding turns
  by_end n e = record {
    of = λ N ns Γ ε π W end pl.
        absurd (omega (arith, e, pl.enough, shown-before N ns t pl.shown));
  }

  -- any other
  pub by_kind : (after : List ℕ) (n : ℕ) {r m come : ℕ} → come ≡ come_of (get_or marks at 0) → come ≤ 0 → (left ≡ 0 → ⊥) →
      ByKind t marks slots level (left - 1) at rows after n r m → Expanding t marks slots level left at rows after n r m
  by_kind after n {r = r} {m = m} {come = c} e g h x = record {
    of = λ N ns Γ ε π W end pl.
        let k : c ≡ come ns (binders Γ) (downs ns Γ) W =
        e ∙ come-mark N ns t marks Γ at W pl.marked (come-small N ns Γ W pl.few) in
        by-shown N ns t marks slots rows Γ ε π level left at end n after r m x pl (omega (arith, k, g)) pl.shown;
  }

-- THEOREM: the whole term is expanded, and its rows are right
pub by-top : (t marks slots : List ℕ) (at : ℕ) (rows after : List ℕ) (r n : ℕ) → length slots ≡ 128 →
    Expanding t marks slots 0 16785409 at rows after 0 r n → Top t marks at rows after r n
unfolding Known MarkedIn FineIn FewIn Few Shows IsParameter binders turns Weighs
by-top t marks slots at rows after r n l x = record {
  of = λ N ns π W end y s.
      let pl : Placed N ns t marks slots rows whole no_slots π W at end 0 16785409 0 = record {
        shown = y.shown;
        known = tt;
        marked = y.marked;
        marked_in = tt;
        fine = y.fine;
        fine_in = tt;
        few = omega (arith, y.shallow);
        few-in = tt;
        shows = tt;
        long = l;
        passed = λ i p. absurd p;
        numbered = refl;
        enough = omega (arith, shown-before N ns t y.shown, shown-within N ns t y.shown);
        room = omega (arith, y.room);
        sized = s;
      } in
      let z = x.of N ns whole no_slots π W end pl in
      let g = z.given after (between-refl 0 n after) (z.sized, λ i p. absurd p) in
      record { sized = z.sized; expands = g.expands; local = g.local };
}
