-- What loading a sheet says to follow and compare: the sheet that the bytes hold, its term in range, and the rows that
-- represent it.
use mathlib.Core.Path.{◌≡◌, sym, ap, ap₂, ◌∙◌, subst}
use mathlib.Core.List.{List, []}
use Rattle.std.specs.Prelude.{Result, Ok, Err}
use Prim.Native.Nat.{ℕ, ◌≤◌, ◌<◌}
use native.Mathlib.Omega.{arith}
use Rattle.language.specs.declared.Numbers.{Numbers}
use Rattle.language.specs.Typing.{Typed}
use Rattle.language.specs.Weight.{size}
use Rattle.states_machine.specs.Range.{TyIn, InRange}
use Rattle.states_machine.proofs.Accepts.{spots-size}
use Rattle.sheet_records.specs.Limits.{greatest_z}
use Rattle.sheet_records.specs.declared.refusal.Refusal.{Refusal}
use Rattle.sheet_written.specs.Written.{Sheet}
use Rattle.sheet_written.specs.Meaning.{ty_of, term_of, type_of}
use Rattle.sheet_written.specs.Width.{heading_width}
use Rattle.sheet_rows.specs.Rep.{Rep}
use Rattle.sheet_reader.specs.Fine.{Accepted}
use Rattle.sheet_records.specs.declared.edition.Edition.TheVariants.{Present}
use Rattle.sheet_reader.specs.Reader.{numbers_at, read_sheet, accepted, rejected}
use Rattle.sheet_judge.specs.Mark.{uses_of}
use Rattle.sheet_judge.specs.declared.mark.Uses.{Uses}
use Rattle.sheet_reader.proofs.Right.{gives}
use Rattle.sheet_reader.proofs.WellTyped.{accepted-typed}
use Rattle.states_positions.specs.Row.{Long}
use Rattle.states_step.specs.walk.Shows.{Words}
use Rattle.states_words.specs.inner.Ready as explicit
use Rattle.states_words.proofs.Ranges.{type_in, sheet-range}
use Rattle.term_load.specs.Loaded.{Ready, LoadedBy}
use Rattle.term_load.specs.declared.load.Loaded.{Loaded}
use Rattle.serve_compare.specs.Promise.{Holds}

-- a sheet whose loading is refused
pub refused-sheet : (s u : List ℕ) {x : Result Loaded Refusal} {z : Refusal} → LoadedBy s x u → x ≡ Err z →
    read_sheet s ≡ rejected z.reason z.place
unfolding LoadedBy
refused-sheet s u L e = rw e at L

-- a sheet that is loaded
pub taken : (s u : List ℕ) {x : Result Loaded Refusal} {y : Loaded} → LoadedBy s x u → x ≡ Ok y →
    Ready s y.root y.row y.ty y.size y.uses u
unfolding LoadedBy
taken s u L e = rw e at L

-- a term stands after the first two bytes
pub two-first : (S : Sheet) → 2 ≤ heading_width S
unfolding heading_width
two-first S = omega arith

pub heading-after : {s : List ℕ} {root row ty all : ℕ} {v : Uses} {t : List ℕ} → Ready s root row ty all v t →
    2 ≤ root
heading-after A = omega (arith, A.rooted, two-first A.sheet)

-- the sheet that s holds, of numbers N and type ty: its term is typed and in range and has the size `all`, and the
-- rows t represent it at a row
pub record Fit (N : Numbers) (ty : ℕ) (s : List ℕ) (row all : ℕ) (t : List ℕ) : Type 0 where
  pub sheet : Sheet
  pub reads : read_sheet s ≡ accepted sheet ty all
  pub numbers : sheet.numbers ≡ N
  pub types : type_of sheet ≡ ty
  pub z_above : 0 < N.z
  pub z_below : N.z ≤ greatest_z
  pub typed : Typed [] (term_of sheet) (ty_of N ty)
  pub type_in : TyIn N (ty_of N ty)
  pub term_in : InRange N (term_of sheet)
  pub sized : size (ty_of N ty) (term_of sheet) ≡ all
  pub some : 0 < all
  pub small : all ≤ 4096
  pub long : Long t
  pub represents : Rep N t 6144 row [] [] (term_of sheet) (ty_of N ty)

-- an accepted sheet, its numbers and its type by other names
module _ (S : Sheet) (A : Accepted S) (s t : List ℕ) (row all ty : ℕ) (h : read_sheet s ≡ accepted S ty all) where
  fits : {N : Numbers} → S.numbers ≡ N → type_of S ≡ ty → size (ty_of N ty) (term_of S) ≡ all →
      Long t → Rep N t 6144 row [] [] (term_of S) (ty_of N ty) → Fit N ty s row all t
  fits {N} e f g l r = record {
    sheet = S;
    reads = h;
    numbers = e;
    types = f;
    z_above = rw (← e) A.ordered.in_order.z_above;
    z_below = rw (← e) A.ordered.in_order.z_below;
    typed = rw (← e, ← f) (accepted-typed S A);
    type_in = rw (← e) (type_in S.numbers A.ordered.in_order.z_above ty);
    term_in = rw (← e) (sheet-range S A.ordered);
    sized = g;
    some = omega (arith, g, spots-size (ty_of N ty) (term_of S));
    small = rw (← g, ← e, ← f) A.ordered.small;
    long = l;
    represents = r;
  }

-- THEOREM: what loading leaves of an accepted sheet fits
pub fit : {s : List ℕ} {root row ty all : ℕ} {v : Uses} {t : List ℕ} → Ready s root row ty all v t →
    Fit (numbers_at s) ty s row all t
fit {s} {root} {row} {ty} {all} {v} {t} b =
    let g = gives Present s b.sheet ty all b.accepts in
    fits b.sheet g.1 s t row all ty b.accepts b.numbered (sym g.2)
    (ap (λ N. size (ty_of N ty) (term_of b.sheet)) (sym b.numbered) ∙ sym g.3) b.long
    b.represents

-- the same by names of the code
pub fit-as : {s : List ℕ} {root row ty all : ℕ} {v : Uses} {t : List ℕ} → Ready s root row ty all v t →
    {N : Numbers} {k : ℕ} → numbers_at s ≡ N → ty ≡ k → Fit N k s row all t
fit-as {s} {root} {row} {ty} {all} {v} {t} b {N} {k} e f =
    rw (← f) (subst (λ M. Fit M ty s row all t) e (fit b))

-- the names that it uses
pub fit-used : {s : List ℕ} {root row ty all : ℕ} {v : Uses} {t : List ℕ} → Ready s root row ty all v t → {N : Numbers}
    {k : ℕ} (F : Fit N k s row all t) → v ≡ uses_of F.sheet
fit-used b F =
    let e = sym b.accepts ∙ F.reads in
    let f : b.sheet ≡ F.sheet = cc in
    b.used ∙ ap uses_of f

-- the size of a sheet that is loaded
pub size-some : {s : List ℕ} {root row ty all : ℕ} {v : Uses} {t : List ℕ} → Ready s root row ty all v t → 0 < all
size-some b = (fit b).some

pub size_small : {s : List ℕ} {root row ty all : ℕ} {v : Uses} {t : List ℕ} → Ready s root row ty all v t → all ≤ 4096
size_small b = (fit b).small

module _ {N : Numbers} {ty : ℕ} {s : List ℕ} {row all : ℕ} {t : List ℕ} (F : Fit N ty s row all t) where
  -- the bytes hold the sheet
  pub fit-held : Holds s F.sheet
  fit-held = record { type = ty; size = all; reads = F.reads }

  -- it is in order
  pub fit-fine : Accepted F.sheet
  fit-fine = (gives Present s F.sheet ty all F.reads).1

  -- the type of its whole term
  pub fit-type : ty_of F.sheet.numbers (type_of F.sheet) ≡ ty_of N ty
  fit-type = ap₂ ty_of F.numbers F.types

  -- its term is ready for its automaton
  pub fit-ready : Words t → explicit.Ready N t row (ty_of N ty) (term_of F.sheet)
  fit-ready h = record {
    z_above = F.z_above;
    z_below = F.z_below;
    words = h;
    represents = F.represents;
    small = rw F.sized F.small;
    typed = F.typed;
    type_in = F.type_in;
    term_in = F.term_in;
  }
