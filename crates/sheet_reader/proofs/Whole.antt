-- What the functions of names and of the whole sheet answer and leave, from what their callees answer and leave.
use Rattle.std.specs.Prelude.{Result, Ok, Err}
use Prim.Native.Nat.{ℕ, zero, suc, ◌+◌, ◌-◌, ◌≤◌, ◌<◌}
use native.Mathlib.Numerals.{sub-one}
use mathlib.Core.Path.{◌≡◌, refl, sym, ◌∙◌}
use mathlib.Core.Bool.{Bool, true, false}
use mathlib.Core.List.{List, []}
use lib.ListN.{length, get_or, set}
use lib.Dec.{ltb}
use borrow.Author.Tests.{le-leb, lt-leb, lt-ltb, le-ltb, eq-eqb, ne_eqb}
use Rattle.language.specs.Choice.{pick}
use Rattle.language.specs.declared.Numbers.{Numbers}
use Rattle.sheet_records.specs.Limits.{greatest_z, greatest_rule}
use Rattle.sheet_records.specs.Refusal.{refusal}
use Rattle.sheet_records.specs.declared.refusal.Reason.{Reason}
use Rattle.sheet_records.specs.declared.refusal.Refusal.{Refusal}
use Rattle.sheet_records.specs.Kind.{shape_of}
use Rattle.sheet_records.specs.Standing.{declared_standing}
use Rattle.sheet_records.specs.declared.edition.Edition.{Edition}
use Rattle.sheet_records.specs.declared.kind.Rule.{Rule}
use Rattle.sheet_records.specs.declared.kind.Shape.TheVariants.{Part as PartShape, Declare, Retire, Unknown}
use Rattle.sheet_written.specs.Written.{Name}
use Rattle.sheet_reader.specs.Heading.{fresh, declare_of, retire_of, declare_at, retire_at}
use Rattle.sheet_reader.specs.Reader.{Tree, Answer, got, refused, bind, on_judged, Whole, whole, with_name, whole_of_shape}
use Rattle.sheet_reader.specs.Reader.{name_of, names_step, names_of, closed, numbers_at, nothing, whole_by, whole_of}
use Rattle.sheet_reader.specs.table.Fill.{sheet, fill, erase, Leaves, Reads, term_at, erase_sheet, LeavesSheet, ReadsSheet}
use Rattle.sheet_reader.specs.table.Fill.{closed_reading}
use Rattle.sheet_reader.specs.declared.part.Part.{Part}
use Rattle.sheet_reader.specs.declared.names.Reading.{Reading}
use Rattle.sheet_records.specs.declared.refusal.Reason.TheVariants.{TooLong, CutShort, OutOfRange, TooManyNames, LeftOver}

-- the term
module _ (N : Numbers) (at : ℕ) where
  abbrev Term : Answer Tree → Answer Whole
  Term A = bind A (λ x ty end. got (whole [] at x) ty end)

  pub term-read :
      (A : Answer Tree) {p : Result Part Refusal} {y : Part} {t u : List ℕ} → Reads (fill N) A p t u → p ≡ Ok y →
      ReadsSheet N (Term A) (sheet at y.ty y.next) t u
  unfolding erase Leaves bind erase_sheet LeavesSheet
  term-read (got x ty next) R e =
      let h = sym R.answer ∙ e in record { answer = cc; table = R.table }
  term-read (refused n p) R e = cc R.answer

  pub term-refused :
      (A : Answer Tree) {p : Result Part Refusal} {x : Refusal} {t u : List ℕ} → Reads (fill N) A p t u → p ≡ Err x →
      ReadsSheet N (Term A) (Err x) t u
  unfolding erase Leaves bind erase_sheet LeavesSheet
  term-refused (got x ty next) R e = cc R.answer
  term-refused (refused n p) R e = let h = sym R.answer ∙ e in record { answer = cc; table = tt }

-- a refusal
refuses : (N : Numbers) (n : Reason) (p : ℕ) {t u : List ℕ} → ReadsSheet N (refused n p) (Err (refusal n p)) t u
unfolding erase_sheet LeavesSheet
refuses N n p = record { answer = refl; table = tt }

-- one name record
names-step :
    (ed : Edition) (n : ℕ) (N : Numbers) (s st : List ℕ) (at : ℕ) →
    names_of ed n N s st at ≡ names_step ed (names_of ed (n - 1) N s) n N s st at
unfolding names_of names_step name_of
names-step ed zero N s st at = refl
names-step ed (suc n) N s st at = simp sub-one

module _ (ed : Edition) (N : Numbers) (n : ℕ) (s st : List ℕ) (at : ℕ) where
  abbrev Names : Result Reading Refusal → List ℕ → List ℕ → Type 0
  Names = ReadsSheet N (names_of ed n N s st at)

  abbrev After : ℕ → ℕ → Result (Unit {0}) Refusal → Name → Answer Whole
  After body c judged name = name_of (names_of ed (n - 1) N s) n s st at body c judged name

  pub names-short : {t : List ℕ} → length s ≤ at → Names (Err (refusal CutShort (length s))) t t
  unfolding names_step
  names-short h = rw (names-step, le-leb _ _ h) (refuses N CutShort (length s))

  pub names-unknown : {t : List ℕ} → at < length s → shape_of (get_or s at 0) ≡ Unknown → Names (Err (refusal OutOfRange at)) t t
  unfolding names_step whole_of_shape
  names-unknown h e = rw (names-step, lt-leb _ _ h, e) (refuses N OutOfRange at)

  pub names-term : {body parts : ℕ} {rule : Rule} {x : Result Reading Refusal} {t u : List ℕ} → at < length s →
      shape_of (get_or s at 0) ≡ PartShape body parts rule → ReadsSheet N (term_at ed N s st at) x t u → Names x t u
  unfolding names_step whole_of_shape
  names-term h e R = rw (names-step, lt-leb _ _ h, e) R

  pub names-declare : {body asks c : ℕ} {judged : Result (Unit {0}) Refusal} {x : Result Reading Refusal} {t u : List ℕ} → at < length s →
      shape_of (get_or s at 0) ≡ Declare body asks → judged ≡ declare_of s st at → c ≡ declared_standing at asks →
      ((name : Name) → ReadsSheet N (After body c judged name) x t u) → Names x t u
  unfolding names_step whole_of_shape
  names-declare {asks = asks} h e j k R = rw (names-step, lt-leb _ _ h, e) (rw (j, k) at (R (declare_at s at asks)))

  pub names-retire : {body : ℕ} {judged : Result (Unit {0}) Refusal} {x : Result Reading Refusal} {t u : List ℕ} → at < length s →
      shape_of (get_or s at 0) ≡ Retire body → judged ≡ fresh s st (at + 1) →
      ((name : Name) → ReadsSheet N (After body 1 judged name) x t u) → Names x t u
  unfolding names_step whole_of_shape retire_of
  names-retire h e j R = rw (names-step, lt-leb _ _ h, e) (rw j at (R (retire_at s at)))

named : (N : Numbers) (name : Name) (A : Answer Whole) {x : Result Reading Refusal} {t u : List ℕ} → ReadsSheet N A x t u →
    ReadsSheet N (bind A (λ y ty end. got (with_name name y) ty end)) x t u
unfolding bind with_name erase_sheet LeavesSheet
named N name (got (whole ns root y) ty end) R = record { answer = R.answer; table = R.table }
named N name (refused n p) R = record { answer = R.answer; table = tt }

module _ (N : Numbers) (rec : List ℕ → ℕ → Answer Whole) (n : ℕ) (s st : List ℕ) (at body c : ℕ) (judged : Result (Unit {0}) Refusal)
    (name : Name) where
  abbrev Record : Result Reading Refusal → List ℕ → List ℕ → Type 0
  Record = ReadsSheet N (name_of rec n s st at body c judged name)

  pub after-full : {t : List ℕ} → n ≡ 0 → Record (Err (refusal TooManyNames at)) t t
  unfolding name_of
  after-full e = rw (eq-eqb _ _ e) (refuses N TooManyNames at)

  pub after-bad : {x : Refusal} {t : List ℕ} → (n ≡ 0 → ⊥) → judged ≡ Err x → Record (Err x) t t
  unfolding name_of on_judged
  after-bad {x} z e = rw (ne_eqb _ _ z, e) (refuses N x.reason x.place)

  pub after-good : {x : Result Reading Refusal} {t u : List ℕ} → (n ≡ 0 → ⊥) → judged ≡ Ok tt →
      ReadsSheet N (rec (set st (get_or s (at + 1) 0) c) (at + 1 + body)) x t u → Record x t u
  unfolding name_of on_judged
  after-good z e R = rw (ne_eqb _ _ z, e) (named N name (rec (set st (get_or s (at + 1) 0) c) (at + 1 + body)) R)

-- the end of a sheet
ends : (N : Numbers) (x : Whole) (ty end : ℕ) (a : Bool) {t u : List ℕ} {y : Result Reading Refusal} →
    y ≡ erase_sheet (pick a (refused LeftOver end) (got x ty end)) → LeavesSheet N (got x ty end) t u →
    ReadsSheet N (pick a (refused LeftOver end) (got x ty end)) y t u
unfolding LeavesSheet
ends N x ty end true e l = record { answer = e; table = tt }
ends N (whole ns root x) ty end false e l = record { answer = e; table = l }

pub closes-sheet :
    (N : Numbers) (s : List ℕ) (A : Answer Whole) {x y : Result Reading Refusal} {t u : List ℕ} → ReadsSheet N A x t u →
    y ≡ closed_reading s x → ReadsSheet N (closed s A) y t u
unfolding closed bind erase_sheet closed_reading LeavesSheet
closes-sheet N s (got (whole ns root x) ty end) R e =
    ends N (whole ns root x) ty end (ltb end (length s)) (e ∙ rw R.answer (split (ltb end (length s)))) R.table
  where
    split : (a : Bool) →
        pick a (Err (refusal LeftOver end)) (sheet root ty end) ≡
        erase_sheet (pick a (refused LeftOver end) (got (whole ns root x) ty end))
    split true = refl
    split false = refl
closes-sheet N s (refused n p) R e = record { answer = e ∙ rw R.answer; table = tt }

-- the whole sheet
pub sheet-refused : (ed : Edition) (N : Numbers) (s : List ℕ) {n : Reason} {p : ℕ} {t : List ℕ} → whole_of ed s ≡ refused n p →
    ReadsSheet N (whole_of ed s) (Err (refusal n p)) t t
sheet-refused ed N s {n} {p} e = rw e (refuses N n p)

pub sheet-closed :
    (ed : Edition) (N : Numbers) (s : List ℕ) (A : Answer Whole) {x : Result Reading Refusal} {t u : List ℕ} → whole_of ed s ≡ A →
    ReadsSheet N A x t u → ReadsSheet N (whole_of ed s) x t u
sheet-closed ed N s A e R = rw e R

-- the first two bytes
module _ (ed : Edition) (s : List ℕ) where
  pub too_long : 4096 < length s → whole_of ed s ≡ refused TooLong 4096
  unfolding whole_by
  too_long a = rw (lt-ltb _ _ a)

  module _ (a : length s ≤ 4096) where
    pub empty : length s ≤ 0 → whole_of ed s ≡ refused CutShort (length s)
    unfolding whole_by
    empty b = rw (le-ltb _ _ a, le-leb _ _ b)

    module _ (b : 0 < length s) where
      pub z-zero : get_or s 0 0 ≡ 0 → whole_of ed s ≡ refused OutOfRange 0
      unfolding whole_by
      z-zero c = rw (le-ltb _ _ a, lt-leb _ _ b, eq-eqb _ _ c)

      module _ (c : get_or s 0 0 ≡ 0 → ⊥) where
        pub z-large : greatest_z < get_or s 0 0 → whole_of ed s ≡ refused OutOfRange 0
        unfolding whole_by
        z-large d = rw (le-ltb _ _ a, lt-leb _ _ b, ne_eqb _ _ c, lt-ltb _ _ d)

        module _ (d : get_or s 0 0 ≤ greatest_z) where
          pub no-rule : length s ≤ 1 → whole_of ed s ≡ refused CutShort (length s)
          unfolding whole_by
          no-rule e = rw (le-ltb _ _ a, lt-leb _ _ b, ne_eqb _ _ c, le-ltb _ _ d, le-leb _ _ e)

          module _ (e : 1 < length s) where
            pub rule-large : greatest_rule < get_or s 1 0 → whole_of ed s ≡ refused OutOfRange 1
            unfolding whole_by
            rule-large f = rw (le-ltb _ _ a, lt-leb _ _ b, ne_eqb _ _ c, le-ltb _ _ d, lt-leb _ _ e, lt-ltb _ _ f)

            pub opened : get_or s 1 0 ≤ greatest_rule →
                whole_of ed s ≡ closed s (names_of ed 32 (numbers_at s) s nothing 2)
            unfolding whole_by
            opened f = rw (le-ltb _ _ a, lt-leb _ _ b, ne_eqb _ _ c, le-ltb _ _ d, lt-leb _ _ e, le-ltb _ _ f)
