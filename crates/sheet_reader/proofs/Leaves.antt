-- A record without parts: its row is the one that is written where it is closed at once.
use Rattle.std.specs.Prelude.{Option, Some, None}
use Prim.Native.Nat.{ℕ, ◌+◌, ◌*◌, ◌/◌, ◌%◌, ◌<◌, min}
use native.Mathlib.Omega.{arith}
use mathlib.Core.Path.{◌≡◌, refl, sym, ◌∙◌}
use mathlib.Core.Bool.{Bool, true, false}
use mathlib.Core.List.{List}
use lib.ListN.{get_or}
use lib.Dec.{eqb}
use borrow.Author.Tests.{lt-ltb, eqb-true}
use Rattle.language.specs.Choice.{pick}
use Rattle.language.specs.declared.Numbers.{Numbers}
use Rattle.sheet_records.specs.Standing.{standing_of, result_of, count_of}
use Rattle.sheet_records.specs.declared.edition.Edition.{Edition}
use Rattle.sheet_records.specs.declared.kind.Rule.TheVariants.{Use}
use Rattle.sheet_records.specs.declared.standing.Standing.{Standing}
use Rattle.sheet_records.specs.declared.standing.Standing.TheVariants.{Free, Retired, Declared, Variable, Parameter}
use Rattle.sheet_records.specs.declared.standing.Standing.TheVariants.{Procedure}
use Rattle.sheet_parts.specs.Rule.{values, part_type}
use Rattle.sheet_parts.specs.Scope.{opens}
use Rattle.sheet_parts.specs.declared.scope.Opens.TheVariants.{Nothing}
use Rattle.sheet_heads.specs.declared.head.Record.{Record}
use Rattle.sheet_rows.specs.Row.{row_kind, use_kind, detail, use_detail, declared_detail, five, class_of, row_written}
use Rattle.sheet_rows.proofs.RowSteps.{five-written}
use Rattle.weight_theory.specs.Plan.{parts_of}
use Rattle.weight_theory.specs.Step.{weighed}
use Rattle.weight_records.specs.Few.{RowAt, LeafKind}
use Rattle.sheet_reader.specs.declared.close.Leaf.{Leaf}
use Rattle.sheet_reader.specs.table.Close.{leaf_use, leaf_row, leaf_of}
use Rattle.sheet_reader.specs.table.Notes.{noted}
use Rattle.sheet_reader.proofs.RowKept.{row_at, noted-at}
use Rattle.sheet_reader.proofs.Heads.{Heads, h-skip, h-diverge, h-truth, h-number, h-use, h-fetch, h-operate}
use Rattle.sheet_reader.proofs.Heads.{h-assign, h-sequence, h-if, h-while, h-new, h-procedure}

-- the kinds of rows without parts: constants and commands, names and variables
low-leaf : (d : ℕ) {k kind : ℕ} → k ≡ kind → k < 20 → LeafKind kind d
unfolding parts_of
low-leaf d {k} {kind} e h =
    record { low = omega arith; plain = λ f. omega arith; none = rw (lt-ltb kind 20 (omega arith)) refl }

private-leaf : (d : ℕ) {kind : ℕ} → 128 ≡ kind → LeafKind kind d
unfolding parts_of
private-leaf d e = rw (← e) (record { low = omega arith; plain = λ f. omega arith; none = refl })

name-few : (a once : ℕ) → a < 256 → min ((a + 256 * (0 + 8 * (once % 2))) / 256 % 8) 4 ≡ 0
name-few a once h = omega arith

name-leaf : (a once : ℕ) {kind d : ℕ} → a < 256 → 20 ≡ kind → declared_detail a 0 once ≡ d → LeafKind kind d
unfolding parts_of declared_detail
name-leaf a once h e f =
    rw (← e, ← f) (record { low = omega arith; plain = λ g. omega arith; none = name-few a once h })

-- what the row of a record without parts is
pub record LeafIs (s : List ℕ) (N : Numbers) (r : Record) (around kind ty d : ℕ) : Type 0 where
  pub none : r.parts ≡ 0
  pub inside : opens r.rule ≡ Nothing
  pub same_kind : kind ≡ row_kind r.rule r
  pub same_type : ty ≡ part_type r.rule s r 0
  pub same-detail : d ≡ detail r.rule N r around
  pub leaf : LeafKind kind d

no-leaf : {x : Leaf} → None ≡ Some x → ⊥
no-leaf e = cc

module _ (s : List ℕ) (N : Numbers) (r : Record) (around : ℕ) {y : Leaf} where
  use-leaf :
      (x : Standing) → r.rule ≡ Use → standing_of r.b ≡ x → r.kind ≡ 20 → r.a < 256 → r.parts ≡ 0 →
      leaf_use s r x ≡ Some y → LeafIs s N r around y.kind y.ty y.detail
  unfolding leaf_use opens row_kind use_kind part_type result_of detail use_detail
  use-leaf Free f g k l p e = absurd (no-leaf e)
  use-leaf Retired f g k l p e = absurd (no-leaf e)
  use-leaf (Declared place once) f g k l p e =
      let a : r.kind ≡ y.kind = cc e in
      let b : get_or s (place + 2) 0 ≡ y.ty = cc e in
      let c : declared_detail r.a 0 once ≡ y.detail = cc e in
      record {
        none = p;
        inside = rw f refl;
        same_kind = rw (f, g) (sym a);
        same_type = rw (f, g) (sym b);
        same-detail = rw (f, g, p) (sym c);
        leaf = name-leaf r.a once l (sym k ∙ a) c;
      }
  use-leaf (Variable number holds) f g k l p e =
      let a : 128 ≡ y.kind = cc e in
      let b : 2 + holds ≡ y.ty = cc e in
      let c : number ≡ y.detail = cc e in
      record {
        none = p;
        inside = rw f refl;
        same_kind = rw (f, g) (sym a);
        same_type = rw (f, g) (sym b);
        same-detail = rw (f, g) (sym c);
        leaf = private-leaf y.detail a;
      }
  use-leaf (Parameter number holds) f g k l p e = absurd (no-leaf e)
  use-leaf (Procedure number place) f g k l p e = absurd (no-leaf e)

  -- no parts
  leaf-none : (b : Bool) (x : Option Leaf) → pick b x None ≡ Some y → (b ≡ true) × (x ≡ Some y)
  leaf-none true x e = (refl, e)
  leaf-none false x e = absurd (no-leaf e)

-- the row of a record that is closed at once
module _ {ed : Edition} {st : List ℕ} {at : ℕ} (s : List ℕ) (N : Numbers) (around : ℕ) {y : Leaf} where
  pub leaf-is : (r : Record) → Heads ed s st N at r → leaf_of s N r ≡ Some y → LeafIs s N r around y.kind y.ty y.detail
  unfolding leaf_of leaf_row opens row_kind part_type detail
  leaf-is r (h-skip h) e =
      let a : get_or s at 0 ≡ y.kind = cc e in
      let b : 0 ≡ y.ty = cc e in
      let c : 0 ≡ y.detail = cc e in
      record {
        none = refl;
        inside = refl;
        same_kind = sym a;
        same_type = sym b;
        same-detail = sym c;
        leaf = low-leaf y.detail a (omega (arith, h.1));
      }
  leaf-is r (h-diverge h p l) e =
      let a : get_or s at 0 ≡ y.kind = cc e in
      let b : r.a ≡ y.ty = cc e in
      let c : 0 ≡ y.detail = cc e in
      record {
        none = refl;
        inside = refl;
        same_kind = sym a;
        same_type = sym b;
        same-detail = sym c;
        leaf = low-leaf y.detail a (omega (arith, h.1));
      }
  leaf-is r (h-truth h p l) e =
      let a : get_or s at 0 ≡ y.kind = cc e in
      let b : 1 ≡ y.ty = cc e in
      let c : r.a ≡ y.detail = cc e in
      record {
        none = refl;
        inside = refl;
        same_kind = sym a;
        same_type = sym b;
        same-detail = sym c;
        leaf = low-leaf y.detail a (omega (arith, h.1));
      }
  leaf-is r (h-number h p l f) e =
      let a : 18 ≡ y.kind = cc e in
      let b : 2 ≡ y.ty = cc e in
      let c : detail r.rule N r around ≡ y.detail = cc e in
      record {
        none = refl;
        inside = refl;
        same_kind = sym a;
        same_type = sym b;
        same-detail = sym c;
        leaf = low-leaf y.detail a (omega arith);
      }
  leaf-is r (h-use h p l f g) e =
      let x = leaf-none s N r around (eqb (count_of s (standing_of r.b)) 0) (leaf_use s r (standing_of r.b)) e in
      use-leaf s N r around (standing_of r.b) refl refl h.1 (omega arith) (eqb-true _ _ x.0) x.1
  leaf-is r (h-fetch h) e = absurd (no-leaf e)
  leaf-is r (h-operate h p l) e = absurd (no-leaf e)
  leaf-is r (h-assign h) e = absurd (no-leaf e)
  leaf-is r (h-sequence h) e = absurd (no-leaf e)
  leaf-is r (h-if h) e = absurd (no-leaf e)
  leaf-is r (h-while h) e = absurd (no-leaf e)
  leaf-is r (h-new h p l f u q k k') e = absurd (no-leaf e)
  leaf-is r (h-procedure h B) e = absurd (no-leaf e)

-- the record closed
pub leaf-closed :
    (N : Numbers) (r : Record) (ty around k : ℕ) (t : List ℕ) {kind d : ℕ} {u v w : List ℕ} → r.place < 4096 →
    kind ≡ row_kind r.rule r → d ≡ detail r.rule N r around →
    u ≡ five r.place kind r.next (class_of ty) (values N ty) d t → v ≡ noted r u →
    (RowAt v r.place kind d → w ≡ weighed k r.place v) →
    w ≡ weighed k r.place (noted r (row_written N r ty around r.next t))
leaf-closed N r ty around k t h e f p q g =
    let x = five-written N r ty around r.next t e f p in
    g (rw (q, x, e, f) (noted-at r _ _ _ _ h (row_at N r ty around r.next t h))) ∙ rw (q, x)
