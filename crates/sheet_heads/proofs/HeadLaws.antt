-- A part whose head is accepted.
use Prim.Native.Nat.{ℕ, ◌+◌, ◌≤◌, ◌<◌}
use native.Mathlib.Omega.{arith}
use mathlib.Core.Path.{◌≡◌, refl, sym, ◌∙◌}
use mathlib.Core.List.{List}
use lib.ListN.{length, get_or}
use lib.Dec.{leb, eqb}
use borrow.Author.Tests.{leb-false, eqb-false}
use Rattle.language.specs.declared.Numbers.{Numbers}
use Rattle.sheet_records.specs.Kind.{bytes_of, shape_of}
use Rattle.sheet_heads.specs.Head.{head_of_shape, body_of, blank, head_of}
use Rattle.sheet_records.specs.declared.edition.Edition.{Edition}
use Rattle.sheet_records.specs.declared.kind.Rule.{Rule}
use Rattle.sheet_records.specs.declared.kind.Shape.{Shape}
use Rattle.sheet_records.specs.declared.kind.Shape.TheVariants.{Part, Declare, Retire, Unknown}
use Rattle.sheet_heads.specs.declared.head.Record.{Record}
use Rattle.std.specs.Prelude.{Result, Ok}
use Rattle.sheet_records.specs.declared.refusal.Refusal.{Refusal}
use Rattle.sheet_records.proofs.KindLaws.{kind_of, parts_of, Fits, shape-known, shape-of-kind}
use Rattle.sheet_judgements.proofs.Tests.{pick-false}
use Rattle.sheet_heads.proofs.ByteLaws.{bad-good}
use Rattle.sheet_heads.proofs.BodyLaws.{Kept, body_kept}

-- a record of which only the kind byte has been read, by its rule
abbrev pub start : ℕ → Rule → Record
start at R = blank at (kind_of R) (bytes_of R) (parts_of R) R

record Shaped (x : Shape) (k : ℕ → ℕ → Rule → Result Record Refusal) (r : Record) : Type 0 where
  body : ℕ
  parts : ℕ
  rule : Rule
  shape : x ≡ Part body parts rule
  rest : k body parts rule ≡ Ok r

shaped : (x : Shape) (at : ℕ) (k : ℕ → ℕ → Rule → Result Record Refusal) (r : Record) →
    head_of_shape x at k ≡ Ok r → Shaped x k r
unfolding head_of_shape
shaped (Part body parts R) at k r h = record { body = body; parts = parts; rule = R; shape = refl; rest = h }
shaped (Declare body once) at k r h = absurd (bad-good h)
shaped (Retire body) at k r h = absurd (bad-good h)
shaped Unknown at k r h = absurd (bad-good h)

-- the kind and the body of an accepted part, where its rule is R
pub record Opened (ed : Edition) (R : Rule) (s st : List ℕ) (N : Numbers) (left at : ℕ) (r : Record) : Type 0 where
  pub inside : at < length s
  pub kind : get_or s at 0 ≡ kind_of R
  pub depth : left ≡ 0 → ⊥
  pub body : body_of ed R s st N (start at R) ≡ Ok r

at-start :
    (ed : Edition) (s st : List ℕ) (N : Numbers) (at : ℕ) (r : Record) (k body parts : ℕ) (R : Rule) →
    Fits k body parts R →
    body_of ed R s st N (blank at k body parts R) ≡ Ok r → body_of ed R s st N (start at R) ≡ Ok r
at-start ed s st N at r k body parts R f h = rw (f.0, f.1, f.2) at h

-- the same with its rule
record Found (ed : Edition) (s st : List ℕ) (N : Numbers) (left at : ℕ) (r : Record) : Type 0 where
  rule : Rule
  opened : Opened ed rule s st N left at r

module _
    (ed : Edition) (s st : List ℕ) (N : Numbers) (left at : ℕ) (r : Record) (h : head_of ed s st N left at ≡ Ok r) where
  found : Found ed s st N left at r
  unfolding head_of
  found =
      let o = pick-false (leb (length s) at) bad-good h in
      let x = shaped (shape_of (get_or s at 0)) at _ r o.1 in
      let q = pick-false (eqb left 0) bad-good x.rest in
      let f = shape-known (get_or s at 0) x.body x.parts x.rule x.shape in
      record {
        rule = x.rule;
        opened = record {
          inside = leb-false (length s) at o.0;
          kind = f.0;
          depth = eqb-false left 0 q.0;
          body = at-start ed s st N at r (get_or s at 0) x.body x.parts x.rule f q.1;
        };
      }

  kept : Kept found.rule s (start at found.rule) r
  unfolding blank
  kept = body_kept s st N (start at found.rule) r found.opened.inside ed found.rule found.opened.body

  rule-same : r.rule ≡ found.rule
  unfolding blank
  rule-same = kept.rule

  opened-as : (R : Rule) → r.rule ≡ R → Opened ed R s st N left at r
  opened-as R e = rw (sym rule-same ∙ e) at found.opened

-- an accepted part: its place, kind and depth, and the place after its body
pub record GoodHead (s : List ℕ) (left at : ℕ) (r : Record) : Type 0 where
  pub place : r.place ≡ at
  pub inside : at < length s
  pub kind : r.kind ≡ get_or s at 0
  pub depth : left ≡ 0 → ⊥
  pub next-beyond : at < r.next
  pub next-inside : r.next ≤ length s
  pub body : ℕ
  pub parts : ℕ
  pub shape : shape_of (get_or s at 0) ≡ Part body parts r.rule
  pub next : r.next ≡ at + 1 + body

pub head-good :
    (ed : Edition) (s st : List ℕ) (N : Numbers) (left at : ℕ) (r : Record) → head_of ed s st N left at ≡ Ok r →
    GoodHead s left at r
unfolding blank
head-good ed s st N left at r h =
    let o = opened-as ed s st N left at r h r.rule refl in
    let k = body_kept s st N (start at r.rule) r o.inside ed r.rule o.body in
    let n : r.next ≡ at + 1 + bytes_of r.rule = k.next in
    let i : at + bytes_of r.rule < length s = k.inside in
    record {
      place = k.place;
      inside = o.inside;
      kind = k.kind ∙ sym o.kind;
      depth = o.depth;
      next-beyond = omega arith;
      next-inside = omega arith;
      body = bytes_of r.rule;
      parts = parts_of r.rule;
      shape = rw o.kind (shape-of-kind r.rule);
      next = n;
    }
