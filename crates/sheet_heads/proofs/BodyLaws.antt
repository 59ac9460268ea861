-- What the body of a part is where it is accepted, and what it leaves of the record.
use Prim.Native.Nat.{ℕ, ◌+◌, ◌≤◌, ◌<◌}
use native.Mathlib.Omega.{arith}
use mathlib.Core.Path.{◌≡◌, refl, sym, ap, ◌∙◌}
use mathlib.Core.Bool.{true, false}
use mathlib.Core.List.{List}
use lib.ListN.{length, get_or}
use lib.Dec.{eqb}
use borrow.Author.Tests.{eqb-false}
use Rattle.language.specs.Number.{in_range}
use Rattle.language.specs.declared.Numbers.{Numbers}
use Rattle.sheet_records.specs.Standing.{standing_of, is_named}
use Rattle.sheet_judgements.specs.Judge.{hides, procedure_of}
use Rattle.sheet_records.specs.declared.edition.Edition.{Edition}
use Rattle.sheet_heads.specs.Head.{with_body, limited, constant, used, use_of, data_byte, new_of, on_judged}
use Rattle.sheet_heads.specs.Head.{procedure_head, body_of}
use Rattle.sheet_records.specs.declared.kind.Rule.{Rule}
use Rattle.sheet_records.specs.declared.kind.Rule.TheVariants.{Skip, Diverge, Truth, Number, Use, Fetch}
use Rattle.sheet_records.specs.declared.kind.Rule.TheVariants.{Operate, Assign, Sequence, If, While, New, Procedure}
use Rattle.sheet_heads.specs.declared.head.Record.{Record}
use Rattle.std.specs.Prelude.{Result, Ok, Err}
use Rattle.sheet_records.specs.declared.refusal.Refusal.{Refusal}
use Rattle.sheet_records.specs.Kind.{bytes_of}
use Rattle.sheet_judgements.proofs.JudgeLaws.{procedure-inside}
use Rattle.sheet_judgements.proofs.Tests.{pick-false, pick_true}
use Rattle.sheet_heads.proofs.ByteLaws.{bad-good, good-same, byte-good}

module _ (s : List ℕ) (b r : Record) where
  -- one byte below a limit
  limited-body :
      (limit : ℕ) → limited s b limit ≡ Ok r →
      (b.place + 1 < length s) × (get_or s (b.place + 1) 0 < limit) × (r ≡ with_body b (get_or s (b.place + 1) 0) 0)
  unfolding limited
  limited-body limit h =
      let g = byte-good s (b.place + 1) limit (λ a. Ok (with_body b a 0)) r h in
      (g.0, g.1, sym (good-same g.2))

  -- a number
  constant-body :
      (N : Numbers) → constant s N b ≡ Ok r →
      (b.place + 1 < length s) × (get_or s (b.place + 1) 0 < 256) × (in_range N (get_or s (b.place + 1) 0) ≡ true)
      × (r ≡ with_body b (get_or s (b.place + 1) 0) 0)
  unfolding constant
  constant-body N h =
      let g = byte-good s (b.place + 1) 256 _ r h in
      let t = pick_true (in_range N (get_or s (b.place + 1) 0)) bad-good g.2 in
      (g.0, g.1, t.0, sym (good-same t.1))

  -- an id and its standing
  use-body :
      (st : List ℕ) (id c : ℕ) → id ≡ get_or s (b.place + 1) 0 → c ≡ get_or st id 0 → use_of s st b ≡ Ok r →
      (b.place + 1 < length s) × (id < 255) × (c ≡ 0 → ⊥) × (c ≡ 1 → ⊥) × (r ≡ used s b id c)
  unfolding use_of
  use-body st id c e f h =
      let g = byte-good s (b.place + 1) 255 _ r h in
      let i = rw (← e, ← f) at g.2 in
      let p = pick-false (eqb c 0) bad-good i in
      let q = pick-false (eqb c 1) bad-good p.1 in
      (g.0, rw e g.1, eqb-false c 0 p.0, eqb-false c 1 q.0, sym (good-same q.1))

  -- the data of a new
  data-body :
      (id d : ℕ) → d ≡ get_or s (b.place + 2) 0 → data_byte s b id ≡ Ok r →
      (b.place + 2 < length s) × (d < 3) × (d ≡ 0 → ⊥) × (r ≡ with_body b id d)
  unfolding data_byte
  data-body id d e h =
      let g = byte-good s (b.place + 2) 3 _ r h in
      let p = pick-false (eqb d 0) bad-good (rw (← e) at g.2) in
      (g.0, rw e g.1, eqb-false d 0 p.0, sym (good-same p.1))

  -- a new: its id, whose standing is c, and its data
  new-body :
      (ed : Edition) (st : List ℕ) (id d c : ℕ) →
      id ≡ get_or s (b.place + 1) 0 → d ≡ get_or s (b.place + 2) 0 → c ≡ get_or st id 0 → new_of ed s st b ≡ Ok r →
      (b.place + 2 < length s) × (id < 255) × (0 < d) × (d ≤ 2) × (is_named (standing_of c) ≡ false)
      × (hides ed (standing_of c) ≡ false) × (r ≡ with_body b id d)
  unfolding new_of
  new-body ed st id d c e e₁ e₂ h =
      let g = byte-good s (b.place + 1) 255 _ r h in
      let p = pick-false (is_named (standing_of c)) bad-good (rw (← e, ← e₂) at g.2) in
      let a = pick-false (hides ed (standing_of c)) bad-good p.1 in
      let q = data-body id d e₁ a.1 in
      let n = q.2 in
      (q.0, rw e g.1, omega arith, omega arith, p.0, a.0, q.3)

  -- a procedure: its id and how many parameters it has
  procedure-body :
      (ed : Edition) (st : List ℕ) → procedure_head ed s st b ≡ Ok r →
      (procedure_of ed s st b.place ≡ Ok tt)
      × (r ≡ with_body b (get_or s (b.place + 1) 0) (get_or s (b.place + 3) 0))
  unfolding procedure_head on_judged
  procedure-body ed st = go (procedure_of ed s st b.place)
    where
      go : (x : Result (Unit {0}) Refusal) →
          on_judged x (Ok (with_body b (get_or s (b.place + 1) 0) (get_or s (b.place + 3) 0))) ≡ Ok r →
          (x ≡ Ok tt) × (r ≡ with_body b (get_or s (b.place + 1) 0) (get_or s (b.place + 3) 0))
      go (Ok x) h = (refl, sym (good-same h))
      go (Err x) h = absurd (bad-good h)

-- what every body leaves, and that it stands in the list
pub record Kept (R : Rule) (s : List ℕ) (b r : Record) : Type 0 where
  pub place : r.place ≡ b.place
  pub kind : r.kind ≡ b.kind
  pub rule : r.rule ≡ b.rule
  pub next : r.next ≡ b.next
  pub inside : b.place + bytes_of R < length s

kept-as :
    (R : Rule) (s : List ℕ) (b r : Record) {b' : Record} → b.place + bytes_of R < length s → r ≡ b' →
    b'.place ≡ b.place → b'.kind ≡ b.kind → b'.rule ≡ b.rule → b'.next ≡ b.next → Kept R s b r
kept-as R s b r i e p k q n =
    record {
      place = ap (λ (x : Record). x.place) e ∙ p;
      kind = ap (λ (x : Record). x.kind) e ∙ k;
      rule = ap (λ (x : Record). x.rule) e ∙ q;
      next = ap (λ (x : Record). x.next) e ∙ n;
      inside = i;
    }

module _ (s st : List ℕ) (N : Numbers) (b r : Record) (i : b.place < length s) where
  plain : (R : Rule) → bytes_of R ≡ 0 → ◌≡◌ {A = Result Record Refusal} (Ok b) (Ok r) → Kept R s b r
  plain R e h = kept-as R s b r (omega arith) (sym (good-same h)) refl refl refl refl

  one : (R : Rule) (limit : ℕ) → bytes_of R ≡ 1 → limited s b limit ≡ Ok r → Kept R s b r
  unfolding with_body
  one R limit e h =
      let g = limited-body s b r limit h in
      let j = g.0 in
      kept-as R s b r (omega arith) g.2 refl refl refl refl

  pub body_kept : (ed : Edition) (R : Rule) → body_of ed R s st N b ≡ Ok r → Kept R s b r
  unfolding body_of with_body used
  body_kept ed Skip h = plain Skip refl h
  body_kept ed Diverge h = one Diverge 5 refl h
  body_kept ed Truth h = one Truth 2 refl h
  body_kept ed Number h =
      let g = constant-body s b r N h in
      kept-as Number s b r g.0 g.3 refl refl refl refl
  body_kept ed Use h =
      let g = use-body s b r st _ _ refl refl h in
      kept-as Use s b r g.0 g.4 refl refl refl refl
  body_kept ed Fetch h = plain Fetch refl h
  body_kept ed Operate h = one Operate 9 refl h
  body_kept ed Assign h = plain Assign refl h
  body_kept ed Sequence h = plain Sequence refl h
  body_kept ed If h = plain If refl h
  body_kept ed While h = plain While refl h
  body_kept ed New h =
      let g = new-body s b r ed st _ _ _ refl refl refl h in
      kept-as New s b r g.0 g.6 refl refl refl refl
  body_kept ed Procedure h =
      let g = procedure-body s b r ed st h in
      kept-as Procedure s b r (procedure-inside ed s st b.place g.0) g.1 refl refl refl refl
