-- Laws of reading: what an answer of the code says of the answer in the definition, and one step of each recursion.
use Rattle.std.specs.Prelude.{Result, Ok, Err}
use Rattle.std.specs.Result.{IsErrAnd}
use Rattle.std.proofs.lemmas.Result.{err_from_is_err_and}
use Prim.Native.Nat.{ℕ, zero, suc, ◌+◌, ◌-◌, ◌≤◌}
use native.Mathlib.Omega.{arith}
use native.Mathlib.Numerals.{sub-one}
use mathlib.Core.Path.{◌≡◌, refl, sym, ap, ◌∙◌}
use mathlib.Core.List.{List}
use lib.Dec.{eqb, eqb-suc-zero}
use borrow.Author.Tests.{ne_eqb}
use Rattle.language.specs.Choice.{pick}
use Rattle.language.specs.declared.Numbers.{Numbers}
use Rattle.sheet_records.specs.declared.refusal.Refusal.{Refusal}
use Rattle.sheet_heads.specs.Head.{head_of}
use Rattle.sheet_parts.specs.Rule.{accepts_part, part_type}
use Rattle.sheet_rows.specs.Row as row
use Rattle.sheet_parts.specs.Scope.{opens}
use Rattle.sheet_records.specs.declared.edition.Edition.{Edition}
use Rattle.sheet_parts.specs.declared.scope.Opens.TheVariants.{Block, Routine}
use Rattle.sheet_heads.specs.declared.head.Record.{Record}
use Rattle.sheet_heads.proofs.HeadLaws.{head-good}
use Rattle.weight_theory.specs.Step.{weighed}
use Rattle.sheet_reader.specs.Reader.{Tree, node, Trees, branch, Answer, got, refused, bind, on_head, parts_of}
use Rattle.sheet_reader.specs.Reader.{read_record, read_part}
use Rattle.sheet_reader.specs.table.Fill.{fill, fills, erase, Leaves, Reads, closed_answer, closed_table}
use Rattle.sheet_reader.specs.table.Notes.{noted}
use Rattle.sheet_reader.specs.table.Number.{used_number}
use Rattle.sheet_reader.specs.declared.part.Part.{Part}
use Rattle.sheet_reader.proofs.Answers.{HeadAll}
use Rattle.sheet_reader.proofs.Heads.{Heads, h-skip, h-diverge, h-truth, h-number, h-use, h-fetch, h-operate}
use Rattle.sheet_reader.proofs.Heads.{h-assign, h-sequence, h-if, h-while, h-new, h-procedure, heads}
use Rattle.sheet_records.specs.declared.refusal.Reason.TheVariants.{WrongType, TooDeep}

-- the refusal that a `?` hands on
pub handed : {T : Type 0} (r : Result T Refusal) {x : Refusal} → IsErrAnd r (λ y. y ≡ x) → r ≡ Err x
handed r h = let p = err_from_is_err_and r h in rw (p.1, p.2)

-- a refusal is handed on
pub reads-hand :
    {X Y : Type 0} {f : X → List ℕ → List ℕ} {g : Y → List ℕ → List ℕ} (A : Answer X) (k : X → ℕ → ℕ → Answer Y)
    {p : Result Part Refusal} {x : Refusal} {t u v : List ℕ} → Reads f A p t u → p ≡ Err x →
    Reads g (bind A k) (Err x) v u
unfolding erase bind Leaves
reads-hand (got x ty next) k R e = cc R.answer
reads-hand (refused n q) k R e = record { answer = sym e ∙ R.answer; table = tt }

-- what was read goes on
pub reads_then :
    {X Y : Type 0} {f : X → List ℕ → List ℕ} {g : Y → List ℕ → List ℕ} (A : Answer X) (k : X → ℕ → ℕ → Answer Y)
    {p q : Result Part Refusal} {z : Part} {t u v y : List ℕ} → Reads f A p t u → p ≡ Ok z →
    ((x : X) → u ≡ f x t → Reads g (k x z.ty z.next) q v y) → Reads g (bind A k) q v y
unfolding erase bind Leaves
reads_then (got x ty next) k {z = z} R e h =
    let e₁ : ty ≡ z.ty = cc R.answer in
    let e₂ : next ≡ z.next = cc R.answer in
    rw (e₁, e₂) (h x R.table)
reads_then (refused n p) k R e h = cc R.answer

-- one step of reading a part
pub part_step :
    (ed : Edition) (left : ℕ) (N : Numbers) (s st : List ℕ) (around at : ℕ) →
    read_part ed left N s st around at ≡ on_head (head_of ed s st N left at) (λ r.
    pick (eqb left 0) (refused TooDeep at) (read_record (read_part ed (left - 1) N s) s st around r))
unfolding read_part
part_step ed zero N s st around at = refl
part_step ed (suc left) N s st around at = simp (sub-one, eqb-suc-zero)

-- one step of reading parts
pub parts-step :
    (rec : ℕ → Answer Tree) (s : List ℕ) (r : Record) (n j prev at : ℕ) → (n ≡ 0 → ⊥) →
    parts_of rec s r n j prev at ≡ bind (rec at) (λ t ty next.
    pick (accepts_part r.rule s r j prev ty)
    (bind (parts_of rec s r (n - 1) (j + 1) ty next) (λ ts last end. got (branch at t ts) last end))
    (refused WrongType at))
unfolding parts_of
parts-step rec s r zero j prev at h = absurd (h refl)
parts-step rec s r (suc n) j prev at h = simp sub-one

-- the row that is written, the note that is made and the record that is weighed where the answer of the parts is known
pub closed-table :
    (N : Numbers) (s : List ℕ) (around : ℕ) (r : Record) (t : List ℕ) {parts : Result Part Refusal} {x : Part} {ty k : ℕ}
    {y u v w : List ℕ} → parts ≡ Ok x → ty ≡ part_type r.rule s r x.ty → y ≡ t →
    u ≡ row.row_written N r ty around x.next y → v ≡ noted r u → k ≡ used_number r → w ≡ weighed k r.place v →
    w ≡ closed_table N s around r parts t
unfolding closed_table
closed-table N s around r t {k = k} e f d h g i l =
    l ∙ (ap (weighed k r.place) (g ∙ ap (noted r) h) ∙ rw (i, e, f, d))

-- the same where it was done by one decision
pub closed-as :
    (N : Numbers) (s : List ℕ) (around : ℕ) (r : Record) (t : List ℕ) {parts p x : Result Part Refusal} {u : List ℕ} → parts ≡ p →
    (x ≡ closed_answer s r p) × (u ≡ closed_table N s around r p t) →
    (x ≡ closed_answer s r parts) × (u ≡ closed_table N s around r parts t)
closed-as N s around r t e C = rw e C

-- the number of the procedure that a record uses
pub number-none : (r : Record) → (r.kind ≡ 20 → ⊥) → 0 ≡ used_number r
unfolding used_number
number-none r e = rw (ne_eqb r.kind 20 e) refl

-- a record closed after its parts
pub closes :
    (N : Numbers) (s : List ℕ) (around : ℕ) (r : Record) (A : Answer Trees) {parts x : Result Part Refusal} {t u v : List ℕ} →
    Reads (λ ts. fills N ts r.place 0) A parts t u → x ≡ closed_answer s r parts →
    v ≡ closed_table N s around r parts u →
    Reads (fill N)
    (bind A (λ ts last end.
    got (node r (part_type r.rule s r last) around end ts) (part_type r.rule s r last) end))
    x t v
unfolding erase bind Leaves closed_answer closed_table fill
closes N s around r (got ts last end) R e d =
    record { answer = e ∙ rw R.answer; table = d ∙ rw R.answer (rw R.table) }
closes N s around r (refused n p) R e d = record { answer = e ∙ rw R.answer; table = tt }

-- the data of a new, which alone opens a block, is a truth or a number
small-block : {ed : Edition} (s st : List ℕ) (N : Numbers) (at : ℕ) (r : Record) → Heads ed s st N at r →
    opens r.rule ≡ Block → r.b ≤ 2
unfolding opens
small-block s st N at r (h-skip h) e = let z : ◌≡◌ {A = ℕ} 0 1 = cc in absurd (omega arith)
small-block s st N at r (h-diverge h b l) e = let z : ◌≡◌ {A = ℕ} 0 1 = cc in absurd (omega arith)
small-block s st N at r (h-truth h b l) e = let z : ◌≡◌ {A = ℕ} 0 1 = cc in absurd (omega arith)
small-block s st N at r (h-number h b l f) e = let z : ◌≡◌ {A = ℕ} 0 1 = cc in absurd (omega arith)
small-block s st N at r (h-use h b l f g) e = let z : ◌≡◌ {A = ℕ} 0 1 = cc in absurd (omega arith)
small-block s st N at r (h-fetch h) e = let z : ◌≡◌ {A = ℕ} 0 1 = cc in absurd (omega arith)
small-block s st N at r (h-operate h b l) e = let z : ◌≡◌ {A = ℕ} 0 1 = cc in absurd (omega arith)
small-block s st N at r (h-assign h) e = let z : ◌≡◌ {A = ℕ} 0 1 = cc in absurd (omega arith)
small-block s st N at r (h-sequence h) e = let z : ◌≡◌ {A = ℕ} 0 1 = cc in absurd (omega arith)
small-block s st N at r (h-if h) e = let z : ◌≡◌ {A = ℕ} 0 1 = cc in absurd (omega arith)
small-block s st N at r (h-while h) e = let z : ◌≡◌ {A = ℕ} 0 1 = cc in absurd (omega arith)
small-block s st N at r (h-new h b l f u c k k') e = omega arith
small-block s st N at r (h-procedure h B) e = let z : ◌≡◌ {A = ℕ} 0 1 = cc in absurd (omega arith)

-- a procedure, which alone opens two scopes, has four parameters at most
small-routine : {ed : Edition} (s st : List ℕ) (N : Numbers) (at : ℕ) (r : Record) → Heads ed s st N at r →
    opens r.rule ≡ Routine → r.b ≤ 4
unfolding opens
small-routine s st N at r (h-skip h) e = let z : ◌≡◌ {A = ℕ} 0 1 = cc in absurd (omega arith)
small-routine s st N at r (h-diverge h b l) e = let z : ◌≡◌ {A = ℕ} 0 1 = cc in absurd (omega arith)
small-routine s st N at r (h-truth h b l) e = let z : ◌≡◌ {A = ℕ} 0 1 = cc in absurd (omega arith)
small-routine s st N at r (h-number h b l f) e = let z : ◌≡◌ {A = ℕ} 0 1 = cc in absurd (omega arith)
small-routine s st N at r (h-use h b l f g) e = let z : ◌≡◌ {A = ℕ} 0 1 = cc in absurd (omega arith)
small-routine s st N at r (h-fetch h) e = let z : ◌≡◌ {A = ℕ} 0 1 = cc in absurd (omega arith)
small-routine s st N at r (h-operate h b l) e = let z : ◌≡◌ {A = ℕ} 0 1 = cc in absurd (omega arith)
small-routine s st N at r (h-assign h) e = let z : ◌≡◌ {A = ℕ} 0 1 = cc in absurd (omega arith)
small-routine s st N at r (h-sequence h) e = let z : ◌≡◌ {A = ℕ} 0 1 = cc in absurd (omega arith)
small-routine s st N at r (h-if h) e = let z : ◌≡◌ {A = ℕ} 0 1 = cc in absurd (omega arith)
small-routine s st N at r (h-while h) e = let z : ◌≡◌ {A = ℕ} 0 1 = cc in absurd (omega arith)
small-routine s st N at r (h-new h b l f u c k k') e = let z : ◌≡◌ {A = ℕ} 0 1 = cc in absurd (omega arith)
small-routine s st N at r (h-procedure h B) e = omega (arith, B.few)

module _ (ed : Edition) (s st : List ℕ) (N : Numbers) (at : ℕ) (r : Record) where
  -- the head of an accepted part
  pub headed : (left : ℕ) → head_of ed s st N left at ≡ Ok r → Heads ed s st N at r
  unfolding HeadAll
  headed zero e = absurd ((head-good ed s st N 0 at r e).depth refl)
  headed (suc left) e = rw e at (heads ed s st N at left)

  pub block-small : (left : ℕ) → head_of ed s st N left at ≡ Ok r → opens r.rule ≡ Block → r.b ≤ 2
  block-small left e = small-block s st N at r (headed left e)

  pub routine-small : (left : ℕ) → head_of ed s st N left at ≡ Ok r → opens r.rule ≡ Routine → r.b ≤ 4
  routine-small left e = small-routine s st N at r (headed left e)
