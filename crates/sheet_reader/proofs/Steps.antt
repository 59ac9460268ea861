-- What each function of the cycle of parts answers and leaves, from what its callees answer and leave.
use Rattle.std.specs.Prelude.{Result, Ok, Err}
use Prim.Native.Nat.{ℕ, ◌+◌, ◌-◌}
use mathlib.Core.Path.{◌≡◌, refl, ap, ◌∙◌}
use mathlib.Core.Bool.{Bool, true, false}
use mathlib.Core.List.{List}
use borrow.Author.Tests.{ne_eqb}
use Rattle.language.specs.Choice.{pick}
use Rattle.language.specs.declared.Numbers.{Numbers}
use Rattle.sheet_records.specs.Refusal.{refusal}
use Rattle.sheet_records.specs.declared.refusal.Refusal.{Refusal}
use Rattle.sheet_heads.specs.Head.{head_of}
use Rattle.sheet_heads.specs.Bare.{bare}
use Rattle.sheet_parts.specs.Rule.{accepts_part, part_type}
use Rattle.sheet_rows.specs.Row.{linked, row_written}
use Rattle.sheet_parts.specs.Scope.{opens, entered, passed, usable}
use Rattle.sheet_records.specs.declared.edition.Edition.{Edition}
use Rattle.sheet_records.specs.declared.kind.Rule.TheVariants.{Sequence}
use Rattle.sheet_parts.specs.declared.scope.Opens.TheVariants.{Nothing, Block, Routine}
use Rattle.sheet_heads.specs.declared.head.Record.{Record}
use Rattle.sheet_reader.specs.Reader.{Tree, Trees, leaf, branch, Answer, got, refused, bind, on_head, parts_of, joined}
use Rattle.sheet_reader.specs.Reader.{scope_parts, read_record, read_part}
use Rattle.sheet_reader.specs.table.Fill.{read, fill, fills, fills_next, erase, Leaves, Reads, closed_answer, closed_table}
use Rattle.weight_theory.specs.Step.{weighed}
use Rattle.sheet_reader.specs.table.Notes.{noted}
use Rattle.sheet_reader.specs.table.Number.{used_number}
use Rattle.sheet_reader.specs.declared.part.Part.{Part}
use Rattle.sheet_reader.proofs.Bare.{core, parts-core}
use Rattle.sheet_reader.proofs.Core.{reads-hand, reads_then, part_step, parts-step, closes}
use Rattle.sheet_records.specs.declared.refusal.Reason.TheVariants.{WrongType}

module _ (ed : Edition) (left : ℕ) (N : Numbers) (s st : List ℕ) (around at : ℕ) where
  -- read_part
  pub part-bad : {x : Refusal} {p : Result Part Refusal} {t : List ℕ} → head_of ed s st N left at ≡ Err x →
      p ≡ Err x → Reads (fill N) (read_part ed left N s st around at) p t t
  unfolding on_head erase Leaves
  part-bad e f = rw part_step (rw (e, f) (record { answer = refl; table = tt }))

  pub part-good : {r : Record} {x : Result Part Refusal} {t u : List ℕ} → head_of ed s st N left at ≡ Ok r → (left ≡ 0 → ⊥) →
      Reads (fill N) (read_record (read_part ed (left - 1) N s) s st around r) x t u →
      Reads (fill N) (read_part ed left N s st around at) x t u
  unfolding on_head
  part-good e z R = rw part_step (rw (e, ne_eqb left 0 z) R)

-- one part, then others: the rows of the first, then theirs
module _ (N : Numbers) (p at : ℕ) where
  joins : (x : Tree) (A : Answer Trees) {y : Result Part Refusal} {t u v : List ℕ} → u ≡ fills N (branch at x leaf) p 0 t →
      Reads (λ ts. fills N ts p 1) A y u v →
      Reads (λ ts. fills N ts p 0) (bind A (λ us end far. got (joined (branch at x leaf) us) end far)) y t v
  unfolding bind erase Leaves joined fills
  joins x (got us end far) f Q = record { answer = Q.answer; table = Q.table ∙ rw f }
  joins x (refused m i) f Q = record { answer = Q.answer; table = tt }

  abbrev First : Bool → Tree → ℕ → ℕ → Answer Trees
  First ok x ty next =
      pick ok (bind (got leaf ty next) (λ ts last end. got (branch at x ts) last end)) (refused WrongType at)

  joins-first :
      (ok : Bool) (x : Tree) (ty next : ℕ) (B : ℕ → ℕ → Answer Trees) {q y : Result Part Refusal} {z : Part}
      {t u v : List ℕ} →
      Reads (λ ts. fills N ts p 0) (First ok x ty next) q t u → q ≡ Ok z →
      Reads (λ ts. fills N ts p 1) (B z.ty z.next) y u v →
      Reads (λ ts. fills N ts p 0)
      (bind (First ok x ty next) (λ ts last mid. bind (B last mid) (λ us end far. got (joined ts us) end far))) y t v
  unfolding bind erase Leaves
  joins-first true x ty next B {z = z} R e Q =
      let e₁ : ty ≡ z.ty = cc R.answer in
      let e₂ : next ≡ z.next = cc R.answer in
      rw (e₁, e₂) (joins x (B z.ty z.next) R.table Q)
  joins-first false x ty next B R e Q = cc R.answer

  joins-one :
      (A : Answer Tree) (ok : ℕ → Bool) (B : ℕ → ℕ → Answer Trees) {q y : Result Part Refusal} {z : Part} {t u v : List ℕ} →
      Reads (λ ts. fills N ts p 0) (bind A (λ x last mid. First (ok last) x last mid)) q t u → q ≡ Ok z →
      Reads (λ ts. fills N ts p 1) (B z.ty z.next) y u v →
      Reads (λ ts. fills N ts p 0)
      (bind (bind A (λ x last mid. First (ok last) x last mid))
      (λ ts last mid. bind (B last mid) (λ us end far. got (joined ts us) end far))) y t v
  unfolding bind erase Leaves
  joins-one (got x ty next) ok B R e Q = joins-first (ok ty) x ty next B R e Q
  joins-one (refused m i) ok B R e Q = cc R.answer

module _ (rec : List ℕ → ℕ → ℕ → Answer Tree) (N : Numbers) (s st : List ℕ) (around : ℕ) (r : Record) where
  -- read_scope
  abbrev Scope : Result Part Refusal → List ℕ → List ℕ → Type 0
  Scope = Reads (λ ts. fills N ts r.place 0) (scope_parts (opens r.rule) rec s st around r)

  abbrev Core : List ℕ → ℕ → Result Part Refusal → List ℕ → List ℕ → Type 0
  Core st' number =
      Reads (λ ts. fills N ts r.place 0) (parts_of (rec st' number) s (core r) r.parts 0 0 r.next)

  pub scope-nothing : {x : Result Part Refusal} {t u : List ℕ} → opens r.rule ≡ Nothing → Core st around x t u → Scope x t u
  unfolding scope_parts
  scope-nothing n R = rw (n, ← parts-core (rec st around) s r r.parts 0 0 r.next) R

  -- read_block
  abbrev Inner : Result Part Refusal → List ℕ → List ℕ → Type 0
  Inner = Reads (λ ts. fills N ts r.place 0) (scope_parts Block rec s st around r)

  pub scope-block : {x : Result Part Refusal} {t u : List ℕ} → opens r.rule ≡ Block → Inner x t u → Scope x t u
  scope-block n R = rw n R

  pub block_read : {inner : List ℕ} {x : Result Part Refusal} {t u : List ℕ} → inner ≡ entered st r around →
      Core inner (around + 1) x t u → Inner x t u
  unfolding scope_parts
  block_read e R =
      rw (← parts-core (rec (entered st r around) (around + 1)) s r r.parts 0 0 r.next) (rw e at R)

  -- read_routine
  abbrev Both : Result Part Refusal → List ℕ → List ℕ → Type 0
  Both = Reads (λ ts. fills N ts r.place 0) (scope_parts Routine rec s st around r)

  -- the first term of a procedure
  abbrev Own : Result Part Refusal → List ℕ → List ℕ → Type 0
  Own =
      Reads (λ ts. fills N ts r.place 0)
      (parts_of (rec (passed s r.place around r.b st) (around + r.b)) s (core r) 1 0 0 r.next)

  -- the second: read_usable
  abbrev Other : ℕ → ℕ → Result Part Refusal → List ℕ → List ℕ → Type 0
  Other ty next =
      Reads (λ ts. fills N ts r.place 1) (parts_of (rec (usable st r around) (around + 1)) s r 1 1 ty next)

  pub scope-routine : {x : Result Part Refusal} {t u : List ℕ} → opens r.rule ≡ Routine → Both x t u → Scope x t u
  scope-routine n R = rw n R

  pub routine-refused : {p : Result Part Refusal} {x : Refusal} {t u : List ℕ} → Own p t u → p ≡ Err x → Both (Err x) t u
  unfolding scope_parts
  routine-refused R e =
      reads-hand (parts_of (rec (passed s r.place around r.b st) (around + r.b)) s r 1 0 0 r.next) _
      (rw (parts-core (rec (passed s r.place around r.b st) (around + r.b)) s r 1 0 0 r.next) at R) e

  pub routine-more : {p x : Result Part Refusal} {y : Part} {t u v : List ℕ} → Own p t u → p ≡ Ok y →
      Other y.ty y.next x u v → Both x t v
  unfolding scope_parts parts_of
  routine-more R e Q =
      joins-one N r.place r.next (rec (passed s r.place around r.b st) (around + r.b) r.next)
      (λ ty. accepts_part r.rule s r 0 0 ty)
      (λ ty next. parts_of (rec (usable st r around) (around + 1)) s r 1 1 ty next)
      (rw (← parts-core (rec (passed s r.place around r.b st) (around + r.b)) s r 1 0 0 r.next) R) e Q

  pub usable-read : (ty next : ℕ) {inner : List ℕ} {x : Result Part Refusal} {t u : List ℕ} → inner ≡ usable st r around →
      Reads (λ ts. fills N ts r.place 1) (parts_of (rec inner (around + 1)) s (core r) 1 1 ty next) x t u →
      Other ty next x t u
  usable-read ty next e R =
      rw (← parts-core (rec (usable st r around) (around + 1)) s r 1 1 ty next) (rw e at R)

  -- read_record
  pub record-closes : {parts x : Result Part Refusal} {t u v : List ℕ} → Scope parts t u → x ≡ closed_answer s r parts →
      v ≡ closed_table N s around r parts u → Reads (fill N) (read_record rec s st around r) x t v
  unfolding read_record
  record-closes R e d = closes N s around r (scope_parts (opens r.rule) rec s st around r) R e d

-- the parts of a record, the first of which is A
abbrev Parts : ℕ → (ℕ → Bool) → (ℕ → ℕ → Answer Trees) → Answer Tree → Answer Trees
Parts at ok rest A =
    bind A (λ t ty next.
    pick (ok ty)
    (bind (rest ty next) (λ ts last end. got (branch at t ts) last end))
    (refused WrongType at))

module _ (N : Numbers) (p j at : ℕ) where
  linked-rest :
      (x : Tree) (b : Bool) (A : Answer Trees) {q : Result Part Refusal} {t y u : List ℕ} → y ≡ linked p j at t →
      Reads (λ ts. fills_next N ts p j)
      (pick b (bind A (λ ts last end. got (branch at x ts) last end)) (refused WrongType at)) q y u →
      Reads (λ ts. fills N ts p j)
      (pick b (bind A (λ ts last end. got (branch at x ts) last end)) (refused WrongType at)) q t u
  unfolding bind erase Leaves fills fills_next
  linked-rest x true (got ts last end) l R = record { answer = R.answer; table = R.table ∙ rw l }
  linked-rest x true (refused m i) l R = record { answer = R.answer; table = tt }
  linked-rest x false A l R = record { answer = R.answer; table = tt }

  linked-first :
      (A : Answer Tree) (ok : ℕ → Bool) (rest : ℕ → ℕ → Answer Trees) {q : Result Part Refusal} {t y u : List ℕ} →
      y ≡ linked p j at t → Reads (λ ts. fills_next N ts p j) (Parts at ok rest A) q y u →
      Reads (λ ts. fills N ts p j) (Parts at ok rest A) q t u
  unfolding bind erase Leaves
  linked-first (got x ty next) ok rest l R = linked-rest x (ok ty) (rest ty next) l R
  linked-first (refused m i) ok rest l R = record { answer = R.answer; table = tt }

-- one part read, and those after it
module _ (N : Numbers) (p j at : ℕ) where
  later : (x : Tree) (A : Answer Trees) {q : Result Part Refusal} {t u v : List ℕ} → u ≡ fill N x t →
      Reads (λ ts. fills N ts p (j + 1)) A q u v →
      Reads (λ ts. fills_next N ts p j) (bind A (λ ts last end. got (branch at x ts) last end)) q t v
  unfolding bind erase Leaves fills_next
  later x (got ts last end) k Q = record { answer = Q.answer; table = Q.table ∙ rw k }
  later x (refused m i) k Q = record { answer = Q.answer; table = tt }

module _ (rec : ℕ → Answer Tree) (N : Numbers) (s : List ℕ) (r : Record) (n j prev at : ℕ) where
  -- read_parts
  abbrev Here : Result Part Refusal → List ℕ → List ℕ → Type 0
  Here = Reads (λ ts. fills N ts r.place j) (parts_of rec s r n j prev at)

  -- read_next
  abbrev Next : Result Part Refusal → List ℕ → List ℕ → Type 0
  Next = Reads (λ ts. fills_next N ts r.place j) (parts_of rec s r n j prev at)

  abbrev Later : ℕ → ℕ → Result Part Refusal → List ℕ → List ℕ → Type 0
  Later ty next = Reads (λ ts. fills N ts r.place (j + 1)) (parts_of rec s r (n - 1) (j + 1) ty next)

  pub parts_none : {t : List ℕ} → n ≡ 0 → Here (read prev at) t t
  unfolding parts_of erase Leaves fills
  parts_none e = rw e (record { answer = refl; table = refl })

  pub parts-linked : {p : Result Part Refusal} {t y u : List ℕ} → (n ≡ 0 → ⊥) → y ≡ linked r.place j at t → Next p y u → Here p t u
  parts-linked z l R =
      rw (parts-step rec s r n j prev at z)
      (linked-first N r.place j at (rec at) (λ ty. accepts_part r.rule s r j prev ty)
      (λ ty next. parts_of rec s r (n - 1) (j + 1) ty next) l
      (rw (parts-step rec s r n j prev at z) at R))

  pub next-refused : {p : Result Part Refusal} {x : Refusal} {t u v : List ℕ} → (n ≡ 0 → ⊥) → Reads (fill N) (rec at) p t u →
      p ≡ Err x → Next (Err x) v u
  next-refused z R e = rw (parts-step rec s r n j prev at z) (reads-hand (rec at) _ R e)

  pub next-wrong : {p : Result Part Refusal} {x : Part} {t u v : List ℕ} → (n ≡ 0 → ⊥) → Reads (fill N) (rec at) p t u →
      p ≡ Ok x → accepts_part r.rule s r j prev x.ty ≡ false → Next (Err (refusal WrongType at)) v u
  unfolding erase Leaves
  next-wrong z R e f =
      rw (parts-step rec s r n j prev at z)
      (reads_then (rec at) _ R e (λ x k. rw f (record { answer = refl; table = tt })))

  pub next_more : {p q : Result Part Refusal} {y : Part} {t u v : List ℕ} → (n ≡ 0 → ⊥) →
      Reads (fill N) (rec at) p t u → p ≡ Ok y → accepts_part r.rule s r j prev y.ty ≡ true →
      Later y.ty y.next q u v → Next q t v
  next_more {y = y} {t} z R e f Q =
      rw (parts-step rec s r n j prev at z)
      (reads_then (rec at) _ R e (λ x k. rw f (later N r.place j at x (parts_of rec s r (n - 1) (j + 1) y.ty y.next)
      k Q)))

-- read_part: a record without parts
module _ (rec : List ℕ → ℕ → ℕ → Answer Tree) (N : Numbers) (s st : List ℕ) (around : ℕ) (r : Record) where
  pub record-leaf : {ty : ℕ} {t u : List ℕ} → opens r.rule ≡ Nothing → r.parts ≡ 0 →
      ty ≡ part_type r.rule s r 0 →
      u ≡ weighed (used_number r) r.place (noted r (row_written N r ty around r.next t)) →
      Reads (fill N) (read_record rec s st around r) (read ty r.next) t u
  unfolding bare closed_answer closed_table
  record-leaf o z f e =
      record-closes rec N s st around r
      (scope-nothing rec N s st around r o (parts_none (rec st around) N s (core r) r.parts 0 0 r.next z))
      (ap (λ x. read x r.next) f) (e ∙ rw f)

-- read_root: one part, the second of a sequence
module _ (N : Numbers) (s : List ℕ) (at : ℕ) where
  root-of : (A : Answer Tree) {p : Result Part Refusal} {t u : List ℕ} →
      Reads (λ ts. fills_next N ts 0 1)
      (bind A (λ x ty next.
      pick (accepts_part Sequence s (bare 0 Sequence 0 0) 1 0 ty)
      (bind (got leaf ty next) (λ ts last end. got (branch at x ts) last end))
      (refused WrongType at)))
      p t u →
      Reads (fill N) A p t u
  unfolding bind erase Leaves fills fills_next accepts_part
  root-of (got x ty next) R = record { answer = R.answer; table = R.table }
  root-of (refused n p) R = record { answer = R.answer; table = tt }

  pub root-reads : (rec : ℕ → Answer Tree) {p : Result Part Refusal} {t u : List ℕ} →
      Reads (λ ts. fills_next N ts 0 1) (parts_of rec s (bare 0 Sequence 0 0) 1 1 0 at) p t u →
      Reads (fill N) (rec at) p t u
  unfolding parts_of bare
  root-reads rec R = root-of (rec at) R
