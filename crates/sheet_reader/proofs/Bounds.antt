-- The type of a part is a byte, and the place after it is beyond the part's own and within the sheet.
use Rattle.std.specs.Prelude.{Result, Ok, Err}
use Prim.Native.Nat.{ℕ, zero, suc, ◌+◌, ◌-◌, ◌/◌, ◌≤◌, ◌<◌}
use native.Mathlib.Omega.{arith}
use mir.Val.{Fits}
use mir.Syntax.{w8}
use mathlib.Core.Path.{◌≡◌, refl}
use mathlib.Core.Bool.{Bool, true, false}
use mathlib.Core.List.{List}
use lib.ListN.{length, get_or}
use lib.Dec.{eqb, ltb}
use Rattle.language.specs.Choice.{pick}
use Rattle.language.specs.declared.Numbers.{Numbers}
use Rattle.sheet_heads.specs.Head.{head_of}
use Rattle.language.specs.Operators.{gives_number}
use Rattle.sheet_records.specs.Standing.{standing_of, result_of}
use Rattle.sheet_records.specs.declared.standing.Standing.{Standing}
use Rattle.sheet_parts.specs.Rule.{accepts_part, part_type, result_type}
use Rattle.sheet_parts.specs.Scope.{opens, entered, passed, usable}
use Rattle.sheet_records.specs.declared.edition.Edition.{Edition}
use Rattle.sheet_parts.specs.declared.scope.Opens.{Opens}
use Rattle.sheet_parts.specs.declared.scope.Opens.TheVariants.{Nothing, Block, Routine}
use Rattle.sheet_heads.specs.declared.head.Record.{Record}
use Rattle.sheet_heads.proofs.HeadLaws.{head-good}
use Rattle.sheet_reader.specs.Reader.{Tree, Answer, got, refused, bind, on_head, parts_of, scope_parts}
use Rattle.sheet_reader.specs.Reader.{read_record, read_part}
use Rattle.sheet_reader.specs.table.Fill.{erase, Beyond, Ends}
use Rattle.sheet_reader.specs.declared.part.Part.{Part}
use Rattle.sheet_records.specs.declared.refusal.Refusal.{Refusal}
use Rattle.sheet_reader.proofs.Answers.{pick_all}
use Rattle.sheet_reader.proofs.Core.{headed}
use Rattle.sheet_reader.proofs.Heads.{Heads, h-skip, h-diverge, h-truth, h-number, h-use, h-fetch, h-operate}
use Rattle.sheet_reader.proofs.Heads.{h-assign, h-sequence, h-if, h-while, h-new, h-procedure}
use Rattle.sheet_records.specs.declared.refusal.Reason.TheVariants.{TooDeep}

-- every word is a byte
abbrev Bytes : List ℕ → Type 0
Bytes s = (i : ℕ) → Fits w8 (get_or s i 0)

-- P of the type of what was read and of the place after it
unfoldable Next : {X : Type 0} → (ℕ → ℕ → Type 0) → Answer X → Type 0
Next P (got x ty next) = P ty next
Next P (refused n p) = Unit

module _ {X Y : Type 0} (P Q : ℕ → ℕ → Type 0) where
  next-bind :
      (A : Answer X) (k : X → ℕ → ℕ → Answer Y) → Next P A →
      ((x : X) (ty next : ℕ) → P ty next → Next Q (k x ty next)) → Next Q (bind A k)
  unfolding Next bind
  next-bind (got x ty next) k p f = f x ty next p
  next-bind (refused n q) k p f = tt

next_pick : {X : Type 0} (P : ℕ → ℕ → Type 0) (t : Bool) (A B : Answer X) → Next P A → Next P B → Next P (pick t A B)
next_pick P true A B a b = a
next_pick P false A B a b = b

-- a byte; beyond a place, and within n bytes
abbrev After : ℕ → ℕ → ℕ → ℕ → Type 0
After at n ty next = (ty < 256) × (at < next) × (next ≤ n)

abbrev From : ℕ → ℕ → ℕ → ℕ → Type 0
From at n ty next = (ty < 256) × (at ≤ next) × (next ≤ n)

-- the type of a use, of an operation, of any record
module _ (s : List ℕ) (b : Bytes s) where
  abbrev Small : Standing → Type 0
  Small x = result_of s x < 256

  result-small : (c : ℕ) → result_of s (standing_of c) < 256
  unfolding standing_of result_of
  result-small c =
      pick_all Small (eqb c 0) (λ e. omega arith)
      (λ e. pick_all Small (eqb c 1) (λ e'. omega arith)
      (λ e'. pick_all Small (ltb c 12288) (λ f. omega (arith, b ((c - 256) / 2 + 2)))
      (λ f. pick_all Small (ltb c 16384) (λ g. omega arith)
      (λ g. pick_all Small (ltb c 32768) (λ h. omega arith)
      (λ h. omega (arith, b ((c - 32768) / 128 + 2)))))))

  type-small :
      {ed : Edition} {st : List ℕ} {N : Numbers} {at : ℕ} (r : Record) (last : ℕ) → Heads ed s st N at r →
      last < 256 → part_type r.rule s r last < 256
  unfolding part_type result_type
  type-small r last (h-skip h) l = omega arith
  type-small r last (h-diverge h c k) l = omega arith
  type-small r last (h-truth h c k) l = omega arith
  type-small r last (h-number h c k f) l = omega arith
  type-small r last (h-use h c k f g) l = result-small r.b
  type-small r last (h-fetch h) l = omega arith
  type-small r last (h-operate h c k) l =
      pick_all (λ x. x < 256) (gives_number r.a) (λ e. omega arith) (λ e. omega arith)
  type-small r last (h-assign h) l = omega arith
  type-small r last (h-sequence h) l = l
  type-small r last (h-if h) l = l
  type-small r last (h-while h) l = omega arith
  type-small r last (h-new h c k f u d m m') l = omega arith
  type-small r last (h-procedure h B) l = l

module _ (s : List ℕ) where
  parts_next :
      (rec : ℕ → Answer Tree) → ((at : ℕ) → Next (After at (length s)) (rec at)) →
      (r : Record) (n j prev at : ℕ) → prev < 256 → at ≤ length s →
      Next (From at (length s)) (parts_of rec s r n j prev at)
  unfolding parts_of Next
  parts_next rec f r zero j prev at l h = (l, omega arith, h)
  parts_next rec f r (suc n) j prev at l h =
      next-bind (After at (length s)) (From at (length s)) (rec at) _ (f at) (λ t ty next p.
      next_pick (From at (length s)) (accepts_part r.rule s r j prev ty) _ _
      (next-bind (From next (length s)) (From at (length s)) (parts_of rec s r n (j + 1) ty next) _
      (parts_next rec f r n (j + 1) ty next p.0 p.2) (λ ts last end q. (q.0, omega arith, q.2)))
      tt)

  abbrev Whole : ℕ → Answer Tree → Type 0
  Whole at A = Next (After at (length s)) A

  module _ (rec : List ℕ → ℕ → ℕ → Answer Tree) (f : (st : List ℕ) (around at : ℕ) → Whole at (rec st around at))
      (st : List ℕ) (around : ℕ) (r : Record) (h : r.next ≤ length s) where
    scope-next : (o : Opens) → Next (From r.next (length s)) (scope_parts o rec s st around r)
    unfolding scope_parts Next
    scope-next Nothing = parts_next (rec st around) (f st around) r r.parts 0 0 r.next (omega arith) h
    scope-next Block =
        parts_next (rec (entered st r around) (around + 1)) (f (entered st r around) (around + 1)) r r.parts 0 0
        r.next (omega arith) h
    scope-next Routine =
        let inner : List ℕ = passed s r.place around r.b st in
        let outer : List ℕ = usable st r around in
        next-bind (From r.next (length s)) (From r.next (length s))
        (parts_of (rec inner (around + r.b)) s r 1 0 0 r.next) _
        (parts_next (rec inner (around + r.b)) (f inner (around + r.b)) r 1 0 0 r.next
        (omega arith) h)
        (λ ts ty next p.
        next-bind (From next (length s)) (From r.next (length s))
        (parts_of (rec outer (around + 1)) s r 1 1 ty next) _
        (parts_next (rec outer (around + 1)) (f outer (around + 1)) r 1 1 ty next p.0
        p.2)
        (λ us last end q. (q.0, omega arith, q.2)))

    record-next : (at : ℕ) → at < r.next → ((last : ℕ) → last < 256 → part_type r.rule s r last < 256) →
        Whole at (read_record rec s st around r)
    unfolding read_record Next
    record-next at g m =
        next-bind (From r.next (length s)) (After at (length s)) (scope_parts (opens r.rule) rec s st around r) _
        (scope-next (opens r.rule)) (λ ts last end q. (m last q.0, omega arith, q.2))

  on-head :
      (at : ℕ) (h : Result Record Refusal) (k : Record → Answer Tree) → ((r : Record) → h ≡ Ok r → Whole at (k r)) →
      Whole at (on_head h k)
  unfolding on_head Next
  on-head at (Ok r) k f = f r refl
  on-head at (Err x) k f = tt

  part-next :
      Bytes s → (ed : Edition) (N : Numbers) (left : ℕ) (st : List ℕ) (around at : ℕ) →
      Whole at (read_part ed left N s st around at)
  unfolding read_part Next
  part-next b ed N zero st around at = on-head at (head_of ed s st N 0 at) (λ r. refused TooDeep at) (λ r e. tt)
  part-next b ed N (suc left) st around at =
      on-head at (head_of ed s st N (suc left) at) _ (λ r e.
      let g = head-good ed s st N (suc left) at r e in
      record-next (read_part ed left N s) (λ st' around' at'. part-next b ed N left st' around' at') st around r
      g.next-inside at g.next-beyond
      (λ last l. type-small s b r last (headed ed s st N at r (suc left) e) l))

beyond-of : {X : Type 0} (at n : ℕ) (A : Answer X) → Next (After at n) A → Beyond at n (erase A)
unfolding Next erase Beyond
beyond-of at n (got x ty next) p = p
beyond-of at n (refused a b) p = tt

-- so is the place that the code answers
pub part-beyond :
    (ed : Edition) (left : ℕ) (N : Numbers) (s st : List ℕ) (around at : ℕ) {x : Result Part Refusal} → Bytes s →
    x ≡ erase (read_part ed left N s st around at) → Beyond at (length s) x
part-beyond ed left N s st around at b e =
    rw e (beyond-of at (length s) (read_part ed left N s st around at) (part-next s b ed N left st around at))

pub beyond-within : (at n : ℕ) {y : Part} {x : Result Part Refusal} → Beyond at n x → x ≡ Ok y → y.next ≤ n
unfolding Beyond
beyond-within at n b e = (rw e at b).2

pub beyond-typed : (at n : ℕ) {y : Part} {x : Result Part Refusal} → Beyond at n x → x ≡ Ok y → y.ty < 256
unfolding Beyond
beyond-typed at n b e = (rw e at b).0

-- the place after the parts of a record is within the sheet
ends_of : {X : Type 0} (at n : ℕ) (A : Answer X) → Next (From at n) A → Ends n (erase A)
unfolding Next erase Ends
ends_of at n (got x ty next) p = (p.0, p.2)
ends_of at n (refused a b) p = tt

module _ (ed : Edition) (left : ℕ) (N : Numbers) (s st : List ℕ) (around : ℕ) (r : Record) (b : Bytes s) where
  pub scope_ends : {x : Result Part Refusal} → r.next ≤ length s →
      x ≡ erase (scope_parts (opens r.rule) (read_part ed left N s) s st around r) → Ends (length s) x
  scope_ends h e =
      rw e (ends_of r.next (length s) (scope_parts (opens r.rule) (read_part ed left N s) s st around r)
      (scope-next s (read_part ed left N s) (λ st' around' at'. part-next s b ed N left st' around' at') st around r h
      (opens r.rule)))

  pub parts-end : (n j prev at : ℕ) {x : Result Part Refusal} → prev < 256 → at ≤ length s →
      x ≡ erase (parts_of (read_part ed left N s st around) s r n j prev at) → Ends (length s) x
  parts-end n j prev at l h e =
      rw e (ends_of at (length s) (parts_of (read_part ed left N s st around) s r n j prev at)
      (parts_next s (read_part ed left N s st around) (λ at'. part-next s b ed N left st around at') r n j prev at l
      h))

pub ends-within : (n : ℕ) {y : Part} {x : Result Part Refusal} → Ends n x → x ≡ Ok y → y.next ≤ n
unfolding Ends
ends-within n b e = (rw e at b).1

pub ends-typed : (n : ℕ) {y : Part} {x : Result Part Refusal} → Ends n x → x ≡ Ok y → y.ty < 256
unfolding Ends
ends-typed n b e = (rw e at b).0

pub ends-further : (n m : ℕ) (x : Result Part Refusal) → n ≤ m → Ends n x → Ends m x
unfolding Ends
ends-further n m (Ok x) l h = (h.0, omega arith)
ends-further n m (Err x) l h = tt
