-- A refusal by check has a number from 1 to 11, or by the present rule 16, and a place that the sheet has, or its end;
-- so no place is above 4,096.
use Rattle.std.specs.Prelude.{Result, Ok, Err}
use Prim.Native.Nat.{ℕ, zero, suc, ◌+◌, ◌*◌, ◌≤◌, ◌<◌}
use native.Mathlib.Omega.{arith}
use mathlib.Core.Path.{◌≡◌, refl}
use mathlib.Core.Bool.{Bool, true, false}
use mathlib.Core.List.{List, []}
use mathlib.Core.Logic.{inl, inr}
use lib.ListN.{length, get_or, set}
use lib.Dec.{eqb, leb, ltb}
use borrow.Author.Tests.{leb-false, ltb-false}
use Rattle.language.specs.Choice.{pick}
use Rattle.language.specs.Number.{in_range}
use Rattle.language.specs.declared.Numbers.{Numbers}
use Rattle.sheet_records.specs.declared.refusal.Reason.{Reason}
use Rattle.sheet_records.specs.declared.refusal.Refusal.{Refusal}
use Rattle.sheet_records.specs.Limits.{greatest_z, greatest_rule}
use Rattle.sheet_records.specs.Refusal.{refusal, number_of, too_deep, too_large, id_enclosed}
use Rattle.sheet_records.specs.Kind.{shape_of}
use Rattle.sheet_records.specs.Standing.{standing_of, is_named, declared_standing}
use Rattle.sheet_judgements.specs.Judge.{and_then, below, unused, bound, hides, apart, earlier, unlike, parameter_id, pair}
use Rattle.sheet_judgements.specs.Judge.{procedure_of}
use Rattle.sheet_records.specs.declared.edition.Edition.{Edition}
use Rattle.sheet_records.specs.declared.edition.Edition.TheVariants.{Earlier, Present}
use Rattle.sheet_records.specs.declared.standing.Standing.{Standing}
use Rattle.sheet_heads.specs.Head.{byte_of, on_byte, limited, constant, use_of, data_byte, new_of, procedure_head, body_of, head_of}
use Rattle.sheet_heads.specs.Head.{blank, head_of_shape as on_part, on_judged as head_judged}
use Rattle.sheet_parts.specs.Rule.{accepts_part}
use Rattle.sheet_parts.specs.Scope.{opens, entered, passed, usable}
use Rattle.sheet_records.specs.declared.kind.Rule.{Rule}
use Rattle.sheet_records.specs.declared.kind.Rule.TheVariants.{Skip, Diverge, Truth, Number, Use, Fetch, Operate, Assign}
use Rattle.sheet_records.specs.declared.kind.Rule.TheVariants.{Sequence, If, While, New, Procedure}
use Rattle.sheet_parts.specs.declared.scope.Opens.{Opens}
use Rattle.sheet_parts.specs.declared.scope.Opens.TheVariants.{Nothing, Block, Routine}
use Rattle.sheet_records.specs.declared.kind.Shape.{Shape}
use Rattle.sheet_records.specs.declared.kind.Shape.TheVariants.{Part, Declare, Retire, Unknown}
use Rattle.sheet_heads.specs.declared.head.Record.{Record}
use Rattle.sheet_written.specs.Written.{Name}
use Rattle.sheet_reader.specs.Heading.{fresh, argument, declare_of, retire_of, declare_at, retire_at}
use Rattle.sheet_reader.specs.Reader.{Tree, Answer, got, refused, bind, on_head, on_judged, parts_of, scope_parts}
use Rattle.sheet_reader.specs.Reader.{read_record, read_part, Whole, whole, whole_of_shape, name_of, names_step, names_of}
use Rattle.sheet_reader.specs.Reader.{closed, numbers_at, nothing, whole_of, accepted, rejected, sheet_in, size_in, checks}
use Rattle.sheet_reader.specs.Reader.{whole_by, read_under}
use Rattle.sheet_judge.specs.Check.{NumberOf}
use Rattle.sheet_reader.proofs.Answers.{HeadAll}
use Rattle.sheet_reader.proofs.Heads.{Heads, h-skip, h-diverge, h-truth, h-number, h-use, h-fetch, h-operate, h-assign}
use Rattle.sheet_reader.proofs.Heads.{h-sequence, h-if, h-while, h-new, h-procedure, heads}
use Rattle.sheet_reader.proofs.Bodies.{body-within}
use Rattle.sheet_records.specs.declared.refusal.Reason.TheVariants.{OutOfRange, TooManyNames}

-- a choice by a test, of which each side may use what the test says
either : {X : Type 0} (P : X → Type 0) (t : Bool) {a b : X} → (t ≡ true → P a) → (t ≡ false → P b) → P (pick t a b)
either P true f g = f refl
either P false f g = g refl

then-then : (a b c : Result (Unit {0}) Refusal) → and_then (and_then a b) c ≡ and_then a (and_then b c)
unfolding and_then
then-then (Ok x) b c = refl
then-then (Err x) b c = refl

-- a number of document 01's table
listed : (ed : Edition) (k : Reason) → 1 ≤ number_of k → number_of k ≤ 11 → NumberOf ed k
unfolding NumberOf
listed Earlier k h l = (h, l)
listed Present k h l = inl (h, l)

-- where an id is refused because it hides, the rule is the present one
hidden : (ed : Edition) (c : Standing) → hides ed c ≡ true → NumberOf ed id_enclosed
unfolding hides NumberOf
hidden Earlier c e = let z : ◌≡◌ {A = ℕ} 0 1 = cc in absurd (omega arith)
hidden Present c e = inr refl

module _ (ed : Edition) (n : ℕ) where
  -- a refusal's reason is one of check's, and its place is within n
  pub record RefusedIn (reason : Reason) (place : ℕ) : Type 0 where
    pub known : NumberOf ed reason
    pub within : place ≤ n

  old : {k : Reason} {p : ℕ} → 1 ≤ number_of k → number_of k ≤ 11 → p ≤ n → RefusedIn k p
  old {k} h l w = record { known = listed ed k h l; within = w }

  -- a head whose refusal is so
  unfoldable HeadIn : Result Record Refusal → Type 0
  HeadIn (Ok r) = Unit
  HeadIn (Err x) = RefusedIn x.reason x.place

  unfoldable JudgedIn : Result (Unit {0}) Refusal → Type 0
  JudgedIn (Ok x) = Unit
  JudgedIn (Err x) = RefusedIn x.reason x.place

  -- what was read ends within n, or its refusal is so
  unfoldable In : {X : Type 0} → Answer X → Type 0
  In (got x ty next) = next ≤ n
  In (refused k p) = RefusedIn k p

  in-bind : {X Y : Type 0} (A : Answer X) (k : X → ℕ → ℕ → Answer Y) → In A →
      ((x : X) (ty next : ℕ) → next ≤ n → In (k x ty next)) → In (bind A k)
  unfolding In bind
  in-bind (got x ty next) k p f = f x ty next p
  in-bind (refused a b) k p f = p

  in_head : {X : Type 0} (P : Record → Type 0) (h : Result Record Refusal) (k : Record → Answer X) → HeadIn h → HeadAll P h →
      ((r : Record) → P r → In (k r)) → In (on_head h k)
  unfolding In HeadIn HeadAll on_head
  in_head P (Ok r) k p q f = f r q
  in_head P (Err x) k p q f = p

  in-judged : {X : Type 0} (j : Result (Unit {0}) Refusal) (A : Answer X) → JudgedIn j → In A → In (on_judged j A)
  unfolding In JudgedIn on_judged
  in-judged (Ok x) A p q = q
  in-judged (Err x) A p q = p

  both-in : (j k : Result (Unit {0}) Refusal) → JudgedIn j → JudgedIn k → JudgedIn (and_then j k)
  unfolding JudgedIn and_then
  both-in (Ok x) k p q = q
  both-in (Err x) k p q = p

  judged-in : (j : Result (Unit {0}) Refusal) (h : Result Record Refusal) → JudgedIn j → HeadIn h → HeadIn (head_judged j h)
  unfolding HeadIn JudgedIn head_judged
  judged-in (Ok x) h p q = q
  judged-in (Err x) h p q = p

module _ (ed : Edition) (s : List ℕ) where
  abbrev n : ℕ
  n = length s

  told : {k : Reason} {p : ℕ} → 1 ≤ number_of k → number_of k ≤ 11 → p ≤ n → RefusedIn ed n k p
  told = old ed n

  abbrev Headed : Result Record Refusal → Type 0
  Headed = HeadIn ed n

  -- the kind byte and the body of a part
  byte-in : (at limit : ℕ) (k : ℕ → Result Record Refusal) → (at < n → (b : ℕ) → Headed (k b)) → Headed (on_byte (byte_of s at limit) k)
  unfolding byte_of on_byte HeadIn
  byte-in at limit k f =
      either (λ (x : Result ℕ Refusal). Headed (on_byte x k)) (leb n at) (λ e. told (omega arith) (omega arith) (omega arith)) (λ e.
      either (λ (x : Result ℕ Refusal). Headed (on_byte x k)) (leb limit (get_or s at 0))
      (λ d. told (omega arith) (omega arith) (omega (arith, leb-false n at e))) (λ d. f (leb-false n at e) (get_or s at 0)))

  limited-in : (r : Record) (limit : ℕ) → Headed (limited s r limit)
  unfolding limited HeadIn
  limited-in r limit = byte-in (r.place + 1) limit _ (λ h b. tt)

  constant-in : (N : Numbers) (r : Record) → Headed (constant s N r)
  unfolding constant HeadIn
  constant-in N r =
      byte-in (r.place + 1) 256 _ (λ h a.
      either Headed (in_range N a) (λ e. tt) (λ e. told (omega arith) (omega arith) (omega arith)))

  use-in : (st : List ℕ) (r : Record) → Headed (use_of s st r)
  unfolding use_of HeadIn
  use-in st r =
      byte-in (r.place + 1) 255 _ (λ h id.
      either Headed (eqb (get_or st id 0) 0) (λ e. told (omega arith) (omega arith) (omega arith)) (λ e.
      either Headed (eqb (get_or st id 0) 1) (λ d. told (omega arith) (omega arith) (omega arith)) (λ d. tt)))

  data-in : (r : Record) (id : ℕ) → Headed (data_byte s r id)
  unfolding data_byte HeadIn
  data-in r id =
      byte-in (r.place + 2) 3 _ (λ h d.
      either Headed (eqb d 0) (λ e. told (omega arith) (omega arith) (omega arith)) (λ e. tt))

  new_in : (st : List ℕ) (r : Record) → Headed (new_of ed s st r)
  unfolding new_of HeadIn
  new_in st r =
      byte-in (r.place + 1) 255 _ (λ h id.
      either Headed (is_named (standing_of (get_or st id 0))) (λ e. told (omega arith) (omega arith) (omega arith))
      (λ e. either Headed (hides ed (standing_of (get_or st id 0)))
      (λ d. record { known = hidden ed _ d; within = omega arith }) (λ d. data-in r id)))

  -- judgements of bytes
  abbrev Told : Result (Unit {0}) Refusal → Type 0
  Told = JudgedIn ed n

  below_in : (at limit : ℕ) → Told (below s at limit)
  unfolding below JudgedIn
  below_in at limit =
      either Told (leb n at) (λ e. told (omega arith) (omega arith) (omega arith)) (λ e.
      let h = leb-false n at e in
      either Told (leb limit (get_or s at 0)) (λ d. told (omega arith) (omega arith) (omega arith)) (λ d. tt))

  unused-in : (at : ℕ) → Told (unused s at)
  unfolding unused JudgedIn
  unused-in at =
      either Told (leb n at) (λ e. told (omega arith) (omega arith) (omega arith)) (λ e.
      let h = leb-false n at e in
      either Told (eqb (get_or s at 0) 255) (λ d. tt) (λ d. told (omega arith) (omega arith) (omega arith)))

  -- a byte below a limit, then a judgement at the same place
  then-in : (at limit : ℕ) (k : Result (Unit {0}) Refusal) → (at < n → Told k) → Told (and_then (below s at limit) k)
  unfolding below and_then JudgedIn
  then-in at limit k f =
      either (λ (x : Result (Unit {0}) Refusal). Told (and_then x k)) (leb n at) (λ e. told (omega arith) (omega arith) (omega arith)) (λ e.
      let h = leb-false n at e in
      either (λ (x : Result (Unit {0}) Refusal). Told (and_then x k)) (leb limit (get_or s at 0))
      (λ d. told (omega arith) (omega arith) (omega arith)) (λ d. f h))

  bound-then : (st : List ℕ) (at : ℕ) (k : Result (Unit {0}) Refusal) → (at < n → Told k) → Told (and_then (bound s st at) k)
  unfolding bound JudgedIn and_then
  bound-then st at k f =
      rw (then-then (below s at 255) _ k) (then-in at 255 _ (λ h.
      either (λ (x : Result (Unit {0}) Refusal). Told (and_then x k)) (is_named (standing_of (get_or st (get_or s at 0) 0)))
      (λ e. told (omega arith) (omega arith) (omega arith)) (λ e. f h)))

  apart_in : (st : List ℕ) (at : ℕ) → at < n → Told (apart ed s st at)
  unfolding apart JudgedIn
  apart_in st at h =
      either Told (hides ed (standing_of (get_or st (get_or s at 0) 0)))
      (λ e. record { known = hidden ed _ e; within = omega arith }) (λ e. tt)

  parameter-in : (st : List ℕ) (at j : ℕ) → Told (parameter_id ed s st at j)
  unfolding parameter_id unlike JudgedIn
  parameter-in st at j =
      bound-then st (at + 4 + 2 * j) _ (λ h.
      both-in ed n _ _ (either Told (earlier s at j (get_or s (at + 4 + 2 * j) 0))
      (λ e. told (omega arith) (omega arith) (omega arith)) (λ e. tt)) (apart_in st (at + 4 + 2 * j) h))

  pair-in : (st : List ℕ) (at j : ℕ) → Told (pair ed s st at j)
  unfolding pair
  pair-in st at j =
      either Told (ltb j (get_or s (at + 3) 0))
      (λ e. both-in ed n _ _ (parameter-in st at j) (below_in (at + 5 + 2 * j) 5))
      (λ e. both-in ed n _ _ (unused-in (at + 4 + 2 * j)) (unused-in (at + 5 + 2 * j)))

  procedure-in : (st : List ℕ) (at : ℕ) → Told (procedure_of ed s st at)
  unfolding procedure_of
  procedure-in st at =
      bound-then st (at + 1) _ (λ h. both-in ed n _ _ (apart_in st (at + 1) h) (both-in ed n _ _ (below_in (at + 2) 5)
      (both-in ed n _ _ (below_in (at + 3) 5) (both-in ed n _ _ (pair-in st at 0) (both-in ed n _ _ (pair-in st at 1)
      (both-in ed n _ _ (pair-in st at 2) (pair-in st at 3)))))))

  routine-in : (st : List ℕ) (r : Record) → Headed (procedure_head ed s st r)
  unfolding procedure_head HeadIn
  routine-in st r = judged-in ed n (procedure_of ed s st r.place) _ (procedure-in st r.place) tt

  body-in : (R : Rule) (st : List ℕ) (N : Numbers) (r : Record) → Headed (body_of ed R s st N r)
  unfolding body_of HeadIn
  body-in Skip st N r = tt
  body-in Diverge st N r = limited-in r 5
  body-in Truth st N r = limited-in r 2
  body-in Number st N r = constant-in N r
  body-in Use st N r = use-in st r
  body-in Fetch st N r = tt
  body-in Operate st N r = limited-in r 9
  body-in Assign st N r = tt
  body-in Sequence st N r = tt
  body-in If st N r = tt
  body-in While st N r = tt
  body-in New st N r = new_in st r
  body-in Procedure st N r = routine-in st r

  shape-in : (x : Shape) (at : ℕ) (k : ℕ → ℕ → Rule → Result Record Refusal) → at < n → ((b p : ℕ) (R : Rule) → Headed (k b p R)) →
      Headed (on_part x at k)
  unfolding on_part HeadIn
  shape-in (Part b p R) at k h f = f b p R
  shape-in (Declare b asks) at k h f = told (omega arith) (omega arith) (omega arith)
  shape-in (Retire b) at k h f = told (omega arith) (omega arith) (omega arith)
  shape-in Unknown at k h f = told (omega arith) (omega arith) (omega arith)

  head_in : (st : List ℕ) (N : Numbers) (left at : ℕ) → Headed (head_of ed s st N left at)
  unfolding head_of HeadIn
  head_in st N left at =
      either Headed (leb n at) (λ e. told (omega arith) (omega arith) (omega arith)) (λ e.
      let h = leb-false n at e in
      shape-in (shape_of (get_or s at 0)) at _ h (λ b p R.
      either Headed (eqb left 0) (λ d. told (omega arith) (omega arith) (omega arith)) (λ d. body-in R st N _)))

  -- the parts of a term
  abbrev Within : {X : Type 0} → Answer X → Type 0
  Within = In ed n

  parts_in : (rec : ℕ → Answer Tree) → ((at : ℕ) → Within (rec at)) →
      (r : Record) (count j prev at : ℕ) → at ≤ n → Within (parts_of rec s r count j prev at)
  unfolding parts_of In
  parts_in rec f r zero j prev at h = h
  parts_in rec f r (suc count) j prev at h =
      in-bind ed n (rec at) _ (f at) (λ t ty next p.
      either Within (accepts_part r.rule s r j prev ty)
      (λ e. in-bind ed n (parts_of rec s r count (j + 1) ty next) _ (parts_in rec f r count (j + 1) ty next p)
      (λ ts last end q. q))
      (λ e. told (omega arith) (omega arith) h))

  scope-in : (o : Opens) (rec : List ℕ → ℕ → ℕ → Answer Tree) →
      ((st : List ℕ) (around at : ℕ) → Within (rec st around at)) → (st : List ℕ) (around : ℕ) (r : Record) →
      r.next ≤ n → Within (scope_parts o rec s st around r)
  unfolding scope_parts In
  scope-in Nothing rec f st around r h = parts_in (rec st around) (f st around) r r.parts 0 0 r.next h
  scope-in Block rec f st around r h =
      parts_in (rec (entered st r around) (around + 1)) (f _ _) r r.parts 0 0 r.next h
  scope-in Routine rec f st around r h =
      in-bind ed n (parts_of (rec (passed s r.place around r.b st) (around + r.b)) s r 1 0 0 r.next) _
      (parts_in (rec (passed s r.place around r.b st) (around + r.b)) (f _ _) r 1 0 0 r.next h)
      (λ ts ty next p. in-bind ed n (parts_of (rec (usable st r around) (around + 1)) s r 1 1 ty next) _
      (parts_in (rec (usable st r around) (around + 1)) (f _ _) r 1 1 ty next p) (λ us last end q. q))

  record-in : (rec : List ℕ → ℕ → ℕ → Answer Tree) → ((st : List ℕ) (around at : ℕ) → Within (rec st around at)) →
      (st : List ℕ) (around : ℕ) (r : Record) → r.next ≤ n → Within (read_record rec s st around r)
  unfolding read_record In
  record-in rec f st around r h =
      in-bind ed n (scope_parts (opens r.rule) rec s st around r) _ (scope-in (opens r.rule) rec f st around r h)
      (λ ts last end q. q)

  -- the body of a record stands in the sheet
  next-in : (st : List ℕ) (N : Numbers) (at : ℕ) (r : Record) → Heads ed s st N at r → r.next ≤ n
  next-in st N at r (h-skip (l, e)) = omega arith
  next-in st N at r (h-diverge h (l, e) k) = omega arith
  next-in st N at r (h-truth h (l, e) k) = omega arith
  next-in st N at r (h-number h (l, e) k i) = omega arith
  next-in st N at r (h-use h (l, e) k f g) = omega arith
  next-in st N at r (h-fetch (l, e)) = omega arith
  next-in st N at r (h-operate h (l, e) k) = omega arith
  next-in st N at r (h-assign (l, e)) = omega arith
  next-in st N at r (h-sequence (l, e)) = omega arith
  next-in st N at r (h-if (l, e)) = omega arith
  next-in st N at r (h-while (l, e)) = omega arith
  next-in st N at r (h-new h h' k f u (l, e) i i') = omega arith
  next-in st N at r (h-procedure h B) = omega (arith, body-within s st at B)

  -- without a level of depth left there is no record
  none_left : (st : List ℕ) (N : Numbers) (at : ℕ) → HeadAll (λ r. ⊥) (head_of ed s st N 0 at)
  unfolding head_of on_part HeadAll
  none_left st N at =
      either (HeadAll (λ r. ⊥)) (leb n at) (λ e. tt) (λ e. go (shape_of (get_or s at 0)))
    where
      go : (x : Shape) → HeadAll (λ r. ⊥) (on_part x at (λ body parts rule.
          pick (eqb 0 0) (Err (refusal too_deep at)) (body_of ed rule s st N (blank at (get_or s at 0) body parts rule))))
      go (Part b p R) = tt
      go (Declare b asks) = tt
      go (Retire b) = tt
      go Unknown = tt

  part_in : (left : ℕ) (N : Numbers) (st : List ℕ) (around at : ℕ) → Within (read_part ed left N s st around at)
  unfolding read_part In
  part_in zero N st around at =
      in_head ed n (λ r. ⊥) (head_of ed s st N 0 at) _ (head_in st N 0 at) (none_left st N at) (λ r e. absurd e)
  part_in (suc left) N st around at =
      in_head ed n (Heads ed s st N at) (head_of ed s st N (suc left) at) _ (head_in st N (suc left) at) (heads ed s st N at left)
      (λ r h. record-in (read_part ed left N s) (λ st' around' at'. part_in left N st' around' at') st around r
      (next-in st N at r h))

  -- the name records
  fresh_in : (st : List ℕ) (at : ℕ) → at ≤ n → Told (fresh s st at)
  unfolding fresh JudgedIn
  fresh_in st at h =
      both-in ed n (below s at 255) _ (below_in at 255) (either Told (eqb (get_or st (get_or s at 0) 0) 0) (λ e. tt)
      (λ e. told (omega arith) (omega arith) h))

  argument-in : (at j : ℕ) → Told (argument s at j)
  unfolding argument
  argument-in at j =
      either Told (ltb j (get_or s (at + 3) 0)) (λ e. below_in (at + 4 + j) 5) (λ e. unused-in (at + 4 + j))

  declare-in : (st : List ℕ) (at : ℕ) → at < n → Told (declare_of s st at)
  unfolding declare_of
  declare-in st at h =
      both-in ed n _ _ (fresh_in st (at + 1) (omega arith)) (both-in ed n _ _ (below_in (at + 2) 5)
      (both-in ed n _ _ (below_in (at + 3) 5) (both-in ed n _ _ (argument-in at 0) (both-in ed n _ _ (argument-in at 1)
      (both-in ed n _ _ (argument-in at 2) (argument-in at 3))))))

  name_in : (rec : List ℕ → ℕ → Answer Whole) → ((st : List ℕ) (at : ℕ) → Within (rec st at)) →
      (left : ℕ) (st : List ℕ) (at body c : ℕ) (judged : Result (Unit {0}) Refusal) (name : Name) → at < n → Told judged →
      Within (name_of rec left s st at body c judged name)
  unfolding name_of In
  name_in rec f left st at body c judged name h j =
      either Within (eqb left 0) (λ e. told (omega arith) (omega arith) (omega arith)) (λ e.
      in-judged ed n judged _ j
      (in-bind ed n (rec (set st (get_or s (at + 1) 0) c) (at + 1 + body)) _ (f _ _) (λ x ty end q. q)))

  step_in : (rec : List ℕ → ℕ → Answer Whole) (left : ℕ) (N : Numbers) (st : List ℕ) (at : ℕ) →
      (at < n → (st : List ℕ) (at : ℕ) → Within (rec st at)) → Within (names_step ed rec left N s st at)
  unfolding names_step whole_of_shape retire_of In
  step_in rec left N st at f =
      either Within (leb n at) (λ e. told (omega arith) (omega arith) (omega arith))
      (λ e. go (leb-false n at e) (shape_of (get_or s at 0)))
    where
      go : at < n → (x : Shape) → Within (whole_of_shape x
          (λ body asks. name_of rec left s st at body (declared_standing at asks) (declare_of s st at) (declare_at s at asks))
          (λ body. name_of rec left s st at body 1 (retire_of s st at) (retire_at s at))
          (bind (read_part ed 32 N s st 0 at) (λ t ty end. got (whole [] at t) ty end))
          (refused OutOfRange at))
      go h (Declare b asks) =
          name_in rec (f h) left st at b (declared_standing at asks) (declare_of s st at) (declare_at s at asks) h
          (declare-in st at h)
      go h (Retire b) =
          name_in rec (f h) left st at b 1 (retire_of s st at) (retire_at s at) h (fresh_in st (at + 1) (omega arith))
      go h (Part b p R) = in-bind ed n (read_part ed 32 N s st 0 at) _ (part_in 32 N st 0 at) (λ t ty end q. q)
      go h Unknown = told (omega arith) (omega arith) (omega arith)

  names_in : (left : ℕ) (N : Numbers) (st : List ℕ) (at : ℕ) → Within (names_of ed left N s st at)
  unfolding names_of In
  names_in zero N st at = step_in (λ st' at'. refused TooManyNames at) 0 N st at
      (λ h st' at'. told (omega arith) (omega arith) (omega arith))
  names_in (suc left) N st at = step_in (names_of ed left N s) (suc left) N st at (λ h st' at'. names_in left N st' at')

  -- the whole sheet
  closed_in : (A : Answer Whole) → Within A → Within (closed s A)
  unfolding closed In
  closed_in A h =
      in-bind ed n A _ h (λ t ty end q.
      either Within (ltb end n) (λ e. told (omega arith) (omega arith) q) (λ e. q))

  -- so at most 4,096
  abbrev Small : Answer Whole → Type 0
  Small = In ed 4096

  lower : (A : Answer Whole) → n ≤ 4096 → Within A → Small A
  unfolding In
  lower (got x ty next) h p = omega arith
  lower (refused a b) h p = record { known = p.known; within = omega (arith, p.within) }

  first-in : {k : Reason} {p : ℕ} → 1 ≤ number_of k → number_of k ≤ 11 → p ≤ 4096 → RefusedIn ed 4096 k p
  first-in = old ed 4096

  sheet-in : Small (whole_of ed s)
  unfolding whole_by In
  sheet-in =
      either Small (ltb 4096 n) (λ e. first-in (omega arith) (omega arith) (omega arith)) (λ e.
      let h = ltb-false 4096 n e in
      either Small (leb n 0) (λ d. first-in (omega arith) (omega arith) h) (λ d.
      either Small (eqb (get_or s 0 0) 0) (λ d. first-in (omega arith) (omega arith) (omega arith)) (λ d.
      either Small (ltb greatest_z (get_or s 0 0)) (λ d. first-in (omega arith) (omega arith) (omega arith)) (λ d.
      either Small (leb n 1) (λ d. first-in (omega arith) (omega arith) h) (λ d.
      either Small (ltb greatest_rule (get_or s 1 0)) (λ d. first-in (omega arith) (omega arith) (omega arith)) (λ d.
      lower (closed s (names_of ed 32 (numbers_at s) s nothing 2)) h
      (closed_in (names_of ed 32 (numbers_at s) s nothing 2) (names_in 32 (numbers_at s) nothing 2))))))))

-- the reason and the place of a refusal, but for the size
whole-refused :
    (ed : Edition) (s : List ℕ) {reason : Reason} {place : ℕ} → whole_of ed s ≡ refused reason place →
    RefusedIn ed 4096 reason place
unfolding In
whole-refused ed s e = rw e at (sheet-in ed s)

-- THEOREM: the number and the place of a refusal by check
pub check-refused :
    (ed : Edition) (s : List ℕ) {reason : Reason} {place : ℕ} → read_under ed s ≡ rejected reason place →
    RefusedIn ed 4096 reason place
unfolding read_under checks
check-refused ed s {reason} {place} e = go (whole_of ed s) refl e
  where
    sized : (x : Whole) (ty : ℕ) (u : Bool) →
        pick u (rejected too_large 0) (accepted (sheet_in s x) ty (size_in s x ty)) ≡ rejected reason place →
        RefusedIn ed 4096 reason place
    sized x ty true h =
        let z : 0 ≡ place = cc in
        let k : too_large ≡ reason = cc in
        rw (← k) (old ed 4096 (omega arith) (omega arith) (omega arith))
    sized x ty false h = let z : ◌≡◌ {A = ℕ} 0 1 = cc in absurd (omega arith)

    go : (A : Answer Whole) → whole_of ed s ≡ A → checks s A ≡ rejected reason place → RefusedIn ed 4096 reason place
    go (got x ty end) w h = sized x ty (ltb 4096 (size_in s x ty)) h
    go (refused k p) w h =
        let z : p ≡ place = cc in
        let j : k ≡ reason = cc in
        rw (z, j) at (whole-refused ed s w)
