-- A property of everything that is read, and how it goes through the reader's steps.
use Rattle.std.specs.Prelude.{Result, Ok, Err}
use Prim.Native.Nat.{ℕ, suc, ◌+◌}
use mathlib.Core.Path.{◌≡◌, refl}
use mathlib.Core.Bool.{Bool, true, false}
use mathlib.Core.List.{List}
use Rattle.language.specs.Choice.{pick}
use Rattle.sheet_records.specs.declared.refusal.Reason.{Reason}
use Rattle.sheet_records.specs.declared.refusal.Refusal.{Refusal}
use Rattle.sheet_parts.specs.Rule.{accepts_part, part_type}
use Rattle.sheet_parts.specs.Scope.{opens}
use Rattle.sheet_heads.specs.declared.head.Record.{Record}
use Rattle.sheet_reader.specs.Reader.{Tree, node, Trees, branch, Answer, got, refused, bind, on_head, parts_of, scope_parts}
use Rattle.sheet_reader.specs.Reader.{read_record}

-- P of what was read, nothing of a refusal
pub data All {X : Type 0} (P : X → ℕ → ℕ → Type 0) : Answer X → Type 0 where
  one : {x : X} {ty n : ℕ} → P x ty n → All P (got x ty n)
  none' : {a : Reason} {b : ℕ} → All P (refused a b)

unfoldable pub Holds : {X : Type 0} → (X → ℕ → ℕ → Type 0) → Answer X → Type 0
Holds P (got x ty n) = P x ty n
Holds P (refused a b) = Unit

pub all-holds : {X : Type 0} (P : X → ℕ → ℕ → Type 0) (A : Answer X) → All P A → Holds P A
unfolding Holds
all-holds P A (one p) = p
all-holds P A none' = tt

pub all_map :
    {X : Type 0} (P Q : X → ℕ → ℕ → Type 0) (A : Answer X) →
    ((x : X) (ty n : ℕ) → P x ty n → Q x ty n) → All P A → All Q A
all_map P Q A f (one {x = x} {ty = ty} {n = n} p) = one (f x ty n p)
all_map P Q A f none' = none'

pub pick_all : {A : Type 0} (P : A → Type 0) (t : Bool) {a b : A} → (t ≡ true → P a) → (t ≡ false → P b) →
    P (pick t a b)
pick_all P true p q = p refl
pick_all P false p q = q refl

pub bind_all :
    {X Y : Type 0} (P : X → ℕ → ℕ → Type 0) (Q : Y → ℕ → ℕ → Type 0) (x : Answer X)
    (k : X → ℕ → ℕ → Answer Y) → All P x → ((t : X) (ty n : ℕ) → P t ty n → All Q (k t ty n)) →
    All Q (bind x k)
unfolding bind
bind_all P Q x k (one {x = t} {ty = ty} {n = n} p) f = f t ty n p
bind_all P Q x k none' f = none'

-- the same of a head
unfoldable pub HeadAll : (Record → Type 0) → Result Record Refusal → Type 0
HeadAll P (Ok r) = P r
HeadAll P (Err x) = Unit

pub head-all :
    {X : Type 0} (P : Record → Type 0) (Q : X → ℕ → ℕ → Type 0) (h : Result Record Refusal) (k : Record → Answer X) →
    HeadAll P h → ((r : Record) → P r → All Q (k r)) → All Q (on_head h k)
unfolding on_head HeadAll
head-all P Q (Ok r) k p f = f r p
head-all P Q (Err x) k p f = none'

pub head-refused :
    {X : Type 0} (Q : X → ℕ → ℕ → Type 0) (h : Result Record Refusal) (n : Reason) (p : ℕ) → All Q (on_head h (λ r. refused n p))
unfolding on_head
head-refused Q (Ok r) n p = none'
head-refused Q (Err x) n p = none'

-- the parts of a record: each of them has R of its place
module _ (R : ℕ → Tree → ℕ → ℕ → Type 0) (rec : ℕ → Answer Tree) (s : List ℕ) (r : Record) where
  pub parts_more :
      (Q : Trees → ℕ → ℕ → Type 0) (n j prev at : ℕ) → All (R at) (rec at) →
      ((t : Tree) (ty next : ℕ) → R at t ty next → accepts_part r.rule s r j prev ty ≡ true →
      All (λ ts last end. Q (branch at t ts) last end) (parts_of rec s r n (j + 1) ty next)) →
      All Q (parts_of rec s r (suc n) j prev at)
  unfolding parts_of
  parts_more Q n j prev at a f =
      bind_all (R at) Q (rec at) _ a (λ t ty next p.
      pick_all (All Q) (accepts_part r.rule s r j prev ty)
      (λ e. bind_all _ Q (parts_of rec s r n (j + 1) ty next) _ (f t ty next p e) (λ ts last end q. one q))
      (λ e. none'))

-- a record with its parts
pub record-all :
    (rec : List ℕ → ℕ → ℕ → Answer Tree) (s st : List ℕ) (around : ℕ) (r : Record) (Q : Tree → ℕ → ℕ → Type 0) →
    All (λ ts last end. Q (node r (part_type r.rule s r last) around end ts) (part_type r.rule s r last) end)
    (scope_parts (opens r.rule) rec s st around r) →
    All Q (read_record rec s st around r)
unfolding read_record
record-all rec s st around r Q a =
    bind_all _ Q (scope_parts (opens r.rule) rec s st around r) _ a (λ ts last end q. one q)
