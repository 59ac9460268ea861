-- The reader: for any list of bytes the sheet as written with its type and size, or the refusal with its number and place.
-- Document 01, "Three services", causes 1 to 11 and their order; document 02 [1] for procedures, [3] for the rule of an
-- edition, [11] for the greatest Z. SHEETS 9.1 and 9.2.
use Rattle.std.specs.Prelude.{ℕ, zero, suc, ◌+◌, List, [], ◌∷◌, length, get_or, set, drop, replicate, eqb, ltb, leb, Result, Ok, Err}
use Rattle.language.specs.Choice.{pick}
use Rattle.language.specs.Weight.{size}
use Rattle.language.specs.declared.Numbers.{Numbers}
use Rattle.sheet_records.specs.declared.refusal.Reason.{Reason}
use Rattle.sheet_records.specs.declared.refusal.Refusal.{Refusal}
use Rattle.sheet_records.specs.Limits.{greatest_z, greatest_rule, most_bytes, most_names, greatest_depth, greatest_size, ids}
use Rattle.sheet_records.specs.Refusal.{too_long, cut_short, out_of_range, wrong_type, too_deep, too_many_names}
use Rattle.sheet_records.specs.Refusal.{left_over, too_large}
use Rattle.sheet_records.specs.Kind.{shape_of}
use Rattle.sheet_records.specs.Standing.{retired, declared_standing}
use Rattle.sheet_heads.specs.Head.{head_of}
use Rattle.sheet_parts.specs.Rule.{accepts_part, part_type}
use Rattle.sheet_parts.specs.Scope.{opens, entered, passed, usable}
use Rattle.sheet_records.specs.declared.edition.Edition.{Edition}
use Rattle.sheet_records.specs.declared.edition.Edition.TheVariants.{Present}
use Rattle.sheet_records.specs.declared.kind.Rule.{Rule}
use Rattle.sheet_records.specs.declared.kind.Rule.TheVariants.{Skip, Diverge, Truth, Number, Use, Fetch, Operate, Assign}
use Rattle.sheet_records.specs.declared.kind.Rule.TheVariants.{Sequence, If, While, New, Procedure}
use Rattle.sheet_records.specs.declared.kind.Shape.{Shape}
use Rattle.sheet_records.specs.declared.kind.Shape.TheVariants.{Part, Declare, Retire, Unknown}
use Rattle.sheet_parts.specs.declared.scope.Opens.{Opens}
use Rattle.sheet_parts.specs.declared.scope.Opens.TheVariants.{Nothing, Block, Routine}
use Rattle.sheet_heads.specs.declared.head.Record.{Record}
use Rattle.sheet_written.specs.Written.{Written, skip, diverge, truth, number, call, fetch, operate, assign, sequence}
use Rattle.sheet_written.specs.Written.{while, choose, new, procedure, Parameter, Writtens, none, more, Name, Sheet}
use Rattle.sheet_written.specs.Meaning.{ty_of, term_of}
use Rattle.sheet_reader.specs.Heading.{declare_of, retire_of, declare_at, retire_at}

-- a part as it was read: its record, its type, how many binders enclose it, the place after it, and its parts with their
-- places
mutual
  pub data Tree : Type 0 where
    node : Record → ℕ → ℕ → ℕ → Trees → Tree

  pub data Trees : Type 0 where
    leaf : Trees
    branch : ℕ → Tree → Trees → Trees

-- something read, with its type and the place after it; or the refusal's reason and place
pub data Answer (X : Type 0) : Type 0 where
  got : X → ℕ → ℕ → Answer X
  refused : Reason → ℕ → Answer X

unfoldable pub bind : {X Y : Type 0} → Answer X → (X → ℕ → ℕ → Answer Y) → Answer Y
bind (got x ty next) k = k x ty next
bind (refused n p) k = refused n p

unfoldable pub on_head : {X : Type 0} → Result Record Refusal → (Record → Answer X) → Answer X
on_head (Ok r) k = k r
on_head (Err x) k = refused x.reason x.place

unfoldable pub on_judged : {X : Type 0} → Result (Unit {0}) Refusal → Answer X → Answer X
on_judged (Ok x) k = k
on_judged (Err x) k = refused x.reason x.place

-- the parts of record r from part j on, n of them, the part before them of type prev: "A part's type is judged when its last byte
-- is read"
unfoldable pub parts_of : (ℕ → Answer Tree) → List ℕ → Record → ℕ → ℕ → ℕ → ℕ → Answer Trees
parts_of rec s r zero j prev at = got leaf prev at
parts_of rec s r (suc n) j prev at =
    bind (rec at) (λ t ty next.
    pick (accepts_part r.rule s r j prev ty)
    (bind (parts_of rec s r n (j + 1) ty next) (λ ts last end. got (branch at t ts) last end))
    (refused wrong_type at))

-- parts, then others
unfoldable pub joined : Trees → Trees → Trees
joined leaf us = us
joined (branch at t ts) us = branch at t (joined ts us)

-- the parts of a record that `around` binders enclose, where rec reads in given standings and inside so many binders: inside a
-- new its id is its variable's; inside a procedure's first term its parameters' ids are theirs, inside its second its own id is
-- its own
unfoldable pub scope_parts :
    Opens → (List ℕ → ℕ → ℕ → Answer Tree) → List ℕ → List ℕ → ℕ → Record → Answer Trees
scope_parts Nothing rec s st around r = parts_of (rec st around) s r r.parts 0 0 r.next
scope_parts Block rec s st around r =
    parts_of (rec (entered st r around) (around + 1)) s r r.parts 0 0 r.next
scope_parts Routine rec s st around r =
    bind (parts_of (rec (passed s r.place around r.b st) (around + r.b)) s r 1 0 0 r.next) (λ ts ty next.
    bind (parts_of (rec (usable st r around) (around + 1)) s r 1 1 ty next) (λ us last end.
    got (joined ts us) last end))

-- a record with its parts
unfoldable pub read_record : (List ℕ → ℕ → ℕ → Answer Tree) → List ℕ → List ℕ → ℕ → Record → Answer Tree
read_record rec s st around r =
    bind (scope_parts (opens r.rule) rec s st around r) (λ ts last end.
    got (node r (part_type r.rule s r last) around end ts) (part_type r.rule s r last) end)

-- the part at a place, by the rule of an edition, with `left` levels of depth left, in standings st, inside `around` binders
unfoldable pub read_part : Edition → ℕ → Numbers → List ℕ → List ℕ → ℕ → ℕ → Answer Tree
read_part ed zero N s st around at = on_head (head_of ed s st N 0 at) (λ r. refused too_deep at)
read_part ed (suc left) N s st around at =
    on_head (head_of ed s st N (suc left) at) (λ r. read_record (read_part ed left N s) s st around r)

-- the name records, the place of the term and the term
pub data Whole : Type 0 where
  whole : List Name → ℕ → Tree → Whole

unfoldable pub with_name : Name → Whole → Whole
with_name n (whole ns root t) = whole (n ∷ ns) root t

unfoldable pub whole_of_shape :
    Shape → (ℕ → ℕ → Answer Whole) → (ℕ → Answer Whole) → Answer Whole → Answer Whole → Answer Whole
whole_of_shape (Declare body asks) d r p u = d body asks
whole_of_shape (Retire body) d r p u = r body
whole_of_shape (Part body parts rule) d r p u = p
whole_of_shape Unknown d r p u = u

-- a name record, n of them still allowed, that is judged; then what follows it, in standings where its id has standing c
unfoldable pub name_of :
    (List ℕ → ℕ → Answer Whole) → ℕ → List ℕ → List ℕ → ℕ → ℕ → ℕ → Result (Unit {0}) Refusal → Name → Answer Whole
name_of rec n s st at body c judged name =
    pick (eqb n 0) (refused too_many_names at)
    (on_judged judged
    (bind (rec (set st (get_or s (at + 1) 0) c) (at + 1 + body)) (λ x ty end. got (with_name name x) ty end)))

-- the rest of a sheet: name records, n of them still allowed, and the term
unfoldable pub names_step : Edition → (List ℕ → ℕ → Answer Whole) → ℕ → Numbers → List ℕ → List ℕ → ℕ → Answer Whole
names_step ed rec n N s st at =
    pick (leb (length s) at) (refused cut_short (length s))
    (whole_of_shape (shape_of (get_or s at 0))
    (λ body asks. name_of rec n s st at body (declared_standing at asks) (declare_of s st at) (declare_at s at asks))
    (λ body. name_of rec n s st at body retired (retire_of s st at) (retire_at s at))
    (bind (read_part ed greatest_depth N s st 0 at) (λ t ty end. got (whole [] at t) ty end))
    (refused out_of_range at))

unfoldable pub names_of : Edition → ℕ → Numbers → List ℕ → List ℕ → ℕ → Answer Whole
names_of ed zero N s st at = names_step ed (λ st' at'. refused too_many_names at) 0 N s st at
names_of ed (suc n) N s st at = names_step ed (names_of ed n N s) (suc n) N s st at

-- nothing after the term
unfoldable pub closed : List ℕ → Answer Whole → Answer Whole
closed s x = bind x (λ t ty end. pick (ltb end (length s)) (refused left_over end) (got t ty end))

abbrev pub numbers_at : List ℕ → Numbers
numbers_at s = record { z = get_or s 0 0; rule = get_or s 1 0 }

-- no id has a standing yet
abbrev pub nothing : List ℕ
nothing = replicate ids 0

-- a whole sheet with a Z of at most `most`, judged left to right, but for its size
unfoldable pub whole_by : ℕ → Edition → List ℕ → Answer Whole
whole_by most ed s =
    pick (ltb most_bytes (length s)) (refused too_long most_bytes)
    (pick (leb (length s) 0) (refused cut_short (length s))
    (pick (eqb (get_or s 0 0) 0) (refused out_of_range 0)
    (pick (ltb most (get_or s 0 0)) (refused out_of_range 0)
    (pick (leb (length s) 1) (refused cut_short (length s))
    (pick (ltb greatest_rule (get_or s 1 0)) (refused out_of_range 1)
    (closed s (names_of ed most_names (numbers_at s) s nothing 2)))))))

-- document 02 [11]: "Z may go up to 31"
abbrev pub whole_of : Edition → List ℕ → Answer Whole
whole_of ed s = whole_by greatest_z ed s

-- the records that were read
unfoldable pub first : Writtens → Written
first none = skip
first (more w ws) = w

unfoldable pub rest : Writtens → Writtens
rest none = none
rest (more w ws) = ws

-- the parameters that the pairs of n bytes hold
unfoldable pub parameters_of : ℕ → List ℕ → List Parameter
parameters_of zero s = []
parameters_of (suc n) s = record { id = get_or s 0 0; holds = get_or s 1 0 } ∷ parameters_of n (drop 2 s)

unfoldable pub build : Rule → List ℕ → Record → Writtens → Written
build Skip s r ws = skip
build Diverge s r ws = diverge r.a
build Truth s r ws = truth r.a
build Number s r ws = number r.a
build Use s r ws = call r.a ws
build Fetch s r ws = fetch (first ws)
build Operate s r ws = operate r.a (first ws) (first (rest ws))
build Assign s r ws = assign (first ws) (first (rest ws))
build Sequence s r ws = sequence (first ws) (first (rest ws))
build If s r ws = choose (first ws) (first (rest ws)) (first (rest (rest ws)))
build While s r ws = while (first ws) (first (rest ws))
build New s r ws = new r.a r.b (first ws)
build Procedure s r ws =
    procedure r.a (get_or s (r.place + 2) 0) (parameters_of r.b (drop (r.place + 4) s)) (first ws) (first (rest ws))

unfoldable mutual
  pub written : List ℕ → Tree → Written
  written s (node r ty around end ts) = build r.rule s r (writtens s ts)

  pub writtens : List ℕ → Trees → Writtens
  writtens s leaf = none
  writtens s (branch at t ts) = more (written s t) (writtens s ts)

-- what check finds of a sheet: the sheet, its type and its size; or the refusal's reason and place
pub data Checks : Type 0 where
  accepted : Sheet → ℕ → ℕ → Checks
  rejected : Reason → ℕ → Checks

unfoldable pub sheet_in : List ℕ → Whole → Sheet
sheet_in s (whole ns root t) = record { numbers = numbers_at s; names = ns; term = written s t }

-- the size of what was read
unfoldable pub size_in : List ℕ → Whole → ℕ → ℕ
size_in s x ty = size (ty_of (numbers_at s) ty) (term_of (sheet_in s x))

-- its size is judged last
unfoldable pub checks : List ℕ → Answer Whole → Checks
checks s (got x ty end) =
    pick (ltb greatest_size (size_in s x ty)) (rejected too_large 0) (accepted (sheet_in s x) ty (size_in s x ty))
checks s (refused n p) = rejected n p

unfoldable pub read_under : Edition → List ℕ → Checks
read_under ed s = checks s (whole_of ed s)

-- "from now on": the present rule
abbrev pub read_sheet : List ℕ → Checks
read_sheet s = read_under Present s
