-- The kind byte and the body of a part of a term, or their refusal. Document 01, "Three services": "bytes left to right, each
-- byte judged before the next is looked for. At one byte range comes first, then depth or the count of records, then 4, 5 or 6".
-- SHEETS 2.4 and 9.2.
use Rattle.std.specs.Prelude.{ℕ, ◌+◌, List, length, get_or, eqb, leb, Result, Ok, Err}
use Rattle.language.specs.Choice.{pick}
use Rattle.language.specs.Number.{in_range}
use Rattle.language.specs.declared.Numbers.{Numbers}
use Rattle.sheet_records.specs.Limits.{bytes, ids, types, truths, operators, data_types}
use Rattle.sheet_records.specs.Kind.{shape_of}
use Rattle.sheet_records.specs.Standing.{free, retired, standing_of, is_named, count_of}
use Rattle.sheet_judgements.specs.Judge.{hides, procedure_of}
use Rattle.sheet_records.specs.Refusal.{refusal, cut_short, out_of_range, id_taken, id_unknown, id_retired, too_deep}
use Rattle.sheet_records.specs.Refusal.{id_enclosed}
use Rattle.sheet_records.specs.declared.edition.Edition.{Edition}
use Rattle.sheet_records.specs.declared.kind.Rule.{Rule}
use Rattle.sheet_records.specs.declared.kind.Rule.TheVariants.{Skip, Diverge, Truth, Number, Use, Fetch, Operate}
use Rattle.sheet_records.specs.declared.kind.Rule.TheVariants.{Assign, Sequence, If, While, New, Procedure}
use Rattle.sheet_records.specs.declared.kind.Shape.{Shape}
use Rattle.sheet_records.specs.declared.kind.Shape.TheVariants.{Part, Declare, Retire, Unknown}
use Rattle.sheet_heads.specs.declared.head.Record.{Record}
use Rattle.sheet_records.specs.declared.refusal.Refusal.{Refusal}

-- the byte at a place, which must be below a limit
unfoldable pub byte_of : List ℕ → ℕ → ℕ → Result ℕ Refusal
byte_of s at limit =
    pick (leb (length s) at) (Err (refusal cut_short (length s)))
    (pick (leb limit (get_or s at 0)) (Err (refusal out_of_range at)) (Ok (get_or s at 0)))

unfoldable pub on_byte : Result ℕ Refusal → (ℕ → Result Record Refusal) → Result Record Refusal
on_byte (Ok b) k = k b
on_byte (Err x) k = Err x

-- the same record with other body bytes
unfoldable pub with_body : Record → ℕ → ℕ → Record
with_body r a b =
    record { place = r.place; kind = r.kind; rule = r.rule; parts = r.parts; a = a; b = b; next = r.next }

-- a body of one byte, which must be below a limit
unfoldable pub limited : List ℕ → Record → ℕ → Result Record Refusal
limited s r limit = on_byte (byte_of s (r.place + 1) limit) (λ a. Ok (with_body r a 0))

-- "one byte, two's complement, -Z to Z"
unfoldable pub constant : List ℕ → Numbers → Record → Result Record Refusal
constant s N r =
    on_byte (byte_of s (r.place + 1) bytes) (λ a.
    pick (in_range N a) (Ok (with_body r a 0)) (Err (refusal out_of_range (r.place + 1))))

-- a use, whose id has the standing c: its parts are as many as its name declares, or its procedure has parameters
unfoldable pub used : List ℕ → Record → ℕ → ℕ → Record
used s r id c =
    record {
      place = r.place;
      kind = r.kind;
      rule = r.rule;
      parts = count_of s (standing_of c);
      a = id;
      b = c;
      next = r.next;
    }

-- "use of an id neither enclosing, declared nor retired: 5", "use of a retired id: 6"
unfoldable pub use_of : List ℕ → List ℕ → Record → Result Record Refusal
use_of s st r =
    on_byte (byte_of s (r.place + 1) ids) (λ id.
    pick (eqb (get_or st id 0) free) (Err (refusal id_unknown (r.place + 1)))
    (pick (eqb (get_or st id 0) retired) (Err (refusal id_retired (r.place + 1)))
    (Ok (used s r id (get_or st id 0)))))

-- the data of a new: 1 truth, 2 number
unfoldable pub data_byte : List ℕ → Record → ℕ → Result Record Refusal
data_byte s r id =
    on_byte (byte_of s (r.place + 2) data_types) (λ d.
    pick (eqb d 0) (Err (refusal out_of_range (r.place + 2))) (Ok (with_body r id d)))

-- "id declared or retired before, or a new on such an id: 4"; "16 at the id byte, judged after 4"
unfoldable pub new_of : Edition → List ℕ → List ℕ → Record → Result Record Refusal
new_of ed s st r =
    on_byte (byte_of s (r.place + 1) ids) (λ id.
    pick (is_named (standing_of (get_or st id 0))) (Err (refusal id_taken (r.place + 1)))
    (pick (hides ed (standing_of (get_or st id 0))) (Err (refusal id_enclosed (r.place + 1))) (data_byte s r id)))

unfoldable pub on_judged : Result (Unit {0}) Refusal → Result Record Refusal → Result Record Refusal
on_judged (Ok x) h = h
on_judged (Err x) h = Err x

-- a procedure: its id and how many parameters it has
unfoldable pub procedure_head : Edition → List ℕ → List ℕ → Record → Result Record Refusal
procedure_head ed s st r =
    on_judged (procedure_of ed s st r.place) (Ok (with_body r (get_or s (r.place + 1) 0) (get_or s (r.place + 3) 0)))

-- the body of a record
unfoldable pub body_of : Edition → Rule → List ℕ → List ℕ → Numbers → Record → Result Record Refusal
body_of ed Skip s st N r = Ok r
body_of ed Diverge s st N r = limited s r types
body_of ed Truth s st N r = limited s r truths
body_of ed Number s st N r = constant s N r
body_of ed Use s st N r = use_of s st r
body_of ed Fetch s st N r = Ok r
body_of ed Operate s st N r = limited s r operators
body_of ed Assign s st N r = Ok r
body_of ed Sequence s st N r = Ok r
body_of ed If s st N r = Ok r
body_of ed While s st N r = Ok r
body_of ed New s st N r = new_of ed s st r
body_of ed Procedure s st N r = procedure_head ed s st r

-- a record of which only the kind byte has been read
unfoldable pub blank : ℕ → ℕ → ℕ → ℕ → Rule → Record
blank at kind body parts rule =
    record { place = at; kind = kind; rule = rule; parts = parts; a = 0; b = 0; next = at + 1 + body }

-- "A name record's kind met inside the term is an unknown kind"
unfoldable pub head_of_shape : Shape → ℕ → (ℕ → ℕ → Rule → Result Record Refusal) → Result Record Refusal
head_of_shape (Part body parts rule) at k = k body parts rule
head_of_shape (Declare body once) at k = Err (refusal out_of_range at)
head_of_shape (Retire body) at k = Err (refusal out_of_range at)
head_of_shape Unknown at k = Err (refusal out_of_range at)

-- the record of the part at a place, with `left` levels of depth left
unfoldable pub head_of : Edition → List ℕ → List ℕ → Numbers → ℕ → ℕ → Result Record Refusal
head_of ed s st N left at =
    pick (leb (length s) at) (Err (refusal cut_short (length s)))
    (head_of_shape (shape_of (get_or s at 0)) at (λ body parts rule.
    pick (eqb left 0) (Err (refusal too_deep at))
    (body_of ed rule s st N (blank at (get_or s at 0) body parts rule))))
