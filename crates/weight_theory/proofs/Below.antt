-- What weighing leaves as it was, whatever the table holds: its length, and all words before the marks.
use Prim.Native.Nat.{ℕ, zero, suc, ◌+◌, ◌*◌, ◌-◌, ◌≤◌, ◌<◌, min}
use native.Mathlib.Omega.{arith}
use mathlib.Core.Bool.{Bool, true, false}
use mathlib.Core.List.{List}
use mathlib.Core.Path.{◌≡◌, refl, ◌∙◌}
use lib.Dec.{eqb, ltb}
use lib.ListN.{length, get_or, set, length-set}
use lib.Seq.{get_or-set_other}
use Rattle.language.specs.Choice.{pick}
use Rattle.sheet_written.specs.Held.{held}
use Rattle.sheet_rows.specs.PartKind.{KIND, DETAIL, PARTS, PROCEDURE, PARAMETER}
use Rattle.sheet_written.specs.Marks.{COMES}
use Rattle.sheet_rows.specs.Row.{word}
use Rattle.weight_theory.specs.Stack.{marks_from, slots_from, height-at, forms_from, most_forms, marks_in, height_of}
use Rattle.weight_theory.specs.Stack.{spot, form_word, cleared, copied, summed, constant_form, unit_form, lower_form}
use Rattle.weight_theory.specs.Stack.{widened, added_form}
use Rattle.weight_theory.specs.Shows.{most_parameters}
use Rattle.weight_theory.specs.Plan.{parts_of, own_of, term_form, factor_of, extra_of, come_at, come_of, used_of}
use Rattle.weight_theory.specs.Step.{started, part_added, parts_added, closed, weighed_plain, weighed_procedure, weighed}

-- only words from b on are written
pub record From (b : ℕ) (t t' : List ℕ) : Type 0 where
  pub long : length t' ≡ length t
  pub low : (i : ℕ) → i < b → get_or t' i 0 ≡ get_or t i 0

from-none : (b : ℕ) (t : List ℕ) → From b t t
from-none b t = record { long = refl; low = λ i h. refl }

from-set : (b : ℕ) (t u : List ℕ) (j v : ℕ) → b ≤ j → From b t u → From b t (set u j v)
from-set b t u j v h F = record {
  long = length-set u j v ∙ F.long;
  low = λ i l. get_or-set_other u j i v 0 (λ r. omega arith) ∙ F.low i l;
}

from_then : (b : ℕ) (t u v : List ℕ) → From b t u → From b u v → From b t v
from_then b t u v F G = record { long = G.long ∙ F.long; low = λ i l. G.low i l ∙ F.low i l }

from_less : (b c : ℕ) (t u : List ℕ) → b ≤ c → From c t u → From b t u
from_less b c t u h F = record { long = F.long; low = λ i l. F.low i (omega arith) }

from-pick : (b : ℕ) (t u v : List ℕ) (x : Bool) → From b t u → From b t v → From b t (pick x u v)
from-pick b t u v true F G = F
from-pick b t u v false F G = G

-- all forms stand after the height
spot-from : (row i : ℕ) → forms_from ≤ spot row i
unfolding spot
spot-from row i = omega arith

from-cleared : (b at n : ℕ) (t : List ℕ) → b ≤ at → From b t (cleared at n t)
unfolding cleared
from-cleared b at zero t h = from-none b t
from-cleared b at (suc n) t h = from-set b t (cleared at n t) (at + n) 0 (omega arith) (from-cleared b at n t h)

from-copied : (to from n : ℕ) (t : List ℕ) → From forms_from t (copied to from n t)
unfolding copied
from-copied to from zero t = from-none forms_from t
from-copied to from (suc n) t =
    let u : List ℕ = copied to from n t in
    from-set forms_from t u (spot to (1 + n)) (form_word u from (1 + n)) (spot-from to (1 + n))
    (from-copied to from n t)

from-summed : (to from c n : ℕ) (t : List ℕ) → From forms_from t (summed to from c n t)
unfolding summed
from-summed to from c zero t = from-none forms_from t
from-summed to from c (suc n) t =
    let u : List ℕ = summed to from c n t in
    from-set forms_from t u (spot to (1 + n)) (held (form_word u to (1 + n) + c * form_word u from (1 + n)))
    (spot-from to (1 + n)) (from-summed to from c n t)

from-constant : (row c : ℕ) (t : List ℕ) → From forms_from t (constant_form row c t)
unfolding constant_form
from-constant row c t =
    from-set forms_from t (set t (spot row 0) 0) (spot row 1) (held c) (spot-from row 1)
    (from-set forms_from t t (spot row 0) 0 (spot-from row 0) (from-none forms_from t))

from-unit : (row s : ℕ) (t : List ℕ) → From forms_from t (unit_form row s t)
unfolding unit_form
from-unit row s t =
    let u : List ℕ = set t (spot row 0) (1 + s) in
    let v : List ℕ = cleared (spot row 1) (1 + s) u in
    from-set forms_from t v (spot row (2 + s)) 1 (spot-from row (2 + s))
    (from_then forms_from t u v (from-set forms_from t t (spot row 0) (1 + s) (spot-from row 0)
    (from-none forms_from t)) (from-cleared forms_from (spot row 1) (1 + s) u (spot-from row 1)))

from-lower : (to from k : ℕ) (t : List ℕ) → From forms_from t (lower_form to from k t)
unfolding lower_form
from-lower to from k t =
    let n : ℕ = min k (form_word t from 0) in
    let u : List ℕ = set t (spot to 0) n in
    from_then forms_from t u (copied to from (1 + n) u)
    (from-set forms_from t t (spot to 0) n (spot-from to 0) (from-none forms_from t)) (from-copied to from (1 + n) u)

from-widened : (to n : ℕ) (t : List ℕ) → From forms_from t (widened to n t)
unfolding widened
from-widened to n t =
    let w : ℕ = form_word t to 0 in
    let u : List ℕ = cleared (spot to (2 + w)) (n - w) t in
    from-pick forms_from t (set u (spot to 0) n) t (ltb w n)
    (from-set forms_from t u (spot to 0) n (spot-from to 0)
    (from-cleared forms_from (spot to (2 + w)) (n - w) t (spot-from to (2 + w))))
    (from-none forms_from t)

from-added : (to from c e : ℕ) (t : List ℕ) → From forms_from t (added_form to from c e t)
unfolding added_form
from-added to from c e t =
    let n : ℕ = form_word t from 0 in
    let w : List ℕ = widened to n t in
    let u : List ℕ = summed to from c (1 + n) w in
    from-set forms_from t u (spot to 1) (held (form_word u to 1 + e)) (spot-from to 1)
    (from_then forms_from t w u (from-widened to n t) (from-summed to from c (1 + n) w))

from-started : (kind detail k row : ℕ) (t : List ℕ) → From forms_from t (started kind detail k row t)
unfolding started
from-started kind detail k row t =
    let x : List ℕ = lower_form row (term_form t detail) k t in
    let y : List ℕ = unit_form row (min detail 127) t in
    let z : List ℕ = constant_form row (own_of kind detail) t in
    from-pick forms_from t z (pick (eqb kind PARAMETER) y x) (ltb kind PARAMETER)
    (from-constant row (own_of kind detail) t)
    (from-pick forms_from t y x (eqb kind PARAMETER) (from-unit row (min detail 127) t)
    (from-lower row (term_form t detail) k t))

from-part : (kind detail k at first row j : ℕ) (t : List ℕ) →
    From forms_from t (part_added kind detail k at first row j t)
unfolding part_added
from-part kind detail k at first row j t =
    let place : ℕ = word t at (PARTS + j) in
    from-added row (first + j) (factor_of t kind detail k at place j) (extra_of t kind place) t

from_parts : (kind detail k at first row n j : ℕ) (t : List ℕ) →
    From forms_from t (parts_added kind detail k at first row n j t)
unfolding parts_added
from_parts kind detail k at first row zero j t = from-none forms_from t
from_parts kind detail k at first row (suc n) j t =
    let u : List ℕ = part_added kind detail k at first row j t in
    from_then forms_from t u (parts_added kind detail k at first row n (suc j) u)
    (from-part kind detail k at first row j t) (from_parts kind detail k at first row n (suc j) u)

from-closed : (at to row mark : ℕ) (t : List ℕ) → From marks_from t (closed at to row mark t)
unfolding closed
from-closed at to row mark t =
    let l : List ℕ = lower_form to row most_parameters t in
    let u : List ℕ = pick (eqb to row) t l in
    let v : List ℕ = set u (marks_from + at) mark in
    let w : List ℕ = set v (slots_from + at) to in
    from-set marks_from t w height-at (min (suc to) most_forms) (omega arith)
    (from-set marks_from t v (slots_from + at) to (omega arith)
    (from-set marks_from t u (marks_from + at) mark (omega arith)
    (from-pick marks_from t t l (eqb to row) (from-none marks_from t)
    (from_less marks_from forms_from t l (omega arith) (from-lower to row most_parameters t)))))

from-plain : (k at kind detail : ℕ) (t : List ℕ) → From marks_from t (weighed_plain k at kind detail t)
unfolding weighed_plain
from-plain k at kind detail t =
    let n : ℕ = parts_of kind detail in
    let row : ℕ = height_of t in
    let u : List ℕ = started kind detail k row t in
    let v : List ℕ = parts_added kind detail k at (row - n) row n 0 u in
    let mark : ℕ = come_of t (marks_in t) kind detail k at n in
    from_then marks_from t v (closed at (row - n) row mark v)
    (from_less marks_from forms_from t v (omega arith)
    (from_then forms_from t u v (from-started kind detail k row t)
    (from_parts kind detail k at (row - n) row n 0 u)))
    (from-closed at (row - n) row mark v)

from_procedure : (at number : ℕ) (t : List ℕ) → From marks_from t (weighed_procedure at number t)
unfolding weighed_procedure
from_procedure at number t =
    let to : ℕ = height_of t - 2 in
    from-closed at to (suc to) (come_at (marks_in t) (word t at (PARTS + 1)) + COMES * used_of t to number) t

from-weighed : (k at : ℕ) (t : List ℕ) → From marks_from t (weighed k at t)
unfolding weighed
from-weighed k at t =
    from-pick marks_from t (weighed_procedure at (word t at DETAIL) t)
    (weighed_plain k at (word t at KIND) (word t at DETAIL) t) (eqb (word t at KIND) PROCEDURE)
    (from_procedure at (word t at DETAIL) t) (from-plain k at (word t at KIND) (word t at DETAIL) t)

-- the lengths
pub length-cleared : (at n : ℕ) (t : List ℕ) → length (cleared at n t) ≡ length t
length-cleared at n t = (from-cleared 0 at n t (omega arith)).long

pub length-copied : (to from n : ℕ) (t : List ℕ) → length (copied to from n t) ≡ length t
length-copied to from n t = (from-copied to from n t).long

pub length-summed : (to from c n : ℕ) (t : List ℕ) → length (summed to from c n t) ≡ length t
length-summed to from c n t = (from-summed to from c n t).long

-- THEOREM: weighing keeps the table's length
pub length-weighed : (k at : ℕ) (t : List ℕ) → length (weighed k at t) ≡ length t
length-weighed k at t = (from-weighed k at t).long

-- THEOREM: and all words before the marks
pub weighed-low : (k at : ℕ) (t : List ℕ) (i : ℕ) → i < marks_from → get_or (weighed k at t) i 0 ≡ get_or t i 0
weighed-low k at t i h = (from-weighed k at t).low i h
