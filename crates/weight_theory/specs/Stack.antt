-- A stack of forms in the table of parts, document 02 [1], "Reckoned size". After the rows of the parts and the notes
-- the table has a mark and a slot for each place, the height of the stack, and the forms. Each definition is the table
-- after a step of the code. Only inner contracts cite it.
use Rattle.std.specs.Prelude.{ℕ, zero, suc, ◌+◌, ◌*◌, ◌-◌, min, List, get_or, set, drop, ltb}
use Rattle.language.specs.Choice.{pick}
use Rattle.sheet_written.specs.Held.{held}

-- where the marks begin, the slots, the height, and the forms; how many words a form has, how many forms there may be,
-- and how many words the table has
abbrev pub marks_from : ℕ
marks_from = 37120

abbrev pub slots_from : ℕ
slots_from = 41216

abbrev pub height-at : ℕ
height-at = 45312

abbrev pub forms_from : ℕ
forms_from = 45313

abbrev pub form_words : ℕ
form_words = 130

abbrev pub most_forms : ℕ
most_forms = 100

abbrev pub all_words : ℕ
all_words = 58313

-- the marks, by their places
abbrev pub marks_in : List ℕ → List ℕ
marks_in t = drop marks_from t

-- which form is that of the part at a place
unfoldable pub slot_of : List ℕ → ℕ → ℕ
slot_of t place = get_or t (slots_from + place) 0

-- how many forms are on the stack
unfoldable pub height_of : List ℕ → ℕ
height_of t = get_or t height-at 0

-- where word i of a form stands: word 0 says how many coefficients it has, its width; word 1 is the constant, word
-- 2 + s the coefficient of the parameter of number s
unfoldable pub spot : ℕ → ℕ → ℕ
spot row i = forms_from + form_words * row + i

unfoldable pub form_word : List ℕ → ℕ → ℕ → ℕ
form_word t row i = get_or t (spot row i) 0

-- those that it does not have are 0
unfoldable pub coefficient_of : List ℕ → ℕ → ℕ → ℕ
coefficient_of t row s = pick (ltb s (form_word t row 0)) (form_word t row (2 + s)) 0

-- n words from one on become 0
unfoldable pub cleared : ℕ → ℕ → List ℕ → List ℕ
cleared at zero t = t
cleared at (suc n) t = set (cleared at n t) (at + n) 0

-- n words of a form, from the constant on, become those of another
unfoldable pub copied : ℕ → ℕ → ℕ → List ℕ → List ℕ
copied to from zero t = t
copied to from (suc n) t =
    let u : List ℕ = copied to from n t in
    set u (spot to (1 + n)) (form_word u from (1 + n))

-- they become themselves and c times those of another
unfoldable pub summed : ℕ → ℕ → ℕ → ℕ → List ℕ → List ℕ
summed to from c zero t = t
summed to from c (suc n) t =
    let u : List ℕ = summed to from c n t in
    set u (spot to (1 + n)) (held (form_word u to (1 + n) + c * form_word u from (1 + n)))

-- a form becomes the constant c
unfoldable pub constant_form : ℕ → ℕ → List ℕ → List ℕ
constant_form row c t = set (set t (spot row 0) 0) (spot row 1) (held c)

-- it becomes the parameter s
unfoldable pub unit_form : ℕ → ℕ → List ℕ → List ℕ
unit_form row s t = set (cleared (spot row 1) (1 + s) (set t (spot row 0) (1 + s))) (spot row (2 + s)) 1

-- it becomes another without its coefficients from k on
unfoldable pub lower_form : ℕ → ℕ → ℕ → List ℕ → List ℕ
lower_form to from k t =
    let n : ℕ = min k (form_word t from 0) in
    copied to from (1 + n) (set t (spot to 0) n)

-- it gets at least n coefficients
unfoldable pub widened : ℕ → ℕ → List ℕ → List ℕ
widened to n t =
    let w : ℕ = form_word t to 0 in
    pick (ltb w n) (set (cleared (spot to (2 + w)) (n - w) t) (spot to 0) n) t

-- it becomes itself, c times another, and the constant e
unfoldable pub added_form : ℕ → ℕ → ℕ → ℕ → List ℕ → List ℕ
added_form to from c e t =
    let n : ℕ = form_word t from 0 in
    let u : List ℕ = summed to from c (1 + n) (widened to n t) in
    set u (spot to 1) (held (form_word u to 1 + e))
