-- What the code works with: the ids taken, the scope, the bytes and the list of changes. Only inner contracts cite it.
use Rattle.std.specs.Prelude.{ℕ, zero, suc, ◌+◌, ◌*◌, ◌%◌, ◌/◌, ◌<◌, ◌≡◌, Bool, List, [], ◌∷◌, ◌++◌, length, get_or, set, drop, eqb, leb}
use Rattle.language.specs.Choice.{pick}
use Rattle.sheet_records.specs.Limits.{ids}
use Rattle.sheet_rows.specs.PartKind.{NEW, PROCEDURE, ID-SPAN, COUNT-SPAN}
use Rattle.sheet_written.specs.Written.{Name}
use Rattle.sheet_written.specs.Meaning.{Binder, Meaning, private, argument, routine, named, retired, free, meaning}
use Rattle.sheet_written.specs.Hiding.{is_held}
use Rattle.sheet_written.specs.Renumber.{Change}

-- the ids taken, a byte for each id: 1 for each that is
abbrev pub marked : List ℕ → ℕ → Bool
marked k id = eqb (get_or k id 0) 1

pub record Takes (k : List ℕ) (taken : ℕ → Bool) : Type 0 where
  pub sized : length k ≡ ids
  pub marks : (id : ℕ) → id < ids → marked k id ≡ taken id

-- the ids of n parameters whose pairs begin at a place taken
unfoldable pub took_parameters : List ℕ → ℕ → ℕ → List ℕ → List ℕ
took_parameters s at zero k = k
took_parameters s at (suc n) k = took_parameters s (at + 2) n (set k (get_or s at 0) 1)

-- the ids that the record of a kind at a place binds taken
unfoldable pub took_ids : List ℕ → ℕ → ℕ → ℕ → List ℕ → List ℕ
took_ids s at kind count k =
    pick (eqb kind NEW) (set k (get_or s (at + 1) 0) 1)
    (pick (eqb kind PROCEDURE) (took_parameters s (at + 4) count (set k (get_or s (at + 1) 0) 1)) k)

-- An id's entry in the scope: `ID-SPAN` times the number of arguments of a use, which is below `COUNT-SPAN`; where an
-- enclosing binder has the id `FIRST-BOUND` more, and the id which the innermost of these now has.
abbrev pub FIRST-BOUND : ℕ
FIRST-BOUND = 2048

unfoldable pub named_entry : ℕ → ℕ
named_entry count = ID-SPAN * count

-- that of a name record of a kind
unfoldable pub name_entry : ℕ → ℕ → ℕ
name_entry kind count = pick (eqb kind 2) 0 (named_entry count)

unfoldable pub bound_entry : ℕ → ℕ → ℕ
bound_entry given count = FIRST-BOUND + ID-SPAN * count + given

unfoldable pub held_in : ℕ → Bool
held_in e = leb FIRST-BOUND e

unfoldable pub arguments_in : ℕ → ℕ
arguments_in e = e / ID-SPAN % COUNT-SPAN

unfoldable pub becomes_in : ℕ → ℕ → ℕ
becomes_in e id = pick (leb FIRST-BOUND e) (e % ID-SPAN) id

-- how many arguments a use has, by what its id means
unfoldable pub arity : Meaning → ℕ
arity (private k d) = 0
arity (argument k ty) = 0
arity (routine k ty tys) = length tys
arity (named often ty tys) = length tys
arity retired = 0
arity free = 0

-- the scope is that of the binders bs, f says what the ids become
pub record Scoped (ns : List Name) (bs : List Binder) (f : ℕ → ℕ) (scope : List ℕ) : Type 0 where
  pub sized : length scope ≡ ids
  pub helds : (id : ℕ) → id < ids → held_in (get_or scope id 0) ≡ is_held bs id
  pub becomes : (id : ℕ) → id < ids → becomes_in (get_or scope id 0) id ≡ f id
  pub counts : (id : ℕ) → id < ids → arguments_in (get_or scope id 0) ≡ arity (meaning ns bs id)

-- the bytes xs lie in s from a place on
pub record Lies (s : List ℕ) (at : ℕ) (xs : List ℕ) : Type 0 where
  pub rest : List ℕ
  pub here : drop at s ≡ xs ++ rest

-- the bytes from a place on, which were xs, are ys
unfoldable pub Rewrites : ℕ → List ℕ → List ℕ → List ℕ → List ℕ → Type 0
Rewrites at xs ys b b' = (X R : List ℕ) → length X ≡ at → b ≡ X ++ (xs ++ R) → b' ≡ X ++ (ys ++ R)

-- change n of the list written, and changes n, n + 1, ..
unfoldable pub note : ℕ → Change → List ℕ → List ℕ
note n c l =
    set (set (set (set l (4 * n) (c.place % 256)) (4 * n + 1) (c.place / 256)) (4 * n + 2) c.old) (4 * n + 3)
    c.given

unfoldable pub notes : ℕ → List Change → List ℕ → List ℕ
notes n [] l = l
notes n (c ∷ cs) l = notes (suc n) cs (note n c l)
