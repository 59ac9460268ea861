-- What the code notes of a record, and reads of the notes.
use Prim.Native.Nat.{ℕ, zero, suc, ◌+◌, ◌-◌, ◌/◌, ◌%◌, ◌≤◌, ◌<◌}
use native.Mathlib.Omega.{arith}
use mathlib.Core.Path.{◌≡◌, refl, sym, ◌∙◌}
use mathlib.Core.Bool.{Bool, true, false}
use mathlib.Core.List.{List}
use lib.ListN.{length, get_or, set, get_or-eq_default}
use lib.Dec.{eqb, ltb}
use borrow.Author.Tests.{eq-eqb, ne_eqb}
use Rattle.language.specs.Choice.{pick}
use Rattle.sheet_records.specs.Standing.{standing_of}
use Rattle.sheet_heads.specs.declared.head.Record.{Record}
use Rattle.sheet_records.specs.declared.standing.Standing.TheVariants.{Declared, Variable, Parameter, Procedure}
use Rattle.sheet_reader.specs.table.Notes.{is_name_standing, uses_name, noted, is_noted}

-- the standings of declared names
pub standing-low : (c : ℕ) → c ≤ 1 → false ≡ is_name_standing (standing_of c)
unfolding standing_of is_name_standing
standing-low zero h = refl
standing-low (suc zero) h = refl
standing-low (suc (suc c)) h = absurd (omega arith)

pub standing-high : (c : ℕ) → 1 < c → ltb c 12288 ≡ is_name_standing (standing_of c)
unfolding standing_of is_name_standing
standing-high c h =
    rw (ne_eqb c 0 (λ e. omega arith), ne_eqb c 1 (λ e. omega arith))
    (go (ltb c 12288) (ltb c 16384) (ltb c 32768))
  where
    go : (a b d : Bool) → a ≡ is_name_standing (pick a (Declared ((c - 256) / 2) ((c - 256) % 2))
        (pick b (Variable ((c - 12288) / 4) ((c - 12288) % 4))
        (pick d (Parameter ((c - 16384) / 8) ((c - 16384) % 8)) (Procedure ((c - 32768) % 128) ((c - 32768) / 128)))))
    go true b d = refl
    go false true d = refl
    go false false true = refl
    go false false false = refl

-- what the code notes of a record
pub note-made : (r : Record) (t : List ℕ) {b : Bool} {u : List ℕ} → r.kind ≡ 20 →
    b ≡ is_name_standing (standing_of r.b) → b ≡ true → u ≡ set t (36864 + r.a) 1 → u ≡ noted r t
unfolding noted uses_name
note-made r t k e f g = g ∙ rw (eq-eqb r.kind 20 k, sym e ∙ f) refl

pub note-other : (r : Record) (t : List ℕ) {b : Bool} → r.kind ≡ 20 → b ≡ is_name_standing (standing_of r.b) →
    b ≡ false → t ≡ noted r t
unfolding noted uses_name
note-other r t k e f = rw (eq-eqb r.kind 20 k, sym e ∙ f) refl

pub note-kind : (r : Record) (t : List ℕ) → (r.kind ≡ 20 → ⊥) → t ≡ noted r t
unfolding noted uses_name
note-kind r t k = rw (ne_eqb r.kind 20 k) refl

-- the word of an id
pub noted-there : (t : List ℕ) (id : ℕ) → eqb (get_or t (36864 + id) 0) 1 ≡ is_noted t id
unfolding is_noted
noted-there t id = refl

pub noted-past : (t : List ℕ) (id : ℕ) → length t ≤ 36864 + id → false ≡ is_noted t id
unfolding is_noted
noted-past t id h = rw (get_or-eq_default t 0 h) refl
