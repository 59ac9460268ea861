-- What weighing a record promises, document 02 [1], "Reckoned size": where the table shows a term and the forms and the
-- marks of its parts are there, its own form and its mark are there afterwards.
use Rattle.std.specs.Prelude.{ℕ, suc, ◌+◌, ◌*◌, ◌≤◌, ◌<◌, ◌≡◌, List, length, get_or}
use Rattle.language.specs.declared.Numbers.{Numbers}
use Rattle.sheet_written.specs.Written.{Written, skip, diverge, truth, number, call, fetch, operate, assign, sequence}
use Rattle.sheet_written.specs.Written.{while, choose, new, procedure, Writtens, none, more, Parameter, Name}
use Rattle.sheet_written.specs.Meaning.{meaning, routine, inside}
use Rattle.sheet_written.specs.Fine.{Fine, depth}
use Rattle.sheet_written.specs.Form.{form_of}
use Rattle.sheet_written.specs.Come.{come}
use Rattle.sheet_written.specs.Context.{Context, in_block, in_procedure, in_scope, binders, forms, downs, Sees}
use Rattle.sheet_rows.specs.PartKind.{PARTS}
use Rattle.sheet_records.specs.Limits.{most_bytes}
use Rattle.sheet_rows.specs.Row.{word}
use Rattle.sheet_written.specs.Table.{BINDERS, Shown}
use Rattle.sheet_written.specs.Marks.{Marked}
use Rattle.weight_theory.specs.Stack.{marks_from, form_words, all_words, marks_in, slot_of, height_of, form_word}
use Rattle.weight_theory.specs.Shows.{Shows}
use Rattle.weight_theory.specs.Plan.{LAST-PROCEDURE, come_at}
use Rattle.weight_theory.specs.Step.{weighed}

-- how many forms there may be before those of a record's parts: theirs and its own have room after them
abbrev pub lowest_free : ℕ
lowest_free = 93

-- how many parts a term has
unfoldable pub many : Writtens → ℕ
many none = 0
many (more w ws) = suc (many ws)

unfoldable pub parts_in : Written → ℕ
parts_in skip = 0
parts_in (diverge ty) = 0
parts_in (truth b) = 0
parts_in (number b) = 0
parts_in (call id ws) = many ws
parts_in (fetch x) = 1
parts_in (operate op x y) = 2
parts_in (assign x y) = 2
parts_in (sequence x y) = 2
parts_in (choose b x y) = 3
parts_in (while x y) = 2
parts_in (new id d x) = 1
parts_in (procedure id ty ps body rest) = 2

-- what is below a height of the stack and what belongs to other places is as it was
pub record OnlyAt (t t' : List ℕ) (at h : ℕ) : Type 0 where
  pub long : length t' ≡ length t
  pub table : (i : ℕ) → i < marks_from → get_or t' i 0 ≡ get_or t i 0
  pub marks : (p : ℕ) → (p ≡ at → ⊥) → p < most_bytes → get_or (marks_in t') p 0 ≡ get_or (marks_in t) p 0
  pub slots : (p : ℕ) → (p ≡ at → ⊥) → p < most_bytes → slot_of t' p ≡ slot_of t p
  pub forms : (row i : ℕ) → row < h → i < form_words → form_word t' row i ≡ form_word t row i

module _ (N : Numbers) (ns : List Name) where
  -- the procedure that stands in Δ and has its record at p may be used from a place on, where the stack has h forms
  pub record ReadyOne (t : List ℕ) (p at h : ℕ) (Δ : Context) (ps : List Parameter) (body : Written) : Type 0 where
    pub placed : p < most_bytes
    pub before : word t p PARTS < at
    pub few : length (binders Δ) ≤ LAST-PROCEDURE
    pub four : length ps ≤ 4
    pub comes : come_at (marks_in t) (word t p PARTS) ≡ come ns (inside ps (binders Δ)) (downs ns Δ) body
    pub below : slot_of t (word t p PARTS) < h
    pub formed : Shows t (slot_of t (word t p PARTS)) (form_of N ns (inside ps (binders Δ)) (forms N ns Δ) body)

  -- so may all that Γ sees
  pub record Ready (t : List ℕ) (Γ : Context) (π : ℕ → ℕ) (at h : ℕ) : Type 0 where
    pub each : (Δ : Context) (ps : List Parameter) (body : Written) → Sees Γ Δ ps body →
        ReadyOne t (π (length (binders Δ))) at h Δ ps body

  -- parts j, j + 1, .. of the record `at`, which stand in Γ: their forms are those from a row on, their marks are set
  unfoldable pub Formed : List ℕ → Context → ℕ → ℕ → ℕ → Writtens → Type 0
  Formed t Γ at row j none = Unit
  Formed t Γ at row j (more w ws) =
      Shows t row (form_of N ns (binders Γ) (forms N ns Γ) w)
      × Marked N ns t (marks_in t) Γ (word t at (PARTS + j)) w
      × Formed t Γ at (suc row) (suc j) ws

  -- all parts of W, which is at a place and stands in Γ
  unfoldable pub PartsFormed : List ℕ → Context → ℕ → ℕ → Written → Type 0
  PartsFormed t Γ at h skip = Unit
  PartsFormed t Γ at h (diverge ty) = Unit
  PartsFormed t Γ at h (truth b) = Unit
  PartsFormed t Γ at h (number b) = Unit
  PartsFormed t Γ at h (call id ws) = Formed t Γ at h 0 ws
  PartsFormed t Γ at h (fetch x) = Formed t Γ at h 0 (more x none)
  PartsFormed t Γ at h (operate op x y) = Formed t Γ at h 0 (more x (more y none))
  PartsFormed t Γ at h (assign x y) = Formed t Γ at h 0 (more x (more y none))
  PartsFormed t Γ at h (sequence x y) = Formed t Γ at h 0 (more x (more y none))
  PartsFormed t Γ at h (choose b x y) = Formed t Γ at h 0 (more b (more x (more y none)))
  PartsFormed t Γ at h (while x y) = Formed t Γ at h 0 (more x (more y none))
  PartsFormed t Γ at h (new id d x) = Formed t (in_block id d Γ) at h 0 (more x none)
  PartsFormed t Γ at h (procedure id ty ps body rest) =
      Formed t (in_procedure ps Γ) at h 0 (more body none)
      × Formed t (in_scope id ty ps body Γ) at (suc h) 1 (more rest none)

  -- W is the part of Γ at a place, its parts are weighed and have the forms from h on; l levels are enough for them; k
  -- is the number of the procedure that it uses, if it is such a use
  pub record Given (t : List ℕ) (Γ : Context) (π : ℕ → ℕ) (at end : ℕ) (W : Written) (l h k : ℕ) : Type 0 where
    pub long : length t ≡ all_words
    pub shown : Shown N ns t Γ π at end W
    pub fine : Fine N ns (binders Γ) W
    pub deep : depth W ≤ suc l
    pub few : length (binders Γ) + 4 * suc l ≤ BINDERS
    pub room : h ≤ lowest_free
    pub height : height_of t ≡ h + parts_in W
    pub ready : Ready t Γ π at h
    pub formed : PartsFormed t Γ at h W
    pub numbered : (id j ty : ℕ) (ws : Writtens) (tys : List ℕ) → W ≡ call id ws →
        meaning ns (binders Γ) id ≡ routine j ty tys → k ≡ j

  -- its form is the last one, and it is marked
  pub record Weighed (t t' : List ℕ) (Γ : Context) (at : ℕ) (W : Written) (h : ℕ) : Type 0 where
    pub shows : Shows t' h (form_of N ns (binders Γ) (forms N ns Γ) W)
    pub height : height_of t' ≡ suc h
    pub slot : slot_of t' at ≡ h
    pub marked : Marked N ns t' (marks_in t') Γ at W
    pub kept : OnlyAt t t' at h

-- THEOREM (record-weighed): weighing a record does that
abbrev pub RecordWeighed : Type 0
RecordWeighed = (N : Numbers) (ns : List Name) (t : List ℕ) (Γ : Context) (π : ℕ → ℕ) (at end : ℕ) (W : Written)
    (l h k : ℕ) → Given N ns t Γ π at end W l h k → Weighed N ns t (weighed k at t) Γ at W h
