-- The table of parts, which the reader leaves: nine words for each place of a sheet. Only inner contracts cite it.
-- Document 02 [1]: a use of a procedure leads to the procedure's record, and by it to the procedure's term.
--
-- The row of the part at a place: 0 kind (18 for every constant, 128 to 130 for uses of private variables, parameters and
-- procedures), 1 the place after the part, 2 class of its type (0 command, 1 expression, 2 variable), 3 number of values
-- of its data, 4 detail, 5 to 8 places of its parts. The detail of a constant is its code, of an operation its operator,
-- of a new the number of values of its variable, of a name its id, 256 times the number of its arguments and, where it
-- asks once, 2,048, of a private variable or a parameter the number of its binder, of a use of a procedure the place of
-- the procedure's record and 4,096 times the number of its arguments, of a procedure its number.
use Rattle.std.specs.Prelude.{ℕ, suc, ◌+◌, ◌*◌, ◌≤◌, ◌<◌, ◌≡◌, List, [], ◌∷◌, length}
use Rattle.language.specs.Number.{code, from_byte}
use Rattle.language.specs.declared.Numbers.{Numbers}
use Rattle.language.specs.Term.{Often, onces}
use Rattle.sheet_records.specs.Limits.{most_bytes}
use Rattle.sheet_parts.specs.Rule.{values}
use Rattle.sheet_rows.specs.Row.{word, class_of}
use Rattle.sheet_written.specs.Environment.{beyond}
use Rattle.sheet_written.specs.Written.{Written, skip, diverge, truth, number, call, fetch, operate, assign}
use Rattle.sheet_written.specs.Written.{sequence, while, choose, new, procedure, Parameter, Writtens, none, more}
use Rattle.sheet_written.specs.Written.{Name}
use Rattle.sheet_written.specs.Meaning.{private, argument, routine, named, meaning, typed}
use Rattle.sheet_written.specs.Fine.{depth}
use Rattle.sheet_written.specs.Context.{Context, whole, in_block, in_procedure, in_scope, binders}
use Rattle.sheet_rows.specs.PartKind.{SKIP, DIVERGE, CONSTANT, NAME, FETCH, OPERATE, ASSIGN, SEQUENCE, IF, WHILE}
use Rattle.sheet_rows.specs.PartKind.{NEW, PROCEDURE, PRIVATE, PARAMETER, ROUTINE, KIND, END, CLASS, VALUES, DETAIL}
use Rattle.sheet_rows.specs.PartKind.{PARTS, ID-SPAN, COUNT-SPAN, PLACE-SPAN}

-- the place of a procedure's record and how many arguments a use of it has
unfoldable pub use_detail : ℕ → ℕ → ℕ
use_detail place count = place + PLACE-SPAN * count

-- the id of a name, how many arguments it has, and whether it asks once
unfoldable pub name_detail : ℕ → ℕ → Often → ℕ
name_detail id count often = id + ID-SPAN * (count + COUNT-SPAN * onces often)

module _ (N : Numbers) (ns : List Name) (t : List ℕ) where
  -- the row of the part W, of a kind, from a place up to another
  pub record PartRow (Γ : Context) (kind : ℕ) (W : Written) (at end : ℕ) : Type 0 where
    pub before : at < end
    pub within : end ≤ most_bytes
    pub kinded : word t at KIND ≡ kind
    pub ended : word t at END ≡ end
    pub classed : word t at CLASS ≡ class_of (typed ns (binders Γ) W)
    pub valued : word t at VALUES ≡ values N (typed ns (binders Γ) W)

  -- Shown Γ π at end W: the table has the part W, which stands in Γ, from one place up to another; π says where the
  -- records of the procedures stand, by their numbers. The parts of a record follow it, one after the other.
  mutual
    pub data Shown : Context → (ℕ → ℕ) → ℕ → ℕ → Written → Type 0 where
      shown_skip : {Γ : Context} {π : ℕ → ℕ} {at end : ℕ} → PartRow Γ SKIP skip at end → Shown Γ π at end skip
      shown_diverge : {Γ : Context} {π : ℕ → ℕ} {at end ty : ℕ} → PartRow Γ DIVERGE (diverge ty) at end →
          Shown Γ π at end (diverge ty)
      shown_truth : {Γ : Context} {π : ℕ → ℕ} {at end b : ℕ} → PartRow Γ CONSTANT (truth b) at end →
          word t at DETAIL ≡ b → Shown Γ π at end (truth b)
      shown_number : {Γ : Context} {π : ℕ → ℕ} {at end b : ℕ} → PartRow Γ CONSTANT (number b) at end →
          word t at DETAIL ≡ code N (from_byte b) → Shown Γ π at end (number b)
      shown_private : {Γ : Context} {π : ℕ → ℕ} {at end id k d : ℕ} → meaning ns (binders Γ) id ≡ private k d →
          PartRow Γ PRIVATE (call id none) at end → word t at DETAIL ≡ k → Shown Γ π at end (call id none)
      shown_parameter : {Γ : Context} {π : ℕ → ℕ} {at end id k ty : ℕ} → meaning ns (binders Γ) id ≡ argument k ty →
          PartRow Γ PARAMETER (call id none) at end → word t at DETAIL ≡ k → Shown Γ π at end (call id none)
      shown_use : {Γ : Context} {π : ℕ → ℕ} {at from end id k ty : ℕ} {tys : List ℕ} {ws : Writtens} →
          meaning ns (binders Γ) id ≡ routine k ty tys → PartRow Γ ROUTINE (call id ws) at end →
          word t at DETAIL ≡ use_detail (π k) (length tys) → length tys ≤ 4 → at < from →
          ShownArgs Γ π at 0 from end ws tys → Shown Γ π at end (call id ws)
      shown_name : {Γ : Context} {π : ℕ → ℕ} {at from end id ty : ℕ} {often : Often} {tys : List ℕ} {ws : Writtens} →
          meaning ns (binders Γ) id ≡ named often ty tys → PartRow Γ NAME (call id ws) at end →
          word t at DETAIL ≡ name_detail id (length tys) often → length tys ≤ 4 → at < from →
          ShownArgs Γ π at 0 from end ws tys → Shown Γ π at end (call id ws)
      shown_fetch : {Γ : Context} {π : ℕ → ℕ} {at a end : ℕ} {x : Written} → PartRow Γ FETCH (fetch x) at end →
          word t at PARTS ≡ a → at < a → Shown Γ π a end x → Shown Γ π at end (fetch x)
      shown_operate : {Γ : Context} {π : ℕ → ℕ} {at a b end op : ℕ} {x y : Written} →
          PartRow Γ OPERATE (operate op x y) at end → word t at DETAIL ≡ op → word t at PARTS ≡ a →
          word t at (PARTS + 1) ≡ b → at < a → Shown Γ π a b x → Shown Γ π b end y → Shown Γ π at end (operate op x y)
      shown_assign : {Γ : Context} {π : ℕ → ℕ} {at a b end : ℕ} {x y : Written} → PartRow Γ ASSIGN (assign x y) at end →
          word t at PARTS ≡ a → word t at (PARTS + 1) ≡ b → at < a → Shown Γ π a b x → Shown Γ π b end y →
          Shown Γ π at end (assign x y)
      shown_sequence : {Γ : Context} {π : ℕ → ℕ} {at a b end : ℕ} {x y : Written} →
          PartRow Γ SEQUENCE (sequence x y) at end → word t at PARTS ≡ a → word t at (PARTS + 1) ≡ b → at < a →
          Shown Γ π a b x → Shown Γ π b end y → Shown Γ π at end (sequence x y)
      shown_choose : {Γ : Context} {π : ℕ → ℕ} {at a b c end : ℕ} {q x y : Written} →
          PartRow Γ IF (choose q x y) at end → word t at PARTS ≡ a → word t at (PARTS + 1) ≡ b →
          word t at (PARTS + 2) ≡ c → at < a → Shown Γ π a b q → Shown Γ π b c x → Shown Γ π c end y →
          Shown Γ π at end (choose q x y)
      shown_while : {Γ : Context} {π : ℕ → ℕ} {at a b end : ℕ} {x y : Written} → PartRow Γ WHILE (while x y) at end →
          word t at PARTS ≡ a → word t at (PARTS + 1) ≡ b → at < a → Shown Γ π a b x → Shown Γ π b end y →
          Shown Γ π at end (while x y)
      shown_new : {Γ : Context} {π : ℕ → ℕ} {at a end id d : ℕ} {x : Written} → PartRow Γ NEW (new id d x) at end →
          word t at DETAIL ≡ values N d → word t at PARTS ≡ a → at < a → Shown (in_block id d Γ) π a end x →
          Shown Γ π at end (new id d x)
      shown_procedure : {Γ : Context} {π : ℕ → ℕ} {at a b end id ty : ℕ} {ps : List Parameter} {body rest : Written} →
          PartRow Γ PROCEDURE (procedure id ty ps body rest) at end → word t at DETAIL ≡ length (binders Γ) →
          word t at PARTS ≡ a → word t at (PARTS + 1) ≡ b → at < a → length ps ≤ 4 →
          Shown (in_procedure ps Γ) π a b body →
          Shown (in_scope id ty ps body Γ) (beyond (length (binders Γ)) π (λ j. at)) b end rest →
          Shown Γ π at end (procedure id ty ps body rest)

    -- arguments j, j + 1, .. of the use at a place, of the given types, from a place up to another
    pub data ShownArgs : Context → (ℕ → ℕ) → ℕ → ℕ → ℕ → ℕ → Writtens → List ℕ → Type 0 where
      shown_none : {Γ : Context} {π : ℕ → ℕ} {at j end : ℕ} → ShownArgs Γ π at j end end none []
      shown_more : {Γ : Context} {π : ℕ → ℕ} {at j a b end ty : ℕ} {w : Written} {ws : Writtens} {tys : List ℕ} →
          word t at (PARTS + j) ≡ a → Shown Γ π a b w → ShownArgs Γ π at (suc j) b end ws tys →
          ShownArgs Γ π at j a end (more w ws) (ty ∷ tys)

  -- Known Γ π at: the table has the terms of the procedures of Γ, each before the place where Γ's part begins
  unfoldable pub Known : Context → (ℕ → ℕ) → ℕ → Type 0
  Known whole π at = Unit
  Known (in_block id d Γ) π at = Known Γ π at
  Known (in_procedure ps Γ) π at = Known Γ π at
  Known (in_scope id ty ps body Γ) π at =
      let k : ℕ = length (binders Γ) in
      (b : ℕ) × (b ≤ at) × (word t (π k) DETAIL ≡ k) × (π k < word t (π k) PARTS) × (π k < most_bytes)
      × Shown (in_procedure ps Γ) π (word t (π k) PARTS) b body × Known Γ π (π k)

-- the binders inside a part are numbered below this: a level of depth has four at most
abbrev pub BINDERS : ℕ
BINDERS = 128

unfoldable pub Few : Context → Written → Type 0
Few Γ W = length (binders Γ) + 4 * depth W ≤ BINDERS

-- the same of the terms of the procedures of a context
unfoldable pub FewIn : Context → Type 0
FewIn whole = Unit
FewIn (in_block id d Γ) = FewIn Γ
FewIn (in_procedure ps Γ) = FewIn Γ
FewIn (in_scope id ty ps body Γ) = Few (in_procedure ps Γ) body × FewIn Γ
