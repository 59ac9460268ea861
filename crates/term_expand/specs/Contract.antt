-- What the functions that expand a table of parts say. Document 02 [1]; only inner contracts cite it.
use Rattle.std.specs.Prelude.{ℕ, suc, ◌+◌, ◌-◌, ◌*◌, ◌%◌, ◌/◌, ◌≤◌, ◌<◌, ◌≡◌, List, [], ◌∷◌, length, get_or, set}
use Rattle.language.specs.declared.Numbers.{Numbers}
use Rattle.sheet_written.specs.Written.{Written, Name}
use Rattle.sheet_written.specs.Meaning.{Binder, a_block, a_parameter, a_procedure, inside}
use Rattle.sheet_written.specs.Fine.{Fine, depth}
use Rattle.sheet_written.specs.Made.{made}
use Rattle.sheet_written.specs.Occurs.{IsParameter}
use Rattle.sheet_written.specs.Context.{Context, whole, in_block, in_procedure, in_scope, binders, forms, makes}
use Rattle.sheet_written.specs.Expand.{Slots, no_slots, Expands}
use Rattle.sheet_rows.specs.PartKind.{PROCEDURE, NEW, KIND, DETAIL, PARTS, WEIGHT, ROUTINE, PLACE-SPAN}
use Rattle.sheet_records.specs.Limits.{most_bytes, greatest_depth}
use Rattle.sheet_rows.specs.Row.{word}
use Rattle.sheet_written.specs.Table.{Shown, Known, BINDERS, Few, FewIn}
use Rattle.sheet_written.specs.Marks.{Marked, MarkedIn}
use Rattle.term_closing.specs.Rows.{ROWS, decode, TERM-WORDS}
use Rattle.term_expand.specs.Local.{Local}
use Rattle.term_closing.specs.Close.{used_of, bit_of, more_of, parts_of, closed_row, passed_slots}

-- the terms of the procedures of a context are in order
unfoldable pub FineIn : Numbers → List Name → Context → Type 0
FineIn N ns whole = Unit
FineIn N ns (in_block id d Γ) = FineIn N ns Γ
FineIn N ns (in_procedure ps Γ) = FineIn N ns Γ
FineIn N ns (in_scope id ty ps body Γ) = Fine N ns (inside ps (binders Γ)) body × FineIn N ns Γ

-- the slots hold the rows of the enclosing binders, by their numbers
unfoldable pub Shows : List ℕ → Slots → List Binder → Type 0
Shows slots ε [] = Unit
Shows slots ε (a_block id d ∷ bs) = (get_or slots (length bs) 0 ≡ ε.block (length bs)) × Shows slots ε bs
Shows slots ε (a_parameter id ty ∷ bs) = (get_or slots (length bs) 0 ≡ ε.passed (length bs)) × Shows slots ε bs
Shows slots ε (a_procedure id ty tys ∷ bs) = Shows slots ε bs

-- a, if it is a row at all, is one of the first n
unfoldable pub Within : ℕ → ℕ → Type 0
Within n a = a < ROWS → a < n

-- the rows T have those below n as rows have them
unfoldable pub Below : ℕ → List ℕ → List ℕ → Type 0
Below n rows T = (i : ℕ) → i < 9 * n → get_or T i 0 ≡ get_or rows i 0

-- the rows T have those from n up to m as rows have them
unfoldable pub Between : ℕ → ℕ → List ℕ → List ℕ → Type 0
Between n m rows T = (i : ℕ) → 9 * n ≤ i → i < 9 * m → get_or T i 0 ≡ get_or rows i 0

-- T has the words of all rows, and the rows of arguments weigh in it what they weigh in rows
unfoldable pub Weighs : Context → Slots → List ℕ → List ℕ → Type 0
Weighs Γ ε rows T =
    (length T ≡ TERM-WORDS)
    × ((s : ℕ) → IsParameter (binders Γ) s → word T (ε.passed s) WEIGHT ≡ word rows (ε.passed s) WEIGHT)

-- one more than a sheet may have places
abbrev pub TURNS : ℕ
TURNS = 4097

-- a bound of the turns to come: it falls from a part to its parts, and from a use to the procedure's term
unfoldable pub turns : ℕ → ℕ → ℕ
turns at end = TURNS * end + (most_bytes - at)

module _ (N : Numbers) (ns : List Name) (t marks slots rows : List ℕ) where
  -- the part W, from a place up to another, in Γ, is to be expanded, where `level` binders are around and n rows made
  pub record Placed (Γ : Context) (ε : Slots) (π : ℕ → ℕ) (W : Written) (at end level left n : ℕ) : Type 0 where
    pub shown : Shown N ns t Γ π at end W
    pub known : Known N ns t Γ π at
    pub marked : Marked N ns t marks Γ at W
    pub marked_in : MarkedIn N ns t marks Γ π
    pub fine : Fine N ns (binders Γ) W
    pub fine_in : FineIn N ns Γ
    pub few : Few Γ W
    pub few-in : FewIn Γ
    pub shows : Shows slots ε (binders Γ)
    pub long : length slots ≡ BINDERS
    pub passed : (s : ℕ) → IsParameter (binders Γ) s → Within n (ε.passed s)
    pub numbered : level ≡ length (binders Γ)
    pub enough : turns at end ≤ left
    pub room : n + made N ns (binders Γ) (forms N ns Γ) (makes N ns Γ) W ≤ ROWS
    pub sized : length rows ≡ TERM-WORDS

-- what an expansion gives, where the rows are T in the end
pub record Given (N : Numbers) (ns : List Name) (Γ : Context) (ε : Slots) (W : Written) (rows T : List ℕ) (n r m : ℕ) :
    Type 0 where
  pub expands : Expands N ns (decode N ns T) Γ ε W n r m
  pub local : Local N ns T expands
  pub weighs : word T r WEIGHT ≡ word rows r WEIGHT

-- the part W becomes the row r, and then m rows are made
pub record Expanded (N : Numbers) (ns : List Name) (Γ : Context) (ε : Slots) (W : Written) (rows after : List ℕ)
    (n r m : ℕ) : Type 0 where
  pub kept : Below n rows after
  pub sized : length after ≡ TERM-WORDS
  pub within : Within m r
  pub given : (T : List ℕ) → Between n m after T → Weighs Γ ε rows T → Given N ns Γ ε W after T n r m

module _ (t marks slots : List ℕ) where
  -- whatever part the table has at a place is expanded
  pub record Expanding (level left at : ℕ) (rows after : List ℕ) (n r m : ℕ) : Type 0 where
    pub of : (N : Numbers) (ns : List Name) (Γ : Context) (ε : Slots) (π : ℕ → ℕ) (W : Written) (end : ℕ) →
        Placed N ns t marks slots rows Γ ε π W at end level left n → Expanded N ns Γ ε W rows after n r m

  -- part j of the part at a place is expanded, where it is wanted
  pub record Piece (level left at wants j : ℕ) (rows after : List ℕ) (n r m : ℕ) : Type 0 where
    pub wanted : wants ≡ 1 → Expanding level left (word t at (PARTS + j)) rows after n r m
    pub unwanted : wants ≡ 0 → (r ≡ ROWS) × (m ≡ n) × (after ≡ rows)

  -- the parts of the part at a place are expanded in their order, those whose bits are wanted
  pub record Pieces (level left at wants : ℕ) (rows after : List ℕ) (n a b c d m : ℕ) : Type 0 where
    pub tables : ℕ → List ℕ
    pub counts : ℕ → ℕ
    pub row : ℕ → ℕ
    pub piece : (j : ℕ) → j < 4 →
        Piece level left at (bit_of wants j) j (tables j) (tables (suc j)) (counts j) (row j) (counts (suc j))
    pub first : (tables 0 ≡ rows) × (counts 0 ≡ n)
    pub last : (tables 4 ≡ after) × (counts 4 ≡ m)
    pub parts : (row 0 ≡ a) × (row 1 ≡ b) × (row 2 ≡ c) × (row 3 ≡ d)

  -- the part at a place becomes the row n, in whose scope the slots are
  pub record Closed (level left at : ℕ) (rows after : List ℕ) (n m : ℕ) : Type 0 where
    pub between : List ℕ
    pub a : ℕ
    pub b : ℕ
    pub c : ℕ
    pub d : ℕ
    pub pieces : Pieces level left at (parts_of (word t at KIND) (word t at DETAIL)) rows between (more_of n 1) a b c d m
    pub row : after ≡ closed_row t slots between at n a b c d

-- a use of a procedure: the arguments in the slots of the caller, then the term in those of the procedure
pub record Used (t marks slots : List ℕ) (level left at : ℕ) (rows after : List ℕ) (n r m : ℕ) : Type 0 where
  pub between : List ℕ
  pub a : ℕ
  pub b : ℕ
  pub c : ℕ
  pub d : ℕ
  pub i : ℕ
  pub pieces : Pieces t marks slots level left at (used_of (get_or marks (word t at DETAIL % PLACE-SPAN) 0)) rows between n
      a b c d i
  pub body : Expanding t marks (passed_slots slots (word t (word t at DETAIL % PLACE-SPAN) DETAIL) a b c d)
      (more_of (word t (word t at DETAIL % PLACE-SPAN) DETAIL) (word t at DETAIL / PLACE-SPAN)) left
      (word t (word t at DETAIL % PLACE-SPAN) PARTS) between after i r m

-- the procedure that is used at a place is entered: what its term becomes in its slots, the use becomes
pub record Entered (t marks slots inner : List ℕ) (level left at : ℕ) (rows between : List ℕ) (n body more i : ℕ) :
    Type 0 where
  pub used : (after : List ℕ) (r m : ℕ) → Expanding t marks inner more left body between after i r m →
      Used t marks slots level left at rows after n r m

-- the part at a place becomes the row n, where it is neither the scope nor the use of a procedure
pub record Recorded (t marks slots : List ℕ) (level left at : ℕ) (rows after : List ℕ) (n r m : ℕ) : Type 0 where
  pub block : word t at KIND ≡ NEW →
      (r ≡ n) × Closed t marks (set slots level n) (more_of level 1) left at rows after n m
  pub plain : (word t at KIND ≡ NEW → ⊥) → (r ≡ n) × Closed t marks slots level left at rows after n m

-- the part at a place is none that comes down to a parameter: what is done by its kind
pub record ByKind (t marks slots : List ℕ) (level left at : ℕ) (rows after : List ℕ) (n r m : ℕ) : Type 0 where
  pub scope : word t at KIND ≡ PROCEDURE →
      Expanding t marks slots (more_of level 1) left (word t at (PARTS + 1)) rows after n r m
  pub routine : word t at KIND ≡ ROUTINE → Used t marks slots level left at rows after n r m
  pub recorded : (word t at KIND ≡ PROCEDURE → ⊥) → (word t at KIND ≡ ROUTINE → ⊥) →
      Recorded t marks slots level left at rows after n r m

-- a whole sheet's term, which the table has with its marks from a place up to another
pub record Ready (N : Numbers) (ns : List Name) (t marks : List ℕ) (π : ℕ → ℕ) (W : Written) (at end : ℕ) : Type 0 where
  pub shown : Shown N ns t whole π at end W
  pub marked : Marked N ns t marks whole at W
  pub fine : Fine N ns [] W
  pub shallow : depth W ≤ greatest_depth
  pub room : made N ns [] (forms N ns whole) (makes N ns whole) W ≤ ROWS

-- some term is, and the rows have their length
pub record Readied (t marks : List ℕ) (at : ℕ) (rows : List ℕ) : Type 0 where
  pub numbers : Numbers
  pub names : List Name
  pub places : ℕ → ℕ
  pub term : Written
  pub end : ℕ
  pub ready : Ready numbers names t marks places term at end
  pub long : length rows ≡ TERM-WORDS

-- its expansion, and that its rows are right and have their length
pub record Whole (N : Numbers) (ns : List Name) (W : Written) (rows : List ℕ) (r n : ℕ) : Type 0 where
  pub sized : length rows ≡ TERM-WORDS
  pub expands : Expands N ns (decode N ns rows) whole no_slots W 0 r n
  pub local : Local N ns rows expands

pub record Top (t marks : List ℕ) (at : ℕ) (rows after : List ℕ) (r n : ℕ) : Type 0 where
  pub of : (N : Numbers) (ns : List Name) (π : ℕ → ℕ) (W : Written) (end : ℕ) → Ready N ns t marks π W at end →
      length rows ≡ TERM-WORDS → Whole N ns W after r n
