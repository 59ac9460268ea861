-- The parts of a record in the order of their bytes, and how many bytes it has before them: document 01, "Each record
-- is one byte of kind and a body whose length the kind fixes"; document 02 [1] for procedures.
use Rattle.std.specs.Prelude.{ℕ, List, [], ◌∷◌}
use Rattle.sheet_records.specs.Kind.{record_width}
use Rattle.sheet_records.specs.declared.kind.Rule.TheVariants.{Skip, Diverge, Truth, Number, Use, Fetch, Operate, Assign}
use Rattle.sheet_records.specs.declared.kind.Rule.TheVariants.{Sequence, If, While, New, Procedure}
use Rattle.sheet_written.specs.Written.{Written, skip, diverge, truth, number, call, fetch, operate, assign}
use Rattle.sheet_written.specs.Written.{sequence, while, choose, new, procedure, Writtens, none, more}
use Rattle.sheet_written.specs.Meaning.{Binder, a_block, inside, after}

-- a term and the binders around it
pub record Piece : Type 0 where
  pub around : List Binder
  pub term : Written

unfoldable pub piece : List Binder → Written → Piece
piece bs W = record { around = bs; term = W }

-- arguments, in one scope
unfoldable pub each : List Binder → Writtens → List Piece
each bs none = []
each bs (more w ws) = piece bs w ∷ each bs ws

-- the parts of a record, in the order of their bytes
unfoldable pub pieces : List Binder → Written → List Piece
pieces bs skip = []
pieces bs (diverge ty) = []
pieces bs (truth b) = []
pieces bs (number b) = []
pieces bs (call id ws) = each bs ws
pieces bs (fetch v) = piece bs v ∷ []
pieces bs (operate op x y) = piece bs x ∷ piece bs y ∷ []
pieces bs (assign x y) = piece bs x ∷ piece bs y ∷ []
pieces bs (sequence x y) = piece bs x ∷ piece bs y ∷ []
pieces bs (choose b x y) = piece bs b ∷ piece bs x ∷ piece bs y ∷ []
pieces bs (while x y) = piece bs x ∷ piece bs y ∷ []
pieces bs (new id d c) = piece (a_block id d ∷ bs) c ∷ []
pieces bs (procedure id ty ps x y) = piece (inside ps bs) x ∷ piece (after id ty ps bs) y ∷ []

-- how many bytes a record has before its parts
unfoldable pub own_width : Written → ℕ
own_width skip = record_width Skip
own_width (diverge ty) = record_width Diverge
own_width (truth b) = record_width Truth
own_width (number b) = record_width Number
own_width (call id ws) = record_width Use
own_width (fetch v) = record_width Fetch
own_width (operate op x y) = record_width Operate
own_width (assign x y) = record_width Assign
own_width (sequence x y) = record_width Sequence
own_width (choose b x y) = record_width If
own_width (while x y) = record_width While
own_width (new id d c) = record_width New
own_width (procedure id ty ps x y) = record_width Procedure
