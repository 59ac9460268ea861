-- The ids of a term are in order, whatever its types. Document 02 [1] (4), [4] ("The sheet written is accepted").
use Rattle.std.specs.Prelude.{◌<◌, ◌≡◌, List, []}
use Rattle.sheet_written.specs.Written.{Written, skip, diverge, truth, number, call, fetch, operate, assign}
use Rattle.sheet_written.specs.Written.{sequence, while, choose, new, procedure, Writtens, none, more, Name}
use Rattle.sheet_written.specs.Meaning.{free, declared}
use Rattle.sheet_written.specs.Fine.{FineParameters}

unfoldable mutual
  pub FineIds : List Name → Written → Type 0
  FineIds ns skip = Unit
  FineIds ns (diverge ty) = Unit
  FineIds ns (truth b) = Unit
  FineIds ns (number b) = Unit
  FineIds ns (call id ws) = (id < 255) × AllFineIds ns ws
  FineIds ns (fetch v) = FineIds ns v
  FineIds ns (operate op x y) = FineIds ns x × FineIds ns y
  FineIds ns (assign x y) = FineIds ns x × FineIds ns y
  FineIds ns (sequence x y) = FineIds ns x × FineIds ns y
  FineIds ns (choose b x y) = FineIds ns b × FineIds ns x × FineIds ns y
  FineIds ns (while x y) = FineIds ns x × FineIds ns y
  FineIds ns (new id d c) = (id < 255) × (declared ns id ≡ free) × FineIds ns c
  FineIds ns (procedure id ty ps x y) =
      (id < 255) × (declared ns id ≡ free) × FineParameters ns [] ps × FineIds ns x × FineIds ns y

  pub AllFineIds : List Name → Writtens → Type 0
  AllFineIds ns none = Unit
  AllFineIds ns (more w ws) = FineIds ns w × AllFineIds ns ws
