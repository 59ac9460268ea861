-- A term as written without a procedure that is not used. Document 02 [1]: a procedure is played where it is used.
use Rattle.std.specs.Prelude.{ℕ, ◌≡◌, List, [], ◌∷◌, eqb}
use Rattle.language.specs.Choice.{pick}
use Rattle.sheet_written.specs.Written.{Written, skip, diverge, truth, number, call, fetch, operate, assign}
use Rattle.sheet_written.specs.Written.{sequence, while, choose, new, procedure, Parameter, Writtens, none, more}

-- the ids without one
unfoldable pub remove : ℕ → List ℕ → List ℕ
remove id [] = []
remove id (a ∷ ids) = pick (eqb a id) (remove id ids) (a ∷ remove id ids)

-- and without those of the parameters
unfoldable pub remove_all : List Parameter → List ℕ → List ℕ
remove_all [] ids = ids
remove_all (p ∷ ps) ids = remove_all ps (remove p.id ids)

unfoldable pub NoneIs : ℕ → List ℕ → Type 0
NoneIs id [] = Unit
NoneIs id (a ∷ ids) = (a ≡ id → ⊥) × NoneIs id ids

-- no use of these ids but those that a binder inside governs
unfoldable mutual
  pub NoUse : List ℕ → Written → Type 0
  NoUse ids skip = Unit
  NoUse ids (diverge ty) = Unit
  NoUse ids (truth x) = Unit
  NoUse ids (number x) = Unit
  NoUse ids (call id ws) = NoneIs id ids × NoUses ids ws
  NoUse ids (fetch v) = NoUse ids v
  NoUse ids (operate op x y) = NoUse ids x × NoUse ids y
  NoUse ids (assign x y) = NoUse ids x × NoUse ids y
  NoUse ids (sequence x y) = NoUse ids x × NoUse ids y
  NoUse ids (choose c x y) = NoUse ids c × NoUse ids x × NoUse ids y
  NoUse ids (while x y) = NoUse ids x × NoUse ids y
  NoUse ids (new id d c) = NoUse (remove id ids) c
  NoUse ids (procedure id ty ps x y) = NoUse (remove_all ps ids) x × NoUse (remove id ids) y

  pub NoUses : List ℕ → Writtens → Type 0
  NoUses ids none = Unit
  NoUses ids (more w ws) = NoUse ids w × NoUses ids ws

-- somewhere in a term, a procedure that is not used is left out, and its second term stands in its place
mutual
  pub data LeftOut : Written → Written → Type 0 where
    left_out : {id ty : ℕ} {ps : List Parameter} {x y : Written} → NoUse (id ∷ []) y →
        LeftOut (procedure id ty ps x y) y
    in_call : {id : ℕ} {ws ws' : Writtens} → LeftOuts ws ws' → LeftOut (call id ws) (call id ws')
    in-fetch : {x x' : Written} → LeftOut x x' → LeftOut (fetch x) (fetch x')
    in_left : {op : ℕ} {x x' y : Written} → LeftOut x x' → LeftOut (operate op x y) (operate op x' y)
    in_right : {op : ℕ} {x y y' : Written} → LeftOut y y' → LeftOut (operate op x y) (operate op x y')
    in_target : {x x' y : Written} → LeftOut x x' → LeftOut (assign x y) (assign x' y)
    in_source : {x y y' : Written} → LeftOut y y' → LeftOut (assign x y) (assign x y')
    in_first : {x x' y : Written} → LeftOut x x' → LeftOut (sequence x y) (sequence x' y)
    in_second : {x y y' : Written} → LeftOut y y' → LeftOut (sequence x y) (sequence x y')
    in_if : {c c' x y : Written} → LeftOut c c' → LeftOut (choose c x y) (choose c' x y)
    in_then : {c x x' y : Written} → LeftOut x x' → LeftOut (choose c x y) (choose c x' y)
    in_else : {c x y y' : Written} → LeftOut y y' → LeftOut (choose c x y) (choose c x y')
    in_test : {x x' y : Written} → LeftOut x x' → LeftOut (while x y) (while x' y)
    in_loop : {x y y' : Written} → LeftOut y y' → LeftOut (while x y) (while x y')
    in-new : {id d : ℕ} {x x' : Written} → LeftOut x x' → LeftOut (new id d x) (new id d x')
    in_body : {id ty : ℕ} {ps : List Parameter} {x x' y : Written} → LeftOut x x' →
        LeftOut (procedure id ty ps x y) (procedure id ty ps x' y)
    in_rest : {id ty : ℕ} {ps : List Parameter} {x y y' : Written} → LeftOut y y' →
        LeftOut (procedure id ty ps x y) (procedure id ty ps x y')

  pub data LeftOuts : Writtens → Writtens → Type 0 where
    in_this : {w w' : Written} {ws : Writtens} → LeftOut w w' → LeftOuts (more w ws) (more w' ws)
    in_later : {w : Written} {ws ws' : Writtens} → LeftOuts ws ws' → LeftOuts (more w ws) (more w ws')
