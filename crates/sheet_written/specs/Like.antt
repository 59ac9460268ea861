-- Terms as written that are the same but for the ids of binders and of the uses that they govern. Document 02 [4]: "the
-- uses it governs follow".
use Rattle.std.specs.Prelude.{ℕ, ◌≡◌, List, ◌∷◌}
use Rattle.sheet_written.specs.Written.{Written, skip, diverge, truth, number, call, fetch, operate, assign}
use Rattle.sheet_written.specs.Written.{sequence, while, choose, new, procedure, Parameter, Writtens, none, more}
use Rattle.sheet_written.specs.Written.{Name}
use Rattle.sheet_written.specs.Meaning.{Binder, a_block, Meaning, private, argument, routine, named, retired, free}
use Rattle.sheet_written.specs.Meaning.{meaning, inside, after, types_of}

unfoldable pub IsNamed : Meaning → Type 0
IsNamed (private k d) = ⊥
IsNamed (argument k ty) = ⊥
IsNamed (routine k ty tys) = ⊥
IsNamed (named often ty tys) = Unit
IsNamed retired = ⊥
IsNamed free = ⊥

-- the first in the scope of the first binders, the second in that of the second
mutual
  pub data Like (ns : List Name) : List Binder → List Binder → Written → Written → Type 0 where
    like_skip : {bs cs : List Binder} → Like ns bs cs skip skip
    like_diverge : {bs cs : List Binder} {ty : ℕ} → Like ns bs cs (diverge ty) (diverge ty)
    like_truth : {bs cs : List Binder} {b : ℕ} → Like ns bs cs (truth b) (truth b)
    like_number : {bs cs : List Binder} {b : ℕ} → Like ns bs cs (number b) (number b)
    -- the ids mean the same; that of a declared name is the same
    like_call : {bs cs : List Binder} {id id' : ℕ} {ws ws' : Writtens} → meaning ns bs id ≡ meaning ns cs id' →
        (IsNamed (meaning ns bs id) → id ≡ id') → Likes ns bs cs ws ws' → Like ns bs cs (call id ws) (call id' ws')
    like_fetch : {bs cs : List Binder} {v v' : Written} → Like ns bs cs v v' → Like ns bs cs (fetch v) (fetch v')
    like_operate : {bs cs : List Binder} {op : ℕ} {x x' y y' : Written} → Like ns bs cs x x' → Like ns bs cs y y' →
        Like ns bs cs (operate op x y) (operate op x' y')
    like_assign : {bs cs : List Binder} {x x' y y' : Written} → Like ns bs cs x x' → Like ns bs cs y y' →
        Like ns bs cs (assign x y) (assign x' y')
    like_sequence : {bs cs : List Binder} {x x' y y' : Written} → Like ns bs cs x x' → Like ns bs cs y y' →
        Like ns bs cs (sequence x y) (sequence x' y')
    like_choose : {bs cs : List Binder} {b b' x x' y y' : Written} → Like ns bs cs b b' → Like ns bs cs x x' →
        Like ns bs cs y y' → Like ns bs cs (choose b x y) (choose b' x' y')
    like_while : {bs cs : List Binder} {x x' y y' : Written} → Like ns bs cs x x' → Like ns bs cs y y' →
        Like ns bs cs (while x y) (while x' y')
    like_new : {bs cs : List Binder} {id id' d : ℕ} {c c' : Written} →
        Like ns (a_block id d ∷ bs) (a_block id' d ∷ cs) c c' → Like ns bs cs (new id d c) (new id' d c')
    like_procedure : {bs cs : List Binder} {id id' ty : ℕ} {ps ps' : List Parameter} {x x' y y' : Written} →
        types_of ps ≡ types_of ps' → Like ns (inside ps bs) (inside ps' cs) x x' →
        Like ns (after id ty ps bs) (after id' ty ps' cs) y y' →
        Like ns bs cs (procedure id ty ps x y) (procedure id' ty ps' x' y')

  pub data Likes (ns : List Name) : List Binder → List Binder → Writtens → Writtens → Type 0 where
    like_none : {bs cs : List Binder} → Likes ns bs cs none none
    like_more : {bs cs : List Binder} {w w' : Written} {ws ws' : Writtens} → Like ns bs cs w w' →
        Likes ns bs cs ws ws' → Likes ns bs cs (more w ws) (more w' ws')
