-- Which names a routine uses. Document 02 [6]: "a 32-bit mark with one bit for each name record, the first record
-- lowest, set exactly if some use in the sheet means that name. It also gives how many bits are set and the first
-- declared record without one, by its bit's number from 0, or 32." SHEETS 8.2.
use Rattle.std.specs.Prelude.{ℕ, zero, suc, ◌+◌, ◌*◌, ◌/◌, ◌%◌, ◌^◌, ◌<◌, ◌≡◌, ◌↔◌, ◌⊎◌, Bool, true, false, ◌||◌, ◌&&◌, not, List, [], ◌∷◌, eqb}
use Rattle.std.proofs.Math.Option.{Option, none as nothing, some}
use Rattle.std.specs.Int.Count.{ones}
use Rattle.language.specs.Choice.{pick}
use Rattle.language.specs.Term.{Often}
use Rattle.sheet_written.specs.Written.{Written, skip, diverge, truth, number, call, fetch, operate, assign}
use Rattle.sheet_written.specs.Written.{sequence, while, choose, new, procedure, Parameter, Writtens, none, more}
use Rattle.sheet_written.specs.Written.{Name, declare, retire, Sheet}
use Rattle.sheet_written.specs.Meaning.{Binder, a_block, Meaning, private, argument, routine, named, retired, free}
use Rattle.sheet_written.specs.Meaning.{meaning, inside, after}

-- whether what an id means is a declared name
unfoldable pub is_name : Meaning → Bool
is_name (private k d) = false
is_name (argument k ty) = false
is_name (routine k ty tys) = false
is_name (named often ty tys) = true
is_name retired = false
is_name free = false

-- whether some use in a term means the name with the id k; uses in arguments and in procedures count, whether these
-- are used or not
unfoldable mutual
  pub uses : List Name → ℕ → List Binder → Written → Bool
  uses ns k bs skip = false
  uses ns k bs (diverge ty) = false
  uses ns k bs (truth b) = false
  uses ns k bs (number b) = false
  uses ns k bs (call id ws) = (eqb id k && is_name (meaning ns bs id)) || some_uses ns k bs ws
  uses ns k bs (fetch v) = uses ns k bs v
  uses ns k bs (operate op x y) = uses ns k bs x || uses ns k bs y
  uses ns k bs (assign x y) = uses ns k bs x || uses ns k bs y
  uses ns k bs (sequence x y) = uses ns k bs x || uses ns k bs y
  uses ns k bs (choose b x y) = uses ns k bs b || (uses ns k bs x || uses ns k bs y)
  uses ns k bs (while x y) = uses ns k bs x || uses ns k bs y
  uses ns k bs (new id d c) = uses ns k (a_block id d ∷ bs) c
  uses ns k bs (procedure id ty ps x y) = uses ns k (inside ps bs) x || uses ns k (after id ty ps bs) y

  pub some_uses : List Name → ℕ → List Binder → Writtens → Bool
  some_uses ns k bs none = false
  some_uses ns k bs (more w ws) = uses ns k bs w || some_uses ns k bs ws

-- whether a record declares a name, and whether the routine uses it: a retired one is never used
unfoldable pub is_declared : Name → Bool
is_declared (declare often id ty tys) = true
is_declared (retire id) = false

unfoldable pub is_used : Sheet → Name → Bool
is_used S (declare often id ty tys) = uses S.names id [] S.term
is_used S (retire id) = false

-- a bit: 1 where something holds
unfoldable pub bit : Bool → ℕ
bit true = 1
bit false = 0

-- a bit for each record, the first lowest, set where the record is one of these
unfoldable pub bits : (Name → Bool) → List Name → ℕ
bits f [] = 0
bits f (n ∷ ns) = bit (f n) + 2 * bits f ns

-- how many records are among these
unfoldable pub count : (Name → Bool) → List Name → ℕ
count f [] = 0
count f (n ∷ ns) = bit (f n) + count f ns

-- "or 32": how many bits a mark has
abbrev pub mark_bits : ℕ
mark_bits = 32

-- the number of the first record among these, or that of no record; the records begin with number i
unfoldable pub first_from : ℕ → (Name → Bool) → List Name → ℕ
first_from i f [] = mark_bits
first_from i f (n ∷ ns) = pick (f n) i (first_from (suc i) f ns)

-- "a 32-bit mark"
unfoldable pub mark_of : Sheet → ℕ
mark_of S = bits (is_used S) S.names

-- "how many bits are set"
unfoldable pub used_of : Sheet → ℕ
used_of S = count (is_used S) S.names

-- "the first declared record without one, by its bit's number from 0, or 32"
unfoldable pub unused_of : Sheet → ℕ
unused_of S = first_from 0 (λ n. is_declared n && not (is_used S n)) S.names

-- "records of kinds 1 and 3"
unfoldable pub declared_in : Sheet → ℕ
declared_in S = count is_declared S.names

-- a use of an id somewhere in a term, and the binders that enclose it there; those around the term come first
mutual
  pub data UseIn : List Binder → Written → List Binder → ℕ → Type 0 where
    here : {bs : List Binder} {id : ℕ} {ws : Writtens} → UseIn bs (call id ws) bs id
    in_argument : {bs cs : List Binder} {id k : ℕ} {ws : Writtens} → UseAmong bs ws cs k → UseIn bs (call id ws) cs k
    in-fetch : {bs cs : List Binder} {k : ℕ} {v : Written} → UseIn bs v cs k → UseIn bs (fetch v) cs k
    in_left : {bs cs : List Binder} {op k : ℕ} {x y : Written} → UseIn bs x cs k → UseIn bs (operate op x y) cs k
    in_right : {bs cs : List Binder} {op k : ℕ} {x y : Written} → UseIn bs y cs k → UseIn bs (operate op x y) cs k
    in_target : {bs cs : List Binder} {k : ℕ} {x y : Written} → UseIn bs x cs k → UseIn bs (assign x y) cs k
    in_value : {bs cs : List Binder} {k : ℕ} {x y : Written} → UseIn bs y cs k → UseIn bs (assign x y) cs k
    in_first : {bs cs : List Binder} {k : ℕ} {x y : Written} → UseIn bs x cs k → UseIn bs (sequence x y) cs k
    in_second : {bs cs : List Binder} {k : ℕ} {x y : Written} → UseIn bs y cs k → UseIn bs (sequence x y) cs k
    in_test : {bs cs : List Binder} {k : ℕ} {b x y : Written} → UseIn bs b cs k → UseIn bs (choose b x y) cs k
    in_then : {bs cs : List Binder} {k : ℕ} {b x y : Written} → UseIn bs x cs k → UseIn bs (choose b x y) cs k
    in_else : {bs cs : List Binder} {k : ℕ} {b x y : Written} → UseIn bs y cs k → UseIn bs (choose b x y) cs k
    in_guard : {bs cs : List Binder} {k : ℕ} {x y : Written} → UseIn bs x cs k → UseIn bs (while x y) cs k
    in_loop : {bs cs : List Binder} {k : ℕ} {x y : Written} → UseIn bs y cs k → UseIn bs (while x y) cs k
    in_block : {bs cs : List Binder} {id d k : ℕ} {c : Written} → UseIn (a_block id d ∷ bs) c cs k →
        UseIn bs (new id d c) cs k
    in_procedure : {bs cs : List Binder} {id ty k : ℕ} {ps : List Parameter} {x y : Written} →
        UseIn (inside ps bs) x cs k → UseIn bs (procedure id ty ps x y) cs k
    in_scope : {bs cs : List Binder} {id ty k : ℕ} {ps : List Parameter} {x y : Written} →
        UseIn (after id ty ps bs) y cs k → UseIn bs (procedure id ty ps x y) cs k

  pub data UseAmong : List Binder → Writtens → List Binder → ℕ → Type 0 where
    among_first : {bs cs : List Binder} {k : ℕ} {w : Written} {ws : Writtens} → UseIn bs w cs k →
        UseAmong bs (more w ws) cs k
    among_rest : {bs cs : List Binder} {k : ℕ} {w : Written} {ws : Writtens} → UseAmong bs ws cs k →
        UseAmong bs (more w ws) cs k

-- some use in the sheet means the name with an id
pub record Touched (S : Sheet) (id : ℕ) : Type 0 where
  pub binders : List Binder
  pub found : UseIn [] S.term binders id
  pub often : Often
  pub type : ℕ
  pub types : List ℕ
  pub means : meaning S.names binders id ≡ named often type types

-- record i of a heading, counted from 0
unfoldable pub record_at : ℕ → List Name → Option Name
record_at i [] = nothing
record_at zero (n ∷ ns) = some n
record_at (suc i) (n ∷ ns) = record_at i ns

-- the record declares a name that some use in the sheet means
unfoldable pub UsedRecord : Sheet → Option Name → Type 0
UsedRecord S nothing = ⊥
UsedRecord S (some (declare often id ty tys)) = Touched S id
UsedRecord S (some (retire id)) = ⊥

-- the record declares a name
unfoldable pub DeclaredRecord : Option Name → Type 0
DeclaredRecord nothing = ⊥
DeclaredRecord (some (declare often id ty tys)) = Unit
DeclaredRecord (some (retire id)) = ⊥

-- bit i of the mark is not set, and record i declares a name
unfoldable pub Unset : Sheet → ℕ → Type 0
Unset S i = DeclaredRecord (record_at i S.names) × ((mark_of S / 2 ^ i) % 2 ≡ 0)

-- n is the first such bit, or none is below 32
pub record FirstUnset (S : Sheet) (n : ℕ) : Type 0 where
  pub first : (i : ℕ) → i < n → Unset S i → ⊥
  pub unset : (n ≡ mark_bits) ⊎ Unset S n

pub record MarkRule (S : Sheet) : Type 0 where
  -- "set exactly if some use in the sheet means that name": bit i of the mark
  pub set : (i : ℕ) → ((mark_of S / 2 ^ i) % 2 ≡ 1) ↔ UsedRecord S (record_at i S.names)
  -- "how many bits are set"
  pub counted : used_of S ≡ ones (mark_of S)
  -- "the first declared record without one, by its bit's number from 0, or 32"
  pub unused : FirstUnset S (unused_of S)
