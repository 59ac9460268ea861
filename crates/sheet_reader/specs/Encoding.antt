-- The bytes of a sheet. Document 01, "The sheet, byte by byte", the table; document 02 [1] for procedures, [5] for
-- names that ask once. SHEETS 2.
use Rattle.std.specs.Prelude.{ℕ, zero, suc, List, [], ◌∷◌, ◌++◌, length}
use Rattle.language.specs.Term.{Often, freely, once}
use Rattle.sheet_written.specs.Written.{Written, skip, diverge, truth, number, call, fetch, operate, assign, sequence}
use Rattle.sheet_written.specs.Written.{while, choose, new, procedure, Parameter, Writtens, none, more, Name, declare}
use Rattle.sheet_written.specs.Written.{retire, Sheet}

-- the pairs of n parameters, unused ones 255 255
unfoldable pub pairs : ℕ → List Parameter → List ℕ
pairs zero ps = []
pairs (suc n) [] = 255 ∷ 255 ∷ pairs n []
pairs (suc n) (p ∷ ps) = p.id ∷ p.holds ∷ pairs n ps

unfoldable mutual
  pub encode : Written → List ℕ
  encode skip = 16 ∷ []
  encode (diverge ty) = 17 ∷ ty ∷ []
  encode (truth b) = 18 ∷ b ∷ []
  encode (number b) = 19 ∷ b ∷ []
  encode (call id ws) = 20 ∷ id ∷ encodes ws
  encode (fetch v) = 21 ∷ encode v
  encode (operate op l r) = 22 ∷ op ∷ (encode l ++ encode r)
  encode (assign v e) = 23 ∷ (encode v ++ encode e)
  encode (sequence c m) = 24 ∷ (encode c ++ encode m)
  encode (choose b m n) = 25 ∷ (encode b ++ (encode m ++ encode n))
  encode (while b c) = 26 ∷ (encode b ++ encode c)
  encode (new id d c) = 27 ∷ id ∷ d ∷ encode c
  encode (procedure id ty ps body rest) =
      28 ∷ id ∷ ty ∷ length ps ∷ (pairs 4 ps ++ (encode body ++ encode rest))

  pub encodes : Writtens → List ℕ
  encodes none = []
  encodes (more w ws) = encode w ++ encodes ws

-- the types of n arguments, unused ones 255
unfoldable pub padded : ℕ → List ℕ → List ℕ
padded zero tys = []
padded (suc n) [] = 255 ∷ padded n []
padded (suc n) (ty ∷ tys) = ty ∷ padded n tys

-- the kind of a declare record
unfoldable pub declare_kind : Often → ℕ
declare_kind freely = 1
declare_kind once = 3

unfoldable pub encode_name : Name → List ℕ
encode_name (declare often id ty tys) = declare_kind often ∷ id ∷ ty ∷ length tys ∷ padded 4 tys
encode_name (retire id) = 2 ∷ id ∷ []

unfoldable pub encode_names : List Name → List ℕ
encode_names [] = []
encode_names (n ∷ ns) = encode_name n ++ encode_names ns

unfoldable pub encode_sheet : Sheet → List ℕ
encode_sheet S = S.numbers.z ∷ S.numbers.rule ∷ (encode_names S.names ++ encode S.term)
