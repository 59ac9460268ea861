-- The widths of records are the lengths of their bytes.
use Prim.Native.Nat.{◌+◌, ◌<◌}
use native.Mathlib.Omega.{arith}
use mathlib.Core.Path.{◌≡◌, refl}
use mathlib.Core.List.{List, [], ◌∷◌, ◌++◌}
use lib.ListN.{length, length-append}
use Rattle.sheet_written.specs.Written.{Written, skip, diverge, truth, number, call, fetch, operate, assign, sequence}
use Rattle.sheet_written.specs.Written.{while, choose, new, procedure, Writtens, none, more, Name, declare}
use Rattle.sheet_written.specs.Written.{retire, Sheet}
use Rattle.sheet_written.specs.Width.{width, widths, name_width, names_width, heading_width}
use Rattle.sheet_reader.specs.Encoding.{pairs, encode, encodes, encode_name, encode_names}
use Rattle.sheet_reader.proofs.Padding.{padded-length}
use Rattle.sheet_reader.proofs.Pairs.{pairs-length}

mutual
  unfolding encode encodes width widths

  pub wide : (W : Written) → length (encode W) ≡ width W
  wide skip = refl
  wide (diverge ty) = refl
  wide (truth b) = refl
  wide (number b) = refl
  wide (call id ws) = omega (arith, wides ws)
  wide (fetch v) = omega (arith, wide v)
  wide (operate op x y) = omega (arith, length-append (encode x) (encode y), wide x, wide y)
  wide (assign x y) = omega (arith, length-append (encode x) (encode y), wide x, wide y)
  wide (sequence x y) = omega (arith, length-append (encode x) (encode y), wide x, wide y)
  wide (choose b x y) =
      omega (
        arith,
        length-append (encode b) (encode x ++ encode y),
        length-append (encode x) (encode y),
        wide b,
        wide x,
        wide y,
      )
  wide (while x y) = omega (arith, length-append (encode x) (encode y), wide x, wide y)
  wide (new id d c) = omega (arith, wide c)
  wide (procedure id ty ps x y) =
      omega (
        arith,
        length-append (pairs 4 ps) (encode x ++ encode y),
        pairs-length 4 ps,
        length-append (encode x) (encode y),
        wide x,
        wide y,
      )

  pub wides : (ws : Writtens) → length (encodes ws) ≡ widths ws
  wides none = refl
  wides (more w ws) = omega (arith, length-append (encode w) (encodes ws), wide w, wides ws)

pub width_some : (W : Written) → 0 < width W
unfolding width
width_some skip = omega arith
width_some (diverge ty) = omega arith
width_some (truth b) = omega arith
width_some (number b) = omega arith
width_some (call id ws) = omega arith
width_some (fetch v) = omega arith
width_some (operate op x y) = omega arith
width_some (assign x y) = omega arith
width_some (sequence x y) = omega arith
width_some (choose b x y) = omega arith
width_some (while x y) = omega arith
width_some (new id d c) = omega arith
width_some (procedure id ty ps x y) = omega arith

pub wide-name : (n : Name) → length (encode_name n) ≡ name_width n
unfolding encode_name name_width
wide-name (declare often id ty tys) = omega (arith, padded-length 4 tys)
wide-name (retire id) = refl

wide-names : (ns : List Name) → length (encode_names ns) ≡ names_width ns
unfolding encode_names names_width
wide-names [] = refl
wide-names (n ∷ ns) = omega (arith, length-append (encode_name n) (encode_names ns), wide-name n, wide-names ns)

pub wide-heading : (S : Sheet) → 2 + length (encode_names S.names) ≡ heading_width S
unfolding heading_width
wide-heading S = omega (arith, wide-names S.names)
