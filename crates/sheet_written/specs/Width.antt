-- How many bytes a sheet's records have: document 01, "Each record is one byte of kind and a body whose length the kind
-- fixes"; document 02 [1] for procedures, whose body is "id, result type, count of parameters 0 to 4, and four pairs".
use Rattle.std.specs.Prelude.{ℕ, ◌+◌, List, [], ◌∷◌}
use Rattle.sheet_records.specs.Kind.{declare_body, retire_body, record_width}
use Rattle.sheet_records.specs.declared.kind.Rule.TheVariants.{Skip, Diverge, Truth, Number, Use, Fetch, Operate, Assign}
use Rattle.sheet_records.specs.declared.kind.Rule.TheVariants.{Sequence, If, While, New, Procedure}
use Rattle.sheet_written.specs.Written.{Written, skip, diverge, truth, number, call, fetch, operate, assign}
use Rattle.sheet_written.specs.Written.{sequence, while, choose, new, procedure, Writtens, none, more}
use Rattle.sheet_written.specs.Written.{Name, declare, retire, Sheet}

-- a term with all its parts
unfoldable mutual
  pub width : Written → ℕ
  width skip = record_width Skip
  width (diverge ty) = record_width Diverge
  width (truth b) = record_width Truth
  width (number b) = record_width Number
  width (call id ws) = record_width Use + widths ws
  width (fetch v) = record_width Fetch + width v
  width (operate op x y) = record_width Operate + (width x + width y)
  width (assign x y) = record_width Assign + (width x + width y)
  width (sequence x y) = record_width Sequence + (width x + width y)
  width (choose b x y) = record_width If + (width b + (width x + width y))
  width (while x y) = record_width While + (width x + width y)
  width (new id d c) = record_width New + width c
  width (procedure id ty ps x y) = record_width Procedure + (width x + width y)

  pub widths : Writtens → ℕ
  widths none = 0
  widths (more w ws) = width w + widths ws

unfoldable pub name_width : Name → ℕ
name_width (declare often id ty tys) = 1 + declare_body
name_width (retire id) = 1 + retire_body

unfoldable pub names_width : List Name → ℕ
names_width [] = 0
names_width (n ∷ ns) = name_width n + names_width ns

-- "All bytes up to the term are the heading": Z, the overflow rule and the name records
unfoldable pub heading_width : Sheet → ℕ
heading_width S = 2 + names_width S.names
