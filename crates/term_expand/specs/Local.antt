-- What holds of each row that an expansion makes: its type is that of the part that it is made for, and its weight is
-- reckoned from the weights of its parts' rows. Document 02 [1]; only inner contracts cite it.
use Rattle.std.specs.Prelude.{ℕ, min, ◌≡◌, List, length}
use Rattle.language.specs.Number.{code, from_byte}
use Rattle.language.specs.Typing.{operands}
use Rattle.language.specs.declared.Numbers.{Numbers}
use Rattle.sheet_records.specs.Limits.{held_at}
use Rattle.sheet_parts.specs.Rule.{values}
use Rattle.sheet_rows.specs.Row.{class_of, word}
use Rattle.sheet_written.specs.Written.{Written, skip, diverge, truth, number, call, fetch, operate, assign, sequence}
use Rattle.sheet_written.specs.Written.{while, choose, new, Parameter, Writtens, Name}
use Rattle.sheet_written.specs.Meaning.{typed, ty_of}
use Rattle.sheet_written.specs.Context.{Context, binders}
use Rattle.sheet_written.specs.Shared as s
use Rattle.sheet_written.specs.Shared.{Parts, Row}
use Rattle.sheet_written.specs.Expand.{Slots, operation, Expands, of_slot, of_scope, of_use, of_skip, of_diverge, of_truth}
use Rattle.sheet_written.specs.Expand.{of_number, of_private, of_name, of_fetch, of_operate, of_assign, of_sequence}
use Rattle.sheet_written.specs.Expand.{of_choose, of_while, of_new, ExpandsArgs, no_args, one_arg, Passes, no_more}
use Rattle.sheet_written.specs.Expand.{one_used, one_unused}
use Rattle.sheet_rows.specs.PartKind.{CLASS, VALUES, DETAIL, WEIGHT}
use Rattle.sheet_written.specs.Table.{name_detail}
use Rattle.term_closing.specs.Rows.{decode, row_weight}

module _ (N : Numbers) (ns : List Name) (t : List ℕ) where
  -- the row n, which is x, is made for the part W in Γ
  pub record Right (Γ : Context) (W : Written) (n : ℕ) (x : Row) : Type 0 where
    pub classed : word t n CLASS ≡ class_of (typed ns (binders Γ) W)
    pub valued : word t n VALUES ≡ values N (typed ns (binders Γ) W)
    pub weighed : word t n WEIGHT ≡ min (row_weight (λ a. word t a WEIGHT) x) held_at

  -- all rows that an expansion makes are right
  unfoldable mutual
    pub Local : {Γ : Context} {ε : Slots} {W : Written} {n r m : ℕ} → Expands N ns (decode N ns t) Γ ε W n r m → Type 0
    Local (of_slot e h) = Unit
    Local (of_scope x) = Local x
    Local (of_use e s x y) = LocalPasses x × Local y
    Local (of_skip {Γ = Γ} {n = n} h) = Right Γ skip n s.skip
    Local (of_diverge {Γ = Γ} {n = n} {ty = ty} h) = Right Γ (diverge ty) n s.diverge
    Local (of_truth {Γ = Γ} {n = n} {b = b} h) = Right Γ (truth b) n (s.const b)
    Local (of_number {Γ = Γ} {n = n} {b = b} h) = Right Γ (number b) n (s.const (code N (from_byte b)))
    Local (of_private {Γ = Γ} {ε = ε} {n = n} {id = id} {k = k} {ws = ws} e h) =
        Right Γ (call id ws) n (s.private (ε.block k))
    Local (of_name {Γ = Γ} {n = n} {id = id} {ty = ty} {often = often} {tys = tys} {ws = ws} {xs = xs} e x h) =
        Right Γ (call id ws) n (s.name id often (ty_of N ty) xs) × (word t n DETAIL ≡ name_detail id (length tys) often)
        × LocalArgs x
    Local (of_fetch {Γ = Γ} {n = n} {a = a} {x = v} x h) = Right Γ (fetch v) n (s.fetch a) × Local x
    Local (of_operate {Γ = Γ} {n = n} {a = a} {b = b} {op = op} {x = v} {y = z} x y h) =
        Right Γ (operate op v z) n (s.operate (operands (operation N op)) (operation N op) a b) × Local x × Local y
    Local (of_assign {Γ = Γ} {n = n} {a = a} {b = b} {x = v} {y = z} x y h) =
        Right Γ (assign v z) n (s.assign (values N (typed ns (binders Γ) v)) a b) × Local x × Local y
    Local (of_sequence {Γ = Γ} {n = n} {a = a} {b = b} {x = v} {y = z} x y h) =
        Right Γ (sequence v z) n (s.seq a b) × Local x × Local y
    Local (of_choose {Γ = Γ} {n = n} {a = a} {b = b} {c = c} {q = q} {x = v} {y = z} w x y h) =
        Right Γ (choose q v z) n (s.cond a b c) × Local w × Local x × Local y
    Local (of_while {Γ = Γ} {n = n} {a = a} {b = b} {x = v} {y = z} x y h) =
        Right Γ (while v z) n (s.while a b) × Local x × Local y
    Local (of_new {Γ = Γ} {n = n} {a = a} {id = id} {d = d} {x = v} x h) =
        Right Γ (new id d v) n (s.new (values N d) a) × Local x

    -- those that arguments of a declared name make
    pub LocalArgs : {Γ : Context} {ε : Slots} {ws : Writtens} {tys : List ℕ} {n m : ℕ} {xs : Parts} →
        ExpandsArgs N ns (decode N ns t) Γ ε ws tys n xs m → Type 0
    LocalArgs no_args = Unit
    LocalArgs (one_arg e x y) = Local x × LocalArgs y

    -- those that arguments of a procedure make
    pub LocalPasses : {Γ : Context} {ε : Slots} {used rows : ℕ → ℕ} {j : ℕ} {ps : List Parameter} {ws : Writtens}
        {n m : ℕ} →
        Passes N ns (decode N ns t) Γ ε used rows j ps ws n m → Type 0
    LocalPasses no_more = Unit
    LocalPasses (one_used u x y) = Local x × LocalPasses y
    LocalPasses (one_unused u y) = LocalPasses y
