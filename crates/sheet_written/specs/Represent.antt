-- When a row is right for a term as written, document 02 [1]: whatever stands for the binders around it, and on
-- whatever path of blocks, it represents the let-free term. A row is made once; where it is shared, both vary.
use Rattle.std.specs.Prelude.{ℕ, suc, ◌-◌, ◌<◌, ◌≡◌, List, ◌∷◌, length}
use Rattle.std.proofs.Math.Option.{Option}
use Rattle.language.specs.Term.{Term}
use Rattle.language.specs.Typing.{Scope}
use Rattle.language.specs.declared.Numbers.{Numbers}
use Rattle.sheet_written.specs.Written.{Written, Name}
use Rattle.sheet_written.specs.Meaning.{inside, Terms, with_passed, resolve}
use Rattle.sheet_written.specs.Form.{form_of}
use Rattle.sheet_written.specs.Occurs.{Each}
use Rattle.sheet_written.specs.Context.{Context, whole, in_block, in_procedure, in_scope, binders, forms}
use Rattle.sheet_written.specs.Shared.{Row, Rep, Any}
use Rattle.sheet_written.specs.Expand.{Slots}

-- the path q is p with blocks inside it, or p itself
pub data Deeper (p : List ℕ) : List ℕ → Type 0 where
  as_deep : Deeper p p
  deeper : {q : List ℕ} {r : ℕ} → Deeper p q → Deeper p (r ∷ q)

-- the block at level l of the path p has the row r
pub record Held (p : List ℕ) (l r : ℕ) : Type 0 where
  pub within : l < length p
  pub index : Scope p (length p - suc l) r

-- the same stands for the binders with numbers below k
pub record Agree (k : ℕ) (ρ σ : Terms) : Type 0 where
  pub levels : (j : ℕ) → j < k → σ.level j ≡ ρ.level j
  pub passeds : (j : ℕ) → j < k → σ.passed j ≡ ρ.passed j
  pub bodies : (j : ℕ) → j < k → σ.body j ≡ ρ.body j

-- on the path p, ρ is what stands for the news and procedures of Γ: the rows of the news are on the path, and
-- procedures are resolved where they stand
unfoldable pub Stands : Numbers → List Name → Context → Slots → Terms → List ℕ → Type 0
Stands N ns whole ε ρ p = Unit
Stands N ns (in_block id d Γ) ε ρ p =
    Held p (ρ.level (length (binders Γ))) (ε.block (length (binders Γ))) × Stands N ns Γ ε ρ p
Stands N ns (in_procedure ps Γ) ε ρ p = Stands N ns Γ ε ρ p
Stands N ns (in_scope id ty ps body Γ) ε ρ p =
    let k : ℕ = length (binders Γ) in
    (σ : Terms) × Agree k σ ρ
    × ((xs : ℕ → ℕ → Term) (l : ℕ) → ρ.body k xs l ≡ resolve N ns (inside ps (binders Γ)) (with_passed k xs σ) l body)
    × Stands N ns Γ ε σ p

-- the row of a parameter represents its argument on every deeper path
abbrev pub Given : (ℕ → Option Row) → Slots → Terms → List ℕ → ℕ → Type 0
Given R ε ρ p s = (q : List ℕ) → Deeper p q → Rep R Any q (ε.passed s) (ρ.passed s (length q))

unfoldable pub Represents : Numbers → List Name → (ℕ → Option Row) → Context → Slots → Written → ℕ → Type 0
Represents N ns R Γ ε W r =
    (ρ : Terms) (p : List ℕ) → Stands N ns Γ ε ρ p →
    Each (binders Γ) (form_of N ns (binders Γ) (forms N ns Γ) W) (Given R ε ρ p) →
    Rep R Any p r (resolve N ns (binders Γ) ρ (length p) W)
