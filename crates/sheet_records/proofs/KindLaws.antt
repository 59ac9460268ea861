-- What the kind byte of a part gives, by its rule.
use Prim.Native.Nat.{ℕ}
use native.Mathlib.Omega.{arith}
use mathlib.Core.Path.{◌≡◌, refl, ◌∙◌}
use mathlib.Core.Bool.{Bool, true, false}
use lib.Dec.{eqb}
use borrow.Author.Tests.{eqb-true}
use Rattle.language.specs.Choice.{pick}
use Rattle.sheet_records.specs.Kind.{bytes_of, shape_of}
use Rattle.sheet_records.specs.declared.kind.Rule.{Rule}
use Rattle.sheet_records.specs.declared.kind.Rule.TheVariants.{Skip, Diverge, Truth, Number, Use, Fetch}
use Rattle.sheet_records.specs.declared.kind.Rule.TheVariants.{Operate, Assign, Sequence, If, While, New, Procedure}
use Rattle.sheet_records.specs.declared.kind.Shape.{Shape}
use Rattle.sheet_records.specs.declared.kind.Shape.TheVariants.{Part, Declare, Retire, Unknown}

-- the kind of the parts with a rule
abbrev pub kind_of : Rule → ℕ
kind_of Skip = 16
kind_of Diverge = 17
kind_of Truth = 18
kind_of Number = 19
kind_of Use = 20
kind_of Fetch = 21
kind_of Operate = 22
kind_of Assign = 23
kind_of Sequence = 24
kind_of If = 25
kind_of While = 26
kind_of New = 27
kind_of Procedure = 28

-- how many parts they have, a use's not counted
abbrev pub parts_of : Rule → ℕ
parts_of Skip = 0
parts_of Diverge = 0
parts_of Truth = 0
parts_of Number = 0
parts_of Use = 0
parts_of Fetch = 1
parts_of Operate = 2
parts_of Assign = 2
parts_of Sequence = 2
parts_of If = 3
parts_of While = 2
parts_of New = 1
parts_of Procedure = 2

-- a part's shape names its kind
pub shape-of-kind : (R : Rule) → shape_of (kind_of R) ≡ Part (bytes_of R) (parts_of R) R
unfolding shape_of
shape-of-kind Skip = refl
shape-of-kind Diverge = refl
shape-of-kind Truth = refl
shape-of-kind Number = refl
shape-of-kind Use = refl
shape-of-kind Fetch = refl
shape-of-kind Operate = refl
shape-of-kind Assign = refl
shape-of-kind Sequence = refl
shape-of-kind If = refl
shape-of-kind While = refl
shape-of-kind New = refl
shape-of-kind Procedure = refl

-- the kind, the length of the body and the number of parts of a shape
abbrev pub Fits : ℕ → ℕ → ℕ → Rule → Type 0
Fits k body parts R = (k ≡ kind_of R) × (body ≡ bytes_of R) × (parts ≡ parts_of R)

module _ (k body parts : ℕ) (R : Rule) where
  -- one test of the kind
  try : (n : ℕ) {x y : Shape} → (x ≡ Part body parts R → Fits n body parts R) →
      (y ≡ Part body parts R → Fits k body parts R) → pick (eqb k n) x y ≡ Part body parts R → Fits k body parts R
  try n {x} {y} f g h = go (eqb k n) refl h
    where
      go : (t : Bool) → eqb k n ≡ t → pick t x y ≡ Part body parts R → Fits k body parts R
      go true e h = let q = f h in (eqb-true k n e ∙ q.0, q.1, q.2)
      go false e h = g h

  part : (n a b : ℕ) (Q : Rule) → Fits n a b Q → Part a b Q ≡ Part body parts R → Fits n body parts R
  part n a b Q f h =
      let e : a ≡ body = cc in
      let e₁ : b ≡ parts = cc in
      let e₂ : Q ≡ R = cc in
      rw (e, e₁, e₂) at f

  pub shape-known : shape_of k ≡ Part body parts R → Fits k body parts R
  unfolding shape_of
  shape-known =
      try 1 (none 0) (try 2 none' (try 3 (none 1)
      (try 16 (part 16 0 0 Skip (refl, refl, refl))
      (try 17 (part 17 1 0 Diverge (refl, refl, refl))
      (try 18 (part 18 1 0 Truth (refl, refl, refl))
      (try 19 (part 19 1 0 Number (refl, refl, refl))
      (try 20 (part 20 1 0 Use (refl, refl, refl))
      (try 21 (part 21 0 1 Fetch (refl, refl, refl))
      (try 22 (part 22 1 2 Operate (refl, refl, refl))
      (try 23 (part 23 0 2 Assign (refl, refl, refl))
      (try 24 (part 24 0 2 Sequence (refl, refl, refl))
      (try 25 (part 25 0 3 If (refl, refl, refl))
      (try 26 (part 26 0 2 While (refl, refl, refl))
      (try 27 (part 27 2 1 New (refl, refl, refl))
      (try 28 (part 28 11 2 Procedure (refl, refl, refl)) none'')))))))))))))))
    where
      none : {P : Type 0} (once : ℕ) → Declare 7 once ≡ Part body parts R → P
      none once h = let z : ◌≡◌ {A = ℕ} 0 1 = cc in absurd (omega arith)

      none' : {P : Type 0} → Retire 1 ≡ Part body parts R → P
      none' h = let z : ◌≡◌ {A = ℕ} 0 1 = cc in absurd (omega arith)

      none'' : {P : Type 0} → Unknown ≡ Part body parts R → P
      none'' h = let z : ◌≡◌ {A = ℕ} 0 1 = cc in absurd (omega arith)
