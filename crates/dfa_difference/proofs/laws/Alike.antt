-- Whether two states both accept, or neither. Assumes nothing.
use mathlib.Core.Bool.{Bool, beq, false, true}
use mathlib.Core.Logic.{◌≢◌}
use mathlib.Core.Path.{◌≡◌, ap, refl, sym}
use Prim.Native.Nat.{ℕ}
use native.Mathlib.Omega.{arith}

pub beq-yes : (a b : Bool) → beq a b ≡ true → a ≡ b
beq-yes true true h = refl
beq-yes true false h = sym h
beq-yes false true h = h
beq-yes false false h = refl

abbrev num : Bool → ℕ
num true = 1
num false = 0

pub beq-no : (a b : Bool) → beq a b ≡ false → a ≢ b
beq-no true true h k = let z : ◌≡◌ {A = ℕ} (num true) (num false) = ap num h in omega arith
beq-no true false h k = let z : ◌≡◌ {A = ℕ} (num true) (num false) = ap num k in omega arith
beq-no false true h k = let z : ◌≡◌ {A = ℕ} (num true) (num false) = ap num (sym k) in omega arith
beq-no false false h k = let z : ◌≡◌ {A = ℕ} (num true) (num false) = ap num h in omega arith
