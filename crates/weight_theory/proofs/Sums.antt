-- Forms that are the same, otherwise added up.
use Prim.Native.Nat.{ℕ}
use native.Mathlib.Omega.{arith}
use mathlib.Core.Path.{◌≡◌, refl}
use Rattle.sheet_written.specs.Form.{Form, only, plus, times}
use Rattle.sheet_written.specs.Held.{SameForm}

pub same-itself : (f : Form) → SameForm f f
same-itself f = record { constants = refl; coefficients = λ s. refl }

pub same-path : (f g : Form) → f ≡ g → SameForm f g
same-path f g e = rw e (same-itself g)

pub first-times : (c : ℕ) (f : Form) → SameForm (plus (plus (only 0) (times c f)) (only 0)) (times c f)
unfolding plus times only
first-times c f = record { constants = omega arith; coefficients = λ s. omega arith }

pub first-once : (f : Form) → SameForm (plus (plus (only 0) (times 1 f)) (only 0)) f
unfolding plus times only
first-once f = record { constants = omega arith; coefficients = λ s. omega arith }

pub then-times : (g : Form) (c : ℕ) (f : Form) → SameForm (plus (plus g (times c f)) (only 0)) (plus g (times c f))
unfolding plus times only
then-times g c f = record { constants = omega arith; coefficients = λ s. omega arith }

pub then-once : (g f : Form) → SameForm (plus (plus g (times 1 f)) (only 0)) (plus g f)
unfolding plus times only
then-once g f = record { constants = omega arith; coefficients = λ s. omega arith }

pub once-before : (g f : Form) → SameForm (plus (plus g (times 1 f)) (only 0)) (plus f g)
unfolding plus times only
once-before g f = record { constants = omega arith; coefficients = λ s. omega arith }

pub third-once : (b x y : Form) → SameForm (plus (plus (plus b x) (times 1 y)) (only 0)) (plus b (plus x y))
unfolding plus times only
third-once b x y = record { constants = omega arith; coefficients = λ s. omega arith }

-- an argument more, and those after it
pub argument-first : (g : Form) (q a : ℕ) (f rest h : Form) →
    SameForm (plus g (plus (plus (times q f) (only a)) rest)) h →
    SameForm (plus (plus (plus g (times q f)) (only a)) rest) h
unfolding plus times only
argument-first g q a f rest h p = record {
  constants = omega (arith, p.constants);
  coefficients = λ s. omega (arith, p.coefficients s);
}

pub no-argument : (g h : Form) → SameForm (plus g (only 0)) h → SameForm g h
unfolding plus only
no-argument g h p = record {
  constants = omega (arith, p.constants);
  coefficients = λ s. omega (arith, p.coefficients s);
}
