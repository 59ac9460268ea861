-- That a question or an answer fits is a proposition: it has at most one proof.
use mathlib.Core.Path.{◌≡◌, refl, ap}
use mathlib.Core.List.{List, [], ◌∷◌}
use Prim.Native.Nat.{ℕ, zero, suc}
use native.Mathlib.Bridge.{le_prop}
use Rattle.language.specs.Ty.{Ty, Question, Answer, Fits, fits_run, fits_ask, fits_read, fits_write}
use Rattle.language.specs.Ty.{Answers, to_run, to_ask, to_read, to_write}
use Rattle.states_machine.specs.Action.{Heard, asked, answered, opened, Listen, calling, opening, FitsAt, Hears}

pub Fits-prop : {T : Ty} {q : Question} (x y : Fits T q) → x ≡ y
Fits-prop fits_run fits_run = refl
Fits-prop fits_ask fits_ask = refl
Fits-prop fits_read fits_read = refl
Fits-prop (fits_write h) (fits_write k) = ap fits_write (le_prop h k)

pub Answers-prop : {T : Ty} {q : Question} {a : Answer} (x y : Answers T q a) → x ≡ y
Answers-prop to_run to_run = refl
Answers-prop (to_ask h) (to_ask k) = ap to_ask (le_prop h k)
Answers-prop (to_read h) (to_read k) = ap to_read (le_prop h k)
Answers-prop (to_write h) (to_write k) = ap to_write (le_prop h k)

pub FitsAt-prop : (Ts : List Ty) (j : ℕ) (q : Question) (x y : FitsAt Ts j q) → x ≡ y
unfolding FitsAt
FitsAt-prop [] j q x y = absurd x
FitsAt-prop (T ∷ Ts) zero q x y = Fits-prop x y
FitsAt-prop (T ∷ Ts) (suc j) q x y = FitsAt-prop Ts j q x y

pub Hears-prop : (l : Listen) (r : Heard) (x y : Hears l r) → x ≡ y
unfolding Hears
Hears-prop (calling i Ts T p) (asked j q) x y = FitsAt-prop Ts j q x y
Hears-prop (calling i Ts T p) (answered a) x y = Answers-prop x y
Hears-prop (calling i Ts T p) (opened q) x y = absurd x
Hears-prop (opening i T) (asked j q) x y = absurd x
Hears-prop (opening i T) (answered a) x y = absurd x
Hears-prop (opening i T) (opened q) x y = Fits-prop x y
