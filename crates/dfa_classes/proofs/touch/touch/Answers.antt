-- `touch` brings a state to the touched ones of its class.
use native.Mathlib.Omega.{arith}
use Rattle.dfa_classes.proofs.laws.Touching.{class_low, listed-asks}
use Rattle.dfa_classes.proofs.laws.Touching.{touch-room}
use Rattle.dfa_classes.proofs.laws.Touching.{touched-asks, touched-more, touched-new}
use Rattle.dfa_classes.proofs.touch.touch.Goals as goal

pub touched-c-requires : goal.touched-c-requires
touched-c-requires c = let T = c.requires.touching in (
  class_low _ _ _ _ _ _ _ _ T _ _ c.requires.low c.at-d.ensures,
  touch-room
      _ _ _ _ _ _ _ _ T,
)

pub from-requires : goal.from-requires
from-requires c = let T = c.requires.touching in let z =
    T.packed.sized in (
      class_low _ _ _ _ _ _ _ _ T _ _ c.requires.low
          c.at-d.ensures,
      (z.few, omega arith),
    )

pub set_touched-requires : goal.set_touched-requires
set_touched-requires c =
    let asked = c.requires in
    let T =
    asked.touching
    in
    touched-asks _ _ _ _ _ _ _ _ T _ _ _ _ _
    asked.low
    asked.goes
    c.at-d.ensures
    c.touched-c.ensures (omega (
      arith,
      c.from.ensures,
    ))
    c.place-i.ensures
    c.if-i-first.false _ c.exchange.ensures

pub returns-then-c-gt0 : goal.returns-then-c-gt0
returns-then-c-gt0 c = λ G s own count T I. touched-more _ _ _ _ _ _ _ _ T _ _ _ _ _
    c.requires.low
    I
    c.at-d.ensures
    c.touched-c.ensures
    (omega (
      arith,
      c.from.ensures,
    ))
    c.place-i.ensures
    c.if-i-first.false _ _
    c.exchange.ensures
    c.set_touched.ensures c.if-c-gt0.true

pub set_listed-requires : goal.set_listed-requires
set_listed-requires c =
    let asked = c.requires in
    let T =
    asked.touching
    in
    listed-asks _ _ _ _ _ _ _ _ T _ _ _ _ _
    asked.low
    asked.goes
    c.at-d.ensures
    c.touched-c.ensures
    (omega (
      arith,
      c.from.ensures,
    ))
    c.place-i.ensures
    c.if-i-first.false
    (omega (arith, c.if-c-gt0.false)) _ _
    c.exchange.ensures
    c.set_touched.ensures

pub overflow_add-result : goal.overflow_add-result
overflow_add-result c =
    let asked = c.requires in
    let T =
    asked.touching
    in
    let r = listed-asks _ _ _ _ _ _ _ _ T _ _ _ _ _
    asked.low
    asked.goes
    c.at-d.ensures
    c.touched-c.ensures
    (omega (
      arith,
      c.from.ensures,
    ))
    c.place-i.ensures
    c.if-i-first.false
    (omega (arith, c.if-c-gt0.false)) _ _
    c.exchange.ensures
    c.set_touched.ensures in
    omega (arith, r.0, r.1.1.0)

pub returns : goal.returns
returns c = λ G s own count T I. touched-new _ _ _ _ _ _ _ _ T _ _ _ _ _
    c.requires.low
    I
    c.at-d.ensures
    c.touched-c.ensures
    (omega (
      arith,
      c.from.ensures,
    ))
    c.place-i.ensures
    c.if-i-first.false
    (omega (arith, c.if-c-gt0.false)) _ _ _
    c.exchange.ensures
    c.set_touched.ensures
    c.set_listed.ensures
