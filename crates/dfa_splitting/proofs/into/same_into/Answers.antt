-- `same_into` goes through the edges into the class side by side.
use mathlib.Core.Path.{◌∙◌, ◌≡◌, sym}
use native.Mathlib.Omega.{arith}
use mathlib.Core.Bool.{Bool, false, not, true}
use Prim.Native.Nat.{◌<◌, ◌≤◌, ℕ}
use Rattle.std.specs.Prelude.{None, Option, Some}
use Rattle.std.specs.Option.{MatchOption, is_some, unwrap_or}
use Rattle.dfa_splitting.proofs.laws.Into.{at-end, left-letter, left-room, loop-again as again}
use Rattle.dfa_splitting.proofs.laws.Into.{more_left, other-letter, right-letter, right-room, skip-next-left}
use Rattle.dfa_splitting.proofs.laws.Into.{skip-next-right, skip-p, skip-q, started}
use Rattle.dfa_splitting.proofs.into.same_into.Goals as goal

pub loop-i-init : goal.loop-i-init
loop-i-init c =
    let e = c.first_edge.ensures in
    let ee = c.first_edge-ie.ensures in
    let f = c.first_edge-2.ensures in
    let fe = c.first_edge-je.ensures in
    record {
      low = (c.next_into-i.ensures _ _ (skip-p _ _ _ _ _ _ _ c.requires.1.1 _ _ e ee)).low;
      low_other = (c.next_into-j.ensures _ _ (skip-q _ _ _ _ _ _ _ c.requires.1.1 _ _ f fe)).low;
      looped = λ G g C. started _ _ _ _ _ _ _ C _ _ _ _ _ _ e ee f fe
          (c.next_into-i.ensures _ _ (skip-p _ _ _ _ _ _ _ C _ _ e ee)).skipped
          (c.next_into-j.ensures _ _ (skip-q _ _ _ _ _ _ _ C _ _ f fe)).skipped;
    }

pub returns-in_default-j : goal.returns-in_default-j
returns-in_default-j c = λ G g C.
    let I = rw (c.in-Some.is, c.in_default-j.is) at (c.loop-i.invariant.looped G g C) in
    more_left _ _ _ _ C.some C.dead _ _ _ _ _ _ I (rw c.in-Some.is at c.loop-i.invariant.low) (omega arith)

pub edge_letter-requires : goal.edge_letter-requires
edge_letter-requires c =
    let I = rw (c.in-Some.is, c.in-Some-j.is) at (c.loop-i.invariant.looped _ _ c.requires.1.1) in
    left-room _ _ _ _ _ _ _ c.requires.1.1 _ _ _ _ I (rw c.in-Some.is at c.loop-i.invariant.low)

pub edge_letter-requires-in-Some : goal.edge_letter-requires-in-Some
edge_letter-requires-in-Some c =
    let I = rw (c.in-Some.is, c.in-Some-j.is) at (c.loop-i.invariant.looped _ _ c.requires.1.1) in
    right-room _ _ _ _ _ _ _ c.requires.1.1 _ _ _ _ I (rw c.in-Some-j.is at c.loop-i.invariant.low_other)

pub returns-then-edge_letter : goal.returns-then-edge_letter
returns-then-edge_letter c = λ G g C.
    let I = rw (c.in-Some.is, c.in-Some-j.is) at (c.loop-i.invariant.looped G g C) in
    let h = rw c.in-Some.is at c.loop-i.invariant.low in
    let k = rw c.in-Some-j.is at c.loop-i.invariant.low_other in
    other-letter _ _ _ _ C.some C.dead _ _ _ _ _ _ I h k
    (λ q. c.if-edge_letter.true (left-letter _ _ _ _ _ _ _ C _ _ _ _ I h _ c.edge_letter.ensures ∙ q
    ∙ sym (right-letter _ _ _ _ _ _ _ C _ _ _ _ I k _ c.edge_letter-in-Some.ensures)))

pub next_into-i-requires-in-Some : goal.next_into-i-requires-in-Some
next_into-i-requires-in-Some c =
    let I = rw (c.in-Some.is, c.in-Some-j.is) at (c.loop-i.invariant.looped _ _ c.requires.1.1) in
    (_, (_, skip-next-left _ _ _ _ _ _ _ c.requires.1.1 _ _ _ _ I (rw c.in-Some.is at c.loop-i.invariant.low)))

pub next_into-j-requires-in-Some : goal.next_into-j-requires-in-Some
next_into-j-requires-in-Some c =
    let I = rw (c.in-Some.is, c.in-Some-j.is) at (c.loop-i.invariant.looped _ _ c.requires.1.1) in
    (_, (_, skip-next-right _ _ _ _ _ _ _ c.requires.1.1 _ _ _ _ I (rw c.in-Some-j.is at c.loop-i.invariant.low_other)))

pub loop-i-smaller : goal.loop-i-smaller
loop-i-smaller c =
    let I = rw (c.in-Some.is, c.in-Some-j.is) at (c.loop-i.invariant.looped _ _ c.requires.1.1) in
    let h : c.in-Some.a < c.first_edge-ie.result = rw c.in-Some.is at c.loop-i.invariant.low in
    let S = c.next_into-i-in-Some.ensures _ _ (skip-next-left _ _ _ _ _ _ _ c.requires.1.1 _ _ _ _ I h) in
    rw c.in-Some.is (omega (arith, S.skipped.skips.ge))

pub loop-i-preserved : goal.loop-i-preserved
loop-i-preserved c =
    let h : c.in-Some.a < c.first_edge-ie.result = rw c.in-Some.is at c.loop-i.invariant.low in
    let k : c.in-Some-j.b < c.first_edge-je.result = rw c.in-Some-j.is at c.loop-i.invariant.low_other in
    let I = rw (c.in-Some.is, c.in-Some-j.is) at (c.loop-i.invariant.looped _ _ c.requires.1.1) in
    record {
      low = (c.next_into-i-in-Some.ensures _ _ (skip-next-left _ _ _ _ _ _ _ c.requires.1.1 _ _ _ _ I h)).low;
      low_other = (c.next_into-j-in-Some.ensures _ _ (skip-next-right _ _ _ _ _ _ _ c.requires.1.1 _ _ _ _ I k)).low;
      looped = λ G g C. let I = rw (c.in-Some.is, c.in-Some-j.is) at (c.loop-i.invariant.looped G g C) in
          again _ _ _ _ C.some C.dead _ _ _ _ _ _ I _ _ h k
          (sym (left-letter _ _ _ _ _ _ _ C _ _ _ _ I h _ c.edge_letter.ensures) ∙ c.if-edge_letter.false
          ∙ right-letter _ _ _ _ _ _ _ C _ _ _ _ I k _ c.edge_letter-in-Some.ensures)
          (c.next_into-i-in-Some.ensures G g (skip-next-left _ _ _ _ _ _ _ C _ _ _ _ I h)).skipped
          (c.next_into-j-in-Some.ensures G g (skip-next-right _ _ _ _ _ _ _ C _ _ _ _ I k)).skipped;
    }

-- none is left exactly if the place is the end
ended : (o : Option ℕ) (end : ℕ) (b : Bool) → is_some o ≡ not b → MatchOption o (Unit {0}) (λ r. r < end)
    → (b ≡ true → end ≤ unwrap_or o end) × (b ≡ false → unwrap_or o end < end)
ended None end true e l = ((λ q. omega arith), (λ q. cc))
ended None end false e l = cc
ended (Some r) end true e l = cc
ended (Some r) end false e l = ((λ q. cc), (λ q. l))

pub returns : goal.returns
returns c = λ G g C.
    let I = rw c.in_default.is at (c.loop-i.invariant.looped G g C) in
    let E = ended _ _ _ c.is_none.ensures c.loop-i.invariant.low_other in
    at-end _ _ _ _ C.some C.dead _ _ _ _ _ _ I _ (omega arith) E.0 E.1
