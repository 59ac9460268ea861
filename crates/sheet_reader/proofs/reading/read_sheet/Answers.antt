-- The first two bytes judged, then the names and the term, then the end.
use Prim.Native.Nat.{ℕ, ◌≤◌, ◌<◌}
use native.Mathlib.Omega.{arith}
use mathlib.Core.Path.{◌≡◌}
use Rattle.sheet_reader.proofs.Whole.{sheet-refused, sheet-closed, closes-sheet, too_long, empty, z-zero, z-large}
use Rattle.sheet_reader.proofs.Whole.{no-rule, rule-large, opened}
use Rattle.sheet_reader.proofs.reading.read_sheet.Goals as goal

-- a length that is 0, and one that is not
none : {n : ℕ} → n ≡ 0 → n ≤ 0
none e = omega arith

some : {n : ℕ} → (n ≡ 0 → ⊥) → 0 < n
some h = omega arith

pub returns-then-s-gt-MOST_BYTES : goal.returns-then-s-gt-MOST_BYTES
returns-then-s-gt-MOST_BYTES c = rw c.refuse.ensures (sheet-refused _ _ _ (too_long _ _ c.if-s-gt-MOST_BYTES.true))

pub returns-then-s-eq0 : goal.returns-then-s-eq0
returns-then-s-eq0 c =
    rw c.refuse-then-s-eq0.ensures (sheet-refused _ _ _ (empty _ _ c.if-s-gt-MOST_BYTES.false (none c.if-s-eq0.true)))

pub returns-then-z-eq0 : goal.returns-then-z-eq0
returns-then-z-eq0 c =
    rw c.refuse-then-z-eq0.ensures (sheet-refused _ _ _ (z-zero _ _ c.if-s-gt-MOST_BYTES.false (some c.if-s-eq0.false) c.if-z-eq0.true))

pub returns-then-z-gt-GREATEST_Z : goal.returns-then-z-gt-GREATEST_Z
returns-then-z-gt-GREATEST_Z c =
    rw c.refuse-then-z-gt-GREATEST_Z.ensures (sheet-refused _ _ _ (z-large _ _ c.if-s-gt-MOST_BYTES.false
    (some c.if-s-eq0.false) c.if-z-eq0.false (omega (arith, c.if-z-gt-GREATEST_Z.true))))

pub returns-then-s-le1 : goal.returns-then-s-le1
returns-then-s-le1 c =
    rw c.refuse-then-s-le1.ensures (sheet-refused _ _ _ (no-rule _ _ c.if-s-gt-MOST_BYTES.false (some c.if-s-eq0.false) c.if-z-eq0.false
    (omega (arith, c.if-z-gt-GREATEST_Z.false)) c.if-s-le1.true))

pub returns-then-rule-gt-GREATEST_RULE : goal.returns-then-rule-gt-GREATEST_RULE
returns-then-rule-gt-GREATEST_RULE c =
    rw c.refuse-then-rule-gt-GREATEST_RULE.ensures (sheet-refused _ _ _ (rule-large _ _ c.if-s-gt-MOST_BYTES.false (some c.if-s-eq0.false) c.if-z-eq0.false (omega (arith, c.if-z-gt-GREATEST_Z.false)) c.if-s-le1.false c.if-rule-gt-GREATEST_RULE.true))

pub returns : goal.returns
returns c =
    sheet-closed _ _ _ _ (opened _ _ c.if-s-gt-MOST_BYTES.false (some c.if-s-eq0.false) c.if-z-eq0.false (omega (arith, c.if-z-gt-GREATEST_Z.false)) c.if-s-le1.false c.if-rule-gt-GREATEST_RULE.false) (closes-sheet _ _ _ c.read_names-x.ensures c.close_sheet.ensures)
