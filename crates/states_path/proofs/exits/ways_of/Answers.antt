-- What `ways_of` gives says where each value leads, case by case.
use native.Mathlib.Omega.{arith}
use mathlib.Core.Path.{sym, ◌∙◌}
use Rattle.states_path.proofs.PathSteps.{lead_low}
use Rattle.states_path.proofs.PathWays.{told-each, up-within, up-inside, copies-told, either-told}
use Rattle.states_path.proofs.exits.ways_of.Goals as goal

pub returns-then-up-eq0 : goal.returns-then-up-eq0
returns-then-up-eq0 c =
    let p = told-each _ _ _ _ _ in
    record { apart = p.0; two = p.1.0; small = p.1.1 }

pub returns-then-below-ge-MANY : goal.returns-then-below-ge-MANY
returns-then-below-ge-MANY c =
    let p = told-each _ _ _ _ _ in
    record { apart = p.0; two = p.1.0; small = p.1.1 }

pub field-requires : goal.field-requires
field-requires c = (up-within _ _ _ c.requires c.up_at-up.ensures c.if-up-eq0.false, omega arith)

pub returns-then-field-below : goal.returns-then-field-below
returns-then-field-below c =
    let p = told-each _ _ _ _ _ in
    record { apart = p.0; two = p.1.0; small = p.1.1 }

pub field-role-requires : goal.field-role-requires
field-role-requires c = (up-within _ _ _ c.requires c.up_at-up.ensures c.if-up-eq0.false, omega arith)

pub start_at-requires : goal.start_at-requires
start_at-requires c = up-inside _ _ _ c.requires c.up_at-up.ensures

pub field-requires-then-role-eq-SELECT : goal.field-requires-then-role-eq-SELECT
field-requires-then-role-eq-SELECT c = (up-within _ _ _ c.requires c.up_at-up.ensures c.if-up-eq0.false, omega arith)

pub field-requires-then-role-eq-SELECT-2 : goal.field-requires-then-role-eq-SELECT-2
field-requires-then-role-eq-SELECT-2 c = (up-within _ _ _ c.requires c.up_at-up.ensures c.if-up-eq0.false, omega arith)

pub copies-requires : goal.copies-requires
copies-requires c = lead_low _ _ _ (up-inside _ _ _ c.requires c.up_at-up.ensures) c.start_at.ensures

pub returns-then-role-eq-SELECT : goal.returns-then-role-eq-SELECT
returns-then-role-eq-SELECT c =
    let p = copies-told _ _ _ _ _ _ _ _ c.requires c.up_at-up.ensures c.if-up-eq0.false c.if-below-ge-MANY.false c.field.ensures c.if-field-below.false c.field-role.ensures _ _ _ _ c.if-role-eq-SELECT.true c.start_at.ensures c.field-then-role-eq-SELECT.ensures c.field-then-role-eq-SELECT-2.ensures c.copies.ensures in
    record { apart = p.0; two = p.1.0; small = p.1.1 }

pub field-requires-then-role-eq-RIGHT : goal.field-requires-then-role-eq-RIGHT
field-requires-then-role-eq-RIGHT c = (up-within _ _ _ c.requires c.up_at-up.ensures c.if-up-eq0.false, omega arith)

pub field-requires-then-field-eq-EQUAL : goal.field-requires-then-field-eq-EQUAL
field-requires-then-field-eq-EQUAL c = (up-within _ _ _ c.requires c.up_at-up.ensures c.if-up-eq0.false, omega arith)

pub returns-then-field-eq-EQUAL : goal.returns-then-field-eq-EQUAL
returns-then-field-eq-EQUAL c =
    let p = either-told _ _ _ _ _ _ _ _ c.requires c.up_at-up.ensures c.if-up-eq0.false c.if-below-ge-MANY.false c.field.ensures c.if-field-below.false c.field-role.ensures _ c.if-role-eq-RIGHT.true (sym c.field-then-role-eq-RIGHT.ensures ∙ c.if-field-eq-EQUAL.true) c.field-then-field-eq-EQUAL.ensures _ c.either.ensures in
    record { apart = p.0; two = p.1.0; small = p.1.1 }

pub returns-else-field-eq-EQUAL : goal.returns-else-field-eq-EQUAL
returns-else-field-eq-EQUAL c =
    let p = told-each _ _ _ _ _ in
    record { apart = p.0; two = p.1.0; small = p.1.1 }

pub returns-else-role-eq-RIGHT : goal.returns-else-role-eq-RIGHT
returns-else-role-eq-RIGHT c =
    let p = told-each _ _ _ _ _ in
    record { apart = p.0; two = p.1.0; small = p.1.1 }
