-- The cycle of parts: the remaining depth and, at one depth, the number of parts left fall.
use borrow.Author.Rules.{rules}
use native.Mathlib.Omega.{arith}
use mathlib.Core.Path.{sym, ◌∙◌}
use Rattle.sheet_heads.specs.Bare.{bare}
use Rattle.sheet_heads.proofs.HeadLaws.{head-good}
use Rattle.sheet_reader.specs.Reader.{read_part}
use Rattle.sheet_reader.proofs.Core.{handed, headed, block-small, routine-small}
use Rattle.sheet_reader.proofs.Steps.{part-bad, part-good, scope-nothing, scope-block, scope-routine}
use Rattle.sheet_reader.proofs.Steps.{block_read, routine-refused, routine-more, usable-read, record-closes}
use Rattle.sheet_reader.proofs.Steps.{record-leaf, parts_none, parts-linked, next-refused, next-wrong, next_more}
use Rattle.sheet_reader.proofs.Bounds.{part-beyond, beyond-within, beyond-typed, scope_ends, parts-end}
use Rattle.sheet_reader.proofs.Bounds.{ends-within, ends-typed, ends-further}
use Rattle.sheet_reader.proofs.Leaves.{leaf-is}
use Rattle.sheet_reader.proofs.part.+parts.Goals as goal

pub read_block-enter-requires : goal.read_block-enter-requires
read_block-enter-requires t c = c.requires.4

-- read_block
pub read_block-returns : goal.read_block-returns
read_block-returns t c =
    let x = c.args in
    block_read (read_part x.edition x.left x.n _) _ _ _ _ x.r c.enter.ensures c.read_parts.ensures

-- read_next
pub read_next-returns-in_default : goal.read_next-returns-in_default
unfolding bare
read_next-returns-in_default t c =
    let x = c.args in
    let o = c.requires.4 in
    rw c.in_default.is
    (next-refused _ _ _ (bare x.place x.rule x.a x.b) _ _ _ _ (λ e. omega (arith, e, o))
    c.read_part-p.ensures.reads c.in_default.is)

pub read_next-overflow_cast-ty : goal.read_next-overflow_cast-ty
read_next-overflow_cast-ty t c =
    omega (arith, beyond-typed _ _ c.read_part-p.ensures.beyond c.in-Ok.is)

pub read_next-accepts_part-requires : goal.read_next-accepts_part-requires
unfolding bare
read_next-accepts_part-requires t c =
    rw c.bare_record.ensures (omega (arith, c.requires.2))

pub read_next-returns-then-not-accepts_part : goal.read_next-returns-then-not-accepts_part
unfolding bare
read_next-returns-then-not-accepts_part t c =
    let x = c.args in
    let o = c.requires.4 in
    let b = c.bare_record.ensures in
    rw c.refuse.ensures
    (next-wrong _ _ _ (bare x.place x.rule x.a x.b) _ _ _ _ (λ e. omega (arith, e, o))
    c.read_part-p.ensures.reads c.in-Ok.is
    (sym (rw b at c.accepts_part.ensures) ∙ c.if-not-accepts_part.true))

pub read_next-overflow_sub-count : goal.read_next-overflow_sub-count
read_next-overflow_sub-count t c =
    search (rules, c.requires.4)

pub read_next-overflow_add-j : goal.read_next-overflow_add-j
read_next-overflow_add-j t c =
    search (rules, c.requires.3, c.requires.4)

pub read_next-read_parts-requires : goal.read_next-read_parts-requires
read_next-read_parts-requires t c =
    let h = beyond-within _ _ c.read_part-p.ensures.beyond c.in-Ok.is in
    omega (arith, h, c.decreases, c.requires.0, c.requires.1, c.requires.2, c.requires.3, c.requires.4)

pub read_next-returns : goal.read_next-returns
unfolding bare
read_next-returns t c =
    let x = c.args in
    let o = c.requires.4 in
    let b = c.bare_record.ensures in
    next_more _ _ _ (bare x.place x.rule x.a x.b) _ _ _ _ (λ e. omega (arith, e, o))
    c.read_part-p.ensures.reads c.in-Ok.is
    (sym (rw b at c.accepts_part.ensures) ∙ c.if-not-accepts_part.false) c.read_parts.ensures

-- read_part
pub read_part-close_leaf-requires : goal.read_part-close_leaf-requires
read_part-close_leaf-requires t c =
    let e = sym c.head_at.ensures ∙ c.in_ok-record.was in
    let g = head-good _ _ _ _ _ _ _ e in
    (omega (arith, g.place, g.inside, c.requires.0), omega (arith, g.next-inside, c.requires.0))

pub read_part-overflow_sub-left : goal.read_part-overflow_sub-left
read_part-overflow_sub-left t c =
    let e = sym c.head_at.ensures ∙ c.in_ok-record.was in
    let d = (head-good _ _ _ _ _ _ _ e).depth in
    omega arith

pub read_part-read_record-requires : goal.read_part-read_record-requires
read_part-read_record-requires t c =
    let e = sym c.head_at.ensures ∙ c.in_ok-record.was in
    let g = head-good _ _ _ _ _ _ _ e in
    let d = g.depth in
    let i = g.inside in
    let p = g.place in
    let n = g.next-inside in (
      omega (arith, p, i, n),
      (
        omega (arith, p, i, n),
        omega (arith, p, i, n),
        omega (arith, p, i, n),
        n,
        block-small _ _ _ _ _ _ _ e,
        routine-small _ _ _ _ _ _ _ e,
      ),
    )

pub read_part-returns-in_err-record : goal.read_part-returns-in_err-record
read_part-returns-in_err-record t c =
    let R = part-bad _ _ _ _ _ _ _ (sym c.head_at.ensures ∙ c.in_err-record.was)
    (handed _ c.from_residual.ensures.1) in
    record { reads = R; beyond = part-beyond _ _ _ _ _ _ _ c.type_inv.s R.answer }

pub read_part-returns : goal.read_part-returns
read_part-returns t c = let e = sym c.head_at.ensures ∙ c.in_ok-record.was in
    let L = leaf-is _ _ c.args.around _ (headed _ _ _ _ _ _ _ e) (sym c.leaf_of.ensures ∙ c.in-Some.is) in
    let C = c.close_leaf.ensures _ c.args.around L.same_kind L.same-detail L.leaf in
    let R = part-good _ _ _ _ _ _ _ e (head-good _ _ _ _ _ _ _ e).depth
    (record-leaf _ _ _ _ _ _ L.inside L.none L.same_type C) in
    record { reads = R; beyond = part-beyond _ _ _ _ _ _ _ c.type_inv.s R.answer }

pub read_part-returns-in_default : goal.read_part-returns-in_default
read_part-returns-in_default t c = let e = sym c.head_at.ensures ∙ c.in_ok-record.was in
    let R = part-good _ _ _ _ _ _ _ e (head-good _ _ _ _ _ _ _ e).depth c.read_record.ensures in
    record { reads = R; beyond = part-beyond _ _ _ _ _ _ _ c.type_inv.s R.answer }

-- read_parts
pub read_parts-returns-then-count-eq0 : goal.read_parts-returns-then-count-eq0
unfolding bare
read_parts-returns-then-count-eq0 t c =
    let x = c.args in
    parts_none _ _ _ (bare x.place x.rule x.a x.b) _ _ _ _ c.if-count-eq0.true

pub read_parts-returns : goal.read_parts-returns
unfolding bare
read_parts-returns t c =
    let x = c.args in
    parts-linked _ _ _ (bare x.place x.rule x.a x.b) _ _ _ _ c.if-count-eq0.false c.link.ensures c.read_next.ensures

-- read_record
pub read_record-close_record-requires : goal.read_record-close_record-requires
read_record-close_record-requires t c = (
  c.requires.2,
  ends-further _ _ _ c.requires.0 (scope_ends _ _ _ _ _ _ _ c.type_inv.s c.requires.3
      c.read_scope-parts.ensures.answer),
)

pub read_record-returns : goal.read_record-returns
read_record-returns t c =
    record-closes _ _ _ _ _ _ c.read_scope-parts.ensures c.close_record.ensures.answer c.close_record.ensures.table

pub read_routine-overflow_cast-count : goal.read_routine-overflow_cast-count
read_routine-overflow_cast-count t c = search (rules, c.requires.4)

-- read_routine
pub read_routine-enter_parameters-requires : goal.read_routine-enter_parameters-requires
read_routine-enter_parameters-requires t c =
    (omega (arith, c.requires.2), omega (arith, c.requires.1, c.requires.4))

pub read_routine-overflow_add-around : goal.read_routine-overflow_add-around
read_routine-overflow_add-around t c =
    search (rules, c.requires.1, c.requires.4)

pub read_routine-read_parts-requires : goal.read_routine-read_parts-requires
read_routine-read_parts-requires t c =
    omega (arith, c.decreases, c.requires.0, c.requires.1, c.requires.2, c.requires.3, c.requires.4)

pub read_routine-returns-in_err-own : goal.read_routine-returns-in_err-own
read_routine-returns-in_err-own t c =
    rw (handed _ c.from_residual.ensures.1)
    (routine-refused _ _ _ _ _ _ (rw (← c.enter_parameters.ensures) c.read_parts.ensures) c.in_err-own.was)

pub read_routine-overflow_cast-own : goal.read_routine-overflow_cast-own
unfolding bare
read_routine-overflow_cast-own t c =
    let h = ends-typed _ (parts-end _ _ _ _ _ _ _ c.type_inv.s _ _ _ _ (omega arith) c.requires.3
    c.read_parts.ensures.answer) c.in_ok-own.was in
    omega (arith, h)

pub read_routine-read_usable-requires : goal.read_routine-read_usable-requires
unfolding bare
read_routine-read_usable-requires t c =
    let h = ends-within _ (parts-end _ _ _ _ _ _ _ c.type_inv.s _ _ _ _ (omega arith) c.requires.3
    c.read_parts.ensures.answer) c.in_ok-own.was in
    omega (arith, h, c.decreases, c.requires.0, c.requires.1, c.requires.2, c.requires.3, c.requires.4)

pub read_routine-returns : goal.read_routine-returns
read_routine-returns t c =
    routine-more _ _ _ _ _ _ (rw (← c.enter_parameters.ensures) c.read_parts.ensures) c.in_ok-own.was
    c.read_usable.ensures

-- read_scope
pub read_scope-read_block-requires : goal.read_scope-read_block-requires
read_scope-read_block-requires t c =
    let h = c.requires.4 (sym c.opens_of-opened.ensures ∙ c.in-Block.is) in
    (omega (arith, c.decreases), (c.requires.0, c.requires.1, c.requires.2, c.requires.3, h))

pub read_scope-read_routine-requires : goal.read_scope-read_routine-requires
read_scope-read_routine-requires t c =
    let h = c.requires.5 (sym c.opens_of-opened.ensures ∙ c.in-Routine.is) in
    (omega (arith, c.decreases), (c.requires.0, c.requires.1, c.requires.2, c.requires.3, h))

pub read_scope-returns-in-Nothing : goal.read_scope-returns-in-Nothing
read_scope-returns-in-Nothing t c =
    scope-nothing _ _ _ _ _ _ (sym c.opens_of-opened.ensures ∙ c.in-Nothing.is) c.read_parts.ensures

pub read_scope-returns-in-Block : goal.read_scope-returns-in-Block
read_scope-returns-in-Block t c =
    scope-block _ _ _ _ _ _ (sym c.opens_of-opened.ensures ∙ c.in-Block.is) c.read_block.ensures

pub read_scope-returns-in-Routine : goal.read_scope-returns-in-Routine
read_scope-returns-in-Routine t c =
    scope-routine _ _ _ _ _ _ (sym c.opens_of-opened.ensures ∙ c.in-Routine.is) c.read_routine.ensures

-- read_usable
pub read_usable-returns : goal.read_usable-returns
read_usable-returns t c =
    let x = c.args in
    usable-read (read_part x.edition x.left x.n _) _ _ _ _ x.r x.prev x.at c.enter_procedure.ensures
    c.read_parts.ensures
