-- The step at a number shows the machine's step at the position with that number.
use mathlib.Core.Path.{◌≡◌, refl, ◌∙◌, ap, subst}
use mathlib.Core.Logic.{inl, inr}
use mathlib.Core.List.{List, []}
use Prim.Native.Nat.{ℕ, suc, ◌+◌, ◌*◌, ◌-◌, ◌≤◌, ◌<◌}
use native.Mathlib.Omega.{arith}
use native.Mathlib.Nat.{mod-eq_of_lt}
use borrow.Author.Tests.{lt-ltb, le-ltb, ne_eqb}
use Rattle.language.specs.Ty.{Ty, command, expression, variable, Question, run, ask, read, write, questions, answers}
use Rattle.language.specs.Term.{Term, skip, diverge, const, private, name, fetch, operate, assign, seq, while, cond}
use Rattle.language.specs.Term.{new, onces, Args, no_args, arg}
use Rattle.language.specs.Typing.{operands}
use Rattle.language.specs.Weight.{weight, weight_args}
use Rattle.language.specs.declared.Numbers.{Numbers}
use Rattle.states_machine.specs.Position.{Context, Store, types, start, wait, spent, within, reply, Position, PositionArgs}
use Rattle.states_machine.specs.Position.{entry}
use Rattle.states_machine.specs.Numbered.{single, values, sum, sum_code, product, product_code}
use Rattle.states_machine.specs.Numbering.{replies, positions, weight-args, numbered}
use Rattle.states_machine.specs.Step.{step}
use Rattle.sheet_rows.specs.Row.{cell}
use Rattle.sheet_rows.specs.Row.{word}
use Rattle.sheet_rows.specs.Rep.{TyRow, count, Rep, r_skip, r_diverge, r_const, r_private, r_name, r_fetch}
use Rattle.sheet_rows.specs.Rep.{r_operate, r_assign, r_seq, r_cond, r_while, r_new, RepArgs, r_none, r_arg}
use Rattle.states_positions.specs.declared.Move.{Move as Record}
use Rattle.states_positions.specs.declared.Out.TheVariants.{Go, Exit, Stuck}
use Rattle.states_positions.specs.declared.Spot.TheVariants.{Inside}
use Rattle.states_positions.specs.Row.{name_id, name_count, name_spent, sum_of, mul_add_of}
use Rattle.states_step.specs.walk.Store.{with_value}
use Rattle.states_names.specs.Name.{framed_of}
use Rattle.states_step.specs.walk.Down.{in_fetch, in_seq, in_while, cond_in, in_cond, operate_in, in_operate, assign_in}
use Rattle.states_step.specs.walk.Down.{in_assign, in_new, in_private, down_as}
use Rattle.states_step.specs.walk.Step.{step_at}
use Rattle.states_step.specs.walk.Shows.{kind_q, value_q, kind_a, value_a, GivenMove, Words, held, HeldStore}
use Rattle.states_step.specs.walk.Shows.{ShowsNext}
use Rattle.states_step.specs.walk.Shows.{Shows}
use Rattle.states_step.proofs.Sums.{sum-small, mul_add_small, quotient, remainder, times, under, factors}
use Rattle.states_step.proofs.TypeNumbers.{has_type}
use Rattle.states_step.proofs.Parts.{small-weight, part-weight, part_type, expression-values, variable-values}
use Rattle.states_step.proofs.Parts.{positive}
use Rattle.states_step.proofs.Arguments.{ArgFound, arg-first, arg-later}
use Rattle.states_step.proofs.Hearing.{entry_zero, hears, unwritten, spent-shows}
use Rattle.states_step.proofs.Lifting.{lift, out-pass, out-done, out-ok, out-while, out-cond, out-value}
use Rattle.states_step.proofs.Lifting.{out-operate}
use Rattle.states_step.proofs.Lifting.{same}
use Rattle.states_step.proofs.Variables.{Blocks, outside, inside, block, held-push, private-shows, lift-new}
use Rattle.states_step.proofs.Walking.{walk_here, walk-in, walk-new, assign-right, operate-right, private-go}
use Rattle.states_step.proofs.Walking.{name-start, name-wait, name-reply, name-within, name-spent}

-- the id of a name, the number of its arguments and of its second waits
id-of : (t : List ℕ) (node i c w : ℕ) → i < 256 → word t node 4 ≡ i + 256 * (c + 8 * w) → name_id t node ≡ i
unfolding name_id
id-of t node i c w h e = omega arith

count_of : (t : List ℕ) (node i c w : ℕ) → i < 256 → c ≤ 4 → word t node 4 ≡ i + 256 * (c + 8 * w) →
    name_count t node ≡ c
unfolding name_count
count_of t node i c w h l e = omega arith

spent-of : (t : List ℕ) (node i c w : ℕ) → i < 256 → c ≤ 4 → word t node 4 ≡ i + 256 * (c + 8 * w) →
    name_spent t node ≡ w
unfolding name_spent
spent-of t node i c w h l e = omega arith

-- the detail in a row
detail-small : (t : List ℕ) (node : ℕ) → Words t → word t node 4 < 65536
unfolding word
detail-small t node ws = ws (cell node 4)

-- the answers of the type in a row
few-answers : (t : List ℕ) (node : ℕ) (T : Ty) → Words t → TyRow t node T → answers T < 1048576
unfolding TyRow word answers
few-answers t node command ws h = omega arith
few-answers t node (expression m) ws h = omega (arith, h.1, ws (cell node 3))
few-answers t node (variable m) ws h = omega (arith, h.1, ws (cell node 3))

module _ (K : Numbers) (t : List ℕ) (ws : Words t) (m : Record) (gv : GivenMove m) where
  mutual
    unfolding step Shows ShowsNext numbered single sum sum_code product product_code values weight weight_args
        positions replies types count down_as in_fetch in_seq in_while in_cond cond_in in_assign assign_in in_operate operate_in
        in_new kind_a value_a kind_q value_q held

    pub faithful : (M : Term) {left node : ℕ} {rs : List ℕ} {n : Context} {T : Ty} → Rep K t left node rs n M T → (q :
        Question)
        (σ : Store n) (s : ℕ → ℕ) → HeldStore s (held rs n σ) → Blocks rs n → (p : Position M) →
        Shows K t n M (held rs n σ) m (step M n q σ p)
        (step_at t K left node (kind_q q) (value_q q) ((numbered M).code p) s m)
    faithful skip (r_skip {left} {at = node} {rs} {n} row) q σ s hd ds p =
        rw (walk_here K t left node (kind_q q) (value_q q) 0 s m {o = Exit 1 0 0 0} (rw row.kinded refl))
        (0, 0, refl, unwritten rs n σ)
    faithful diverge (r_diverge {left} {at = node} {rs} {n} row) q σ s hd ds p =
        rw (walk_here K t left node (kind_q q) (value_q q) 0 s m {o = Stuck} (rw row.kinded refl)) refl
    faithful (const v) (r_const {left} {at = node} {rs = rs} {n = n} row e h) q σ s hd ds p =
        rw (walk_here K t left node (kind_q q) (value_q q) 0 s m {o = Exit 5 v 0 0}
        (rw (row.kinded, e) refl)) (0, 0, refl, unwritten rs n σ)
    faithful (private i) (r_private {left} {at = node} {m = m₀} {r = r₀} {rs} {n} row rl a b) q σ s hd ds (inl p) =
        rw (walk_here K t left node (kind_q q) (value_q q) 0 s m {o = Go 1 0 0}
        (private-go t node (kind_q q) (value_q q) s m row.kinded))
        (0, 0, refl, unwritten rs n σ)
    faithful (private i) (r_private {left} {at = node} {m = m₀} {r = r₀} {rs} {n} row rl a b) q σ s hd ds (inr p) =
        rw (walk_here K t left node (kind_q q) (value_q q) 1 s m
        {o = in_private t node (kind_q q) (value_q q) 1 s} (rw row.kinded refl))
        (private-shows t node rs n i m₀ r₀ rl
        (variable-values _ _ _ (has_type t node (variable m₀) row.typed)) (block a b) ds σ s hd
        (omega (arith, rl, detail-small t node ws)) q)
    faithful (seq C M) (r_seq {left} {at = node} {rs} {n} row r_c r_m) q σ s hd ds (inl p) =
        rw (walk-in K t left node (kind_q q) (value_q q) ((numbered C).code p) s m {part = word t node 5}
        {kind = 0} {value = 0} {inner = (numbered C).code p} {F = framed_of 1 0 (weight C) 0 0 0}
        (rw (row.kinded, part-weight node 0 r_c, lt-ltb _ _ ((numbered C).bound p)) refl) refl)
        (lift K t m n C (seq C M) (framed_of 1 0 (weight C) 0 0 0) (λ x. inl x) _ (held rs n σ) refl
        (λ x. sum-small 0 ((numbered C).code x) (omega (arith, row.small, (numbered C).bound x)) ∙ omega arith)
        (out-done K n (seq C M) (held rs n σ) 0 (weight C) 0 0 0 (inr (entry M)) (omega (arith, entry_zero M))) _ _
        (faithful C r_c run σ s hd ds p))
    faithful (seq C M) (r_seq {left} {at = node} {rs} {n} row r_c r_m) q σ s hd ds (inr p) =
        rw (walk-in K t left node (kind_q q) (value_q q) (weight C + (numbered M).code p) s m
        {part = word t node 6} {kind = kind_q q} {value = value_q q} {inner = (numbered M).code p}
        {F = framed_of 0 (weight C) 0 0 0 0}
        (rw (
          row.kinded,
          part-weight node 0 r_c,
          le-ltb (weight C + (numbered M).code p) (weight C) (omega arith),
        )
        (ap (λ (j : ℕ). Inside (word t node 6) (kind_q q) (value_q q) j (framed_of 0 (weight C) 0 0 0 0))
        (omega arith))) refl)
        (lift K t m n M (seq C M) (framed_of 0 (weight C) 0 0 0 0) (λ x. inr x) _ (held rs n σ) refl
        (λ x. sum-small (weight C) ((numbered M).code x) (omega (arith, row.small, (numbered M).bound x)))
        (out-pass K n (seq C M) (held rs n σ) (weight C) 0 0 0 0) _ _ (faithful M r_m q σ s hd ds p))
    faithful (while B C) (r_while {left} {at = node} {rs} {n} row r_b r_c) q σ s hd ds (inl p) =
        rw (walk-in K t left node (kind_q q) (value_q q) ((numbered B).code p) s m {part = word t node 5}
        {kind = 2} {value = 0} {inner = (numbered B).code p} {F = framed_of 2 0 (weight B) 0 0 0}
        (rw (row.kinded, part-weight node 0 r_b, lt-ltb _ _ ((numbered B).bound p)) refl) refl)
        (lift K t m n B (while B C) (framed_of 2 0 (weight B) 0 0 0) (λ x. inl x) _ (held rs n σ) refl
        (λ x. sum-small 0 ((numbered B).code x) (omega (arith, row.small, (numbered B).bound x)) ∙ omega arith)
        (out-while K n (while B C) (held rs n σ) 0 (weight B) 0 0 (inr (entry C)) (omega (arith, entry_zero C))) _ _
        (faithful B r_b ask σ s hd ds p))
    faithful (while B C) (r_while {left} {at = node} {rs} {n} row r_b r_c) q σ s hd ds (inr p) =
        rw (walk-in K t left node (kind_q q) (value_q q) (weight B + (numbered C).code p) s m
        {part = word t node 6} {kind = 0} {value = 0} {inner = (numbered C).code p}
        {F = framed_of 1 (weight B) 0 0 0 0}
        (rw (
          row.kinded,
          part-weight node 0 r_b,
          le-ltb (weight B + (numbered C).code p) (weight B) (omega arith),
        )
        (ap (λ (j : ℕ). Inside (word t node 6) 0 0 j (framed_of 1 (weight B) 0 0 0 0)) (omega arith))) refl)
        (lift K t m n C (while B C) (framed_of 1 (weight B) 0 0 0 0) (λ x. inr x) _ (held rs n σ) refl
        (λ x. sum-small (weight B) ((numbered C).code x) (omega (arith, row.small, (numbered C).bound x)))
        (out-done K n (while B C) (held rs n σ) (weight B) 0 0 0 0 (inl (entry B)) (entry_zero B)) _ _
        (faithful C r_c run σ s hd ds p))
    faithful (cond B M N) (r_cond {left} {at = node} {rs} {n} row r_b r_m r_n) q σ s hd ds (inl p) =
        let both : sum_of (weight B) (weight M) ≡ weight B + weight M =
        sum-small (weight B) (weight M) (omega (arith, row.small)) in
        rw (walk-in K t left node (kind_q q) (value_q q) ((numbered B).code p) s m {part = word t node 5}
        {kind = 2} {value = 0} {inner = (numbered B).code p}
        {F = framed_of 2 0 (weight B) (sum_of (weight B) (weight M)) 0 0}
        (rw (row.kinded, part-weight node 0 r_b, part-weight node 1 r_m, lt-ltb _ _ ((numbered B).bound p)) refl)
        refl)
        (lift K t m n B (cond B M N) (framed_of 2 0 (weight B) (sum_of (weight B) (weight M)) 0 0) (λ x. inl x) _
        (held rs n σ) refl
        (λ x. sum-small 0 ((numbered B).code x) (omega (arith, row.small, (numbered B).bound x)) ∙ omega arith)
        (out-cond K n (cond B M N) (held rs n σ) 0 (weight B) (sum_of (weight B) (weight M)) 0 0 (inr (inl (entry M)))
        (inr (inr (entry N))) (omega (arith, entry_zero M)) (omega (arith, entry_zero N, both))
        (omega (arith, (numbered B).bound p, both))) _ _ (faithful B r_b ask σ s hd ds p))
    faithful (cond B M N) (r_cond {left} {at = node} {rs} {n} row r_b r_m r_n) q σ s hd ds (inr (inl p)) =
        let d : weight B + (numbered M).code p - weight B ≡ (numbered M).code p = omega arith in
        rw (walk-in K t left node (kind_q q) (value_q q) (weight B + (numbered M).code p) s m
        {part = word t node 6} {kind = kind_q q} {value = value_q q} {inner = (numbered M).code p}
        {F = framed_of 0 (weight B) 0 0 0 0}
        (rw (
          row.kinded,
          part-weight node 0 r_b,
          part-weight node 1 r_m,
          le-ltb (weight B + (numbered M).code p) (weight B) (omega arith),
          d,
          lt-ltb ((numbered M).code p) (weight M) ((numbered M).bound p),
        ) refl) refl)
        (lift K t m n M (cond B M N) (framed_of 0 (weight B) 0 0 0 0) (λ x. inr (inl x)) _ (held rs n σ) refl
        (λ x. sum-small (weight B) ((numbered M).code x) (omega (arith, row.small, (numbered M).bound x)))
        (out-pass K n (cond B M N) (held rs n σ) (weight B) 0 0 0 0) _ _ (faithful M r_m q σ s hd ds p))
    faithful (cond B M N) (r_cond {left} {at = node} {rs} {n} row r_b r_m r_n) q σ s hd ds (inr (inr p)) =
        let d : weight B + (weight M + (numbered N).code p) - weight B ≡ weight M + (numbered N).code p = omega arith in
        let d' : weight M + (numbered N).code p - weight M ≡ (numbered N).code p = omega arith in
        let both : sum_of (weight B) (weight M) ≡ weight B + weight M =
        sum-small (weight B) (weight M) (omega (arith, row.small)) in
        rw (walk-in K t left node (kind_q q) (value_q q) (weight B + (weight M + (numbered N).code p)) s m
        {part = word t node 7} {kind = kind_q q} {value = value_q q} {inner = (numbered N).code p}
        {F = framed_of 0 (sum_of (weight B) (weight M)) 0 0 0 0}
        (rw (
          row.kinded,
          part-weight node 0 r_b,
          part-weight node 1 r_m,
          le-ltb (weight B + (weight M + (numbered N).code p)) (weight B) (omega arith),
          d,
          le-ltb (weight M + (numbered N).code p) (weight M) (omega arith),
          d',
        ) refl) refl)
        (lift K t m n N (cond B M N) (framed_of 0 (sum_of (weight B) (weight M)) 0 0 0 0) (λ x. inr (inr x)) _
        (held rs n σ) refl
        (λ x. rw both
        (sum-small (weight B + weight M) ((numbered N).code x) (omega (arith, row.small, (numbered N).bound x))
        ∙ omega arith))
        (out-pass K n (cond B M N) (held rs n σ) (sum_of (weight B) (weight M)) 0 0 0 0) _ _
        (faithful N r_n q σ s hd ds p))
    faithful (fetch X) (r_fetch {left} {at = node} {rs = rs} {n = n} row r_x) q σ s hd ds p =
        rw (walk-in K t left node (kind_q q) (value_q q) ((numbered X).code p) s m {part = word t node 5}
        {kind = 3} {value = 0} {inner = (numbered X).code p} {F = framed_of 0 0 0 0 0 0} (rw row.kinded refl) refl)
        (same K t m n X (held rs n σ) (omega (arith, small-weight r_x)) (step X n read σ p)
        (step_at t K left (word t node 5) 3 0 ((numbered X).code p) s m)
        (faithful X r_x read σ s hd ds p))
    faithful (assign m₀ X E) (r_assign {left} {at = node} {rs = rs} {n = n} row r_x r_e) q σ s hd ds (inl p) =
        rw (walk-in K t left node (kind_q q) (value_q q) ((numbered E).code p) s m {part = word t node 6}
        {kind = 2} {value = 0} {inner = (numbered E).code p} {F = framed_of 3 0 (weight E) (weight X) m₀ 0}
        (rw (
          row.kinded,
          part-weight node 0 r_x,
          part-weight node 1 r_e,
          variable-values _ _ m₀ (part_type node 0 r_x),
          lt-ltb _ _ ((numbered E).bound p),
        ) refl) refl)
        (lift K t m n E (assign m₀ X E) (framed_of 3 0 (weight E) (weight X) m₀ 0) (λ x. inl x) _ (held rs n σ) refl
        (λ x. sum-small 0 ((numbered E).code x) (omega (arith, row.small, (numbered E).bound x)) ∙ omega arith)
        (out-value K n (assign m₀ X E) (held rs n σ) 0 (weight E) (weight X) m₀ 0 (λ v. inr (v, entry X))
        (λ v. mul_add_small v.0 (weight X) (weight E)
        (omega (arith, row.small, under m₀ (weight X) v.0 (positive X) v.1))
        (omega (arith, small-weight r_x)) (omega (arith, small-weight r_e)) ∙ omega (arith, entry_zero X)))
        _ _ (faithful E r_e ask σ s hd ds p))
    faithful (assign m₀ X E) (r_assign {left} {at = node} {rs = rs} {n = n} row r_x r_e) q σ s hd ds (inr (v, p)) =
        rw (walk-in K t left node (kind_q q) (value_q q) (weight E + (v.0 * weight X + (numbered X).code p)) s m {part =
        word t node 5} {kind = 6} {value = v.0} {inner = (numbered X).code p}
        {F = framed_of 5 (mul_add_of v.0 (weight X) (weight E)) 0 0 0 0}
        (rw (
          row.kinded,
          part-weight node 0 r_x,
          part-weight node 1 r_e,
          variable-values _ _ m₀ (part_type node 0 r_x),
        )
        (assign-right (word t node 5) (word t node 6) (weight E) (weight X) m₀ v.0 ((numbered X).code p)
        ((numbered X).bound p))) refl)
        (lift K t m n X (assign m₀ X E) (framed_of 5 (mul_add_of v.0 (weight X) (weight E)) 0 0 0 0) (λ x. inr (v, x))
        _ (held rs n σ) refl
        (λ x. rw (mul_add_small v.0 (weight X) (weight E)
        (omega (arith, row.small, under m₀ (weight X) v.0 (positive X) v.1))
        (omega (arith, small-weight r_x)) (omega (arith, small-weight r_e)))
        (sum-small (v.0 * weight X + weight E) ((numbered X).code x)
        (omega (arith, row.small, (numbered X).bound x, times m₀ (weight X) v.0 v.1)) ∙ omega arith))
        (out-ok K n (assign m₀ X E) (held rs n σ) (mul_add_of v.0 (weight X) (weight E)) 0 0 0 0) _ _
        (faithful X r_x (write v.0) σ s hd ds p))
    faithful (new m₀ z C) (r_new {left} {at = node} {rs = rs} {n = n} row e₀ fr r_c) q σ s hd ds (v, p) =
        let low : node < 65536 = omega (arith, row.inside) in
        let e : sum_of node 1 ≡ suc node = sum-small node 1 (omega arith) ∙ omega arith in
        rw (walk-new K t left node (kind_q q) (value_q q) (v.0 * weight C + (numbered C).code p) s m
        {part = word t node 5} {kind = kind_q q} {value = value_q q} {inner = (numbered C).code p}
        (mul_add_of v.0 (weight C) 0) (sum_of node 1) (weight C) v.0 0
        (rw (
          row.kinded,
          mod-eq_of_lt low,
          part-weight node 0 r_c,
          ne_eqb (weight C) 0 (omega (arith, (numbered C).bound p)),
          quotient v.0 (weight C) ((numbered C).code p)
              ((numbered C).bound p),
          remainder v.0 (weight C) ((numbered C).code p) ((numbered C).bound p),
        ) refl))
        (lift-new K t m n m₀ z C v (held rs n σ) node (omega (arith, row.small)) low _ _
        (faithful C r_c q (v, σ) (with_value s (sum_of node 1) v.0)
        (held-push s node (sum_of node 1) m₀ e ds v σ fr hd) (inside fr ds) p))
    faithful (operate m₀ o L R) (r_operate {left} {at = node} {rs} {n} over row po small r_l r_r) q σ s hd ds (inl p) =
        let m₀ = operands o in
        rw (walk-in K t left node (kind_q q) (value_q q) ((numbered L).code p) s m {part = word t node 5}
        {kind = 2} {value = 0} {inner = (numbered L).code p} {F = framed_of 3 0 (weight L) (weight R) m₀ 0}
        (rw (
          row.kinded,
          part-weight node 0 r_l,
          part-weight node 1 r_r,
          expression-values _ _ m₀ (part_type node 0 r_l),
          lt-ltb _ _ ((numbered L).bound p),
        ) refl) refl)
        (lift K t m n L (operate m₀ o L R) (framed_of 3 0 (weight L) (weight R) m₀ 0) (λ x. inl x) _ (held rs n σ) refl
        (λ x. sum-small 0 ((numbered L).code x) (omega (arith, row.small, (numbered L).bound x)) ∙ omega arith)
        (out-value K n (operate m₀ o L R) (held rs n σ) 0 (weight L) (weight R) m₀ 0 (λ v. inr (v, entry R))
        (λ v. mul_add_small v.0 (weight R) (weight L)
        (omega (arith, row.small, under m₀ (weight R) v.0 (positive R) v.1))
        (omega (arith, small-weight r_r)) (omega (arith, small-weight r_l)) ∙ omega (arith, entry_zero R)))
        _ _ (faithful L r_l ask σ s hd ds p))
    faithful (operate m₀ o L R) (r_operate {left} {at =
        node} {rs} {n} over row po small r_l r_r) q σ s hd ds (inr (v, p)) =
        let m₀ = operands o in
        rw (walk-in K t left node (kind_q q) (value_q q) (weight L + (v.0 * weight R + (numbered R).code p)) s m {part =
        word t node 6} {kind = 2} {value = 0} {inner = (numbered R).code p}
        {F = framed_of 4 (mul_add_of v.0 (weight R) (weight L)) v.0 o.operator m₀ 0}
        (rw (
          row.kinded,
          part-weight node 0 r_l,
          part-weight node 1 r_r,
          expression-values _ _ m₀ (part_type node 0 r_l),
          po,
        )
        (operate-right (word t node 5) (word t node 6) (weight L) (weight R) o.operator m₀ v.0
        ((numbered R).code p) ((numbered R).bound p))) refl)
        (lift K t m n R (operate m₀ o L R)
        (framed_of 4 (mul_add_of v.0 (weight R) (weight L)) v.0 o.operator m₀ 0)
        (λ x. inr (v, x)) _ (held rs n σ) refl
        (λ x. rw (mul_add_small v.0 (weight R) (weight L)
        (omega (arith, row.small, under m₀ (weight R) v.0 (positive R) v.1))
        (omega (arith, small-weight r_r)) (omega (arith, small-weight r_l)))
        (sum-small (v.0 * weight R + weight L) ((numbered R).code x)
        (omega (arith, row.small, (numbered R).bound x, times m₀ (weight R) v.0 v.1)) ∙ omega arith))
        (out-operate K n (operate m₀ o L R) (held rs n σ) (mul_add_of v.0 (weight R) (weight L)) m₀ v.0 0 o over
        (omega arith) v.1
        (omega (arith, row.small, (factors m₀ (weight R) (omega (arith, v.1)) (positive R)).0)))
        _ _ (faithful R r_r ask σ s hd ds p))
    faithful (name i o T args) (r_name {left} {at = node} {rs = rs} {n = n} row h e few ra) q σ s hd ds start =
        name-start K t left node i rs n o T args row.kinded (id-of t node i (count args) (onces o) h e)
        (count_of t node i (count args) (onces o) h few e) (spent-of t node i (count args) (onces o) h few e) few
        (omega (arith, row.small)) ra q σ s m
    faithful (name i o T args) (r_name {left} {at = node} {rs = rs} {n = n} row h e few ra) q σ s hd ds wait =
        name-wait K t left node i rs n o T args row.kinded (id-of t node i (count args) (onces o) h e)
        (count_of t node i (count args) (onces o) h few e) (spent-of t node i (count args) (onces o) h few e) few
        (omega (arith, row.small)) ra q σ s m
        (hears K t left node i rs n o T args (id-of t node i (count args) (onces o) h e)
        (count_of t node i (count args) (onces o) h few e) (spent-of t node i (count args) (onces o) h few e)
        (has_type t node T row.typed) (few-answers t node T ws row.typed) few (omega (arith, row.small))
        (r_name row h e few ra) ra q σ m gv)
    faithful (name i o T args) (r_name {left} {at = node} {rs = rs} {n = n} row h e few ra) q σ s hd ds (spent x) =
        name-spent K t left node i rs n o T args row.kinded (spent-of t node i (count args) (onces o) h few e) q σ
        s m x
        (spent-shows K t left node i rs n o T args (id-of t node i (count args) (onces o) h e)
        (count_of t node i (count args) (onces o) h few e) (spent-of t node i (count args) (onces o) h few e)
        (has_type t node T row.typed) (few-answers t node T ws row.typed) few (omega (arith, row.small))
        (r_name row h e few ra) ra q σ m gv)
    faithful (name i o T args) (r_name {left} {at = node} {rs = rs} {n = n} row h e few ra) q σ s hd ds (within p) =
        name-within K t left node i rs n o T args row.kinded (id-of t node i (count args) (onces o) h e)
        (count_of t node i (count args) (onces o) h few e) (spent-of t node i (count args) (onces o) h few e) few
        (omega (arith, row.small)) ra q σ s m p
        (faithful_args args ra (omega (arith, row.small)) (omega arith) σ s hd ds (2 + onces o)
        (2 + onces o + positions args)
        (omega (arith, row.small, weight-args args))
        (omega (arith, row.small, weight-args args)) p)
    faithful (name i o T args) (r_name {left} {at = node} {rs = rs} {n = n} row h e few ra) q σ s hd ds (reply r) =
        name-reply K t left node i rs n o T args row.kinded (id-of t node i (count args) (onces o) h e)
        (count_of t node i (count args) (onces o) h few e) (spent-of t node i (count args) (onces o) h few e) few
        (omega (arith, row.small)) ra q σ s m r

    pub faithful_args : (args : Args) {left node j : ℕ} {rs : List ℕ} {n : Context} → RepArgs K t left node j rs n args →
        weight_args args < 65536 → j + count args < 65536 → (σ : Store n) (s : ℕ → ℕ) → HeldStore s (held rs n σ) →
        Blocks rs n → (base after : ℕ) → base + positions args < 65536 →
        after + replies (types args) < 65536 → (p : PositionArgs args) →
        ArgFound K t left node j base after rs n args σ s m p
    faithful_args no_args r_none fits room σ s hd ds base after low low' p = absurd p
    faithful_args (arg T M args) (r_arg {left} {at = node} {j} {rs} {n} r xs) fits room σ s hd ds base after low low'
        (inl (q, p)) =
        arg-first K t left node j rs n T M args (part-weight node j r) (part_type node j r) fits (omega arith) σ s m
        base
        after low low' q p (faithful M r q.0 σ s hd ds p)
    faithful_args (arg T M args) (r_arg {left} {at =
        node} {j} {rs} {n} r xs) fits room σ s hd ds base after low low' (inr p) =
        arg-later K t left node j rs n T M args (part-weight node j r) (part_type node j r) fits (omega arith) σ s m
        base
        after low low' p
        (faithful_args args xs (omega arith) (omega arith) σ s hd ds (base + questions T * weight M)
        (after + answers T)
        (omega arith) (omega arith) p)

-- at a number: the step of the position that the number stands for
pub at-number : (K : Numbers) (t : List ℕ) {left node : ℕ} {M : Term} {T : Ty} → Words t → Rep K t left node [] [] M T →
    (s : ℕ → ℕ) (q : Question) (m : Record) → GivenMove m → (k : ℕ) (h : k < weight M) →
    Shows K t [] M [] m (step M [] q tt ((numbered M).decode k h)) (step_at t K left node (kind_q q) (value_q q) k s m)
unfolding HeldStore held
at-number K t {left} {node} {M} {T} ws r s q m gv k h =
    subst (λ (j : ℕ). Shows K t [] M [] m (step M [] q tt ((numbered M).decode k h))
    (step_at t K left node (kind_q q) (value_q q) j s m)) ((numbered M).code_decode k h)
    (faithful K t ws m gv M r q tt s tt outside ((numbered M).decode k h))
