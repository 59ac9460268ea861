-- The row that a term is expanded to is right for it: it represents the let-free term, whatever stands for the binders.
-- Document 02 [1].
use Prim.Native.Nat.{ℕ, zero, suc, ◌+◌, ◌-◌, ◌<◌}
use native.Mathlib.Omega.{arith}
use mathlib.Core.Path.{◌≡◌, refl, ap}
use mathlib.Core.Logic.{◌⊎◌, inl, inr}
use mathlib.Core.Option.{Option, some}
use mathlib.Core.List.{List, [], ◌∷◌}
use lib.ListN.{length}
use borrow.Author.Tests.{lt-ltb}
use Rattle.language.specs.Ty.{questions, answers}
use Rattle.language.specs.Term as t
use Rattle.language.specs.Term.{Term, Operation}
use Rattle.language.specs.Typing.{operands}
use Rattle.language.specs.declared.Numbers.{Numbers}
use Rattle.language.specs.Weight.{use_weight}
use Rattle.language.specs.Term.{Often}
use Rattle.sheet_parts.specs.Rule.{values}
use Rattle.sheet_written.specs.Environment.{beyond}
use Rattle.sheet_written.specs.Written.{Written, Parameter, Writtens, Name}
use Rattle.sheet_written.specs.Meaning.{Binder, private, routine, named, meaning, inside, after, typed, ty_of}
use Rattle.sheet_written.specs.Meaning.{by_meaning, some_value, Terms, no_terms, with-level, with-body, with_passed}
use Rattle.sheet_written.specs.Meaning.{resolve, resolve_args, resolved, term_of}
use Rattle.sheet_written.specs.Form.{Form, only, unit, plus, times, lower, instance, Forms, form_of, form_args, formed}
use Rattle.sheet_written.specs.Occurs.{IsParameter, Each}
use Rattle.sheet_written.specs.Context.{Context, in_block, in_procedure, in_scope, binders, forms, downs, uses, Sees}
use Rattle.sheet_written.specs.Shared as s
use Rattle.sheet_written.specs.Shared.{Parts, part, Row, Rep, Reps, rep_skip, rep_diverge, rep_const, rep_private}
use Rattle.sheet_written.specs.Shared.{rep_name, rep_fetch, rep_operate, rep_assign, rep_seq, rep_while, rep_cond}
use Rattle.sheet_written.specs.Shared.{rep_new, rep_none, rep_part, Any}
use Rattle.sheet_written.specs.Expand.{Slots, with_block, with_rows, Expands, of_slot, of_scope, of_use, of_skip}
use Rattle.sheet_written.specs.Expand.{of_diverge, of_truth, of_number, of_private, of_name, of_fetch, of_operate}
use Rattle.sheet_written.specs.Expand.{of_assign, of_sequence, of_choose, of_while, of_new, ExpandsArgs, no_args}
use Rattle.sheet_written.specs.Expand.{one_arg, Passes, no_more, one_used, one_unused, Expansion}
use Rattle.sheet_written.specs.Represent.{Deeper, as_deep, deeper, Held, Agree, Stands, Given, Represents}
use Rattle.sheet_written.specs.Rules.{RowsRepresent}
use Rattle.sheet_written.proofs.Numbering.{beyond_below, beyond_above, beyond-at}
use Rattle.sheet_written.proofs.Factors.{some-operand, some-question}
use Rattle.sheet_written.proofs.Alike.{each_left, each_right, each-times, each-argument, inside-parameter}
use Rattle.sheet_written.proofs.Alike.{parameter-below}
use Rattle.sheet_written.proofs.ComeLaw.{come-resolve}
use Rattle.sheet_written.proofs.ComeUsed.{Uses, come-used}
use Rattle.sheet_written.proofs.Contexts.{sees-form, sees-count, sees-parameter}
use Rattle.sheet_written.proofs.Standing.{deeper-again, held-here, agree-level, agree-body, agree-passed}
use Rattle.sheet_written.proofs.Standing.{Held-right, stands-deeper, stands-agree, stands-slots, Around}
use Rattle.sheet_written.proofs.Standing.{stands-sees, stands-held, stands-comes}
use Rattle.sheet_written.proofs.Paths.{once-root}

given-deeper : (R : ℕ → Option Row) (ε : Slots) (ρ : Terms) (p q : List ℕ) (bs : List Binder) (f : Form) → Deeper p q →
    Each bs f (Given R ε ρ p) → Each bs f (Given R ε ρ q)
given-deeper R ε ρ p q bs f d a s z l x e = a s z l x (deeper-again d e)

-- what the term of a procedure is given where it is used
given-use : (R : ℕ → Option Row) (Γ Δ : Context) (ps : List Parameter) (f : Form) (fs : ℕ → Form) (ε : Slots)
    (ρ σ : Terms)
    (xs : ℕ → ℕ → Term) (rows : ℕ → ℕ) (p : List ℕ) →
    ((s : ℕ) → IsParameter (binders Δ) s → IsParameter (binders Γ) s) → Agree (length (binders Δ)) σ ρ →
    Each (binders Γ) (instance (length (binders Δ)) (length ps) f fs) (Given R ε ρ p) →
    ((j : ℕ) → j < length ps → 0 < f.of (length (binders Δ) + j) → (q : List ℕ) → Deeper p q →
    Rep R Any q (rows j) (xs j (length q))) →
    Each (inside ps (binders Δ)) f (Given R (with_rows (length (binders Δ)) rows ε)
    (with_passed (length (binders Δ)) xs σ) p)
unfolding instance lower plus with_rows with_passed
given-use R Γ Δ ps f fs ε ρ σ xs rows p up e a h s z l q d = go (inside-parameter ps (binders Δ) s z)
  where
    go : IsParameter (binders Δ) s ⊎ ((j : ℕ) × (j < length ps) × (s ≡ length (binders Δ) + j)) →
        Rep R Any q (beyond (length (binders Δ)) ε.passed rows s)
        (beyond (length (binders Δ)) σ.passed xs s (length q))
    go (inl y) =
        let k : ℕ = length (binders Δ) in
        let b : s < k = parameter-below (binders Δ) s y in
        let g : Rep R Any q (ε.passed s) (ρ.passed s (length q)) =
        a s (up s y) (rw (lt-ltb s k b) (omega arith)) q d in
        let g' : Rep R Any q (ε.passed s) (σ.passed s (length q)) = rw (e.passeds s b) at g in
        rw (beyond_below k ε.passed rows s b, beyond_below k σ.passed xs s b) g'
    go (inr (j, b, i)) =
        let k : ℕ = length (binders Δ) in
        let l' : 0 < f.of (k + j) = rw i at l in
        rw (i, beyond_above k ε.passed rows j, beyond_above k σ.passed xs j) (h j b l' q d)

module _ (N : Numbers) (ns : List Name) (R : ℕ → Option Row) where
  -- a use of a procedure, by what its term and its arguments are
  rep-use : (Γ Δ : Context) (ε : Slots) (id ty r : ℕ) (tys : List ℕ) (ws : Writtens) (ps : List Parameter)
      (body : Written)
      (rows : ℕ → ℕ) (ρ : Terms) (p : List ℕ) →
      meaning ns (binders Γ) id ≡ routine (length (binders Δ)) ty tys → Sees Γ Δ ps body → Stands N ns Γ ε ρ p →
      Each (binders Γ) (by_meaning (meaning ns (binders Γ) id) (only 1)
      (λ k. only 2)
      (λ k. unit k)
      (λ k. instance k ((forms N ns Γ).count k) ((forms N ns Γ).form k)
      (λ j. formed N ns (binders Γ) (forms N ns Γ) ws j))
      (λ often ty tys. plus (only (use_weight often)) (form_args N ns (binders Γ) (forms N ns Γ) ws tys)))
      (Given R ε ρ p) →
      ((q : List ℕ) → Stands N ns Γ ε ρ q → (j : ℕ) → j < length ps → 0 < uses N ns Δ ps body (0 + j) →
      Each (binders Γ) (formed N ns (binders Γ) (forms N ns Γ) ws j) (Given R ε ρ q) →
      Rep R Any q (rows (0 + j)) (resolved N ns (binders Γ) ρ (length q) ws j)) →
      Represents N ns R (in_procedure ps Δ) (with_rows (length (binders Δ)) rows ε) body r →
      Rep R Any p r (by_meaning (meaning ns (binders Γ) id) t.diverge
      (λ k. t.private (length p - suc (ρ.level k)))
      (λ k. ρ.passed k (length p))
      (λ k. ρ.body k (λ j l. resolved N ns (binders Γ) ρ l ws j) (length p))
      (λ often ty tys. t.name id often (ty_of N ty) (resolve_args N ns (binders Γ) ρ (length p) ws tys)))
  unfolding by_meaning Represents binders forms Stands uses with_rows
  rep-use Γ Δ ε id ty r tys ws ps body rows ρ p e x z a h y =
      let k : ℕ = length (binders Δ) in
      let f : Form = form_of N ns (inside ps (binders Δ)) (forms N ns Δ) body in
      let fs : ℕ → Form = λ j. formed N ns (binders Γ) (forms N ns Γ) ws j in
      let xs : ℕ → ℕ → Term = λ j l. resolved N ns (binders Γ) ρ l ws j in
      let o : Around N ns Δ ps body ε ρ p = stands-sees N ns x z in
      let a₁ : Each (binders Γ) (instance k ((forms N ns Γ).count k) ((forms N ns Γ).form k) fs) (Given R ε ρ p) =
      rw e at a in
      let a₂ : Each (binders Γ) (instance k (length ps) f fs) (Given R ε ρ p) =
      rw (sees-form N ns x, sees-count N ns x) at a₁ in
      let args : (j : ℕ) → j < length ps → 0 < f.of (k + j) → (q : List ℕ) → Deeper p q →
      Rep R Any q (rows j) (xs j (length q)) =
      λ j b u q d.
      let e₀ : 0 + j ≡ j = omega arith in
      let u₀ : 0 < f.of (k + (0 + j)) = rw e₀ u in
      rw e₀ at (h q (stands-deeper N ns Γ ε ρ d z) j b u₀
      (given-deeper R ε ρ p q (binders Γ) (fs j) d (each-argument (binders Γ) k (length ps) f fs j b u a₂))) in
      let s : Stands N ns Δ (with_rows k rows ε) (with_passed k xs o.terms) p =
      stands-slots N ns Δ ε (with_rows k rows ε) (with_passed k xs o.terms) p (λ j l. refl)
      (stands-agree N ns Δ ε p (agree-passed k xs o.terms) o.stands) in
      let g : Rep R Any p r (resolve N ns (inside ps (binders Δ)) (with_passed k xs o.terms) (length p) body) =
      y (with_passed k xs o.terms) p s
      (given-use R Γ Δ ps f fs ε ρ o.terms xs rows p (λ i. sees-parameter i x) o.agree a₂ args) in
      rw (e, o.defined xs (length p)) g

  -- a private variable
  rep-held : (ε : Slots) (ρ : Terms) (p : List ℕ) (n id k d : ℕ) (bs : List Binder) (φ : Forms) (ws : Writtens) →
      meaning ns bs id ≡ private k d → R n ≡ some (s.private (ε.block k)) → Held-right ε ρ p (meaning ns bs id) →
      Rep R Any p n (by_meaning (meaning ns bs id) t.diverge
      (λ i. t.private (length p - suc (ρ.level i)))
      (λ i. ρ.passed i (length p))
      (λ i. ρ.body i (λ j l. resolved N ns bs ρ l ws j) (length p))
      (λ often ty tys. t.name id often (ty_of N ty) (resolve_args N ns bs ρ (length p) ws tys)))
  unfolding by_meaning Held-right
  rep-held ε ρ p n id k d bs φ ws e h g =
      let i : Held p (ρ.level k) (ε.block k) = rw e at g in
      let x : Rep R Any p n (t.private (length p - suc (ρ.level k))) = rep_private h i.index in
      rw e x

  -- a declared name
  rep-named : (ρ : Terms) (p : List ℕ) (n id ty : ℕ) (often : Often) (tys : List ℕ) (bs : List Binder) (ws : Writtens)
      (xs : Parts) → meaning ns bs id ≡ named often ty tys → R n ≡ some (s.name id often (ty_of N ty) xs) →
      Reps R Any p xs (resolve_args N ns bs ρ (length p) ws tys) →
      Rep R Any p n (by_meaning (meaning ns bs id) t.diverge
      (λ i. t.private (length p - suc (ρ.level i)))
      (λ i. ρ.passed i (length p))
      (λ i. ρ.body i (λ j l. resolved N ns bs ρ l ws j) (length p))
      (λ often ty tys. t.name id often (ty_of N ty) (resolve_args N ns bs ρ (length p) ws tys)))
  unfolding by_meaning
  rep-named ρ p n id ty often tys bs ws xs e h a =
      let x : Rep R Any p n (t.name id often (ty_of N ty) (resolve_args N ns bs ρ (length p) ws tys)) = rep_name h a in
      rw e x

  name-args : (bs : List Binder) (φ : Forms) (id ty : ℕ) (often : Often) (tys : List ℕ) (ws : Writtens)
      {P : ℕ → Type 0} → meaning ns bs id ≡ named often ty tys →
      Each bs (by_meaning (meaning ns bs id) (only 1)
      (λ k. only 2)
      (λ k. unit k)
      (λ k. instance k (φ.count k) (φ.form k) (λ j. formed N ns bs φ ws j))
      (λ often ty tys. plus (only (use_weight often)) (form_args N ns bs φ ws tys))) P →
      Each bs (form_args N ns bs φ ws tys) P
  unfolding by_meaning
  name-args bs φ id ty often tys ws {P = P} e a =
      let b : Each bs (plus (only (use_weight often)) (form_args N ns bs φ ws tys)) P = rw e at a in
      each_right bs (only (use_weight often)) (form_args N ns bs φ ws tys) b

  -- a new: its row on the path
  stands-new : (Γ : Context) (ε : Slots) (id d n : ℕ) (ρ : Terms) (p : List ℕ) → Stands N ns Γ ε ρ p →
      Stands N ns (in_block id d Γ) (with_block (length (binders Γ)) n ε) (with-level (length (binders Γ)) (length p) ρ)
      (n ∷ p)
  unfolding Stands with_block with-level
  stands-new Γ ε id d n ρ p z =
      let k : ℕ = length (binders Γ) in
      let h : Held (n ∷ p) (beyond k ρ.level (λ j. length p) k) (beyond k ε.block (λ j. n) k) =
      rw (beyond-at k ρ.level (λ j. length p), beyond-at k ε.block (λ j. n)) (held-here p n) in (
        h,
        stands-slots N ns Γ ε (with_block k n ε) (with-level k (length p) ρ) (n ∷ p)
            (λ j l. beyond_below k ε.block (λ i. n) j l)
            (stands-agree N ns Γ ε (n ∷ p) (agree-level k (length p) ρ) (stands-deeper N ns Γ ε ρ (deeper as_deep) z)),
      )

  -- kind 28: the procedure as it is resolved
  stands-scope : (Γ : Context) (ε : Slots) (id ty : ℕ) (ps : List Parameter) (body : Written) (ρ : Terms) (p : List ℕ) →
      Stands N ns Γ ε ρ p →
      Stands N ns (in_scope id ty ps body Γ) ε
      (with-body (length (binders Γ))
      (λ xs l. resolve N ns (inside ps (binders Γ)) (with_passed (length (binders Γ)) xs ρ) l body) ρ) p
  unfolding Stands with-body
  stands-scope Γ ε id ty ps body ρ p z =
      let k : ℕ = length (binders Γ) in
      let P : (ℕ → ℕ → Term) → ℕ → Term = λ xs l. resolve N ns (inside ps (binders Γ)) (with_passed k xs ρ) l body in
      (ρ, agree-body k P ρ, λ xs l. ap (λ (f : (ℕ → ℕ → Term) → ℕ → Term). f xs l) (beyond-at k ρ.body (λ j. P)), z)

  -- by the ways in which it is expanded
  mutual
    unfolding resolve resolve_args resolved form_of form_args formed binders forms after IsParameter with-level with-body
        with_block Any
        Represents

    rep-expands : {Γ : Context} {ε : Slots} {W : Written} {n r m : ℕ} → Expands N ns R Γ ε W n r m →
        (ρ : Terms) (p : List ℕ) →
        Stands N ns Γ ε ρ p → Each (binders Γ) (form_of N ns (binders Γ) (forms N ns Γ) W) (Given R ε ρ p) →
        Rep R Any p r (resolve N ns (binders Γ) ρ (length p) W)
    rep-expands (of_slot {Γ = Γ} {ε = ε} {W = W} {s = s} e h) ρ p z a =
        let u : Uses (binders Γ) (form_of N ns (binders Γ) (forms N ns Γ) W) s = come-used N ns W Γ s e in
        rw (h, come-resolve N ns W (binders Γ) (downs ns Γ) ρ (length p) s (stands-comes N ns Γ ε ρ p z) e)
        (a s u.0 u.1 p as_deep)
    rep-expands (of_scope {Γ = Γ} {ε = ε} {id = id} {ty = ty} {ps = ps} {body = body} x) ρ p z a =
        rep-expands x
        (with-body (length (binders Γ))
        (λ xs l. resolve N ns (inside ps (binders Γ)) (with_passed (length (binders Γ)) xs ρ) l body) ρ) p
        (stands-scope Γ ε id ty ps body ρ p z) a
    rep-expands (of_use {Γ = Γ} {Δ = Δ} {ε = ε} {r = r} {id = id} {ty = ty} {tys = tys} {ws = ws} {ps = ps}
        {body = body}
        {rows = rows} e s x y) ρ p z a =
        rep-use Γ Δ ε id ty r tys ws ps body rows ρ p e s z a (λ q g j b u c. rep-passes x ρ q g j b u c)
        (λ σ q g c. rep-expands y σ q g c)
    rep-expands (of_skip h) ρ p z a = rep_skip h
    rep-expands (of_diverge h) ρ p z a = rep_diverge h
    rep-expands (of_truth h) ρ p z a = rep_const h
    rep-expands (of_number h) ρ p z a = rep_const h
    rep-expands (of_private {Γ = Γ} {ε = ε} {n = n} {id = id} {k = k} {d = d} {ws = ws} e h) ρ p z a =
        rep-held ε ρ p n id k d (binders Γ) (forms N ns Γ) ws e h (stands-held N ns Γ ε ρ p z id)
    rep-expands (of_name {Γ = Γ} {n = n} {id = id} {ty = ty} {often = often} {tys = tys} {ws = ws} {xs = xs} e x h) ρ p
        z a =
        rep-named ρ p n id ty often tys (binders Γ) ws xs e h
        (rep-args x ρ p z (name-args (binders Γ) (forms N ns Γ) id ty often tys ws e a))
    rep-expands (of_fetch x h) ρ p z a = rep_fetch h (rep-expands x ρ p z a)
    rep-expands (of_operate {Γ = Γ} {op = op} {x = x} {y = y} dx dy h) ρ p z a =
        let o : Operation = record { over = N; operator = op } in
        let f : Form = form_of N ns (binders Γ) (forms N ns Γ) x in
        let g : Form = form_of N ns (binders Γ) (forms N ns Γ) y in
        rep_operate h (rep-expands dx ρ p z (each_left (binders Γ) f (times (operands o) g) a))
        (rep-expands dy ρ p z
        (each-times (binders Γ) (operands o) g (some-operand o)
        (each_right (binders Γ) f (times (operands o) g) a)))
    rep-expands (of_assign {Γ = Γ} {x = x} {y = y} dx dy h) ρ p z a =
        let v : ℕ = values N (typed ns (binders Γ) x) in
        let f : Form = form_of N ns (binders Γ) (forms N ns Γ) y in
        let g : Form = form_of N ns (binders Γ) (forms N ns Γ) x in
        rep_assign h
        (rep-expands dx ρ p z
        (each-times (binders Γ) v g (some_value N (typed ns (binders Γ) x))
        (each_right (binders Γ) f (times v g) a)))
        (rep-expands dy ρ p z (each_left (binders Γ) f (times v g) a))
    rep-expands (of_sequence {Γ = Γ} {x = x} {y = y} dx dy h) ρ p z a =
        let f : Form = form_of N ns (binders Γ) (forms N ns Γ) x in
        let g : Form = form_of N ns (binders Γ) (forms N ns Γ) y in
        rep_seq h (rep-expands dx ρ p z (each_left (binders Γ) f g a))
        (rep-expands dy ρ p z (each_right (binders Γ) f g a))
    rep-expands (of_choose {Γ = Γ} {q = b} {x = x} {y = y} db dx dy h) ρ p z a =
        let e : Form = form_of N ns (binders Γ) (forms N ns Γ) b in
        let f : Form = form_of N ns (binders Γ) (forms N ns Γ) x in
        let g : Form = form_of N ns (binders Γ) (forms N ns Γ) y in
        let c = each_right (binders Γ) e (plus f g) a in
        rep_cond h (rep-expands db ρ p z (each_left (binders Γ) e (plus f g) a))
        (rep-expands dx ρ p z (each_left (binders Γ) f g c))
        (rep-expands dy ρ p z (each_right (binders Γ) f g c))
    rep-expands (of_while {Γ = Γ} {x = x} {y = y} dx dy h) ρ p z a =
        let f : Form = form_of N ns (binders Γ) (forms N ns Γ) x in
        let g : Form = form_of N ns (binders Γ) (forms N ns Γ) y in
        rep_while h (rep-expands dx ρ p z (each_left (binders Γ) f g a))
        (rep-expands dy ρ p z (each_right (binders Γ) f g a))
    rep-expands (of_new {Γ = Γ} {ε = ε} {n = n} {id = id} {d = d} {x = x} dx h) ρ p z a =
        let f : Form = form_of N ns (binders (in_block id d Γ)) (forms N ns Γ) x in
        rep_new h tt
        (rep-expands dx (with-level (length (binders Γ)) (length p) ρ) (n ∷ p) (stands-new Γ ε id d n ρ p z)
        (given-deeper R ε ρ p (n ∷ p) (binders Γ) f (deeper as_deep)
        (each-times (binders Γ) (values N d) f (some_value N d) a)))

    rep-args : {Γ : Context} {ε : Slots} {ws : Writtens} {tys : List ℕ} {n m : ℕ} {xs : Parts} →
        ExpandsArgs N ns R Γ ε ws tys n xs m → (ρ : Terms) (p : List ℕ) → Stands N ns Γ ε ρ p →
        Each (binders Γ) (form_args N ns (binders Γ) (forms N ns Γ) ws tys) (Given R ε ρ p) →
        Reps R Any p xs (resolve_args N ns (binders Γ) ρ (length p) ws tys)
    rep-args no_args ρ p z a = rep_none
    rep-args (one_arg {Γ = Γ} {a = b} {ty = ty} {w = w} {ws = ws} {tys = tys} {T = T} {xs = xs} e x y) ρ p z a =
        let q : ℕ = questions (ty_of N ty) in
        let f : Form = form_of N ns (binders Γ) (forms N ns Γ) w in
        let c : Form = only (answers (ty_of N ty)) in
        let g : Form = form_args N ns (binders Γ) (forms N ns Γ) ws tys in
        let h : Reps R Any p (part (ty_of N ty) b xs)
        (t.arg (ty_of N ty) (resolve N ns (binders Γ) ρ (length p) w)
        (resolve_args N ns (binders Γ) ρ (length p) ws tys)) =
        rep_part
        (rep-expands x ρ p z (each-times (binders Γ) q f (some-question (ty_of N ty))
        (each_left (binders Γ) (times q f) c (each_left (binders Γ) (plus (times q f) c) g a))))
        (rep-args y ρ p z (each_right (binders Γ) (plus (times q f) c) g a)) in
        rw e h

    -- the argument i of those from number j on
    rep-passes : {Γ : Context} {ε : Slots} {used rows : ℕ → ℕ} {j : ℕ} {ps : List Parameter} {ws : Writtens} {n m : ℕ} →
        Passes N ns R Γ ε used rows j ps ws n m → (ρ : Terms) (p : List ℕ) → Stands N ns Γ ε ρ p → (i : ℕ) →
        i < length ps →
        0 < used (j + i) → Each (binders Γ) (formed N ns (binders Γ) (forms N ns Γ) ws i) (Given R ε ρ p) →
        Rep R Any p (rows (j + i)) (resolved N ns (binders Γ) ρ (length p) ws i)
    rep-passes no_more ρ p z i b u a = absurd (omega arith)
    rep-passes (one_used {j = j} h x y) ρ p z zero b u a =
        let e : j + 0 ≡ j = omega arith in
        rw e (rep-expands x ρ p z a)
    rep-passes (one_used {used = used} {j = j} h x y) ρ p z (suc i) b u a =
        let e : j + suc i ≡ suc j + i = omega arith in
        let u' : 0 < used (suc j + i) = rw e at u in
        rw e (rep-passes y ρ p z i (omega arith) u' a)
    rep-passes (one_unused {used = used} {j = j} h y) ρ p z zero b u a =
        let e : j + 0 ≡ j = omega arith in
        let u' : 0 < used j = rw e at u in
        absurd (omega (arith, h))
    rep-passes (one_unused {used = used} {j = j} h y) ρ p z (suc i) b u a =
        let e : j + suc i ≡ suc j + i = omega arith in
        let u' : 0 < used (suc j + i) = rw e at u in
        rw e (rep-passes y ρ p z i (omega arith) u' a)

-- THEOREM: the row of a term is right for it
expands-rep : (N : Numbers) (ns : List Name) (R : ℕ → Option Row) {Γ : Context} {ε : Slots} {W : Written}
    {n r m : ℕ} →
    Expands N ns R Γ ε W n r m → Represents N ns R Γ ε W r
unfolding Represents
expands-rep N ns R x ρ p z a = rep-expands N ns R x ρ p z a

-- THEOREM: the row of a sheet represents its term, and the row of a new stands at most once on a path
pub expands-sheet : RowsRepresent
unfolding RowsRepresent Expansion term_of Stands Represents binders IsParameter
expands-sheet S R r n x =
    once-root R (expands-rep S.numbers S.names R x no_terms [] tt (λ s z l. absurd z))
