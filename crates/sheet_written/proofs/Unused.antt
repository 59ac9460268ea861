-- A parameter whose coefficient is 0 does not matter: environments that agree on the parameters with a coefficient
-- above 0 give the same term. Document 02 [1]; so the code need not expand an argument that is not used.
use Prim.Native.Nat.{ℕ, zero, suc, ◌+◌, ◌-◌, ◌<◌}
use native.Mathlib.Omega.{arith}
use mathlib.Core.Path.{◌≡◌, refl, sym, ◌∙◌}
use mathlib.Core.Logic.{◌⊎◌, inl, inr}
use mathlib.Core.List.{List, [], ◌∷◌}
use lib.ListN.{length}
use borrow.Author.Tests.{lt-ltb, eq-eqb}
use Rattle.language.specs.Ty.{questions, answers}
use Rattle.language.specs.Term as t
use Rattle.language.specs.Term.{Term, Operation}
use Rattle.language.specs.Typing.{operands}
use Rattle.language.specs.declared.Numbers.{Numbers}
use Rattle.language.specs.Weight.{use_weight}
use Rattle.sheet_parts.specs.Rule.{values}
use Rattle.sheet_written.specs.Environment.{beyond}
use Rattle.sheet_written.specs.Written.{Written, skip, diverge, truth, number, call, fetch, operate, assign}
use Rattle.sheet_written.specs.Written.{sequence, while, choose, new, procedure, Parameter, Writtens, none, more}
use Rattle.sheet_written.specs.Written.{Name}
use Rattle.sheet_written.specs.Meaning.{Binder, a_block, a_parameter, a_procedure, Meaning, private, argument}
use Rattle.sheet_written.specs.Meaning.{routine, named, retired, free, meant, meaning, inside, after, types_of, typed}
use Rattle.sheet_written.specs.Meaning.{ty_of, by_meaning, some_value, Terms, with-level, with-body, with_passed}
use Rattle.sheet_written.specs.Meaning.{resolve, resolve_args, resolved}
use Rattle.sheet_written.specs.Form.{Form, only, unit, plus, times, lower, instance, Forms, with_form, form_of}
use Rattle.sheet_written.specs.Form.{form_args, formed}
use Rattle.sheet_written.specs.Occurs.{IsParameter}
use Rattle.sheet_written.specs.Exchange.{used_by}
use Rattle.sheet_written.proofs.Numbering.{beyond_below, beyond_above, beyond-at, below, one-more-binder}
use Rattle.sheet_written.proofs.Factors.{some-operand, some-question, summand}
use Rattle.sheet_written.proofs.Alike.{Alike, Alike-right, Agree, alike-agree, alike-more, each_left}
use Rattle.sheet_written.proofs.Alike.{each_right, each-times, alike-level, alike-body, inside-parameter}
use Rattle.sheet_written.proofs.Alike.{parameter-below}

module _ (N : Numbers) (ns : List Name) where
  abbrev pub Rights : Forms → List Binder → Terms → Terms → Type 0
  Rights φ bs ρ σ = (id : ℕ) → Alike-right φ bs ρ σ (meaning ns bs id)

  rights-agree : (φ ψ : Forms) (bs : List Binder) (ρ σ ρ' σ' : Terms) → Agree (length bs) φ ψ ρ σ ρ' σ' →
      Rights φ bs ρ σ → Rights ψ bs ρ' σ'
  rights-agree φ ψ bs ρ σ ρ' σ' a r id =
      alike-agree (length bs) φ ψ bs ρ σ ρ' σ' (meaning ns bs id) a (below ns bs id) (r id)

  rights-more : (φ : Forms) (c : Binder) (bs : List Binder) (ρ σ : Terms) →
      Alike-right φ (c ∷ bs) ρ σ (meant (length bs) c) → Rights φ bs ρ σ → Rights φ (c ∷ bs) ρ σ
  rights-more φ c bs ρ σ h r =
      one-more-binder (Alike-right φ (c ∷ bs) ρ σ) ns c bs h (λ id b. alike-more φ c bs ρ σ (meaning ns bs id) (r id))

  pub rights-block : (φ : Forms) (id d n : ℕ) (bs : List Binder) (ρ σ : Terms) → Rights φ bs ρ σ →
      Rights φ (a_block id d ∷ bs) (with-level (length bs) n ρ) (with-level (length bs) n σ)
  unfolding with-level Alike-right meant
  rights-block φ id d n bs ρ σ r =
      let k : ℕ = length bs in
      let ρ' : Terms = with-level k n ρ in
      let σ' : Terms = with-level k n σ in
      let a : Agree k φ φ ρ σ ρ' σ' = record {
        forms = λ j h. refl;
        counts = λ j h. refl;
        passeds = λ j h. refl;
        passeds' = λ j h. refl;
        bodies = λ j h. refl;
        bodies' = λ j h. refl;
        levels = λ j h. beyond_below k ρ.level (λ i. n) j h;
        levels' = λ j h. beyond_below k σ.level (λ i. n) j h;
      } in
      rights-more φ (a_block id d) bs ρ' σ' (beyond-at k ρ.level (λ i. n) ∙ sym (beyond-at k σ.level (λ i. n)))
      (rights-agree φ φ bs ρ σ ρ' σ' a r)

  rights-inside : (φ : Forms) (ps : List Parameter) (bs : List Binder) (ρ σ : Terms) → Rights φ bs ρ σ →
      Rights φ (inside ps bs) ρ σ
  unfolding inside Alike-right meant IsParameter
  rights-inside φ [] bs ρ σ r = r
  rights-inside φ (p ∷ ps) bs ρ σ r =
      rights-inside φ ps (a_parameter p.id p.holds ∷ bs) ρ σ
      (rights-more φ (a_parameter p.id p.holds) bs ρ σ (inl refl) r)

  pub rights-passed : (φ : Forms) (ps : List Parameter) (bs : List Binder) (ρ σ : Terms) (xs ys : ℕ → ℕ → Term) →
      Rights φ bs ρ σ → Rights φ (inside ps bs) (with_passed (length bs) xs ρ) (with_passed (length bs) ys σ)
  unfolding with_passed
  rights-passed φ ps bs ρ σ xs ys r =
      let k : ℕ = length bs in
      let ρ' : Terms = with_passed k xs ρ in
      let σ' : Terms = with_passed k ys σ in
      let a : Agree k φ φ ρ σ ρ' σ' = record {
        forms = λ j h. refl;
        counts = λ j h. refl;
        levels = λ j h. refl;
        levels' = λ j h. refl;
        bodies = λ j h. refl;
        bodies' = λ j h. refl;
        passeds = λ j h. beyond_below k ρ.passed xs j h;
        passeds' = λ j h. beyond_below k σ.passed ys j h;
      } in
      rights-inside φ ps bs ρ' σ' (rights-agree φ φ bs ρ σ ρ' σ' a r)

  pub rights-after : (φ : Forms) (id ty : ℕ) (ps : List Parameter) (bs : List Binder) (ρ σ : Terms) (f : Form)
      (p q : (ℕ → ℕ → Term) → ℕ → Term) →
      ((xs ys : ℕ → ℕ → Term) →
      ((s : ℕ) → IsParameter bs s → s < length bs → 0 < f.of s → (n : ℕ) → ρ.passed s n ≡ σ.passed s n) →
      ((j : ℕ) → j < length ps → 0 < f.of (length bs + j) → (n : ℕ) → xs j n ≡ ys j n) →
      (n : ℕ) → p xs n ≡ q ys n) →
      Rights φ bs ρ σ →
      Rights (with_form (length bs) f (length ps) φ) (after id ty ps bs) (with-body (length bs) p ρ)
      (with-body (length bs) q σ)
  unfolding with_form with-body after Alike-right meant IsParameter
  rights-after φ id ty ps bs ρ σ f p q h r =
      let k : ℕ = length bs in
      let ψ : Forms = with_form k f (length ps) φ in
      let ρ' : Terms = with-body k p ρ in
      let σ' : Terms = with-body k q σ in
      let a : Agree k φ ψ ρ σ ρ' σ' = record {
        forms = λ j l. beyond_below k φ.form (λ i. f) j l;
        counts = λ j l. beyond_below k φ.count (λ i. length ps) j l;
        levels = λ j l. refl;
        levels' = λ j l. refl;
        passeds = λ j l. refl;
        passeds' = λ j l. refl;
        bodies = λ j l. beyond_below k ρ.body (λ i. p) j l;
        bodies' = λ j l. beyond_below k σ.body (λ i. q) j l;
      } in
      rights-more ψ (a_procedure id ty (types_of ps)) bs ρ' σ'
      (λ xs ys. rw (
        beyond-at k φ.form (λ i. f),
        beyond-at k φ.count (λ i. length ps),
        beyond-at k ρ.body (λ i. p),
        beyond-at k σ.body (λ i. q),
      )
      (h xs ys))
      (rights-agree φ ψ bs ρ σ ρ' σ' a r)

  -- the arguments of a procedure's own parameters that it uses
  pub alike-inside : (ps : List Parameter) (bs : List Binder) (f : Form) (ρ σ : Terms) (xs ys : ℕ → ℕ → Term) →
      ((s : ℕ) → IsParameter bs s → s < length bs → 0 < f.of s → (n : ℕ) → ρ.passed s n ≡ σ.passed s n) →
      ((j : ℕ) → j < length ps → 0 < f.of (length bs + j) → (n : ℕ) → xs j n ≡ ys j n) →
      Alike (inside ps bs) f (with_passed (length bs) xs ρ) (with_passed (length bs) ys σ)
  unfolding with_passed
  alike-inside ps bs f ρ σ xs ys g h s z l n = go (inside-parameter ps bs s z)
    where
      go : IsParameter bs s ⊎ ((j : ℕ) × (j < length ps) × (s ≡ length bs + j)) →
          beyond (length bs) ρ.passed xs s n ≡ beyond (length bs) σ.passed ys s n
      go (inl y) =
          let b : s < length bs = parameter-below bs s y in
          rw (beyond_below (length bs) ρ.passed xs s b, beyond_below (length bs) σ.passed ys s b) (g s y b l n)
      go (inr (j, i, e)) =
          let l' : 0 < f.of (length bs + j) = rw e at l in
          rw (e, beyond_above (length bs) ρ.passed xs j, beyond_above (length bs) σ.passed ys j) (h j i l' n)

  -- a use, by what its id means; the arguments that are used are alike
  pub unused-use : (bs : List Binder) (φ : Forms) (ρ σ : Terms) (n id : ℕ) (ws ws' : Writtens) (m : Meaning) →
      Alike-right φ bs ρ σ m →
      ((j : ℕ) → 0 < used_by φ m (0 + j) → Alike bs (formed N ns bs φ ws j) ρ σ → (l : ℕ) →
      resolved N ns bs ρ l ws j ≡ resolved N ns bs σ l ws' j) →
      (((j : ℕ) → 0 < used_by φ m j) → (tys : List ℕ) → Alike bs (form_args N ns bs φ ws tys) ρ σ →
      resolve_args N ns bs ρ n ws tys ≡ resolve_args N ns bs σ n ws' tys) →
      Alike bs (by_meaning m (only 1)
      (λ k. only 2)
      (λ k. unit k)
      (λ k. instance k (φ.count k) (φ.form k) (λ j. formed N ns bs φ ws j))
      (λ often ty tys. plus (only (use_weight often)) (form_args N ns bs φ ws tys))) ρ σ →
      by_meaning m t.diverge
      (λ k. t.private (n - suc (ρ.level k)))
      (λ k. ρ.passed k n)
      (λ k. ρ.body k (λ j l. resolved N ns bs ρ l ws j) n)
      (λ often ty tys. t.name id often (ty_of N ty) (resolve_args N ns bs ρ n ws tys))
      ≡ by_meaning m t.diverge
      (λ k. t.private (n - suc (σ.level k)))
      (λ k. σ.passed k n)
      (λ k. σ.body k (λ j l. resolved N ns bs σ l ws' j) n)
      (λ often ty tys. t.name id often (ty_of N ty) (resolve_args N ns bs σ n ws' tys))
  unfolding by_meaning Alike-right unit instance lower plus used_by
  unused-use bs φ ρ σ n id ws ws' (private k d) h g l a = rw h
  unused-use bs φ ρ σ n id ws ws' (argument k ty) h g l a = a k h (rw (eq-eqb k k refl) (omega arith)) n
  unused-use bs φ ρ σ n id ws ws' (routine k ty tys) h g l a =
      h (λ j i. resolved N ns bs ρ i ws j) (λ j i. resolved N ns bs σ i ws' j)
      (λ s z b p i. a s z (rw (lt-ltb s k b) (omega arith)) i)
      (λ j b p i.
      let e : 0 + j ≡ j = omega arith in
      let p' : 0 < (φ.form k).of (k + (0 + j)) = rw e p in
      g j p'
      (λ s z q. a s z (omega (
        arith,
        summand (φ.count k) (λ x. (φ.form k).of (k + x)) (λ x. formed N ns bs φ ws x)
            s j b p q,
      )))
      i)
      n
  unused-use bs φ ρ σ n id ws ws' (named often ty tys) h g l a =
      rw (l (λ j. omega arith) tys (each_right bs (only (use_weight often)) (form_args N ns bs φ ws tys) a))
  unused-use bs φ ρ σ n id ws ws' retired h g l a = refl
  unused-use bs φ ρ σ n id ws ws' free h g l a = refl

  -- THEOREM: environments that agree where the form has a coefficient give the same term
  mutual
    unfolding form_of form_args formed resolve resolve_args resolved IsParameter after

    pub unused : (W : Written) (bs : List Binder) (φ : Forms) (ρ σ : Terms) → Rights φ bs ρ σ →
        Alike bs (form_of N ns bs φ W) ρ σ → (n : ℕ) → resolve N ns bs ρ n W ≡ resolve N ns bs σ n W
    unused skip bs φ ρ σ r a n = refl
    unused (diverge ty) bs φ ρ σ r a n = refl
    unused (truth b) bs φ ρ σ r a n = refl
    unused (number b) bs φ ρ σ r a n = refl
    unused (call id ws) bs φ ρ σ r a n =
        unused-use bs φ ρ σ n id ws ws (meaning ns bs id) (r id) (λ j u b l. unused-passed ws bs φ ρ σ j r b l)
        (λ u tys b. unused-args ws bs φ ρ σ tys r b n) a
    unused (fetch v) bs φ ρ σ r a n = rw (unused v bs φ ρ σ r a n)
    unused (operate op x y) bs φ ρ σ r a n =
        let o : Operation = record { over = N; operator = op } in
        let f : Form = form_of N ns bs φ x in
        let g : Form = form_of N ns bs φ y in
        rw (
          unused x bs φ ρ σ r (each_left bs f (times (operands o) g) a) n,
          unused y bs φ ρ σ r
              (each-times bs (operands o) g (some-operand o) (each_right bs f (times (operands o) g) a)) n,
        )
    unused (assign x y) bs φ ρ σ r a n =
        let v : ℕ = values N (typed ns bs x) in
        let f : Form = form_of N ns bs φ y in
        let g : Form = form_of N ns bs φ x in
        rw (
          unused y bs φ ρ σ r (each_left bs f (times v g) a) n,
          unused x bs φ ρ σ r
              (each-times bs v g (some_value N (typed ns bs x)) (each_right bs f (times v g) a)) n,
        )
    unused (sequence x y) bs φ ρ σ r a n =
        let f : Form = form_of N ns bs φ x in
        let g : Form = form_of N ns bs φ y in
        rw (unused x bs φ ρ σ r (each_left bs f g a) n, unused y bs φ ρ σ r (each_right bs f g a) n)
    unused (choose b x y) bs φ ρ σ r a n =
        let e : Form = form_of N ns bs φ b in
        let f : Form = form_of N ns bs φ x in
        let g : Form = form_of N ns bs φ y in
        let c : Alike bs (plus f g) ρ σ = each_right bs e (plus f g) a in
        rw (
          unused b bs φ ρ σ r (each_left bs e (plus f g) a) n,
          unused x bs φ ρ σ r (each_left bs f g c) n,
          unused y bs φ ρ σ r (each_right bs f g c) n,
        )
    unused (while x y) bs φ ρ σ r a n =
        let f : Form = form_of N ns bs φ x in
        let g : Form = form_of N ns bs φ y in
        rw (unused x bs φ ρ σ r (each_left bs f g a) n, unused y bs φ ρ σ r (each_right bs f g a) n)
    unused (new id d c) bs φ ρ σ r a n =
        let f : Form = form_of N ns (a_block id d ∷ bs) φ c in
        rw (unused c (a_block id d ∷ bs) φ (with-level (length bs) n ρ) (with-level (length bs) n σ)
        (rights-block φ id d n bs ρ σ r) (alike-level id d n bs f ρ σ
        (each-times bs (values N d) f (some_value N d) a))
        (suc n))
    unused (procedure id ty ps body rest) bs φ ρ σ r a n =
        let f : Form = form_of N ns (inside ps bs) φ body in
        unused rest (after id ty ps bs) (with_form (length bs) f (length ps) φ)
        (with-body (length bs) (λ xs l. resolve N ns (inside ps bs) (with_passed (length bs) xs ρ) l body) ρ)
        (with-body (length bs) (λ xs l. resolve N ns (inside ps bs) (with_passed (length bs) xs σ) l body) σ)
        (rights-after φ id ty ps bs ρ σ f
        (λ xs l. resolve N ns (inside ps bs) (with_passed (length bs) xs ρ) l body)
        (λ xs l. resolve N ns (inside ps bs) (with_passed (length bs) xs σ) l body)
        (λ xs ys g h l. unused body (inside ps bs) φ (with_passed (length bs) xs ρ) (with_passed (length bs) ys σ)
        (rights-passed φ ps bs ρ σ xs ys r) (alike-inside ps bs f ρ σ xs ys g h) l)
        r)
        (alike-body id ty ps bs (form_of N ns (after id ty ps bs) (with_form (length bs) f (length ps) φ) rest) ρ σ
        (λ xs l. resolve N ns (inside ps bs) (with_passed (length bs) xs ρ) l body)
        (λ xs l. resolve N ns (inside ps bs) (with_passed (length bs) xs σ) l body) a)
        n

    unused-args : (ws : Writtens) (bs : List Binder) (φ : Forms) (ρ σ : Terms) (tys : List ℕ) → Rights φ bs ρ σ →
        Alike bs (form_args N ns bs φ ws tys) ρ σ → (n : ℕ) →
        resolve_args N ns bs ρ n ws tys ≡ resolve_args N ns bs σ n ws tys
    unused-args none bs φ ρ σ tys r a n = refl
    unused-args (more w ws) bs φ ρ σ [] r a n = refl
    unused-args (more w ws) bs φ ρ σ (ty ∷ tys) r a n =
        let q : ℕ = questions (ty_of N ty) in
        let f : Form = form_of N ns bs φ w in
        let c : Form = only (answers (ty_of N ty)) in
        let g : Form = form_args N ns bs φ ws tys in
        rw (
          unused w bs φ ρ σ r (each-times bs q f (some-question (ty_of N ty))
              (each_left bs (times q f) c (each_left bs (plus (times q f) c) g a))) n,
          unused-args ws bs φ ρ σ tys r (each_right bs (plus (times q f) c) g a) n,
        )

    unused-passed : (ws : Writtens) (bs : List Binder) (φ : Forms) (ρ σ : Terms) (j : ℕ) → Rights φ bs ρ σ →
        Alike bs (formed N ns bs φ ws j) ρ σ → (n : ℕ) → resolved N ns bs ρ n ws j ≡ resolved N ns bs σ n ws j
    unused-passed none bs φ ρ σ j r a n = refl
    unused-passed (more w ws) bs φ ρ σ zero r a n = unused w bs φ ρ σ r a n
    unused-passed (more w ws) bs φ ρ σ (suc j) r a n = unused-passed ws bs φ ρ σ j r a n
