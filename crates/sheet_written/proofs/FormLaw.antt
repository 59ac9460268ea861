-- The form of a term as written evaluates to its weight, document 02 [1].
use Prim.Native.Nat.{ℕ, zero, suc, ◌+◌, ◌*◌, ◌<◌}
use native.Mathlib.Omega.{arith}
use mathlib.Core.Path.{◌≡◌, refl, sym, ◌∙◌}
use mathlib.Core.List.{List, [], ◌∷◌}
use lib.ListN.{length}
use Rattle.language.specs.Ty.{questions, answers}
use Rattle.language.specs.Weight.{weight}
use Rattle.language.specs.Term.{Operation}
use Rattle.language.specs.Typing.{operands}
use Rattle.language.specs.declared.Numbers.{Numbers}
use Rattle.language.specs.Weight.{use_weight}
use Rattle.sheet_parts.specs.Rule.{values}
use Rattle.sheet_written.specs.Environment.{beyond}
use Rattle.sheet_written.specs.Written.{Written, skip, diverge, truth, number, call, fetch, operate, assign}
use Rattle.sheet_written.specs.Written.{sequence, while, choose, new, procedure, Parameter, Writtens, none, more}
use Rattle.sheet_written.specs.Written.{Name, Sheet}
use Rattle.sheet_written.specs.Meaning.{Binder, a_block, a_parameter, a_procedure, Meaning, private, argument}
use Rattle.sheet_written.specs.Meaning.{routine, named, retired, free, meant, declared, meaning, inside, after}
use Rattle.sheet_written.specs.Meaning.{types_of, typed, ty_of, by_meaning, term_of}
use Rattle.sheet_written.specs.Weigh.{Weights, no_weights, weigh, weigh_args, weighed, weigh_sheet, with-body}
use Rattle.sheet_written.specs.Weigh.{with_passed}
use Rattle.sheet_written.specs.Form.{Form, only, unit, plus, times, lower, instance, Forms, no_forms, with_form}
use Rattle.sheet_written.specs.Form.{form_of, form_args, formed, total, over, value, form_sheet}
use Rattle.sheet_written.proofs.Numbering.{all-declared, beyond_below, beyond-at, Below, below, one-more-binder}
use Rattle.sheet_written.proofs.Forming.{total-same, value-only, value-plus, value-times, value-instance}
use Rattle.sheet_written.proofs.Forming.{value-lower, value-more, unit-more, unit-here, value-inside}
use Rattle.sheet_written.proofs.Weighing.{weigh-sheet}

-- what is meant is a parameter in scope, or a procedure that weighs what its form says
unfoldable pub Forms-right : Forms → List Binder → Weights → Meaning → Type 0
Forms-right φ bs ω (private k d) = Unit
Forms-right φ bs ω (argument k ty) = (x : ℕ → ℕ) → value bs (unit k) x ≡ x k
Forms-right φ bs ω (routine k ty tys) =
    (xs : ℕ → ℕ) → ω.body k xs
    ≡ value bs (lower k (φ.form k)) ω.passed + total (φ.count k) (λ j. (φ.form k).of (k + j) * xs j)
Forms-right φ bs ω (named often ty tys) = Unit
Forms-right φ bs ω retired = Unit
Forms-right φ bs ω free = Unit

-- environments that agree below k
record Agree (k : ℕ) (φ ψ : Forms) (ω χ : Weights) : Type 0 where
  forms : (j : ℕ) → j < k → ψ.form j ≡ φ.form j
  counts : (j : ℕ) → j < k → ψ.count j ≡ φ.count j
  passeds : (j : ℕ) → j < k → χ.passed j ≡ ω.passed j
  bodies : (j : ℕ) → j < k → χ.body j ≡ ω.body j

right-agree : (n : ℕ) (φ ψ : Forms) (bs : List Binder) (ω χ : Weights) (m : Meaning) → Agree n φ ψ ω χ → Below n m →
    Forms-right φ bs ω m → Forms-right ψ bs χ m
unfolding Forms-right Below
right-agree n φ ψ bs ω χ (private k d) a b h = tt
right-agree n φ ψ bs ω χ (argument k ty) a b h = h
right-agree n φ ψ bs ω χ (routine k ty tys) a b h = λ xs.
    rw (
      a.forms k b,
      a.counts k b,
      a.bodies k b,
      value-lower bs k (φ.form k) χ.passed ω.passed (λ s l. a.passeds s (omega arith)),
    )
    (h xs)
right-agree n φ ψ bs ω χ (named often ty tys) a b h = tt
right-agree n φ ψ bs ω χ retired a b h = tt
right-agree n φ ψ bs ω χ free a b h = tt

right-more : (φ : Forms) (c : Binder) (bs : List Binder) (ω : Weights) (m : Meaning) → Below (length bs) m →
    Forms-right φ bs ω m → Forms-right φ (c ∷ bs) ω m
unfolding Forms-right Below
right-more φ c bs ω (private k d) b h = tt
right-more φ c bs ω (argument k ty) b h = λ x. unit-more c bs k x b ∙ h x
right-more φ c bs ω (routine k ty tys) b h = λ xs. rw (value-more c bs k (φ.form k) ω.passed (omega arith)) (h xs)
right-more φ c bs ω (named often ty tys) b h = tt
right-more φ c bs ω retired b h = tt
right-more φ c bs ω free b h = tt

right-declared : (φ : Forms) (bs : List Binder) (ω : Weights) (ns : List Name) (id : ℕ) →
    Forms-right φ bs ω (declared ns id)
unfolding Forms-right
right-declared φ bs ω ns id = all-declared (Forms-right φ bs ω) ns id (λ often ty tys. tt) tt tt

-- a binder that is no parameter adds nothing
block-value : (id d : ℕ) (bs : List Binder) (f : Form) (x : ℕ → ℕ) → value (a_block id d ∷ bs) f x ≡ value bs f x
unfolding value over
block-value id d bs f x = refl

after-value : (id ty : ℕ) (ps : List Parameter) (bs : List Binder) (f : Form) (x : ℕ → ℕ) →
    value (after id ty ps bs) f x ≡ value bs f x
unfolding value over after
after-value id ty ps bs f x = refl

module _ (N : Numbers) (ns : List Name) where
  abbrev pub Rights : Forms → List Binder → Weights → Type 0
  Rights φ bs ω = (id : ℕ) → Forms-right φ bs ω (meaning ns bs id)

  rights-more : (φ : Forms) (c : Binder) (bs : List Binder) (ω : Weights) →
      Forms-right φ (c ∷ bs) ω (meant (length bs) c) → Rights φ bs ω → Rights φ (c ∷ bs) ω
  rights-more φ c bs ω h r =
      one-more-binder (Forms-right φ (c ∷ bs) ω) ns c bs h (λ id b. right-more φ c bs ω (meaning ns bs id) b (r id))

  rights-agree : (φ ψ : Forms) (bs : List Binder) (ω χ : Weights) → Agree (length bs) φ ψ ω χ → Rights φ bs ω →
      Rights ψ bs χ
  rights-agree φ ψ bs ω χ a r id = right-agree (length bs) φ ψ bs ω χ (meaning ns bs id) a (below ns bs id) (r id)

  pub rights-block : (φ : Forms) (id d : ℕ) (bs : List Binder) (ω : Weights) → Rights φ bs ω →
      Rights φ (a_block id d ∷ bs) ω
  unfolding Forms-right meant
  rights-block φ id d bs ω r = rights-more φ (a_block id d) bs ω tt r

  rights-inside : (φ : Forms) (ps : List Parameter) (bs : List Binder) (ω : Weights) → Rights φ bs ω →
      Rights φ (inside ps bs) ω
  unfolding inside Forms-right meant
  rights-inside φ [] bs ω r = r
  rights-inside φ (p ∷ ps) bs ω r =
      rights-inside φ ps (a_parameter p.id p.holds ∷ bs) ω
      (rights-more φ (a_parameter p.id p.holds) bs ω (unit-here p.id p.holds bs) r)

  pub rights-passed : (φ : Forms) (ps : List Parameter) (bs : List Binder) (ω : Weights) (xs : ℕ → ℕ) → Rights φ bs ω →
      Rights φ (inside ps bs) (with_passed (length bs) xs ω)
  unfolding with_passed
  rights-passed φ ps bs ω xs r =
      let χ : Weights = with_passed (length bs) xs ω in
      let a : Agree (length bs) φ φ ω χ = record {
        forms = λ j h. refl;
        counts = λ j h. refl;
        bodies = λ j h. refl;
        passeds = λ j h. beyond_below (length bs) ω.passed xs j h;
      } in
      rights-inside φ ps bs χ (rights-agree φ φ bs ω χ a r)

  pub rights-after : (φ : Forms) (id ty : ℕ) (ps : List Parameter) (bs : List Binder) (ω : Weights) (f : Form)
      (p : (ℕ → ℕ) → ℕ) →
      ((xs : ℕ → ℕ) → p xs ≡ value (inside ps bs) f (beyond (length bs) ω.passed xs)) → Rights φ bs ω →
      Rights (with_form (length bs) f (length ps) φ) (after id ty ps bs) (with-body (length bs) p ω)
  unfolding with_form with-body after Forms-right meant
  rights-after φ id ty ps bs ω f p h r =
      let k : ℕ = length bs in
      let ψ : Forms = with_form k f (length ps) φ in
      let χ : Weights = with-body k p ω in
      let c : Binder = a_procedure id ty (types_of ps) in
      let a : Agree k φ ψ ω χ = record {
        forms = λ j l. beyond_below k φ.form (λ i. f) j l;
        counts = λ j l. beyond_below k φ.count (λ i. length ps) j l;
        bodies = λ j l. beyond_below k ω.body (λ i. p) j l;
        passeds = λ j l. refl;
      } in
      rights-more ψ c bs χ
      (λ xs. rw (
        beyond-at k φ.form (λ i. f),
        beyond-at k φ.count (λ i. length ps),
        beyond-at k ω.body (λ i. p),
        value-more c bs k f ω.passed (omega arith),
      )
      (h xs ∙ value-inside ps bs f ω.passed xs))
      (rights-agree φ ψ bs ω χ a r)

  -- a use, by what its id means
  form-use : (bs : List Binder) (φ : Forms) (ω : Weights) (ws : Writtens) (m : Meaning) → Forms-right φ bs ω m →
      ((j : ℕ) → weighed N ns bs ω ws j ≡ value bs (formed N ns bs φ ws j) ω.passed) →
      ((tys : List ℕ) → weigh_args N ns bs ω ws tys ≡ value bs (form_args N ns bs φ ws tys) ω.passed) →
      by_meaning m 1
      (λ k. 2)
      (λ k. ω.passed k)
      (λ k. ω.body k (λ j. weighed N ns bs ω ws j))
      (λ often ty tys. use_weight often + weigh_args N ns bs ω ws tys)
      ≡ value bs (by_meaning m (only 1)
      (λ k. only 2)
      (λ k. unit k)
      (λ k. instance k (φ.count k) (φ.form k) (λ j. formed N ns bs φ ws j))
      (λ often ty tys. plus (only (use_weight often)) (form_args N ns bs φ ws tys))) ω.passed
  unfolding Forms-right by_meaning
  form-use bs φ ω ws (private k d) h g l = sym (value-only bs 2 ω.passed)
  form-use bs φ ω ws (argument k ty) h g l = sym (h ω.passed)
  form-use bs φ ω ws (routine k ty tys) h g l =
      let f : Form = φ.form k in
      rw (
        h (λ j. weighed N ns bs ω ws j),
        value-instance bs k (φ.count k) f (λ j. formed N ns bs φ ws j) ω.passed,
        total-same (φ.count k) (λ j. f.of (k + j) * weighed N ns bs ω ws j)
            (λ j. f.of (k + j) * value bs (formed N ns bs φ ws j) ω.passed) (λ j. rw (g j)),
      )
  form-use bs φ ω ws (named often ty tys) h g l =
      rw (
        value-plus bs (only (use_weight often)) (form_args N ns bs φ ws tys) ω.passed,
        value-only bs (use_weight often) ω.passed,
        l tys,
      )
  form-use bs φ ω ws retired h g l = sym (value-only bs 1 ω.passed)
  form-use bs φ ω ws free h g l = sym (value-only bs 1 ω.passed)

  -- two parts
  both : (bs : List Binder) (f g : Form) (x : ℕ → ℕ) (v w : ℕ) → v ≡ value bs f x → w ≡ value bs g x →
      v + w ≡ value bs (plus f g) x
  both bs f g x v w e e' = rw (value-plus bs f g x, e, e')

  scaled : (bs : List Binder) (c : ℕ) (f : Form) (x : ℕ → ℕ) (v : ℕ) → v ≡ value bs f x → c * v ≡ value bs (times c f) x
  scaled bs c f x v e = rw (value-times bs c f x, e)

  -- THEOREM: the form evaluates to the weight
  mutual
    unfolding weigh weigh_args weighed form_of form_args formed with_passed with-body

    pub form-weigh : (W : Written) (bs : List Binder) (φ : Forms) (ω : Weights) → Rights φ bs ω →
        weigh N ns bs ω W ≡ value bs (form_of N ns bs φ W) ω.passed
    form-weigh skip bs φ ω r = sym (value-only bs 1 ω.passed)
    form-weigh (diverge ty) bs φ ω r = sym (value-only bs 1 ω.passed)
    form-weigh (truth b) bs φ ω r = sym (value-only bs 1 ω.passed)
    form-weigh (number b) bs φ ω r = sym (value-only bs 1 ω.passed)
    form-weigh (call id ws) bs φ ω r =
        form-use bs φ ω ws (meaning ns bs id) (r id) (λ j. form-weighed ws bs φ ω j r)
        (λ tys. form-args ws bs φ ω tys r)
    form-weigh (fetch v) bs φ ω r = form-weigh v bs φ ω r
    form-weigh (operate op x y) bs φ ω r =
        let o : Operation = record { over = N; operator = op } in
        both bs (form_of N ns bs φ x) (times (operands o) (form_of N ns bs φ y)) ω.passed (weigh N ns bs ω x)
        (operands o * weigh N ns bs ω y) (form-weigh x bs φ ω r)
        (scaled bs (operands o) (form_of N ns bs φ y) ω.passed (weigh N ns bs ω y) (form-weigh y bs φ ω r))
    form-weigh (assign x y) bs φ ω r =
        let m : ℕ = values N (typed ns bs x) in
        both bs (form_of N ns bs φ y) (times m (form_of N ns bs φ x)) ω.passed (weigh N ns bs ω y)
        (m * weigh N ns bs ω x) (form-weigh y bs φ ω r)
        (scaled bs m (form_of N ns bs φ x) ω.passed (weigh N ns bs ω x) (form-weigh x bs φ ω r))
    form-weigh (sequence x y) bs φ ω r =
        both bs (form_of N ns bs φ x) (form_of N ns bs φ y) ω.passed (weigh N ns bs ω x) (weigh N ns bs ω y)
        (form-weigh x bs φ ω r) (form-weigh y bs φ ω r)
    form-weigh (choose b x y) bs φ ω r =
        both bs (form_of N ns bs φ b) (plus (form_of N ns bs φ x) (form_of N ns bs φ y)) ω.passed (weigh N ns bs ω b)
        (weigh N ns bs ω x + weigh N ns bs ω y) (form-weigh b bs φ ω r)
        (both bs (form_of N ns bs φ x) (form_of N ns bs φ y) ω.passed (weigh N ns bs ω x) (weigh N ns bs ω y)
        (form-weigh x bs φ ω r) (form-weigh y bs φ ω r))
    form-weigh (while x y) bs φ ω r =
        both bs (form_of N ns bs φ x) (form_of N ns bs φ y) ω.passed (weigh N ns bs ω x) (weigh N ns bs ω y)
        (form-weigh x bs φ ω r) (form-weigh y bs φ ω r)
    form-weigh (new id d c) bs φ ω r =
        scaled bs (values N d) (form_of N ns (a_block id d ∷ bs) φ c) ω.passed (weigh N ns (a_block id d ∷ bs) ω c)
        (form-weigh c (a_block id d ∷ bs) φ ω (rights-block φ id d bs ω r)
        ∙ block-value id d bs (form_of N ns (a_block id d ∷ bs) φ c) ω.passed)
    form-weigh (procedure id ty ps body rest) bs φ ω r =
        form-weigh rest (after id ty ps bs) (with_form (length bs) (form_of N ns (inside ps bs) φ body) (length ps) φ)
        (with-body (length bs) (λ xs. weigh N ns (inside ps bs) (with_passed (length bs) xs ω) body) ω)
        (rights-after φ id ty ps bs ω (form_of N ns (inside ps bs) φ body)
        (λ xs. weigh N ns (inside ps bs) (with_passed (length bs) xs ω) body)
        (λ xs. form-weigh body (inside ps bs) φ (with_passed (length bs) xs ω) (rights-passed φ ps bs ω xs r)) r)
        ∙ after-value id ty ps bs (form_of N ns (after id ty ps bs)
        (with_form (length bs) (form_of N ns (inside ps bs) φ body) (length ps) φ) rest) ω.passed

    form-args : (ws : Writtens) (bs : List Binder) (φ : Forms) (ω : Weights) (tys : List ℕ) → Rights φ bs ω →
        weigh_args N ns bs ω ws tys ≡ value bs (form_args N ns bs φ ws tys) ω.passed
    form-args none bs φ ω tys r = sym (value-only bs 0 ω.passed)
    form-args (more w ws) bs φ ω [] r = sym (value-only bs 0 ω.passed)
    form-args (more w ws) bs φ ω (ty ∷ tys) r =
        let f : Form = form_of N ns bs φ w in
        let q : ℕ = questions (ty_of N ty) in
        let a : ℕ = answers (ty_of N ty) in
        both bs (plus (times q f) (only a)) (form_args N ns bs φ ws tys) ω.passed (q * weigh N ns bs ω w + a)
        (weigh_args N ns bs ω ws tys)
        (both bs (times q f) (only a) ω.passed (q * weigh N ns bs ω w) a
        (scaled bs q f ω.passed (weigh N ns bs ω w) (form-weigh w bs φ ω r)) (sym (value-only bs a ω.passed)))
        (form-args ws bs φ ω tys r)

    form-weighed : (ws : Writtens) (bs : List Binder) (φ : Forms) (ω : Weights) (j : ℕ) → Rights φ bs ω →
        weighed N ns bs ω ws j ≡ value bs (formed N ns bs φ ws j) ω.passed
    form-weighed none bs φ ω j r = sym (value-only bs 1 ω.passed)
    form-weighed (more w ws) bs φ ω zero r = form-weigh w bs φ ω r
    form-weighed (more w ws) bs φ ω (suc j) r = form-weighed ws bs φ ω j r

-- THEOREM: the constant of a whole sheet's form is the weight of its term
pub form-sheet : (S : Sheet) → weight (term_of S) ≡ form_sheet S
unfolding form_sheet weigh_sheet meaning value over
form-sheet S =
    let f : Form = form_of S.numbers S.names [] no_forms S.term in
    let e : f.constant + 0 ≡ f.constant = omega arith in
    weigh-sheet S ∙ form-weigh S.numbers S.names S.term [] no_forms no_weights
    (λ id. right-declared no_forms [] no_weights S.names id) ∙ e
