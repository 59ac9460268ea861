-- Expanding makes at most as many rows as the let-free term has nodes, document 02 [1].
use Prim.Native.Nat.{ℕ, zero, suc, ◌+◌, ◌-◌, ◌*◌, ◌≤◌, ◌<◌}
use native.Mathlib.Omega.{arith}
use mathlib.Core.Path.{◌≡◌, refl, ◌∙◌}
use mathlib.Core.List.{List, [], ◌∷◌}
use lib.ListN.{length}
use lib.Dec.{ltb}
use borrow.Author.Tests.{ltb-true}
use Rattle.language.specs.Ty.{questions, answers}
use Rattle.language.specs.Term as t
use Rattle.language.specs.Term.{Term, Operation}
use Rattle.language.specs.Typing.{operands}
use Rattle.language.specs.declared.Numbers.{Numbers}
use Rattle.language.specs.Weight.{use_weight}
use Rattle.sheet_parts.specs.Rule.{values}
use Rattle.sheet_written.specs.Environment.{beyond}
use Rattle.sheet_written.specs.Written.{Written, skip, diverge, truth, number, call, fetch, operate, assign}
use Rattle.sheet_written.specs.Written.{sequence, while, choose, new, procedure, Parameter, Writtens, none, more}
use Rattle.sheet_written.specs.Written.{Name, Sheet}
use Rattle.sheet_written.specs.Meaning.{Binder, a_block, a_parameter, a_procedure, Meaning, private, argument}
use Rattle.sheet_written.specs.Meaning.{routine, named, retired, free, meant, declared, meaning, inside, after}
use Rattle.sheet_written.specs.Meaning.{types_of, typed, ty_of, by_meaning, Terms, no_terms, with-level, with-body}
use Rattle.sheet_written.specs.Meaning.{with_passed, resolve, resolve_args, resolved, term_of}
use Rattle.sheet_written.specs.Form.{Form, only, unit, plus, times, lower, instance, Forms, no_forms, with_form}
use Rattle.sheet_written.specs.Form.{form_of, form_args, formed, total, over, value}
use Rattle.sheet_written.specs.Made.{sign, signs, made, made_args, mades, made_sheet}
use Rattle.sheet_written.specs.Nodes.{nodes, nodes_args}
use Rattle.sheet_written.proofs.Tests.{by-test}
use Rattle.sheet_written.proofs.Numbering.{all-declared, beyond_below, beyond-at, Below, below, one-more-binder}
use Rattle.sheet_written.proofs.Forming.{value-more, unit-more, unit-here, value-inside}
use Rattle.sheet_written.proofs.Signs.{signs-only, signs-plus, signs-times, signs-unit, signs-instance, total-plus}

-- numbers of nodes that arguments have at least
abbrev pub Least : (ℕ → ℕ) → (ℕ → ℕ → Term) → Type 0
Least ν xs = (j n : ℕ) → ν j ≤ nodes (xs j n)

-- what is meant is a parameter in scope, or a procedure that makes no more rows than its term has nodes besides those
-- of the arguments
unfoldable pub Rows-right : Forms → (ℕ → ℕ) → List Binder → Terms → Meaning → Type 0
Rows-right φ μ bs ρ (private k d) = Unit
Rows-right φ μ bs ρ (argument k ty) = (x : ℕ → ℕ) → value bs (unit k) x ≡ x k
Rows-right φ μ bs ρ (routine k ty tys) =
    (ν ν' : ℕ → ℕ) (xs : ℕ → ℕ → Term) → ((s n : ℕ) → s < k → ν s ≤ nodes (ρ.passed s n)) → Least ν' xs → (n : ℕ) →
    μ k + (value bs (lower k (signs (φ.form k))) ν + total (φ.count k) (λ j. sign ((φ.form k).of (k + j)) * ν' j))
    ≤ nodes (ρ.body k xs n)
Rows-right φ μ bs ρ (named often ty tys) = Unit
Rows-right φ μ bs ρ retired = Unit
Rows-right φ μ bs ρ free = Unit

-- environments that agree below k
record Agree (k : ℕ) (φ ψ : Forms) (μ μ' : ℕ → ℕ) (ρ σ : Terms) : Type 0 where
  forms : (j : ℕ) → j < k → ψ.form j ≡ φ.form j
  counts : (j : ℕ) → j < k → ψ.count j ≡ φ.count j
  rows : (j : ℕ) → j < k → μ' j ≡ μ j
  passeds : (j : ℕ) → j < k → σ.passed j ≡ ρ.passed j
  bodies : (j : ℕ) → j < k → σ.body j ≡ ρ.body j

right-agree : (n : ℕ) (φ ψ : Forms) (μ μ' : ℕ → ℕ) (bs : List Binder) (ρ σ : Terms) (m : Meaning) →
    Agree n φ ψ μ μ' ρ σ → Below n m → Rows-right φ μ bs ρ m → Rows-right ψ μ' bs σ m
unfolding Rows-right Below
right-agree n φ ψ μ μ' bs ρ σ (private k d) a b h = tt
right-agree n φ ψ μ μ' bs ρ σ (argument k ty) a b h = h
right-agree n φ ψ μ μ' bs ρ σ (routine k ty tys) a b h = λ ν ν' xs p q i.
    rw (a.forms k b, a.counts k b, a.bodies k b, a.rows k b)
    (h ν ν' xs (λ s j l. rw (a.passeds s (omega arith)) at (p s j l)) q i)
right-agree n φ ψ μ μ' bs ρ σ (named often ty tys) a b h = tt
right-agree n φ ψ μ μ' bs ρ σ retired a b h = tt
right-agree n φ ψ μ μ' bs ρ σ free a b h = tt

right-more : (φ : Forms) (μ : ℕ → ℕ) (c : Binder) (bs : List Binder) (ρ : Terms) (m : Meaning) → Below (length bs) m →
    Rows-right φ μ bs ρ m → Rows-right φ μ (c ∷ bs) ρ m
unfolding Rows-right Below
right-more φ μ c bs ρ (private k d) b h = tt
right-more φ μ c bs ρ (argument k ty) b h = λ x. unit-more c bs k x b ∙ h x
right-more φ μ c bs ρ (routine k ty tys) b h = λ ν ν' xs p q i.
    rw (value-more c bs k (signs (φ.form k)) ν (omega arith)) (h ν ν' xs p q i)
right-more φ μ c bs ρ (named often ty tys) b h = tt
right-more φ μ c bs ρ retired b h = tt
right-more φ μ c bs ρ free b h = tt

right-declared : (φ : Forms) (μ : ℕ → ℕ) (bs : List Binder) (ρ : Terms) (ns : List Name) (id : ℕ) →
    Rows-right φ μ bs ρ (declared ns id)
unfolding Rows-right
right-declared φ μ bs ρ ns id = all-declared (Rows-right φ μ bs ρ) ns id (λ often ty tys. tt) tt tt

-- the value of signs at binders that are no parameters
block-value : (id d : ℕ) (bs : List Binder) (f : Form) (x : ℕ → ℕ) → value (a_block id d ∷ bs) f x ≡ value bs f x
unfolding value over
block-value id d bs f x = refl

after-value : (id ty : ℕ) (ps : List Parameter) (bs : List Binder) (f : Form) (x : ℕ → ℕ) →
    value (after id ty ps bs) f x ≡ value bs f x
unfolding value over after
after-value id ty ps bs f x = refl

module _ (N : Numbers) (ns : List Name) where
  abbrev pub Rights : Forms → (ℕ → ℕ) → List Binder → Terms → Type 0
  Rights φ μ bs ρ = (id : ℕ) → Rows-right φ μ bs ρ (meaning ns bs id)

  rights-agree : (φ ψ : Forms) (μ μ' : ℕ → ℕ) (bs : List Binder) (ρ σ : Terms) → Agree (length bs) φ ψ μ μ' ρ σ →
      Rights φ μ bs ρ → Rights ψ μ' bs σ
  rights-agree φ ψ μ μ' bs ρ σ a r id =
      right-agree (length bs) φ ψ μ μ' bs ρ σ (meaning ns bs id) a (below ns bs id) (r id)

  rights-more : (φ : Forms) (μ : ℕ → ℕ) (c : Binder) (bs : List Binder) (ρ : Terms) →
      Rows-right φ μ (c ∷ bs) ρ (meant (length bs) c) → Rights φ μ bs ρ → Rights φ μ (c ∷ bs) ρ
  rights-more φ μ c bs ρ h r =
      one-more-binder (Rows-right φ μ (c ∷ bs) ρ) ns c bs h (λ id b. right-more φ μ c bs ρ (meaning ns bs id) b (r id))

  pub rights-block : (φ : Forms) (μ : ℕ → ℕ) (id d n : ℕ) (bs : List Binder) (ρ : Terms) → Rights φ μ bs ρ →
      Rights φ μ (a_block id d ∷ bs) (with-level (length bs) n ρ)
  unfolding with-level Rows-right meant
  rights-block φ μ id d n bs ρ r =
      let σ : Terms = with-level (length bs) n ρ in
      let a : Agree (length bs) φ φ μ μ ρ σ = record {
        forms = λ j h. refl;
        counts = λ j h. refl;
        rows = λ j h. refl;
        passeds = λ j h. refl;
        bodies = λ j h. refl;
      } in
      rights-more φ μ (a_block id d) bs σ tt (rights-agree φ φ μ μ bs ρ σ a r)

  rights-inside : (φ : Forms) (μ : ℕ → ℕ) (ps : List Parameter) (bs : List Binder) (ρ : Terms) → Rights φ μ bs ρ →
      Rights φ μ (inside ps bs) ρ
  unfolding inside Rows-right meant
  rights-inside φ μ [] bs ρ r = r
  rights-inside φ μ (p ∷ ps) bs ρ r =
      rights-inside φ μ ps (a_parameter p.id p.holds ∷ bs) ρ
      (rights-more φ μ (a_parameter p.id p.holds) bs ρ (unit-here p.id p.holds bs) r)

  pub rights-passed : (φ : Forms) (μ : ℕ → ℕ) (ps : List Parameter) (bs : List Binder) (ρ : Terms) (xs : ℕ → ℕ → Term) →
      Rights φ μ bs ρ → Rights φ μ (inside ps bs) (with_passed (length bs) xs ρ)
  unfolding with_passed
  rights-passed φ μ ps bs ρ xs r =
      let σ : Terms = with_passed (length bs) xs ρ in
      let a : Agree (length bs) φ φ μ μ ρ σ = record {
        forms = λ j h. refl;
        counts = λ j h. refl;
        rows = λ j h. refl;
        bodies = λ j h. refl;
        passeds = λ j h. beyond_below (length bs) ρ.passed xs j h;
      } in
      rights-inside φ μ ps bs σ (rights-agree φ φ μ μ bs ρ σ a r)

  pub rights-after : (φ : Forms) (μ : ℕ → ℕ) (id ty : ℕ) (ps : List Parameter) (bs : List Binder) (ρ : Terms) (f : Form)
      (r : ℕ)
      (p : (ℕ → ℕ → Term) → ℕ → Term) →
      ((ν ν' : ℕ → ℕ) (xs : ℕ → ℕ → Term) → ((s n : ℕ) → s < length bs → ν s ≤ nodes (ρ.passed s n)) → Least ν' xs →
      (n : ℕ) → r + value (inside ps bs) (signs f) (beyond (length bs) ν ν') ≤ nodes (p xs n)) →
      Rights φ μ bs ρ →
      Rights (with_form (length bs) f (length ps) φ) (beyond (length bs) μ (λ j. r)) (after id ty ps bs)
      (with-body (length bs) p ρ)
  unfolding with_form with-body after Rows-right meant signs
  rights-after φ μ id ty ps bs ρ f r p h g =
      let k : ℕ = length bs in
      let ψ : Forms = with_form k f (length ps) φ in
      let σ : Terms = with-body k p ρ in
      let c : Binder = a_procedure id ty (types_of ps) in
      let a : Agree k φ ψ μ (beyond k μ (λ j. r)) ρ σ = record {
        forms = λ j l. beyond_below k φ.form (λ i. f) j l;
        counts = λ j l. beyond_below k φ.count (λ i. length ps) j l;
        rows = λ j l. beyond_below k μ (λ i. r) j l;
        bodies = λ j l. beyond_below k ρ.body (λ i. p) j l;
        passeds = λ j l. refl;
      } in
      rights-more ψ (beyond k μ (λ j. r)) c bs σ
      (λ ν ν' xs x y n. rw (
        beyond-at k φ.form (λ i. f),
        beyond-at k φ.count (λ i. length ps),
        beyond-at k ρ.body (λ i. p),
        beyond-at k μ (λ i. r),
        value-more c bs k (signs f) ν (omega arith),
        ← value-inside ps bs (signs f) ν ν',
      )
      (h ν ν' xs x y n))
      (rights-agree φ ψ μ (beyond k μ (λ j. r)) bs ρ σ a g)

  -- a use, by what its id means
  rows-use : (bs : List Binder) (φ : Forms) (μ : ℕ → ℕ) (ρ : Terms) (ν : ℕ → ℕ) (n id : ℕ) (ws : Writtens)
      (m : Meaning) →
      Rows-right φ μ bs ρ m → Least ν ρ.passed →
      ((j l : ℕ) → mades N ns bs φ μ ws j + value bs (signs (formed N ns bs φ ws j)) ν ≤ nodes
      (resolved N ns bs ρ l ws j)) →
      ((tys : List ℕ) → made_args N ns bs φ μ ws tys + value bs (signs (form_args N ns bs φ ws tys)) ν
      ≤ nodes_args (resolve_args N ns bs ρ n ws tys)) →
      by_meaning m 1
      (λ k. 1)
      (λ k. 0)
      (λ k. μ k + total (φ.count k) (λ j. sign ((φ.form k).of (k + j)) * mades N ns bs φ μ ws j))
      (λ often ty tys. 1 + made_args N ns bs φ μ ws tys)
      + value bs (signs (by_meaning m (only 1)
      (λ k. only 2)
      (λ k. unit k)
      (λ k. instance k (φ.count k) (φ.form k) (λ j. formed N ns bs φ ws j))
      (λ often ty tys. plus (only (use_weight often)) (form_args N ns bs φ ws tys)))) ν
      ≤ nodes (by_meaning m t.diverge
      (λ k. t.private (n - suc (ρ.level k)))
      (λ k. ρ.passed k n)
      (λ k. ρ.body k (λ j l. resolved N ns bs ρ l ws j) n)
      (λ often ty tys. t.name id often (ty_of N ty) (resolve_args N ns bs ρ n ws tys)))
  unfolding by_meaning Rows-right nodes
  rows-use bs φ μ ρ ν n id ws (private k d) h l g a = omega (arith, signs-only bs 2 ν)
  rows-use bs φ μ ρ ν n id ws (argument k ty) h l g a = omega (arith, signs-unit bs k ν, h ν, l k n)
  rows-use bs φ μ ρ ν n id ws (routine k ty tys) h l g a =
      let c : ℕ → ℕ = λ j. sign ((φ.form k).of (k + j)) in
      let v : ℕ → ℕ = λ j. mades N ns bs φ μ ws j in
      let w : ℕ → ℕ = λ j. value bs (signs (formed N ns bs φ ws j)) ν in
      omega (
        arith,
        signs-instance bs k (φ.count k) (φ.form k) (λ j. formed N ns bs φ ws j) ν,
        total-plus (φ.count k) c v w,
        h ν (λ j. v j + w j) (λ j i. resolved N ns bs ρ i ws j) (λ s i b. l s i) g n,
      )
  rows-use bs φ μ ρ ν n id ws (named often ty tys) h l g a =
      omega (
        arith,
        signs-plus bs (only (use_weight often)) (form_args N ns bs φ ws tys) ν,
        signs-only bs (use_weight often) ν,
        a tys,
      )
  rows-use bs φ μ ρ ν n id ws retired h l g a = omega (arith, signs-only bs 1 ν)
  rows-use bs φ μ ρ ν n id ws free h l g a = omega (arith, signs-only bs 1 ν)

  least-inside : (k : ℕ) (ρ : Terms) (ν ν' : ℕ → ℕ) (xs : ℕ → ℕ → Term) →
      ((s n : ℕ) → s < k → ν s ≤ nodes (ρ.passed s n)) → Least ν' xs →
      Least (beyond k ν ν') (with_passed k xs ρ).passed
  unfolding with_passed beyond
  least-inside k ρ ν ν' xs h g s n =
      by-test (ltb s k)
      (λ t. rw t (h s n (ltb-true s k t)))
      (λ t. rw t (g (s - k) n))

  -- THEOREM: rows made, and nodes of the arguments used, are within the nodes of the term
  mutual
    unfolding made made_args mades form_of form_args formed resolve resolve_args resolved nodes nodes_args with-level
        with-body

    pub rows-nodes : (W : Written) (bs : List Binder) (φ : Forms) (μ : ℕ → ℕ) (ρ : Terms) (ν : ℕ → ℕ) (n : ℕ) →
        Rights φ μ bs ρ → Least ν ρ.passed →
        made N ns bs φ μ W + value bs (signs (form_of N ns bs φ W)) ν ≤ nodes (resolve N ns bs ρ n W)
    rows-nodes skip bs φ μ ρ ν n r l = omega (arith, signs-only bs 1 ν)
    rows-nodes (diverge ty) bs φ μ ρ ν n r l = omega (arith, signs-only bs 1 ν)
    rows-nodes (truth b) bs φ μ ρ ν n r l = omega (arith, signs-only bs 1 ν)
    rows-nodes (number b) bs φ μ ρ ν n r l = omega (arith, signs-only bs 1 ν)
    rows-nodes (call id ws) bs φ μ ρ ν n r l =
        rows-use bs φ μ ρ ν n id ws (meaning ns bs id) (r id) l (λ j i. rows-passed ws bs φ μ ρ ν i j r l)
        (λ tys. rows-args ws bs φ μ ρ ν n tys r l)
    rows-nodes (fetch v) bs φ μ ρ ν n r l = omega (arith, rows-nodes v bs φ μ ρ ν n r l)
    rows-nodes (operate op x y) bs φ μ ρ ν n r l =
        let o : Operation = record { over = N; operator = op } in
        let f : Form = form_of N ns bs φ x in
        let g : Form = form_of N ns bs φ y in
        omega (
          arith,
          rows-nodes x bs φ μ ρ ν n r l,
          rows-nodes y bs φ μ ρ ν n r l,
          signs-plus bs f (times (operands o) g) ν,
          signs-times bs (operands o) g ν,
        )
    rows-nodes (assign x y) bs φ μ ρ ν n r l =
        let v : ℕ = values N (typed ns bs x) in
        let f : Form = form_of N ns bs φ y in
        let g : Form = form_of N ns bs φ x in
        omega (
          arith,
          rows-nodes x bs φ μ ρ ν n r l,
          rows-nodes y bs φ μ ρ ν n r l,
          signs-plus bs f (times v g) ν,
          signs-times bs v g ν,
        )
    rows-nodes (sequence x y) bs φ μ ρ ν n r l =
        omega (
          arith,
          rows-nodes x bs φ μ ρ ν n r l,
          rows-nodes y bs φ μ ρ ν n r l,
          signs-plus bs (form_of N ns bs φ x) (form_of N ns bs φ y) ν,
        )
    rows-nodes (choose b x y) bs φ μ ρ ν n r l =
        omega (
          arith,
          rows-nodes b bs φ μ ρ ν n r l,
          rows-nodes x bs φ μ ρ ν n r l,
          rows-nodes y bs φ μ ρ ν n r l,
          signs-plus bs (form_of N ns bs φ b) (plus (form_of N ns bs φ x) (form_of N ns bs φ y)) ν,
          signs-plus bs (form_of N ns bs φ x) (form_of N ns bs φ y) ν,
        )
    rows-nodes (while x y) bs φ μ ρ ν n r l =
        omega (
          arith,
          rows-nodes x bs φ μ ρ ν n r l,
          rows-nodes y bs φ μ ρ ν n r l,
          signs-plus bs (form_of N ns bs φ x) (form_of N ns bs φ y) ν,
        )
    rows-nodes (new id d c) bs φ μ ρ ν n r l =
        let f : Form = form_of N ns (a_block id d ∷ bs) φ c in
        omega (
          arith,
          signs-times bs (values N d) f ν,
          block-value id d bs (signs f) ν,
          rows-nodes c (a_block id d ∷ bs) φ μ (with-level (length bs) n ρ) ν (suc n)
              (rights-block φ μ id d n bs ρ r) l,
        )
    rows-nodes (procedure id ty ps body rest) bs φ μ ρ ν n r l =
        let k : ℕ = length bs in
        let f : Form = form_of N ns (inside ps bs) φ body in
        rw (after-value id ty ps bs (signs (form_of N ns (after id ty ps bs) (with_form k f (length ps) φ) rest)) ν) at
        (rows-nodes rest (after id ty ps bs) (with_form k f (length ps) φ)
        (beyond k μ (λ j. made N ns (inside ps bs) φ μ body))
        (with-body k (λ xs i. resolve N ns (inside ps bs) (with_passed k xs ρ) i body) ρ) ν n
        (rights-after φ μ id ty ps bs ρ f (made N ns (inside ps bs) φ μ body)
        (λ xs i. resolve N ns (inside ps bs) (with_passed k xs ρ) i body)
        (λ u u' xs p q i. rows-nodes body (inside ps bs) φ μ (with_passed k xs ρ) (beyond k u u') i
        (rights-passed φ μ ps bs ρ xs r) (least-inside k ρ u u' xs p q)) r)
        l)

    rows-args : (ws : Writtens) (bs : List Binder) (φ : Forms) (μ : ℕ → ℕ) (ρ : Terms) (ν : ℕ → ℕ) (n : ℕ)
        (tys : List ℕ) →
        Rights φ μ bs ρ → Least ν ρ.passed →
        made_args N ns bs φ μ ws tys + value bs (signs (form_args N ns bs φ ws tys)) ν
        ≤ nodes_args (resolve_args N ns bs ρ n ws tys)
    rows-args none bs φ μ ρ ν n tys r l = omega (arith, signs-only bs 0 ν)
    rows-args (more w ws) bs φ μ ρ ν n [] r l = omega (arith, signs-only bs 0 ν)
    rows-args (more w ws) bs φ μ ρ ν n (ty ∷ tys) r l =
        let q : ℕ = questions (ty_of N ty) in
        let f : Form = form_of N ns bs φ w in
        let c : ℕ = answers (ty_of N ty) in
        let g : Form = form_args N ns bs φ ws tys in
        omega (
          arith,
          rows-nodes w bs φ μ ρ ν n r l,
          rows-args ws bs φ μ ρ ν n tys r l,
          signs-plus bs (plus (times q f) (only c)) g ν,
          signs-plus bs (times q f) (only c) ν,
          signs-times bs q f ν,
          signs-only bs c ν,
        )

    rows-passed : (ws : Writtens) (bs : List Binder) (φ : Forms) (μ : ℕ → ℕ) (ρ : Terms) (ν : ℕ → ℕ) (n j : ℕ) →
        Rights φ μ bs ρ → Least ν ρ.passed →
        mades N ns bs φ μ ws j + value bs (signs (formed N ns bs φ ws j)) ν ≤ nodes (resolved N ns bs ρ n ws j)
    rows-passed none bs φ μ ρ ν n j r l = omega (arith, signs-only bs 1 ν)
    rows-passed (more w ws) bs φ μ ρ ν n zero r l = rows-nodes w bs φ μ ρ ν n r l
    rows-passed (more w ws) bs φ μ ρ ν n (suc j) r l = rows-passed ws bs φ μ ρ ν n j r l

-- THEOREM: a sheet makes at most as many rows as its term has nodes
pub rows-sheet : (S : Sheet) → made_sheet S ≤ nodes (term_of S)
unfolding made_sheet term_of meaning
rows-sheet S =
    let N : Numbers = S.numbers in
    omega (
      arith,
      rows-nodes N S.names S.term [] no_forms (λ k. 0) no_terms (λ s. 0) 0
          (λ id. right-declared no_forms (λ k. 0) [] no_terms S.names id) (λ j n. omega arith),
    )
