-- The arguments of names and of procedures, with their factors.
use Prim.Native.Nat.{ℕ, zero, suc, ◌+◌, ◌*◌, ◌-◌, ◌%◌, ◌≤◌, ◌<◌}
use native.Mathlib.Omega.{arith}
use mathlib.Core.List.{List, [], ◌∷◌}
use mathlib.Core.Path.{◌≡◌, refl, sym, ap, ap₂, ◌∙◌}
use lib.ListN.{length}
use lib.Dec.{ltb}
use borrow.Author.Tests.{lt-ltb, le-ltb, ne_eqb, ltb-true, ltb-false}
use Rattle.language.specs.Choice.{pick}
use Rattle.language.specs.Ty.{questions, answers}
use Rattle.language.specs.declared.Numbers.{Numbers}
use Rattle.language.specs.Term.{Often}
use Rattle.language.specs.Weight.{use_weight}
use Rattle.language.proofs.AskOnceLaws.{onces-below}
use Rattle.sheet_parts.specs.Rule.{values}
use Rattle.sheet_rows.specs.Class.{questions_by, answers_by}
use Rattle.sheet_written.specs.Environment.{beyond}
use Rattle.sheet_written.specs.Written.{call, Writtens, none, more, Name}
use Rattle.sheet_written.specs.Meaning.{Binder, meaning, routine, named, ty_of, by_meaning, inside}
use Rattle.sheet_written.specs.Fine.{FineArgs, depths}
use Rattle.sheet_written.specs.Form.{Form, Forms, only, plus, times, lower, instance, sums, form_of, form_args, formed}
use Rattle.sheet_written.specs.Come.{come, comes, through}
use Rattle.sheet_written.specs.Held.{held, SameForm}
use Rattle.sheet_written.specs.Context.{Context, binders, forms, downs}
use Rattle.sheet_rows.specs.PartKind.{NAME, ROUTINE, CLASS, VALUES, DETAIL, PARTS}
use Rattle.sheet_rows.specs.Row.{class_of, word}
use Rattle.sheet_written.specs.Table.{ShownArgs, shown_none, shown_more, use_detail, name_detail}
use Rattle.sheet_written.specs.Marks.{Marked, MarkedArgs}
use Rattle.sheet_written.proofs.Tests.{by-test}
use Rattle.sheet_written.proofs.Holding.{held-held}
use Rattle.sheet_written.proofs.Types.{class-questions, class-answers}
use Rattle.sheet_written.proofs.Contexts.{sees-form, sees-count, sees-come, Found}
use Rattle.sheet_written.proofs.Reach.{length_types}
use Rattle.weight_theory.specs.Stack.{marks_in, slot_of, coefficient_of}
use Rattle.weight_theory.specs.Shows.{Shows}
use Rattle.weight_theory.specs.Plan.{parts_of, own_of, term_place, term_form, factor_of, extra_of}
use Rattle.weight_theory.specs.Plan.{come_at, argument_of, through_of, come_of}
use Rattle.weight_theory.specs.Step.{started}
use Rattle.weight_theory.specs.Weighed.{many, parts_in, PartsFormed, ReadyOne}
use Rattle.weight_theory.proofs.Sums.{same-itself, same-path, argument-first, no-argument}
use Rattle.weight_theory.proofs.Places.{places, values_of, class-of, marked-come}
use Rattle.weight_theory.proofs.Kept.{Agrees, Shaped, word-agrees, slot-agrees, shows-agrees}
use Rattle.weight_theory.proofs.FormLaws.{lower-formed, lower_only, shows_same}
use Rattle.weight_theory.proofs.Plans.{Jobs, no_more, one_more, Plan, begun-plain}

-- one argument more of a procedure
same_more : (k j : ℕ) (f x : Form) (xs : ℕ → Form) → x ≡ xs j →
    SameForm (plus (plus (instance k j f xs) (times (f.of (k + j)) x)) (only 0)) (instance k (suc j) f xs)
unfolding instance sums plus only
same_more k j f x xs e = rw e (record { constants = omega arith; coefficients = λ s. omega arith })

same_none : (k : ℕ) (f : Form) (xs : ℕ → Form) → SameForm (lower k f) (instance k 0 f xs)
unfolding instance sums plus only
same_none k f xs = record { constants = omega arith; coefficients = λ s. omega arith }

module _ (N : Numbers) (ns : List Name) (t : List ℕ) where
  call-named : (bs : List Binder) (φ : Forms) (id ty : ℕ) (often : Often) (tys : List ℕ) (ws : Writtens) →
      meaning ns bs id ≡ named often ty tys →
      form_of N ns bs φ (call id ws) ≡ plus (only (use_weight often)) (form_args N ns bs φ ws tys)
  unfolding form_of by_meaning
  call-named bs φ id ty often tys ws e = rw e

  call-routine : (bs : List Binder) (φ : Forms) (id k ty : ℕ) (tys : List ℕ) (ws : Writtens) →
      meaning ns bs id ≡ routine k ty tys → form_of N ns bs φ (call id ws)
      ≡ instance k (φ.count k) (φ.form k) (λ j. formed N ns bs φ ws j)
  unfolding form_of by_meaning
  call-routine bs φ id k ty tys ws e = rw e

  come-named : (bs : List Binder) (κ : ℕ → ℕ) (id ty : ℕ) (often : Often) (tys : List ℕ) (ws : Writtens) →
      meaning ns bs id ≡ named often ty tys → come ns bs κ (call id ws) ≡ 0
  unfolding come by_meaning
  come-named bs κ id ty often tys ws e = rw e

  come-routine : (bs : List Binder) (κ : ℕ → ℕ) (id k ty : ℕ) (tys : List ℕ) (ws : Writtens) →
      meaning ns bs id ≡ routine k ty tys → come ns bs κ (call id ws) ≡ through k (κ k) (λ j. comes ns bs κ ws j)
  unfolding come by_meaning
  come-routine bs κ id k ty tys ws e = rw e

  module _ (h k : ℕ) (Γ : Context) (π : ℕ → ℕ) (at end : ℕ) (long : length t ≡ 58313) where
    -- as many as there are types
    args-many : (ws : Writtens) (tys : List ℕ) (j from : ℕ) → ShownArgs N ns t Γ π at j from end ws tys →
        many ws ≡ length tys
    unfolding many
    args-many none [] j from shown_none = refl
    args-many (more w ws) (ty ∷ tys) j from (shown_more {b = b} p s r) = ap suc (args-many ws tys (suc j) b r)
    args-many none (ty ∷ tys) j from x'' = elim x'' [ ]
    args-many (more w ws) [] j from x3 = elim x3 [ ]

    -- arguments of a name
    name-jobs : (ws : Writtens) (tys : List ℕ) (j from detail : ℕ) (g f : Form) →
        ShownArgs N ns t Γ π at j from end ws tys → FineArgs N ns (binders Γ) ws tys →
        SameForm (plus g (form_args N ns (binders Γ) (forms N ns Γ) ws tys)) f →
        Jobs N ns t h Γ π at NAME detail k j from end g f ws
    unfolding form_args FineArgs factor_of extra_of
    name-jobs none [] j from detail g f shown_none x S = no_more {j = j} (no-argument g f S)
    name-jobs (more w ws) (ty ∷ tys) j from detail g f (shown_more {b = b} p s r) x S =
        let q : ℕ = questions (ty_of N ty) in
        let a : ℕ = answers (ty_of N ty) in
        let y : Form = form_of N ns (binders Γ) (forms N ns Γ) w in
        let rest : Form = form_args N ns (binders Γ) (forms N ns Γ) ws tys in
        let l : (from < b) × (b ≤ 4096) = places N ns t s in
        let v : (t' : List ℕ) → Agrees t t' h → word t' from VALUES ≡ values N ty =
        λ t' A. word-agrees t t' h A from VALUES (omega arith) (omega arith)
        ∙ values_of N ns t s ∙ ap (values N) x.1 in
        let c : (t' : List ℕ) → Agrees t t' h → word t' from CLASS ≡ class_of ty =
        λ t' A. word-agrees t t' h A from CLASS (omega arith) (omega arith)
        ∙ class-of N ns t s ∙ ap class_of x.1 in
        let e : (t' : List ℕ) → Agrees t t' h → questions_by (word t' from CLASS) (word t' from VALUES) ≡ q =
        λ t' A. ap₂ questions_by (c t' A) (v t' A) ∙ class-questions N ty in
        let e' : (t' : List ℕ) → Agrees t t' h → answers_by (word t' from CLASS) (word t' from VALUES) ≡ a =
        λ t' A. ap₂ answers_by (c t' A) (v t' A) ∙ class-answers N ty in
        one_more {j = j} q a p s (λ t' A. ap held (e t' A)) e' (same-itself (plus (plus g (times q y)) (only a)))
        (name-jobs ws tys (suc j) b detail (plus (plus g (times q y)) (only a)) f r x.2
        (argument-first g q a y rest f S))
    name-jobs none (ty ∷ tys) j from detail g f x7 x S = elim x7 [ ]
    name-jobs (more w ws) [] j from detail g f x7 x S = elim x7 [ ]

    pub plan-name : (id ty from : ℕ) (often : Often) (tys : List ℕ) (ws : Writtens) →
        meaning ns (binders Γ) id ≡ named often ty tys →
        word t at DETAIL ≡ name_detail id (length tys) often → id < 256 → length tys ≤ 4 → at < from →
        ShownArgs N ns t Γ π at 0 from end ws tys → FineArgs N ns (binders Γ) ws tys →
        Plan N ns t h k Γ π at end (call id ws) NAME (word t at DETAIL)
    unfolding parts_of parts_in PartsFormed own_of come_of Marked name_detail
    plan-name id ty from often tys ws e d i n b s f =
        let m : many ws ≡ length tys = args-many ws tys 0 from s in
        record {
          inner = Γ;
          from = from;
          first = only (use_weight often);
          parts = ws;
          counted = omega (arith, onces-below often);
          parted = refl;
          four = omega arith;
          after = b;
          jobs = name-jobs ws tys 0 from (word t at DETAIL) (only (use_weight often))
              (form_of N ns (binders Γ) (forms N ns Γ) (call id ws)) s f
              (same-path _ _ (sym (call-named (binders Γ) (forms N ns Γ) id ty often tys ws e)));
          begun = λ row g l. begun-plain t NAME (word t at DETAIL) k row (use_weight often) long l (omega arith)
              (omega (arith, onces-below often));
          forming = λ x. x;
          coming = λ x. sym (come-named (binders Γ) (downs ns Γ) id ty often tys ws e);
          marking = λ t' M x y. (x, y);
        }

    -- arguments of the procedure k, whose term has the form f
    use-jobs : (ws : Writtens) (tys : List ℕ) (j from count detail : ℕ) (f g : Form) (xs : ℕ → Form) →
        ((t' : List ℕ) → Agrees t t' h → (a i : ℕ) →
        held (factor_of t' ROUTINE detail k at a i) ≡ held (f.of (k + i))) →
        ((i : ℕ) → formed N ns (binders Γ) (forms N ns Γ) ws i ≡ xs (j + i)) →
        ShownArgs N ns t Γ π at j from end ws tys → count ≡ j + length tys → SameForm (instance k count f xs) g →
        Jobs N ns t h Γ π at ROUTINE detail k j from end (instance k j f xs) g ws
    unfolding formed extra_of
    use-jobs none [] j from count detail f g xs c x shown_none n S =
        let e : count ≡ j = omega arith in no_more {j = j} (rw e at S)
    use-jobs (more w ws) (ty ∷ tys) j from count detail f g xs c x (shown_more {b = b} p s r) n S =
        let z : j + 0 ≡ j = omega arith in
        let y : form_of N ns (binders Γ) (forms N ns Γ) w ≡ xs j = x 0 ∙ ap xs z in
        one_more {j = j} (f.of (k + j)) 0 p s (λ t' A. c t' A from j) (λ t' A. refl)
        (same_more k j f (form_of N ns (binders Γ) (forms N ns Γ) w) xs y)
        (use-jobs ws tys (suc j) b count detail f g xs c
        (λ i. let u : j + suc i ≡ suc j + i = omega arith in x (suc i) ∙ ap xs u) r (omega arith) S)
    use-jobs none (ty ∷ tys) j from count detail f g xs c x x11 n S = elim x11 [ ]
    use-jobs (more w ws) [] j from count detail f g xs c x x9 n S = elim x9 [ ]

    -- what the arguments come down to
    comes-read : (l : ℕ) → length (binders Γ) + 4 * suc l ≤ 128 → (ws : Writtens) (tys : List ℕ) (M : List ℕ)
        (b from j : ℕ) → ShownArgs N ns t Γ π at b from end ws tys → MarkedArgs N ns t M Γ at b ws → depths ws ≤ l →
        pick (ltb j (length tys)) (come_at M (word t at (PARTS + (b + j)))) 0
        ≡ comes ns (binders Γ) (downs ns Γ) ws j
    unfolding MarkedArgs comes depths
    comes-read l few none [] M b from j shown_none m d = rw (le-ltb j 0 (omega arith))
    comes-read l few (more w ws) (ty ∷ tys) M b from zero (shown_more p s r) m d =
        let z : b + 0 ≡ b = omega arith in
        rw (z, lt-ltb 0 (suc (length tys)) (omega arith))
        (marked-come N ns t w M Γ (word t at (PARTS + b)) l m.0 (omega arith) (omega arith))
    comes-read l few (more w ws) (ty ∷ tys) M b from (suc j) (shown_more {b = c} p s r) m d =
        let z : b + suc j ≡ suc b + j = omega arith in
        let e' : pick (ltb j (length tys)) (come_at M (word t at (PARTS + (suc b + j)))) 0
        ≡ comes ns (binders Γ) (downs ns Γ) ws j = comes-read l few ws tys M (suc b) c j r m.1 (omega arith) in
        rw z (by-test (ltb j (length tys))
        (λ e. let g : j < length tys = ltb-true j (length tys) e in
        rw (lt-ltb (suc j) (suc (length tys)) (omega arith)) (rw e at e'))
        (λ e. let g : length tys ≤ j = ltb-false j (length tys) e in
        rw (le-ltb (suc j) (suc (length tys)) (omega arith)) (rw e at e')))
    comes-read l few none (ty ∷ tys) M b from j x6 m d = elim x6 [ ]
    comes-read l few (more w ws) [] M b from j x5 m d = elim x5 [ ]

  own-step : (M : List ℕ) (at count k s : ℕ) → through_of t M at count k (suc s)
      ≡ pick (ltb s k) (suc s) (argument_of t M at count (s - k))
  unfolding through_of
  own-step M at count k s =
      let z : suc s - 1 ≡ s = omega arith in
      rw (ne_eqb (suc s) 0 (λ e. omega arith), z)

  through_read : (M : List ℕ) (at count k c : ℕ) (g : ℕ → ℕ) → ((j : ℕ) → argument_of t M at count j ≡ g j) →
      through_of t M at count k c ≡ through k c g
  unfolding through beyond through_of
  through_read M at count k zero g h = refl
  through_read M at count k (suc s) g h =
      own-step M at count k s ∙ by-test (ltb s k) (λ e. rw e) (λ e. rw e (h (s - k)))

  -- a use of the procedure k
  module _ (h k : ℕ) (Γ : Context) (π : ℕ → ℕ) (at end : ℕ) (long : length t ≡ 58313) (detail : ℕ) (tys : List ℕ)
      (X : Found Γ k tys) (detailed : detail ≡ use_detail (π k) (length tys)) (early : at < 4096) (room : h ≤ 93)
      (R : ReadyOne N ns t (π (length (binders X.around))) at h X.around X.parameters X.body) where
    record-place : detail % 4096 ≡ π k
    unfolding use_detail
    record-place =
        let e : k ≡ length (binders X.around) = X.number in
        let p : π k < 4096 = rw e R.placed in
        omega arith

    -- the place of its term
    its-place : term_place t detail ≡ word t (π k) PARTS
    unfolding term_place
    its-place = rw record-place

    its-before : term_place t detail < at
    its-before =
        let e : k ≡ length (binders X.around) = X.number in
        rw (its-place, e) R.before

    its-form : (forms N ns Γ).form k ≡ form_of N ns (inside X.parameters (binders X.around))
        (forms N ns X.around) X.body
    its-form = ap (forms N ns Γ).form X.number ∙ sees-form N ns X.sees

    -- its form
    its-below : term_form t detail < h
    unfolding term_form
    its-below =
        let e : k ≡ length (binders X.around) = X.number in
        rw (its-place, e) R.below

    its-row : Shows t (term_form t detail) ((forms N ns Γ).form k)
    unfolding term_form
    its-row =
        let e : k ≡ length (binders X.around) = X.number in
        rw (its-form, its-place, e) R.formed

    its-factor : (t' : List ℕ) → Agrees t t' h → (a i : ℕ) →
        held (factor_of t' ROUTINE detail k at a i) ≡ held (((forms N ns Γ).form k).of (k + i))
    unfolding factor_of term_form term_place
    its-factor t' A a i =
        let b : term_place t detail < at = its-before in
        let p : term_place t' detail ≡ term_place t detail =
        word-agrees t t' h A (detail % 4096) PARTS (omega arith) (omega arith) in
        let q : term_form t' detail ≡ term_form t detail =
        ap (slot_of t') p ∙ slot-agrees t t' h A (term_place t detail) (omega arith) in
        ap held (ap (λ r. coefficient_of t' r (k + i)) q
        ∙ (shows-agrees t t' h A (term_form t detail) ((forms N ns Γ).form k) its-below its-row).coefficients (k + i))
        ∙ held-held (((forms N ns Γ).form k).of (k + i))

    its-count : (forms N ns Γ).count k ≡ length tys
    its-count =
        ap (forms N ns Γ).count X.number ∙ sees-count N ns X.sees ∙ sym (length_types X.parameters)
        ∙ sym (ap length X.types)

    its-come : come_at (marks_in t) (term_place t detail) ≡ downs ns Γ k
    its-come =
        let e : k ≡ length (binders X.around) = X.number in
        let r : come_at (marks_in t) (word t (π k) PARTS) ≡ come ns (inside X.parameters (binders X.around))
        (downs ns X.around) X.body = rw e R.comes in
        let d : downs ns Γ k ≡ come ns (inside X.parameters (binders X.around))
        (downs ns X.around) X.body = ap (downs ns Γ) e ∙ sees-come ns X.sees in
        rw its-place (r ∙ sym d)

    use-come : (l id ty from : ℕ) (ws : Writtens) → length (binders Γ) + 4 * suc l ≤ 128 →
        meaning ns (binders Γ) id ≡ routine k ty tys → ShownArgs N ns t Γ π at 0 from end ws tys → depths ws ≤ l →
        MarkedArgs N ns t (marks_in t) Γ at 0 ws →
        come_of t (marks_in t) ROUTINE detail k at (length tys) ≡ come ns (binders Γ) (downs ns Γ) (call id ws)
    unfolding come_of argument_of
    use-come l id ty from ws few e s d m =
        rw (its-come, come-routine (binders Γ) (downs ns Γ) id k ty tys ws e)
        (through_read (marks_in t) at (length tys) k (downs ns Γ k) (λ j. comes ns (binders Γ) (downs ns Γ) ws j)
        (λ j. let z : 0 + j ≡ j = omega arith in
        rw z at (comes-read h k Γ π at end long l few ws tys (marks_in t) 0 from j s m d)))

    use-start : (row : ℕ) (xs : ℕ → Form) → h ≤ row → row < 100 →
        Shaped t (started ROUTINE detail k row t) row (instance k 0 ((forms N ns Γ).form k) xs)
    unfolding started
    use-start row xs g b =
        let f : Form = (forms N ns Γ).form k in
        let u : term_form t detail < h = its-below in
        record {
          shows = shows_same (started ROUTINE detail k row t) row (lower k f) (instance k 0 f xs) (same_none k f xs)
              (lower-formed t row (term_form t detail) k f long b (omega arith) (λ e. omega arith) its-row);
          only = lower_only t row (term_form t detail) k f long b (omega arith) (λ e. omega arith) its-row;
        }

    pub plan-use : (l id ty from : ℕ) (ws : Writtens) → length (binders Γ) + 4 * suc l ≤ 128 →
        meaning ns (binders Γ) id ≡ routine k ty tys → length tys ≤ 4 → at < from →
        ShownArgs N ns t Γ π at 0 from end ws tys → depths ws ≤ l →
        Plan N ns t h k Γ π at end (call id ws) ROUTINE detail
    unfolding parts_of parts_in PartsFormed Marked use_detail
    plan-use l id ty from ws few e n b s d =
        let f : Form = (forms N ns Γ).form k in
        let xs : ℕ → Form = λ j. formed N ns (binders Γ) (forms N ns Γ) ws j in
        let p : detail % 4096 ≡ π k = record-place in
        let m : many ws ≡ length tys = args-many h k Γ π at end long ws tys 0 from s in
        let q : instance k (length tys) f xs ≡ form_of N ns (binders Γ) (forms N ns Γ) (call id ws) =
        ap (λ c. instance k c f xs) (sym its-count)
        ∙ sym (call-routine (binders Γ) (forms N ns Γ) id k ty tys ws e) in
        record {
          inner = Γ;
          from = from;
          first = instance k 0 f xs;
          parts = ws;
          counted = omega arith;
          parted = refl;
          four = omega arith;
          after = b;
          jobs = use-jobs h k Γ π at end long ws tys 0 from (length tys) detail f
              (form_of N ns (binders Γ) (forms N ns Γ) (call id ws)) xs its-factor
              (λ i. let z : i ≡ 0 + i = omega arith in ap xs z) s (omega arith) (same-path _ _ q);
          begun = λ row g c. use-start row xs g c;
          forming = λ x. x;
          coming = λ x. rw m (use-come l id ty from ws few e s d x);
          marking = λ t' M x y. (x, y);
        }
