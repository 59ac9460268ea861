-- The parts of a record with their factors, for each kind of record but 28.
use Prim.Native.Nat.{ℕ, suc, ◌+◌, ◌≤◌, ◌<◌, min}
use native.Mathlib.Omega.{arith}
use mathlib.Core.List.{List}
use mathlib.Core.Path.{◌≡◌, refl, sym, ap, ◌∙◌}
use lib.ListN.{length, get_or}
use Rattle.language.specs.Typing.{operands}
use Rattle.language.specs.declared.Numbers.{Numbers}
use Rattle.sheet_parts.specs.Rule.{values}
use Rattle.sheet_written.specs.Written.{Written, skip, diverge, truth, number, call, fetch, operate, assign, sequence}
use Rattle.sheet_written.specs.Written.{while, choose, new, Writtens, none, more, Name}
use Rattle.sheet_written.specs.Meaning.{meaning, private, argument, typed, by_meaning}
use Rattle.sheet_written.specs.Form.{Form, only, unit, plus, times, form_of}
use Rattle.sheet_written.specs.Come.{come}
use Rattle.sheet_written.specs.Held.{held, SameForm}
use Rattle.sheet_written.specs.Context.{Context, in_block, binders, forms, downs}
use Rattle.sheet_rows.specs.PartKind.{SKIP, DIVERGE, CONSTANT, FETCH, OPERATE, ASSIGN, SEQUENCE, IF, WHILE, NEW, PRIVATE}
use Rattle.sheet_rows.specs.PartKind.{PARAMETER, VALUES, DETAIL, PARTS}
use Rattle.sheet_rows.specs.Row.{word}
use Rattle.sheet_written.specs.Table.{Shown}
use Rattle.sheet_written.specs.Marks.{Marked, MarkedArgs}
use Rattle.sheet_written.proofs.Numbering.{Below, below}
use Rattle.weight_theory.specs.Stack.{marks_in}
use Rattle.weight_theory.specs.Plan.{parts_of, own_of, factor_of, extra_of, come_of}
use Rattle.weight_theory.specs.Step.{started}
use Rattle.weight_theory.specs.Weighed.{many, parts_in, Formed, PartsFormed}
use Rattle.weight_theory.proofs.Sums.{same-itself, same-path, first-times, first-once, then-times, then-once}
use Rattle.weight_theory.proofs.Sums.{once-before, third-once}
use Rattle.weight_theory.proofs.Places.{places, values_of}
use Rattle.weight_theory.proofs.Kept.{Agrees, Shaped, word-agrees}
use Rattle.weight_theory.proofs.FormLaws.{constant-formed, constant-only, unit-formed, unit-only}
use borrow.Author.Tests.{lt-ltb}

module _ (N : Numbers) (ns : List Name) (t : List ℕ) where
  -- Parts j, j + 1, .. of the record `at`, which stand in Γ from one place up to another: with them the form g becomes
  -- f, whatever the forms from h on are
  pub data Jobs (h : ℕ) (Γ : Context) (π : ℕ → ℕ) (at kind detail k : ℕ) :
      ℕ → ℕ → ℕ → Form → Form → Writtens → Type 0 where
    no_more : {j end : ℕ} {g f : Form} → SameForm g f → Jobs h Γ π at kind detail k j end end g f none
    one_more : {j a b end : ℕ} {g g' f : Form} {w : Written} {ws : Writtens} (c e : ℕ) →
        word t at (PARTS + j) ≡ a → Shown N ns t Γ π a b w →
        ((t' : List ℕ) → Agrees t t' h → held (factor_of t' kind detail k at a j) ≡ held c) →
        ((t' : List ℕ) → Agrees t t' h → extra_of t' kind a ≡ e) →
        SameForm (plus (plus g (times c (form_of N ns (binders Γ) (forms N ns Γ) w))) (only e)) g' →
        Jobs h Γ π at kind detail k (suc j) b end g' f ws → Jobs h Γ π at kind detail k j a end g f (more w ws)

  -- how the record of W, of a kind and with a detail, is weighed: its parts stand in `inner`
  pub record Plan (h k : ℕ) (Γ : Context) (π : ℕ → ℕ) (at end : ℕ) (W : Written) (kind detail : ℕ) : Type 0 where
    pub inner : Context
    pub from : ℕ
    pub first : Form
    pub parts : Writtens
    pub counted : parts_of kind detail ≡ many parts
    pub parted : parts_in W ≡ many parts
    pub four : many parts ≤ 4
    pub after : at < from
    pub jobs : Jobs h inner π at kind detail k 0 from end first (form_of N ns (binders Γ) (forms N ns Γ) W) parts
    pub begun : (row : ℕ) → h ≤ row → row < 100 → Shaped t (started kind detail k row t) row first
    pub forming : PartsFormed N ns t Γ at h W → Formed N ns t inner at h 0 parts
    pub coming : MarkedArgs N ns t (marks_in t) inner at 0 parts →
        come_of t (marks_in t) kind detail k at (many parts) ≡ come ns (binders Γ) (downs ns Γ) W
    pub marking : (t' M : List ℕ) → get_or M at 0 ≡ come ns (binders Γ) (downs ns Γ) W →
        MarkedArgs N ns t' M inner at 0 parts → Marked N ns t' M Γ at W

-- the form of a record that is no use of a parameter or of a procedure, without its parts
pub begun-plain : (t : List ℕ) (kind detail k row c : ℕ) → length t ≡ 58313 → row < 100 → kind < PARAMETER →
    own_of kind detail ≡ c → Shaped t (started kind detail k row t) row (only c)
unfolding started
begun-plain t kind detail k row c l b u o =
    rw (lt-ltb kind PARAMETER u) (record {
      shows = constant-formed t row (own_of kind detail) c l b (ap held o);
      only = constant-only t row (own_of kind detail) l b;
    })

-- that of a parameter
begun-parameter : (t : List ℕ) (detail k row s : ℕ) → length t ≡ 58313 → row < 100 → detail ≡ s → s < 128 →
    Shaped t (started PARAMETER detail k row t) row (unit s)
unfolding started
begun-parameter t detail k row s l b e n =
    let m : min detail 127 ≡ s = omega arith in
    rw m (record { shows = unit-formed t row s l b n; only = unit-only t row s l b n })

module _ (N : Numbers) (ns : List Name) (t : List ℕ) (h k : ℕ) (Γ : Context) (π : ℕ → ℕ) (at end : ℕ)
    (long : length t ≡ 58313) where
  abbrev PlanOf : Written → ℕ → Type 0
  PlanOf W kind = Plan N ns t h k Γ π at end W kind (word t at DETAIL)

  -- records without parts
  leaf : (kind c : ℕ) (W : Written) → parts_of kind (word t at DETAIL) ≡ 0 → parts_in W ≡ 0 →
      own_of kind (word t at DETAIL) ≡ c →
      kind < PARAMETER → form_of N ns (binders Γ) (forms N ns Γ) W ≡ only c →
      come ns (binders Γ) (downs ns Γ) W ≡ 0 → come_of t (marks_in t) kind (word t at DETAIL) k at 0 ≡ 0 →
      ((t' M : List ℕ) → get_or M at 0 ≡ come ns (binders Γ) (downs ns Γ) W → Marked N ns t' M Γ at W) →
      at < end → PlanOf W kind
  unfolding many Formed
  leaf kind c W p p' o u f z y m b = record {
    inner = Γ;
    from = end;
    first = only c;
    parts = none;
    counted = p;
    parted = p';
    four = omega arith;
    after = b;
    jobs = no_more {j = 0} (same-path (only c) (form_of N ns (binders Γ) (forms N ns Γ) W) (sym f));
    begun = λ row g l. begun-plain t kind (word t at DETAIL) k row c long l u o;
    forming = λ x. tt;
    coming = λ a. y ∙ sym z;
    marking = λ t' M e a. m t' M e;
  }

  pub plan-skip : at < end → PlanOf skip SKIP
  unfolding parts_of parts_in own_of form_of come come_of Marked
  plan-skip b =
      leaf SKIP 1 skip refl refl refl (omega arith) refl refl refl (λ t' M e. e) b

  pub plan-diverge : (ty : ℕ) → at < end → PlanOf (diverge ty) DIVERGE
  unfolding parts_of parts_in own_of form_of come come_of Marked
  plan-diverge ty b =
      leaf DIVERGE 1 (diverge ty) refl refl refl (omega arith) refl refl refl (λ t' M e. e) b

  pub plan-truth : (v : ℕ) → at < end → PlanOf (truth v) CONSTANT
  unfolding parts_of parts_in own_of form_of come come_of Marked
  plan-truth v b =
      leaf CONSTANT 1 (truth v) refl refl refl (omega arith) refl refl refl (λ t' M e. e) b

  pub plan-number : (v : ℕ) → at < end → PlanOf (number v) CONSTANT
  unfolding parts_of parts_in own_of form_of come come_of Marked
  plan-number v b =
      leaf CONSTANT 1 (number v) refl refl refl (omega arith) refl refl refl (λ t' M e. e) b

  pub plan-private : (id s d : ℕ) → meaning ns (binders Γ) id ≡ private s d → at < end → PlanOf (call id none) PRIVATE
  unfolding parts_of parts_in many own_of form_of come come_of Marked MarkedArgs by_meaning
  plan-private id s d e b =
      leaf PRIVATE 2 (call id none) refl refl refl (omega arith) (rw e) (rw e) refl
      (λ t' M x. (x, tt)) b

  pub plan-parameter : (id s ty : ℕ) → length (binders Γ) ≤ 124 → meaning ns (binders Γ) id ≡ argument s ty →
      word t at DETAIL ≡ s → at < end → PlanOf (call id none) PARAMETER
  unfolding parts_of parts_in many Formed form_of come come_of Marked MarkedArgs by_meaning Below
  plan-parameter id s ty n e d b =
      let l : s < length (binders Γ) = rw e at (below ns (binders Γ) id) in
      let c : 1 + min (word t at DETAIL) 124 ≡ suc s = omega arith in
      record {
        inner = Γ;
        from = end;
        first = unit s;
        parts = none;
        counted = refl;
        parted = refl;
        four = omega arith;
        after = b;
        jobs = no_more {j = 0} (same-path (unit s) (form_of N ns (binders Γ) (forms N ns Γ) (call id none)) (rw e));
        begun = λ row g m. begun-parameter t (word t at DETAIL) k row s long m d (omega arith);
        forming = λ x. tt;
        coming = λ a. rw e c;
        marking = λ t' M x a. (x, tt);
      }

  -- records with one to three parts in the same context
  pub plan-fetch : (a : ℕ) (x : Written) → word t at PARTS ≡ a → at < a → Shown N ns t Γ π a end x →
      PlanOf (fetch x) FETCH
  unfolding parts_of parts_in many PartsFormed own_of form_of come come_of Marked MarkedArgs factor_of extra_of
  plan-fetch a x p b s = record {
    inner = Γ;
    from = a;
    first = only 0;
    parts = more x none;
    counted = refl;
    parted = refl;
    four = omega arith;
    after = b;
    jobs = one_more {j = 0} 1 0 p s (λ t' A. refl) (λ t' A. refl)
        (first-once (form_of N ns (binders Γ) (forms N ns Γ) x)) (no_more {j = 1} (same-itself _));
    begun = λ row g l. begun-plain t FETCH (word t at DETAIL) k row 0 long l (omega arith) refl;
    forming = λ m. m;
    coming = λ m. refl;
    marking = λ t' M e m. (e, m.0);
  }

  -- two parts, each counted once
  pair : (kind a b : ℕ) (W x y : Written) → parts_of kind (word t at DETAIL) ≡ 2 → parts_in W ≡ 2 →
      own_of kind (word t at DETAIL) ≡ 0 →
      kind < PARAMETER →
      form_of N ns (binders Γ) (forms N ns Γ) W
      ≡ plus (form_of N ns (binders Γ) (forms N ns Γ) x) (form_of N ns (binders Γ) (forms N ns Γ) y) →
      come ns (binders Γ) (downs ns Γ) W ≡ 0 → come_of t (marks_in t) kind (word t at DETAIL) k at 2 ≡ 0 →
      ((t' M : List ℕ) → get_or M at 0 ≡ come ns (binders Γ) (downs ns Γ) W → Marked N ns t' M Γ (word t' at PARTS) x →
      Marked N ns t' M Γ (word t' at (PARTS + 1)) y → Marked N ns t' M Γ at W) →
      (PartsFormed N ns t Γ at h W → Formed N ns t Γ at h 0 (more x (more y none))) →
      ((t' : List ℕ) (i j : ℕ) → factor_of t' kind (word t at DETAIL) k at i j ≡ 1) →
      ((t' : List ℕ) (i : ℕ) → extra_of t' kind i ≡ 0) →
      word t at PARTS ≡ a → word t at (PARTS + 1) ≡ b → at < a → Shown N ns t Γ π a b x → Shown N ns t Γ π b end y →
      PlanOf W kind
  unfolding MarkedArgs many
  pair kind a b W x y c c' o u f z i m l one none' p p' g s s' = record {
    inner = Γ;
    from = a;
    first = only 0;
    parts = more x (more y none);
    counted = c;
    parted = c';
    four = omega arith;
    after = g;
    jobs = one_more {j = 0} 1 0 p s (λ t' A. ap held (one t' a 0)) (λ t' A. none' t' a)
        (first-once (form_of N ns (binders Γ) (forms N ns Γ) x))
        (one_more {j = 1} 1 0 p' s' (λ t' A. ap held (one t' b 1)) (λ t' A. none' t' b)
        (then-once (form_of N ns (binders Γ) (forms N ns Γ) x) (form_of N ns (binders Γ) (forms N ns Γ) y))
        (no_more {j = 2} (same-path _ _ (sym f))));
    begun = λ row d v. begun-plain t kind (word t at DETAIL) k row 0 long v u o;
    forming = l;
    coming = λ e. i ∙ sym z;
    marking = λ t' M e r. m t' M e r.0 r.1.0;
  }

  pub plan-sequence : (a b : ℕ) (x y : Written) → word t at PARTS ≡ a → word t at (PARTS + 1) ≡ b → at < a →
      Shown N ns t Γ π a b x → Shown N ns t Γ π b end y → PlanOf (sequence x y) SEQUENCE
  unfolding parts_of parts_in own_of form_of come come_of Marked PartsFormed factor_of extra_of
  plan-sequence a b x y =
      pair SEQUENCE a b (sequence x y) x y refl refl refl (omega arith) refl refl refl
      (λ t' M e m m'. (e, m, m')) (λ m. m) (λ t' i j. refl) (λ t' i. refl)

  pub plan-while : (a b : ℕ) (x y : Written) → word t at PARTS ≡ a → word t at (PARTS + 1) ≡ b → at < a →
      Shown N ns t Γ π a b x → Shown N ns t Γ π b end y → PlanOf (while x y) WHILE
  unfolding parts_of parts_in own_of form_of come come_of Marked PartsFormed factor_of extra_of
  plan-while a b x y =
      pair WHILE a b (while x y) x y refl refl refl (omega arith) refl refl refl
      (λ t' M e m m'. (e, m, m')) (λ m. m) (λ t' i j. refl) (λ t' i. refl)

  pub plan-choose : (a b c : ℕ) (q x y : Written) → word t at PARTS ≡ a → word t at (PARTS + 1) ≡ b →
      word t at (PARTS + 2) ≡ c → at < a → Shown N ns t Γ π a b q → Shown N ns t Γ π b c x →
      Shown N ns t Γ π c end y → PlanOf (choose q x y) IF
  unfolding parts_of parts_in many PartsFormed own_of form_of come come_of Marked MarkedArgs factor_of extra_of
  plan-choose a b c q x y p p' p'' g s s' s'' =
      let φ : Written → Form = λ w. form_of N ns (binders Γ) (forms N ns Γ) w in
      record {
        inner = Γ;
        from = a;
        first = only 0;
        parts = more q (more x (more y none));
        counted = refl;
        parted = refl;
        four = omega arith;
        after = g;
        jobs = one_more {j = 0} 1 0 p s (λ t' A. refl) (λ t' A. refl) (first-once (φ q))
            (one_more {j = 1} 1 0 p' s' (λ t' A. refl) (λ t' A. refl) (then-once (φ q) (φ x))
            (one_more {j = 2} 1 0 p'' s'' (λ t' A. refl) (λ t' A. refl) (third-once (φ q) (φ x) (φ y))
            (no_more {j = 3} (same-itself _))));
        begun = λ row d l. begun-plain t IF (word t at DETAIL) k row 0 long l (omega arith) refl;
        forming = λ m. m;
        coming = λ m. refl;
        marking = λ t' M e m. (e, m.0, m.1.0, m.1.1.0);
      }

  pub plan-operate : (a b op : ℕ) (x y : Written) → word t at PARTS ≡ a → word t at (PARTS + 1) ≡ b → at < a →
      Shown N ns t Γ π a b x → Shown N ns t Γ π b end y →
      values N (typed ns (binders Γ) x) ≡ operands (record { over = N; operator = op }) →
      PlanOf (operate op x y) OPERATE
  unfolding parts_of parts_in many PartsFormed own_of form_of come come_of Marked MarkedArgs factor_of extra_of
  plan-operate a b op x y p p' g s s' v =
      let φ : Written → Form = λ w. form_of N ns (binders Γ) (forms N ns Γ) w in
      let c : ℕ = operands (record { over = N; operator = op }) in
      let l : (a < b) × (b ≤ 4096) = places N ns t s in
      let e : (t' : List ℕ) → Agrees t t' h → word t' (word t' at PARTS) VALUES ≡ c =
      λ t' A. ap (λ i. word t' i VALUES) (word-agrees t t' h A at PARTS (omega arith) (omega arith) ∙ p)
      ∙ word-agrees t t' h A a VALUES (omega arith) (omega arith) ∙ values_of N ns t s ∙ v in
      record {
        inner = Γ;
        from = a;
        first = only 0;
        parts = more x (more y none);
        counted = refl;
        parted = refl;
        four = omega arith;
        after = g;
        jobs = one_more {j = 0} 1 0 p s (λ t' A. refl) (λ t' A. refl) (first-once (φ x))
            (one_more {j = 1} c 0 p' s' (λ t' A. ap held (e t' A)) (λ t' A. refl) (then-times (φ x) c (φ y))
            (no_more {j = 2} (same-itself _)));
        begun = λ row d i. begun-plain t OPERATE (word t at DETAIL) k row 0 long i (omega arith) refl;
        forming = λ m. m;
        coming = λ m. refl;
        marking = λ t' M e m. (e, m.0, m.1.0);
      }

  pub plan-assign : (a b : ℕ) (x y : Written) → word t at PARTS ≡ a → word t at (PARTS + 1) ≡ b → at < a →
      Shown N ns t Γ π a b x → Shown N ns t Γ π b end y → PlanOf (assign x y) ASSIGN
  unfolding parts_of parts_in many PartsFormed own_of form_of come come_of Marked MarkedArgs factor_of extra_of
  plan-assign a b x y p p' g s s' =
      let φ : Written → Form = λ w. form_of N ns (binders Γ) (forms N ns Γ) w in
      let c : ℕ = values N (typed ns (binders Γ) x) in
      let l : (a < b) × (b ≤ 4096) = places N ns t s in
      let e : (t' : List ℕ) → Agrees t t' h → word t' a VALUES ≡ c =
      λ t' A. word-agrees t t' h A a VALUES (omega arith) (omega arith) ∙ values_of N ns t s in
      record {
        inner = Γ;
        from = a;
        first = only 0;
        parts = more x (more y none);
        counted = refl;
        parted = refl;
        four = omega arith;
        after = g;
        jobs = one_more {j = 0} c 0 p s (λ t' A. ap held (e t' A)) (λ t' A. refl) (first-times c (φ x))
            (one_more {j = 1} 1 0 p' s' (λ t' A. refl) (λ t' A. refl) (once-before (times c (φ x)) (φ y))
            (no_more {j = 2} (same-itself _)));
        begun = λ row d i. begun-plain t ASSIGN (word t at DETAIL) k row 0 long i (omega arith) refl;
        forming = λ m. m;
        coming = λ m. refl;
        marking = λ t' M e m. (e, m.0, m.1.0);
      }

  -- a block
  pub plan_new : (a id d : ℕ) (x : Written) → word t at DETAIL ≡ values N d → word t at PARTS ≡ a → at < a →
      Shown N ns t (in_block id d Γ) π a end x → PlanOf (new id d x) NEW
  unfolding parts_of parts_in many PartsFormed own_of form_of come come_of Marked MarkedArgs factor_of extra_of binders forms
  plan_new a id d x v p g s = record {
    inner = in_block id d Γ;
    from = a;
    first = only 0;
    parts = more x none;
    counted = refl;
    parted = refl;
    four = omega arith;
    after = g;
    jobs = one_more {j = 0} (values N d) 0 p s (λ t' A. ap held v) (λ t' A. refl)
        (first-times (values N d) (form_of N ns (binders (in_block id d Γ)) (forms N ns Γ) x))
        (no_more {j = 1} (same-itself _));
    begun = λ row i l. begun-plain t NEW (word t at DETAIL) k row 0 long l (omega arith) refl;
    forming = λ m. m;
    coming = λ m. refl;
    marking = λ t' M e m. (e, m.0);
  }
