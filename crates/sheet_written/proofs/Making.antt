-- How many rows an expansion makes, and that it depends on those rows alone. Document 02 [1].
use Prim.Native.Nat.{ℕ, zero, suc, ◌+◌, ◌*◌, ◌≤◌, ◌<◌}
use native.Mathlib.Omega.{arith}
use native.Mathlib.Nat.{zero-mul}
use mathlib.Core.Path.{◌≡◌, refl, ◌∙◌}
use mathlib.Core.Option.{Option}
use mathlib.Core.List.{List}
use lib.ListN.{length}
use Rattle.language.specs.declared.Numbers.{Numbers}
use Rattle.language.specs.Term.{Often}
use Rattle.sheet_written.specs.Written.{Written, Parameter, Writtens, none, more, Name, Sheet}
use Rattle.sheet_written.specs.Meaning.{private, routine, named, meaning, inside, after, by_meaning}
use Rattle.sheet_written.specs.Form.{Form, form_of, total}
use Rattle.sheet_written.specs.Made.{sign, made, made_args, mades, made_sheet}
use Rattle.sheet_written.specs.Shared.{Parts, Row}
use Rattle.sheet_written.specs.Context.{Context, binders, forms, makes, uses, Sees}
use Rattle.sheet_written.specs.Expand.{Slots, Expands, of_slot, of_scope, of_use, of_skip}
use Rattle.sheet_written.specs.Expand.{of_diverge, of_truth, of_number, of_private, of_name, of_fetch, of_operate}
use Rattle.sheet_written.specs.Expand.{of_assign, of_sequence, of_choose, of_while, of_new, ExpandsArgs, no_args}
use Rattle.sheet_written.specs.Expand.{one_arg, Passes, no_more, one_used, one_unused, Expansion}
use Rattle.sheet_written.specs.Rules.{FewRows}
use Rattle.sheet_written.proofs.Forming.{total-same, total_first, total-none}
use Rattle.sheet_written.proofs.ComeAlone.{sign-none, come-alone}
use Rattle.sheet_written.proofs.Contexts.{sees-form, sees-count, sees-made}
use Rattle.sheet_written.proofs.Rows.{rows-sheet}
use Rattle.sheet_written.proofs.Valuing.{accepted-nodes}

sign-some : (n : ℕ) → 0 < n → sign n ≡ 1
unfolding sign
sign-some zero h = absurd (omega arith)
sign-some (suc n) h = refl

module _ (N : Numbers) (ns : List Name) (R : ℕ → Option Row) where
  -- rows are added
  mutual
    pub grows : {Γ : Context} {ε : Slots} {W : Written} {n r m : ℕ} → Expands N ns R Γ ε W n r m → n ≤ m
    grows (of_slot e h) = omega arith
    grows (of_scope x) = grows x
    grows (of_use e s x y) = omega (arith, grows-passes x, grows y)
    grows (of_skip h) = omega arith
    grows (of_diverge h) = omega arith
    grows (of_truth h) = omega arith
    grows (of_number h) = omega arith
    grows (of_private e h) = omega arith
    grows (of_name e x h) = omega (arith, grows_args x)
    grows (of_fetch x h) = omega (arith, grows x)
    grows (of_operate x y h) = omega (arith, grows x, grows y)
    grows (of_assign x y h) = omega (arith, grows x, grows y)
    grows (of_sequence x y h) = omega (arith, grows x, grows y)
    grows (of_choose b x y h) = omega (arith, grows b, grows x, grows y)
    grows (of_while x y h) = omega (arith, grows x, grows y)
    grows (of_new x h) = omega (arith, grows x)

    pub grows_args : {Γ : Context} {ε : Slots} {ws : Writtens} {tys : List ℕ} {n m : ℕ} {xs : Parts} →
        ExpandsArgs N ns R Γ ε ws tys n xs m → n ≤ m
    grows_args no_args = omega arith
    grows_args (one_arg e x y) = omega (arith, grows x, grows_args y)

    pub grows-passes : {Γ : Context} {ε : Slots} {used rows : ℕ → ℕ} {j : ℕ} {ps : List Parameter} {ws : Writtens}
        {n m : ℕ} →
        Passes N ns R Γ ε used rows j ps ws n m → n ≤ m
    grows-passes no_more = omega arith
    grows-passes (one_used u x y) = omega (arith, grows x, grows-passes y)
    grows-passes (one_unused u y) = grows-passes y

  -- a use of a procedure: the rows of its term, and those of the arguments that it uses
  made-use : (Γ Δ : Context) (id ty n i m : ℕ) (tys : List ℕ) (ws : Writtens) (ps : List Parameter) (body : Written) →
      meaning ns (binders Γ) id ≡ routine (length (binders Δ)) ty tys → Sees Γ Δ ps body →
      i ≡ n + total (length ps) (λ j. sign (uses N ns Δ ps body (0 + j)) * mades N ns (binders Γ) (forms N ns Γ)
      (makes N ns Γ) ws j) →
      m ≡ i + made N ns (inside ps (binders Δ)) (forms N ns Δ) (makes N ns Δ) body →
      m ≡ n + by_meaning (meaning ns (binders Γ) id) 1
      (λ k. 1)
      (λ k. 0)
      (λ k. makes N ns Γ k + total ((forms N ns Γ).count k)
      (λ j. sign (((forms N ns Γ).form k).of (k + j)) * mades N ns (binders Γ) (forms N ns Γ) (makes N ns Γ) ws j))
      (λ often ty tys. 1 + made_args N ns (binders Γ) (forms N ns Γ) (makes N ns Γ) ws tys)
  unfolding by_meaning uses
  made-use Γ Δ id ty n i m tys ws ps body e s x y =
      let k : ℕ = length (binders Δ) in
      let f : Form = form_of N ns (inside ps (binders Δ)) (forms N ns Δ) body in
      let μ : ℕ → ℕ = λ j. mades N ns (binders Γ) (forms N ns Γ) (makes N ns Γ) ws j in
      let t : total (length ps) (λ j. sign (f.of (k + (0 + j))) * μ j) ≡ total (length ps)
      (λ j. sign (f.of (k + j)) * μ j) =
      total-same (length ps) (λ j. sign (f.of (k + (0 + j))) * μ j) (λ j. sign (f.of (k + j)) * μ j)
      (λ j. let z : 0 + j ≡ j = omega arith in rw z) in
      rw (e, sees-made N ns s, sees-count N ns s, sees-form N ns s) (omega (arith, t, x, y))

  made-named : (Γ : Context) (id ty n m : ℕ) (often : Often) (tys : List ℕ) (ws : Writtens) →
      meaning ns (binders Γ) id ≡ named often ty tys →
      m ≡ suc n + made_args N ns (binders Γ) (forms N ns Γ) (makes N ns Γ) ws tys →
      m ≡ n + by_meaning (meaning ns (binders Γ) id) 1
      (λ k. 1)
      (λ k. 0)
      (λ k. makes N ns Γ k + total ((forms N ns Γ).count k)
      (λ j. sign (((forms N ns Γ).form k).of (k + j)) * mades N ns (binders Γ) (forms N ns Γ) (makes N ns Γ) ws j))
      (λ often ty tys. 1 + made_args N ns (binders Γ) (forms N ns Γ) (makes N ns Γ) ws tys)
  unfolding by_meaning
  made-named Γ id ty n m often tys ws e x = rw e (omega arith)

  made-private : (Γ : Context) (id k d n : ℕ) (ws : Writtens) → meaning ns (binders Γ) id ≡ private k d →
      suc n ≡ n + by_meaning (meaning ns (binders Γ) id) 1
      (λ k. 1)
      (λ k. 0)
      (λ k. makes N ns Γ k + total ((forms N ns Γ).count k)
      (λ j. sign (((forms N ns Γ).form k).of (k + j)) * mades N ns (binders Γ) (forms N ns Γ) (makes N ns Γ) ws j))
      (λ often ty tys. 1 + made_args N ns (binders Γ) (forms N ns Γ) (makes N ns Γ) ws tys)
  unfolding by_meaning
  made-private Γ id k d n ws e = rw e (omega arith)

  -- the arguments from number j on
  passes-first : (used g : ℕ → ℕ) (m j a b c n : ℕ) → 0 < used j → b ≡ a + n →
      c ≡ b + total m (λ x. sign (used (suc j + x)) * g (suc x)) → g 0 ≡ n →
      c ≡ a + total (suc m) (λ x. sign (used (j + x)) * g x)
  passes-first used g m j a b c n u x y z =
      let e : j + 0 ≡ j = omega arith in
      let s : sign (used (j + 0)) ≡ 1 = rw e (sign-some (used j) u) in
      let f : sign (used (j + 0)) * g 0 ≡ g 0 = rw s (omega arith) in
      let t : total m (λ i. sign (used (suc j + i)) * g (suc i)) ≡ total m (λ i. sign (used (j + suc i)) * g (suc i)) =
      total-same m (λ i. sign (used (suc j + i)) * g (suc i)) (λ i. sign (used (j + suc i)) * g (suc i))
      (λ i. let q : j + suc i ≡ suc j + i = omega arith in rw q) in
      omega (arith, total_first m (λ i. sign (used (j + i)) * g i), f, t)

  passes-past : (used g : ℕ → ℕ) (m j a c : ℕ) → used j ≡ 0 →
      c ≡ a + total m (λ x. sign (used (suc j + x)) * g (suc x)) →
      c ≡ a + total (suc m) (λ x. sign (used (j + x)) * g x)
  passes-past used g m j a c u y =
      let e : j + 0 ≡ j = omega arith in
      let s : sign (used (j + 0)) ≡ 0 = rw e (sign-none (used j) u) in
      let f : sign (used (j + 0)) * g 0 ≡ 0 = rw s (zero-mul (g 0)) in
      let t : total m (λ i. sign (used (suc j + i)) * g (suc i)) ≡ total m (λ i. sign (used (j + suc i)) * g (suc i)) =
      total-same m (λ i. sign (used (suc j + i)) * g (suc i)) (λ i. sign (used (j + suc i)) * g (suc i))
      (λ i. let q : j + suc i ≡ suc j + i = omega arith in rw q) in
      omega (arith, total_first m (λ i. sign (used (j + i)) * g i), f, t)

  -- THEOREM: as many rows as are counted
  mutual
    unfolding made made_args mades binders forms makes after

    pub expands-made : {Γ : Context} {ε : Slots} {W : Written} {n r m : ℕ} → Expands N ns R Γ ε W n r m →
        m ≡ n + made N ns (binders Γ) (forms N ns Γ) (makes N ns Γ) W
    expands-made (of_slot {Γ = Γ} {W = W} {s = s} e h) = omega (arith, (come-alone N ns W Γ s e).1)
    expands-made (of_scope x) = expands-made x
    expands-made (of_use {Γ = Γ} {Δ = Δ} {n = n} {i = i} {m = m} {id = id} {ty = ty} {tys = tys} {ws = ws} {ps = ps}
        {body = body} e s x y) =
        made-use Γ Δ id ty n i m tys ws ps body e s (passes-made x) (expands-made y)
    expands-made (of_skip h) = omega arith
    expands-made (of_diverge h) = omega arith
    expands-made (of_truth h) = omega arith
    expands-made (of_number h) = omega arith
    expands-made (of_private {Γ = Γ} {n = n} {id = id} {k = k} {d = d} {ws = ws} e h) = made-private Γ id k d n ws e
    expands-made (of_name {Γ = Γ} {n = n} {m = m} {id = id} {ty = ty} {often = often} {tys = tys} {ws = ws} e x h) =
        made-named Γ id ty n m often tys ws e (args-made x)
    expands-made (of_fetch x h) = omega (arith, expands-made x)
    expands-made (of_operate x y h) = omega (arith, expands-made x, expands-made y)
    expands-made (of_assign x y h) = omega (arith, expands-made x, expands-made y)
    expands-made (of_sequence x y h) = omega (arith, expands-made x, expands-made y)
    expands-made (of_choose b x y h) = omega (arith, expands-made b, expands-made x, expands-made y)
    expands-made (of_while x y h) = omega (arith, expands-made x, expands-made y)
    expands-made (of_new x h) = omega (arith, expands-made x)

    args-made : {Γ : Context} {ε : Slots} {ws : Writtens} {tys : List ℕ} {n m : ℕ} {xs : Parts} →
        ExpandsArgs N ns R Γ ε ws tys n xs m → m ≡ n + made_args N ns (binders Γ) (forms N ns Γ) (makes N ns Γ) ws tys
    args-made no_args = omega arith
    args-made (one_arg e x y) = omega (arith, expands-made x, args-made y)

    passes-made : {Γ : Context} {ε : Slots} {used rows : ℕ → ℕ} {j : ℕ} {ps : List Parameter} {ws : Writtens}
        {n m : ℕ} →
        Passes N ns R Γ ε used rows j ps ws n m →
        m ≡ n + total (length ps) (λ x. sign (used (j + x)) * mades N ns (binders Γ) (forms N ns Γ) (makes N ns Γ) ws x)
    passes-made (no_more {Γ = Γ} {used = used} {j = j}) =
        omega (
          arith,
          total-none (λ x. sign (used (j + x)) * mades N ns (binders Γ) (forms N ns Γ) (makes N ns Γ) none x),
        )
    passes-made (one_used {Γ = Γ} {used = used} {j = j} {n = n} {i = i} {m = m} {ps = ps} {w = w} {ws = ws} u x y) =
        passes-first used (λ k. mades N ns (binders Γ) (forms N ns Γ) (makes N ns Γ) (more w ws) k) (length ps) j n i m
        (made N ns (binders Γ) (forms N ns Γ) (makes N ns Γ) w) u (expands-made x) (passes-made y) refl
    passes-made (one_unused {Γ = Γ} {used = used} {j = j} {n = n} {m = m} {ps = ps} {w = w} {ws = ws} u y) =
        passes-past used (λ k. mades N ns (binders Γ) (forms N ns Γ) (makes N ns Γ) (more w ws) k) (length ps) j n m u
        (passes-made y)

module _ (N : Numbers) (ns : List Name) (R S : ℕ → Option Row) where
  -- S has the rows from n to m of R
  abbrev pub Same : ℕ → ℕ → Type 0
  Same n m = (i : ℕ) → n ≤ i → i < m → S i ≡ R i

  same-part : {n m k l : ℕ} → Same n m → n ≤ k → l ≤ m → Same k l
  same-part f a b i c d = f i (omega arith) (omega arith)

  -- THEOREM: an expansion depends on the rows that it makes alone
  mutual
    pub expands-same : {Γ : Context} {ε : Slots} {W : Written} {n r m : ℕ} → Expands N ns R Γ ε W n r m → Same n m →
        Expands N ns S Γ ε W n r m
    expands-same (of_slot e h) f = of_slot e h
    expands-same (of_scope x) f = of_scope (expands-same x f)
    expands-same (of_use e s x y) f =
        of_use e s (passes_same x (same-part f (omega arith) (grows N ns R y)))
        (expands-same y (same-part f (grows-passes N ns R x) (omega arith)))
    expands-same (of_skip {n = n} h) f = of_skip (f n (omega arith) (omega arith) ∙ h)
    expands-same (of_diverge {n = n} h) f = of_diverge (f n (omega arith) (omega arith) ∙ h)
    expands-same (of_truth {n = n} h) f = of_truth (f n (omega arith) (omega arith) ∙ h)
    expands-same (of_number {n = n} h) f = of_number (f n (omega arith) (omega arith) ∙ h)
    expands-same (of_private {n = n} e h) f = of_private e (f n (omega arith) (omega arith) ∙ h)
    expands-same (of_name {n = n} e x h) f =
        of_name e (args-same x (same-part f (omega arith) (omega arith)))
        (f n (omega arith) (omega (arith, grows_args N ns R x)) ∙ h)
    expands-same (of_fetch {n = n} x h) f =
        of_fetch (expands-same x (same-part f (omega arith) (omega arith)))
        (f n (omega arith) (omega (arith, grows N ns R x)) ∙ h)
    expands-same (of_operate {n = n} x y h) f =
        of_operate (expands-same x (same-part f (omega arith) (grows N ns R y)))
        (expands-same y (same-part f (omega (arith, grows N ns R x)) (omega arith)))
        (f n (omega arith) (omega (arith, grows N ns R x, grows N ns R y)) ∙ h)
    expands-same (of_assign {n = n} x y h) f =
        of_assign (expands-same x (same-part f (omega arith) (grows N ns R y)))
        (expands-same y (same-part f (omega (arith, grows N ns R x)) (omega arith)))
        (f n (omega arith) (omega (arith, grows N ns R x, grows N ns R y)) ∙ h)
    expands-same (of_sequence {n = n} x y h) f =
        of_sequence (expands-same x (same-part f (omega arith) (grows N ns R y)))
        (expands-same y (same-part f (omega (arith, grows N ns R x)) (omega arith)))
        (f n (omega arith) (omega (arith, grows N ns R x, grows N ns R y)) ∙ h)
    expands-same (of_choose {n = n} b x y h) f =
        of_choose (expands-same b (same-part f (omega arith) (omega (arith, grows N ns R x, grows N ns R y))))
        (expands-same x (same-part f (omega (arith, grows N ns R b)) (grows N ns R y)))
        (expands-same y (same-part f (omega (arith, grows N ns R b, grows N ns R x)) (omega arith)))
        (f n (omega arith) (omega (arith, grows N ns R b, grows N ns R x, grows N ns R y)) ∙ h)
    expands-same (of_while {n = n} x y h) f =
        of_while (expands-same x (same-part f (omega arith) (grows N ns R y)))
        (expands-same y (same-part f (omega (arith, grows N ns R x)) (omega arith)))
        (f n (omega arith) (omega (arith, grows N ns R x, grows N ns R y)) ∙ h)
    expands-same (of_new {n = n} x h) f =
        of_new (expands-same x (same-part f (omega arith) (omega arith)))
        (f n (omega arith) (omega (arith, grows N ns R x)) ∙ h)

    pub args-same : {Γ : Context} {ε : Slots} {ws : Writtens} {tys : List ℕ} {n m : ℕ} {xs : Parts} →
        ExpandsArgs N ns R Γ ε ws tys n xs m → Same n m → ExpandsArgs N ns S Γ ε ws tys n xs m
    args-same no_args f = no_args
    args-same (one_arg e x y) f =
        one_arg e (expands-same x (same-part f (omega arith) (grows_args N ns R y)))
        (args-same y (same-part f (grows N ns R x) (omega arith)))

    pub passes_same : {Γ : Context} {ε : Slots} {used rows : ℕ → ℕ} {j : ℕ} {ps : List Parameter} {ws : Writtens}
        {n m : ℕ} →
        Passes N ns R Γ ε used rows j ps ws n m → Same n m → Passes N ns S Γ ε used rows j ps ws n m
    passes_same no_more f = no_more
    passes_same (one_used u x y) f =
        one_used u (expands-same x (same-part f (omega arith) (grows-passes N ns R y)))
        (passes_same y (same-part f (grows N ns R x) (omega arith)))
    passes_same (one_unused u y) f = one_unused u (passes_same y f)

-- THEOREM: a sheet makes as many rows as are counted, at most 12,288 where it is accepted
sheet-made : (S : Sheet) (R : ℕ → Option Row) (r n : ℕ) → Expansion S R r n → n ≡ made_sheet S
unfolding Expansion made_sheet binders forms makes
sheet-made S R r n x = omega (arith, expands-made S.numbers S.names R x)

pub few-rows : FewRows
unfolding FewRows
few-rows S R r n A x = omega (arith, sheet-made S R r n x, rows-sheet S, accepted-nodes S A)
