-- An argument that is not used may be any other: the term is the same. Document 02 [1].
use Prim.Native.Nat.{ℕ, zero, suc, ◌+◌, ◌-◌, ◌<◌}
use native.Mathlib.Omega.{arith}
use mathlib.Core.Path.{◌≡◌, refl, ap}
use mathlib.Core.List.{List, [], ◌∷◌}
use lib.ListN.{length}
use Rattle.language.specs.Ty.{questions, answers}
use Rattle.language.specs.Term.{Operation}
use Rattle.language.specs.Typing.{operands}
use Rattle.language.specs.declared.Numbers.{Numbers}
use Rattle.sheet_parts.specs.Rule.{values}
use Rattle.sheet_written.specs.Written.{Written, Writtens, Name}
use Rattle.sheet_written.specs.Meaning.{Binder, a_block, meaning}
use Rattle.sheet_written.specs.Meaning.{inside, after, typed, ty_of, some_value, Terms, with-level, with-body}
use Rattle.sheet_written.specs.Meaning.{with_passed, resolve, resolve_args, resolved}
use Rattle.sheet_written.specs.Form.{Form, only, plus, times, Forms, with_form, form_of}
use Rattle.sheet_written.specs.Form.{form_args, formed}
use Rattle.sheet_written.specs.Exchange.{Exchanged, as_before, in_call, in-fetch, in-operate, in-assign, in_sequence}
use Rattle.sheet_written.specs.Exchange.{in_choose, in-while, in-new, in_procedure, ExchangedArgs, no_more, one_more}
use Rattle.sheet_written.specs.Exchange.{one_unused}
use Rattle.sheet_written.proofs.Factors.{some-operand, some-question}
use Rattle.sheet_written.proofs.Alike.{Alike, each_left, each_right, each-times, alike-level, alike-body}
use Rattle.sheet_written.proofs.Unused.{Rights, rights-block, rights-passed, rights-after, alike-inside, unused-use}
use Rattle.sheet_written.proofs.Unused.{unused}

module _ (N : Numbers) (ns : List Name) where
  pub exchanged-typed : {bs : List Binder} {φ : Forms} {W X : Written} → Exchanged N ns bs φ W X →
      typed ns bs W ≡ typed ns bs X
  unfolding typed
  exchanged-typed as_before = refl
  exchanged-typed (in_call a) = refl
  exchanged-typed (in-fetch x) = ap (λ (k : ℕ). k - 2) (exchanged-typed x)
  exchanged-typed (in-operate x y) = refl
  exchanged-typed (in-assign x y) = refl
  exchanged-typed (in_sequence x y) = exchanged-typed y
  exchanged-typed (in_choose b x y) = exchanged-typed x
  exchanged-typed (in-while x y) = refl
  exchanged-typed (in-new x) = refl
  exchanged-typed (in_procedure x y) = exchanged-typed y

  -- THEOREM: terms that are the same but for arguments that are not used stand for the same term
  mutual
    unfolding form_of form_args formed resolve resolve_args resolved after

    pub exchanged : {bs : List Binder} {φ : Forms} {W X : Written} → Exchanged N ns bs φ W X → (ρ σ : Terms) →
        Rights N ns φ bs ρ σ → Alike bs (form_of N ns bs φ W) ρ σ → (n : ℕ) →
        resolve N ns bs ρ n W ≡ resolve N ns bs σ n X
    exchanged (as_before {bs = bs} {φ = φ} {x = x}) ρ σ r a n = unused N ns x bs φ ρ σ r a n
    exchanged (in_call {bs = bs} {φ = φ} {id = id} {ws = ws} {ws' = ws'} x) ρ σ r a n =
        unused-use N ns bs φ ρ σ n id ws ws' (meaning ns bs id) (r id) (λ j u b l. exchanged-passed x ρ σ j u r b l)
        (λ u tys b. exchanged-args x ρ σ u tys r b n) a
    exchanged (in-fetch x) ρ σ r a n = rw (exchanged x ρ σ r a n)
    exchanged (in-operate {bs = bs} {φ = φ} {op = op} {x = v} {y = w} x y) ρ σ r a n =
        let o : Operation = record { over = N; operator = op } in
        let f : Form = form_of N ns bs φ v in
        let g : Form = form_of N ns bs φ w in
        rw (
          exchanged x ρ σ r (each_left bs f (times (operands o) g) a) n,
          exchanged y ρ σ r
              (each-times bs (operands o) g (some-operand o) (each_right bs f (times (operands o) g) a)) n,
        )
    exchanged (in-assign {bs = bs} {φ = φ} {x = v} {y = w} x y) ρ σ r a n =
        let c : ℕ = values N (typed ns bs v) in
        let f : Form = form_of N ns bs φ w in
        let g : Form = form_of N ns bs φ v in
        rw (
          exchanged y ρ σ r (each_left bs f (times c g) a) n,
          exchanged x ρ σ r
              (each-times bs c g (some_value N (typed ns bs v)) (each_right bs f (times c g) a)) n,
          exchanged-typed x,
        )
    exchanged (in_sequence {bs = bs} {φ = φ} {x = v} {y = w} x y) ρ σ r a n =
        let f : Form = form_of N ns bs φ v in
        let g : Form = form_of N ns bs φ w in
        rw (exchanged x ρ σ r (each_left bs f g a) n, exchanged y ρ σ r (each_right bs f g a) n)
    exchanged (in_choose {bs = bs} {φ = φ} {b = u} {x = v} {y = w} b x y) ρ σ r a n =
        let e : Form = form_of N ns bs φ u in
        let f : Form = form_of N ns bs φ v in
        let g : Form = form_of N ns bs φ w in
        let c : Alike bs (plus f g) ρ σ = each_right bs e (plus f g) a in
        rw (
          exchanged b ρ σ r (each_left bs e (plus f g) a) n,
          exchanged x ρ σ r (each_left bs f g c) n,
          exchanged y ρ σ r (each_right bs f g c) n,
        )
    exchanged (in-while {bs = bs} {φ = φ} {x = v} {y = w} x y) ρ σ r a n =
        let f : Form = form_of N ns bs φ v in
        let g : Form = form_of N ns bs φ w in
        rw (exchanged x ρ σ r (each_left bs f g a) n, exchanged y ρ σ r (each_right bs f g a) n)
    exchanged (in-new {bs = bs} {φ = φ} {id = id} {d = d} {x = v} x) ρ σ r a n =
        let f : Form = form_of N ns (a_block id d ∷ bs) φ v in
        rw (exchanged x (with-level (length bs) n ρ) (with-level (length bs) n σ) (rights-block N ns φ id d n bs ρ σ r)
        (alike-level id d n bs f ρ σ (each-times bs (values N d) f (some_value N d) a)) (suc n))
    exchanged (in_procedure {bs = bs} {φ = φ} {id = id} {ty = ty} {ps = ps} {x = v} {x' = v'} {y = w} x y) ρ σ r a n =
        let f : Form = form_of N ns (inside ps bs) φ v in
        exchanged y
        (with-body (length bs) (λ xs l. resolve N ns (inside ps bs) (with_passed (length bs) xs ρ) l v) ρ)
        (with-body (length bs) (λ xs l. resolve N ns (inside ps bs) (with_passed (length bs) xs σ) l v') σ)
        (rights-after N ns φ id ty ps bs ρ σ f
        (λ xs l. resolve N ns (inside ps bs) (with_passed (length bs) xs ρ) l v)
        (λ xs l. resolve N ns (inside ps bs) (with_passed (length bs) xs σ) l v')
        (λ xs ys g h l. exchanged x (with_passed (length bs) xs ρ) (with_passed (length bs) ys σ)
        (rights-passed N ns φ ps bs ρ σ xs ys r) (alike-inside N ns ps bs f ρ σ xs ys g h) l)
        r)
        (alike-body id ty ps bs (form_of N ns (after id ty ps bs) (with_form (length bs) f (length ps) φ) w) ρ σ
        (λ xs l. resolve N ns (inside ps bs) (with_passed (length bs) xs ρ) l v)
        (λ xs l. resolve N ns (inside ps bs) (with_passed (length bs) xs σ) l v') a)
        n

    -- arguments of a declared name: all are used
    exchanged-args : {bs : List Binder} {φ : Forms} {used : ℕ → ℕ} {j : ℕ} {ws ws' : Writtens} →
        ExchangedArgs N ns bs φ used j ws ws' → (ρ σ : Terms) → ((i : ℕ) → 0 < used i) → (tys : List ℕ) →
        Rights N ns φ bs ρ σ →
        Alike bs (form_args N ns bs φ ws tys) ρ σ → (n : ℕ) →
        resolve_args N ns bs ρ n ws tys ≡ resolve_args N ns bs σ n ws' tys
    exchanged-args no_more ρ σ u tys r a n = refl
    exchanged-args (one_more x y) ρ σ u [] r a n = refl
    exchanged-args (one_more {bs = bs} {φ = φ} {w = w} {ws = ws} x y) ρ σ u (ty ∷ tys) r a n =
        let q : ℕ = questions (ty_of N ty) in
        let f : Form = form_of N ns bs φ w in
        let c : Form = only (answers (ty_of N ty)) in
        let g : Form = form_args N ns bs φ ws tys in
        rw (
          exchanged x ρ σ r (each-times bs q f (some-question (ty_of N ty))
              (each_left bs (times q f) c (each_left bs (plus (times q f) c) g a))) n,
          exchanged-args y ρ σ u tys r (each_right bs (plus (times q f) c) g a) n,
        )
    exchanged-args (one_unused {j = j} e t y) ρ σ u tys r a n = absurd (omega (arith, u j, e))

    exchanged-passed : {bs : List Binder} {φ : Forms} {used : ℕ → ℕ} {j : ℕ} {ws ws' : Writtens} →
        ExchangedArgs N ns bs φ used j ws ws' → (ρ σ : Terms) (i : ℕ) → 0 < used (j + i) → Rights N ns φ bs ρ σ →
        Alike bs (formed N ns bs φ ws i) ρ σ → (n : ℕ) → resolved N ns bs ρ n ws i ≡ resolved N ns bs σ n ws' i
    exchanged-passed no_more ρ σ i u r a n = refl
    exchanged-passed (one_more x y) ρ σ zero u r a n = exchanged x ρ σ r a n
    exchanged-passed (one_more {used = used} {j = j} x y) ρ σ (suc i) u r a n =
        let e : j + suc i ≡ suc j + i = omega arith in
        let u' : 0 < used (suc j + i) = rw e at u in
        exchanged-passed y ρ σ i u' r a n
    exchanged-passed (one_unused {used = used} {j = j} h t y) ρ σ zero u r a n =
        let e : j + 0 ≡ j = omega arith in
        let u' : 0 < used j = rw e at u in
        absurd (omega (arith, h))
    exchanged-passed (one_unused {used = used} {j = j} h t y) ρ σ (suc i) u r a n =
        let e : j + suc i ≡ suc j + i = omega arith in
        let u' : 0 < used (suc j + i) = rw e at u in
        exchanged-passed y ρ σ i u' r a n
