-- How far forms and what parts come down to reach: only enclosing parameters have a coefficient. Document 02 [1].
use Prim.Native.Nat.{ℕ, zero, suc, ◌+◌, ◌-◌, ◌≤◌, ◌<◌}
use native.Mathlib.Omega.{arith}
use native.Mathlib.Nat.{mul-zero}
use mathlib.Core.Path.{◌≡◌, refl, sym, ap}
use mathlib.Core.Logic.{◌⊎◌, inl, inr}
use mathlib.Core.List.{List, [], ◌∷◌}
use lib.ListN.{length}
use lib.Dec.{ltb}
use borrow.Author.Tests.{ltb-true, ltb-false, ne_eqb}
use Rattle.language.specs.declared.Numbers.{Numbers}
use Rattle.language.specs.Ty.{questions, answers}
use Rattle.language.specs.Typing.{operands}
use Rattle.language.specs.Weight.{use_weight}
use Rattle.sheet_parts.specs.Rule.{values}
use Rattle.sheet_written.specs.Environment.{beyond}
use Rattle.sheet_written.specs.Written.{Written, skip, diverge, truth, number, call, fetch, operate, assign}
use Rattle.sheet_written.specs.Written.{sequence, while, choose, new, procedure, Parameter, Writtens, none, more}
use Rattle.sheet_written.specs.Written.{Name}
use Rattle.sheet_written.specs.Meaning.{Binder, Meaning, private, argument, routine, named, retired, free, meaning}
use Rattle.sheet_written.specs.Meaning.{inside, after, by_meaning, typed, types_of, ty_of}
use Rattle.sheet_written.specs.Fine.{depth, depths}
use Rattle.sheet_written.specs.Form.{Form, only, unit, plus, times, lower, sums, instance, form_of, form_args, formed}
use Rattle.sheet_written.specs.Come.{through, come, comes}
use Rattle.sheet_written.specs.Occurs.{IsParameter}
use Rattle.sheet_written.specs.Context.{Context, whole, in_block, in_procedure, in_scope, binders, forms, uses}
use Rattle.sheet_written.specs.Context.{Sees, sees_it, from_block, from_procedure, from_scope}
use Rattle.sheet_written.specs.Marks.{bits, used_bits}
use Rattle.sheet_written.proofs.Tests.{by-test}
use Rattle.sheet_written.proofs.Numbering.{Below, below}
use Rattle.sheet_written.proofs.Renaming.{length-inside}
use Rattle.sheet_written.proofs.Alike.{inside-parameter, parameter-below}
use Rattle.sheet_written.proofs.Contexts.{sees_below, sees-form, sees-parameter, Found, Found-right, found}
use Rattle.sheet_written.proofs.ComeUsed.{Argument-right, is-parameter}

pub length_types : (ps : List Parameter) → length (types_of ps) ≡ length ps
unfolding types_of
length_types [] = refl
length_types (p ∷ ps) = ap suc (length_types ps)

-- what a use comes down to is no greater than what its arguments do, or an outer parameter
through-bound : (k c n : ℕ) (g : ℕ → ℕ) → k ≤ n → ((j : ℕ) → g j ≤ n) → through k c g ≤ n
unfolding through beyond
through-bound k zero n g h l = omega arith
through-bound k (suc s) n g h l =
    by-test (ltb s k)
    (λ t. let b : s < k = ltb-true s k t in rw t (omega arith))
    (λ t. rw t (l (s - k)))

come-use : (ns : List Name) (bs : List Binder) (κ : ℕ → ℕ) (ws : Writtens) (m : Meaning) → Below (length bs) m →
    ((j : ℕ) → comes ns bs κ ws j ≤ length bs + depths ws) →
    by_meaning m 0 (λ k. 0) (λ k. suc k) (λ k. through k (κ k) (λ j. comes ns bs κ ws j)) (λ often ty tys. 0)
    ≤ length bs + (1 + depths ws)
unfolding by_meaning Below
come-use ns bs κ ws (private k d) b l = omega arith
come-use ns bs κ ws (argument k ty) b l = omega arith
come-use ns bs κ ws (routine k ty tys) b l =
    omega (arith, through-bound k (κ k) (length bs + depths ws) (λ j. comes ns bs κ ws j) (omega arith) l)
come-use ns bs κ ws (named often ty tys) b l = omega arith
come-use ns bs κ ws retired b l = omega arith
come-use ns bs κ ws free b l = omega arith

-- THEOREM: what a part comes down to is at most the number of enclosing binders and the part's depth
mutual
  unfolding come comes depth depths after

  pub come-bound : (W : Written) (ns : List Name) (bs : List Binder) (κ : ℕ → ℕ) → come ns bs κ W ≤ length bs + depth W
  come-bound skip ns bs κ = omega arith
  come-bound (diverge ty) ns bs κ = omega arith
  come-bound (truth b) ns bs κ = omega arith
  come-bound (number b) ns bs κ = omega arith
  come-bound (call id ws) ns bs κ =
      come-use ns bs κ ws (meaning ns bs id) (below ns bs id) (λ j. comes-bound ws ns bs κ j)
  come-bound (fetch v) ns bs κ = omega arith
  come-bound (operate op x y) ns bs κ = omega arith
  come-bound (assign x y) ns bs κ = omega arith
  come-bound (sequence x y) ns bs κ = omega arith
  come-bound (choose b x y) ns bs κ = omega arith
  come-bound (while x y) ns bs κ = omega arith
  come-bound (new id d c) ns bs κ = omega arith
  come-bound (procedure id ty ps body rest) ns bs κ =
      omega (
        arith,
        come-bound rest ns (after id ty ps bs)
            (beyond (length bs) κ (λ j. come ns (inside ps bs) κ body)),
      )

  comes-bound : (ws : Writtens) (ns : List Name) (bs : List Binder) (κ : ℕ → ℕ) (j : ℕ) →
      comes ns bs κ ws j ≤ length bs + depths ws
  comes-bound none ns bs κ j = omega arith
  comes-bound (more w ws) ns bs κ zero = omega (arith, come-bound w ns bs κ)
  comes-bound (more w ws) ns bs κ (suc j) = omega (arith, comes-bound ws ns bs κ j)

-- sums and products of coefficients that are 0
sums_none : (m : ℕ) (c : ℕ → ℕ) (f : ℕ → Form) (s : ℕ) → ((j : ℕ) → (f j).of s ≡ 0) → (sums m c f).of s ≡ 0
unfolding sums plus times only
sums_none zero c f s h = refl
sums_none (suc m) c f s h = rw (sums_none m c f s h, h m, mul-zero (c m))

plus_none : (f g : Form) (s : ℕ) → f.of s ≡ 0 → g.of s ≡ 0 → (plus f g).of s ≡ 0
unfolding plus
plus_none f g s p q = omega arith

times_none : (c : ℕ) (f : Form) (s : ℕ) → f.of s ≡ 0 → (times c f).of s ≡ 0
unfolding times
times_none c f s p = rw (p, mul-zero c)

only_none : (c s : ℕ) → (only c).of s ≡ 0
unfolding only
only_none c s = refl

unit-none : (k s : ℕ) → (s ≡ k → ⊥) → (unit k).of s ≡ 0
unfolding unit
unit-none k s n = rw (ne_eqb s k n)

instance-none : (k m : ℕ) (f : Form) (xs : ℕ → Form) (s : ℕ) → (s < k → f.of s ≡ 0) → ((j : ℕ) → (xs j).of s ≡ 0) →
    (instance k m f xs).of s ≡ 0
unfolding instance lower
instance-none k m f xs s h l =
    plus_none (lower k f) (sums m (λ j. f.of (k + j)) xs) s
    (by-test (ltb s k) (λ t. rw t (h (ltb-true s k t))) (λ t. rw t))
    (sums_none m (λ j. f.of (k + j)) xs s l)

module _ (N : Numbers) (ns : List Name) where
  -- the terms of the procedures that Γ sees have no coefficients but those of their enclosing parameters
  abbrev IdleIn : Context → Type 0
  IdleIn Γ = (Δ : Context) (ps : List Parameter) (body : Written) (s : ℕ) → Sees Γ Δ ps body →
      (IsParameter (inside ps (binders Δ)) s → ⊥) → (form_of N ns (inside ps (binders Δ)) (forms N ns Δ) body).of s ≡ 0

  idle-block : (id d : ℕ) (Γ : Context) → IdleIn Γ → IdleIn (in_block id d Γ)
  idle-block id d Γ I Δ ps body s (from_block x) n = I Δ ps body s x n

  idle-inside : (qs : List Parameter) (Γ : Context) → IdleIn Γ → IdleIn (in_procedure qs Γ)
  idle-inside qs Γ I Δ ps body s (from_procedure x) n = I Δ ps body s x n

  idle-scope : (id ty : ℕ) (qs : List Parameter) (term : Written) (Γ : Context) → IdleIn Γ →
      ((s : ℕ) → (IsParameter (inside qs (binders Γ)) s → ⊥) →
      (form_of N ns (inside qs (binders Γ)) (forms N ns Γ) term).of s ≡ 0) → IdleIn (in_scope id ty qs term Γ)
  idle-scope id ty qs term Γ I h Δ ps body s sees_it n = h s n
  idle-scope id ty qs term Γ I h Δ ps body s (from_scope x) n = I Δ ps body s x n

  -- the term of a procedure that is found, below its number
  idle-found : (Γ : Context) (k : ℕ) (tys : List ℕ) (s : ℕ) → IdleIn Γ → Found Γ k tys →
      (IsParameter (binders Γ) s → ⊥) → s < k → ((forms N ns Γ).form k).of s ≡ 0
  idle-found Γ k tys s I F n l =
      let Δ : Context = F.around in
      let ps : List Parameter = F.parameters in
      let outer : IsParameter (inside ps (binders Δ)) s → ⊥ =
      λ p. go (inside-parameter ps (binders Δ) s p) in
      rw (F.number, sees-form N ns F.sees) (I Δ ps F.body s F.sees outer)
    where
      go : IsParameter (binders F.around) s
          ⊎ ((j : ℕ) × (j < length F.parameters) × (s ≡ length (binders F.around) + j)) → ⊥
      go (inl p) = n (sees-parameter s F.sees p)
      go (inr (j, b, e)) = let k' : k ≡ length (binders F.around) = F.number in omega arith

  idle-use : (Γ : Context) (ws : Writtens) (s : ℕ) (m : Meaning) → Found-right Γ m → Argument-right (binders Γ) m →
      IdleIn Γ → (IsParameter (binders Γ) s → ⊥) →
      ((j : ℕ) → (formed N ns (binders Γ) (forms N ns Γ) ws j).of s ≡ 0) →
      ((tys : List ℕ) → (form_args N ns (binders Γ) (forms N ns Γ) ws tys).of s ≡ 0) →
      (by_meaning m (only 1)
      (λ k. only 2)
      (λ k. unit k)
      (λ k. instance k ((forms N ns Γ).count k) ((forms N ns Γ).form k)
      (λ j. formed N ns (binders Γ) (forms N ns Γ) ws j))
      (λ often ty tys. plus (only (use_weight often)) (form_args N ns (binders Γ) (forms N ns Γ) ws tys))).of s ≡ 0
  unfolding by_meaning Found-right Argument-right
  idle-use Γ ws s (private k d) F A I n g l = only_none 2 s
  idle-use Γ ws s (argument k ty) F A I n g l = unit-none k s (λ e. n (rw e A))
  idle-use Γ ws s (routine k ty tys) F A I n g l =
      instance-none k ((forms N ns Γ).count k) ((forms N ns Γ).form k)
      (λ j. formed N ns (binders Γ) (forms N ns Γ) ws j) s (λ b. idle-found Γ k tys s I F n b) g
  idle-use Γ ws s (named often ty tys) F A I n g l =
      plus_none (only (use_weight often)) (form_args N ns (binders Γ) (forms N ns Γ) ws tys) s
      (only_none (use_weight often) s) (l tys)
  idle-use Γ ws s retired F A I n g l = only_none 1 s
  idle-use Γ ws s free F A I n g l = only_none 1 s

  -- THEOREM: a form has no coefficients but those of the enclosing parameters
  mutual
    unfolding form_of form_args formed binders forms after IsParameter

    idle : (W : Written) (Γ : Context) (s : ℕ) → IdleIn Γ → (IsParameter (binders Γ) s → ⊥) →
        (form_of N ns (binders Γ) (forms N ns Γ) W).of s ≡ 0
    idle skip Γ s I n = only_none 1 s
    idle (diverge ty) Γ s I n = only_none 1 s
    idle (truth b) Γ s I n = only_none 1 s
    idle (number b) Γ s I n = only_none 1 s
    idle (call id ws) Γ s I n =
        idle-use Γ ws s (meaning ns (binders Γ) id) (found ns Γ id) (is-parameter ns (binders Γ) id) I n
        (λ j. idle-formed ws Γ s j I n) (λ tys. idle-args ws Γ s tys I n)
    idle (fetch v) Γ s I n = idle v Γ s I n
    idle (operate op x y) Γ s I n =
        let k : ℕ = operands (record { over = N; operator = op }) in
        let g : Form = form_of N ns (binders Γ) (forms N ns Γ) y in
        plus_none (form_of N ns (binders Γ) (forms N ns Γ) x) (times k g) s (idle x Γ s I n)
        (times_none k g s (idle y Γ s I n))
    idle (assign x y) Γ s I n =
        let k : ℕ = values N (typed ns (binders Γ) x) in
        let f : Form = form_of N ns (binders Γ) (forms N ns Γ) x in
        plus_none (form_of N ns (binders Γ) (forms N ns Γ) y) (times k f) s (idle y Γ s I n)
        (times_none k f s (idle x Γ s I n))
    idle (sequence x y) Γ s I n =
        plus_none (form_of N ns (binders Γ) (forms N ns Γ) x) (form_of N ns (binders Γ) (forms N ns Γ) y) s
        (idle x Γ s I n) (idle y Γ s I n)
    idle (choose b x y) Γ s I n =
        let f : Form = form_of N ns (binders Γ) (forms N ns Γ) x in
        let g : Form = form_of N ns (binders Γ) (forms N ns Γ) y in
        plus_none (form_of N ns (binders Γ) (forms N ns Γ) b) (plus f g) s (idle b Γ s I n)
        (plus_none f g s (idle x Γ s I n) (idle y Γ s I n))
    idle (while x y) Γ s I n =
        plus_none (form_of N ns (binders Γ) (forms N ns Γ) x) (form_of N ns (binders Γ) (forms N ns Γ) y) s
        (idle x Γ s I n) (idle y Γ s I n)
    idle (new id d c) Γ s I n =
        times_none (values N d) (form_of N ns (binders (in_block id d Γ)) (forms N ns Γ) c) s
        (idle c (in_block id d Γ) s (idle-block id d Γ I) n)
    idle (procedure id ty ps body rest) Γ s I n =
        idle rest (in_scope id ty ps body Γ) s
        (idle-scope id ty ps body Γ I (λ i m. idle body (in_procedure ps Γ) i (idle-inside ps Γ I) m)) n

    idle-args : (ws : Writtens) (Γ : Context) (s : ℕ) (tys : List ℕ) → IdleIn Γ → (IsParameter (binders Γ) s → ⊥) →
        (form_args N ns (binders Γ) (forms N ns Γ) ws tys).of s ≡ 0
    idle-args none Γ s tys I n = only_none 0 s
    idle-args (more w ws) Γ s [] I n = only_none 0 s
    idle-args (more w ws) Γ s (ty ∷ tys) I n =
        let f : Form = form_of N ns (binders Γ) (forms N ns Γ) w in
        let q : ℕ = questions (ty_of N ty) in
        let a : ℕ = answers (ty_of N ty) in
        plus_none (plus (times q f) (only a)) (form_args N ns (binders Γ) (forms N ns Γ) ws tys) s
        (plus_none (times q f) (only a) s (times_none q f s (idle w Γ s I n)) (only_none a s))
        (idle-args ws Γ s tys I n)

    idle-formed : (ws : Writtens) (Γ : Context) (s j : ℕ) → IdleIn Γ → (IsParameter (binders Γ) s → ⊥) →
        (formed N ns (binders Γ) (forms N ns Γ) ws j).of s ≡ 0
    idle-formed none Γ s j I n = only_none 1 s
    idle-formed (more w ws) Γ s zero I n = idle w Γ s I n
    idle-formed (more w ws) Γ s (suc j) I n = idle-formed ws Γ s j I n

  idle-in : (Γ : Context) → IdleIn Γ
  unfolding binders forms
  idle-in whole = λ Δ ps body s x n. absurd (omega (arith, sees_below x))
  idle-in (in_block id d Γ) = idle-block id d Γ (idle-in Γ)
  idle-in (in_procedure ps Γ) = idle-inside ps Γ (idle-in Γ)
  idle-in (in_scope id ty ps body Γ) =
      idle-scope id ty ps body Γ (idle-in Γ)
      (λ s n. idle body (in_procedure ps Γ) s (idle-inside ps Γ (idle-in Γ)) n)

  -- so of four numbers from a procedure's own on, those that are no parameters of it are not used
  own-used : (Γ : Context) (ps : List Parameter) (body : Written) (j : ℕ) →
      beyond (length ps) (uses N ns Γ ps body) (λ i. 0) j ≡ uses N ns Γ ps body j
  unfolding beyond uses binders forms
  own-used Γ ps body j =
      by-test (ltb j (length ps))
      (λ t. rw t)
      (λ t. let l : length ps ≤ j = ltb-false j (length ps) t in
      let k : ℕ = length (binders Γ) in
      let z : (form_of N ns (inside ps (binders Γ)) (forms N ns Γ) body).of (k + j) ≡ 0 =
      idle body (in_procedure ps Γ) (k + j) (idle-inside ps Γ (idle-in Γ))
      (λ p. omega (
        arith,
        parameter-below (inside ps (binders Γ)) (k + j) p,
        length-inside ps (binders Γ),
        length_types ps,
      )) in
      rw t (sym z))

  pub used-own : (Γ : Context) (ps : List Parameter) (body : Written) →
      used_bits N ns Γ ps body ≡ bits (uses N ns Γ ps body)
  unfolding used_bits bits
  used-own Γ ps body =
      rw (own-used Γ ps body 0, own-used Γ ps body 1, own-used Γ ps body 2, own-used Γ ps body 3)
