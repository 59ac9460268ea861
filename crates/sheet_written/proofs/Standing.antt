-- What stands for the binders around a term: on deeper paths, with more binders, and for a procedure that may be used.
-- Document 02 [1].
use Prim.Native.Nat.{ℕ, suc, ◌-◌, ◌≤◌, ◌<◌}
use native.Mathlib.Omega.{arith}
use mathlib.Core.Path.{◌≡◌, refl, sym, ap, ◌∙◌}
use mathlib.Core.List.{List, ◌∷◌}
use lib.ListN.{length}
use Rattle.language.specs.Term.{Term}
use Rattle.language.specs.Typing.{Scope, here, there}
use Rattle.language.specs.declared.Numbers.{Numbers}
use Rattle.sheet_written.specs.Environment.{beyond}
use Rattle.sheet_written.specs.Written.{Written, Parameter, Name}
use Rattle.sheet_written.specs.Meaning.{a_block, a_procedure, Meaning, private, argument, routine}
use Rattle.sheet_written.specs.Meaning.{named, retired, free, declared, meant, meaning, inside, after, types_of}
use Rattle.sheet_written.specs.Meaning.{Terms, with-level, with-body, with_passed, resolve}
use Rattle.sheet_written.specs.Come.{come}
use Rattle.sheet_written.specs.Context.{Context, whole, in_block, in_procedure, in_scope, binders, downs}
use Rattle.sheet_written.specs.Context.{Sees, sees_it, from_block, from_procedure, from_scope}
use Rattle.sheet_written.specs.Expand.{Slots}
use Rattle.sheet_written.specs.Represent.{Deeper, as_deep, deeper, Held, Agree, Stands}
use Rattle.sheet_written.proofs.Numbering.{all-declared, beyond_below, beyond-at, Below, one-more-binder}
use Rattle.sheet_written.proofs.Renaming.{length-inside}
use Rattle.sheet_written.proofs.Contexts.{sees_below, all-inside}
use Rattle.sheet_written.proofs.ComeLaw as c
use Rattle.sheet_written.proofs.ComeLaw.{Comes-right, comes-declared, beyond-same, come-resolve}

-- deeper paths
pub deeper-again : {p q : List ℕ} {r : List ℕ} → Deeper p q → Deeper q r → Deeper p r
deeper-again d as_deep = d
deeper-again d (deeper e) = deeper (deeper-again d e)

held-deeper : {p q : List ℕ} {l r : ℕ} → Deeper p q → Held p l r → Held q l r
held-deeper as_deep h = h
held-deeper {l = l} {r = r} (deeper {q = q} {r = x} d) h =
    let g : Held q l r = held-deeper d h in
    let e : suc (length q) - suc l ≡ suc (length q - suc l) = omega (arith, g.within) in
    let i : Scope (x ∷ q) (suc (length q - suc l)) r = there g.index in
    record { within = omega (arith, g.within); index = rw e i }

-- the innermost block
pub held-here : (p : List ℕ) (r : ℕ) → Held (r ∷ p) (length p) r
held-here p r =
    let e : suc (length p) - suc (length p) ≡ 0 = omega arith in
    let i : Scope (r ∷ p) 0 r = here in
    record { within = omega arith; index = rw e i }

agree_less : {k l : ℕ} {ρ σ : Terms} → Agree l ρ σ → k ≤ l → Agree k ρ σ
agree_less a h = record {
  levels = λ j b. a.levels j (omega arith);
  passeds = λ j b. a.passeds j (omega arith);
  bodies = λ j b. a.bodies j (omega arith);
}

agree-again : {k : ℕ} {ρ σ τ : Terms} → Agree k ρ σ → Agree k σ τ → Agree k ρ τ
agree-again a b = record {
  levels = λ j l. b.levels j l ∙ a.levels j l;
  passeds = λ j l. b.passeds j l ∙ a.passeds j l;
  bodies = λ j l. b.bodies j l ∙ a.bodies j l;
}

pub agree-level : (k n : ℕ) (ρ : Terms) → Agree k ρ (with-level k n ρ)
unfolding with-level
agree-level k n ρ = record {
  levels = λ j l. beyond_below k ρ.level (λ i. n) j l;
  passeds = λ j l. refl;
  bodies = λ j l. refl;
}

pub agree-body : (k : ℕ) (p : (ℕ → ℕ → Term) → ℕ → Term) (ρ : Terms) → Agree k ρ (with-body k p ρ)
unfolding with-body
agree-body k p ρ = record {
  levels = λ j l. refl;
  passeds = λ j l. refl;
  bodies = λ j l. beyond_below k ρ.body (λ i. p) j l;
}

pub agree-passed : (k : ℕ) (xs : ℕ → ℕ → Term) (ρ : Terms) → Agree k ρ (with_passed k xs ρ)
unfolding with_passed
agree-passed k xs ρ = record {
  levels = λ j l. refl;
  passeds = λ j l. beyond_below k ρ.passed xs j l;
  bodies = λ j l. refl;
}

-- a use that means a private variable means one whose block is on the path
unfoldable pub Held-right : Slots → Terms → List ℕ → Meaning → Type 0
Held-right ε ρ p (private k d) = Held p (ρ.level k) (ε.block k)
Held-right ε ρ p (argument k ty) = Unit
Held-right ε ρ p (routine k ty tys) = Unit
Held-right ε ρ p (named often ty tys) = Unit
Held-right ε ρ p retired = Unit
Held-right ε ρ p free = Unit

held-declared : (ε : Slots) (ρ : Terms) (p : List ℕ) (ns : List Name) (id : ℕ) → Held-right ε ρ p (declared ns id)
unfolding Held-right
held-declared ε ρ p ns id = all-declared (Held-right ε ρ p) ns id (λ often ty tys. tt) tt tt

held-agree : (k : ℕ) (ε : Slots) (ρ σ : Terms) (p : List ℕ) (m : Meaning) → Agree k ρ σ → Below k m →
    Held-right ε ρ p m → Held-right ε σ p m
unfolding Held-right Below
held-agree k ε ρ σ p (private j d) a b h = rw (a.levels j b) h
held-agree k ε ρ σ p (argument j ty) a b h = tt
held-agree k ε ρ σ p (routine j ty tys) a b h = tt
held-agree k ε ρ σ p (named often ty tys) a b h = tt
held-agree k ε ρ σ p retired a b h = tt
held-agree k ε ρ σ p free a b h = tt

module _ (N : Numbers) (ns : List Name) where
  pub stands-deeper : (Γ : Context) (ε : Slots) (ρ : Terms) {p q : List ℕ} → Deeper p q → Stands N ns Γ ε ρ p →
      Stands N ns Γ ε ρ q
  unfolding Stands
  stands-deeper whole ε ρ d h = tt
  stands-deeper (in_block id x Γ) ε ρ d h = (held-deeper d h.0, stands-deeper Γ ε ρ d h.1)
  stands-deeper (in_procedure ps Γ) ε ρ d h = stands-deeper Γ ε ρ d h
  stands-deeper (in_scope id ty ps body Γ) ε ρ d h = (h.0, h.1, h.2, stands-deeper Γ ε h.0 d h.3)

  pub stands-agree : (Γ : Context) (ε : Slots) (p : List ℕ) {ρ σ : Terms} → Agree (length (binders Γ)) ρ σ →
      Stands N ns Γ ε ρ p → Stands N ns Γ ε σ p
  unfolding Stands binders after
  stands-agree whole ε p a h = tt
  stands-agree (in_block id x Γ) ε p {σ = σ} a h =
      let k : ℕ = length (binders Γ) in
      let g : Held p (σ.level k) (ε.block k) = rw (a.levels k (omega arith)) h.0 in
      (g, stands-agree Γ ε p (agree_less a (omega arith)) h.1)
  stands-agree (in_procedure ps Γ) ε p a h = stands-agree Γ ε p
      (agree_less a (omega (arith, length-inside ps (binders Γ)))) h
  stands-agree (in_scope id ty ps body Γ) ε p a h =
      let k : ℕ = length (binders Γ) in (
        h.0,
        agree-again h.1 (agree_less a (omega arith)),
        λ xs l. ap (λ (f : (ℕ → ℕ → Term) → ℕ → Term). f xs l) (a.bodies k (omega arith)) ∙ h.2 xs l,
        h.3,
      )

  pub stands-slots : (Γ : Context) (ε δ : Slots) (ρ : Terms) (p : List ℕ) →
      ((j : ℕ) → j < length (binders Γ) → δ.block j ≡ ε.block j) → Stands N ns Γ ε ρ p → Stands N ns Γ δ ρ p
  unfolding Stands binders after
  stands-slots whole ε δ ρ p e h = tt
  stands-slots (in_block id x Γ) ε δ ρ p e h =
      let k : ℕ = length (binders Γ) in
      let g : Held p (ρ.level k) (δ.block k) = rw (e k (omega arith)) h.0 in
      (g, stands-slots Γ ε δ ρ p (λ j l. e j (omega arith)) h.1)
  stands-slots (in_procedure ps Γ) ε δ ρ p e h =
      stands-slots Γ ε δ ρ p (λ j l. e j (omega (arith, length-inside ps (binders Γ)))) h
  stands-slots (in_scope id ty ps body Γ) ε δ ρ p e h =
      (h.0, h.1, h.2, stands-slots Γ ε δ h.0 p (λ j l. e j (omega arith)) h.3)

  -- what stands for the binders around a procedure that may be used
  pub record Around (Δ : Context) (ps : List Parameter) (body : Written) (ε : Slots) (ρ : Terms) (p : List ℕ) : Type 0
    where
      pub terms : Terms
      pub agree : Agree (length (binders Δ)) terms ρ
      pub defined : (xs : ℕ → ℕ → Term) (l : ℕ) →
          ρ.body (length (binders Δ)) xs l ≡ resolve N ns (inside ps (binders Δ))
          (with_passed (length (binders Δ)) xs terms) l body
      pub stands : Stands N ns Δ ε terms p

  pub stands-sees : {Γ Δ : Context} {ps : List Parameter} {body : Written} {ε : Slots} {ρ : Terms} {p : List ℕ} →
      Sees Γ Δ ps body → Stands N ns Γ ε ρ p → Around Δ ps body ε ρ p
  unfolding Stands
  stands-sees sees_it h = record { terms = h.0; agree = h.1; defined = h.2; stands = h.3 }
  stands-sees (from_block x) h = stands-sees x h.1
  stands-sees (from_procedure x) h = stands-sees x h
  stands-sees {Δ = Δ} {ps = ps} {body = body} {ε = ε} {p = p} (from_scope {Γ = Γ} x) h =
      let k : ℕ = length (binders Δ) in
      let b : k < length (binders Γ) = sees_below x in
      let g : Around Δ ps body ε h.0 p = stands-sees x h.3 in
      record {
        terms = g.terms;
        agree = agree-again g.agree (agree_less h.1 (omega arith));
        defined = λ xs l. ap (λ (f : (ℕ → ℕ → Term) → ℕ → Term). f xs l) (h.1.bodies k b) ∙ g.defined xs l;
        stands = g.stands;
      }

  -- private variables
  pub stands-held : (Γ : Context) (ε : Slots) (ρ : Terms) (p : List ℕ) → Stands N ns Γ ε ρ p → (id : ℕ) →
      Held-right ε ρ p (meaning ns (binders Γ) id)
  unfolding Stands binders after meaning meant Held-right
  stands-held whole ε ρ p h id = held-declared ε ρ p ns id
  stands-held (in_block i d Γ) ε ρ p h id =
      one-more-binder (Held-right ε ρ p) ns (a_block i d) (binders Γ) h.0 (λ j b. stands-held Γ ε ρ p h.1 j) id
  stands-held (in_procedure ps Γ) ε ρ p h id =
      all-inside (Held-right ε ρ p) ns ps (binders Γ) (λ k ty. tt) (λ j. stands-held Γ ε ρ p h j) id
  stands-held (in_scope i ty ps body Γ) ε ρ p h id =
      one-more-binder (Held-right ε ρ p) ns (a_procedure i ty (types_of ps)) (binders Γ) tt
      (λ j b. held-agree (length (binders Γ)) ε h.0 ρ p (meaning ns (binders Γ) j) h.1 b
      (stands-held Γ ε h.0 p h.3 j)) id

  -- procedures whose terms come down to a parameter
  pub stands-comes : (Γ : Context) (ε : Slots) (ρ : Terms) (p : List ℕ) → Stands N ns Γ ε ρ p →
      c.Rights N ns (downs ns Γ) (binders Γ) ρ
  unfolding Stands binders after downs meaning meant Comes-right with_passed
  stands-comes whole ε ρ p h id = comes-declared (λ k. 0) ρ ns id
  stands-comes (in_block i d Γ) ε ρ p h id =
      c.rights-more N ns (downs ns Γ) (a_block i d) (binders Γ) ρ tt (stands-comes Γ ε ρ p h.1) id
  stands-comes (in_procedure ps Γ) ε ρ p h id =
      c.rights-inside N ns (downs ns Γ) ps (binders Γ) ρ (stands-comes Γ ε ρ p h) id
  stands-comes (in_scope i ty ps body Γ) ε ρ p h id =
      let k : ℕ = length (binders Γ) in
      let σ : Terms = h.0 in
      let κ : ℕ → ℕ = downs ns Γ in
      let d : ℕ → ℕ = λ j. come ns (inside ps (binders Γ)) κ body in
      let r : c.Rights N ns κ (binders Γ) σ = stands-comes Γ ε σ p h.3 in
      let a : c.Agree k κ (beyond k κ d) σ ρ = record {
        downs = λ j l. beyond_below k κ d j l;
        passeds = h.1.passeds;
        bodies = h.1.bodies;
      } in
      c.rights-more N ns (beyond k κ d) (a_procedure i ty (types_of ps)) (binders Γ) ρ
      (λ s xs n e.
      h.2 xs n
      ∙ come-resolve N ns body (inside ps (binders Γ)) κ (with_passed k xs σ) n s
      (c.rights-passed N ns κ ps (binders Γ) σ xs r) (sym (beyond-at k κ d) ∙ e)
      ∙ ap (λ (f : ℕ → Term). f n) (beyond-same k σ.passed ρ.passed xs s (λ j l. sym (h.1.passeds j l))))
      (c.rights-agree N ns κ (beyond k κ d) (binders Γ) σ ρ a r) id
