-- A part that comes down to a parameter stands for that parameter's argument, document 02 [1].
use Prim.Native.Nat.{ℕ, zero, suc, ◌-◌, ◌<◌}
use native.Mathlib.Omega.{arith}
use mathlib.Core.Path.{◌≡◌, refl, sym, ◌∙◌}
use mathlib.Core.List.{List, [], ◌∷◌}
use lib.ListN.{length}
use lib.Dec.{ltb}
use borrow.Author.Tests.{ltb-true}
use Rattle.language.specs.Term as t
use Rattle.language.specs.Term.{Term}
use Rattle.language.specs.declared.Numbers.{Numbers}
use Rattle.sheet_written.specs.Environment.{beyond}
use Rattle.sheet_written.specs.Written.{Written, skip, diverge, truth, number, call, fetch, operate, assign}
use Rattle.sheet_written.specs.Written.{sequence, while, choose, new, procedure, Parameter, Writtens, none, more}
use Rattle.sheet_written.specs.Written.{Name}
use Rattle.sheet_written.specs.Meaning.{Binder, a_parameter, a_procedure, Meaning, private, argument, routine}
use Rattle.sheet_written.specs.Meaning.{named, retired, free, meant, declared, meaning, inside, after, types_of, ty_of}
use Rattle.sheet_written.specs.Meaning.{by_meaning, Terms, with-body, with_passed, resolve, resolve_args, resolved}
use Rattle.sheet_written.specs.Come.{through, come, comes}
use Rattle.sheet_written.proofs.Tests.{by-test}
use Rattle.sheet_written.proofs.Numbering.{all-declared, beyond_below, beyond-at, Below, below, one-more-binder}

-- a procedure whose term comes down to a parameter gives that parameter's argument
unfoldable pub Comes-right : (ℕ → ℕ) → Terms → Meaning → Type 0
Comes-right κ ρ (private k d) = Unit
Comes-right κ ρ (argument k ty) = Unit
Comes-right κ ρ (routine k ty tys) =
    (s : ℕ) (xs : ℕ → ℕ → Term) (n : ℕ) → κ k ≡ suc s → ρ.body k xs n ≡ beyond k ρ.passed xs s n
Comes-right κ ρ (named often ty tys) = Unit
Comes-right κ ρ retired = Unit
Comes-right κ ρ free = Unit

-- environments that agree below k
pub record Agree (k : ℕ) (κ μ : ℕ → ℕ) (ρ σ : Terms) : Type 0 where
  pub downs : (j : ℕ) → j < k → μ j ≡ κ j
  pub passeds : (j : ℕ) → j < k → σ.passed j ≡ ρ.passed j
  pub bodies : (j : ℕ) → j < k → σ.body j ≡ ρ.body j

pub beyond-same : (k : ℕ) (f g h : ℕ → ℕ → Term) (s : ℕ) → ((j : ℕ) → j < k → f j ≡ g j) →
    beyond k f h s ≡ beyond k g h s
unfolding beyond
beyond-same k f g h s e = by-test (ltb s k) (λ t. rw (e s (ltb-true s k t))) (λ t. rw t)

right-agree : (n : ℕ) (κ μ : ℕ → ℕ) (ρ σ : Terms) (m : Meaning) → Agree n κ μ ρ σ → Below n m → Comes-right κ ρ m →
    Comes-right μ σ m
unfolding Comes-right Below
right-agree n κ μ ρ σ (private k d) a b h = tt
right-agree n κ μ ρ σ (argument k ty) a b h = tt
right-agree n κ μ ρ σ (routine k ty tys) a b h = λ s xs l e.
    rw (a.bodies k b, beyond-same k σ.passed ρ.passed xs s (λ j i. a.passeds j (omega arith)))
    (h s xs l (sym (a.downs k b) ∙ e))
right-agree n κ μ ρ σ (named often ty tys) a b h = tt
right-agree n κ μ ρ σ retired a b h = tt
right-agree n κ μ ρ σ free a b h = tt

pub comes-declared : (κ : ℕ → ℕ) (ρ : Terms) (ns : List Name) (id : ℕ) → Comes-right κ ρ (declared ns id)
unfolding Comes-right
comes-declared κ ρ ns id = all-declared (Comes-right κ ρ) ns id (λ often ty tys. tt) tt tt

module _ (N : Numbers) (ns : List Name) where
  abbrev pub Rights : (ℕ → ℕ) → List Binder → Terms → Type 0
  Rights κ bs ρ = (id : ℕ) → Comes-right κ ρ (meaning ns bs id)

  pub rights-agree : (κ μ : ℕ → ℕ) (bs : List Binder) (ρ σ : Terms) → Agree (length bs) κ μ ρ σ → Rights κ bs ρ →
      Rights μ bs σ
  rights-agree κ μ bs ρ σ a r id = right-agree (length bs) κ μ ρ σ (meaning ns bs id) a (below ns bs id) (r id)

  pub rights-more : (κ : ℕ → ℕ) (c : Binder) (bs : List Binder) (ρ : Terms) → Comes-right κ ρ (meant (length bs) c) →
      Rights κ bs ρ → Rights κ (c ∷ bs) ρ
  rights-more κ c bs ρ h r = one-more-binder (Comes-right κ ρ) ns c bs h (λ id b. r id)

  pub rights-inside : (κ : ℕ → ℕ) (ps : List Parameter) (bs : List Binder) (ρ : Terms) → Rights κ bs ρ →
      Rights κ (inside ps bs) ρ
  unfolding inside Comes-right meant
  rights-inside κ [] bs ρ r = r
  rights-inside κ (p ∷ ps) bs ρ r =
      rights-inside κ ps (a_parameter p.id p.holds ∷ bs) ρ
      (rights-more κ (a_parameter p.id p.holds) bs ρ tt r)

  pub rights-passed : (κ : ℕ → ℕ) (ps : List Parameter) (bs : List Binder) (ρ : Terms) (xs : ℕ → ℕ → Term) →
      Rights κ bs ρ → Rights κ (inside ps bs) (with_passed (length bs) xs ρ)
  unfolding with_passed
  rights-passed κ ps bs ρ xs r =
      let σ : Terms = with_passed (length bs) xs ρ in
      let a : Agree (length bs) κ κ ρ σ = record {
        downs = λ j h. refl;
        bodies = λ j h. refl;
        passeds = λ j h. beyond_below (length bs) ρ.passed xs j h;
      } in
      rights-inside κ ps bs σ (rights-agree κ κ bs ρ σ a r)

  pub rights-after : (κ : ℕ → ℕ) (id ty : ℕ) (ps : List Parameter) (bs : List Binder) (ρ : Terms) (c : ℕ)
      (p : (ℕ → ℕ → Term) → ℕ → Term) →
      ((s : ℕ) (xs : ℕ → ℕ → Term) (n : ℕ) → c ≡ suc s → p xs n ≡ beyond (length bs) ρ.passed xs s n) →
      Rights κ bs ρ →
      Rights (beyond (length bs) κ (λ j. c)) (after id ty ps bs) (with-body (length bs) p ρ)
  unfolding with-body after Comes-right meant
  rights-after κ id ty ps bs ρ c p h r =
      let k : ℕ = length bs in
      let σ : Terms = with-body k p ρ in
      let a : Agree k κ (beyond k κ (λ j. c)) ρ σ = record {
        downs = λ j l. beyond_below k κ (λ i. c) j l;
        bodies = λ j l. beyond_below k ρ.body (λ i. p) j l;
        passeds = λ j l. refl;
      } in
      rights-more (beyond k κ (λ j. c)) (a_procedure id ty (types_of ps)) bs σ
      (λ s xs n e. rw (beyond-at k ρ.body (λ i. p)) (h s xs n (sym (beyond-at k κ (λ i. c)) ∙ e)))
      (rights-agree κ (beyond k κ (λ j. c)) bs ρ σ a r)

  -- a use of a procedure
  through-use : (bs : List Binder) (κ : ℕ → ℕ) (ρ : Terms) (n k c s : ℕ) (ws : Writtens) →
      ((t : ℕ) (xs : ℕ → ℕ → Term) (l : ℕ) → c ≡ suc t → ρ.body k xs l ≡ beyond k ρ.passed xs t l) →
      ((j : ℕ) → comes ns bs κ ws j ≡ suc s → resolved N ns bs ρ n ws j ≡ ρ.passed s n) →
      through k c (λ j. comes ns bs κ ws j) ≡ suc s →
      ρ.body k (λ j l. resolved N ns bs ρ l ws j) n ≡ ρ.passed s n
  unfolding through beyond
  through-use bs κ ρ n k zero s ws h g e = absurd (omega arith)
  through-use bs κ ρ n k (suc t) s ws h g e =
      h t (λ j l. resolved N ns bs ρ l ws j) n refl ∙
      by-test (ltb t k)
      (λ i. let same : t ≡ s = suc-injective (rw i at e) in rw (i, same))
      (λ i. rw i (g (t - k) (rw i at e)))
    where
      suc-injective : {a b : ℕ} → suc a ≡ suc b → a ≡ b
      suc-injective q = omega arith

  come-use : (bs : List Binder) (κ : ℕ → ℕ) (ρ : Terms) (n id s : ℕ) (ws : Writtens) (m : Meaning) → Comes-right κ ρ m →
      ((j : ℕ) → comes ns bs κ ws j ≡ suc s → resolved N ns bs ρ n ws j ≡ ρ.passed s n) →
      by_meaning m 0 (λ k. 0) (λ k. suc k) (λ k. through k (κ k) (λ j. comes ns bs κ ws j)) (λ often ty tys. 0) ≡ suc s →
      by_meaning m t.diverge
      (λ k. t.private (n - suc (ρ.level k)))
      (λ k. ρ.passed k n)
      (λ k. ρ.body k (λ j l. resolved N ns bs ρ l ws j) n)
      (λ often ty tys. t.name id often (ty_of N ty) (resolve_args N ns bs ρ n ws tys))
      ≡ ρ.passed s n
  unfolding by_meaning Comes-right
  come-use bs κ ρ n id s ws (private k d) h g e = absurd (omega arith)
  come-use bs κ ρ n id s ws (argument k ty) h g e = let same : k ≡ s = omega arith in rw same
  come-use bs κ ρ n id s ws (routine k ty tys) h g e = through-use bs κ ρ n k (κ k) s ws h g e
  come-use bs κ ρ n id s ws (named often ty tys) h g e = absurd (omega arith)
  come-use bs κ ρ n id s ws retired h g e = absurd (omega arith)
  come-use bs κ ρ n id s ws free h g e = absurd (omega arith)

  -- THEOREM: a part that comes down to the parameter s stands for its argument
  mutual
    unfolding come comes resolve resolved with_passed with-body

    pub come-resolve : (W : Written) (bs : List Binder) (κ : ℕ → ℕ) (ρ : Terms) (n s : ℕ) → Rights κ bs ρ →
        come ns bs κ W ≡ suc s → resolve N ns bs ρ n W ≡ ρ.passed s n
    come-resolve skip bs κ ρ n s r e = absurd (omega arith)
    come-resolve (diverge ty) bs κ ρ n s r e = absurd (omega arith)
    come-resolve (truth b) bs κ ρ n s r e = absurd (omega arith)
    come-resolve (number b) bs κ ρ n s r e = absurd (omega arith)
    come-resolve (call id ws) bs κ ρ n s r e =
        come-use bs κ ρ n id s ws (meaning ns bs id) (r id) (λ j i. come-resolved ws bs κ ρ n s j r i) e
    come-resolve (fetch v) bs κ ρ n s r e = absurd (omega arith)
    come-resolve (operate op x y) bs κ ρ n s r e = absurd (omega arith)
    come-resolve (assign x y) bs κ ρ n s r e = absurd (omega arith)
    come-resolve (sequence x y) bs κ ρ n s r e = absurd (omega arith)
    come-resolve (choose b x y) bs κ ρ n s r e = absurd (omega arith)
    come-resolve (while x y) bs κ ρ n s r e = absurd (omega arith)
    come-resolve (new id d c) bs κ ρ n s r e = absurd (omega arith)
    come-resolve (procedure id ty ps body rest) bs κ ρ n s r e =
        come-resolve rest (after id ty ps bs) (beyond (length bs) κ (λ j. come ns (inside ps bs) κ body))
        (with-body (length bs) (λ xs l. resolve N ns (inside ps bs) (with_passed (length bs) xs ρ) l body) ρ) n s
        (rights-after κ id ty ps bs ρ (come ns (inside ps bs) κ body)
        (λ xs l. resolve N ns (inside ps bs) (with_passed (length bs) xs ρ) l body)
        (λ i xs l g. come-resolve body (inside ps bs) κ (with_passed (length bs) xs ρ) l i
        (rights-passed κ ps bs ρ xs r) g) r)
        e

    come-resolved : (ws : Writtens) (bs : List Binder) (κ : ℕ → ℕ) (ρ : Terms) (n s j : ℕ) → Rights κ bs ρ →
        comes ns bs κ ws j ≡ suc s → resolved N ns bs ρ n ws j ≡ ρ.passed s n
    come-resolved none bs κ ρ n s j r e = absurd (omega arith)
    come-resolved (more w ws) bs κ ρ n s zero r e = come-resolve w bs κ ρ n s r e
    come-resolved (more w ws) bs κ ρ n s (suc j) r e = come-resolved ws bs κ ρ n s j r e
