-- Document 02's weight of a sheet is the weight of the term that it stands for.
use Prim.Native.Nat.{ℕ, zero, suc, ◌+◌, ◌-◌}
use mathlib.Core.Path.{◌≡◌, refl, ap}
use mathlib.Core.List.{List, [], ◌∷◌}
use lib.ListN.{length}
use Rattle.language.specs.Term as t
use Rattle.language.specs.Term.{Term}
use Rattle.language.specs.Weight.{weight, weight_args}
use Rattle.language.specs.declared.Numbers.{Numbers}
use Rattle.language.specs.Weight.{use_weight}
use Rattle.sheet_written.specs.Written.{Written, skip, diverge, truth, number, call, fetch, operate, assign}
use Rattle.sheet_written.specs.Written.{sequence, while, choose, new, procedure, Writtens, none, more, Name, Sheet}
use Rattle.sheet_written.specs.Meaning.{Binder, a_block, Meaning, private, argument, routine, named, retired, free}
use Rattle.sheet_written.specs.Meaning.{meaning, inside, after, ty_of, by_meaning, Terms, no_terms, with-level}
use Rattle.sheet_written.specs.Meaning.{resolve, resolve_args, resolved, term_of}
use Rattle.sheet_written.specs.Meaning as m
use Rattle.sheet_written.specs.Weigh.{Weights, no_weights, weigh, weigh_args, weighed, weigh_sheet, with-body}
use Rattle.sheet_written.specs.Weigh.{with_passed}
use Rattle.sheet_written.proofs.Numbering.{beyond-both}

-- arguments that weigh as given, at every level
abbrev pub WeighsArgs : (ℕ → ℕ → Term) → (ℕ → ℕ) → Type 0
WeighsArgs xs ws = (j n : ℕ) → weight (xs j n) ≡ ws j

-- what stands for the binders weighs as given
pub record Weighs (ρ : Terms) (ω : Weights) : Type 0 where
  pub passed : WeighsArgs ρ.passed ω.passed
  pub body : (k : ℕ) (xs : ℕ → ℕ → Term) (ws : ℕ → ℕ) → WeighsArgs xs ws → (n : ℕ) →
      weight (ρ.body k xs n) ≡ ω.body k ws

weighs-nothing : Weighs no_terms no_weights
unfolding no_terms no_weights weight
weighs-nothing = record { passed = λ j n. refl; body = λ k xs ws h n. refl }

pub weighs-level : (k n : ℕ) (ρ : Terms) (ω : Weights) → Weighs ρ ω → Weighs (with-level k n ρ) ω
unfolding with-level
weighs-level k n ρ ω h = record { passed = h.passed; body = h.body }

pub weighs-passed : (k : ℕ) (ρ : Terms) (ω : Weights) (xs : ℕ → ℕ → Term) (ws : ℕ → ℕ) → Weighs ρ ω → WeighsArgs xs ws →
    Weighs (m.with_passed k xs ρ) (with_passed k ws ω)
unfolding m.with_passed with_passed
weighs-passed k ρ ω xs ws h g = record {
  passed = beyond-both (λ (x : ℕ → Term) (w : ℕ). (n : ℕ) → weight (x n) ≡ w) k ρ.passed xs ω.passed ws
      h.passed g;
  body = h.body;
}

pub weighs-body : (k : ℕ) (ρ : Terms) (ω : Weights) (p : (ℕ → ℕ → Term) → ℕ → Term) (q : (ℕ → ℕ) → ℕ) → Weighs ρ ω →
    ((xs : ℕ → ℕ → Term) (ws : ℕ → ℕ) → WeighsArgs xs ws → (n : ℕ) → weight (p xs n) ≡ q ws) →
    Weighs (m.with-body k p ρ) (with-body k q ω)
unfolding m.with-body with-body
weighs-body k ρ ω p q h g = record {
  passed = h.passed;
  body = beyond-both
      (λ (f : (ℕ → ℕ → Term) → ℕ → Term) (w : (ℕ → ℕ) → ℕ).
      (xs : ℕ → ℕ → Term) (ws : ℕ → ℕ) → WeighsArgs xs ws → (n : ℕ) → weight (f xs n) ≡ w ws)
      k ρ.body (λ j. p) ω.body (λ j. q) h.body (λ j. g);
}

module _ (N : Numbers) (ns : List Name) where
  weigh-use : (bs : List Binder) (ρ : Terms) (ω : Weights) (n id : ℕ) (ws : Writtens) (s : Meaning) → Weighs ρ ω →
      WeighsArgs (λ j l. resolved N ns bs ρ l ws j) (λ j. weighed N ns bs ω ws j) →
      ((tys : List ℕ) → weight_args (resolve_args N ns bs ρ n ws tys) ≡ weigh_args N ns bs ω ws tys) →
      weight (by_meaning s t.diverge
      (λ k. t.private (n - suc (ρ.level k)))
      (λ k. ρ.passed k n)
      (λ k. ρ.body k (λ j l. resolved N ns bs ρ l ws j) n)
      (λ often ty tys. t.name id often (ty_of N ty) (resolve_args N ns bs ρ n ws tys)))
      ≡ by_meaning s 1
      (λ k. 2)
      (λ k. ω.passed k)
      (λ k. ω.body k (λ j. weighed N ns bs ω ws j))
      (λ often ty tys. use_weight often + weigh_args N ns bs ω ws tys)
  unfolding by_meaning weight
  weigh-use bs ρ ω n id ws (private k d) h g l = refl
  weigh-use bs ρ ω n id ws (argument k ty) h g l = h.passed k n
  weigh-use bs ρ ω n id ws (routine k ty tys) h g l =
      h.body k (λ j i. resolved N ns bs ρ i ws j) (λ j. weighed N ns bs ω ws j) g n
  weigh-use bs ρ ω n id ws (named often ty tys) h g l = ap (use_weight often +◌) (l tys)
  weigh-use bs ρ ω n id ws retired h g l = refl
  weigh-use bs ρ ω n id ws free h g l = refl

  -- THEOREM: weights by an environment of weights are weights of the resolved term
  mutual
    unfolding resolve resolve_args resolved weigh weigh_args weighed weight weight_args

    pub weigh-resolve : (W : Written) (bs : List Binder) (ρ : Terms) (ω : Weights) (n : ℕ) → Weighs ρ ω →
        weight (resolve N ns bs ρ n W) ≡ weigh N ns bs ω W
    weigh-resolve skip bs ρ ω n h = refl
    weigh-resolve (diverge ty) bs ρ ω n h = refl
    weigh-resolve (truth b) bs ρ ω n h = refl
    weigh-resolve (number b) bs ρ ω n h = refl
    weigh-resolve (call id ws) bs ρ ω n h =
        weigh-use bs ρ ω n id ws (meaning ns bs id) h (λ j l. weigh-resolved ws bs ρ ω l j h)
        (λ tys. weigh-args ws bs ρ ω n tys h)
    weigh-resolve (fetch v) bs ρ ω n h = weigh-resolve v bs ρ ω n h
    weigh-resolve (operate op x y) bs ρ ω n h = rw (weigh-resolve x bs ρ ω n h, weigh-resolve y bs ρ ω n h)
    weigh-resolve (assign x y) bs ρ ω n h = rw (weigh-resolve x bs ρ ω n h, weigh-resolve y bs ρ ω n h)
    weigh-resolve (sequence x y) bs ρ ω n h = rw (weigh-resolve x bs ρ ω n h, weigh-resolve y bs ρ ω n h)
    weigh-resolve (choose b x y) bs ρ ω n h =
        rw (weigh-resolve b bs ρ ω n h, weigh-resolve x bs ρ ω n h, weigh-resolve y bs ρ ω n h)
    weigh-resolve (while x y) bs ρ ω n h = rw (weigh-resolve x bs ρ ω n h, weigh-resolve y bs ρ ω n h)
    weigh-resolve (new id d c) bs ρ ω n h =
        rw (weigh-resolve c (a_block id d ∷ bs) (with-level (length bs) n ρ) ω (suc n)
        (weighs-level (length bs) n ρ ω h))
    weigh-resolve (procedure id ty ps body rest) bs ρ ω n h =
        weigh-resolve rest (after id ty ps bs)
        (m.with-body (length bs) (λ xs l. resolve N ns (inside ps bs) (m.with_passed (length bs) xs ρ) l body) ρ)
        (with-body (length bs) (λ xs. weigh N ns (inside ps bs) (with_passed (length bs) xs ω) body) ω) n
        (weighs-body (length bs) ρ ω
        (λ xs l. resolve N ns (inside ps bs) (m.with_passed (length bs) xs ρ) l body)
        (λ xs. weigh N ns (inside ps bs) (with_passed (length bs) xs ω) body) h
        (λ xs ws g l. weigh-resolve body (inside ps bs) (m.with_passed (length bs) xs ρ)
        (with_passed (length bs) ws ω) l
        (weighs-passed (length bs) ρ ω xs ws h g)))

    weigh-args : (ws : Writtens) (bs : List Binder) (ρ : Terms) (ω : Weights) (n : ℕ) (tys : List ℕ) → Weighs ρ ω →
        weight_args (resolve_args N ns bs ρ n ws tys) ≡ weigh_args N ns bs ω ws tys
    weigh-args none bs ρ ω n tys h = refl
    weigh-args (more w ws) bs ρ ω n [] h = refl
    weigh-args (more w ws) bs ρ ω n (ty ∷ tys) h = rw (weigh-resolve w bs ρ ω n h, weigh-args ws bs ρ ω n tys h)

    weigh-resolved : (ws : Writtens) (bs : List Binder) (ρ : Terms) (ω : Weights) (n j : ℕ) → Weighs ρ ω →
        weight (resolved N ns bs ρ n ws j) ≡ weighed N ns bs ω ws j
    weigh-resolved none bs ρ ω n j h = refl
    weigh-resolved (more w ws) bs ρ ω n zero h = weigh-resolve w bs ρ ω n h
    weigh-resolved (more w ws) bs ρ ω n (suc j) h = weigh-resolved ws bs ρ ω n j h

-- THEOREM: of a whole sheet
pub weigh-sheet : (S : Sheet) → weight (term_of S) ≡ weigh_sheet S
unfolding term_of weigh_sheet
weigh-sheet S = weigh-resolve S.numbers S.names S.term [] no_terms no_weights 0 weighs-nothing
