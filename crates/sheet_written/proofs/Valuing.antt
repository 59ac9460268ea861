-- The data of a sheet's term have values enough, and so its rows and levels are few: document 02 [1], 12,288 rows and
-- 6,144 levels.
use Prim.Native.Nat.{ℕ, zero, suc, ◌-◌, ◌≤◌, ◌<◌}
use native.Mathlib.Omega.{arith}
use native.Mathlib.Nat.{mul-le-mul_right}
use mathlib.Core.Bool.{Bool, true, false}
use mathlib.Core.List.{List, [], ◌∷◌}
use lib.ListN.{length}
use lib.Dec.{eqb}
use Rattle.language.specs.Choice.{pick}
use Rattle.language.specs.Number.{numbers, finites}
use Rattle.language.specs.Ty.{Ty}
use Rattle.language.specs.Term as t
use Rattle.language.specs.Term.{Term}
use Rattle.language.specs.Weight.{weight, size}
use Rattle.language.specs.declared.Numbers.{Numbers}
use Rattle.sheet_parts.specs.Rule.{values}
use Rattle.sheet_written.specs.Written.{Written, skip, diverge, truth, number, call, fetch, operate, assign}
use Rattle.sheet_written.specs.Written.{sequence, while, choose, new, procedure, Writtens, none, more, Name, Sheet}
use Rattle.sheet_written.specs.Meaning.{Binder, a_block, Meaning, private, argument, routine, named, retired, free}
use Rattle.sheet_written.specs.Meaning.{meaning, inside, after, ty_of, typed, by_meaning, some_value, Terms, no_terms}
use Rattle.sheet_written.specs.Meaning.{with-level, with-body, with_passed, resolve, resolve_args, resolved, term_of}
use Rattle.sheet_written.specs.Meaning.{type_of}
use Rattle.sheet_written.specs.Fine.{WellFormed}
use Rattle.sheet_written.specs.Nodes.{Valued, ValuedArgs, nodes, deep}
use Rattle.sheet_written.proofs.Numbering.{beyond-all}
use Rattle.sheet_written.proofs.Factors.{some-operand, some-question}
use Rattle.sheet_written.proofs.Bounds.{nodes-bound, not-deep, slack-least}
use Rattle.sheet_written.proofs.WellTyped.{accepted-typed}

two-values : (N : Numbers) (ty : ℕ) → 0 < N.z → 2 ≤ values N ty
unfolding values numbers finites
two-values N ty h = go (eqb ty 1) (eqb ty 3)
  where
    go : (a b : Bool) → 2 ≤ pick a 2 (pick b 2 (numbers N))
    go true b = omega arith
    go false true = omega arith
    go false false = omega arith

abbrev pub ValuedAll : (ℕ → ℕ → Term) → Type 0
ValuedAll xs = (j n : ℕ) → Valued (xs j n)

pub record ValuedTerms (ρ : Terms) : Type 0 where
  pub passed : ValuedAll ρ.passed
  pub body : (k : ℕ) (xs : ℕ → ℕ → Term) → ValuedAll xs → (n : ℕ) → Valued (ρ.body k xs n)

valued-nothing : ValuedTerms no_terms
unfolding no_terms Valued
valued-nothing = record { passed = λ j n. tt; body = λ k xs h n. tt }

pub valued-level : (k n : ℕ) (ρ : Terms) → ValuedTerms ρ → ValuedTerms (with-level k n ρ)
unfolding with-level
valued-level k n ρ h = record { passed = h.passed; body = h.body }

pub valued-passed : (k : ℕ) (ρ : Terms) (xs : ℕ → ℕ → Term) → ValuedTerms ρ → ValuedAll xs →
    ValuedTerms (with_passed k xs ρ)
unfolding with_passed
valued-passed k ρ xs h g = record {
  passed = beyond-all (λ (x : ℕ → Term). (n : ℕ) → Valued (x n)) k ρ.passed xs h.passed g;
  body = h.body;
}

pub valued-body : (k : ℕ) (ρ : Terms) (p : (ℕ → ℕ → Term) → ℕ → Term) → ValuedTerms ρ →
    ((xs : ℕ → ℕ → Term) → ValuedAll xs → (n : ℕ) → Valued (p xs n)) → ValuedTerms (with-body k p ρ)
unfolding with-body
valued-body k ρ p h g = record {
  passed = h.passed;
  body = beyond-all (λ (f : (ℕ → ℕ → Term) → ℕ → Term). (xs : ℕ → ℕ → Term) → ValuedAll xs → (n : ℕ) →
      Valued (f xs n)) k ρ.body (λ j. p) h.body (λ j. g);
}

module _ (N : Numbers) (ns : List Name) (z : 0 < N.z) where
  valued_use : (bs : List Binder) (ρ : Terms) (n id : ℕ) (ws : Writtens) (m : Meaning) → ValuedTerms ρ →
      ValuedAll (λ j l. resolved N ns bs ρ l ws j) → ((tys : List ℕ) → ValuedArgs (resolve_args N ns bs ρ n ws tys)) →
      Valued (by_meaning m t.diverge
      (λ k. t.private (n - suc (ρ.level k)))
      (λ k. ρ.passed k n)
      (λ k. ρ.body k (λ j l. resolved N ns bs ρ l ws j) n)
      (λ often ty tys. t.name id often (ty_of N ty) (resolve_args N ns bs ρ n ws tys)))
  unfolding by_meaning Valued
  valued_use bs ρ n id ws (private k d) h g l = tt
  valued_use bs ρ n id ws (argument k ty) h g l = h.passed k n
  valued_use bs ρ n id ws (routine k ty tys) h g l = h.body k (λ j i. resolved N ns bs ρ i ws j) g n
  valued_use bs ρ n id ws (named often ty tys) h g l = l tys
  valued_use bs ρ n id ws retired h g l = tt
  valued_use bs ρ n id ws free h g l = tt

  mutual
    unfolding resolve resolve_args resolved Valued ValuedArgs

    pub valued : (W : Written) (bs : List Binder) (ρ : Terms) (n : ℕ) → ValuedTerms ρ → Valued (resolve N ns bs ρ n W)
    valued skip bs ρ n h = tt
    valued (diverge ty) bs ρ n h = tt
    valued (truth b) bs ρ n h = tt
    valued (number b) bs ρ n h = tt
    valued (call id ws) bs ρ n h =
        valued_use bs ρ n id ws (meaning ns bs id) h (λ j l. valued-resolved ws bs ρ l j h)
        (λ tys. valued-args ws bs ρ n tys h)
    valued (fetch v) bs ρ n h = valued v bs ρ n h
    valued (operate op x y) bs ρ n h =
        (some-operand (record { over = N; operator = op }), valued x bs ρ n h, valued y bs ρ n h)
    valued (assign x y) bs ρ n h = (some_value N (typed ns bs x), valued x bs ρ n h, valued y bs ρ n h)
    valued (sequence x y) bs ρ n h = (valued x bs ρ n h, valued y bs ρ n h)
    valued (choose b x y) bs ρ n h = (valued b bs ρ n h, valued x bs ρ n h, valued y bs ρ n h)
    valued (while x y) bs ρ n h = (valued x bs ρ n h, valued y bs ρ n h)
    valued (new id d c) bs ρ n h = (
      two-values N d z,
      valued c (a_block id d ∷ bs) (with-level (length bs) n ρ) (suc n) (valued-level (length bs) n ρ h),
    )
    valued (procedure id ty ps body rest) bs ρ n h =
        valued rest (after id ty ps bs)
        (with-body (length bs) (λ xs l. resolve N ns (inside ps bs) (with_passed (length bs) xs ρ) l body) ρ) n
        (valued-body (length bs) ρ (λ xs l. resolve N ns (inside ps bs) (with_passed (length bs) xs ρ) l body) h
        (λ xs g l. valued body (inside ps bs) (with_passed (length bs) xs ρ) l
        (valued-passed (length bs) ρ xs h g)))

    valued-args : (ws : Writtens) (bs : List Binder) (ρ : Terms) (n : ℕ) (tys : List ℕ) → ValuedTerms ρ →
        ValuedArgs (resolve_args N ns bs ρ n ws tys)
    valued-args none bs ρ n tys h = tt
    valued-args (more w ws) bs ρ n [] h = tt
    valued-args (more w ws) bs ρ n (ty ∷ tys) h = (valued w bs ρ n h, valued-args ws bs ρ n tys h)

    valued-resolved : (ws : Writtens) (bs : List Binder) (ρ : Terms) (n j : ℕ) → ValuedTerms ρ →
        Valued (resolved N ns bs ρ n ws j)
    valued-resolved none bs ρ n j h = tt
    valued-resolved (more w ws) bs ρ n zero h = valued w bs ρ n h
    valued-resolved (more w ws) bs ρ n (suc j) h = valued-resolved ws bs ρ n j h

accepted-valued : (S : Sheet) → WellFormed S → Valued (term_of S)
unfolding term_of
accepted-valued S A = valued S.numbers S.names A.in_order.z_above S.term [] no_terms 0 valued-nothing

-- THEOREM: the term of an accepted sheet has at most 12,288 nodes and 6,144 levels
pub accepted-light : (S : Sheet) → WellFormed S → weight (term_of S) ≤ 4094
unfolding size
accepted-light S A =
    let T : Ty = ty_of S.numbers (type_of S) in
    omega (arith, A.small, mul-le-mul_right (weight (term_of S)) (some-question T))

pub accepted-nodes : (S : Sheet) → WellFormed S → nodes (term_of S) ≤ 12288
accepted-nodes S A = omega (
  arith,
  nodes-bound (term_of S) (accepted-typed S A) (accepted-valued S A),
  accepted-light S A,
)

pub accepted-deep : (S : Sheet) → WellFormed S → deep (term_of S) ≤ 6144
accepted-deep S A =
    omega (
      arith,
      not-deep (term_of S) (accepted-typed S A) (accepted-valued S A),
      accepted-light S A,
      (slack-least (ty_of S.numbers (type_of S))).1,
    )
