-- The term of an accepted sheet has ids, arguments and data in range, so that every move of its complete plays has a
-- letter.
use mathlib.Core.Path.{◌≡◌}
use mathlib.Core.Bool.{Bool, true, false}
use mathlib.Core.List.{List, [], ◌∷◌}
use Prim.Native.Nat.{ℕ, zero, suc, ◌+◌, ◌-◌, ◌≤◌, ◌<◌}
use native.Mathlib.Omega.{arith}
use lib.ListN.{length}
use lib.Dec.{eqb}
use Rattle.language.specs.Choice.{pick}
use Rattle.language.specs.declared.Numbers.{Numbers}
use Rattle.language.specs.Number.{numbers}
use Rattle.language.proofs.NumberLaws.{finites-are, finites-within}
use Rattle.language.specs.Ty.{command, expression, variable}
use Rattle.language.specs.Move.{Word}
use Rattle.language.specs.Play.{Complete}
use Rattle.language.specs.Term as t
use Rattle.sheet_parts.specs.Rule.{values}
use Rattle.sheet_written.specs.Written.{Written, skip, diverge, truth, number, call, fetch, operate, assign, sequence}
use Rattle.sheet_written.specs.Written.{while, choose, new, procedure, Writtens, none, more, Name, declare, retire, Sheet}
use Rattle.sheet_written.specs.Meaning.{Binder, a_block, a_parameter, a_procedure, Meaning, private, argument, routine}
use Rattle.sheet_written.specs.Meaning.{named, retired, free, declared, id_of, meant, meaning, inside, after, ty_of}
use Rattle.sheet_written.specs.Meaning.{by_meaning, Terms, no_terms, with-level, with-body, with_passed, resolve}
use Rattle.sheet_written.specs.Meaning.{resolve_args, resolved, some_value, typed, term_of, type_of}
use Rattle.sheet_written.specs.Fine.{FineUse, Fine, FineArgs, FineNames, WellFormed, InOrder}
use Rattle.sheet_written.proofs.Numbering.{beyond-all}
use Rattle.sheet_written.proofs.WellTyped.{accepted-typed}
use Rattle.states_machine.specs.Range.{TyIn, InRange, InRangeArgs}
use Rattle.states_machine.proofs.Scope.{scoped_of}
use Rattle.states_words.specs.Letter.{AllSmall}
use Rattle.states_words.proofs.Spelling.{complete-small}

-- the types of a sheet
values-in : (N : Numbers) → 0 < N.z → (ty : ℕ) → (1 < values N ty) × (values N ty ≤ numbers N)
unfolding values
values-in N h ty = go (eqb ty 1) (eqb ty 3)
  where
    many : 3 ≤ numbers N
    many = omega (arith, finites-are N, finites-within N)

    go : (a b : Bool) → (1 < pick a 2 (pick b 2 (numbers N))) × (pick a 2 (pick b 2 (numbers N)) ≤ numbers N)
    go true b = (omega arith, omega (arith, many))
    go false true = (omega arith, omega (arith, many))
    go false false = (omega (arith, many), omega arith)

pub type_in : (N : Numbers) → 0 < N.z → (ty : ℕ) → TyIn N (ty_of N ty)
unfolding TyIn ty_of
type_in N h ty = go (eqb ty 0) (eqb ty 1) (eqb ty 2)
  where
    go : (a b c : Bool) →
        TyIn N (pick a command
        (pick b (expression (values N ty)) (pick c (expression (values N ty)) (variable (values N ty)))))
    go true b c = tt
    go false true c = values-in N h ty
    go false false true = values-in N h ty
    go false false false = values-in N h ty

-- a declared name has at most four arguments
unfoldable Few : Meaning → Type 0
Few (private k d) = Unit
Few (argument k ty) = Unit
Few (routine k ty tys) = Unit
Few (named often ty tys) = length tys < 5
Few retired = Unit
Few free = Unit

few-meant : (k : ℕ) (b : Binder) → Few (meant k b)
unfolding Few meant
few-meant k (a_block id d) = tt
few-meant k (a_parameter id ty) = tt
few-meant k (a_procedure id ty tys) = tt

few-pick : (b : Bool) (x y : Meaning) → Few x → Few y → Few (pick b x y)
few-pick true x y h k = h
few-pick false x y h k = k

few-declared : (earlier ns : List Name) → FineNames earlier ns → (id : ℕ) → Few (declared ns id)
unfolding FineNames declared Few
few-declared earlier [] f id = tt
few-declared earlier (declare often k ty tys ∷ ns) f id = few-pick (eqb k id) _ _ f.3 (few-declared _ ns f.5 id)
few-declared earlier (retire k ∷ ns) f id = few-pick (eqb k id) _ _ tt (few-declared _ ns f.2 id)

-- what stands for the binders is in range
abbrev AllIn : Numbers → (ℕ → ℕ → t.Term) → Type 0
AllIn N xs = (j n : ℕ) → InRange N (xs j n)

record TermsIn (N : Numbers) (ρ : Terms) : Type 0 where
  passed : AllIn N ρ.passed
  body : (k : ℕ) (xs : ℕ → ℕ → t.Term) → AllIn N xs → (n : ℕ) → InRange N (ρ.body k xs n)

nothing-in : (N : Numbers) → TermsIn N no_terms
unfolding no_terms InRange
nothing-in N = record { passed = λ j n. tt; body = λ k xs h n. tt }

level_in : (N : Numbers) (k n : ℕ) (ρ : Terms) → TermsIn N ρ → TermsIn N (with-level k n ρ)
unfolding with-level
level_in N k n ρ h = record { passed = h.passed; body = h.body }

passed-in : (N : Numbers) (k : ℕ) (ρ : Terms) (xs : ℕ → ℕ → t.Term) → TermsIn N ρ → AllIn N xs →
    TermsIn N (with_passed k xs ρ)
unfolding with_passed
passed-in N k ρ xs h g = record {
  passed = beyond-all (λ (x : ℕ → t.Term). (n : ℕ) → InRange N (x n)) k ρ.passed xs h.passed g;
  body = h.body;
}

body-in : (N : Numbers) (k : ℕ) (ρ : Terms) (p : (ℕ → ℕ → t.Term) → ℕ → t.Term) → TermsIn N ρ →
    ((xs : ℕ → ℕ → t.Term) → AllIn N xs → (n : ℕ) → InRange N (p xs n)) → TermsIn N (with-body k p ρ)
unfolding with-body
body-in N k ρ p h g = record {
  passed = h.passed;
  body = beyond-all (λ (f : (ℕ → ℕ → t.Term) → ℕ → t.Term). (xs : ℕ → ℕ → t.Term) → AllIn N xs → (n : ℕ) →
      InRange N (f xs n)) k ρ.body (λ j. p) h.body (λ j. g);
}

module _ (N : Numbers) (above : 0 < N.z) (ns : List Name) (f : (id : ℕ) → Few (declared ns id)) where
  few-meaning : (bs : List Binder) (id : ℕ) → Few (meaning ns bs id)
  unfolding meaning Few
  few-meaning [] id = f id
  few-meaning (b ∷ bs) id = few-pick (eqb (id_of b) id) _ _ (few-meant (length bs) b) (few-meaning bs id)

  -- a use, by what its id means
  use-in : (bs : List Binder) (ρ : Terms) (n id : ℕ) (ws : Writtens) (m : Meaning) → id < 255 → TermsIn N ρ → Few m →
      FineUse m (ws ≡ none) (λ tys. FineArgs N ns bs ws tys) →
      ((tys : List ℕ) → FineArgs N ns bs ws tys → AllIn N (λ j l. resolved N ns bs ρ l ws j)) →
      ((tys : List ℕ) → length tys < 5 → FineArgs N ns bs ws tys →
      InRangeArgs N (resolve_args N ns bs ρ n ws tys) 0) →
      InRange N (by_meaning m t.diverge
      (λ k. t.private (n - suc (ρ.level k)))
      (λ k. ρ.passed k n)
      (λ k. ρ.body k (λ j l. resolved N ns bs ρ l ws j) n)
      (λ often ty tys. t.name id often (ty_of N ty) (resolve_args N ns bs ρ n ws tys)))
  unfolding by_meaning InRange Few FineUse
  use-in bs ρ n id ws (private k d) h e l u g r = tt
  use-in bs ρ n id ws (argument k ty) h e l u g r = e.passed k n
  use-in bs ρ n id ws (routine k ty tys) h e l u g r = e.body k (λ j i. resolved N ns bs ρ i ws j) (g tys u) n
  use-in bs ρ n id ws (named often ty tys) h e l u g r = (omega arith, type_in N above ty, r tys l u)
  use-in bs ρ n id ws retired h e l u g r = tt
  use-in bs ρ n id ws free h e l u g r = tt

  mutual
    unfolding Fine resolve resolve_args resolved InRange

    term_in : (W : Written) (bs : List Binder) (ρ : Terms) (n : ℕ) → TermsIn N ρ → Fine N ns bs W →
        InRange N (resolve N ns bs ρ n W)
    term_in skip bs ρ n e h = tt
    term_in (diverge ty) bs ρ n e h = tt
    term_in (truth b) bs ρ n e h = tt
    term_in (number b) bs ρ n e h = tt
    term_in (call id ws) bs ρ n e h =
        use-in bs ρ n id ws (meaning ns bs id) h.0 e (few-meaning bs id) h.1
        (λ tys g j l. resolved-in ws bs ρ l tys j e g)
        (λ tys l g. args_in ws bs ρ n tys 0 e (omega arith) g)
    term_in (fetch v) bs ρ n e h = term_in v bs ρ n e h.0
    term_in (operate op l r) bs ρ n e h = (term_in l bs ρ n e h.1, term_in r bs ρ n e h.3)
    term_in (assign v x) bs ρ n e h =
        (some_value N (typed ns bs v), term_in v bs ρ n e h.0, term_in x bs ρ n e h.2)
    term_in (sequence c m) bs ρ n e h = (term_in c bs ρ n e h.0, term_in m bs ρ n e h.2)
    term_in (choose b x y) bs ρ n e h =
        (term_in b bs ρ n e h.0, term_in x bs ρ n e h.2, term_in y bs ρ n e h.3)
    term_in (while b c) bs ρ n e h = (term_in b bs ρ n e h.0, term_in c bs ρ n e h.2)
    term_in (new id d c) bs ρ n e h =
        term_in c (a_block id d ∷ bs) (with-level (length bs) n ρ) (suc n) (level_in N (length bs) n ρ e) h.4
    term_in (procedure id ty ps body rest) bs ρ n e h =
        term_in rest (after id ty ps bs)
        (with-body (length bs) (λ xs l. resolve N ns (inside ps bs) (with_passed (length bs) xs ρ) l body) ρ) n
        (body-in N (length bs) ρ (λ xs l. resolve N ns (inside ps bs) (with_passed (length bs) xs ρ) l body) e
        (λ xs g l. term_in body (inside ps bs) (with_passed (length bs) xs ρ) l
        (passed-in N (length bs) ρ xs e g) h.5))
        h.7

    args_in : (ws : Writtens) (bs : List Binder) (ρ : Terms) (n : ℕ) (tys : List ℕ) (k : ℕ) → TermsIn N ρ →
        length tys + k < 5 → FineArgs N ns bs ws tys → InRangeArgs N (resolve_args N ns bs ρ n ws tys) k
    args_in none bs ρ n tys k e l h = tt
    args_in (more w ws) bs ρ n [] k e l h = absurd h
    args_in (more w ws) bs ρ n (ty ∷ tys) k e l h = (
      omega arith,
      type_in N above ty,
      term_in w bs ρ n e h.0,
      args_in ws bs ρ n tys (suc k) e (omega arith) h.2,
    )

    resolved-in : (ws : Writtens) (bs : List Binder) (ρ : Terms) (n : ℕ) (tys : List ℕ) (j : ℕ) → TermsIn N ρ →
        FineArgs N ns bs ws tys → InRange N (resolved N ns bs ρ n ws j)
    resolved-in none bs ρ n tys j e h = tt
    resolved-in (more w ws) bs ρ n [] j e h = absurd h
    resolved-in (more w ws) bs ρ n (ty ∷ tys) zero e h = term_in w bs ρ n e h.0
    resolved-in (more w ws) bs ρ n (ty ∷ tys) (suc j) e h = resolved-in ws bs ρ n tys j e h.2

-- THEOREM: the term of a sheet in order is in range, whatever its size
pub order-range : (S : Sheet) → InOrder S → InRange S.numbers (term_of S)
unfolding term_of
order-range S A =
    term_in S.numbers A.z_above S.names (few-declared [] S.names A.fine_names) S.term [] no_terms 0
    (nothing-in S.numbers) A.fine_term

-- so is that of an accepted sheet
pub sheet-range : (S : Sheet) → WellFormed S → InRange S.numbers (term_of S)
sheet-range S A = order-range S A.in_order

-- THEOREM: every move of a complete play of an accepted sheet has a letter
pub sheet-small : (S : Sheet) → WellFormed S → (u : Word) → Complete (ty_of S.numbers (type_of S)) (term_of S) u →
    AllSmall S.numbers u
sheet-small S A u c =
    complete-small S.numbers (ty_of S.numbers (type_of S)) (term_of S)
    (type_in S.numbers A.in_order.z_above (type_of S)) (sheet-range S A)
    (scoped_of (term_of S) (accepted-typed S A)) u c
