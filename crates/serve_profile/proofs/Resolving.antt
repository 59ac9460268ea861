-- The let-free term of an expression in the profile is still.
use Prim.Native.Nat.{ℕ, zero, suc, ◌+◌, ◌≤◌}
use native.Mathlib.Omega.{arith}
use mathlib.Core.Path.{◌≡◌, refl, ◌∙◌, subst}
use mathlib.Core.Bool.{Bool, true, false, ◌||◌, not}
use mathlib.Core.List.{List, [], ◌∷◌, ◌++◌}
use lib.ListN.{length}
use lib.Dec.{eqb}
use borrow.Author.Tests.{eqb-true}
use Rattle.language.specs.Choice.{pick}
use Rattle.language.specs.Operators.{takes_numbers}
use Rattle.language.specs.Ty.{ask}
use Rattle.language.specs.Term.{Term}
use Rattle.language.specs.declared.Numbers.{Numbers}
use Rattle.sheet_parts.specs.Rule.{operand_type}
use Rattle.sheet_written.specs.Written.{Written, skip, diverge, truth, number, call, fetch, operate, assign, sequence}
use Rattle.sheet_written.specs.Written.{while, choose, new, procedure, Writtens, none, more, Name, declare, retire}
use Rattle.sheet_written.specs.Meaning.{a_block, a_parameter, a_procedure, declared, id_of, meant}
use Rattle.sheet_written.specs.Meaning.{Binder, Meaning, private, argument, routine, named, retired, free, meaning}
use Rattle.sheet_written.specs.Meaning.{typed, use_type, ty_of, by_meaning, Terms, no_terms, resolve, resolve_args, resolved}
use Rattle.sheet_written.specs.Meaning.{term_of, type_of}
use Rattle.sheet_written.specs.Fine.{Fine, FineUse, FineArgs}
use Rattle.sheet_written.specs.Width.{width}
use Rattle.sheet_written.specs.Pieces.{own_width}
use Rattle.serve_profile.specs.Offence.{is_expression, any_loud, loud_use, loud, within, hit, record_and, offending}
use Rattle.serve_profile.specs.Offence.{all_offending, offences, InProfile}
use Rattle.serve_profile.specs.Quiet.{QuietPlays}
use Rattle.serve_profile.specs.Parts.{Blocks, QuietParts}
use Rattle.serve_profile.proofs.Insides.{same-inside}
use Rattle.serve_profile.proofs.Moves.{IsExpression, an-expression, Still, StillArgs, asked, still-plays}
use Rattle.serve_profile.proofs.Moves.{still-complete}

-- lists that are empty
left-empty : {X : Type 0} (xs ys : List X) → xs ++ ys ≡ [] → xs ≡ []
left-empty [] ys e = refl
left-empty (x ∷ xs) ys e = let z : ◌≡◌ {A = ℕ} 0 1 = cc in absurd (omega arith)

right-empty : {X : Type 0} (xs ys : List X) → xs ++ ys ≡ [] → ys ≡ []
right-empty [] ys e = e
right-empty (x ∷ xs) ys e = let z : ◌≡◌ {A = ℕ} 0 1 = cc in absurd (omega arith)

-- a record that may not stand inside an expression offends there
no_hit : (l : Bool) (at : ℕ) → hit true l at ≡ [] → l ≡ false
unfolding hit
no_hit true at e = let z : ◌≡◌ {A = ℕ} 0 1 = cc in absurd (omega arith)
no_hit false at e = refl

-- the two types of expressions
expression-either : {P : Type 0} (ty : ℕ) → is_expression ty ≡ true → (ty ≡ 1 → P) → (ty ≡ 2 → P) → P
unfolding is_expression
expression-either {P} ty e f g = go (eqb ty 1) refl e
  where
    go : (b : Bool) → eqb ty 1 ≡ b → (b || eqb ty 2) ≡ true → P
    go true t e = f (eqb-true ty 1 t)
    go false t e = g (eqb-true ty 2 e)

expression-type : (N : Numbers) (ty : ℕ) → is_expression ty ≡ true → IsExpression (ty_of N ty)
unfolding ty_of
expression-type N ty e = expression-either ty e (λ t. rw t an-expression) (λ t. rw t an-expression)

expression-some : (ty : ℕ) → is_expression ty ≡ true → 1 ≤ ty
expression-some ty e = expression-either ty e (λ t. omega (arith, t)) (λ t. omega (arith, t))

quiet-first : (ty : ℕ) (tys : List ℕ) → any_loud (ty ∷ tys) ≡ false → is_expression ty ≡ true
unfolding any_loud
quiet-first ty tys e = go (is_expression ty) e
  where
    go : (b : Bool) → (not b || any_loud tys) ≡ false → b ≡ true
    go true e = refl
    go false e = let z : ◌≡◌ {A = ℕ} 0 1 = cc in absurd (omega arith)

quiet-rest : (ty : ℕ) (tys : List ℕ) → any_loud (ty ∷ tys) ≡ false → any_loud tys ≡ false
unfolding any_loud
quiet-rest ty tys e = go (is_expression ty) e
  where
    go : (b : Bool) → (not b || any_loud tys) ≡ false → any_loud tys ≡ false
    go true e = e
    go false e = let z : ◌≡◌ {A = ℕ} 0 1 = cc in absurd (omega arith)

-- What stands for the binders is still where a use of it may stand inside an expression: parameters that are no
-- commands, and procedures whose parameters are expressions, for still arguments.
pub record StillTerms (ns : List Name) (bs : List Binder) (ρ : Terms) : Type 0 where
  pub passed : (id k ty n : ℕ) → meaning ns bs id ≡ argument k ty → 1 ≤ ty → Still (ρ.passed k n)
  pub body : (id k ty : ℕ) (tys : List ℕ) (xs : ℕ → ℕ → Term) (n : ℕ) → meaning ns bs id ≡ routine k ty tys → 1 ≤ ty →
      any_loud tys ≡ false → ((j l : ℕ) → Still (xs j l)) → Still (ρ.body k xs n)

operand-some : (op : ℕ) → 1 ≤ operand_type op
unfolding operand_type
operand-some op = go (takes_numbers op)
  where
    go : (b : Bool) → 1 ≤ pick b 2 1
    go true = omega arith
    go false = omega arith

module _ (N : Numbers) (ns : List Name) (bs : List Binder) (ρ : Terms) (H : StillTerms ns bs ρ) where
  -- a use by what its id means
  still-use :
      (id n : ℕ) (ws : Writtens) (m : Meaning) → meaning ns bs id ≡ m → 1 ≤ use_type m → loud_use m ≡ false →
      FineUse m (ws ≡ none) (λ tys. FineArgs N ns bs ws tys) →
      ((tys : List ℕ) → FineArgs N ns bs ws tys → any_loud tys ≡ false → StillArgs (resolve_args N ns bs ρ n ws tys)) →
      ((tys : List ℕ) → FineArgs N ns bs ws tys → any_loud tys ≡ false →
      (j l : ℕ) → Still (resolved N ns bs ρ l ws j)) →
      Still (resolve N ns bs ρ n (call id ws))
  unfolding resolve by_meaning use_type loud_use FineUse Still
  still-use id n ws (private k d) e h l F f g = rw e tt
  still-use id n ws (argument k ty) e h l F f g = rw e (H.passed id k ty n e h)
  still-use id n ws (routine k ty tys) e h l F f g = rw e (H.body id k ty tys _ n e h l (g tys F l))
  still-use id n ws (named often ty tys) e h l F f g = rw e (f tys F l)
  still-use id n ws retired e h l F f g = absurd F
  still-use id n ws free e h l F f g = absurd F

  mutual
    unfolding resolve resolve_args resolved Fine FineArgs typed offending all_offending record_and loud within hit own_width
        Still StillArgs

    pub still : (W : Written) (at n : ℕ) → Fine N ns bs W → offending ns bs true at W ≡ [] → 1 ≤ typed ns bs W →
        Still (resolve N ns bs ρ n W)
    still skip at n F o h = tt
    still (diverge ty) at n F o h = tt
    still (truth b) at n F o h = tt
    still (number b) at n F o h = tt
    still (call id ws) at n F o h =
        let l = no_hit (loud_use (meaning ns bs id)) at (left-empty _ _ o) in
        let p = right-empty (hit true (loud_use (meaning ns bs id)) at) _ o in
        still-use id n ws (meaning ns bs id) refl h l F.1
        (λ tys G q. still-args ws tys (at + 2) n G p q)
        (λ tys G q j k. still-each ws tys (at + 2) k j G p q)
    still (fetch v) at n F o h = still v (at + 1) n F.0 o (omega (arith, F.1))
    still (operate op x y) at n F o h = (
      still x (at + 2) n F.1 (left-empty _ _ o) (omega (arith, F.2, operand-some op)),
      still y (at + 2 + width x) n F.3 (right-empty (offending ns bs true (at + 2) x) _ o)
          (omega (arith, F.4, operand-some op)),
    )
    still (assign x y) at n F o h = absurd (omega (arith, h))
    still (sequence x y) at n F o h =
        let z : ◌≡◌ {A = Bool} true false = no_hit true at (left-empty _ _ o) in
        let z' : ◌≡◌ {A = ℕ} 0 1 = cc in absurd (omega arith)
    still (choose b x y) at n F o h =
        let p = right-empty (offending ns bs true (at + 1) b) _ o in (
          still b (at + 1) n F.0 (left-empty _ _ o) (omega (arith, F.1)),
          still x (at + 1 + width b) n F.2 (left-empty _ _ p) h,
          still y (at + 1 + width b + width x) n F.3 (right-empty (offending ns bs true (at + 1 + width b) x) _ p)
              (omega (arith, F.4, h)),
        )
    still (while x y) at n F o h = absurd (omega (arith, h))
    still (new id d c) at n F o h = absurd (omega (arith, h))
    still (procedure id ty ps x y) at n F o h =
        let z : ◌≡◌ {A = Bool} true false = no_hit true at (left-empty _ _ o) in
        let z' : ◌≡◌ {A = ℕ} 0 1 = cc in absurd (omega arith)

    still-args : (ws : Writtens) (tys : List ℕ) (at n : ℕ) → FineArgs N ns bs ws tys →
        all_offending ns bs true at ws ≡ [] → any_loud tys ≡ false → StillArgs (resolve_args N ns bs ρ n ws tys)
    still-args none tys at n F o l = tt
    still-args (more w ws) [] at n F o l = tt
    still-args (more w ws) (ty ∷ tys) at n F o l =
        let q = quiet-first ty tys l in (
          expression-type N ty q,
          still w at n F.0 (left-empty _ _ o) (omega (arith, F.1, expression-some ty q)),
          still-args ws tys (at + width w) n F.2 (right-empty (offending ns bs true at w) _ o) (quiet-rest ty tys l),
        )

    still-each : (ws : Writtens) (tys : List ℕ) (at n j : ℕ) → FineArgs N ns bs ws tys →
        all_offending ns bs true at ws ≡ [] → any_loud tys ≡ false → Still (resolved N ns bs ρ n ws j)
    still-each none tys at n j F o l = tt
    still-each (more w ws) [] at n j F o l = absurd F
    still-each (more w ws) (ty ∷ tys) at n zero F o l =
        still w at n F.0 (left-empty _ _ o) (omega (arith, F.1, expression-some ty (quiet-first ty tys l)))
    still-each (more w ws) (ty ∷ tys) at n (suc j) F o l =
        still-each ws tys (at + width w) n j F.2 (right-empty (offending ns bs true at w) _ o) (quiet-rest ty tys l)

-- THEOREM: a part of expression type in which nothing offends, in a scope whose terms are still, has a still term
still_part : (N : Numbers) (ns : List Name) (bs : List Binder) (ρ : Terms) → StillTerms ns bs ρ → (W : Written)
    (i : Bool) (at n : ℕ) → Fine N ns bs W → is_expression (typed ns bs W) ≡ true → offending ns bs i at W ≡ [] →
    Still (resolve N ns bs ρ n W)
still_part N ns bs ρ H W true at n F e o = still N ns bs ρ H W at n F o (expression-some (typed ns bs W) e)
still_part N ns bs ρ H W false at n F e o =
    still N ns bs ρ H W at n F (same-inside ns bs false W at e ∙ o) (expression-some (typed ns bs W) e)

-- where no binder is around
no-binders : (ns : List Name) → StillTerms ns [] no_terms
unfolding no_terms Still
no-binders ns = record { passed = λ id k ty n e h. tt; body = λ id k ty tys xs n e h l f. tt }

-- where only blocks are around, no id means a parameter or a procedure
Unbound : Meaning → Type 0
Unbound (private k d) = Unit
Unbound (argument k ty) = ⊥
Unbound (routine k ty tys) = ⊥
Unbound (named often ty tys) = Unit
Unbound retired = Unit
Unbound free = Unit

unbound-either : (b : Bool) (m k : Meaning) → Unbound m → Unbound k → Unbound (pick b m k)
unbound-either true m k x y = x
unbound-either false m k x y = y

unbound-declared : (ns : List Name) (id : ℕ) → Unbound (declared ns id)
unfolding declared Unbound
unbound-declared [] id = tt
unbound-declared (declare often k ty tys ∷ ns) id =
    unbound-either (eqb k id) (named often ty tys) (declared ns id) tt (unbound-declared ns id)
unbound-declared (retire k ∷ ns) id = unbound-either (eqb k id) retired (declared ns id) tt (unbound-declared ns id)

unbound-meaning : (ns : List Name) (bs : List Binder) (id : ℕ) → Blocks bs → Unbound (meaning ns bs id)
unfolding meaning Blocks Unbound meant
unbound-meaning ns [] id B = unbound-declared ns id
unbound-meaning ns (a_block a d ∷ bs) id B =
    unbound-either (eqb (id_of (a_block a d)) id) (meant (length bs) (a_block a d)) (meaning ns bs id) tt
    (unbound-meaning ns bs id B)
unbound-meaning ns (a_parameter a ty ∷ bs) id B = absurd B
unbound-meaning ns (a_procedure a ty tys ∷ bs) id B = absurd B

blocks-still : (ns : List Name) (bs : List Binder) (ρ : Terms) → Blocks bs → StillTerms ns bs ρ
unfolding Unbound
blocks-still ns bs ρ B = record {
  passed = λ id k ty n e h. absurd (subst Unbound e (unbound-meaning ns bs id B));
  body = λ id k ty tys xs n e h l f. absurd (subst Unbound e (unbound-meaning ns bs id B));
}

-- THEOREM: an expression around which only blocks are
pub quiet-parts : QuietParts
unfolding QuietParts
quiet-parts N ns bs ρ W i at n B F e o a u p =
    still-plays (resolve N ns bs ρ n W) (still_part N ns bs ρ (blocks-still ns bs ρ B) W i at n F e o) ask a asked u p

-- THEOREM: "For a sheet of expression type in the profile, every complete play consists of *ask*, *read* and value
-- moves only."
pub quiet-plays : QuietPlays
unfolding QuietPlays InProfile offences term_of type_of
quiet-plays S A e P u p =
    still-complete _ _ (expression-type S.numbers (type_of S) e)
    (still_part S.numbers S.names [] no_terms (no-binders S.names) S.term false _ 0
    A.in_order.fine_term e P)
    u p
