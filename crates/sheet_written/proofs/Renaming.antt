-- Terms that are the same but for ids of binders have the same type and stand for the same term, document 02 [4]: so
-- they have the same plays, weight and size.
use Prim.Native.Nat.{ℕ, zero, suc, ◌+◌, ◌-◌}
use native.Mathlib.Omega.{arith}
use mathlib.Core.Path.{◌≡◌, refl, ap, ◌∙◌, fun_ext}
use mathlib.Core.List.{List, [], ◌∷◌}
use lib.ListN.{length}
use Rattle.language.specs.Term as t
use Rattle.language.specs.Term.{Term}
use Rattle.language.specs.declared.Numbers.{Numbers}
use Rattle.sheet_parts.specs.Rule.{values}
use Rattle.sheet_written.specs.Written.{Written, diverge}
use Rattle.sheet_written.specs.Written.{new, Parameter, Writtens, Name, Sheet}
use Rattle.sheet_written.specs.Meaning.{Binder, a_block, a_parameter, Meaning, private, argument, routine}
use Rattle.sheet_written.specs.Meaning.{named, retired, free, meaning, inside, after, types_of, use_type, typed, ty_of}
use Rattle.sheet_written.specs.Meaning.{by_meaning, some_value, Terms, no_terms, with-level, with-body, with_passed}
use Rattle.sheet_written.specs.Meaning.{resolve, resolve_args, resolved, term_of, type_of}
use Rattle.sheet_written.specs.Like.{IsNamed, Like, like_skip, like_diverge, like_truth, like_number, like_call}
use Rattle.sheet_written.specs.Like.{like_fetch, like_operate, like_assign, like_sequence, like_choose, like_while}
use Rattle.sheet_written.specs.Like.{like_new, like_procedure, Likes, like_none, like_more}

pub length-inside : (ps : List Parameter) (bs : List Binder) → length (inside ps bs) ≡ length bs + length (types_of ps)
unfolding inside types_of
length-inside [] bs = omega arith
length-inside (p ∷ ps) bs = omega (arith, length-inside ps (a_parameter p.id p.holds ∷ bs))

module _ (N : Numbers) (ns : List Name) where
  pub like-typed : {bs cs : List Binder} {W X : Written} → Like ns bs cs W X → typed ns bs W ≡ typed ns cs X
  unfolding typed
  like-typed like_skip = refl
  like-typed like_diverge = refl
  like-typed like_truth = refl
  like-typed like_number = refl
  like-typed (like_call e h a) = ap use_type e
  like-typed (like_fetch x) = ap (λ (k : ℕ). k - 2) (like-typed x)
  like-typed (like_operate x y) = refl
  like-typed (like_assign x y) = refl
  like-typed (like_sequence x y) = like-typed y
  like-typed (like_choose b x y) = like-typed x
  like-typed (like_while x y) = refl
  like-typed (like_new x) = refl
  like-typed (like_procedure e x y) = like-typed y

  -- a use
  like-use : (bs cs : List Binder) (ρ : Terms) (n id id' : ℕ) (ws ws' : Writtens) (m : Meaning) →
      (IsNamed m → id ≡ id') → ((j l : ℕ) → resolved N ns bs ρ l ws j ≡ resolved N ns cs ρ l ws' j) →
      ((tys : List ℕ) → resolve_args N ns bs ρ n ws tys ≡ resolve_args N ns cs ρ n ws' tys) →
      by_meaning m t.diverge
      (λ k. t.private (n - suc (ρ.level k)))
      (λ k. ρ.passed k n)
      (λ k. ρ.body k (λ j l. resolved N ns bs ρ l ws j) n)
      (λ often ty tys. t.name id often (ty_of N ty) (resolve_args N ns bs ρ n ws tys))
      ≡ by_meaning m t.diverge
      (λ k. t.private (n - suc (ρ.level k)))
      (λ k. ρ.passed k n)
      (λ k. ρ.body k (λ j l. resolved N ns cs ρ l ws' j) n)
      (λ often ty tys. t.name id' often (ty_of N ty) (resolve_args N ns cs ρ n ws' tys))
  unfolding by_meaning IsNamed
  like-use bs cs ρ n id id' ws ws' (private k d) h g l = refl
  like-use bs cs ρ n id id' ws ws' (argument k ty) h g l = refl
  like-use bs cs ρ n id id' ws ws' (routine k ty tys) h g l =
      ap (λ (xs : ℕ → ℕ → Term). ρ.body k xs n) (fun_ext (λ j. fun_ext (λ i. g j i)))
  like-use bs cs ρ n id id' ws ws' (named often ty tys) h g l = rw (h tt, l tys)
  like-use bs cs ρ n id id' ws ws' retired h g l = refl
  like-use bs cs ρ n id id' ws ws' free h g l = refl

  -- the binders around both are as many
  as_many : (ps ps' : List Parameter) (bs cs : List Binder) → types_of ps ≡ types_of ps' → length bs ≡ length cs →
      length (inside ps bs) ≡ length (inside ps' cs)
  as_many ps ps' bs cs e k = rw (length-inside ps bs, length-inside ps' cs, e, k)

  -- THEOREM: the same term
  mutual
    unfolding resolve resolve_args resolved after

    pub like-resolve : {bs cs : List Binder} {W X : Written} → Like ns bs cs W X → length bs ≡ length cs →
        (ρ : Terms) (n : ℕ) → resolve N ns bs ρ n W ≡ resolve N ns cs ρ n X
    like-resolve like_skip k ρ n = refl
    like-resolve like_diverge k ρ n = refl
    like-resolve like_truth k ρ n = refl
    like-resolve like_number k ρ n = refl
    like-resolve (like_call {bs = bs} {cs = cs} {id = id} {id' = id'} {ws = ws} {ws' = ws'} e h a) k ρ n =
        ap (λ (m : Meaning). by_meaning m t.diverge
        (λ i. t.private (n - suc (ρ.level i)))
        (λ i. ρ.passed i n)
        (λ i. ρ.body i (λ j l. resolved N ns bs ρ l ws j) n)
        (λ often ty tys. t.name id often (ty_of N ty) (resolve_args N ns bs ρ n ws tys))) e
        ∙ like-use bs cs ρ n id id' ws ws' (meaning ns cs id') (λ x. h (rw e x))
        (λ j l. like-resolved a k ρ l j) (λ tys. like-args a k ρ n tys)
    like-resolve (like_fetch x) k ρ n = rw (like-resolve x k ρ n)
    like-resolve (like_operate x y) k ρ n = rw (like-resolve x k ρ n, like-resolve y k ρ n)
    like-resolve (like_assign x y) k ρ n = rw (like-typed x, like-resolve x k ρ n, like-resolve y k ρ n)
    like-resolve (like_sequence x y) k ρ n = rw (like-resolve x k ρ n, like-resolve y k ρ n)
    like-resolve (like_choose b x y) k ρ n = rw (like-resolve b k ρ n, like-resolve x k ρ n, like-resolve y k ρ n)
    like-resolve (like_while x y) k ρ n = rw (like-resolve x k ρ n, like-resolve y k ρ n)
    like-resolve (like_new {bs = bs} {cs = cs} {id' = id'} {d = d} {c' = c'} x) k ρ n =
        ap (t.new (values N d) (some_value N d))
        (like-resolve x (ap suc k) (with-level (length bs) n ρ) (suc n)
        ∙ ap (λ (i : ℕ). resolve N ns (a_block id' d ∷ cs) (with-level i n ρ) (suc n) c') k)
    like-resolve (like_procedure {bs = bs} {cs = cs} {id' = id'} {ty = ty} {ps = ps} {ps' = ps'} {x = x} {x' = x'}
        {y' = y'} e b r)
        k ρ n =
        like-resolve r (ap suc k)
        (with-body (length bs) (λ xs l. resolve N ns (inside ps bs) (with_passed (length bs) xs ρ) l x) ρ) n
        ∙ ap (λ (σ : Terms). resolve N ns (after id' ty ps' cs) σ n y')
        (ap (λ (p : (ℕ → ℕ → Term) → ℕ → Term). with-body (length bs) p ρ)
        (fun_ext (λ xs. fun_ext (λ l. like-resolve b (as_many ps ps' bs cs e k) (with_passed (length bs) xs ρ)
        l)))
        ∙ ap (λ (i : ℕ). with-body i (λ xs l. resolve N ns (inside ps' cs) (with_passed i xs ρ) l x') ρ) k)

    like-args : {bs cs : List Binder} {ws ws' : Writtens} → Likes ns bs cs ws ws' → length bs ≡ length cs →
        (ρ : Terms) (n : ℕ) (tys : List ℕ) → resolve_args N ns bs ρ n ws tys ≡ resolve_args N ns cs ρ n ws' tys
    like-args like_none k ρ n tys = refl
    like-args (like_more x a) k ρ n [] = refl
    like-args (like_more x a) k ρ n (ty ∷ tys) = rw (like-resolve x k ρ n, like-args a k ρ n tys)

    like-resolved : {bs cs : List Binder} {ws ws' : Writtens} → Likes ns bs cs ws ws' → length bs ≡ length cs →
        (ρ : Terms) (n j : ℕ) → resolved N ns bs ρ n ws j ≡ resolved N ns cs ρ n ws' j
    like-resolved like_none k ρ n j = refl
    like-resolved (like_more x a) k ρ n zero = like-resolve x k ρ n
    like-resolved (like_more x a) k ρ n (suc j) = like-resolved a k ρ n j

-- THEOREM: sheets that are the same but for the ids of binders stand for the same term
pub like-sheet : (S : Sheet) (W : Written) → Like S.names [] [] S.term W →
    (term_of S ≡ term_of (record { numbers = S.numbers; names = S.names; term = W }))
    × (type_of S ≡ type_of (record { numbers = S.numbers; names = S.names; term = W }))
unfolding term_of type_of
like-sheet S W h = (like-resolve S.numbers S.names h refl no_terms 0, like-typed S.numbers S.names h)
