-- A term that is in order stands for a term that is well scoped and well typed; document 02 [1].
use Prim.Native.Nat.{ℕ, suc, ◌+◌, ◌-◌, ◌≤◌, ◌<◌}
use native.Mathlib.Omega.{arith}
use mathlib.Core.Path.{◌≡◌, refl, sym, ap, ◌∙◌}
use mathlib.Core.List.{List, [], ◌∷◌}
use lib.ListN.{length}
use lib.Dec.{eqb}
use Rattle.language.specs.Number.{numbers, from_byte}
use Rattle.language.proofs.NumberLaws.{code_below}
use Rattle.language.specs.Ty as t
use Rattle.language.specs.Term as term
use Rattle.language.specs.Typing.{operands, Scope, here, there, Typed, a_skip, a_diverge, a_const, a_private, a_name}
use Rattle.language.specs.Typing.{a_fetch, an_operate, an_assign, a_seq, a_while, a_cond, a_new, TypedArgs, no_more}
use Rattle.language.specs.Typing.{one_more}
use Rattle.language.specs.declared.Numbers.{Numbers}
use Rattle.sheet_parts.specs.Rule.{values, operand_type, result_type}
use Rattle.sheet_written.specs.Written.{Written, Writtens, none, more, skip, diverge, truth, number, call, fetch}
use Rattle.sheet_written.specs.Written.{operate, assign, sequence, while, choose, new, procedure, Parameter, Name}
use Rattle.sheet_written.specs.Written.{declare, retire, Sheet}
use Rattle.sheet_written.specs.Meaning.{Binder, a_block, a_parameter, a_procedure, Meaning, private, argument}
use Rattle.sheet_written.specs.Meaning.{routine, named, retired, free, declared, meant, meaning, inside, types_of}
use Rattle.sheet_written.specs.Meaning.{after, ty_of, use_type, typed, by_meaning, Terms, no_terms, with-level}
use Rattle.sheet_written.specs.Meaning.{with-body, with_passed, resolve, resolve_args, resolved, term_of, type_of}
use Rattle.sheet_written.specs.Fine.{FineUse, FineParameters, Fine, FineArgs, FineNames, WellFormed, InOrder}
use Rattle.sheet_written.proofs.Tests.{by-test}
use Rattle.sheet_written.proofs.Types.{ty-expression, ty-variable, values-up, operands-type, results-type}
use Rattle.sheet_written.proofs.Types.{result-below}
use Rattle.sheet_written.proofs.Numbering.{beyond_below, beyond_above, beyond-at, Below, below, one-more-binder}

-- the result types of names
unfoldable pub KnownNames : List Name → Type 0
KnownNames [] = Unit
KnownNames (declare often id ty tys ∷ ns) = (ty < 5) × KnownNames ns
KnownNames (retire id ∷ ns) = KnownNames ns

pub fine-known : (earlier ns : List Name) → FineNames earlier ns → KnownNames ns
unfolding FineNames KnownNames
fine-known earlier [] f = tt
fine-known earlier (declare often id ty tys ∷ ns) f = (f.2, fine-known (declare often id ty tys ∷ earlier) ns f.5)
fine-known earlier (retire id ∷ ns) f = fine-known (retire id ∷ earlier) ns f.2

-- more blocks around
pub data Deeper (v : List ℕ) : List ℕ → Type 0 where
  same : Deeper v v
  deeper : {w : List ℕ} {m : ℕ} → Deeper v w → Deeper v (m ∷ w)

further : {u v w : List ℕ} → Deeper u v → Deeper v w → Deeper u w
further d same = d
further d (deeper e) = deeper (further d e)

-- the variable of the block at level l has m values
unfoldable pub Held : List ℕ → ℕ → ℕ → Type 0
Held v l m = (l < length v) × Scope v (length v - suc l) m

held_up : (w : List ℕ) (k l m : ℕ) → Held w l m → Held (k ∷ w) l m
unfolding Held
held_up w k l m (b, s) =
    let e : suc (length w) - suc l ≡ suc (length w - suc l) = omega arith in
    (omega arith, rw e (there s))

held-deeper : {v w : List ℕ} (l m : ℕ) → Deeper v w → Held v l m → Held w l m
held-deeper l m same h = h
held-deeper l m (deeper {w = w} {m = k} d) h = held_up w k l m (held-deeper l m d h)

module _ (N : Numbers) where
  -- arguments of the given types, in v and deeper
  unfoldable pub Passed : List ℕ → List ℕ → (ℕ → ℕ → term.Term) → Type 0
  Passed v [] xs = Unit
  Passed v (ty ∷ tys) xs =
      ((w : List ℕ) → Deeper v w → Typed w (xs 0 (length w)) (ty_of N ty)) × Passed v tys (λ j. xs (suc j))

  -- what stands for what is meant is well typed, in blocks v and deeper
  unfoldable pub Right : Terms → List ℕ → Meaning → Type 0
  Right ρ v (private k d) = Held v (ρ.level k) (values N d) × (0 < d) × (d < 3)
  Right ρ v (argument k ty) = (ty < 5) × ((w : List ℕ) → Deeper v w → Typed w (ρ.passed k (length w)) (ty_of N ty))
  Right ρ v (routine k ty tys) =
      (ty < 5) × ((w : List ℕ) (xs : ℕ → ℕ → term.Term) → Deeper v w → Passed w tys xs →
      Typed w (ρ.body k xs (length w)) (ty_of N ty))
  Right ρ v (named often ty tys) = ty < 5
  Right ρ v retired = Unit
  Right ρ v free = Unit

  -- two environments that agree below k
  record Agree (k : ℕ) (ρ σ : Terms) : Type 0 where
    levels : (j : ℕ) → j < k → σ.level j ≡ ρ.level j
    passeds : (j : ℕ) → j < k → σ.passed j ≡ ρ.passed j
    bodies : (j : ℕ) → j < k → σ.body j ≡ ρ.body j

  right-deeper : (k : ℕ) (ρ σ : Terms) (v w : List ℕ) (m : Meaning) → Agree k ρ σ → Deeper v w → Below k m →
      Right ρ v m → Right σ w m
  unfolding Right Below
  right-deeper k ρ σ v w (private j d) a e b h =
      rw (a.levels j b) (held-deeper (ρ.level j) (values N d) e h.0, h.1, h.2)
  right-deeper k ρ σ v w (argument j ty) a e b h = rw (a.passeds j b) (h.0, λ u f. h.1 u (further e f))
  right-deeper k ρ σ v w (routine j ty tys) a e b h =
      rw (a.bodies j b) (h.0, λ u xs f p. h.1 u xs (further e f) p)
  right-deeper k ρ σ v w (named often ty tys) a e b h = h
  right-deeper k ρ σ v w retired a e b h = tt
  right-deeper k ρ σ v w free a e b h = tt

  pub right-declared : (ρ : Terms) (v : List ℕ) (ns : List Name) (id : ℕ) → KnownNames ns → Right ρ v (declared ns id)
  unfolding Right KnownNames declared
  right-declared ρ v [] id k = tt
  right-declared ρ v (declare often j ty tys ∷ ns) id k =
      by-test (eqb j id) (λ t. rw t k.0) (λ t. rw t (right-declared ρ v ns id k.1))
  right-declared ρ v (retire j ∷ ns) id k = by-test (eqb j id) (λ t. rw t tt) (λ t. rw t (right-declared ρ v ns id k))

  use-below : (ρ : Terms) (v : List ℕ) (m : Meaning) → Right ρ v m → use_type m < 5
  unfolding Right use_type
  use-below ρ v (private k d) h = omega (arith, h.2)
  use-below ρ v (argument k ty) h = h.0
  use-below ρ v (routine k ty tys) h = h.0
  use-below ρ v (named often ty tys) h = h
  use-below ρ v retired h = omega arith
  use-below ρ v free h = omega arith

module _ (N : Numbers) (ns : List Name) where
  -- all that may be used has one of the five types
  abbrev Known : List Binder → Type 0
  Known bs = (id : ℕ) → use_type (meaning ns bs id) < 5

  known-after : (id ty : ℕ) (ps : List Parameter) (bs : List Binder) → ty < 5 → Known bs → Known (after id ty ps bs)
  unfolding use_type meant after
  known-after id ty ps bs h k =
      one-more-binder (λ m. use_type m < 5) ns (a_procedure id ty (types_of ps)) bs h (λ j b. k j)

  pub typed-below : (W : Written) (bs : List Binder) → Known bs → Fine N ns bs W → typed ns bs W < 5
  unfolding Fine typed
  typed-below skip bs l f = omega arith
  typed-below (diverge ty) bs l f = f
  typed-below (truth b) bs l f = omega arith
  typed-below (number b) bs l f = omega arith
  typed-below (call id ws) bs l f = l id
  typed-below (fetch v) bs l f = omega (arith, typed-below v bs l f.0)
  typed-below (operate op x y) bs l f = result-below N op
  typed-below (assign x y) bs l f = omega arith
  typed-below (sequence x y) bs l f = typed-below y bs l f.2
  typed-below (choose b x y) bs l f = typed-below x bs l f.2
  typed-below (while x y) bs l f = omega arith
  typed-below (new id d c) bs l f = omega arith
  typed-below (procedure id ty ps body rest) bs l f =
      typed-below rest (after id ty ps bs) (known-after id ty ps bs f.2 l) f.7

  -- all that may be used stands for something well typed, in blocks v and deeper
  abbrev pub Rights : Terms → List ℕ → List Binder → Type 0
  Rights ρ v bs = (id : ℕ) → Right N ρ v (meaning ns bs id)

  rights-deeper : (ρ σ : Terms) (v w : List ℕ) (bs : List Binder) → Agree N (length bs) ρ σ → Deeper v w →
      Rights ρ v bs → (id : ℕ) → Below (length bs) (meaning ns bs id) → Right N σ w (meaning ns bs id)
  rights-deeper ρ σ v w bs a d r id b = right-deeper N (length bs) ρ σ v w (meaning ns bs id) a d b (r id)

  agree-itself : (k : ℕ) (ρ : Terms) → Agree N k ρ ρ
  agree-itself k ρ = record { levels = λ j h. refl; passeds = λ j h. refl; bodies = λ j h. refl }

  -- inside a block
  pub rights-block : (id d : ℕ) (bs : List Binder) (ρ : Terms) (v : List ℕ) → 0 < d → d < 3 → Rights ρ v bs →
      Rights (with-level (length bs) (length v) ρ) (values N d ∷ v) (a_block id d ∷ bs)
  unfolding Right meant with-level Held
  rights-block id d bs ρ v h l r =
      let σ : Terms = with-level (length bs) (length v) ρ in
      let w : List ℕ = values N d ∷ v in
      let a : Agree N (length bs) ρ σ = record {
        levels = λ j b. beyond_below (length bs) ρ.level (λ i. length v) j b;
        passeds = λ j b. refl;
        bodies = λ j b. refl;
      } in
      let z : suc (length v) - suc (length v) ≡ 0 = omega arith in
      one-more-binder (Right N σ w) ns (a_block id d) bs
      (rw (beyond-at (length bs) ρ.level (λ i. length v), z) ((omega arith, here), h, l))
      (rights-deeper ρ σ v w bs a (deeper same) r)

  -- inside a procedure
  pub rights-inside : (ps : List Parameter) (earlier : List Parameter) (bs : List Binder) (ρ : Terms) (v : List ℕ)
      (xs : ℕ → ℕ → term.Term) → FineParameters ns earlier ps → Passed N v (types_of ps) xs →
      ((j : ℕ) → ρ.passed (length bs + j) ≡ xs j) → Rights ρ v bs → Rights ρ v (inside ps bs)
  unfolding FineParameters Passed types_of inside Right meant
  rights-inside [] earlier bs ρ v xs f p e r = r
  rights-inside (q ∷ ps) earlier bs ρ v xs f p e r =
      let b : Binder = a_parameter q.id q.holds in
      let z : length bs + 0 ≡ length bs = omega arith in
      let here' : ρ.passed (length bs) ≡ xs 0 = sym (ap ρ.passed z) ∙ e 0 in
      let there' : (j : ℕ) → ρ.passed (suc (length bs) + j) ≡ xs (suc j) =
      λ j. let s : suc (length bs) + j ≡ length bs + suc j = omega arith in ap ρ.passed s ∙ e (suc j) in
      rights-inside ps (q ∷ earlier) (b ∷ bs) ρ v (λ j. xs (suc j)) f.4 p.1 there'
      (one-more-binder (Right N ρ v) ns b bs (rw here' (f.3, p.0))
      (rights-deeper ρ ρ v v bs (agree-itself (length bs) ρ) same r))

  pub rights-passed : (ps : List Parameter) (bs : List Binder) (ρ : Terms) (v : List ℕ) (xs : ℕ → ℕ → term.Term) →
      FineParameters ns [] ps → Passed N v (types_of ps) xs → Rights ρ v bs →
      Rights (with_passed (length bs) xs ρ) v (inside ps bs)
  unfolding with_passed
  rights-passed ps bs ρ v xs f p r =
      let σ : Terms = with_passed (length bs) xs ρ in
      let a : Agree N (length bs) ρ σ = record {
        levels = λ j b. refl;
        passeds = λ j b. beyond_below (length bs) ρ.passed xs j b;
        bodies = λ j b. refl;
      } in
      rights-inside ps [] bs σ v xs f p (beyond_above (length bs) ρ.passed xs)
      (λ id. one id a)
    where
      one : (id : ℕ) → Agree N (length bs) ρ (with_passed (length bs) xs ρ) →
          Right N (with_passed (length bs) xs ρ) v (meaning ns bs id)
      one id a = right-deeper N (length bs) ρ (with_passed (length bs) xs ρ) v v (meaning ns bs id) a same
          (below ns bs id) (r id)

  -- after a procedure
  pub rights-after : (id ty : ℕ) (ps : List Parameter) (bs : List Binder) (ρ : Terms) (v : List ℕ)
      (p : (ℕ → ℕ → term.Term) → ℕ → term.Term) → ty < 5 →
      ((w : List ℕ) (xs : ℕ → ℕ → term.Term) → Deeper v w → Passed N w (types_of ps) xs →
      Typed w (p xs (length w)) (ty_of N ty)) →
      Rights ρ v bs → Rights (with-body (length bs) p ρ) v (after id ty ps bs)
  unfolding with-body Right meant after
  rights-after id ty ps bs ρ v p h f r =
      let σ : Terms = with-body (length bs) p ρ in
      let a : Agree N (length bs) ρ σ = record {
        levels = λ j b. refl;
        passeds = λ j b. refl;
        bodies = λ j b. beyond_below (length bs) ρ.body (λ i. p) j b;
      } in
      one-more-binder (Right N σ v) ns (a_procedure id ty (types_of ps)) bs
      (rw (beyond-at (length bs) ρ.body (λ i. p)) (h, f))
      (rights-deeper ρ σ v v bs a same r)

  pub rights-same : (ρ : Terms) (v w : List ℕ) (bs : List Binder) → Deeper v w → Rights ρ v bs → Rights ρ w bs
  rights-same ρ v w bs d r id =
      right-deeper N (length bs) ρ ρ v w (meaning ns bs id) (agree-itself (length bs) ρ) d (below ns bs id) (r id)

  known : (ρ : Terms) (v : List ℕ) (bs : List Binder) → Rights ρ v bs → Known bs
  known ρ v bs r id = use-below N ρ v (meaning ns bs id) (r id)

  -- a use, by what its id means
  typed-use :
      (bs : List Binder) (ρ : Terms) (v : List ℕ) (id : ℕ) (ws : Writtens) (m : Meaning) → Right N ρ v m →
      FineUse m (ws ≡ none) (λ tys. FineArgs N ns bs ws tys) →
      ((tys : List ℕ) → FineArgs N ns bs ws tys → TypedArgs v (resolve_args N ns bs ρ (length v) ws tys)) →
      ((tys : List ℕ) → FineArgs N ns bs ws tys → Passed N v tys (λ j l. resolved N ns bs ρ l ws j)) →
      Typed v
      (by_meaning m term.diverge
      (λ k. term.private (length v - suc (ρ.level k)))
      (λ k. ρ.passed k (length v))
      (λ k. ρ.body k (λ j l. resolved N ns bs ρ l ws j) (length v))
      (λ often ty tys. term.name id often (ty_of N ty) (resolve_args N ns bs ρ (length v) ws tys)))
      (ty_of N (use_type m))
  unfolding Right FineUse by_meaning use_type Held
  typed-use bs ρ v id ws (private k d) (h, l, l') f g p =
      let e : 2 + d ≡ d + 2 = omega arith in
      rw (ty-variable N (2 + d) (omega arith), e, values-up N d l l') (a_private h.1)
  typed-use bs ρ v id ws (argument k ty) h f g p = h.1 v same
  typed-use bs ρ v id ws (routine k ty tys) h f g p = h.1 v (λ j l. resolved N ns bs ρ l ws j) same (p tys f)
  typed-use bs ρ v id ws (named often ty tys) h f g p = a_name (g tys f)
  typed-use bs ρ v id ws retired h f g p = absurd f
  typed-use bs ρ v id ws free h f g p = absurd f

  -- a variable of a known type, and its data
  typed-fetch :
      {n : List ℕ} {X : term.Term} (ty : ℕ) → 3 ≤ ty → ty < 5 → Typed n X (ty_of N ty) →
      Typed n (term.fetch X) (ty_of N (ty - 2))
  typed-fetch {n} {X} ty l l' h =
      let e : ty ≡ ty - 2 + 2 = omega arith in
      let x : Typed n X (t.variable (values N (ty - 2))) =
      rw (ty-variable N ty l, ap (values N) e ∙ values-up N (ty - 2) (omega arith) (omega arith)) at h in
      rw (ty-expression N (ty - 2) (omega arith) (omega arith)) (a_fetch x)

  typed-assign :
      {n : List ℕ} {X E : term.Term} (ty d : ℕ) → 3 ≤ ty → ty < 5 → d + 2 ≡ ty → Typed n X (ty_of N ty) →
      Typed n E (ty_of N d) → Typed n (term.assign (values N ty) X E) t.command
  typed-assign {n} {X} {E} ty d l l' e h k =
      let v : values N ty ≡ values N d = ap (values N) (sym e) ∙ values-up N d (omega arith) (omega arith) in
      let x : Typed n E (t.expression (values N ty)) =
      rw (ty-expression N d (omega arith) (omega arith), ← v) at k in
      an_assign (rw (ty-variable N ty l) at h) x

  typed-operate :
      {n : List ℕ} {L R : term.Term} (op a b : ℕ) → a ≡ operand_type op → b ≡ operand_type op → Typed n L (ty_of N a) →
      Typed n R (ty_of N b) →
      Typed n (term.operate (operands (record { over = N; operator = op })) (record { over = N; operator = op }) L R)
      (ty_of N (result_type op))
  typed-operate op a b e e' h k =
      rw (results-type N op) (an_operate (rw (e, operands-type N op) at h) (rw (e', operands-type N op) at k))

  -- THEOREM: a term that is in order is well typed
  mutual
    unfolding Fine FineArgs typed resolve resolve_args resolved ty_of values Passed

    pub well_typed :
        (W : Written) (bs : List Binder) (ρ : Terms) (v : List ℕ) → Rights ρ v bs → Fine N ns bs W →
        Typed v (resolve N ns bs ρ (length v) W) (ty_of N (typed ns bs W))
    well_typed skip bs ρ v r f = a_skip
    well_typed (diverge ty) bs ρ v r f = a_diverge
    well_typed (truth b) bs ρ v r f = a_const f
    well_typed (number b) bs ρ v r f = a_const (code_below N (from_byte b))
    well_typed (call id ws) bs ρ v r f =
        typed-use bs ρ v id ws (meaning ns bs id) (r id) f.1 (λ tys g. well-typed-args ws bs ρ v tys r g)
        (λ tys g. well-passed ws bs ρ v tys r g)
    well_typed (fetch x) bs ρ v r f =
        typed-fetch (typed ns bs x) f.1 (typed-below x bs (known ρ v bs r) f.0) (well_typed x bs ρ v r f.0)
    well_typed (operate op x y) bs ρ v r f =
        typed-operate op (typed ns bs x) (typed ns bs y) f.2 f.4 (well_typed x bs ρ v r f.1)
        (well_typed y bs ρ v r f.3)
    well_typed (assign x y) bs ρ v r f =
        typed-assign (typed ns bs x) (typed ns bs y) f.1 (typed-below x bs (known ρ v bs r) f.0) f.3
        (well_typed x bs ρ v r f.0) (well_typed y bs ρ v r f.2)
    well_typed (sequence x y) bs ρ v r f =
        a_seq (rw f.1 at (well_typed x bs ρ v r f.0)) (well_typed y bs ρ v r f.2)
    well_typed (choose b x y) bs ρ v r f =
        a_cond (rw f.1 at (well_typed b bs ρ v r f.0)) (well_typed x bs ρ v r f.2)
        (rw f.4 at (well_typed y bs ρ v r f.3))
    well_typed (while x y) bs ρ v r f =
        a_while (rw f.1 at (well_typed x bs ρ v r f.0)) (rw f.3 at (well_typed y bs ρ v r f.2))
    well_typed (new id d c) bs ρ v r f =
        a_new (rw f.5 at (well_typed c (a_block id d ∷ bs) (with-level (length bs) (length v) ρ) (values N d ∷ v)
        (rights-block id d bs ρ v f.2 f.3 r) f.4))
    well_typed (procedure id ty ps body rest) bs ρ v r f =
        well_typed rest (after id ty ps bs)
        (with-body (length bs) (λ xs l. resolve N ns (inside ps bs) (with_passed (length bs) xs ρ) l body) ρ) v
        (rights-after id ty ps bs ρ v (λ xs l. resolve N ns (inside ps bs) (with_passed (length bs) xs ρ) l body)
        f.2
        (λ w xs d p. rw f.6 at (well_typed body (inside ps bs) (with_passed (length bs) xs ρ) w
        (rights-passed ps bs ρ w xs f.4 p (rights-same ρ v w bs d r)) f.5))
        r)
        f.7

    well-typed-args :
        (ws : Writtens) (bs : List Binder) (ρ : Terms) (v : List ℕ) (tys : List ℕ) → Rights ρ v bs →
        FineArgs N ns bs ws tys → TypedArgs v (resolve_args N ns bs ρ (length v) ws tys)
    well-typed-args none bs ρ v tys r f = no_more
    well-typed-args (more w ws) bs ρ v [] r f = absurd f
    well-typed-args (more w ws) bs ρ v (ty ∷ tys) r f =
        one_more (rw f.1 at (well_typed w bs ρ v r f.0)) (well-typed-args ws bs ρ v tys r f.2)

    well-passed :
        (ws : Writtens) (bs : List Binder) (ρ : Terms) (v : List ℕ) (tys : List ℕ) → Rights ρ v bs →
        FineArgs N ns bs ws tys → Passed N v tys (λ j l. resolved N ns bs ρ l ws j)
    well-passed none bs ρ v [] r f = tt
    well-passed none bs ρ v (ty ∷ tys) r f = absurd f
    well-passed (more w ws) bs ρ v [] r f = absurd f
    well-passed (more w ws) bs ρ v (ty ∷ tys) r f = (
      λ u d. rw f.1 at (well_typed w bs ρ u (rights-same ρ v u bs d r) f.0),
      well-passed ws bs ρ v tys r f.2,
    )

-- THEOREM: the term of a sheet in order is well typed
pub order-typed : (S : Sheet) → InOrder S → Typed [] (term_of S) (ty_of S.numbers (type_of S))
unfolding term_of type_of meaning
order-typed S A =
    well_typed S.numbers S.names S.term [] no_terms []
    (λ id. right-declared S.numbers no_terms [] S.names id (fine-known [] S.names A.fine_names))
    A.fine_term

-- so is that of an accepted sheet
pub accepted-typed : (S : Sheet) → WellFormed S → Typed [] (term_of S) (ty_of S.numbers (type_of S))
accepted-typed S A = order-typed S A.in_order
