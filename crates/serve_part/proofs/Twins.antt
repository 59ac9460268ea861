-- A part in its blocks and the part as a sheet of its own: what its ids mean in the one and in the other, and what
-- stands for the binders inside it.
use Prim.Native.Nat.{ℕ, suc, ◌+◌, ◌-◌, ◌≤◌, ◌<◌}
use native.Mathlib.Omega.{arith}
use mathlib.Core.Path.{◌≡◌, refl, sym, ap, ◌∙◌}
use mathlib.Core.List.{List, [], ◌∷◌}
use lib.ListN.{length}
use lib.Dec.{eqb}
use Rattle.language.specs.Ty.{Ty, Question, Answer, Answers}
use Rattle.language.specs.Term.{Term, Often}
use Rattle.language.specs.Play.{Plays}
use Rattle.language.specs.declared.Numbers.{Numbers}
use Rattle.sheet_written.specs.Written.{Written, skip, diverge, truth, number, call, fetch, operate, assign, sequence}
use Rattle.sheet_written.specs.Written.{while, choose, new, procedure, Parameter, Name}
use Rattle.sheet_written.specs.Meaning.{Binder, a_block, a_parameter, a_procedure, Meaning, private, argument, routine}
use Rattle.sheet_written.specs.Meaning.{named, retired, free, id_of, meant, meaning, inside, after, types_of, ty_of, use_type}
use Rattle.sheet_written.specs.Meaning.{typed, Terms, with-level, with-body, with_passed}
use Rattle.sheet_written.specs.Fine.{FineParameters}
use Rattle.sheet_written.proofs.Tests.{by-test}
use Rattle.sheet_written.proofs.Numbering.{beyond_below, beyond_above, beyond-at, Below, below}
use Rattle.serve_part.proofs.Matching.{Match}

-- Z and the overflow rule, the names of the whole sheet and those of the part's own, and the binders around the part
module _ (N : Numbers) (ns ns' : List Name) (around : List Binder) where
  -- two terms play the same between the questions and answers of a type, at places inside n blocks of the part
  abbrev pub Agrees : ℕ → Ty → Term → Term → Type 0
  Agrees n T M M' = (q : Question) (a : Answer) → Answers T q a → Match ns around n (Plays M q a) (Plays M' q a)

  -- the level of a place in the whole sheet is i, in the part's own it is j
  abbrev pub Level : ℕ → ℕ → Type 0
  Level i j = i ≡ j + length around

  -- arguments of the given types, inside n blocks of the part and deeper
  unfoldable pub Passed : ℕ → List ℕ → (ℕ → ℕ → Term) → (ℕ → ℕ → Term) → Type 0
  Passed n [] xs ys = Unit
  Passed n (ty ∷ tys) xs ys =
      ((i j : ℕ) → Level i j → n ≤ j → Agrees j (ty_of N ty) (xs 0 i) (ys 0 j))
      × Passed n tys (λ k. xs (suc k)) (λ k. ys (suc k))

  -- what an id means in the whole sheet and in the part's own, inside n blocks of the part
  pub data Twin (id n : ℕ) (ρ σ : Terms) : Meaning → Meaning → Type 0 where
    a-variable : {k l d : ℕ} → ρ.level k ≡ σ.level l + length around → σ.level l < n →
        Twin id n ρ σ (private k d) (private l d)
    an-argument : {k l ty : ℕ} →
        ((i j : ℕ) → Level i j → n ≤ j → Agrees j (ty_of N ty) (ρ.passed k i) (σ.passed l j)) →
        Twin id n ρ σ (argument k ty) (argument l ty)
    a-routine : {k l ty : ℕ} {tys : List ℕ} →
        ((i j : ℕ) (xs ys : ℕ → ℕ → Term) → Level i j → n ≤ j → Passed j tys xs ys →
        Agrees j (ty_of N ty) (ρ.body k xs i) (σ.body l ys j)) →
        Twin id n ρ σ (routine k ty tys) (routine l ty tys)
    -- "every private variable whose block encloses them declared as a name without arguments"
    an-outer : {k d : ℕ} {o : Often} → meaning ns around id ≡ private k d → k < length around → 0 < d → ρ.level k ≡ k →
        Twin id n ρ σ (private k d) (named o (2 + d) [])
    a_name : {o : Often} {ty : ℕ} {tys : List ℕ} → meaning ns around id ≡ named o ty tys →
        Twin id n ρ σ (named o ty tys) (named o ty tys)
    a-retired : Twin id n ρ σ retired retired
    no-twin : Twin id n ρ σ free free

  -- all ids
  pub record Twins (n : ℕ) (ρ σ : Terms) (bs cs : List Binder) : Type 0 where
    pub twin : (id : ℕ) → Twin id n ρ σ (meaning ns bs id) (meaning ns' cs id)
    pub known : (id : ℕ) → use_type (meaning ns bs id) < 5

  -- they have the same types
  twin-type : {id n : ℕ} {ρ σ : Terms} {m m' : Meaning} → Twin id n ρ σ m m' → use_type m ≡ use_type m'
  unfolding use_type
  twin-type (a-variable e l) = refl
  twin-type (an-argument f) = refl
  twin-type (a-routine f) = refl
  twin-type (an-outer h b p e) = refl
  twin-type (a_name h) = refl
  twin-type a-retired = refl
  twin-type no-twin = refl

  pub twins-type : {n : ℕ} {ρ σ : Terms} {bs cs : List Binder} → Twins n ρ σ bs cs → (id : ℕ) →
      use_type (meaning ns bs id) ≡ use_type (meaning ns' cs id)
  twins-type t id = twin-type (t.twin id)

  -- two environments that agree below k
  record Agree (k : ℕ) (ρ σ : Terms) : Type 0 where
    levels : (j : ℕ) → j < k → σ.level j ≡ ρ.level j
    passeds : (j : ℕ) → j < k → σ.passed j ≡ ρ.passed j
    bodies : (j : ℕ) → j < k → σ.body j ≡ ρ.body j

  agree-itself : (k : ℕ) (ρ : Terms) → Agree k ρ ρ
  agree-itself k ρ = record { levels = λ j h. refl; passeds = λ j h. refl; bodies = λ j h. refl }

  -- the same inside more blocks, in environments that agree as far as the binders go
  twin-deeper : {id n n₂ : ℕ} {ρ σ ρ₂ σ₂ : Terms} {m m' : Meaning} (k l : ℕ) → n ≤ n₂ → Agree k ρ ρ₂ →
      Agree l σ σ₂ → Below k m → Below l m' → Twin id n ρ σ m m' → Twin id n₂ ρ₂ σ₂ m m'
  unfolding Below
  twin-deeper k l h a b p r (a-variable {k = i} {l = j} e f) =
      a-variable (a.levels i p ∙ e ∙ ap (λ (x : ℕ). x + length around) (sym (b.levels j r)))
      (omega (arith, b.levels j r))
  twin-deeper k l h a b p r (an-argument {k = i} {l = j} {ty = ty} f) =
      an-argument {k = i} {l = j} {ty = ty} (rw (a.passeds i p, b.passeds j r) (λ x y e g. f x y e (omega arith)))
  twin-deeper k l h a b p r (a-routine {k = i} {l = j} {ty = ty} {tys = tys} f) =
      a-routine {k = i} {l = j} {ty = ty} {tys = tys}
      (rw (a.bodies i p, b.bodies j r) (λ x y xs ys e g. f x y xs ys e (omega arith)))
  twin-deeper k l h a b p r (an-outer {k = i} e f g z) = an-outer e f g (a.levels i p ∙ z)
  twin-deeper k l h a b p r (a_name e) = a_name e
  twin-deeper k l h a b p r a-retired = a-retired
  twin-deeper k l h a b p r no-twin = no-twin

  -- one binder more in both
  twins-more : (n n₂ : ℕ) (ρ σ ρ₂ σ₂ : Terms) (b : Binder) (bs cs : List Binder) → n ≤ n₂ → Agree (length bs) ρ ρ₂ →
      Agree (length cs) σ σ₂ → ((id : ℕ) → Twin id n₂ ρ₂ σ₂ (meant (length bs) b) (meant (length cs) b)) →
      use_type (meant (length bs) b) < 5 → Twins n ρ σ bs cs → Twins n₂ ρ₂ σ₂ (b ∷ bs) (b ∷ cs)
  unfolding meaning
  twins-more n n₂ ρ σ ρ₂ σ₂ b bs cs h g g' f l t = record {
    twin = λ id. by-test (eqb (id_of b) id)
        (λ e. rw e (f id))
        (λ e. rw e (twin-deeper (length bs) (length cs) h g g' (below ns bs id) (below ns' cs id) (t.twin id)));
    known = λ id. by-test (eqb (id_of b) id) (λ e. rw e l) (λ e. rw e (t.known id));
  }

  -- inside a block
  pub twins-block : (n i id d : ℕ) (ρ σ : Terms) (bs cs : List Binder) → Level i n → d < 3 → Twins n ρ σ bs cs →
      Twins (suc n) (with-level (length bs) i ρ) (with-level (length cs) n σ) (a_block id d ∷ bs) (a_block id d ∷ cs)
  unfolding with-level meant use_type
  twins-block n i id d ρ σ bs cs h l t =
      twins-more n (suc n) ρ σ (with-level (length bs) i ρ) (with-level (length cs) n σ) (a_block id d) bs cs
      (omega arith)
      (record {
        levels = λ j b. beyond_below (length bs) ρ.level (λ x. i) j b;
        passeds = λ j b. refl;
        bodies = λ j b. refl;
      })
      (record {
        levels = λ j b. beyond_below (length cs) σ.level (λ x. n) j b;
        passeds = λ j b. refl;
        bodies = λ j b. refl;
      })
      (λ x. a-variable
      (beyond-at (length bs) ρ.level (λ x. i) ∙ h
      ∙ ap (λ (y : ℕ). y + length around) (sym (beyond-at (length cs) σ.level (λ x. n))))
      (omega (arith, beyond-at (length cs) σ.level (λ x. n))))
      (omega arith) t

  -- in the second term of a procedure
  pub twins-after : (n id ty : ℕ) (ps : List Parameter) (ρ σ : Terms) (bs cs : List Binder)
      (p p' : (ℕ → ℕ → Term) → ℕ → Term) → ty < 5 →
      ((i j : ℕ) (xs ys : ℕ → ℕ → Term) → Level i j → n ≤ j → Passed j (types_of ps) xs ys →
      Agrees j (ty_of N ty) (p xs i) (p' ys j)) →
      Twins n ρ σ bs cs →
      Twins n (with-body (length bs) p ρ) (with-body (length cs) p' σ) (after id ty ps bs) (after id ty ps cs)
  unfolding with-body meant use_type after
  twins-after n id ty ps ρ σ bs cs p p' l f t =
      twins-more n n ρ σ (with-body (length bs) p ρ) (with-body (length cs) p' σ) (a_procedure id ty (types_of ps)) bs
      cs (omega arith)
      (record {
        levels = λ j b. refl;
        passeds = λ j b. refl;
        bodies = λ j b. beyond_below (length bs) ρ.body (λ x. p) j b;
      })
      (record {
        levels = λ j b. refl;
        passeds = λ j b. refl;
        bodies = λ j b. beyond_below (length cs) σ.body (λ x. p') j b;
      })
      (λ x. a-routine (rw (beyond-at (length bs) ρ.body (λ x. p), beyond-at (length cs) σ.body (λ x. p')) f))
      l t

  -- in a procedure's own term
  twins-inside : (n : ℕ) (ps earlier : List Parameter) (ρ σ : Terms) (bs cs : List Binder) (xs ys : ℕ → ℕ → Term) →
      FineParameters ns earlier ps → Passed n (types_of ps) xs ys →
      ((k : ℕ) → ρ.passed (length bs + k) ≡ xs k) → ((k : ℕ) → σ.passed (length cs + k) ≡ ys k) →
      Twins n ρ σ bs cs → Twins n ρ σ (inside ps bs) (inside ps cs)
  unfolding FineParameters Passed types_of inside meant use_type
  twins-inside n [] earlier ρ σ bs cs xs ys f p e e' t = t
  twins-inside n (q ∷ ps) earlier ρ σ bs cs xs ys f p e e' t =
      let b : Binder = a_parameter q.id q.holds in
      twins-inside n ps (q ∷ earlier) ρ σ (b ∷ bs) (b ∷ cs) (λ k. xs (suc k)) (λ k. ys (suc k)) f.4 p.1
      (later (length bs) ρ.passed xs e) (later (length cs) σ.passed ys e')
      (twins-more n n ρ σ ρ σ b bs cs (omega arith) (agree-itself (length bs) ρ) (agree-itself (length cs) σ)
      (λ x. an-argument (rw (first (length bs) ρ.passed xs e, first (length cs) σ.passed ys e') p.0))
      f.3 t)
    where
      first : (k : ℕ) (g zs : ℕ → ℕ → Term) → ((j : ℕ) → g (k + j) ≡ zs j) → g k ≡ zs 0
      first k g zs h = let z : k + 0 ≡ k = omega arith in sym (ap g z) ∙ h 0

      later : (k : ℕ) (g zs : ℕ → ℕ → Term) → ((j : ℕ) → g (k + j) ≡ zs j) → (j : ℕ) → g (suc k + j) ≡ zs (suc j)
      later k g zs h j = let z : suc k + j ≡ k + suc j = omega arith in ap g z ∙ h (suc j)

  pub twins-passed : (n : ℕ) (ps : List Parameter) (ρ σ : Terms) (bs cs : List Binder) (xs ys : ℕ → ℕ → Term) →
      FineParameters ns [] ps → Passed n (types_of ps) xs ys → Twins n ρ σ bs cs →
      Twins n (with_passed (length bs) xs ρ) (with_passed (length cs) ys σ) (inside ps bs) (inside ps cs)
  unfolding with_passed
  twins-passed n ps ρ σ bs cs xs ys f p t =
      twins-inside n ps [] (with_passed (length bs) xs ρ) (with_passed (length cs) ys σ) bs cs xs ys f p
      (beyond_above (length bs) ρ.passed xs) (beyond_above (length cs) σ.passed ys)
      (record {
        twin = λ id. twin-deeper (length bs) (length cs) (omega arith)
            (record {
              levels = λ j b. refl;
              passeds = λ j b. beyond_below (length bs) ρ.passed xs j b;
              bodies = λ j b. refl;
            })
            (record {
              levels = λ j b. refl;
              passeds = λ j b. beyond_below (length cs) σ.passed ys j b;
              bodies = λ j b. refl;
            })
            (below ns bs id) (below ns' cs id) (t.twin id);
        known = t.known;
      })

  -- deeper inside the part
  pub twins-deeper : (n n₂ : ℕ) (ρ σ : Terms) (bs cs : List Binder) → n ≤ n₂ → Twins n ρ σ bs cs → Twins n₂ ρ σ bs cs
  twins-deeper n n₂ ρ σ bs cs h t = record {
    twin = λ id. twin-deeper (length bs) (length cs) h (agree-itself (length bs) ρ) (agree-itself (length cs) σ)
        (below ns bs id) (below ns' cs id) (t.twin id);
    known = t.known;
  }

-- ids of the same types give terms of the same type
module _ (ns ns' : List Name) where
  abbrev SameTypes : List Binder → List Binder → Type 0
  SameTypes bs cs = (id : ℕ) → use_type (meaning ns bs id) ≡ use_type (meaning ns' cs id)

  same-types-more : (b : Binder) (bs cs : List Binder) →
      use_type (meant (length bs) b) ≡ use_type (meant (length cs) b) → SameTypes bs cs → SameTypes (b ∷ bs) (b ∷ cs)
  unfolding meaning
  same-types-more b bs cs e h id = by-test (eqb (id_of b) id) (λ t. rw t e) (λ t. rw t (h id))

  pub same_typed : (W : Written) (bs cs : List Binder) → SameTypes bs cs → typed ns bs W ≡ typed ns' cs W
  unfolding typed after meant use_type
  same_typed skip bs cs h = refl
  same_typed (diverge ty) bs cs h = refl
  same_typed (truth b) bs cs h = refl
  same_typed (number b) bs cs h = refl
  same_typed (call id ws) bs cs h = h id
  same_typed (fetch v) bs cs h = ap (λ (x : ℕ). x - 2) (same_typed v bs cs h)
  same_typed (operate op x y) bs cs h = refl
  same_typed (assign x y) bs cs h = refl
  same_typed (sequence x y) bs cs h = same_typed y bs cs h
  same_typed (choose b x y) bs cs h = same_typed x bs cs h
  same_typed (while x y) bs cs h = refl
  same_typed (new id d c) bs cs h = refl
  same_typed (procedure id ty ps x y) bs cs h =
      same_typed y (a_procedure id ty (types_of ps) ∷ bs) (a_procedure id ty (types_of ps) ∷ cs)
      (same-types-more (a_procedure id ty (types_of ps)) bs cs refl h)
