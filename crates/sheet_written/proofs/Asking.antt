-- A sheet with other kinds of its names has the same type, and the same term with each name asking so often.
use Prim.Native.Nat.{ℕ, zero, suc, ◌-◌}
use mathlib.Core.Path.{◌≡◌, refl, ap, ◌∙◌}
use mathlib.Core.Bool.{true}
use mathlib.Core.List.{List, [], ◌∷◌}
use lib.Dec.{eqb}
use lib.ListN.{length}
use borrow.Author.Tests.{eqb-true}
use Rattle.language.specs.Term as t
use Rattle.language.specs.Term.{Term, Often}
use Rattle.language.specs.AskOnce.{asking, asking_args}
use Rattle.language.specs.declared.Numbers.{Numbers}
use Rattle.sheet_written.specs.Written.{Written, skip, diverge, truth, number, call, fetch, operate, assign}
use Rattle.sheet_written.specs.Written.{sequence, while, choose, new, procedure, Writtens, none, more, Name, declare}
use Rattle.sheet_written.specs.Written.{retire, Sheet}
use Rattle.sheet_written.specs.Meaning.{Binder, a_block, a_parameter, a_procedure, Meaning, private, argument}
use Rattle.sheet_written.specs.Meaning.{routine, named, retired, free, declared, id_of, meant, meaning, inside, after}
use Rattle.sheet_written.specs.Meaning.{ty_of, use_type, typed, by_meaning, Terms, no_terms, with-level, with-body}
use Rattle.sheet_written.specs.Meaning.{with_passed, resolve, resolve_args, resolved, term_of, type_of}
use Rattle.sheet_written.specs.Asking.{asking_names, with_kinds}
use Rattle.sheet_written.proofs.Tests.{by-test}
use Rattle.sheet_written.proofs.Numbering.{beyond-both}

module _ (κ : ℕ → Often) where
  -- what an id means
  unfoldable asks : ℕ → Meaning → Meaning
  asks id (private k d) = private k d
  asks id (argument k ty) = argument k ty
  asks id (routine k ty tys) = routine k ty tys
  asks id (named often ty tys) = named (κ id) ty tys
  asks id retired = retired
  asks id free = free

  asks-type : (id : ℕ) (m : Meaning) → use_type (asks id m) ≡ use_type m
  unfolding asks use_type
  asks-type id (private k d) = refl
  asks-type id (argument k ty) = refl
  asks-type id (routine k ty tys) = refl
  asks-type id (named often ty tys) = refl
  asks-type id retired = refl
  asks-type id free = refl

  asks-meant : (id k : ℕ) (b : Binder) → meant k b ≡ asks id (meant k b)
  unfolding asks meant
  asks-meant id k (a_block j d) = refl
  asks-meant id k (a_parameter j ty) = refl
  asks-meant id k (a_procedure j ty tys) = refl

  asks-declared : (ns : List Name) (id : ℕ) → declared (asking_names κ ns) id ≡ asks id (declared ns id)
  unfolding declared asking_names asks
  asks-declared [] id = refl
  asks-declared (declare often k ty tys ∷ ns) id =
      by-test (eqb k id) (λ t. rw t (same t)) (λ t. rw t (asks-declared ns id))
    where
      same : eqb k id ≡ true → named (κ k) ty tys ≡ named (κ id) ty tys
      same t = ap (λ (j : ℕ). named (κ j) ty tys) (eqb-true k id t)
  asks-declared (retire k ∷ ns) id = by-test (eqb k id) (λ t. rw t refl) (λ t. rw t (asks-declared ns id))

  asks-meaning : (ns : List Name) (bs : List Binder) (id : ℕ) →
      meaning (asking_names κ ns) bs id ≡ asks id (meaning ns bs id)
  unfolding meaning
  asks-meaning ns [] id = asks-declared ns id
  asks-meaning ns (b ∷ bs) id =
      by-test (eqb (id_of b) id) (λ t. rw t (asks-meant id (length bs) b)) (λ t. rw t (asks-meaning ns bs id))

  -- the type of what is written
  asks-typed : (ns : List Name) (W : Written) (bs : List Binder) → typed (asking_names κ ns) bs W ≡ typed ns bs W
  unfolding typed
  asks-typed ns skip bs = refl
  asks-typed ns (diverge ty) bs = refl
  asks-typed ns (truth b) bs = refl
  asks-typed ns (number b) bs = refl
  asks-typed ns (call id ws) bs = ap use_type (asks-meaning ns bs id) ∙ asks-type id (meaning ns bs id)
  asks-typed ns (fetch v) bs = ap (λ (x : ℕ). x - 2) (asks-typed ns v bs)
  asks-typed ns (operate op l r) bs = refl
  asks-typed ns (assign v e) bs = refl
  asks-typed ns (sequence c m) bs = asks-typed ns m bs
  asks-typed ns (choose b m n) bs = asks-typed ns m bs
  asks-typed ns (while b c) bs = refl
  asks-typed ns (new id d c) bs = refl
  asks-typed ns (procedure id ty ps body rest) bs = asks-typed ns rest (after id ty ps bs)

  -- arguments, and what stands for the binders
  abbrev AsksArgs : (ℕ → ℕ → Term) → (ℕ → ℕ → Term) → Type 0
  AsksArgs xs ys = (j n : ℕ) → ys j n ≡ asking κ (xs j n)

  record Asks (ρ σ : Terms) : Type 0 where
    pub level : (k : ℕ) → σ.level k ≡ ρ.level k
    pub passed : AsksArgs ρ.passed σ.passed
    pub body : (k : ℕ) (xs ys : ℕ → ℕ → Term) → AsksArgs xs ys → (n : ℕ) →
        σ.body k ys n ≡ asking κ (ρ.body k xs n)

  asks_nothing : Asks no_terms no_terms
  unfolding no_terms asking
  asks_nothing = record { level = λ k. refl; passed = λ j n. refl; body = λ k xs ys h n. refl }

  asks-level : (k n : ℕ) (ρ σ : Terms) → Asks ρ σ → Asks (with-level k n ρ) (with-level k n σ)
  unfolding with-level
  asks-level k n ρ σ h = record {
    level = beyond-both (λ (x y : ℕ). y ≡ x) k ρ.level (λ j. n) σ.level (λ j. n) h.level (λ j. refl);
    passed = h.passed;
    body = h.body;
  }

  asks-passed : (k : ℕ) (ρ σ : Terms) (xs ys : ℕ → ℕ → Term) → Asks ρ σ → AsksArgs xs ys →
      Asks (with_passed k xs ρ) (with_passed k ys σ)
  unfolding with_passed
  asks-passed k ρ σ xs ys h g = record {
    level = h.level;
    passed = beyond-both (λ (x y : ℕ → Term). (n : ℕ) → y n ≡ asking κ (x n)) k ρ.passed xs σ.passed ys
        h.passed g;
    body = h.body;
  }

  asks-body : (k : ℕ) (ρ σ : Terms) (p q : (ℕ → ℕ → Term) → ℕ → Term) → Asks ρ σ →
      ((xs ys : ℕ → ℕ → Term) → AsksArgs xs ys → (n : ℕ) → q ys n ≡ asking κ (p xs n)) →
      Asks (with-body k p ρ) (with-body k q σ)
  unfolding with-body
  asks-body k ρ σ p q h g = record {
    level = h.level;
    passed = h.passed;
    body = beyond-both
        (λ (f g : (ℕ → ℕ → Term) → ℕ → Term).
        (xs ys : ℕ → ℕ → Term) → AsksArgs xs ys → (n : ℕ) → g ys n ≡ asking κ (f xs n))
        k ρ.body (λ j. p) σ.body (λ j. q) h.body (λ j. g);
  }

  module _ (N : Numbers) (ns : List Name) where
    asks-use : (bs : List Binder) (ρ σ : Terms) (n id : ℕ) (ws : Writtens) (s : Meaning) → Asks ρ σ →
        AsksArgs (λ j l. resolved N ns bs ρ l ws j) (λ j l. resolved N (asking_names κ ns) bs σ l ws j) →
        ((tys : List ℕ) →
        resolve_args N (asking_names κ ns) bs σ n ws tys ≡ asking_args κ (resolve_args N ns bs ρ n ws tys)) →
        by_meaning (asks id s) t.diverge
        (λ k. t.private (n - suc (σ.level k)))
        (λ k. σ.passed k n)
        (λ k. σ.body k (λ j l. resolved N (asking_names κ ns) bs σ l ws j) n)
        (λ often ty tys. t.name id often (ty_of N ty) (resolve_args N (asking_names κ ns) bs σ n ws tys))
        ≡ asking κ (by_meaning s t.diverge
        (λ k. t.private (n - suc (ρ.level k)))
        (λ k. ρ.passed k n)
        (λ k. ρ.body k (λ j l. resolved N ns bs ρ l ws j) n)
        (λ often ty tys. t.name id often (ty_of N ty) (resolve_args N ns bs ρ n ws tys)))
    unfolding by_meaning asking asks
    asks-use bs ρ σ n id ws (private k d) h g l = ap (λ (j : ℕ). t.private (n - suc j)) (h.level k)
    asks-use bs ρ σ n id ws (argument k ty) h g l = h.passed k n
    asks-use bs ρ σ n id ws (routine k ty tys) h g l =
        h.body k (λ j i. resolved N ns bs ρ i ws j) (λ j i. resolved N (asking_names κ ns) bs σ i ws j) g n
    asks-use bs ρ σ n id ws (named often ty tys) h g l = ap (t.name id (κ id) (ty_of N ty)) (l tys)
    asks-use bs ρ σ n id ws retired h g l = refl
    asks-use bs ρ σ n id ws free h g l = refl

    mutual
      unfolding resolve resolve_args resolved asking asking_args

      asks-resolve : (W : Written) (bs : List Binder) (ρ σ : Terms) (n : ℕ) → Asks ρ σ →
          resolve N (asking_names κ ns) bs σ n W ≡ asking κ (resolve N ns bs ρ n W)
      asks-resolve skip bs ρ σ n h = refl
      asks-resolve (diverge ty) bs ρ σ n h = refl
      asks-resolve (truth b) bs ρ σ n h = refl
      asks-resolve (number b) bs ρ σ n h = refl
      asks-resolve (call id ws) bs ρ σ n h =
          rw (asks-meaning ns bs id) (asks-use bs ρ σ n id ws (meaning ns bs id) h
          (λ j l. asks-resolved ws bs ρ σ l j h) (λ tys. asks-args ws bs ρ σ n tys h))
      asks-resolve (fetch v) bs ρ σ n h = rw (asks-resolve v bs ρ σ n h)
      asks-resolve (operate op x y) bs ρ σ n h = rw (asks-resolve x bs ρ σ n h, asks-resolve y bs ρ σ n h)
      asks-resolve (assign x y) bs ρ σ n h =
          rw (asks-typed ns x bs, asks-resolve x bs ρ σ n h, asks-resolve y bs ρ σ n h)
      asks-resolve (sequence x y) bs ρ σ n h = rw (asks-resolve x bs ρ σ n h, asks-resolve y bs ρ σ n h)
      asks-resolve (choose b x y) bs ρ σ n h =
          rw (asks-resolve b bs ρ σ n h, asks-resolve x bs ρ σ n h, asks-resolve y bs ρ σ n h)
      asks-resolve (while x y) bs ρ σ n h = rw (asks-resolve x bs ρ σ n h, asks-resolve y bs ρ σ n h)
      asks-resolve (new id d c) bs ρ σ n h =
          rw (asks-resolve c (a_block id d ∷ bs) (with-level (length bs) n ρ) (with-level (length bs) n σ) (suc n)
          (asks-level (length bs) n ρ σ h))
      asks-resolve (procedure id ty ps body rest) bs ρ σ n h =
          asks-resolve rest (after id ty ps bs)
          (with-body (length bs) (λ xs l. resolve N ns (inside ps bs) (with_passed (length bs) xs ρ) l body) ρ)
          (with-body (length bs)
          (λ ys l. resolve N (asking_names κ ns) (inside ps bs) (with_passed (length bs) ys σ) l body) σ) n
          (asks-body (length bs) ρ σ
          (λ xs l. resolve N ns (inside ps bs) (with_passed (length bs) xs ρ) l body)
          (λ ys l. resolve N (asking_names κ ns) (inside ps bs) (with_passed (length bs) ys σ) l body) h
          (λ xs ys g l. asks-resolve body (inside ps bs) (with_passed (length bs) xs ρ)
          (with_passed (length bs) ys σ) l (asks-passed (length bs) ρ σ xs ys h g)))

      asks-args : (ws : Writtens) (bs : List Binder) (ρ σ : Terms) (n : ℕ) (tys : List ℕ) → Asks ρ σ →
          resolve_args N (asking_names κ ns) bs σ n ws tys ≡ asking_args κ (resolve_args N ns bs ρ n ws tys)
      asks-args none bs ρ σ n tys h = refl
      asks-args (more w ws) bs ρ σ n [] h = refl
      asks-args (more w ws) bs ρ σ n (ty ∷ tys) h = rw (asks-resolve w bs ρ σ n h, asks-args ws bs ρ σ n tys h)

      asks-resolved : (ws : Writtens) (bs : List Binder) (ρ σ : Terms) (n j : ℕ) → Asks ρ σ →
          resolved N (asking_names κ ns) bs σ n ws j ≡ asking κ (resolved N ns bs ρ n ws j)
      asks-resolved none bs ρ σ n j h = refl
      asks-resolved (more w ws) bs ρ σ n zero h = asks-resolve w bs ρ σ n h
      asks-resolved (more w ws) bs ρ σ n (suc j) h = asks-resolved ws bs ρ σ n j h

-- THEOREM: type and term of a sheet with other kinds of its names
pub kinds-type : (κ : ℕ → Often) (S : Sheet) → type_of (with_kinds κ S) ≡ type_of S
unfolding type_of with_kinds
kinds-type κ S = asks-typed κ S.names S.term []

pub kinds-term : (κ : ℕ → Often) (S : Sheet) → term_of (with_kinds κ S) ≡ asking κ (term_of S)
unfolding term_of with_kinds
kinds-term κ S =
    asks-resolve κ S.numbers S.names S.term [] no_terms no_terms 0 (asks_nothing κ)
