-- A procedure that is not used may be left out: the term is the same. Document 02 [1].
use Prim.Native.Nat.{ℕ, zero, suc, ◌+◌, ◌-◌}
use native.Mathlib.Omega.{arith}
use mathlib.Core.Path.{◌≡◌, refl, sym, ap, ◌∙◌, fun_ext}
use mathlib.Core.List.{List, [], ◌∷◌}
use lib.ListN.{length}
use lib.Dec.{eqb}
use borrow.Author.Tests.{eqb-true, eqb-false}
use Rattle.language.specs.Term as t
use Rattle.language.specs.Term.{Term}
use Rattle.language.specs.declared.Numbers.{Numbers}
use Rattle.language.specs.Term.{Often}
use Rattle.sheet_written.specs.Written.{Written, skip, diverge, truth, number, call, fetch, operate, assign}
use Rattle.sheet_written.specs.Written.{sequence, while, choose, new, procedure, Parameter, Writtens, none, more}
use Rattle.sheet_written.specs.Written.{Name}
use Rattle.sheet_written.specs.Meaning.{Binder, a_block, a_parameter, a_procedure, Meaning, private, argument}
use Rattle.sheet_written.specs.Meaning.{routine, named, retired, free, id_of, meant, meaning, inside, after, types_of}
use Rattle.sheet_written.specs.Meaning.{use_type, typed, ty_of, by_meaning, Terms, with-level, with-body, with_passed}
use Rattle.sheet_written.specs.Meaning.{resolve, resolve_args, resolved}
use Rattle.sheet_written.specs.LeaveOut.{remove, remove_all, NoneIs, NoUse, NoUses, LeftOut, left_out, in_call}
use Rattle.sheet_written.specs.LeaveOut.{in-fetch, in_left, in_right, in_target, in_source, in_first, in_second}
use Rattle.sheet_written.specs.LeaveOut.{in_if, in_then, in_else, in_test, in_loop, in-new, in_body, in_rest}
use Rattle.sheet_written.specs.LeaveOut.{LeftOuts, in_this, in_later}
use Rattle.sheet_written.specs.Represent.{Agree}
use Rattle.sheet_written.proofs.Tests.{by-test}
use Rattle.sheet_written.proofs.Numbering.{beyond-at, beyond_above, Below, below}
use Rattle.sheet_written.proofs.Scopes.{meaning-here, meaning-past}
use Rattle.sheet_written.proofs.Standing.{agree-level, agree-body, agree-passed}

-- two meanings that differ in the number alone, for which the same stands
pub data Matches (ρ σ : Terms) : Meaning → Meaning → Type 0 where
  both-private : {k l d : ℕ} → ρ.level k ≡ σ.level l → Matches ρ σ (private k d) (private l d)
  both-argument : {k l ty : ℕ} → ((n : ℕ) → ρ.passed k n ≡ σ.passed l n) → Matches ρ σ (argument k ty) (argument l ty)
  both-routine : {k l ty : ℕ} {tys : List ℕ} →
      ((xs ys : ℕ → ℕ → Term) → ((j n : ℕ) → xs j n ≡ ys j n) → (n : ℕ) → ρ.body k xs n ≡ σ.body l ys n) →
      Matches ρ σ (routine k ty tys) (routine l ty tys)
  both-named : {often : Often} {ty : ℕ} {tys : List ℕ} → Matches ρ σ (named often ty tys) (named often ty tys)
  both-retired : Matches ρ σ retired retired
  both-free : Matches ρ σ free free

same_body : (p : (ℕ → ℕ → Term) → ℕ → Term) (xs ys : ℕ → ℕ → Term) → ((j n : ℕ) → xs j n ≡ ys j n) → (n : ℕ) →
    p xs n ≡ p ys n
same_body p xs ys h n = ap (λ (zs : ℕ → ℕ → Term). p zs n) (fun_ext (λ j. fun_ext (λ i. h j i)))

matches-itself : (ρ : Terms) (m : Meaning) → Matches ρ ρ m m
matches-itself ρ (private k d) = both-private refl
matches-itself ρ (argument k ty) = both-argument (λ n. refl)
matches-itself ρ (routine k ty tys) = both-routine (λ xs ys h n. same_body (ρ.body k) xs ys h n)
matches-itself ρ (named often ty tys) = both-named
matches-itself ρ retired = both-retired
matches-itself ρ free = both-free

matches-agree : {ρ σ ρ' σ' : Terms} {m w : Meaning} (a b : ℕ) → Matches ρ σ m w → Below a m → Below b w → Agree a ρ ρ' →
    Agree b σ σ' → Matches ρ' σ' m w
unfolding Below
matches-agree a b (both-private {k = k} {l = l} e) x y f g = both-private (f.levels k x ∙ e ∙ sym (g.levels l y))
matches-agree a b (both-argument {k = k} {l = l} e) x y f g =
    both-argument (λ n. ap (λ (h : ℕ → Term). h n) (f.passeds k x) ∙ e n ∙ sym
    (ap (λ (h : ℕ → Term). h n) (g.passeds l y)))
matches-agree a b (both-routine {k = k} {l = l} e) x y f g =
    both-routine (λ xs ys h n.
    ap (λ (p : (ℕ → ℕ → Term) → ℕ → Term). p xs n) (f.bodies k x) ∙ e xs ys h n
    ∙ sym (ap (λ (p : (ℕ → ℕ → Term) → ℕ → Term). p ys n) (g.bodies l y)))
matches-agree a b both-named x y f g = both-named
matches-agree a b both-retired x y f g = both-retired
matches-agree a b both-free x y f g = both-free

none-removed : (id i : ℕ) (out : List ℕ) → (id ≡ i → ⊥) → NoneIs i (remove id out) → NoneIs i out
unfolding NoneIs remove
none-removed id i [] e h = tt
none-removed id i (a ∷ out) e h =
    by-test (eqb a id)
    (λ t. (λ x. e (sym (eqb-true a id t) ∙ x), none-removed id i out e (rw t at h)))
    (λ t.
    let g : (a ≡ i → ⊥) × NoneIs i (remove id out) = rw t at h in
    (g.0, none-removed id i out e g.1))

module _ (N : Numbers) (ns : List Name) where
  -- every id but these means the same in both scopes
  abbrev pub Reaches : List ℕ → List Binder → List Binder → Terms → Terms → Type 0
  Reaches out bs cs ρ σ = (i : ℕ) → NoneIs i out → Matches ρ σ (meaning ns bs i) (meaning ns cs i)

  reaches-agree : (out : List ℕ) (bs cs : List Binder) (ρ σ ρ' σ' : Terms) → Agree (length bs) ρ ρ' →
      Agree (length cs) σ σ' → Reaches out bs cs ρ σ → Reaches out bs cs ρ' σ'
  reaches-agree out bs cs ρ σ ρ' σ' f g r i h =
      matches-agree (length bs) (length cs) (r i h) (below ns bs i) (below ns cs i) f g

  -- one binder more in both
  reaches_more : (out : List ℕ) (b : Binder) (bs cs : List Binder) (ρ σ : Terms) →
      Matches ρ σ (meant (length bs) b) (meant (length cs) b) → Reaches out bs cs ρ σ →
      Reaches (remove (id_of b) out) (b ∷ bs) (b ∷ cs) ρ σ
  reaches_more out b bs cs ρ σ x r i h =
      by-test (eqb (id_of b) i)
      (λ t.
      let e : id_of b ≡ i = eqb-true (id_of b) i t in
      rw (meaning-here ns b bs i e, meaning-here ns b cs i e) x)
      (λ t.
      let e : id_of b ≡ i → ⊥ = eqb-false (id_of b) i t in
      rw (meaning-past ns b bs i e, meaning-past ns b cs i e) (r i (none-removed (id_of b) i out e h)))

  reaches-block : (out : List ℕ) (id d n : ℕ) (bs cs : List Binder) (ρ σ : Terms) → Reaches out bs cs ρ σ →
      Reaches (remove id out) (a_block id d ∷ bs) (a_block id d ∷ cs) (with-level (length bs) n ρ)
      (with-level (length cs) n σ)
  unfolding id_of meant with-level
  reaches-block out id d n bs cs ρ σ r =
      let ρ' : Terms = with-level (length bs) n ρ in
      let σ' : Terms = with-level (length cs) n σ in
      reaches_more out (a_block id d) bs cs ρ' σ'
      (both-private (beyond-at (length bs) ρ.level (λ j. n) ∙ sym (beyond-at (length cs) σ.level (λ j. n))))
      (reaches-agree out bs cs ρ σ ρ' σ' (agree-level (length bs) n ρ) (agree-level (length cs) n σ) r)

  reaches-parameters : (ps : List Parameter) (out : List ℕ) (bs cs : List Binder) (ρ σ : Terms) →
      ((j n : ℕ) → ρ.passed (length bs + j) n ≡ σ.passed (length cs + j) n) → Reaches out bs cs ρ σ →
      Reaches (remove_all ps out) (inside ps bs) (inside ps cs) ρ σ
  unfolding inside remove_all id_of meant
  reaches-parameters [] out bs cs ρ σ h r = r
  reaches-parameters (p ∷ ps) out bs cs ρ σ h r =
      let b : Binder = a_parameter p.id p.holds in
      let e : (n : ℕ) → ρ.passed (length bs) n ≡ σ.passed (length cs) n =
      λ n.
      let x : length bs + 0 ≡ length bs = omega arith in
      let y : length cs + 0 ≡ length cs = omega arith in
      rw (x, y) at (h 0 n) in
      reaches-parameters ps (remove p.id out) (b ∷ bs) (b ∷ cs) ρ σ
      (λ j n.
      let x : suc (length bs) + j ≡ length bs + suc j = omega arith in
      let y : suc (length cs) + j ≡ length cs + suc j = omega arith in
      rw (x, y) (h (suc j) n))
      (reaches_more out b bs cs ρ σ (both-argument e) r)

  reaches-inside : (out : List ℕ) (ps : List Parameter) (bs cs : List Binder) (ρ σ : Terms) (xs ys : ℕ → ℕ → Term) →
      ((j n : ℕ) → xs j n ≡ ys j n) → Reaches out bs cs ρ σ →
      Reaches (remove_all ps out) (inside ps bs) (inside ps cs) (with_passed (length bs) xs ρ)
      (with_passed (length cs) ys σ)
  unfolding with_passed
  reaches-inside out ps bs cs ρ σ xs ys h r =
      let ρ' : Terms = with_passed (length bs) xs ρ in
      let σ' : Terms = with_passed (length cs) ys σ in
      reaches-parameters ps out bs cs ρ' σ'
      (λ j n. ap (λ (f : ℕ → Term). f n) (beyond_above (length bs) ρ.passed xs j) ∙ h j n
      ∙ sym (ap (λ (f : ℕ → Term). f n) (beyond_above (length cs) σ.passed ys j)))
      (reaches-agree out bs cs ρ σ ρ' σ' (agree-passed (length bs) xs ρ) (agree-passed (length cs) ys σ) r)

  reaches-after : (out : List ℕ) (id ty : ℕ) (ps : List Parameter) (bs cs : List Binder) (ρ σ : Terms)
      (p q : (ℕ → ℕ → Term) → ℕ → Term) →
      ((xs ys : ℕ → ℕ → Term) → ((j n : ℕ) → xs j n ≡ ys j n) → (n : ℕ) → p xs n ≡ q ys n) → Reaches out bs cs ρ σ →
      Reaches (remove id out) (after id ty ps bs) (after id ty ps cs) (with-body (length bs) p ρ)
      (with-body (length cs) q σ)
  unfolding after id_of meant with-body
  reaches-after out id ty ps bs cs ρ σ p q h r =
      let ρ' : Terms = with-body (length bs) p ρ in
      let σ' : Terms = with-body (length cs) q σ in
      reaches_more out (a_procedure id ty (types_of ps)) bs cs ρ' σ'
      (both-routine (λ xs ys g n.
      ap (λ (f : (ℕ → ℕ → Term) → ℕ → Term). f xs n) (beyond-at (length bs) ρ.body (λ j. p)) ∙ h xs ys g n
      ∙ sym (ap (λ (f : (ℕ → ℕ → Term) → ℕ → Term). f ys n) (beyond-at (length cs) σ.body (λ j. q)))))
      (reaches-agree out bs cs ρ σ ρ' σ' (agree-body (length bs) p ρ) (agree-body (length cs) q σ) r)

  same_type : {ρ σ : Terms} {m w : Meaning} → Matches ρ σ m w → use_type m ≡ use_type w
  unfolding use_type
  same_type (both-private e) = refl
  same_type (both-argument e) = refl
  same_type (both-routine e) = refl
  same_type both-named = refl
  same_type both-retired = refl
  same_type both-free = refl

  reaches-typed : (W : Written) (out : List ℕ) (bs cs : List Binder) (ρ σ : Terms) → NoUse out W →
      Reaches out bs cs ρ σ → typed ns bs W ≡ typed ns cs W
  unfolding typed NoUse
  reaches-typed skip out bs cs ρ σ u r = refl
  reaches-typed (diverge ty) out bs cs ρ σ u r = refl
  reaches-typed (truth b) out bs cs ρ σ u r = refl
  reaches-typed (number b) out bs cs ρ σ u r = refl
  reaches-typed (call id ws) out bs cs ρ σ u r = same_type (r id u.0)
  reaches-typed (fetch v) out bs cs ρ σ u r = ap (λ (k : ℕ). k - 2) (reaches-typed v out bs cs ρ σ u r)
  reaches-typed (operate op x y) out bs cs ρ σ u r = refl
  reaches-typed (assign x y) out bs cs ρ σ u r = refl
  reaches-typed (sequence x y) out bs cs ρ σ u r = reaches-typed y out bs cs ρ σ u.1 r
  reaches-typed (choose b x y) out bs cs ρ σ u r = reaches-typed x out bs cs ρ σ u.1 r
  reaches-typed (while x y) out bs cs ρ σ u r = refl
  reaches-typed (new id d c) out bs cs ρ σ u r = refl
  reaches-typed (procedure id ty ps x y) out bs cs ρ σ u r =
      let p : (ℕ → ℕ → Term) → ℕ → Term = λ xs n. t.diverge in
      reaches-typed y (remove id out) (after id ty ps bs) (after id ty ps cs) (with-body (length bs) p ρ)
      (with-body (length cs) p σ)
      u.1 (reaches-after out id ty ps bs cs ρ σ p p (λ xs ys h n. refl) r)

  -- a use
  reaches-use : (bs cs : List Binder) (ρ σ : Terms) (n id : ℕ) (ws ws' : Writtens) {m w : Meaning} → Matches ρ σ m w →
      ((j l : ℕ) → resolved N ns bs ρ l ws j ≡ resolved N ns cs σ l ws' j) →
      ((tys : List ℕ) → resolve_args N ns bs ρ n ws tys ≡ resolve_args N ns cs σ n ws' tys) →
      by_meaning m t.diverge
      (λ k. t.private (n - suc (ρ.level k)))
      (λ k. ρ.passed k n)
      (λ k. ρ.body k (λ j l. resolved N ns bs ρ l ws j) n)
      (λ often ty tys. t.name id often (ty_of N ty) (resolve_args N ns bs ρ n ws tys))
      ≡ by_meaning w t.diverge
      (λ k. t.private (n - suc (σ.level k)))
      (λ k. σ.passed k n)
      (λ k. σ.body k (λ j l. resolved N ns cs σ l ws' j) n)
      (λ often ty tys. t.name id often (ty_of N ty) (resolve_args N ns cs σ n ws' tys))
  unfolding by_meaning
  reaches-use bs cs ρ σ n id ws ws' (both-private e) g h = rw e
  reaches-use bs cs ρ σ n id ws ws' (both-argument e) g h = e n
  reaches-use bs cs ρ σ n id ws ws' (both-routine e) g h =
      e (λ j l. resolved N ns bs ρ l ws j) (λ j l. resolved N ns cs σ l ws' j) g n
  reaches-use bs cs ρ σ n id ws ws' (both-named {tys = tys}) g h = rw (h tys)
  reaches-use bs cs ρ σ n id ws ws' both-retired g h = refl
  reaches-use bs cs ρ σ n id ws ws' both-free g h = refl

  -- a term that uses none of these ids is the same in both scopes
  mutual
    unfolding resolve resolve_args resolved NoUse NoUses

    reaches-resolve : (W : Written) (out : List ℕ) (bs cs : List Binder) (ρ σ : Terms) → NoUse out W →
        Reaches out bs cs ρ σ → (n : ℕ) → resolve N ns bs ρ n W ≡ resolve N ns cs σ n W
    reaches-resolve skip out bs cs ρ σ u r n = refl
    reaches-resolve (diverge ty) out bs cs ρ σ u r n = refl
    reaches-resolve (truth b) out bs cs ρ σ u r n = refl
    reaches-resolve (number b) out bs cs ρ σ u r n = refl
    reaches-resolve (call id ws) out bs cs ρ σ u r n =
        reaches-use bs cs ρ σ n id ws ws (r id u.0) (λ j l. reaches-resolved ws out bs cs ρ σ u.1 r l j)
        (λ tys. reaches-args ws out bs cs ρ σ u.1 r n tys)
    reaches-resolve (fetch v) out bs cs ρ σ u r n = rw (reaches-resolve v out bs cs ρ σ u r n)
    reaches-resolve (operate op x y) out bs cs ρ σ u r n =
        rw (reaches-resolve x out bs cs ρ σ u.0 r n, reaches-resolve y out bs cs ρ σ u.1 r n)
    reaches-resolve (assign x y) out bs cs ρ σ u r n =
        rw (
          reaches-typed x out bs cs ρ σ u.0 r,
          reaches-resolve x out bs cs ρ σ u.0 r n,
          reaches-resolve y out bs cs ρ σ u.1 r n,
        )
    reaches-resolve (sequence x y) out bs cs ρ σ u r n =
        rw (reaches-resolve x out bs cs ρ σ u.0 r n, reaches-resolve y out bs cs ρ σ u.1 r n)
    reaches-resolve (choose b x y) out bs cs ρ σ u r n =
        rw (
          reaches-resolve b out bs cs ρ σ u.0 r n,
          reaches-resolve x out bs cs ρ σ u.1 r n,
          reaches-resolve y out bs cs ρ σ u.2 r n,
        )
    reaches-resolve (while x y) out bs cs ρ σ u r n =
        rw (reaches-resolve x out bs cs ρ σ u.0 r n, reaches-resolve y out bs cs ρ σ u.1 r n)
    reaches-resolve (new id d c) out bs cs ρ σ u r n =
        rw (reaches-resolve c (remove id out) (a_block id d ∷ bs) (a_block id d ∷ cs) (with-level (length bs) n ρ)
        (with-level (length cs) n σ) u (reaches-block out id d n bs cs ρ σ r) (suc n))
    reaches-resolve (procedure id ty ps x y) out bs cs ρ σ u r n =
        reaches-resolve y (remove id out) (after id ty ps bs) (after id ty ps cs)
        (with-body (length bs) (λ xs l. resolve N ns (inside ps bs) (with_passed (length bs) xs ρ) l x) ρ)
        (with-body (length cs) (λ xs l. resolve N ns (inside ps cs) (with_passed (length cs) xs σ) l x) σ)
        u.1
        (reaches-after out id ty ps bs cs ρ σ
        (λ xs l. resolve N ns (inside ps bs) (with_passed (length bs) xs ρ) l x)
        (λ xs l. resolve N ns (inside ps cs) (with_passed (length cs) xs σ) l x)
        (λ xs ys h l. reaches-resolve x (remove_all ps out) (inside ps bs) (inside ps cs)
        (with_passed (length bs) xs ρ)
        (with_passed (length cs) ys σ) u.0 (reaches-inside out ps bs cs ρ σ xs ys h r) l)
        r)
        n

    reaches-args : (ws : Writtens) (out : List ℕ) (bs cs : List Binder) (ρ σ : Terms) → NoUses out ws →
        Reaches out bs cs ρ σ → (n : ℕ) (tys : List ℕ) → resolve_args N ns bs ρ n ws tys ≡ resolve_args N ns cs σ n ws tys
    reaches-args none out bs cs ρ σ u r n tys = refl
    reaches-args (more w ws) out bs cs ρ σ u r n [] = refl
    reaches-args (more w ws) out bs cs ρ σ u r n (ty ∷ tys) =
        rw (reaches-resolve w out bs cs ρ σ u.0 r n, reaches-args ws out bs cs ρ σ u.1 r n tys)

    reaches-resolved : (ws : Writtens) (out : List ℕ) (bs cs : List Binder) (ρ σ : Terms) → NoUses out ws →
        Reaches out bs cs ρ σ → (n j : ℕ) → resolved N ns bs ρ n ws j ≡ resolved N ns cs σ n ws j
    reaches-resolved none out bs cs ρ σ u r n j = refl
    reaches-resolved (more w ws) out bs cs ρ σ u r n zero = reaches-resolve w out bs cs ρ σ u.0 r n
    reaches-resolved (more w ws) out bs cs ρ σ u r n (suc j) = reaches-resolved ws out bs cs ρ σ u.1 r n j

  -- the scope of a procedure, and the one around it
  reaches-out : (id ty : ℕ) (ps : List Parameter) (bs : List Binder) (ρ : Terms) (p : (ℕ → ℕ → Term) → ℕ → Term) →
      Reaches (id ∷ []) (after id ty ps bs) bs (with-body (length bs) p ρ) ρ
  unfolding after NoneIs id_of
  reaches-out id ty ps bs ρ p i h =
      let c : Binder = a_procedure id ty (types_of ps) in
      rw (meaning-past ns c bs i h.0)
      (matches-agree (length bs) (length bs) (matches-itself ρ (meaning ns bs i)) (below ns bs i) (below ns bs i)
      (agree-body (length bs) p ρ) (record { levels = λ j l. refl; passeds = λ j l. refl; bodies = λ j l. refl }))

  pub left_typed : {W X : Written} → LeftOut W X → (bs : List Binder) (ρ : Terms) → typed ns bs W ≡ typed ns bs X
  unfolding typed
  left_typed (left_out {id = id} {ty = ty} {ps = ps} {y = y} u) bs ρ =
      let p : (ℕ → ℕ → Term) → ℕ → Term = λ xs n. t.diverge in
      reaches-typed y (id ∷ []) (after id ty ps bs) bs (with-body (length bs) p ρ) ρ u (reaches-out id ty ps bs ρ p)
  left_typed (in_call x) bs ρ = refl
  left_typed (in-fetch x) bs ρ = ap (λ (k : ℕ). k - 2) (left_typed x bs ρ)
  left_typed (in_left x) bs ρ = refl
  left_typed (in_right x) bs ρ = refl
  left_typed (in_target x) bs ρ = refl
  left_typed (in_source x) bs ρ = refl
  left_typed (in_first x) bs ρ = refl
  left_typed (in_second x) bs ρ = left_typed x bs ρ
  left_typed (in_if x) bs ρ = refl
  left_typed (in_then x) bs ρ = left_typed x bs ρ
  left_typed (in_else x) bs ρ = refl
  left_typed (in_test x) bs ρ = refl
  left_typed (in_loop x) bs ρ = refl
  left_typed (in-new x) bs ρ = refl
  left_typed (in_body x) bs ρ = refl
  left_typed (in_rest {id = id} {ty = ty} {ps = ps} x) bs ρ = left_typed x (after id ty ps bs) ρ

  -- THEOREM: a term stands for the same without a procedure that is not used
  mutual
    unfolding resolve resolve_args resolved

    pub left-resolve : {W X : Written} → LeftOut W X → (bs : List Binder) (ρ : Terms) (n : ℕ) →
        resolve N ns bs ρ n W ≡ resolve N ns bs ρ n X
    left-resolve (left_out {id = id} {ty = ty} {ps = ps} {x = x} {y = y} u) bs ρ n =
        let p : (ℕ → ℕ → Term) → ℕ → Term = λ xs l. resolve N ns (inside ps bs) (with_passed (length bs) xs ρ) l x in
        reaches-resolve y (id ∷ []) (after id ty ps bs) bs (with-body (length bs) p ρ) ρ u
        (reaches-out id ty ps bs ρ p) n
    left-resolve (in_call {id = id} {ws = ws} {ws' = ws'} x) bs ρ n =
        reaches-use bs bs ρ ρ n id ws ws' (matches-itself ρ (meaning ns bs id)) (λ j l. left-resolved x bs ρ l j)
        (λ tys. left-args x bs ρ n tys)
    left-resolve (in-fetch x) bs ρ n = rw (left-resolve x bs ρ n)
    left-resolve (in_left x) bs ρ n = rw (left-resolve x bs ρ n)
    left-resolve (in_right x) bs ρ n = rw (left-resolve x bs ρ n)
    left-resolve (in_target x) bs ρ n = rw (left_typed x bs ρ, left-resolve x bs ρ n)
    left-resolve (in_source x) bs ρ n = rw (left-resolve x bs ρ n)
    left-resolve (in_first x) bs ρ n = rw (left-resolve x bs ρ n)
    left-resolve (in_second x) bs ρ n = rw (left-resolve x bs ρ n)
    left-resolve (in_if x) bs ρ n = rw (left-resolve x bs ρ n)
    left-resolve (in_then x) bs ρ n = rw (left-resolve x bs ρ n)
    left-resolve (in_else x) bs ρ n = rw (left-resolve x bs ρ n)
    left-resolve (in_test x) bs ρ n = rw (left-resolve x bs ρ n)
    left-resolve (in_loop x) bs ρ n = rw (left-resolve x bs ρ n)
    left-resolve (in-new {id = id} {d = d} x) bs ρ n =
        rw (left-resolve x (a_block id d ∷ bs) (with-level (length bs) n ρ) (suc n))
    left-resolve (in_body {id = id} {ty = ty} {ps = ps} {y = y} x) bs ρ n =
        ap (λ (p : (ℕ → ℕ → Term) → ℕ → Term). resolve N ns (after id ty ps bs) (with-body (length bs) p ρ) n y)
        (fun_ext (λ xs. fun_ext (λ l. left-resolve x (inside ps bs) (with_passed (length bs) xs ρ) l)))
    left-resolve (in_rest {id = id} {ty = ty} {ps = ps} {x = b} x) bs ρ n =
        left-resolve x (after id ty ps bs)
        (with-body (length bs) (λ xs l. resolve N ns (inside ps bs) (with_passed (length bs) xs ρ) l b) ρ) n

    left-args : {ws ws' : Writtens} → LeftOuts ws ws' → (bs : List Binder) (ρ : Terms) (n : ℕ) (tys : List ℕ) →
        resolve_args N ns bs ρ n ws tys ≡ resolve_args N ns bs ρ n ws' tys
    left-args (in_this x) bs ρ n [] = refl
    left-args (in_this x) bs ρ n (ty ∷ tys) = rw (left-resolve x bs ρ n)
    left-args (in_later x) bs ρ n [] = refl
    left-args (in_later x) bs ρ n (ty ∷ tys) = rw (left-args x bs ρ n tys)

    left-resolved : {ws ws' : Writtens} → LeftOuts ws ws' → (bs : List Binder) (ρ : Terms) (n j : ℕ) →
        resolved N ns bs ρ n ws j ≡ resolved N ns bs ρ n ws' j
    left-resolved (in_this x) bs ρ n zero = left-resolve x bs ρ n
    left-resolved (in_this x) bs ρ n (suc j) = refl
    left-resolved (in_later x) bs ρ n zero = refl
    left-resolved (in_later x) bs ρ n (suc j) = left-resolved x bs ρ n j
