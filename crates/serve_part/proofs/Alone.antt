-- THEOREM: a term in order plays in its blocks what it plays as a sheet of its own, where the private variables of
-- these blocks are declared. Document 02 [7].
use Prim.Native.Nat.{ℕ, zero, suc, ◌+◌, ◌-◌, ◌<◌}
use native.Mathlib.Omega.{arith}
use mathlib.Core.Path.{◌≡◌, refl, sym, ap, ◌∙◌, subst}
use mathlib.Core.List.{List, [], ◌∷◌, ◌++◌}
use lib.ListN.{length}
use Rattle.language.specs.Ty.{Question, run, ask, read, write, Answer, done, ok, value, Answers}
use Rattle.language.specs.Move as mv
use Rattle.language.specs.Move.{question, answer, at, move, Word}
use Rattle.language.specs.Play.{Plays, PlaysArg, VarPair, AsOften, Use}
use Rattle.language.specs.Term as t
use Rattle.language.specs.Term.{Often}
use Rattle.language.specs.declared.Numbers.{Numbers}
use Rattle.sheet_parts.specs.Rule.{values}
use Rattle.sheet_written.specs.Written.{Written, skip, diverge, truth, number, call, fetch, operate, assign, sequence}
use Rattle.sheet_written.specs.Written.{while, choose, new, procedure, Writtens, none, more, Name}
use Rattle.sheet_written.specs.Meaning.{Binder, a_block, Meaning, private, meaning}
use Rattle.sheet_written.specs.Meaning.{inside, after, ty_of, use_type, typed, by_meaning, Terms, with-level, with-body}
use Rattle.sheet_written.specs.Meaning.{with_passed, resolve, resolve_args, resolved}
use Rattle.sheet_written.specs.Fine.{FineUse, Fine, FineArgs}
use Rattle.sheet_written.proofs.WellTyped.{typed-below}
use Rattle.serve_part.proofs.Matching.{Match, Shows, next, nothing, inner, outer, name, cat-match, star-match}
use Rattle.serve_part.proofs.Matching.{use-match, sum-match, empty-match, pair-match, none-match, call-match}
use Rattle.serve_part.proofs.Matching.{hidden-match, uses-match, uses-nothing, no_uses}
use Rattle.serve_part.proofs.Answering.{answers-as, to-command, to_truth, to_fetch, to-operand, to-source}
use Rattle.serve_part.proofs.Answering.{to-target, to-private}
use Rattle.serve_part.proofs.Twins.{Agrees, Level, Passed, Twin, a-variable, an-argument, a-routine, an-outer}
use Rattle.serve_part.proofs.Twins.{a_name, a-retired, no-twin, Twins, twins-type, twins-block, twins-after}
use Rattle.serve_part.proofs.Twins.{twins-passed, twins-deeper, same_typed}

-- no type of an argument, no argument
no-argument : (N : Numbers) (ns : List Name) (bs : List Binder) (ρ : Terms) (n : ℕ) (ws : Writtens) (j : ℕ)
    (q : Question) (a : Answer) (u : Word) → PlaysArg (resolve_args N ns bs ρ n ws []) j q a u → ⊥
unfolding resolve_args PlaysArg
no-argument N ns bs ρ n none j q a u x = x
no-argument N ns bs ρ n (more w ws) j q a u x = x

module _ (N : Numbers) (ns ns' : List Name) (around : List Binder) where
  -- a use of a private variable whose block encloses the part
  outer-match : (n i id k d : ℕ) (o : Often) (ws : Writtens) (cs : List Binder) (σ : Terms) (q : Question)
      (a : Answer) → meaning ns around id ≡ private k d → k < length around → 0 < d → i ≡ n + length around →
      Answers (ty_of N (2 + d)) q a →
      Match ns around n
      (λ u. VarPair q a
      × (u ≡ move (mv.private (i - suc k)) (question q) ∷ move (mv.private (i - suc k)) (answer a) ∷ []))
      (λ u. Answers (ty_of N (2 + d)) q a
      × (v : Word) × AsOften o (Use id (λ j p b x. PlaysArg (resolve_args N ns' cs σ n ws []) j p b x)) v
      × (u ≡ move (at id 0) (question q) ∷ (v ++ (move (at id 0) (answer a) ∷ []))))
  outer-match n i id k d o ws cs σ q a h b p e x =
      let place : mv.Place = mv.private (i - suc k) in
      let mine : Word = move place (question q) ∷ move place (answer a) ∷ [] in
      let own : Word = move (at id 0) (question q) ∷ move (at id 0) (answer a) ∷ [] in
      let s : Shows ns around n mine own =
      next (outer {i = i - suc k} h b (omega arith)) (next (outer {i = i - suc k} h b (omega arith)) nothing) in (
        λ u (y, f). (own, subst (λ z. Shows ns around n z own) (sym f) s, (x, [], no_uses o _, refl)),
        λ u (y, v, r, f).
            let z : v ≡ [] = uses-nothing o (λ w (j, q', a', v', l, g). no-argument N ns' cs σ n ws j q' a' v' l) r in (
              mine,
              subst (λ w. Shows ns around n mine w) (sym (f ∙ ap (λ (w : Word). move (at id 0) (question q) ∷ (w ++
                  (move (at id 0) (answer a) ∷ []))) z)) s,
              (to-private N d p x, refl),
            ),
      )

  -- a use, by what its id means
  agrees-use : (n i id : ℕ) (ρ σ : Terms) (bs cs : List Binder) (ws : Writtens) {m m' : Meaning} →
      Level N ns ns' around i n → Twin N ns ns' around id n ρ σ m m' →
      FineUse m (ws ≡ none) (λ tys. FineArgs N ns bs ws tys) →
      ((tys : List ℕ) → FineArgs N ns bs ws tys → (j : ℕ) (q : Question) (a : Answer) →
      Match ns around n (PlaysArg (resolve_args N ns bs ρ i ws tys) j q a)
      (PlaysArg (resolve_args N ns' cs σ n ws tys) j q a)) →
      ((tys : List ℕ) → FineArgs N ns bs ws tys →
      Passed N ns ns' around n tys (λ j l. resolved N ns bs ρ l ws j) (λ j l. resolved N ns' cs σ l ws j)) →
      Agrees N ns ns' around n (ty_of N (use_type m))
      (by_meaning m t.diverge
      (λ k. t.private (i - suc (ρ.level k)))
      (λ k. ρ.passed k i)
      (λ k. ρ.body k (λ j l. resolved N ns bs ρ l ws j) i)
      (λ often ty tys. t.name id often (ty_of N ty) (resolve_args N ns bs ρ i ws tys)))
      (by_meaning m' t.diverge
      (λ k. t.private (n - suc (σ.level k)))
      (λ k. σ.passed k n)
      (λ k. σ.body k (λ j l. resolved N ns' cs σ l ws j) n)
      (λ often ty tys. t.name id often (ty_of N ty) (resolve_args N ns' cs σ n ws tys)))
  unfolding FineUse by_meaning use_type Plays
  agrees-use n i id ρ σ bs cs ws h (a-variable {k = k} {l = l} e b) f g p q a x =
      let z : i - suc (ρ.level k) ≡ n - suc (σ.level l) = omega arith in
      rw z (pair-match ns around (question q) (answer a) (inner (omega arith)) (λ y. y) (λ y. y))
  agrees-use n i id ρ σ bs cs ws h (an-argument f') f g p q a x = f' i n h (omega arith) q a x
  agrees-use n i id ρ σ bs cs ws h (a-routine {tys = tys} f') f g p q a x =
      f' i n (λ j l. resolved N ns bs ρ l ws j) (λ j l. resolved N ns' cs σ l ws j) h (omega arith) (p tys f) q a x
  agrees-use n i id ρ σ bs cs ws h (an-outer {k = k} {d = d} {o = o} e b l z) f g p q a x =
      rw z (outer-match n i id k d o ws cs σ q a e b l h x)
  agrees-use n i id ρ σ bs cs ws h (a_name {o = o} {ty = ty} {tys = tys} e) f g p q a x =
      call-match ns around n id o ty tys (question q) (answer a) e
      (uses-match ns around n o (use-match ns around n id o ty tys e (g tys f)))
  agrees-use n i id ρ σ bs cs ws h a-retired f g p q a x = absurd f
  agrees-use n i id ρ σ bs cs ws h no-twin f g p q a x = absurd f

  mutual
    unfolding Fine FineArgs typed Plays PlaysArg resolve resolve_args resolved Passed

    pub agrees : (W : Written) (n i : ℕ) (ρ σ : Terms) (bs cs : List Binder) → Level N ns ns' around i n →
        Twins N ns ns' around n ρ σ bs cs → Fine N ns bs W →
        Agrees N ns ns' around n (ty_of N (typed ns bs W)) (resolve N ns bs ρ i W) (resolve N ns' cs σ n W)
    agrees skip n i ρ σ bs cs h t f q a x = empty-match ns around n (a ≡ done)
    agrees (diverge ty) n i ρ σ bs cs h t f q a x = none-match ns around n
    agrees (truth b) n i ρ σ bs cs h t f q a x = empty-match ns around n _
    agrees (number b) n i ρ σ bs cs h t f q a x = empty-match ns around n _
    agrees (call id ws) n i ρ σ bs cs h t f q a x =
        agrees-use n i id ρ σ bs cs ws h (t.twin id) f.1
        (λ tys g j p b. agrees-args ws n i ρ σ bs cs tys j h t g p b)
        (λ tys g. agrees-passed ws n ρ σ bs cs tys t g) q a x
    agrees (fetch v) n i ρ σ bs cs h t f q a x =
        agrees v n i ρ σ bs cs h t f.0 read a
        (to_fetch N (typed ns bs v) f.1 (typed-below N ns v bs t.known f.0) x)
    agrees (operate op l r) n i ρ σ bs cs h t f q a x = (
      λ u (y, z, v, e, g, c).
          let (w, s, c') = (cat-match ns around n
          (agrees l n i ρ σ bs cs h t f.1 ask (value y.0) (to-operand N op f.2 y))
          (agrees r n i ρ σ bs cs h t f.3 ask (value z.0) (to-operand N op f.4 z))).0 u c in
          (w, s, (y, z, v, e, g, c')),
      λ u (y, z, v, e, g, c).
          let (w, s, c') = (cat-match ns around n
          (agrees l n i ρ σ bs cs h t f.1 ask (value y.0) (to-operand N op f.2 y))
          (agrees r n i ρ σ bs cs h t f.3 ask (value z.0) (to-operand N op f.4 z))).1 u c in
          (w, s, (y, z, v, e, g, c')),
    )
    agrees (assign v e) n i ρ σ bs cs h t f q a x =
        let k : typed ns bs v < 5 = typed-below N ns v bs t.known f.0 in
        rw (← same_typed ns ns' v bs cs (twins-type N ns ns' around t)) (
          λ u (d, y, c).
              let (w, s, c') = (cat-match ns around n
              (agrees e n i ρ σ bs cs h t f.2 ask (value y.0)
              (to-source N (typed ns bs v) (typed ns bs e) f.1 k f.3 y))
              (agrees v n i ρ σ bs cs h t f.0 (write y.0) ok (to-target N (typed ns bs v) f.1 y))).0 u c in
              (w, s, (d, y, c')),
          λ u (d, y, c).
              let (w, s, c') = (cat-match ns around n
              (agrees e n i ρ σ bs cs h t f.2 ask (value y.0)
              (to-source N (typed ns bs v) (typed ns bs e) f.1 k f.3 y))
              (agrees v n i ρ σ bs cs h t f.0 (write y.0) ok (to-target N (typed ns bs v) f.1 y))).1 u c in
              (w, s, (d, y, c')),
        )
    agrees (sequence c m) n i ρ σ bs cs h t f q a x =
        cat-match ns around n (agrees c n i ρ σ bs cs h t f.0 run done (to-command N f.1))
        (agrees m n i ρ σ bs cs h t f.2 q a x)
    agrees (choose b y z) n i ρ σ bs cs h t f q a x =
        sum-match ns around n
        (cat-match ns around n
        (agrees b n i ρ σ bs cs h t f.0 ask (value 1) (to_truth N f.1 (omega arith)))
        (agrees y n i ρ σ bs cs h t f.2 q a x))
        (cat-match ns around n
        (agrees b n i ρ σ bs cs h t f.0 ask (value 0) (to_truth N f.1 (omega arith)))
        (agrees z n i ρ σ bs cs h t f.3 q a (answers-as N (sym f.4) x)))
    agrees (while b c) n i ρ σ bs cs h t f q a x =
        let both = cat-match ns around n
        (star-match ns around n (cat-match ns around n
        (agrees b n i ρ σ bs cs h t f.0 ask (value 1) (to_truth N f.1 (omega arith)))
        (agrees c n i ρ σ bs cs h t f.2 run done (to-command N f.3))))
        (agrees b n i ρ σ bs cs h t f.0 ask (value 0) (to_truth N f.1 (omega arith))) in (
          λ u (e, y). let (w, s, z) = both.0 u y in (w, s, (e, z)),
          λ u (e, y). let (w, s, z) = both.1 u y in (w, s, (e, z)),
        )
    agrees (new id d c) n i ρ σ bs cs h t f q a x =
        hidden-match ns around n (values N d)
        (agrees c (suc n) (suc i) (with-level (length bs) i ρ) (with-level (length cs) n σ) (a_block id d ∷ bs)
        (a_block id d ∷ cs) (omega arith) (twins-block N ns ns' around n i id d ρ σ bs cs h f.3 t) f.4 q a
        (answers-as N (sym f.5) x))
    agrees (procedure id ty ps body rest) n i ρ σ bs cs h t f q a x =
        agrees rest n i
        (with-body (length bs) (λ xs l. resolve N ns (inside ps bs) (with_passed (length bs) xs ρ) l body) ρ)
        (with-body (length cs) (λ xs l. resolve N ns' (inside ps cs) (with_passed (length cs) xs σ) l body) σ)
        (after id ty ps bs) (after id ty ps cs) h
        (twins-after N ns ns' around n id ty ps ρ σ bs cs
        (λ xs l. resolve N ns (inside ps bs) (with_passed (length bs) xs ρ) l body)
        (λ xs l. resolve N ns' (inside ps cs) (with_passed (length cs) xs σ) l body) f.2
        (λ j k xs ys e l p q' a' y. agrees body k j (with_passed (length bs) xs ρ) (with_passed (length cs) ys σ)
        (inside ps bs) (inside ps cs) e
        (twins-passed N ns ns' around k ps ρ σ bs cs xs ys f.4 p
        (twins-deeper N ns ns' around n k ρ σ bs cs l t))
        f.5 q' a' (answers-as N (sym f.6) y))
        t)
        f.7 q a x

    agrees-args : (ws : Writtens) (n i : ℕ) (ρ σ : Terms) (bs cs : List Binder) (tys : List ℕ) (j : ℕ) →
        Level N ns ns' around i n → Twins N ns ns' around n ρ σ bs cs → FineArgs N ns bs ws tys →
        (q : Question) (a : Answer) →
        Match ns around n (PlaysArg (resolve_args N ns bs ρ i ws tys) j q a)
        (PlaysArg (resolve_args N ns' cs σ n ws tys) j q a)
    agrees-args none n i ρ σ bs cs tys j h t f q a = none-match ns around n
    agrees-args (more w ws) n i ρ σ bs cs [] j h t f q a = none-match ns around n
    agrees-args (more w ws) n i ρ σ bs cs (ty ∷ tys) zero h t f q a = (
      λ u (x, y). let (v, s, z) = (agrees w n i ρ σ bs cs h t f.0 q a (answers-as N (sym f.1) x)).0 u y in
          (v, s, (x, z)),
      λ u (x, y). let (v, s, z) = (agrees w n i ρ σ bs cs h t f.0 q a (answers-as N (sym f.1) x)).1 u y in
          (v, s, (x, z)),
    )
    agrees-args (more w ws) n i ρ σ bs cs (ty ∷ tys) (suc j) h t f q a =
        agrees-args ws n i ρ σ bs cs tys j h t f.2 q a

    agrees-passed : (ws : Writtens) (n : ℕ) (ρ σ : Terms) (bs cs : List Binder) (tys : List ℕ) →
        Twins N ns ns' around n ρ σ bs cs → FineArgs N ns bs ws tys →
        Passed N ns ns' around n tys (λ j l. resolved N ns bs ρ l ws j) (λ j l. resolved N ns' cs σ l ws j)
    agrees-passed none n ρ σ bs cs [] t f = tt
    agrees-passed none n ρ σ bs cs (ty ∷ tys) t f = absurd f
    agrees-passed (more w ws) n ρ σ bs cs [] t f = absurd f
    agrees-passed (more w ws) n ρ σ bs cs (ty ∷ tys) t f = (
      λ i j e l q a x. agrees w j i ρ σ bs cs e (twins-deeper N ns ns' around n j ρ σ bs cs l t) f.0 q a
          (answers-as N (sym f.1) x),
      agrees-passed ws n ρ σ bs cs tys t f.2,
    )
