-- Document 001, section 7, lemma 34 (reduction): a term as written, played in an environment of plays, has the plays of
-- the let-free term that it stands for.
use Prim.Native.Nat.{ℕ, zero, suc, ◌-◌}
use mathlib.Core.Path.{◌≡◌, refl}
use mathlib.Core.Logic.{◌↔◌}
use mathlib.Core.List.{List, [], ◌∷◌, ◌++◌}
use lib.ListN.{length}
use Rattle.language.specs.Ty.{Question, run, ask, read, write, Answer, done, ok, value, Answers}
use Rattle.language.specs.Move as mv
use Rattle.language.specs.Move.{question, answer, at, move, Word}
use Rattle.language.specs.Play.{Plays, PlaysArg, Complete, VarPair, AsOften, Use, Stable, kept, hide}
use Rattle.language.specs.Term as t
use Rattle.language.specs.Term.{Term}
use Rattle.language.specs.declared.Numbers.{Numbers}
use Rattle.sheet_parts.specs.Rule.{values}
use Rattle.sheet_written.specs.Written.{Written, skip, diverge, truth, number, call, fetch, operate, assign}
use Rattle.sheet_written.specs.Written.{sequence, while, choose, new, procedure, Writtens, none, more, Name, Sheet}
use Rattle.sheet_written.specs.Meaning.{Binder, a_block, Meaning, private, argument, routine, named, retired, free}
use Rattle.sheet_written.specs.Meaning.{meaning, inside, after, ty_of, by_meaning, Terms, no_terms, resolve}
use Rattle.sheet_written.specs.Meaning.{resolve_args, resolved, term_of, type_of}
use Rattle.sheet_written.specs.Meaning as m
use Rattle.sheet_written.specs.Playing.{Language, Playing, no_plays, with-level, with-body, with_passed, PlaysIn}
use Rattle.sheet_written.specs.Playing.{PlaysArgs, PlaysPassed, CompleteIn}
use Rattle.sheet_written.proofs.Numbering.{beyond-both}
use Rattle.sheet_written.proofs.Languages.{cat-same, star-same, uses-same, use-same, sum_same, new-same}

-- a language is that of a term
abbrev pub Of : Language → Term → Type 0
Of L M = (q : Question) (a : Answer) (u : Word) → L q a u ↔ Plays M q a u

abbrev pub OfArgs : (ℕ → ℕ → Language) → (ℕ → ℕ → Term) → Type 0
OfArgs Ls xs = (j n : ℕ) → Of (Ls j n) (xs j n)

-- binders play what stands for them plays
pub record Plays-as (π : Playing) (ρ : Terms) : Type 1 where
  pub level : (k : ℕ) → π.level k ≡ ρ.level k
  pub passed : OfArgs π.passed ρ.passed
  pub body : (k : ℕ) (Ls : ℕ → ℕ → Language) (xs : ℕ → ℕ → Term) → OfArgs Ls xs → (n : ℕ) →
      Of (π.body k Ls n) (ρ.body k xs n)

nothing-plays : Plays-as no_plays no_terms
unfolding no_plays no_terms Plays
nothing-plays = record {
  level = λ k. refl;
  passed = λ j n q a u. (λ x. x, λ x. x);
  body = λ k Ls xs h n q a u. (λ x. x, λ x. x);
}

pub as-level : (k n : ℕ) (π : Playing) (ρ : Terms) → Plays-as π ρ → Plays-as (with-level k n π) (m.with-level k n ρ)
unfolding with-level m.with-level
as-level k n π ρ h = record {
  level = beyond-both (λ (x y : ℕ). x ≡ y) k π.level (λ j. n) ρ.level (λ j. n) h.level (λ j. refl);
  passed = h.passed;
  body = h.body;
}

pub as_passed : (k : ℕ) (π : Playing) (ρ : Terms) (Ls : ℕ → ℕ → Language) (xs : ℕ → ℕ → Term) → Plays-as π ρ →
    OfArgs Ls xs → Plays-as (with_passed k Ls π) (m.with_passed k xs ρ)
unfolding with_passed m.with_passed
as_passed k π ρ Ls xs h g = record {
  level = h.level;
  passed = beyond-both (λ (L : ℕ → Language) (x : ℕ → Term). (n : ℕ) → Of (L n) (x n)) k π.passed Ls ρ.passed xs
      h.passed g;
  body = h.body;
}

pub as-body : (k : ℕ) (π : Playing) (ρ : Terms) (P : (ℕ → ℕ → Language) → ℕ → Language)
    (p : (ℕ → ℕ → Term) → ℕ → Term) →
    Plays-as π ρ →
    ((Ls : ℕ → ℕ → Language) (xs : ℕ → ℕ → Term) → OfArgs Ls xs → (n : ℕ) → Of (P Ls n) (p xs n)) →
    Plays-as (with-body k P π) (m.with-body k p ρ)
unfolding with-body m.with-body
as-body k π ρ P p h g = record {
  level = h.level;
  passed = h.passed;
  body = beyond-both
      (λ (F : (ℕ → ℕ → Language) → ℕ → Language) (f : (ℕ → ℕ → Term) → ℕ → Term).
      (Ls : ℕ → ℕ → Language) (xs : ℕ → ℕ → Term) → OfArgs Ls xs → (n : ℕ) → Of (F Ls n) (f xs n))
      k π.body (λ j. P) ρ.body (λ j. p) h.body (λ j. g);
}

module _ (N : Numbers) (ns : List Name) where
  -- a use, by what its id means
  reduce-use : (bs : List Binder) (π : Playing) (ρ : Terms) (n id : ℕ) (ws : Writtens) (s : Meaning) → Plays-as π ρ →
      OfArgs (λ j l p b x. PlaysPassed N ns bs π l ws j p b x) (λ j l. resolved N ns bs ρ l ws j) →
      ((tys : List ℕ) (j : ℕ) (p : Question) (b : Answer) (x : Word) →
      PlaysArgs N ns bs π n ws tys j p b x ↔ PlaysArg (resolve_args N ns bs ρ n ws tys) j p b x) →
      (q : Question) (a : Answer) (u : Word) →
      by_meaning s ⊥
      (λ k. VarPair q a × (u ≡ move (mv.private (n - suc (π.level k))) (question q)
      ∷ move (mv.private (n - suc (π.level k))) (answer a) ∷ []))
      (λ k. π.passed k n q a u)
      (λ k. π.body k (λ j l p b x. PlaysPassed N ns bs π l ws j p b x) n q a u)
      (λ often ty tys. Answers (ty_of N ty) q a
      × (v : Word) × AsOften often (Use id (λ j p b x. PlaysArgs N ns bs π n ws tys j p b x)) v
      × (u ≡ move (at id 0) (question q) ∷ (v ++ (move (at id 0) (answer a) ∷ []))))
      ↔ Plays (by_meaning s t.diverge
      (λ k. t.private (n - suc (ρ.level k)))
      (λ k. ρ.passed k n)
      (λ k. ρ.body k (λ j l. resolved N ns bs ρ l ws j) n)
      (λ often ty tys. t.name id often (ty_of N ty) (resolve_args N ns bs ρ n ws tys))) q a u
  unfolding by_meaning Plays
  reduce-use bs π ρ n id ws (private k d) h g l q a u = rw (h.level k) (λ x. x, λ x. x)
  reduce-use bs π ρ n id ws (argument k ty) h g l q a u = h.passed k n q a u
  reduce-use bs π ρ n id ws (routine k ty tys) h g l q a u =
      h.body k (λ j i p b x. PlaysPassed N ns bs π i ws j p b x) (λ j i. resolved N ns bs ρ i ws j) g n q a u
  reduce-use bs π ρ n id ws (named often ty tys) h g l q a u = (
    λ (e, v, s, f). (e, v, (uses-same often (use-same id (l tys)) v).0 s, f),
    λ (e, v, s, f). (e, v, (uses-same often (use-same id (l tys)) v).1 s, f),
  )
  reduce-use bs π ρ n id ws retired h g l q a u = (λ x. x, λ x. x)
  reduce-use bs π ρ n id ws free h g l q a u = (λ x. x, λ x. x)

  -- THEOREM: plays in an environment are the plays of the resolved term
  mutual
    unfolding PlaysIn PlaysArgs PlaysPassed Plays PlaysArg resolve resolve_args resolved

    pub reduce : (W : Written) (bs : List Binder) (π : Playing) (ρ : Terms) (n : ℕ) → Plays-as π ρ →
        (q : Question) (a : Answer) (u : Word) → PlaysIn N ns bs π n W q a u ↔ Plays (resolve N ns bs ρ n W) q a u
    reduce skip bs π ρ n h q a u = (λ x. x, λ x. x)
    reduce (diverge ty) bs π ρ n h q a u = (λ x. x, λ x. x)
    reduce (truth b) bs π ρ n h q a u = (λ x. x, λ x. x)
    reduce (number b) bs π ρ n h q a u = (λ x. x, λ x. x)
    reduce (call id ws) bs π ρ n h q a u =
        reduce-use bs π ρ n id ws (meaning ns bs id) h (λ j l p b x. reduce-passed ws bs π ρ l j h p b x)
        (λ tys j p b x. reduce-args ws bs π ρ n tys j h p b x) q a u
    reduce (fetch v) bs π ρ n h q a u = reduce v bs π ρ n h read a u
    reduce (operate op l r) bs π ρ n h q a u = (
      λ (x, y, z, e, f, c). (
        x,
        y,
        z,
        e,
        f,
        (cat-same (λ w. reduce l bs π ρ n h ask (value x.0) w)
            (λ w. reduce r bs π ρ n h ask (value y.0) w) u).0 c,
      ),
      λ (x, y, z, e, f, c). (
        x,
        y,
        z,
        e,
        f,
        (cat-same (λ w. reduce l bs π ρ n h ask (value x.0) w)
            (λ w. reduce r bs π ρ n h ask (value y.0) w) u).1 c,
      ),
    )
    reduce (assign v e) bs π ρ n h q a u = (
      λ (f, x, c). (
        f,
        x,
        (cat-same (λ w. reduce e bs π ρ n h ask (value x.0) w)
            (λ w. reduce v bs π ρ n h (write x.0) ok w) u).0 c,
      ),
      λ (f, x, c). (
        f,
        x,
        (cat-same (λ w. reduce e bs π ρ n h ask (value x.0) w)
            (λ w. reduce v bs π ρ n h (write x.0) ok w) u).1 c,
      ),
    )
    reduce (sequence c x) bs π ρ n h q a u =
        cat-same (λ w. reduce c bs π ρ n h run done w) (λ w. reduce x bs π ρ n h q a w) u
    reduce (choose b x y) bs π ρ n h q a u =
        sum_same
        (cat-same (λ w. reduce b bs π ρ n h ask (value 1) w) (λ w. reduce x bs π ρ n h q a w) u)
        (cat-same (λ w. reduce b bs π ρ n h ask (value 0) w) (λ w. reduce y bs π ρ n h q a w) u)
    reduce (while b c) bs π ρ n h q a u =
        let both = cat-same
        (star-same (cat-same (λ w. reduce b bs π ρ n h ask (value 1) w) (λ w. reduce c bs π ρ n h run done w)))
        (λ w. reduce b bs π ρ n h ask (value 0) w) u in
        (λ (e, x). (e, both.0 x), λ (e, x). (e, both.1 x))
    reduce (new id d c) bs π ρ n h q a u =
        new-same (λ v. reduce c (a_block id d ∷ bs) (with-level (length bs) n π) (m.with-level (length bs) n ρ) (suc n)
        (as-level (length bs) n π ρ h) q a v) (λ v. Stable (values N d) 0 (kept v)) (λ v. u ≡ hide v)
    reduce (procedure id ty ps body rest) bs π ρ n h q a u =
        reduce rest (after id ty ps bs)
        (with-body (length bs)
        (λ xs l p b x. PlaysIn N ns (inside ps bs) (with_passed (length bs) xs π) l body p b x) π)
        (m.with-body (length bs) (λ xs l. resolve N ns (inside ps bs) (m.with_passed (length bs) xs ρ) l body) ρ) n
        (as-body (length bs) π ρ
        (λ xs l p b x. PlaysIn N ns (inside ps bs) (with_passed (length bs) xs π) l body p b x)
        (λ xs l. resolve N ns (inside ps bs) (m.with_passed (length bs) xs ρ) l body) h
        (λ Ls xs g l p b x. reduce body (inside ps bs) (with_passed (length bs) Ls π)
        (m.with_passed (length bs) xs ρ) l
        (as_passed (length bs) π ρ Ls xs h g) p b x))
        q a u

    reduce-args : (ws : Writtens) (bs : List Binder) (π : Playing) (ρ : Terms) (n : ℕ) (tys : List ℕ) (j : ℕ) →
        Plays-as π ρ → (q : Question) (a : Answer) (u : Word) →
        PlaysArgs N ns bs π n ws tys j q a u ↔ PlaysArg (resolve_args N ns bs ρ n ws tys) j q a u
    reduce-args none bs π ρ n tys j h q a u = (λ x. x, λ x. x)
    reduce-args (more w ws) bs π ρ n [] j h q a u = (λ x. x, λ x. x)
    reduce-args (more w ws) bs π ρ n (ty ∷ tys) zero h q a u =
        (λ (e, x). (e, (reduce w bs π ρ n h q a u).0 x), λ (e, x). (e, (reduce w bs π ρ n h q a u).1 x))
    reduce-args (more w ws) bs π ρ n (ty ∷ tys) (suc j) h q a u = reduce-args ws bs π ρ n tys j h q a u

    reduce-passed : (ws : Writtens) (bs : List Binder) (π : Playing) (ρ : Terms) (n j : ℕ) → Plays-as π ρ →
        (q : Question) (a : Answer) (u : Word) →
        PlaysPassed N ns bs π n ws j q a u ↔ Plays (resolved N ns bs ρ n ws j) q a u
    reduce-passed none bs π ρ n j h q a u = (λ x. x, λ x. x)
    reduce-passed (more w ws) bs π ρ n zero h q a u = reduce w bs π ρ n h q a u
    reduce-passed (more w ws) bs π ρ n (suc j) h q a u = reduce-passed ws bs π ρ n j h q a u

-- THEOREM: section 7's complete plays of a sheet are the complete plays of its term
pub complete-reduce : (S : Sheet) (u : Word) → CompleteIn S u ↔ Complete (ty_of S.numbers (type_of S)) (term_of S) u
unfolding CompleteIn term_of
complete-reduce S u =
    let e = reduce S.numbers S.names S.term [] no_plays no_terms 0 nothing-plays in
    (λ (q, a, w, f, p, g). (q, a, w, f, (e q a w).0 p, g), λ (q, a, w, f, p, g). (q, a, w, f, (e q a w).1 p, g))
