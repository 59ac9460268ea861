-- Plays of a term as written, in an environment of plays. Document 001, section 7, definitions 31 and 32: a let binds
-- an id to the plays of its term, and an id plays what the environment says; every other clause is that of the let-free
-- language (language/specs/Play). Document 02 [1]: "the argument is played anew at every use of the parameter, in the
-- scope of the caller".
use Rattle.std.specs.Prelude.{◌≡◌, ◌⊎◌, List, [], ◌∷◌, ◌++◌, ℕ, zero, suc, ◌-◌, length, Some}
use Rattle.language.specs.Number.{code, from_byte}
use Rattle.language.specs.Ty.{Question, run, ask, read, write, Answer, done, ok, value, Answers}
use Rattle.language.specs.Move.{question, answer, at, private, move, Word}
use Rattle.language.specs.Play.{Val, Cat, Star, kept, hide, Stable, VarPair, AsOften, Use, whole}
use Rattle.language.specs.Term.{Operation, apply}
use Rattle.language.specs.Typing.{operands}
use Rattle.language.specs.declared.Numbers.{Numbers}
use Rattle.sheet_parts.specs.Rule.{values}
use Rattle.sheet_written.specs.Environment.{beyond}
use Rattle.sheet_written.specs.Written.{Written, skip, diverge, truth, number, call, fetch, operate, assign}
use Rattle.sheet_written.specs.Written.{sequence, while, choose, new, procedure, Writtens, none, more, Name, Sheet}
use Rattle.sheet_written.specs.Meaning.{Binder, a_block, meaning, inside, after, ty_of, typed, by_meaning, type_of}

-- words between a question and an answer
abbrev pub Language : Type 1
Language = Question → Answer → Word → Type 0

-- What the binders play, by their numbers; the level of a place is the number of blocks open there.
pub record Playing : Type 1 where
  -- a private variable: the level of its block
  pub level : ℕ → ℕ
  -- a parameter, at a level
  pub passed : ℕ → ℕ → Language
  -- a procedure, for arguments that play as given, at a level
  pub body : ℕ → (ℕ → ℕ → Language) → ℕ → Language

unfoldable pub no_plays : Playing
no_plays = record { level = λ k. 0; passed = λ k n q a u. ⊥; body = λ k xs n q a u. ⊥ }

unfoldable pub with-level : ℕ → ℕ → Playing → Playing
with-level k n π = record { level = beyond k π.level (λ j. n); passed = π.passed; body = π.body }

unfoldable pub with-body : ℕ → ((ℕ → ℕ → Language) → ℕ → Language) → Playing → Playing
with-body k p π = record { level = π.level; passed = π.passed; body = beyond k π.body (λ j. p) }

unfoldable pub with_passed : ℕ → (ℕ → ℕ → Language) → Playing → Playing
with_passed k xs π = record { level = π.level; passed = beyond k π.passed xs; body = π.body }

-- the plays at level n, between the question q and the answer a
unfoldable mutual
  pub PlaysIn : Numbers → List Name → List Binder → Playing → ℕ → Written → Question → Answer → Word → Type 0
  PlaysIn N ns bs π n skip q a u = (a ≡ done) × (u ≡ [])
  PlaysIn N ns bs π n (diverge ty) q a u = ⊥
  PlaysIn N ns bs π n (truth b) q a u = (a ≡ value b) × (u ≡ [])
  PlaysIn N ns bs π n (number b) q a u = (a ≡ value (code N (from_byte b))) × (u ≡ [])
  PlaysIn N ns bs π n (call id ws) q a u =
      by_meaning (meaning ns bs id) ⊥
      (λ k. VarPair q a × (u ≡ move (private (n - suc (π.level k))) (question q)
      ∷ move (private (n - suc (π.level k))) (answer a) ∷ []))
      (λ k. π.passed k n q a u)
      (λ k. π.body k (λ j l p b x. PlaysPassed N ns bs π l ws j p b x) n q a u)
      (λ often ty tys. Answers (ty_of N ty) q a
      × (v : Word) × AsOften often (Use id (λ j p b x. PlaysArgs N ns bs π n ws tys j p b x)) v
      × (u ≡ move (at id 0) (question q) ∷ (v ++ (move (at id 0) (answer a) ∷ []))))
  PlaysIn N ns bs π n (fetch v) q a u = PlaysIn N ns bs π n v read a u
  PlaysIn N ns bs π n (operate op l r) q a u =
      let o : Operation = record { over = N; operator = op } in
      (x : Val (operands o)) × (y : Val (operands o)) × (z : ℕ) × (apply o x.0 y.0 ≡ Some z) × (a ≡ value z)
      × Cat (PlaysIn N ns bs π n l ask (value x.0)) (PlaysIn N ns bs π n r ask (value y.0)) u
  PlaysIn N ns bs π n (assign v e) q a u =
      (a ≡ done) × (x : Val (values N (typed ns bs v)))
      × Cat (PlaysIn N ns bs π n e ask (value x.0)) (PlaysIn N ns bs π n v (write x.0) ok) u
  PlaysIn N ns bs π n (sequence c m) q a u = Cat (PlaysIn N ns bs π n c run done) (PlaysIn N ns bs π n m q a) u
  PlaysIn N ns bs π n (choose b x y) q a u =
      Cat (PlaysIn N ns bs π n b ask (value 1)) (PlaysIn N ns bs π n x q a) u
      ⊎ Cat (PlaysIn N ns bs π n b ask (value 0)) (PlaysIn N ns bs π n y q a) u
  PlaysIn N ns bs π n (while b c) q a u =
      (a ≡ done) × Cat (Star (Cat (PlaysIn N ns bs π n b ask (value 1)) (PlaysIn N ns bs π n c run done)))
      (PlaysIn N ns bs π n b ask (value 0)) u
  PlaysIn N ns bs π n (new id d c) q a u =
      (v : Word) × PlaysIn N ns (a_block id d ∷ bs) (with-level (length bs) n π) (suc n) c q a v
      × Stable (values N d) 0 (kept v) × (u ≡ hide v)
  PlaysIn N ns bs π n (procedure id ty ps body rest) q a u =
      PlaysIn N ns (after id ty ps bs)
      (with-body (length bs)
      (λ xs l p b x. PlaysIn N ns (inside ps bs) (with_passed (length bs) xs π) l body p b x) π)
      n rest q a u

  -- the plays of argument j of a declared name, counted from 0, of the given types
  pub PlaysArgs : Numbers → List Name → List Binder → Playing → ℕ → Writtens → List ℕ → ℕ → Question → Answer → Word →
      Type 0
  PlaysArgs N ns bs π n none tys j q a u = ⊥
  PlaysArgs N ns bs π n (more w ws) [] j q a u = ⊥
  PlaysArgs N ns bs π n (more w ws) (ty ∷ tys) zero q a u = Answers (ty_of N ty) q a × PlaysIn N ns bs π n w q a u
  PlaysArgs N ns bs π n (more w ws) (ty ∷ tys) (suc j) q a u = PlaysArgs N ns bs π n ws tys j q a u

  -- the plays of argument j of a procedure
  pub PlaysPassed : Numbers → List Name → List Binder → Playing → ℕ → Writtens → ℕ → Question → Answer → Word → Type 0
  PlaysPassed N ns bs π n none j q a u = ⊥
  PlaysPassed N ns bs π n (more w ws) zero q a u = PlaysIn N ns bs π n w q a u
  PlaysPassed N ns bs π n (more w ws) (suc j) q a u = PlaysPassed N ns bs π n ws j q a u

-- the complete plays of a sheet, in the environment in which only the declared names have plays
unfoldable pub CompleteIn : Sheet → Word → Type 0
CompleteIn S u = (q : Question) × (a : Answer) × (w : Word) × Answers (ty_of S.numbers (type_of S)) q a
    × PlaysIn S.numbers S.names [] no_plays 0 S.term q a w
    × (u ≡ move whole (question q) ∷ (w ++ (move whole (answer a) ∷ [])))
