-- The plays of a term. Document 001, definitions 12 to 18 and 22. On assign, fetch and new, document 01 ("Plays")
-- decides and not definitions 24 to 26. SHEETS 4.4 and 4.5.
use Rattle.std.specs.Prelude.{◌≡◌, ◌⊎◌, List, [], ◌∷◌, ◌++◌, ℕ, zero, suc, ◌<◌, Some}
use Rattle.language.specs.Ty.{Ty, Question, run, ask, read, write, Answer, done, ok, value, Answers}
use Rattle.language.specs.Move.{Event, question, answer, Place, at, private, move, Word}
use Rattle.language.specs.Term as t
use Rattle.language.specs.Term.{Term, skip, diverge, const, name, fetch, operate, assign, seq, while, cond, new}
use Rattle.language.specs.Term.{Often, freely, once, Args, no_args, arg, apply}

-- a value of data of m values
abbrev pub Val : ℕ → Type 0
Val m = (x : ℕ) × (x < m)

-- a word of L, then one of R
abbrev pub Cat : (Word → Type 0) → (Word → Type 0) → Word → Type 0
Cat L R u = (l : Word) × (r : Word) × (u ≡ l ++ r) × L l × R r

-- any number of words of L, one after the other
pub data Star (L : Word → Type 0) : Word → Type 0 where
  end : Star L []
  more : {u v : Word} → L u → Star L v → Star L (u ++ v)

-- at most one word of L
pub data AtMostOne (L : Word → Type 0) : Word → Type 0 where
  none : AtMostOne L []
  one : {u : Word} → L u → AtMostOne L u

-- as many words of L, the uses of a name's arguments, as one call of the name may have (document 02, [5])
unfoldable pub AsOften : Often → (Word → Type 0) → Word → Type 0
AsOften freely L u = Star L u
AsOften once L u = AtMostOne L u

-- what happens at the innermost private variable
unfoldable pub kept : Word → List Event
kept [] = []
kept (move (at i j) e ∷ u) = kept u
kept (move (private zero) e ∷ u) = e ∷ kept u
kept (move (private (suc i)) e ∷ u) = kept u

-- a word without the moves at the innermost private variable: "its moves are then hidden"
unfoldable pub hide : Word → Word
hide [] = []
hide (move (at i j) e ∷ u) = move (at i j) e ∷ hide u
hide (move (private zero) e ∷ u) = hide u
hide (move (private (suc i)) e ∷ u) = move (private i) e ∷ hide u

-- a variable that holds v: "a read gives the last value written"
pub data Stable (m : ℕ) : ℕ → List Event → Type 0 where
  quiet : {v : ℕ} → Stable m v []
  reads : {v : ℕ} {es : List Event} → Stable m v es → Stable m v (question read ∷ answer (value v) ∷ es)
  writes : {v x : ℕ} {es : List Event} → x < m → Stable m x es → Stable m v (question (write x) ∷ answer ok ∷ es)

-- a question to a private variable and an answer of the right form
pub data VarPair : Question → Answer → Type 0 where
  reading : {v : ℕ} → VarPair read (value v)
  writing : {v : ℕ} → VarPair (write v) ok

-- the name i uses an argument once: its question, a play of the argument, its answer (definitions 17 and 22)
abbrev pub Use : ℕ → (ℕ → Question → Answer → Word → Type 0) → Word → Type 0
Use i L u = (j : ℕ) × (q : Question) × (a : Answer) × (v : Word) × L j q a v
    × (u ≡ move (at i (suc j)) (question q) ∷ (v ++ (move (at i (suc j)) (answer a) ∷ [])))

-- the plays of a term between the question q and the answer a
unfoldable mutual
  pub Plays : Term → Question → Answer → Word → Type 0
  -- constants (definition 13)
  Plays (const v) q a u = (a ≡ value v) × (u ≡ [])
  -- operators (definition 14)
  Plays (operate m o L R) q a u =
      (x : Val m) × (y : Val m) × (z : ℕ) × (apply o x.0 y.0 ≡ Some z) × (a ≡ value z)
      × Cat (Plays L ask (value x.0)) (Plays R ask (value y.0)) u
  -- commands (definition 15)
  Plays skip q a u = (a ≡ done) × (u ≡ [])
  Plays diverge q a u = ⊥
  Plays (seq C M) q a u = Cat (Plays C run done) (Plays M q a) u
  Plays (while B C) q a u =
      (a ≡ done) × Cat (Star (Cat (Plays B ask (value 1)) (Plays C run done))) (Plays B ask (value 0)) u
  Plays (cond B M N) q a u =
      Cat (Plays B ask (value 1)) (Plays M q a) u ⊎ Cat (Plays B ask (value 0)) (Plays N q a) u
  -- identifiers (definition 18); between the question to a name and its answer, plays of its arguments (definition 22)
  Plays (name i o T rest) q a u =
      Answers T q a × (v : Word) × AsOften o (Use i (λ j p b x. PlaysArg rest j p b x)) v
      × (u ≡ move (at i 0) (question q) ∷ (v ++ (move (at i 0) (answer a) ∷ [])))
  Plays (t.private i) q a u =
      VarPair q a × (u ≡ move (private i) (question q) ∷ move (private i) (answer a) ∷ [])
  -- variables (definitions 24 to 26, as document 01 decides)
  Plays (fetch X) q a u = Plays X read a u
  Plays (assign m X E) q a u =
      (a ≡ done) × (x : Val m) × Cat (Plays E ask (value x.0)) (Plays X (write x.0) ok) u
  Plays (new m h C) q a u = (v : Word) × Plays C q a v × Stable m 0 (kept v) × (u ≡ hide v)

  -- the plays of argument j, counted from 0
  pub PlaysArg : Args → ℕ → Question → Answer → Word → Type 0
  PlaysArg no_args j q a u = ⊥
  PlaysArg (arg T M rest) zero q a u = Answers T q a × Plays M q a u
  PlaysArg (arg T M rest) (suc j) q a u = PlaysArg rest j q a u

-- the place of the whole term
abbrev pub whole : Place
whole = at 255 0

-- a complete play of a term of type T: "from the question at the place of the whole term to the answer there"
abbrev pub Complete : Ty → Term → Word → Type 0
Complete T M u = (q : Question) × (a : Answer) × (w : Word) × Answers T q a × Plays M q a w
    × (u ≡ move whole (question q) ∷ (w ++ (move whole (answer a) ∷ [])))
