-- What document 02, [5], says of names that ask freely (kind 1) and once (kind 3), as statements: of their weight, of
-- their plays, and of whole terms. SHEETS 4.4.5 and 7.2.
use Rattle.std.specs.Prelude.{ℕ, zero, suc, ◌+◌, ◌≡◌, ◌↔◌, List, [], ◌∷◌, ◌++◌}
use Rattle.language.specs.Ty.{Ty, Question, Answer, Answers}
use Rattle.language.specs.Move.{question, answer, at, private, move, Word}
use Rattle.language.specs.Term as t
use Rattle.language.specs.Term.{Term, skip, diverge, const, name, fetch, operate, assign, seq, while, cond, new}
use Rattle.language.specs.Term.{Often, freely, once, Args, no_args, arg}
use Rattle.language.specs.Play.{Star, Use, Plays, PlaysArg, Complete}
use Rattle.language.specs.Weight.{weight, weight_args}

-- "Plays and sizes of kind 1 don't change": between the question to a name that asks freely and its answer stand any
-- number of uses of its arguments (definitions 18 and 22), and it weighs 2 beside its arguments (document 01, "Reckoned
-- size")
abbrev pub FreelyPlays : Type 0
FreelyPlays = (i : ℕ) (T : Ty) (args : Args) (q : Question) (a : Answer) (u : Word) →
    Plays (name i freely T args) q a u
    ↔ (Answers T q a × (v : Word) × Star (Use i (λ j p b x. PlaysArg args j p b x)) v
    × (u ≡ move (at i 0) (question q) ∷ (v ++ (move (at i 0) (answer a) ∷ []))))

abbrev pub FreelyWeighs : Type 0
FreelyWeighs = (i : ℕ) (T : Ty) (args : Args) → weight (name i freely T args) ≡ 2 + weight_args args

-- "The weight of its use is 3 where kind 1 has 2"
abbrev pub OnceWeighs : Type 0
OnceWeighs = (i : ℕ) (T : Ty) (args : Args) → weight (name i once T args) ≡ 3 + weight_args args

-- a name without arguments has the same plays by either kind
abbrev pub BareAlike : Type 0
BareAlike = (i : ℕ) (T : Ty) (q : Question) (a : Answer) (u : Word) →
    Plays (name i once T no_args) q a u ↔ Plays (name i freely T no_args) q a u

-- every play of a use by kind 3 is one by kind 1
abbrev pub OnceWithin : Type 0
OnceWithin = (i : ℕ) (T : Ty) (args : Args) (q : Question) (a : Answer) (u : Word) →
    Plays (name i once T args) q a u → Plays (name i freely T args) q a u

-- how many questions the innermost open call has put to its arguments, and the calls open around it
unfoldable pub put : List ℕ → ℕ
put [] = 0
put (n ∷ calls) = n

unfoldable pub around : List ℕ → List ℕ
around [] = []
around (n ∷ calls) = calls

-- "puts at most one question to its arguments, all taken together, in each call", read off the moves of a play alone.
-- Of each open call, the innermost first, it is kept how many questions it has put: a question to a name opens a call,
-- its answer closes the innermost one, and a question to an argument is put by the innermost one, which has put none
-- before if it is that of a name that asks once.
unfoldable pub Sparing : (ℕ → Often) → List ℕ → Word → Type 0
Sparing κ calls [] = Unit
Sparing κ calls (move (at i zero) (question q) ∷ u) = Sparing κ (0 ∷ calls) u
Sparing κ calls (move (at i zero) (answer a) ∷ u) = Sparing κ (around calls) u
Sparing κ calls (move (at i (suc j)) (question q) ∷ u) =
    (κ i ≡ once → put calls ≡ 0) × Sparing κ (suc (put calls) ∷ around calls) u
Sparing κ calls (move (at i (suc j)) (answer a) ∷ u) = Sparing κ calls u
Sparing κ calls (move (private i) e ∷ u) = Sparing κ calls u

-- a term under a heading that says of each id how often its name asks
unfoldable mutual
  pub asking : (ℕ → Often) → Term → Term
  asking κ (const v) = const v
  asking κ (operate m o L R) = operate m o (asking κ L) (asking κ R)
  asking κ skip = skip
  asking κ diverge = diverge
  asking κ (seq C M) = seq (asking κ C) (asking κ M)
  asking κ (while B C) = while (asking κ B) (asking κ C)
  asking κ (cond B M N) = cond (asking κ B) (asking κ M) (asking κ N)
  asking κ (name i o T args) = name i (κ i) T (asking_args κ args)
  asking κ (t.private i) = t.private i
  asking κ (fetch X) = fetch (asking κ X)
  asking κ (assign m X E) = assign m (asking κ X) (asking κ E)
  asking κ (new m h C) = new m h (asking κ C)

  pub asking_args : (ℕ → Often) → Args → Args
  asking_args κ no_args = no_args
  asking_args κ (arg T M args) = arg T (asking κ M) (asking_args κ args)

-- every name asks freely: the heading has kind 1 alone
abbrev pub all_freely : ℕ → Often
all_freely i = freely

-- the complete plays under a heading are those with kind 1 alone in which every call keeps to its kind
abbrev pub SparingPlays : Type 0
SparingPlays = (κ : ℕ → Often) (T : Ty) (M : Term) (u : Word) →
    Complete T (asking κ M) u ↔ (Complete T (asking all_freely M) u × Sparing κ [] u)
