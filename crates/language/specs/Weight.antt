-- Weight and size. Document 01, "Reckoned size". The forms stand in the order in which document 001 defines their plays
-- (document 02, [10]). SHEETS 7.
use Rattle.std.specs.Prelude.{ℕ, ◌+◌, ◌*◌}
use Rattle.language.specs.Ty.{Ty, questions, answers}
use Rattle.language.specs.Term.{Term, const, operate, skip, diverge, seq, while, cond, name, private, fetch}
use Rattle.language.specs.Term.{assign, new, Often, onces, Args, no_args, arg}

-- what the use of a name weighs beside its arguments; "3 where kind 1 has 2" (document 02, [5])
abbrev pub use_weight : Often → ℕ
use_weight o = 2 + onces o

-- the weight of a term, form by form, and of arguments
unfoldable mutual
  pub weight : Term → ℕ
  -- constants (definition 13)
  weight (const v) = 1
  -- operators (definition 14)
  weight (operate m o L R) = weight L + m * weight R
  -- commands (definition 15)
  weight skip = 1
  weight diverge = 1
  weight (seq C M) = weight C + weight M
  weight (while B C) = weight B + weight C
  weight (cond B M N) = weight B + (weight M + weight N)
  -- identifiers (definition 18), and application (definition 22): the arguments of a name
  weight (name i o T args) = use_weight o + weight_args args
  weight (private i) = 2
  -- variables (definitions 24 to 26)
  weight (fetch X) = weight X
  weight (assign m X E) = weight E + m * weight X
  weight (new m h C) = m * weight C

  pub weight_args : Args → ℕ
  weight_args no_args = 0
  weight_args (arg T M args) = questions T * weight M + answers T + weight_args args

-- "Size = 2 + questions times w + answers, of the whole term"
unfoldable pub size : Ty → Term → ℕ
size T M = 2 + questions T * weight M + answers T
