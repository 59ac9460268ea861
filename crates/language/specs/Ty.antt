-- Types, their questions and answers. Document 001, definition 9; document 01, "Plays". SHEETS 3.1 and 4.1.
use Rattle.std.specs.Prelude.{ℕ, ◌+◌, ◌<◌}

-- a command, an expression or a variable; its data has m values, with the codes below m
pub data Ty : Type 0 where
  command : Ty
  expression variable : ℕ → Ty

-- what a command, an expression or a variable is asked
pub data Question : Type 0 where
  run ask read : Question
  write : ℕ → Question
  deriving Discrete as Question-discrete

-- what a command, an expression or a variable answers
pub data Answer : Type 0 where
  done ok : Answer
  value : ℕ → Answer
  deriving Discrete as Answer-discrete

-- the questions of a type
pub data Fits : Ty → Question → Type 0 where
  fits_run : Fits command run
  fits_ask : {m : ℕ} → Fits (expression m) ask
  fits_read : {m : ℕ} → Fits (variable m) read
  fits_write : {m v : ℕ} → v < m → Fits (variable m) (write v)

-- the answers to a question of a type
pub data Answers : Ty → Question → Answer → Type 0 where
  to_run : Answers command run done
  to_ask : {m v : ℕ} → v < m → Answers (expression m) ask (value v)
  to_read : {m v : ℕ} → v < m → Answers (variable m) read (value v)
  to_write : {m v : ℕ} → v < m → Answers (variable m) (write v) ok

-- how many questions a type has (document 01, "Reckoned size")
unfoldable pub questions : Ty → ℕ
questions command = 1
questions (expression m) = 1
questions (variable m) = 1 + m

-- how many answers they have in all
unfoldable pub answers : Ty → ℕ
answers command = 1
answers (expression m) = m
answers (variable m) = m + m
