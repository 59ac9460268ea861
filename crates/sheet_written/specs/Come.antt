-- Whether a part comes down to a parameter: 0, or 1 and the parameter's number. Document 02 [1]; the code replaces such
-- a part without entering the procedures that it uses.
use Rattle.std.specs.Prelude.{ℕ, zero, suc, List, length}
use Rattle.sheet_written.specs.Environment.{beyond}
use Rattle.sheet_written.specs.Written.{Written, skip, diverge, truth, number, call, fetch, operate, assign}
use Rattle.sheet_written.specs.Written.{sequence, while, choose, new, procedure, Writtens, none, more, Name}
use Rattle.sheet_written.specs.Meaning.{Binder, meaning, inside, after, by_meaning}

-- a use of the procedure k, whose term comes down to c, with arguments that come down as given: its own parameters have
-- the numbers from k on
unfoldable pub through : ℕ → ℕ → (ℕ → ℕ) → ℕ
through k zero g = 0
through k (suc t) g = beyond k (λ s. suc s) g t

-- κ says it of the terms of the procedures, by their numbers
unfoldable mutual
  pub come : List Name → List Binder → (ℕ → ℕ) → Written → ℕ
  come ns bs κ skip = 0
  come ns bs κ (diverge ty) = 0
  come ns bs κ (truth b) = 0
  come ns bs κ (number b) = 0
  come ns bs κ (call id ws) =
      by_meaning (meaning ns bs id) 0 (λ k. 0) (λ k. suc k) (λ k. through k (κ k) (λ j. comes ns bs κ ws j))
      (λ often ty tys. 0)
  come ns bs κ (fetch v) = 0
  come ns bs κ (operate op l r) = 0
  come ns bs κ (assign v e) = 0
  come ns bs κ (sequence c m) = 0
  come ns bs κ (choose b x y) = 0
  come ns bs κ (while b c) = 0
  come ns bs κ (new id d c) = 0
  come ns bs κ (procedure id ty ps body rest) =
      come ns (after id ty ps bs) (beyond (length bs) κ (λ j. come ns (inside ps bs) κ body)) rest

  -- argument j of a procedure
  pub comes : List Name → List Binder → (ℕ → ℕ) → Writtens → ℕ → ℕ
  comes ns bs κ none j = 0
  comes ns bs κ (more w ws) zero = come ns bs κ w
  comes ns bs κ (more w ws) (suc j) = comes ns bs κ ws j
