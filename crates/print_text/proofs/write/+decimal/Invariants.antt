use Prim.Native.Nat.{ℕ, ◌<◌}
use borrow.Author.Rules.{rules}
use Rattle.print_text.proofs.Decimals.{decimal-one, decimal-more}
use Rattle.print_text.proofs.write.+decimal.Given as goal

-- the number falls
abbrev pub decreases-decimal : goal.decreases-decimal
decreases-decimal l = l.v
