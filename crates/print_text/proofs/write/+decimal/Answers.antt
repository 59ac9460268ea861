-- What `decimal` writes is the text `digits`.
use Prim.Native.Nat.{ℕ, ◌<◌}
use borrow.Author.Rules.{rules}
use Rattle.print_text.proofs.Decimals.{decimal-one, decimal-more}
use Rattle.print_text.proofs.write.+decimal.Goals as goal

pub returns-then-v-lt10 : goal.returns-then-v-lt10
returns-then-v-lt10 t c =
    decimal-one _ _ c.if-v-lt10.true c.push.ensures

pub returns : goal.returns
returns t c =
    decimal-more _ _ c.if-v-lt10.false c.decimal-next.ensures c.push-2.ensures
