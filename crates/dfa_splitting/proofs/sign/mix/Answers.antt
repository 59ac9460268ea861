-- `mix` puts a letter to a sign.
use mathlib.Core.Path.{sym}
use native.Mathlib.Omega.{arith}
use Rattle.dfa_splitting.proofs.laws.Mixed.{mixed-none, mixed-some}
use Rattle.dfa_splitting.proofs.sign.mix.Goals as goal

pub returns-then-v-eq0 : goal.returns-then-v-eq0
returns-then-v-eq0 c = (sym (mixed-none _ _ c.if-v-eq0.true), omega arith)

pub returns : goal.returns
returns c = (sym (mixed-some _ _ c.if-v-eq0.false), omega arith)
