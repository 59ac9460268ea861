-- What judging a sheet by the earlier rule says.
use Prim.Native.Nat.{ℕ}
use mathlib.Core.List.{List}
use Rattle.sheet_records.specs.declared.edition.Edition.TheVariants.{Earlier}
use Rattle.sheet_judge.specs.Judged.{JudgedBy}
use Rattle.sheet_judge.specs.declared.judge.Judgement.{Judgement}
use Rattle.sheet_records.specs.declared.refusal.Refusal.{Refusal}
use Rattle.std.specs.Prelude.{Result, Ok, Err}
use Rattle.serve_renumber.specs.Found.{EarlierJudged}

pub earlier-judged : (s u : List ℕ) (x : Result Judgement Refusal) → JudgedBy Earlier s x u → EarlierJudged s x
unfolding JudgedBy EarlierJudged
earlier-judged s u (Ok y) J =
    record { sheet = J.sheet; type = y.ty; size = y.size; reads = J.accepts; rooted = J.rooted }
earlier-judged s u (Err y) J = J
