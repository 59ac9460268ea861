-- `decide` keeps what `Verdicts` says.
use native.Mathlib.Omega.{arith}
use borrow.Author.Rules.{rules}
use Rattle.dfa_difference.proofs.laws.Outcome.{told_of}
use Rattle.serve_conditions.proofs.Figures.{asked_low}
use Rattle.serve_compare.proofs.DecidePlays.{task, all-is, setting, decided-same, decided-apart}
use Rattle.serve_compare.proofs.examine.decide.Goals as goal

pub overflow_sub-t : goal.overflow_sub-t
overflow_sub-t c = omega (arith, all-is _ _ _ _ c.requires)

pub overflow_sub-t-2 : goal.overflow_sub-t-2
overflow_sub-t-2 c = omega (arith, all-is _ _ _ _ c.requires)

pub first_difference-requires : goal.first_difference-requires
first_difference-requires c = setting _ _ _ _ c.requires _

pub overflow_sub-all : goal.overflow_sub-all
overflow_sub-all c = omega (arith, all-is _ _ _ _ c.requires)

pub show-requires : goal.show-requires
show-requires c = (
  (told_of _ (task c.args.all c.args.more c.args.most) _ _ _ c.in_ok-k.was c.first_difference.ensures.0).trail,
  omega (arith, asked_low _ _ c.requires.room, c.first_difference.auto.words),
)

pub returns-in_err-k : goal.returns-in_err-k
returns-in_err-k c = λ D.
    rw c.from_residual.ensures (decided-same _ _ _ _ D _ _ _ c.in_err-k.was c.first_difference.ensures.0)

pub returns : goal.returns
returns c = λ D.
    decided-apart _ _ _ _ D _ _ _
    (told_of _ (task c.args.all c.args.more c.args.most) _ _ _ c.in_ok-k.was c.first_difference.ensures.0)
    c.show.ensures
