-- `go_to` keeps what `Arrived` says.
use Rattle.states_path.proofs.PathDeeper.{kept-fewer}
use native.Mathlib.Omega.{arith}
use Rattle.states_path.proofs.path.go_to.Goals as goal

pub enter-requires : goal.enter-requires
enter-requires c = record {
  term_rows = c.requires.term_rows;
  kept_path = (
    kept-fewer _ _ c.requires.kept_path.0
        c.leave-left.ensures.0 (omega arith),
    (c.leave-left.ensures.1, c.requires.kept_path.1),
  );
}
