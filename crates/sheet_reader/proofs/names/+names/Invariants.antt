use Prim.Native.Nat.{◌+◌, ◌*◌}
use Rattle.sheet_reader.proofs.names.+names.Given as goal

abbrev pub decreases-read_after : goal.decreases-read_after
decreases-read_after l = l.left * 2

abbrev pub decreases-read_names : goal.decreases-read_names
decreases-read_names l = l.left * 2 + 1
