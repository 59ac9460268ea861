use Rattle.std.proofs.Common.{◌≡◌}
use Rattle.language.specs.declared.Numbers.{Numbers}
use Rattle.states_positions.specs.declared.Out.TheVariants.{Go}
use Rattle.states_path.specs.Path.{rise_all}
use Rattle.states_path.specs.Levels.{frames_of}
use Rattle.states_path.proofs.exits.climb.Given as goal

abbrev pub invariant-loop-i : goal.invariant-loop-i
invariant-loop-i l = (N : Numbers) → rise_all N (frames_of l.p l.i) (Go l.out.next l.out.block l.out.set)
    ≡ rise_all N (frames_of l.p l.c) (Go l.initial.out.next l.initial.out.block l.initial.out.set)
