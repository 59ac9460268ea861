-- What `silent_at` gives is what `silent_of` says, case by case.
use mathlib.Core.Logic.{inl, inr}
use Rattle.states_path.proofs.PathRise.{Quiet}
use Rattle.states_path.proofs.PathSays.{frames-owned}
use Rattle.states_words.proofs.PathRows.{is-go, is-exit, silent-quiet, silent-stuck, silent-say, silent-hear}
use Rattle.states_words.proofs.fill.silent_at.Goals as goal

pub returns-in-Go : goal.returns-in-Go
returns-in-Go c =
    let q : Quiet c.args.o = elim c.in-Go.is [ inl w ↦ is-go w.3 | inr w ↦ is-exit w.4 ] in
    silent-quiet _ _ _ _ _ _ q c.reach.ensures c.sum.ensures

pub returns-in-Say : goal.returns-in-Say
returns-in-Say c =
    elim c.in-Say.is [
      | inl w ↦ silent-say _ _ _ _ (frames-owned _ _ c.requires) w.2
      | inr w ↦ silent-hear _ _ _ _ w.4
    ]

pub returns-in-Stuck : goal.returns-in-Stuck
returns-in-Stuck c = silent-stuck _ _ _ _ _ _ c.in-Stuck.is c.dead.ensures c.sum-in-Stuck.ensures
