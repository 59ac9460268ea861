-- Where a step inside some levels leads: by cases of the step.
use mathlib.Core.Path.{◌≡◌}
use mathlib.Core.List.{List}
use Prim.Native.Nat.{ℕ, ◌-◌}
use Rattle.language.specs.declared.Numbers.{Numbers}
use Rattle.states_positions.specs.declared.Move.{Move}
use Rattle.states_positions.specs.declared.Out.{Out}
use Rattle.states_positions.specs.declared.Out.TheVariants.{Say, Hear, Stuck}
use Rattle.states_path.specs.declared.Site.{Site}
use Rattle.states_path.specs.Path.{rise_all}
use Rattle.states_path.specs.Levels.{frames_of, Sound}
use Rattle.states_path.specs.States.{target_of}
use Rattle.states_path.proofs.PathLead.{rise-say, rise-hear, rise-stuck}
use Rattle.states_path.proofs.PathSays.{frames-owned}

module _ (N : Numbers) (s : Site) (p : List ℕ) (c : ℕ) where
  -- a step that is known
  pub reach-as : (o o' : Out) (r : ℕ) → o ≡ o' → r ≡ target_of s (rise_all N (frames_of p c) o') →
      r ≡ target_of s (rise_all N (frames_of p c) o)
  reach-as o o' r e h = rw e h

  -- a move that is said, a wait and no step at all lead to the dead state
  pub reach-say : (o : Out) (said : Move) (next r : ℕ) → Sound p c → o ≡ Say said next → r ≡ s.n - 1 →
      r ≡ target_of s (rise_all N (frames_of p c) o)
  unfolding target_of
  reach-say o said next r S e h = rw (e, (rise-say N (frames_of p c) said next (frames-owned p c S)).1) h

  pub reach-hear : (o : Out) (at kind value count r : ℕ) → o ≡ Hear at kind value count → r ≡ s.n - 1 →
      r ≡ target_of s (rise_all N (frames_of p c) o)
  unfolding target_of
  reach-hear o at kind value count r e h = rw (e, rise-hear N (frames_of p c) at kind value count) h

  pub reach-stuck : (o : Out) (r : ℕ) → o ≡ Stuck → r ≡ s.n - 1 → r ≡ target_of s (rise_all N (frames_of p c) o)
  unfolding target_of
  reach-stuck o r e h = rw (e, rise-stuck N (frames_of p c)) h
