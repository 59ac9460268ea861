-- What look answers where nothing is found, over plain variables.
use mathlib.Core.Path.{◌≡◌, refl}
use Prim.Native.Nat.{ℕ, ◌≤◌, ◌<◌}
use borrow.Author.Tests.{le-ltb, lt-ltb}
use Rattle.sheet_judge.specs.declared.mark.Uses.{Uses}
use Rattle.std.specs.Prelude.{Option, None}
use Rattle.serve_compare.specs.Look.{ruling_of, depth_of, saying, telling, look_answer}
use Rattle.play_words.specs.declared.Difference.{Difference}
use Rattle.serve_compare.specs.declared.Outcome.TheVariants.{Same, SoFar}

module _ (d : Option Difference) (limit whole : ℕ) (v w : Uses) (e : d ≡ None) where
  pub so-far-said : limit < whole → telling SoFar limit v w ≡ look_answer d limit whole v w
  unfolding ruling_of depth_of saying
  so-far-said l = rw (e, lt-ltb limit whole l) refl

  pub same-said : whole ≤ limit → telling Same whole v w ≡ look_answer d limit whole v w
  unfolding ruling_of depth_of saying
  same-said l = rw (e, le-ltb limit whole l) refl
