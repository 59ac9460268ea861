-- The rows of a sheet whose table is ready: they show the actions of its machine, and they have few edges.
use mathlib.Core.Path.{◌≡◌}
use mathlib.Core.List.{List}
use Prim.Native.Nat.{ℕ, zero, suc, ◌+◌, ◌*◌, ◌≤◌, ◌<◌}
use native.Mathlib.Omega.{arith}
use native.Mathlib.Decide.{dec_lt}
use lib.ListN.{length}
use Rattle.language.specs.declared.Numbers.{Numbers}
use Rattle.language.specs.Number.{numbers}
use Rattle.language.proofs.NumberLaws.{finites-are, finites-within}
use Rattle.language.specs.Ty.{Ty}
use Rattle.language.specs.Term.{Term}
use Rattle.language.specs.Weight.{size}
use Rattle.states_machine.specs.Sheet.{spots, steps}
use Rattle.states_machine.specs.Degree.{degree, total, number_if, degree_at}
use Rattle.states_machine.proofs.Accepts.{spots-size}
use Rattle.states_machine.proofs.Degrees.{few-edges}
use Rattle.states_positions.specs.declared.Move.{Move as Record}
use Rattle.states_step.specs.walk.Shows.{GivenMove}
use Rattle.states_path.specs.declared.Site.{Site}
use Rattle.states_path.specs.States.{spots_of, sheet_at}
use Rattle.states_words.specs.inner.Moves.{row_of}
use Rattle.states_words.specs.inner.Acts.{Acts}
use Rattle.states_words.specs.inner.Shown.{edges_below, Right}
use Rattle.states_words.specs.inner.Ready.{Ready}
use Rattle.states_words.proofs.Faithfully.{spots-of, acts}
use Rattle.states_words.proofs.RangedSteps.{ranged}
use Rattle.states_words.proofs.RightRows.{right-row, few-row}

module _ {N : Numbers} {t : List ℕ} (s : Site) {T : Ty} {M : Term} (R : Ready N t s.root T M) where
  -- the states are few, and the code counts them
  few-spots : spots T M ≤ 4096
  few-spots = omega (arith, spots-size T M, R.small)

  pub spots-ready : spots_of t s.root ≡ spots T M
  spots-ready = spots-of N t R.represents few-spots

  -- few enough for the path
  pub spots-fit : spots_of t s.root ≤ 65536
  spots-fit = omega (arith, spots-ready, few-spots)

  -- what the code says of a state shows its action
  acts-ready : (k : ℕ) (h : k < spots T M) (m : Record) → GivenMove m →
      Acts N t m (steps T M (k, h)) (sheet_at t N s.root k m)
  acts-ready k h m g = acts N t R.words R.represents few-spots m g k h

  -- THEOREM: the row of each state shows its action
  pub row-right : s.o + spots T M + 1 < s.n → s.n ≤ 8193 → (k : ℕ) (h : k < spots T M) →
      Right N s.n s.o (steps T M (k, h)) (row_of t N s k)
  row-right room most k h =
      right-row N (omega (arith, R.z_below)) t s (steps T M (k, h)) k room most (acts-ready k h)
      (ranged N T M R.typed R.type_in R.term_in (k, h))

  -- a row has at most as many edges as the degree of its state
  row-few : (k : ℕ) → k < spots T M → (d : Dec (k < spots T M)) →
      length (row_of t N s k).edges ≤ number_if d (λ h. degree (steps T M (k, h)))
  unfolding number_if
  row-few k l (yes h) = few-row N t s (steps T M (k, h)) k (acts-ready k h)
  row-few k l (no h) = absurd (h l)

  -- THEOREM: the first c rows have at most as many edges as the degrees of their states
  rows_few : (c : ℕ) → c ≤ spots T M → edges_below (row_of t N s) c ≤ total (degree_at T M) c
  unfolding edges_below total degree_at
  rows_few zero h = omega arith
  rows_few (suc c) h =
      omega (arith, rows_few c (omega arith), row-few c (omega arith) (dec_lt c (spots T M)))

  -- THEOREM: twice the number of edges is at most 1 + K for each state, the end counted
  pub sheet-few : 2 * edges_below (row_of t N s) (spots T M) ≤ (1 + numbers N) * size T M
  sheet-few =
      let three : 3 ≤ numbers N = omega (arith, R.z_above, finites-are N, finites-within N) in
      let e : 1 + spots T M ≡ size T M = omega (arith, spots-size T M) in
      let h = few-edges N three T M R.typed R.type_in R.term_in in
      omega (arith, rows_few (spots T M) (omega arith), rw e at h)
