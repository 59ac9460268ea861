-- The explicit automaton of a closed term accepts exactly its complete plays.
use mathlib.Core.Path.{◌≡◌, refl, sym, ap, ◌∙◌}
use mathlib.Core.Logic.{◌↔◌}
use mathlib.Core.List.{List, []}
use Prim.Native.Nat.{ℕ, ◌+◌}
use native.Mathlib.Omega.{arith}
use Rattle.language.specs.declared.Numbers.{Numbers}
use Rattle.language.specs.Ty.{Ty}
use Rattle.language.specs.Term.{Term}
use Rattle.language.specs.Typing.{Typed}
use Rattle.language.specs.Move.{Word}
use Rattle.language.specs.Play.{Complete}
use Rattle.states_machine.specs.Action.{to, map_action}
use Rattle.states_machine.specs.Numbered.{single, iso, sum, sum_code}
use Rattle.states_machine.specs.Settle.{run}
use Rattle.states_machine.specs.Sheet.{start, sheet, spots, numbered_sheet, numbered_spots, index, numbered_step, steps}
use Rattle.states_machine.specs.Sheet.{begin}
use Rattle.states_machine.proofs.EdgeLaws.{Visible}
use Rattle.states_machine.proofs.Silent.{Stops}
use Rattle.states_machine.proofs.Accepts.{language}
use Rattle.dfa.specs.Graph.{δ, Graph}
use Rattle.dfa_silent.specs.Silent.{Settling}
use Rattle.states_words.specs.Explicit.{packed, Explicit}
use Rattle.states_words.proofs.Advance.{settle-stop}
use Rattle.states_words.specs.Letter.{along, AllSmall}
use Rattle.states_words.proofs.Settling.{runs, ended}

module _ (T : Ty) (M : Term) where
  -- the start waits for the first question, and has the number 0
  start_first : (index T M start).0 ≡ 0
  unfolding numbered_spots numbered_sheet iso sum sum_code single
  start_first = refl

  start-stops : Stops (steps T M) (to (index T M start))
  unfolding Stops steps numbered_step sheet map_action Visible
  start-stops = rw ((numbered_spots T M).decode_code start) tt

  begin-start : begin T M ≡ to (index T M start)
  unfolding begin
  begin-start = settle-stop (steps T M) (spots T M) (to (index T M start)) start-stops

  module _ {N : Numbers} {S G G' : List ℕ} {n o : ℕ} (t : Typed [] M T) (E : Explicit N S G n o (steps T M))
      (g : Graph G n) (R : Settling n S G G') where
    pub from_start : packed o n (begin T M) ≡ o
    unfolding packed
    from_start = rw begin-start (omega (arith, start_first))

    -- THEOREM: from the state o a word of moves leads to the end exactly if it is a complete play
    pub explicit-language : (u : Word) → AllSmall N u → (along (δ G' n) N o u ≡ o + spots T M) ↔ Complete T M u
    unfolding packed
    explicit-language u h =
        let e : along (δ G' n) N o u ≡ packed o n (run (steps T M) (begin T M) u) =
        ap (λ (p : ℕ). along (δ G' n) N p u) (sym from_start) ∙ runs E g R u h (begin T M) in
        let l = language T M t u in (
          (λ a. l.0 (ended E g R (run (steps T M) (begin T M) u) (sym e ∙ a))),
          (λ c. e ∙ ap (packed o n) (l.1 c)),
        )
