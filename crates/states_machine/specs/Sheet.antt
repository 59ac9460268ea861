-- The automaton of a closed term: its states are the start, one copy of the term's positions for each question, one
-- state for each answer, and the end, which is the exit.
use Rattle.std.specs.Prelude.{◌≡◌, refl, ◌⊎◌, [], ℕ, ◌+◌, ◌*◌}
use Rattle.std.proofs.Common.{inl, inr}
use Rattle.language.specs.Ty.{Ty, questions, answers}
use Rattle.language.specs.Move.{answer, move}
use Rattle.language.specs.Term.{Term}
use Rattle.language.specs.Play.{whole}
use Rattle.language.specs.Weight.{weight}
use Rattle.states_machine.specs.Action.{Next, to, out, dead, Heard, asked, answered, opened, opening, Hears}
use Rattle.states_machine.specs.Action.{Action, say, hear, map_action}
use Rattle.states_machine.specs.Decide.{when, answers?}
use Rattle.states_machine.specs.Position.{QuestionOf, AnswerOf, Position, entry}
use Rattle.states_machine.specs.Step.{step}
use Rattle.states_machine.specs.Numbered.{Numbered, single, iso, sum, product}
use Rattle.states_machine.specs.Numbering.{numbered_questions, numbered_answers, numbered}
use Rattle.states_machine.specs.Settle.{Index, settle}

-- before the question, in the term, about to answer
pub data AtSheet (X Y : Type 0) : Type 0 where
  start : AtSheet X Y
  within : X → AtSheet X Y
  reply : Y → AtSheet X Y

-- the states but the end
abbrev pub Spot : Ty → Term → Type 0
Spot T M = AtSheet (QuestionOf T × Position M) (AnswerOf T)

-- the first move: a question at the place of the whole term, `at 255 0`
unfoldable pub opens : (T : Ty) (M : Term) (r : Heard) → Hears (opening 255 T) r → Next (Spot T M) (Unit {0})
unfolding Hears
opens T M (asked j q) h = dead
opens T M (answered a) h = dead
opens T M (opened q) h = to (within ((q, h), entry M))

-- what each state does; the end is the exit
unfoldable pub sheet : (T : Ty) (M : Term) → Spot T M → Action (Spot T M) (Unit {0})
sheet T M start = hear (opening 255 T) (opens T M)
sheet T M (within x) =
    map_action (λ s. within (x.0, s.1))
    (λ e. when (answers? T x.0.0 e.1) (λ h. to (reply (x.0.0, e.1, h))))
    (step M [] x.0.0 tt x.1)
sheet T M (reply y) = say (move whole (answer y.1)) (out tt)

-- how many there are
unfoldable pub spots : Ty → Term → ℕ
spots T M = 1 + (questions T * weight M + answers T)

-- the start, then the positions, then the answers
unfoldable pub numbered_sheet : {X Y : Type 0} {a b : ℕ} → Numbered X a → Numbered Y b →
    Numbered (AtSheet X Y) (1 + (a + b))
numbered_sheet {X} {Y} M N = iso f g gf fg (sum single (sum M N))
  where
    f : Unit {0} ⊎ (X ⊎ Y) → AtSheet X Y
    f (inl x) = start
    f (inr (inl x)) = within x
    f (inr (inr y)) = reply y

    g : AtSheet X Y → Unit {0} ⊎ (X ⊎ Y)
    g start = inl tt
    g (within x) = inr (inl x)
    g (reply y) = inr (inr y)

    gf : (x : Unit {0} ⊎ (X ⊎ Y)) → g (f x) ≡ x
    gf (inl x) = refl
    gf (inr (inl x)) = refl
    gf (inr (inr y)) = refl

    fg : (y : AtSheet X Y) → f (g y) ≡ y
    fg start = refl
    fg (within x) = refl
    fg (reply y) = refl

-- the states but the end, numbered
unfoldable pub numbered_spots : (T : Ty) (M : Term) → Numbered (Spot T M) (spots T M)
unfolding spots
numbered_spots T M = numbered_sheet (product (numbered_questions T) (numbered M)) (numbered_answers T)

-- a state's number
abbrev pub index : (T : Ty) (M : Term) → Spot T M → Index (spots T M)
index T M p = ((numbered_spots T M).code p, (numbered_spots T M).bound p)

-- what a state does, with numbers for the states it leads to
unfoldable pub numbered_step : (T : Ty) (M : Term) → Spot T M → Action (Index (spots T M)) (Unit {0})
numbered_step T M p = map_action (index T M) (λ e. out e) (sheet T M p)

-- the machine on numbers
unfoldable pub steps : (T : Ty) (M : Term) → Index (spots T M) → Action (Index (spots T M)) (Unit {0})
steps T M k = numbered_step T M ((numbered_spots T M).decode k.0 k.1)

-- its first state
unfoldable pub begin : (T : Ty) (M : Term) → Next (Index (spots T M)) (Unit {0})
begin T M = settle (steps T M) (spots T M) (to (index T M start))
