-- Actions whose moves have letters.
use Rattle.std.specs.Prelude.{List, [], ◌∷◌, ◌<◌, ◌≤◌, length}
use Rattle.language.specs.declared.Numbers.{Numbers}
use Rattle.language.specs.Ty.{Ty}
use Rattle.states_words.specs.Letter.{Small}
use Rattle.states_machine.specs.Range.{TyIn}
use Rattle.states_machine.specs.Action.{Listen, calling, opening, Action, go, say, hear}

-- the types of arguments are in range
unfoldable pub AllIn : Numbers → List Ty → Type 0
AllIn N [] = Unit
AllIn N (T ∷ Ts) = TyIn N T × AllIn N Ts

-- the one a state waits for has an id below 256, at most four arguments, and types in range
unfoldable pub ListenIn : Numbers → Listen → Type 0
ListenIn N (calling i Ts T q) = (i < 256) × (length Ts ≤ 4) × AllIn N Ts × TyIn N T
ListenIn N (opening i T) = TyIn N T

-- a move that is said has a letter, and the one that is waited for is in range
unfoldable pub ActionIn : {S A : Type 0} → Numbers → Action S A → Type 0
ActionIn N (go x) = Unit
ActionIn N (say m x) = Small N m
ActionIn N (hear l k) = ListenIn N l
