-- Whether a question or an answer fits a type, a state hears a move, two moves are the same: each can be decided.
use Rattle.std.specs.Prelude.{◌≡◌, List, [], ◌∷◌, ℕ, zero, suc}
use Rattle.std.proofs.Math.Decide.{dec_lt, ℕ_discrete}
use Rattle.language.specs.Ty.{Ty, command, expression, variable, Question, run, ask, read, write}
use Rattle.language.specs.Ty.{Answer, done, ok, value, Question-discrete, Answer-discrete}
use Rattle.language.specs.Ty.{Fits, fits_run, fits_ask, fits_read, fits_write}
use Rattle.language.specs.Ty.{Answers, to_run, to_ask, to_read, to_write}
use Rattle.language.specs.Move.{Move, Event-discrete, Place-discrete, Move-discrete}
use Rattle.states_machine.specs.Action.{Next, dead, Heard, asked, answered, opened, Listen, calling, opening}
use Rattle.states_machine.specs.Action.{FitsAt, Hears}

-- the transition where a decision says yes
unfoldable pub when : {X S A : Type 0} → Dec X → (X → Next S A) → Next S A
when (yes x) f = f x
when (no n) f = dead

-- a decision of one statement decides an equivalent one
unfoldable pub map_dec : {A B : Type 0} → (A → B) → (B → A) → Dec A → Dec B
map_dec f g (yes a) = yes (f a)
map_dec f g (no n) = no (λ b. n (g b))

-- is q a question of the type?
unfoldable pub fits? : (T : Ty) (q : Question) → Dec (Fits T q)
fits? command run = yes fits_run
fits? command ask = no (elim [ ])
fits? command read = no (elim [ ])
fits? command (write v) = no (elim [ ])
fits? (expression m) run = no (elim [ ])
fits? (expression m) ask = yes fits_ask
fits? (expression m) read = no (elim [ ])
fits? (expression m) (write v) = no (elim [ ])
fits? (variable m) run = no (elim [ ])
fits? (variable m) ask = no (elim [ ])
fits? (variable m) read = yes fits_read
fits? (variable m) (write v) = map_dec fits_write (elim [ fits_write h ↦ h ]) (dec_lt v m)

-- is a an answer to a question of the type?
unfoldable pub answers-to : {T : Ty} {q : Question} → Fits T q → (a : Answer) → Dec (Answers T q a)
answers-to fits_run done = yes to_run
answers-to fits_run ok = no (elim [ ])
answers-to fits_run (value v) = no (elim [ ])
answers-to fits_ask done = no (elim [ ])
answers-to fits_ask ok = no (elim [ ])
answers-to (fits_ask {m}) (value v) = map_dec to_ask (elim [ to_ask h ↦ h ]) (dec_lt v m)
answers-to fits_read done = no (elim [ ])
answers-to fits_read ok = no (elim [ ])
answers-to (fits_read {m}) (value v) = map_dec to_read (elim [ to_read h ↦ h ]) (dec_lt v m)
answers-to (fits_write h) done = no (elim [ ])
answers-to (fits_write h) ok = yes (to_write h)
answers-to (fits_write h) (value v) = no (elim [ ])

-- what has an answer is a question of the type
unfoldable pub fits_of : {T : Ty} {q : Question} {a : Answer} → Answers T q a → Fits T q
fits_of to_run = fits_run
fits_of (to_ask h) = fits_ask
fits_of (to_read h) = fits_read
fits_of (to_write h) = fits_write h

-- is a an answer of the type to q?
unfoldable pub answers? : (T : Ty) (q : Question) (a : Answer) → Dec (Answers T q a)
answers? T q a = elim (fits? T q) [ yes f ↦ answers-to f a | no n ↦ no (λ h. n (fits_of h)) ]

-- is there an argument j with the question q?
unfoldable pub fits-at? : (Ts : List Ty) (j : ℕ) (q : Question) → Dec (FitsAt Ts j q)
unfolding FitsAt
fits-at? [] j q = no (λ f. f)
fits-at? (T ∷ Ts) zero q = fits? T q
fits-at? (T ∷ Ts) (suc j) q = fits-at? Ts j q

-- does the waiting state take it?
unfoldable pub hears? : (l : Listen) (r : Heard) → Dec (Hears l r)
unfolding Hears
hears? (calling i Ts T p) (asked j q) = fits-at? Ts j q
hears? (calling i Ts T p) (answered a) = answers? T p a
hears? (calling i Ts T p) (opened q) = no (λ x. x)
hears? (opening i T) (asked j q) = no (λ x. x)
hears? (opening i T) (answered a) = no (λ x. x)
hears? (opening i T) (opened q) = fits? T q

-- are two moves the same?
unfoldable pub same-move? : (x y : Move) → Dec (x ≡ y)
same-move? =
    Move-discrete (Place-discrete ℕ_discrete)
    (Event-discrete (Question-discrete ℕ_discrete) (Answer-discrete ℕ_discrete))
