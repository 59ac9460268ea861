-- Two machines compared by computation: by pairs of states that are closed under moves they accept the same words, or
-- a word is the first that exactly one of them accepts. What is computed is so.
use mathlib.Core.Path.{◌≡◌, refl, ap}
use mathlib.Core.Bool.{Bool, true, false, cond, not, beq, false≢true, ◌&&◌}
use mathlib.Core.Logic.{◌⊎◌, inl, inr}
use mathlib.Core.Option.{Option, none, some}
use mathlib.Core.List.{List, [], ◌∷◌, ◌++◌, map}
use Prim.Native.Nat.{ℕ, zero, suc, ◌≤◌, ◌<◌}
use native.Mathlib.Bridge.{le_prop}
use native.Mathlib.Decide.{dec_lt}
use native.Mathlib.Omega.{arith}
use lib.Dec.{T, eqb, ltb}
use lib.ListN.{length}
use lib.Signed.{lt_z}
use borrow.Author.Tests.{eqb-true, eq-eqb, ne_eqb, lt-ltb, le-ltb}
use Rattle.language.specs.declared.Numbers.{Numbers}
use Rattle.language.specs.Number.{signed}
use Rattle.language.specs.Move.{at, private, Move, move, Word, kind, value_of, ByValue, Earlier, First, Before}
use Rattle.states_machine.specs.Action.{to, out, dead}
use Rattle.states_machine.specs.Decide.{same-move?}
use Rattle.states_machine.specs.Settle.{next, run}
use Rattle.serve_compare.proofs.Listing.{all, both, Machine, State, moves_at, next-all}
use Rattle.sheet_records.specs.declared.refusal.Sheets.{Sheets}
use Rattle.sheet_records.specs.declared.refusal.Sheets.TheVariants.{Old, New, Both}

-- whether a move is earlier than another
unfoldable pub less_value : Numbers → List ℕ → List ℕ → Bool
less_value N (x ∷ xs) (y ∷ ys) = lt_z (signed N x) (signed N y)
less_value N [] ys = false
less_value N (x ∷ xs) [] = false

-- a < b, or a ≡ b and c
unfoldable pub less : ℕ → ℕ → Bool → Bool
less a b c = cond (ltb a b) true (eqb a b && c)

unfoldable pub earlier : Numbers → Move → Move → Bool
earlier N (move (at i j) e) (move (at k l) f) =
    less (kind e) (kind f) (less i k (less j l (less_value N (value_of e) (value_of f))))
earlier N (move (at i j) e) (move (private k) f) = false
earlier N (move (private i) e) n = false

value-less : (N : Numbers) (xs ys : List ℕ) → ByValue N xs ys → less_value N xs ys ≡ true
unfolding less_value
value-less N [] ys h = absurd h
value-less N (x ∷ xs) [] h = absurd h
value-less N (x ∷ xs) (y ∷ ys) h = by (lt_z (signed N x) (signed N y)) h.lt
  where
    by : (b : Bool) → T b → b ≡ true
    by true t = refl
    by false t = absurd t

less-first : (a b : ℕ) (c : Bool) → a < b → less a b c ≡ true
unfolding less
less-first a b c h = rw (lt-ltb a b h) refl

less_then : (a b : ℕ) (c : Bool) → a ≡ b → c ≡ true → less a b c ≡ true
unfolding less
less_then a b c e h = rw (le-ltb a b (omega arith), eq-eqb a b e) h

earlier-true : (N : Numbers) (m n : Move) → Earlier N m n → earlier N m n ≡ true
unfolding earlier
earlier-true N (move (at i j) e) (move (at k l) f) (inl h) = less-first (kind e) (kind f) _ h
earlier-true N (move (at i j) e) (move (at k l) f) (inr (d, inl h)) =
    less_then (kind e) (kind f) _ d (less-first i k _ h)
earlier-true N (move (at i j) e) (move (at k l) f) (inr (d, inr (d₁, inl h))) =
    less_then (kind e) (kind f) _ d (less_then i k _ d₁ (less-first j l _ h))
earlier-true N (move (at i j) e) (move (at k l) f) (inr (d, inr (d₁, inr (d₂, h)))) =
    less_then (kind e) (kind f) _ d
    (less_then i k _ d₁ (less_then j l _ d₂ (value-less N (value_of e) (value_of f) h)))
earlier-true N (move (at i j) e) (move (private k) f) h = absurd h
earlier-true N (move (private i) e) n h = absurd h

-- whether a move is in a list, and the moves of two lists
unfoldable pub listed : Move → List Move → Bool
listed m [] = false
listed m (x ∷ xs) = elim (same-move? x m) [ yes e ↦ true | no n ↦ listed m xs ]

unfoldable pub union : List Move → List Move → List Move
union [] ys = ys
union (x ∷ xs) ys = elim (listed x ys) [ true ↦ union xs ys | false ↦ x ∷ union xs ys ]

listed-all : (t : Move → Bool) (m : Move) (xs : List Move) → listed m xs ≡ true → all t xs ≡ true → t m ≡ true
unfolding listed all
listed-all t m [] e h = absurd (false≢true e)
listed-all t m (x ∷ xs) e h =
    let p = both (t x) (all t xs) h in
    by (same-move? x m) e p.0 (λ l. listed-all t m xs l p.1)
  where
    by : (d : Dec (x ≡ m)) → elim d [ yes i ↦ true | no i ↦ listed m xs ] ≡ true → t x ≡ true →
        (listed m xs ≡ true → t m ≡ true) → t m ≡ true
    by (yes d) e p rest = rw (← d) p
    by (no d) e p rest = rest e

union-all : (t : Move → Bool) (xs ys : List Move) → all t (union xs ys) ≡ true →
    (all t xs ≡ true) × (all t ys ≡ true)
unfolding union all
union-all t [] ys h = (refl, h)
union-all t (x ∷ xs) ys h = by (listed x ys) refl h (λ k. union-all t xs ys k)
  where
    by : (b : Bool) → listed x ys ≡ b → all t (elim b [ true ↦ union xs ys | false ↦ x ∷ union xs ys ]) ≡ true →
        (all t (union xs ys) ≡ true → (all t xs ≡ true) × (all t ys ≡ true)) →
        ((t x && all t xs) ≡ true) × (all t ys ≡ true)
    by true e h rest = let p = rest h in (rw (listed-all t x ys e p.1) p.0, p.1)
    by false e h rest =
        let q = both (t x) (all t (union xs ys)) h in
        let p = rest q.1 in
        (rw q.0 p.0, p.1)

-- a list in order
unfoldable pub insert : Numbers → Move → List Move → List Move
insert N m [] = m ∷ []
insert N m (x ∷ xs) = elim (earlier N x m) [ true ↦ x ∷ insert N m xs | false ↦ m ∷ x ∷ xs ]

unfoldable pub sorted : Numbers → List Move → List Move
sorted N [] = []
sorted N (x ∷ xs) = insert N x (sorted N xs)

-- whether a machine is at its end
unfoldable pub ends : {K : ℕ} → State K → Bool
ends (to s) = false
ends (out a) = true
ends dead = false

pub ends-true : {K : ℕ} (x : State K) → ends x ≡ true → x ≡ out tt
unfolding ends
ends-true (to s) e = absurd (false≢true e)
ends-true (out tt) e = refl
ends-true dead e = absurd (false≢true e)

ends-dead : {K : ℕ} (A : Machine K) (w : Word) → ends (run A dead w) ≡ false
unfolding ends run next
ends-dead A [] = refl
ends-dead A (m ∷ w) = ends-dead A w

-- where a machine stands as a number, and back
unfoldable pub coded : {K : ℕ} → State K → ℕ
coded (to s) = s.0
coded {K} (out a) = K
coded {K} dead = suc K

unfoldable pub state_by : (K k : ℕ) → Dec (k < K) → State K
state_by K k (yes h) = to (k, h)
state_by K k (no n) = cond (eqb k K) (out tt) dead

unfoldable pub state_of : (K : ℕ) → ℕ → State K
state_of K k = state_by K k (dec_lt k K)

state-coded : {K : ℕ} (x : State K) → state_of K (coded x) ≡ x
unfolding state_of state_by coded
state-coded {K} (to (k, h)) = by (dec_lt k K)
  where
    by : (d : Dec (k < K)) → state_by K k d ≡ to (k, h)
    by (yes l) = ap (λ (i : k < K). to (k, i)) (le_prop l h)
    by (no n) = absurd (n h)
state-coded {K} (out tt) = by (dec_lt K K)
  where
    by : (d : Dec (K < K)) → state_by K K d ≡ out tt
    by (yes l) = absurd (omega arith)
    by (no n) = rw (eq-eqb K K refl) refl
state-coded {K} dead = by (dec_lt (suc K) K)
  where
    by : (d : Dec (suc K < K)) → state_by K (suc K) d ≡ dead
    by (yes l) = absurd (omega arith)
    by (no n) = rw (ne_eqb (suc K) K (λ e. omega arith)) refl

-- whether a pair of numbers is in a list
unfoldable pub paired : ℕ → ℕ → List (ℕ × ℕ) → Bool
paired p q [] = false
paired p q (x ∷ xs) = elim (eqb x.0 p && eqb x.1 q) [ true ↦ true | false ↦ paired p q xs ]

paired-all : (t : ℕ → ℕ → Bool) (p q : ℕ) (R : List (ℕ × ℕ)) → paired p q R ≡ true →
    all (λ (x : ℕ × ℕ). t x.0 x.1) R ≡ true → t p q ≡ true
unfolding paired all
paired-all t p q [] e h = absurd (false≢true e)
paired-all t p q (x ∷ xs) e h =
    let a = both (t x.0 x.1) (all (λ (x : ℕ × ℕ). t x.0 x.1) xs) h in
    by (eqb x.0 p && eqb x.1 q) refl e a.0 (λ l. paired-all t p q xs l a.1)
  where
    by : (b : Bool) → (eqb x.0 p && eqb x.1 q) ≡ b → elim b [ true ↦ true | false ↦ paired p q xs ] ≡ true →
        t x.0 x.1 ≡ true → (paired p q xs ≡ true → t p q ≡ true) → t p q ≡ true
    by true d e a rest =
        let c = both (eqb x.0 p) (eqb x.1 q) d in
        rw (← eqb-true x.0 p c.0, ← eqb-true x.1 q c.1) a
    by false d e a rest = rest e

-- the first word that f gives for a member of a list, after that member
unfoldable pub first_of : (Move → Option Word) → List Move → Option Word
first_of f [] = none
first_of f (m ∷ ms) = elim (f m) [ some w ↦ some (m ∷ w) | none ↦ first_of f ms ]

-- answers that are compared equal are equal
beq-true : (a b : Bool) → beq a b ≡ true → a ≡ b
beq-true true true e = refl
beq-true true false e = absurd (false≢true e)
beq-true false true e = absurd (false≢true e)
beq-true false false e = refl

module _ {K L : ℕ} (A : Machine K) (B : Machine L) where
  -- both accept a word from here, or neither
  abbrev pub Agree : State K → State L → Word → Type 0
  Agree x y w = ends (run A x w) ≡ ends (run B y w)

  -- the moves of both states
  unfoldable pub moves_both : State K → State L → List Move
  moves_both x y = union (moves_at A x) (moves_at B y)

  -- the machines agree after a move, if they do where it passes a test that the moves of both states pass
  agree-next : (t : Move → Bool) (x : State K) (y : State L) (m : Move) (w : Word) → all t (moves_both x y) ≡ true →
      (t m ≡ true → Agree (next A x m) (next B y m) w) → Agree (next A x m) (next B y m) w
  unfolding moves_both
  agree-next t x y m w h f =
      let p = union-all t (moves_at A x) (moves_at B y) h in
      by (next-all A t x m p.0) (next-all B t y m p.1)
    where
      by : (t m ≡ true) ⊎ (next A x m ≡ dead) → (t m ≡ true) ⊎ (next B y m ≡ dead) →
          Agree (next A x m) (next B y m) w
      by (inl e) d = f e
      by (inr e) (inl d) = f d
      by (inr e) (inr d) = rw (e, d, ends-dead A w, ends-dead B w) refl

  -- the pairs after one move
  unfoldable pub next_pairs : ℕ → ℕ → List (ℕ × ℕ)
  next_pairs p q =
      let x = state_of K p in
      let y = state_of L q in
      map (λ m. (coded (next A x m), coded (next B y m))) (moves_both x y)

  -- the pairs that are reached from those to do, and those seen, in so many rounds
  unfoldable pub reached : ℕ → List (ℕ × ℕ) → List (ℕ × ℕ) → List (ℕ × ℕ)
  reached zero todo seen = seen
  reached (suc n) [] seen = seen
  reached (suc n) (p ∷ todo) seen =
      elim (paired p.0 p.1 seen) [
        | true ↦ reached n todo seen
        | false ↦ reached n (next_pairs p.0 p.1 ++ todo) (p ∷ seen)
      ]

  -- two states end both or neither, and each move leads to a pair of R
  unfoldable pub closed : List (ℕ × ℕ) → State K → State L → Bool
  closed R x y =
      beq (ends x) (ends y) && all (λ m. paired (coded (next A x m)) (coded (next B y m)) R) (moves_both x y)

  -- x and y are a pair of R, and all pairs of R are closed
  unfoldable pub related : List (ℕ × ℕ) → State K → State L → Bool
  related R x y =
      paired (coded x) (coded y) R && all (λ (p : ℕ × ℕ). closed R (state_of K p.0) (state_of L p.1)) R

  module _ (R : List (ℕ × ℕ)) (c : all (λ (p : ℕ × ℕ). closed R (state_of K p.0) (state_of L p.1)) R ≡ true) where
    -- a pair of R is closed, and its states accept the same words
    closed_at : (x : State K) (y : State L) → paired (coded x) (coded y) R ≡ true → closed R x y ≡ true
    closed_at x y p =
        let e = paired-all (λ p q. closed R (state_of K p) (state_of L q)) (coded x) (coded y) R p c in
        rw (state-coded x, state-coded y) at e

    agree-paired : (w : Word) (x : State K) (y : State L) → paired (coded x) (coded y) R ≡ true → Agree x y w
    unfolding closed run
    agree-paired [] x y p =
        beq-true (ends x) (ends y) (both _ (all _ (moves_both x y)) (closed_at x y p)).0
    agree-paired (m ∷ w) x y p =
        agree-next _ x y m w (both (beq (ends x) (ends y)) _ (closed_at x y p)).1
        (λ e. agree-paired w (next A x m) (next B y m) e)

  -- THEOREM: from two states of a closed list of pairs the machines accept the same words
  pub related-agree : (R : List (ℕ × ℕ)) (x : State K) (y : State L) → related R x y ≡ true → (w : Word) → Agree x y w
  unfolding related
  related-agree R x y h w =
      let p = both (paired (coded x) (coded y) R) _ h in
      agree-paired R p.1 w x y p.0

  -- the machines agree on all words of at most k moves, and of fewer than k
  unfoldable pub agree : ℕ → State K → State L → Bool
  agree zero x y = beq (ends x) (ends y)
  agree (suc k) x y =
      beq (ends x) (ends y) && all (λ m. agree k (next A x m) (next B y m)) (moves_both x y)

  unfoldable pub agree_below : ℕ → State K → State L → Bool
  agree_below zero x y = true
  agree_below (suc k) x y = agree k x y

  agree-most : (k : ℕ) (x : State K) (y : State L) → agree k x y ≡ true → (w : Word) → length w ≤ k → Agree x y w
  unfolding agree run
  agree-most zero x y h [] l = beq-true (ends x) (ends y) h
  agree-most zero x y h (m ∷ w) l = absurd (omega arith)
  agree-most (suc k) x y h [] l = beq-true (ends x) (ends y) (both _ (all _ (moves_both x y)) h).0
  agree-most (suc k) x y h (m ∷ w) l =
      agree-next _ x y m w (both (beq (ends x) (ends y)) _ h).1
      (λ e. agree-most k (next A x m) (next B y m) e w (omega arith))

  agree-below : (k : ℕ) (x : State K) (y : State L) → agree_below k x y ≡ true → (w : Word) → length w < k →
      Agree x y w
  unfolding agree_below
  agree-below zero x y h w l = absurd (omega arith)
  agree-below (suc k) x y h w l = agree-most k x y h w (omega arith)

  -- where the move z is earlier than m, the machines agree after it on words of at most k moves
  unfoldable pub agree_after : Numbers → ℕ → Move → State K → State L → Move → Bool
  agree_after N k m x y z = let r = agree k (next A x z) (next B y z) in cond (earlier N z m) r true

  agree_after_lem : (N : Numbers) (k : ℕ) (m : Move) (x : State K) (y : State L) (z : Move) → Earlier N z m →
      agree_after N k m x y z ≡ true → agree k (next A x z) (next B y z) ≡ true
  unfolding agree_after
  agree_after_lem N k m x y z h e = rw (earlier-true N z m h) at e

  -- the machines agree on the words of the length of w that come before it
  unfoldable pub foremost : Numbers → Word → State K → State L → Bool
  foremost N [] x y = true
  foremost N (m ∷ w) x y =
      all (agree_after N (length w) m x y) (moves_both x y) && foremost N w (next A x m) (next B y m)

  agree-foremost : (N : Numbers) (w : Word) (x : State K) (y : State L) → foremost N w x y ≡ true → (v : Word) →
      length v ≡ length w → First N v w → Agree x y v
  unfolding foremost run
  agree-foremost N [] x y h [] l f = absurd f
  agree-foremost N [] x y h (n ∷ v) l f = absurd f
  agree-foremost N (m ∷ w) x y h [] l f = absurd f
  agree-foremost N (m ∷ w) x y h (n ∷ v) l (inl f) =
      agree-next (agree_after N (length w) m x y) x y n v (both _ (foremost N w (next A x m) (next B y m)) h).0
      (λ e. agree-most (length w) (next A x n) (next B y n) (agree_after_lem N (length w) m x y n f e) v (omega arith))
  agree-foremost N (m ∷ w) x y h (n ∷ v) l (inr (e, f)) =
      let p = both (all (agree_after N (length w) m x y) (moves_both x y)) _ h in
      rw e (agree-foremost N w (next A x m) (next B y m) p.1 v (omega arith) f)

  -- exactly one of the machines accepts a word: 0 the first, 1 the second
  unfoldable pub only : Sheets → State K → State L → Word → Bool
  only Old x y w = ends (run A x w) && not (ends (run B y w))
  only New x y w = ends (run B y w) && not (ends (run A x w))
  only Both x y w = false

  -- w is the first word that exactly one accepts
  unfoldable pub first : Numbers → Sheets → State K → State L → Word → Bool
  first N which x y w = only which x y w && (agree_below (length w) x y && foremost N w x y)

  -- THEOREM: on the words before such a word the machines agree
  pub first-agree : (N : Numbers) (which : Sheets) (x : State K) (y : State L) (w : Word) → first N which x y w ≡ true →
      (only which x y w ≡ true) × ((v : Word) → Before N v w → Agree x y v)
  unfolding first
  first-agree N which x y w h =
      let p = both (only which x y w) _ h in
      let q = both (agree_below (length w) x y) (foremost N w x y) p.1 in
      (p.0, by q.0 q.1)
    where
      by : agree_below (length w) x y ≡ true → foremost N w x y ≡ true → (v : Word) → Before N v w → Agree x y v
      by a b v (inl l) = agree-below (length w) x y a v l
      by a b v (inr (l, f)) = agree-foremost N w x y b v l f

  -- a word of k moves that exactly one of the machines accepts, the first in the order of the moves
  unfoldable pub found : Numbers → ℕ → State K → State L → Option Word
  found N zero x y = elim (beq (ends x) (ends y)) [ true ↦ none | false ↦ some [] ]
  found N (suc k) x y = first_of (λ m. found N k (next A x m) (next B y m)) (sorted N (moves_both x y))
