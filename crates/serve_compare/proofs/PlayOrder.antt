-- The order of plays is total on words whose moves have letters.
use mathlib.Core.Path.{◌≡◌, refl, sym, ap, ap₂, ◌∙◌}
use mathlib.Core.Bool.{Bool, true, false}
use mathlib.Core.Logic.{◌⊎◌, inl, inr}
use mathlib.Core.List.{[], ◌∷◌}
use Prim.Native.Nat.{ℕ, ◌≤◌, ◌<◌}
use native.Mathlib.Omega.{arith}
use lib.Dec.{ltb, lt→ltb}
use lib.IntN.{ℤ, pos, negsuc}
use lib.ListN.{length}
use lib.Signed.{◌<ℤ◌}
use borrow.Author.Tests.{ltb-true, ltb-false}
use Rattle.language.specs.declared.Numbers.{Numbers}
use Rattle.language.specs.Number.{signed}
use Rattle.language.specs.Ty.{run, ask, read, write, done, ok, value}
use Rattle.language.specs.Move.{Event, question, answer, at, private, Move, move, Word, kind, value_of, ByValue}
use Rattle.language.specs.Move.{Earlier, First, Before}
use Rattle.states_words.specs.Letter.{ranked, event_of}
use Rattle.states_words.specs.Letter.{Values, Small}
use Rattle.states_words.proofs.LetterLaws.{event-again}
use Rattle.language.proofs.NumberLaws.{signed-injective}
use Rattle.states_words.specs.Letter.{AllSmall}

-- one of three: the first is less, they are equal, the second is less
abbrev Either : Type 0 → Type 0 → Type 0 → Type 0
Either A B C = A ⊎ (B ⊎ C)

-- numbers
number-total : (a b : ℕ) → Either (a < b) (a ≡ b) (b < a)
number-total a b = by (ltb a b) (ltb b a) refl refl
  where
    by : (p q : Bool) → ltb a b ≡ p → ltb b a ≡ q → Either (a < b) (a ≡ b) (b < a)
    by true q e f = inl (ltb-true a b e)
    by false true e f = inr (inr (ltb-true b a f))
    by false false e f = inr (inl (omega (arith, ltb-false a b e, ltb-false b a f)))

-- signed numbers
signed-total : (a b : ℤ) → Either (a <ℤ b) (a ≡ b) (b <ℤ a)
signed-total (pos a) (pos b) = by (number-total a b)
  where
    by : Either (a < b) (a ≡ b) (b < a) → Either (pos a <ℤ pos b) (pos a ≡ pos b) (pos b <ℤ pos a)
    by (inl h) = inl (record { lt = lt→ltb a b h })
    by (inr (inl e)) = inr (inl (ap pos e))
    by (inr (inr h)) = inr (inr (record { lt = lt→ltb b a h }))
signed-total (pos a) (negsuc b) = inr (inr (record { lt = tt }))
signed-total (negsuc a) (pos b) = inl (record { lt = tt })
signed-total (negsuc a) (negsuc b) = by (number-total a b)
  where
    by : Either (a < b) (a ≡ b) (b < a) →
        Either (negsuc a <ℤ negsuc b) (negsuc a ≡ negsuc b) (negsuc b <ℤ negsuc a)
    by (inl h) = inr (inr (record { lt = lt→ltb a b h }))
    by (inr (inl e)) = inr (inl (ap negsuc e))
    by (inr (inr h)) = inl (record { lt = lt→ltb b a h })

-- an event has a value or not, by its kind
data Valued (e : Event) : Type 0 where
  bare : value_of e ≡ [] → kind e < 5 → Valued e
  valued : (x : ℕ) → value_of e ≡ x ∷ [] → 5 ≤ kind e → Valued e

-- each event
valued-of : (e : Event) → Valued e
unfolding value_of kind
valued-of (question run) = bare refl (omega arith)
valued-of (question ask) = bare refl (omega arith)
valued-of (question read) = bare refl (omega arith)
valued-of (question (write v)) = valued v refl (omega arith)
valued-of (answer done) = bare refl (omega arith)
valued-of (answer ok) = bare refl (omega arith)
valued-of (answer (value v)) = valued v refl (omega arith)

module _ (N : Numbers) (few : N.z ≤ 125) where
  -- events of one kind and one value are equal
  same-event : (e f : Event) → Values N (value_of e) → Values N (value_of f) → kind e ≡ kind f →
      value_of e ≡ value_of f → e ≡ f
  same-event e f hx hy k v =
      sym (event-again N few e hx) ∙ ap₂ (λ a b. event_of N a (ranked N b)) k v ∙ event-again N few f hy

  -- events of one kind
  event-total : (e f : Event) → Values N (value_of e) → Values N (value_of f) → kind e ≡ kind f →
      Either (ByValue N (value_of e) (value_of f)) (e ≡ f) (ByValue N (value_of f) (value_of e))
  unfolding Values
  event-total e f hx hy k = by (valued-of e) (valued-of f)
    where
      by : Valued e → Valued f →
          Either (ByValue N (value_of e) (value_of f)) (e ≡ f) (ByValue N (value_of f) (value_of e))
      by (bare u h) (bare v l) = inr (inl (same-event e f hx hy k (u ∙ sym v)))
      by (bare u h) (valued y v l) = absurd (omega arith)
      by (valued x u h) (bare v l) = absurd (omega arith)
      by (valued x u h) (valued y v l) = go (signed-total (signed N x) (signed N y))
        where
          go : Either (signed N x <ℤ signed N y) (signed N x ≡ signed N y) (signed N y <ℤ signed N x) →
              Either (ByValue N (value_of e) (value_of f)) (e ≡ f) (ByValue N (value_of f) (value_of e))
          go (inl d) = inl (rw (u, v) d)
          go (inr (inl d)) =
              let q : x ≡ y = signed-injective N few x y (rw u at hx) (rw v at hy) d in
              inr (inl (same-event e f hx hy k (u ∙ ap (λ a. a ∷ []) q ∙ sym v)))
          go (inr (inr d)) = inr (inr (rw (u, v) d))

  -- moves that have letters
  move-total : (m n : Move) → Small N m → Small N n → Either (Earlier N m n) (m ≡ n) (Earlier N n m)
  unfolding Small
  move-total (move (private i) e) n hm hn = absurd hm
  move-total (move (at i j) e) (move (private k) f) hm hn = absurd hn
  move-total (move (at i j) e) (move (at k l) f) hm hn = by (number-total (kind e) (kind f))
    where
      Goal : Type 0
      Goal = Either (Earlier N (move (at i j) e) (move (at k l) f)) (move (at i j) e ≡ move (at k l) f)
          (Earlier N (move (at k l) f) (move (at i j) e))

      values : kind e ≡ kind f → i ≡ k → j ≡ l →
          Either (ByValue N (value_of e) (value_of f)) (e ≡ f) (ByValue N (value_of f) (value_of e)) → Goal
      values a b c (inl h) = inl (inr (a, inr (b, inr (c, h))))
      values a b c (inr (inl h)) = inr (inl (cc))
      values a b c (inr (inr h)) = inr (inr (inr (sym a, inr (sym b, inr (sym c, h)))))

      args : kind e ≡ kind f → i ≡ k → Either (j < l) (j ≡ l) (l < j) → Goal
      args a b (inl h) = inl (inr (a, inr (b, inl h)))
      args a b (inr (inl c)) = values a b c (event-total e f hm.2 hn.2 a)
      args a b (inr (inr h)) = inr (inr (inr (sym a, inr (sym b, inl h))))

      ids : kind e ≡ kind f → Either (i < k) (i ≡ k) (k < i) → Goal
      ids a (inl h) = inl (inr (a, inl h))
      ids a (inr (inl b)) = args a b (number-total j l)
      ids a (inr (inr h)) = inr (inr (inr (sym a, inl h)))

      by : Either (kind e < kind f) (kind e ≡ kind f) (kind f < kind e) → Goal
      by (inl h) = inl (inl h)
      by (inr (inl a)) = ids a (number-total i k)
      by (inr (inr h)) = inr (inr (inl h))

  -- words of one length
  first-total : (u v : Word) → AllSmall N u → AllSmall N v → length u ≡ length v →
      Either (First N u v) (u ≡ v) (First N v u)
  unfolding AllSmall
  first-total [] [] h k e = inr (inl refl)
  first-total [] (n ∷ v) h k e = absurd (omega arith)
  first-total (m ∷ u) [] h k e = absurd (omega arith)
  first-total (m ∷ u) (n ∷ v) h k e =
      by (move-total m n h.0 k.0) (first-total u v h.1 k.1 (omega arith))
    where
      by : Either (Earlier N m n) (m ≡ n) (Earlier N n m) → Either (First N u v) (u ≡ v) (First N v u) →
          Either (First N (m ∷ u) (n ∷ v)) (m ∷ u ≡ n ∷ v) (First N (n ∷ v) (m ∷ u))
      by (inl d) f = inl (inl d)
      by (inr (inl d)) (inl f) = inl (inr (d, f))
      by (inr (inl d)) (inr (inl f)) = inr (inl (ap₂ (λ a b. a ∷ b) d f))
      by (inr (inl d)) (inr (inr f)) = inr (inr (inr (sym d, f)))
      by (inr (inr d)) f = inr (inr (inl d))

  -- THEOREM: of two different words whose moves have letters, one is before the other
  pub before-total : (u v : Word) → AllSmall N u → AllSmall N v → Before N u v ⊎ ((u ≡ v) ⊎ Before N v u)
  before-total u v h k = by (number-total (length u) (length v))
    where
      even : length u ≡ length v → Either (First N u v) (u ≡ v) (First N v u) →
          Before N u v ⊎ ((u ≡ v) ⊎ Before N v u)
      even e (inl f) = inl (inr (e, f))
      even e (inr (inl f)) = inr (inl f)
      even e (inr (inr f)) = inr (inr (inr (sym e, f)))

      by : Either (length u < length v) (length u ≡ length v) (length v < length u) →
          Before N u v ⊎ ((u ≡ v) ⊎ Before N v u)
      by (inl l) = inl (inl l)
      by (inr (inl e)) = even e (first-total u v h k e)
      by (inr (inr l)) = inr (inr (inl l))
