-- The plays of a part in its blocks and those of the part as a sheet of its own: the moves at a private variable stand
-- in the second at the name that it is declared as. Operations on languages keep such a correspondence.
use Prim.Native.Nat.{ℕ, zero, suc, ◌+◌, ◌<◌}
use native.Mathlib.Omega.{arith}
use mathlib.Core.Path.{◌≡◌, refl, sym, ap, ap₂, ◌∙◌, subst}
use mathlib.Core.Logic.{◌⊎◌, inl, inr}
use mathlib.Core.List.{List, [], ◌∷◌, ◌++◌}
use lib.ListN.{length}
use Rattle.language.specs.Ty.{Question, Answer}
use Rattle.language.specs.Term.{Often, freely, once}
use Rattle.language.specs.Move.{Event, question, answer, Place, at, private, Move, move, Word}
use Rattle.language.specs.Play.{Cat, Star, end, more, AtMostOne, none, one, AsOften, Use, kept, hide, Stable}
use Rattle.sheet_written.specs.Written.{Name}
use Rattle.sheet_written.specs.Meaning as meant
use Rattle.sheet_written.specs.Meaning.{Binder, named, meaning}

-- every word of L has a word of L' beside it
abbrev pub Into : (Word → Word → Type 0) → (Word → Type 0) → (Word → Type 0) → Type 0
Into Q L L' = (u : Word) → L u → (w : Word) × Q u w × L' w

-- words that stand beside each other may be joined
pub record Joins (Q : Word → Word → Type 0) : Type 0 where
  pub empty : Q [] []
  pub join : (u w u' w' : Word) → Q u w → Q u' w' → Q (u ++ u') (w ++ w')

module _ (Q : Word → Word → Type 0) (J : Joins Q) where
  cat-into : {L L' R R' : Word → Type 0} → Into Q L L' → Into Q R R' → Into Q (Cat L R) (Cat L' R')
  cat-into f g u (l, r, e, x, y) =
      let (l', s, x') = f l x in
      let (r', t, y') = g r y in
      (l' ++ r', subst (λ z. Q z (l' ++ r')) (sym e) (J.join l l' r r' s t), (l', r', refl, x', y'))

  star-into : {L L' : Word → Type 0} → Into Q L L' → Into Q (Star L) (Star L')
  star-into f u end = ([], J.empty, end)
  star-into f u' (more {u = u} {v = v} x s) =
      let (w, t, y) = f u x in
      let (w', t', y') = star-into f v s in
      (w ++ w', J.join u w v w' t t', more y y')

  one-into : {L L' : Word → Type 0} → Into Q L L' → Into Q (AtMostOne L) (AtMostOne L')
  one-into f u none = ([], J.empty, none)
  one-into f u' (one {u = u} x) = let (w, t, y) = f u x in (w, t, one y)

  use-into : {L L' : ℕ → Question → Answer → Word → Type 0} (i : ℕ) →
      ((j : ℕ) (e : Event) → Q (move (at i j) e ∷ []) (move (at i j) e ∷ [])) →
      ((j : ℕ) (q : Question) (a : Answer) → Into Q (L j q a) (L' j q a)) → Into Q (Use i L) (Use i L')
  use-into i same f u (j, q, a, v, x, e) =
      let (w, t, y) = f j q a v x in
      let p : Move = move (at i (suc j)) (question q) in
      let r : Move = move (at i (suc j)) (answer a) in (
        p ∷ (w ++ (r ∷ [])),
        subst (λ z. Q z (p ∷ (w ++ (r ∷ [])))) (sym e)
            (J.join (p ∷ []) (p ∷ []) (v ++ (r ∷ [])) (w ++ (r ∷ [])) (same (suc j) (question q))
            (J.join v w (r ∷ []) (r ∷ []) t (same (suc j) (answer a)))),
        (j, q, a, w, y, refl),
      )

star-nothing : {L : Word → Type 0} {v : Word} → ((u : Word) → L u → ⊥) → Star L v → v ≡ []
star-nothing f end = refl
star-nothing f (more {u = u} x s) = absurd (f u x)

pub uses-nothing : (o : Often) {L : Word → Type 0} {v : Word} → ((u : Word) → L u → ⊥) → AsOften o L v → v ≡ []
unfolding AsOften
uses-nothing freely f s = star-nothing f s
uses-nothing once {L} {v} f s = go s
  where
    go : {v : Word} → AtMostOne L v → v ≡ []
    go none = refl
    go (one {u = u} x) = absurd (f u x)

pub no_uses : (o : Often) (L : Word → Type 0) → AsOften o L []
unfolding AsOften
no_uses freely L = end
no_uses once L = none

number_of : {k k' d d' : ℕ} → meant.private k d ≡ meant.private k' d' → k ≡ k'
number_of e = cc

unlike : {k d ty : ℕ} {o : Often} {tys : List ℕ} → meant.private k d ≡ named o ty tys → ⊥
unlike e = let z : ◌≡◌ {A = ℕ} 0 1 = cc in absurd (omega arith)

-- what follows speaks of a part that stands in the scope of names and in blocks, and of n more blocks around a place
-- inside it
module _ (ns : List Name) (bs : List Binder) where
  -- a place in the part and the same place in the part's own sheet
  pub data Shown (n : ℕ) : Place → Place → Type 0 where
    -- a private variable of the part itself
    inner : {i : ℕ} → i < n → Shown n (private i) (private i)
    -- one whose block encloses the part: the name that it is declared as
    outer : {id i k d : ℕ} → meaning ns bs id ≡ meant.private k d → k < length bs → i + suc k ≡ n + length bs →
        Shown n (private i) (at id 0)
    name : {id j ty : ℕ} {o : Often} {tys : List ℕ} → meaning ns bs id ≡ named o ty tys → Shown n (at id j) (at id j)

  -- a word in the part and the same word in the part's own sheet
  pub data Shows (n : ℕ) : Word → Word → Type 0 where
    nothing : Shows n [] []
    next : {p r : Place} {e : Event} {u w : Word} → Shown n p r → Shows n u w →
        Shows n (move p e ∷ u) (move r e ∷ w)

  shows-join : (n : ℕ) (u w u' w' : Word) → Shows n u w → Shows n u' w' → Shows n (u ++ u') (w ++ w')
  shows-join n u₀ w₀ u' w' nothing t = t
  shows-join n u₀ w₀ u' w' (next {u = u} {w = w} h s) t = next h (shows-join n u w u' w' s t)

  -- the same, from the part's own sheet
  abbrev Back : ℕ → Word → Word → Type 0
  Back n w u = Shows n u w

  joins : (n : ℕ) → Joins (Shows n)
  joins n = record { empty = nothing; join = shows-join n }

  joins-back : (n : ℕ) → Joins (Back n)
  joins-back n = record { empty = nothing; join = λ u w u' w' s t. shows-join n w u w' u' s t }

  -- the words of one correspond to those of the other
  abbrev pub Match : ℕ → (Word → Type 0) → (Word → Type 0) → Type 0
  Match n L L' = Into (Shows n) L L' × Into (Back n) L' L

  pub cat-match : (n : ℕ) {L L' R R' : Word → Type 0} → Match n L L' → Match n R R' → Match n (Cat L R) (Cat L' R')
  cat-match n f g = (cat-into (Shows n) (joins n) f.0 g.0, cat-into (Back n) (joins-back n) f.1 g.1)

  pub star-match : (n : ℕ) {L L' : Word → Type 0} → Match n L L' → Match n (Star L) (Star L')
  star-match n f = (star-into (Shows n) (joins n) f.0, star-into (Back n) (joins-back n) f.1)

  -- as often as a name may ask
  pub uses-match : (n : ℕ) (o : Often) {L L' : Word → Type 0} → Match n L L' → Match n (AsOften o L) (AsOften o L')
  unfolding AsOften
  uses-match n freely f = star-match n f
  uses-match n once f = (one-into (Shows n) (joins n) f.0, one-into (Back n) (joins-back n) f.1)

  -- of a declared name
  pub use-match : (n i : ℕ) (o : Often) (ty : ℕ) (tys : List ℕ) {L L' : ℕ → Question → Answer → Word → Type 0} →
      meaning ns bs i ≡ named o ty tys → ((j : ℕ) (q : Question) (a : Answer) → Match n (L j q a) (L' j q a)) →
      Match n (Use i L) (Use i L')
  use-match n i o ty tys h f = (
    use-into (Shows n) (joins n) i (λ j e. next (name h) nothing) (λ j q a. (f j q a).0),
    use-into (Back n) (joins-back n) i (λ j e. next (name h) nothing) (λ j q a. (f j q a).1),
  )

  pub sum-match : (n : ℕ) {L L' R R' : Word → Type 0} → Match n L L' → Match n R R' →
      Match n (λ u. L u ⊎ R u) (λ u. L' u ⊎ R' u)
  sum-match n {L} {L'} {R} {R'} f g = (forth, back)
    where
      forth : Into (Shows n) (λ u. L u ⊎ R u) (λ u. L' u ⊎ R' u)
      forth u (inl x) = let (w, s, y) = f.0 u x in (w, s, inl y)
      forth u (inr x) = let (w, s, y) = g.0 u x in (w, s, inr y)

      back : Into (Back n) (λ u. L' u ⊎ R' u) (λ u. L u ⊎ R u)
      back u (inl x) = let (w, s, y) = f.1 u x in (w, s, inl y)
      back u (inr x) = let (w, s, y) = g.1 u x in (w, s, inr y)

  -- one word each
  word-match : {n : ℕ} {A B : Type 0} {v w : Word} → Shows n v w → (A → B) → (B → A) →
      Match n (λ u. A × (u ≡ v)) (λ u. B × (u ≡ w))
  word-match {n} {A} {B} {v} {w} s f g = (
    λ u (a, e). (w, subst (λ z. Shows n z w) (sym e) s, (f a, refl)),
    λ u (b, e). (v, subst (λ z. Shows n v z) (sym e) s, (g b, refl)),
  )

  pub empty-match : (n : ℕ) (A : Type 0) → Match n (λ u. A × (u ≡ [])) (λ u. A × (u ≡ []))
  empty-match n A = word-match nothing (λ a. a) (λ a. a)

  pub pair-match : {n : ℕ} {A B : Type 0} {p r : Place} (e f : Event) → Shown n p r → (A → B) → (B → A) →
      Match n (λ u. A × (u ≡ move p e ∷ move p f ∷ [])) (λ u. B × (u ≡ move r e ∷ move r f ∷ []))
  pair-match e f h = word-match (next h (next h nothing))

  pub none-match : (n : ℕ) → Match n (λ u. ⊥) (λ u. ⊥)
  none-match n = (λ u x. absurd x, λ u x. absurd x)

  -- between a question to a declared name and its answer
  pub call-match : (n i : ℕ) (o : Often) (ty : ℕ) (tys : List ℕ) (q a : Event) {A : Type 0} {L L' : Word → Type 0} →
      meaning ns bs i ≡ named o ty tys → Match n L L' →
      Match n (λ u. A × (v : Word) × L v × (u ≡ move (at i 0) q ∷ (v ++ (move (at i 0) a ∷ []))))
      (λ u. A × (v : Word) × L' v × (u ≡ move (at i 0) q ∷ (v ++ (move (at i 0) a ∷ []))))
  call-match n i o ty tys q a h f =
      let p : Word = move (at i 0) q ∷ [] in
      let r : Word = move (at i 0) a ∷ [] in (
        λ u (b, v, x, e). let (w, s, y) = f.0 v x in (
          p ++ (w ++ r),
          subst (λ z. Shows n z (p ++ (w ++ r))) (sym e)
              (next (name h) (shows-join n v w r r s (next (name h) nothing))),
          (b, w, y, refl),
        ),
        λ u (b, v, x, e). let (w, s, y) = f.1 v x in (
          p ++ (w ++ r),
          subst (λ z. Shows n (p ++ (w ++ r)) z) (sym e)
              (next (name h) (shows-join n w v r r s (next (name h) nothing))),
          (b, w, y, refl),
        ),
      )

  -- the innermost private variable: the same happens there, and its moves are hidden from both
  shows_kept : (n : ℕ) (u w : Word) → Shows (suc n) u w → kept u ≡ kept w
  unfolding kept
  shows_kept n u₀ w₀ nothing = refl
  shows_kept n u₀ w₀ (next {e = e} {u = u} {w = w} (inner {i = zero} l) s) =
      ap (λ (es : List Event). e ∷ es) (shows_kept n u w s)
  shows_kept n u₀ w₀ (next {u = u} {w = w} (inner {i = suc i} l) s) = shows_kept n u w s
  shows_kept n u₀ w₀ (next (outer {i = zero} h b f) s) = absurd (omega arith)
  shows_kept n u₀ w₀ (next {u = u} {w = w} (outer {i = suc i} h b f) s) = shows_kept n u w s
  shows_kept n u₀ w₀ (next {u = u} {w = w} (name h) s) = shows_kept n u w s

  shows-hide : (n : ℕ) (u w : Word) → Shows (suc n) u w → Shows n (hide u) (hide w)
  unfolding hide
  shows-hide n u₀ w₀ nothing = nothing
  shows-hide n u₀ w₀ (next {u = u} {w = w} (inner {i = zero} l) s) = shows-hide n u w s
  shows-hide n u₀ w₀ (next {u = u} {w = w} (inner {i = suc i} l) s) =
      next (inner {i = i} (omega arith)) (shows-hide n u w s)
  shows-hide n u₀ w₀ (next (outer {i = zero} h b f) s) = absurd (omega arith)
  shows-hide n u₀ w₀ (next {u = u} {w = w} (outer {i = suc i} h b f) s) =
      next (outer {i = i} h b (omega arith)) (shows-hide n u w s)
  shows-hide n u₀ w₀ (next {u = u} {w = w} (name h) s) = next (name h) (shows-hide n u w s)

  -- the words of a block, of those of its command
  abbrev pub Hidden : ℕ → (Word → Type 0) → Word → Type 0
  Hidden m L u = (v : Word) × L v × Stable m 0 (kept v) × (u ≡ hide v)

  pub hidden-match : (n m : ℕ) {L L' : Word → Type 0} → Match (suc n) L L' → Match n (Hidden m L) (Hidden m L')
  hidden-match n m f = (
    λ u (v, x, s, e). let (w, t, y) = f.0 v x in (
      hide w,
      subst (λ z. Shows n z (hide w)) (sym e) (shows-hide n v w t),
      (w, y, subst (Stable m 0) (shows_kept n v w t) s, refl),
    ),
    λ u (v, x, s, e). let (w, t, y) = f.1 v x in (
      hide w,
      subst (λ z. Shows n (hide w) z) (sym e) (shows-hide n w v t),
      (w, y, subst (Stable m 0) (sym (shows_kept n w v t)) s, refl),
    ),
  )

  -- a word of the part's own sheet stands for one word
  shown-one : {n : ℕ} {p r s : Place} → Shown n p s → Shown n r s → p ≡ r
  shown-one (inner l) (inner m) = refl
  shown-one (outer {k = k} {d = d} h b f) (outer {k = k'} {d = d'} h' b' f') =
      let e : k ≡ k' = number_of (sym h ∙ h') in
      ap private (omega arith)
  shown-one (outer h b f) (name h') = absurd (unlike (sym h ∙ h'))
  shown-one (name h) (outer h' b f) = absurd (unlike (sym h' ∙ h))
  shown-one (name h) (name h') = refl

  pub shows-one : {n : ℕ} {u v w : Word} → Shows n u w → Shows n v w → u ≡ v
  shows-one nothing nothing = refl
  shows-one (next {e = e} h s) (next h' s') = ap₂ (λ p u. move p e ∷ u) (shown-one h h') (shows-one s s')
