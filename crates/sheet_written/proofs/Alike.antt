-- Two environments that are alike where a form has a coefficient. Document 02 [1].
use Prim.Native.Nat.{ℕ, suc, ◌+◌, ◌<◌}
use native.Mathlib.Omega.{arith}
use native.Mathlib.Nat.{mul-pos}
use mathlib.Core.Path.{◌≡◌, sym, ap, ◌∙◌}
use mathlib.Core.Logic.{◌⊎◌, inl, inr}
use mathlib.Core.List.{List, [], ◌∷◌}
use lib.ListN.{length}
use Rattle.language.specs.Term.{Term}
use Rattle.sheet_written.specs.Written.{Parameter, Name}
use Rattle.sheet_written.specs.Meaning.{Binder, a_block, a_parameter, a_procedure, Meaning, private, argument}
use Rattle.sheet_written.specs.Meaning.{routine, named, retired, free, declared, inside, after, Terms, with-level}
use Rattle.sheet_written.specs.Meaning.{with-body}
use Rattle.sheet_written.specs.Form.{Form, plus, times, instance, Forms}
use Rattle.sheet_written.specs.Occurs.{IsParameter, Each}
use Rattle.sheet_written.proofs.Numbering.{all-declared, Below}
use Rattle.sheet_written.proofs.Factors.{summand}

-- two environments agree on the enclosing parameters that f has a coefficient for
abbrev pub Alike : List Binder → Form → Terms → Terms → Type 0
Alike bs f ρ σ = Each bs f (λ s. (n : ℕ) → ρ.passed s n ≡ σ.passed s n)

-- two environments are alike for what is meant
unfoldable pub Alike-right : Forms → List Binder → Terms → Terms → Meaning → Type 0
Alike-right φ bs ρ σ (private k d) = ρ.level k ≡ σ.level k
Alike-right φ bs ρ σ (argument k ty) = IsParameter bs k
Alike-right φ bs ρ σ (routine k ty tys) =
    (xs ys : ℕ → ℕ → Term) →
    ((s : ℕ) → IsParameter bs s → s < k → 0 < (φ.form k).of s → (n : ℕ) → ρ.passed s n ≡ σ.passed s n) →
    ((j : ℕ) → j < φ.count k → 0 < (φ.form k).of (k + j) → (n : ℕ) → xs j n ≡ ys j n) →
    (n : ℕ) → ρ.body k xs n ≡ σ.body k ys n
Alike-right φ bs ρ σ (named often ty tys) = Unit
Alike-right φ bs ρ σ retired = Unit
Alike-right φ bs ρ σ free = Unit

-- environments that agree below k
pub record Agree (k : ℕ) (φ ψ : Forms) (ρ σ ρ' σ' : Terms) : Type 0 where
  pub forms : (j : ℕ) → j < k → ψ.form j ≡ φ.form j
  pub counts : (j : ℕ) → j < k → ψ.count j ≡ φ.count j
  pub levels : (j : ℕ) → j < k → ρ'.level j ≡ ρ.level j
  pub levels' : (j : ℕ) → j < k → σ'.level j ≡ σ.level j
  pub passeds : (j : ℕ) → j < k → ρ'.passed j ≡ ρ.passed j
  pub passeds' : (j : ℕ) → j < k → σ'.passed j ≡ σ.passed j
  pub bodies : (j : ℕ) → j < k → ρ'.body j ≡ ρ.body j
  pub bodies' : (j : ℕ) → j < k → σ'.body j ≡ σ.body j

pub alike-agree : (n : ℕ) (φ ψ : Forms) (bs : List Binder) (ρ σ ρ' σ' : Terms) (m : Meaning) → Agree n φ ψ ρ σ ρ' σ' →
    Below n m → Alike-right φ bs ρ σ m → Alike-right ψ bs ρ' σ' m
unfolding Alike-right Below
alike-agree n φ ψ bs ρ σ ρ' σ' (private k d) a b h = rw (a.levels k b, a.levels' k b) h
alike-agree n φ ψ bs ρ σ ρ' σ' (argument k ty) a b h = h
alike-agree n φ ψ bs ρ σ ρ' σ' (routine k ty tys) a b h = λ xs ys p q i.
    rw (a.bodies k b, a.bodies' k b)
    (h xs ys
    (λ s z l g j. ap (λ x. x j) (sym (a.passeds s (omega arith)))
    ∙ p s z l (rw (a.forms k b) g) j ∙ ap (λ x. x j) (a.passeds' s (omega arith)))
    (λ j l g. q j (rw (a.counts k b) l) (rw (a.forms k b) g))
    i)
alike-agree n φ ψ bs ρ σ ρ' σ' (named often ty tys) a b h = tt
alike-agree n φ ψ bs ρ σ ρ' σ' retired a b h = tt
alike-agree n φ ψ bs ρ σ ρ' σ' free a b h = tt

pub parameter-more : (c : Binder) (bs : List Binder) (s : ℕ) → IsParameter bs s → IsParameter (c ∷ bs) s
unfolding IsParameter
parameter-more (a_block id d) bs s h = h
parameter-more (a_parameter id ty) bs s h = inr h
parameter-more (a_procedure id ty tys) bs s h = h

pub alike-more : (φ : Forms) (c : Binder) (bs : List Binder) (ρ σ : Terms) (m : Meaning) → Alike-right φ bs ρ σ m →
    Alike-right φ (c ∷ bs) ρ σ m
unfolding Alike-right
alike-more φ c bs ρ σ (private k d) h = h
alike-more φ c bs ρ σ (argument k ty) h = parameter-more c bs k h
alike-more φ c bs ρ σ (routine k ty tys) h = λ xs ys p q n. h xs ys (λ s z. p s (parameter-more c bs s z)) q n
alike-more φ c bs ρ σ (named often ty tys) h = tt
alike-more φ c bs ρ σ retired h = tt
alike-more φ c bs ρ σ free h = tt

pub alike-declared : (φ : Forms) (bs : List Binder) (ρ σ : Terms) (ns : List Name) (id : ℕ) →
    Alike-right φ bs ρ σ (declared ns id)
unfolding Alike-right
alike-declared φ bs ρ σ ns id = all-declared (Alike-right φ bs ρ σ) ns id (λ often ty tys. tt) tt tt

-- the parameters inside a procedure: those outside, and its own
pub inside-parameter : (ps : List Parameter) (bs : List Binder) (s : ℕ) → IsParameter (inside ps bs) s →
    IsParameter bs s ⊎ ((j : ℕ) × (j < length ps) × (s ≡ length bs + j))
unfolding inside IsParameter
inside-parameter [] bs s h = inl h
inside-parameter (p ∷ ps) bs s h = go (inside-parameter ps (a_parameter p.id p.holds ∷ bs) s h)
  where
    go : ((s ≡ length bs) ⊎ IsParameter bs s) ⊎ ((j : ℕ) × (j < length ps) × (s ≡ suc (length bs) + j)) →
        IsParameter bs s ⊎ ((j : ℕ) × (j < suc (length ps)) × (s ≡ length bs + j))
    go (inl (inl e)) = inr (0, omega arith, omega arith)
    go (inl (inr x)) = inl x
    go (inr (j, l, e)) = inr (suc j, omega arith, omega arith)

pub parameter-below : (bs : List Binder) (s : ℕ) → IsParameter bs s → s < length bs
unfolding IsParameter
parameter-below [] s h = absurd h
parameter-below (a_block id d ∷ bs) s h = omega (arith, parameter-below bs s h)
parameter-below (a_parameter id ty ∷ bs) s (inl e) = omega arith
parameter-below (a_parameter id ty ∷ bs) s (inr h) = omega (arith, parameter-below bs s h)
parameter-below (a_procedure id ty tys ∷ bs) s h = omega (arith, parameter-below bs s h)

-- of a sum: of both
pub each_left : (bs : List Binder) (f g : Form) {P : ℕ → Type 0} → Each bs (plus f g) P → Each bs f P
unfolding plus
each_left bs f g a s z l = a s z (omega arith)

pub each_right : (bs : List Binder) (f g : Form) {P : ℕ → Type 0} → Each bs (plus f g) P → Each bs g P
unfolding plus
each_right bs f g a s z l = a s z (omega arith)

pub each-times : (bs : List Binder) (c : ℕ) (f : Form) {P : ℕ → Type 0} → 0 < c → Each bs (times c f) P → Each bs f P
unfolding times
each-times bs c f h a s z l = a s z (mul-pos h l)

-- of a use: of the arguments that the procedure uses
pub each-argument : (bs : List Binder) (k m : ℕ) (f : Form) (fs : ℕ → Form) {P : ℕ → Type 0} (j : ℕ) → j < m →
    0 < f.of (k + j) → Each bs (instance k m f fs) P → Each bs (fs j) P
unfolding instance plus
each-argument bs k m f fs j b u a s z l = a s z (omega (arith, summand m (λ x. f.of (k + x)) fs s j b u l))

pub alike-level : (id d n : ℕ) (bs : List Binder) (f : Form) (ρ σ : Terms) → Alike bs f ρ σ →
    Alike (a_block id d ∷ bs) f (with-level (length bs) n ρ) (with-level (length bs) n σ)
unfolding IsParameter with-level
alike-level id d n bs f ρ σ a = a

pub alike-body : (id ty : ℕ) (ps : List Parameter) (bs : List Binder) (f : Form) (ρ σ : Terms)
    (p q : (ℕ → ℕ → Term) → ℕ → Term) →
    Alike bs f ρ σ → Alike (after id ty ps bs) f (with-body (length bs) p ρ) (with-body (length bs) q σ)
unfolding IsParameter with-body after
alike-body id ty ps bs f ρ σ p q a = a
