-- Equivalences put together.
use mathlib.Core.Logic.{◌↔◌}

infixr 20 ◌▸◌
-- one after another
pub ◌▸◌ : {A B C : Type 0} → A ↔ B → B ↔ C → A ↔ C
f ▸ g = (λ a. g.0 (f.0 a), λ c. f.1 (g.1 c))

-- in the second part of a pair, and in the third of a triple
pub each : {X : Type 0} {A B : X → Type 0} → ((x : X) → A x ↔ B x) → ((x : X) × A x) ↔ ((x : X) × B x)
each f = (λ p. (p.0, (f p.0).0 p.1), λ p. (p.0, (f p.0).1 p.1))

pub over : {X : Type 0} {A B C : X → Type 0} → ((x : X) → B x ↔ C x) →
    ((x : X) × A x × B x) ↔ ((x : X) × A x × C x)
over f = (λ p. (p.0, p.1, (f p.0).0 p.2), λ p. (p.0, p.1, (f p.0).1 p.2))
