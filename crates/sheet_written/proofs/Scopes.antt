-- What an id means at a binder and past it.
use Prim.Native.Nat.{ℕ}
use mathlib.Core.Path.{◌≡◌}
use mathlib.Core.List.{List, ◌∷◌}
use lib.ListN.{length}
use borrow.Author.Tests.{eq-eqb, ne_eqb}
use Rattle.sheet_written.specs.Written.{Name}
use Rattle.sheet_written.specs.Meaning.{Binder, a_block, a_parameter, a_procedure}
use Rattle.sheet_written.specs.Meaning.{id_of, meant, meaning}
use Rattle.sheet_written.specs.Like.{IsNamed}

pub unnamed-meant : (k : ℕ) (c : Binder) → IsNamed (meant k c) → ⊥
unfolding IsNamed meant
unnamed-meant k (a_block id d) h = h
unnamed-meant k (a_parameter id ty) h = h
unnamed-meant k (a_procedure id ty tys) h = h

module _ (ns : List Name) where
  -- what a binder means, and what is meant past it
  pub meaning-here : (c : Binder) (bs : List Binder) (id : ℕ) → id_of c ≡ id →
      meaning ns (c ∷ bs) id ≡ meant (length bs) c
  unfolding meaning
  meaning-here c bs id e = rw (eq-eqb (id_of c) id e)

  pub meaning-past : (c : Binder) (bs : List Binder) (id : ℕ) → (id_of c ≡ id → ⊥) →
      meaning ns (c ∷ bs) id ≡ meaning ns bs id
  unfolding meaning
  meaning-past c bs id e = rw (ne_eqb (id_of c) id e)
