-- Demand 3, the length rules, proved for all sheets in order.
use Prim.Native.Nat.{◌+◌, ◌-◌, ◌≤◌}
use native.Mathlib.Omega.{arith}
use mathlib.Core.Path.{◌≡◌, sym, ap₂, subst}
use mathlib.Core.Logic.{◌↔◌}
use mathlib.Core.List.{[]}
use lib.ListN.{length}
use Rattle.language.specs.Typing.{Typed}
use Rattle.language.specs.Move.{Word}
use Rattle.language.specs.Play.{Complete}
use Rattle.language.specs.Weight.{size}
use Rattle.states_machine.specs.Range.{InRange}
use Rattle.sheet_written.specs.Written.{Sheet}
use Rattle.sheet_written.specs.Meaning.{ty_of, term_of, type_of}
use Rattle.sheet_written.proofs.WellTyped.{order-typed}
use Rattle.states_words.proofs.Ranges.{type_in, order-range}
use Rattle.serve_compare.specs.Demands.{Comparable, DifferShort, PlayShort}
use Rattle.serve_compare.specs.Plays.{whole_type, Only}
use Rattle.serve_compare.proofs.Lengths.{differ-short, play-short}
use Rattle.serve_compare.proofs.Exactly.{not_alike}
use Rattle.sheet_records.specs.declared.refusal.Sheets.TheVariants.{Old, New}

-- comparable sheets have terms of one type
one_type : (S T : Sheet) → Comparable S T → whole_type S ≡ whole_type T
one_type S T c = ap₂ ty_of c.numbers c.types

-- THEOREM: the plays are the same exactly when no play of at most S + T - 1 moves belongs to exactly one
pub differs : DifferShort
unfolding Only
differs S T A B c = (
  (λ h which u l o. not_alike which S T u o (h u)),
  (λ none. subst (λ X.
      ((u : Word) → length u ≤ size (whole_type S) (term_of S) + size X (term_of T) - 1 →
      Complete (whole_type S) (term_of S) u → (Complete X (term_of T) u → ⊥) → ⊥) →
      ((u : Word) → length u ≤ size (whole_type S) (term_of S) + size X (term_of T) - 1 →
      Complete X (term_of T) u → (Complete (whole_type S) (term_of S) u → ⊥) → ⊥) →
      (u : Word) → Complete (whole_type S) (term_of S) u ↔ Complete X (term_of T) u)
      (one_type S T c)
      (differ-short (whole_type S) (term_of S) (term_of T) S.numbers (omega (arith, A.z_below))
      (order-typed S A) typed (type_in S.numbers A.z_above (type_of S))
      (order-range S A) in-range)
      (λ u l p q. none Old u l (p, q)) (λ u l p q. none New u l (p, q))),
)
  where
    typed : Typed [] (term_of T) (whole_type S)
    typed = subst (λ X. Typed [] (term_of T) X) (sym (one_type S T c)) (order-typed T B)

    in-range : InRange S.numbers (term_of T)
    in-range = subst (λ N. InRange N (term_of T)) (sym c.numbers) (order-range T B)

-- THEOREM: a sheet has a complete play exactly when it has one of at most S - 1 moves
pub plays : PlayShort
plays S A = (
  (λ p. play-short (whole_type S) (term_of S) S.numbers (omega (arith, A.z_below)) (order-typed S A)
      (type_in S.numbers A.z_above (type_of S)) (order-range S A) p.0 p.1),
  (λ p. (p.0, p.1.0)),
)
