-- What document 02 [1] says of procedures holds (specs/Rules).
use Prim.Native.Nat.{ℕ, ◌≤◌, ◌<◌}
use native.Mathlib.Omega.{arith}
use mathlib.Core.Path.{◌≡◌, refl, sym, ap, ◌∙◌, subst}
use mathlib.Core.List.{List, []}
use lib.ListN.{length}
use Rattle.language.specs.Move.{Word}
use Rattle.language.specs.Play.{Complete}
use Rattle.language.specs.Ty.{Ty}
use Rattle.language.specs.Term.{Term}
use Rattle.language.specs.Weight.{weight}
use Rattle.language.specs.declared.Numbers.{Numbers}
use Rattle.sheet_written.specs.Written.{Written, call, Parameter, Writtens, Name, Sheet}
use Rattle.sheet_written.specs.Meaning.{Binder, routine, meaning, inside, after, types_of, typed, ty_of, by_meaning}
use Rattle.sheet_written.specs.Meaning.{no_terms, term_of, type_of}
use Rattle.sheet_written.specs.Weigh.{Weights, weigh, weighed, with-body, with_passed}
use Rattle.sheet_written.specs.Form.{no_forms}
use Rattle.sheet_written.specs.Occurs.{IsParameter}
use Rattle.sheet_written.specs.Rules.{weights_after, Reaches, here, in_block, in_procedure, in_scope, WeightRule}
use Rattle.sheet_written.specs.Rules.{SectionSeven, SameSheets, with_term, UnusedProcedure, UnusedArgument}
use Rattle.sheet_written.proofs.Numbering.{beyond_below, beyond-at}
use Rattle.sheet_written.proofs.Renaming.{length-inside}
use Rattle.sheet_written.proofs.Weighing.{weigh-sheet}
use Rattle.sheet_written.proofs.Reduction.{complete-reduce}
use Rattle.sheet_written.proofs.Alike.{alike-declared}
use Rattle.sheet_written.proofs.Leaving.{left_typed, left-resolve}
use Rattle.sheet_written.proofs.Exchanging.{exchanged-typed, exchanged}

-- a place in the scope of binders has them around it, and their procedures weigh there what they did
record Keeps (bs : List Binder) (ω : Weights) (cs : List Binder) (ψ : Weights) : Type 0 where
  more : length bs ≤ length cs
  bodies : (k : ℕ) → k < length bs → ψ.body k ≡ ω.body k

module _ (N : Numbers) (ns : List Name) (bs : List Binder) (ω : Weights) where
  keeps : {cs : List Binder} {ψ : Weights} → Reaches N ns bs ω cs ψ → Keeps bs ω cs ψ
  unfolding weights_after with-body with_passed after
  keeps here = record { more = omega arith; bodies = λ k h. refl }
  keeps (in_block id d r) = let K = keeps r in record { more = omega (arith, K.more); bodies = K.bodies }
  keeps (in_procedure {cs = cs} ps xs r) =
      let K = keeps r in record { more = omega (arith, K.more, length-inside ps cs); bodies = K.bodies }
  keeps (in_scope {cs = cs} {ψ = ψ} id ty ps body r) =
      let K = keeps r in
      record {
        more = omega (arith, K.more);
        bodies = λ k h. beyond_below (length cs) ψ.body _ k (omega (arith, K.more)) ∙ K.bodies k h;
      }

use-weight : (N : Numbers) (ns : List Name) (bs cs : List Binder) (ω ψ : Weights) (id ty : ℕ) (ps : List Parameter)
    (body : Written) (ws : Writtens) →
    Reaches N ns (after id ty ps bs) (weights_after N ns bs ω ps body) cs ψ →
    meaning ns cs id ≡ routine (length bs) ty (types_of ps) →
    weigh N ns cs ψ (call id ws)
    ≡ weigh N ns (inside ps bs) (with_passed (length bs) (λ j. weighed N ns cs ψ ws j) ω) body
unfolding weigh weights_after with-body after by_meaning
use-weight N ns bs cs ω ψ id ty ps body ws r m =
    let k : ℕ = length bs in
    let p : (ℕ → ℕ) → ℕ = λ xs. weigh N ns (inside ps bs) (with_passed k xs ω) body in
    let K = keeps N ns (after id ty ps bs) (weights_after N ns bs ω ps body) r in
    let e : ψ.body k ≡ p = K.bodies k (omega arith) ∙ beyond-at k ω.body (λ j. p) in
    rw m (ap (λ (f : (ℕ → ℕ) → ℕ). f (λ j. weighed N ns cs ψ ws j)) e)

-- THEOREM (a): weights
pub weight-rule : WeightRule
unfolding weigh weights_after typed
weight-rule = record {
  use_weighs = use-weight;
  scope_weighs = λ N ns bs ω id ty ps body rest. refl;
  scope_type = λ ns bs id ty ps body rest. refl;
  term_weighs = weigh-sheet;
}

-- THEOREM (b): plays
pub section-seven : SectionSeven
unfolding SectionSeven
section-seven = complete-reduce

same-complete : (A B : Ty) (M L : Term) (u : Word) → A ≡ B → M ≡ L → Complete A M u → Complete B L u
same-complete A B M L u e f x = subst (λ (T : Ty). Complete T L u) e (subst (λ (K : Term). Complete A K u) f x)

-- sheets of the same numbers and the same type that stand for the same term
pub same_sheets : (S T : Sheet) → S.numbers ≡ T.numbers → type_of S ≡ type_of T → term_of S ≡ term_of T → SameSheets S T
same_sheets S T n e f =
    let A : Ty = ty_of S.numbers (type_of S) in
    let B : Ty = ty_of T.numbers (type_of T) in
    let g : A ≡ B = ap (λ (N : Numbers). ty_of N (type_of S)) n ∙ ap (λ (ty : ℕ). ty_of T.numbers ty) e in
    record {
      same_type = e;
      same_plays = λ u. (
        λ x. (complete-reduce T u).1 (same-complete A B (term_of S) (term_of T) u g f ((complete-reduce S u).0 x)),
        λ x. (complete-reduce S u).1 (same-complete B A (term_of T) (term_of S) u (sym g) (sym f)
            ((complete-reduce T u).0 x)),
      );
      same_weight = sym (weigh-sheet S) ∙ ap weight f ∙ weigh-sheet T;
    }

-- THEOREM (c): what is not used
pub unused-procedure : UnusedProcedure
unfolding UnusedProcedure with_term term_of type_of
unused-procedure S W h =
    same_sheets S (with_term S W) refl (left_typed S.numbers S.names h [] no_terms)
    (left-resolve S.numbers S.names h [] no_terms 0)

pub unused-argument : UnusedArgument
unfolding UnusedArgument with_term term_of type_of IsParameter meaning
unused-argument S W h =
    same_sheets S (with_term S W) refl (exchanged-typed S.numbers S.names h)
    (exchanged S.numbers S.names h no_terms no_terms
    (λ id. alike-declared no_forms [] no_terms no_terms S.names id) (λ s z. absurd z) 0)
