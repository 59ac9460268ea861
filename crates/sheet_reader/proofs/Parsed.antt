-- A reading spelled out: which record stands where, what its parts are, and its type. The reader's laws go through it.
use Prim.Native.Nat.{ℕ, suc, ◌+◌, ◌-◌, ◌≤◌, ◌<◌}
use mathlib.Core.Path.{◌≡◌}
use mathlib.Core.Bool.{true}
use mathlib.Core.List.{List, [], ◌∷◌, ◌++◌}
use lib.ListN.{length, get_or, drop}
use Rattle.language.specs.Number.{in_range}
use Rattle.language.specs.declared.Numbers.{Numbers}
use Rattle.language.specs.Term.{Often, onces}
use Rattle.sheet_records.specs.Standing.{variable_standing, parameter_standing, procedure_standing, declared_standing}
use Rattle.sheet_parts.specs.Rule.{operand_type, result_type}
use Rattle.sheet_records.specs.declared.edition.Edition.{Edition}
use Rattle.sheet_records.specs.declared.edition.Edition.TheVariants.{Present}
use Rattle.sheet_records.specs.declared.kind.Rule.{Rule}
use Rattle.sheet_records.specs.declared.kind.Rule.TheVariants.{Skip, Diverge, Truth, Number, Use, Fetch, Operate, Assign}
use Rattle.sheet_records.specs.declared.kind.Rule.TheVariants.{Sequence, If, While, New, Procedure}
use Rattle.sheet_heads.specs.declared.head.Record.{Record}
use Rattle.sheet_written.specs.Environment.{beyond}
use Rattle.sheet_written.specs.Written.{Name, Parameter}
use Rattle.sheet_written.specs.Meaning.{Binder, a_block, private, argument, routine, named, free, declared, meaning}
use Rattle.sheet_written.specs.Meaning.{inside, after}
use Rattle.sheet_written.specs.Fine.{FineParameters}
use Rattle.sheet_written.specs.Hiding.{Unheld, ApartParameters}
use Rattle.sheet_reader.specs.Encoding.{pairs}
use Rattle.sheet_reader.specs.Reader.{Tree, node, Trees, leaf, branch, parameters_of}

-- the byte at a place
abbrev pub Byte : List ℕ → ℕ → ℕ → Type 0
Byte s at b = (at < length s) × (get_or s at 0 ≡ b)

-- a record of a kind at a place, with a body of so many bytes
pub record Stands (s : List ℕ) (r : Record) (at kind body : ℕ) (rule : Rule) : Type 0 where
  pub byte : Byte s at kind
  pub place : r.place ≡ at
  pub kinded : r.kind ≡ kind
  pub ruled : r.rule ≡ rule
  pub next : r.next ≡ at + 1 + body

-- the pairs of the procedure at a place, n of them used
pub record Pairs (s : List ℕ) (ns : List Name) (at n : ℕ) (ps : List Parameter) : Type 0 where
  pub are : parameters_of n (drop (at + 4) s) ≡ ps
  pub counted : length ps ≡ n
  pub within : at + 12 ≤ length s
  pub bytes : drop (at + 4) s ≡ pairs 4 ps ++ drop (at + 12) s
  pub fine : FineParameters ns [] ps

-- at most `left` levels deep, inside the binders bs, where π says at which places the records of the procedures stand,
-- by their numbers: the part at a place, its type and the place after it, read by the rule of an edition
module _ (ed : Edition) (N : Numbers) (s : List ℕ) (ns : List Name) where
  mutual
    pub data Parsed : ℕ → List Binder → (ℕ → ℕ) → ℕ → Tree → ℕ → ℕ → Type 0 where
      p-skip : {left at : ℕ} {bs : List Binder} {π : ℕ → ℕ} {r : Record} → Stands s r at 16 0 Skip →
          Parsed (suc left) bs π at (node r 0 (length bs) (at + 1) leaf) 0 (at + 1)
      p-diverge : {left at : ℕ} {bs : List Binder} {π : ℕ → ℕ} {r : Record} → Stands s r at 17 1 Diverge →
          Byte s (at + 1) r.a → r.a < 5 →
          Parsed (suc left) bs π at (node r r.a (length bs) (at + 2) leaf) r.a (at + 2)
      p-truth : {left at : ℕ} {bs : List Binder} {π : ℕ → ℕ} {r : Record} → Stands s r at 18 1 Truth →
          Byte s (at + 1) r.a → r.a < 2 → Parsed (suc left) bs π at (node r 1 (length bs) (at + 2) leaf) 1 (at + 2)
      p-number : {left at : ℕ} {bs : List Binder} {π : ℕ → ℕ} {r : Record} → Stands s r at 19 1 Number →
          Byte s (at + 1) r.a → r.a < 256 → in_range N r.a ≡ true →
          Parsed (suc left) bs π at (node r 2 (length bs) (at + 2) leaf) 2 (at + 2)
      p-private : {left at k h : ℕ} {bs : List Binder} {π : ℕ → ℕ} {r : Record} → Stands s r at 20 1 Use →
          Byte s (at + 1) r.a → r.a < 255 → meaning ns bs r.a ≡ private k h → 0 < h → h < 3 → k < 128 →
          r.b ≡ variable_standing k h →
          Parsed (suc left) bs π at (node r (2 + h) (length bs) (at + 2) leaf) (2 + h) (at + 2)
      p-parameter : {left at k ty : ℕ} {bs : List Binder} {π : ℕ → ℕ} {r : Record} → Stands s r at 20 1 Use →
          Byte s (at + 1) r.a → r.a < 255 → meaning ns bs r.a ≡ argument k ty → ty < 5 → k < 128 →
          r.b ≡ parameter_standing k ty →
          Parsed (suc left) bs π at (node r ty (length bs) (at + 2) leaf) ty (at + 2)
      p-use : {left at k ty next : ℕ} {tys : List ℕ} {bs : List Binder} {π : ℕ → ℕ} {r : Record} {ts : Trees} →
          Stands s r at 20 1 Use → Byte s (at + 1) r.a → r.a < 255 → meaning ns bs r.a ≡ routine k ty tys →
          ty < 5 → r.parts ≡ length tys → length tys < 5 → k < 128 → π k < 4096 → r.b ≡ procedure_standing k (π k) →
          ParsedArgs left bs π (at + 2) ts tys next →
          Parsed (suc left) bs π at (node r ty (length bs) next ts) ty next
      p-name : {left at place ty next : ℕ} {often : Often} {tys : List ℕ} {bs : List Binder} {π : ℕ → ℕ} {r : Record}
          {ts : Trees} → Stands s r at 20 1 Use → Byte s (at + 1) r.a → r.a < 255 →
          meaning ns bs r.a ≡ named often ty tys → ty < 5 → r.parts ≡ length tys → length tys < 5 →
          place < 4096 → r.b ≡ declared_standing place (onces often) →
          ParsedArgs left bs π (at + 2) ts tys next →
          Parsed (suc left) bs π at (node r ty (length bs) next ts) ty next
      p-fetch : {left at ty next : ℕ} {bs : List Binder} {π : ℕ → ℕ} {r : Record} {t : Tree} →
          Stands s r at 21 0 Fetch → Parsed left bs π (at + 1) t ty next → 3 ≤ ty →
          Parsed (suc left) bs π at (node r (ty - 2) (length bs) next (branch (at + 1) t leaf)) (ty - 2) next
      p-operate : {left at mid next : ℕ} {bs : List Binder} {π : ℕ → ℕ} {r : Record} {t u : Tree} →
          Stands s r at 22 1 Operate → Byte s (at + 1) r.a → r.a < 9 →
          Parsed left bs π (at + 2) t (operand_type r.a) mid → Parsed left bs π mid u (operand_type r.a) next →
          Parsed (suc left) bs π at
          (node r (result_type r.a) (length bs) next (branch (at + 2) t (branch mid u leaf))) (result_type r.a) next
      p-assign : {left at ty mid next : ℕ} {bs : List Binder} {π : ℕ → ℕ} {r : Record} {t u : Tree} →
          Stands s r at 23 0 Assign → Parsed left bs π (at + 1) t (ty + 2) mid → 0 < ty →
          Parsed left bs π mid u ty next →
          Parsed (suc left) bs π at (node r 0 (length bs) next (branch (at + 1) t (branch mid u leaf))) 0 next
      p-sequence : {left at ty mid next : ℕ} {bs : List Binder} {π : ℕ → ℕ} {r : Record} {t u : Tree} →
          Stands s r at 24 0 Sequence → Parsed left bs π (at + 1) t 0 mid → Parsed left bs π mid u ty next →
          Parsed (suc left) bs π at (node r ty (length bs) next (branch (at + 1) t (branch mid u leaf))) ty next
      p-if : {left at ty one two next : ℕ} {bs : List Binder} {π : ℕ → ℕ} {r : Record} {b t u : Tree} →
          Stands s r at 25 0 If → Parsed left bs π (at + 1) b 1 one → Parsed left bs π one t ty two →
          Parsed left bs π two u ty next →
          Parsed (suc left) bs π at
          (node r ty (length bs) next (branch (at + 1) b (branch one t (branch two u leaf)))) ty next
      p-while : {left at mid next : ℕ} {bs : List Binder} {π : ℕ → ℕ} {r : Record} {t u : Tree} →
          Stands s r at 26 0 While → Parsed left bs π (at + 1) t 1 mid → Parsed left bs π mid u 0 next →
          Parsed (suc left) bs π at (node r 0 (length bs) next (branch (at + 1) t (branch mid u leaf))) 0 next
      p-new : {left at next : ℕ} {bs : List Binder} {π : ℕ → ℕ} {r : Record} {t : Tree} → Stands s r at 27 2 New →
          Byte s (at + 1) r.a → r.a < 255 → declared ns r.a ≡ free → (ed ≡ Present → Unheld bs r.a) →
          Byte s (at + 2) r.b → 0 < r.b → r.b < 3 →
          Parsed left (a_block r.a r.b ∷ bs) π (at + 3) t 0 next →
          Parsed (suc left) bs π at (node r 0 (length bs) next (branch (at + 3) t leaf)) 0 next
      p-procedure : {left at ty last mid next : ℕ} {ps : List Parameter} {bs : List Binder} {π : ℕ → ℕ} {r : Record}
          {t u : Tree} → Stands s r at 28 11 Procedure →
          Byte s (at + 1) r.a → r.a < 255 → declared ns r.a ≡ free → (ed ≡ Present → Unheld bs r.a) →
          Byte s (at + 2) ty → ty < 5 → Byte s (at + 3) r.b → r.b < 5 → Pairs s ns at r.b ps →
          (ed ≡ Present → ApartParameters bs ps) →
          Parsed left (inside ps bs) π (at + 12) t ty mid →
          Parsed left (after r.a ty ps bs) (beyond (length bs) π (λ j. at)) mid u last next →
          Parsed (suc left) bs π at (node r last (length bs) next (branch (at + 12) t (branch mid u leaf))) last next

    -- arguments of the given types
    pub data ParsedArgs : ℕ → List Binder → (ℕ → ℕ) → ℕ → Trees → List ℕ → ℕ → Type 0 where
      p-none : {left at : ℕ} {bs : List Binder} {π : ℕ → ℕ} → ParsedArgs left bs π at leaf [] at
      p-more : {left at ty mid next : ℕ} {tys : List ℕ} {bs : List Binder} {π : ℕ → ℕ} {t : Tree} {ts : Trees} →
          Parsed left bs π at t ty mid → ParsedArgs left bs π mid ts tys next →
          ParsedArgs left bs π at (branch at t ts) (ty ∷ tys) next
