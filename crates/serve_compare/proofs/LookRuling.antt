-- What document 02, [9], says of look, proved.
use mathlib.Core.Path.{◌≡◌, refl, sym, ap, ◌∙◌}
use mathlib.Core.Logic.{◌⊎◌, inl, inr}
use mathlib.Core.List.{List}
use mathlib.Core.Option.{Option, none, some}
use Rattle.std.specs.Prelude.{Result, Ok}
use Prim.Native.Nat.{ℕ, ◌≤◌, ◌<◌}
use native.Mathlib.Decide.{dec_lt}
use native.Mathlib.Omega.{arith}
use lib.ListN.{length}
use Rattle.language.specs.Move.{Word}
use Rattle.sheet_records.specs.declared.refusal.Cause.{Cause}
use Rattle.sheet_written.specs.Written.{Sheet}
use Rattle.sheet_reader.specs.Fine.{Accepted}
use Rattle.sheet_judge.specs.Mark.{uses_of}
use Rattle.sheet_judge.specs.declared.mark.Uses.{Uses}
use Rattle.serve_compare.specs.Plays.{Only, FirstPlay}
use Rattle.serve_compare.specs.Refusals.{compare_refusal}
use Rattle.serve_compare.specs.Promise.{Holds, Decided, same, apart, ComparedBy}
use Rattle.serve_compare.specs.Look.{Found, nothing, first, FoundIn, space_after, whole_depth, decision_of, ruling_of}
use Rattle.serve_compare.specs.Look.{depth_of, saying, telling, look_answer}
use Rattle.serve_compare.specs.Look.{LookAnswered, LookedBy}
use Rattle.serve_compare.specs.LookRules.{Agrees, same as says_same, apart as says-apart, refused as says-refused}
use Rattle.serve_compare.specs.LookRules.{Open}
use Rattle.serve_compare.specs.LookRules.{LookCompare, LookLarger, LookWhole, LookUnique}
use Rattle.serve_compare.specs.Demands.{Comparable}
use Rattle.serve_compare.specs.declared.Comparison.{Comparison}
use Rattle.serve_compare.specs.declared.Looking.{Looking}
use Rattle.serve_compare.specs.declared.Outcome.TheVariants.{Same, SoFar}
use Rattle.serve_compare.proofs.Exactly.{not_alike}
use Rattle.serve_compare.proofs.LookSteps.{so-far-said, same-said}
use Rattle.serve_compare.proofs.LookPlays.{all_alike}
use Rattle.serve_compare.proofs.Unique.{one-sheet, held-accepted, held-comparable, one-first, only_one}
use Rattle.sheet_records.specs.declared.refusal.Sheets.{Sheets}

-- the answer to what is found
abbrev answer_to : Found → ℕ → ℕ → Uses → Uses → Result Looking Cause
answer_to f limit whole v w = Ok (look_answer (decision_of f) limit whole v w)

-- the answers where nothing is found
so_far : (limit whole : ℕ) (v w : Uses) → limit < whole → answer_to nothing limit whole v w ≡ Ok (telling SoFar limit v w)
unfolding decision_of
so_far limit whole v w l = ap Ok (sym (so-far-said (decision_of nothing) limit whole v w refl l))

looked-all : (limit whole : ℕ) (v w : Uses) → whole ≤ limit → answer_to nothing limit whole v w ≡ Ok (telling Same whole v w)
unfolding decision_of
looked-all limit whole v w l = ap Ok (sym (same-said (decision_of nothing) limit whole v w refl l))

-- two sheets in order that can be compared
module _ (S T : Sheet) (A : Accepted S) (B : Accepted T) (c : Comparable S T) where
  -- the same play, where both find one
  one-play : (which other : Sheets) (u v : Word) → FirstPlay S T which u → FirstPlay S T other v →
      first which u ≡ first other v
  one-play which other u v f g =
      let p : u ≡ v = one-first S T A B c.numbers which other u v f g in
      let w : which ≡ other = only_one S T A B c.numbers which other u f.only (rw p g.only) in
      rw (p, w) refl

  -- THEOREM: what is found within L moves is found within more, where a play is found
  found-larger : (limit more : ℕ) → limit ≤ more → (f g : Found) → FoundIn limit S T f → FoundIn more S T g →
      (f ≡ nothing) ⊎ (f ≡ g)
  unfolding FoundIn
  found-larger limit more l nothing g h k = inl refl
  found-larger limit more l (first which u) nothing h k =
      absurd (not_alike which S T u h.0.only (k u (omega (arith, h.1))))
  found-larger limit more l (first which u) (first other v) h k = inr (one-play which other u v h.0 k.0)

  -- what is found within L moves is one
  found-one : (limit : ℕ) → (f g : Found) → FoundIn limit S T f → FoundIn limit S T g → f ≡ g
  unfolding FoundIn
  found-one limit nothing nothing h k = refl
  found-one limit nothing (first other v) h k = absurd (not_alike other S T v k.0.only (h v k.1))
  found-one limit (first which u) nothing h k = absurd (not_alike which S T u h.0.only (k u h.1))
  found-one limit (first which u) (first other v) h k = one-play which other u v h.0 k.0

  -- what is found within S + T - 1 moves is all
  found-whole : (limit more : ℕ) → whole_depth S T ≤ limit → (g : Found) → FoundIn limit S T nothing →
      FoundIn more S T g → g ≡ nothing
  unfolding FoundIn
  found-whole limit more l nothing h k = refl
  found-whole limit more l (first which u) h k =
      absurd (not_alike which S T u k.0.only (all_alike S T A B c (λ v j. h v (omega arith)) u))

-- a play that tells the sheets apart has more than L moves, where none of at most L does
all-longer : {old new : List ℕ} {S T : Sheet} {limit : ℕ} → Holds old S → Holds new T → FoundIn limit S T nothing →
    (S₂ T₂ : Sheet) → Holds old S₂ → Holds new T₂ → (which : Sheets) (u : Word) → Only which S₂ T₂ u → limit < length u
unfolding FoundIn
all-longer {S = S} {T} {limit} h k f S₂ T₂ h₂ k₂ which u o = go (dec_lt limit (length u))
  where
    p : S₂ ≡ S
    p = one-sheet h₂ h

    q : T₂ ≡ T
    q = one-sheet k₂ k

    go : Dec (limit < length u) → limit < length u
    go (yes l) = l
    go (no l) = absurd (not_alike which S T u (rw (p, q) at o) (f u (omega arith)))

-- where nothing is refused
module _ (old new : List ℕ) (ws space : List ℕ) (e : compare_refusal old new (length ws) (length space) ≡ none) where
  -- "same so far"
  stays_open : (limit : ℕ) (r : Result Looking Cause) {ws' space' : List ℕ} (h : LookAnswered old new limit ws space r ws' space')
      →
      h.looked.found ≡ nothing →
      limit < whole_depth h.looked.first_sheet h.looked.second_sheet → Open old new limit r
  stays_open limit r h f l =
      let L = h.looked in
      record {
        old_uses = uses_of L.first_sheet;
        new_uses = uses_of L.second_sheet;
        answer = h.answer ∙ ap (λ g. answer_to g limit (whole_depth L.first_sheet L.second_sheet)
            (uses_of L.first_sheet) (uses_of L.second_sheet)) f
            ∙ so_far limit (whole_depth L.first_sheet L.second_sheet) _ _ l;
        longer = all-longer L.first_held L.second_held (rw f at L.found_in);
      }

  module _ (limit : ℕ) (r : Result Looking Cause) (ws₁ space₁ : List ℕ) (h : LookAnswered old new limit ws space r ws₁ space₁)
    where
      -- the sheets, and what is found
      abbrev S : Sheet
      S = h.looked.first_sheet

      abbrev T : Sheet
      T = h.looked.second_sheet

      A : Accepted S
      A = held-accepted h.looked.first_held

      B : Accepted T
      B = held-accepted h.looked.second_held

      c : Comparable S T
      c = held-comparable (length ws) (length space) h.looked.first_held h.looked.second_held e

      -- the answer of what is found
      answer-of : (f : Found) → h.looked.found ≡ f → r ≡ answer_to f limit (whole_depth S T) (uses_of S) (uses_of T)
      answer-of f q = h.answer ∙ ap (λ g. answer_to g limit (whole_depth S T) (uses_of S) (uses_of T)) q

      -- play space after it
      space-of : (f : Found) → h.looked.found ≡ f → space₁ ≡ space_after S.numbers f space
      space-of f q = h.looked.space-after ∙ ap (λ g. space_after S.numbers g space) q

      found_as : (f : Found) → h.looked.found ≡ f → FoundIn limit S T f
      found_as f q = rw q at h.looked.found_in

      -- against compare, whose verdict is of the same sheets
      against : (k : Result Comparison Cause) (space₂ : List ℕ) → Decided S T space k space₂ →
          (Agrees r k × (space₁ ≡ space₂)) ⊎ ((limit < whole_depth S T) × Open old new limit r)
      unfolding FoundIn space_after decision_of ruling_of depth_of saying
      against k space₂ d = go h.looked.found refl d (dec_lt limit (whole_depth S T))
        where
          go : (f : Found) → h.looked.found ≡ f → Decided S T space k space₂ → Dec (limit < whole_depth S T) →
              (Agrees r k × (space₁ ≡ space₂)) ⊎ ((limit < whole_depth S T) × Open old new limit r)
          go nothing q d (yes l) = inr (l, stays_open limit r h q l)
          go nothing q (same d) (no l) =
              inl (
                rw (
                  answer-of nothing q ∙ looked-all limit (whole_depth S T) (uses_of S) (uses_of T) (omega arith),
                  d.answer,
                ) (says_same (whole_depth S T) (uses_of S) (uses_of T)),
                space-of nothing q ∙ sym d.space_kept,
              )
          go nothing q (apart d) (no l) =
              absurd (not_alike d.which S T d.play d.first.only
              (found_as nothing q d.play (omega (arith, d.short))))
          go (first which u) q (same d) l =
              absurd (not_alike which S T u (found_as (first which u) q).0.only (d.plays u))
          go (first which u) q (apart d) l =
              let p : u ≡ d.play = one-first S T A B c.numbers which d.which u d.play
              (found_as (first which u) q).0 d.first in
              let w : which ≡ d.which = only_one S T A B c.numbers which d.which u
              (found_as (first which u) q).0.only (rw p d.first.only) in
              inl (
                rw (answer-of (first which u) q, d.answer, p, w)
                    (says-apart d.which (length d.play) (uses_of S) (uses_of T)),
                space-of (first which u) q ∙ rw p (sym d.written),
              )

      -- against a look of the same sheets through at least as many moves
      larger : (more : ℕ) → limit ≤ more → (g : Found) → FoundIn more S T g →
          ((r ≡ answer_to g more (whole_depth S T) (uses_of S) (uses_of T)) ×
          (space₁ ≡ space_after S.numbers g space)) ⊎ Open old new limit r
      unfolding decision_of ruling_of depth_of saying
      larger more m g k = go h.looked.found refl (dec_lt limit (whole_depth S T))
        where
          go : (f : Found) → h.looked.found ≡ f → Dec (limit < whole_depth S T) →
              ((r ≡ answer_to g more (whole_depth S T) (uses_of S) (uses_of T)) ×
              (space₁ ≡ space_after S.numbers g space)) ⊎ Open old new limit r
          go nothing q (yes l) = inr (stays_open limit r h q l)
          go nothing q (no l) =
              let z : g ≡ nothing = found-whole S T A B c limit more (omega arith) g (found_as nothing q) k in
              inl (
                answer-of nothing q ∙ looked-all limit (whole_depth S T) (uses_of S) (uses_of T) (omega arith)
                    ∙ sym (looked-all more (whole_depth S T) (uses_of S) (uses_of T) (omega arith))
                    ∙ ap (λ f. answer_to f more (whole_depth S T) (uses_of S) (uses_of T)) (sym z),
                space-of nothing q ∙ ap (λ f. space_after S.numbers f space) (sym z),
              )
          go (first which u) q l = by (found-larger S T A B c limit more m (first which u) g (found_as (first which u)
              q) k)
            where
              by : (first which u ≡ nothing) ⊎ (first which u ≡ g) →
                  ((r ≡ answer_to g more (whole_depth S T) (uses_of S) (uses_of T)) ×
                  (space₁ ≡ space_after S.numbers g space)) ⊎ Open old new limit r
              by (inl z) = let y : ◌≡◌ {A = ℕ} 0 1 = cc in absurd (omega arith)
              by (inr z) =
                  inl (
                    answer-of (first which u) q
                        ∙ ap (λ f. answer_to f more (whole_depth S T) (uses_of S) (uses_of T)) z,
                    space-of (first which u) q ∙ ap (λ f. space_after S.numbers f space) z,
                  )

-- THEOREM: where look says "apart" or "same", compare says it, with the same sheet, play and bytes; where it says "same
-- so far", every play that tells the sheets apart has more than L moves
pub look-compare : LookCompare
unfolding LookedBy ComparedBy
look-compare old new limit ws space r k ws₁ ws₂ space₁ space₂ p q =
    go (compare_refusal old new (length ws) (length space)) refl p q
  where
    go : (x : Option Cause) → compare_refusal old new (length ws) (length space) ≡ x →
        LookedBy x old new limit ws space r ws₁ space₁ → ComparedBy x old new ws space k ws₂ space₂ →
        (Agrees r k × ((ws₁ ≡ ws₂) × (space₁ ≡ space₂))) ⊎ Open old new limit r
    go (some x) e h d =
        inl (rw (h.0, d.0) (says-refused x), (h.1.0 ∙ sym d.1.0, h.1.1 ∙ sym d.1.1))
    go none e h d =
        let s : d.first_sheet ≡ h.looked.first_sheet = one-sheet d.first_held h.looked.first_held in
        let t : d.second_sheet ≡ h.looked.second_sheet = one-sheet d.second_held h.looked.second_held in
        let v : Decided h.looked.first_sheet h.looked.second_sheet space k space₂ = rw (s, t) at d.decided
        in
        by (against old new ws space e limit r ws₁ space₁ h k space₂ v)
      where
        by : (Agrees r k × (space₁ ≡ space₂)) ⊎
            ((limit < whole_depth h.looked.first_sheet h.looked.second_sheet) × Open old new limit r) →
            (Agrees r k × ((ws₁ ≡ ws₂) × (space₁ ≡ space₂))) ⊎ Open old new limit r
        by (inl y) = inl (y.0, (h.looked.cleared ∙ sym d.cleared, y.1))
        by (inr y) = inr y.1

-- THEOREM: with L of at least S + T - 1 look is compare
pub look-whole : LookWhole
unfolding LookedBy ComparedBy
look-whole old new limit ws space r k ws₁ ws₂ space₁ space₂ wide p q =
    go (compare_refusal old new (length ws) (length space)) refl p q
  where
    go : (x : Option Cause) → compare_refusal old new (length ws) (length space) ≡ x →
        LookedBy x old new limit ws space r ws₁ space₁ → ComparedBy x old new ws space k ws₂ space₂ →
        Agrees r k × ((ws₁ ≡ ws₂) × (space₁ ≡ space₂))
    go (some x) e h d = (rw (h.0, d.0) (says-refused x), (h.1.0 ∙ sym d.1.0, h.1.1 ∙ sym d.1.1))
    go none e h d =
        let s : d.first_sheet ≡ h.looked.first_sheet = one-sheet d.first_held h.looked.first_held in
        let t : d.second_sheet ≡ h.looked.second_sheet = one-sheet d.second_held h.looked.second_held in
        let v : Decided h.looked.first_sheet h.looked.second_sheet space k space₂ = rw (s, t) at d.decided
        in
        by (against old new ws space e limit r ws₁ space₁ h k space₂ v)
      where
        by : (Agrees r k × (space₁ ≡ space₂)) ⊎
            ((limit < whole_depth h.looked.first_sheet h.looked.second_sheet) × Open old new limit r) →
            Agrees r k × ((ws₁ ≡ ws₂) × (space₁ ≡ space₂))
        by (inl y) = (y.0, (h.looked.cleared ∙ sym d.cleared, y.1))
        by (inr y) = absurd (omega (
          arith,
          y.0,
          wide h.looked.first_sheet h.looked.second_sheet h.looked.first_held h.looked.second_held,
        ))

-- THEOREM: a larger L never changes "same" or "apart"
pub look-larger : LookLarger
unfolding LookedBy
look-larger old new limit more ws space r r₂ ws₁ ws₂ space₁ space₂ m p q =
    go (compare_refusal old new (length ws) (length space)) refl p q
  where
    go : (x : Option Cause) → compare_refusal old new (length ws) (length space) ≡ x →
        LookedBy x old new limit ws space r ws₁ space₁ → LookedBy x old new more ws space r₂ ws₂ space₂ →
        ((r ≡ r₂) × ((ws₁ ≡ ws₂) × (space₁ ≡ space₂))) ⊎ Open old new limit r
    go (some x) e h d = inl (h.0 ∙ sym d.0, (h.1.0 ∙ sym d.1.0, h.1.1 ∙ sym d.1.1))
    go none e h d =
        let S = h.looked.first_sheet in
        let T = h.looked.second_sheet in
        let s : d.looked.first_sheet ≡ S = one-sheet d.looked.first_held h.looked.first_held in
        let t : d.looked.second_sheet ≡ T = one-sheet d.looked.second_held h.looked.second_held in
        let i : FoundIn more S T d.looked.found = rw (s, t) at d.looked.found_in in
        let a : r₂ ≡ answer_to d.looked.found more (whole_depth S T) (uses_of S) (uses_of T) =
        rw (s, t) at d.answer in
        let b : space₂ ≡ space_after S.numbers d.looked.found space = rw s at d.looked.space-after in
        by d.looked.found a b (larger old new ws space e limit r ws₁ space₁ h more m d.looked.found i)
      where
        by : (g : Found) →
            r₂ ≡ answer_to g more (whole_depth h.looked.first_sheet h.looked.second_sheet)
            (uses_of h.looked.first_sheet) (uses_of h.looked.second_sheet) →
            space₂ ≡ space_after h.looked.first_sheet.numbers g space →
            ((r ≡ answer_to g more (whole_depth h.looked.first_sheet h.looked.second_sheet)
            (uses_of h.looked.first_sheet) (uses_of h.looked.second_sheet)) ×
            (space₁ ≡ space_after h.looked.first_sheet.numbers g space)) ⊎ Open old new limit r →
            ((r ≡ r₂) × ((ws₁ ≡ ws₂) × (space₁ ≡ space₂))) ⊎ Open old new limit r
        by g a b (inl y) = inl (y.0 ∙ sym a, (h.looked.cleared ∙ sym d.looked.cleared, y.1 ∙ sym b))
        by g a b (inr y) = inr y

-- THEOREM: what look promises allows one answer only
pub look-unique : LookUnique
unfolding LookedBy
look-unique old new limit ws space r r₂ ws₁ ws₂ space₁ space₂ p q =
    go (compare_refusal old new (length ws) (length space)) refl p q
  where
    go : (x : Option Cause) → compare_refusal old new (length ws) (length space) ≡ x →
        LookedBy x old new limit ws space r ws₁ space₁ → LookedBy x old new limit ws space r₂ ws₂ space₂ →
        (r ≡ r₂) × ((ws₁ ≡ ws₂) × (space₁ ≡ space₂))
    go (some x) e h d = (h.0 ∙ sym d.0, (h.1.0 ∙ sym d.1.0, h.1.1 ∙ sym d.1.1))
    go none e h d =
        let S = h.looked.first_sheet in
        let T = h.looked.second_sheet in
        let s : d.looked.first_sheet ≡ S = one-sheet d.looked.first_held h.looked.first_held in
        let t : d.looked.second_sheet ≡ T = one-sheet d.looked.second_held h.looked.second_held in
        let i : FoundIn limit S T d.looked.found = rw (s, t) at d.looked.found_in in
        let a : r₂ ≡ answer_to d.looked.found limit (whole_depth S T) (uses_of S) (uses_of T) =
        rw (s, t) at d.answer in
        let b : space₂ ≡ space_after S.numbers d.looked.found space = rw s at d.looked.space-after in
        let f : h.looked.found ≡ d.looked.found =
        found-one S T (held-accepted h.looked.first_held) (held-accepted h.looked.second_held)
        (held-comparable (length ws) (length space) h.looked.first_held h.looked.second_held e) limit
        h.looked.found d.looked.found h.looked.found_in i in (
          h.answer ∙ ap (λ g. answer_to g limit (whole_depth S T) (uses_of S) (uses_of T)) f ∙ sym a,
          (
            h.looked.cleared ∙ sym d.looked.cleared,
            h.looked.space-after ∙ ap (λ g. space_after S.numbers g space) f ∙ sym b,
          ),
        )
