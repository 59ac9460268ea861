-- What compare and look answer, from what examine gives.
use mathlib.Core.Path.{◌≡◌, refl, sym, ap, ◌∙◌}
use mathlib.Core.Logic.{inl}
use mathlib.Core.List.{List}
use mathlib.Core.Option.{Option, none, some}
use Rattle.std.specs.Prelude.{Result, Ok, Err}
use Prim.Native.Nat.{ℕ, ◌≤◌, ◌<◌}
use native.Mathlib.Decide.{dec_lt}
use native.Mathlib.Omega.{arith}
use lib.ListN.{length}
use Rattle.language.specs.Move.{Word}
use Rattle.sheet_records.specs.declared.refusal.Cause.{Cause}
use Rattle.sheet_written.specs.Written.{Sheet}
use Rattle.sheet_reader.specs.Fine.{Accepted}
use Rattle.sheet_judge.specs.Mark.{uses_of}
use Rattle.sheet_judge.specs.declared.mark.Uses.{Uses}
use Rattle.serve_compare.specs.Plays.{Alike, FirstPlay}
use Rattle.serve_compare.specs.Refusals.{compare_refusal}
use Rattle.serve_compare.specs.Promise.{Decided, same, apart, ComparedBy, ComparePromise}
use Rattle.serve_compare.specs.Look.{Found, nothing, first, FoundIn, space_after, whole_depth, decision_of, look_answer}
use Rattle.serve_compare.specs.Look.{LookedBy, LookPromise}
use Rattle.serve_compare.specs.Demands.{Comparable}
use Rattle.serve_compare.specs.inner.Deciding.{answer_of, ExaminedBy, ExaminePromise}
use Rattle.serve_compare.specs.declared.Comparison.{Comparison}
use Rattle.serve_compare.specs.declared.Looking.{Looking}
use Rattle.serve_compare.specs.declared.Examined.{Examined}
use Rattle.serve_compare.proofs.Demands.{differs}
use Rattle.serve_compare.proofs.Exactly.{not_alike}
use Rattle.serve_compare.proofs.Unique.{held-accepted, held-comparable}
use Rattle.sheet_records.specs.declared.refusal.Sheets.{Sheets}

-- two sheets in order that can be compared
module _ (S T : Sheet) (A : Accepted S) (B : Accepted T) (c : Comparable S T) where
  -- THEOREM: where no play of at most S + T - 1 moves tells them apart, none does
  pub all_alike : ((u : Word) → length u ≤ whole_depth S T → Alike S T u) → (u : Word) → Alike S T u
  all_alike h =
      (differs S T A.ordered.in_order B.ordered.in_order c).1 (λ which u l o. not_alike which S T u o (h u l))

  -- THEOREM: the first play of exactly one has at most S + T - 1 moves
  first_short : (which : Sheets) (play : Word) → FirstPlay S T which play → length play ≤ whole_depth S T
  first_short which play f = go (dec_lt (whole_depth S T) (length play))
    where
      go : Dec (whole_depth S T < length play) → length play ≤ whole_depth S T
      go (no l) = omega arith
      go (yes l) = absurd (not_alike which S T play f.only
          (all_alike (λ u k. f.earlier u (inl (omega arith))) play))

  -- what is found within S + T - 1 moves or more is what compare answers
  decided-whole : (limit : ℕ) → whole_depth S T ≤ limit → (f : Found) → FoundIn limit S T f →
      {space space' : List ℕ} {r : Result Comparison Cause} → space' ≡ space_after S.numbers f space →
      r ≡ Ok (answer_of (decision_of f) (uses_of S) (uses_of T)) → Decided S T space r space'
  unfolding FoundIn space_after decision_of
  decided-whole limit l nothing h e a =
      same (record { answer = a; plays = all_alike (λ u k. h u (omega arith)); space_kept = e })
  decided-whole limit l (first which play) h e a = apart (record
      { which = which; play = play; answer = a; first = h.0; short = first_short which play h.0; written = e })

-- the most moves of all
whole-small : (S T : Sheet) → Accepted S → Accepted T → whole_depth S T ≤ 8191
whole-small S T A B = omega (arith, A.ordered.small, B.ordered.small)

-- what is told is not a refusal
told-not : {x : Examined} {y : Cause} → Ok x ≡ Err y → ⊥
told-not e = let z : ◌≡◌ {A = ℕ} 0 1 = cc in omega arith

-- what is told is one
told_one : {x y : Examined} → ◌≡◌ {A = Result Examined Cause} (Ok x) (Ok y) → x ≡ y
told_one e = cc

-- so is a refusal
refused-one : {x y : Cause} → ◌≡◌ {A = Result Examined Cause} (Err x) (Err y) → x ≡ y
refused-one e = cc

module _ (old new ws space ws' space' : List ℕ) where
  -- compare, where examine gives an answer
  pub compare-known : (x : Examined) → ExaminePromise old new 8191 ws space (Ok x) ws' space' →
      ComparePromise old new ws space (Ok (answer_of x.found x.old x.new)) ws' space'
  unfolding ComparedBy ExaminedBy
  compare-known x p = go (compare_refusal old new (length ws) (length space)) refl p
    where
      go : (y : Option Cause) → compare_refusal old new (length ws) (length space) ≡ y →
          ExaminedBy y old new 8191 ws space (Ok x) ws' space' →
          ComparedBy y old new ws space (Ok (answer_of x.found x.old x.new)) ws' space'
      go (some y) e h = absurd (told-not h.0)
      go none e h =
          let L = h.looked in
          let q = told_one h.answer in
          let A = held-accepted L.first_held in
          let B = held-accepted L.second_held in
          record {
            first_sheet = L.first_sheet;
            second_sheet = L.second_sheet;
            first_held = L.first_held;
            second_held = L.second_held;
            decided = decided-whole L.first_sheet L.second_sheet A B
                (held-comparable (length ws) (length space) L.first_held L.second_held e) 8191
                (whole-small L.first_sheet L.second_sheet A B) L.found L.found_in L.space-after
                (rw q refl);
            cleared = L.cleared;
          }

  -- look, where examine gives an answer
  pub look_known : (most : ℕ) (x : Examined) (r : Looking) →
      ExaminePromise old new most ws space (Ok x) ws' space' → r ≡ look_answer x.found most x.whole x.old x.new →
      LookPromise old new most ws space (Ok r) ws' space'
  unfolding LookedBy ExaminedBy
  look_known most x r p a = go (compare_refusal old new (length ws) (length space)) p
    where
      go : (y : Option Cause) → ExaminedBy y old new most ws space (Ok x) ws' space' →
          LookedBy y old new most ws space (Ok r) ws' space'
      go (some y) h = absurd (told-not h.0)
      go none h =
          let q = told_one h.answer in
          record { looked = h.looked; answer = rw (a, q) refl }

  -- examine refuses
  pub compare-refused : (q : Cause) → ExaminePromise old new 8191 ws space (Err q) ws' space' →
      ComparePromise old new ws space (Err q) ws' space'
  unfolding ComparedBy ExaminedBy
  compare-refused q p = go (compare_refusal old new (length ws) (length space)) p
    where
      go : (y : Option Cause) → ExaminedBy y old new 8191 ws space (Err q) ws' space' →
          ComparedBy y old new ws space (Err q) ws' space'
      go (some y) h = (ap Err (refused-one h.0), h.1)
      go none h = absurd (told-not (sym h.answer))

  pub look-refused : (most : ℕ) (q : Cause) → ExaminePromise old new most ws space (Err q) ws' space' →
      LookPromise old new most ws space (Err q) ws' space'
  unfolding LookedBy ExaminedBy
  look-refused most q p = go (compare_refusal old new (length ws) (length space)) p
    where
      go : (y : Option Cause) → ExaminedBy y old new most ws space (Err q) ws' space' →
          LookedBy y old new most ws space (Err q) ws' space'
      go (some y) h = (ap Err (refused-one h.0), h.1)
      go none h = absurd (told-not (sym h.answer))
