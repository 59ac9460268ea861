-- A record whose weight is the sum of its parts': its row by its rule, and the record closed.
use Rattle.std.specs.Prelude.{Option, Some, None}
use Prim.Native.Nat.{ℕ, ◌-◌, ◌≤◌, ◌<◌}
use native.Mathlib.Omega.{arith}
use mathlib.Core.Path.{◌≡◌, refl, sym, ap, ◌∙◌}
use mathlib.Core.List.{List}
use lib.Dec.{eqb}
use borrow.Author.Tests.{eqb-true}
use Rattle.language.specs.Choice.{pick}
use Rattle.language.specs.declared.Numbers.{Numbers}
use Rattle.sheet_records.specs.declared.kind.Rule.TheVariants.{Fetch, Operate, Assign, Sequence, If, While, New}
use Rattle.sheet_parts.specs.Rule.{values, result_type, part_type}
use Rattle.sheet_heads.specs.declared.head.Record.{Record}
use Rattle.sheet_rows.specs.Row.{word, five, class_of, row_kind, detail, row_written}
use Rattle.sheet_rows.proofs.RowSteps.{five-written}
use Rattle.weight_theory.specs.Step.{weighed}
use Rattle.weight_records.specs.Few.{RowAt, SumKind, sum_fetch, sum_operate, sum_assign, sum_sequence, sum_if}
use Rattle.weight_records.specs.Few.{sum_while, sum_new}
use Rattle.sheet_reader.specs.declared.close.Sum.{Sum}
use Rattle.sheet_reader.specs.table.Close.{sum, SumIs, SumRow}
use Rattle.sheet_reader.specs.table.Fill.{read, closed_answer, closed_table}
use Rattle.sheet_reader.specs.table.Number.{used_number}
use Rattle.sheet_reader.proofs.Answers.{pick_all}
use Rattle.sheet_reader.proofs.Core.{number-none}
use Rattle.sheet_reader.proofs.Notes.{note-kind}
use Rattle.sheet_reader.proofs.RowKept.{row_at, row_first, row-after, at_same}

module _ (t : List ℕ) (N : Numbers) (r : Record) (last : ℕ) where
  -- rows without a detail, each part once
  pub fetch-sum : {x : Option Sum} {ty : ℕ} → r.rule ≡ Fetch → ty ≡ last - 2 →
      x ≡ pick (eqb r.kind 21) (Some (sum ty 0 1 1 1)) None → SumRow t N r last x
  unfolding SumRow row_kind part_type detail
  fetch-sum {ty = ty} f g e =
      rw e (pick_all (SumRow t N r last) (eqb r.kind 21)
      (λ h. record {
        same_kind = rw f refl;
        has_type = λ s. rw f g;
        has_detail = λ around. rw f refl;
        sums = λ u p q. sum_fetch (eqb-true _ _ h) refl refl;
      })
      (λ h. tt))

  pub sequence-sum : {x : Option Sum} → r.rule ≡ Sequence → x ≡ pick (eqb r.kind 24) (Some (sum last 0 2 1 1)) None →
      SumRow t N r last x
  unfolding SumRow row_kind part_type detail
  sequence-sum f e =
      rw e (pick_all (SumRow t N r last) (eqb r.kind 24)
      (λ h. record {
        same_kind = rw f refl;
        has_type = λ s. rw f refl;
        has_detail = λ around. rw f refl;
        sums = λ u p q. sum_sequence (eqb-true _ _ h) refl refl refl;
      })
      (λ h. tt))

  pub if-sum : {x : Option Sum} → r.rule ≡ If → x ≡ pick (eqb r.kind 25) (Some (sum last 0 3 1 1)) None → SumRow t N r last x
  unfolding SumRow row_kind part_type detail
  if-sum f e =
      rw e (pick_all (SumRow t N r last) (eqb r.kind 25)
      (λ h. record {
        same_kind = rw f refl;
        has_type = λ s. rw f refl;
        has_detail = λ around. rw f refl;
        sums = λ u p q. sum_if (eqb-true _ _ h) refl refl refl;
      })
      (λ h. tt))

  pub while-sum : {x : Option Sum} → r.rule ≡ While → x ≡ pick (eqb r.kind 26) (Some (sum 0 0 2 1 1)) None → SumRow t N r last x
  unfolding SumRow row_kind part_type detail
  while-sum f e =
      rw e (pick_all (SumRow t N r last) (eqb r.kind 26)
      (λ h. record {
        same_kind = rw f refl;
        has_type = λ s. rw f refl;
        has_detail = λ around. rw f refl;
        sums = λ u p q. sum_while (eqb-true _ _ h) refl refl refl;
      })
      (λ h. tt))

  -- a block for each value of its variable
  pub new-sum : {x : Option Sum} → r.rule ≡ New →
      x ≡ pick (eqb r.kind 27) (Some (sum 0 (values N r.b) 1 (values N r.b) 1)) None → SumRow t N r last x
  unfolding SumRow row_kind part_type detail
  new-sum f e =
      rw e (pick_all (SumRow t N r last) (eqb r.kind 27)
      (λ h. record {
        same_kind = rw f refl;
        has_type = λ s. rw f refl;
        has_detail = λ around. rw f refl;
        sums = λ u p q. sum_new (eqb-true _ _ h) refl refl;
      })
      (λ h. tt))

  -- the number of values of the first part, which is after the record
  abbrev First : ℕ → Type 0
  First v =
      (r.place < word t r.place 5) × ((word t r.place 5 < 4096) × (v ≡ word t (word t r.place 5) 3))

  first-kept : {v : ℕ} (u : List ℕ) → First v → word u r.place 5 ≡ word t r.place 5 →
      ((place : ℕ) → r.place < place → word u place 3 ≡ word t place 3) →
      (word u r.place 5 < 4096) × (v ≡ word u (word u r.place 5) 3)
  first-kept u F p q = (rw p F.1.0, rw p (F.1.1 ∙ sym (q (word t r.place 5) F.0)))

  pub operate-sum : {v ty : ℕ} → r.rule ≡ Operate → r.kind ≡ 22 → ty ≡ result_type r.a → First v →
      SumRow t N r last (Some (sum ty r.a 2 1 v))
  unfolding SumRow row_kind part_type detail
  operate-sum f k g F =
      record {
        same_kind = rw f refl;
        has_type = λ s. rw f g;
        has_detail = λ around. rw f refl;
        sums = λ u p q. let x = first-kept u F p q in sum_operate k refl refl x.0 x.1;
      }

  pub assign-sum : {v : ℕ} → r.rule ≡ Assign → r.kind ≡ 23 → First v → SumRow t N r last (Some (sum 0 0 2 v 1))
  unfolding SumRow row_kind part_type detail
  assign-sum f k F =
      record {
        same_kind = rw f refl;
        has_type = λ s. rw f refl;
        has_detail = λ around. rw f refl;
        sums = λ u p q. let x = first-kept u F p q in sum_assign k refl x.0 x.1 refl;
      }

  pub other-sum : SumRow t N r last None
  unfolding SumRow
  other-sum = tt

  pub sum_is : {x : Option Sum} {y : Sum} → SumRow t N r last x → x ≡ Some y →
      SumIs t N r last y.ty y.detail y.parts y.first y.second
  unfolding SumRow
  sum_is S e = rw e at S

-- one to three parts, and no use
pub sum-few : {u : List ℕ} {at kind d n v w : ℕ} → SumKind u at kind d n v w → (0 < n) × (n ≤ 3)
sum-few (sum_fetch k n f) = (omega arith, omega arith)
sum-few (sum_operate k n f l s) = (omega arith, omega arith)
sum-few (sum_assign k n l f s) = (omega arith, omega arith)
sum-few (sum_sequence k n f s) = (omega arith, omega arith)
sum-few (sum_if k n f s) = (omega arith, omega arith)
sum-few (sum_while k n f s) = (omega arith, omega arith)
sum-few (sum_new k n f) = (omega arith, omega arith)

sum-no-use : {u : List ℕ} {at kind d n v w : ℕ} → SumKind u at kind d n v w → kind ≡ 20 → ⊥
sum-no-use (sum_fetch k n f) e = omega arith
sum-no-use (sum_operate k n f l s) e = omega arith
sum-no-use (sum_assign k n l f s) e = omega arith
sum-no-use (sum_sequence k n f s) e = omega arith
sum-no-use (sum_if k n f s) e = omega arith
sum-no-use (sum_while k n f s) e = omega arith
sum-no-use (sum_new k n f) e = omega arith

module _ (t : List ℕ) (N : Numbers) (r : Record) (last next : ℕ) {ty d n v w : ℕ} (S : SumIs t N r last ty d n v w)
  where
    pub sum-here : SumKind t r.place r.kind d n v w
    sum-here = S.sums t refl (λ place h. refl)

    sum-plain : r.kind ≡ 20 → ⊥
    sum-plain = sum-no-use sum-here

    module _ {u : List ℕ} (e : u ≡ five r.place r.kind next (class_of ty) (values N ty) d t) where
      sum-written : (around : ℕ) → u ≡ row_written N r ty around next t
      sum-written around = five-written N r ty around next t S.same_kind (S.has_detail around) e

      -- the row of the record, and the rows that its weight needs
      pub sum-at : r.place < 4096 → RowAt u r.place r.kind d
      sum-at h = at_same r.place (sum-written 0) S.same_kind (S.has_detail 0) (row_at N r ty 0 next t h)

      pub sum-kind : SumKind u r.place r.kind d n v w
      sum-kind =
          S.sums u (rw (sum-written 0) (row_first N r ty 0 next t))
          (λ place h. rw (sum-written 0) (row-after N r ty 0 next t place h))

      -- the record closed
      pub sum-closed : {y : List ℕ} → y ≡ weighed (used_number r) r.place u → (s : List ℕ) (around : ℕ) →
          (read ty next ≡ closed_answer s r (read last next))
          × (y ≡ closed_table N s around r (read last next) t)
      unfolding closed_answer closed_table
      sum-closed f s around = (
        ap (λ x. read x next) (S.has_type s),
        f ∙ ap (weighed (used_number r) r.place) (sum-written around ∙ note-kind r _ sum-plain) ∙ rw (S.has_type s),
      )

      pub sum-weighed : {y : List ℕ} → y ≡ weighed 0 r.place u → y ≡ weighed (used_number r) r.place u
      sum-weighed f = f ∙ rw (← number-none r sum-plain)
