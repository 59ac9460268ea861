-- What judging a sheet says, from what was read and what it weighs.
use Rattle.std.specs.Prelude.{Option, Some, Result, Ok, Err}
use Rattle.std.specs.Result.{result_err}
use Prim.Native.Nat.{ℕ, zero, suc, ◌*◌, ◌≤◌, ◌<◌, min}
use native.Mathlib.Omega.{arith}
use native.Mathlib.Nat.{mul-le-mul, zero-mul, min-eq_left}
use native.Mathlib.Decide.{dec_le}
use mathlib.Core.Path.{◌≡◌, refl, sym, ap, ◌∙◌}
use mathlib.Core.List.{List, []}
use borrow.Author.Tests.{lt-ltb, le-ltb}
use Rattle.language.specs.Weight.{size, weight}
use Rattle.language.specs.declared.Numbers.{Numbers}
use Rattle.sheet_records.specs.Refusal.{refusal, cause, old_sheet, too_large}
use Rattle.sheet_parts.specs.Rule.{questions}
use Rattle.sheet_records.specs.declared.edition.Edition.{Edition}
use Rattle.sheet_records.specs.declared.edition.Edition.TheVariants.{Present}
use Rattle.sheet_records.specs.declared.refusal.Refusal.{Refusal}
use Rattle.sheet_records.specs.declared.refusal.Cause.{Cause}
use Rattle.sheet_written.specs.Written as written
use Rattle.sheet_written.specs.Meaning.{ty_of, term_of}
use Rattle.sheet_written.specs.Form.{form_of, no_forms, form_sheet}
use Rattle.sheet_written.specs.Held.{held}
use Rattle.sheet_written.proofs.FormLaw.{form-sheet}
use Rattle.sheet_written.proofs.Types.{questions-of, answers_of}
use Rattle.weight_theory.specs.Stack.{form_word}
use Rattle.sheet_reader.specs.Reader.{Answer, got, refused, Whole, whole, numbers_at, whole_of, checks, read_under}
use Rattle.sheet_reader.specs.Reader.{read_sheet, accepted, rejected}
use Rattle.sheet_judge.specs.Size.{size_of}
use Rattle.sheet_judge.specs.Check.{answered, checked_of}
use Rattle.sheet_reader.specs.table.Fill.{erase_sheet, ReadsSheet}
use Rattle.sheet_reader.specs.table.Notes.{Blank}
use Rattle.sheet_judge.specs.Masks.{uses_at}
use Rattle.sheet_table.specs.Tabled.{Tabled, TabledBy}
use Rattle.sheet_table.proofs.Tabling.{tabled}
use Rattle.sheet_judge.specs.Judged.{JudgedBy}
use Rattle.sheet_reader.specs.declared.names.Reading.{Reading}
use Rattle.sheet_judge.specs.declared.judge.Judgement.{Judgement}
use Rattle.sheet_judge.specs.declared.check.Checked.{Checked}
use Rattle.sheet_judge.specs.declared.mark.Uses.{Uses}
use Rattle.sheet_judge.proofs.Masking.{uses-right}

-- weights held at 4,097
sat-times : (k v : ℕ) → min (k * min v 4097) 4097 ≡ min (k * v) 4097
sat-times k v = go k (dec_le v 4097)
  where
    go : (k : ℕ) → Dec (v ≤ 4097) → min (k * min v 4097) 4097 ≡ min (k * v) 4097
    go k (yes h) = rw (min-eq_left h)
    go zero (no h) = rw (zero-mul, zero-mul)
    go (suc k) (no h) =
        let e : min v 4097 ≡ 4097 = omega arith in
        rw e (omega (
          arith,
          mul-le-mul {n₁ = 1} {m₁ = 4097} {n₂ = suc k} {m₂ = v} (omega arith) (omega arith),
          mul-le-mul {n₁ = 1} {m₁ = 4097} {n₂ = suc k} {m₂ = 4097} (omega arith) (omega arith),
        ))

held-size : (N : Numbers) (ty w : ℕ) → min (size_of N ty (min w 4097)) 4097 ≡ min (size_of N ty w) 4097
unfolding size_of
held-size N ty w = omega (arith, sat-times (questions N ty) w)

-- the size of a sheet from its weight
size-of-weight : (N : Numbers) (ty : ℕ) (S : written.Sheet) →
    size (ty_of N ty) (term_of S) ≡ size_of N ty (weight (term_of S))
unfolding size size_of
size-of-weight N ty S = rw (questions-of N ty, answers_of N ty) refl

module _ (ed : Edition) (s u : List ℕ) (root ty next : ℕ) (T : Tabled ed s root ty next u) where
  abbrev S : written.Sheet
  S = T.sheet

  -- what is weighed is the sheet's weight, held
  weighed : {r : ℕ} → r ≡ form_word u 0 1 → r ≡ min (weight (term_of S)) 4097
  unfolding held form_sheet
  weighed W =
      W ∙ T.weighs
      ∙ ap (λ n. min n 4097)
      (sym (form-sheet S ∙ ap (λ N. (form_of N S.names [] no_forms S.term).constant) T.numbered))

  module _ {r n : ℕ} {N : Numbers} (W : r ≡ form_word u 0 1) (e : N ≡ numbers_at s) (h : n ≡ min (size_of N ty r) 4097)
    where
      abbrev full : ℕ
      full = size (ty_of (numbers_at s) ty) (term_of S)

      sized : n ≡ min full 4097
      sized =
          h ∙ rw (e, weighed W) (held-size (numbers_at s) ty (weight (term_of S))
          ∙ ap (λ k. min k 4097) (sym (size-of-weight (numbers_at s) ty S)))

      pub judged-large : 4096 < n → JudgedBy ed s (Err (refusal too_large 0)) u
      unfolding JudgedBy
      judged-large l =
          let k : 4096 < full = omega (arith, sized) in
          T.finds ∙ rw (lt-ltb 4096 full k) refl

      pub judged-accepted : n ≤ 4096 → (v : Uses) → v ≡ uses_at s u → JudgedBy ed s (Ok (record { root = root; ty = ty; size = n; uses = v })) u
      unfolding JudgedBy
      judged-accepted l v f =
          let k : full ≤ 4096 = omega (arith, sized) in
          let m : full ≡ n = omega (arith, sized) in
          let a : read_under ed s ≡ accepted S ty n = T.finds ∙ rw (le-ltb 4096 full k) (ap (λ i. accepted S ty i) m) in
          record {
            sheet = S;
            end = next;
            accepts = a;
            numbered = T.numbered;
            rooted = T.rooted;
            shown = T.shown;
            seats = T.seats;
            used = f ∙ uses-right ed s S ty n a u T.notes;
            marked = T.marked;
          }

-- a sheet that is refused while it is read
refused_as : (s : List ℕ) (A : Answer Whole) {x : Refusal} → Err x ≡ erase_sheet A →
    checks s A ≡ rejected x.reason x.place
unfolding erase_sheet checks
refused_as s (got (whole ns root t) ty end) e = cc
refused_as s (refused n p) {x} e = let h : x ≡ refusal n p = cc in rw h refl

pub judged-refused :
    (ed : Edition) (s u : List ℕ) {y : Result Reading Refusal} {x : Refusal} → y ≡ erase_sheet (whole_of ed s) →
    y ≡ Err x → JudgedBy ed s (Err x) u
unfolding JudgedBy read_under
judged-refused ed s u e f = refused_as s (whole_of ed s) (sym f ∙ e)

-- a sheet that is read
pub tabled-read : (ed : Edition) (s t u : List ℕ) {y : Result Reading Refusal} {x : Reading} → Blank t →
    ReadsSheet (numbers_at s) (whole_of ed s) y t u → y ≡ Ok x → Tabled ed s x.root x.ty x.next u
unfolding TabledBy
tabled-read ed s t u B R e = let T = tabled ed s t u B R in rw e at T

-- an answer of which a refusal is taken
pub is-err : {T E : Type 0} {x : Result T E} {o : Option E} {z : E} → o ≡ result_err x → o ≡ Some z → x ≡ Err z
is-err {x = Ok y} e f = cc
is-err {x = Err y} {z = z} e f = let h : y ≡ z = cc in rw h refl

-- the answer of check
pub checked_refused : (s u : List ℕ) {y : Result Judgement Refusal} {x : Refusal} {q : Cause} →
    JudgedBy Present s y u → y ≡ Err x → q ≡ cause x.reason old_sheet x.place →
    Err q ≡ checked_of (read_sheet s)
unfolding JudgedBy checked_of
checked_refused s u J e g = let j = rw e at J in rw (g, j) refl

pub checked-accepted : (s u : List ℕ) {y : Result Judgement Refusal} {x : Judgement} →
    JudgedBy Present s y u → y ≡ Ok x → answered x.ty x.size x.uses ≡ checked_of (read_sheet s)
unfolding JudgedBy checked_of
checked-accepted s u {x = x} J e =
    let j = rw e at J in rw j.accepts (ap (answered x.ty x.size) j.used)

-- two answers of check to sheets that it accepts are the same only if all is the same
module _ {ty size ty' size' : ℕ} {v v' : Uses} (e : answered ty size v ≡ answered ty' size' v') where
  found-same : {a b : Checked} → ◌≡◌ {A = Result Checked Cause} (Ok a) (Ok b) → a ≡ b
  found-same h = cc

  pub answered-type : ty ≡ ty'
  answered-type = ap (λ (x : Checked). x.ty) (found-same e)

  pub answered-size : size ≡ size'
  answered-size = ap (λ (x : Checked). x.size) (found-same e)

  pub answered-uses : v ≡ v'
  answered-uses = ap (λ (x : Checked). x.uses) (found-same e)
