-- What examine answers, from what its callees answer: its refusals, and its verdict on two sheets.
use mathlib.Core.Path.{◌≡◌, refl, sym, ap, ap₂, ◌∙◌}
use mathlib.Core.Logic.{◌↔◌}
use mathlib.Core.Bool.{Bool, true, false}
use mathlib.Core.List.{List}
use mathlib.Core.Option as math
use mathlib.Core.Option.{none, some}
use Rattle.std.specs.Prelude.{Option, Some, None, Result, Ok, Err}
use Prim.Native.Nat.{ℕ, zero, suc, ◌+◌, ◌*◌, ◌-◌, ◌≤◌, ◌<◌}
use native.Mathlib.Omega.{arith}
use lib.ListN.{length, get_or, replicate}
use lib.Dec.{eqb, ltb}
use borrow.Author.Tests.{eqb-true, ltb-true, ltb-false}
use Rattle.language.specs.Choice.{pick}
use Rattle.language.specs.declared.Numbers.{Numbers}
use Rattle.language.specs.Ty.{Ty}
use Rattle.language.specs.Move.{Word}
use Rattle.language.specs.Play.{Complete}
use Rattle.language.specs.Weight.{size}
use Rattle.states_words.specs.inner.Ready.{Ready}
use Rattle.sheet_records.specs.Refusal.{cause, both_sheets}
use Rattle.sheet_records.specs.declared.refusal.Refusal.{Refusal as Wrong}
use Rattle.sheet_records.specs.declared.refusal.Cause.{Cause}
use Rattle.sheet_written.specs.Written.{Sheet}
use Rattle.sheet_written.specs.Meaning.{ty_of, term_of, type_of}
use Rattle.sheet_reader.specs.Reader.{numbers_at, read_sheet, rejected}
use Rattle.term_load.specs.Loaded as load
use Rattle.term_load.specs.declared.load.Loaded.{Loaded}
use Rattle.serve_compare.specs.Plays.{Alike, Only, reckoned}
use Rattle.serve_conditions.specs.Pair.{refusing, same_first, matching, pair_refusal, reason_of}
use Rattle.serve_compare.specs.Refusals.{on_read, compare_refusal}
use Rattle.serve_compare.specs.Look.{Found, nothing, first, FoundIn, decision_of, space_after, whole_depth}
use Rattle.serve_conditions.specs.Lent.{words_asked}
use Rattle.states_build.specs.inner.Built.{TwoReady, TwoBuilt}
use Rattle.serve_compare.specs.inner.Deciding.{Deciding, OnlyTerm, Verdicts, alike, differ, ExaminedBy, ExaminePromise}
use Rattle.sheet_judge.specs.Mark.{uses_of}
use Rattle.sheet_judge.specs.declared.mark.Uses.{Uses}
use Rattle.play_words.specs.declared.Difference.{Difference}
use Rattle.serve_compare.specs.declared.Examined.{Examined}
use Rattle.serve_compare.proofs.ReadSheets.{heading-after, Fit, fit-as, fit-held, fit-type, fit-ready, fit-used}
use Rattle.sheet_records.specs.declared.refusal.Reason.{Reason}
use Rattle.sheet_records.specs.declared.refusal.Reason.TheVariants.{HeadingsDiffer, TooFewWords, SpaceTooShort}
use Rattle.sheet_records.specs.declared.refusal.Sheets.{Sheets}
use Rattle.sheet_records.specs.declared.refusal.Sheets.TheVariants.{Old, New, Both}

-- a refusal leaves everything as it was
refuses : (old new ws space : List ℕ) (most : ℕ) {x q : Cause} →
    compare_refusal old new (length ws) (length space) ≡ some x → q ≡ x →
    ExaminePromise old new most ws space (Err q) ws space
unfolding ExaminedBy
refuses old new ws space most e f = rw e (ap Err f, (refl, refl))

-- the old sheet is refused
pub refused-old : (old new ws space : List ℕ) (most : ℕ) {z : Wrong} {q : Cause} →
    read_sheet old ≡ rejected z.reason z.place → q ≡ cause z.reason Old z.place →
    ExaminePromise old new most ws space (Err q) ws space
unfolding compare_refusal on_read
refused-old old new ws space most h f = refuses old new ws space most (rw h) f

-- the old sheet is read, and the new one refused
pub refused-new : (old new ws space : List ℕ) (most : ℕ) {root row ty size : ℕ} {v : Uses} {t : List ℕ}
    {z : Wrong} {q : Cause} → load.Ready old root row ty size v t → read_sheet new ≡ rejected z.reason z.place →
    q ≡ cause z.reason New z.place → ExaminePromise old new most ws space (Err q) ws space
unfolding compare_refusal on_read
refused-new old new ws space most A h f = refuses old new ws space most (rw (A.accepts, h)) f

-- equal first bytes
pub same_byte : (n : ℕ) (s u : List ℕ) → same_first n s u ≡ true → (i : ℕ) → i < n → get_or s i 0 ≡ get_or u i 0
unfolding same_first
same_byte zero s u e i h = absurd (omega arith)
same_byte (suc n) s u e i h = by (eqb (get_or s n 0) (get_or u n 0)) refl e (λ f. same_byte n s u f i)
  where
    by : (b : Bool) → eqb (get_or s n 0) (get_or u n 0) ≡ b → pick b (same_first n s u) false ≡ true →
        (same_first n s u ≡ true → i < n → get_or s i 0 ≡ get_or u i 0) → get_or s i 0 ≡ get_or u i 0
    by true d e f = go (ltb i n) refl
      where
        go : (b : Bool) → ltb i n ≡ b → get_or s i 0 ≡ get_or u i 0
        go true k = f e (omega (arith, ltb-true i n k))
        go false k =
            let j : i ≡ n = omega (arith, ltb-false i n k) in rw j (eqb-true (get_or s n 0) (get_or u n 0) d)
    by false d e f = let z : ◌≡◌ {A = ℕ} 0 1 = cc in absurd (omega arith)

-- the same numbers and result type
pub record AsOne (old new : List ℕ) (ty b : ℕ) : Type 0 where
  pub numbers : numbers_at old ≡ numbers_at new
  pub types : ty ≡ b

-- comparable sheets have the same numbers and result type
pub as_one : {old new : List ℕ} {root ty b : ℕ} (other : ℕ) {x : Bool} → 2 ≤ root →
    x ≡ matching old new root other ty b → x ≡ true → AsOne old new ty b
unfolding matching
as_one {old} {new} {root} {ty} {b} other after e f =
    by (eqb root other) (same_first root old new) (eqb ty b) refl refl (sym e ∙ f)
  where
    by : (p q r : Bool) → same_first root old new ≡ q → eqb ty b ≡ r → pick p (pick q r false) false ≡ true →
        AsOne old new ty b
    by true true true d g h = record {
      numbers =
          ap₂ (λ a c. record { z = a; rule = c }) (same_byte root old new d 0 (omega arith))
          (same_byte root old new d 1 (omega arith));
      types = eqb-true ty b g;
    }
    by true true false d g h = let z : ◌≡◌ {A = ℕ} 0 1 = cc in absurd (omega arith)
    by true false r d g h = let z : ◌≡◌ {A = ℕ} 0 1 = cc in absurd (omega arith)
    by false q r d g h = let z : ◌≡◌ {A = ℕ} 0 1 = cc in absurd (omega arith)

-- what is found of two sheets, decided and written
pub record Seen (S T : Sheet) (most : ℕ) (space : List ℕ) (d : Option Difference) (space' : List ℕ) : Type 0 where
  pub found : Found
  pub decided : d ≡ decision_of found
  pub found_in : FoundIn most S T found
  pub after : space' ≡ space_after S.numbers found space

-- a verdict on the terms of two sheets is one on the sheets
module _ (S T : Sheet) {N : Numbers} {X : Ty} (e : S.numbers ≡ N) (f : ty_of S.numbers (type_of S) ≡ X)
    (g : ty_of T.numbers (type_of T) ≡ X) where
  -- a play of both or of neither
  alike_as : (u : Word) → Complete X (term_of S) u ↔ Complete X (term_of T) u → Alike S T u
  alike_as u h = rw (f, g) h

  -- a play of exactly one
  only-as : (which : Sheets) (u : Word) → OnlyTerm which X (term_of S) (term_of T) u → Only which S T u
  unfolding OnlyTerm Only
  only-as Old u h = rw (f, g) h
  only-as New u h = rw (f, g) h
  only-as Both u h = absurd h

  -- the whole verdict
  decided-as : {most : ℕ} {space : List ℕ} {d : Option Difference} {space' : List ℕ} →
      Verdicts N X (term_of S) (term_of T) most space d space' → Seen S T most space d space'
  unfolding FoundIn space_after decision_of
  decided-as (alike a p k) =
      record { found = nothing; decided = a; found_in = λ u l. alike_as u (p u l); after = k }
  decided-as (differ which play a o h l w) = record {
    found = first which play;
    decided = a;
    found_in = (record { only = only-as which play o; earlier = λ v b. alike_as v (h v (rw e at b)) }, l);
    after = rw e w;
  }

-- what is told, and what is told of equal things is equal
abbrev pub known : Option Difference → ℕ → Uses → Uses → Result Examined Cause
known d n v w = Ok (record { found = d; whole = n; old = v; new = w })

known_as : {d d₂ : Option Difference} {n n₂ : ℕ} {v v₂ w w₂ : Uses} → d ≡ d₂ → n ≡ n₂ → v ≡ v₂ → w ≡ w₂ →
    known d n v w ≡ known d₂ n₂ v₂ w₂
known_as e f g h = rw (e, f, g, h) refl

-- two sheets that fit, of one type, and the names that they use
pub record Fits (N : Numbers) (old new : List ℕ) (row other all more : ℕ) (v w : Uses) (t u : List ℕ) : Type 0 where
  pub ty : ℕ
  pub first : Fit N ty old row all t
  pub second : Fit N ty new other more u
  pub first-used : v ≡ uses_of first.sheet
  pub second-used : w ≡ uses_of second.sheet

-- two sheets that are loaded, where they are comparable
pub both : {old new : List ℕ} {root row ty all other other_row b more : ℕ} {v w : Uses} {t u : List ℕ} {k : Bool}
    {N : Numbers} → load.Ready old root row ty all v t → load.Ready new other other_row b more w u →
    k ≡ matching old new root other ty b → k ≡ true → N ≡ numbers_at old → Fits N old new row other_row all more v w t u
both {old} {new} {row = row} {ty} {all} {other} {other_row} {more = more} {t = t} {u = u} {N = N} A B c h n =
    let o = as_one other (heading-after A) c h in
    let F : Fit N ty old row all t = fit-as A (sym n) refl in
    let G : Fit N ty new other_row more u = fit-as B (sym o.numbers ∙ sym n) (sym o.types) in
    record { ty = ty; first = F; second = G; first-used = fit-used A F; second-used = fit-used B G }

-- two sheets that fit
module _ {N : Numbers} {old new : List ℕ} {row other all more : ℕ} {v w : Uses} {t u : List ℕ}
    (P : Fits N old new row other all more v w t u) where
  -- their type, and each of them
  abbrev ty : ℕ
  ty = P.ty

  abbrev F : Fit N ty old row all t
  F = P.first

  abbrev F' : Fit N ty new other more u
  F' = P.second

  -- what build_two asks for
  pub two_ready : (ws : List ℕ) → words_asked N (all + more) ≤ length ws → TwoReady N t u row other all more ws
  two_ready ws h = record {
    type = ty_of N ty;
    term = term_of F.sheet;
    other_term = term_of F'.sheet;
    long = F.long;
    other_long = F'.long;
    ready = fit-ready F;
    other_ready = fit-ready F';
    sized = F.sized;
    other_sized = F'.sized;
    room = h;
  }

  -- what decide asks for
  pub deciding : (ws ws₁ space : List ℕ) (h : words_asked N (all + more) ≤ length ws) → length ws₁ ≡ length ws →
      4 * (all + more - 1) ≤ length space →
      ((R : TwoReady N t u row other all more ws) →
      TwoBuilt N R.type R.term R.other_term (all + more + 1) ws₁) → Deciding ws₁ space all more
  unfolding two_ready
  deciding ws ws₁ space h e l b = record {
    numbers = N;
    type = ty_of N ty;
    term = term_of F.sheet;
    other_term = term_of F'.sheet;
    z_below = F.z_below;
    typed = F.typed;
    other_typed = F'.typed;
    type_in = F.type_in;
    term_in = F.term_in;
    other_in = F'.term_in;
    sized = F.sized;
    other_sized = F'.sized;
    small = F.small;
    other_small = F'.small;
    room = rw e h;
    space_room = l;
    built = b (two_ready ws h);
  }

  -- their sizes
  sizes : all + more - 1 ≡ whole_depth F.sheet F'.sheet
  sizes =
      let e : reckoned F.sheet ≡ all = ap (λ X. size X (term_of F.sheet)) (fit-type F) ∙ F.sized in
      let f : reckoned F'.sheet ≡ more = ap (λ X. size X (term_of F'.sheet)) (fit-type F') ∙ F'.sized in
      ap₂ (λ a b. a + b - 1) (sym e) (sym f)

  -- the answer to an accepted call
  pub examined : (most : ℕ) (ws ws₁ ws₂ ws₃ space space' : List ℕ) (d : Option Difference)
      (h : words_asked N (all + more) ≤ length ws)
      (e : length ws₁ ≡ length ws) (l : 4 * (all + more - 1) ≤ length space)
      (b : (R : TwoReady N t u row other all more ws) →
      TwoBuilt N R.type R.term R.other_term (all + more + 1) ws₁) →
      ((D : Deciding ws₁ space all more) →
      Verdicts D.numbers D.type D.term D.other_term most space d space') →
      length ws₂ ≡ length ws₁ → ws₃ ≡ replicate (length ws₂) 0 →
      compare_refusal old new (length ws) (length space) ≡ none →
      ExaminePromise old new most ws space (known d (all + more - 1) v w) ws₃ space'
  unfolding ExaminedBy deciding
  examined most ws ws₁ ws₂ ws₃ space space' d h e l b f j k n =
      let s : Seen F.sheet F'.sheet most space d space' =
      decided-as F.sheet F'.sheet F.numbers (fit-type F) (fit-type F') (f (deciding ws ws₁ space h e l b))
      in
      rw n (record {
        looked = record {
          first_sheet = F.sheet;
          second_sheet = F'.sheet;
          first_held = fit-held F;
          second_held = fit-held F';
          found = s.found;
          found_in = s.found_in;
          space-after = s.after;
          cleared = k ∙ ap (λ i. replicate i 0) (j ∙ e);
        };
        answer = known_as s.decided sizes P.first-used P.second-used;
      })

-- by the three tests
abbrev judgement : Bool → Bool → Bool → math.Option Cause
judgement p q s =
    pick p (pick q (refusing TooFewWords Both 0) (pick s (refusing SpaceTooShort Both 0) none)) (refusing HeadingsDiffer Both 0)

stopped_by : (p q s : Bool) {reason : Reason} → reason_of (judgement p q s) ≡ Some reason →
    judgement p q s ≡ refusing reason Both 0
unfolding reason_of
stopped_by false q s {reason} e = let z : HeadingsDiffer ≡ reason = cc in rw z refl
stopped_by true true s {reason} e = let z : TooFewWords ≡ reason = cc in rw z refl
stopped_by true false true {reason} e = let z : SpaceTooShort ≡ reason = cc in rw z refl
stopped_by true false false e = cc

passed-by : (p q s : Bool) → reason_of (judgement p q s) ≡ None → (p ≡ true) × (q ≡ false) × (s ≡ false)
unfolding reason_of
passed-by false q s e = cc
passed-by true true s e = cc
passed-by true false true e = cc
passed-by true false false e = (refl, refl, refl)

-- two sheets that are not refused: they match, and enough is lent for sizes that add up to n
pub record Passed (fit : Bool) (N : Numbers) (words space n : ℕ) : Type 0 where
  pub matched : fit ≡ true
  pub words-enough : words_asked N n ≤ words
  pub space-enough : 4 * (n - 1) ≤ space

-- both sheets are loaded
module _ (old new ws space : List ℕ) {root row ty all other other_row b more : ℕ} {v w : Uses} {t u : List ℕ}
    (A : load.Ready old root row ty all v t) (B : load.Ready new other other_row b more w u) where
  -- the judgement after that
  judged : compare_refusal old new (length ws) (length space) ≡
      pair_refusal (matching old new root other ty b) (numbers_at old) (length ws) (length space) (all + more)
  unfolding compare_refusal on_read
  judged = rw (A.accepts, B.accepts, A.rooted, B.rooted, A.numbered)

  module _ {fit : Bool} {r : Option Reason} {N : Numbers} (e : fit ≡ matching old new root other ty b)
      (f : N ≡ numbers_at old)
      (n : r ≡ reason_of (pair_refusal fit N (length ws) (length space) (all + more))) where
    -- by the names of the code
    judged-as : compare_refusal old new (length ws) (length space) ≡
        pair_refusal fit N (length ws) (length space) (all + more)
    judged-as = judged ∙ rw (← e, ← f) refl

    -- they are refused together
    pub refused-pair : (most : ℕ) {reason : Reason} {q : Cause} → r ≡ Some reason → q ≡ cause reason both_sheets 0 →
        ExaminePromise old new most ws space (Err q) ws space
    refused-pair most h k =
        refuses old new ws space most
        (judged-as ∙
        stopped_by fit (ltb (length ws) (words_asked N (all + more)))
        (ltb (length space) (4 * (all + more - 1))) (sym n ∙ h))
        k

    -- the tests passed
    tests : r ≡ None → (fit ≡ true) × (ltb (length ws) (words_asked N (all + more)) ≡ false) ×
        (ltb (length space) (4 * (all + more - 1)) ≡ false)
    tests z =
        passed-by fit (ltb (length ws) (words_asked N (all + more))) (ltb (length space) (4 * (all + more - 1)))
        (sym n ∙ z)

    -- nothing is refused
    pub passed : r ≡ None → Passed fit N (length ws) (length space) (all + more)
    passed z = record
        { matched = (tests z).0; words-enough = ltb-false _ _ (tests z).1; space-enough = ltb-false _ _ (tests z).2 }

    pub accepted-call : r ≡ None → compare_refusal old new (length ws) (length space) ≡ none
    accepted-call z = judged-as ∙ rw ((tests z).0, (tests z).1, (tests z).2) refl
