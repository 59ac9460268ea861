-- What follow and compare promise allows one answer only.
use mathlib.Core.Path.{◌≡◌, refl, sym, ap, ◌∙◌, subst}
use mathlib.Core.Bool.{Bool, true, false}
use mathlib.Core.Logic.{◌⊎◌, inl, inr}
use mathlib.Core.List.{List}
use mathlib.Core.Option.{Option, none, some}
use Prim.Native.Nat.{ℕ, zero, suc, ◌+◌, ◌<◌}
use native.Mathlib.Omega.{arith}
use native.Mathlib.Decide.{dec_lt}
use lib.ListN.{length}
use lib.Dec.{ltb}
use Rattle.language.specs.Choice.{pick}
use Rattle.language.specs.Move.{Word, Before}
use Rattle.states_words.specs.Letter.{AllSmall}
use Rattle.states_words.proofs.Ranges.{sheet-small}
use Rattle.sheet_written.specs.Written.{Sheet}
use Rattle.sheet_written.specs.Width.{heading_width}
use Rattle.sheet_reader.specs.Fine.{Accepted}
use Rattle.sheet_reader.specs.Reader.{Answer, got, refused, Whole, whole, size_in, numbers_at, whole_of, sheet_in, checks, written}
use Rattle.sheet_records.specs.declared.edition.Edition.TheVariants.{Present}
use Rattle.sheet_reader.specs.Reader.{accepted, rejected, read_sheet, read_under}
use Rattle.sheet_records.specs.Refusal.{too_large}
use Rattle.sheet_reader.proofs.Right.{gives}
use Rattle.sheet_records.specs.declared.refusal.Cause.{Cause}
use Rattle.serve_compare.specs.Plays.{Alike, Only, FirstPlay}
use Rattle.play_records.specs.Records.{moves}
use Rattle.serve_conditions.specs.Pair.{matching, pair_refusal}
use Rattle.serve_compare.specs.Refusals.{on_read, follow_refusal, compare_refusal}
use Rattle.serve_compare.specs.Promise.{Holds, Greatest, NoPlay, Counted, FollowedBy}
use Rattle.serve_compare.specs.Promise.{Decided, same, apart, ComparedBy}
use Rattle.serve_compare.specs.Demands.{Comparable, FollowUnique, CompareUnique}
use Rattle.std.specs.Prelude.{Result}
use Rattle.serve_compare.specs.declared.Comparison.{Comparison}
use Rattle.serve_compare.proofs.ReadSheets.{two-first}
use Rattle.serve_compare.proofs.ComparePlays.{AsOne, as_one}
use Rattle.serve_compare.proofs.PlayOrder.{before-total}
use Rattle.sheet_records.specs.declared.refusal.Sheets.{Sheets}
use Rattle.sheet_records.specs.declared.refusal.Sheets.TheVariants.{Old, New, Both}

-- bytes hold one sheet
pub one-sheet : {s : List ℕ} {S T : Sheet} → Holds s S → Holds s T → S ≡ T
one-sheet h k = let e = sym h.reads ∙ k.reads in cc

-- a sheet that bytes hold is in order
pub held-accepted : {s : List ℕ} {S : Sheet} → Holds s S → Accepted S
held-accepted {s} {S} h = (gives Present s S h.type h.size h.reads).1

-- its numbers are those of the first two bytes
pub held-numbers : {s : List ℕ} {S : Sheet} → Holds s S → S.numbers ≡ numbers_at s
unfolding read_under checks sheet_in
held-numbers {s} {S} h = go (whole_of Present s) h.reads
  where
    sized : (x : Whole) (ty n : ℕ) (u : Bool) →
        pick u (rejected too_large 0) (accepted (sheet_in s x) ty n) ≡ accepted S h.type h.size →
        S.numbers ≡ numbers_at s
    sized (whole ns root t) ty n false e =
        let f : record { numbers = numbers_at s; names = ns; term = written s t } ≡ S = cc in
        sym (ap (λ (X : Sheet). X.numbers) f)
    sized x ty n true e = let z : ◌≡◌ {A = ℕ} 0 1 = cc in absurd (omega arith)

    go : (A : Answer Whole) → checks s A ≡ accepted S h.type h.size → S.numbers ≡ numbers_at s
    go (got x ty end) e = sized x ty (size_in s x ty) (ltb 4096 (size_in s x ty)) e
    go (refused n p) e = let z : ◌≡◌ {A = ℕ} 0 1 = cc in absurd (omega arith)

-- sheets whose comparison is not refused have the same numbers and the same result type
same-heading : (old new : List ℕ) (words space : ℕ) {S T : Sheet} {ty b n m : ℕ} → read_sheet old ≡ accepted S ty n →
    read_sheet new ≡ accepted T b m → compare_refusal old new words space ≡ none → AsOne old new ty b
unfolding compare_refusal on_read
same-heading old new words space {S} {T} {ty} {b} {n} {m} e f h =
    by (matching old new (heading_width S) (heading_width T) ty b) refl (rw (e, f) at h)
  where
    by : (c : Bool) → matching old new (heading_width S) (heading_width T) ty b ≡ c →
        pair_refusal c S.numbers words space (n + m) ≡ none → AsOne old new ty b
    by true d k = as_one (heading_width T) (two-first S) (sym d) refl
    by false d k = let z : ◌≡◌ {A = ℕ} 0 1 = cc in absurd (omega arith)

-- THEOREM: they can be compared
pub held-comparable : {old new : List ℕ} (words space : ℕ) {S T : Sheet} → Holds old S → Holds new T →
    compare_refusal old new words space ≡ none → Comparable S T
held-comparable {old} {new} words space {S} {T} h k e =
    let o = same-heading old new words space h.reads k.reads e in
    record {
      numbers = held-numbers h ∙ o.numbers ∙ sym (held-numbers k);
      types = sym (gives Present old S h.type h.size h.reads).2 ∙ o.types
          ∙ (gives Present new T k.type k.size k.reads).2;
    }

-- two sheets in order of the same numbers
module _ (S T : Sheet) (A : Accepted S) (B : Accepted T) (e : S.numbers ≡ T.numbers) where
  -- every move of a play of one of them has a letter
  only-small : (which : Sheets) (u : Word) → Only which S T u → AllSmall S.numbers u
  unfolding Only
  only-small Old u h = sheet-small S A.ordered u h.0
  only-small New u h = subst (λ N. AllSmall N u) (sym e) (sheet-small T B.ordered u h.0)
  only-small Both u h = absurd h

  -- a play of exactly one of them tells them apart
  only-differ : (which : Sheets) (u : Word) → Only which S T u → Alike S T u → ⊥
  unfolding Only
  only-differ Old u h a = h.1 (a.0 h.0)
  only-differ New u h a = h.1 (a.1 h.0)
  only-differ Both u h a = absurd h

  -- and is one sheet's
  pub only_one : (which other : Sheets) (u : Word) → Only which S T u → Only other S T u → which ≡ other
  unfolding Only
  only_one Old Old u h k = refl
  only_one Old New u h k = absurd (k.1 h.0)
  only_one Old Both u h k = absurd k
  only_one New Old u h k = absurd (h.1 k.0)
  only_one New New u h k = refl
  only_one New Both u h k = absurd k
  only_one Both other u h k = absurd h

  -- there is one first play
  pub one-first : (which other : Sheets) (u v : Word) → FirstPlay S T which u → FirstPlay S T other v → u ≡ v
  one-first which other u v f g =
      by (before-total S.numbers (omega (arith, A.ordered.in_order.z_below)) u v (only-small which u f.only)
      (only-small other v g.only))
    where
      by : Before S.numbers u v ⊎ ((u ≡ v) ⊎ Before S.numbers v u) → u ≡ v
      by (inl b) = absurd (only-differ which u f.only (g.earlier u b))
      by (inr (inl d)) = d
      by (inr (inr b)) = absurd (only-differ other v g.only (f.earlier v b))

  -- THEOREM: there is one decision
  one-decision : {space : List ℕ} {r r₂ : Result Comparison Cause} {space₁ space₂ : List ℕ} → Decided S T space r space₁ →
      Decided S T space r₂ space₂ → (r ≡ r₂) × (space₁ ≡ space₂)
  one-decision (same h) (same k) = (h.answer ∙ sym k.answer, h.space_kept ∙ sym k.space_kept)
  one-decision (same h) (apart k) =
      absurd (only-differ k.which k.play k.first.only (h.plays k.play))
  one-decision (apart h) (same k) =
      absurd (only-differ h.which h.play h.first.only (k.plays h.play))
  one-decision (apart h) (apart k) =
      let p : h.play ≡ k.play = one-first h.which k.which h.play k.play h.first k.first in
      let w : h.which ≡ k.which =
      only_one h.which k.which h.play h.first.only (rw p k.first.only) in
      (h.answer ∙ rw (p, w) (sym k.answer), h.written ∙ rw p (sym k.written))

-- THEOREM: what compare promises allows one answer only
pub compare-unique : CompareUnique
unfolding ComparedBy
compare-unique old new ws space r r₂ ws₁ ws₂ space₁ space₂ p q =
    go (compare_refusal old new (length ws) (length space)) refl p q
  where
    go : (x : Option Cause) → compare_refusal old new (length ws) (length space) ≡ x →
        ComparedBy x old new ws space r ws₁ space₁ → ComparedBy x old new ws space r₂ ws₂ space₂ →
        (r ≡ r₂) × ((ws₁ ≡ ws₂) × (space₁ ≡ space₂))
    go (some x) e h k = (h.0 ∙ sym k.0, (h.1.0 ∙ sym k.1.0, h.1.1 ∙ sym k.1.1))
    go none e h k =
        let S = h.first_sheet in
        let T = h.second_sheet in
        let s : k.first_sheet ≡ S = one-sheet k.first_held h.first_held in
        let t : k.second_sheet ≡ T = one-sheet k.second_held h.second_held in
        let n : S.numbers ≡ T.numbers = (held-comparable (length ws) (length space) h.first_held h.second_held e).numbers in
        let d : Decided S T space r₂ space₂ = rw (s, t) at k.decided in
        let o = one-decision S T (held-accepted h.first_held) (held-accepted h.second_held) n h.decided d in
        (o.0, (h.cleared ∙ sym k.cleared, o.1))

-- records read off a play are one list
one-parse : {rs us : List (List ℕ)} → moves rs ≡ moves us → rs ≡ us
one-parse e = cc

-- counts of one play are one
module _ {S : Sheet} {rs : List (List ℕ)} {m n : ℕ} {b d : Bool} (h : Counted S rs m b) (k : Counted S rs n d) where
  one-count : m ≡ n
  one-count = go h.greatest k.greatest
    where
      order : Greatest S rs m → Greatest S rs n → Dec (m < n) → Dec (n < m) → m ≡ n
      order x y (yes l) d = absurd (x.no_more n l k.within y.begins)
      order x y (no l) (yes r) = absurd (y.no_more m r h.within x.begins)
      order x y (no l) (no r) = omega arith

      go : Greatest S rs m ⊎ NoPlay S m → Greatest S rs n ⊎ NoPlay S n → m ≡ n
      go (inl x) (inl y) = order x y (dec_lt m n) (dec_lt n m)
      go (inl x) (inr y) = absurd (y.none x.begins.0 x.begins.1.0)
      go (inr x) (inl y) = absurd (x.none y.begins.0 y.begins.1.0)
      go (inr x) (inr y) = x.zero ∙ sym y.zero

  one-whole : b ≡ d
  one-whole = go b d refl refl
    where
      go : (x y : Bool) → b ≡ x → d ≡ y → b ≡ d
      go true true e f = e ∙ sym f
      go true false e f = e ∙ sym (k.whole.1 (h.whole.0 e))
      go false true e f = h.whole.1 (k.whole.0 f) ∙ sym f
      go false false e f = e ∙ sym f

-- THEOREM: what follow promises allows one answer only
pub follow-unique : FollowUnique
unfolding FollowedBy
follow-unique s play ws r r₂ ws₁ ws₂ p q = go (follow_refusal s play (length ws)) p q
  where
    go : (x : Option Cause) → FollowedBy x s play ws r ws₁ → FollowedBy x s play ws r₂ ws₂ → (r ≡ r₂) × (ws₁ ≡ ws₂)
    go (some x) h k = (h.0 ∙ sym k.0, h.1 ∙ sym k.1)
    go none h k =
        let e : k.sheet ≡ h.sheet = one-sheet k.held h.held in
        let f : k.records ≡ h.records = one-parse (sym k.parsed ∙ h.parsed) in
        let c : Counted h.sheet h.records k.count k.complete = rw (e, f) at k.counted in
        let m : h.count ≡ k.count = one-count h.counted c in
        let b : h.complete ≡ k.complete = one-whole h.counted c in
        (h.answer ∙ rw (m, b) (sym k.answer), h.cleared ∙ sym k.cleared)
