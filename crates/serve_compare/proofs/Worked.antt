-- The sheets worked through: a computation that checks a row, and that a row that is checked holds.
use mathlib.Core.Path.{◌≡◌, refl, sym, ap, ◌∙◌}
use mathlib.Core.Bool.{Bool, true, false, not, false≢true, ◌&&◌}
use mathlib.Core.Logic.{◌↔◌}
use mathlib.Core.Option.{Option, none, some}
use mathlib.Core.List.{List, [], ◌∷◌}
use Prim.Native.Nat.{ℕ, zero, suc}
use lib.Dec.{eqb}
use lib.ListN.{length}
use borrow.Author.Tests.{eqb-true, not-true}
use Rattle.language.specs.Move.{Word}
use Rattle.sheet_written.specs.Written.{Sheet}
use Rattle.sheet_written.specs.Meaning.{term_of}
use Rattle.sheet_reader.specs.Fine.{Accepted}
use Rattle.sheet_records.specs.declared.edition.Edition.TheVariants.{Present}
use Rattle.sheet_reader.specs.Reader.{Checks, accepted, rejected, read_sheet}
use Rattle.sheet_reader.proofs.Right.{gives}
use Rattle.sheet_reader.proofs.WellTyped.{accepted-typed}
use Rattle.states_machine.specs.Settle.{run}
use Rattle.states_machine.specs.Sheet.{spots, steps, begin}
use Rattle.states_machine.proofs.Accepts.{language}
use Rattle.serve_compare.specs.Plays.{whole_type, CompletePlay, Alike, Only, FirstPlay}
use Rattle.serve_compare.specs.Worked.{Result, same, apart, TableRow, Says, Worked, Every}
use Rattle.serve_compare.proofs.Listing.{all, both, Machine, State}
use Rattle.serve_compare.proofs.Search.{ends, ends-true, coded, Agree, reached, related, related-agree, only, first}
use Rattle.serve_compare.proofs.Search.{first-agree, found}
use Rattle.sheet_records.specs.declared.refusal.Sheets.{Sheets}
use Rattle.sheet_records.specs.declared.refusal.Sheets.TheVariants.{Old, New, Both}

-- the states of a sheet, its machine and where it begins
abbrev count : Sheet → ℕ
count S = spots (whole_type S) (term_of S)

abbrev machine : (S : Sheet) → Machine (count S)
machine S = steps (whole_type S) (term_of S)

abbrev start : (S : Sheet) → State (count S)
start S = begin (whole_type S) (term_of S)

-- whether exactly one of the machines accepts a word that was found, of k moves, and no earlier one
unfoldable pub first_found : Sheets → ℕ → Sheet → Sheet → Option Word → Bool
first_found which k S T none = false
first_found which k S T (some w) =
    eqb (length w) k && first (machine S) (machine T) S.numbers which (start S) (start T) w

-- whether a result is right of two sheets
unfoldable pub decided : Result → Sheet → Sheet → Bool
decided same S T =
    let R = reached (machine S) (machine T) 1000 ((coded (start S), coded (start T)) ∷ []) [] in
    related (machine S) (machine T) R (start S) (start T)
decided (apart which k) S T =
    first_found which k S T (found (machine S) (machine T) S.numbers k (start S) (start T))

-- whether a row is right, where its bytes are read so
unfoldable pub row_read : TableRow → Checks → Checks → Bool
row_read r (accepted S a n) (accepted T b m) =
    eqb n r.old_size && (eqb m r.new_size && decided r.result S T)
row_read r (accepted S a n) (rejected number place) = false
row_read r (rejected number place) c = false

unfoldable pub row_checked : TableRow → Bool
row_checked r = row_read r (read_sheet r.old) (read_sheet r.new)

-- the machine of an accepted sheet accepts its complete plays
plays : (S : Sheet) → Accepted S → (u : Word) → (ends (run (machine S) (start S) u) ≡ true) ↔ CompletePlay S u
unfolding ends
plays S h u =
    let l = language (whole_type S) (term_of S) (accepted-typed S h) u in
    ((λ e. l.0 (ends-true _ e)), (λ c. ap ends (l.1 c)))

-- a word that it does not accept is no play
no-play : (S : Sheet) → Accepted S → (u : Word) → not (ends (run (machine S) (start S) u)) ≡ true →
    CompletePlay S u → ⊥
no-play S h u e c = false≢true (sym (not-true _ e) ∙ (plays S h u).1 c)

module _ (S T : Sheet) (A : Accepted S) (B : Accepted T) where
  -- the sheets are alike on the words on which their machines agree
  alike : (u : Word) → Agree (machine S) (machine T) (start S) (start T) u → Alike S T u
  alike u e =
      ((λ c. (plays T B u).0 (sym e ∙ (plays S A u).1 c)), (λ c. (plays S A u).0 (e ∙ (plays T B u).1 c)))

  -- exactly one has the word
  only-play : (which : Sheets) (u : Word) → only (machine S) (machine T) which (start S) (start T) u ≡ true →
      Only which S T u
  unfolding only Only
  only-play Old u e =
      let p = both (ends (run (machine S) (start S) u)) _ e in
      ((plays S A u).0 p.0, no-play T B u p.1)
  only-play New u e =
      let p = both (ends (run (machine T) (start T) u)) _ e in
      ((plays T B u).0 p.0, no-play S A u p.1)
  only-play Both u e = absurd (false≢true e)

  -- a word that is found is the first play of exactly one
  found-play : (which : Sheets) (k : ℕ) (w : Option Word) → first_found which k S T w ≡ true →
      (u : Word) × (FirstPlay S T which u × (length u ≡ k))
  unfolding first_found
  found-play which k none e = absurd (false≢true e)
  found-play which k (some w) e =
      let p = both (eqb (length w) k) _ e in
      let f = first-agree (machine S) (machine T) S.numbers which (start S) (start T) w p.1 in (
        w,
        (
          record { only = only-play which w f.0; earlier = λ v b. alike v (f.1 v b) },
          eqb-true (length w) k p.0,
        ),
      )

  -- what is decided of two accepted sheets is so
  decided-so : (r : Result) → decided r S T ≡ true → Says r S T
  unfolding decided Says
  decided-so same e = λ u. alike u (related-agree (machine S) (machine T) _ (start S) (start T) e u)
  decided-so (apart which k) e = found-play which k _ e

-- THEOREM: a row that is checked holds
checked-row : (r : TableRow) → row_checked r ≡ true → Worked r
unfolding row_checked row_read
checked-row r e = by (read_sheet r.old) (read_sheet r.new) refl refl e
  where
    by : (x y : Checks) → read_sheet r.old ≡ x → read_sheet r.new ≡ y → row_read r x y ≡ true → Worked r
    by (accepted S a n) (accepted T b m) f g e =
        let p = both (eqb n r.old_size) _ e in
        let q = both (eqb m r.new_size) (decided r.result S T) p.1 in
        record {
          first_sheet = S;
          second_sheet = T;
          first_type = a;
          second_type = b;
          first_reads = f ∙ ap (accepted S a) (eqb-true n r.old_size p.0);
          second_reads = g ∙ ap (accepted T b) (eqb-true m r.new_size q.0);
          says = decided-so S T (gives Present r.old S a n f).1 (gives Present r.new T b m g).1 r.result q.1;
        }
    by (accepted S a n) (rejected k p) f g e = absurd (false≢true e)
    by (rejected k p) y f g e = absurd (false≢true e)

-- THEOREM: so does a table whose rows are checked
pub checked-rows : (rs : List TableRow) → all row_checked rs ≡ true → Every rs
unfolding all Every
checked-rows [] e = tt
checked-rows (r ∷ rs) e =
    let p = both (row_checked r) (all row_checked rs) e in
    (checked-row r p.0, checked-rows rs p.1)
