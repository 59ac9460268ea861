-- What loading a sheet leaves, from what judging and expanding it leave.
use Prim.Native.Nat.{ℕ, ◌<◌}
use native.Mathlib.Omega.{arith}
use mathlib.Core.Path.{◌≡◌, refl, sym, subst, subst₂}
use mathlib.Core.List.{List, []}
use lib.ListN.{length}
use Rattle.sheet_records.specs.declared.edition.Edition.{Edition}
use Rattle.sheet_records.specs.declared.edition.Edition.TheVariants.{Present}
use Rattle.sheet_records.specs.declared.refusal.Refusal.{Refusal}
use Rattle.sheet_written.specs.Written as written
use Rattle.sheet_written.specs.Meaning.{ty_of, term_of, type_of}
use Rattle.sheet_written.specs.Fine.{WellFormed}
use Rattle.sheet_written.specs.Made.{made_sheet}
use Rattle.sheet_written.specs.Context.{whole, forms, makes}
use Rattle.sheet_written.specs.Table.{Shown}
use Rattle.sheet_written.specs.Marks.{Marked}
use Rattle.sheet_written.proofs.Rows.{rows-sheet}
use Rattle.sheet_written.proofs.Valuing.{accepted-nodes}
use Rattle.sheet_rows.specs.Rep.{Rep}
use Rattle.term_expand.specs.Contract as expand
use Rattle.term_expand.proofs.Places.{shown-row}
use Rattle.term_expand.proofs.Automaton.{rows-represent}
use Rattle.sheet_reader.specs.Reader.{numbers_at}
use Rattle.sheet_table.specs.Tabled.{places}
use Rattle.sheet_judge.specs.Judged.{Judged, JudgedBy}
use Rattle.sheet_judge.specs.declared.mark.Uses.{Uses}
use Rattle.sheet_judge.specs.declared.judge.Judgement.{Judgement}
use Rattle.sheet_reader.proofs.Right.{gives}
use Rattle.weight_theory.specs.Stack.{marks_in}
use Rattle.weight_theory.proofs.Same.{marked-agree}
use Rattle.term_load.specs.Loaded.{MarksOf, Expanded, LoadedBy, Shows}
use Rattle.std.specs.Prelude.{Result, Ok, Err}

-- a sheet that is judged, by either rule
pub judged-of : (ed : Edition) (s u : List ℕ) {x : Result Judgement Refusal} {y : Judgement} → JudgedBy ed s x u →
    x ≡ Ok y → Judged ed s y.root y.ty y.size y.uses u
unfolding JudgedBy
judged-of ed s u J e = rw e at J

-- its term stands within 4,096 places
root-small : {ed : Edition} {s u : List ℕ} {root ty size : ℕ} {uses : Uses} → Judged ed s root ty size uses u →
    root < 4096
root-small {s = s} {u = u} J =
    let r = (shown-row (numbers_at s) J.sheet.names u J.shown).1 in
    omega (arith, r.before, r.within)

-- one that is refused
pub load-refused : (s u after : List ℕ) {x : Result Judgement Refusal} {y : Refusal} → JudgedBy Present s x u →
    x ≡ Err y → LoadedBy s (Err y) after
unfolding JudgedBy LoadedBy
load-refused s u after J e = rw e at J

module _ {s u : List ℕ} {root ty size : ℕ} {uses : Uses} (J : Judged Present s root ty size uses u) where
  abbrev S : written.Sheet
  S = J.sheet

  -- it is in order, and has its type
  ordered : WellFormed S
  ordered = (gives Present s S ty size J.accepts).1.ordered

  types : ty ≡ type_of S
  types = (gives Present s S ty size J.accepts).2

  ready : (M : List ℕ) → MarksOf u M 4096 → expand.Ready S.numbers S.names u M places S.term root J.end
  unfolding made_sheet forms makes
  ready M e = record {
    shown = subst (λ N. Shown N S.names u whole places root J.end S.term) (sym J.numbered) J.shown;
    marked = subst (λ N. Marked N S.names u M whole root S.term) (sym J.numbered)
        (marked-agree (numbers_at s) S.names u u (marks_in u) M J.shown (λ p i h g l. refl)
        (λ p h g. e.each p (omega (arith, (shown-row (numbers_at s) S.names u J.shown).1.within))) J.marked);
    fine = ordered.in_order.fine_term;
    shallow = ordered.shallow;
    room = omega (arith, rows-sheet S, accepted-nodes S ordered);
  }

  -- the table shows it
  pub shows : {rows : List ℕ} → length rows ≡ 110592 → Shows u root rows
  shows l = record {
    small = root-small J;
    readied = λ M e. record {
      numbers = S.numbers;
      names = S.names;
      places = places;
      term = S.term;
      end = J.end;
      ready = ready M e;
      long = l;
    };
  }

  -- THEOREM: the rows to which it is expanded represent its term
  pub load-sheet : {r : ℕ} {rows after : List ℕ} → Expanded u root rows after r → length rows ≡ 110592 →
      LoadedBy s (Ok (record { root = root; row = r; ty = ty; size = size; uses = uses })) after
  unfolding LoadedBy
  load-sheet {r} {rows} {after} T l =
      let n : ℕ = T.count in
      let w = T.expands.of S.numbers S.names places S.term J.end (ready T.marks T.copied) l in
      let p = rows-represent S ordered after r n w.expands w.local in
      record {
        sheet = S;
        accepts = J.accepts;
        numbered = J.numbered;
        rooted = J.rooted;
        used = J.used;
        long = w.sized;
        represents = subst₂ (λ N i. Rep N after 6144 r [] [] (term_of S) (ty_of N i)) J.numbered (sym types) p;
      }
