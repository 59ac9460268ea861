-- The table that reading a whole sheet leaves shows the sheet's term, and has notes of the names that it uses, its weight
-- and its marks.
use Rattle.std.specs.Prelude.{Result}
use Prim.Native.Nat.{ℕ}
use native.Mathlib.Omega.{arith}
use mathlib.Core.Path.{◌≡◌, refl, sym, ap, ◌∙◌}
use mathlib.Core.List.{List, []}
use lib.ListN.{length, drop, length-append, length-drop}
use Rattle.sheet_records.specs.declared.refusal.Refusal.{Refusal}
use Rattle.sheet_records.specs.declared.edition.Edition.{Edition}
use Rattle.sheet_written.specs.Meaning.{type_of}
use Rattle.sheet_reader.specs.Encoding.{encode_names}
use Rattle.sheet_reader.specs.Reader.{Answer, got, Whole, whole, numbers_at, whole_of, sheet_in, size_in, checks}
use Rattle.sheet_reader.specs.Reader.{read_under}
use Rattle.sheet_reader.specs.table.Fill.{erase_sheet, LeavesSheet, ReadsSheet}
use Rattle.sheet_reader.specs.table.Notes.{Blank}
use Rattle.sheet_table.specs.Tabled.{places, TabledBy}
use Rattle.sheet_reader.specs.declared.names.Reading.{Reading}
use Rattle.sheet_reader.proofs.Answers.{All, one, none'}
use Rattle.sheet_reader.proofs.NameList.{NamesRead, names-read, extends-first}
use Rattle.sheet_reader.proofs.Right.{SheetRead, sheet-all}
use Rattle.sheet_reader.proofs.Sound.{sound}
use Rattle.sheet_reader.proofs.Widths.{wide-heading}
use Rattle.sheet_table.proofs.Shows.{shows-whole}
use Rattle.sheet_table.proofs.Seating.{seats-whole}
use Rattle.sheet_table.proofs.Noting.{notes-whole}
use Rattle.sheet_table.proofs.weights.Weights.{weights-whole}

module _ (ed : Edition) (s t u : List ℕ) (blank : Blank t) where
  tabled-whole :
      {x : Whole} {ty end : ℕ} → whole_of ed s ≡ got x ty end → SheetRead ed s places x ty end →
      NamesRead ed (numbers_at s) s places 32 [] 2 x ty end → LeavesSheet (numbers_at s) (got x ty end) t u →
      TabledBy ed s (erase_sheet (got x ty end)) u
  unfolding TabledBy erase_sheet LeavesSheet read_under checks sheet_in size_in type_of
  tabled-whole {ty = ty} e R (names-read {ns = ns} {root = root} {t = x} few fine bytes parsed) l =
      let p = parsed ns (extends-first ns) in
      let S = sound (numbers_at s) s ns 32 p in
      let W = weights-whole (numbers_at s) s ns R.short p t blank in
      rw l (record {
        sheet = sheet_in s (whole ns root x);
        finds = rw e refl;
        numbered = refl;
        z_above = R.z_above;
        z_below = R.z_below;
        rule_below = R.rule_below;
        few_names = few;
        fine_names = fine;
        fine_term = S.fine;
        types = S.types;
        known = S.known;
        shallow = S.shallow;
        rooted = omega (
          arith,
          wide-heading (sheet_in s (whole ns root x)),
          R.long,
          S.forward,
          S.inside,
          length-drop root s,
          sym (length-drop 2 s) ∙ ap length bytes ∙ length-append (encode_names ns) (drop root s),
        );
        shown = shows-whole (numbers_at s) s ns R.short p t blank.long;
        seats = seats-whole (numbers_at s) s ns R.short p t blank.long;
        notes = λ id h. notes-whole (numbers_at s) s ns R.short id h p t blank;
        weighs = W.0;
        marked = W.1;
      })

  tabled-by : (A : Answer Whole) → whole_of ed s ≡ A → All (SheetRead ed s places) A → LeavesSheet (numbers_at s) A t u →
      TabledBy ed s (erase_sheet A) u
  unfolding TabledBy erase_sheet
  tabled-by A e (one R) l = tabled-whole e R R.names l
  tabled-by A e none' l = tt

  -- THEOREM: where a sheet is read, the table shows its term, and has notes of the names that it uses, its weight and
  -- its marks
  pub tabled : {x : Result Reading Refusal} → ReadsSheet (numbers_at s) (whole_of ed s) x t u → TabledBy ed s x u
  tabled R = rw R.answer (tabled-by (whole_of ed s) refl (sheet-all ed s places) R.table)
