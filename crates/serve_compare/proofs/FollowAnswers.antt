-- The answers of follow, case by case: what the calls on the way leave is what it promises.
use mathlib.Core.Path.{◌≡◌, refl, sym, ap, subst, ◌∙◌}
use mathlib.Core.Option.{none, some}
use mathlib.Core.List.{List}
use Rattle.std.specs.Prelude.{Result, Ok, Err}
use Prim.Native.Nat.{ℕ, ◌+◌, ◌*◌, ◌-◌, ◌≤◌, ◌<◌}
use native.Mathlib.Omega.{arith}
use native.Mathlib.Nat.{mul-le-mul_left}
use lib.Dec.{eqb, ltb}
use lib.ListN.{length, get_or, replicate}
use borrow.Author.Tests.{lt-ltb, le-ltb, eqb-true, eq-eqb}
use Rattle.language.specs.declared.Numbers.{Numbers}
use Rattle.language.specs.Choice.{pick}
use Rattle.language.specs.Number.{numbers}
use Rattle.language.specs.Weight.{size}
use Rattle.states_machine.specs.Sheet.{spots}
use Rattle.states_machine.proofs.Accepts.{spots-size}
use Rattle.dfa.specs.Graph.{rest, Graph, SameEdges}
use Rattle.dfa.specs.Live.{Single}
use Rattle.dfa_live.specs.Marks.{Markable, Marks}
use Rattle.dfa.proofs.laws.SameEdges.{same_graph}
use Rattle.sheet_records.specs.Refusal.{cause, both_sheets}
use Rattle.sheet_records.specs.declared.refusal.Refusal.{Refusal as Wrong}
use Rattle.sheet_records.specs.declared.refusal.Cause.{Cause}
use Rattle.sheet_written.specs.Meaning.{ty_of, term_of, type_of}
use Rattle.sheet_reader.specs.Reader.{read_sheet, rejected}
use Rattle.term_load.specs.declared.load.Loaded.{Loaded}
use Rattle.play_records.specs.Records.{Given, moves, bad, parse}
use Rattle.serve_conditions.specs.Pair.{refusing}
use Rattle.serve_compare.specs.Refusals.{on_read, on_given, follow_refusal}
use Rattle.serve_compare.specs.Promise.{FollowedBy, FollowPromise}
use Rattle.play_words.specs.declared.walk.Reach.{Reach}
use Rattle.serve_conditions.specs.Lent.{words_asked}
use Rattle.states_build.specs.inner.Built.{OneReady, OneBuilt}
use Rattle.states_build.proofs.Room.{asked-suffices}
use Rattle.states_words.proofs.Filled.{most-edges}
use Rattle.play_records.specs.Bytes.{counted}
use Rattle.play_words.specs.Walk.{AtLeast, Marked, Reached}
use Rattle.serve_compare.proofs.ReadSheets.{Fit, fit-held, fit-fine, fit-type, fit-ready}
use Rattle.serve_compare.proofs.FollowPlays.{built-single, counts}
use Rattle.play_records.proofs.WritingPlays.{good-moves}
use Rattle.sheet_records.specs.declared.refusal.Reason.TheVariants.{TooFewWords, BadPlay}
use Rattle.sheet_records.specs.declared.refusal.Sheets.TheVariants.{Old, Both}

-- a refusal that is promised
refuses : (s play ws ws' : List ℕ) {x q : Cause} → follow_refusal s play (length ws) ≡ some x → q ≡ x → ws' ≡ ws →
    FollowPromise s play ws (Err q) ws'
unfolding FollowedBy
refuses s play ws ws' e f k = rw e (ap Err f, k)

-- a sheet that is refused
pub refuses-sheet : (s play ws ws' : List ℕ) {z : Wrong} {q : Cause} → read_sheet s ≡ rejected z.reason z.place →
    q ≡ cause z.reason Old z.place → ws' ≡ ws → FollowPromise s play ws (Err q) ws'
unfolding follow_refusal on_read
refuses-sheet s play ws ws' h c k = refuses s play ws ws' (rw h) c k

-- a play in whose count a bad record is met
on-bad : (g : Given) {p : ℕ} → Err p ≡ counted 0 g → on_given g ≡ refusing BadPlay Old p
unfolding counted on_given
on-bad (moves rs) e = let z : ◌≡◌ {A = ℕ} 0 1 = cc in absurd (omega arith)
on-bad (bad q) {p} e = let a : q ≡ p = cc in rw a

-- so many records
given-moves : (g : Given) {total : ℕ} → Ok total ≡ counted 0 g →
    (rs : List (List ℕ)) × ((g ≡ moves rs) × (length rs ≡ total))
unfolding counted
given-moves (moves rs) {total} e = let a : total ≡ 0 + length rs = cc in (rs, (refl, omega arith))
given-moves (bad q) e = let z : ◌≡◌ {A = ℕ} 0 1 = cc in absurd (omega arith)

-- a play has as many records as are counted
pub counted-enough : (play : List ℕ) {x : Result ℕ ℕ} {total : ℕ} → x ≡ counted 0 (parse 0 play) → x ≡ Ok total →
    AtLeast play total
counted-enough play e m =
    let g = given-moves (parse 0 play) (sym m ∙ e) in
    record { records = g.0; parsed = g.1.0; enough = omega (arith, g.1.1) }

module _ {N : Numbers} {ty : ℕ} {s : List ℕ} {row all : ℕ} {t : List ℕ} (F : Fit N ty s row all t) where
  -- what follow goes on to
  goes_on : (play : List ℕ) (words : ℕ) → follow_refusal s play words ≡
      pick (ltb words (words_asked N all)) (refusing TooFewWords Both 0) (on_given (parse 0 play))
  unfolding follow_refusal on_read
  goes_on play words = rw (F.reads, F.numbers)

  -- too few words
  pub refuses-words : (play ws ws' : List ℕ) {q : Cause} → length ws < words_asked N all →
      q ≡ cause TooFewWords both_sheets 0 → ws' ≡ ws → FollowPromise s play ws (Err q) ws'
  refuses-words play ws ws' h c k =
      refuses s play ws ws' (goes_on play (length ws) ∙ rw (lt-ltb (length ws) (words_asked N all) h) refl) c k

  -- a bad play
  pub refuses-play : (play ws ws' : List ℕ) {x : Result ℕ ℕ} {p : ℕ} {q : Cause} →
      words_asked N all ≤ length ws → x ≡ counted 0 (parse 0 play) → x ≡ Err p → q ≡ cause BadPlay Old p → ws' ≡ ws →
      FollowPromise s play ws (Err q) ws'
  refuses-play play ws ws' h e b c k =
      refuses s play ws ws'
      (goes_on play (length ws) ∙ rw (le-ltb (length ws) (words_asked N all) h) (on-bad (parse 0 play) (sym b ∙ e)))
      c k

  -- the words suffice, and the play has the records rs
  goes_through : (play ws : List ℕ) (rs : List (List ℕ)) → words_asked N all ≤ length ws → parse 0 play ≡ moves rs →
      follow_refusal s play (length ws) ≡ none
  unfolding on_given
  goes_through play ws rs h e = goes_on play (length ws) ∙ rw (le-ltb (length ws) (words_asked N all) h, e) refl

  -- THEOREM: an accepted sheet is ready for its automaton
  pub one-ready : (ws : List ℕ) → words_asked N all ≤ length ws → OneReady N t row all ws
  one-ready ws h = record
      { type = ty_of N ty; term = term_of F.sheet; long = F.long; ready = fit-ready F; sized = F.sized; room = h }

  -- the automaton is built
  module _ (ws ws' : List ℕ) (room : words_asked N all ≤ length ws)
      (B : (R : OneReady N t row all ws) → OneBuilt N R.type R.term (all + 1) ws') where
    built : OneBuilt N (ty_of N ty) (term_of F.sheet) (all + 1) ws'
    unfolding one-ready
    built = B (one-ready ws room)

    -- its end
    end-at : all - 1 ≡ spots (ty_of N ty) (term_of F.sheet)
    end-at = omega (arith, F.sized, spots-size (ty_of N ty) (term_of F.sheet))

    -- its end alone accepts
    opened-single : Single (rest (5 * (all + 1)) ws') (all + 1) (all - 1)
    opened-single = built-single built (omega (arith, end-at, F.some)) end-at

    -- there is room to mark its live states
    pub opened-markable : length ws' ≡ length ws → Markable (all + 1) (all - 1) ws'
    opened-markable len =
        let S = asked-suffices N all F.z_below room in
        let edges : 2 * get_or (rest (5 * (all + 1)) ws') (all + 1) 0 ≤
        (1 + numbers N) * size (ty_of N ty) (term_of F.sheet) =
        rw (built.settled.first (all + 1) (omega arith)) built.few in
        let low : size (ty_of N ty) (term_of F.sheet) ≤ all + 1 = omega (arith, F.sized) in
        let few : 2 * get_or (rest (5 * (all + 1)) ws') (all + 1) 0 ≤ (1 + numbers N) * (all + 1) =
        omega (arith, edges, mul-le-mul_left (1 + numbers N) low) in
        record {
          single = opened-single;
          end = omega (arith, F.some);
          few = omega (arith, most-edges N F.z_below (all + 1) _ few, F.small);
          room = omega (arith, few, S.graph, len);
          link_room = omega (arith, few, S.links, len, F.some);
        }

    -- its live states are marked
    module _ (ws'' : List ℕ) (M : Marks (rest (5 * (all + 1)) ws') (all + 1) (all - 1) ws'' ×
        SameEdges (all + 1) (rest (5 * (all + 1)) ws') (rest (5 * (all + 1)) ws'')) where
      -- the words hold a graph
      pub opened-graph : Graph (rest (5 * (all + 1)) ws'') (all + 1)
      opened-graph =
          same_graph (rest (5 * (all + 1)) ws') (rest (5 * (all + 1)) ws'') (all + 1) opened-single.graph M.1

      unfoldable marked : Marked (all + 1) (all - 1) ws''
      marked = record
          { automaton = rest (5 * (all + 1)) ws'; graph = opened-single.graph; same = M.1; marks = M.0 }

      -- by the sheet's own numbers and type
      own : OneBuilt F.sheet.numbers (ty_of F.sheet.numbers (type_of F.sheet)) (term_of F.sheet)
          (all + 1) ws'
      own =
          subst (λ X. OneBuilt F.sheet.numbers X (term_of F.sheet) (all + 1) ws') (sym (fit-type F))
          (subst (λ M. OneBuilt M (ty_of N ty) (term_of F.sheet) (all + 1) ws') (sym F.numbers) built)

      own-end : all - 1 ≡ spots (ty_of F.sheet.numbers (type_of F.sheet)) (term_of F.sheet)
      own-end = rw (fit-type F) end-at

      -- THEOREM: the accepted answer is what follow promises
      pub followed : (play ws₃ : List ℕ) {x : Result ℕ ℕ} {total : ℕ} {r : Reach} →
          ((i : ℕ) → get_or play i 0 < 256) → x ≡ counted 0 (parse 0 play) → x ≡ Ok total →
          ((f : ℕ) (T : Marked (all + 1) f ws'') (rs : List (List ℕ)) → parse 0 play ≡ moves rs → length rs ≡ total →
          Reached T.automaton (all + 1) f rs r) →
          ws₃ ≡ replicate (length ws) 0 →
          FollowPromise s play ws (Ok (record { count = r.count; complete = eqb r.last (all - 1) })) ws₃
      unfolding FollowedBy marked
      followed play ws₃ {r = r} bytes e m L z =
          let g = given-moves (parse 0 play) (sym m ∙ e) in
          let rs = g.0 in
          let p = g.1.0 in
          let R = L (all - 1) marked rs p g.1.1 in
          rw (goes_through play ws rs room p) (record {
            sheet = F.sheet;
            held = fit-held F;
            records = rs;
            parsed = p;
            count = r.count;
            complete = eqb r.last (all - 1);
            answer = refl;
            counted = counts F.sheet (fit-fine F) (all + 1) ws' own rs (good-moves play bytes rs p)
                (all - 1) r.count (eqb r.last (all - 1)) own-end R.longest (
                  (λ b. sym R.last ∙ eqb-true r.last (all - 1) b),
                  (λ b. eq-eqb r.last (all - 1) (R.last ∙ b)),
                );
            cleared = z;
          })
