-- The answers of card, case by case: what the calls on the way leave is what it promises.
use mathlib.Core.Bool.{Bool, false, true}
use mathlib.Core.List.{List, [], ◌++◌, ◌∷◌, append_assoc}
use mathlib.Core.Option.{Option, none, some}
use Rattle.std.specs.Prelude as std
use Rattle.std.specs.Prelude.{Some, None, Result, Ok, Err}
use mathlib.Core.Path.{◌∙◌, ◌≡◌, ap, ap₂, refl, subst, sym}
use Prim.Native.Nat.{◌+◌, ◌≤◌, ℕ}
use native.Mathlib.Omega.{arith}
use lib.Dec.{ltb}
use lib.ListN.{drop, length, length-append, length-take, replicate, take}
use lib.Seq.{sets, sets-eq}
use borrow.Author.Tests.{ltb-false}
use Rattle.language.specs.Choice.{pick}
use Rattle.language.specs.declared.Numbers.{Numbers}
use Rattle.sheet_records.specs.Refusal.{cause}
use Rattle.sheet_records.specs.declared.refusal.Cause.{Cause}
use Rattle.sheet_records.specs.declared.refusal.Refusal.{Refusal as Wrong}
use Rattle.sheet_written.specs.Meaning.{term_of, ty_of}
use Rattle.sheet_written.specs.Written.{Sheet}
use Rattle.sheet_written.specs.Width.{heading_width}
use Rattle.sheet_reader.specs.Reader.{read_sheet, rejected}
use Rattle.sheet_records.specs.declared.edition.Edition.TheVariants.{Present}
use Rattle.sheet_judge.specs.declared.mark.Uses.{Uses}
use Rattle.sheet_reader.proofs.Right.{gives}
use Rattle.term_load.specs.Loaded as load
use Rattle.term_load.specs.declared.load.Loaded.{Loaded}
use Rattle.states_build.specs.inner.Built.{OneBuilt, OneReady}
use Rattle.serve_conditions.specs.Lent.{words_asked}
use Rattle.serve_compare.specs.Refusals.{on_read}
use Rattle.serve_conditions.specs.Pair.{refusing, reason_of}
use Rattle.serve_compare.proofs.ReadSheets.{Fit, fit-ready, fit-type}
use Rattle.play_records.proofs.WritingPlays.{sets-append}
use Rattle.serve_card.specs.Promise.{CardOf, CardPromise, CardedBy, card_refusal, lent_refusal, space_for}
use Rattle.serve_card.specs.inner.Drawing.{Drawable, Drawn}
use Rattle.serve_card.proofs.Length.{heading-short}
use Rattle.serve_card.proofs.SameCards.{heading-within}
use Rattle.serve_card.proofs.Fits.{card-fits}
use Rattle.sheet_records.specs.declared.refusal.Reason.{Reason}
use Rattle.sheet_records.specs.declared.refusal.Reason.TheVariants.{TooFewWords, SpaceTooShort}
use Rattle.sheet_records.specs.declared.refusal.Sheets.TheVariants.{Old, Both}

-- a refusal that is promised
refuses : (s ws space : List ℕ) {x q : Cause} → card_refusal s (length ws) (length space) ≡ some x → q ≡ x
    → CardPromise s ws space (Err q) ws space
unfolding CardedBy
refuses s ws space e f = rw e (ap Err f, (refl, refl))

-- a sheet that is refused
pub refuses-sheet : (s ws space : List ℕ) {z : Wrong} {q : Cause}
    → read_sheet s ≡ rejected z.reason z.place → q ≡ cause z.reason Old z.place
    → CardPromise s ws space (Err q) ws space
unfolding card_refusal on_read
refuses-sheet s ws space h c = refuses s ws space (rw h) c

-- the heading of a sheet that is loaded
pub rooted : {s : List ℕ} {root row ty all : ℕ} {v : Uses} {t : List ℕ} → load.Ready s root row ty all v t
    → {N : Numbers} {k : ℕ} (F : Fit N k s row all t) → root ≡ heading_width F.sheet
rooted b F =
    let e = sym b.accepts ∙ F.reads in
    let f : b.sheet ≡ F.sheet = cc in
    b.rooted ∙ ap heading_width f

-- it is within the bytes, and short
pub heading-in : {s : List ℕ} {root row ty all : ℕ} {v : Uses} {t : List ℕ} → load.Ready s root row ty all v t
    → (root ≤ length s) × (root ≤ 4096)
heading-in {s} {root} {row} {ty} {all} b =
    let g = gives Present s b.sheet ty all b.accepts in (
      omega (arith, b.rooted, heading-within s b.sheet g.0),
      omega (arith, b.rooted, heading-short b.sheet g.1),
    )

-- what is lent, by whether there are too few words and whether the space is too short
abbrev judged : Bool → Bool → Option Cause
judged a b = pick a (refusing TooFewWords Both 0) (pick b (refusing SpaceTooShort Both 0) none)

stopped_by : (a b : Bool) {reason : Reason} → reason_of (judged a b) ≡ Some reason
    → judged a b ≡ some (cause reason Both 0)
unfolding reason_of
stopped_by true b {reason} e = let z : TooFewWords ≡ reason = cc in rw z refl
stopped_by false true {reason} e = let z : SpaceTooShort ≡ reason = cc in rw z refl
stopped_by false false e = cc

passed-by : (a b : Bool) → reason_of (judged a b) ≡ None → (a ≡ false) × (b ≡ false)
unfolding reason_of
passed-by true b e = cc
passed-by false true e = cc
passed-by false false e = (refl, refl)

-- an accepted sheet, by the names of the code
module _ {N : Numbers} {ty : ℕ} {s : List ℕ} {row all : ℕ} {t : List ℕ} (F : Fit N ty s row all t) where
  -- what card goes on to
  goes_on : (words space : ℕ) → card_refusal s words space ≡ lent_refusal N words space all
  unfolding card_refusal on_read
  goes_on words space = rw (F.reads, F.numbers)

  module _ (ws space : List ℕ) {r : std.Option Reason} (e : r ≡ reason_of (lent_refusal N (length ws) (length space) all)) where
    abbrev few : Bool
    few = ltb (length ws) (words_asked N all)

    abbrev short : Bool
    short = ltb (length space) (space_for N all)

    -- too few words, or the space is too short
    pub refuses-lent : {reason : Reason} → r ≡ Some reason → {q : Cause} → q ≡ cause reason Both 0
        → CardPromise s ws space (Err q) ws space
    refuses-lent h c =
        refuses s ws space (goes_on (length ws) (length space) ∙ stopped_by few short (sym e ∙ h)) c

    -- neither
    module _ (h : r ≡ None) where
      passed : (few ≡ false) × (short ≡ false)
      passed = passed-by few short (sym e ∙ h)

      pub words-enough : words_asked N all ≤ length ws
      words-enough = ltb-false (length ws) (words_asked N all) passed.0

      space-enough : space_for N all ≤ length space
      space-enough = ltb-false (length space) (space_for N all) passed.1

      goes_through : card_refusal s (length ws) (length space) ≡ none
      goes_through = goes_on (length ws) (length space) ∙ rw (passed.0, passed.1) refl

      -- the sheet is ready for its automaton
      abbrev ready : OneReady N t row all ws
      ready = record {
        type = ty_of N ty;
        term = term_of F.sheet;
        long = F.long;
        ready = fit-ready F;
        sized = F.sized;
        room = words-enough;
      }

      -- the automaton is built, and the heading and the type are written: the positions can be
      pub card-drawable : (root place : ℕ) (ws' : List ℕ) → root ≡ heading_width F.sheet → place ≡ root + 1
          → length ws' ≡ length ws
          → ((R : OneReady N t row all ws) → OneBuilt N R.type R.term (all + 1) ws') → Drawable s ty all place ws'
      card-drawable root place ws' r p len B = record {
        sheet = F.sheet;
        reads = F.reads;
        after = p ∙ ap (λ x. x + 1) r;
        room = rw F.numbers (omega (arith, words-enough, len));
        built =
            subst (λ X. OneBuilt F.sheet.numbers X (term_of F.sheet) (all + 1) ws') (sym (fit-type F))
            (subst (λ M. OneBuilt M (ty_of N ty) (term_of F.sheet) (all + 1) ws') (sym F.numbers)
            (B ready));
      }

      -- a card fits into the space
      same-space : {k : List ℕ} (C : CardOf s k) → space_for C.sheet.numbers C.size ≡ space_for N all
      same-space C =
          let q = sym C.reads ∙ F.reads in
          let a : C.sheet ≡ F.sheet = cc in
          let b : C.size ≡ all = cc in
          ap₂ space_for (ap (λ (S : Sheet). S.numbers) a ∙ F.numbers) b

      fits-space : {k : List ℕ} → CardOf s k → length k ≤ length space
      fits-space {k} C = omega (arith, card-fits s k C, space-enough, same-space C)

      -- the card is written: heading and type up to the place, then the bytes of the positions
      pub carded : (root place r : ℕ) (ws₁ space₁ space₂ ws' : List ℕ) → root ≡ heading_width F.sheet
          → root ≤ length s → place ≡ root + 1 → length ws₁ ≡ length ws
          → ((R : OneReady N t row all ws) → OneBuilt N R.type R.term (all + 1) ws₁)
          → space₁ ≡ sets space 0 (take root s ++ (ty ∷ []))
          → ((u : List ℕ) (k : ℕ) (D : Drawable u k all place ws₁) → Drawn u k D.sheet place space₁ r space₂)
          → ws' ≡ replicate (length ws) 0 → CardPromise s ws space (Ok r) ws' space₂
      unfolding CardedBy card-drawable
      carded root place r ws₁ space₁ space₂ ws' e within p len B w W c =
          let D : Drawn s ty F.sheet place space₁ r space₂ = W s ty (card-drawable root place ws₁ e p len B) in
          let H = take root s ++ (ty ∷ []) in
          let card = take root s ++ (ty ∷ D.bytes) in
          let long : length H ≡ place =
          length-append (take root s) (ty ∷ []) ∙ omega (arith, length-take root s, within, p) in
          let whole : H ++ D.bytes ≡ card = append_assoc (take root s) (ty ∷ []) D.bytes in
          let is : CardOf s card =
          subst (λ k. CardOf s (take k s ++ (ty ∷ D.bytes))) (sym e) D.is in
          let size : length card ≡ place + length D.bytes =
          ap length (sym whole) ∙ length-append H D.bytes ∙ omega (arith, long) in
          let fits : 0 + length card ≤ length space = omega (arith, fits-space is) in
          let run : space₂ ≡ sets space 0 card =
          D.written ∙ ap₂ (λ (x : List ℕ) i. sets x i D.bytes) w (sym long ∙ omega arith)
          ∙ sym (sets-append H D.bytes space 0) ∙ ap (sets space 0) whole in
          rw goes_through (record {
            card = card;
            is = is;
            answer = ap Ok (D.returned ∙ sym size);
            written = run ∙ sets-eq card space 0 fits
                ∙ ap (λ k. card ++ drop k space) {x = 0 + length card} {y = length card} (omega arith);
            cleared = c;
          })
