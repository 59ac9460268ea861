-- Two sheets with equal cards are not refused by 12, and have the same complete plays.
use mathlib.Core.Bool.{Bool, false, true}
use mathlib.Core.List.{List, [], ◌∷◌}
use mathlib.Core.Option.{none, some}
use mathlib.Core.Path.{◌∙◌, ◌≡◌, ap, refl, sym}
use Prim.Native.Nat.{◌+◌, ◌<◌, ◌≤◌, suc, zero, ℕ}
use native.Mathlib.Omega.{arith}
use lib.Dec.{ltb}
use lib.ListN.{get_or, length, length-take, take}
use borrow.Author.Tests.{eq-eqb}
use Rattle.language.specs.Choice.{pick}
use Rattle.sheet_records.specs.Refusal.{both_sheets, headings_differ}
use Rattle.sheet_records.specs.declared.edition.Edition.TheVariants.{Present}
use Rattle.sheet_records.specs.declared.refusal.Cause.{Cause}
use Rattle.sheet_written.specs.Width.{heading_width}
use Rattle.sheet_reader.proofs.Right.{gives}
use Rattle.serve_conditions.specs.Lent.{bytes_asked, words_asked}
use Rattle.serve_compare.specs.Refusals.{compare_refusal, on_read}
use Rattle.serve_conditions.specs.Pair.{matching, refusing, same_first}
use Rattle.serve_compare.proofs.ReadSheets.{two-first}
use Rattle.serve_card.specs.Rules.{EqualCards}
use Rattle.serve_card.proofs.Headings.{other-heading}
use Rattle.serve_card.proofs.SameCards.{heading-within, matched, same_exactly}
use Rattle.sheet_records.specs.declared.refusal.Reason.TheVariants.{HeadingsDiffer, TooFewWords, SpaceTooShort}

take_at : (n i : ℕ) (s : List ℕ) → i < n → get_or (take n s) i 0 ≡ get_or s i 0
take_at zero i s h = absurd (omega arith)
take_at (suc n) i [] h = refl
take_at (suc n) zero (x ∷ s) h = refl
take_at (suc n) (suc i) (x ∷ s) h = take_at n i s (omega arith)

same_first_lem : (n : ℕ) (s u : List ℕ) → ((i : ℕ) → i < n → get_or s i 0 ≡ get_or u i 0) → same_first n s u ≡ true
unfolding same_first
same_first_lem zero s u e = refl
same_first_lem (suc n) s u e =
    rw (eq-eqb (get_or s n 0) (get_or u n 0) (e n (omega arith))) (same_first_lem n s u (λ i l. e i (omega arith)))

-- equal headings and types match
match : (old new : List ℕ) (root other ty b : ℕ) → root ≤ length old → other ≤ length new
    → take root old ≡ take other new → ty ≡ b → matching old new root other ty b ≡ true
unfolding matching
match old new root other ty b h k e t =
    let r : root ≡ other = omega (arith, length-take root old, length-take other new, ap length e) in
    let f : (i : ℕ) → i < root → get_or old i 0 ≡ get_or new i 0 = λ i l.
    sym (take_at root i old l) ∙ ap (λ (x : List ℕ). get_or x i 0) e ∙ take_at other i new (omega (arith, r)) in
    rw (eq-eqb root other r, same_first_lem root old new f, eq-eqb ty b t) refl

same_reason : {x y : Cause} → some x ≡ some y → x.reason ≡ y.reason
same_reason e = cc

-- what refuses two sheets that match is 13 or 14
later : (a b : Bool) (x : Cause)
    → pick a (refusing TooFewWords both_sheets 0) (pick b (refusing SpaceTooShort both_sheets 0) none) ≡ some x
    → x.reason ≡ headings_differ → ⊥
later true b x e n = let z : TooFewWords ≡ HeadingsDiffer = same_reason e ∙ n in cc
later false true x e n = let z : SpaceTooShort ≡ HeadingsDiffer = same_reason e ∙ n in cc
later false false x e n = let z : ◌≡◌ {A = ℕ} 0 1 = cc in absurd (omega arith)

-- THEOREM: sheets with equal cards are not refused by 12, and have the same complete plays
pub equal-cards : EqualCards
unfolding compare_refusal on_read
equal-cards old new c d C D e =
    let h = heading_width C.sheet in
    let k = heading_width D.sheet in
    let o = other-heading old new c d C D e in
    let m : matching old new h k C.type D.type ≡ true = match old new h k C.type D.type
    (heading-within old C.sheet (gives Present old C.sheet C.type C.size C.reads).0)
    (heading-within new D.sheet (gives Present new D.sheet D.type D.size D.reads).0)
    o.0 o.1 in (
      (λ words space x r.
          let n = C.size + D.size in
          later (ltb words (words_asked C.sheet.numbers n)) (ltb space (bytes_asked n)) x
          (rw (C.reads, D.reads, m) at r)),
      (same_exactly old new (c, C) (d, D) (matched old new h k C.type D.type (two-first C.sheet) m)).0 e,
    )
