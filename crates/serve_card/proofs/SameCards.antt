-- Two sheets that compare accepts have equal cards exactly if they have the same complete plays, which is when it says
-- "same". A sheet has one card, and what card promises allows one answer.
use mathlib.Core.Bool.{Bool, false, true}
use mathlib.Core.List.{List, [], ◌++◌, ◌∷◌}
use mathlib.Core.Logic.{◌↔◌, ◌⊎◌, inl, inr}
use mathlib.Core.Option.{Option, none, some}
use Rattle.std.specs.Prelude.{Result, Ok}
use mathlib.Core.Path.{◌∙◌, ◌≡◌, ap, ap₂, refl, subst, sym}
use Prim.Native.Nat.{◌+◌, ◌<◌, ◌≤◌, ℕ}
use native.Mathlib.Omega.{arith}
use lib.Dec.{eqb}
use lib.ListN.{drop, get_or, length, take}
use borrow.Author.Tests.{eqb-true}
use Rattle.language.specs.Choice.{pick}
use Rattle.language.specs.Move.{Word}
use Rattle.sheet_records.specs.declared.edition.Edition.TheVariants.{Present}
use Rattle.sheet_records.specs.declared.refusal.Cause.{Cause}
use Rattle.sheet_written.specs.Written.{Sheet}
use Rattle.sheet_written.specs.Width.{heading_width}
use Rattle.sheet_reader.specs.Encoding.{encode, encode_names, encode_sheet}
use Rattle.sheet_reader.specs.Reader.{accepted, numbers_at}
use Rattle.sheet_reader.proofs.Right.{gives}
use Rattle.sheet_reader.proofs.Widths.{wide-heading}
use Rattle.serve_compare.specs.Plays.{Alike}
use Rattle.serve_compare.specs.Refusals.{compare_refusal, on_read}
use Rattle.serve_conditions.specs.Pair.{matching, pair_refusal, same_first}
use Rattle.serve_compare.specs.Promise.{Holds, Same}
use Rattle.serve_compare.specs.Demands.{Exact, Shown}
use Rattle.serve_compare.specs.declared.Comparison.{Comparison}
use Rattle.sheet_judge.specs.Mark.{uses_of}
use Rattle.serve_compare.proofs.ComparePlays.{AsOne, as_one, same_byte}
use Rattle.serve_compare.proofs.Exactly.{exact-answer, not-same}
use Rattle.serve_compare.proofs.ReadSheets.{two-first}
use Rattle.serve_compare.proofs.Unique.{held-accepted, held-numbers, one-sheet}
use Rattle.serve_card.specs.Card.{card_bytes}
use Rattle.serve_card.specs.Positions.{Position, Table}
use Rattle.serve_card.specs.Promise.{CardOf, CardedBy}
use Rattle.serve_card.specs.Rules.{CardUnique, OneCard, SameByCompare, SameCards, SaysSame}
use Rattle.serve_card.specs.Promise.{card_refusal}
use Rattle.serve_card.proofs.Bytes.{SmallTable, bytes-card, card-bytes}
use Rattle.serve_card.proofs.Lists.{take_same}
use Rattle.serve_card.proofs.Plays.{plays-one}
use Rattle.serve_card.proofs.Tables.{few, same-table, table-of-same, table-small}

-- what two sheets have in common where compare does not refuse them
pub record Matched (old new : List ℕ) (root other ty b : ℕ) : Type 0 where
  pub roots : root ≡ other
  pub bytes : (i : ℕ) → i < root → get_or old i 0 ≡ get_or new i 0
  pub types : ty ≡ b
  pub numbers : numbers_at old ≡ numbers_at new

pub matched : (old new : List ℕ) (root other ty b : ℕ) → 2 ≤ root → matching old new root other ty b ≡ true
    → Matched old new root other ty b
unfolding matching
matched old new root other ty b h e =
    by (eqb root other) (same_first root old new) refl refl e (as_one other h (sym e) refl)
  where
    by : (p q : Bool) → eqb root other ≡ p → same_first root old new ≡ q → pick p (pick q (eqb ty b) false) false ≡ true
        → AsOne old new ty b → Matched old new root other ty b
    by true true d g k o = record {
      roots = eqb-true root other d;
      bytes = same_byte root old new g;
      types = o.types;
      numbers = o.numbers;
    }
    by true false d g k o = let z : ◌≡◌ {A = ℕ} 0 1 = cc in absurd (omega arith)
    by false q d g k o = let z : ◌≡◌ {A = ℕ} 0 1 = cc in absurd (omega arith)

longer : (xs ys : List ℕ) → length xs ≤ length (xs ++ ys)
longer [] ys = omega arith
longer (x ∷ xs) ys = let h = longer xs ys in omega arith

-- the heading is within the bytes
pub heading-within : (s : List ℕ) (S : Sheet) → s ≡ encode_sheet S → heading_width S ≤ length s
unfolding encode_sheet
heading-within s S e = rw e (omega (arith, wide-heading S, longer (encode_names S.names) (encode S.term)))

-- two cards of sheets that match
module _ (old new : List ℕ) (C : (c : List ℕ) × CardOf old c) (D : (d : List ℕ) × CardOf new d) where
  abbrev S : Sheet
  S = C.1.sheet

  abbrev S' : Sheet
  S' = D.1.sheet

  held : Holds old S
  held = record { type = C.1.type; size = C.1.size; reads = C.1.reads }

  held' : Holds new S'
  held' = record { type = D.1.type; size = D.1.size; reads = D.1.reads }

  -- what is not refused matches
  matches : (words space : ℕ) → compare_refusal old new words space ≡ none
      → Matched old new (heading_width S) (heading_width S') C.1.type D.1.type
  unfolding compare_refusal on_read
  matches words space h = by (matching old new (heading_width S) (heading_width S') C.1.type D.1.type) refl k
    where
      k : pair_refusal (matching old new (heading_width S) (heading_width S') C.1.type D.1.type)
          S.numbers words space (C.1.size + D.1.size) ≡ none
      k = rw (C.1.reads, D.1.reads) at h

      by : (b : Bool) → matching old new (heading_width S) (heading_width S') C.1.type D.1.type ≡ b
          → pair_refusal b S.numbers words space (C.1.size + D.1.size) ≡ none
          → Matched old new (heading_width S) (heading_width S') C.1.type D.1.type
      by true d k =
          matched old new (heading_width S) (heading_width S') C.1.type D.1.type (two-first S) d
      by false d k = let z : ◌≡◌ {A = ℕ} 0 1 = cc in absurd (omega arith)

  module _ (M : Matched old new (heading_width S) (heading_width S') C.1.type D.1.type) where
    same_numbers : S.numbers ≡ S'.numbers
    same_numbers = held-numbers held ∙ M.numbers ∙ sym (held-numbers held')

    same-heading : take (heading_width S) old ≡ take (heading_width S') new
    same-heading =
        let h = heading-within old S (gives Present old S C.1.type C.1.size C.1.reads).0 in
        let k = heading-within new S' (gives Present new S' D.1.type D.1.size D.1.reads).0 in
        take_same (heading_width S) old new h (omega (arith, k, M.roots)) M.bytes
        ∙ ap (λ n. take n new) M.roots

    -- the second card by the type and the numbers of the first sheet
    second : D.0 ≡ card_bytes new (heading_width S') C.1.type S.numbers D.1.table
    second = D.1.bytes
        ∙ ap₂ (λ t N. card_bytes new (heading_width S') t N D.1.table) (sym M.types) (sym same_numbers)

    second-small : SmallTable S.numbers D.1.table
    second-small = subst (λ N. SmallTable N D.1.table) (sym same_numbers)
        (table-small S' (held-accepted held') D.1.table D.1.positions)

    tables-same : C.0 ≡ D.0 → C.1.table ≡ D.1.table
    tables-same e = bytes-card S.numbers (few S (held-accepted held)) old new (heading_width S) (heading_width S')
        C.1.type C.1.table D.1.table same-heading
        (table-small S (held-accepted held) C.1.table C.1.positions) second-small
        (sym C.1.bytes ∙ e ∙ second)

    same_tables : C.1.table ≡ D.1.table → C.0 ≡ D.0
    same_tables e = C.1.bytes
        ∙ card-bytes S.numbers (few S (held-accepted held)) old new (heading_width S) (heading_width S') C.1.type
        C.1.table D.1.table same-heading e
        ∙ sym second

    pub same_exactly : (C.0 ≡ D.0) ↔ ((u : Word) → Alike S S' u)
    same_exactly = (
      (λ e. plays-one S S' D.1.table (subst (Table S) (tables-same e) C.1.positions) D.1.positions),
      (λ a. same_tables (table-of-same S S' (held-accepted held') same_numbers a C.1.table D.1.table
          C.1.positions D.1.positions)),
    )

-- THEOREM: for two sheets that compare accepts, the cards are equal bytes exactly if the complete plays are the same
same-cards : SameCards
same-cards old new c d words space C D h =
    same_exactly old new (c, C) (d, D) (matches old new (c, C) (d, D) words space h)

-- "same" where the plays are the same, and nothing else
says_same : (old new : List ℕ) (r : Result Comparison Cause) (space : List ℕ) (E : Exact old new r space)
    → ((u : Word) → Alike E.first_sheet E.second_sheet u) ↔ SaysSame r
says_same old new r space E = (
  (λ a. (uses_of E.first_sheet, uses_of E.second_sheet, E.same_exactly.1 a)),
  (λ s. by s E.decided),
)
  where
    by : SaysSame r → ((r ≡ Same (uses_of E.first_sheet) (uses_of E.second_sheet))
        × ((u : Word) → Alike E.first_sheet E.second_sheet u)) ⊎ Shown E.first_sheet E.second_sheet r space
        → (u : Word) → Alike E.first_sheet E.second_sheet u
    by s (inl x) = x.1
    by s (inr x) = absurd (not-same _ _ _ _ _ _ (sym x.answer ∙ s.2))

-- THEOREM: for two sheets that compare accepts, the cards are equal bytes exactly if it says "same"
pub same-by-compare : SameByCompare
same-by-compare old new c d ws space r ws' space' C D p h =
    let E = exact-answer old new ws space r ws' space' p h in
    let q = same-cards old new c d (length ws) (length space) C D h in
    let e : C.sheet ≡ E.first_sheet = one-sheet (held old new (c, C) (d, D)) E.first_held in
    let f : D.sheet ≡ E.second_sheet = one-sheet (held' old new (c, C) (d, D)) E.second_held in
    let s = says_same old new r space' E in (
      (λ x. s.0 (λ u. subst (λ X. Alike X E.second_sheet u) e (subst (λ Y. Alike C.sheet Y u) f (q.0 x u)))),
      (λ x. q.1 (λ u. subst (λ X. Alike X D.sheet u) (sym e)
          (subst (λ Y. Alike E.first_sheet Y u) (sym f) (s.1 x u)))),
    )

-- THEOREM: a sheet has one card
one-card : OneCard
one-card s c d C D =
    let e : C.sheet ≡ D.sheet = one-sheet (held s s (c, C) (d, D)) (held' s s (c, C) (d, D)) in
    let t : C.type ≡ D.type = one_type (sym C.reads ∙ D.reads) in
    let b : Table D.sheet C.table = subst (λ X. Table X C.table) e C.positions in
    let u : C.table ≡ D.table =
    same-table D.sheet (held-accepted (held' s s (c, C) (d, D))) C.table D.table b D.positions in
    C.bytes ∙ same C.sheet D.sheet C.type D.type C.table D.table e t u ∙ sym D.bytes
  where
    one_type : {S T : Sheet} {t u m n : ℕ} → accepted S t m ≡ accepted T u n → t ≡ u
    one_type e = cc

    same : (S T : Sheet) (t u : ℕ) (A B : List Position) → S ≡ T → t ≡ u → A ≡ B
        → card_bytes s (heading_width S) t S.numbers A ≡ card_bytes s (heading_width T) u T.numbers B
    same S T t u A B e f g = rw (e, f, g)

-- THEOREM: what card promises allows one answer and one state of everything lent
pub card_unique : CardUnique
unfolding CardedBy
card_unique s ws space r r₂ ws₁ ws₂ space₁ space₂ p q = go (card_refusal s (length ws) (length space)) p q
  where
    go : (x : Option Cause) → CardedBy x s ws space r ws₁ space₁ → CardedBy x s ws space r₂ ws₂ space₂
        → (r ≡ r₂) × ((ws₁ ≡ ws₂) × (space₁ ≡ space₂))
    go (some x) h k = (h.0 ∙ sym k.0, (h.1.0 ∙ sym k.1.0, h.1.1 ∙ sym k.1.1))
    go none h k =
        let e : h.card ≡ k.card = one-card s h.card k.card h.is k.is in (
          h.answer ∙ ap Ok (ap length e) ∙ sym k.answer,
          (
            h.cleared ∙ sym k.cleared,
            h.written ∙ ap (λ (c : List ℕ). c ++ drop (length c) space) e ∙ sym k.written,
          ),
        )
