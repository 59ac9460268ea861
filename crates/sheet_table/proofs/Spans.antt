-- Where the parts of a term stand, and that `fill` writes the rows of those places only.
use Prim.Native.Nat.{ℕ, ◌+◌, ◌≤◌, ◌<◌}
use native.Mathlib.Omega.{arith}
use mathlib.Core.Path.{◌≡◌, refl, ◌∙◌}
use mathlib.Core.List.{List}
use lib.ListN.{length}
use Rattle.language.specs.declared.Numbers.{Numbers}
use Rattle.sheet_rows.specs.Row.{row_written, linked}
use Rattle.sheet_heads.specs.declared.head.Record.{Record}
use Rattle.sheet_written.specs.Written.{Name}
use Rattle.sheet_written.specs.Meaning.{Binder}
use Rattle.sheet_rows.specs.Row.{word}
use Rattle.sheet_reader.specs.Reader.{Tree, node, Trees, leaf, branch}
use Rattle.weight_theory.proofs.Below.{length-weighed}
use Rattle.sheet_reader.specs.table.Fill.{fill, fills}
use Rattle.sheet_reader.specs.table.Notes.{noted}
use Rattle.sheet_reader.specs.table.Number.{used_number}
use Rattle.sheet_records.specs.declared.edition.Edition.{Edition}
use Rattle.sheet_reader.proofs.Parsed.{Parsed, p-skip, p-diverge, p-truth, p-number, p-private, p-parameter, p-use}
use Rattle.sheet_reader.proofs.Parsed.{p-name, p-fetch, p-operate, p-assign, p-sequence, p-if, p-while, p-new}
use Rattle.sheet_reader.proofs.Parsed.{p-procedure, p-none, p-more}
use Rattle.sheet_table.proofs.Rows.{length-written, length-linked, written-else, linked-else, length-noted, noted-else}
use Rattle.sheet_table.proofs.Rows.{weighed-else}

-- a part takes the places from its own up to the next; its parts, at most four, stand one after the other behind it
mutual
  pub data Span : ℕ → ℕ → Tree → Type 0 where
    span : {at from next ty number end : ℕ} {r : Record} {ts : Trees} → r.place ≡ at → Parts 0 from next ts → at <
        from →
        Span at next (node r ty number end ts)

  -- parts j, j + 1, .. of a record
  pub data Parts : ℕ → ℕ → ℕ → Trees → Type 0 where
    stop : {j at : ℕ} → Parts j at at leaf
    part : {j at mid next : ℕ} {t : Tree} {ts : Trees} → j < 4 → Span at mid t → Parts (j + 1) mid next ts →
        Parts j at next (branch at t ts)

mutual
  pub forward : {at next : ℕ} {t : Tree} → Span at next t → at < next
  forward (span e ps lt) = let h = onward ps in omega arith

  pub onward : {j at next : ℕ} {ts : Trees} → Parts j at next ts → at ≤ next
  onward stop = omega arith
  onward (part lt x ps) = let h = forward x in let g = onward ps in omega arith

one : {at next : ℕ} {t : Tree} → Span at next t → Parts 0 at next (branch at t leaf)
one x = part {j = 0} (omega arith) x stop

two : {at mid next : ℕ} {t u : Tree} → Span at mid t → Span mid next u →
    Parts 0 at next (branch at t (branch mid u leaf))
two x y = part {j = 0} (omega arith) x (part {j = 0 + 1} (omega arith) y stop)

three : {at mid far next : ℕ} {t u v : Tree} → Span at mid t → Span mid far u → Span far next v →
    Parts 0 at next (branch at t (branch mid u (branch far v leaf)))
three x y z =
    part {j = 0} (omega arith) x (part {j = 0 + 1} (omega arith) y (part {j = 0 + 1 + 1} (omega arith) z stop))

-- a part that was read has such a span, within the sheet
pub record Placed (s : List ℕ) (at next : ℕ) (t : Tree) : Type 0 where
  pub span : Span at next t
  pub within : next ≤ length s

module _ (N : Numbers) (s : List ℕ) (ns : List Name) where
  pub placed : {ed : Edition} {left at ty next : ℕ} {bs : List Binder} {π : ℕ → ℕ} {t : Tree} →
      Parsed ed N s ns left bs π at t ty next → Placed s at next t
  placed d =
      elim d as (λ left bs π at t ty next d. Placed s at next t)
      (λ left bs π at ts tys next ds.
      ((j : ℕ) → j + length tys ≤ 4 → Parts j at next ts) × (at ≤ length s → next ≤ length s)) [
        | p-skip {at = a} st ↦ record { span = span {from = a + 1} st.place stop (omega arith); within = omega arith }
        | p-diverge {at = a} st b h ↦
            record { span = span {from = a + 2} st.place stop (omega arith); within = omega arith }
        | p-truth {at = a} st b h ↦
            record { span = span {from = a + 2} st.place stop (omega arith); within = omega arith }
        | p-number {at = a} st b h g ↦
            record { span = span {from = a + 2} st.place stop (omega arith); within = omega arith }
        | p-private {at = a} st b h m l g e c ↦
            record { span = span {from = a + 2} st.place stop (omega arith); within = omega arith }
        | p-parameter {at = a} st b h m l g c ↦
            record { span = span {from = a + 2} st.place stop (omega arith); within = omega arith }
        | p-use st b h m l e g k o c (ds → xs) ↦
            record { span = span st.place (xs.0 0 (omega arith)) (omega arith); within = xs.1 (omega arith) }
        | p-name st b h m l e g k c (ds → xs) ↦
            record { span = span st.place (xs.0 0 (omega arith)) (omega arith); within = xs.1 (omega arith) }
        | p-fetch st (d → x) h ↦ record { span = span st.place (one x.span) (omega arith); within = x.within }
        | p-operate st b h (d → x) (f → y) ↦
            record { span = span st.place (two x.span y.span) (omega arith); within = y.within }
        | p-assign st (d → x) h (f → y) ↦
            record { span = span st.place (two x.span y.span) (omega arith); within = y.within }
        | p-sequence st (d → x) (f → y) ↦
            record { span = span st.place (two x.span y.span) (omega arith); within = y.within }
        | p-if st (d → x) (f → y) (g → z) ↦
            record { span = span st.place (three x.span y.span z.span) (omega arith); within = z.within }
        | p-while st (d → x) (f → y) ↦
            record { span = span st.place (two x.span y.span) (omega arith); within = y.within }
        | p-new st b h m v c l g (d → x) ↦
            record { span = span st.place (one x.span) (omega arith); within = x.within }
        | p-procedure st b h m v c l n k q u (d → x) (f → y) ↦
            record { span = span st.place (two x.span y.span) (omega arith); within = y.within }
        | p-none ↦ ((λ j h. stop), (λ h. h))
        | p-more (d → x) (ds → xs) ↦ (
          (λ j h. part {j = j} (omega arith) x.span (xs.0 (j + 1) (omega arith))),
          (λ h. xs.1 x.within),
        )
      ]

-- a place outside a span
pub data Outside (at next p : ℕ) : Type 0 where
  before : p < at → Outside at next p
  after : next ≤ p → Outside at next p

narrow : {at at' next next' p : ℕ} → at ≤ at' → next' ≤ next → Outside at next p → Outside at' next' p
narrow h g (before l) = before (omega arith)
narrow h g (after l) = after (omega arith)

not_first : {at next p : ℕ} → at < next → Outside at next p → p ≡ at → ⊥
not_first h (before l) e = omega arith
not_first h (after l) e = omega arith

module _ (N : Numbers) where
  mutual
    unfolding fill fills

    pub length-fill : (x : Tree) (t : List ℕ) → length (fill N x t) ≡ length t
    length-fill (node r ty number end ts) t =
        let u : List ℕ = fills N ts r.place 0 t in
        let v : List ℕ = row_written N r ty number end u in
        length-weighed (used_number r) r.place (noted r v) ∙
        (length-noted r v ∙ (length-written N r ty number end u ∙ length-fills ts r.place 0 t))

    pub length-fills : (xs : Trees) (p j : ℕ) (t : List ℕ) → length (fills N xs p j t) ≡ length t
    length-fills leaf p j t = refl
    length-fills (branch at x xs) p j t =
        length-fills xs p (j + 1) (fill N x (linked p j at t)) ∙
        (length-fill x (linked p j at t) ∙ length-linked p j at t)

  -- the rows of other places stay; and in the row of the record itself the words below those of its parts
  mutual
    unfolding fill fills

    pub fill-else : {at next : ℕ} {x : Tree} → Span at next x → (t : List ℕ) (p i : ℕ) → p < 4096 → i < 9 →
        Outside at next p → word (fill N x t) p i ≡ word t p i
    fill-else (span {at} {from} {next} {ty} {number} {end} {r} {ts} e ps lt) t p i g h o =
        let le : from ≤ next = onward ps in
        let rest = fills-else ps t r.place p i g h (narrow (omega arith) (omega arith) o)
        (λ f. absurd (not_first (omega arith) o (f ∙ e))) in
        let u : List ℕ = fills N ts r.place 0 t in
        let v : List ℕ = row_written N r ty number end u in
        weighed-else (used_number r) r.place (noted r v) p i g h ∙
        (noted-else r v p i g h ∙
        (written-else N r ty number end u p i h (λ f. absurd (not_first (omega arith) o (f ∙ e))) ∙ rest))

    pub fills-else : {j at next : ℕ} {xs : Trees} → Parts j at next xs → (t : List ℕ) (q p i : ℕ) → p < 4096 → i < 9 →
        Outside at next p → (p ≡ q → i < 5 + j) → word (fills N xs q j t) p i ≡ word t p i
    fills-else stop t q p i g h o n = refl
    fills-else (part {j} {at} {mid} {next} {t = x} {ts = xs} lt sp ps) t q p i g h o n =
        let le : at < mid = forward sp in
        let le' : mid ≤ next = onward ps in
        let rest = fills-else ps (fill N x (linked q j at t)) q p i g h (narrow (omega arith) (omega arith) o)
        (λ e. let l : i < 5 + j = n e in omega arith) in
        let own = fill-else sp (linked q j at t) p i g h (narrow (omega arith) (omega arith) o) in
        rest ∙ (own ∙ linked-else q j at t p i lt h (λ e f. let l : i < 5 + j = n e in omega arith))
