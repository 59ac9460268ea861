-- The table that `fill` leaves holds the row of every part, with the places of its parts.
use Prim.Native.Nat.{ℕ, ◌+◌, ◌≤◌, ◌<◌}
use native.Mathlib.Omega.{arith}
use mathlib.Core.Path.{◌≡◌, subst, ◌∙◌}
use mathlib.Core.List.{List}
use lib.ListN.{length}
use Rattle.language.specs.declared.Numbers.{Numbers}
use Rattle.sheet_rows.specs.Row.{row_written, linked}
use Rattle.sheet_heads.specs.declared.head.Record.{Record}
use Rattle.sheet_reader.specs.Reader.{Tree, node, Trees, leaf, branch}
use Rattle.sheet_reader.specs.table.Fill.{fill, fills}
use Rattle.sheet_reader.specs.table.Notes.{noted}
use Rattle.sheet_reader.specs.table.Number.{used_number}
use Rattle.sheet_rows.specs.Row.{word}
use Rattle.sheet_table.proofs.Rows.{Holds, length-linked, written_row, written-else, linked-same, noted-else}
use Rattle.sheet_table.proofs.Rows.{weighed-else}
use Rattle.sheet_table.proofs.Spans.{Span, span, Parts, stop, part, forward, onward, before}
use Rattle.sheet_table.proofs.Spans.{length-fill, length-fills, fill-else, fills-else}

-- the same rows from one place up to another
abbrev pub Agree : List ℕ → List ℕ → ℕ → ℕ → Type 0
Agree U t at next = (p i : ℕ) → at ≤ p → p < next → i < 9 → word U p i ≡ word t p i

-- the table holds the row of every part
module _ (N : Numbers) (U : List ℕ) where
  mutual
    pub data Stored : ℕ → Tree → Type 0 where
      stored : {at ty number end : ℕ} {r : Record} {ts : Trees} → Holds N r ty number end U at → StoredParts at 0 ts →
          Stored at (node r ty number end ts)

    -- of parts j, j + 1, .. of the record at p, with their places
    pub data StoredParts : ℕ → ℕ → Trees → Type 0 where
      stored-none : {p j : ℕ} → StoredParts p j leaf
      stored_more : {p j at : ℕ} {t : Tree} {ts : Trees} → word U p (5 + j) ≡ at → Stored at t →
          StoredParts p (j + 1) ts → StoredParts p j (branch at t ts)

  holds-in : {r : Record} {ty number end : ℕ} {t : List ℕ} {at : ℕ} → Holds N r ty number end t at →
      ((i : ℕ) → i < 9 → word U at i ≡ word t at i) → Holds N r ty number end U at
  holds-in h f = record {
    kind = f 0 (omega arith) ∙ h.kind;
    ended = f 1 (omega arith) ∙ h.ended;
    class = f 2 (omega arith) ∙ h.class;
    values = f 3 (omega arith) ∙ h.values;
    detail = f 4 (omega arith) ∙ h.detail;
  }

  -- what `fill` leaves holds every part's row, and so does every table with the same rows of its places
  mutual
    unfolding fill fills

    pub stores : {at next : ℕ} {x : Tree} → Span at next x → (t : List ℕ) → length t ≡ 58313 → next ≤ 4096 →
        Agree U (fill N x t) at next → Stored at x
    stores (span {at} {from} {next} {ty} {number} {end} {r} {ts} e ps lt) t l h same =
        let le : from ≤ next = onward ps in
        let u : List ℕ = fills N ts r.place 0 t in
        let long : length u ≡ 58313 = length-fills N ts r.place 0 t ∙ l in
        let row : Holds N r ty number end (row_written N r ty number end u) r.place = written_row N r ty number end
        u (omega arith) in
        let same' : Agree U (row_written N r ty number end u) at next =
        λ p i g k m. same p i g k m ∙
        (weighed-else (used_number r) r.place (noted r (row_written N r ty number end u)) p i (omega arith) m ∙
        noted-else r (row_written N r ty number end u) p i (omega arith) m) in
        let mine : Holds N r ty number end U at =
        holds-in (subst (λ (p : ℕ). Holds N r ty number end (row_written N r ty number end u) p) e row)
        (λ i g. same' at i (omega arith) (omega arith) g) in
        let rest = stores-parts ps r.place t l h (omega arith)
        (λ i g k. same' r.place i (omega arith) (omega arith) k ∙ written-else N r ty number end u r.place i k
        (λ f. g))
        (λ p i g k m. same' p i (omega arith) k m ∙ written-else N r ty number end u p i m (λ f. absurd (omega
        arith))) in
        stored mine (subst (λ (p : ℕ). StoredParts p 0 ts) e rest)

    -- of the record at q, whose row has the places of its parts
    pub stores-parts : {j from next : ℕ} {xs : Trees} → Parts j from next xs → (q : ℕ) (t : List ℕ) →
        length t ≡ 58313 → next ≤ 4096 → q < from →
        ((i : ℕ) → 5 + j ≤ i → i < 9 → word U q i ≡ word (fills N xs q j t) q i) →
        Agree U (fills N xs q j t) from next → StoredParts q j xs
    stores-parts stop q t l h lt row same = stored-none
    stores-parts (part {j} {at} {mid} {next} {t = x} {ts = xs} few sp ps) q t l h lt row same =
        let le : at < mid = forward sp in
        let le' : mid ≤ next = onward ps in
        let u : List ℕ = linked q j at t in
        let v : List ℕ = fill N x u in
        let long : length u ≡ 58313 = length-linked q j at t ∙ l in
        let long' : length v ≡ 58313 = length-fill N x u ∙ long in
        let link : word U q (5 + j) ≡ at =
        row (5 + j) (omega arith) (omega arith) ∙
        (fills-else N ps v q q (5 + j) (omega arith) (omega arith) (before (omega arith)) (λ e. omega arith) ∙
        (fill-else N sp u q (5 + j) (omega arith) (omega arith) (before (omega arith)) ∙
        linked-same q j at t few (omega arith))) in
        let mine = stores sp u long (omega arith)
        (λ p i g k m. same p i g (omega arith) m ∙
        fills-else N ps v q p i (omega arith) m (before k) (λ e. absurd (omega arith))) in
        let rest = stores-parts ps q v long' h (omega arith)
        (λ i g k. row i (omega arith) k) (λ p i g k m. same p i (omega arith) k m) in
        stored_more link mine rest

-- what is stored, taken apart
module _ {N : Numbers} {U : List ℕ} where
  pub own : {at ty number end : ℕ} {r : Record} {ts : Trees} → Stored N U at (node r ty number end ts) → Holds N r ty
      number end U at
  own (stored h ps) = h

  pub parts : {at ty number end : ℕ} {r : Record} {ts : Trees} → Stored N U at (node r ty number end ts) →
      StoredParts N U at 0 ts
  parts (stored h ps) = ps

  pub place : {p j at : ℕ} {t : Tree} {ts : Trees} → StoredParts N U p j (branch at t ts) → word U p (5 + j) ≡ at
  place (stored_more e x ps) = e

  pub head : {p j at : ℕ} {t : Tree} {ts : Trees} → StoredParts N U p j (branch at t ts) → Stored N U at t
  head (stored_more e x ps) = x

  pub tail : {p j at : ℕ} {t : Tree} {ts : Trees} → StoredParts N U p j (branch at t ts) → StoredParts N U p (j + 1)
      ts
  tail (stored_more e x ps) = ps
