-- A record whose parts were read and weighed is weighed.
use Prim.Native.Nat.{ℕ, suc, ◌+◌, ◌≤◌, ◌<◌}
use native.Mathlib.Omega.{arith}
use mathlib.Core.Path.{◌≡◌, sym, ap, ◌∙◌, subst}
use mathlib.Core.Bool.{true}
use mathlib.Core.List.{List}
use lib.ListN.{length}
use Rattle.language.specs.declared.Numbers.{Numbers}
use Rattle.sheet_records.specs.declared.edition.Edition.{Edition}
use Rattle.sheet_heads.specs.declared.head.Record.{Record}
use Rattle.sheet_rows.specs.Row.{word, row_written}
use Rattle.sheet_written.specs.Written.{Written, Writtens, call, Name}
use Rattle.sheet_written.specs.Meaning.{Binder, meaning, routine}
use Rattle.sheet_written.specs.Fine.{Fine, depth}
use Rattle.sheet_written.specs.Context.{Context, binders}
use Rattle.sheet_written.specs.Table.{Shown}
use Rattle.weight_theory.specs.Stack.{height_of}
use Rattle.weight_theory.specs.Step.{weighed}
use Rattle.weight_theory.specs.Weighed.{parts_in, PartsFormed, Given}
use Rattle.weight_theory.proofs.Steps.{record-weighed}
use Rattle.sheet_reader.specs.Reader.{Tree, node, Trees, written}
use Rattle.sheet_reader.specs.table.Fill.{fill, fills}
use Rattle.sheet_reader.specs.table.Notes.{uses_name, noted}
use Rattle.sheet_reader.specs.table.Number.{used_number}
use Rattle.sheet_reader.proofs.Parsed.{Parsed}
use Rattle.sheet_table.proofs.Rows.{weighed-else}
use Rattle.sheet_table.proofs.Spans.{placed, forward}
use Rattle.sheet_table.proofs.Stored.{Stored, StoredParts, stores, parts}
use Rattle.sheet_table.proofs.Shows.{shows, told}
use Rattle.sheet_reader.proofs.Sound.{sound}
use Rattle.sheet_table.proofs.weights.Keeping.{Kept, kept_then, kept-closed, height-closed, kept-weighed}
use Rattle.sheet_table.proofs.weights.ReadyAlong.{ready-kept}
use Rattle.sheet_table.proofs.weights.Parts.{Starts, Done}

module _ (N : Numbers) (s : List ℕ) (ns : List Name) where
  -- the parts of the record W of Γ were read from the table t to the table u, where the stack had h forms
  pub record Inner (t u : List ℕ) (Γ : Context) (at next : ℕ) (ts : Trees) (W : Written) (h : ℕ) : Type 0 where
    pub height : height_of u ≡ h + parts_in W
    pub early : Kept t u 0 at h
    pub formed : (v : List ℕ) → Kept u v (suc at) next (h + parts_in W) → StoredParts N v at 0 ts →
        PartsFormed N ns v Γ at h W

  -- the number of the procedure that W uses
  abbrev pub Numbered : Context → Written → ℕ → Type 0
  Numbered Γ W k = (id j ty : ℕ) (ws : Writtens) (tys : List ℕ) → W ≡ call id ws →
      meaning ns (binders Γ) id ≡ routine j ty tys → k ≡ j

  -- a table that was read into shows the part
  pub shown-in : {ed : Edition} {left at ty next : ℕ} {bs : List Binder} {π : ℕ → ℕ} {x : Tree} → length s ≤ 4096 →
      Parsed ed N s ns left bs π at x ty next → (Γ : Context) → binders Γ ≡ bs → (t : List ℕ) → length t ≡ 58313 →
      (v : List ℕ) → ((p i : ℕ) → at ≤ p → p < next → i < 9 → word v p i ≡ word (fill N x t) p i) →
      Shown N ns v Γ π at next (written s x) × Stored N v at x
  shown-in short d Γ e t l v f =
      let P = placed N s ns d in
      let S = stores N v P.span t l (omega (arith, P.within)) f in
      (shows N s ns v short d Γ e (told N s ns d) S, S)

  module _ (short : length s ≤ 4096) where
    pub closing : {ed : Edition} {left at ty next : ℕ} {bs : List Binder} {π : ℕ → ℕ} {r : Record} {ts : Trees} →
        Parsed ed N s ns (suc left) bs π at (node r ty (length bs) next ts) ty next → (Γ : Context) → binders Γ ≡ bs →
        (W : Written) → written s (node r ty (length bs) next ts) ≡ W → r.place ≡ at →
        (uses_name r ≡ true → r.a < 256) → Numbered Γ W (used_number r) → (t : List ℕ) (h : ℕ) →
        Starts N ns t Γ π at h (suc left) → Inner t (fills N ts at 0 t) Γ at next ts W h →
        Done N ns t (fill N (node r ty (length bs) next ts) t) Γ at (written s (node r ty (length bs) next ts)) h
    unfolding fill
    closing {left = left} {at = at} {ty = ty} {next = next} {bs = bs} {π = π} {r = r} {ts = ts} d Γ e W w p small n t
        h S I =
        let P = placed N s ns d in
        let f : at < next = forward P.span in
        let g : next ≤ length s = P.within in
        let u : List ℕ = fills N ts at 0 t in
        let v : List ℕ = noted r (row_written N r ty (length bs) next u) in
        let z : List ℕ = weighed (used_number r) at v in
        let q : fill N (node r ty (length bs) next ts) t ≡ z =
        ap (λ i. weighed (used_number r) i (noted r (row_written N r ty (length bs) next (fills N ts i 0 t)))) p in
        let X = shown-in short d Γ e t S.long v
        (λ a i b c m. sym (ap (λ y. word y a i) q ∙ weighed-else (used_number r) at v a i (omega arith) m)) in
        let K : Kept u v 0 at h = kept-closed N r ty (length bs) next u (omega arith) small 0 at h (omega arith)
        (λ a b c m. omega arith) in
        let K' : Kept u v (suc at) next (h + parts_in W) =
        kept-closed N r ty (length bs) next u (omega arith) small (suc at) next (h + parts_in W) (omega arith)
        (λ a b c m. omega arith) in
        let J : Kept t v 0 at h = kept_then I.early K in
        let Z = sound N s ns (suc left) d in
        let G : Given N ns v Γ π at next W left h (used_number r) = record {
          long = J.long ∙ S.long;
          shown = rw w at X.0;
          fine = subst (λ y. Fine N ns (binders Γ) y) w
              (subst (λ y. Fine N ns y (written s (node r ty (length bs) next ts))) (sym e) Z.fine);
          deep = subst (λ y. depth y ≤ suc left) w Z.shallow;
          few = S.few;
          room = omega (arith, S.room);
          height = height-closed N r ty (length bs) next u (omega arith) small ∙ I.height;
          ready = ready-kept N ns t v Γ π at at h h S.behind (omega arith) (omega arith) J S.ready;
          formed = I.formed v K' (parts X.1);
          numbered = n;
        } in
        let D = record-weighed N ns v Γ π at next W left h (used_number r) G in
        let E : Done N ns t z Γ at W h = record {
          shows = D.shows;
          height = D.height;
          slot = D.slot;
          marked = D.marked;
          kept = kept_then J (kept-weighed v z at h (omega arith) D.kept);
        } in
        subst (λ y. Done N ns t y Γ at (written s (node r ty (length bs) next ts)) h) (sym q)
        (subst (λ y. Done N ns t z Γ at y h) (sym w) E)
