-- A procedure is read and weighed: its own term, then the term in which it may be used.
use Prim.Native.Nat.{ℕ, suc, ◌+◌, ◌%◌, ◌≤◌, ◌<◌}
use native.Mathlib.Omega.{arith}
use mathlib.Core.Path.{◌≡◌, sym, ap, ◌∙◌}
use mathlib.Core.Bool.{true}
use mathlib.Core.List.{List}
use lib.ListN.{length}
use Rattle.language.specs.declared.Numbers.{Numbers}
use Rattle.sheet_records.specs.declared.edition.Edition.{Edition}
use Rattle.sheet_heads.specs.declared.head.Record.{Record}
use Rattle.sheet_rows.specs.Row.{word, linked}
use Rattle.sheet_written.specs.Environment.{beyond}
use Rattle.sheet_written.specs.Written.{procedure, Parameter, Name}
use Rattle.sheet_written.specs.Meaning.{Binder, inside, after}
use Rattle.sheet_written.specs.Fine.{depth}
use Rattle.sheet_written.specs.Context.{Context, in_procedure, in_scope, binders, forms, downs}
use Rattle.sheet_rows.specs.PartKind.{PARTS}
use Rattle.weight_theory.specs.Stack.{marks_in, slot_of}
use Rattle.weight_theory.specs.Plan.{come_at}
use Rattle.weight_theory.specs.Weighed.{many, parts_in, ReadyOne, PartsFormed}
use Rattle.weight_theory.proofs.FormLaws.{shows_kept}
use Rattle.weight_theory.proofs.Places.{marked-come}
use Rattle.sheet_reader.specs.Reader.{Tree, node, leaf, branch, written, writtens}
use Rattle.sheet_reader.specs.table.Fill.{fill, fills}
use Rattle.sheet_reader.specs.table.Notes.{uses_name}
use Rattle.sheet_reader.specs.table.Number.{used_number}
use Rattle.sheet_reader.proofs.Parsed.{Parsed}
use Rattle.sheet_reader.proofs.Pairs.{inside-length}
use Rattle.sheet_table.proofs.Rows.{length-linked, linked-same, linked-else}
use Rattle.sheet_table.proofs.Spans.{forward, before, length-fill, fill-else}
use Rattle.sheet_table.proofs.Stored.{stored-none, stored_more, place, head, tail}
use Rattle.sheet_table.proofs.weights.Keeping.{Kept, kept_then, kept_less, kept-linked, height-linked}
use Rattle.sheet_table.proofs.weights.ReadyAlong.{behind-later, behind-inside, behind-scope, ready-kept}
use Rattle.sheet_table.proofs.weights.ReadyAlong.{ready-inside, ready-scope}
use Rattle.sheet_table.proofs.weights.Parts.{Starts, Done, Part, one-done}
use Rattle.sheet_table.proofs.weights.Record.{Numbered, closing}

module _ (N : Numbers) (s : List ℕ) (ns : List Name) (short : length s ≤ 4096) where
  -- once its own term was read, at `from`, a procedure at a place may be used
  own-ready : {Γ : Context} {π : ℕ → ℕ} {left at from mid : ℕ} {x : Tree} {ps : List Parameter} →
      Part N s ns (in_procedure ps Γ) π left from x mid → (t : List ℕ) (h : ℕ) → at < from →
      Starts N ns (linked at 0 from t) (in_procedure ps Γ) π from h left → depth (written s x) ≤ left →
      length (binders Γ) ≤ 124 → length ps ≤ 4 →
      ReadyOne N ns (linked at 1 mid (fill N x (linked at 0 from t))) at mid (suc h) Γ ps (written s x)
  unfolding come_at binders downs forms
  own-ready {Γ} {π} {left} {at} {from} {mid} {x} {ps} P t h b S deep few four =
      let k : List ℕ = linked at 0 from t in
      let u : List ℕ = fill N x k in
      let m : List ℕ = linked at 1 mid u in
      let D : Done N ns k u (in_procedure ps Γ) from (written s x) h = P.does k h S in
      let f : from < mid = forward P.placed.span in
      let w : mid ≤ length s = P.placed.within in
      let long : length t ≡ 58313 = sym (length-linked at 0 from t) ∙ S.long in
      let K : Kept u m (suc at) mid (suc h) =
      kept-linked at 1 mid u (suc at) mid (suc h) (omega arith) (omega arith) (λ q a c e. omega arith) in
      let e : word m at PARTS ≡ from =
      linked-else at 1 mid u at 5 (omega arith) (omega arith) (λ a c. omega arith)
      ∙ (fill-else N P.placed.span k at 5 (omega arith) (omega arith) (before b)
      ∙ linked-same at 0 from t (omega arith) (omega arith)) in
      let i : slot_of m from ≡ h = K.slots from b f ∙ D.slot in
      record {
        placed = omega arith;
        before = rw e f;
        few = few;
        four = four;
        comes = rw e (ap (λ y. y % 128) (K.marks from b f)
            ∙ marked-come N ns u (written s x) (marks_in u) (in_procedure ps Γ) from left D.marked deep S.few);
        below = rw (e, i) (omega arith);
        formed = rw (e, i) (shows_kept u m h _ (λ j c. K.forms h j (omega arith) c) D.shows);
      }

  pub procedure-done : {ed : Edition} {left at from mid ty last next : ℕ} {ps : List Parameter} {bs : List Binder}
      {π : ℕ → ℕ} {r : Record} {x y : Tree} →
      Parsed ed N s ns (suc left) bs π at (node r last (length bs) next (branch from x (branch mid y leaf))) last
      next → (Γ : Context) → binders Γ ≡ bs →
      written s (node r last (length bs) next (branch from x (branch mid y leaf)))
      ≡ procedure r.a ty ps (written s x) (written s y) →
      r.place ≡ at → (uses_name r ≡ true → r.a < 256) →
      Numbered N s ns Γ (procedure r.a ty ps (written s x) (written s y)) (used_number r) → at < from →
      length ps ≤ 4 → depth (written s x) ≤ left → Part N s ns (in_procedure ps Γ) π left from x mid →
      Part N s ns (in_scope r.a ty ps (written s x) Γ) (beyond (length (binders Γ)) π (λ j. at)) left mid y next →
      (t : List ℕ) (h : ℕ) → Starts N ns t Γ π at h (suc left) →
      Done N ns t (fill N (node r last (length bs) next (branch from x (branch mid y leaf))) t) Γ at
      (written s (node r last (length bs) next (branch from x (branch mid y leaf)))) h
  unfolding fills many parts_in PartsFormed writtens binders after
  procedure-done {left = left} {at = at} {from = from} {mid = mid} {ty = ty} {next = next} {ps = ps} {π = π} {r = r}
      {x = x} {y = y} d Γ e w p small n b four deep P Q t h S =
      let g : from < mid = forward P.placed.span in
      let g' : mid < next = forward Q.placed.span in
      let l : next ≤ length s = Q.placed.within in
      let k : List ℕ = linked at 0 from t in
      let c : length (inside ps (binders Γ)) ≡ length (binders Γ) + length ps = inside-length ps (binders Γ) in
      let S₁ : Starts N ns k (in_procedure ps Γ) π from h left = record {
        long = length-linked at 0 from t ∙ S.long;
        height = height-linked at 0 from t (omega arith) (omega arith) ∙ S.height;
        room = omega (arith, S.room);
        few = omega (arith, S.few);
        behind = behind-later (in_procedure ps Γ) π at from (omega arith) (behind-inside ps Γ π at S.behind);
        ready = ready-kept N ns t k (in_procedure ps Γ) π at from h h (behind-inside ps Γ π at S.behind)
            (omega arith) (omega arith)
            (kept-linked at 0 from t 0 at h (omega arith) (omega arith) (λ q a m i. omega arith))
            (ready-inside N ns t ps Γ π at h S.ready);
      } in
      let u : List ℕ = fill N x k in
      let O = one-done N s ns short P at 0 t h b (omega arith) S₁ in
      let m : List ℕ = linked at 1 mid u in
      let S₂ : Starts N ns m (in_scope r.a ty ps (written s x) Γ) (beyond (length (binders Γ)) π (λ j. at)) mid
      (suc h) left = record {
        long = length-linked at 1 mid u ∙ (length-fill N x k ∙ S₁.long);
        height = height-linked at 1 mid u (omega arith) (omega arith) ∙ (O.height ∙ omega arith);
        room = omega (arith, S.room);
        few = omega (arith, S.few);
        behind = behind-scope r.a ty ps (written s x) Γ π at mid (omega arith)
            (behind-later Γ π at mid (omega arith) S.behind);
        ready = ready-scope N ns m r.a ty ps (written s x) Γ π at mid (suc h)
            (ready-kept N ns t m Γ π at mid h (suc h) S.behind (omega arith) (omega arith)
            (kept_then O.early
            (kept-linked at 1 mid u 0 at h (omega arith) (omega arith) (λ q a i j. omega arith)))
            S.ready)
            (own-ready P t h b S₁ deep (omega (arith, S.few)) four);
      } in
      let O' = one-done N s ns short Q at 1 u (suc h) (omega arith) (omega arith) S₂ in
      closing N s ns short d Γ e (procedure r.a ty ps (written s x) (written s y)) w p small n t h S
      (record {
        height = O'.height ∙ omega arith;
        early = kept_then O.early (kept_less 0 at h (omega arith) (omega arith) (omega arith) O'.early);
        formed = λ v K T. (
          O.formed v
              (kept_then (kept_less from mid (h + 1) (omega arith) (omega arith) (omega arith) O'.between)
              (kept_less from mid (h + 1) (omega arith) (omega arith) (omega arith) K))
              (stored_more (place T) (head T) stored-none),
          O'.formed v (kept_less mid next (suc h + 1) (omega arith) (omega arith) (omega arith) K) (tail T),
        );
      })
