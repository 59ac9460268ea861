-- What reading a term leaves on the stack of forms and in the marks, document 02 [1], "Reckoned size".
use Prim.Native.Nat.{ℕ, suc, ◌≤◌}
use native.Mathlib.Omega.{arith}
use mathlib.Core.Path.{◌≡◌, refl, sym, ap, ◌∙◌, subst}
use mathlib.Core.List.{List, [], ◌∷◌}
use lib.ListN.{length}
use Rattle.language.specs.declared.Numbers.{Numbers}
use Rattle.sheet_records.specs.Standing.{standing_of}
use Rattle.sheet_records.specs.declared.edition.Edition.{Edition}
use Rattle.sheet_records.proofs.StandingLaws.{procedure-again}
use Rattle.sheet_written.specs.Environment.{beyond}
use Rattle.sheet_written.specs.Written as w
use Rattle.sheet_written.specs.Written.{Written, Name}
use Rattle.sheet_written.specs.Meaning.{Binder, a_block, private, argument, named, inside, after}
use Rattle.sheet_written.specs.Held.{held}
use Rattle.sheet_written.specs.Form.{form_of, no_forms}
use Rattle.sheet_written.specs.Context.{Context, whole, in_block, in_procedure, in_scope, binders, forms}
use Rattle.sheet_written.specs.Marks.{Marked}
use Rattle.weight_theory.specs.Stack.{height-at, marks_in, height_of, form_word}
use Rattle.weight_theory.specs.Weighed.{many, parts_in, Formed, PartsFormed}
use Rattle.sheet_reader.specs.Reader.{Tree, written, writtens, build, first, rest}
use Rattle.sheet_reader.specs.table.Fill.{fill}
use Rattle.sheet_reader.specs.table.Notes.{Blank}
use Rattle.sheet_reader.specs.table.Number.{used_number}
use Rattle.sheet_reader.proofs.Parsed.{Parsed, p-skip, p-diverge, p-truth, p-number, p-private, p-parameter}
use Rattle.sheet_reader.proofs.Parsed.{p-use, p-name, p-fetch, p-operate, p-assign, p-sequence, p-if, p-while, p-new}
use Rattle.sheet_reader.proofs.Parsed.{p-procedure, p-none, p-more}
use Rattle.sheet_table.proofs.Spans.{placed}
use Rattle.sheet_reader.proofs.Sound.{sound}
use Rattle.sheet_table.proofs.weights.ReadyAlong.{behind-block, behind-whole, ready-block, ready-whole}
use Rattle.sheet_table.proofs.weights.Parts.{Part, PartsOf, no_part, a-part}
use Rattle.sheet_table.proofs.weights.Record.{shown-in}
use Rattle.sheet_table.proofs.weights.Plain.{other-kind, used-number, is_call, no-use, no-routine, the-routine, Does}
use Rattle.sheet_table.proofs.weights.Plain.{other, same, called}
use Rattle.sheet_table.proofs.weights.Procedure.{procedure-done}

module _ (N : Numbers) (s : List ℕ) (ns : List Name) (short : length s ≤ 4096) where
  part_of : {ed : Edition} {left at ty next : ℕ} {bs : List Binder} {π : ℕ → ℕ} {x : Tree} →
      Parsed ed N s ns left bs π at x ty next → (Γ : Context) → binders Γ ≡ bs →
      Does N s ns short Γ π left at x → Part N s ns Γ π left at x next
  part_of {x = x} d Γ e f = record {
    placed = placed N s ns d;
    shown = λ t l. (shown-in N s ns short d Γ e t l (fill N x t) (λ p i a b c. refl)).0;
    does = f;
  }

  -- the table after a part was read, whatever encloses it
  weighs : {ed : Edition} {left at ty next : ℕ} {bs : List Binder} {π : ℕ → ℕ} {x : Tree} →
      Parsed ed N s ns left bs π at x ty next → (Γ : Context) → binders Γ ≡ bs →
      Does N s ns short Γ π left at x
  unfolding written writtens build first rest many parts_in Formed PartsFormed binders is_call
  weighs {ed} d =
      elim d as
      (λ left bs π at x ty next d. (Γ : Context) → binders Γ ≡ bs → Does N s ns short Γ π left at x)
      (λ left bs π at ts tys next ds. (Γ : Context) → binders Γ ≡ bs →
      PartsOf N s ns Γ π left at ts next × (many (writtens s ts) ≡ length tys)) [
        | p-skip st ↦ λ Γ e.
            same N s ns short {ed = ed} (p-skip st) Γ e st refl w.skip
            (rw st.ruled refl) refl no_part (omega arith) (omega arith) refl (λ v h f. tt)
        | p-diverge {r = r} st b h ↦ λ Γ e.
            same N s ns short {ed = ed} (p-diverge st b h) Γ e st refl (w.diverge r.a)
            (rw st.ruled refl) refl no_part (omega arith) (omega arith) refl (λ v h f. tt)
        | p-truth {r = r} st b h ↦ λ Γ e.
            same N s ns short {ed = ed} (p-truth st b h) Γ e st refl (w.truth r.a)
            (rw st.ruled refl) refl no_part (omega arith) (omega arith) refl (λ v h f. tt)
        | p-number {r = r} st b h g ↦ λ Γ e.
            same N s ns short {ed = ed} (p-number st b h g) Γ e st refl (w.number r.a)
            (rw st.ruled refl) refl no_part (omega arith) (omega arith) refl (λ v h f. tt)
        | p-private {k = n} {h = h} {r = r} st b g m pos few small c ↦ λ Γ e.
            called N s ns short {ed = ed} (p-private st b g m pos few small c) Γ e st g
            (no-routine N s ns Γ r.a w.none (used_number r) (private n h) e m
            (λ i j tys q. let z : ◌≡◌ {A = ℕ} 0 1 = cc in omega arith))
            no_part (omega arith) (omega arith)
        | p-parameter {k = n} {ty = ty} {r = r} st b g m few small c ↦ λ Γ e.
            called N s ns short {ed = ed} (p-parameter st b g m few small c) Γ e st g
            (no-routine N s ns Γ r.a w.none (used_number r) (argument n ty) e m
            (λ i j tys q. let z : ◌≡◌ {A = ℕ} 0 1 = cc in omega arith))
            no_part (omega arith) (omega arith)
        | p-use {k = n} {ty = ty} {tys = tys} {π = π} {r = r} {ts = ts} st b g m u q few small o c (ds → xs) ↦ λ Γ e.
            let k : used_number r ≡ n =
            used-number r st.kinded (ap standing_of c ∙ procedure-again n (π n) (omega arith)) in
            let X = xs Γ e in
            called N s ns short (p-use st b g m u q few small o c ds) Γ e st g
            (the-routine N s ns Γ r.a (writtens s ts) (used_number r) n ty tys e m k)
            X.0 (omega arith) (omega (arith, X.1))
        | p-name {ty = ty} {often = often} {tys = tys} {r = r} {ts = ts} st b g m u q few small c (ds → xs) ↦ λ Γ e.
            let X = xs Γ e in
            called N s ns short (p-name st b g m u q few small c ds) Γ e st g
            (no-routine N s ns Γ r.a (writtens s ts) (used_number r) (named often ty tys) e m
            (λ i j tys' q'. let z : ◌≡◌ {A = ℕ} 0 1 = cc in omega arith))
            X.0 (omega arith) (omega (arith, X.1))
        | p-fetch {t = x} st (d → f) h ↦ λ Γ e.
            same N s ns short (p-fetch st d h) Γ e st refl
            (w.fetch (written s x)) (rw st.ruled refl) refl
            (a-part (part_of d Γ e (f Γ e)) no_part) (omega arith) (omega arith) refl (λ v h f. f)
        | p-operate {r = r} {t = x} {u = y} st b h (d → f) (d' → g) ↦ λ Γ e.
            same N s ns short (p-operate st b h d d') Γ e st refl
            (w.operate r.a (written s x) (written s y)) (rw st.ruled refl) refl
            (a-part (part_of d Γ e (f Γ e)) (a-part (part_of d' Γ e (g Γ e)) no_part))
            (omega arith) (omega arith) refl (λ v h f. f)
        | p-assign {t = x} {u = y} st (d → f) h (d' → g) ↦ λ Γ e.
            same N s ns short (p-assign st d h d') Γ e st refl
            (w.assign (written s x) (written s y)) (rw st.ruled refl) refl
            (a-part (part_of d Γ e (f Γ e)) (a-part (part_of d' Γ e (g Γ e)) no_part))
            (omega arith) (omega arith) refl (λ v h f. f)
        | p-sequence {t = x} {u = y} st (d → f) (d' → g) ↦ λ Γ e.
            same N s ns short (p-sequence st d d') Γ e st refl
            (w.sequence (written s x) (written s y)) (rw st.ruled refl) refl
            (a-part (part_of d Γ e (f Γ e)) (a-part (part_of d' Γ e (g Γ e)) no_part))
            (omega arith) (omega arith) refl (λ v h f. f)
        | p-if {b = x} {t = y} {u = z} st (d → f) (d' → g) (d'' → h) ↦ λ Γ e.
            same N s ns short (p-if st d d' d'') Γ e st refl
            (w.choose (written s x) (written s y) (written s z)) (rw st.ruled refl) refl
            (a-part (part_of d Γ e (f Γ e))
            (a-part (part_of d' Γ e (g Γ e)) (a-part (part_of d'' Γ e (h Γ e)) no_part)))
            (omega arith) (omega arith) refl (λ v h f. f)
        | p-while {t = x} {u = y} st (d → f) (d' → g) ↦ λ Γ e.
            same N s ns short (p-while st d d') Γ e st refl
            (w.while (written s x) (written s y)) (rw st.ruled refl) refl
            (a-part (part_of d Γ e (f Γ e)) (a-part (part_of d' Γ e (g Γ e)) no_part))
            (omega arith) (omega arith) refl (λ v h f. f)
        | p-new {at = at} {bs = bs} {π = π} {r = r} {t = x} st b h m v c o g (d → f) ↦ λ Γ e.
            let Δ : Context = in_block r.a r.b Γ in
            let i : a_block r.a r.b ∷ binders Γ ≡ a_block r.a r.b ∷ bs =
            ap (λ y. a_block r.a r.b ∷ y) e in
            other N s ns short (p-new st b h m v c o g d) Γ e st refl (w.new r.a r.b (written s x))
            (rw st.ruled refl) refl
            Δ (omega arith) (behind-block r.a r.b Γ π at) (λ t h R. ready-block N ns t r.a r.b Γ π at h R)
            (a-part (part_of d Δ i (f Δ i)) no_part) (omega arith) (omega arith) refl (λ v h f. f)
        | p-procedure {left = left} {at = at} {ty = ty} {mid = mid} {next = next} {ps = ps} {bs = bs} {π = π} {r = r}
            {t = x} {u = y} st b h m v c o n k q z (d → f) (d' → g) ↦ λ Γ e.
            let W : Written = w.procedure r.a ty ps (written s x) (written s y) in
            let Δ : Context = in_procedure ps Γ in
            let Δ' : Context = in_scope r.a ty ps (written s x) Γ in
            let i : inside ps (binders Γ) ≡ inside ps bs = ap (inside ps) e in
            let j : after r.a ty ps (binders Γ) ≡ after r.a ty ps bs = ap (after r.a ty ps) e in
            procedure-done N s ns short {ty = ty} {ps = ps} (p-procedure st b h m v c o n k q z d d') Γ e
            (rw (st.ruled, st.place, c.1, q.are) refl) st.place (other-kind r st.kinded refl)
            (no-use N s ns Γ W (used_number r) refl) (omega arith) (omega (arith, q.counted))
            (sound N s ns left d).shallow (part_of d Δ i (f Δ i))
            (subst (λ l. Part N s ns Δ' (beyond l π (λ p. at)) left mid y next) (ap length (sym e))
            (part_of d' Δ' j (g Δ' j)))
        | p-none ↦ λ Γ e. (no_part, refl)
        | p-more (d → f) (ds → fs) ↦ λ Γ e.
            (a-part (part_of d Γ e (f Γ e)) (fs Γ e).0, ap suc (fs Γ e).1)
      ]

-- THEOREM: reading a whole term into a blank table leaves the term's form as the first one, and its marks
pub weights-whole : {ed : Edition} (N : Numbers) (s : List ℕ) (ns : List Name)
    {root ty next : ℕ} {π : ℕ → ℕ} {x : Tree} → length s ≤ 4096 → Parsed ed N s ns 32 [] π root x ty next →
    (t : List ℕ) → Blank t →
    (form_word (fill N x t) 0 1 ≡ held (form_of N ns [] no_forms (written s x)).constant)
    × Marked N ns (fill N x t) (marks_in (fill N x t)) whole root (written s x)
unfolding binders forms height_of
weights-whole N s ns {root = root} {π = π} {x = x} short d t B =
    let D = weighs N s ns short d whole refl t 0 (record {
      long = B.long;
      height = B.clear height-at;
      room = omega arith;
      few = omega arith;
      behind = behind-whole π root;
      ready = ready-whole N ns t π root 0;
    }) in
    (D.shows.constant, D.marked)
