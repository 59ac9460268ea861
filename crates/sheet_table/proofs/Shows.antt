-- The table that a reader leaves shows the term that was read (sheet_written/specs/Table).
use Prim.Native.Nat.{ℕ, suc, ◌+◌, ◌*◌, ◌%◌, ◌≤◌, ◌<◌}
use native.Mathlib.Omega.{arith}
use mathlib.Core.Path.{◌≡◌, refl, sym, ap, ◌∙◌, subst}
use mathlib.Core.List.{List, [], ◌∷◌}
use lib.ListN.{length}
use Rattle.language.specs.Term.{onces}
use Rattle.language.proofs.AskOnceLaws.{onces-below}
use Rattle.language.specs.declared.Numbers.{Numbers}
use Rattle.sheet_records.specs.Standing.{standing_of}
use Rattle.sheet_rows.specs.Row.{row_kind, use_kind, detail, class_of}
use Rattle.sheet_rows.specs.Row as row
use Rattle.sheet_parts.specs.Rule.{values}
use Rattle.sheet_records.specs.declared.kind.Rule.{Rule}
use Rattle.sheet_heads.specs.declared.head.Record.{Record}
use Rattle.sheet_records.proofs.StandingLaws.{declared-again, variable-again, parameter-again, procedure-again}
use Rattle.sheet_written.specs.Environment.{beyond}
use Rattle.sheet_written.specs.Written as w
use Rattle.sheet_written.specs.Written.{Written, Name}
use Rattle.sheet_written.specs.Meaning.{Binder, a_block, meaning, typed, use_type, inside, after}
use Rattle.sheet_written.specs.Context.{Context, whole, in_block, in_procedure, in_scope, binders}
use Rattle.sheet_rows.specs.Row.{word}
use Rattle.sheet_written.specs.Table.{use_detail, name_detail, PartRow, Shown, shown_skip, shown_diverge, shown_truth}
use Rattle.sheet_written.specs.Table.{shown_number, shown_private, shown_parameter, shown_use, shown_name, shown_fetch}
use Rattle.sheet_written.specs.Table.{shown_operate, shown_assign, shown_sequence, shown_choose, shown_while, shown_new}
use Rattle.sheet_written.specs.Table.{shown_procedure, ShownArgs, shown_none, shown_more}
use Rattle.sheet_reader.specs.Reader.{Tree, written, writtens, build, first, rest}
use Rattle.sheet_reader.specs.table.Fill.{fill}
use Rattle.sheet_records.specs.declared.edition.Edition.{Edition}
use Rattle.sheet_reader.proofs.Parsed.{Stands, Parsed, p-skip, p-diverge, p-truth, p-number, p-private, p-parameter}
use Rattle.sheet_reader.proofs.Parsed.{p-use, p-name, p-fetch, p-operate, p-assign, p-sequence, p-if, p-while, p-new}
use Rattle.sheet_reader.proofs.Parsed.{p-procedure, p-none, p-more}
use Rattle.sheet_table.proofs.Rows.{Holds}
use Rattle.sheet_table.proofs.Spans.{forward, placed}
use Rattle.sheet_table.proofs.Stored.{Stored, StoredParts, stores, own, parts, place, head, tail}

-- the type of what was read
module _ (N : Numbers) (s : List ℕ) (ns : List Name) where
  pub types : {ed : Edition} {left at ty next : ℕ} {bs : List Binder} {π : ℕ → ℕ} {t : Tree} →
      Parsed ed N s ns left bs π at t ty next → typed ns bs (written s t) ≡ ty
  unfolding written writtens build first rest typed use_type
  types d =
      elim d as (λ left bs π at t ty next d. typed ns bs (written s t) ≡ ty)
      (λ left bs π at ts tys next ds. Unit) [
        | p-skip st ↦ rw st.ruled refl
        | p-diverge st b h ↦ rw st.ruled refl
        | p-truth st b h ↦ rw st.ruled refl
        | p-number st b h g ↦ rw st.ruled refl
        | p-private st b h m l g k c ↦ rw (st.ruled, m) refl
        | p-parameter st b h m l g c ↦ rw (st.ruled, m) refl
        | p-use st b h m l e g k o c (ds → xs) ↦ rw (st.ruled, m) refl
        | p-name st b h m l e g k c (ds → xs) ↦ rw (st.ruled, m) refl
        | p-fetch st (d → x) h ↦ rw (st.ruled, x) refl
        | p-operate st b h (d → x) (f → y) ↦ rw st.ruled refl
        | p-assign st (d → x) h (f → y) ↦ rw st.ruled refl
        | p-sequence st (d → x) (f → y) ↦ rw st.ruled y
        | p-if st (d → x) (f → y) (g → z) ↦ rw st.ruled y
        | p-while st (d → x) (f → y) ↦ rw st.ruled refl
        | p-new st b h m v c l g (d → x) ↦ rw st.ruled refl
        | p-procedure st b h m v c l n k q w (d → x) (f → y) ↦ rw (st.ruled, st.place, c.1, q.are) y
        | p-none ↦ tt
        | p-more (d → x) (ds → xs) ↦ tt
      ]

-- a part that was read: its type, and that it stands within the sheet
pub record Told (s : List ℕ) (ns : List Name) (bs : List Binder) (at : ℕ) (t : Tree) (ty next : ℕ) : Type 0 where
  pub types : typed ns bs (written s t) ≡ ty
  pub before : at < next
  pub within : next ≤ length s

pub told :
    {ed : Edition} (N : Numbers) (s : List ℕ) (ns : List Name) {left at ty next : ℕ} {bs : List Binder} {π : ℕ → ℕ}
    {t : Tree} → Parsed ed N s ns left bs π at t ty next → Told s ns bs at t ty next
told N s ns d =
    let p = placed N s ns d in
    record { types = types N s ns d; before = forward p.span; within = p.within }

-- the row of a record is the row of its term
row_of :
    {N : Numbers} {ns : List Name} {U s : List ℕ} {bs : List Binder} {r : Record} {at kinded body ty number end : ℕ}
    {rule : Rule} → (Γ : Context) (kind : ℕ) (W : Written) → length s ≤ 4096 → binders Γ ≡ bs →
    Stands s r at kinded body rule → Holds N r ty number end U at → row_kind rule r ≡ kind → at < end →
    end ≤ length s → typed ns bs W ≡ ty → PartRow N ns U Γ kind W at end
row_of {N} {ns} {r = r} Γ kind W short e st h k before within y = record {
  before = before;
  within = omega arith;
  kinded = h.kind ∙ (ap (λ u. row_kind u r) st.ruled ∙ k);
  ended = h.ended;
  classed = h.class ∙ sym (ap (λ u. class_of (typed ns u W)) e ∙ ap class_of y);
  valued = h.values ∙ sym (ap (λ u. values N (typed ns u W)) e ∙ ap (values N) y);
}

-- the detail of a record by its rule
detail-of :
    {N : Numbers} {U s : List ℕ} {r : Record} {at kinded body ty number end : ℕ} {rule : Rule} →
    Stands s r at kinded body rule → Holds N r ty number end U at → word U at 4 ≡ detail rule N r number
detail-of {N} {r = r} {number = number} st h = h.detail ∙ ap (λ u. detail u N r number) st.ruled

module _ (N : Numbers) (s : List ℕ) (ns : List Name) (U : List ℕ) (short : length s ≤ 4096) where
  -- a table that holds the rows of a reading shows its term
  pub shows : {ed : Edition} {left at ty next : ℕ} {bs : List Binder} {π : ℕ → ℕ} {t : Tree} →
      Parsed ed N s ns left bs π at t ty next → (Γ : Context) → binders Γ ≡ bs → Told s ns bs at t ty next → Stored N U at t →
      Shown N ns U Γ π at next (written s t)
  unfolding written writtens build first rest typed row_kind detail use_kind row.use_detail row.declared_detail use_detail
      name_detail binders
  shows d =
      elim d as
      (λ left bs π at t ty next d. (Γ : Context) → binders Γ ≡ bs → Told s ns bs at t ty next → Stored N U at t →
      Shown N ns U Γ π at next (written s t))
      (λ left bs π at ts tys next ds. (Γ : Context) → binders Γ ≡ bs → (p j : ℕ) → StoredParts N U p j ts →
      ShownArgs N ns U Γ π p j at next (writtens s ts) tys) [
        | p-skip st ↦ λ Γ e T S.
            rw st.ruled (shown_skip
            (row_of Γ 16 w.skip short e st (own S) st.kinded T.before T.within refl))
        | p-diverge {r = r} st b h ↦ λ Γ e T S.
            rw st.ruled (shown_diverge
            (row_of Γ 17 (w.diverge r.a) short e st (own S) st.kinded T.before T.within refl))
        | p-truth {r = r} st b h ↦ λ Γ e T S.
            rw st.ruled (shown_truth
            (row_of Γ 18 (w.truth r.a) short e st (own S) st.kinded T.before T.within refl)
            (detail-of st (own S)))
        | p-number {r = r} st b h g ↦ λ Γ e T S.
            rw st.ruled (shown_number
            (row_of Γ 18 (w.number r.a) short e st (own S) refl T.before T.within refl)
            (detail-of st (own S)))
        | p-private {k = k} {h = h} {r = r} st b g m pos few low c ↦ λ Γ e T S.
            let q = ap standing_of c ∙ variable-again k h (omega arith) (omega arith) in
            rw st.ruled (shown_private (ap (λ u. meaning ns u r.a) e ∙ m)
            (row_of Γ 128 (w.call r.a w.none) short e st (own S) (rw q refl) T.before T.within
            (rw st.ruled at T.types))
            (detail-of st (own S) ∙ rw q refl))
        | p-parameter {k = k} {ty = ty} {r = r} st b g m few low c ↦ λ Γ e T S.
            let q = ap standing_of c ∙ parameter-again k ty (omega arith) (omega arith) in
            rw st.ruled (shown_parameter (ap (λ u. meaning ns u r.a) e ∙ m)
            (row_of Γ 129 (w.call r.a w.none) short e st (own S) (rw q refl) T.before T.within
            (rw st.ruled at T.types))
            (detail-of st (own S) ∙ rw q refl))
        | p-use {at = at} {k = k} {tys = tys} {π = π} {r = r} {ts = ts} st b g m l n few low o c (ds → xs) ↦ λ Γ e T S.
            let q = ap standing_of c ∙ procedure-again k (π k) (omega arith) in
            let h : π k % 4096 + 4096 * (r.parts % 8) ≡ π k + 4096 * length tys = omega arith in
            rw st.ruled (shown_use {from = at + 2} (ap (λ u. meaning ns u r.a) e ∙ m)
            (row_of Γ 130 (w.call r.a (writtens s ts)) short e st (own S) (rw q refl) T.before T.within
            (rw st.ruled at T.types))
            (detail-of st (own S) ∙ (rw q refl ∙ h)) (omega arith) (omega arith) (xs Γ e at 0 (parts S)))
        | p-name {at = at} {place = p} {often = often} {tys = tys} {r = r} {ts = ts} st b g m l n few low c (ds → xs) ↦
            λ Γ e T S.
            let q = ap standing_of c ∙ declared-again p (onces often) (omega arith) (onces-below often) in
            let h : r.a + 256 * (r.parts % 8 + 8 * (onces often % 2)) ≡ r.a + 256 * (length tys + 8 * onces often) =
            omega (arith, onces-below often) in
            rw st.ruled (shown_name {from = at + 2} (ap (λ u. meaning ns u r.a) e ∙ m)
            (row_of Γ 20 (w.call r.a (writtens s ts)) short e st (own S) (rw q st.kinded) T.before T.within
            (rw st.ruled at T.types))
            (detail-of st (own S) ∙ (rw q refl ∙ h)) (omega arith) (omega arith)
            (xs Γ e at 0 (parts S)))
        | p-fetch {t = t} st (d → x) h ↦ λ Γ e T S.
            let ps = parts S in
            rw st.ruled (shown_fetch
            (row_of Γ 21 (w.fetch (written s t)) short e st (own S) st.kinded T.before T.within
            (rw st.ruled at T.types))
            (place ps) (omega arith) (x Γ e (told N s ns d) (head ps)))
        | p-operate {r = r} {t = t} {u = u} st b h (d → x) (f → y) ↦ λ Γ e T S.
            let ps = parts S in
            rw st.ruled (shown_operate
            (row_of Γ 22 (w.operate r.a (written s t) (written s u)) short e st (own S) st.kinded T.before
            T.within refl)
            (detail-of st (own S)) (place ps) (place (tail ps)) (omega arith)
            (x Γ e (told N s ns d) (head ps)) (y Γ e (told N s ns f) (head (tail ps))))
        | p-assign {t = t} {u = u} st (d → x) h (f → y) ↦ λ Γ e T S.
            let ps = parts S in
            rw st.ruled (shown_assign
            (row_of Γ 23 (w.assign (written s t) (written s u)) short e st (own S) st.kinded T.before T.within
            refl)
            (place ps) (place (tail ps)) (omega arith)
            (x Γ e (told N s ns d) (head ps)) (y Γ e (told N s ns f) (head (tail ps))))
        | p-sequence {t = t} {u = u} st (d → x) (f → y) ↦ λ Γ e T S.
            let ps = parts S in
            rw st.ruled (shown_sequence
            (row_of Γ 24 (w.sequence (written s t) (written s u)) short e st (own S) st.kinded T.before
            T.within (rw st.ruled at T.types))
            (place ps) (place (tail ps)) (omega arith)
            (x Γ e (told N s ns d) (head ps)) (y Γ e (told N s ns f) (head (tail ps))))
        | p-if {b = b} {t = t} {u = u} st (d → x) (f → y) (g → z) ↦ λ Γ e T S.
            let ps = parts S in
            rw st.ruled (shown_choose
            (row_of Γ 25 (w.choose (written s b) (written s t) (written s u)) short e st (own S) st.kinded
            T.before T.within (rw st.ruled at T.types))
            (place ps) (place (tail ps)) (place (tail (tail ps))) (omega arith)
            (x Γ e (told N s ns d) (head ps)) (y Γ e (told N s ns f) (head (tail ps)))
            (z Γ e (told N s ns g) (head (tail (tail ps)))))
        | p-while {t = t} {u = u} st (d → x) (f → y) ↦ λ Γ e T S.
            let ps = parts S in
            rw st.ruled (shown_while
            (row_of Γ 26 (w.while (written s t) (written s u)) short e st (own S) st.kinded T.before T.within
            refl)
            (place ps) (place (tail ps)) (omega arith)
            (x Γ e (told N s ns d) (head ps)) (y Γ e (told N s ns f) (head (tail ps))))
        | p-new {r = r} {t = t} st b h m v c l g (d → x) ↦ λ Γ e T S.
            let ps = parts S in
            rw st.ruled (shown_new
            (row_of Γ 27 (w.new r.a r.b (written s t)) short e st (own S) st.kinded T.before T.within
            refl)
            (detail-of st (own S)) (place ps) (omega arith)
            (x (in_block r.a r.b Γ) (ap (λ u. a_block r.a r.b ∷ u) e) (told N s ns d) (head ps)))
        | p-procedure {at = at} {ty = ty} {mid = mid} {next = next} {ps = qs} {π = π} {r = r} {t = t} {u = u}
            st b h m v c l n k q v' (d → x) (f → y) ↦ λ Γ e T S.
            let ps = parts S in
            let Δ : Context = in_scope r.a ty qs (written s t) Γ in
            rw (st.ruled, st.place, c.1, q.are) (shown_procedure
            (row_of Γ 28 (w.procedure r.a ty qs (written s t) (written s u)) short e st (own S) st.kinded
            T.before T.within (rw (st.ruled, st.place, c.1, q.are) at T.types))
            (detail-of st (own S) ∙ ap length (sym e)) (place ps) (place (tail ps)) (omega arith)
            (omega (arith, q.counted))
            (x (in_procedure qs Γ) (ap (λ u. inside qs u) e) (told N s ns d) (head ps))
            (subst (λ i. Shown N ns U Δ (beyond i π (λ j. at)) mid next (written s u)) (ap length (sym e))
            (y Δ (ap (λ u. after r.a ty qs u) e) (told N s ns f) (head (tail ps)))))
        | p-none ↦ λ Γ e p j S. shown_none
        | p-more {mid = mid} {next = next} {tys = tys} {π = π} {ts = ts} (d → x) (ds → xs) ↦ λ Γ e p j S.
            let k : j + 1 ≡ suc j = omega arith in
            shown_more (place S) (x Γ e (told N s ns d) (head S))
            (subst (λ i. ShownArgs N ns U Γ π p i mid next (writtens s ts) tys) k (xs Γ e p (j + 1) (tail S)))
      ]

-- the table that `fill` leaves shows the whole term
pub shows-whole :
    {ed : Edition} (N : Numbers) (s : List ℕ) (ns : List Name) {left root ty next : ℕ} {π : ℕ → ℕ} {x : Tree} →
    length s ≤ 4096 → Parsed ed N s ns left [] π root x ty next → (t : List ℕ) → length t ≡ 58313 →
    Shown N ns (fill N x t) whole π root next (written s x)
unfolding binders
shows-whole N s ns {x = x} short d t room =
    let p = placed N s ns d in
    shows N s ns (fill N x t) short d whole refl (told N s ns d)
    (stores N (fill N x t) p.span t room (omega (arith, p.within)) (λ q i a b c. refl))
