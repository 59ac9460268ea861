-- The notes that reading leaves: a name is noted exactly if some use in the term means it.
use Prim.Native.Nat.{ℕ, zero, suc, ◌+◌, ◌*◌, ◌≤◌, ◌<◌}
use native.Mathlib.Omega.{arith}
use mathlib.Core.Path.{◌≡◌, refl, sym, ap, ◌∙◌}
use mathlib.Core.Bool.{Bool, true, false, ◌||◌, ◌&&◌}
use mathlib.Core.List.{List, [], ◌∷◌}
use lib.ListN.{length, get_or, set, replicate, length-replicate}
use lib.Seq.{get_or-set_same, get_or-set_other}
use lib.Dec.{eqb}
use borrow.Author.Tests.{eqb-true, eqb-false}
use Rattle.language.specs.Term.{onces}
use Rattle.language.proofs.AskOnceLaws.{onces-below}
use Rattle.language.specs.declared.Numbers.{Numbers}
use Rattle.sheet_records.specs.Standing.{standing_of}
use Rattle.sheet_rows.specs.Row.{cell, row_kind, class_of, detail, row_written, linked}
use Rattle.sheet_parts.specs.Rule.{values}
use Rattle.sheet_records.specs.declared.edition.Edition.{Edition}
use Rattle.sheet_heads.specs.declared.head.Record.{Record}
use Rattle.sheet_records.proofs.StandingLaws.{declared-again, variable-again, parameter-again, procedure-again}
use Rattle.sheet_records.specs.declared.standing.Standing.{Standing}
use Rattle.sheet_written.specs.Written as w
use Rattle.sheet_written.specs.Written.{Written, Name}
use Rattle.sheet_written.specs.Meaning.{Binder, a_block, inside, after}
use Rattle.sheet_written.specs.Uses.{is_name, uses, some_uses}
use Rattle.sheet_written.proofs.Tests.{by-test}
use Rattle.sheet_reader.specs.Reader.{Tree, node, Trees, leaf, branch, written, writtens, build, first, rest}
use Rattle.weight_theory.specs.Step.{weighed}
use Rattle.sheet_reader.specs.table.Fill.{fill, fills}
use Rattle.sheet_reader.specs.table.Notes.{Blank, is_name_standing, uses_name, noted, is_noted}
use Rattle.sheet_reader.specs.table.Number.{used_number}
use Rattle.sheet_reader.proofs.Parsed.{Stands, Parsed, p-skip, p-diverge, p-truth, p-number, p-private, p-parameter}
use Rattle.sheet_reader.proofs.Parsed.{p-use, p-name, p-fetch, p-operate, p-assign, p-sequence, p-if, p-while, p-new}
use Rattle.sheet_reader.proofs.Parsed.{p-procedure, p-none, p-more}
use Rattle.sheet_table.proofs.Rows.{length-written, length-linked, weighed-notes}
use Rattle.sheet_table.proofs.Spans.{length-fill, length-fills}

-- a table of zeros is blank
zero-there : (n i : ℕ) → ◌≡◌ {A = ℕ} (get_or (replicate n 0) i 0) 0
zero-there zero i = refl
zero-there (suc n) zero = refl
zero-there (suc n) (suc i) = zero-there n i

pub blank-made : (n : ℕ) → n ≡ 58313 → Blank (replicate n 0)
blank-made n e = record { long = length-replicate n 0 ∙ e; clear = zero-there n }

-- rows and the places of parts change no note
row_kept : (N : Numbers) (r : Record) (ty number end : ℕ) (t : List ℕ) (k : ℕ) → r.place < 4096 →
    is_noted (row_written N r ty number end t) k ≡ is_noted t k
unfolding row_written is_noted cell
row_kept N r ty number end t k h =
    ap (λ x. eqb x 1)
    (over (set (set (set (set t (9 * r.place + 0) x₀) (9 * r.place + 1) end) (9 * r.place + 2) x₂)
    (9 * r.place + 3) x₃) 4 x₄ (omega arith)
    ∙ (over (set (set (set t (9 * r.place + 0) x₀) (9 * r.place + 1) end) (9 * r.place + 2) x₂) 3 x₃ (omega arith)
    ∙ (over (set (set t (9 * r.place + 0) x₀) (9 * r.place + 1) end) 2 x₂ (omega arith)
    ∙ (over (set t (9 * r.place + 0) x₀) 1 end (omega arith)
    ∙ over t 0 x₀ (omega arith)))))
  where
    x₀ : ℕ
    x₀ = row_kind r.rule r

    x₂ : ℕ
    x₂ = class_of ty

    x₃ : ℕ
    x₃ = values N ty

    x₄ : ℕ
    x₄ = detail r.rule N r number

    over : (u : List ℕ) (i v : ℕ) → i < 9 → get_or (set u (9 * r.place + i) v) (36864 + k) 0 ≡ get_or u (36864 + k) 0
    over u i v g = get_or-set_other u (9 * r.place + i) (36864 + k) v 0 (λ e. omega arith)

link-kept : (p j part : ℕ) (t : List ℕ) (k : ℕ) → p < 4096 → j < 4 → is_noted (linked p j part t) k ≡ is_noted t k
unfolding linked is_noted cell
link-kept p j part t k h g =
    ap (λ x. eqb x 1) (get_or-set_other t (9 * p + (5 + j)) (36864 + k) part 0 (λ e. omega arith))

-- a record that uses no name makes no note, one that does makes that of its id
no_note : (r : Record) (t : List ℕ) (k : ℕ) → uses_name r ≡ false → is_noted (noted r t) k ≡ is_noted t k
unfolding noted
no_note r t k e = rw e refl

one-note : (r : Record) (t : List ℕ) (k : ℕ) → uses_name r ≡ true → 36864 + r.a < length t →
    is_noted (noted r t) k ≡ (eqb r.a k || is_noted t k)
unfolding noted is_noted
one-note r t k e h = rw e (by-test (eqb r.a k)
    (λ f. rw (f, ← eqb-true r.a k f, get_or-set_same t (36864 + r.a) 1 0 h) refl)
    (λ f. rw (
      f,
      get_or-set_other t (36864 + r.a) (36864 + k) 1 0
          (λ g. eqb-false r.a k f (omega arith)),
    ) refl))

-- of a record of another kind
unused-kind : (r : Record) {kind : ℕ} → r.kind ≡ kind → eqb kind 20 ≡ false → uses_name r ≡ false
unfolding uses_name
unused-kind r e f = rw (e, f) refl

-- of a use, by what the standing says
other : (r : Record) {c : Standing} {b : Bool} → r.kind ≡ 20 → standing_of r.b ≡ c → is_name_standing c ≡ b →
    uses_name r ≡ b
unfolding uses_name
other r e f g = rw (e, f) g

-- two parts and three, in the order in which they are read
or-two : (a b c : Bool) → (b || (a || c)) ≡ ((a || b) || c)
or-two true true c = refl
or-two true false c = refl
or-two false true c = refl
or-two false false c = refl

or-three : (a b c d : Bool) → (c || (b || (a || d))) ≡ ((a || (b || c)) || d)
or-three true true true d = refl
or-three true true false d = refl
or-three true false true d = refl
or-three true false false d = refl
or-three false true true d = refl
or-three false true false d = refl
or-three false false true d = refl
or-three false false false d = refl

or-call : (a b c : Bool) → (a || (b || c)) ≡ (((a && true) || b) || c)
or-call true b c = refl
or-call false b c = refl

or-other : (a b c : Bool) → (b || c) ≡ (((a && false) || b) || c)
or-other true b c = refl
or-other false b c = refl

module _ (N : Numbers) (s : List ℕ) (ns : List Name) (short : length s ≤ 4096) (k : ℕ) (byte : k < 256) where
  -- what a part of a record leaves, whose place is put into the row at p
  abbrev Notes : List Binder → Tree → Type 0
  Notes bs x = (t : List ℕ) → length t ≡ 58313 → is_noted (fill N x t) k ≡ (uses ns k bs (written s x) || is_noted t k)

  part-notes : (bs : List Binder) (x : Tree) → Notes bs x → (p j at : ℕ) (t : List ℕ) → p < 4096 → j < 4 →
      length t ≡ 58313 → is_noted (fill N x (linked p j at t)) k ≡ (uses ns k bs (written s x) || is_noted t k)
  part-notes bs x f p j at t h g l =
      f (linked p j at t) (length-linked p j at t ∙ l)
      ∙ ap (λ b. uses ns k bs (written s x) || b) (link-kept p j at t k h g)

  part-long : (x : Tree) (p j at : ℕ) (t : List ℕ) → length t ≡ 58313 → length (fill N x (linked p j at t)) ≡ 58313
  part-long x p j at t l = length-fill N x (linked p j at t) ∙ (length-linked p j at t ∙ l)

  -- a record that uses no name, closed
  closed_none : (r : Record) (ty number end : ℕ) (u : List ℕ) → r.place < 4096 → uses_name r ≡ false →
      is_noted (weighed (used_number r) r.place (noted r (row_written N r ty number end u))) k ≡ is_noted u k
  closed_none r ty number end u h e =
      weighed-notes (used_number r) r.place (noted r (row_written N r ty number end u)) k byte
      ∙ (no_note r (row_written N r ty number end u) k e ∙ row_kept N r ty number end u k h)

  closed-name : (r : Record) (ty number end : ℕ) (u : List ℕ) → r.place < 4096 → uses_name r ≡ true → r.a < 255 →
      length u ≡ 58313 →
      is_noted (weighed (used_number r) r.place (noted r (row_written N r ty number end u))) k
      ≡ (eqb r.a k || is_noted u k)
  closed-name r ty number end u h e g l =
      let long : length (row_written N r ty number end u) ≡ 58313 = length-written N r ty number end u ∙ l in
      weighed-notes (used_number r) r.place (noted r (row_written N r ty number end u)) k byte
      ∙ (one-note r (row_written N r ty number end u) k e (omega (arith, long))
      ∙ ap (λ b. eqb r.a k || b) (row_kept N r ty number end u k h))

  two-notes : (bs cs : List Binder) (x y : Tree) → Notes bs x → Notes cs y → (p a b : ℕ) (t : List ℕ) → p < 4096 →
      length t ≡ 58313 →
      is_noted (fill N y (linked p 1 b (fill N x (linked p 0 a t)))) k
      ≡ ((uses ns k bs (written s x) || uses ns k cs (written s y)) || is_noted t k)
  two-notes bs cs x y f g p a b t h l =
      let u : List ℕ = fill N x (linked p 0 a t) in
      part-notes cs y g p 1 b u h (omega arith) (part-long x p 0 a t l)
      ∙ (ap (λ c. uses ns k cs (written s y) || c) (part-notes bs x f p 0 a t h (omega arith) l)
      ∙ or-two (uses ns k bs (written s x)) (uses ns k cs (written s y)) (is_noted t k))

  three-notes : (bs : List Binder) (x y z : Tree) → Notes bs x → Notes bs y → Notes bs z → (p a b c : ℕ) (t : List ℕ) →
      p < 4096 → length t ≡ 58313 →
      is_noted (fill N z (linked p 2 c (fill N y (linked p 1 b (fill N x (linked p 0 a t)))))) k
      ≡ ((uses ns k bs (written s x) || (uses ns k bs (written s y) || uses ns k bs (written s z))) || is_noted t k)
  three-notes bs x y z f g i p a b c t h l =
      let u : List ℕ = fill N x (linked p 0 a t) in
      let m : length u ≡ 58313 = part-long x p 0 a t l in
      let v : List ℕ = fill N y (linked p 1 b u) in
      part-notes bs z i p 2 c v h (omega arith) (part-long y p 1 b u m)
      ∙ (ap (λ e. uses ns k bs (written s z) || e)
      (part-notes bs y g p 1 b u h (omega arith) m
      ∙ ap (λ e. uses ns k bs (written s y) || e) (part-notes bs x f p 0 a t h (omega arith) l))
      ∙ or-three (uses ns k bs (written s x)) (uses ns k bs (written s y)) (uses ns k bs (written s z)) (is_noted t k))

  -- the notes of a record that uses no name are those of its parts; of one that does, that of its name too
  record-notes : (bs : List Binder) (r : Record) (ty number end : ℕ) (ts : Trees) (W : Written) (t : List ℕ) →
      r.place < 4096 → build r.rule s r (writtens s ts) ≡ W → uses_name r ≡ false →
      is_noted (fills N ts r.place 0 t) k ≡ (uses ns k bs W || is_noted t k) →
      is_noted (fill N (node r ty number end ts) t) k ≡ (uses ns k bs (written s (node r ty number end ts)) || is_noted t k)
  unfolding fill written
  record-notes bs r ty number end ts W t h e f g =
      closed_none r ty number end (fills N ts r.place 0 t) h f
      ∙ (g ∙ ap (λ w. uses ns k bs w || is_noted t k) (sym e))

  name-notes : (bs : List Binder) (r : Record) (ty number end : ℕ) (ts : Trees) (W : Written) (t : List ℕ) →
      r.place < 4096 → build r.rule s r (writtens s ts) ≡ W → uses_name r ≡ true → r.a < 255 → length t ≡ 58313 →
      (eqb r.a k || is_noted (fills N ts r.place 0 t) k) ≡ (uses ns k bs W || is_noted t k) →
      is_noted (fill N (node r ty number end ts) t) k ≡ (uses ns k bs (written s (node r ty number end ts)) || is_noted t k)
  unfolding fill written
  name-notes bs r ty number end ts W t h e f a l g =
      closed-name r ty number end (fills N ts r.place 0 t) h f a (length-fills N ts r.place 0 t ∙ l)
      ∙ (g ∙ ap (λ w. uses ns k bs w || is_noted t k) (sym e))

  -- where a record stands
  low : {r : Record} {at kind body : ℕ} {rule : _} → Stands s r at kind body rule → r.place < 4096
  low st = omega (arith, st.place, st.byte.0)

  notes-part : {ed : Edition} {left at ty next : ℕ} {bs : List Binder} {π : ℕ → ℕ} {x : Tree} →
      Parsed ed N s ns left bs π at x ty next → Notes bs x
  unfolding fills written writtens build first rest uses some_uses is_name uses_name is_name_standing
  notes-part d =
      elim d as (λ left bs π at x ty next d. Notes bs x)
      (λ left bs π at ts tys next ds. (p j : ℕ) (t : List ℕ) → p < 4096 → j + length tys ≤ 4 → length t ≡ 58313 →
      is_noted (fills N ts p j t) k ≡ (some_uses ns k bs (writtens s ts) || is_noted t k)) [
        | p-skip {bs = bs} {r = r} st ↦ λ t l.
            record-notes bs r _ _ _ leaf w.skip t (low st) (rw st.ruled refl) (unused-kind r st.kinded refl) refl
        | p-diverge {bs = bs} {r = r} st b h ↦ λ t l.
            record-notes bs r _ _ _ leaf (w.diverge r.a) t (low st) (rw st.ruled refl)
            (unused-kind r st.kinded refl) refl
        | p-truth {bs = bs} {r = r} st b h ↦ λ t l.
            record-notes bs r _ _ _ leaf (w.truth r.a) t (low st) (rw st.ruled refl)
            (unused-kind r st.kinded refl) refl
        | p-number {bs = bs} {r = r} st b h g ↦ λ t l.
            record-notes bs r _ _ _ leaf (w.number r.a) t (low st) (rw st.ruled refl)
            (unused-kind r st.kinded refl) refl
        | p-private {k = n} {h = h} {bs = bs} {r = r} st b g m pos few small c ↦ λ t l.
            let q = ap standing_of c ∙ variable-again n h (omega arith) (omega arith) in
            record-notes bs r _ _ _ leaf (w.call r.a w.none) t (low st) (rw st.ruled refl) (other r st.kinded q refl)
            (rw m (or-other (eqb r.a k) false (is_noted t k)))
        | p-parameter {k = n} {ty = ty} {bs = bs} {r = r} st b g m few small c ↦ λ t l.
            let q = ap standing_of c ∙ parameter-again n ty (omega arith) (omega arith) in
            record-notes bs r _ _ _ leaf (w.call r.a w.none) t (low st) (rw st.ruled refl) (other r st.kinded q refl)
            (rw m (or-other (eqb r.a k) false (is_noted t k)))
        | p-use {k = n} {bs = bs} {π = π} {r = r} {ts = ts} st b g m u e few small o c (ds → xs) ↦ λ t l.
            let q = ap standing_of c ∙ procedure-again n (π n) (omega arith) in
            record-notes bs r _ _ _ ts (w.call r.a (writtens s ts)) t (low st) (rw st.ruled refl)
            (other r st.kinded q refl)
            (xs r.place 0 t (low st) (omega arith) l
            ∙ rw m (or-other (eqb r.a k) (some_uses ns k bs (writtens s ts)) (is_noted t k)))
        | p-name {place = p} {often = often} {bs = bs} {r = r} {ts = ts} st b g m u e few small c (ds → xs) ↦ λ t l.
            let q = ap standing_of c ∙ declared-again p (onces often) (omega arith) (onces-below often) in
            name-notes bs r _ _ _ ts (w.call r.a (writtens s ts)) t (low st) (rw st.ruled refl)
            (other r st.kinded q refl) g l
            (ap (λ z. eqb r.a k || z) (xs r.place 0 t (low st) (omega arith) l)
            ∙ rw m (or-call (eqb r.a k) (some_uses ns k bs (writtens s ts)) (is_noted t k)))
        | p-fetch {at = at} {bs = bs} {r = r} {t = x} st (d → f) h ↦ λ t l.
            record-notes bs r _ _ _ (branch (at + 1) x leaf) (w.fetch (written s x)) t (low st) (rw st.ruled refl)
            (unused-kind r st.kinded refl)
            (part-notes bs x f r.place 0 (at + 1) t (low st) (omega arith) l)
        | p-operate {at = at} {mid = mid} {bs = bs} {r = r} {t = x} {u = y} st b h (d → f) (d' → g) ↦ λ t l.
            record-notes bs r _ _ _ (branch (at + 2) x (branch mid y leaf)) (w.operate r.a (written s x) (written s y)) t
            (low st) (rw st.ruled refl) (unused-kind r st.kinded refl)
            (two-notes bs bs x y f g r.place (at + 2) mid t (low st) l)
        | p-assign {at = at} {mid = mid} {bs = bs} {r = r} {t = x} {u = y} st (d → f) h (d' → g) ↦ λ t l.
            record-notes bs r _ _ _ (branch (at + 1) x (branch mid y leaf)) (w.assign (written s x) (written s y)) t (low st)
            (rw st.ruled refl) (unused-kind r st.kinded refl)
            (two-notes bs bs x y f g r.place (at + 1) mid t (low st) l)
        | p-sequence {at = at} {mid = mid} {bs = bs} {r = r} {t = x} {u = y} st (d → f) (d' → g) ↦ λ t l.
            record-notes bs r _ _ _ (branch (at + 1) x (branch mid y leaf)) (w.sequence (written s x) (written s y)) t (low st)
            (rw st.ruled refl) (unused-kind r st.kinded refl)
            (two-notes bs bs x y f g r.place (at + 1) mid t (low st) l)
        | p-if {at = at} {one = i} {two = j} {bs = bs} {r = r} {b = x} {t = y} {u = z} st (d → f) (d' → g) (d'' → h) ↦ λ t l.
            record-notes bs r _ _ _ (branch (at + 1) x (branch i y (branch j z leaf)))
            (w.choose (written s x) (written s y) (written s z)) t (low st) (rw st.ruled refl)
            (unused-kind r st.kinded refl)
            (three-notes bs x y z f g h r.place (at + 1) i j t (low st) l)
        | p-while {at = at} {mid = mid} {bs = bs} {r = r} {t = x} {u = y} st (d → f) (d' → g) ↦ λ t l.
            record-notes bs r _ _ _ (branch (at + 1) x (branch mid y leaf)) (w.while (written s x) (written s y)) t (low st)
            (rw st.ruled refl) (unused-kind r st.kinded refl)
            (two-notes bs bs x y f g r.place (at + 1) mid t (low st) l)
        | p-new {at = at} {bs = bs} {r = r} {t = x} st b h m v c e g (d → f) ↦ λ t l.
            record-notes bs r _ _ _ (branch (at + 3) x leaf) (w.new r.a r.b (written s x)) t (low st)
            (rw st.ruled refl) (unused-kind r st.kinded refl)
            (part-notes (a_block r.a r.b ∷ bs) x f r.place 0 (at + 3) t (low st) (omega arith) l)
        | p-procedure {at = at} {ty = ty} {mid = mid} {ps = ps} {bs = bs} {r = r} {t = x} {u = y}
            st b h m v c e n o q z (d → f) (d' → g) ↦ λ t l.
            record-notes bs r _ _ _ (branch (at + 12) x (branch mid y leaf))
            (w.procedure r.a ty ps (written s x) (written s y)) t (low st)
            (rw (st.ruled, st.place, c.1, q.are) refl) (unused-kind r st.kinded refl)
            (two-notes (inside ps bs) (after r.a ty ps bs) x y f g r.place (at + 12) mid t (low st) l)
        | p-none ↦ λ p j t h g l. refl
        | p-more {at = at} {bs = bs} {t = x} {ts = ts} (d → f) (ds → fs) ↦ λ p j t h g l.
            let u : List ℕ = fill N x (linked p j at t) in
            fs p (j + 1) u h (omega arith) (part-long x p j at t l)
            ∙ (ap (λ c. some_uses ns k bs (writtens s ts) || c) (part-notes bs x f p j at t h (omega arith) l)
            ∙ or-two (uses ns k bs (written s x)) (some_uses ns k bs (writtens s ts)) (is_noted t k))
      ]

  -- THEOREM: in a table that was blank exactly the names that some use means are noted
  pub notes-whole : {ed : Edition} {left root ty next : ℕ} {π : ℕ → ℕ} {x : Tree} →
      Parsed ed N s ns left [] π root x ty next → (t : List ℕ) → Blank t →
      is_noted (fill N x t) k ≡ uses ns k [] (written s x)
  unfolding is_noted
  notes-whole {x = x} d t B =
      notes-part d t B.long
      ∙ (ap (λ v. uses ns k [] (written s x) || eqb v 1) (B.clear (36864 + k))
      ∙ or-false (uses ns k [] (written s x)))
    where
      or-false : (a : Bool) → (a || false) ≡ a
      or-false true = refl
      or-false false = refl
