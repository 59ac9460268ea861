-- A record is weighed: its parts are added, it is closed, and it is marked.
use Prim.Native.Nat.{ℕ, zero, suc, ◌+◌, ◌*◌, ◌-◌, ◌≤◌, ◌<◌, min}
use native.Mathlib.Omega.{arith}
use mathlib.Core.List.{List}
use mathlib.Core.Path.{◌≡◌, refl, ap, ap₂, ◌∙◌}
use lib.Dec.{eqb}
use lib.ListN.{length}
use borrow.Author.Tests.{eqb-true, eqb-false}
use Rattle.language.specs.declared.Numbers.{Numbers}
use Rattle.sheet_written.specs.Written.{Written, procedure, Parameter, Writtens, none, more, Name}
use Rattle.sheet_written.specs.Meaning.{inside, after}
use Rattle.sheet_written.specs.Fine.{depth}
use Rattle.sheet_written.specs.Form.{Form, only, plus, times, form_of}
use Rattle.sheet_written.specs.Come.{come}
use Rattle.sheet_written.specs.Held.{held}
use Rattle.sheet_written.specs.Made.{sign}
use Rattle.sheet_written.specs.Context.{Context, in_procedure, in_scope, binders, forms, downs, uses}
use Rattle.sheet_rows.specs.PartKind.{KIND, DETAIL, PARTS, PROCEDURE}
use Rattle.sheet_rows.specs.Row.{cell, word}
use Rattle.sheet_written.specs.Table.{Shown, shown_procedure}
use Rattle.sheet_written.specs.Marks.{bits, used_bits, Marked, MarkedArgs}
use Rattle.sheet_written.proofs.Tests.{by-test}
use Rattle.sheet_written.proofs.Reach.{used-own}
use Rattle.weight_theory.specs.Stack.{marks_in, height_of, coefficient_of}
use Rattle.weight_theory.specs.Shows.{Shows, OnlyForm}
use Rattle.weight_theory.specs.Plan.{factor_of, extra_of, come_at, come_of, used_of}
use Rattle.weight_theory.specs.Step.{started, part_added, parts_added, closed, weighed_plain, weighed_procedure, weighed}
use Rattle.weight_theory.specs.Weighed.{many, parts_in, OnlyAt, Formed, PartsFormed, Given, Weighed, RecordWeighed}
use Rattle.weight_theory.proofs.Spots.{only_then}
use Rattle.weight_theory.proofs.FormLaws.{added-formed, added-only, shows_same, shows_kept, only-form}
use Rattle.weight_theory.proofs.Places.{IsProcedure, it-is, is-procedure, places, marked-come}
use Rattle.weight_theory.proofs.Same.{marked-agree}
use Rattle.weight_theory.proofs.Kept.{Agrees, Shaped, only-agrees, word-agrees}
use Rattle.weight_theory.proofs.Closing.{Closes, closed-does, only-at-form, only-at-then}
use Rattle.weight_theory.proofs.Plans.{Jobs, no_more, one_more, Plan}
use Rattle.weight_theory.proofs.Planning.{plan}

-- the parts are added, one after the other
module _ (N : Numbers) (ns : List Name) (t : List ℕ) (h : ℕ) (Γ : Context) (π : ℕ → ℕ) (at kind detail k row : ℕ)
    (long : length t ≡ 58313) (early : at < 4096) (room : row < 100) where
  parts-shaped : {j from end : ℕ} {g f : Form} {ws : Writtens} →
      Jobs N ns t h Γ π at kind detail k j from end g f ws → (t' : List ℕ) (r : ℕ) → r ≡ h + j → j + many ws ≤ 4 →
      r + many ws ≡ row → Formed N ns t Γ at r j ws → Shaped t t' row g →
      Shaped t (parts_added kind detail k at h row (many ws) j t') row f
  unfolding many Formed parts_added part_added
  parts-shaped {g = g} {f = f} (no_more e) t' r i n b F S =
      record { shows = shows_same t' row g f e S.shows; only = S.only }
  parts-shaped {j} {from} {end} {g} {f} (one_more {g' = g'} {w = w} {ws = ws} c e p s x y o js) t' r i n b F S =
      let φ : Form = form_of N ns (binders Γ) (forms N ns Γ) w in
      let A : Agrees t t' h = only-agrees t t' row h (omega arith) S.only in
      let place : ℕ = word t' at (PARTS + j) in
      let q : place ≡ from = word-agrees t t' h A at (PARTS + j) early (omega arith) ∙ p in
      let u : List ℕ = part_added kind detail k at h row j t' in
      let factor : held (factor_of t' kind detail k at place j) ≡ held c =
      ap (λ z. held (factor_of t' kind detail k at z j)) q ∙ x t' A in
      let extra : held (extra_of t' kind place) ≡ held e =
      ap (λ z. held (extra_of t' kind z)) q ∙ ap held (y t' A) in
      let F₀ : Shows t (h + j) φ = rw i at F.0 in
      let F₁ : Shows t' (h + j) φ =
      shows_kept t t' (h + j) φ (λ z l. only-form t t' row (h + j) z S.only (λ v. omega arith) l) F₀ in
      let l : length t' ≡ 58313 = S.only.long ∙ long in
      let D : Shows u row g' =
      shows_same u row (plus (plus g (times c φ)) (only e)) g' o
      (added-formed t' row (h + j) (factor_of t' kind detail k at place j) (extra_of t' kind place) c e g φ l room
      (omega arith) (λ v. omega arith) S.shows F₁ factor extra) in
      let O : OnlyForm t' u row =
      added-only t' row (h + j) (factor_of t' kind detail k at place j) (extra_of t' kind place) c e g φ l room
      (omega arith) (λ v. omega arith) S.shows F₁ factor extra in
      parts-shaped js u (suc r) (omega arith) (omega arith) (omega arith) F.2
      (record { shows = D; only = only_then t t' u row S.only O })

-- the marks of parts
module _ (N : Numbers) (ns : List Name) (t : List ℕ) where
  formed-marked : (ws : Writtens) (Γ : Context) (at row j : ℕ) → Formed N ns t Γ at row j ws →
      MarkedArgs N ns t (marks_in t) Γ at j ws
  unfolding Formed MarkedArgs
  formed-marked none Γ at row j F = tt
  formed-marked (more w ws) Γ at row j F = (F.1, formed-marked ws Γ at (suc row) (suc j) F.2)

  kept_word : (t' : List ℕ) (at h p i : ℕ) → OnlyAt t t' at h → p < 4096 → i < 9 → word t' p i ≡ word t p i
  unfolding word cell
  kept_word t' at h p i O b l = O.table (9 * p + i) (omega arith)

  -- of one part, which stands after the record
  part-marked : (t' : List ℕ) (at h i a b : ℕ) (Γ : Context) (π : ℕ → ℕ) (w : Written) → OnlyAt t t' at h → at < a →
      i < 9 → word t at i ≡ a → Shown N ns t Γ π a b w → Marked N ns t (marks_in t) Γ (word t at i) w →
      Marked N ns t' (marks_in t') Γ (word t' at i) w
  part-marked t' at h i a b Γ π w O g l p s m =
      let q : (a < b) × (b ≤ 4096) = places N ns t s in
      let m' : Marked N ns t (marks_in t) Γ a w = rw p at m in
      let e : word t' at i ≡ a = kept_word t' at h at i O (omega arith) l ∙ p in
      rw e (marked-agree N ns t t' (marks_in t) (marks_in t') s
      (λ z j c d v. kept_word t' at h z j O (omega arith) v)
      (λ z c d. O.marks z (λ v. omega arith) (omega arith)) m')

  parts-marked : {h r : ℕ} {Γ : Context} {π : ℕ → ℕ} {at kind detail k j from end : ℕ} {g f : Form} {ws : Writtens} →
      Jobs N ns t h Γ π at kind detail k j from end g f ws → (t' : List ℕ) → OnlyAt t t' at r → at < from →
      j + many ws ≤ 4 → MarkedArgs N ns t (marks_in t) Γ at j ws → MarkedArgs N ns t' (marks_in t') Γ at j ws
  unfolding many MarkedArgs
  parts-marked (no_more e) t' O b n m = tt
  parts-marked {h} {r} {Γ} {π} {at} {j = j} {from = from} (one_more {b = next} {w = w} c e p s x y o js) t' O b n m =
      let q : (from < next) × (next ≤ 4096) = places N ns t s in (
        part-marked t' at r (5 + j) from next Γ π w O b (omega arith) p s m.0,
        parts-marked js t' O (omega arith) (omega arith) m.1,
      )

-- any record but a procedure
plain_done : (N : Numbers) (ns : List Name) (t : List ℕ) (Γ : Context) (π : ℕ → ℕ) (at end : ℕ) (W : Written)
    (l h k kind detail : ℕ) → Given N ns t Γ π at end W l h k → Plan N ns t h k Γ π at end W kind detail →
    Weighed N ns t (weighed_plain k at kind detail t) Γ at W h
unfolding weighed_plain
plain_done N ns t Γ π at end W l h k kind detail G P =
    let form : Form = form_of N ns (binders Γ) (forms N ns Γ) W in
    let n : ℕ = many P.parts in
    let row : ℕ = height_of t in
    let four : n ≤ 4 = P.four in
    let room : h ≤ 93 = G.room in
    let e : row ≡ h + n = G.height ∙ ap (λ i. h + i) P.parted in
    let d : row - n ≡ h = omega arith in
    let b : (at < end) × (end ≤ 4096) = places N ns t G.shown in
    let F : Formed N ns t P.inner at h 0 P.parts = P.forming G.formed in
    let M : MarkedArgs N ns t (marks_in t) P.inner at 0 P.parts =
    formed-marked N ns t P.parts P.inner at h 0 F in
    let u : List ℕ = parts_added kind detail k at h row n 0 (started kind detail k row t) in
    let mark : ℕ = come_of t (marks_in t) kind detail k at n in
    let S : Shaped t u row form =
    parts-shaped N ns t h P.inner π at kind detail k row G.long (omega arith) (omega arith) P.jobs
    (started kind detail k row t) h (omega arith) (omega arith) (omega arith) F
    (P.begun row (omega arith) (omega arith)) in
    let C : Closes u (closed at h row mark u) at h mark form =
    closed-does u at h row mark form (S.only.long ∙ G.long) (omega arith) (omega arith) (omega arith)
    S.shows in
    let O : OnlyAt t (closed at h row mark u) at h =
    only-at-then t u (closed at h row mark u) at h (only-at-form t u at h row (omega arith) S.only) C.kept in
    rw (P.counted, d) (record {
      shows = C.shows;
      height = C.height;
      slot = C.slot;
      marked = P.marking (closed at h row mark u) (marks_in (closed at h row mark u)) (C.marked ∙ P.coming M)
          (parts-marked N ns t P.jobs (closed at h row mark u) O P.after (omega arith) M);
      kept = O;
    })

-- a procedure
sign-held : (n : ℕ) → sign (held n) ≡ sign n
unfolding sign held
sign-held zero = refl
sign-held (suc n) = go (min (suc n) 4097) (omega arith)
  where
    go : (x : ℕ) → 0 < x → sign x ≡ 1
    go zero h = absurd (omega arith)
    go (suc x) h = refl

-- which arguments are used, by the form of the procedure's term
used-shown : (N : Numbers) (ns : List Name) (Γ : Context) (ps : List Parameter) (body : Written) (t : List ℕ)
    (row : ℕ) → Shows t row (form_of N ns (inside ps (binders Γ)) (forms N ns Γ) body) →
    used_of t row (length (binders Γ)) ≡ used_bits N ns Γ ps body
unfolding used_of bits uses
used-shown N ns Γ ps body t row S =
    let k : ℕ = length (binders Γ) in
    let f : Form = form_of N ns (inside ps (binders Γ)) (forms N ns Γ) body in
    let e : (j : ℕ) → sign (coefficient_of t row (k + j)) ≡ sign (f.of (k + j)) =
    λ j. ap sign (S.coefficients (k + j)) ∙ sign-held (f.of (k + j)) in
    rw (used-own N ns Γ ps body, e 0, e 1, e 2, e 3)

procedure-done : (N : Numbers) (ns : List Name) (t : List ℕ) (Γ : Context) (π : ℕ → ℕ) (at end : ℕ)
    (id ty : ℕ) (ps : List Parameter) (body rest : Written) (l h k : ℕ) →
    Shown N ns t Γ π at end (procedure id ty ps body rest) →
    Given N ns t Γ π at end (procedure id ty ps body rest) l h k →
    Weighed N ns t (weighed_procedure at (word t at DETAIL) t) Γ at (procedure id ty ps body rest) h
unfolding weighed_procedure parts_in PartsFormed Formed binders forms downs after form_of come Marked depth
procedure-done N ns t Γ π at end id ty ps body rest l h k
    (shown_procedure {a = a} {b = b} r w p q c f s s') G =
    let in_body : Context = in_procedure ps Γ in
    let in_rest : Context = in_scope id ty ps body Γ in
    let form : Form = form_of N ns (binders in_rest) (forms N ns in_rest) rest in
    let row : ℕ = height_of t in
    let e : row ≡ h + 2 = G.height in
    let d : row - 2 ≡ h = omega arith in
    let room : h ≤ 93 = G.room in
    let few : length (binders Γ) + 4 * suc l ≤ 128 = G.few in
    let deep : depth (procedure id ty ps body rest) ≤ suc l = G.deep in
    let less : (a < b) × (b ≤ 4096) = places N ns t s in
    let less' : (b < end) × (end ≤ 4096) = places N ns t s' in
    let F : Formed N ns t in_body at h 0 (more body none) = G.formed.0 in
    let F' : Formed N ns t in_rest at (suc h) 1 (more rest none) = G.formed.1 in
    let mark : ℕ = come_at (marks_in t) (word t at (PARTS + 1)) + 128 * used_of t h (word t at DETAIL) in
    let x : come_at (marks_in t) (word t at (PARTS + 1)) ≡ come ns (binders in_rest) (downs ns in_rest) rest =
    marked-come N ns t rest (marks_in t) in_rest (word t at (PARTS + 1)) l F'.1 (omega arith) (omega arith) in
    let y : used_of t h (word t at DETAIL) ≡ used_bits N ns Γ ps body =
    ap (used_of t h) w ∙ used-shown N ns Γ ps body t h F.0 in
    let v : List ℕ = closed at h (suc h) mark t in
    let C : Closes t v at h mark form =
    closed-does t at h (suc h) mark form G.long (omega arith) (omega arith) (omega arith) F'.0 in
    rw d (record {
      shows = C.shows;
      height = C.height;
      slot = C.slot;
      marked = (
        C.marked ∙ ap₂ (λ i j. i + 128 * j) x y,
        part-marked N ns t v at h 5 a b in_body π body C.kept c (omega arith) p s F.1,
        part-marked N ns t v at h 6 b end in_rest _ rest C.kept (omega arith) (omega arith) q s' F'.1,
      );
      kept = C.kept;
    })

by-procedure : (N : Numbers) (ns : List Name) (t : List ℕ) (Γ : Context) (π : ℕ → ℕ) (at end : ℕ) (W : Written)
    (l h k : ℕ) → IsProcedure W → Given N ns t Γ π at end W l h k →
    Weighed N ns t (weighed_procedure at (word t at DETAIL) t) Γ at W h
by-procedure N ns t Γ π at end (procedure id ty ps body rest) l h k it-is G =
    procedure-done N ns t Γ π at end id ty ps body rest l h k G.shown G
by-procedure N ns t Γ π at end Rattle.sheet_written.specs.Written.skip l h k x'' G = elim x'' [ ]
by-procedure N ns t Γ π at end (Rattle.sheet_written.specs.Written.diverge _) l h k x4 G = elim x4 [ ]
by-procedure N ns t Γ π at end (Rattle.sheet_written.specs.Written.truth _) l h k x5 G = elim x5 [ ]
by-procedure N ns t Γ π at end (Rattle.sheet_written.specs.Written.number _) l h k x6 G = elim x6 [ ]
by-procedure N ns t Γ π at end (Rattle.sheet_written.specs.Written.call _ _) l h k x8 G = elim x8 [ ]
by-procedure N ns t Γ π at end (Rattle.sheet_written.specs.Written.fetch _) l h k x8 G = elim x8 [ ]
by-procedure N ns t Γ π at end (Rattle.sheet_written.specs.Written.operate _ _ _) l h k x11 G = elim x11 [ ]
by-procedure N ns t Γ π at end (Rattle.sheet_written.specs.Written.assign _ _) l h k x11 G = elim x11 [ ]
by-procedure N ns t Γ π at end (Rattle.sheet_written.specs.Written.sequence _ _) l h k x12 G = elim x12 [ ]
by-procedure N ns t Γ π at end (Rattle.sheet_written.specs.Written.while _ _) l h k x13 G = elim x13 [ ]
by-procedure N ns t Γ π at end (Rattle.sheet_written.specs.Written.choose _ _ _) l h k x15 G = elim x15 [ ]
by-procedure N ns t Γ π at end (Rattle.sheet_written.specs.Written.new _ _ _) l h k x16 G = elim x16 [ ]

-- THEOREM: a record is weighed
pub record-weighed : RecordWeighed
unfolding weighed
record-weighed N ns t Γ π at end W l h k G =
    by-test (eqb (word t at KIND) PROCEDURE)
    (λ e. rw e (by-procedure N ns t Γ π at end W l h k
    (is-procedure N ns t G.shown (eqb-true (word t at KIND) PROCEDURE e)) G))
    (λ e. rw e (plain_done N ns t Γ π at end W l h k (word t at KIND) (word t at DETAIL) G
    (plan N ns t l h k G.long Γ π at end W G (eqb-false (word t at KIND) PROCEDURE e))))
