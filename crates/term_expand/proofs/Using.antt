-- A use of a procedure: the arguments that it uses, then its term.
use Prim.Native.Nat.{ℕ, zero, suc, ◌+◌, ◌*◌, ◌/◌, ◌%◌, ◌≤◌, ◌<◌}
use native.Mathlib.Omega.{arith}
use mathlib.Core.Path.{◌≡◌, refl, ap, ◌∙◌}
use mathlib.Core.Logic.{◌⊎◌, inl, inr}
use mathlib.Core.List.{List, [], ◌∷◌}
use lib.ListN.{length, get_or}
use lib.Dec.{ltb}
use borrow.Author.Tests.{le-ltb, ltb-true, ltb-false}
use Rattle.language.specs.declared.Numbers.{Numbers}
use Rattle.sheet_written.specs.Environment.{beyond}
use Rattle.sheet_written.specs.Written as w
use Rattle.sheet_written.specs.Written.{Written, call, Parameter, Writtens, none, more, Name}
use Rattle.sheet_written.specs.Meaning.{routine, meaning, inside, types_of, by_meaning}
use Rattle.sheet_written.specs.Fine.{Fine, FineUse, FineArgs, depth, depths}
use Rattle.sheet_written.specs.Form.{form_of, total}
use Rattle.sheet_written.specs.Made.{sign, made, mades}
use Rattle.sheet_written.specs.Occurs.{IsParameter}
use Rattle.sheet_written.specs.Context.{Context, in_procedure, binders, forms, makes, uses, Sees}
use Rattle.sheet_written.specs.Expand.{Slots, with_rows, of_use, Passes, no_more, one_used, one_unused}
use Rattle.sheet_rows.specs.PartKind.{DETAIL, PARTS, WEIGHT}
use Rattle.sheet_rows.specs.Row.{word}
use Rattle.sheet_written.specs.Table.{use_detail, ShownArgs, Known, Few, FewIn}
use Rattle.sheet_written.specs.Marks.{bits, used_bits, Marked, MarkedArgs, MarkedIn}
use Rattle.sheet_written.proofs.Tests.{by-test}
use Rattle.sheet_written.proofs.Numbering.{beyond_below, beyond_above}
use Rattle.sheet_written.proofs.Renaming.{length-inside}
use Rattle.sheet_written.proofs.Forming.{total-same, total_first, total-none}
use Rattle.sheet_written.proofs.Alike.{inside-parameter, parameter-below}
use Rattle.sheet_written.proofs.Contexts.{sees-form, sees-count, sees-made, sees-parameter, Found, Found-right, found}
use Rattle.term_closing.specs.Rows.{ROWS, decode, TERM-WORDS}
use Rattle.term_expand.specs.Local.{Local, LocalPasses}
use Rattle.term_closing.specs.Close.{used_of, bit_of, more_of, passed_slots}
use Rattle.term_expand.specs.Contract.{FineIn, Within, Below, Between, Weighs, turns, Placed, Given, Expanded}
use Rattle.term_expand.specs.Contract.{Expanding, Pieces, Used}
use Rattle.term_expand.proofs.Places.{shown-before, known-later, Seen, sees_known, SeenMarks, sees-marked, sees-fine}
use Rattle.term_expand.proofs.Places.{sees-few}
use Rattle.term_expand.proofs.Frames.{lower-part, upper-part, bit-cases, below_again, between-refl, between-below}
use Rattle.term_expand.proofs.Frames.{between-again, within_more, within_none, weight-stays}
use Rattle.term_expand.proofs.Slotting.{by-four, sees-shows, passed_length, shows-passed}
use Rattle.term_expand.proofs.Running.{Site, Passed, passed-more, weighs-again, rows_of, expanded-count, many, Ran}
use Rattle.term_expand.proofs.Running.{wanted_made, Run, room-wanted, run}
use Rattle.term_expand.proofs.Naming.{args-many, good-args}

-- bits of numbers that are used
sign_small : (n : ℕ) → sign n < 2
unfolding sign
sign_small zero = omega arith
sign_small (suc n) = omega arith

bit-now : (x y : ℕ) → x < 2 → bit_of (x + 2 * y) 0 ≡ x
unfolding bit_of
bit-now x y h = lower-part 2 x y h

bit-next : (x y j : ℕ) → x < 2 → bit_of (x + 2 * y) (suc j) ≡ bit_of y j
unfolding bit_of
bit-next x y j h = rw (upper-part 2 x y h)

bit-used : (u : ℕ → ℕ) (i : ℕ) → i < 4 → bit_of (bits u) i ≡ sign (u i)
unfolding bits
bit-used u i h = rw nested (go i h)
  where
    nested : sign (u 0) + 2 * sign (u 1) + 4 * sign (u 2) + 8 * sign (u 3)
        ≡ sign (u 0) + 2 * (sign (u 1) + 2 * (sign (u 2) + 2 * (sign (u 3) + 2 * 0)))
    nested = omega arith

    go : (i : ℕ) → i < 4 →
        bit_of (sign (u 0) + 2 * (sign (u 1) + 2 * (sign (u 2) + 2 * (sign (u 3) + 2 * 0)))) i ≡ sign (u i)
    go zero h = bit-now (sign (u 0)) (sign (u 1) + 2 * (sign (u 2) + 2 * (sign (u 3) + 2 * 0))) (sign_small (u 0))
    go (suc zero) h =
        bit-next (sign (u 0)) (sign (u 1) + 2 * (sign (u 2) + 2 * (sign (u 3) + 2 * 0))) 0 (sign_small (u 0))
        ∙ bit-now (sign (u 1)) (sign (u 2) + 2 * (sign (u 3) + 2 * 0)) (sign_small (u 1))
    go (suc (suc zero)) h =
        bit-next (sign (u 0)) (sign (u 1) + 2 * (sign (u 2) + 2 * (sign (u 3) + 2 * 0))) 1 (sign_small (u 0))
        ∙ (bit-next (sign (u 1)) (sign (u 2) + 2 * (sign (u 3) + 2 * 0)) 0 (sign_small (u 1))
        ∙ bit-now (sign (u 2)) (sign (u 3) + 2 * 0) (sign_small (u 2)))
    go (suc (suc (suc zero))) h =
        bit-next (sign (u 0)) (sign (u 1) + 2 * (sign (u 2) + 2 * (sign (u 3) + 2 * 0))) 2 (sign_small (u 0))
        ∙ (bit-next (sign (u 1)) (sign (u 2) + 2 * (sign (u 3) + 2 * 0)) 1 (sign_small (u 1))
        ∙ (bit-next (sign (u 2)) (sign (u 3) + 2 * 0) 0 (sign_small (u 2))
        ∙ bit-now (sign (u 3)) 0 (sign_small (u 3))))
    go (suc (suc (suc (suc i)))) h = absurd (omega arith)

beyond-past : (k : ℕ) (f : ℕ → ℕ) (i : ℕ) → k ≤ i → beyond k f (λ j. 0) i ≡ 0
unfolding beyond
beyond-past k f i h = rw (le-ltb i k h)

sign-none : sign 0 ≡ 0
unfolding sign
sign-none = refl

sign-some : (n : ℕ) → sign (suc n) ≡ 1
unfolding sign
sign-some n = refl

weighs-length : (Γ : Context) (ε : Slots) (rows T : List ℕ) → Weighs Γ ε rows T → length T ≡ TERM-WORDS
unfolding Weighs
weighs-length Γ ε rows T w = w.0

some-depth : (W : Written) → 0 < depth W
unfolding depth
some-depth w.skip = omega arith
some-depth (w.diverge ty) = omega arith
some-depth (w.truth b) = omega arith
some-depth (w.number b) = omega arith
some-depth (call id ws) = omega arith
some-depth (w.fetch x) = omega arith
some-depth (w.operate op x y) = omega arith
some-depth (w.assign x y) = omega arith
some-depth (w.sequence x y) = omega arith
some-depth (w.while x y) = omega arith
some-depth (w.choose q x y) = omega arith
some-depth (w.new id d x) = omega arith
some-depth (w.procedure id ty ps x y) = omega arith

pub deep-few : (Γ : Context) (W : Written) → Few Γ W → length (binders Γ) + 4 ≤ 128
unfolding Few
deep-few Γ W h = omega (arith, some-depth W, h)

pub length_types : (ps : List Parameter) → length (types_of ps) ≡ length ps
unfolding types_of
length_types [] = refl
length_types (p ∷ ps) = ap suc (length_types ps)

module _ (N : Numbers) (ns : List Name) (t marks slots : List ℕ) (Γ : Context) (ε : Slots) (π : ℕ → ℕ)
    (level left at wants : ℕ) {rows after : List ℕ} {n a b c d m : ℕ}
    (P : Pieces t marks slots level left at wants rows after n a b c d m) (S : Site N ns t marks slots Γ ε π at level)
    (g : ℕ → ℕ) where
  -- the bits from j on are those of the arguments that are used
  abbrev Bits : ℕ → Writtens → Type 0
  Bits j ws = (i : ℕ) → j ≤ i → i < j + many ws → bit_of wants i ≡ sign (g i)

  -- the rows that they make
  total-wanted : (ws : Writtens) (j c : ℕ) → many ws ≡ c → Bits j ws →
      total c (λ x. sign (g (j + x)) * mades N ns (binders Γ) (forms N ns Γ) (makes N ns Γ) ws x)
      ≡ wanted_made N ns t marks slots Γ ε π level left at wants P S j ws
  unfolding many wanted_made mades
  total-wanted none j c e f =
      let z : c ≡ 0 = omega arith in
      rw z (total-none (λ x. sign (g (j + x)) * mades N ns (binders Γ) (forms N ns Γ) (makes N ns Γ) none x))
  total-wanted (more w ws) j zero e f = absurd (omega arith)
  total-wanted (more w ws) j (suc c) e f =
      let μ : Writtens → ℕ → ℕ = λ vs x. mades N ns (binders Γ) (forms N ns Γ) (makes N ns Γ) vs x in
      let z : j + 0 ≡ j = omega arith in
      let h : sign (g (j + 0)) * μ (more w ws) 0 ≡ bit_of wants j * rows_of N ns Γ w =
      rw (z, f j (omega arith) (omega arith)) refl in
      let y : total c (λ x. sign (g (j + suc x)) * μ ws x) ≡ total c (λ x. sign (g (suc j + x)) * μ ws x) =
      total-same c (λ x. sign (g (j + suc x)) * μ ws x) (λ x. sign (g (suc j + x)) * μ ws x)
      (λ x. let q : j + suc x ≡ suc j + x = omega arith in rw q refl) in
      let r = total-wanted ws (suc j) c (omega arith) (λ i p q. f i (omega arith) (omega arith)) in
      omega (arith, total_first c (λ x. sign (g (j + x)) * μ (more w ws) x), h, y, r)

  -- the row of an argument weighs what it weighed, and so do all
  one-weighs : (T : List ℕ) (w : Written) (j : ℕ) → j < 4 → length T ≡ TERM-WORDS → length after ≡ TERM-WORDS →
      (bit_of wants j ≡ 1 → Given N ns Γ ε w after T (P.counts j) (P.row j) (P.counts (suc j))) →
      word T (P.row j) WEIGHT ≡ word after (P.row j) WEIGHT
  unfolding Below
  one-weighs T w j l p q r = go (bit-cases wants j)
    where
      go : (bit_of wants j ≡ 0) ⊎ (bit_of wants j ≡ 1) → word T (P.row j) WEIGHT ≡ word after (P.row j) WEIGHT
      go (inl e) =
          let v = ((P.piece j l).unwanted e).0 in
          rw v (weight-stays 0 ROWS after T (within_none 0) (λ x y. absurd (omega arith)) q p)
      go (inr e) = (r e).weighs

  ran-weighs : (T : List ℕ) (ws : Writtens) (j i : ℕ) → j + many ws ≤ 4 → length T ≡ TERM-WORDS → length after ≡ TERM-WORDS →
      Ran N ns t marks slots Γ ε π level left at wants P S T j ws → j ≤ i → i < j + many ws →
      word T (P.row i) WEIGHT ≡ word after (P.row i) WEIGHT
  unfolding many Ran
  ran-weighs T none j i l p q r h k = absurd (omega arith)
  ran-weighs T (more w ws) j i l p q r h k =
      by-test (ltb j i)
      (λ e. ran-weighs T ws (suc j) i (omega arith) p q r.2 (ltb-true j i e) (omega arith))
      (λ e.
      let z : i ≡ j = omega (arith, ltb-false j i e) in
      rw z (one-weighs T w j (omega arith) p q r.0))

  empty-passes : (T : List ℕ) (j k l : ℕ) → k ≡ l →
      (x : Passes N ns (decode N ns T) Γ ε g P.row j [] none k l) × LocalPasses N ns T x
  unfolding LocalPasses
  empty-passes T j k l e = rw e (no_more, tt)

  -- one argument, used or not, and the others
  pass-one : (T : List ℕ) (w : Written) (ws : Writtens) (p : Parameter) (ps : List Parameter) (j u : ℕ) → g j ≡ u →
      bit_of wants j ≡ sign (g j) →
      (bit_of wants j ≡ 1 → Given N ns Γ ε w after T (P.counts j) (P.row j) (P.counts (suc j))) →
      (bit_of wants j ≡ 0 → P.counts (suc j) ≡ P.counts j) →
      (x : Passes N ns (decode N ns T) Γ ε g P.row (suc j) ps ws (P.counts (suc j)) m) × LocalPasses N ns T x →
      (x : Passes N ns (decode N ns T) Γ ε g P.row j (p ∷ ps) (more w ws) (P.counts j) m) × LocalPasses N ns T x
  unfolding LocalPasses
  pass-one T w ws p ps j zero e f x y z =
      let b : bit_of wants j ≡ 0 = rw (f, e) sign-none in
      let z' : (q : Passes N ns (decode N ns T) Γ ε g P.row (suc j) ps ws (P.counts j) m) × LocalPasses N ns T q =
      rw (y b) at z in
      (one_unused e z'.0, z'.1)
  pass-one T w ws p ps j (suc u) e f x y z =
      let b : bit_of wants j ≡ 1 = rw (f, e) (sign-some u) in
      let h : 0 < g j = omega (arith, e) in
      (one_used h (x b).expands z.0, ((x b).local, z.1))

  -- they are passed
  got-passes : (T : List ℕ) (ws : Writtens) (ps : List Parameter) (j : ℕ) → many ws ≡ length ps → Bits j ws →
      Ran N ns t marks slots Γ ε π level left at wants P S T j ws →
      (x : Passes N ns (decode N ns T) Γ ε g P.row j ps ws (P.counts j) m) × LocalPasses N ns T x
  unfolding many Ran LocalPasses
  got-passes T none [] j e f r = empty-passes T j (P.counts j) m r
  got-passes T none (p ∷ ps) j e f r = absurd (omega arith)
  got-passes T (more w ws) [] j e f r = absurd (omega arith)
  got-passes T (more w ws) (p ∷ ps) j e f r =
      pass-one T w ws p ps j (g j) refl (f j (omega arith) (omega arith)) r.0 r.1
      (got-passes T ws ps (suc j) (omega arith) (λ i a b. f i (omega arith) (omega arith)) r.2)

module _ (N : Numbers) (ns : List Name) (t marks slots : List ℕ) (Γ : Context) (ε : Slots) (π : ℕ → ℕ)
    (level left at end : ℕ) {rows after : List ℕ} {n r m : ℕ} (U : Used t marks slots level left at rows after n r m)
    (S : Site N ns t marks slots Γ ε π at level)
    (R : (x y : ℕ) → at < x → x < y → y ≤ end → turns x y ≤ left)
    (R' : (x y : ℕ) → x < y → y ≤ at → turns x y ≤ left)
    (Q : Passed Γ ε n) (Z : length rows ≡ TERM-WORDS) where
  abbrev asked : ℕ
  asked = used_of (get_or marks (word t at DETAIL % 4096) 0)

  -- the term of the procedure is to be expanded
  module _ (Δ : Context) (ps : List Parameter) (body : Written) (see : Sees Γ Δ ps body) (few : length ps ≤ 4)
      (place : word t at DETAIL % 4096 ≡ π (length (binders Δ))) (count : word t at DETAIL / 4096 ≡ length ps) where
    abbrev k : ℕ
    k = length (binders Δ)

    abbrev δ : Slots
    δ = with_rows k U.pieces.row ε

    seen : Seen N ns t Δ ps body π at
    seen = sees_known N ns t π at see S.known

    seen-marks : SeenMarks N ns t marks Δ ps body π
    seen-marks = sees-marked N ns t marks π see S.marked_in

    inner-few : length (binders (in_procedure ps Δ)) + 4 ≤ 128
    inner-few = deep-few (in_procedure ps Δ) body (sees-few see S.few-in).0

    many-binders : length (inside ps (binders Δ)) ≡ k + length ps
    many-binders = omega (arith, length-inside ps (binders Δ), length_types ps)

    -- its slots
    row-four : (i : ℕ) → i < 4 → U.pieces.row i ≡ by-four U.a U.b U.c U.d i
    unfolding by-four
    row-four zero h = U.pieces.parts.0
    row-four (suc zero) h = U.pieces.parts.1
    row-four (suc (suc zero)) h = U.pieces.parts.2
    row-four (suc (suc (suc zero))) h = U.pieces.parts.3
    row-four (suc (suc (suc (suc i)))) h = absurd (omega arith)

    passed-inner : (i : ℕ) → n ≤ i → ((j : ℕ) → j < length ps → Within i (U.pieces.row j)) →
        Passed (in_procedure ps Δ) δ i
    unfolding binders with_rows
    passed-inner i l w s p = go (inside-parameter ps (binders Δ) s p)
      where
        go : IsParameter (binders Δ) s ⊎ ((j : ℕ) × (j < length ps) × (s ≡ length (binders Δ) + j)) →
            Within i (beyond (length (binders Δ)) ε.passed U.pieces.row s)
        go (inl y) =
            rw (beyond_below k ε.passed U.pieces.row s (parameter-below (binders Δ) s y))
            (within_more n i (ε.passed s) l (Q s (sees-parameter s see y)))
        go (inr (j, b, e)) = rw (e, beyond_above k ε.passed U.pieces.row j) (w j b)

    weighs-inner : (T : List ℕ) → Weighs Γ ε U.between T →
        ((j : ℕ) → j < length ps → word T (U.pieces.row j) WEIGHT ≡ word U.between (U.pieces.row j) WEIGHT) →
        Weighs (in_procedure ps Δ) δ U.between T
    unfolding binders with_rows Weighs
    weighs-inner T g w = (g.0, λ s p. go s (inside-parameter ps (binders Δ) s p))
      where
        go : (s : ℕ) → IsParameter (binders Δ) s ⊎ ((j : ℕ) × (j < length ps) × (s ≡ length (binders Δ) + j)) →
            word T (beyond (length (binders Δ)) ε.passed U.pieces.row s) WEIGHT
            ≡ word U.between (beyond (length (binders Δ)) ε.passed U.pieces.row s) WEIGHT
        go s (inl y) =
            rw (beyond_below k ε.passed U.pieces.row s (parameter-below (binders Δ) s y))
            (g.1 s (sees-parameter s see y))
        go s (inr (j, b, e)) = rw (e, beyond_above k ε.passed U.pieces.row j) (w j b)

    placed-inner : n ≤ U.i → ((j : ℕ) → j < length ps → Within U.i (U.pieces.row j)) →
        U.i + rows_of N ns (in_procedure ps Δ) body ≤ ROWS → length U.between ≡ TERM-WORDS →
        Placed N ns t marks (passed_slots slots k U.a U.b U.c U.d) U.between (in_procedure ps Δ) δ π body
        (word t (π k) PARTS) seen.end (more_of k (length ps)) left U.i
    unfolding Known MarkedIn FineIn FewIn binders more_of
    placed-inner l w o z = record {
      shown = seen.shown;
      known = known-later N ns t Δ π (π k) (word t (π k) PARTS) (omega (arith, seen.later)) seen.known;
      marked = seen-marks.marked;
      marked_in = seen-marks.marked_in;
      fine = (sees-fine N ns t see S.fine_in).0;
      fine_in = (sees-fine N ns t see S.fine_in).1;
      few = (sees-few see S.few-in).0;
      few-in = (sees-few see S.few-in).1;
      shows = shows-passed slots ε ps (binders Δ) U.pieces.row U.a U.b U.c U.d few
          (omega (arith, S.long, inner-few, many-binders)) row-four (sees-shows slots ε see S.shows);
      long = passed_length slots k U.a U.b U.c U.d ∙ S.long;
      passed = passed-inner U.i l w;
      numbered = omega (arith, inner-few, many-binders);
      enough = R' (word t (π k) PARTS) seen.end (shown-before N ns t seen.shown) seen.earlier;
      room = o;
      sized = z;
    }

    inner-body : Expanding t marks (passed_slots slots k U.a U.b U.c U.d) (more_of k (length ps)) left
        (word t (π k) PARTS) U.between after U.i r m
    inner-body = rw (place, seen.number, count) at U.body

    -- which arguments are asked for
    asked-bits : asked ≡ bits (beyond (length ps) (uses N ns Δ ps body) (λ j. 0))
    unfolding used_of used_bits
    asked-bits = rw (place, seen-marks.mark) (upper-part 128 seen-marks.come (used_bits N ns Δ ps body)
        seen-marks.small)

    bit-own : (i : ℕ) → i < length ps → bit_of asked i ≡ sign (uses N ns Δ ps body i)
    bit-own i h =
        rw asked-bits (bit-used (beyond (length ps) (uses N ns Δ ps body) (λ j. 0)) i (omega arith)
        ∙ ap sign (beyond_below (length ps) (uses N ns Δ ps body) (λ j. 0) i h))

    bit_past : (i : ℕ) → length ps ≤ i → i < 4 → bit_of asked i ≡ 0
    bit_past i h l =
        rw asked-bits (bit-used (beyond (length ps) (uses N ns Δ ps body) (λ j. 0)) i l
        ∙ (ap sign (beyond-past (length ps) (uses N ns Δ ps body) i h) ∙ sign-none))

    -- how many rows a use makes
    made-use : (id ty : ℕ) (tys : List ℕ) (ws : Writtens) → meaning ns (binders Γ) id ≡ routine k ty tys →
        rows_of N ns Γ (call id ws) ≡ rows_of N ns (in_procedure ps Δ) body
        + total (length ps) (λ j. sign (uses N ns Δ ps body (0 + j))
        * mades N ns (binders Γ) (forms N ns Γ) (makes N ns Γ) ws j)
    unfolding made by_meaning uses binders forms makes
    made-use id ty tys ws e =
        let f = form_of N ns (inside ps (binders Δ)) (forms N ns Δ) body in
        let μ : ℕ → ℕ = λ j. mades N ns (binders Γ) (forms N ns Γ) (makes N ns Γ) ws j in
        let z : total (length ps) (λ j. sign (f.of (k + j)) * μ j) ≡ total (length ps)
        (λ j. sign (f.of (k + (0 + j))) * μ j) =
        total-same (length ps) (λ j. sign (f.of (k + j)) * μ j) (λ j. sign (f.of (k + (0 + j))) * μ j)
        (λ j. let q : 0 + j ≡ j = omega arith in rw q refl) in
        rw (e, sees-made N ns see, sees-count N ns see, sees-form N ns see) (ap (λ (x : ℕ). rows_of N ns (in_procedure
        ps Δ) body + x) z)

    use-seen : (id ty from : ℕ) (tys : List ℕ) (ws : Writtens) → meaning ns (binders Γ) id ≡ routine k ty tys →
        length tys ≡ length ps → at < from → ShownArgs N ns t Γ π at 0 from end ws tys →
        MarkedArgs N ns t marks Γ at 0 ws → FineArgs N ns (binders Γ) ws tys →
        length (binders Γ) + 4 * (1 + depths ws) ≤ 128 → n + rows_of N ns Γ (call id ws) ≤ ROWS →
        Expanded N ns Γ ε (call id ws) rows after n r m
    unfolding Local
    use-seen id ty from tys ws e le h x mk f q o =
        let P = U.pieces in
        let g : ℕ → ℕ = uses N ns Δ ps body in
        let y : many ws ≡ length ps = args-many x ∙ le in
        let c₀ : P.counts 0 ≡ n = P.first.1 in
        let bs : (i : ℕ) → 0 ≤ i → i < 0 + many ws → bit_of asked i ≡ sign (g i) = λ i a b. bit-own i (omega (
          arith,
          y,
        )) in
        let tw = total-wanted N ns t marks slots Γ ε π level left at asked P S g ws 0 (length ps) y bs in
        let mu = made-use id ty tys ws e in
        let rn : Run N ns t marks slots Γ ε π level left at asked P S 0 ws =
        run N ns t marks slots Γ ε π level left at asked P S ws tys 0 from end (omega (arith, y, few))
        (λ i a b. bit_past i (omega (arith, y)) b) x mk
        (good-args N ns t marks slots Γ ε π level left at asked P S ws tys f q)
        (room-wanted N ns t marks slots Γ ε π level left at asked P S ws 0 (P.counts 0)
        (omega (arith, c₀, tw, mu, o))) h R
        (passed-more Γ ε n (P.counts 0) (omega (arith, c₀)) Q) (rw P.first.0 Z) in
        let ni : n ≤ U.i = omega (arith, c₀, rn.grown) in
        let wn : (j : ℕ) → j < length ps → Within U.i (P.row j) =
        λ j b. rn.within j (omega arith) (omega (arith, y, b)) in
        let pl = placed-inner ni wn (omega (arith, c₀, tw, mu, o, rn.counted)) rn.sized in
        let B = inner-body.of N ns (in_procedure ps Δ) δ π body seen.end pl in
        let ct = expanded-count N ns (in_procedure ps Δ) δ body U.between after U.i r m (passed-inner U.i ni
        wn)
        rn.sized B in
        let im : U.i ≤ m = omega (arith, ct) in
        let kept : Below n rows U.between = rw (c₀, P.first.0) at rn.kept in
        record {
          kept = below_again n U.i rows U.between after ni kept B.kept;
          sized = B.sized;
          within = B.within;
          given = λ T v w.
              let v₁ : Between n U.i U.between T =
              between-again n U.i n m U.between after T (omega arith) im
              (between-below n U.i U.i U.between after (omega arith) B.kept) v in
              let v₂ : Between U.i m after T =
              between-again U.i m n m after after T ni (omega arith) (between-refl U.i m after) v in
              let w₁ : Weighs Γ ε U.between T = weighs-again Γ ε n rows U.between T Q kept Z rn.sized w in
              let rs = rn.given T (rw c₀ v₁) (rw P.first.0 w) in
              let ps₁ = got-passes N ns t marks slots Γ ε π level left at asked P S g T ws ps 0 y bs rs in
              let ps₂ : (X : Passes N ns (decode N ns T) Γ ε g P.row 0 ps ws n U.i) × LocalPasses N ns T X =
              rw c₀ at ps₁ in
              let w₂ = weighs-inner T w₁ (λ j b. ran-weighs N ns t marks slots Γ ε π level left at asked P S g T ws 0 j
              (omega (arith, y, few)) (weighs-length Γ ε rows T w) rn.sized rs (omega arith) (omega (
                arith,
                y,
                b,
              ))) in
              let bd = B.given T v₂ w₂ in
              record { expands = of_use e see ps₂.0 bd.expands; local = (ps₂.1, bd.local); weighs = bd.weighs };
        }

  pub use-row : (id k ty from : ℕ) (tys : List ℕ) (ws : Writtens) → meaning ns (binders Γ) id ≡ routine k ty tys →
      word t at DETAIL ≡ use_detail (π k) (length tys) → length tys ≤ 4 → at < from →
      ShownArgs N ns t Γ π at 0 from end ws tys → Marked N ns t marks Γ at (call id ws) →
      Fine N ns (binders Γ) (call id ws) → Few Γ (call id ws) → n + rows_of N ns Γ (call id ws) ≤ ROWS →
      Expanded N ns Γ ε (call id ws) rows after n r m
  unfolding Found-right use_detail Marked Fine FineUse Few depth
  use-row id k ty from tys ws e o l h x mk f q u =
      let F : Found Γ k tys = rw e at (found ns Γ id) in
      let Δ : Context = F.around in
      let g : FineArgs N ns (binders Γ) ws tys = rw e at f.1 in
      let e' : meaning ns (binders Γ) id ≡ routine (length (binders Δ)) ty tys = rw (← F.number) e in
      let o' : word t at DETAIL ≡ π (length (binders Δ)) + 4096 * length tys = rw (← F.number) o in
      let le : length tys ≡ length F.parameters = rw F.types (length_types F.parameters) in
      let sn = sees_known N ns t π at F.sees S.known in
      let place : word t at DETAIL % 4096 ≡ π (length (binders Δ)) =
      rw o' (lower-part 4096 (π (length (binders Δ))) (length tys) sn.inside-sheet) in
      let count : word t at DETAIL / 4096 ≡ length F.parameters =
      rw o' (upper-part 4096 (π (length (binders Δ))) (length tys) sn.inside-sheet) ∙ le in
      use-seen Δ F.parameters F.body F.sees (omega (arith, l, le)) place count id ty from tys ws e' le h x
      mk.1 g q u
