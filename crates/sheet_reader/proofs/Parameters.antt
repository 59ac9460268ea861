-- The parameters of a procedure: what is judged good is in order, and what is in order is judged good.
use Prim.Native.Nat.{ℕ, zero, suc, ◌+◌, ◌*◌, ◌≤◌, ◌<◌}
use native.Mathlib.Omega.{arith}
use native.Mathlib.Nat.{add-zero, zero-add}
use mathlib.Core.Path.{◌≡◌, refl, sym, ap, ap₂, ◌∙◌, subst}
use mathlib.Core.Bool.{Bool, true, false}
use mathlib.Core.List.{List, [], ◌∷◌, ◌++◌}
use lib.ListN.{length, get_or, drop, length-append, length-drop, take-append-drop}
use lib.Seq.{drop-drop, get_or-drop}
use lib.Dec.{eqb}
use borrow.Author.Tests.{eqb-false, ne_eqb}
use Rattle.language.specs.Choice.{pick}
use Rattle.sheet_judgements.specs.Judge.{earlier}
use Rattle.sheet_records.specs.declared.edition.Edition.{Edition}
use Rattle.sheet_records.specs.declared.edition.Edition.TheVariants.{Present}
use Rattle.sheet_written.specs.Written.{Name, Parameter}
use Rattle.sheet_written.specs.Meaning.{Binder, free, declared, types_of}
use Rattle.sheet_written.specs.Fine.{Unlike, FineParameters}
use Rattle.sheet_written.specs.Hiding.{Unheld, ApartParameters}
use Rattle.sheet_reader.specs.Encoding.{pairs}
use Rattle.sheet_reader.specs.Reader.{parameters_of}
use Rattle.sheet_reader.proofs.Parsed.{Byte, Pairs}
use Rattle.sheet_reader.proofs.Standings.{Procedures, ParametersAt, Matches, binder-id, binder-standing}
use Rattle.sheet_reader.proofs.Standings.{unhiding-apart, apart-unhiding}
use Rattle.sheet_reader.proofs.Pairs.{pairs-length, parameters-length, pairs-parameters, pairs-unused, pairs_of}
use Rattle.sheet_reader.proofs.Pairs.{parameters-at, types-length, types-at}
use Rattle.sheet_reader.proofs.Bodies.{Given, Blank, Body, body-within}
use Rattle.sheet_reader.proofs.Bytes.{past}

-- the first j parameters of the procedure at a place, the last first
unfoldable Before : List ℕ → ℕ → ℕ → List Parameter → Type 0
Before s at zero [] = Unit
Before s at zero (p ∷ es) = ⊥
Before s at (suc j) [] = ⊥
Before s at (suc j) (p ∷ es) = (get_or s (at + 4 + 2 * j) 0 ≡ p.id) × Before s at j es

unlike-before :
    (s : List ℕ) (at j : ℕ) (es : List Parameter) (id : ℕ) → Before s at j es → earlier s at j id ≡ false → Unlike id es
unfolding Before earlier Unlike
unlike-before s at zero [] id b e = tt
unlike-before s at zero (p ∷ es) id b e = absurd b
unlike-before s at (suc j) [] id b e = absurd b
unlike-before s at (suc j) (p ∷ es) id b e =
    go (eqb (get_or s (at + 4 + 2 * j) 0) id) refl e (λ f. unlike-before s at j es id b.1 f)
  where
    go : (t : Bool) → eqb (get_or s (at + 4 + 2 * j) 0) id ≡ t → pick t true (earlier s at j id) ≡ false →
        (earlier s at j id ≡ false → Unlike id es) → (p.id ≡ id → ⊥) × Unlike id es
    go true f h u = let z : ◌≡◌ {A = ℕ} 0 1 = cc in absurd (omega arith)
    go false f h u = (λ q. eqb-false (get_or s (at + 4 + 2 * j) 0) id f (b.0 ∙ q), u h)

before-unlike :
    (s : List ℕ) (at j : ℕ) (es : List Parameter) (id : ℕ) → Before s at j es → Unlike id es → earlier s at j id ≡ false
unfolding Before earlier Unlike
before-unlike s at zero [] id b u = refl
before-unlike s at zero (p ∷ es) id b u = absurd b
before-unlike s at (suc j) [] id b u = absurd b
before-unlike s at (suc j) (p ∷ es) id b u =
    rw (ne_eqb (get_or s (at + 4 + 2 * j) 0) id (λ q. u.0 (sym b.0 ∙ q))) (before-unlike s at j es id b.1 u.1)

module _
    (ed : Edition) {s st : List ℕ} {ns : List Name} {bs : List Binder} {π : ℕ → ℕ} (M : Matches s ns bs π st) (at : ℕ) where
  -- parameters that are judged good are in order
  fine-given :
      (ps : List Parameter) (j : ℕ) (es : List Parameter) → Before s at j es → ParametersAt s at j ps →
      ((k : ℕ) → j ≤ k → k < j + length ps → Given ed s st at k) → FineParameters ns es ps
  unfolding FineParameters ParametersAt Before
  fine-given [] j es b a f = tt
  fine-given (p ∷ ps) j es b a f =
      let G = f j (omega arith) (omega arith) in
      let e = a.0 in (
        subst (λ (x : ℕ). x < 255) e G.id.below,
        subst (λ (x : ℕ). declared ns x ≡ free) e (binder-id M _ G.id.below G.id.unnamed),
        subst (λ (x : ℕ). Unlike x es) e (unlike-before s at j es _ b G.unlike),
        subst (λ (x : ℕ). x < 5) a.1 G.known,
        fine-given ps (suc j) (p ∷ es) (e, b) a.2 (λ k h l. f k (omega arith) (omega arith)),
      )

  -- and hide no enclosing binder
  apart-given :
      (ps : List Parameter) (j : ℕ) → ParametersAt s at j ps →
      ((k : ℕ) → j ≤ k → k < j + length ps → Given ed s st at k) → ed ≡ Present → ApartParameters bs ps
  unfolding ApartParameters ParametersAt
  apart-given [] j a f e = tt
  apart-given (p ∷ ps) j a f e =
      let G = f j (omega arith) (omega arith) in (
        subst (λ (x : ℕ). Unheld bs x) a.0 (unhiding-apart ed M _ G.id.below G.id.unhiding e),
        apart-given ps (suc j) a.2 (λ k h l. f k (omega arith) (omega arith)) e,
      )

  -- parameters that are in order are judged good
  given-fine :
      at + 12 ≤ length s → (ps : List Parameter) (j : ℕ) (es : List Parameter) → Before s at j es →
      ParametersAt s at j ps → FineParameters ns es ps → (ed ≡ Present → ApartParameters bs ps) → j + length ps ≤ 4 →
      (k : ℕ) → k < length ps → Given ed s st at (j + k)
  unfolding FineParameters ApartParameters ParametersAt Before
  given-fine w [] j es b a f u l k h = absurd (omega arith)
  given-fine w (p ∷ ps) j es b a f u l zero h =
      let e = sym a.0 in
      rw (add-zero j) (record {
        id = record {
          within = omega arith;
          below = subst (λ (x : ℕ). x < 255) e f.0;
          unnamed = binder-standing M _ (subst (λ (x : ℕ). x < 255) e f.0)
              (subst (λ (x : ℕ). declared ns x ≡ free) e f.1);
          unhiding = apart-unhiding ed M _ (subst (λ (x : ℕ). x < 255) e f.0)
              (λ q. subst (λ (x : ℕ). Unheld bs x) e (u q).0);
        };
        unlike = before-unlike s at j es _ b (subst (λ (x : ℕ). Unlike x es) e f.2);
        within = omega arith;
        known = subst (λ (x : ℕ). x < 5) (sym a.1) f.3;
      })
  given-fine w (p ∷ ps) j es b a f u l (suc k) h =
      let e : j + suc k ≡ suc j + k = omega arith in
      rw e (given-fine w ps (suc j) (p ∷ es) (a.0, b) a.2 f.4 (λ q. (u q).1) (omega arith) k (omega arith))

  -- a body that is judged good
  module _ (B : Body ed s st at) where
    abbrev count : ℕ
    count = get_or s (at + 3) 0

    here-parameters : ParametersAt s at 0 (parameters_of count (drop (at + 4) s))
    here-parameters =
        let e : at + 4 + 2 * 0 ≡ at + 4 = omega arith in
        subst (λ (x : ℕ). ParametersAt s at 0 (parameters_of count (drop x s))) e (parameters-at s at count 0)

    blank-pair :
        (j : ℕ) → count ≤ j → j < 4 →
        (get_or (drop (at + 4) s) (2 * j) 0 ≡ 255) × (get_or (drop (at + 4) s) (suc (2 * j)) 0 ≡ 255)
    blank-pair j h l =
        let P = (B.pairs j l).padding h in
        let e : at + 4 + suc (2 * j) ≡ at + 5 + 2 * j = omega arith in (
          get_or-drop (at + 4) s (2 * j) 0 ∙ P.id,
          get_or-drop (at + 4) s (suc (2 * j)) 0 ∙ ap (λ (x : ℕ). get_or s x 0) e ∙ P.type,
        )

    pub body-pairs : Pairs s ns at count (parameters_of count (drop (at + 4) s))
    unfolding Before
    body-pairs =
        let n : at + 4 + 8 ≡ at + 12 = omega arith in
        let l : 8 ≤ length (drop (at + 4) s) = rw (length-drop (at + 4) s) (omega (arith, body-within s st at B)) in
        record {
          are = refl;
          counted = parameters-length count (drop (at + 4) s);
          within = body-within s st at B;
          bytes = sym (take-append-drop 8 (drop (at + 4) s))
              ∙ ap₂ (λ (x y : List ℕ). x ++ y)
              (sym (pairs_of 4 count (drop (at + 4) s) (omega (arith, B.few)) l blank-pair))
              (drop-drop 8 (at + 4) s ∙ ap (λ (x : ℕ). drop x s) n);
          fine = fine-given (parameters_of count (drop (at + 4) s)) 0 [] tt here-parameters (λ k h u.
              let c = parameters-length count (drop (at + 4) s) in
              (B.pairs k (omega (arith, B.few))).used (omega arith));
        }

    pub body-apart : ed ≡ Present → ApartParameters bs (parameters_of count (drop (at + 4) s))
    body-apart =
        apart-given (parameters_of count (drop (at + 4) s)) 0 here-parameters (λ k h u.
        let c = parameters-length count (drop (at + 4) s) in
        (B.pairs k (omega (arith, B.few))).used (omega arith))

-- the parameters by the pairs
module _ {s : List ℕ} {ns : List Name} {at n : ℕ} {ps : List Parameter} (P : Pairs s ns at n ps) where
  pub pairs-at : ParametersAt s at 0 ps
  pairs-at =
      let e : at + 4 + 2 * 0 ≡ at + 4 = omega arith in
      subst (λ (x : List Parameter). ParametersAt s at 0 x) P.are
      (subst (λ (x : ℕ). ParametersAt s at 0 (parameters_of n (drop x s))) e (parameters-at s at n 0))

  pub pairs-procedures :
      {ty : ℕ} → Byte s (at + 2) ty → Byte s (at + 3) n → ty < 5 → n < 5 → Procedures s at ty (types_of ps)
  pairs-procedures b c k f = record {
    result = b.1;
    count = c.1 ∙ sym P.counted ∙ sym (types-length ps);
    argument = λ j h.
        ap (λ (x : ℕ). get_or s (at + 5 + 2 * x) 0) (sym (zero-add j))
        ∙ types-at s at 0 ps pairs-at j (omega (arith, types-length ps));
    known = k;
    few = omega (arith, types-length ps, P.counted);
    inside = omega (arith, P.within);
  }

  pairs-blank : Byte s (at + 3) n → (j : ℕ) → get_or s (at + 3) 0 ≤ j → j < 4 → Blank s at j
  pairs-blank c j h l =
      let u = pairs-unused 4 ps (drop (at + 12) s) j (omega (arith, P.counted)) l in
      let e : at + 5 + 2 * j ≡ at + 4 + suc (2 * j) = omega arith in
      record {
        id-within = omega (arith, P.within);
        id = sym (get_or-drop (at + 4) s (2 * j) 0) ∙ ap (λ (x : List ℕ). get_or x (2 * j) 0) P.bytes ∙ u.0;
        within = omega (arith, P.within);
        type = ap (λ (x : ℕ). get_or s x 0) e ∙ sym (get_or-drop (at + 4) s (suc (2 * j)) 0)
            ∙ ap (λ (x : List ℕ). get_or x (suc (2 * j)) 0) P.bytes ∙ u.1;
      }

  pub pairs-body :
      (ed : Edition) {st : List ℕ} {bs : List Binder} {π : ℕ → ℕ} {id ty : ℕ} → Matches s ns bs π st →
      Byte s (at + 1) id → id < 255 → declared ns id ≡ free → (ed ≡ Present → Unheld bs id) →
      Byte s (at + 2) ty → ty < 5 → Byte s (at + 3) n → n < 5 → (ed ≡ Present → ApartParameters bs ps) → Body ed s st at
  unfolding Before
  pairs-body ed {st} {id = id} M b l f v b' k c h u = record {
    id = record {
      within = b.0;
      below = rw b.1 l;
      unnamed = rw b.1 (binder-standing M id l f);
      unhiding = rw b.1 (apart-unhiding ed M id l v);
    };
    type-within = b'.0;
    type-known = rw b'.1 k;
    count-within = c.0;
    few = rw c.1 h;
    pairs = λ j m. record {
      used = λ y. subst (λ (x : ℕ). Given ed s st at x) (zero-add j)
          (given-fine ed M at P.within ps 0 [] tt pairs-at P.fine u (omega (arith, P.counted)) j
          (omega (arith, P.counted, c.1)));
      padding = λ y. pairs-blank c j y m;
    };
  }

-- the pairs by their bytes
pub pairs-there :
    (s : List ℕ) (ns : List Name) (at : ℕ) (ps : List Parameter) (rest : List ℕ) →
    drop (at + 4) s ≡ pairs 4 ps ++ rest → length ps < 5 → FineParameters ns [] ps →
    Pairs s ns at (length ps) ps × (drop (at + 12) s ≡ rest)
pairs-there s ns at ps rest e l f =
    let n : at + 4 + length (pairs 4 ps) ≡ at + 12 = omega (arith, pairs-length 4 ps) in
    let d : drop (at + 12) s ≡ rest = rw n at (past s (at + 4) (pairs 4 ps) rest e) in
    let w : at + 12 ≤ length s =
    omega (
      arith,
      sym (length-drop (at + 4) s) ∙ ap length e ∙ length-append (pairs 4 ps) rest,
      pairs-length 4 ps,
    ) in (
      record {
        are = ap (λ (x : List ℕ). parameters_of (length ps) x) e ∙ pairs-parameters 4 ps rest (omega arith);
        counted = refl;
        within = w;
        bytes = e ∙ ap (λ (x : List ℕ). pairs 4 ps ++ x) (sym d);
        fine = f;
      },
      d,
    )
