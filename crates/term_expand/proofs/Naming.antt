-- A declared name: its arguments are expanded in their order.
use Prim.Native.Nat.{ℕ, zero, suc, ◌+◌, ◌*◌, ◌/◌, ◌%◌, ◌≤◌, ◌<◌}
use native.Mathlib.Omega.{arith}
use mathlib.Core.Path.{◌≡◌, refl, sym, ap, ◌∙◌}
use mathlib.Core.List.{List, [], ◌∷◌}
use lib.ListN.{length}
use borrow.Author.Tests.{lt-ltb, le-ltb}
use Rattle.language.specs.Ty.{questions, answers}
use Rattle.language.specs.declared.Numbers.{Numbers}
use Rattle.language.specs.Term.{Often, onces}
use Rattle.language.specs.Weight.{use_weight}
use Rattle.language.proofs.AskOnceLaws.{onces-below}
use Rattle.sheet_parts.specs.Rule.{values}
use Rattle.sheet_rows.specs.Row.{class_of, word}
use Rattle.sheet_written.specs.Written.{call, Writtens, none, more, Name}
use Rattle.sheet_written.specs.Meaning.{named, meaning, ty_of, by_meaning}
use Rattle.sheet_written.specs.Fine.{Fine, FineUse, FineArgs, depth, depths}
use Rattle.sheet_written.specs.Made.{made, made_args}
use Rattle.sheet_written.specs.Context.{Context, binders, forms, makes}
use Rattle.sheet_written.specs.Shared as s
use Rattle.sheet_written.specs.Expand.{Slots, ExpandsArgs, no_args, one_arg, of_name}
use Rattle.sheet_rows.specs.PartKind.{NAME, KIND, CLASS, VALUES, DETAIL, PARTS, ONCE, WEIGHT}
use Rattle.sheet_written.specs.Table.{name_detail, PartRow, ShownArgs, shown_none, shown_more, Few}
use Rattle.sheet_written.specs.Marks.{Marked}
use Rattle.term_closing.specs.Rows.{ROWS, parts_from, decode, parts_weight, row_weight, TERM-WORDS}
use Rattle.term_expand.specs.Local.{Local, LocalArgs}
use Rattle.term_closing.specs.Close.{first_bits, parts_of, argument_weight, name_weight, detail_of}
use Rattle.term_expand.specs.Contract.{turns, Expanded, Pieces, Closed}
use Rattle.term_expand.proofs.Places.{shown-row}
use Rattle.term_expand.proofs.Running.{Site, Passed, rows_of, many, Good}
use Rattle.term_expand.proofs.Decoding.{name-declared, row-name, weight-name}
use Rattle.term_expand.proofs.Closing.{sum_made, Got, Wrote, close, starts, right}
use Rattle.sheet_written.proofs.Types.{class-questions, class-answers}

-- as many arguments as types
pub args-many : {N : Numbers} {ns : List Name} {t : List ℕ} {Γ : Context} {π : ℕ → ℕ} {at j from end : ℕ} {ws :
    Writtens}
    {tys : List ℕ} → ShownArgs N ns t Γ π at j from end ws tys → many ws ≡ length tys
unfolding many
args-many shown_none = refl
args-many (shown_more e x y) = ap suc (args-many y)

-- k of the numbers that f gives, from j on
unfoldable sum_from : ℕ → ℕ → (ℕ → ℕ) → ℕ
sum_from zero j f = 0
sum_from (suc k) j f = f j + sum_from k (suc j) f

sum-none : (k j : ℕ) (f : ℕ → ℕ) → ((i : ℕ) → j ≤ i → f i ≡ 0) → sum_from k j f ≡ 0
unfolding sum_from
sum-none zero j f h = refl
sum-none (suc k) j f h = omega (arith, h j (omega arith), sum-none k (suc j) f (λ i l. h i (omega arith)))

-- what an argument adds
argument-adds : (N : Numbers) (t : List ℕ) (at j w p ty : ℕ) → j < word t at DETAIL / 256 % 8 →
    word t at (PARTS + j) ≡ p → word t p CLASS ≡ class_of ty → word t p VALUES ≡ values N ty →
    argument_weight t at j w ≡ questions (ty_of N ty) * w + answers (ty_of N ty)
unfolding argument_weight
argument-adds N t at j w p ty h e c v =
    rw (lt-ltb j (word t at DETAIL / 256 % 8) h, e, c, v, class-questions N ty, class-answers N ty) refl

argument-past : (t : List ℕ) (at j w : ℕ) → word t at DETAIL / 256 % 8 ≤ j → argument_weight t at j w ≡ 0
unfolding argument_weight
argument-past t at j w h = rw (le-ltb j (word t at DETAIL / 256 % 8) h)

module _ (N : Numbers) (ns : List Name) (t marks slots : List ℕ) (Γ : Context) (ε : Slots) (π : ℕ → ℕ)
    (level left at wants : ℕ) {rows after : List ℕ} {n a b c d m : ℕ}
    (P : Pieces t marks slots level left at wants rows after n a b c d m) (S : Site N ns t marks slots Γ ε π at level)
  where
    pub good-args : (ws : Writtens) (tys : List ℕ) → FineArgs N ns (binders Γ) ws tys →
        length (binders Γ) + 4 * (1 + depths ws) ≤ 128 → Good N ns t marks slots Γ ε π level left at wants P S ws
    unfolding FineArgs Good depths Few
    good-args none tys f l = tt
    good-args (more w ws) [] f l = absurd f
    good-args (more w ws) (ty ∷ tys) f l = (f.0, omega arith, good-args ws tys f.2 (omega arith))

    made-args : (ws : Writtens) (tys : List ℕ) → FineArgs N ns (binders Γ) ws tys →
        made_args N ns (binders Γ) (forms N ns Γ) (makes N ns Γ) ws tys ≡ sum_made N ns Γ ws
    unfolding FineArgs made_args sum_made
    made-args none tys f = refl
    made-args (more w ws) [] f = absurd f
    made-args (more w ws) (ty ∷ tys) f = omega (arith, made-args ws tys f.2)

    empty-args : (T : List ℕ) (k l : ℕ) → k ≡ l →
        (x : ExpandsArgs N ns (decode N ns T) Γ ε none [] k s.no_part l) × LocalArgs N ns T x
    unfolding LocalArgs
    empty-args T k l e = rw e (no_args, tt)

    got-args : (T : List ℕ) (ws : Writtens) (tys : List ℕ) (j : ℕ) → FineArgs N ns (binders Γ) ws tys →
        Got N ns t marks slots Γ ε π level left at wants P S T j ws →
        (x : ExpandsArgs N ns (decode N ns T) Γ ε ws tys (P.counts j) (parts_from N tys P.row j) m) × LocalArgs N ns
        T x
    unfolding FineArgs Got parts_from LocalArgs
    got-args T none [] j f g = empty-args T (P.counts j) m g
    got-args T none (ty ∷ tys) j f g = absurd f
    got-args T (more w ws) [] j f g = absurd f
    got-args T (more w ws) (ty ∷ tys) j f g =
        let y = got-args T ws tys (suc j) f.2 g.1 in
        (one_arg refl g.0.expands y.0, (g.0.local, y.1))

    -- what the arguments weigh
    args-weigh : (T : List ℕ) (ws : Writtens) (tys : List ℕ) (j k from end : ℕ) → j + k ≡ 4 →
        word t at DETAIL / 256 % 8 ≡ j + length tys → length tys ≤ k → ShownArgs N ns t Γ π at j from end ws tys →
        FineArgs N ns (binders Γ) ws tys → Got N ns t marks slots Γ ε π level left at wants P S T j ws →
        parts_weight (λ r. word T r WEIGHT) (parts_from N tys P.row j)
        ≡ sum_from k j (λ i. argument_weight t at i (word after (P.row i) WEIGHT))
    unfolding FineArgs Got parts_from parts_weight sum_from
    args-weigh T none [] j k from end e c l x f g =
        sym (sum-none k j (λ i. argument_weight t at i (word after (P.row i) WEIGHT))
        (λ i h. argument-past t at i (word after (P.row i) WEIGHT) (omega arith)))
    args-weigh T (more w ws) (ty ∷ tys) j zero from end e c l x f g = absurd (omega arith)
    args-weigh T (more w ws) (ty ∷ tys) j (suc k) from end e c l (shown_more {b = y} p x xs) f g =
        let row = (shown-row N ns t x).1 in
        let q : argument_weight t at j (word after (P.row j) WEIGHT)
        ≡ questions (ty_of N ty) * word after (P.row j) WEIGHT + answers (ty_of N ty) =
        argument-adds N t at j (word after (P.row j) WEIGHT) from ty (omega arith) p
        (row.classed ∙ ap class_of f.1) (row.valued ∙ ap (λ (i : ℕ). values N i) f.1) in
        rw (q, g.0.weighs, args-weigh T ws tys (suc j) k y end (omega arith) (omega arith) (omega arith) xs f.2 g.1)
        refl
    args-weigh T none (ty ∷ tys) j k from end e c l x f g = elim x [ ]
    args-weigh T (more w ws) [] j k from end e c l x f g = elim x [ ]

four-sum : (f : ℕ → ℕ) → sum_from 4 0 f ≡ f 0 + (f 1 + (f 2 + f 3))
unfolding sum_from
four-sum f = omega arith

detail-name : (t slots : List ℕ) (at : ℕ) → word t at KIND ≡ NAME → detail_of t slots at ≡ word t at DETAIL
unfolding detail_of
detail-name t slots at k = rw k

module _ (N : Numbers) (ns : List Name) (t marks slots : List ℕ) (Γ : Context) (ε : Slots) (π : ℕ → ℕ)
    (level left at end : ℕ) {rows after : List ℕ} {n m : ℕ} (C : Closed t marks slots level left at rows after n m)
    (S : Site N ns t marks slots Γ ε π at level)
    (R : (x y : ℕ) → at < x → x < y → y ≤ end → turns x y ≤ left)
    (Q : Passed Γ ε n) (Z : length rows ≡ TERM-WORDS) where
  -- the rows of the arguments are in its row
  part-words : (T : List ℕ) → Wrote N ns t marks slots Γ ε π level left at C S T → (i : ℕ) → i < 4 →
      word T n (PARTS + i) ≡ C.pieces.row i
  part-words T w zero h = w.first ∙ sym C.pieces.parts.0
  part-words T w (suc zero) h = w.second ∙ sym C.pieces.parts.1
  part-words T w (suc (suc zero)) h = w.third ∙ sym C.pieces.parts.2
  part-words T w (suc (suc (suc zero))) h = w.fourth ∙ sym C.pieces.parts.3
  part-words T w (suc (suc (suc (suc i)))) h = absurd (omega arith)

  -- its weight
  name-weighs : (T : List ℕ) (often : Often) (tys : List ℕ) → 2 + word t at DETAIL / ONCE % 2 ≡ use_weight often →
      parts_weight (λ r. word T r WEIGHT) (parts_from N tys C.pieces.row 0)
      ≡ sum_from 4 0 (λ i. argument_weight t at i (word C.between (C.pieces.row i) WEIGHT)) →
      name_weight t at (word C.between C.a WEIGHT) (word C.between C.b WEIGHT) (word C.between C.c
      WEIGHT)
      (word C.between C.d WEIGHT)
      ≡ use_weight often + parts_weight (λ r. word T r WEIGHT) (parts_from N tys C.pieces.row 0)
  unfolding name_weight
  name-weighs T often tys o e =
      let f : ℕ → ℕ = λ i. argument_weight t at i (word C.between (C.pieces.row i) WEIGHT) in
      let p = C.pieces.parts in
      let e₀ : f 0 ≡ argument_weight t at 0 (word C.between C.a WEIGHT) = rw p.0 refl in
      let e₁ : f 1 ≡ argument_weight t at 1 (word C.between C.b WEIGHT) = rw p.1 refl in
      let e₂ : f 2 ≡ argument_weight t at 2 (word C.between C.c WEIGHT) = rw p.2 refl in
      let e₃ : f 3 ≡ argument_weight t at 3 (word C.between C.d WEIGHT) = rw p.3 refl in
      omega (arith, o, e, four-sum f, e₀, e₁, e₂, e₃)

  pub name-row : (id ty from : ℕ) (often : Often) (tys : List ℕ) (ws : Writtens) →
      meaning ns (binders Γ) id ≡ named often ty tys → PartRow N ns t Γ NAME (call id ws) at end →
      word t at DETAIL ≡ name_detail id (length tys) often → length tys ≤ 4 →
      at < from → ShownArgs N ns t Γ π at 0 from end ws tys → Marked N ns t marks Γ at (call id ws) →
      Fine N ns (binders Γ) (call id ws) → Few Γ (call id ws) → n + rows_of N ns Γ (call id ws) ≤ ROWS →
      Expanded N ns Γ ε (call id ws) rows after n n m
  unfolding Local Marked Fine FineUse Few depth made by_meaning parts_of name_detail row_weight
  name-row id ty from often tys ws e p o l h x k f q r =
      let g : FineArgs N ns (binders Γ) ws tys = rw e at f.1 in
      let u : n + (1 + made_args N ns (binders Γ) (forms N ns Γ) (makes N ns Γ) ws tys) ≤ ROWS = rw e at r in
      let i : id < 255 = f.0 in
      let c : word t at DETAIL / 256 % 8 ≡ length tys = omega (arith, o, i, l, onces-below often) in
      let own : 2 + word t at DETAIL / ONCE % 2 ≡ use_weight often = omega (arith, o, i, l, onces-below often) in
      let y : many ws ≡ length tys = args-many x in
      let b : parts_of (word t at KIND) (word t at DETAIL) ≡ first_bits (many ws) = rw (p.kinded, c, y) refl in
      let P = C.pieces in
      let v : ℕ = parts_of (word t at KIND) (word t at DETAIL) in
      close N ns t marks slots Γ ε π level left at C S Γ ε (call id ws) ws tys from end (omega (arith, y, l)) b x k.1
      (good-args N ns t marks slots Γ ε π level left at v P S ws tys g q)
      (omega (arith, u, made-args N ns t marks slots Γ ε π level left at v P S ws tys g)) h R Q (λ T w. w) Z
      (λ T w z.
      let a = got-args N ns t marks slots Γ ε π level left at v P S T ws tys 0 g z in
      let a' : (X : ExpandsArgs N ns (decode N ns T) Γ ε ws tys (suc n) (parts_from N tys P.row 0) m)
      × LocalArgs N ns T X = rw (starts N ns t marks slots Γ ε π level left at C S (omega (arith, u))) at a in
      let c' = args-weigh N ns t marks slots Γ ε π level left at v P S T ws tys 0 4 from end (omega arith)
      (omega (arith, c)) l x g z in
      record {
        expands = of_name e a'.0 (row-name N ns T n id (length tys + 8 * onces often) ty often tys P.row
            (w.kinded ∙ p.kinded) (w.detailed ∙ (detail-name t slots at p.kinded ∙ o)) (omega (arith, i))
            (name-declared ns (binders Γ) id ty often tys e) (λ j d. part-words T w j (omega (arith, d, l))));
        local = (
          right N ns t marks slots Γ ε π level left at C S Γ (call id ws) end NAME T
              (s.name id often (ty_of N ty) (parts_from N tys P.row 0)) p w
              (weight-name t C.between at C.a C.b C.c C.d p.kinded ∙ name-weighs T often tys own c'),
          w.detailed ∙ (detail-name t slots at p.kinded ∙ o),
          a'.1,
        );
      })
