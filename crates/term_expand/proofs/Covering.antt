-- Every row that an expansion makes is so in words: its parts' rows have the types that it asks for. Document 02 [1].
use Prim.Native.Nat.{ℕ, zero, suc, ◌+◌, ◌-◌, ◌*◌, ◌≤◌, ◌<◌}
use native.Mathlib.Omega.{arith}
use native.Mathlib.Decide.{dec_le}
use native.Mathlib.Numerals.{add-one}
use mathlib.Core.Path.{◌≡◌, refl, sym, ap, ◌∙◌, subst}
use mathlib.Core.Logic.{◌⊎◌, inl, inr}
use mathlib.Core.Option.{Option, some}
use mathlib.Core.List.{List, [], ◌∷◌}
use lib.ListN.{length, get_or}
use borrow.Author.Tests.{lt-ltb, le-ltb, ne_eqb}
use Rattle.language.specs.Number.{code, from_byte, numbers}
use Rattle.language.proofs.NumberLaws.{code_below}
use Rattle.language.specs.Ty.{Ty, command, expression, variable, questions, answers}
use Rattle.language.specs.Term.{Operation, Often, onces}
use Rattle.language.specs.Typing.{operands, results}
use Rattle.language.specs.declared.Numbers.{Numbers}
use Rattle.language.specs.Weight.{use_weight}
use Rattle.sheet_parts.specs.Rule.{values, operand_type}
use Rattle.sheet_rows.specs.Row.{class_of, word}
use Rattle.sheet_written.specs.Environment.{beyond}
use Rattle.sheet_written.specs.Written.{Written, skip, diverge, truth, number, call, fetch, operate, assign, sequence}
use Rattle.sheet_written.specs.Written.{while, choose, new, Parameter, Writtens, Name}
use Rattle.sheet_written.specs.Meaning.{Binder, a_block, a_parameter, a_procedure, Meaning, private, argument, routine}
use Rattle.sheet_written.specs.Meaning.{named, retired, free, declared, meant, meaning, inside, types_of, after, typed}
use Rattle.sheet_written.specs.Meaning.{ty_of, use_type, some_value, by_meaning}
use Rattle.sheet_written.specs.Fine.{Fine, FineArgs, FineUse, FineParameters}
use Rattle.sheet_written.specs.Held.{held}
use Rattle.sheet_written.specs.Form.{Form, only, plus, times, instance, lower, form_of, form_args, formed}
use Rattle.sheet_written.specs.Occurs.{IsParameter, Each}
use Rattle.sheet_written.specs.Context.{Context, whole, in_block, in_procedure, in_scope, binders, forms, downs, uses}
use Rattle.sheet_written.specs.Context.{Sees, sees_it, from_block, from_procedure, from_scope}
use Rattle.sheet_written.specs.Shared as s
use Rattle.sheet_written.specs.Shared.{Parts, no_part, part, Row}
use Rattle.sheet_written.specs.Expand.{Slots, with_block, with_rows, operation, Expands, of_slot, of_scope, of_use}
use Rattle.sheet_written.specs.Expand.{of_skip, of_diverge, of_truth, of_number, of_private, of_name, of_fetch, of_operate}
use Rattle.sheet_written.specs.Expand.{of_assign, of_sequence, of_choose, of_while, of_new, ExpandsArgs, no_args, one_arg}
use Rattle.sheet_written.specs.Expand.{Passes, no_more, one_used, one_unused}
use Rattle.sheet_rows.specs.PartKind.{CLASS, VALUES, DETAIL, PARTS, WEIGHT}
use Rattle.sheet_written.specs.Table.{name_detail}
use Rattle.sheet_written.proofs.Numbering.{Below, beyond_below, beyond_above, beyond-at, all-declared, one-more-binder}
use Rattle.sheet_written.proofs.Contexts.{all-inside, sees_below, sees-form, sees-count, sees-parameter}
use Rattle.sheet_written.proofs.Alike.{each_left, each_right, each-times, each-argument, inside-parameter, parameter-below}
use Rattle.sheet_written.proofs.Factors.{some-operand, some-question}
use Rattle.sheet_written.proofs.Making.{grows, grows_args, grows-passes}
use Rattle.sheet_written.proofs.ComeUsed.{Uses, come-used}
use Rattle.sheet_written.proofs.WellTyped.{typed-below}
use Rattle.sheet_written.proofs.Types.{Class, class, a-command, an-expression, a-variable, ty-expression, ty-variable}
use Rattle.sheet_written.proofs.Types.{ty-command, ty-truth, ty-number, values-up, operands-type}
use Rattle.sheet_written.proofs.Types.{results-type}
use Rattle.sheet_rows.specs.Rep.{TyRow}
use Rattle.term_closing.specs.Rows.{decode, parts_from, row_weight, parts_weight}
use Rattle.term_expand.specs.Local.{Right, Local, LocalArgs, LocalPasses}
use Rattle.term_expand.specs.Types.{type_at}
use Rattle.term_expand.specs.Words as w
use Rattle.term_expand.specs.Words.{counted, argument_weights, Arguments, RowWords, Worded}
use Rattle.term_expand.proofs.Decoded.{Decoded, decoded, is-skip, is-diverge, is-const, is-private, is_name, is-fetch}
use Rattle.term_expand.proofs.Decoded.{is-operate, is-assign, is-seq, is-cond, is-while, is-new}
use Rattle.term_expand.proofs.ComeTypes.{ComesTyped, come-typed, type-outside, type-own, type-sees, longer}

-- the words of a type by its number are those of the type
ty_row : (N : Numbers) (u : List ℕ) (r ty : ℕ) → word u r CLASS ≡ class_of ty → word u r VALUES ≡ values N ty →
    TyRow u r (ty_of N ty)
unfolding TyRow class_of ty_of
ty_row N u r ty e f = go (class ty)
  where
    go : Class ty → TyRow u r (ty_of N ty)
    go (a-command h) = rw h (e ∙ rw h)
    go (an-expression h g) =
        rw (ty-expression N ty h g) (e ∙ rw (ne_eqb ty 0 (λ z. omega arith), lt-ltb ty 3 g), f)
    go (a-variable h) = rw (ty-variable N ty h) (e ∙ rw (ne_eqb ty 0 (λ z. omega arith), le-ltb ty 3 h), f)

-- what parts weigh
same-weights : (u : List ℕ) (xs : Parts) → parts_weight (λ a. word u a WEIGHT) xs ≡ argument_weights u xs
unfolding parts_weight argument_weights
same-weights u no_part = refl
same-weights u (part T a xs) = ap (λ v. questions T * word u a 1 + answers T + v) (same-weights u xs)

module _ (N : Numbers) (ns : List Name) (u : List ℕ) where
  abbrev R : ℕ → Option Row
  R = decode N ns u

  -- the row r has the type with a number
  pub record RowTyped (r ty : ℕ) : Type 0 where
    pub classed : word u r CLASS ≡ class_of ty
    pub valued : word u r VALUES ≡ values N ty

  pub typed-row : {r ty : ℕ} → RowTyped r ty → TyRow u r (ty_of N ty)
  typed-row {r} {ty} x = ty_row N u r ty x.classed x.valued

  row_as : {r ty : ℕ} (T : Ty) → ty_of N ty ≡ T → RowTyped r ty → TyRow u r T
  row_as {r} T e x = subst (λ S. TyRow u r S) e (typed-row x)

  retype : {r ty ty' : ℕ} → ty ≡ ty' → RowTyped r ty → RowTyped r ty'
  retype {r} e x = subst (λ n. RowTyped r n) e x

  -- the rows of the enclosing parameters have their types
  abbrev pub Slot : Slots → List Binder → ℕ → Type 0
  Slot ε bs s = RowTyped (ε.passed s) (type_at bs s)

  -- all that may be used has one of the five types
  abbrev pub Five : List Binder → Type 0
  Five bs = (id : ℕ) → use_type (meaning ns bs id) < 5

  five-block : (id d : ℕ) (bs : List Binder) → d < 3 → Five bs → Five (a_block id d ∷ bs)
  unfolding use_type meant
  five-block id d bs h k = one-more-binder (λ m. use_type m < 5) ns (a_block id d) bs (omega arith) (λ j b. k j)

  five-after : (id ty : ℕ) (ps : List Parameter) (bs : List Binder) → ty < 5 → Five bs → Five (after id ty ps bs)
  unfolding use_type meant after
  five-after id ty ps bs h k =
      one-more-binder (λ m. use_type m < 5) ns (a_procedure id ty (types_of ps)) bs h (λ j b. k j)

  five-inside : (ps earlier : List Parameter) (bs : List Binder) → FineParameters ns earlier ps → Five bs →
      Five (inside ps bs)
  unfolding use_type meant inside FineParameters
  five-inside [] earlier bs f k = k
  five-inside (p ∷ ps) earlier bs f k =
      let b : Binder = a_parameter p.id p.holds in
      five-inside ps (p ∷ earlier) (b ∷ bs) f.4
      (one-more-binder (λ m. use_type m < 5) ns b bs f.3 (λ j l. k j))

  -- the terms of the procedures of a context are in order and have their result types
  unfoldable pub TypedIn : Context → Type 0
  TypedIn whole = Unit
  TypedIn (in_block id d Γ) = TypedIn Γ
  TypedIn (in_procedure ps Γ) = TypedIn Γ
  TypedIn (in_scope id ty ps body Γ) =
      Fine N ns (inside ps (binders Γ)) body × (typed ns (inside ps (binders Γ)) body ≡ ty)
      × Five (inside ps (binders Γ)) × TypedIn Γ

  typed-comes : (Γ : Context) → TypedIn Γ → ComesTyped N ns Γ
  unfolding TypedIn ComesTyped binders downs
  typed-comes whole t = tt
  typed-comes (in_block id d Γ) t = typed-comes Γ t
  typed-comes (in_procedure ps Γ) t = typed-comes Γ t
  typed-comes (in_scope id ty ps body Γ) t = (
    λ i e. sym t.1 ∙ come-typed N ns body (in_procedure ps Γ) t.0 (typed-comes Γ t.3) i e,
    typed-comes Γ t.3,
  )

  typed-sees : {Γ Δ : Context} {ps : List Parameter} {body : Written} → Sees Γ Δ ps body → TypedIn Γ →
      TypedIn Δ × Fine N ns (inside ps (binders Δ)) body × Five (inside ps (binders Δ))
  unfolding TypedIn
  typed-sees sees_it t = (t.3, t.0, t.2)
  typed-sees (from_block x) t = typed-sees x t
  typed-sees (from_procedure x) t = typed-sees x t
  typed-sees (from_scope x) t = typed-sees x t.3

  -- the rows of the enclosing news say how many values their variables have
  unfoldable pub Blocks : Context → (ℕ → ℕ) → Type 0
  Blocks whole β = Unit
  Blocks (in_block id d Γ) β =
      (0 < d) × (d < 3) × (word u (β (length (binders Γ))) DETAIL ≡ values N d) × Blocks Γ β
  Blocks (in_procedure ps Γ) β = Blocks Γ β
  Blocks (in_scope id ty ps body Γ) β = Blocks Γ β

  blocks-sees : {Γ Δ : Context} {ps : List Parameter} {body : Written} (β : ℕ → ℕ) → Sees Γ Δ ps body → Blocks Γ β →
      Blocks Δ β
  unfolding Blocks
  blocks-sees β sees_it b = b
  blocks-sees β (from_block x) b = blocks-sees β x b.3
  blocks-sees β (from_procedure x) b = blocks-sees β x b
  blocks-sees β (from_scope x) b = blocks-sees β x b

  blocks-agree : (Γ : Context) (β γ : ℕ → ℕ) → ((k : ℕ) → k < length (binders Γ) → γ k ≡ β k) → Blocks Γ β → Blocks Γ γ
  unfolding Blocks binders after
  blocks-agree whole β γ f b = tt
  blocks-agree (in_block id d Γ) β γ f b = (
    b.0,
    b.1,
    ap (λ r. word u r DETAIL) (f (length (binders Γ)) (omega arith)) ∙ b.2,
    blocks-agree Γ β γ (λ k l. f k (omega arith)) b.3,
  )
  blocks-agree (in_procedure ps Γ) β γ f b =
      blocks-agree Γ β γ (λ k l. f k (omega (arith, longer ps (binders Γ)))) b
  blocks-agree (in_scope id ty ps body Γ) β γ f b = blocks-agree Γ β γ (λ k l. f k (omega arith)) b

  -- what a use means, by the words
  unfoldable Meant : Context → (ℕ → ℕ) → Meaning → Type 0
  Meant Γ β (private k d) = (0 < d) × (d < 3) × (word u (β k) DETAIL ≡ values N d)
  Meant Γ β (argument k ty) = Unit
  Meant Γ β (routine k ty tys) = (Δ : Context) (ps : List Parameter) (body : Written) → Sees Γ Δ ps body →
      length (binders Δ) ≡ k → (typed ns (inside ps (binders Δ)) body ≡ ty) × (types_of ps ≡ tys)
  Meant Γ β (named often ty tys) = Unit
  Meant Γ β retired = Unit
  Meant Γ β free = Unit

  -- what is meant in a context is so, with one thing more around it
  meant-block : (i d : ℕ) (Γ : Context) (β : ℕ → ℕ) (m : Meaning) → Meant Γ β m → Meant (in_block i d Γ) β m
  unfolding Meant
  meant-block i d Γ β (private k e) h = h
  meant-block i d Γ β (argument k ty) h = tt
  meant-block i d Γ β (routine k ty tys) h = λ Δ ps body x e. go Δ ps body x e
    where
      go : (Δ : Context) (ps : List Parameter) (body : Written) → Sees (in_block i d Γ) Δ ps body →
          length (binders Δ) ≡ k → (typed ns (inside ps (binders Δ)) body ≡ ty) × (types_of ps ≡ tys)
      go Δ ps body (from_block x) e = h Δ ps body x e
  meant-block i d Γ β (named often ty tys) h = tt
  meant-block i d Γ β retired h = tt
  meant-block i d Γ β free h = tt

  meant-procedure : (qs : List Parameter) (Γ : Context) (β : ℕ → ℕ) (m : Meaning) → Meant Γ β m →
      Meant (in_procedure qs Γ) β m
  unfolding Meant
  meant-procedure qs Γ β (private k e) h = h
  meant-procedure qs Γ β (argument k ty) h = tt
  meant-procedure qs Γ β (routine k ty tys) h = λ Δ ps body x e. go Δ ps body x e
    where
      go : (Δ : Context) (ps : List Parameter) (body : Written) → Sees (in_procedure qs Γ) Δ ps body →
          length (binders Δ) ≡ k → (typed ns (inside ps (binders Δ)) body ≡ ty) × (types_of ps ≡ tys)
      go Δ ps body (from_procedure x) e = h Δ ps body x e
  meant-procedure qs Γ β (named often ty tys) h = tt
  meant-procedure qs Γ β retired h = tt
  meant-procedure qs Γ β free h = tt

  meant-scope : (i t : ℕ) (qs : List Parameter) (b : Written) (Γ : Context) (β : ℕ → ℕ) (m : Meaning) →
      Below (length (binders Γ)) m → Meant Γ β m → Meant (in_scope i t qs b Γ) β m
  unfolding Meant Below
  meant-scope i t qs b Γ β (private k e) l h = h
  meant-scope i t qs b Γ β (argument k ty) l h = tt
  meant-scope i t qs b Γ β (routine k ty tys) l h = λ Δ ps body x e. go Δ ps body x e
    where
      go : (Δ : Context) (ps : List Parameter) (body : Written) → Sees (in_scope i t qs b Γ) Δ ps body →
          length (binders Δ) ≡ k → (typed ns (inside ps (binders Δ)) body ≡ ty) × (types_of ps ≡ tys)
      go Δ ps body sees_it e = absurd (omega arith)
      go Δ ps body (from_scope x) e = h Δ ps body x e
  meant-scope i t qs b Γ β (named often ty tys) l h = tt
  meant-scope i t qs b Γ β retired l h = tt
  meant-scope i t qs b Γ β free l h = tt

  meant-right : (Γ : Context) (β : ℕ → ℕ) → TypedIn Γ → Blocks Γ β → (id : ℕ) → Meant Γ β (meaning ns (binders Γ) id)
  unfolding TypedIn Blocks Meant binders after meaning meant
  meant-right whole β t b id = all-declared (Meant whole β) ns id (λ often ty tys. tt) tt tt
  meant-right (in_block i d Γ) β t b id =
      one-more-binder (Meant (in_block i d Γ) β) ns (a_block i d) (binders Γ) (b.0, b.1, b.2)
      (λ j l. meant-block i d Γ β (meaning ns (binders Γ) j) (meant-right Γ β t b.3 j)) id
  meant-right (in_procedure ps Γ) β t b id =
      all-inside (Meant (in_procedure ps Γ) β) ns ps (binders Γ) (λ k ty. tt)
      (λ j. meant-procedure ps Γ β (meaning ns (binders Γ) j) (meant-right Γ β t b j)) id
  meant-right (in_scope i ty ps body Γ) β t b id =
      one-more-binder (Meant (in_scope i ty ps body Γ) β) ns (a_procedure i ty (types_of ps)) (binders Γ)
      (λ Δ qs c x e. itself i ty ps body Γ t.1 Δ qs c x e)
      (λ j l. meant-scope i ty ps body Γ β (meaning ns (binders Γ) j) l (meant-right Γ β t.3 b j)) id
    where
      itself : (i ty : ℕ) (ps : List Parameter) (body : Written) (Γ : Context) →
          typed ns (inside ps (binders Γ)) body ≡ ty → (Δ : Context) (qs : List Parameter) (c : Written) →
          Sees (in_scope i ty ps body Γ) Δ qs c → length (binders Δ) ≡ length (binders Γ) →
          (typed ns (inside qs (binders Δ)) c ≡ ty) × (types_of qs ≡ types_of ps)
      itself i ty ps body Γ h Δ qs c sees_it e = (h, refl)
      itself i ty ps body Γ h Δ qs c (from_scope x) e = absurd (omega (arith, sees_below x))

  private-means : (Γ : Context) (β : ℕ → ℕ) (id k d : ℕ) → TypedIn Γ → Blocks Γ β →
      meaning ns (binders Γ) id ≡ private k d → (0 < d) × (d < 3) × (word u (β k) DETAIL ≡ values N d)
  unfolding Meant
  private-means Γ β id k d t b e = let h = meant-right Γ β t b id in rw e at h

  routine-means : (Γ Δ : Context) (β : ℕ → ℕ) (id ty : ℕ) (tys : List ℕ) (ps : List Parameter) (body : Written) →
      TypedIn Γ → Blocks Γ β → meaning ns (binders Γ) id ≡ routine (length (binders Δ)) ty tys → Sees Γ Δ ps body →
      (typed ns (inside ps (binders Δ)) body ≡ ty) × (types_of ps ≡ tys)
  unfolding Meant
  routine-means Γ Δ β id ty tys ps body t b e x =
      let h = meant-right Γ β t b id in
      let g = rw e at h in
      g Δ ps body x refl

  -- rows one after the other
  pub record Covered (n m : ℕ) : Type 0 where
    pub rows : (i : ℕ) → n ≤ i → i < m → (x : Row) × (T : Ty) × (R i ≡ some x) × Worded N u i x T

  no_rows : (n : ℕ) → Covered n n
  no_rows n = record { rows = λ i a b. absurd (omega arith) }

  join : {n i m : ℕ} → Covered n i → Covered i m → Covered n m
  join {n} {i} {m} x y = record { rows = λ j a b. go j a b (dec_le i j) }
    where
      go : (j : ℕ) → n ≤ j → j < m → Dec (i ≤ j) → (z : Row) × (T : Ty) × (R j ≡ some z) × Worded N u j z T
      go j a b (yes h) = y.rows j h b
      go j a b (no h) = x.rows j a (omega arith)

  one-row : (n : ℕ) (x : Row) (T : Ty) → R n ≡ some x → Worded N u n x T → Covered n (suc n)
  one-row n x T e h = record {
    rows = λ i a b.
        let z : n ≤ i × (i ≤ n) = (a, omega arith) in
        subst (λ j. (y : Row) × (S : Ty) × (R j ≡ some y) × Worded N u j y S) (same n i a (omega arith)) (x, T, e, h);
  }
    where
      same : (n i : ℕ) → n ≤ i → i ≤ n → n ≡ i
      same n i a b = omega arith

  -- what the words of a row say
  abbrev Coded : ℕ → Row → Type 0
  Coded n x = Decoded N ns (word u n 0) (word u n DETAIL) (λ j. word u n (PARTS + j)) x

  coded : (n : ℕ) (x : Row) → R n ≡ some x → Coded n x
  unfolding decode
  coded n x e = decoded N ns (word u n 0) (word u n DETAIL) (λ j. word u n (PARTS + j)) x e

  row_words : {Γ : Context} {W : Written} {n kind : ℕ} {x : Row} {T : Ty} → n < 12288 → word u n 0 ≡ kind →
      Right N ns u Γ W n x → ty_of N (typed ns (binders Γ) W) ≡ T → RowWords u n kind (row_weight (λ a. word u a 1) x) T
  unfolding held
  row_words {n = n} {T = T} l k r e = record {
    inside = l;
    kinded = k;
    weighed = r.weighed;
    typed = subst (λ S. TyRow u n S) e (ty_row N u n _ r.classed r.valued);
  }

  module _ (Γ : Context) (n : ℕ) (l : n < 12288) where
    abbrev bs : List Binder
    bs = binders Γ

    worded-skip : Coded n s.skip → Right N ns u Γ skip n s.skip → Worded N u n s.skip command
    unfolding row_weight typed
    worded-skip (is-skip k) r = w.of_skip (row_words l k r (ty-command N))

    worded-diverge : {ty : ℕ} → Coded n s.diverge → Right N ns u Γ (diverge ty) n s.diverge →
        Worded N u n s.diverge (ty_of N ty)
    unfolding row_weight typed
    worded-diverge (is-diverge k) r = w.of_diverge (row_words l k r refl)

    worded-truth : {b : ℕ} → Coded n (s.const b) → Right N ns u Γ (truth b) n (s.const b) → b < 2 →
        Worded N u n (s.const b) (expression 2)
    unfolding row_weight typed
    worded-truth (is-const k e) r h = w.of_const (row_words l k r (ty-truth N)) e h

    worded-number : {b v : ℕ} → Coded n (s.const v) → Right N ns u Γ (number b) n (s.const v) → v < numbers N →
        Worded N u n (s.const v) (expression (numbers N))
    unfolding row_weight typed
    worded-number (is-const k e) r h = w.of_const (row_words l k r (ty-number N)) e h

    worded-private : {id j d b : ℕ} {ws : Writtens} → Coded n (s.private b) →
        Right N ns u Γ (call id ws) n (s.private b) → meaning ns bs id ≡ private j d → 0 < d → d < 3 →
        word u b DETAIL ≡ values N d → Worded N u n (s.private b) (variable (values N d))
    unfolding row_weight typed use_type
    worded-private {id} {j} {d} (is-private k e) r q a b f =
        let y : ty_of N (2 + d) ≡ variable (values N d) =
        ty-variable N (2 + d) (omega arith) ∙ ap (λ i. variable (values N i)) (omega arith) ∙
        ap variable (values-up N d a b) in
        w.of_private (row_words l k r (ap (λ m. ty_of N (use_type m)) q ∙ y)) e f

    worded-fetch : {a : ℕ} {x : Written} → Coded n (s.fetch a) → Right N ns u Γ (fetch x) n (s.fetch a) →
        RowTyped a (typed ns bs x) → 3 ≤ typed ns bs x → typed ns bs x < 5 →
        Worded N u n (s.fetch a) (expression (values N (typed ns bs x)))
    unfolding row_weight typed
    worded-fetch {a} {x} (is-fetch k e) r h g b =
        let ty : ℕ = typed ns bs x in
        let y : ty_of N (ty - 2) ≡ expression (values N ty) =
        ty-expression N (ty - 2) (omega arith) (omega arith) ∙
        ap expression (sym (values-up N (ty - 2) (omega arith) (omega arith)) ∙ ap (values N) (omega arith)) in
        w.of_fetch (row_words l k r y) e (row_as (variable (values N ty)) (ty-variable N ty g) h)

    -- the operator of an operation's row
    operator-word : {m a b : ℕ} {o : Operation} → Coded n (s.operate m o a b) →
        (word u n 0 ≡ 22) × (word u n DETAIL ≡ o.operator) × (word u n 5 ≡ a) × (word u n 6 ≡ b)
    operator-word (is-operate k o m p q) = (k, ap (λ (z : Operation). z.operator) o, p, q)

    worded-operate : {op a b : ℕ} {x y : Written} →
        Coded n (s.operate (operands (operation N op)) (operation N op) a b) →
        Right N ns u Γ (operate op x y) n (s.operate (operands (operation N op)) (operation N op) a b) → op < 9 →
        RowTyped a (typed ns bs x) → typed ns bs x ≡ operand_type op → RowTyped b (typed ns bs y) →
        typed ns bs y ≡ operand_type op →
        Worded N u n (s.operate (operands (operation N op)) (operation N op) a b)
        (expression (results (operation N op)))
    unfolding row_weight typed
    worded-operate {op} {a} {b} {x} {y} c r h g e i f =
        let z = operator-word c in
        w.of_operate refl (row_words l z.0 r (results-type N op)) z.1 h z.2 z.3
        (row_as _ (ap (ty_of N) e ∙ operands-type N op) g) (row_as _ (ap (ty_of N) f ∙ operands-type N op) i)

    worded-assign : {a b : ℕ} {x y : Written} → Coded n (s.assign (values N (typed ns bs x)) a b) →
        Right N ns u Γ (assign x y) n (s.assign (values N (typed ns bs x)) a b) → RowTyped a (typed ns bs x) →
        3 ≤ typed ns bs x → typed ns bs x < 5 → RowTyped b (typed ns bs y) → typed ns bs y + 2 ≡ typed ns bs x →
        Worded N u n (s.assign (values N (typed ns bs x)) a b) command
    unfolding row_weight typed
    worded-assign {a} {b} {x} {y} (is-assign k e p q) r g c d h f =
        let ty : ℕ = typed ns bs x in
        let z : ty_of N (typed ns bs y) ≡ expression (values N ty) =
        ty-expression N (typed ns bs y) (omega arith) (omega arith) ∙
        ap expression (sym (values-up N (typed ns bs y) (omega arith) (omega arith)) ∙ ap (values N) f) in
        w.of_assign (row_words l k r (ty-command N)) (some_value N ty) p q
        (row_as (variable (values N ty)) (ty-variable N ty c) g) (row_as _ z h)

    worded-seq : {a b : ℕ} {x y : Written} → Coded n (s.seq a b) → Right N ns u Γ (sequence x y) n (s.seq a b) →
        RowTyped a (typed ns bs x) → typed ns bs x ≡ 0 → RowTyped b (typed ns bs y) →
        Worded N u n (s.seq a b) (ty_of N (typed ns bs y))
    unfolding row_weight typed
    worded-seq (is-seq k p q) r g e h =
        w.of_seq (row_words l k r refl) p q (row_as command (ap (ty_of N) e ∙ ty-command N) g) (typed-row h)

    worded-cond : {a b c : ℕ} {q x y : Written} → Coded n (s.cond a b c) →
        Right N ns u Γ (choose q x y) n (s.cond a b c) →
        RowTyped a (typed ns bs q) → typed ns bs q ≡ 1 → RowTyped b (typed ns bs x) → RowTyped c (typed ns bs y) →
        typed ns bs y ≡ typed ns bs x → Worded N u n (s.cond a b c) (ty_of N (typed ns bs x))
    unfolding row_weight typed
    worded-cond (is-cond k d p q) r g e h i f =
        w.of_cond (row_words l k r refl) d p q (row_as (expression 2) (ap (ty_of N) e ∙ ty-truth N) g) (typed-row h)
        (row_as _ (ap (ty_of N) f) i)

    worded-while : {a b : ℕ} {x y : Written} → Coded n (s.while a b) → Right N ns u Γ (while x y) n (s.while a b) →
        RowTyped a (typed ns bs x) → typed ns bs x ≡ 1 → RowTyped b (typed ns bs y) → typed ns bs y ≡ 0 →
        Worded N u n (s.while a b) command
    unfolding row_weight typed
    worded-while (is-while k p q) r g e h f =
        w.of_while (row_words l k r (ty-command N)) p q (row_as (expression 2) (ap (ty_of N) e ∙ ty-truth N) g)
        (row_as command (ap (ty_of N) f ∙ ty-command N) h)

    worded-new : {id d a : ℕ} {x : Written} → Coded n (s.new (values N d) a) →
        Right N ns u Γ (new id d x) n (s.new (values N d) a) → RowTyped a 0 →
        Worded N u n (s.new (values N d) a) command
    unfolding row_weight typed
    worded-new (is-new k e p) r h =
        w.of_new (row_words l k r (ty-command N)) e p (row_as command (ty-command N) h)

  -- the arguments of a name
  unfoldable AllTyped : Parts → Type 0
  AllTyped no_part = Unit
  AllTyped (part T a xs) = TyRow u a T × AllTyped xs

  arguments-from : (n : ℕ) (tys : List ℕ) (j : ℕ) → AllTyped (parts_from N tys (λ i. word u n (PARTS + i)) j) →
      Arguments u n j (parts_from N tys (λ i. word u n (PARTS + i)) j)
  unfolding parts_from AllTyped Arguments
  arguments-from n [] j h = tt
  arguments-from n (ty ∷ tys) j h = (refl, h.0, rw (add-one j) (arguments-from n tys (suc j) h.1))

  counted-from : (f : ℕ → ℕ) (tys : List ℕ) (j : ℕ) → counted (parts_from N tys f j) ≡ length tys
  unfolding parts_from counted
  counted-from f [] j = refl
  counted-from f (ty ∷ tys) j = ap suc (counted-from f tys (suc j))

  counted-args : {Γ : Context} {ε : Slots} {ws : Writtens} {tys : List ℕ} {n m : ℕ} {xs : Parts} →
      ExpandsArgs N ns R Γ ε ws tys n xs m → counted xs ≡ length tys
  unfolding counted
  counted-args no_args = refl
  counted-args (one_arg e x y) = ap suc (counted-args y)

  worded-name : {Γ : Context} {n id ty : ℕ} {often : Often} {tys : List ℕ} {ws : Writtens} {xs : Parts} → n < 12288 →
      ((i ty : ℕ) (often : Often) (tys : List ℕ) → declared ns i ≡ named often ty tys → length tys ≤ 4) →
      Coded n (s.name id often (ty_of N ty) xs) →
      Right N ns u Γ (call id ws) n (s.name id often (ty_of N ty) xs) → meaning ns (binders Γ) id ≡ named often ty tys →
      word u n DETAIL ≡ name_detail id (length tys) often → counted xs ≡ length tys → id < 255 → AllTyped xs →
      Worded N u n (s.name id often (ty_of N ty) xs) (ty_of N ty)
  unfolding row_weight typed use_type name_detail
  worded-name {Γ} {n} {id} {ty} {often} {tys} {ws} {xs} l few (is_name {ty = b} {often = q} {tys = cs} k d i y p) r e h
      c f a =
      let z : counted xs ≡ length cs =
      ap counted (sym p) ∙ counted-from (λ j. word u n (PARTS + j)) cs 0 in
      let g : Arguments u n 0 xs =
      subst (λ q. Arguments u n 0 q) p
      (arguments-from n cs 0 (subst AllTyped (sym p) a)) in
      let v : RowWords u n 20 (use_weight often + parts_weight (λ j. word u j 1) xs) (ty_of N ty) =
      row_words l k r (ap (λ m. ty_of N (use_type m)) e) in
      w.of_name {i = id} (subst (λ o. RowWords u n 20 (use_weight often + o) (ty_of N ty)) (same-weights u xs) v)
      (omega arith) (h ∙ ap (λ q. id + 256 * (q + 8 * onces often)) (sym c)) (omega (arith, z, few _ b q cs d)) g

  -- what the term of a procedure is given where it is used
  slots-use : (Γ Δ : Context) (ps : List Parameter) (body : Written) (f : Form) (fs : ℕ → Form) (ε : Slots)
      (rows : ℕ → ℕ) → Sees Γ Δ ps body →
      Each (binders Γ) (instance (length (binders Δ)) (length ps) f fs) (Slot ε (binders Γ)) →
      ((j : ℕ) → j < length ps → 0 < f.of (length (binders Δ) + j) → RowTyped (rows j) (get_or (types_of ps) j 0)) →
      Each (inside ps (binders Δ)) f (Slot (with_rows (length (binders Δ)) rows ε) (inside ps (binders Δ)))
  unfolding instance lower plus with_rows
  slots-use Γ Δ ps body f fs ε rows x a h s z l = go (inside-parameter ps (binders Δ) s z)
    where
      go : IsParameter (binders Δ) s ⊎ ((j : ℕ) × (j < length ps) × (s ≡ length (binders Δ) + j)) →
          RowTyped (beyond (length (binders Δ)) ε.passed rows s) (type_at (inside ps (binders Δ)) s)
      go (inl y) =
          let k : ℕ = length (binders Δ) in
          let b : s < k = parameter-below (binders Δ) s y in
          let g : RowTyped (ε.passed s) (type_at (binders Γ) s) =
          a s (sees-parameter s x y) (rw (lt-ltb s k b) (omega arith)) in
          rw (beyond_below k ε.passed rows s b)
          (retype ((type-sees x s b).0 ∙ sym (type-outside ps (binders Δ) s b)) g)
      go (inr (j, b, i)) =
          let k : ℕ = length (binders Δ) in
          let l' : 0 < f.of (k + j) = rw i at l in
          rw (i, beyond_above k ε.passed rows j) (retype (sym (type-own ps (binders Δ) j)) (h j b l'))

  -- arguments that a procedure uses are right, and all rows that they make
  pub record PassesRight (bs : List Binder) (used rows : ℕ → ℕ) (j count n m : ℕ) (tys : List ℕ) : Type 0 where
    pub types : (i : ℕ) → i < count → 0 < used (j + i) → RowTyped (rows (j + i)) (get_or tys i 0)
    pub covered : Covered n m

  one-more-of : (j o : ℕ) → j + suc o ≡ suc j + o
  one-more-of j o = omega arith

  passes-first : (bs : List Binder) (used rows : ℕ → ℕ) (j count ty : ℕ) {n i m : ℕ} (tys : List ℕ) →
      RowTyped (rows j) ty → Covered n i → PassesRight bs used rows (suc j) count i m tys →
      PassesRight bs used rows j (suc count) n m (ty ∷ tys)
  passes-first bs used rows j count ty tys x c k = record { types = λ o l h. go o l h; covered = join c k.covered }
    where
      go : (o : ℕ) → o < suc count → 0 < used (j + o) → RowTyped (rows (j + o)) (get_or (ty ∷ tys) o 0)
      go zero l h = let e : j + 0 ≡ j = omega arith in rw e x
      go (suc o) l h =
          let e : j + suc o ≡ suc j + o = one-more-of j o in
          let h' : 0 < used (suc j + o) = rw e at h in
          rw e (k.types o (omega arith) h')

  passes-later : (bs : List Binder) (used rows : ℕ → ℕ) (j count ty : ℕ) {n m : ℕ} (tys : List ℕ) → used j ≡ 0 →
      PassesRight bs used rows (suc j) count n m tys → PassesRight bs used rows j (suc count) n m (ty ∷ tys)
  passes-later bs used rows j count ty tys u k = record { types = λ o l h. go o l h; covered = k.covered }
    where
      go : (o : ℕ) → o < suc count → 0 < used (j + o) → RowTyped (rows (j + o)) (get_or (ty ∷ tys) o 0)
      go zero l h =
          let e : j + 0 ≡ j = omega arith in
          let h' : 0 < used j = rw e at h in
          absurd (omega (arith, u))
      go (suc o) l h =
          let e : j + suc o ≡ suc j + o = one-more-of j o in
          let h' : 0 < used (suc j + o) = rw e at h in
          rw e (k.types o (omega arith) h')

  from_first : (bs : List Binder) (used rows : ℕ → ℕ) (count n m : ℕ) (tys : List ℕ) →
      PassesRight bs used rows 0 count n m tys → (j : ℕ) → j < count → 0 < used j → RowTyped (rows j) (get_or tys j 0)
  from_first bs used rows count n m tys k j l h =
      let e : 0 + j ≡ j = omega arith in
      let h' : 0 < used (0 + j) = rw e h in
      let x = k.types j l h' in
      rw e at x

  -- the use has the type of the procedure
  use-typed : (Γ : Context) (id k ty : ℕ) (tys : List ℕ) (ws : Writtens) →
      meaning ns (binders Γ) id ≡ routine k ty tys → typed ns (binders Γ) (call id ws) ≡ ty
  unfolding typed use_type
  use-typed Γ id k ty tys ws e = ap use_type e

  use-args : (Γ : Context) (id k ty : ℕ) (tys : List ℕ) (ws : Writtens) →
      meaning ns (binders Γ) id ≡ routine k ty tys → Fine N ns (binders Γ) (call id ws) →
      FineArgs N ns (binders Γ) ws tys
  unfolding Fine FineUse
  use-args Γ id k ty tys ws e f = let g = f.1 in rw e at g

  name-args : (Γ : Context) (id ty : ℕ) (often : Often) (tys : List ℕ) (ws : Writtens) →
      meaning ns (binders Γ) id ≡ named often ty tys → Fine N ns (binders Γ) (call id ws) →
      FineArgs N ns (binders Γ) ws tys
  unfolding Fine FineUse
  name-args Γ id ty often tys ws e f = let g = f.1 in rw e at g

  use-each : (Γ Δ : Context) (ε : Slots) (id ty : ℕ) (tys : List ℕ) (ws : Writtens) (ps : List Parameter)
      (body : Written) → meaning ns (binders Γ) id ≡ routine (length (binders Δ)) ty tys → Sees Γ Δ ps body →
      Each (binders Γ) (form_of N ns (binders Γ) (forms N ns Γ) (call id ws)) (Slot ε (binders Γ)) →
      Each (binders Γ) (instance (length (binders Δ)) (length ps)
      (form_of N ns (inside ps (binders Δ)) (forms N ns Δ) body)
      (λ j. formed N ns (binders Γ) (forms N ns Γ) ws j)) (Slot ε (binders Γ))
  unfolding form_of by_meaning
  use-each Γ Δ ε id ty tys ws ps body e x a =
      let b = rw e at a in rw (sees-form N ns x, sees-count N ns x) at b

  name-each : (Γ : Context) (ε : Slots) (id ty : ℕ) (often : Often) (tys : List ℕ) (ws : Writtens) →
      meaning ns (binders Γ) id ≡ named often ty tys →
      Each (binders Γ) (form_of N ns (binders Γ) (forms N ns Γ) (call id ws)) (Slot ε (binders Γ)) →
      Each (binders Γ) (form_args N ns (binders Γ) (forms N ns Γ) ws tys) (Slot ε (binders Γ))
  unfolding form_of by_meaning
  name-each Γ ε id ty often tys ws e a =
      let b = rw e at a in
      each_right (binders Γ) (only (use_weight often)) (form_args N ns (binders Γ) (forms N ns Γ) ws tys) b

  -- the blocks around a new's block
  blocks-new : (Γ : Context) (ε : Slots) (id d n a : ℕ) → 0 < d → d < 3 → Coded n (s.new (values N d) a) →
      Blocks Γ ε.block → Blocks (in_block id d Γ) (with_block (length (binders Γ)) n ε).block
  unfolding Blocks with_block
  blocks-new Γ ε id d n a h g c b =
      let k : ℕ = length (binders Γ) in (
        h,
        g,
        ap (λ r. word u r DETAIL) (beyond-at k ε.block (λ j. n)) ∙ new_word c,
        blocks-agree Γ ε.block (beyond k ε.block (λ j. n)) (λ j l. beyond_below k ε.block (λ i. n) j l) b,
      )
    where
      new_word : {m a : ℕ} → Coded n (s.new m a) → word u n DETAIL ≡ m
      new_word (is-new k e p) = e

  right-type : {Γ : Context} {W : Written} {n : ℕ} {x : Row} → Right N ns u Γ W n x →
      RowTyped n (typed ns (binders Γ) W)
  right-type r = record { classed = r.classed; valued = r.valued }

  used-here : (Δ : Context) (ps : List Parameter) (body : Written) (i : ℕ) → 0 < uses N ns Δ ps body (0 + i) →
      0 < (form_of N ns (inside ps (binders Δ)) (forms N ns Δ) body).of (length (binders Δ) + i)
  unfolding uses
  used-here Δ ps body i h = let e : 0 + i ≡ i = omega arith in rw e at h

  used-there : (Δ : Context) (ps : List Parameter) (body : Written) (i : ℕ) →
      0 < (form_of N ns (inside ps (binders Δ)) (forms N ns Δ) body).of (length (binders Δ) + i) →
      0 < uses N ns Δ ps body i
  unfolding uses
  used-there Δ ps body i h = h

  -- THEOREM: an expansion's row has the type of the part, and all rows that it makes are so in words
  module _ (few : (i ty : ℕ) (often : Often) (tys : List ℕ) → declared ns i ≡ named often ty tys → length tys ≤ 4) where
    mutual
      unfolding form_of form_args formed binders forms after IsParameter type_at typed Fine FineArgs TypedIn Blocks Local
          LocalArgs LocalPasses with_block with_rows AllTyped types_of

      pub cover : {Γ : Context} {ε : Slots} {W : Written} {n r m : ℕ} (x : Expands N ns R Γ ε W n r m) →
          Local N ns u x → Fine N ns (binders Γ) W → TypedIn Γ → Five (binders Γ) → Blocks Γ ε.block →
          Each (binders Γ) (form_of N ns (binders Γ) (forms N ns Γ) W) (Slot ε (binders Γ)) → m ≤ 12288 →
          RowTyped r (typed ns (binders Γ) W) × Covered n m
      cover (of_slot {Γ = Γ} {ε = ε} {W = W} {n = n} {s = s} e h) lo f t g b a c =
          let v : Uses (binders Γ) (form_of N ns (binders Γ) (forms N ns Γ) W) s = come-used N ns W Γ s e in
          let z : RowTyped (ε.passed s) (typed ns (binders Γ) W) =
          retype (sym (come-typed N ns W Γ f (typed-comes Γ t) s e)) (a s v.0 v.1) in
          (subst (λ q. RowTyped q (typed ns (binders Γ) W)) (sym h) z, no_rows n)
      cover (of_scope {Γ = Γ} {id = id} {ty = ty} {ps = ps} {body = body} x) lo f t g b a c =
          cover x lo f.7 (f.5, f.6, five-inside ps [] (binders Γ) f.4 g, t)
          (five-after id ty ps (binders Γ) f.2 g) b a c
      cover (of_use {Γ = Γ} {Δ = Δ} {ε = ε} {id = id} {ty = ty} {tys = tys} {ws = ws} {ps = ps} {body = body}
          {rows = rows} e s x y) lo f t g b a c =
          let k : ℕ = length (binders Δ) in
          let fb : Form = form_of N ns (inside ps (binders Δ)) (forms N ns Δ) body in
          let fs : ℕ → Form = λ j. formed N ns (binders Γ) (forms N ns Γ) ws j in
          let q = routine-means Γ Δ ε.block id ty tys ps body t b e s in
          let a₂ = use-each Γ Δ ε id ty tys ws ps body e s a in
          let fine : FineArgs N ns (binders Γ) ws (types_of ps) =
          subst (λ i. FineArgs N ns (binders Γ) ws i) (sym q.1) (use-args Γ id k ty tys ws e f) in
          let z = typed-sees s t in
          let p : PassesRight (binders Γ) (uses N ns Δ ps body) rows 0 (length ps) _ _ (types_of ps) =
          cover-passes x lo.0 fine t g b
          (λ i l h. each-argument (binders Γ) k (length ps) fb fs i l (used-here Δ ps body i h) a₂)
          (omega (arith, grows N ns R y)) in
          let v = cover y lo.1 z.1 z.0 z.2 (blocks-sees ε.block s b)
          (slots-use Γ Δ ps body fb fs ε rows s a₂
          (λ j l h. from_first (binders Γ) (uses N ns Δ ps body) rows (length ps) _ _ (types_of ps) p j l
          (used-there Δ ps body j h))) c in
          (retype (q.0 ∙ sym (use-typed Γ id k ty tys ws e)) v.0, join p.covered v.1)
      cover (of_skip {Γ = Γ} {n = n} h) lo f t g b a c =
          (right-type lo, one-row n s.skip command h (worded-skip Γ n (omega arith) (coded n s.skip h) lo))
      cover (of_diverge {Γ = Γ} {n = n} {ty = ty} h) lo f t g b a c =
          (right-type lo, one-row n s.diverge (ty_of N ty) h (worded-diverge Γ n (omega arith) (coded n s.diverge h) lo))
      cover (of_truth {Γ = Γ} {n = n} {b = v} h) lo f t g b a c = (
        right-type lo,
        one-row n (s.const v) (expression 2) h (worded-truth Γ n (omega arith) (coded n (s.const v) h) lo f),
      )
      cover (of_number {Γ = Γ} {n = n} {b = v} h) lo f t g b a c =
          let o : ℕ = code N (from_byte v) in (
            right-type lo,
            one-row n (s.const o) (expression (numbers N)) h
                (worded-number Γ n (omega arith) (coded n (s.const o) h) lo (code_below N (from_byte v))),
          )
      cover (of_private {Γ = Γ} {ε = ε} {n = n} {id = id} {k = k} {d = d} {ws = ws} e h) lo f t g b a c =
          let q = private-means Γ ε.block id k d t b e in (
            right-type lo,
            one-row n (s.private (ε.block k)) (variable (values N d)) h
                (worded-private Γ n (omega arith) (coded n (s.private (ε.block k)) h) lo e q.0 q.1 q.2),
          )
      cover (of_name {Γ = Γ} {ε = ε} {n = n} {m = m} {id = id} {ty = ty} {often = often} {tys = tys} {ws = ws} {xs = xs}
          e x h) lo f t g b a c =
          let y = cover-args x lo.2 (name-args Γ id ty often tys ws e f) t g b
          (name-each Γ ε id ty often tys ws e a) c in (
            right-type lo.0,
            join (one-row n (s.name id often (ty_of N ty) xs) (ty_of N ty) h
                (worded-name (omega (arith, grows_args N ns R x)) few (coded n (s.name id often (ty_of N ty) xs) h) lo.0 e
                lo.1 (counted-args x) f.0 y.0)) y.1,
          )
      cover (of_fetch {Γ = Γ} {n = n} {a = r} {x = v} x h) lo f t g b a c =
          let y = cover x lo.1 f.0 t g b a c in (
            right-type lo.0,
            join (one-row n (s.fetch r) _ h
                (worded-fetch Γ n (omega (arith, grows N ns R x)) (coded n (s.fetch r) h) lo.0 y.0 f.1
                (typed-below N ns v (binders Γ) g f.0))) y.1,
          )
      cover (of_operate {Γ = Γ} {n = n} {a = p} {b = q} {op = op} {x = v} {y = z} x y h) lo f t g b a c =
          let o : Operation = operation N op in
          let fx : Form = form_of N ns (binders Γ) (forms N ns Γ) v in
          let fy : Form = form_of N ns (binders Γ) (forms N ns Γ) z in
          let i = cover x lo.1 f.1 t g b (each_left (binders Γ) fx (times (operands o) fy) a)
          (omega (arith, grows N ns R y)) in
          let j = cover y lo.2 f.3 t g b
          (each-times (binders Γ) (operands o) fy (some-operand o)
          (each_right (binders Γ) fx (times (operands o) fy) a)) c in (
            right-type lo.0,
            join (one-row n (s.operate (operands o) o p q) _ h
                (worded-operate Γ n (omega (arith, grows N ns R x, grows N ns R y))
                (coded n (s.operate (operands o) o p q) h) lo.0 f.0 i.0 f.2 j.0 f.4))
                (join i.1 j.1),
          )
      cover (of_assign {Γ = Γ} {n = n} {a = p} {b = q} {x = v} {y = z} x y h) lo f t g b a c =
          let o : ℕ = values N (typed ns (binders Γ) v) in
          let fx : Form = form_of N ns (binders Γ) (forms N ns Γ) v in
          let fy : Form = form_of N ns (binders Γ) (forms N ns Γ) z in
          let i = cover x lo.1 f.0 t g b
          (each-times (binders Γ) o fx (some_value N (typed ns (binders Γ) v))
          (each_right (binders Γ) fy (times o fx) a)) (omega (arith, grows N ns R y)) in
          let j = cover y lo.2 f.2 t g b (each_left (binders Γ) fy (times o fx) a) c in (
            right-type lo.0,
            join (one-row n (s.assign o p q) _ h
                (worded-assign Γ n (omega (arith, grows N ns R x, grows N ns R y)) (coded n (s.assign o p q) h) lo.0
                i.0 f.1 (typed-below N ns v (binders Γ) g f.0) j.0 f.3)) (join i.1 j.1),
          )
      cover (of_sequence {Γ = Γ} {n = n} {a = p} {b = q} {x = v} {y = z} x y h) lo f t g b a c =
          let fx : Form = form_of N ns (binders Γ) (forms N ns Γ) v in
          let fy : Form = form_of N ns (binders Γ) (forms N ns Γ) z in
          let i = cover x lo.1 f.0 t g b (each_left (binders Γ) fx fy a) (omega (arith, grows N ns R y)) in
          let j = cover y lo.2 f.2 t g b (each_right (binders Γ) fx fy a) c in (
            right-type lo.0,
            join (one-row n (s.seq p q) _ h
                (worded-seq Γ n (omega (arith, grows N ns R x, grows N ns R y)) (coded n (s.seq p q) h) lo.0 i.0 f.1
                j.0)) (join i.1 j.1),
          )
      cover (of_choose {Γ = Γ} {n = n} {a = p} {b = q} {c = r} {q = o} {x = v} {y = z} k x y h) lo f t g b a c =
          let fo : Form = form_of N ns (binders Γ) (forms N ns Γ) o in
          let fx : Form = form_of N ns (binders Γ) (forms N ns Γ) v in
          let fy : Form = form_of N ns (binders Γ) (forms N ns Γ) z in
          let d = each_right (binders Γ) fo (plus fx fy) a in
          let e = cover k lo.1 f.0 t g b (each_left (binders Γ) fo (plus fx fy) a)
          (omega (arith, grows N ns R x, grows N ns R y)) in
          let i = cover x lo.2 f.2 t g b (each_left (binders Γ) fx fy d) (omega (arith, grows N ns R y)) in
          let j = cover y lo.3 f.3 t g b (each_right (binders Γ) fx fy d) c in (
            right-type lo.0,
            join (one-row n (s.cond p q r) _ h
                (worded-cond Γ n (omega (arith, grows N ns R k, grows N ns R x, grows N ns R y)) (coded n (s.cond p q r) h)
                lo.0 e.0 f.1 i.0 j.0 f.4)) (join e.1 (join i.1 j.1)),
          )
      cover (of_while {Γ = Γ} {n = n} {a = p} {b = q} {x = v} {y = z} x y h) lo f t g b a c =
          let fx : Form = form_of N ns (binders Γ) (forms N ns Γ) v in
          let fy : Form = form_of N ns (binders Γ) (forms N ns Γ) z in
          let i = cover x lo.1 f.0 t g b (each_left (binders Γ) fx fy a) (omega (arith, grows N ns R y)) in
          let j = cover y lo.2 f.2 t g b (each_right (binders Γ) fx fy a) c in (
            right-type lo.0,
            join (one-row n (s.while p q) _ h
                (worded-while Γ n (omega (arith, grows N ns R x, grows N ns R y)) (coded n (s.while p q) h) lo.0 i.0
                f.1 j.0 f.3)) (join i.1 j.1),
          )
      cover (of_new {Γ = Γ} {ε = ε} {n = n} {a = p} {id = id} {d = d} {x = v} x h) lo f t g b a c =
          let fx : Form = form_of N ns (a_block id d ∷ binders Γ) (forms N ns Γ) v in
          let k = coded n (s.new (values N d) p) h in
          let i = cover x lo.1 f.4 t (five-block id d (binders Γ) f.3 g)
          (blocks-new Γ ε id d n p f.2 f.3 k b) (each-times (binders Γ) (values N d) fx (some_value N d) a) c in (
            right-type lo.0,
            join (one-row n (s.new (values N d) p) _ h
                (worded-new Γ n (omega (arith, grows N ns R x)) k lo.0 (retype f.5 i.0))) i.1,
          )

      cover-args : {Γ : Context} {ε : Slots} {ws : Writtens} {tys : List ℕ} {n m : ℕ} {xs : Parts}
          (x : ExpandsArgs N ns R Γ ε ws tys n xs m) → LocalArgs N ns u x → FineArgs N ns (binders Γ) ws tys →
          TypedIn Γ → Five (binders Γ) → Blocks Γ ε.block →
          Each (binders Γ) (form_args N ns (binders Γ) (forms N ns Γ) ws tys) (Slot ε (binders Γ)) → m ≤ 12288 →
          AllTyped xs × Covered n m
      cover-args (no_args {n = n}) lo f t g b a c = (tt, no_rows n)
      cover-args (one_arg {Γ = Γ} {a = p} {ty = ty} {w = v} {ws = ws} {tys = tys} {T = T} e x y) lo f t g b a c =
          let q : ℕ = questions (ty_of N ty) in
          let fx : Form = form_of N ns (binders Γ) (forms N ns Γ) v in
          let o : Form = only (answers (ty_of N ty)) in
          let fy : Form = form_args N ns (binders Γ) (forms N ns Γ) ws tys in
          let i = cover x lo.0 f.0 t g b
          (each-times (binders Γ) q fx (some-question (ty_of N ty))
          (each_left (binders Γ) (times q fx) o (each_left (binders Γ) (plus (times q fx) o) fy a)))
          (omega (arith, grows_args N ns R y)) in
          let j = cover-args y lo.1 f.2 t g b (each_right (binders Γ) (plus (times q fx) o) fy a) c in
          ((row_as T (ap (ty_of N) f.1 ∙ sym e) i.0, j.0), join i.1 j.1)

      cover-passes : {Γ : Context} {ε : Slots} {used rows : ℕ → ℕ} {j : ℕ} {ps : List Parameter} {ws : Writtens}
          {n m : ℕ} (x : Passes N ns R Γ ε used rows j ps ws n m) → LocalPasses N ns u x →
          FineArgs N ns (binders Γ) ws (types_of ps) → TypedIn Γ → Five (binders Γ) → Blocks Γ ε.block →
          ((i : ℕ) → i < length ps → 0 < used (j + i) →
          Each (binders Γ) (formed N ns (binders Γ) (forms N ns Γ) ws i) (Slot ε (binders Γ))) → m ≤ 12288 →
          PassesRight (binders Γ) used rows j (length ps) n m (types_of ps)
      cover-passes (no_more {n = n}) lo f t g b a c =
          record { types = λ i l h. absurd (omega arith); covered = no_rows n }
      cover-passes (one_used {Γ = Γ} {used = used} {rows = rows} {j = j} {ps = ps} h x y) lo f t g b a c =
          let zero_more : j + 0 ≡ j = omega arith in
          let i = cover x lo.0 f.0 t g b (a 0 (omega arith) (rw zero_more h)) (omega (arith, grows-passes N ns R y))
          in
          let k = cover-passes y lo.1 f.2 t g b
          (λ o l q. a (suc o) (omega arith) (rw (one-more-of j o) q)) c in
          passes-first (binders Γ) used rows j (length ps) _ (types_of ps) (retype f.1 i.0) i.1 k
      cover-passes (one_unused {Γ = Γ} {used = used} {rows = rows} {j = j} {ps = ps} h y) lo f t g b a c =
          let k = cover-passes y lo f.2 t g b
          (λ o l q. a (suc o) (omega arith) (rw (one-more-of j o) q)) c in
          passes-later (binders Γ) used rows j (length ps) _ (types_of ps) h k
