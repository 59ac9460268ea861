-- A term plays the same with either of two parts in its gap, where these play the same there.
use Prim.Native.Nat.{ℕ, zero, suc, ◌-◌, ◌<◌}
use native.Mathlib.Omega.{arith}
use mathlib.Core.Path.{◌≡◌, refl, sym, ap, ◌∙◌}
use mathlib.Core.Logic.{◌↔◌}
use mathlib.Core.List.{List, [], ◌∷◌}
use lib.ListN.{length}
use lib.Dec.{eqb}
use Rattle.language.specs.Ty.{Ty, Question, run, ask, read, write, Answer, done, ok, value, Answers}
use Rattle.language.specs.Move.{Word}
use Rattle.language.specs.Play.{Plays, PlaysArg, Cat, Stable, kept, hide}
use Rattle.language.specs.Term as t
use Rattle.language.specs.Term.{Term}
use Rattle.language.specs.declared.Numbers.{Numbers}
use Rattle.sheet_parts.specs.Rule.{values}
use Rattle.sheet_written.specs.Written.{Written, Writtens, none, more, Name, declare, retire}
use Rattle.sheet_written.specs.Meaning.{Binder, a_block, Meaning, private, argument, routine, named, retired, free}
use Rattle.sheet_written.specs.Meaning.{declared, id_of, meant, meaning, ty_of, use_type, typed, by_meaning, Terms, no_terms}
use Rattle.sheet_written.specs.Meaning.{with-level, resolve, resolve_args, resolved}
use Rattle.sheet_written.specs.Fine.{FineUse, Fine, FineArgs}
use Rattle.sheet_written.proofs.Tests.{by-test}
use Rattle.sheet_written.proofs.Numbering.{beyond_below, beyond-at}
use Rattle.sheet_written.proofs.Languages.{Same, cat-same, star-same, uses-same, use-same, sum_same, new-same}
use Rattle.sheet_written.proofs.WellTyped.{KnownNames, typed-below}
use Rattle.serve_part.specs.Around.{Around, whole, in_call, in-fetch, in_left, in_right, in_target, in_source}
use Rattle.serve_part.specs.Around.{in_first, in_second, in_test, in_round, in_if, in_then, in_else, in-new}
use Rattle.serve_part.specs.Around.{Among, in_this, in_later, filled, all_filled, enclosing, all_enclosing}
use Rattle.serve_part.proofs.Answering.{answers-as, to-command, to_truth, to_fetch, to-operand, to-source}
use Rattle.serve_part.proofs.Answering.{to-target}

-- blocks around a term, and the levels of their variables
pub data Blocks : List Binder → Terms → Type 0 where
  no_blocks : Blocks [] no_terms
  a_new : {id d : ℕ} {bs : List Binder} {ρ : Terms} → 0 < d → d < 3 → Blocks bs ρ →
      Blocks (a_block id d ∷ bs) (with-level (length bs) (length bs) ρ)

-- what an id means there
unfoldable pub Plain : ℕ → Terms → Meaning → Type 0
Plain n ρ (private k d) = (k < n) × (0 < d) × (d < 3) × (ρ.level k ≡ k)
Plain n ρ (argument k ty) = ⊥
Plain n ρ (routine k ty tys) = ⊥
Plain n ρ (named often ty tys) = ty < 5
Plain n ρ retired = Unit
Plain n ρ free = Unit

-- outside all blocks, and inside one more
plain-declared : (ρ : Terms) (ns : List Name) (id : ℕ) → KnownNames ns → Plain 0 ρ (declared ns id)
unfolding Plain KnownNames declared
plain-declared ρ [] id k = tt
plain-declared ρ (declare often j ty tys ∷ ns) id k =
    by-test (eqb j id) (λ t. rw t k.0) (λ t. rw t (plain-declared ρ ns id k.1))
plain-declared ρ (retire j ∷ ns) id k = by-test (eqb j id) (λ t. rw t tt) (λ t. rw t (plain-declared ρ ns id k))

plain_more : (n : ℕ) (ρ : Terms) (m : Meaning) → Plain n ρ m → Plain (suc n) (with-level n n ρ) m
unfolding Plain with-level
plain_more n ρ (private k d) (b, l, l', e) = (omega arith, l, l', beyond_below n ρ.level (λ x. n) k b ∙ e)
plain_more n ρ (argument k ty) h = h
plain_more n ρ (routine k ty tys) h = h
plain_more n ρ (named often ty tys) h = h
plain_more n ρ retired h = tt
plain_more n ρ free h = tt

plain_here : (n id d : ℕ) (ρ : Terms) → 0 < d → d < 3 → Plain (suc n) (with-level n n ρ) (meant n (a_block id d))
unfolding Plain meant with-level
plain_here n id d ρ l l' = (omega arith, l, l', beyond-at n ρ.level (λ x. n))

pub plain : (ns : List Name) {bs : List Binder} {ρ : Terms} → KnownNames ns → Blocks bs ρ → (id : ℕ) →
    Plain (length bs) ρ (meaning ns bs id)
unfolding meaning id_of
plain ns k no_blocks id = plain-declared no_terms ns id k
plain ns k (a_new {id = j} {d = d} {bs = bs} {ρ = ρ} l l' b) id =
    by-test (eqb j id)
    (λ t. rw t (plain_here (length bs) j d ρ l l'))
    (λ t. rw t (plain_more (length bs) ρ (meaning ns bs id) (plain ns k b id)))

plain_known : (n : ℕ) (ρ : Terms) (m : Meaning) → Plain n ρ m → use_type m < 5
unfolding Plain use_type
plain_known n ρ (private k d) h = omega (arith, h.2)
plain_known n ρ (argument k ty) h = absurd h
plain_known n ρ (routine k ty tys) h = absurd h
plain_known n ρ (named often ty tys) h = h
plain_known n ρ retired h = omega arith
plain_known n ρ free h = omega arith

pub known-blocks : (ns : List Name) {bs : List Binder} {ρ : Terms} → KnownNames ns → Blocks bs ρ → (id : ℕ) →
    use_type (meaning ns bs id) < 5
known-blocks ns {bs} {ρ} k b id = plain_known (length bs) ρ (meaning ns bs id) (plain ns k b id)

-- two terms play the same between the questions and answers of a type
abbrev pub Equal : Ty → Term → Term → Type 0
Equal T M M' = (q : Question) (a : Answer) → Answers T q a → Same (Plays M q a) (Plays M' q a)

itself : {A : Type 0} → A ↔ A
itself = (λ x. x, λ x. x)

cat-first : {L L' R : Word → Type 0} → Same L L' → Same (Cat L R) (Cat L' R)
cat-first f = cat-same f (λ u. itself)

cat-second : {L R R' : Word → Type 0} → Same R R' → Same (Cat L R) (Cat L R')
cat-second f = cat-same (λ u. itself) f

-- with a gap among them there are arguments
not_none : {w : Written} {ws : Writtens} → more w ws ≡ none → ⊥
not_none e = let z : ◌≡◌ {A = ℕ} 0 1 = cc in absurd (omega arith)

pub all-some : (A : Among) (m : Written) → all_filled A m ≡ none → ⊥
unfolding all_filled
all-some (in_this C ws) m e = not_none e
all-some (in_later w A) m e = not_none e

module _ (N : Numbers) (ns : List Name) (m m' : Written) where
  -- the type of the whole does not change with the part
  pub same_type : (C : Around) (bs : List Binder) → typed ns (enclosing C bs) m ≡ typed ns (enclosing C bs) m' →
      typed ns bs (filled C m) ≡ typed ns bs (filled C m')
  unfolding filled enclosing typed
  same_type whole bs e = e
  same_type (in_call id A) bs e = refl
  same_type (in-fetch C) bs e = ap (λ (x : ℕ). x - 2) (same_type C bs e)
  same_type (in_left op C y) bs e = refl
  same_type (in_right op x C) bs e = refl
  same_type (in_target C y) bs e = refl
  same_type (in_source x C) bs e = refl
  same_type (in_first C y) bs e = refl
  same_type (in_second x C) bs e = same_type C bs e
  same_type (in_test C y) bs e = refl
  same_type (in_round x C) bs e = refl
  same_type (in_if C x y) bs e = refl
  same_type (in_then b C y) bs e = same_type C bs e
  same_type (in_else b x C) bs e = refl
  same_type (in-new id d C) bs e = refl

  -- the two parts play the same in the blocks that enclose them
  abbrev AtGap : List Binder → Type 0
  AtGap bs = (ρ : Terms) → Blocks bs ρ → Fine N ns bs m → Fine N ns bs m' →
      Equal (ty_of N (typed ns bs m)) (resolve N ns bs ρ (length bs) m) (resolve N ns bs ρ (length bs) m')

  -- a use, by what its id means
  equal-use : (bs : List Binder) (ρ : Terms) (id : ℕ) (A : Among) (s : Meaning) → Plain (length bs) ρ s →
      FineUse s (all_filled A m ≡ none) (λ tys. FineArgs N ns bs (all_filled A m) tys) →
      FineUse s (all_filled A m' ≡ none) (λ tys. FineArgs N ns bs (all_filled A m') tys) →
      ((tys : List ℕ) → FineArgs N ns bs (all_filled A m) tys → FineArgs N ns bs (all_filled A m') tys →
      (j : ℕ) (q : Question) (a : Answer) →
      Same (PlaysArg (resolve_args N ns bs ρ (length bs) (all_filled A m) tys) j q a)
      (PlaysArg (resolve_args N ns bs ρ (length bs) (all_filled A m') tys) j q a)) →
      Equal (ty_of N (use_type s))
      (by_meaning s t.diverge
      (λ k. t.private (length bs - suc (ρ.level k)))
      (λ k. ρ.passed k (length bs))
      (λ k. ρ.body k (λ j l. resolved N ns bs ρ l (all_filled A m) j) (length bs))
      (λ often ty tys. t.name id often (ty_of N ty) (resolve_args N ns bs ρ (length bs) (all_filled A m) tys)))
      (by_meaning s t.diverge
      (λ k. t.private (length bs - suc (ρ.level k)))
      (λ k. ρ.passed k (length bs))
      (λ k. ρ.body k (λ j l. resolved N ns bs ρ l (all_filled A m') j) (length bs))
      (λ often ty tys. t.name id often (ty_of N ty) (resolve_args N ns bs ρ (length bs) (all_filled A m') tys)))
  unfolding Plain FineUse by_meaning Plays
  equal-use bs ρ id A (private k d) p f f' g q a x u = absurd (all-some A m f)
  equal-use bs ρ id A (argument k ty) p f f' g q a x u = absurd p
  equal-use bs ρ id A (routine k ty tys) p f f' g q a x u = absurd p
  equal-use bs ρ id A (named often ty tys) p f f' g q a x u =
      let e = uses-same often (use-same id (g tys f f')) in
      (λ (y, v, s, i). (y, v, (e v).0 s, i), λ (y, v, s, i). (y, v, (e v).1 s, i))
  equal-use bs ρ id A retired p f f' g q a x u = absurd f
  equal-use bs ρ id A free p f f' g q a x u = absurd f

  module _ (k : KnownNames ns) where
    -- THEOREM: so the wholes play the same
    mutual
      unfolding filled all_filled enclosing all_enclosing Fine FineArgs typed Plays PlaysArg resolve resolve_args

      pub equal : (C : Around) (bs : List Binder) (ρ : Terms) → Blocks bs ρ → AtGap (enclosing C bs) →
          typed ns (enclosing C bs) m ≡ typed ns (enclosing C bs) m' →
          Fine N ns bs (filled C m) → Fine N ns bs (filled C m') →
          Equal (ty_of N (typed ns bs (filled C m))) (resolve N ns bs ρ (length bs) (filled C m))
          (resolve N ns bs ρ (length bs) (filled C m'))
      equal whole bs ρ b h e f f' q a x u = h ρ b f f' q a x u
      equal (in_call id A) bs ρ b h e f f' q a x u =
          equal-use bs ρ id A (meaning ns bs id) (plain ns k b id) f.1 f'.1
          (λ tys g g' j p c w. equal-args A bs ρ tys j b h e g g' p c w) q a x u
      equal (in-fetch C) bs ρ b h e f f' q a x u =
          equal C bs ρ b h e f.0 f'.0 read a
          (to_fetch N (typed ns bs (filled C m)) f.1
          (typed-below N ns (filled C m) bs (known-blocks ns k b) f.0) x) u
      equal (in_left op C y) bs ρ b h e f f' q a x u = (
        λ (v, o, z, i, j, c). (
          v,
          o,
          z,
          i,
          j,
          (cat-first (λ w. equal C bs ρ b h e f.1 f'.1 ask (value v.0) (to-operand N op f.2 v) w) u).0 c,
        ),
        λ (v, o, z, i, j, c). (
          v,
          o,
          z,
          i,
          j,
          (cat-first (λ w. equal C bs ρ b h e f.1 f'.1 ask (value v.0) (to-operand N op f.2 v) w) u).1 c,
        ),
      )
      equal (in_right op y C) bs ρ b h e f f' q a x u = (
        λ (v, o, z, i, j, c). (
          v,
          o,
          z,
          i,
          j,
          (cat-second (λ w. equal C bs ρ b h e f.3 f'.3 ask (value o.0) (to-operand N op f.4 o) w) u).0 c,
        ),
        λ (v, o, z, i, j, c). (
          v,
          o,
          z,
          i,
          j,
          (cat-second (λ w. equal C bs ρ b h e f.3 f'.3 ask (value o.0) (to-operand N op f.4 o) w) u).1 c,
        ),
      )
      equal (in_target C y) bs ρ b h e f f' q a x u =
          let ty = typed ns bs (filled C m) in
          rw (← same_type C bs e) (
            λ (i, v, c). (
              i,
              v,
              (cat-second (λ w. equal C bs ρ b h e f.0 f'.0 (write v.0) ok (to-target N ty f.1 v) w) u).0 c,
            ),
            λ (i, v, c). (
              i,
              v,
              (cat-second (λ w. equal C bs ρ b h e f.0 f'.0 (write v.0) ok (to-target N ty f.1 v) w) u).1 c,
            ),
          )
      equal (in_source y C) bs ρ b h e f f' q a x u =
          let l : typed ns bs y < 5 = typed-below N ns y bs (known-blocks ns k b) f.0 in (
            λ (i, v, c). (
              i,
              v,
              (cat-first (λ w. equal C bs ρ b h e f.2 f'.2 ask (value v.0)
                  (to-source N (typed ns bs y) (typed ns bs (filled C m)) f.1 l f.3 v) w) u).0 c,
            ),
            λ (i, v, c). (
              i,
              v,
              (cat-first (λ w. equal C bs ρ b h e f.2 f'.2 ask (value v.0)
                  (to-source N (typed ns bs y) (typed ns bs (filled C m)) f.1 l f.3 v) w) u).1 c,
            ),
          )
      equal (in_first C y) bs ρ b h e f f' q a x u =
          cat-first (λ w. equal C bs ρ b h e f.0 f'.0 run done (to-command N f.1) w) u
      equal (in_second y C) bs ρ b h e f f' q a x u = cat-second (λ w. equal C bs ρ b h e f.2 f'.2 q a x w) u
      equal (in_test C y) bs ρ b h e f f' q a x u =
          let both = cat-same
          (star-same (cat-first
          (λ w. equal C bs ρ b h e f.0 f'.0 ask (value 1) (to_truth N f.1 (omega arith)) w)))
          (λ w. equal C bs ρ b h e f.0 f'.0 ask (value 0) (to_truth N f.1 (omega arith)) w) u in
          (λ (i, c). (i, both.0 c), λ (i, c). (i, both.1 c))
      equal (in_round y C) bs ρ b h e f f' q a x u =
          let both = cat-first (star-same (cat-second
          (λ w. equal C bs ρ b h e f.2 f'.2 run done (to-command N f.3) w))) u in
          (λ (i, c). (i, both.0 c), λ (i, c). (i, both.1 c))
      equal (in_if C y z) bs ρ b h e f f' q a x u =
          sum_same
          (cat-first (λ w. equal C bs ρ b h e f.0 f'.0 ask (value 1) (to_truth N f.1 (omega arith)) w) u)
          (cat-first (λ w. equal C bs ρ b h e f.0 f'.0 ask (value 0) (to_truth N f.1 (omega arith)) w) u)
      equal (in_then y C z) bs ρ b h e f f' q a x u =
          sum_same (cat-second (λ w. equal C bs ρ b h e f.2 f'.2 q a x w) u) itself
      equal (in_else y z C) bs ρ b h e f f' q a x u =
          sum_same itself
          (cat-second (λ w. equal C bs ρ b h e f.3 f'.3 q a (answers-as N (sym f.4) x) w) u)
      equal (in-new id d C) bs ρ b h e f f' q a x u =
          new-same
          (λ w. equal C (a_block id d ∷ bs) (with-level (length bs) (length bs) ρ) (a_new f.2 f.3 b) h e f.4
          f'.4 q a (answers-as N (sym f.5) x) w)
          (λ v. Stable (values N d) 0 (kept v)) (λ v. u ≡ hide v)

      equal-args : (A : Among) (bs : List Binder) (ρ : Terms) (tys : List ℕ) (j : ℕ) → Blocks bs ρ →
          AtGap (all_enclosing A bs) → typed ns (all_enclosing A bs) m ≡ typed ns (all_enclosing A bs) m' →
          FineArgs N ns bs (all_filled A m) tys → FineArgs N ns bs (all_filled A m') tys → (q : Question) (a : Answer) →
          Same (PlaysArg (resolve_args N ns bs ρ (length bs) (all_filled A m) tys) j q a)
          (PlaysArg (resolve_args N ns bs ρ (length bs) (all_filled A m') tys) j q a)
      equal-args (in_this C ws) bs ρ [] j b h e f f' q a u = absurd f
      equal-args (in_this C ws) bs ρ (ty ∷ tys) zero b h e f f' q a u = (
        λ (x, y). (x, (equal C bs ρ b h e f.0 f'.0 q a (answers-as N (sym f.1) x) u).0 y),
        λ (x, y). (x, (equal C bs ρ b h e f.0 f'.0 q a (answers-as N (sym f.1) x) u).1 y),
      )
      equal-args (in_this C ws) bs ρ (ty ∷ tys) (suc j) b h e f f' q a u = itself
      equal-args (in_later w A) bs ρ [] j b h e f f' q a u = absurd f
      equal-args (in_later w A) bs ρ (ty ∷ tys) zero b h e f f' q a u = itself
      equal-args (in_later w A) bs ρ (ty ∷ tys) (suc j) b h e f f' q a u =
          equal-args A bs ρ tys j b h e f.2 f'.2 q a u
