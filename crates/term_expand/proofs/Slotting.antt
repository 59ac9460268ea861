-- Slots that hold the rows of the enclosing binders.
use Prim.Native.Nat.{ℕ, zero, suc, ◌+◌, ◌≤◌, ◌<◌}
use native.Mathlib.Omega.{arith}
use mathlib.Core.Path.{◌≡◌, refl, sym, ◌∙◌}
use mathlib.Core.Logic.{inl, inr}
use mathlib.Core.List.{List, [], ◌∷◌}
use lib.ListN.{length, get_or, set, length-set}
use lib.Seq.{get_or-set_same, get_or-set_other}
use Rattle.sheet_written.specs.Written.{Written, Parameter, Name}
use Rattle.sheet_written.specs.Meaning.{Binder, a_block, a_parameter, a_procedure, Meaning, private, argument, routine}
use Rattle.sheet_written.specs.Meaning.{named, retired, free, meant, meaning, inside, after}
use Rattle.sheet_written.specs.Occurs.{IsParameter}
use Rattle.sheet_written.specs.Context.{Context, binders, Sees, sees_it, from_block, from_procedure, from_scope}
use Rattle.sheet_written.specs.Expand.{Slots, with_block, with_rows}
use Rattle.sheet_written.proofs.Numbering.{all-declared, beyond_below, beyond_above, beyond-at, one-more-binder}
use Rattle.term_closing.specs.Close.{passed_slots}
use Rattle.term_expand.specs.Contract.{Shows}

-- the row of the new that a use means
unfoldable Block-right : List ℕ → Slots → Meaning → Type 0
Block-right slots ε (private k d) = get_or slots k 0 ≡ ε.block k
Block-right slots ε (argument k ty) = Unit
Block-right slots ε (routine k ty tys) = Unit
Block-right slots ε (named often ty tys) = Unit
Block-right slots ε retired = Unit
Block-right slots ε free = Unit

block-meant : (slots : List ℕ) (ε : Slots) (b : Binder) (bs : List Binder) → Shows slots ε (b ∷ bs) →
    Block-right slots ε (meant (length bs) b)
unfolding Block-right meant Shows
block-meant slots ε (a_block id d) bs h = h.0
block-meant slots ε (a_parameter id ty) bs h = tt
block-meant slots ε (a_procedure id ty tys) bs h = tt

shows-less : (slots : List ℕ) (ε : Slots) (b : Binder) (bs : List Binder) → Shows slots ε (b ∷ bs) → Shows slots ε bs
unfolding Shows
shows-less slots ε (a_block id d) bs h = h.1
shows-less slots ε (a_parameter id ty) bs h = h.1
shows-less slots ε (a_procedure id ty tys) bs h = h

block-right : (ns : List Name) (slots : List ℕ) (ε : Slots) (bs : List Binder) → Shows slots ε bs → (id : ℕ) →
    Block-right slots ε (meaning ns bs id)
unfolding meaning Block-right
block-right ns slots ε [] h id = all-declared (Block-right slots ε) ns id (λ often ty tys. tt) tt tt
block-right ns slots ε (b ∷ bs) h id =
    one-more-binder (Block-right slots ε) ns b bs (block-meant slots ε b bs h)
    (λ j l. block-right ns slots ε bs (shows-less slots ε b bs h) j) id

pub shows-block : (ns : List Name) (slots : List ℕ) (ε : Slots) (bs : List Binder) (id k d : ℕ) → Shows slots ε bs →
    meaning ns bs id ≡ private k d → get_or slots k 0 ≡ ε.block k
unfolding Block-right
shows-block ns slots ε bs id k d h e =
    let x : Block-right slots ε (private k d) = rw e at (block-right ns slots ε bs h id) in
    x

-- the row of a parameter's argument
pub shows-parameter : (slots : List ℕ) (ε : Slots) (bs : List Binder) (s : ℕ) → Shows slots ε bs → IsParameter bs s →
    get_or slots s 0 ≡ ε.passed s
unfolding Shows IsParameter
shows-parameter slots ε [] s h p = absurd p
shows-parameter slots ε (a_block id d ∷ bs) s h p = shows-parameter slots ε bs s h.1 p
shows-parameter slots ε (a_parameter id ty ∷ bs) s h (inl e) = rw e h.0
shows-parameter slots ε (a_parameter id ty ∷ bs) s h (inr p) = shows-parameter slots ε bs s h.1 p
shows-parameter slots ε (a_procedure id ty tys ∷ bs) s h p = shows-parameter slots ε bs s h p

-- slots that are the same below the number of the binders
shows_same : (slots inner : List ℕ) (ε δ : Slots) (bs : List Binder) →
    ((s : ℕ) → s < length bs → get_or inner s 0 ≡ get_or slots s 0) → ((s : ℕ) → s < length bs → δ.block s ≡ ε.block s) →
    ((s : ℕ) → s < length bs → δ.passed s ≡ ε.passed s) → Shows slots ε bs → Shows inner δ bs
unfolding Shows
shows_same slots inner ε δ [] f g h x = tt
shows_same slots inner ε δ (a_block id d ∷ bs) f g h x = (
  f (length bs) (omega arith) ∙ (x.0 ∙ sym (g (length bs) (omega arith))),
  shows_same slots inner ε δ bs (λ s l. f s (omega arith)) (λ s l. g s (omega arith)) (λ s l. h s (omega arith))
      x.1,
)
shows_same slots inner ε δ (a_parameter id ty ∷ bs) f g h x = (
  f (length bs) (omega arith) ∙ (x.0 ∙ sym (h (length bs) (omega arith))),
  shows_same slots inner ε δ bs (λ s l. f s (omega arith)) (λ s l. g s (omega arith)) (λ s l. h s (omega arith))
      x.1,
)
shows_same slots inner ε δ (a_procedure id ty tys ∷ bs) f g h x =
    shows_same slots inner ε δ bs (λ s l. f s (omega arith)) (λ s l. g s (omega arith)) (λ s l. h s (omega arith)) x

-- inside a new
pub shows_new : (slots : List ℕ) (ε : Slots) (bs : List Binder) (id d n : ℕ) → length bs < length slots →
    Shows slots ε bs → Shows (set slots (length bs) n) (with_block (length bs) n ε) (a_block id d ∷ bs)
unfolding Shows with_block
shows_new slots ε bs id d n l x = (
  get_or-set_same slots (length bs) n 0 l ∙ sym (beyond-at (length bs) ε.block (λ j. n)),
  shows_same slots (set slots (length bs) n) ε (with_block (length bs) n ε) bs
      (λ s h. get_or-set_other slots (length bs) s n 0 (λ e. omega arith))
      (λ s h. beyond_below (length bs) ε.block (λ j. n) s h) (λ s h. refl) x,
)

-- of binders around
shows-outside : (slots : List ℕ) (ε : Slots) (ps : List Parameter) (bs : List Binder) → Shows slots ε (inside ps bs) →
    Shows slots ε bs
unfolding inside Shows
shows-outside slots ε [] bs h = h
shows-outside slots ε (p ∷ ps) bs h = (shows-outside slots ε ps (a_parameter p.id p.holds ∷ bs) h).1

pub sees-shows : (slots : List ℕ) (ε : Slots) {Γ Δ : Context} {ps : List Parameter} {body : Written} → Sees Γ Δ ps
    body →
    Shows slots ε (binders Γ) → Shows slots ε (binders Δ)
unfolding binders after Shows
sees-shows slots ε sees_it h = h
sees-shows slots ε (from_block s) h = sees-shows slots ε s h.1
sees-shows slots ε (from_procedure {Γ = Γ} {qs = qs} s) h =
    sees-shows slots ε s (shows-outside slots ε qs (binders Γ) h)
sees-shows slots ε (from_scope s) h = sees-shows slots ε s h

-- inside a procedure
shows-inside : (slots : List ℕ) (ε : Slots) (ps : List Parameter) (bs : List Binder) →
    ((i : ℕ) → i < length ps → get_or slots (length bs + i) 0 ≡ ε.passed (length bs + i)) → Shows slots ε bs →
    Shows slots ε (inside ps bs)
unfolding inside Shows
shows-inside slots ε [] bs f x = x
shows-inside slots ε (p ∷ ps) bs f x =
    let z : length bs + 0 ≡ length bs = omega arith in
    let y : get_or slots (length bs) 0 ≡ ε.passed (length bs) = rw z at (f 0 (omega arith)) in
    shows-inside slots ε ps (a_parameter p.id p.holds ∷ bs)
    (λ i h.
    let e : suc (length bs) + i ≡ length bs + suc i = omega arith in
    rw e (f (suc i) (omega arith)))
    (y, x)

-- one of four by its number
unfoldable pub by-four : ℕ → ℕ → ℕ → ℕ → ℕ → ℕ
by-four a b c d zero = a
by-four a b c d (suc zero) = b
by-four a b c d (suc (suc zero)) = c
by-four a b c d (suc (suc (suc n))) = d

pub passed_length : (slots : List ℕ) (k a b c d : ℕ) → length (passed_slots slots k a b c d) ≡ length slots
unfolding passed_slots
passed_length slots k a b c d = simp length-set

passed-below : (slots : List ℕ) (k a b c d s : ℕ) → s < k → get_or (passed_slots slots k a b c d) s 0 ≡ get_or slots s 0
unfolding passed_slots
passed-below slots k a b c d s h =
    let s₁ : List ℕ = set slots k a in
    let s₂ : List ℕ = set s₁ (k + 1) b in
    let s₃ : List ℕ = set s₂ (k + 2) c in
    get_or-set_other s₃ (k + 3) s d 0 (λ e. omega arith)
    ∙ (get_or-set_other s₂ (k + 2) s c 0 (λ e. omega arith)
    ∙ (get_or-set_other s₁ (k + 1) s b 0 (λ e. omega arith) ∙ get_or-set_other slots k s a 0 (λ e. omega arith)))

passed-at : (slots : List ℕ) (k a b c d i : ℕ) → i < 4 → k + i < length slots →
    get_or (passed_slots slots k a b c d) (k + i) 0 ≡ by-four a b c d i
unfolding passed_slots by-four
passed-at slots k a b c d zero h l =
    let z : k + 0 ≡ k = omega arith in
    let s₁ : List ℕ = set slots k a in
    let s₂ : List ℕ = set s₁ (k + 1) b in
    let s₃ : List ℕ = set s₂ (k + 2) c in
    rw z (get_or-set_other s₃ (k + 3) k d 0 (λ e. omega arith)
    ∙ (get_or-set_other s₂ (k + 2) k c 0 (λ e. omega arith)
    ∙ (get_or-set_other s₁ (k + 1) k b 0 (λ e. omega arith) ∙ get_or-set_same slots k a 0 (omega arith))))
passed-at slots k a b c d (suc zero) h l =
    let s₁ : List ℕ = set slots k a in
    let s₂ : List ℕ = set s₁ (k + 1) b in
    let s₃ : List ℕ = set s₂ (k + 2) c in
    get_or-set_other s₃ (k + 3) (k + 1) d 0 (λ e. omega arith)
    ∙ (get_or-set_other s₂ (k + 2) (k + 1) c 0 (λ e. omega arith)
    ∙ get_or-set_same s₁ (k + 1) b 0 (omega (arith, length-set slots k a)))
passed-at slots k a b c d (suc (suc zero)) h l =
    let s₁ : List ℕ = set slots k a in
    let s₂ : List ℕ = set s₁ (k + 1) b in
    let s₃ : List ℕ = set s₂ (k + 2) c in
    get_or-set_other s₃ (k + 3) (k + 2) d 0 (λ e. omega arith)
    ∙ get_or-set_same s₂ (k + 2) c 0 (omega (arith, length-set slots k a, length-set s₁ (k + 1) b))
passed-at slots k a b c d (suc (suc (suc zero))) h l =
    let s₁ : List ℕ = set slots k a in
    let s₂ : List ℕ = set s₁ (k + 1) b in
    let s₃ : List ℕ = set s₂ (k + 2) c in
    get_or-set_same s₃ (k + 3) d 0 (omega (arith, length-set slots k a, length-set s₁ (k + 1) b, length-set s₂ (k + 2) c))
passed-at slots k a b c d (suc (suc (suc (suc i)))) h l = absurd (omega arith)

-- inside a procedure whose arguments have the given rows
pub shows-passed : (slots : List ℕ) (ε : Slots) (ps : List Parameter) (bs : List Binder) (rows : ℕ → ℕ) (a b c d : ℕ) →
    length ps ≤ 4 → length bs + length ps ≤ length slots → ((i : ℕ) → i < 4 → rows i ≡ by-four a b c d i) →
    Shows slots ε bs → Shows (passed_slots slots (length bs) a b c d) (with_rows (length bs) rows ε) (inside ps bs)
unfolding with_rows
shows-passed slots ε ps bs rows a b c d m l f x =
    shows-inside (passed_slots slots (length bs) a b c d) (with_rows (length bs) rows ε) ps bs
    (λ i h.
    passed-at slots (length bs) a b c d i (omega arith) (omega arith)
    ∙ (sym (f i (omega arith)) ∙ sym (beyond_above (length bs) ε.passed rows i)))
    (shows_same slots (passed_slots slots (length bs) a b c d) ε (with_rows (length bs) rows ε) bs
    (λ s h. passed-below slots (length bs) a b c d s h) (λ s h. refl)
    (λ s h. beyond_below (length bs) ε.passed rows s h) x)
