-- What the words of a row are, from what it is.
use Prim.Native.Nat.{ℕ, ◌%◌}
use native.Mathlib.Omega.{arith}
use mathlib.Core.Path.{◌≡◌, refl, subst}
use mathlib.Core.Bool.{Bool, true, false}
use mathlib.Core.Option.{none, some}
use mathlib.Core.List.{List}
use lib.Dec.{eqb}
use borrow.Author.Tests.{eqb-true}
use Rattle.language.specs.Ty.{Ty}
use Rattle.language.specs.Term.{Operation}
use Rattle.language.specs.Typing.{operands}
use Rattle.language.specs.declared.Numbers.{Numbers}
use Rattle.language.specs.Term.{Often}
use Rattle.sheet_written.specs.Written.{Name}
use Rattle.sheet_written.specs.Meaning.{Meaning, private, argument, routine, named, retired, free, declared, ty_of}
use Rattle.sheet_written.specs.Shared as s
use Rattle.sheet_written.specs.Shared.{Parts, Row}
use Rattle.sheet_written.specs.Expand.{operation}
use Rattle.term_closing.specs.Rows.{parts_from, named_row, row_of}

module _ (N : Numbers) (ns : List Name) (kind d : ℕ) (f : ℕ → ℕ) where
  pub data Decoded : Row → Type 0 where
    is-skip : kind ≡ 16 → Decoded s.skip
    is-diverge : kind ≡ 17 → Decoded s.diverge
    is-const : {v : ℕ} → kind ≡ 18 → d ≡ v → Decoded (s.const v)
    is-private : {v : ℕ} → kind ≡ 128 → d ≡ v → Decoded (s.private v)
    is_name : {i ty : ℕ} {often : Often} {tys : List ℕ} {T : Ty} {xs : Parts} → kind ≡ 20 →
        declared ns (d % 256) ≡ named often ty tys → d % 256 ≡ i → ty_of N ty ≡ T → parts_from N tys f 0 ≡ xs →
        Decoded (s.name i often T xs)
    is-fetch : {a : ℕ} → kind ≡ 21 → f 0 ≡ a → Decoded (s.fetch a)
    is-operate : {m a b : ℕ} {o : Operation} → kind ≡ 22 → operation N d ≡ o → operands o ≡ m → f 0 ≡ a → f 1 ≡ b →
        Decoded (s.operate m o a b)
    is-assign : {m a b : ℕ} → kind ≡ 23 → d ≡ m → f 0 ≡ a → f 1 ≡ b → Decoded (s.assign m a b)
    is-seq : {a b : ℕ} → kind ≡ 24 → f 0 ≡ a → f 1 ≡ b → Decoded (s.seq a b)
    is-cond : {a b c : ℕ} → kind ≡ 25 → f 0 ≡ a → f 1 ≡ b → f 2 ≡ c → Decoded (s.cond a b c)
    is-while : {a b : ℕ} → kind ≡ 26 → f 0 ≡ a → f 1 ≡ b → Decoded (s.while a b)
    is-new : {m a : ℕ} → kind ≡ 27 → d ≡ m → f 0 ≡ a → Decoded (s.new m a)

  by_kind : {P : Type 0} (t : Bool) → (t ≡ true → P) → (t ≡ false → P) → P
  by_kind true g h = g refl
  by_kind false g h = h refl

  same : {x y : Row} → some x ≡ some y → Decoded x → Decoded y
  same e h = let z = inside e in subst Decoded z h
    where
      inside : {x y : Row} → some x ≡ some y → x ≡ y
      inside e = cc

  nothing : {x : Row} → none ≡ some x → Decoded x
  nothing e = let z : ◌≡◌ {A = ℕ} 0 1 = cc in absurd (omega arith)

  name-decoded : (x : Row) (m : Meaning) → declared ns (d % 256) ≡ m → kind ≡ 20 →
      named_row N (d % 256) f m ≡ some x → Decoded x
  unfolding named_row
  name-decoded x (private k e) q l h = nothing h
  name-decoded x (argument k ty) q l h = nothing h
  name-decoded x (routine k ty tys) q l h = nothing h
  name-decoded x (named often ty tys) q l h = same h (is_name l q refl refl refl)
  name-decoded x retired q l h = nothing h
  name-decoded x free q l h = nothing h

  pub decoded : (x : Row) → row_of N ns kind d f ≡ some x → Decoded x
  unfolding row_of
  decoded x h =
      by_kind (eqb kind 16) (λ t. same (rw t at h) (is-skip (eqb-true kind 16 t))) (λ t₁. let h₁ = rw t₁ at h in
      by_kind (eqb kind 17) (λ t. same (rw t at h₁) (is-diverge (eqb-true kind 17 t))) (λ t₂. let h₂ = rw t₂ at h₁ in
      by_kind (eqb kind 18) (λ t. same (rw t at h₂) (is-const (eqb-true kind 18 t) refl)) (λ t₃. let h₃ = rw t₃ at h₂ in
      by_kind (eqb kind 128) (λ t. same (rw t at h₃) (is-private (eqb-true kind 128 t) refl)) (λ t₄.
      let h₄ = rw t₄ at h₃ in
      by_kind (eqb kind 20) (λ t. name-decoded x (declared ns (d % 256)) refl (eqb-true kind 20 t) (rw t at h₄)) (λ t₅.
      let h₅ = rw t₅ at h₄ in
      by_kind (eqb kind 21) (λ t. same (rw t at h₅) (is-fetch (eqb-true kind 21 t) refl)) (λ t₆. let h₆ = rw t₆ at h₅ in
      by_kind (eqb kind 22) (λ t. same (rw t at h₆) (is-operate (eqb-true kind 22 t) refl refl refl refl)) (λ t₇.
      let h₇ = rw t₇ at h₆ in
      by_kind (eqb kind 23) (λ t. same (rw t at h₇) (is-assign (eqb-true kind 23 t) refl refl refl)) (λ t₈.
      let h₈ = rw t₈ at h₇ in
      by_kind (eqb kind 24) (λ t. same (rw t at h₈) (is-seq (eqb-true kind 24 t) refl refl)) (λ t₉.
      let h₉ = rw t₉ at h₈ in
      by_kind (eqb kind 25) (λ t. same (rw t at h₉) (is-cond (eqb-true kind 25 t) refl refl refl)) (λ t₀.
      let h₀ = rw t₀ at h₉ in
      by_kind (eqb kind 26) (λ t. same (rw t at h₀) (is-while (eqb-true kind 26 t) refl refl)) (λ u. let g = rw u at h₀ in
      by_kind (eqb kind 27) (λ t. same (rw t at g) (is-new (eqb-true kind 27 t) refl refl))
      (λ v. nothing (rw v at g)))))))))))))
