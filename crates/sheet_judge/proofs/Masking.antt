-- The masks of a sheet's name records are the bits of its names; the mark that is made of them is the sheet's.
use Prim.Native.Nat.{ℕ, zero, suc, ◌+◌, ◌-◌, ◌*◌, ◌^◌, ◌≤◌, ◌<◌}
use native.Mathlib.Omega.{arith}
use native.Mathlib.Nat.{pow-suc}
use mathlib.Core.Path.{◌≡◌, refl, sym, ap, ap₂, ◌∙◌, subst}
use mathlib.Core.Bool.{Bool, true, false}
use mathlib.Core.List.{List, [], ◌∷◌, ◌++◌, append_assoc}
use lib.ListN.{length, get_or, drop}
use lib.Pow.{pow_mono}
use lib.Count.{ones}
use Rattle.language.specs.Term.{Often, freely, once, onces}
use Rattle.sheet_records.specs.Kind.{shape_of}
use Rattle.sheet_records.specs.declared.kind.Rule.{Rule}
use Rattle.sheet_records.specs.declared.kind.Shape.{Shape}
use Rattle.sheet_records.specs.declared.kind.Shape.TheVariants.{Part, Declare, Retire, Unknown}
use Rattle.sheet_records.specs.declared.edition.Edition.{Edition}
use Rattle.sheet_written.specs.Written.{Written, Name, declare, retire, Sheet}
use Rattle.sheet_written.specs.Fine.{FineNames}
use Rattle.sheet_written.specs.Uses.{uses, is_declared, is_used, bit, bits, mark_of, used_of, unused_of}
use Rattle.sheet_written.specs.Uses.{declared_in}
use Rattle.sheet_written.proofs.Marking.{bits-ones, first-wanted}
use Rattle.sheet_reader.specs.Encoding.{encode, declare_kind, encode_name, encode_names, encode_sheet}
use Rattle.sheet_reader.specs.Reader.{read_under, accepted}
use Rattle.sheet_judge.specs.Mark.{uses_of}
use Rattle.sheet_reader.specs.table.Notes.{is_noted}
use Rattle.sheet_judge.specs.Masks.{mask_as, mask, every, uses_by, uses_at, declared_at}
use Rattle.sheet_reader.proofs.Bytes.{byte-there, open-one}
use Rattle.sheet_reader.proofs.NameBytes.{declared-there, declared-past}
use Rattle.sheet_reader.proofs.CompleteNames.{kind-of}
use Rattle.sheet_reader.proofs.Right.{gives}

-- so many records have so many bits
bit_below : (b : Bool) (m p : ℕ) → m < p → bit b + 2 * m < 2 * p
unfolding bit
bit_below true m p h = omega arith
bit_below false m p h = omega arith

shape-below : (f : ℕ → Bool) (s : List ℕ) (at p : ℕ) (rest : ℕ → ℕ) → ((n : ℕ) → rest n < p) → (h : Shape) →
    mask_as f s at rest h < 2 * p
unfolding mask_as
shape-below f s at p rest l (Declare body asks) = bit_below (f (get_or s (at + 1) 0)) _ p (l (at + 1 + body))
shape-below f s at p rest l (Retire body) = omega (arith, l (at + 1 + body))
shape-below f s at p rest l (Part body parts rule) = omega (arith, l 0)
shape-below f s at p rest l Unknown = omega (arith, l 0)

doubled : (m p q : ℕ) → m < 2 * p → q ≡ p * 2 → m < q
doubled m p q h e = omega arith

mask_below : (f : ℕ → Bool) (left : ℕ) (s : List ℕ) (at : ℕ) → mask f left s at < 2 ^ left
unfolding mask
mask_below f zero s at = omega arith
mask_below f (suc left) s at =
    doubled _ (2 ^ left) (2 ^ suc left)
    (shape-below f s at (2 ^ left) (λ next. mask f left s next) (λ next. mask_below f left s next)
    (shape_of (get_or s at 0))) (pow-suc 2 left)

-- a bit more fits a word
pub mask_fits : (f : ℕ → Bool) (left : ℕ) (s : List ℕ) (at : ℕ) {rest : ℕ} → rest ≡ mask f (left - 1) s at → left ≤ 32 →
    1 + 2 * rest < 4294967296
mask_fits f left s at {rest} e h =
    let l : rest < 2 ^ (left - 1) = subst (λ m. m < 2 ^ (left - 1)) (sym e) (mask_below f (left - 1) s at) in
    let m : 2 ^ (left - 1) ≤ 2 ^ 31 = pow_mono {i = left - 1} {j = 31} (omega arith) in
    omega (arith, l, m)

-- one record, as the code looks at it
pub mask-none : (f : ℕ → Bool) (s : List ℕ) (at : ℕ) {left : ℕ} → left ≡ 0 → 0 ≡ mask f left s at
unfolding mask
mask-none f s at e = rw e refl

module _ (f : ℕ → Bool) (s : List ℕ) (at : ℕ) where
  one_fewer : (left : ℕ) → (left ≡ 0 → ⊥) → left ≡ suc (left - 1)
  one_fewer left h = omega arith

  mask-shape : (left : ℕ) {kind : ℕ} {h g : Shape} → (left ≡ 0 → ⊥) → kind ≡ get_or s at 0 → h ≡ shape_of kind → h ≡ g →
      mask_as f s at (λ next. mask f (left - 1) s next) g ≡ mask f left s at
  unfolding mask
  mask-shape left n k e d =
      ap (mask_as f s at (λ next. mask f (left - 1) s next)) (sym d ∙ (e ∙ ap shape_of k))
      ∙ ap (λ (l : ℕ). mask f l s at) (sym (one_fewer left n))

  mask-declared : {left kind rest id body asks : ℕ} {h : Shape} → (left ≡ 0 → ⊥) → kind ≡ get_or s at 0 →
      h ≡ shape_of kind → h ≡ Declare body asks → rest ≡ mask f (left - 1) s (at + 1 + body) →
      id ≡ get_or s (at + 1) 0 → bit (f id) + 2 * rest ≡ mask f left s at
  unfolding mask_as
  mask-declared {left} n k e d r i = ap₂ (λ (j m : ℕ). bit (f j) + 2 * m) i r ∙ mask-shape left n k e d

  pub mask-set : {left kind rest id body asks : ℕ} {b : Bool} {h : Shape} → (left ≡ 0 → ⊥) → kind ≡ get_or s at 0 →
      h ≡ shape_of kind → h ≡ Declare body asks → rest ≡ mask f (left - 1) s (at + 1 + body) →
      id ≡ get_or s (at + 1) 0 → b ≡ f id → b ≡ true → 1 + 2 * rest ≡ mask f left s at
  unfolding bit
  mask-set {rest = rest} n k e d r i g t = ap (λ c. bit c + 2 * rest) (sym t ∙ g) ∙ mask-declared n k e d r i

  pub mask-unset : {left kind rest id body asks : ℕ} {b : Bool} {h : Shape} → (left ≡ 0 → ⊥) → kind ≡ get_or s at 0 →
      h ≡ shape_of kind → h ≡ Declare body asks → rest ≡ mask f (left - 1) s (at + 1 + body) →
      id ≡ get_or s (at + 1) 0 → b ≡ f id → b ≡ false → 2 * rest ≡ mask f left s at
  unfolding bit
  mask-unset {rest = rest} n k e d r i g t =
      let z : 2 * rest ≡ bit false + 2 * rest = omega arith in
      z ∙ (ap (λ c. bit c + 2 * rest) (sym t ∙ g) ∙ mask-declared n k e d r i)

  pub mask-retired : {left kind rest body : ℕ} {h : Shape} → (left ≡ 0 → ⊥) → kind ≡ get_or s at 0 →
      h ≡ shape_of kind → h ≡ Retire body → rest ≡ mask f (left - 1) s (at + 1 + body) → 2 * rest ≡ mask f left s at
  unfolding mask_as
  mask-retired {left} n k e d r = ap (λ (m : ℕ). 2 * m) r ∙ mask-shape left n k e d

  pub mask-part : {left kind body parts : ℕ} {rule : Rule} {h : Shape} → (left ≡ 0 → ⊥) → kind ≡ get_or s at 0 →
      h ≡ shape_of kind → h ≡ Part body parts rule → 0 ≡ mask f left s at
  unfolding mask_as
  mask-part {left} n k e d = mask-shape left n k e d

  pub mask-unknown : {left kind : ℕ} {h : Shape} → (left ≡ 0 → ⊥) → kind ≡ get_or s at 0 → h ≡ shape_of kind →
      h ≡ Unknown → 0 ≡ mask f left s at
  unfolding mask_as
  mask-unknown {left} n k e d = mask-shape left n k e d

-- the ids of declared names
unfoldable of_ids : (ℕ → Bool) → Name → Bool
of_ids f (declare often id ty tys) = f id
of_ids f (retire id) = false

-- the shapes of name records
declare-shape : (often : Often) → shape_of (declare_kind often) ≡ Declare 7 (onces often)
unfolding shape_of declare_kind onces
declare-shape freely = refl
declare-shape once = refl

retire-shape : shape_of 2 ≡ Retire 1
unfolding shape_of
retire-shape = refl

-- the records of names that lie at a place before a term
mask-names : (f : ℕ → Bool) (s : List ℕ) (W : Written) (ns : List Name) (left at : ℕ) → length ns ≤ left →
    drop at s ≡ encode_names ns ++ encode W → mask f left s at ≡ bits (of_ids f) ns
unfolding mask mask_as bits bit of_ids encode_names encode_name
mask-names f s W [] zero at h e = refl
mask-names f s W [] (suc left) at h e =
    let K = kind-of W in
    let b = byte-there s at K.kind K.tail (e ∙ K.bytes) in
    rw (b.1, K.shape) refl
mask-names f s W (n ∷ ns) zero at h e = absurd (omega arith)
mask-names f s W (declare often id ty tys ∷ ns) (suc left) at h e =
    let D = declared-there s at often id ty tys (encode_names ns ++ encode W)
    (e ∙ append_assoc (encode_name (declare often id ty tys)) (encode_names ns) (encode W)) in
    rw (D.kind.1, declare-shape often, D.id-byte.1)
    (ap (λ m. bit (f id) + 2 * m) (mask-names f s W ns left (at + 1 + 7) (omega arith)
    (declared-past s [] at often id ty tys (encode_names ns ++ encode W) D)))
mask-names f s W (retire id ∷ ns) (suc left) at h e =
    let o = open-one s at 2 id (encode_names ns ++ encode W)
    (e ∙ append_assoc (encode_name (retire id)) (encode_names ns) (encode W)) in
    let z : 2 * bits (of_ids f) ns ≡ bit false + 2 * bits (of_ids f) ns = omega arith in
    rw (o.0.1, retire-shape)
    (ap (λ m. 2 * m) (mask-names f s W ns left (at + 1 + 1) (omega arith) o.2) ∙ z)

-- the same records
bits-same : (f g : Name → Bool) (ns : List Name) → ((n : Name) → f n ≡ g n) → bits f ns ≡ bits g ns
unfolding bits
bits-same f g [] e = refl
bits-same f g (n ∷ ns) e = ap₂ (λ b m. bit b + 2 * m) (e n) (bits-same f g ns e)

-- the same records, where the ids of names are below the last byte
bits-named : (f g : Name → Bool) (earlier ns : List Name) → FineNames earlier ns →
    ((often : Often) (id ty : ℕ) (tys : List ℕ) → id < 256 →
    f (declare often id ty tys) ≡ g (declare often id ty tys)) →
    ((id : ℕ) → f (retire id) ≡ g (retire id)) → bits f ns ≡ bits g ns
unfolding bits FineNames
bits-named f g earlier [] F e h = refl
bits-named f g earlier (declare often id ty tys ∷ ns) F e h =
    ap₂ (λ b m. bit b + 2 * m) (e often id ty tys (omega (arith, F.0)))
    (bits-named f g (declare often id ty tys ∷ earlier) ns F.5 e h)
bits-named f g earlier (retire id ∷ ns) F e h =
    ap₂ (λ b m. bit b + 2 * m) (h id) (bits-named f g (retire id ∷ earlier) ns F.2 e h)

-- what the code makes of the masks
pub uses-made : (s t : List ℕ) {mark declared : ℕ} → mark ≡ mask (is_noted t) 32 s 2 → declared ≡ mask every 32 s 2 →
    uses_by mark declared ≡ uses_at s t
unfolding uses_at
uses-made s t e f = ap₂ uses_by e f

-- of an accepted sheet
module _ (ed : Edition) (s : List ℕ) (S : Sheet) (ty n : ℕ) (reads : read_under ed s ≡ accepted S ty n) where
  lies : drop 2 s ≡ encode_names S.names ++ encode S.term
  unfolding encode_sheet
  lies = ap (λ (x : List ℕ). drop 2 x) (gives ed s S ty n reads).0

  few : length S.names ≤ 32
  few = (gives ed s S ty n reads).1.ordered.few_names

  named : FineNames [] S.names
  named = (gives ed s S ty n reads).1.ordered.in_order.fine_names

  declared-mask : mask every 32 s 2 ≡ bits is_declared S.names
  unfolding of_ids is_declared
  declared-mask =
      mask-names every s S.term S.names 32 2 few lies ∙ bits-same (of_ids every) is_declared S.names same
    where
      same : (m : Name) → of_ids every m ≡ is_declared m
      same (declare often id ty tys) = refl
      same (retire id) = refl

  -- the records that declare a name are those of the sheet
  pub counted : declared_at s ≡ declared_in S
  unfolding declared_at declared_in
  counted = ap ones declared-mask ∙ bits-ones is_declared S.names

  module _ (t : List ℕ) (notes : (id : ℕ) → id < 256 → is_noted t id ≡ uses S.names id [] S.term) where
    mark-mask : mask (is_noted t) 32 s 2 ≡ mark_of S
    unfolding mark_of of_ids is_used
    mark-mask =
        mask-names (is_noted t) s S.term S.names 32 2 few lies
        ∙ bits-named (of_ids (is_noted t)) (is_used S) [] S.names named (λ often id ty tys h. notes id h) (λ id. refl)

    -- THEOREM: what is made of the masks is what the sheet uses
    pub uses-right : uses_at s t ≡ uses_of S
    unfolding uses_at uses_by uses_of used_of unused_of mark_of
    uses-right =
        ap₂ uses_by mark-mask declared-mask
        ∙ ap₂ (λ u v. record { mark = mark_of S; used = u; unused = v })
        (bits-ones (is_used S) S.names)
        (none_before _ ∙ first-wanted (is_used S) is_declared S.names 32 0 few refl)
      where
        none_before : (k : ℕ) → k ≡ 0 + k
        none_before k = omega arith
