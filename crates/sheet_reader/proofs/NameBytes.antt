-- Name records: their bytes.
use Prim.Native.Nat.{ℕ, ◌+◌, ◌≤◌, ◌<◌}
use native.Mathlib.Omega.{arith}
use mathlib.Core.Path.{◌≡◌, refl, sym, ap, ap₂, ◌∙◌}
use mathlib.Core.List.{List, ◌∷◌, ◌++◌}
use lib.ListN.{length, get_or, take, drop, length-append, length-drop, take-append-drop}
use lib.Seq.{length-take-le, drop-drop, drop_at, get_or-drop, get_or-take}
use Rattle.language.specs.Term.{Often, freely, once, onces}
use Rattle.sheet_written.specs.Written.{declare}
use Rattle.sheet_reader.specs.Encoding.{padded, declare_kind, encode_name}
use Rattle.sheet_written.specs.Fine.{AllTypes}
use Rattle.sheet_reader.specs.Heading.{often_of, declare_at, retire_at}
use Rattle.sheet_reader.proofs.Parsed.{Byte}
use Rattle.sheet_reader.proofs.Judgement.{Fresh, Declaration}
use Rattle.sheet_reader.proofs.Padding.{padded-take, padded-length, padded-known, padded-unused, padded-of, types-all}
use Rattle.sheet_reader.proofs.Padding.{all_types}
use Rattle.sheet_reader.proofs.Standings.{Declares}
use Rattle.sheet_reader.proofs.Bytes.{two_bytes, byte-there, past_one}

-- how often a name asks, from the number and back
pub often-again : (o : Often) → often_of (onces o) ≡ o
unfolding often_of onces
often-again freely = refl
often-again once = refl

-- the argument types of the declare record at a place
abbrev pub types_at : List ℕ → ℕ → List ℕ
types_at s at = take (get_or s (at + 3) 0) (drop (at + 4) s)

-- a declare record that is judged good
module _ (s st : List ℕ) (at : ℕ) (D : Declaration s st at) where
  four-inside : 4 ≤ length (drop (at + 4) s)
  four-inside = rw (length-drop (at + 4) s) (omega (arith, (D.arguments 3 (omega arith)).inside))

  types-length : length (types_at s at) ≡ get_or s (at + 3) 0
  types-length = length-take-le (get_or s (at + 3) 0) (drop (at + 4) s) (omega (arith, four-inside, D.few))

  types-argument : (j : ℕ) → j < get_or s (at + 3) 0 → get_or s (at + 4 + j) 0 ≡ get_or (types_at s at) j 0
  types-argument j h = sym (get_or-take (get_or s (at + 3) 0) (drop (at + 4) s) j 0 h ∙ get_or-drop (at + 4) s j 0)

  pub good-declares : Declares s at (get_or s (at + 2) 0) (types_at s at)
  good-declares = record {
    result = refl;
    count = sym types-length;
    argument = λ j h. types-argument j (omega (arith, types-length));
    known = D.type-known;
    few = rw types-length D.few;
    inside = omega (arith, D.count-inside);
  }

  pub good-types : AllTypes (types_at s at)
  good-types =
      types-all (types_at s at) (λ j h.
      let k : j < get_or s (at + 3) 0 = omega (arith, types-length) in
      rw (← types-argument j k) ((D.arguments j (omega (arith, D.few))).known k))

  types-bytes : drop (at + 4) s ≡ padded 4 (types_at s at) ++ drop (at + 1 + 7) s
  types-bytes =
      let n : at + 4 + 4 ≡ at + 1 + 7 = omega arith in
      sym (take-append-drop 4 (drop (at + 4) s))
      ∙ ap₂ (λ (x y : List ℕ). x ++ y)
      (sym (padded-of 4 (get_or s (at + 3) 0) (drop (at + 4) s) (omega (arith, D.few)) four-inside
      (λ j k h. get_or-drop (at + 4) s j 0 ∙ (D.arguments j h).padding k)))
      (drop-drop 4 (at + 4) s ∙ ap (λ (x : ℕ). drop x s) n)

  pub good-bytes : (often : Often) → Byte s at (declare_kind often) →
      drop at s ≡ encode_name (declare_at s at (onces often)) ++ drop (at + 1 + 7) s
  unfolding encode_name declare_at
  good-bytes often b =
      let n : at + 2 + 1 ≡ at + 3 = omega arith in
      let n' : at + 2 + 2 ≡ at + 4 = omega arith in
      let ty = get_or s (at + 2) 0 in
      let c = get_or s (at + 3) 0 in
      let count : Byte s (at + 2 + 1) c = rw n (D.count-inside, refl) in
      rw (often-again often) (two_bytes s at (declare_kind often) (get_or s (at + 1) 0) b (D.id.inside, refl)
      ∙ ap (λ (x : List ℕ). declare_kind often ∷ get_or s (at + 1) 0 ∷ x)
      (two_bytes s (at + 2) ty c (D.type-inside, refl) count
      ∙ ap₂ (λ (x : ℕ) (y : List ℕ). ty ∷ x ∷ y) (sym types-length) (ap (λ (x : ℕ). drop x s) n' ∙ types-bytes)))

-- a retire record that is judged good
pub retire-bytes :
    (s st : List ℕ) (at : ℕ) → Fresh s st (at + 1) → Byte s at 2 →
    drop at s ≡ encode_name (retire_at s at) ++ drop (at + 1 + 1) s
unfolding encode_name retire_at
retire-bytes s st at F b =
    let n : at + 2 ≡ at + 1 + 1 = omega arith in
    two_bytes s at 2 (get_or s (at + 1) 0) b (F.inside, refl) ∙ ap (λ (x : ℕ). 2 ∷ get_or s (at + 1) 0 ∷ drop x s) n

-- the bytes of a declare record, and what follows
pub record Declared (s : List ℕ) (at : ℕ) (often : Often) (id ty : ℕ) (tys rest : List ℕ) : Type 0 where
  pub kind : Byte s at (declare_kind often)
  pub id-byte : Byte s (at + 1) id
  pub type-byte : Byte s (at + 2) ty
  pub count-byte : Byte s (at + 3) (length tys)
  pub types_are : drop (at + 4) s ≡ padded 4 tys ++ rest

pub declared-there :
    (s : List ℕ) (at : ℕ) (often : Often) (id ty : ℕ) (tys rest : List ℕ) →
    drop at s ≡ encode_name (declare often id ty tys) ++ rest → Declared s at often id ty tys rest
unfolding encode_name
declared-there s at often id ty tys rest e =
    let n : at + 1 + 1 ≡ at + 2 = omega arith in
    let n' : at + 2 + 1 ≡ at + 3 = omega arith in
    let n'' : at + 3 + 1 ≡ at + 4 = omega arith in
    let e₁ = past_one s at (declare_kind often) _ e in
    let e₂ = rw n at (past_one s (at + 1) id _ e₁) in
    let e₃ = rw n' at (past_one s (at + 2) ty _ e₂) in
    record {
      kind = byte-there s at (declare_kind often) _ e;
      id-byte = byte-there s (at + 1) id _ e₁;
      type-byte = byte-there s (at + 2) ty _ e₂;
      count-byte = byte-there s (at + 3) (length tys) _ e₃;
      types_are = rw n'' at (past_one s (at + 3) (length tys) _ e₃);
    }

module _ (s st : List ℕ) (at : ℕ) (often : Often) (id ty : ℕ) (tys rest : List ℕ)
    (D : Declared s at often id ty tys rest) where
  inside-four : at + 8 ≤ length s
  inside-four =
      omega (
        arith,
        sym (length-drop (at + 4) s) ∙ ap length D.types_are ∙ length-append (padded 4 tys) rest,
        padded-length 4 tys,
      )

  argument-at : (j : ℕ) → get_or s (at + 4 + j) 0 ≡ get_or (padded 4 tys ++ rest) j 0
  argument-at j = sym (get_or-drop (at + 4) s j 0) ∙ ap (λ (x : List ℕ). get_or x j 0) D.types_are

  pub declared-good :
      id < 255 → get_or st id 0 ≡ 0 → ty < 5 → length tys < 5 → AllTypes tys → Declaration s st at
  declared-good l f k c a = record {
    id = record {
      inside = D.id-byte.0;
      below = rw D.id-byte.1 l;
      free = rw D.id-byte.1 f;
    };
    type-inside = D.type-byte.0;
    type-known = rw D.type-byte.1 k;
    count-inside = D.count-byte.0;
    few = rw D.count-byte.1 c;
    arguments = λ j h. record {
      inside = omega (arith, inside-four);
      known = λ u.
          let u' : j < length tys = rw D.count-byte.1 at u in
          rw (argument-at j, padded-known 4 tys rest j (omega arith) u') (all_types tys a j u');
      padding = λ u. argument-at j ∙ padded-unused 4 tys rest j (rw D.count-byte.1 at u) h;
    };
  }

  pub declared-declares : ty < 5 → length tys < 5 → Declares s at ty tys
  declared-declares k c = record {
    result = D.type-byte.1;
    count = D.count-byte.1;
    argument = λ j h. argument-at j ∙ padded-known 4 tys rest j (omega arith) h;
    known = k;
    few = c;
    inside = D.kind.0;
  }

  pub declared-is : length tys < 5 → declare_at s at (onces often) ≡ declare often id ty tys
  unfolding declare_at
  declared-is c =
      rw (
        often-again often,
        D.id-byte.1,
        D.type-byte.1,
        D.count-byte.1,
        D.types_are,
        padded-take 4 tys rest (omega arith),
      ) refl

  pub declared-past : drop (at + 1 + 7) s ≡ rest
  declared-past =
      let n : at + 4 + 4 ≡ at + 1 + 7 = omega arith in
      ap (λ (x : ℕ). drop x s) (sym n) ∙ sym (drop-drop 4 (at + 4) s) ∙ ap (λ (x : List ℕ). drop 4 x) D.types_are
      ∙ drop_at (padded 4 tys) rest 4 (padded-length 4 tys)
