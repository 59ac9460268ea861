-- The words of a path after a level is written.
use mathlib.Core.Path.{◌≡◌, refl, ◌∙◌, ap}
use mathlib.Core.List.{List, [], ◌∷◌}
use Prim.Native.Nat.{ℕ, zero, suc, ◌+◌, ◌*◌, ◌≤◌, ◌<◌}
use native.Mathlib.Omega.{arith}
use lib.ListN.{get_or, set, length, length-set}
use lib.Seq.{get_or-set_same, get_or-set_other}
use Rattle.states_path.specs.declared.Level.{Level}
use Rattle.states_path.specs.Levels.{field_of, frame_of, level_at, frames_of, set_all, level_words, with_level, Narrow}

set-length : (p : List ℕ) (x : ℕ) (vs : List ℕ) → length (set_all p x vs) ≡ length p
unfolding set_all
set-length p x [] = refl
set-length p x (v ∷ vs) = set-length (set p x v) (suc x) vs ∙ length-set p x v

set_below : (p : List ℕ) (x : ℕ) (vs : List ℕ) (y : ℕ) → y < x → get_or (set_all p x vs) y 0 ≡ get_or p y 0
unfolding set_all
set_below p x [] y h = refl
set_below p x (v ∷ vs) y h =
    set_below (set p x v) (suc x) vs y (omega arith) ∙ get_or-set_other p x y v 0 (λ e. omega arith)

set-in : (p : List ℕ) (x : ℕ) (vs : List ℕ) (j : ℕ) → x + length vs ≤ length p → j < length vs →
    get_or (set_all p x vs) (x + j) 0 ≡ get_or vs j 0
unfolding set_all
set-in p x [] j r h = absurd (omega arith)
set-in p x (v ∷ vs) zero r h =
    let e : x + 0 ≡ x = omega arith in
    rw e (set_below (set p x v) (suc x) vs x (omega arith) ∙ get_or-set_same p x v 0 (omega arith))
set-in p x (v ∷ vs) (suc j) r h =
    let e : x + suc j ≡ suc x + j = omega arith in
    rw e (set-in (set p x v) (suc x) vs j (omega (arith, length-set p x v)) (omega arith))

-- the level that is written, and those before it
module _ (p : List ℕ) (c : ℕ) (l : Level) where
  level-new : 13 * c + 13 ≤ length p → level_at (with_level p c l) c ≡ l
  unfolding level_at frame_of field_of level_words
  level-new r =
      simp (
        at 0 (omega arith),
        at 1 (omega arith),
        at 2 (omega arith),
        at 3 (omega arith),
        at 4 (omega arith),
        at 5 (omega arith),
        at 6 (omega arith),
        at 7 (omega arith),
        at 8 (omega arith),
        at 9 (omega arith),
        at 10 (omega arith),
        at 11 (omega arith),
        at 12 (omega arith),
      )
    where
      at : (j : ℕ) → j < 13 → get_or (with_level p c l) (13 * c + j) 0 ≡ get_or (level_words l) j 0
      at j h = set-in p (13 * c) (level_words l) j r h

  field-old : (i j : ℕ) → i < c → j < 13 → field_of (with_level p c l) i j ≡ field_of p i j
  unfolding field_of
  field-old i j h b = set_below p (13 * c) (level_words l) (13 * i + j) (omega arith)

  frame-old : (i : ℕ) → i < c → frame_of (with_level p c l) i ≡ frame_of p i
  unfolding frame_of
  frame-old i h =
      simp (
        field-old i 6 h (omega arith),
        field-old i 7 h (omega arith),
        field-old i 8 h (omega arith),
        field-old i 9 h (omega arith),
        field-old i 10 h (omega arith),
        field-old i 11 h (omega arith),
      )

  level-old : (i : ℕ) → i < c → level_at (with_level p c l) i ≡ level_at p i
  unfolding level_at
  level-old i h =
      simp (
        frame-old i h,
        field-old i 0 h (omega arith),
        field-old i 1 h (omega arith),
        field-old i 2 h (omega arith),
        field-old i 3 h (omega arith),
        field-old i 4 h (omega arith),
        field-old i 5 h (omega arith),
        field-old i 12 h (omega arith),
      )

  frames-old : (i : ℕ) → i ≤ c → frames_of (with_level p c l) i ≡ frames_of p i
  unfolding frames_of
  frames-old zero h = refl
  frames-old (suc i) h = rw (frame-old i (omega arith), frames-old i (omega arith))

-- the frames are the levels'
pub frames-next : (p : List ℕ) (i : ℕ) → frames_of p (suc i) ≡ (level_at p i).f ∷ frames_of p i
unfolding frames_of level_at
frames-next p i = refl

pub frames-length : (p : List ℕ) (i : ℕ) → length (frames_of p i) ≡ i
unfolding frames_of
frames-length p zero = refl
frames-length p (suc i) = ap suc (frames-length p i)

-- the level that is entered, and those before it
module _ (p : List ℕ) (c : ℕ) (l : Level) (h : c < 6145) (r : length p ≡ 79885) where
  pub entered-length : length (with_level p c l) ≡ 79885
  entered-length = set-length p (13 * c) (level_words l) ∙ r

  pub entered-new : level_at (with_level p c l) c ≡ l
  entered-new = level-new p c l (omega (arith, r))

  pub entered-old : (i : ℕ) → i < c → level_at (with_level p c l) i ≡ level_at p i
  entered-old i b = level-old p c l i b

  pub entered-frames : (i : ℕ) → i ≤ c → frames_of (with_level p c l) i ≡ frames_of p i
  entered-frames i b = frames-old p c l i b

-- four words, and a level of thirteen
pub four : (p p₁ p₂ p₃ p₄ : List ℕ) (i a b c d : ℕ) → p₁ ≡ set p i a → p₂ ≡ set p₁ (i + 1) b → p₃ ≡ set p₂ (i + 2) c →
    p₄ ≡ set p₃ (i + 3) d → p₄ ≡ set_all p i (a ∷ b ∷ c ∷ d ∷ [])
unfolding set_all
four p p₁ p₂ p₃ p₄ i a b c d e f g h =
    let x : i + 1 ≡ suc i = omega arith in
    let y : i + 2 ≡ suc (suc i) = omega arith in
    let z : i + 3 ≡ suc (suc (suc i)) = omega arith in
    rw (h, g, f, e, x, y, z)

pub thirteen : (p p₁ p₂ p₃ p₄ : List ℕ) (i : ℕ) (l : Level) →
    p₁ ≡ set_all p (13 * i) (l.part ∷ l.kind ∷ l.value ∷ l.base ∷ []) →
    p₂ ≡ set_all p₁ (13 * i + 4) (l.end ∷ l.outer ∷ l.f.role ∷ l.f.base ∷ []) →
    p₃ ≡ set_all p₂ (13 * i + 8) (l.f.a ∷ l.f.b ∷ l.f.c ∷ l.f.d ∷ []) → p₄ ≡ set p₃ (13 * i + 12) l.up →
    p₄ ≡ with_level p i l
unfolding set_all level_words
thirteen p p₁ p₂ p₃ p₄ i l e f g h =
    let x : 13 * i + 4 ≡ suc (suc (suc (suc (13 * i)))) = omega arith in
    let y : 13 * i + 8 ≡ suc (suc (suc (suc (suc (suc (suc (suc (13 * i)))))))) = omega arith in
    let z : 13 * i + 12 ≡ suc (suc (suc (suc (suc (suc (suc (suc (suc (suc (suc (suc (13 * i)))))))))))) = omega arith
    in
    rw (h, g, f, e, x, y, z)

-- the words of a level that are written together, where all are words of 32 bits
pub record Fours (l : Level) : Type 0 where
  pub first : (l.part < 4294967296) × ((l.kind < 4294967296) × ((l.value < 4294967296) × (l.base < 4294967296)))
  pub second : (l.end < 4294967296) × ((l.outer < 4294967296) × ((l.f.role < 4294967296)
      × (l.f.base < 4294967296)))
  pub third : (l.f.a < 4294967296) × ((l.f.b < 4294967296) × ((l.f.c < 4294967296) × (l.f.d < 4294967296)))
  pub last : l.up < 4294967296

pub fours : (l : Level) → Narrow (level_words l) → Fours l
unfolding Narrow level_words
fours l h =
    let k = h.1.1.1.1 in
    let j = k.1.1.1.1 in
    record {
      first = (h.0, (h.1.0, (h.1.1.0, h.1.1.1.0)));
      second = (k.0, (k.1.0, (k.1.1.0, k.1.1.1.0)));
      third = (j.0, (j.1.0, (j.1.1.0, j.1.1.1.0)));
      last = j.1.1.1.1.0;
    }
