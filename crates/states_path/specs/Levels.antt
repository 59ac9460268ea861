-- A path in words: thirteen for each level.
use Rattle.std.specs.Prelude.{◌≡◌, List, [], ◌∷◌, ℕ, zero, suc, ◌+◌, ◌*◌, ◌≤◌, ◌<◌, get_or, set, length}
use Rattle.states_positions.specs.Row.{SHORTS, LONGS}
use Rattle.states_positions.specs.declared.Frame.{Frame}
use Rattle.states_path.specs.declared.Level.{Level}
use Rattle.states_path.specs.Field.{LEVELS, FIELDS, PART, QUESTION, QUESTION-VALUE, BASE, END, OUTER, ROLE}
use Rattle.states_path.specs.Field.{OFFSET, A, B, C, D, UP}
use Rattle.states_path.specs.Field.{PATH-WORDS}
use Rattle.states_path.specs.Path.{innermost_of, base_of, Owned, up_of}

-- word j of level i
unfoldable pub field_of : List ℕ → ℕ → ℕ → ℕ
field_of p i j = get_or p (FIELDS * i + j) 0

unfoldable pub frame_of : List ℕ → ℕ → Frame
frame_of p i =
    record {
      role = field_of p i ROLE;
      base = field_of p i OFFSET;
      a = field_of p i A;
      b = field_of p i B;
      c = field_of p i C;
      d = field_of p i D;
    }

unfoldable pub level_at : List ℕ → ℕ → Level
level_at p i =
    record {
      part = field_of p i PART;
      kind = field_of p i QUESTION;
      value = field_of p i QUESTION-VALUE;
      base = field_of p i BASE;
      end = field_of p i END;
      outer = field_of p i OUTER;
      up = field_of p i UP;
      f = frame_of p i;
    }

-- the frames of the first levels, the innermost first
unfoldable pub frames_of : List ℕ → ℕ → List Frame
frames_of p zero = []
frames_of p (suc i) = frame_of p i ∷ frames_of p i

-- words written one after the other, and those of a level
unfoldable pub set_all : List ℕ → ℕ → List ℕ → List ℕ
set_all p i [] = p
set_all p i (v ∷ vs) = set_all (set p i v) (suc i) vs

unfoldable pub level_words : Level → List ℕ
level_words l =
    l.part ∷ l.kind ∷ l.value ∷ l.base ∷ l.end ∷ l.outer ∷ l.f.role ∷ l.f.base ∷ l.f.a ∷ l.f.b ∷ l.f.c
    ∷ l.f.d ∷ l.up ∷ []

abbrev pub with_level : List ℕ → ℕ → Level → List ℕ
with_level p i l = set_all p (FIELDS * i) (level_words l)

-- words of 32 bits
unfoldable pub Narrow : List ℕ → Type 0
Narrow [] = Unit
Narrow (v ∷ vs) = (v < LONGS) × Narrow vs

-- a level inside others
pub record Plain (fs : List Frame) (l : Level) : Type 0 where
  pub outer_block : l.outer ≡ innermost_of fs
  pub first_state : l.base ≡ base_of fs + l.f.base
  pub owned : Owned (l.f ∷ fs)
  pub upper : l.up ≡ up_of (l.f ∷ fs)
  pub small : l.base < SHORTS
  pub some : 0 < l.base
  pub kind_small : l.kind < SHORTS
  pub value_small : l.value < SHORTS

-- the words hold c levels
pub record Sound (p : List ℕ) (c : ℕ) : Type 0 where
  pub room : length p ≡ PATH-WORDS
  pub few : c ≤ LEVELS
  pub plain : (i : ℕ) → i < c → Plain (frames_of p i) (level_at p i)
