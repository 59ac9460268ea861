-- Signs: numbers made of the letters by which states go into the class s; that of the state p is word p of the copy.
-- Assumes nothing.
use Rattle.std.specs.Prelude.{cond, List, ◌≡◌, ◌%◌, ◌*◌, ◌+◌, ◌-◌, ◌<◌, ◌≤◌, suc, zero, ℕ, eqb, get_or, length}
use Rattle.dfa.specs.Graph.{letter, target, δ}
use Rattle.dfa_smallest.specs.Classes.{Into, SameInto}
use Rattle.dfa_classes.specs.Packed.{Packed}
use Rattle.dfa_classes.specs.Places.{class_at, copy_at, from_at, list_at, member_at, touched_at}

-- the sign v with the letter l put to it: that of no letter is 0, those of one are below 134217729
unfoldable pub mixed : ℕ → ℕ → ℕ
mixed v l = cond (eqb v 0) (l % 134217728 + 1) (134217729 + (v * 10368889 + l % 134217728 + 1) % 16777216)

-- the sign v after the k edges from i on
unfoldable pub sign_from : List ℕ → ℕ → (ℕ → ℕ) → ℕ → ℕ → ℕ → ℕ → ℕ
sign_from G n cls s zero i v = v
sign_from G n cls s (suc k) i v =
    sign_from G n cls s k (suc i) (cond (eqb (cls (target G n i)) s) (mixed v (letter G n i)) v)

-- the sign of the state p
abbrev pub sign_of : List ℕ → ℕ → (ℕ → ℕ) → ℕ → ℕ → ℕ
sign_of G n cls s p = sign_from G n cls s (get_or G (p + 1) 0 - get_or G p 0) (get_or G p 0) 0

-- p is a state, and the words have the classes `cls`
pub record Signing (G : List ℕ) (g n p : ℕ) (cls : ℕ → ℕ) (ws : List ℕ) : Type 0 where
  pub packed : Packed G n g ws
  pub low : p < n
  pub class : (t : ℕ) → t < n → class_at ws t ≡ cls t

-- the loop of sign: the edges from i to end are left
pub record SignLoop (G : List ℕ) (n p : ℕ) (cls : ℕ → ℕ) (s i end v : ℕ) : Type 0 where
  pub ends : end ≡ get_or G (p + 1) 0
  pub from : get_or G p 0 ≤ i
  pub le : i ≤ end
  pub left : sign_from G n cls s (end - i) i v ≡ sign_of G n cls s p

-- the state p has its sign
abbrev pub HasSign : List ℕ → ℕ → ℕ → ℕ → (ℕ → ℕ) → List ℕ → ℕ → Type 0
HasSign G n g s cls ws p = copy_at n g ws p ≡ sign_of G n cls s p

-- the members are states, and the words have the classes `cls`
pub record Signable (G : List ℕ) (n g : ℕ) (cls : ℕ → ℕ) (ws : List ℕ) : Type 0 where
  pub packed : Packed G n g ws
  pub members : (i : ℕ) → i < n → member_at n ws i < n
  pub class : (t : ℕ) → t < n → class_at ws t ≡ cls t

pub record ToSign (n g low till : ℕ) (ws : List ℕ) : Type 0 where
  pub graph : List ℕ
  pub cls : ℕ → ℕ
  pub able : Signable graph n g cls ws
  pub order : low ≤ till
  pub top : till ≤ n

-- the states at the places from low to i have got their signs, and only signs have changed
pub record SignedTo (G : List ℕ) (n g s : ℕ) (cls : ℕ → ℕ) (low i : ℕ) (ws₀ ws : List ℕ) : Type 0 where
  pub len : length ws ≡ length ws₀
  pub keeps : (x : ℕ) → x < g + 3 * n → get_or ws x 0 ≡ get_or ws₀ x 0
  pub stays : (p : ℕ) → HasSign G n g s cls ws₀ p → HasSign G n g s cls ws p
  pub signs : (x : ℕ) → low ≤ x → x < i → HasSign G n g s cls ws (member_at n ws₀ x)

-- the loop of sign_all: the touched members of the first x classes that are listed have their signs
pub record SigningAll (G : List ℕ) (n g s : ℕ) (cls : ℕ → ℕ) (x : ℕ) (ws₀ ws : List ℕ) : Type 0 where
  pub len : length ws ≡ length ws₀
  pub keeps : (y : ℕ) → y < g + 3 * n → get_or ws y 0 ≡ get_or ws₀ y 0
  pub signs : (y : ℕ) → y < x → (i : ℕ) → from_at n ws₀ (list_at n g ws₀ y) ≤ i
      → i < from_at n ws₀ (list_at n g ws₀ y) + touched_at n g ws₀ (list_at n g ws₀ y)
      → HasSign G n g s cls ws (member_at n ws₀ i)

-- states that go into s by the same letters have the same sign, and where it is that of one letter, only these have it
pub record Signed (G : List ℕ) (n g s : ℕ) (cls : ℕ → ℕ) (ws : List ℕ) : Type 0 where
  pub alike : (p q : ℕ) → p < n → q < n → Into (δ G n) cls s p → SameInto (δ G n) cls s p q
      → copy_at n g ws p ≡ copy_at n g ws q
  pub exact : (p q : ℕ) → p < n → q < n → Into (δ G n) cls s p → Into (δ G n) cls s q
      → copy_at n g ws p ≡ copy_at n g ws q → copy_at n g ws p < 134217729 → SameInto (δ G n) cls s p q
