-- Hopcroft and Karp's comparison, breadth first in the order of the letters: entry k of the queue is E k, and rep is
-- the representative of each class. Assumes nothing.
use Rattle.std.specs.Prelude.{Bool, cond, false, true, List, [], ◌∷◌, ◌⊎◌, ◌≡◌, ◌+◌, ◌<◌, ◌≤◌, suc, zero, ℕ, eqb, length}
use Rattle.dfa.specs.Word.{Less, after}

abbrev pub Le : List ℕ → List ℕ → Type 0
Le x y = (x ≡ y) ⊎ Less x y

-- two states, reached from the two that are compared by a word
pub record Entry : Type 0 where
  pub left : ℕ
  pub right : ℕ
  pub word : List ℕ

abbrev pub one_if : Bool → ℕ
one_if true = 1
one_if false = 0

-- how many of the first n states represent their class
unfoldable pub roots : (ℕ → ℕ) → ℕ → ℕ
roots rep zero = 0
roots rep (suc x) = one_if (eqb (rep x) x) + roots rep x

-- the queue with one entry more
abbrev pub snoc : (ℕ → Entry) → ℕ → Entry → ℕ → Entry
snoc E tail e k = cond (eqb k tail) e (E k)

-- a and b are tied by the entries up to the word x
abbrev pub Tied : (ℕ → Entry) → ℕ → List ℕ → ℕ → ℕ → Type 0
Tied E tail x a b = (f : ℕ → Bool)
    → ((k : ℕ) → k < tail → Le (E k).word x → f (E k).left ≡ f (E k).right) → f a ≡ f b

module _ (n : ℕ) (δ : ℕ → ℕ → ℕ) (fin : ℕ → Bool) (p₀ q₀ : ℕ) where
  -- an entry's two states agree, and each letter leads them to states that are tied
  abbrev pub Closed : Entry → (ℕ → Entry) → ℕ → Type 0
  Closed e E tail = (fin e.left ≡ fin e.right)
      × ((m : ℕ) → Tied E tail (m ∷ e.word) (δ e.left m) (δ e.right m))

  -- the entries from head on may still be expanded
  pub record Inv (E : ℕ → Entry) (head tail : ℕ) (rep : ℕ → ℕ) : Type 0 where
    pub reach : (k : ℕ) → k < tail → ((E k).left ≡ after δ p₀ (E k).word) × ((E k).right ≡ after δ q₀ (E k).word)
    pub classes : (f : ℕ → Bool) → ((k : ℕ) → k < tail → f (E k).left ≡ f (E k).right)
        → (a b : ℕ) → rep a ≡ rep b → f a ≡ f b
    pub increasing : (k l : ℕ) → k < l → l < tail → Less (E k).word (E l).word
    pub some : 0 < tail
    pub start : E 0 ≡ record { left = p₀; right = q₀; word = [] }
    pub idem : (x : ℕ) → rep (rep x) ≡ rep x
    pub bound : (x : ℕ) → x < n → rep x < n
    pub count : tail + roots rep n ≡ n
    pub deep : (k : ℕ) → k < tail → length (E k).word ≤ k
    pub ahead : (k l : ℕ) → k < tail → head ≤ l → l < tail → (m : ℕ) → Less (E k).word (m ∷ (E l).word)

  -- the entries below head are processed
  pub record Top (E : ℕ → Entry) (head tail : ℕ) (rep : ℕ → ℕ) : Type 0 where
    pub inv : Inv E head tail rep
    pub within : head ≤ tail
    pub settled : (k : ℕ) → k < head → Closed (E k) E tail

  -- entry head is being processed, and its letters below lo are done
  pub record Mid (E : ℕ → Entry) (head tail lo : ℕ) (rep : ℕ → ℕ) : Type 0 where
    pub inv : Inv E (suc head) tail rep
    pub here : head < tail
    pub settled : (k : ℕ) → k < head → Closed (E k) E tail
    pub alike : fin (E head).left ≡ fin (E head).right
    pub tied : (m : ℕ) → m < lo → Tied E tail (m ∷ (E head).word) (δ (E head).left m) (δ (E head).right m)
    pub upto : (k : ℕ) → k < tail → (m : ℕ) → lo ≤ m → Less (E k).word (m ∷ (E head).word)
