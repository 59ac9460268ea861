-- The queue, behind the parents, four words an entry. Assumes nothing.
use Rattle.std.specs.Prelude.{List, ◌∷◌, ◌≢◌, ◌⊎◌, ◌≡◌, ◌*◌, ◌+◌, ◌<◌, ◌≤◌, suc, ℕ, get_or, set}
use Rattle.dfa_search.specs.Classes.{Low, Rep}
use Rattle.dfa_difference.specs.inner.Comparison.{Entry, snoc}
use Rattle.dfa_search.specs.Classes.{merge}

-- the words from n on are the entries E
pub record Queue (n : ℕ) (ws : List ℕ) (tail : ℕ) (E : ℕ → Entry) : Type 0 where
  pub first : (k : ℕ) → k < tail → get_or ws (n + 4 * k) 0 ≡ (E k).left
  pub second : (k : ℕ) → k < tail → get_or ws (n + 4 * k + 1) 0 ≡ (E k).right
  pub from : (k : ℕ) → k < tail → 0 < k → get_or ws (n + 4 * k + 2) 0 < k
  pub word : (k : ℕ) → k < tail → 0 < k → (E k).word ≡ get_or ws (n + 4 * k + 3) 0 ∷ (E (get_or ws (n + 4 * k + 2) 0)).word

-- an entry is put at base
abbrev pub pushed : List ℕ → ℕ → ℕ → ℕ → ℕ → ℕ → List ℕ
pushed ws base p q from letter = set (set (set (set ws base p) (base + 1) q) (base + 2) from) (base + 3) letter

-- what visit ensures: the two states were in one class, or an entry is pushed and their classes are one
pub record Kept (n tail p q r : ℕ) (ws' : List ℕ) (E : ℕ → Entry) (rep : ℕ → ℕ) : Type 0 where
  pub stays : r ≡ tail
  pub one : rep p ≡ rep q
  pub queue : Queue n ws' tail E
  pub reps : Rep n ws' rep

pub record Joined (n tail r : ℕ) (e : Entry) (a b : ℕ) (ws' : List ℕ) (E : ℕ → Entry) (rep : ℕ → ℕ) : Type 0 where
  pub grows : r ≡ suc tail
  pub two : rep a ≢ rep b
  pub queue : Queue n ws' (suc tail) (snoc E tail e)
  pub reps : Rep n ws' (merge rep a b)

abbrev pub entry_of : ℕ → ℕ → ℕ → ℕ → (ℕ → Entry) → Entry
entry_of p q from letter E = record { left = p; right = q; word = letter ∷ (E from).word }

-- entries come behind those that there are, which stay, and they come from entry `from`
pub record Grown (n from tail r : ℕ) (ws ws' : List ℕ) : Type 0 where
  pub more : tail ≤ r
  pub stays : (i : ℕ) → n ≤ i → i < n + 4 * tail → get_or ws' i 0 ≡ get_or ws i 0
  pub fresh : (k : ℕ) → tail ≤ k → k < r → get_or ws' (n + 4 * k + 2) 0 ≡ from

pub record Visited (n tail from letter p q r : ℕ) (ws ws' : List ℕ) : Type 0 where
  pub low : Low n ws'
  pub grown : Grown n from tail r ws ws'
  pub cases : (E : ℕ → Entry) (rep : ℕ → ℕ) → ((x : ℕ) → rep (rep x) ≡ rep x) → Queue n ws tail E → Rep n ws rep
      → Kept n tail p q r ws' E rep
      ⊎ (Joined n tail r (entry_of p q from letter E) p q ws' E rep
      ⊎ Joined n tail r (entry_of p q from letter E) q p ws' E rep)
