-- The next letter of two lists of edges. Assumes nothing.
use Rattle.std.specs.Prelude.{List, ◌⊎◌, ◌≡◌, ◌+◌, ◌-◌, ◌<◌, ◌^◌, ◌≤◌, ℕ, get_or}
use Rattle.dfa.specs.Graph.{Edges, letter, look}
use Rattle.dfa.specs.declared.step.Ends.{Ends}
use Rattle.dfa.specs.declared.step.Move.{Move}

-- what past ensures: the cursor r is behind the letter m
pub record Past (G : List ℕ) (n i end m r : ℕ) : Type 0 where
  pub ge : i ≤ r
  pub edges : Edges G n r end
  pub step : i < end → letter G n i ≡ m → r ≡ i + 1
  pub above : r < end → m < letter G n r
  pub rest : (o : ℕ) → m < o → look G n o (end - i) i ≡ look G n o (end - r) r

-- the next letter
pub record Next (G : List ℕ) (n i ie j je m : ℕ) : Type 0 where
  pub lowi : i < ie → m ≤ letter G n i
  pub lowj : j < je → m ≤ letter G n j
  pub small : m < 2 ^ 27
  pub hit : ((i < ie) × (letter G n i ≡ m)) ⊎ ((j < je) × (letter G n j ≡ m))

-- the edges of p and of q
pub record Ended (G : List ℕ) (p q : ℕ) (r : Ends) : Type 0 where
  pub i_is : r.i ≡ get_or G p 0
  pub ie_is : r.ie ≡ get_or G (p + 1) 0
  pub j_is : r.j ≡ get_or G q 0
  pub je_is : r.je ≡ get_or G (q + 1) 0

-- the next letter, where it leads on each side, and the cursors behind it
pub record Moved (G : List ℕ) (n i ie j je : ℕ) (r : Move) : Type 0 where
  pub next : Next G n i ie j je r.letter
  pub a_is : r.a ≡ look G n r.letter (ie - i) i
  pub b_is : r.b ≡ look G n r.letter (je - j) j
  pub pi : Past G n i ie r.letter r.i
  pub pj : Past G n j je r.letter r.j
