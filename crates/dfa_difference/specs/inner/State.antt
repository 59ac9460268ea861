-- The state of the comparison in the words, and its loops. Assumes nothing.
use Rattle.std.specs.Prelude.{List, ◌≡◌, ◌*◌, ◌-◌, ◌<◌, ◌≤◌, ℕ, length, take}
use Rattle.dfa.specs.Graph.{Edges, letter, look, rest, δ}
use Rattle.dfa_difference.specs.Outcome.{Setting}
use Rattle.dfa.specs.Word.{accepting}
use Rattle.dfa_difference.specs.declared.Task.{Task}
use Rattle.dfa_search.specs.Classes.{Low, Rep}
use Rattle.dfa_difference.specs.inner.Comparison.{Entry, Mid, Top}
use Rattle.dfa_difference.specs.inner.Queue.{Queue, Grown}

-- entries below head are processed, and no entry's word has more than `most` letters
pub record State (G : List ℕ) (t : Task) (ws : List ℕ) (head tail : ℕ) : Type 0 where
  pub E : ℕ → Entry
  pub rep : ℕ → ℕ
  pub low : Low t.n ws
  pub queue : Queue t.n ws tail E
  pub reps : Rep t.n ws rep
  pub top : Top t.n (δ G t.n) (accepting t.f t.g) t.p t.q E head tail rep
  pub brief : (k : ℕ) → k < tail → length (E k).word ≤ t.most

-- entry head, whose word has fewer than `most` letters, is being processed, the letters below lo are done
pub record Half (G : List ℕ) (t : Task) (ws : List ℕ) (head tail lo : ℕ) : Type 0 where
  pub E : ℕ → Entry
  pub rep : ℕ → ℕ
  pub low : Low t.n ws
  pub queue : Queue t.n ws tail E
  pub reps : Rep t.n ws rep
  pub mid : Mid t.n (δ G t.n) (accepting t.f t.g) t.p t.q E head tail lo rep
  pub brief : (k : ℕ) → k < tail → length (E k).word ≤ t.most
  pub shallow : length (E head).word < t.most

-- the edges from i to ie and from j to je are left, and the letters below lo are done
pub record Turn (G : List ℕ) (t : Task) (head : ℕ) (ws : List ℕ) (i ie j je last : ℕ) : Type 0 where
  pub lo : ℕ
  pub half : Half G t ws head last lo
  pub ei : Edges G t.n i ie
  pub ej : Edges G t.n j je
  pub li : i < ie → lo ≤ letter G t.n i
  pub lj : j < je → lo ≤ letter G t.n j
  pub ti : (m : ℕ) → lo ≤ m → δ G t.n (half.E head).left m ≡ look G t.n m (ie - i) i
  pub tj : (m : ℕ) → lo ≤ m → δ G t.n (half.E head).right m ≡ look G t.n m (je - j) j

-- expand's loop
pub record Expanding (t : Task) (head tail : ℕ) (ws₀ ws : List ℕ) (i ie j je last : ℕ) : Type 0 where
  pub grown : Grown t.n head tail last (take (5 * t.n) ws₀) (take (5 * t.n) ws)
  pub turn : Turn (rest (5 * t.n) ws) t head (take (5 * t.n) ws) i ie j je last
  pub len : length ws ≡ length ws₀
  pub graph : rest (5 * t.n) ws ≡ rest (5 * t.n) ws₀
  pub set_at : Setting (rest (5 * t.n) ws) t
