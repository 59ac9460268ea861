-- The edges in lists by their targets. Word t, below n, begins the list of the state t, times 16384; a word for each
-- edge holds the next edge of its list and its source. An edge stands there as 1 more than its number, and 0 ends a
-- list. Assumes nothing.
use Rattle.std.specs.Prelude.{cond, List, ◌≢◌, ◌⊎◌, ◌≡◌, ◌%◌, ◌*◌, ◌+◌, ◌-◌, ◌/◌, ◌<◌, ◌≤◌, ℕ, ltb, get_or, length, set}
use Rattle.dfa.specs.Graph.{EdgeOf, Graph, target}

-- h is 1 more than the last edge below b that leads to t, and 0 where there is none
pub record Latest (G : List ℕ) (n t b h : ℕ) : Type 0 where
  pub within : h ≤ b
  pub above : 0 < h → get_or G 0 0 < h
  pub leads : 0 < h → target G n (h - 1) ≡ t
  pub later : (e : ℕ) → get_or G 0 0 ≤ e → h ≤ e → e < b → target G n e ≢ t

-- the words hold the graph G, and a word for each of its edges
pub record Held (G : List ℕ) (n : ℕ) (ws : List ℕ) : Type 0 where
  pub graph : Graph G n
  pub few : get_or G n 0 ≤ 200000
  pub room : 6 * n + 1 + 2 * get_or G n 0 ≤ length ws
  pub link_room : 3 * n + 1 + 3 * get_or G n 0 ≤ length ws
  pub same : (i : ℕ) → i < n + 1 + 2 * get_or G n 0 → get_or ws (5 * n + i) 0 ≡ get_or G i 0

-- where the word of edge e stands, in words with a graph of `end` edges, and that word
unfoldable pub link_place : ℕ → ℕ → ℕ → ℕ
link_place n end e = cond (ltb e (3 * n)) (2 * n + e) (3 * n + 1 + 2 * end + e)

abbrev pub link_of : List ℕ → ℕ → List ℕ → ℕ → ℕ
link_of G n ws e = get_or ws (link_place n (get_or G n 0) e) 0

-- the first edge of the list of t
abbrev pub head_at : List ℕ → ℕ → ℕ
head_at ws t = get_or ws t 0 / 16384

-- edge e of the state p, whose word is at a place, stands first in the list of t
abbrev pub linked_to : List ℕ → ℕ → ℕ → ℕ → ℕ → List ℕ
linked_to ws place t p e = set (set ws place (head_at ws t * 16384 + p)) t ((e + 1) * 16384)

-- the edges below b are linked
pub record Linked (G : List ℕ) (n : ℕ) (ws : List ℕ) (b : ℕ) : Type 0 where
  pub heads : (t : ℕ) → t < n → Latest G n t b (head_at ws t)
  pub nexts : (e : ℕ) → get_or G 0 0 ≤ e → e < b → Latest G n (target G n e) e (link_of G n ws e / 16384)
  pub sources : (e : ℕ) → get_or G 0 0 ≤ e → e < b → EdgeOf G n (link_of G n ws e % 16384) e

-- no list is begun
abbrev pub NoLists : ℕ → List ℕ → Type 0
NoLists n ws = (t : ℕ) → t < n → get_or ws t 0 ≡ 0

-- a word that linking leaves: one of a mark, or of the graph of `end` edges
abbrev pub Left : ℕ → ℕ → ℕ → Type 0
Left n end i = ((n ≤ i) × (i < 2 * n)) ⊎ ((5 * n ≤ i) × (i < 6 * n + 1 + 2 * end))

-- the edges below b are linked, and only the lists have changed
pub record Links (G : List ℕ) (n : ℕ) (ws₀ ws : List ℕ) (b : ℕ) : Type 0 where
  pub held : Held G n ws
  pub linked : Linked G n ws b
  pub len : length ws ≡ length ws₀
  pub keep : (i : ℕ) → Left n (get_or G n 0) i → get_or ws i 0 ≡ get_or ws₀ i 0

-- the loops of link_edges: edge e is next, and is none of a state below p
pub record Linking (G : List ℕ) (n : ℕ) (ws₀ ws : List ℕ) (p e : ℕ) : Type 0 where
  pub links : Links G n ws₀ ws e
  pub below : p < n
  pub from : get_or G p 0 ≤ e
  pub to : e ≤ get_or G n 0
