-- Edges into a class. Assumes nothing.
use Rattle.std.specs.Prelude.{List, MatchOption, Option, ◌↔◌, ◌≡◌, ◌+◌, ◌-◌, ◌<◌, ◌≤◌, ℕ, get_or}
use Rattle.std.specs.Option.{unwrap_or}
use Rattle.dfa.specs.Graph.{EdgeOf, Edges, look, target}
use Rattle.dfa_classes.specs.Packed.{Packed}
use Rattle.dfa_classes.specs.Places.{class_at}

-- e is an edge
pub record Entering (G : List ℕ) (g n e : ℕ) (ws : List ℕ) : Type 0 where
  pub packed : Packed G n g ws
  pub source : ℕ
  pub edge : EdgeOf G n source e

-- the edges from i to end are the last ones of a state, and the dead state is not in the class s
pub record Skipping (G : List ℕ) (g n s i end : ℕ) (ws : List ℕ) : Type 0 where
  pub packed : Packed G n g ws
  pub source : ℕ
  pub low : source < n
  pub first : get_or G source 0 ≤ i
  pub last : end ≡ get_or G (source + 1) 0
  pub edges : Edges G n i end
  pub some : 0 < s
  pub dead : class_at ws (n - 1) ≡ 0

-- p and q are states, and the dead state is not in the class s
pub record Comparing (G : List ℕ) (g n s p q : ℕ) (ws : List ℕ) : Type 0 where
  pub packed : Packed G n g ws
  pub left : p < n
  pub right : q < n
  pub some : 0 < s
  pub dead : class_at ws (n - 1) ≡ 0

-- by the edges from i and by those from r on, to end, the letter m leads into the class s
abbrev pub StillInto : List ℕ → ℕ → (ℕ → ℕ) → ℕ → ℕ → ℕ → ℕ → Type 0
StillInto G n cls s i r end =
    (m : ℕ) → (cls (look G n m (end - i) i) ≡ s) ↔ (cls (look G n m (end - r) r) ≡ s)

-- the edges from i to r do not lead into the class s
pub record Skips (G : List ℕ) (n : ℕ) (cls : ℕ → ℕ) (s i end r : ℕ) : Type 0 where
  pub ge : i ≤ r
  pub le : r ≤ end
  pub edges : Edges G n r end
  pub same : StillInto G n cls s i r end

-- and edge r does, where it is one
pub record Skipped (G : List ℕ) (n : ℕ) (cls : ℕ → ℕ) (s i end r : ℕ) : Type 0 where
  pub skips : Skips G n cls s i end r
  pub hit : r < end → cls (target G n r) ≡ s

-- o is the first of the edges from i to end that leads into the class s, where there is one
pub record FirstInto (G : List ℕ) (n : ℕ) (cls : ℕ → ℕ) (s i end : ℕ) (o : Option ℕ) : Type 0 where
  pub skipped : Skipped G n cls s i end (unwrap_or o end)
  pub low : MatchOption o (Unit {0}) (λ r. r < end)

-- by the edges from i to ie and from j to je the same letters lead into the class s
abbrev pub LeftAlike : List ℕ → ℕ → (ℕ → ℕ) → ℕ → ℕ → ℕ → ℕ → ℕ → Type 0
LeftAlike G n cls s i ie j je = (m : ℕ) → (cls (look G n m (ie - i) i) ≡ s) ↔ (cls (look G n m (je - j) j) ≡ s)

-- the loop of same_into
pub record Into-loop (G : List ℕ) (n p q : ℕ) (cls : ℕ → ℕ) (s i ie j je : ℕ) : Type 0 where
  pub ends : ie ≡ get_or G (p + 1) 0
  pub ends_other : je ≡ get_or G (q + 1) 0
  pub from : get_or G p 0 ≤ i
  pub from_other : get_or G q 0 ≤ j
  pub edges : Edges G n i ie
  pub edges_other : Edges G n j je
  pub hit : i < ie → cls (target G n i) ≡ s
  pub hit_other : j < je → cls (target G n j) ≡ s
  pub same : LeftAlike G n cls s i ie j je ↔ LeftAlike G n cls s (get_or G p 0) ie (get_or G q 0) je
