-- The table of the numbered classes: what is to be written. Assumes nothing.
use Rattle.std.specs.Prelude.{cond, List, [], ◌∷◌, ◌+◌, ◌-◌, suc, zero, ℕ, eqb, get_or}
use Rattle.dfa.specs.Graph.{letter, target}
use Rattle.dfa.specs.Word.{accepting}
use Rattle.dfa_smallest.specs.Table.{Arc, Place}

-- the moves by k edges from i on: an edge to the dead class is none
unfoldable pub arcs_of : List ℕ → ℕ → (ℕ → ℕ) → (ℕ → ℕ) → ℕ → ℕ → List Arc
arcs_of G n own number zero i = []
arcs_of G n own number (suc k) i =
    cond (eqb (own (target G n i)) (own (n - 1))) (arcs_of G n own number k (suc i))
    (record { letter = letter G n i; to = number (own (target G n i)) - 1 } ∷ arcs_of G n own number k (suc i))

-- the position of a class that the state p is in
abbrev pub place_of : List ℕ → ℕ → ℕ → (ℕ → ℕ) → (ℕ → ℕ) → ℕ → Place
place_of G n f own number p =
    record { final = accepting f f p; arcs = arcs_of G n own number (get_or G (p + 1) 0 - get_or G p 0) (get_or G p 0) }

-- the positions numbered from k on, c of them
unfoldable pub places_of : List ℕ → ℕ → ℕ → (ℕ → ℕ) → (ℕ → ℕ) → (ℕ → ℕ) → ℕ → ℕ → List Place
places_of G n f own number state zero k = []
places_of G n f own number state (suc c) k =
    place_of G n f own number (state k) ∷ places_of G n f own number state c (suc k)
