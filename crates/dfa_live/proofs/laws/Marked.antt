-- The live states are marked in words that were cleared, with the edges linked. Assumes nothing.
use mathlib.Core.List.{List, ◌++◌}
use mathlib.Core.Logic.{inl, inr}
use mathlib.Core.Path.{◌∙◌, ◌≡◌, ap, sym}
use Prim.Native.Nat.{◌*◌, ◌+◌, ◌-◌, ◌<◌, ◌≤◌, ℕ}
use native.Mathlib.Omega.{arith}
use lib.ListN.{get_or-append, drop, get_or, get_or-replicate, length, length-append, length-drop, replicate, take}
use lib.ListN.{length-replicate}
use lib.Seq.{ext_get_or, get_or-append-add, get_or-drop, length-take-le}
use Rattle.dfa.specs.Graph.{SameEdges, rest}
use Rattle.dfa_live.specs.Marks.{Markable, Marks}
use Rattle.dfa.specs.Frame.{SameFrom}
use Rattle.dfa_live.specs.inner.Links.{Held, Links, NoLists}
use Rattle.dfa_live.specs.inner.Marking.{Unmarked}
use Rattle.dfa.proofs.laws.Rest.{rest_at, rest-length}

-- the words from k on stay, and so does what stands behind
rest_from : (g k : ℕ) (ws ws' : List ℕ) → k ≤ g → length ws' ≡ length ws → SameFrom k ws ws' → rest g ws' ≡ rest g ws
rest_from g k ws ws' h len same = ext_get_or 0 (rest g ws') (rest g ws)
    (rest-length g ws' ∙ ap (λ l. l - g) len ∙ sym (rest-length g ws))
    (λ i l. rest_at g ws' i ∙ same (g + i) (omega arith) ∙ sym (rest_at g ws i))

-- the first k words are 0, the others stay
module _ (k : ℕ) (ws ys : List ℕ) (room : k ≤ length ws) (e : ys ≡ replicate (length (take k ws)) 0) where
  ys-length : length ys ≡ k
  ys-length = ap length e ∙ length-replicate (length (take k ws)) 0 ∙ length-take-le k ws room

  cleared-length : length (ys ++ drop k ws) ≡ length ws
  cleared-length = rw (length-append, length-drop) (omega (arith, ys-length))

  cleared-low : (i : ℕ) → i < k → get_or (ys ++ drop k ws) i 0 ≡ 0
  cleared-low i h = get_or-append ys (drop k ws) 0 i (omega (arith, ys-length)) ∙ ap (λ l. get_or l i 0) e
      ∙ get_or-replicate (length (take k ws)) i 0 0 (omega (arith, length-take-le k ws room))

  cleared-high : SameFrom k ws (ys ++ drop k ws)
  cleared-high i h =
      ap (λ j. get_or (ys ++ drop k ws) j 0) {x = i} {y = length ys + (i - k)} (omega (arith, ys-length))
      ∙ get_or-append-add ys (drop k ws) (i - k) 0 ∙ get_or-drop k ws (i - k) 0
      ∙ ap (λ j. get_or ws j 0) {x = k + (i - k)} {y = i} (omega arith)

module _ (n f : ℕ) (ws ys : List ℕ) (K : Markable n f ws) (e : ys ≡ replicate (length (take (2 * n) ws)) 0) where
  room : 2 * n ≤ length ws
  room = omega (arith, K.room)

  same_graph : rest (5 * n) (ys ++ drop (2 * n) ws) ≡ rest (5 * n) ws
  same_graph = rest_from (5 * n) (2 * n) ws (ys ++ drop (2 * n) ws) (omega arith)
      (cleared-length (2 * n) ws ys room e) (cleared-high (2 * n) ws ys room e)

  -- cleared, the words can be linked
  pub linkable : Held (rest (5 * n) (ys ++ drop (2 * n) ws)) n (ys ++ drop (2 * n) ws)
      × NoLists n (ys ++ drop (2 * n) ws)
  linkable = (
    rw same_graph (record {
      graph = K.single.graph;
      few = K.few;
      room = omega (arith, K.room, cleared-length (2 * n) ws ys room e);
      link_room = omega (arith, K.link_room, cleared-length (2 * n) ws ys room e);
      same = λ i h. cleared-high (2 * n) ws ys room e (5 * n + i) (omega arith) ∙ sym (rest_at (5 * n) ws i);
    }),
    λ t h. cleared-low (2 * n) ws ys room e t (omega arith),
  )

  module _ (w₂ : List ℕ) (L : Links (rest (5 * n) (ys ++ drop (2 * n) ws)) n (ys ++ drop (2 * n) ws) w₂
      (get_or (rest (5 * n) (ys ++ drop (2 * n) ws)) n 0)) where
    links : Links (rest (5 * n) ws) n (ys ++ drop (2 * n) ws) w₂ (get_or (rest (5 * n) ws) n 0)
    links = rw same_graph at L

    unfoldable ready : Unmarked n f w₂
    ready = record {
      graph = rest (5 * n) ws;
      held = links.held;
      single = K.single;
      linked = links.linked;
      end = K.end;
      none = λ p h. links.keep (n + p) (inl (omega arith, omega arith))
          ∙ cleared-low (2 * n) ws ys room e (n + p) (omega arith);
    }

    -- linked, they can be marked
    pub unmarked : Unmarked n f w₂
    unmarked = ready

    -- THEOREM: marked, they tell the live states, and hold the graph's edges
    pub marked : (w₃ : List ℕ) → ((U : Unmarked n f w₂) → Marks U.graph n f w₃ × SameFrom (2 * n) w₂ w₃)
        → length w₃ ≡ length w₂ → Marks (rest (5 * n) ws) n f w₃ × SameEdges n (rest (5 * n) ws) (rest (5 * n) w₃)
    unfolding ready
    marked w₃ M len =
        let m = M ready in (
          m.0,
          record {
            size = rest-length (5 * n) w₃
                ∙ ap (λ l. l - 5 * n) (len ∙ links.len ∙ cleared-length (2 * n) ws ys room e)
                ∙ sym (rest-length (5 * n) ws);
            words = λ i h. rest_at (5 * n) w₃ i ∙ m.1 (5 * n + i) (omega arith)
                ∙ links.keep (5 * n + i) (inr (omega arith, omega arith))
                ∙ cleared-high (2 * n) ws ys room e (5 * n + i) (omega arith) ∙ sym (rest_at (5 * n) ws i);
          },
        )
