-- `sort_states` links the edges, begins with two classes and makes them finer.
use Rattle.dfa_sorting.proofs.laws.Starting.{g-is, linkable, refinable, sorted}
use Rattle.dfa_sorting.proofs.sort_states.Goals as goal

pub link_edges-requires : goal.link_edges-requires
link_edges-requires c = record {
  graph = _;
  linking = linkable _ _ _
      c.requires _ (g-is _ _ _
      c.requires _
      c.first_edge.ensures) _ c.zero.ensures;
}

pub refine-requires : goal.refine-requires
refine-requires c =
    let asked = c.requires in
    let first-edge-2 = c.first_edge in
    let zero-2 = c.zero in
    let Λ = linkable _ _ _
    (asked)
    _ (g-is _ _ _
    (asked)
    _
    first-edge-2.ensures)
    _
    zero-2.ensures
    in
    record {
      graph = _;
      f = _;
      refinable = refinable _ _ _
          (asked)
          _ (g-is _ _ _
          (asked)
          _
          first-edge-2.ensures)
          _
          zero-2.ensures
          _
          (c.link_edges.ensures
          _ Λ) _ c.place_states.ensures _
          c.first_classes.ensures;
    }

pub returns : goal.returns
returns c =
    let asked = c.requires in
    let first-edge-2 = c.first_edge in
    let zero-2 = c.zero in
    let link-edges-2 = c.link_edges in
    let place-states-2 = c.place_states in
    let Λ = linkable _ _ _
    (asked)
    _ (g-is _ _ _
    (asked)
    _
    first-edge-2.ensures)
    _
    zero-2.ensures
    in
    sorted _ _ _
    (asked)
    _ (g-is _ _ _
    (asked)
    _
    first-edge-2.ensures)
    _
    zero-2.ensures
    _
    (link-edges-2.ensures
    _ Λ) _
    place-states-2.ensures _
    c.first_classes.ensures _ _ (c.refine.ensures
    _ _ (refinable _ _ _
    (asked)
    _ (g-is _ _ _
    (asked)
    _
    first-edge-2.ensures)
    _
    zero-2.ensures
    _
    (link-edges-2.ensures
    _ Λ) _
    place-states-2.ensures _
    c.first_classes.ensures))
