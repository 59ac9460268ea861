-- `mark_live` keeps what `Marks` says.
use Rattle.dfa_live.proofs.laws.Marked.{linkable, marked, unmarked}
use Rattle.dfa_live.proofs.mark_live.Goals as goal

pub link_edges-requires : goal.link_edges-requires
link_edges-requires c = linkable _ _ _ _ c.requires
    c.clear.ensures

pub mark-requires : goal.mark-requires
mark-requires c = unmarked _ _ _ _ c.requires c.clear.ensures _
    c.link_edges.ensures

pub returns : goal.returns
returns c = marked _ _ _ _ c.requires c.clear.ensures _ c.link_edges.ensures
    c.mark.new.words c.mark.ensures c.mark.auto.words
