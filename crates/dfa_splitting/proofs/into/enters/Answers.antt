-- `enters` says whether the class of the target is s.
use borrow.Author.Tests.{eq-eqb, eqb-true}
use mathlib.Core.Path.{◌∙◌, ap, sym}
use lib.ListN.{get_or}
use Rattle.dfa_splitting.proofs.laws.Into.{entering-low, entering-room, entering-target}
use Rattle.dfa_splitting.proofs.into.enters.Goals as goal

pub edge_target-requires : goal.edge_target-requires
edge_target-requires c = entering-room _ _ _ _ _ c.requires.1.1

pub at-requires : goal.at-requires
at-requires c = entering-low _ _ _ _ _ c.requires.1.1 _ c.edge_target.ensures

pub returns : goal.returns
returns c = λ G g E.
    let t = ap (λ k. get_or c.args.words.now k 0) (entering-target _ _ _ _ _ E _
    c.edge_target.ensures) in
    ((λ h. sym (c.at.ensures ∙ t) ∙ eqb-true _ _ h), (λ h. eq-eqb _ _ (c.at.ensures ∙ t ∙ h)))
