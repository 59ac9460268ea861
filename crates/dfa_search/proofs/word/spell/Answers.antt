-- `spell` keeps what `Spelling` says.
use Rattle.dfa_search.proofs.Spell.{spells-first, spells-again}
use Rattle.dfa_search.proofs.word.spell.Goals as goal

pub loop-i-init : goal.loop-i-init
loop-i-init c = spells-first c.args.n _ c.args.words.now c.requires.0 c.requires.1 _ c.depth-d.ensures

pub loop-i-preserved : goal.loop-i-preserved
loop-i-preserved c = spells-again c.args.n _ c.args.words.now c.requires.0 c.requires.1 _ _ _ _ c.loop-i-test.true
    c.loop-i.invariant _ _ _ c.at-m.ensures c.put.ensures c.at-e.ensures
