-- `compare_checked` keeps what `Answered` says.
use Rattle.test_dfa.proofs.laws.Answer.{answer-alike, answer_word, setting-of}
use Rattle.dfa_difference.proofs.laws.Outcome.{told_of}
use Rattle.test_dfa.proofs.checked.compare_checked.Goals as goal

pub returns-in-None : goal.returns-in-None
returns-in-None c = answer-alike _ c.args.t _ c.first_difference.new.words _ c.in-None.is
    c.first_difference.ensures.0

pub returns-in-Some : goal.returns-in-Some
returns-in-Some c = answer_word c.args.t c.args.words.now c.first_difference.new.words _ _ _
    (setting-of c.args.t c.args.words.now (c.words_ok.ensures c.if-not-words_ok.false) c.if-n-p.false c.if-n-q.false).0
    (told_of _ c.args.t _ _ _ c.in-Some.is c.first_difference.ensures.0)
    c.first_difference.auto.words c.spell-len.auto.words c.spell-len.ensures
