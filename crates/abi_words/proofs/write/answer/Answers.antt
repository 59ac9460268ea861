-- `answer` writes the words that it is given, and says with `status` whether there was room.
use Rattle.abi_words.proofs.Writing.{short, long}
use Rattle.abi_words.proofs.write.answer.Goals as goal

pub returns-then-out-lt-ANSWER_WORDS : goal.returns-then-out-lt-ANSWER_WORDS
returns-then-out-lt-ANSWER_WORDS c =
    let p = short c.args.out.now _ c.if-out-lt-ANSWER_WORDS.true in
    record { returned = p.0; written = p.1 }

pub returns : goal.returns
returns c =
    let p = long c.args.out.now c.args.words c.if-out-lt-ANSWER_WORDS.false in
    record { returned = p.0; written = rw c.copy_from_slice.ensures.after p.1 }
