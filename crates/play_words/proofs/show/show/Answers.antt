-- `show` keeps what `Shown` says.
use mathlib.Core.Path.{refl}
use Rattle.play_words.proofs.ShowPlay.{play-room, shown-old, shown_new}
use Rattle.play_words.proofs.show.show.Goals as goal

pub write_play-requires : goal.write_play-requires
write_play-requires c = play-room _ _ _ _ _ c.requires.0 c.spell-moves.ensures c.requires.1 c.spell-moves.auto.words

pub returns-then-last-f : goal.returns-then-last-f
returns-then-last-f c =
    shown-old _ _ _ _ _ c.requires.0 c.spell-moves.ensures c.requires.1 c.spell-moves.auto.words _ _ _ _ refl
    c.write_play.ensures c.if-last-f.true

pub returns-else-last-f : goal.returns-else-last-f
returns-else-last-f c =
    shown_new _ _ _ _ _ c.requires.0 c.spell-moves.ensures c.requires.1 c.spell-moves.auto.words _ _ _ _ refl
    c.write_play.ensures c.if-last-f.false
