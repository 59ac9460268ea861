-- `touch_all` touches the sources of the edges to each state of a class.
use Rattle.dfa_classes.proofs.laws.Sources.{all-again, all_first, all-last, class-asks}
use Rattle.dfa_classes.proofs.laws.Sources.{t-inside, t-low}
use Rattle.dfa_classes.proofs.touch.touch_all.Goals as goal

pub from-a-requires : goal.from-a-requires
from-a-requires c = class-asks _ _ _ _ _ _ _ c.requires.touching c.requires.low

pub to-b-requires : goal.to-b-requires
to-b-requires c = class-asks _ _ _ _ _ _ _ c.requires.touching
    c.requires.low

pub loop-j-init : goal.loop-j-init
loop-j-init c = λ G own count ws T l ea eb D. all_first _ _ _ _ _ _ _ T l _ _ ea eb _ D

pub touch_sources-k-requires : goal.touch_sources-k-requires
touch_sources-k-requires c =
    let asked = c.requires in
    let from-2 = c.from-a in
    let A = c.loop-j.invariant _ _ _ _
    asked.touching
    asked.low
    from-2.ensures
    c.to-b.ensures
    c.copy_members.ensures in
    record {
      graph =
          asked.graph;
      splitter =
          c.args.s;
      own =
          asked.own;
      count =
          asked.count;
      touching = A.touching;
      low = t-low _ _ _ _ _ _ _
          asked.touching
          asked.low
          _ _ from-2.ensures
          c.to-b.ensures _
          c.copy_members.ensures _ _ _ A
          c.loop-j-test.true _ c.copied-t.ensures;
      inside = t-inside _ _ _ _ _ _ _
          asked.touching
          asked.low
          _ _ from-2.ensures
          c.to-b.ensures _
          c.copy_members.ensures _ _ _ A
          c.loop-j-test.true _ c.copied-t.ensures;
    }

pub loop-j-preserved : goal.loop-j-preserved
loop-j-preserved c = λ G own count ws T l ea eb D. let A =
    c.loop-j.invariant G own count ws T l ea eb D in
    all-again _ _ _ _ _ _ _ T l _ _ ea eb _ D _ _ _ A
    c.loop-j-test.true _
    c.copied-t.ensures _ _
    (c.touch_sources-k.ensures _ _ _ _ A.touching
    (t-inside _ _ _ _ _ _ _ T l _ _ ea eb _ D _ _ _ A
    c.loop-j-test.true _
    c.copied-t.ensures))

pub returns : goal.returns
returns c = λ G own count T l.
    let A = c.loop-j.invariant _ _ _ _ T l
    c.from-a.ensures
    c.to-b.ensures
    c.copy_members.ensures in
    all-last _ _ _ _ _ _ _ T l _ _ c.from-a.ensures
    c.to-b.ensures _
    c.copy_members.ensures _ _ _ A
    c.loop-j-test.false
