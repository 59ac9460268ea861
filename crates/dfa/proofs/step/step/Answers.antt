-- `step` keeps what `Moved` says.
use Rattle.dfa.proofs.laws.Step.{next}
use Rattle.dfa.proofs.step.step.Goals as goal

pub target_by-a-requires : goal.target_by-a-requires
target_by-a-requires c = (
  c.requires.0,
  (
    c.requires.1.1.0,
    (next _ _ _ _ _ _ _ _ _ c.requires.0 c.requires.1.0
        c.requires.1.1.1 c.next_letter.ensures
        c.next_letter-2.ensures
        c.smaller-m.ensures).lowi,
  ),
)

pub target_by-b-requires : goal.target_by-b-requires
target_by-b-requires c = (
  c.requires.1.0,
  (
    c.requires.1.1.0,
    (next _ _ _ _ _ _ _ _ _ c.requires.0
        c.requires.1.0 c.requires.1.1.1
        c.next_letter.ensures c.next_letter-2.ensures
        c.smaller-m.ensures).lowj,
  ),
)

pub past-x-requires : goal.past-x-requires
past-x-requires c = (
  c.requires.0,
  (next _ _ _ _ _ _ _ _ _ c.requires.0
      c.requires.1.0
      c.requires.1.1.1
      c.next_letter.ensures c.next_letter-2.ensures
      c.smaller-m.ensures).lowi,
)

pub past-y-requires : goal.past-y-requires
past-y-requires c = (
  c.requires.1.0,
  (next _ _ _ _ _ _ _ _ _ c.requires.0
      c.requires.1.0
      c.requires.1.1.1
      c.next_letter.ensures
      c.next_letter-2.ensures
      c.smaller-m.ensures).lowj,
)

pub returns : goal.returns
returns c = record {
  next = (next _ _ _ _ _ _ _ _ _
      c.requires.0
      c.requires.1.0
      c.requires.1.1.1
      c.next_letter.ensures
      c.next_letter-2.ensures
      c.smaller-m.ensures);
  a_is = c.target_by-a.ensures;
  b_is = c.target_by-b.ensures;
  pi = c.past-x.ensures;
  pj = c.past-y.ensures;
}
