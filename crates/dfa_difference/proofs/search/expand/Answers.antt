-- `expand` keeps what `State` says.
use native.Mathlib.Omega.{arith}
use Prim.Native.Nat.{◌*◌}
use mathlib.Core.Path.{refl}
use Rattle.dfa.proofs.laws.Rest.{rest-length, front_at}
use Rattle.dfa_difference.proofs.laws.Run.{within, expand-again, expand-last, grown-first}
use Rattle.dfa_difference.proofs.laws.Turn.{p-at, q-at, turn-first, visit-pre}
use Rattle.dfa_difference.proofs.search.expand.Goals as goal

pub ends_of-e-requires : goal.ends_of-e-requires
ends_of-e-requires c = let b = within _ _ _ _ _ c.requires.0
    c.requires.1 in
    omega (
      arith,
      rest-length (5 * c.args.t.n)
          c.args.words.now,
      p-at _ _
          c.requires.0 _ _ _ _
          c.requires.1 _
          (front_at (5 * c.args.t.n) _ _ _ (omega arith)
          c.at-p.ensures),
      q-at _ _
          c.requires.0 _ _ _ _
          c.requires.1 _
          (front_at (5 * c.args.t.n) _ _ _ (omega arith)
          c.at-q.ensures),
    )

pub loop-i-init : goal.loop-i-init
loop-i-init c = let b = within _ _ _ _ _ c.requires.0
    c.requires.1 in
    record {
      grown = grown-first _ _ _ _;
      turn = turn-first _ _ c.requires.0 _ _ _ _
          _ _ _ _ _ c.requires.1
          (front_at (5 * c.args.t.n) _ _ _ (omega arith)
          c.at-p.ensures)
          (front_at (5 * c.args.t.n) _ _ _ (omega arith)
          c.at-q.ensures) c.ends_of-e.ensures.i_is c.ends_of-e.ensures.ie_is
          c.ends_of-e.ensures.j_is c.ends_of-e.ensures.je_is;
      len = refl;
      graph = refl;
      set_at = c.requires.0;
    }

pub visit-last-requires : goal.visit-last-requires
visit-last-requires c = visit-pre _ _ c.loop-i.invariant.set_at _ _ _ _ _ _ _
    c.loop-i.invariant.turn _ c.step-s.ensures.next _ _
    c.step-s.ensures.a_is c.step-s.ensures.b_is

pub loop-i-preserved : goal.loop-i-preserved
loop-i-preserved c = expand-again _ _ _ _ _ _ _ _ _ _ _ _ _
    c.loop-i.invariant
    c.step-s.ensures c.visit-last.auto.work
    c.visit-last.ensures

pub returns : goal.returns
returns c = (
  expand-last _ _ _ _ _ _ _ _ _ _ c.loop-i.invariant c.loop-i-test.false,
  (c.loop-i.invariant.graph, c.loop-i.invariant.grown),
)
