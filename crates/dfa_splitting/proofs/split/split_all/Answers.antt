-- `split_all` goes through the listed classes.
use Rattle.dfa_splitting.proofs.laws.Refining.{d_low, d-some, listed-asks, split-again, split_done, split-first}
use Rattle.dfa_splitting.proofs.laws.Refining.{split_from}
use Rattle.dfa_splitting.proofs.split.split_all.Goals as goal

pub loop-x-init : goal.loop-x-init
loop-x-init c G cls T Z = split-first _ _ _ _ _ _ _ _ T Z

pub listed-d-requires : goal.listed-d-requires
listed-d-requires c = let A = c.sign_all.ensures _ _ _
    c.requires.touched in
    let S = c.loop-x.invariant _ _ A.touched A.signed in
    listed-asks _ _ _ _ _ _ _ _ A.touched _ _ _ S c.loop-x-test.true

pub split-k-requires : goal.split-k-requires
split-k-requires c = let Q = c.requires in
    let A = c.sign_all.ensures _ _ _ Q.touched in
    let S = c.loop-x.invariant _ _ A.touched A.signed in
    record {
      graph = Q.graph;
      cls = Q.cls;
      count = c.args.count;
      cur = S.cur;
      splitting = S.splitting;
      signed = S.signed;
      low = d_low _ _ _ _ _ _ _ _ A.touched _ _ _ S c.loop-x-test.true _
          c.listed-d.ensures;
      some = d-some _ _ _ _ _ _ _ _ A.touched _ _ _ S c.loop-x-test.true _
          c.listed-d.ensures;
    }

pub loop-x-preserved : goal.loop-x-preserved
loop-x-preserved c = λ G cls T Z. let S = c.loop-x.invariant G cls T Z in
    split-again _ _ _ _ _ _ _ _ T _ _ _ S c.loop-x-test.true _
    c.listed-d.ensures _ _
    (c.split-k.ensures _ _ _ _ S.splitting S.signed
    (d_low _ _ _ _ _ _ _ _ T _ _ _ S c.loop-x-test.true _
    c.listed-d.ensures)
    (d-some _ _ _ _ _ _ _ _ T _ _ _ S c.loop-x-test.true _
    c.listed-d.ensures))

pub returns : goal.returns
returns c = λ G cls T. let A = c.sign_all.ensures G cls _ T in
    split_from _ _ _ _ _ _ _ _ _ A _ _ (split_done _ _ _ _ _ _ _ _ A.touched _ _ _
    (c.loop-x.invariant G cls A.touched A.signed) c.loop-x-test.false)
