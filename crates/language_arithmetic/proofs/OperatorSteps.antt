-- What a code of 16 bits stands for is small enough for every exact operation.
use Rattle.std.proofs.Common.{ℕ, ◌+◌, ◌<◌, ◌≤◌, eqb, leb, ltb, nat_abs, arith}
use borrow.Author.Tests.{ltb-true}
use Rattle.language.specs.declared.Numbers.{Numbers}
use Rattle.language.specs.Number.{finites, signed}
use Rattle.language.proofs.NumberLaws.{minus-below, by-test, finites-are}

pub signed_small : (N : Numbers) (c : ℕ) → N.z < 256 → c < 65536 → nat_abs (signed N c) ≤ 65535
unfolding signed
signed_small N c h k =
    by-test (leb c N.z) (λ t. rw t (omega arith)) (λ t.
    by-test (ltb c (finites N))
    (λ u. rw (t, u, minus-below c (finites N) (ltb-true c (finites N) u)) (omega (arith, finites-are N))) (λ u.
    by-test (eqb c (finites N)) (λ w. rw (t, u, w) (omega arith)) (λ w.
    by-test (eqb c (finites N + 1)) (λ x. rw (t, u, w, x) (omega arith)) (λ x. rw (t, u, w, x) (omega arith)))))
