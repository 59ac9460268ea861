-- Nothing lent is written before the answer is known.
use native.Mathlib.Omega.{arith}
use mathlib.Core.Path.{◌≡◌, refl}
use Prim.Native.Nat.{ℕ}
use lib.ListN.{length-replicate}
use Rattle.std.specs.Prelude.{Result, Ok, Err, MatchResult, IsErrAnd}
use Rattle.std.proofs.lemmas.Result.{err_from_is_err_and}
use Rattle.serve_renumber.proofs.Finishing.{accepted-root, accepted-short, room, renumbers-full, renumbers-done}
use Rattle.serve_renumber.proofs.renumber.renumber_accepted.Goals as goal

-- what map_err gives is what it was given, or the error made of it
was_ok : {T E D : Type 0} (a : Result T E) (b : Result T D) (y : T) (Q : E → D → Type 0) → b ≡ Ok y →
    MatchResult a (λ x. b ≡ Ok x) (λ e. IsErrAnd b (Q e)) → a ≡ Ok y
was_ok (Ok x) b y Q e h = cc
was_ok (Err d) b y Q e h = absurd (rw e at h)

was_err : {T E D : Type 0} (a : Result T E) (b : Result T D) (d : D) (Q : E → D → Type 0) → b ≡ Err d →
    MatchResult a (λ x. b ≡ Ok x) (λ e. IsErrAnd b (Q e)) → (e : E) × (a ≡ Err e) × Q e d
was_err (Ok x) b d Q e h = absurd (cc)
was_err (Err f) b d Q e h = (f, refl, rw e at h)

pub renumber_copy-requires : goal.renumber_copy-requires
renumber_copy-requires c =
    (accepted-root c.requires.0, accepted-short c.requires.0, length-replicate {A = ℕ} 4096 0)

pub returns-in_err-done : goal.returns-in_err-done
returns-in_err-done c =
    let k = was_err _ _ _ _ c.in_err-done.was c.map_err.ensures.cases in
    let p = err_from_is_err_and c.from_residual.result c.from_residual.ensures.1 in
    rw (p.1, p.2) (renumbers-full _ _ _ _ _ _ _ _ _ _ c.renumber_copy.ensures k.1 c.requires.0
    (length-replicate {A = ℕ} 4096 0) k.2)

pub copy-requires : goal.copy-requires
copy-requires c =
    let done = was_ok _ _ _ _ c.in_ok-done.was c.map_err.ensures.cases in
    let R = room c.args.s.now _ _ _ _ _ _ _ _ c.requires.0 c.renumber_copy.ensures done
    (length-replicate {A = ℕ} 4096 0) (length-replicate {A = ℕ} 1020 0) in
    (omega (arith, R.bytes, accepted-short c.requires.0), c.requires.1)

pub overflow_mul-done : goal.overflow_mul-done
overflow_mul-done c =
    let done = was_ok _ _ _ _ c.in_ok-done.was c.map_err.ensures.cases in
    let R = room c.args.s.now _ _ _ _ _ _ _ _ c.requires.0 c.renumber_copy.ensures done
    (length-replicate {A = ℕ} 4096 0) (length-replicate {A = ℕ} 1020 0) in
    omega (arith, R.few)

pub copy-requires-2 : goal.copy-requires-2
copy-requires-2 c =
    let done = was_ok _ _ _ _ c.in_ok-done.was c.map_err.ensures.cases in
    let R = room c.args.s.now _ _ _ _ _ _ _ _ c.requires.0 c.renumber_copy.ensures done
    (length-replicate {A = ℕ} 4096 0) (length-replicate {A = ℕ} 1020 0) in
    (omega (arith, R.list, R.few), omega (arith, R.few, c.requires.2))

pub overflow_cast-result : goal.overflow_cast-result
overflow_cast-result c =
    let done = was_ok _ _ _ _ c.in_ok-done.was c.map_err.ensures.cases in
    let R = room c.args.s.now _ _ _ _ _ _ _ _ c.requires.0 c.renumber_copy.ensures done
    (length-replicate {A = ℕ} 4096 0) (length-replicate {A = ℕ} 1020 0) in
    omega (arith, R.few)

pub returns : goal.returns
returns c =
    let done = was_ok _ _ _ _ c.in_ok-done.was c.map_err.ensures.cases in
    renumbers-done c.args.s.now _ _ _ _ _ _ _ _ _ _ _ _ _ c.renumber_copy.ensures done c.requires.0
    (length-replicate {A = ℕ} 4096 0) (length-replicate {A = ℕ} 1020 0) c.copy.ensures c.copy-2.ensures refl
