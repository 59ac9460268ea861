-- A row stands at most once on a path, so a private variable's row names one block; document 02 [1].
use Prim.Native.Nat.{ℕ, zero, suc, ◌+◌, ◌≤◌, ◌<◌, max}
use native.Mathlib.Omega.{arith}
use mathlib.Core.Path.{◌≡◌, refl}
use mathlib.Core.Option.{Option}
use mathlib.Core.List.{List, [], ◌∷◌}
use lib.ListN.{length}
use Rattle.language.specs.Term.{Term, Args}
use Rattle.language.specs.Typing.{Scope, here, there}
use Rattle.sheet_written.specs.Nodes.{deep, deep_args}
use Rattle.sheet_written.specs.Shared.{Parts, Row, Rep, rep_skip, rep_diverge, rep_const, rep_private, rep_name}
use Rattle.sheet_written.specs.Shared.{rep_fetch, rep_operate, rep_assign, rep_seq, rep_while, rep_cond, rep_new}
use Rattle.sheet_written.specs.Shared.{Reps, rep_none, rep_part, Any, Fresh, height_parts, height_row, height}

module _ (R : ℕ → Option Row) (Q : List ℕ → ℕ → Type 0) where
  -- a row is as high as each term that it represents is deep
  mutual
    unfolding deep deep_args height height_row height_parts

    pub high : {p : List ℕ} {r : ℕ} {M : Term} → Rep R Q p r M → (n : ℕ) → deep M ≤ n → height R n r ≡ deep M
    high (rep_skip h) zero l = absurd (omega arith)
    high (rep_skip h) (suc n) l = rw h
    high (rep_diverge h) zero l = absurd (omega arith)
    high (rep_diverge h) (suc n) l = rw h
    high (rep_const h) zero l = absurd (omega arith)
    high (rep_const h) (suc n) l = rw h
    high (rep_private h s) zero l = absurd (omega arith)
    high (rep_private h s) (suc n) l = rw h
    high (rep_name h a) zero l = absurd (omega arith)
    high (rep_name h a) (suc n) l = rw (h, highs a n (omega arith))
    high (rep_fetch h x) zero l = absurd (omega arith)
    high (rep_fetch h x) (suc n) l = rw (h, high x n (omega arith))
    high (rep_operate h x y) zero l = absurd (omega arith)
    high (rep_operate h x y) (suc n) l = rw (h, high x n (omega arith), high y n (omega arith))
    high (rep_assign h x y) zero l = absurd (omega arith)
    high (rep_assign h x y) (suc n) l = rw (h, high x n (omega arith), high y n (omega arith))
    high (rep_seq h x y) zero l = absurd (omega arith)
    high (rep_seq h x y) (suc n) l = rw (h, high x n (omega arith), high y n (omega arith))
    high (rep_while h x y) zero l = absurd (omega arith)
    high (rep_while h x y) (suc n) l = rw (h, high x n (omega arith), high y n (omega arith))
    high (rep_cond h b x y) zero l = absurd (omega arith)
    high (rep_cond h b x y) (suc n) l =
        rw (h, high b n (omega arith), high x n (omega arith), high y n (omega arith))
    high (rep_new h q x) zero l = absurd (omega arith)
    high (rep_new h q x) (suc n) l = rw (h, high x n (omega arith))

    highs : {p : List ℕ} {xs : Parts} {args : Args} → Reps R Q p xs args → (n : ℕ) → deep_args args ≤ n →
        height_parts (λ a. height R n a) xs ≡ deep_args args
    highs rep_none n l = refl
    highs (rep_part x a) n l = rw (high x n (omega arith), highs a n (omega arith))

module _ (R : ℕ → Option Row) (n : ℕ) where
  -- every row on the path is higher than d
  abbrev pub Over : List ℕ → ℕ → Type 0
  Over p d = (i v : ℕ) → Scope p i v → d < height R n v

  less-over : (p : List ℕ) (d k : ℕ) → k ≤ d → Over p d → Over p k
  less-over p d k h o i v s = omega (arith, o i v s)

  over-new : (p : List ℕ) (r d k : ℕ) → k < d → height R n r ≡ d → Over p d → Over (r ∷ p) k
  over-new p r d k l e o i v here = omega arith
  over-new p r d k l e o i v (there {i = j} s) = omega (arith, o j v s)

  fresh-new : (p : List ℕ) (r d : ℕ) → height R n r ≡ d → Over p d → Fresh p r
  unfolding Fresh
  fresh-new p r d e o i s = omega (arith, o i r s)

  -- THEOREM: on every path from a root, the row of a new is not on the path around it
  mutual
    unfolding deep deep_args

    pub once : {p : List ℕ} {r : ℕ} {M : Term} → Rep R Any p r M → deep M ≤ n → Over p (deep M) → Rep R Fresh p r M
    once (rep_skip h) l o = rep_skip h
    once (rep_diverge h) l o = rep_diverge h
    once (rep_const h) l o = rep_const h
    once (rep_private h s) l o = rep_private h s
    once (rep_name {p = p} {args = args} h a) l o =
        rep_name h (onces a (omega arith) (less-over p (1 + deep_args args) (deep_args args) (omega arith) o))
    once (rep_fetch {p = p} {X = X} h x) l o =
        rep_fetch h (once x (omega arith) (less-over p (1 + deep X) (deep X) (omega arith) o))
    once (rep_operate {p = p} {L = L} {M = M} h x y) l o =
        rep_operate h (once x (omega arith) (less-over p (1 + max (deep L) (deep M)) (deep L) (omega arith) o))
        (once y (omega arith) (less-over p (1 + max (deep L) (deep M)) (deep M) (omega arith) o))
    once (rep_assign {p = p} {X = X} {E = E} h x y) l o =
        rep_assign h (once x (omega arith) (less-over p (1 + max (deep X) (deep E)) (deep X) (omega arith) o))
        (once y (omega arith) (less-over p (1 + max (deep X) (deep E)) (deep E) (omega arith) o))
    once (rep_seq {p = p} {C = C} {M = M} h x y) l o =
        rep_seq h (once x (omega arith) (less-over p (1 + max (deep C) (deep M)) (deep C) (omega arith) o))
        (once y (omega arith) (less-over p (1 + max (deep C) (deep M)) (deep M) (omega arith) o))
    once (rep_while {p = p} {B = B} {C = C} h x y) l o =
        rep_while h (once x (omega arith) (less-over p (1 + max (deep B) (deep C)) (deep B) (omega arith) o))
        (once y (omega arith) (less-over p (1 + max (deep B) (deep C)) (deep C) (omega arith) o))
    once (rep_cond {p = p} {B = B} {M = M} {N = N} h b x y) l o =
        let d : ℕ = 1 + max (deep B) (max (deep M) (deep N)) in
        rep_cond h (once b (omega arith) (less-over p d (deep B) (omega arith) o))
        (once x (omega arith) (less-over p d (deep M) (omega arith) o))
        (once y (omega arith) (less-over p d (deep N) (omega arith) o))
    once (rep_new {p = p} {r = r} {h = z} {C = C} h q x) l o =
        let e : height R n r ≡ 1 + deep C = high R Any (rep_new {h = z} h q x) n l in
        rep_new h (fresh-new p r (1 + deep C) e o)
        (once x (omega arith) (over-new p r (1 + deep C) (deep C) (omega arith) e o))

    onces : {p : List ℕ} {xs : Parts} {args : Args} → Reps R Any p xs args → deep_args args ≤ n →
        Over p (deep_args args) → Reps R Fresh p xs args
    onces rep_none l o = rep_none
    onces (rep_part {p = p} {M = M} {args = args} x a) l o =
        let d : ℕ = max (deep M) (deep_args args) in
        rep_part (once x (omega arith) (less-over p d (deep M) (omega arith) o))
        (onces a (omega arith) (less-over p d (deep_args args) (omega arith) o))

in_path : {p : List ℕ} {i v : ℕ} → Scope p i v → i < length p
in_path here = omega arith
in_path (there s) = omega (arith, in_path s)

pub once-root : (R : ℕ → Option Row) {r : ℕ} {M : Term} → Rep R Any [] r M → Rep R Fresh [] r M
once-root R {M = M} x = once R (deep M) x (omega arith) (λ i v s. absurd (omega (arith, in_path s)))
