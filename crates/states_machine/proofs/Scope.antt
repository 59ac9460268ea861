-- Private variables in scope: the plays of a term that uses only variables of enclosing blocks are tidy.
use mathlib.Core.Path.{refl}
use mathlib.Core.Logic.{inl, inr}
use mathlib.Core.List.{List}
use Prim.Native.Nat.{ℕ, zero, suc, ◌<◌}
use native.Mathlib.Omega.{arith}
use lib.ListN.{length}
use Rattle.language.specs.Ty.{Ty, Question, run, ask, read, write, Answer, done, ok, value}
use Rattle.language.specs.Move.{Word}
use Rattle.language.specs.Term.{Term, skip, diverge, const, private, name, fetch, operate, assign, seq}
use Rattle.language.specs.Term.{while, cond, new, Often, freely, once, Args, no_args, arg}
use Rattle.language.specs.Play.{Cat, Star, end, more, none, one, AsOften, Use, Plays, PlaysArg}
use Rattle.language.specs.Typing.{Scope, here, there, Typed, a_private, a_name, a_fetch, an_operate, an_assign}
use Rattle.language.specs.Typing.{a_seq, a_while, a_cond, a_new, TypedArgs, one_more}
use Rattle.states_machine.proofs.Block.{Tidy, clear, seen, used, Tidy-append, Tidy-hide}

-- the private variables of a term are those of the d blocks around it
unfoldable mutual
  pub Scoped : Term → ℕ → Type 0
  Scoped skip d = Unit
  Scoped diverge d = Unit
  Scoped (const x) d = Unit
  Scoped (private i) d = i < d
  Scoped (name i o T args) d = ScopedArgs args d
  Scoped (fetch X) d = Scoped X d
  Scoped (operate m o L R) d = Scoped L d × Scoped R d
  Scoped (assign m X E) d = Scoped X d × Scoped E d
  Scoped (seq C M) d = Scoped C d × Scoped M d
  Scoped (while B C) d = Scoped B d × Scoped C d
  Scoped (cond B M N) d = Scoped B d × Scoped M d × Scoped N d
  Scoped (new m h C) d = Scoped C (suc d)

  pub ScopedArgs : Args → ℕ → Type 0
  ScopedArgs no_args d = Unit
  ScopedArgs (arg T M args) d = Scoped M d × ScopedArgs args d

-- a typed term is scoped
in_scope : {n : List ℕ} {i m : ℕ} → Scope n i m → i < length n
in_scope here = omega arith
in_scope (there s) = omega (arith, in_scope s)

mutual
  unfolding Scoped

  pub scoped_of : (M : Term) {n : List ℕ} {T : Ty} → Typed n M T → Scoped M (length n)
  scoped_of skip t = tt
  scoped_of diverge t = tt
  scoped_of (const x) t = tt
  scoped_of (private i) (a_private s) = in_scope s
  scoped_of (name i o T args) (a_name t) = scopedArgs-of args t
  scoped_of (fetch X) (a_fetch t) = scoped_of X t
  scoped_of (operate m o L R) (an_operate t s) = (scoped_of L t, scoped_of R s)
  scoped_of (assign m X E) (an_assign t s) = (scoped_of X t, scoped_of E s)
  scoped_of (seq C M) (a_seq t s) = (scoped_of C t, scoped_of M s)
  scoped_of (while B C) (a_while t s) = (scoped_of B t, scoped_of C s)
  scoped_of (cond B M N) (a_cond t s r) = (scoped_of B t, scoped_of M s, scoped_of N r)
  scoped_of (new m h C) (a_new t) = scoped_of C t

  pub scopedArgs-of : (args : Args) {n : List ℕ} → TypedArgs n args → ScopedArgs args (length n)
  scopedArgs-of no_args t = tt
  scopedArgs-of (arg T M args) (one_more t ts) = (scoped_of M t, scopedArgs-of args ts)

-- tidiness of languages
module _ (d : ℕ) where
  -- repetition
  star-tidy : {L : Word → Type 0} → ((u : Word) → L u → Tidy d u) → {u : Word} → Star L u → Tidy d u
  star-tidy h end = clear
  star-tidy h (more p s) = Tidy-append (h _ p) (star-tidy h s)

  -- as often as a name may use its arguments
  uses-tidy : (o : Often) {L : Word → Type 0} → ((u : Word) → L u → Tidy d u) → {u : Word} → AsOften o L u → Tidy d u
  unfolding AsOften
  uses-tidy freely h x = star-tidy h x
  uses-tidy once h none = clear
  uses-tidy once h (one x) = h _ x

  -- one word after another
  cat-tidy : {L R : Word → Type 0} → ((u : Word) → L u → Tidy d u) → ((u : Word) → R u → Tidy d u) →
      (u : Word) → Cat L R u → Tidy d u
  cat-tidy h k u (l, r, e, p, s) = rw e (Tidy-append (h l p) (k r s))

  -- the use of an argument
  use-tidy : (i : ℕ) {L : ℕ → Question → Answer → Word → Type 0} →
      ((j : ℕ) (q : Question) (a : Answer) (u : Word) → L j q a u → Tidy d u) → (u : Word) → Use i L u → Tidy d u
  use-tidy i h u (j, q, a, v, p, e) = rw e (seen (Tidy-append (h j q a v p) (seen clear)))

-- the plays of a scoped term are tidy
mutual
  unfolding Plays Scoped

  pub tidy : (M : Term) (d : ℕ) → Scoped M d → (q : Question) (a : Answer) (u : Word) → Plays M q a u → Tidy d u
  tidy skip d s q a u p = rw p.1 clear
  tidy diverge d s q a u p = absurd p
  tidy (const x) d s q a u p = rw p.1 clear
  tidy (private i) d s q a u p = rw p.1 (used s p.0 clear)
  tidy (name i o T args) d s q a u (h, v, st, e) =
      let uses = uses-tidy d o (use-tidy d i (λ j p b x y. tidy_arg args d s j p b x y)) st in
      rw e (seen (Tidy-append uses (seen clear)))
  tidy (fetch X) d s q a u p = tidy X d s read a u p
  tidy (operate m o L R) d s q a u (x, y, z, eo, ea, p) =
      cat-tidy d (tidy L d s.0 ask (value x.0)) (tidy R d s.1 ask (value y.0)) u p
  tidy (assign m X E) d s q a u (ea, x, p) =
      cat-tidy d (tidy E d s.1 ask (value x.0)) (tidy X d s.0 (write x.0) ok) u p
  tidy (seq C M) d s q a u p = cat-tidy d (tidy C d s.0 run done) (tidy M d s.1 q a) u p
  tidy (while B C) d s q a u (ea, p) =
      let round = cat-tidy d (tidy B d s.0 ask (value 1)) (tidy C d s.1 run done) in
      cat-tidy d (λ v. star-tidy d round) (tidy B d s.0 ask (value 0)) u p
  tidy (cond B M N) d s q a u (inl p) = cat-tidy d (tidy B d s.0 ask (value 1)) (tidy M d s.1 q a) u p
  tidy (cond B M N) d s q a u (inr p) = cat-tidy d (tidy B d s.0 ask (value 0)) (tidy N d s.2 q a) u p
  tidy (new m h C) d s q a u (v, p, t, e) = rw e (Tidy-hide d refl (tidy C (suc d) s q a v p))

  tidy_arg : (args : Args) (d : ℕ) → ScopedArgs args d → (j : ℕ) (q : Question) (a : Answer) (u : Word) →
      PlaysArg args j q a u → Tidy d u
  tidy_arg no_args d s j q a u p = absurd p
  tidy_arg (arg T M args) d s zero q a u p = tidy M d s.0 q a u p.1
  tidy_arg (arg T M args) d s (suc j) q a u p = tidy_arg args d s.1 j q a u p
