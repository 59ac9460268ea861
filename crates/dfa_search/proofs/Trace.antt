-- What the loops over the entries of a word keep. Assumes nothing.
use mathlib.Core.List.{List, [], ◌∷◌}
use mathlib.Core.Path.{◌∙◌, ◌≡◌, ap, refl, sym}
use Prim.Native.Nat.{◌*◌, ◌+◌, ◌-◌, ◌<◌, ◌≤◌, suc, zero, ℕ}
use native.Mathlib.Omega.{arith}
use lib.ListN.{get_or, length, set}
use lib.Seq.{get_or-set_other, get_or-set_same}
use Rattle.dfa_search.specs.Spelled.{Spelled, Trail, more, none}
use Rattle.dfa_search.specs.Trace.{Counting, Tracing}

-- the word of an entry past the first: its letter, and the word of the entry that it came from
pub record Longer (n : ℕ) (ws : List ℕ) (e : ℕ) (v : List ℕ) : Type 0 where
  pub rest : List ℕ
  pub spelled : Spelled n ws (get_or ws (n + 4 * e + 2) 0) rest
  pub whole : v ≡ get_or ws (n + 4 * e + 3) 0 ∷ rest

pub longer : (n : ℕ) (ws : List ℕ) (e : ℕ) (v : List ℕ) → 0 < e → Spelled n ws e v → Longer n ws e v
longer n ws e v h none = absurd (omega arith)
longer n ws e v h (more {u} k l f s) = record { rest = u; spelled = s; whole = refl }

pub empty : (n : ℕ) (ws : List ℕ) (e : ℕ) (v : List ℕ) → e ≤ 0 → Spelled n ws e v → v ≡ []
empty n ws e v h none = refl
empty n ws e v h (more k l f s) = absurd (omega arith)

trail-spell : (n : ℕ) (ws : List ℕ) (k : ℕ) → Trail n ws k → (b j : ℕ) → j < b → j ≤ k → (u : List ℕ) × Spelled n ws j
    u
trail-spell n ws k t zero j h l = absurd (omega arith)
trail-spell n ws k t (suc b) zero h l = ([], none)
trail-spell n ws k t (suc b) (suc j) h l =
    let f = t.from (suc j) (omega arith) l in
    let r = trail-spell n ws k t b (get_or ws (n + 4 * suc j + 2) 0) (omega arith) (omega arith) in
    (get_or ws (n + 4 * suc j + 3) 0 ∷ r.0, more (suc j) (omega arith) f r.1)

pub trail-spelled : (n : ℕ) (ws : List ℕ) (k : ℕ) → Trail n ws k → (u : List ℕ) × Spelled n ws k u
trail-spelled n ws k t = trail-spell n ws k t (suc k) k (omega arith) (omega arith)

pub count-more : (n : ℕ) (ws u : List ℕ) (d e e' : ℕ) → 0 < e → e' ≡ get_or ws (n + 4 * e + 2) 0 → Counting n ws u d e
    → Counting n ws u (d + 1) e'
count-more n ws u d e e' h q c =
    let l = longer n ws e c.left h c.spelled in
    rw q (record {
      left = l.rest;
      spelled = l.spelled;
      total = c.total ∙ ap (λ v. d + length v) l.whole
          ∙ omega arith;
    })

pub count-last : (n : ℕ) (ws u : List ℕ) (d e : ℕ) → e ≤ 0 → Counting n ws u d e → d ≡ length u
count-last n ws u d e h c = sym (c.total ∙ ap (λ v. d + length v) (empty n ws e c.left h c.spelled)
    ∙ omega arith)

pub trace-first : (n : ℕ) (ws u out : List ℕ) (d k : ℕ) → d ≡ length u → Spelled n ws k u → Tracing n ws u out d k
trace-first n ws u out d k e s = record { left = u; spelled = s; place = e; done = λ o a w. w }

spelled-on : (n : ℕ) (ws : List ℕ) (e : ℕ) (v : List ℕ) → 0 < length v → Spelled n ws e v → 0 < e
spelled-on n ws e v h none = absurd (omega arith)
spelled-on n ws e v h (more k l f s) = l

-- where letters are left, the entry is past the first
pub trace-on : (n : ℕ) (ws u out : List ℕ) (i e : ℕ) → 0 < i → Tracing n ws u out i e → 0 < e
trace-on n ws u out i e h c = spelled-on n ws e c.left (omega (arith, c.place)) c.spelled

pub trace-more : (n : ℕ) (ws u out out' : List ℕ) (i e e' m : ℕ) → 0 < e → i ≤ length out
    → m ≡ get_or ws (n + 4 * e + 3) 0 → out' ≡ set out (i - 1) m → e' ≡ get_or ws (n + 4 * e + 2) 0
    → Tracing n ws u out i e → Tracing n ws u out' (i - 1) e'
trace-more n ws u out out' i e e' m h r em eo ee c =
    let l = longer n ws e c.left h c.spelled in
    let pl : i ≡ suc (length l.rest) = c.place ∙ ap length l.whole in
    rw (ee, eo) (record {
      left = l.rest;
      spelled = l.spelled;
      place = omega arith;
      done = λ o a w. c.done o (λ x g. a x (omega arith) ∙ get_or-set_other out (i - 1) x m 0 (λ z. omega arith))
          (rw l.whole (
            ap (λ x. get_or o x 0) {x = length l.rest} {y = i - 1} (omega arith)
                ∙ a (i - 1) (omega arith) ∙ get_or-set_same out (i - 1) m 0 (omega arith) ∙ em,
            w,
          ));
    })
