-- What the loop of spell keeps. Assumes nothing.
use mathlib.Core.List.{List, [], ◌++◌, ◌∷◌}
use mathlib.Core.Path.{◌∙◌, ◌≡◌, ap, refl, subst, sym}
use Prim.Native.Nat.{◌*◌, ◌+◌, ◌-◌, ◌<◌, ◌≤◌, ℕ}
use native.Mathlib.Omega.{arith}
use lib.ListN.{get_or, length, length-set, set, take}
use lib.Seq.{drop-set-add, get_or-take, take-set-le, take-suc}
use Rattle.dfa.specs.Graph.{rest}
use Rattle.dfa.specs.Reading.{reversed}
use Rattle.dfa_search.specs.Spelled.{Spelled, Trail, Written, more, none}
use Rattle.dfa_search.specs.Trace.{Spells}
use Rattle.dfa.proofs.laws.Rest.{rest-is, rest-length}
use Rattle.dfa_search.proofs.Trace.{trace-first, trace-more, trace-on, trail-spelled}

-- the front's places are the whole's
front-is : (n : ℕ) (ws : List ℕ) (j k : ℕ) → j < n → k < 4 → get_or (take (5 * n) ws) (n + 4 * j + k) 0 ≡ get_or
    ws (n + 4 * j + k) 0
front-is n ws j k h l = get_or-take (5 * n) ws (n + 4 * j + k) 0 (omega arith)

spelled-wide : (n : ℕ) (ws : List ℕ) (j : ℕ) (w : List ℕ) → j < n → Spelled n (take (5 * n) ws) j w → Spelled n ws j w
spelled-wide n ws j w h none = none
spelled-wide n ws j w h (more {u} k l f s) =
    let two = front-is n ws k 2 h (omega arith) in
    let r = spelled-wide n ws (get_or (take (5 * n) ws) (n + 4 * k + 2) 0) u (omega arith) s in
    subst (λ m. Spelled n ws k (m ∷ u)) (sym (front-is n ws k 3 h (omega arith)))
    (more k l (omega arith) (subst (λ j. Spelled n ws j u) two r))

pub spelled-length : (n : ℕ) (ws : List ℕ) (j : ℕ) (w : List ℕ) → Spelled n ws j w → length w ≤ j
spelled-length n ws j w none = omega arith
spelled-length n ws j w (more {u} k l f s) =
    let r = spelled-length n ws (get_or ws (n + 4 * k + 2) 0) u s in omega arith

module _ (n k : ℕ) (ws₀ : List ℕ) (t : Trail n (take (5 * n) ws₀) k) (room : 5 * n + n ≤ length ws₀) where
  pub spells-first : (d : ℕ) → ((u : List ℕ) → Spelled n ws₀ k u → d ≡ length u) → Spells n k d ws₀ ws₀ d k
  spells-first d f =
      let w = trail-spelled n (take (5 * n) ws₀) k t in
      record {
        len = refl;
        front = refl;
        fits = omega (
          arith,
          f w.0 (spelled-wide n ws₀ k w.0 t.below w.1),
          spelled-length n
              (take (5 * n) ws₀) k w.0 w.1,
          t.below,
        );
        low = omega arith;
        word = λ u s. let e = f u (spelled-wide n ws₀ k u t.below s) in
            (e, trace-first n (take (5 * n) ws₀) u (rest (5 * n) ws₀) d k e s);
      }

  module _ (d : ℕ) (ws : List ℕ) (i e : ℕ) (l : 0 < i) (s : Spells n k d ws₀ ws i e) where
    h : 0 < e
    h = let w = trail-spelled n (take (5 * n) ws₀) k t in trace-on _ _ _ _ _ _ l (s.word w.0 w.1).1

    -- a word of an entry is as at the start
    kept : (j : ℕ) → j < 4 → get_or ws (n + 4 * e + j) 0 ≡ get_or (take (5 * n) ws₀) (n + 4 * e + j) 0
    kept j l = sym (front-is n ws e j (omega (arith, s.low, t.below)) l) ∙ ap (λ w. get_or w (n + 4 * e + j) 0)
        s.front

    module _ (m e' : ℕ) (ws' : List ℕ) (em : m ≡ get_or ws (n + 4 * e + 3) 0) (ew : ws' ≡ set ws (5 * n + (i - 1)) m)
        (ee : e' ≡ get_or ws' (n + 4 * e + 2) 0) where
      front' : take (5 * n) ws' ≡ take (5 * n) ws
      front' = ap (take (5 * n)) ew ∙ take-set-le (5 * n) ws (5 * n + (i - 1)) m (omega arith)

      rest' : rest (5 * n) ws' ≡ set (rest (5 * n) ws) (i - 1) m
      rest' = ap (rest (5 * n)) ew ∙ rest-is (5 * n) (set ws (5 * n + (i - 1)) m) ∙ drop-set-add (5 * n) ws (i - 1) m
          ∙ ap (λ l. set l (i - 1) m) (sym (rest-is (5 * n) ws))

      from' : e' ≡ get_or (take (5 * n) ws₀) (n + 4 * e + 2) 0
      from' = ee ∙ sym (front-is n ws' e 2 (omega (arith, s.low, t.below)) (omega arith))
          ∙ ap (λ w. get_or w (n + 4 * e + 2) 0) (front' ∙ s.front)

      pub spells-less : e' < e
      spells-less = rw from' (t.from e h s.low)

      pub spells-again : Spells n k d ws₀ ws' (i - 1) e'
      spells-again = record {
        len = ap length ew ∙ length-set ws _ m ∙ s.len;
        front = front' ∙ s.front;
        fits = omega (arith, s.fits);
        low = omega (arith, spells-less, s.low);
        word = λ u v. let x = s.word u v in (
          x.0,
          trace-more n (take (5 * n) ws₀) u (rest (5 * n) ws) (rest (5 * n) ws') i e e' m h
              (omega (arith, rest-length (5 * n) ws, s.len, s.fits)) (em ∙ kept 3 (omega arith)) rest' from' x.1,
        );
      }

-- the word as it stands
pub written-take : (u out : List ℕ) → length u ≤ length out → Written u out → take (length u) out ≡ reversed u
written-take [] out h w = refl
written-take (m ∷ u) out h w =
    take-suc out (length u) 0 (omega arith) ∙ ap (λ v. v ++ (get_or out (length u) 0 ∷ []))
    (written-take u out (omega arith) w.1)
    ∙ ap (λ v. reversed u ++ (v ∷ [])) w.0
