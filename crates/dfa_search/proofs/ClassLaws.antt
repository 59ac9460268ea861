-- Finding a representative with halved paths, and linking two of them. Assumes nothing.
use mathlib.Core.Bool.{cond}
use mathlib.Core.List.{List}
use mathlib.Core.Logic.{◌≢◌}
use mathlib.Core.Path.{◌∙◌, ◌≡◌, ap, subst, sym}
use Prim.Native.Nat.{◌<◌, ◌≤◌, ℕ}
use native.Mathlib.Omega.{arith}
use lib.Dec.{eqb}
use lib.ListN.{get_or, length, length-set, set}
use Rattle.dfa_search.specs.Classes.{Finding, Found, Low, Rep}
use Rattle.dfa_search.specs.Classes.{merge}
use Rattle.dfa.specs.Frame.{SameBelow}
use Rattle.dfa.proofs.laws.Frame.{set_all, set-from}
use Rattle.dfa_search.proofs.Merging.{merge_in, merge-out}

pub rep-frame : (n : ℕ) (ws ws' : List ℕ) (rep : ℕ → ℕ) → SameBelow n ws ws' → Rep n ws rep → Rep n ws' rep
rep-frame n ws ws' rep s r = record {
  up = λ x h. rw (s x h) (r.up x h);
  root = λ x h e. r.root x h (sym (s x h) ∙ e);
}

pub low-frame : (n : ℕ) (ws ws' : List ℕ) → SameBelow n ws ws' → length ws' ≡ length ws → Low n ws → Low n ws'
low-frame n ws ws' s l w =
    record { room = omega (arith, w.room); few = w.few; low = λ x h. rw (s x h) (w.low x h) }

-- a state may get its grandparent for its parent
module _ (n : ℕ) (ws : List ℕ) (x : ℕ) (x_lt : x < n) (w : Low n ws) where
  abbrev pub halved : List ℕ
  halved = set ws x (get_or ws (get_or ws x 0) 0)

  p_lt : get_or ws x 0 < n
  p_lt = omega (arith, w.low x x_lt)

  halved-low : Low n halved
  halved-low = record {
    room = rw length-set w.room;
    few = w.few;
    low = set_all (λ y v. y < n → v ≤ y) ws x _ (omega (arith, w.room))
        (λ h. omega (arith, w.low x x_lt, w.low (get_or ws x 0) p_lt)) (λ y q h. w.low y h);
  }

  halved-rep : (rep : ℕ → ℕ) → Rep n ws rep → get_or ws x 0 ≢ x → Rep n halved rep
  halved-rep rep r ne = record {
    up = set_all (λ y v. y < n → rep v ≡ rep y) ws x _ (omega (arith, w.room)) (λ h. r.up (get_or ws x 0) p_lt
        ∙ r.up x x_lt) (λ y q h. r.up y h);
    root = set_all (λ y v. y < n → v ≡ y → rep y ≡ y) ws x _ (omega (arith, w.room))
        (λ h e. absurd (ne (omega (arith, w.low x x_lt, w.low (get_or ws x 0) p_lt)))) (λ y q h e. r.root y h e);
  }

module _ (n : ℕ) (ws : List ℕ) (a b : ℕ) (lt : b < a) (a_lt : a < n) (w : Low n ws) where
  pub linked-low : Low n (set ws a b)
  linked-low = record {
    room = rw length-set w.room;
    few = w.few;
    low = set_all (λ y v. y < n → v ≤ y) ws a b (omega (arith, w.room)) (λ h. omega arith) (λ y q h. w.low y h);
  }

  pub linked-rep : (rep : ℕ → ℕ) → ((x : ℕ) → rep (rep x) ≡ rep x) → Rep n ws rep → (p q : ℕ) → a ≡ rep p → b ≡ rep q
      → Rep n (set ws a b) (merge rep p q)
  linked-rep rep idem r p q ea eb = record {
    up = set_all (λ y v. y < n → merge rep p q v ≡ merge rep p q y) ws a b (omega (arith, w.room))
        (λ h. out b (λ e. ne (sym e ∙ rb ∙ eb)) ∙ rb ∙ eb ∙ sym (merge_in rep p q a (ra ∙ ea)))
        (λ y z h. ap (λ v. cond (eqb v (rep p)) (rep q) v) (r.up y h));
    root = set_all (λ y v. y < n → v ≡ y → merge rep p q y ≡ y) ws a b (omega (arith, w.room))
        (λ h e. absurd (omega arith)) (λ y z h e. out y (λ v. z (sym (r.root y h e) ∙ v ∙ sym ea)) ∙ r.root y h e);
  }
    where
      ra : rep a ≡ a
      ra = ap rep ea ∙ idem p ∙ sym ea

      rb : rep b ≡ b
      rb = ap rep eb ∙ idem q ∙ sym eb

      ne : rep p ≢ rep q
      ne e = let z : a ≡ b = ea ∙ e ∙ sym eb in omega arith

      out : (x : ℕ) → rep x ≢ rep p → merge rep p q x ≡ rep x
      out x = merge-out rep p q x

pub find-again : (x : ℕ) (ws₀ ws ws' : List ℕ) (y p g : ℕ) → Finding x ws₀ ws y → p ≡ get_or ws y 0 → p ≢ y
    → g ≡ get_or ws p 0 → ws' ≡ set ws y g → Finding x ws₀ ws' g
find-again x ws₀ ws ws' y p g s ep ne eg ew = subst (λ v. Finding x ws₀ v g) (sym (ew ∙ ap (λ z. set ws y z) gg))
    (record {
      below = omega (arith, gg, up, s.below);
      sinks = record {
        inside = rw length-set s.sinks.inside;
        small = s.sinks.small;
        sinks = set_all (λ z v. z ≤ x → v ≤ z) ws y _ (omega (arith, s.sinks.inside, s.below)) (λ l. up)
            (λ z q l. s.sinks.sinks z l);
      };
      len = rw length-set s.len;
      class = λ n w h. let c = s.class n w h in let y-lt : y < n = omega (arith, s.below) in record {
        low = halved-low n ws y y-lt c.low;
        keep = λ i l. set-from n y _ ws y-lt i l ∙ c.keep i l;
        rep = λ r k. let z = c.rep r k in (
          ap r gg ∙ z.1.up (get_or ws y 0) (omega (arith, pb)) ∙ z.1.up y y-lt ∙ z.0,
          halved-rep n ws y y-lt c.low r z.1 (λ q. ne (ep ∙ q)),
        );
      };
    })
  where
    gg : g ≡ get_or ws (get_or ws y 0) 0
    gg = eg ∙ ap (λ z. get_or ws z 0) ep

    pb : get_or ws y 0 ≤ y
    pb = s.sinks.sinks y s.below

    up : get_or ws (get_or ws y 0) 0 ≤ y
    up = omega (arith, pb, s.sinks.sinks (get_or ws y 0) (omega (arith, pb, s.below)))

-- the parent of y is in the class of x as well
pub find-parent : (x : ℕ) (ws₀ ws : List ℕ) (y p : ℕ) → Finding x ws₀ ws y → p ≡ get_or ws y 0 → Finding x ws₀ ws p
find-parent x ws₀ ws y p s ep = record {
  below = omega (arith, ep, s.sinks.sinks y s.below, s.below);
  sinks = s.sinks;
  len = s.len;
  class = λ n w h. let c = s.class n w h in record {
    low = c.low;
    keep = c.keep;
    rep = λ r k. let z = c.rep r k in
        (ap r ep ∙ z.1.up y (omega (arith, s.below)) ∙ z.0, z.1);
  };
}

pub find-last : (n x : ℕ) (ws₀ ws : List ℕ) (y : ℕ) → Finding x ws₀ ws y → get_or ws y 0 ≡ y → Low n ws₀ → x < n
    → Found n x y ws₀ ws
find-last n x ws₀ ws y s e w h =
    let c = s.class n w h in
    let y-lt : y < n = omega (arith, s.below) in
    record {
      below = y-lt;
      low = c.low;
      keep = c.keep;
      rep = λ r k. let z = c.rep r k in (sym (z.1.root y y-lt e) ∙ z.0, z.1);
    }
