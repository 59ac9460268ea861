-- The ways of the values below a limit: what they say of all of them is so.
use mathlib.Core.Path.{◌≡◌, refl, sym, ◌∙◌, ap}
use mathlib.Core.List.{List}
use Prim.Native.Nat.{ℕ, suc, ◌+◌, ◌-◌, ◌*◌, ◌≤◌, ◌<◌}
use native.Mathlib.Omega.{arith}
use native.Mathlib.Decide.{dec_lt, ℕ_discrete}
use native.Mathlib.Nat.{mul-le-mul_right}
use lib.Dec.{eqb}
use borrow.Author.Tests.{eq-eqb, ne_eqb, lt-ltb, le-ltb, lt-leb, le-leb}
use Rattle.language.specs.Choice.{pick}
use Rattle.language.specs.declared.Numbers.{Numbers}
use Rattle.states_positions.specs.declared.Frame.{Frame}
use Rattle.states_positions.specs.declared.Out.TheVariants.{Exit}
use Rattle.states_positions.specs.Row.{mul_add_of}
use Rattle.states_step.proofs.Sums.{sum-small, mul_add_small}
use Rattle.states_path.specs.declared.Site.{Site}
use Rattle.states_path.specs.declared.exits.Ways.{Ways}
use Rattle.states_path.specs.declared.exits.Ways.TheVariants.{Copies, Either, Each}
use Rattle.states_path.specs.States.{target_of}
use Rattle.states_path.specs.Path.{rise_all, up_of}
use Rattle.states_path.specs.Levels.{field_of, frame_of, frames_of, Sound}
use Rattle.states_path.specs.Kept.{start_of}
use Rattle.states_path.specs.Ways.{copies_of, other_than, value_to, either_of}
use Rattle.states_path.proofs.PathCode.{fewer}
use Rattle.states_path.proofs.PathExits.{up-low}
use Rattle.states_path.proofs.PathSteps.{lead_low}
use Rattle.states_path.proofs.ValueExits.{unequal-leads, copy-leads}

-- the ways to copies, where no number is too large
data CopyWay (first start a b : ℕ) : Ways → Type 0 where
  near : first < 65536 → a < 65536 → b < 65536 → CopyWay first start a b (Copies (first + start + a) b)
  far : CopyWay first start a b Each

copy-way : (first start a b : ℕ) → CopyWay first start a b (copies_of first start a b)
unfolding copies_of
copy-way first start a b = go (dec_lt first 65536) (dec_lt a 65536) (dec_lt b 65536)
  where
    go : Dec (first < 65536) → Dec (a < 65536) → Dec (b < 65536) → CopyWay first start a b (copies_of first start a b)
    go (yes f) (yes g) (yes h) = rw (lt-ltb first 65536 f, lt-ltb a 65536 g, lt-ltb b 65536 h) (near f g h)
    go (yes f) (yes g) (no h) = rw (lt-ltb first 65536 f, lt-ltb a 65536 g, le-ltb b 65536 (omega arith)) far
    go (yes f) (no g) h = rw (lt-ltb first 65536 f, le-ltb a 65536 (omega arith)) far
    go (no f) g h = rw (le-ltb first 65536 (omega arith)) far

-- the ways of the right operands of *equal*
data EitherWay (N : Numbers) (s : Site) (fs : List Frame) (left : ℕ) : Ways → Type 0 where
  short : left < 65536 → EitherWay N s fs left (Either left (value_to N s fs left) (value_to N s fs (other_than left)))
  long : EitherWay N s fs left Each

either_way : (N : Numbers) (s : Site) (fs : List Frame) (left : ℕ) → EitherWay N s fs left (either_of N s fs left)
unfolding either_of
either_way N s fs left = go (dec_lt left 65536)
  where
    go : Dec (left < 65536) → EitherWay N s fs left (either_of N s fs left)
    go (yes h) = rw (lt-leb 65536 left h) (short h)
    go (no h) = rw (le-leb 65536 left (omega arith)) long

-- what is said of the ways of the values below a limit
abbrev Apart : Numbers → Site → List ℕ → ℕ → ℕ → Ways → Type 0
Apart N s p c below r =
    (to stride v : ℕ) → r ≡ Copies to stride → v < below →
    to + v * stride ≡ target_of s (rise_all N (frames_of p c) (Exit 5 v 0 0))

abbrev Two : Numbers → Site → List ℕ → ℕ → ℕ → Ways → Type 0
Two N s p c below r =
    (value on off v : ℕ) → r ≡ Either value on off → v < below →
    pick (eqb v value) on off ≡ target_of s (rise_all N (frames_of p c) (Exit 5 v 0 0))

abbrev Small : Ways → Type 0
Small r = (to stride : ℕ) → r ≡ Copies to stride → (to < 4294967296) × (stride < 65536)

abbrev Told : Numbers → Site → List ℕ → ℕ → ℕ → Ways → Type 0
Told N s p c below r = Apart N s p c below r × (Two N s p c below r × Small r)

pub told-each : (N : Numbers) (s : Site) (p : List ℕ) (c below : ℕ) → Told N s p c below Each
told-each N s p c below = (
  λ to stride v e. let z : ◌≡◌ {A = ℕ} 0 1 = cc in absurd (omega arith),
  (
    λ value on off v e. let z : ◌≡◌ {A = ℕ} 0 1 = cc in absurd (omega arith),
    λ to stride e. let z : ◌≡◌ {A = ℕ} 0 1 = cc in absurd (omega arith),
  ),
)

told-copies : (N : Numbers) (s : Site) (p : List ℕ) (c below to stride : ℕ) → to < 4294967296 → stride < 65536 →
    ((v : ℕ) → v < below → to + v * stride ≡ target_of s (rise_all N (frames_of p c) (Exit 5 v 0 0))) →
    Told N s p c below (Copies to stride)
told-copies N s p c below to stride f g h = (
  λ to' stride' v e b. let i : to ≡ to' = cc in let j : stride ≡ stride' = cc in rw (← i, ← j) (h v b),
  (
    λ value on off v e. let z : ◌≡◌ {A = ℕ} 0 1 = cc in absurd (omega arith),
    λ to' stride' e. let i : to ≡ to' = cc in let j : stride ≡ stride' = cc in (omega arith, omega arith),
  ),
)

told-either : (N : Numbers) (s : Site) (p : List ℕ) (c below value on off : ℕ) →
    ((v : ℕ) → v < below → pick (eqb v value) on off ≡ target_of s (rise_all N (frames_of p c) (Exit 5 v 0 0))) →
    Told N s p c below (Either value on off)
told-either N s p c below value on off h = (
  λ to stride v e. let z : ◌≡◌ {A = ℕ} 0 1 = cc in absurd (omega arith),
  (
    λ value' on' off' v e b.
        let i : value ≡ value' = cc in let j : on ≡ on' = cc in let k : off ≡ off' = cc in rw (← i, ← j, ← k) (h v b),
    λ to stride e. let z : ◌≡◌ {A = ℕ} 0 1 = cc in absurd (omega arith),
  ),
)

-- a value that is not the left operand, below every limit that has one
other-is : (v left below : ℕ) → v < below → (v ≡ left → ⊥) → (other_than left < below) × (other_than left ≡ left → ⊥)
unfolding other_than
other-is v left below h n = go (ℕ_discrete left 0)
  where
    go : Dec (left ≡ 0) → (other_than left < below) × (other_than left ≡ left → ⊥)
    go (yes z) = rw (eq-eqb left 0 z) (omega arith, λ e. omega arith)
    go (no z) = rw (ne_eqb left 0 z) (omega arith, λ e. omega arith)

pub up-within : (p : List ℕ) (c up : ℕ) → Sound p c → up ≡ up_of (frames_of p c) → (up ≡ 0 → ⊥) → up - 1 < 6145
up-within p c up S e n = omega (arith, e, up-low p c, S.few)

pub up-inside : (p : List ℕ) (c up : ℕ) → Sound p c → up ≡ up_of (frames_of p c) → Sound p (up - 1)
up-inside p c up S e = fewer p c (up - 1) S (omega (arith, e, up-low p c))

-- the frame of the level up - 1, which takes the values below a limit, tells it for all of them
module _ (N : Numbers) (s : Site) (p : List ℕ) (c below up role x : ℕ) (S : Sound p c) (e : up ≡ up_of (frames_of p c))
    (n : up ≡ 0 → ⊥) (b : below < 32767) (ex : x ≡ field_of p (up - 1) 10) (h : below ≤ x)
    (er : role ≡ field_of p (up - 1) 6) where
  abbrev j : ℕ
  j = up - 1

  upper : up_of (frames_of p c) ≡ suc j
  upper = sym e ∙ omega arith

  -- THEOREM: a part that selects leads them to its copies
  pub copies-told : (start a q : ℕ) (r : Ways) → role ≡ 3 → start ≡ start_of p j → a ≡ field_of p j 8 →
      q ≡ field_of p j 9 → r ≡ copies_of s.o start a q → Told N s p c below r
  unfolding frame_of
  copies-told start a q r k es ea eq w = rw w (go (copies_of s.o start a q) (copy-way s.o start a q))
    where
      low : start < 65536
      low = lead_low p j start (up-inside p c up S e) es

      go : (r : Ways) → CopyWay s.o start a q r → Told N s p c below r
      go r far = told-each N s p c below
      go r (near f g i) = told-copies N s p c below (s.o + start + a) q (omega (arith, low)) i (λ v l.
          let m : v * q ≤ 32765 * q = mul-le-mul_right q (omega arith) in
          let y : mul_add_of v (field_of p j 9) (field_of p j 8) ≡ v * q + a =
          rw (← eq, ← ea) (mul_add_small v q a (omega arith) i (omega arith)) in
          copy-leads N s p c S j upper v (s.o + start + a + v * q) (sym er ∙ k) (omega (arith, ex)) (omega (arith, y))
          (rw (y, ← es) (omega (arith, sum-small s.o (start + (v * q + a)) (omega (arith, low))))))

  -- where a value leads
  abbrev leads : ℕ → ℕ
  leads v = value_to N s (frames_of p c) v

  leads-to : (v : ℕ) → leads v ≡ target_of s (rise_all N (frames_of p c) (Exit 5 v 0 0))
  unfolding value_to
  leads-to v = refl

  module _ (left : ℕ) (k : role ≡ 4) (eo : field_of p j 9 ≡ 4) (el : left ≡ field_of p j 8) where
    unlike : (v : ℕ) → left < 65536 → v < below → (v ≡ left → ⊥) →
        leads v ≡ target_of s (rise_all N (frames_of p j) (Exit 5 0 0 0))
    unfolding frame_of
    unlike v i l d =
        unequal-leads N s p c S j upper v (sym er ∙ k) eo (omega (arith, el)) (omega (arith, ex)) (omega arith)
        (λ y. d (y ∙ sym el))

    by_left : (v : ℕ) → left < 65536 → v < below → Dec (v ≡ left) →
        pick (eqb v left) (leads left) (leads (other_than left)) ≡ leads v
    by_left v i l (yes d) = rw (eq-eqb v left d) (ap (λ (y : ℕ). leads y) (sym d))
    by_left v i l (no d) =
        let o = other-is v left below l d in
        rw (ne_eqb v left d) (unlike (other_than left) i o.0 o.1 ∙ sym (unlike v i l d))

    -- THEOREM: a right operand of *equal* leads by whether it is like the left one
    pub either-told : (r : Ways) → r ≡ either_of N s (frames_of p c) left → Told N s p c below r
    either-told r w = rw w (go (either_of N s (frames_of p c) left) (either_way N s (frames_of p c) left))
      where
        go : (r : Ways) → EitherWay N s (frames_of p c) left r → Told N s p c below r
        go r long = told-each N s p c below
        go r (short i) = told-either N s p c below left (leads left) (leads (other_than left)) (λ v l.
            by_left v i l (ℕ_discrete v left) ∙ leads-to v)
