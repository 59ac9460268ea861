-- What each turn of the code that finds where a step leads needs.
use mathlib.Core.Path.{◌≡◌, refl, sym, ◌∙◌, ap}
use mathlib.Core.List.{List}
use Prim.Native.Nat.{ℕ, zero, suc, ◌+◌, ◌-◌, ◌≤◌, ◌<◌}
use native.Mathlib.Omega.{arith}
use native.Mathlib.Decide.{dec_lt}
use borrow.Author.Tests.{eq-eqb, ne_eqb, lt-ltb, le-ltb}
use lib.Dec.{eqb}
use Rattle.language.specs.Choice.{pick}
use Rattle.language.specs.declared.Numbers.{Numbers}
use Rattle.states_positions.specs.declared.Move.{Move}
use Rattle.states_positions.specs.declared.Frame.{Frame}
use Rattle.states_positions.specs.declared.Out.{Out}
use Rattle.states_positions.specs.declared.Out.TheVariants.{Go, Exit, Say, Hear, Stuck}
use Rattle.states_positions.specs.Row.{sum_of, mul_add_of}
use Rattle.states_rise.specs.Up.{exits_of}
use Rattle.states_path.specs.declared.Site.{Site}
use Rattle.states_path.specs.States.{target_of}
use Rattle.states_path.specs.Path.{rise_all, base_of, store_of, up_of, innermost_of, block_in, left_of}
use Rattle.states_path.specs.Levels.{field_of, frame_of, level_at, frames_of, Sound}
use Rattle.states_path.specs.Kept.{start_of}
use Rattle.states_path.proofs.PathWords.{frames-length}
use Rattle.states_path.proofs.PathLead.{rise-go, block_none}
use Rattle.states_path.proofs.PathExits.{exit-none, exit-up, exit-all, up-low, up-stops}
use Rattle.states_path.proofs.PathRise.{Alike, alike-exits, alike-go, alike-exit, alike-stuck, alike-say, alike-hear}
use Rattle.states_path.proofs.Reaching.{reach-stuck}
use Rattle.states_path.proofs.PathBlocks.{block-found, block_same, innermost-is, rise-block, block-value}
use Rattle.states_path.proofs.PathBlocks.{block-unset}
use Rattle.states_path.proofs.PathSays.{start-base, start-next, frames-owned}
use Rattle.states_path.proofs.PathCode.{frames-less, fewer}

-- up
pub up_none : (p : List ℕ) (c : ℕ) → c ≡ 0 → 0 ≡ up_of (frames_of p c)
unfolding up_of frames_of
up_none p c e = rw e

pub up-some : (p : List ℕ) (c u : ℕ) → Sound p c → (c ≡ 0 → ⊥) → u ≡ field_of p (c - 1) 12 → u ≡ up_of (frames_of p c)
unfolding level_at
up-some p c u S n e =
    e ∙ (S.plain (c - 1) (omega arith)).upper ∙ ap up_of (sym (frames-less p c (omega arith)))

-- the innermost block
pub innermost-none : (p : List ℕ) (c : ℕ) → c ≡ 0 → 0 ≡ innermost_of (frames_of p c)
unfolding innermost_of frames_of
innermost-none p c e = rw e

pub innermost-here : (p : List ℕ) (c r : ℕ) → (c ≡ 0 → ⊥) → r ≡ field_of p (c - 1) 6 → r ≡ 7 →
    c ≡ innermost_of (frames_of p c)
unfolding innermost_of frame_of
innermost-here p c r n a e =
    rw (frames-less p c (omega arith), eq-eqb (field_of p (c - 1) 6) 7 (sym a ∙ e)) (omega (
      arith,
      frames-length p (c -
          1),
    ))

pub innermost-outside : (p : List ℕ) (c r o : ℕ) → Sound p c → (c ≡ 0 → ⊥) → r ≡ field_of p (c - 1) 6 → (r ≡ 7 → ⊥) →
    o ≡ field_of p (c - 1) 5 → o ≡ innermost_of (frames_of p c)
unfolding innermost_of frame_of level_at
innermost-outside p c r o S n a e g =
    rw (frames-less p c (omega arith), ne_eqb (field_of p (c - 1) 6) 7 (λ z. e (a ∙ z)))
    (g ∙ (S.plain (c - 1) (omega arith)).outer_block)

-- the block of a variable
pub block-zero : (p : List ℕ) (c l : ℕ) → Sound p c → l ≡ 0 → 0 ≡ block_in (frames_of p c) l
block-zero p c l S e = rw e (sym (block_none (frames_of p c) (frames-owned p c S)))

-- it is looked for from block to block
pub record Looking (p : List ℕ) (c l m : ℕ) : Type 0 where
  pub left : ℕ
  pub within : left ≤ c
  pub inner : m ≡ innermost_of (frames_of p left)
  pub same : block_in (frames_of p left) l ≡ block_in (frames_of p c) l

pub look-first : (p : List ℕ) (c l m : ℕ) → m ≡ innermost_of (frames_of p c) → Looking p c l m
look-first p c l m e = record { left = c; within = omega arith; inner = e; same = refl }

pub look-within : (p : List ℕ) (c l m : ℕ) → Looking p c l m → m ≤ c
look-within p c l m L = omega (arith, L.within, L.inner, (innermost-is p L.left l).low)

block-head : (p : List ℕ) (i l : ℕ) → (frame_of p i).role ≡ 7 → block_in (frames_of p (suc i)) l ≡
    pick (eqb l (frame_of p i).a) (suc i) (block_in (frames_of p i) l)
unfolding block_in frames_of
block-head p i l e = rw (eq-eqb (frame_of p i).role 7 e, frames-length p i)

module _ (p : List ℕ) (c l m : ℕ) (S : Sound p c) (L : Looking p c l m) (z : 0 < m) where
  own : suc (m - 1) ≡ m
  own = omega arith

  here : block_in (frames_of p c) l ≡ pick (eqb l (frame_of p (m - 1)).a) (suc (m - 1)) (block_in (frames_of p (m - 1)) l)
  here =
      let I = innermost-is p L.left l in
      sym L.same ∙ I.same ∙ ap (λ (y : ℕ). block_in (frames_of p y) l) (sym L.inner ∙ sym own)
      ∙ block-head p (m - 1) l (I.block (m - 1) (sym L.inner ∙ sym own))

  pub look-found : (a : ℕ) → a ≡ field_of p (m - 1) 8 → a ≡ l → m ≡ block_in (frames_of p c) l
  unfolding frame_of
  look-found a e h = sym (here ∙ rw (eq-eqb l (field_of p (m - 1) 8) (sym h ∙ e)) own)

  pub look-again : (a o : ℕ) → a ≡ field_of p (m - 1) 8 → (a ≡ l → ⊥) → o ≡ field_of p (m - 1) 5 → Looking p c l o
  unfolding frame_of level_at
  look-again a o e n g = record {
    left = m - 1;
    within = omega (arith, look-within p c l m L);
    inner = g ∙ (S.plain (m - 1) (omega (arith, look-within p c l m L))).outer_block;
    same = sym (here ∙ rw (ne_eqb l (field_of p (m - 1) 8) (λ y. n (e ∙ sym y))));
  }

  pub look-less : (o : ℕ) → o ≡ field_of p (m - 1) 5 → o < m
  unfolding level_at
  look-less o g =
      let b : m - 1 < c = omega (arith, look-within p c l m L) in
      omega (arith, g ∙ (S.plain (m - 1) b).outer_block, (innermost-is p (m - 1) l).low)

block-empty : (p : List ℕ) (l : ℕ) → 0 ≡ block_in (frames_of p 0) l
unfolding block_in frames_of
block-empty p l = refl

pub look-last : (p : List ℕ) (c l m : ℕ) → Looking p c l m → m ≤ 0 → 0 ≡ block_in (frames_of p c) l
look-last p c l m L z =
    let e : m ≡ 0 = omega arith in
    block-empty p l ∙ ap (λ (y : ℕ). block_in (frames_of p y) l) (sym e ∙ L.inner)
    ∙ sym (innermost-is p L.left l).same ∙ L.same

-- the value of a private variable
pub value_there : (p : List ℕ) (c l m v : ℕ) → m ≡ block_in (frames_of p c) (l + 1) → (m ≡ 0 → ⊥) →
    v ≡ field_of p (m - 1) 10 → v ≡ store_of (frames_of p c) l
unfolding frame_of
value_there p c l m v e n a =
    let q : block_in (frames_of p c) (suc l) ≡ suc (m - 1) =
    ap (λ (y : ℕ). block_in (frames_of p c) y) (omega arith) ∙ sym e ∙ omega arith in
    a ∙ block-value p c l (m - 1) q

pub value-unset : (p : List ℕ) (c l m : ℕ) → m ≡ block_in (frames_of p c) (l + 1) → m ≡ 0 → 0 ≡ store_of (frames_of p c) l
value-unset p c l m e z =
    block-unset p c l (sym z ∙ e ∙ ap (λ (y : ℕ). block_in (frames_of p c) y) (omega arith))

pub block_within : (p : List ℕ) (c l m : ℕ) → m ≡ block_in (frames_of p c) l → (m ≡ 0 → ⊥) → (0 < m) × (m ≤ c)
block_within p c l m e n =
    let q : block_in (frames_of p c) l ≡ suc (m - 1) = sym e ∙ omega arith in
    (omega arith, omega (arith, (block-found p c l (m - 1) q).0))

-- the first states of levels inside one another rise
base-next : (p : List ℕ) (c : ℕ) → base_of (frames_of p (suc c)) ≡ base_of (frames_of p c) + (frame_of p c).base
unfolding base_of frames_of
base-next p c = refl

bases-rise : (p : List ℕ) (i c : ℕ) → i ≤ c → base_of (frames_of p i) ≤ base_of (frames_of p c)
bases-rise p i zero h = let e : i ≡ 0 = omega arith in rw e (omega arith)
bases-rise p i (suc c) h = go (dec_lt i (suc c)) (λ l. bases-rise p i c l)
  where
    go : Dec (i < suc c) → (i ≤ c → base_of (frames_of p i) ≤ base_of (frames_of p c)) →
        base_of (frames_of p i) ≤ base_of (frames_of p (suc c))
    go (yes l) rec = omega (arith, rec (omega arith), base-next p c)
    go (no l) rec = let e : i ≡ suc c = omega arith in rw e (omega arith)

-- where a silent step leads
start-low : (p : List ℕ) (c : ℕ) → Sound p c → start_of p c < 65536
unfolding start_of
start-low p zero S = omega arith
start-low p (suc i) S = omega (arith, (S.plain i (omega arith)).small, start-next p i)

pub lead_low : (p : List ℕ) (c b : ℕ) → Sound p c → b ≡ start_of p c → b < 65536
lead_low p c b S e = omega (arith, start-low p c S)

pub lead-within : (p : List ℕ) (c next l b m : ℕ) → Sound p c → next < 2147418112 → b ≡ start_of p c →
    m ≡ block_in (frames_of p c) l → (m ≡ 0 → ⊥) → (a : ℕ) → a ≡ start_of p m → a ≤ b + next
lead-within p c next l b m S h e d n a g =
    let w = block_within p c l m d n in
    omega (arith, g, e, start-base p c S, start-base p m (fewer p c m S w.1), bases-rise p m c w.1)

module _ (N : Numbers) (s : Site) (p : List ℕ) (c next l u b m : ℕ) (S : Sound p c) (h : next < 2147418112)
    (e : b ≡ start_of p c) (d : m ≡ block_in (frames_of p c) l) where
  base : b ≡ base_of (frames_of p c)
  base = e ∙ start-base p c S

  near : base_of (frames_of p c) + next < 2147483648
  near = omega (arith, base, lead_low p c b S e)

  pub lead_plain : (r : ℕ) → m ≡ 0 → r ≡ sum_of s.o (b + next) → r ≡ target_of s (rise_all N (frames_of p c) (Go next l
      u))
  unfolding target_of
  lead_plain r z g =
      rw (rise-go N (frames_of p c) next l u (sym d ∙ z) near)
      (g ∙ ap (λ (y : ℕ). sum_of s.o (y + next)) base)

  module _ (n : m ≡ 0 → ⊥) where
    found : block_in (frames_of p c) l ≡ suc (m - 1)
    found = sym d ∙ omega arith

    again : suc (m - 1) ≡ m
    again = omega arith

    pub lead-copy : (a f x q r : ℕ) → a ≡ start_of p m → f ≡ field_of p (m - 1) 9 → x ≡ mul_add_of u f (b + next - a) →
        x < 2147418112 → q ≡ start_of p (m - 1) → r ≡ sum_of s.o (q + x) →
        r ≡ target_of s (rise_all N (frames_of p c) (Go next l u))
    unfolding frame_of target_of
    lead-copy a f x q r ga gf gx hx gq gr =
        let M : Sound p m = fewer p c m S (block_within p c l m d n).1 in
        let L : Sound p (m - 1) = fewer p c (m - 1) S (omega (arith, (block_within p c l m d n).1)) in
        let w : a ≡ base_of (frames_of p (suc (m - 1))) =
        ga ∙ start-base p m M ∙ ap (λ (y : ℕ). base_of (frames_of p y)) (sym again) in
        let x' : mul_add_of u (frame_of p (m - 1)).b (base_of (frames_of p c) + next - base_of (frames_of p (suc (m - 1))))
        ≡ x
        =
        rw (← base, ← w) (sym (gx ∙ ap (λ (y : ℕ). mul_add_of u y (b + next - a)) gf)) in
        let q' : q ≡ base_of (frames_of p (m - 1)) = gq ∙ start-base p (m - 1) L in
        rw (
          (rise-block N p c l u next (m - 1) found near).1,
          x',
          rise-go N (frames_of p (m - 1)) x 0 0 (block_none (frames_of p (m - 1)) (frames-owned p (m - 1) L))
              (omega (arith, q', lead_low p (m - 1) q L gq)),
          ← q',
        ) gr

-- what is written after an exit is forgotten where its block is left
pub led-none : (N : Numbers) (s : Site) (p : List ℕ) (i next l u m r : ℕ) → i < m →
    r ≡ target_of s (rise_all N (frames_of p i) (Go next 0 0)) →
    r ≡ target_of s (rise_all N (frames_of p i) (Go next (left_of i m l) (left_of i m u)))
unfolding left_of
led-none N s p i next l u m r h e = rw (lt-ltb i m h) e

pub led-own : (N : Numbers) (s : Site) (p : List ℕ) (i next l u m r : ℕ) → m ≤ i →
    r ≡ target_of s (rise_all N (frames_of p i) (Go next l u)) →
    r ≡ target_of s (rise_all N (frames_of p i) (Go next (left_of i m l) (left_of i m u)))
unfolding left_of
led-own N s p i next l u m r h e = rw (le-ltb i m h) e

-- a block that is not left is found from there too
pub own-there : (p : List ℕ) (c i l m : ℕ) → i ≤ c → m ≡ block_in (frames_of p c) l → m ≤ i →
    m ≡ block_in (frames_of p i) l
own-there p c i l m b e h = e ∙ sym (block_same p c i l b (omega (arith, e)))

-- where an exit leads
pub record Exiting (N : Numbers) (s : Site) (p : List ℕ) (c m up k x l u : ℕ) (o₀ : Out) : Type 0 where
  pub left : ℕ
  pub within : left ≤ c
  pub upper : up ≡ up_of (frames_of p left)
  pub leads : target_of s (rise_all N (frames_of p left) (Exit k x (left_of left m l) (left_of left m u)))
      ≡ target_of s (rise_all N (frames_of p c) o₀)

exits-dead : (s : Site) (k x l u : ℕ) → target_of s (Exit k x l u) ≡ s.n - 1
unfolding target_of
exits-dead s k x l u = refl

module _ (N : Numbers) (s : Site) (p : List ℕ) (c l u m : ℕ) (S : Sound p c) (d : m ≡ block_in (frames_of p c) l) where
  pub exit-first : (up k x : ℕ) → up ≡ up_of (frames_of p c) → Exiting N s p c m up k x l u (Exit k x l u)
  exit-first up k x e = record {
    left = c;
    within = omega arith;
    upper = e;
    leads = ap (λ (o : Out). target_of s (rise_all N (frames_of p c) o)) (exit-all N p c l u m S d k x);
  }

  pub exit-last : (up k x : ℕ) (o₀ : Out) → Exiting N s p c m up k x l u o₀ → up ≤ 0 →
      s.n - 1 ≡ target_of s (rise_all N (frames_of p c) o₀)
  exit-last up k x o₀ E z =
      sym (ap (λ (o : Out). target_of s o)
      (exit-none N p c l u m S d E.left k x E.within (sym E.upper ∙ omega arith))
      ∙ exits-dead s k x _ _) ∙ E.leads

  pub exit-within : (up k x : ℕ) (o₀ : Out) → Exiting N s p c m up k x l u o₀ → up ≤ c
  exit-within up k x o₀ E = omega (arith, E.within, E.upper, up-low p E.left)

  -- a frame that does not pass the exit on
  module _ (up k x : ℕ) (o₀ o : Out) (f : Frame) (E : Exiting N s p c m up k x l u o₀) (z : 0 < up)
      (ef : f ≡ frame_of p (up - 1)) (eo : o ≡ exits_of N f k x 0 0) where
    abbrev l' : ℕ
    l' = left_of (up - 1) m l

    abbrev u' : ℕ
    u' = left_of (up - 1) m u

    abbrev risen : Out
    risen = exits_of N (frame_of p (up - 1)) k x l' u'

    upper : up_of (frames_of p E.left) ≡ suc (up - 1)
    upper = sym E.upper ∙ omega arith

    turn : target_of s (rise_all N (frames_of p (up - 1)) risen) ≡ target_of s (rise_all N (frames_of p c) o₀)
    turn =
        ap (λ (y : Out). target_of s y) (sym (exit-up N p c l u m S d E.left (up - 1) k x E.within upper))
        ∙ E.leads

    alike : Alike l' u' risen o
    alike = rw (eo, ef) (alike-exits N (frame_of p (up - 1)) k x l' u' 0 (up-stops p E.left (up - 1) upper))

    turned : (g : Out) (r : ℕ) → risen ≡ g → r ≡ target_of s (rise_all N (frames_of p (up - 1)) g) →
        r ≡ target_of s (rise_all N (frames_of p c) o₀)
    turned g r q h = h ∙ ap (λ (y : Out). target_of s (rise_all N (frames_of p (up - 1)) y)) (sym q) ∙ turn

    pub exit-leads : {next b v : ℕ} (r : ℕ) → o ≡ Go next b v →
        r ≡ target_of s (rise_all N (frames_of p (up - 1)) (Go next l' u')) → r ≡ target_of s (rise_all N (frames_of p c) o₀)
    exit-leads {next} r q h = turned (Go next l' u') r (alike-go alike q) h

    pub exit-stops : (r : ℕ) → o ≡ Stuck → r ≡ s.n - 1 → r ≡ target_of s (rise_all N (frames_of p c) o₀)
    exit-stops r q h = turned Stuck r (alike-stuck alike q) (reach-stuck N s p (up - 1) Stuck r refl h)

    pub exit-says : {said : Move} {next : ℕ} → o ≡ Say said next → ⊥
    exit-says q = alike-say alike q

    pub exit-hears : {at q y c' : ℕ} → o ≡ Hear at q y c' → ⊥
    exit-hears q = alike-hear alike q

    pub exit-again : (up' : ℕ) {k' x' b v : ℕ} → o ≡ Exit k' x' b v → up' ≡ up_of (frames_of p (up - 1)) →
        Exiting N s p c m up' k' x' l u o₀
    exit-again up' {k'} {x'} q e = record {
      left = up - 1;
      within = omega (arith, exit-within up k x o₀ E);
      upper = e;
      leads = ap (λ (y : Out). target_of s (rise_all N (frames_of p (up - 1)) y)) (sym (alike-exit alike q)) ∙ turn;
    }

pub exit-less : (p : List ℕ) (up up' : ℕ) → 0 < up → up' ≡ up_of (frames_of p (up - 1)) → up' < up
exit-less p up up' z e = omega (arith, up-low p (up - 1))
