-- The block of a private variable among the levels: it is found from block to block, and a write moves to its copy.
use mathlib.Core.Path.{◌≡◌, refl, sym, ◌∙◌, ap, subst}
use mathlib.Core.List.{List, [], ◌∷◌}
use Prim.Native.Nat.{ℕ, zero, suc, ◌+◌, ◌-◌, ◌≤◌, ◌<◌}
use native.Mathlib.Omega.{arith}
use native.Mathlib.Decide.{ℕ_discrete}
use lib.ListN.{length}
use borrow.Author.Tests.{eq-eqb, ne_eqb}
use Rattle.language.specs.declared.Numbers.{Numbers}
use Rattle.states_positions.specs.declared.Frame.{Frame}
use Rattle.states_positions.specs.declared.Out.{Out}
use Rattle.states_positions.specs.declared.Out.TheVariants.{Go}
use Rattle.states_positions.specs.Row.{mul_add_of}
use Rattle.states_rise.specs.Up.{goes_of, rise_of}
use Rattle.states_path.specs.Path.{rise_all, base_of, store_of, innermost_of, block_in}
use Rattle.states_path.specs.Levels.{frame_of, frames_of}
use Rattle.states_path.proofs.PathWords.{frames-length}
use Rattle.states_path.proofs.PathValues.{value_none, value-passed, value-other, value-own}
use Rattle.states_path.proofs.PathLead.{goes}

-- the frames with one more: the block of the level, or not
data Topmost (f : Frame) (fs : List Frame) (l : ℕ) : Type 0 where
  own : f.role ≡ 7 → l ≡ f.a → block_in (f ∷ fs) l ≡ suc (length fs) → Topmost f fs l
  other : (f.role ≡ 7 → f.a ≡ l → ⊥) → block_in (f ∷ fs) l ≡ block_in fs l → Topmost f fs l

topmost : (f : Frame) (fs : List Frame) (l : ℕ) → Topmost f fs l
unfolding block_in
topmost f fs l = go (ℕ_discrete f.role 7) (ℕ_discrete l f.a)
  where
    go : Dec (f.role ≡ 7) → Dec (l ≡ f.a) → Topmost f fs l
    go (yes a) (yes b) = own a b (rw (eq-eqb f.role 7 a, eq-eqb l f.a b))
    go (yes a) (no b) = other (λ x y. b (sym y)) (rw (eq-eqb f.role 7 a, ne_eqb l f.a b))
    go (no a) b = other (λ x y. a x) (rw (ne_eqb f.role 7 a))

block-empty : (l i : ℕ) → block_in [] l ≡ suc i → ⊥
unfolding block_in
block-empty l i h = omega arith

-- the block that is found
pub block-found : (p : List ℕ) (c l i : ℕ) → block_in (frames_of p c) l ≡ suc i →
    (i < c) × ((frame_of p i).role ≡ 7) × ((frame_of p i).a ≡ l)
unfolding frames_of
block-found p zero l i e = absurd (block-empty l i e)
block-found p (suc c) l i e = go (topmost (frame_of p c) (frames_of p c) l) (block-found p c l i)
  where
    here : i ≡ c → (frame_of p c).role ≡ 7 → l ≡ (frame_of p c).a → (i < suc c) × ((frame_of p i).role ≡ 7) × ((frame_of p i).a
        ≡ l)
    here q a b = rw q (omega arith, a, sym b)

    go : Topmost (frame_of p c) (frames_of p c) l →
        (block_in (frames_of p c) l ≡ suc i → (i < c) × ((frame_of p i).role ≡ 7) × ((frame_of p i).a ≡ l)) →
        (i < suc c) × ((frame_of p i).role ≡ 7) × ((frame_of p i).a ≡ l)
    go (own a b h) rec = here (omega (arith, h, e, frames-length p c)) a b
    go (other n h) rec = let r = rec (sym h ∙ e) in (omega arith, r.1, r.2)

pub block-low : (p : List ℕ) (c l : ℕ) → block_in (frames_of p c) l ≤ c
block-low p c l = go (block_in (frames_of p c) l) refl
  where
    go : (m : ℕ) → block_in (frames_of p c) l ≡ m → block_in (frames_of p c) l ≤ c
    go zero e = omega arith
    go (suc i) e = omega (arith, (block-found p c l i e).0)

-- a write of a block's variable at the state `at`, counted from the whole's first, moves to the copy of the value
abbrev Moves : Numbers → List ℕ → ℕ → ℕ → ℕ → ℕ → List Frame → Type 0
Moves N p l u next i fs =
    (base_of (frames_of p (suc i)) ≤ base_of fs + next) × (rise_all N fs (Go next l u) ≡ rise_all N (frames_of p i)
    (Go (mul_add_of u (frame_of p i).b (base_of fs + next - base_of (frames_of p (suc i)))) 0 0))

goes-own : (f : Frame) (next l u : ℕ) → f.role ≡ 7 → l ≡ f.a → goes_of f next l u ≡ Go (mul_add_of u f.b next) 0 0
unfolding goes_of
goes-own f next l u a d = simp (eq-eqb f.role 7 a, eq-eqb l f.a d)

module _ (N : Numbers) (p : List ℕ) where
  moves-own : (c l u next : ℕ) → (frame_of p c).role ≡ 7 → l ≡ (frame_of p c).a →
      Moves N p l u next c (frame_of p c ∷ frames_of p c)
  unfolding rise_all rise_of frames_of
  moves-own c l u next a d =
      let z : base_of (frame_of p c ∷ frames_of p c) + next - base_of (frame_of p c ∷ frames_of p c) ≡ next = omega arith in (
        omega arith,
        ap (λ (o : Out). rise_all N (frames_of p c) o) (goes-own (frame_of p c) next l u a d) ∙ ap (λ (y : ℕ).
            rise_all N (frames_of p c) (Go (mul_add_of u (frame_of p c).b y) 0 0)) (sym z),
      )

  moves-other : (c l u next i : ℕ) → ((frame_of p c).role ≡ 7 → (frame_of p c).a ≡ l → ⊥) →
      base_of (frames_of p c) + ((frame_of p c).base + next) < 2147483648 →
      Moves N p l u ((frame_of p c).base + next) i (frames_of p c) → Moves N p l u next i (frame_of p c ∷ frames_of p c)
  unfolding rise_all rise_of base_of
  moves-other c l u next i n b r =
      let z : base_of (frames_of p c) + ((frame_of p c).base + next) ≡ base_of (frames_of p c) + (frame_of p c).base + next =
      omega arith in (
        omega (arith, r.0),
        ap (λ (o : Out). rise_all N (frames_of p c) o) (goes (frame_of p c) next l u n (omega arith))
            ∙ r.1 ∙ ap (λ (y : ℕ). rise_all N (frames_of p i)
            (Go (mul_add_of u (frame_of p i).b (y - base_of (frames_of p (suc i)))) 0 0)) z,
      )

  base-next : (c next : ℕ) → base_of (frame_of p c ∷ frames_of p c) + next < 2147483648 →
      base_of (frames_of p c) + ((frame_of p c).base + next) < 2147483648
  unfolding base_of
  base-next c next h = omega arith

  pub rise-block : (c l u next i : ℕ) → block_in (frames_of p c) l ≡ suc i →
      base_of (frames_of p c) + next < 2147483648 → Moves N p l u next i (frames_of p c)
  unfolding frames_of
  rise-block zero l u next i e b = absurd (block-empty l i e)
  rise-block (suc c) l u next i e b =
      go (topmost (frame_of p c) (frames_of p c) l) (λ h z. rise-block c l u ((frame_of p c).base + next) i h z)
    where
      go : Topmost (frame_of p c) (frames_of p c) l →
          (block_in (frames_of p c) l ≡ suc i → base_of (frames_of p c) + ((frame_of p c).base + next) < 2147483648 →
          Moves N p l u ((frame_of p c).base + next) i (frames_of p c)) →
          Moves N p l u next i (frame_of p c ∷ frames_of p c)
      go (own a d h) rec =
          subst (λ (y : ℕ). Moves N p l u next y (frame_of p c ∷ frames_of p c)) (omega (arith, h, e, frames-length p c))
          (moves-own c l u next a d)
      go (other n h) rec = moves-other c l u next i n (base-next c next b) (rec (sym h ∙ e) (base-next c next b))

-- a block of the row is at the level found or outside it
pub block-least : (p : List ℕ) (c l i : ℕ) → i < c → (frame_of p i).role ≡ 7 → (frame_of p i).a ≡ l →
    suc i ≤ block_in (frames_of p c) l
unfolding frames_of
block-least p zero l i b e a = absurd (omega arith)
block-least p (suc c) l i b e a =
    go (ℕ_discrete i c) (topmost (frame_of p c) (frames_of p c) l) (λ h. block-least p c l i h e a)
  where
    go : Dec (i ≡ c) → Topmost (frame_of p c) (frames_of p c) l → (i < c → suc i ≤ block_in (frames_of p c) l) →
        suc i ≤ block_in (frame_of p c ∷ frames_of p c) l
    go d (own x y h) rec = omega (arith, h, frames-length p c)
    go (yes q) (other x h) rec = absurd (x (ap (λ (y : ℕ). (frame_of p y).role) (sym q) ∙ e)
        (ap (λ (y : ℕ). (frame_of p y).a) (sym q) ∙ a))
    go (no q) (other x h) rec = omega (arith, h, rec (omega arith))

-- the block found is the same from every level that it encloses
pub block_same : (p : List ℕ) (c i l : ℕ) → i ≤ c → block_in (frames_of p c) l ≤ i →
    block_in (frames_of p i) l ≡ block_in (frames_of p c) l
block_same p c i l b h = go (block_in (frames_of p i) l) (block_in (frames_of p c) l) refl refl
  where
    go : (m n : ℕ) → block_in (frames_of p i) l ≡ m → block_in (frames_of p c) l ≡ n →
        block_in (frames_of p i) l ≡ block_in (frames_of p c) l
    go zero zero e d = e ∙ sym d
    go zero (suc j) e d =
        let f = block-found p c l j d in
        absurd (omega (arith, block-least p i l j (omega arith) f.1 f.2))
    go (suc k) n e d =
        let f = block-found p i l k e in
        let le = block-least p c l k (omega (arith, f.0)) f.1 f.2 in
        upper n d le
      where
        upper : (n : ℕ) → block_in (frames_of p c) l ≡ n → suc k ≤ block_in (frames_of p c) l →
            block_in (frames_of p i) l ≡ block_in (frames_of p c) l
        upper zero d le = absurd (omega arith)
        upper (suc j) d le =
            let g = block-found p c l j d in
            omega (arith, block-least p i l j (omega arith) g.1 g.2)

-- the innermost block: the frames inside it are no blocks'
innermost-own : (f : Frame) (fs : List Frame) → f.role ≡ 7 → innermost_of (f ∷ fs) ≡ suc (length fs)
unfolding innermost_of
innermost-own f fs e = rw (eq-eqb f.role 7 e)

innermost-other : (f : Frame) (fs : List Frame) → (f.role ≡ 7 → ⊥) → innermost_of (f ∷ fs) ≡ innermost_of fs
unfolding innermost_of
innermost-other f fs e = rw (ne_eqb f.role 7 e)

block-other : (f : Frame) (fs : List Frame) (l : ℕ) → (f.role ≡ 7 → ⊥) → block_in (f ∷ fs) l ≡ block_in fs l
unfolding block_in
block-other f fs l e = rw (ne_eqb f.role 7 e)

innermost-empty : innermost_of [] ≡ 0
unfolding innermost_of
innermost-empty = refl

-- the blocks of the rows are at the innermost block or outside it
pub record Innermost (p : List ℕ) (c l : ℕ) : Type 0 where
  pub low : innermost_of (frames_of p c) ≤ c
  pub same : block_in (frames_of p c) l ≡ block_in (frames_of p (innermost_of (frames_of p c))) l
  pub block : (i : ℕ) → innermost_of (frames_of p c) ≡ suc i → (frame_of p i).role ≡ 7

pub innermost-is : (p : List ℕ) (c l : ℕ) → Innermost p c l
unfolding frames_of
innermost-is p zero l = record {
  low = omega (arith, innermost-empty);
  same = rw innermost-empty;
  block = λ i e. absurd (omega (arith, innermost-empty));
}
innermost-is p (suc c) l = go (ℕ_discrete (frame_of p c).role 7) (innermost-is p c l)
  where
    go : Dec ((frame_of p c).role ≡ 7) → Innermost p c l → Innermost p (suc c) l
    go (yes e) I =
        let z : innermost_of (frame_of p c ∷ frames_of p c) ≡ suc c =
        innermost-own (frame_of p c) (frames_of p c) e ∙ ap suc (frames-length p c) in
        record {
          low = omega (arith, z);
          same = ap (λ (y : ℕ). block_in (frames_of p y) l) (sym z);
          block = λ i d. let q : i ≡ c = omega (arith, z) in rw q e;
        }
    go (no e) I =
        let z : innermost_of (frame_of p c ∷ frames_of p c) ≡ innermost_of (frames_of p c) =
        innermost-other (frame_of p c) (frames_of p c) e in
        record {
          low = omega (arith, z, I.low);
          same = block-other (frame_of p c) (frames_of p c) l e ∙ I.same
              ∙ ap (λ (y : ℕ). block_in (frames_of p y) l) (sym z);
          block = λ i d. I.block i (sym z ∙ d);
        }

-- a frame that is not the block of the row
passed : (p : List ℕ) (c l : ℕ) → ((frame_of p c).role ≡ 7 → (frame_of p c).a ≡ suc l → ⊥) →
    store_of (frame_of p c ∷ frames_of p c) l ≡ store_of (frames_of p c) l
passed p c l n = go (ℕ_discrete (frame_of p c).role 7)
  where
    go : Dec ((frame_of p c).role ≡ 7) → store_of (frame_of p c ∷ frames_of p c) l ≡ store_of (frames_of p c) l
    go (yes a) = value-other (frame_of p c) (frames_of p c) l a (n a)
    go (no a) = value-passed (frame_of p c) (frames_of p c) l a

-- the value of a private variable is that of the copy of its block
pub block-value : (p : List ℕ) (c l i : ℕ) → block_in (frames_of p c) (suc l) ≡ suc i →
    (frame_of p i).c ≡ store_of (frames_of p c) l
unfolding frames_of
block-value p zero l i e = absurd (block-empty (suc l) i e)
block-value p (suc c) l i e = go (topmost (frame_of p c) (frames_of p c) (suc l)) (block-value p c l i)
  where
    here : i ≡ c → (frame_of p c).role ≡ 7 → (frame_of p c).a ≡ suc l →
        (frame_of p i).c ≡ store_of (frame_of p c ∷ frames_of p c) l
    here q a h = rw q (value-own (frame_of p c) (frames_of p c) l a h)

    go : Topmost (frame_of p c) (frames_of p c) (suc l) →
        (block_in (frames_of p c) (suc l) ≡ suc i → (frame_of p i).c ≡ store_of (frames_of p c) l) →
        (frame_of p i).c ≡ store_of (frame_of p c ∷ frames_of p c) l
    go (own a d h) rec = here (omega (arith, h, e, frames-length p c)) a (sym d)
    go (other n h) rec = rec (sym h ∙ e) ∙ sym (passed p c l n)

pub block-unset : (p : List ℕ) (c l : ℕ) → 0 ≡ block_in (frames_of p c) (suc l) → 0 ≡ store_of (frames_of p c) l
unfolding frames_of
block-unset p zero l e = value_none l
block-unset p (suc c) l e = go (topmost (frame_of p c) (frames_of p c) (suc l)) (block-unset p c l)
  where
    go : Topmost (frame_of p c) (frames_of p c) (suc l) →
        (0 ≡ block_in (frames_of p c) (suc l) → 0 ≡ store_of (frames_of p c) l) →
        0 ≡ store_of (frame_of p c ∷ frames_of p c) l
    go (own a d h) rec = absurd (omega (arith, h, e))
    go (other n h) rec = rec (e ∙ h) ∙ sym (passed p c l n)
