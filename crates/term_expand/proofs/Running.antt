-- The parts of a part, expanded one after the other.
use Prim.Native.Nat.{ℕ, zero, suc, ◌+◌, ◌*◌, ◌-◌, ◌≤◌, ◌<◌}
use native.Mathlib.Omega.{arith}
use native.Mathlib.Nat.{zero-mul, one-mul}
use mathlib.Core.Path.{◌≡◌, refl, sym, ◌∙◌}
use mathlib.Core.Logic.{◌⊎◌, inl, inr}
use mathlib.Core.List.{List}
use lib.ListN.{length}
use Rattle.language.specs.declared.Numbers.{Numbers}
use Rattle.sheet_written.specs.Written.{Written, Writtens, none, more, Name}
use Rattle.sheet_written.specs.Fine.{Fine}
use Rattle.sheet_written.specs.Made.{made}
use Rattle.sheet_written.specs.Occurs.{IsParameter}
use Rattle.sheet_written.specs.Context.{Context, binders, forms, makes}
use Rattle.sheet_written.specs.Expand.{Slots}
use Rattle.sheet_rows.specs.PartKind.{PARTS}
use Rattle.sheet_rows.specs.Row.{word}
use Rattle.sheet_written.specs.Table.{Shown, ShownArgs, shown_none, shown_more, Known, Few, FewIn}
use Rattle.sheet_written.specs.Marks.{Marked, MarkedArgs, MarkedIn}
use lib.Dec.{ltb}
use borrow.Author.Tests.{ltb-true, ltb-false}
use Rattle.sheet_written.proofs.Tests.{by-test}
use Rattle.sheet_written.proofs.Making.{expands-made}
use Rattle.term_closing.specs.Rows.{ROWS, decode, TERM-WORDS}
use Rattle.term_closing.specs.Close.{bit_of}
use Rattle.term_expand.specs.Contract.{FineIn, Shows, Within, Below, Between, Weighs, turns, Given, Expanded, Pieces}
use Rattle.term_expand.proofs.Places.{shown-before, known-later}
use Rattle.term_expand.proofs.Frames.{bit-cases, below-refl, below_again, between-refl, between-below, between-again}
use Rattle.term_expand.proofs.Frames.{within_more, within_none, weight-stays}

-- what is around a part
pub record Site (N : Numbers) (ns : List Name) (t marks slots : List ℕ) (Γ : Context) (ε : Slots) (π : ℕ → ℕ)
    (at level : ℕ) : Type 0 where
  pub known : Known N ns t Γ π at
  pub marked_in : MarkedIn N ns t marks Γ π
  pub fine_in : FineIn N ns Γ
  pub few-in : FewIn Γ
  pub shows : Shows slots ε (binders Γ)
  pub long : length slots ≡ 128
  pub numbered : level ≡ length (binders Γ)

-- the rows of arguments are made
abbrev pub Passed : Context → Slots → ℕ → Type 0
Passed Γ ε n = (s : ℕ) → IsParameter (binders Γ) s → Within n (ε.passed s)

pub passed-more : (Γ : Context) (ε : Slots) (n m : ℕ) → n ≤ m → Passed Γ ε n → Passed Γ ε m
passed-more Γ ε n m l f s p = within_more n m (ε.passed s) l (f s p)

-- and weigh the same where their rows stay
weighs-stay : (Γ : Context) (ε : Slots) (n : ℕ) (A B : List ℕ) → Passed Γ ε n → Below n A B → length A ≡ TERM-WORDS →
    length B ≡ TERM-WORDS → Weighs Γ ε A B
unfolding Weighs
weighs-stay Γ ε n A B f g p q = (q, λ s i. weight-stays n (ε.passed s) A B (f s i) g p q)

pub weighs-again : (Γ : Context) (ε : Slots) (n : ℕ) (A B T : List ℕ) → Passed Γ ε n → Below n A B → length A ≡ TERM-WORDS →
    length B ≡ TERM-WORDS → Weighs Γ ε A T → Weighs Γ ε B T
unfolding Weighs
weighs-again Γ ε n A B T f g p q h = (h.0, λ s i. h.1 s i ∙ sym (weight-stays n (ε.passed s) A B (f s i) g p q))

module _ (N : Numbers) (ns : List Name) where
  abbrev pub rows_of : Context → Written → ℕ
  rows_of Γ W = made N ns (binders Γ) (forms N ns Γ) (makes N ns Γ) W

  -- how many rows are made then
  pub expanded-count : (Γ : Context) (ε : Slots) (W : Written) (rows after : List ℕ) (n r m : ℕ) → Passed Γ ε n →
      length rows ≡ TERM-WORDS → Expanded N ns Γ ε W rows after n r m → m ≡ n + rows_of Γ W
  expanded-count Γ ε W rows after n r m f s x =
      expands-made N ns (decode N ns after)
      (x.given after (between-refl n m after) (weighs-stay Γ ε n rows after f x.kept s x.sized)).expands

-- the first of these, and the others
within_first : (j k m : ℕ) (row : ℕ → ℕ) → Within m (row j) →
    ((i : ℕ) → suc j ≤ i → i < j + suc k → Within m (row i)) → (i : ℕ) → j ≤ i → i < j + suc k → Within m (row i)
within_first j k m row x f i a b =
    by-test (ltb j i)
    (λ e. f i (ltb-true j i e) b)
    (λ e.
    let z : i ≡ j = omega (arith, ltb-false j i e) in
    rw z x)

-- arguments end after they begin
args_end : {N : Numbers} {ns : List Name} {t : List ℕ} {Γ : Context} {π : ℕ → ℕ} {at j from end : ℕ} {ws : Writtens}
    {tys : List ℕ} → ShownArgs N ns t Γ π at j from end ws tys → from ≤ end
args_end shown_none = omega arith
args_end {N = N} {ns = ns} {t = t} (shown_more e x y) = omega (arith, shown-before N ns t x, args_end y)

unfoldable pub many : Writtens → ℕ
many none = 0
many (more w ws) = suc (many ws)

module _ (N : Numbers) (ns : List Name) (t marks slots : List ℕ) (Γ : Context) (ε : Slots) (π : ℕ → ℕ)
    (level left at wants : ℕ) {rows after : List ℕ} {n a b c d m : ℕ}
    (P : Pieces t marks slots level left at wants rows after n a b c d m) (S : Site N ns t marks slots Γ ε π at level)
  where
    -- the parts are in order, with few binders
    unfoldable pub Good : Writtens → Type 0
    Good none = Unit
    Good (more w ws) = Fine N ns (binders Γ) w × Few Γ w × Good ws

    -- there is room for the rows of those that are wanted, from part j on, where k rows are made
    unfoldable pub Room : ℕ → Writtens → ℕ → Type 0
    Room j none k = Unit
    Room j (more w ws) k =
        (bit_of wants j ≡ 1 → (k + rows_of N ns Γ w ≤ ROWS) × Room (suc j) ws (k + rows_of N ns Γ w))
        × (bit_of wants j ≡ 0 → Room (suc j) ws k)

    -- what the parts from j on give, where the rows are T in the end
    unfoldable pub Ran : List ℕ → ℕ → Writtens → Type 0
    Ran T j none = P.counts j ≡ m
    Ran T j (more w ws) =
        (bit_of wants j ≡ 1 → Given N ns Γ ε w after T (P.counts j) (P.row j) (P.counts (suc j)))
        × (bit_of wants j ≡ 0 → P.counts (suc j) ≡ P.counts j) × Ran T (suc j) ws

    -- how many rows those that are wanted make
    unfoldable pub wanted_made : ℕ → Writtens → ℕ
    wanted_made j none = 0
    wanted_made j (more w ws) = bit_of wants j * rows_of N ns Γ w + wanted_made (suc j) ws

    pub record Run (j : ℕ) (ws : Writtens) : Type 0 where
      pub counted : m ≡ P.counts j + wanted_made j ws
      pub kept : Below (P.counts j) (P.tables j) after
      pub sized : length after ≡ TERM-WORDS
      pub grown : P.counts j ≤ m
      pub within : (i : ℕ) → j ≤ i → i < j + many ws → Within m (P.row i)
      pub given : (T : List ℕ) → Between (P.counts j) m after T → Weighs Γ ε (P.tables j) T → Ran T j ws

    pub room-wanted : (ws : Writtens) (j k : ℕ) → k + wanted_made j ws ≤ ROWS → Room j ws k
    unfolding Room wanted_made
    room-wanted none j k h = tt
    room-wanted (more w ws) j k h = (
      λ e.
          let z : bit_of wants j * rows_of N ns Γ w ≡ rows_of N ns Γ w = rw e (one-mul (rows_of N ns Γ w)) in
          (omega (arith, z), room-wanted ws (suc j) (k + rows_of N ns Γ w) (omega (arith, z))),
      λ e. room-wanted ws (suc j) k (omega arith),
    )

    -- parts that are not wanted change nothing
    idle : (j k : ℕ) → j + k ≡ 4 → ((i : ℕ) → j ≤ i → i < 4 → bit_of wants i ≡ 0) →
        (P.tables 4 ≡ P.tables j) × (P.counts 4 ≡ P.counts j)
    idle j zero e f =
        let z : j ≡ 4 = omega arith in
        rw z (refl, refl)
    idle j (suc k) e f =
        let x = (P.piece j (omega arith)).unwanted (f j (omega arith) (omega arith)) in
        let y = idle (suc j) k (omega arith) (λ i p q. f i (omega arith) q) in
        (y.0 ∙ x.2, y.1 ∙ x.1)

    -- one part
    one : (j : ℕ) (w : Written) (end : ℕ) → j < 4 → bit_of wants j ≡ 1 →
        Shown N ns t Γ π (word t at (PARTS + j)) end w → Marked N ns t marks Γ (word t at (PARTS + j)) w →
        Fine N ns (binders Γ) w → Few Γ w → at ≤ word t at (PARTS + j) → turns (word t at (PARTS + j)) end ≤ left →
        P.counts j + rows_of N ns Γ w ≤ ROWS → Passed Γ ε (P.counts j) → length (P.tables j) ≡ TERM-WORDS →
        Known N ns t Γ π (word t at (PARTS + j)) →
        Expanded N ns Γ ε w (P.tables j) (P.tables (suc j)) (P.counts j) (P.row j) (P.counts (suc j))
    one j w end h e x k f g l u r p s o =
        ((P.piece j h).wanted e).of N ns Γ ε π w end (record {
          shown = x;
          known = o;
          marked = k;
          marked_in = S.marked_in;
          fine = f;
          fine_in = S.fine_in;
          few = g;
          few-in = S.few-in;
          shows = S.shows;
          long = S.long;
          passed = p;
          numbered = S.numbered;
          enough = u;
          room = r;
          sized = s;
        })

    -- a part begins after the part that it is of, and there are turns for it
    abbrev pub Reach : ℕ → Type 0
    Reach end = (x y : ℕ) → at < x → x < y → y ≤ end → turns x y ≤ left

    -- a part, and those after it
    run_more : (w : Written) (ws : Writtens) (j end : ℕ) → j < 4 → Marked N ns t marks Γ (word t at (PARTS + j)) w →
        Fine N ns (binders Γ) w → Few Γ w → Room j (more w ws) (P.counts j) → Passed Γ ε (P.counts j) →
        length (P.tables j) ≡ TERM-WORDS → Shown N ns t Γ π (word t at (PARTS + j)) end w → at < word t at (PARTS + j) →
        turns (word t at (PARTS + j)) end ≤ left →
        (Room (suc j) ws (P.counts (suc j)) → Passed Γ ε (P.counts (suc j)) → length (P.tables (suc j)) ≡ TERM-WORDS →
        Run (suc j) ws) →
        Run j (more w ws)
    unfolding many Room Ran wanted_made
    run_more w ws j y l k g₀ g₁ r p s shown later u rest = go (bit-cases wants j)
      where
        go : (bit_of wants j ≡ 0) ⊎ (bit_of wants j ≡ 1) → Run j (more w ws)
        go (inl o) =
            let v = (P.piece j l).unwanted o in
            let r' : Room (suc j) ws (P.counts (suc j)) = rw v.1 (r.1 o) in
            let p' : Passed Γ ε (P.counts (suc j)) = rw v.1 p in
            let s' : length (P.tables (suc j)) ≡ TERM-WORDS = rw v.2 s in
            let z = rest r' p' s' in
            record {
              counted = rw o (omega (arith, zero-mul (rows_of N ns Γ w), v.1, z.counted));
              kept = rw (v.1, v.2) at z.kept;
              sized = z.sized;
              grown = omega (arith, v.1, z.grown);
              within = within_first j (many ws) m P.row (rw v.0 (within_none m)) (λ i a b. z.within i a (omega
                  arith));
              given = λ T a b.
                  (λ q. absurd (omega arith), λ q. v.1, z.given T (rw v.1 a) (rw v.2 b));
            }
        go (inr o) =
            let q = one j w y l o shown k g₀ g₁ (omega arith) u (r.0 o).0 p s
            (known-later N ns t Γ π at (word t at (PARTS + j)) (omega arith) S.known) in
            let c = expanded-count N ns Γ ε w (P.tables j) (P.tables (suc j)) (P.counts j) (P.row j) (P.counts
            (suc j))
            p s q in
            let i≤ : P.counts j ≤ P.counts (suc j) = omega (arith, c) in
            let r' : Room (suc j) ws (P.counts (suc j)) = rw c (r.0 o).1 in
            let p' : Passed Γ ε (P.counts (suc j)) = passed-more Γ ε (P.counts j) (P.counts (suc j)) i≤ p in
            let z = rest r' p' q.sized in
            record {
              counted = rw o (omega (arith, one-mul (rows_of N ns Γ w), c, z.counted));
              kept = below_again (P.counts j) (P.counts (suc j)) (P.tables j) (P.tables (suc j)) after i≤ q.kept
                  z.kept;
              sized = z.sized;
              grown = omega (arith, i≤, z.grown);
              within = within_first j (many ws) m P.row
                  (within_more (P.counts (suc j)) m (P.row j) z.grown q.within)
                  (λ i a b. z.within i a (omega arith));
              given = λ T a b.
                  let x' = q.given T
                  (between-again (P.counts j) (P.counts (suc j)) (P.counts j) m (P.tables (suc j)) after T (omega
                  arith)
                  z.grown (between-below (P.counts j) (P.counts (suc j)) (P.counts (suc j)) (P.tables (suc j))
                  after (omega arith) z.kept) a) b in (
                    λ o'. record {
                      expands = x'.expands;
                      local = x'.local;
                      weighs = x'.weighs ∙ sym (weight-stays (P.counts (suc j)) (P.row j) (P.tables (suc j)) after
                          q.within z.kept q.sized z.sized);
                    },
                    λ o'. absurd (omega arith),
                    z.given T
                        (between-again (P.counts (suc j)) m (P.counts j) m after after T i≤ (omega arith)
                        (between-refl (P.counts (suc j)) m after) a)
                        (weighs-again Γ ε (P.counts j) (P.tables j) (P.tables (suc j)) T p q.kept s q.sized b),
                  );
            }

    -- all parts from j on
    pub run : (ws : Writtens) (tys : List ℕ) (j from end : ℕ) → j + many ws ≤ 4 →
        ((i : ℕ) → j + many ws ≤ i → i < 4 → bit_of wants i ≡ 0) → ShownArgs N ns t Γ π at j from end ws tys →
        MarkedArgs N ns t marks Γ at j ws → Good ws → Room j ws (P.counts j) → at < from → Reach end →
        Passed Γ ε (P.counts j) → length (P.tables j) ≡ TERM-WORDS → Run j ws
    unfolding many MarkedArgs Good Room Ran wanted_made
    run none tys j from end l f shown_none k g r h u p s =
        let z : j + 0 ≡ j = omega arith in
        let y = idle j (4 - j) (omega arith) (λ i q o. f i (omega arith) o) in
        let e : after ≡ P.tables j = sym P.last.0 ∙ y.0 in
        let q : m ≡ P.counts j = sym P.last.1 ∙ y.1 in
        record {
          counted = omega (arith, q);
          kept = rw e (below-refl (P.counts j) (P.tables j));
          sized = e-length e;
          grown =
              omega arith;
          within = λ i v w. absurd (omega arith);
          given = λ T v w. sym q;
        }
      where
        e-length : after ≡ P.tables j → length after ≡ TERM-WORDS
        e-length e = rw e s
    run (more w ws) tys j from end l f (shown_more {b = y} {tys = others} e x xs) k g r h u p s =
        let later : at < word t at (PARTS + j) = rw e h in
        let shown : Shown N ns t Γ π (word t at (PARTS + j)) y w = rw e x in
        run_more w ws j y (omega arith) k.0 g.0 g.1 r p s shown later
        (u (word t at (PARTS + j)) y later (shown-before N ns t shown) (args_end xs))
        (λ r' p' s'. run ws others (suc j) y end (omega arith) (λ i q o. f i (omega arith) o) xs k.1 g.2 r'
        (omega (arith, h, shown-before N ns t x)) u p' s')
