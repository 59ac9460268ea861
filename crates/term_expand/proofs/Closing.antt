-- A row, made after the rows of its parts.
use Prim.Native.Nat.{ℕ, suc, ◌+◌, ◌≤◌, ◌<◌, min}
use native.Mathlib.Omega.{arith}
use mathlib.Core.Path.{◌≡◌, sym, ap, ◌∙◌}
use mathlib.Core.List.{List}
use lib.ListN.{length}
use Rattle.language.specs.declared.Numbers.{Numbers}
use Rattle.sheet_written.specs.Written.{Written, Writtens, none, more, Name}
use Rattle.sheet_written.specs.Context.{Context}
use Rattle.sheet_written.specs.Expand.{Slots, Expands}
use Rattle.sheet_written.specs.Shared.{Row}
use Rattle.sheet_rows.specs.PartKind.{KIND, CLASS, VALUES, DETAIL, WEIGHT}
use Rattle.sheet_rows.specs.Row.{word}
use Rattle.sheet_written.specs.Table.{PartRow, ShownArgs}
use Rattle.sheet_written.specs.Marks.{MarkedArgs}
use Rattle.term_closing.specs.Rows.{ROWS, decode, row_weight, TERM-WORDS}
use Rattle.term_expand.specs.Local.{Right, Local}
use Rattle.term_closing.specs.Close.{bit_of, more_of, first_bits, parts_of, weight_of, detail_of}
use Rattle.term_expand.specs.Contract.{Below, Between, Weighs, Given, Expanded, Pieces, Closed}
use Rattle.term_expand.proofs.Frames.{Words, below_again, between-again, within-less, weight-between, closed-length}
use Rattle.term_expand.proofs.Frames.{closed-below, closed-above, closed-words, words-between}
use Rattle.term_expand.proofs.Running.{Site, Passed, passed-more, rows_of, many, Good, Room, Ran, Run, Reach, run}
use Rattle.term_expand.proofs.Decoding.{bit-first, bit-later}

below_less : (n : ℕ) (A B : List ℕ) → Below (suc n) A B → Below n A B
unfolding Below
below_less n A B f i h = f i (omega arith)

-- how many rows parts make in all
unfoldable pub sum_made : Numbers → List Name → Context → Writtens → ℕ
sum_made N ns Γ none = 0
sum_made N ns Γ (more w ws) = rows_of N ns Γ w + sum_made N ns Γ ws

module _ (N : Numbers) (ns : List Name) (t marks slots : List ℕ) (Γ : Context) (ε : Slots) (π : ℕ → ℕ)
    (level left at wants : ℕ) {rows after : List ℕ} {n a b c d m : ℕ}
    (P : Pieces t marks slots level left at wants rows after n a b c d m) (S : Site N ns t marks slots Γ ε π at level)
  where
    -- all parts are wanted
    abbrev All : ℕ → Writtens → Type 0
    All j ws = (i : ℕ) → j ≤ i → i < j + many ws → bit_of wants i ≡ 1

    room-all : (ws : Writtens) (j k : ℕ) → All j ws → k + sum_made N ns Γ ws ≤ ROWS →
        Room N ns t marks slots Γ ε π level left at wants P S j ws k
    unfolding Room many sum_made
    room-all none j k f h = tt
    room-all (more w ws) j k f h = (
      λ e. (
        omega arith,
        room-all ws (suc j) (k + rows_of N ns Γ w) (λ i p q. f i (omega arith) (omega arith)) (omega
            arith),
      ),
      λ e. absurd (omega (arith, e, f j (omega arith) (omega arith))),
    )

    unfoldable pub Got : List ℕ → ℕ → Writtens → Type 0
    Got T j none = P.counts j ≡ m
    Got T j (more w ws) = Given N ns Γ ε w after T (P.counts j) (P.row j) (P.counts (suc j)) × Got T (suc j) ws

    got-all : (T : List ℕ) (ws : Writtens) (j : ℕ) → All j ws →
        Ran N ns t marks slots Γ ε π level left at wants P S T j ws → Got T j ws
    unfolding Ran Got many
    got-all T none j f r = r
    got-all T (more w ws) j f r =
        (r.0 (f j (omega arith) (omega arith)), got-all T ws (suc j) (λ i p q. f i (omega arith) (omega arith)) r.2)

-- the row n of the part W, and what it is made of
pub record Built (N : Numbers) (ns : List Name) (T : List ℕ) (Γ : Context) (ε : Slots) (W : Written) (n m : ℕ) : Type
    0 where
  pub expands : Expands N ns (decode N ns T) Γ ε W n n m
  pub local : Local N ns T expands

module _ (N : Numbers) (ns : List Name) (t marks slots : List ℕ) (Γ : Context) (ε : Slots) (π : ℕ → ℕ)
    (level left at : ℕ) {rows after : List ℕ} {n m : ℕ} (C : Closed t marks slots level left at rows after n m)
    (S : Site N ns t marks slots Γ ε π at level) where
  abbrev wanted : ℕ
  wanted = parts_of (word t at KIND) (word t at DETAIL)

  -- the words of its row
  abbrev pub Wrote : List ℕ → Type 0
  Wrote T =
      Words T n (word t at KIND) (min (weight_of t C.between at C.a C.b C.c C.d) 4097) (word t at CLASS)
      (word t at VALUES) (detail_of t slots at) C.a C.b C.c C.d

  -- the results of its parts
  abbrev pub Parts : List ℕ → Writtens → Type 0
  Parts T ws = Got N ns t marks slots Γ ε π level left at wanted C.pieces S T 0 ws

  pub starts : n < ROWS → C.pieces.counts 0 ≡ suc n
  unfolding more_of
  starts h = omega (arith, C.pieces.first.1, h)

  pub close : (Δ : Context) (δ : Slots) (W : Written) (ws : Writtens) (tys : List ℕ) (from end : ℕ) → many ws ≤ 4 →
      wanted ≡ first_bits (many ws) → ShownArgs N ns t Γ π at 0 from end ws tys → MarkedArgs N ns t marks Γ at 0 ws →
      Good N ns t marks slots Γ ε π level left at wanted C.pieces S ws → suc n + sum_made N ns Γ ws ≤ ROWS → at <
      from →
      Reach N ns t marks slots Γ ε π level left at wanted C.pieces S end → Passed Γ ε n →
      ((T : List ℕ) → Weighs Δ δ rows T → Weighs Γ ε rows T) → length rows ≡ TERM-WORDS →
      ((T : List ℕ) → Wrote T → Parts T ws → Built N ns T Δ δ W n m) → Expanded N ns Δ δ W rows after n n m
  close Δ δ W ws tys from end l e x k g r h u p q s f =
      let P = C.pieces in
      let z : P.counts 0 ≡ suc n = starts (omega arith) in
      let all : All N ns t marks slots Γ ε π level left at wanted P S 0 ws =
      λ i a b. rw e (bit-first (many ws) i (omega arith) l) in
      let rest : (i : ℕ) → 0 + many ws ≤ i → i < 4 → bit_of wanted i ≡ 0 =
      λ i a b. rw e (bit-later (many ws) i (omega arith) b) in
      let room = room-all N ns t marks slots Γ ε π level left at wanted P S ws 0 (P.counts 0) all (omega (
        arith,
        z,
        r,
      )) in
      let o : Run N ns t marks slots Γ ε π level left at wanted P S 0 ws =
      run N ns t marks slots Γ ε π level left at wanted P S ws tys 0 from end (omega arith) rest x k g room h u
      (passed-more Γ ε n (P.counts 0) (omega (arith, z)) p) (rw P.first.0 s) in
      let kept : Below (suc n) rows C.between = rw (z, P.first.0) at o.kept in
      let grown : suc n ≤ m = omega (arith, z, o.grown) in
      let words : Wrote after =
      rw C.row (closed-words t slots C.between at n C.a C.b C.c C.d (omega arith) o.sized) in
      let below : Below n C.between after =
      rw C.row (closed-below t slots C.between at n C.a C.b C.c C.d) in
      let above : Between (suc n) m C.between after =
      rw C.row (closed-above t slots C.between at n C.a C.b C.c C.d m) in
      record {
        kept = below_again n n rows C.between after (omega arith) (below_less n rows C.between kept) below;
        sized = rw C.row (closed-length t slots C.between at n C.a C.b C.c C.d o.sized);
        within = within-less m n (omega arith);
        given = λ T v w.
            let w' : Weighs Γ ε (P.tables 0) T = rw P.first.0 (q T w) in
            let v' : Between (P.counts 0) m C.between T =
            rw z (between-again (suc n) m n m C.between after T (omega arith) (omega arith) above v) in
            let y = f T (words-between after T n m _ _ _ _ _ _ _ _ _ (omega arith) v words)
            (got-all N ns t marks slots Γ ε π level left at wanted P S T ws 0 all (o.given T v' w')) in
            record {
              expands = y.expands;
              local = y.local;
              weighs = weight-between n m n after T (omega arith) (omega arith) v;
            };
      }

  -- the results of no, one, two and three parts
  pub leaf-count : (T : List ℕ) → n < ROWS → Parts T none → m ≡ suc n
  unfolding Got
  leaf-count T h g = sym g ∙ starts h

  pub one-part : (T : List ℕ) (x : Written) → n < ROWS → Parts T (more x none) →
      Given N ns Γ ε x C.between T (suc n) C.a m
  unfolding Got
  one-part T x h g = rw (starts h, C.pieces.parts.0, g.1) at g.0

  pub two-parts : (T : List ℕ) (x y : Written) → n < ROWS → Parts T (more x (more y none)) →
      (i : ℕ) × Given N ns Γ ε x C.between T (suc n) C.a i × Given N ns Γ ε y C.between T i C.b m
  unfolding Got
  two-parts T x y h g =
      (C.pieces.counts 1, rw (starts h, C.pieces.parts.0) at g.0, rw (C.pieces.parts.1, g.1.1) at g.1.0)

  pub three-parts : (T : List ℕ) (x y z : Written) → n < ROWS → Parts T (more x (more y (more z none))) →
      (i : ℕ) × (j : ℕ) × Given N ns Γ ε x C.between T (suc n) C.a i × Given N ns Γ ε y C.between T i C.b j
      × Given N ns Γ ε z C.between T j C.c m
  unfolding Got
  three-parts T x y z h g = (
    C.pieces.counts 1,
    C.pieces.counts 2,
    rw (starts h, C.pieces.parts.0) at g.0,
    rw C.pieces.parts.1 at g.1.0,
    rw (C.pieces.parts.2, g.1.1.1) at g.1.1.0,
  )

  -- the row is right
  pub right : (Δ : Context) (W : Written) (end kind : ℕ) (T : List ℕ) (x : Row) → PartRow N ns t Δ kind W at end →
      Wrote T →
      weight_of t C.between at C.a C.b C.c C.d ≡ row_weight (λ r. word T r WEIGHT) x → Right N ns T Δ W n x
  right Δ W end kind T x p w e = record {
    classed = w.classed ∙ p.classed;
    valued = w.valued ∙ p.valued;
    weighed = w.weighed ∙ ap (λ (z : ℕ). min z 4097) e;
  }
