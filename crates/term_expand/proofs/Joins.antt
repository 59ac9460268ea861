-- What the functions of the cycle say, from what those say that they call, over plain variables.
use Prim.Native.Nat.{ℕ, zero, suc, ◌+◌, ◌/◌, ◌%◌, ◌<◌}
use native.Mathlib.Omega.{arith}
use mathlib.Core.Path.{◌≡◌, refl, sym, ◌∙◌}
use mathlib.Core.Bool.{Bool, true, false, false≢true}
use mathlib.Core.List.{List}
use Rattle.sheet_rows.specs.PartKind.{PROCEDURE, ROUTINE, NEW, KIND, DETAIL, PARTS}
use Rattle.sheet_rows.specs.Row.{word}
use Rattle.term_closing.specs.Rows.{ROWS}
use Rattle.term_closing.specs.Close.{stays_of, bit_of, more_of, parts_of, closed_row}
use Rattle.term_expand.specs.Contract.{Expanding, Piece, Pieces, Closed, Used, Recorded, ByKind}

-- one of five by its number
by-five {ℓ} : {X : Type ℓ} → X → X → X → X → X → ℕ → X
by-five a b c d e zero = a
by-five a b c d e (suc zero) = b
by-five a b c d e (suc (suc zero)) = c
by-five a b c d e (suc (suc (suc zero))) = d
by-five a b c d e (suc (suc (suc (suc n)))) = e

module _ (t marks slots : List ℕ) where
  -- one part
  pub piece-none : (level left at wants j : ℕ) (rows : List ℕ) (n : ℕ) → wants ≡ 0 →
      Piece t marks slots level left at wants j rows rows n ROWS n
  piece-none level left at wants j rows n e = record {
    wanted = λ h. absurd (omega arith);
    unwanted = λ h. (refl, refl, refl);
  }

  pub piece-some : (level left at wants j : ℕ) (rows after : List ℕ) (n r m p : ℕ) → (wants ≡ 0 → ⊥) →
      p ≡ word t at (PARTS + j) → Expanding t marks slots level left p rows after n r m →
      Piece t marks slots level left at wants j rows after n r m
  piece-some level left at wants j rows after n r m p h e x = record {
    wanted = λ g. rw e at x;
    unwanted = λ g. absurd (h g);
  }

  -- all four
  pub pieces-four : (level left at w : ℕ) (r₀ r₁ r₂ r₃ r₄ : List ℕ) (n a b c d n₁ n₂ n₃ m : ℕ) →
      Piece t marks slots level left at (w % 2) 0 r₀ r₁ n a n₁ →
      Piece t marks slots level left at (w / 2 % 2) 1 r₁ r₂ n₁ b n₂ →
      Piece t marks slots level left at (w / 2 / 2 % 2) 2 r₂ r₃ n₂ c n₃ →
      Piece t marks slots level left at (w / 2 / 2 / 2 % 2) 3 r₃ r₄ n₃ d m →
      Pieces t marks slots level left at w r₀ r₄ n a b c d m
  unfolding bit_of by-five
  pieces-four level left at w r₀ r₁ r₂ r₃ r₄ n a b c d n₁ n₂ n₃ m p q s u = record {
    tables = by-five r₀ r₁ r₂ r₃ r₄;
    counts = by-five n n₁ n₂ n₃ m;
    row = by-five a b c d 0;
    piece = go;
    first = (refl, refl);
    last = (refl, refl);
    parts = (refl, refl, refl, refl);
  }
    where
      go : (j : ℕ) → j < 4 →
          Piece t marks slots level left at (bit_of w j) j (by-five r₀ r₁ r₂ r₃ r₄ j) (by-five r₀ r₁ r₂ r₃ r₄ (suc j))
          (by-five n n₁ n₂ n₃ m j) (by-five a b c d 0 j) (by-five n n₁ n₂ n₃ m (suc j))
      go zero h = p
      go (suc zero) h = q
      go (suc (suc zero)) h = s
      go (suc (suc (suc zero))) h = u
      go (suc (suc (suc (suc j)))) h = absurd (omega arith)

  -- the first two
  pub pieces-two : (level left at w : ℕ) (r₀ r₁ r₂ : List ℕ) (n a b n₁ m : ℕ) → w / 2 / 2 ≡ 0 →
      Piece t marks slots level left at (w % 2) 0 r₀ r₁ n a n₁ →
      Piece t marks slots level left at (w / 2 % 2) 1 r₁ r₂ n₁ b m →
      Pieces t marks slots level left at w r₀ r₂ n a b ROWS ROWS m
  pieces-two level left at w r₀ r₁ r₂ n a b n₁ m z p q =
      pieces-four level left at w r₀ r₁ r₂ r₂ r₂ n a b ROWS ROWS n₁ m m m p q
      (piece-none level left at (w / 2 / 2 % 2) 2 r₂ m (omega arith))
      (piece-none level left at (w / 2 / 2 / 2 % 2) 3 r₂ m (omega arith))

  -- a row
  pub row_made : (level left at : ℕ) (rows between after : List ℕ) (n a b c d m kind detail w n₁ : ℕ) →
      kind ≡ word t at KIND → detail ≡ word t at DETAIL → w ≡ parts_of kind detail → n₁ ≡ more_of n 1 →
      Pieces t marks slots level left at w rows between n₁ a b c d m → after ≡ closed_row t slots between at n a b c d →
      Closed t marks slots level left at rows after n m
  row_made level left at rows between after n a b c d m kind detail w n₁ k e f g p x =
      let h : Pieces t marks slots level left at (parts_of (word t at KIND) (word t at DETAIL)) rows between (more_of n 1)
      a b c d m = rw (f, g, k, e) at p in
      record { between = between; a = a; b = b; c = c; d = d; pieces = h; row = x }

  -- a row without parts
  pub leaf-made : (level left at : ℕ) (rows after : List ℕ) (n m kind detail w : ℕ) → kind ≡ word t at KIND →
      detail ≡ word t at DETAIL → w ≡ parts_of kind detail → w ≡ 0 → m ≡ more_of n 1 →
      after ≡ closed_row t slots rows at n ROWS ROWS ROWS ROWS → Closed t marks slots level left at rows after n m
  leaf-made level left at rows after n m kind detail w k e f z g x =
      row_made level left at rows rows after n ROWS ROWS ROWS ROWS m kind detail w m k e f g
      (pieces-four level left at w rows rows rows rows rows m ROWS ROWS ROWS ROWS m m m m
      (piece-none level left at (w % 2) 0 rows m (omega arith))
      (piece-none level left at (w / 2 % 2) 1 rows m (omega arith))
      (piece-none level left at (w / 2 / 2 % 2) 2 rows m (omega arith))
      (piece-none level left at (w / 2 / 2 / 2 % 2) 3 rows m (omega arith))) x

-- of which kinds the slots stay
stays-not : (kind : ℕ) → stays_of kind ≡ true →
    (kind ≡ PROCEDURE → ⊥) × (kind ≡ ROUTINE → ⊥) × (kind ≡ NEW → ⊥)
unfolding stays_of
stays-not kind h = (
  (λ e. let g : false ≡ true = rw e at h in false≢true g),
  (λ e. let g : false ≡ true = rw e at h in false≢true g),
  (λ e. let g : false ≡ true = rw e at h in false≢true g),
)

-- any other record
module _ (t marks slots : List ℕ) (level left at : ℕ) (rows after : List ℕ) (n r m kind : ℕ)
    (k : kind ≡ word t at KIND) where
  pub record-plain : (kind ≡ NEW → ⊥) → r ≡ n → Closed t marks slots level left at rows after n m →
      Recorded t marks slots level left at rows after n r m
  record-plain g i x = record { block = λ h. absurd (g (k ∙ h)); plain = λ h. (i, x) }

  -- by the kind
  pub kind-scope : (p l : ℕ) → kind ≡ PROCEDURE → p ≡ word t at (PARTS + 1) → l ≡ more_of level 1 →
      Expanding t marks slots l left p rows after n r m → ByKind t marks slots level left at rows after n r m
  kind-scope p l e f g x =
      let x' : Expanding t marks slots (more_of level 1) left (word t at (PARTS + 1)) rows after n r m = rw (f, g) at
      x in
      record {
        scope = λ h. x';
        routine = λ h. absurd (omega (arith, k, e, h));
        recorded = λ h i. absurd (h (sym k ∙ e));
      }

  pub kind-use : (kind ≡ ROUTINE) → Used t marks slots level left at rows after n r m →
      ByKind t marks slots level left at rows after n r m
  kind-use e x = record {
    scope = λ h. absurd (omega (arith, k, e, h));
    routine = λ h. x;
    recorded = λ h i. absurd (i (sym k ∙ e));
  }

  pub kind-record : (kind ≡ PROCEDURE → ⊥) → (kind ≡ ROUTINE → ⊥) →
      Recorded t marks slots level left at rows after n r m → ByKind t marks slots level left at rows after n r m
  kind-record e f x = record {
    scope = λ h. absurd (e (k ∙ h));
    routine = λ h. absurd (f (k ∙ h));
    recorded = λ h i. x;
  }

  pub kind-stays : {b : Bool} → b ≡ stays_of kind → b ≡ true → r ≡ n →
      Closed t marks slots level left at rows after n m → ByKind t marks slots level left at rows after n r m
  kind-stays e f i x =
      let g = stays-not kind (sym e ∙ f) in
      kind-record g.0 g.1 (record-plain g.2 i x)
