-- Shared rows: what the expansion of a sheet with procedures leaves, document 02 [1]. A row may be a part of several
-- rows; a private variable is known by the row of its new.
use Rattle.std.specs.Prelude.{ℕ, zero, suc, ◌+◌, ◌<◌, max, ◌≡◌, List, ◌∷◌}
use Rattle.std.proofs.Math.Option.{Option, none, some}
use Rattle.language.specs.Ty.{Ty}
use Rattle.language.specs.Term as t
use Rattle.language.specs.Term.{Term, Often, Args, Operation}
use Rattle.language.specs.Typing.{Scope}

-- parts by their rows; for arguments also the type
pub data Parts : Type 0 where
  no_part : Parts
  part : Ty → ℕ → Parts → Parts

pub data Row : Type 0 where
  skip diverge : Row
  const : ℕ → Row
  -- the row of its new
  private : ℕ → Row
  name : ℕ → Often → Ty → Parts → Row
  fetch : ℕ → Row
  operate : ℕ → Operation → ℕ → ℕ → Row
  assign : ℕ → ℕ → ℕ → Row
  seq while : ℕ → ℕ → Row
  cond : ℕ → ℕ → ℕ → Row
  new : ℕ → ℕ → Row

-- The row r represents a term on the path of the rows of the news around it, the innermost first. Q says something of
-- each new: the path around it and its row.
module _ (R : ℕ → Option Row) (Q : List ℕ → ℕ → Type 0) where
  mutual
    pub data Rep : List ℕ → ℕ → Term → Type 0 where
      rep_skip : {p : List ℕ} {r : ℕ} → R r ≡ some skip → Rep p r t.skip
      rep_diverge : {p : List ℕ} {r : ℕ} → R r ≡ some diverge → Rep p r t.diverge
      rep_const : {p : List ℕ} {r v : ℕ} → R r ≡ some (const v) → Rep p r (t.const v)
      rep_private : {p : List ℕ} {r i v : ℕ} → R r ≡ some (private v) → Scope p i v → Rep p r (t.private i)
      rep_name : {p : List ℕ} {r i : ℕ} {o : Often} {T : Ty} {xs : Parts} {args : Args} → R r ≡ some (name i o T xs) →
          Reps p xs args → Rep p r (t.name i o T args)
      rep_fetch : {p : List ℕ} {r a : ℕ} {X : Term} → R r ≡ some (fetch a) → Rep p a X → Rep p r (t.fetch X)
      rep_operate : {p : List ℕ} {r m a b : ℕ} {o : Operation} {L M : Term} → R r ≡ some (operate m o a b) → Rep p a L →
          Rep p b M → Rep p r (t.operate m o L M)
      rep_assign : {p : List ℕ} {r m a b : ℕ} {X E : Term} → R r ≡ some (assign m a b) → Rep p a X → Rep p b E →
          Rep p r (t.assign m X E)
      rep_seq : {p : List ℕ} {r a b : ℕ} {C M : Term} → R r ≡ some (seq a b) → Rep p a C → Rep p b M →
          Rep p r (t.seq C M)
      rep_while : {p : List ℕ} {r a b : ℕ} {B C : Term} → R r ≡ some (while a b) → Rep p a B → Rep p b C →
          Rep p r (t.while B C)
      rep_cond : {p : List ℕ} {r a b c : ℕ} {B M N : Term} → R r ≡ some (cond a b c) → Rep p a B → Rep p b M →
          Rep p c N → Rep p r (t.cond B M N)
      rep_new : {p : List ℕ} {r m a : ℕ} {h : 0 < m} {C : Term} → R r ≡ some (new m a) → Q p r → Rep (r ∷ p) a C →
          Rep p r (t.new m h C)

    pub data Reps : List ℕ → Parts → Args → Type 0 where
      rep_none : {p : List ℕ} → Reps p no_part t.no_args
      rep_part : {p : List ℕ} {T : Ty} {a : ℕ} {xs : Parts} {M : Term} {args : Args} → Rep p a M → Reps p xs args →
          Reps p (part T a xs) (t.arg T M args)

-- nothing is asked of a new; its row is not on the path yet
unfoldable pub Any : List ℕ → ℕ → Type 0
Any p r = Unit

unfoldable pub Fresh : List ℕ → ℕ → Type 0
Fresh p r = (i : ℕ) → Scope p i r → ⊥

-- the height of a row, looked at n levels deep
unfoldable pub height_parts : (ℕ → ℕ) → Parts → ℕ
height_parts f no_part = 0
height_parts f (part T a xs) = max (f a) (height_parts f xs)

unfoldable pub height_row : (ℕ → ℕ) → Option Row → ℕ
height_row f none = 0
height_row f (some skip) = 1
height_row f (some diverge) = 1
height_row f (some (const v)) = 1
height_row f (some (private v)) = 1
height_row f (some (name i o T xs)) = 1 + height_parts f xs
height_row f (some (fetch a)) = 1 + f a
height_row f (some (operate m o a b)) = 1 + max (f a) (f b)
height_row f (some (assign m a b)) = 1 + max (f a) (f b)
height_row f (some (seq a b)) = 1 + max (f a) (f b)
height_row f (some (while a b)) = 1 + max (f a) (f b)
height_row f (some (cond a b c)) = 1 + max (f a) (max (f b) (f c))
height_row f (some (new m a)) = 1 + f a

unfoldable pub height : (ℕ → Option Row) → ℕ → ℕ → ℕ
height R zero r = 0
height R (suc n) r = height_row (λ a. height R n a) (R r)
