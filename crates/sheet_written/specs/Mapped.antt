-- A sheet whose binders get other ids, each chosen clear of the ids that may be used where it reaches: what a
-- renumbering of document 02 [4] does, whichever ids it chooses.
use Rattle.std.specs.Prelude.{ℕ, ◌≡◌, Bool, true, List, [], ◌∷◌}
use Rattle.sheet_written.specs.Written.{Written, skip, diverge, truth, number, call, fetch, operate, assign}
use Rattle.sheet_written.specs.Written.{sequence, while, choose, new, procedure, Parameter, Writtens, none, more}
use Rattle.sheet_written.specs.Renumber.{put, map_inside}

-- no other id that may be used becomes b
unfoldable pub Clear : (ℕ → Bool) → (ℕ → ℕ) → ℕ → ℕ → Type 0
Clear seen f a b = (j : ℕ) → (j ≡ a → ⊥) → seen j ≡ true → f j ≡ b → ⊥

-- the parameters of a record, one after the other, and what may be used and becomes what inside
unfoldable pub Binds : (ℕ → Bool) → (ℕ → ℕ) → List Parameter → List Parameter → Type 0
Binds seen f [] [] = Unit
Binds seen f [] (q ∷ qs) = ⊥
Binds seen f (p ∷ ps) [] = ⊥
Binds seen f (p ∷ ps) (q ∷ qs) =
    (p.holds ≡ q.holds) × Clear seen f p.id q.id × Binds (put p.id true seen) (put p.id q.id f) ps qs

unfoldable pub seen_inside : (ℕ → Bool) → List Parameter → ℕ → Bool
seen_inside seen [] = seen
seen_inside seen (p ∷ ps) = seen_inside (put p.id true seen) ps

-- seen says which ids may be used, f what they become
mutual
  pub data Mapped : (ℕ → Bool) → (ℕ → ℕ) → Written → Written → Type 0 where
    to_skip : {s : ℕ → Bool} {f : ℕ → ℕ} → Mapped s f skip skip
    to_diverge : {s : ℕ → Bool} {f : ℕ → ℕ} {ty : ℕ} → Mapped s f (diverge ty) (diverge ty)
    to_truth : {s : ℕ → Bool} {f : ℕ → ℕ} {b : ℕ} → Mapped s f (truth b) (truth b)
    to_number : {s : ℕ → Bool} {f : ℕ → ℕ} {b : ℕ} → Mapped s f (number b) (number b)
    to_call : {s : ℕ → Bool} {f : ℕ → ℕ} {a b : ℕ} {ws ws' : Writtens} → s a ≡ true → b ≡ f a → Mappeds s f ws ws' →
        Mapped s f (call a ws) (call b ws')
    to_fetch : {s : ℕ → Bool} {f : ℕ → ℕ} {x x' : Written} → Mapped s f x x' → Mapped s f (fetch x) (fetch x')
    to_operate : {s : ℕ → Bool} {f : ℕ → ℕ} {op : ℕ} {x x' y y' : Written} → Mapped s f x x' → Mapped s f y y' →
        Mapped s f (operate op x y) (operate op x' y')
    to_assign : {s : ℕ → Bool} {f : ℕ → ℕ} {x x' y y' : Written} → Mapped s f x x' → Mapped s f y y' →
        Mapped s f (assign x y) (assign x' y')
    to_sequence : {s : ℕ → Bool} {f : ℕ → ℕ} {x x' y y' : Written} → Mapped s f x x' → Mapped s f y y' →
        Mapped s f (sequence x y) (sequence x' y')
    to_choose : {s : ℕ → Bool} {f : ℕ → ℕ} {c c' x x' y y' : Written} → Mapped s f c c' → Mapped s f x x' →
        Mapped s f y y' → Mapped s f (choose c x y) (choose c' x' y')
    to_while : {s : ℕ → Bool} {f : ℕ → ℕ} {x x' y y' : Written} → Mapped s f x x' → Mapped s f y y' →
        Mapped s f (while x y) (while x' y')
    to_new : {s : ℕ → Bool} {f : ℕ → ℕ} {a b d : ℕ} {c c' : Written} → Clear s f a b →
        Mapped (put a true s) (put a b f) c c' → Mapped s f (new a d c) (new b d c')
    to_procedure : {s : ℕ → Bool} {f : ℕ → ℕ} {a b ty : ℕ} {ps qs : List Parameter} {x x' y y' : Written} →
        Clear s f a b →
        Binds s f ps qs → Mapped (seen_inside s ps) (map_inside f ps qs) x x' → Mapped (put a true s) (put a b f) y y' →
        Mapped s f (procedure a ty ps x y) (procedure b ty qs x' y')

  pub data Mappeds : (ℕ → Bool) → (ℕ → ℕ) → Writtens → Writtens → Type 0 where
    to_none : {s : ℕ → Bool} {f : ℕ → ℕ} → Mappeds s f none none
    to_more : {s : ℕ → Bool} {f : ℕ → ℕ} {w w' : Written} {ws ws' : Writtens} → Mapped s f w w' → Mappeds s f ws ws' →
        Mappeds s f (more w ws) (more w' ws')
