-- A position that waits is a name's, and what follows a move there is what the name says.
use mathlib.Core.Path.{◌≡◌, subst}
use mathlib.Core.Bool.{Bool, true, false}
use mathlib.Core.List.{List}
use Prim.Native.Nat.{ℕ, zero, suc, ◌-◌}
use lib.Dec.{eqb, ltb, leb}
use Rattle.language.specs.Choice.{pick}
use Rattle.sheet_rows.specs.Row.{word}
use Rattle.states_positions.specs.declared.Move.{Move}
use Rattle.states_positions.specs.declared.Out.{Out}
use Rattle.states_positions.specs.declared.Out.TheVariants.{Go, Exit, Say, Hear, Stuck}
use Rattle.states_positions.specs.declared.Spot.{Spot}
use Rattle.states_positions.specs.declared.Spot.TheVariants.{Here, Inside}
use Rattle.states_positions.specs.Row.{name_count, name_id, sum_of, part_class, part_values, part_weight}
use Rattle.states_positions.specs.Types.{answers_of}
use Rattle.states_names.specs.Name.{arg_here, in_args, reply_here, reply_of, at_wait, at_spent, in_name, arg_spots, said_of}
use Rattle.states_names.specs.Name.{copies_of, inner_of, again_of}
use Rattle.states_step.specs.walk.Down.{in_fetch, in_seq, in_while, cond_in, in_cond, operate_in, in_operate, assign_in, in_assign}
use Rattle.states_step.specs.walk.Down.{in_new, in_private, down_as, down_of}
use Rattle.states_names.specs.Name.{no_move}

-- not waiting
unfoldable pub Still : Out → Type 0
Still (Go next level set) = Unit
Still (Exit kind value level set) = Unit
Still (Say said next) = Unit
Still (Hear at kind value count) = ⊥
Still Stuck = Unit

unfoldable pub StillAt : Spot → Type 0
StillAt (Here o) = Still o
StillAt (Inside part kind value k f) = Unit

still_pick : (b : Bool) (x y : Out) → Still x → Still y → Still (pick b x y)
still_pick true x y h l = h
still_pick false x y h l = l

spot-pick : (b : Bool) (x y : Spot) → StillAt x → StillAt y → StillAt (pick b x y)
spot-pick true x y h l = h
spot-pick false x y h l = l

pub still-argument : (part class n w k base after : ℕ) → StillAt (arg_here part class n w k base after)
unfolding arg_here StillAt Still
still-argument part class n w k base after = spot-pick (eqb w 0) _ _ tt tt

-- a wait at none of these
pub never-waits : (S : Spot) (at q x n : ℕ) → StillAt S → S ≡ Here (Hear at q x n) → ⊥
unfolding StillAt Still
never-waits S at q x n h e = subst (λ (y : Spot). StillAt y) e h

module _ (t : List ℕ) where
  still-reply : (id at j n k next : ℕ) → Still (reply_of t id at j n k next)
  unfolding reply_of reply_here Still
  still-reply id at j zero k next = tt
  still-reply id at j (suc n) k next =
      still_pick (leb (answers_of (part_class t at j) (part_values t at j)) k) _ _
      (still-reply id at (sum_of j 1) n (k - answers_of (part_class t at j) (part_values t at j)) next)
      (still_pick (eqb (part_class t at j) 0) _ _ tt (still_pick (leb (part_values t at j) k) _ _ tt tt))

  still-args : (at j n k base after : ℕ) → StillAt (in_args t at j n k base after)
  unfolding in_args StillAt Still
  still-args at j zero k base after = tt
  still-args at j (suc n) k base after =
      spot-pick (leb (copies_of t at j) k) _ _ (still-args at (sum_of j 1) n _ _ _) (still-argument _ _ _ _ _ _ _)

  -- waiting only as a name waits
  abbrev pub Listens : (Move → Spot) → Type 0
  Listens F = (at q x n : ℕ) → F no_move ≡ Here (Hear at q x n) → (m : Move) → F m ≡ Here (at_wait t at q x n m)

  listens-pick : (b : Bool) (F G : Move → Spot) → Listens F → Listens G → Listens (λ m. pick b (F m) (G m))
  listens-pick true F G f g = f
  listens-pick false F G f g = g

  still : (S : Spot) → StillAt S → Listens (λ m. S)
  still S h at q x n e m = absurd (never-waits S at q x n h e)

  waits : (at q x n : ℕ) → Listens (λ m. Here (at_wait t at q x n m))
  unfolding at_wait
  waits at q x n at' q' x' n' e m =
      let a : at ≡ at' = cc in
      let b : q ≡ q' = cc in
      let c : x ≡ x' = cc in
      let d : n ≡ n' = cc in
      rw (a, b, c, d)

  -- at the second wait, where it is one
  last-waits : (b : Bool) (at q x : ℕ) → Listens (λ m. Here (pick b Stuck (at_wait t at q x 0 m)))
  unfolding StillAt Still
  last-waits true at q x = still (Here Stuck) tt
  last-waits false at q x = waits at q x 0

  listens-name : (at q x k : ℕ) → Listens (λ m. in_name t at q x k m)
  unfolding in_name at_spent StillAt Still
  listens-name at q x k =
      listens-pick (eqb k 0) _ _ (still (Here (said_of q (name_id t at) 0 x 1)) tt)
      (listens-pick (eqb k 1) _ _ (waits at q x (name_count t at))
      (listens-pick (ltb k inner) _ _ (last-waits (eqb (name_count t at) 0) at q x)
      (listens-pick (ltb (k - inner) (arg_spots t at 0 (name_count t at))) _ _
      (still (in_args t at 0 (name_count t at) (k - inner) inner (sum_of inner (arg_spots t at 0 (name_count t at))))
      (still-args at 0 (name_count t at) (k - inner) inner (sum_of inner (arg_spots t at 0 (name_count t at)))))
      (still (Here (reply_of t (name_id t at) at 0 (name_count t at) (k - inner - arg_spots t at 0 (name_count t at))
      (again_of t at)))
      (still-reply (name_id t at) at 0 (name_count t at) (k - inner - arg_spots t at 0 (name_count t at))
      (again_of t at))))))
    where
      inner : ℕ
      inner = inner_of t at

  still-fetch : (at k : ℕ) → StillAt (in_fetch t at k)
  unfolding in_fetch StillAt
  still-fetch at k = tt

  still-seq : (at q x k : ℕ) → StillAt (in_seq t at q x k)
  unfolding in_seq StillAt
  still-seq at q x k = spot-pick (ltb k (part_weight t at 0)) _ _ tt tt

  still-while : (at k : ℕ) → StillAt (in_while t at k)
  unfolding in_while StillAt
  still-while at k = spot-pick (ltb k (part_weight t at 0)) _ _ tt tt

  still-cond : (at q x k : ℕ) → StillAt (in_cond t at q x k)
  unfolding in_cond cond_in StillAt
  still-cond at q x k =
      spot-pick (ltb k (part_weight t at 0)) _ _ tt
      (spot-pick (ltb (k - part_weight t at 0) (part_weight t at 1)) _ _ tt tt)

  still-operate : (at k : ℕ) → StillAt (in_operate t at k)
  unfolding in_operate operate_in StillAt Still
  still-operate at k = spot-pick (ltb k (part_weight t at 0)) _ _ tt (spot-pick (eqb (part_weight t at 1) 0) _ _ tt tt)

  still-assign : (at k : ℕ) → StillAt (in_assign t at k)
  unfolding in_assign assign_in StillAt Still
  still-assign at k = spot-pick (ltb k (part_weight t at 1)) _ _ tt (spot-pick (eqb (part_weight t at 0) 0) _ _ tt tt)

  still-new : (at q x k : ℕ) → StillAt (in_new t at q x k)
  unfolding in_new StillAt Still
  still-new at q x k = spot-pick (eqb (part_weight t at 0) 0) _ _ tt tt

  still-private : (at q x k : ℕ) (s : ℕ → ℕ) → Still (in_private t at q x k s)
  unfolding in_private Still
  still-private at q x k s =
      still_pick (eqb k 0) _ _ tt (still_pick (eqb q 3) _ _ tt
      (still_pick (eqb q 6) _ _ (still_pick (ltb x (word t at 3)) _ _ tt tt) tt))

  -- THEOREM: a position that waits for a move does what the name says when it is given
  pub listens : (at q x k : ℕ) (s : ℕ → ℕ) → Listens (λ m. down_of t at q x k s m)
  unfolding down_as StillAt Still
  listens at q x k s =
      listens-pick (eqb kind 16) _ _ (still (Here (Exit 1 0 0 0)) tt)
      (listens-pick (eqb kind 18) _ _ (still (Here (Exit 5 (word t at 4) 0 0)) tt)
      (listens-pick (eqb kind 20) _ _ (listens-name at q x k)
      (listens-pick (eqb kind 21) _ _ (still (in_fetch t at k) (still-fetch at k))
      (listens-pick (eqb kind 22) _ _ (still (in_operate t at k) (still-operate at k))
      (listens-pick (eqb kind 23) _ _ (still (in_assign t at k) (still-assign at k))
      (listens-pick (eqb kind 24) _ _ (still (in_seq t at q x k) (still-seq at q x k))
      (listens-pick (eqb kind 25) _ _ (still (in_cond t at q x k) (still-cond at q x k))
      (listens-pick (eqb kind 26) _ _ (still (in_while t at k) (still-while at k))
      (listens-pick (eqb kind 27) _ _ (still (in_new t at q x k) (still-new at q x k))
      (listens-pick (eqb kind 128) _ _ (still (Here (in_private t at q x k s)) (still-private at q x k s))
      (still (Here Stuck) tt)))))))))))
    where
      kind : ℕ
      kind = word t at 0
