-- The answers of a name are of one kind, and each of them is an exit of the innermost level.
use mathlib.Core.Path.{◌≡◌, refl, ◌∙◌, ap}
use mathlib.Core.Bool.{Bool, true, false}
use mathlib.Core.List.{List}
use Prim.Native.Nat.{ℕ, ◌+◌, ◌<◌}
use native.Mathlib.Omega.{arith}
use native.Mathlib.Decide.{dec_lt, ℕ_discrete}
use lib.Dec.{eqb, ltb}
use borrow.Author.Tests.{lt-ltb, le-ltb, eq-eqb, ne_eqb}
use Rattle.language.specs.Choice.{pick}
use Rattle.language.specs.declared.Numbers.{Numbers}
use Rattle.sheet_rows.specs.Row.{word}
use Rattle.states_positions.specs.declared.Out.{Out}
use Rattle.states_positions.specs.declared.Out.TheVariants.{Exit}
use Rattle.states_positions.specs.Row.{sum_of, name_id}
use Rattle.states_positions.specs.Types.{value_answer, answer_number}
use Rattle.states_names.specs.Name.{hear_answer, listen_of, at_wait}
use Rattle.states_step.specs.walk.Shows.{Words}
use Rattle.states_step.proofs.Sums.{sum-small}
use Rattle.states_words.specs.declared.Wait.{Wait}
use Rattle.states_path.specs.declared.Site.{Site}
use Rattle.states_path.specs.Path.{rise_all}
use Rattle.states_path.specs.Levels.{frames_of}
use Rattle.states_path.specs.Kept.{wait_at}
use Rattle.states_words.specs.inner.Waiting.{Listening, Calling, Answering}
use Rattle.states_words.specs.inner.Moves.{answer_limit, answer_kind, limit_of}
use Rattle.states_path.specs.States.{target_of}

-- a choice between nothing and nothing
pub no-choice : (b : Bool) (x y : ℕ) → x ≡ 0 → y ≡ 0 → pick b x y ≡ 0
no-choice true x y h l = h
no-choice false x y h l = l

-- a question has answers of one kind
kind_small : (class q : ℕ) → answer_kind class q < 6
unfolding answer_kind
kind_small class q = go (eqb class 0) (eqb q 6)
  where
    go : (a b : Bool) → pick a 1 (pick b 4 5) < 6
    go true b = omega arith
    go false true = omega arith
    go false false = omega arith

pub own-small : (class q own : ℕ) → own ≡ answer_kind class q → own < 6
own-small class q own e = rw e (kind_small class q)

pub other-kind : (class m q x kind : ℕ) → (kind ≡ answer_kind class q → ⊥) → answer_limit class m q x kind ≡ 0
unfolding answer_limit answer_kind
other-kind class m q x kind n = go (ℕ_discrete class 0) (ℕ_discrete q 6) n
  where
    go : Dec (class ≡ 0) → Dec (q ≡ 6) → (kind ≡ answer_kind class q → ⊥) → answer_limit class m q x kind ≡ 0
    go (yes a) d n =
        let k : kind ≡ 1 → ⊥ = rw a at n in
        rw (a, ne_eqb kind 1 k) (no-choice (eqb q 0) 0 0 refl refl)
    go (no a) (yes b) n =
        let k : kind ≡ 4 → ⊥ = rw (ne_eqb class 0 a, b) at n in
        rw (ne_eqb class 0 a, b, ne_eqb kind 4 k)
        (no-choice (eqb class 1) 0 _ refl (no-choice (ltb x m) 0 0 refl refl))
    go (no a) (no b) n =
        let k : kind ≡ 5 → ⊥ = rw (ne_eqb class 0 a, ne_eqb q 6 b) at n in
        rw (ne_eqb class 0 a, ne_eqb q 6 b, ne_eqb kind 5 k)
        (no-choice (eqb class 1) _ _ (no-choice (eqb q 2) 0 0 refl refl) (no-choice (eqb q 3) 0 0 refl refl))

-- an answer below the limit of its kind has a number
abbrev Some : ℕ → ℕ → ℕ → Type 0
Some v limit number = v < limit → number ≡ 0 → ⊥

none : (v : ℕ) → Some v 0 0
none v h e = omega arith

both : (v : ℕ) (b : Bool) (x y x' y' : ℕ) → Some v x x' → Some v y y' → Some v (pick b x y) (pick b x' y')
both v true x y x' y' f g = f
both v false x y x' y' f g = g

some_value : (m kind v : ℕ) → m < 65536 → Some v (pick (eqb kind 5) m 0) (value_answer m kind v)
unfolding value_answer
some_value m kind v b =
    both v (eqb kind 5) m 0 _ 0
    (λ h e. let g : v + 1 ≡ 0 = rw (lt-ltb v m h, sum-small v 1 (omega arith)) at e in omega arith) (none v)

some-write : (m x kind v : ℕ) → m < 65536 →
    Some v (pick (ltb x m) (pick (eqb kind 4) 1 0) 0) (pick (ltb x m) (pick (eqb kind 4) (sum_of (sum_of m x) 1) 0) 0)
some-write m x kind v b = go (dec_lt x m)
  where
    go : Dec (x < m) → Some v (pick (ltb x m) (pick (eqb kind 4) 1 0) 0)
        (pick (ltb x m) (pick (eqb kind 4) (sum_of (sum_of m x) 1) 0) 0)
    go (yes h) =
        rw (lt-ltb x m h, sum-small m x (omega arith), sum-small (m + x) 1 (omega arith))
        (both v (eqb kind 4) 1 0 (m + x + 1) 0 (λ y e. omega arith) (none v))
    go (no h) = rw (le-ltb x m (omega arith)) (none v)

some-answer : (class m q x kind v : ℕ) → m < 65536 →
    Some v (answer_limit class m q x kind) (answer_number class m q x kind v)
unfolding answer_limit answer_number
some-answer class m q x kind v b =
    both v (eqb class 0) _ _ _ _
    (both v (eqb q 0) _ _ _ _ (both v (eqb kind 1) 1 0 1 0 (λ h e. omega arith) (none v)) (none v))
    (both v (eqb class 1) _ _ _ _ (both v (eqb q 2) _ _ _ _ (some_value m kind v b) (none v))
    (both v (eqb q 3) _ _ _ _ (some_value m kind v b)
    (both v (eqb q 6) _ _ _ _ (some-write m x kind v b) (none v))))

module _ (t : List ℕ) (wait : Wait) (calls : Calling wait) where
  pub limit-own : (kind : ℕ) →
      limit_of t wait kind 0 ≡ answer_limit (word t wait.at 2) (word t wait.at 3) wait.kind wait.value kind
  unfolding limit_of
  limit-own kind = rw (ne_eqb wait.kind 7 calls)

  -- such an answer ends the name
  answer-exits : (N : Numbers) (root : ℕ) (p : List ℕ) (c kind v : ℕ) → Words t → Listening t N root p c wait →
      v < limit_of t wait kind 0 →
      wait_at t root wait.state wait.at wait.kind wait.value wait.count
      (record { kind = kind; id = wait.id; arg = 0; value = v }) ≡ Exit kind v 0 0
  unfolding wait_at at_wait listen_of hear_answer word
  answer-exits N root p c kind v small L h =
      let l : v < answer_limit (word t wait.at 2) (word t wait.at 3) wait.kind wait.value kind =
      rw (limit-own kind) at h in
      rw (
        ne_eqb wait.state 0 (λ z. calls (L.first z)),
        ne_eqb kind 255 (λ z. no_move l z),
        eq-eqb wait.id (name_id t wait.at) (L.named calls),
        ne_eqb (answer_number (word t wait.at 2) (word t wait.at 3) wait.kind wait.value kind v) 0
            (some-answer (word t wait.at 2) (word t wait.at 3) wait.kind wait.value kind v (small _) l),
      )
    where
      no_move : v < answer_limit (word t wait.at 2) (word t wait.at 3) wait.kind wait.value kind → kind
          ≡ 255 → ⊥
      no_move l z = omega (
        arith,
        l,
        other-kind (word t wait.at 2) (word t wait.at 3) wait.kind
            wait.value kind
            (λ e. omega (arith, kind_small (word t wait.at 2) wait.kind)),
      )

  pub answering : (N : Numbers) (s : Site) (p : List ℕ) (c kind below : ℕ) → Words t →
      Listening t N s.root p c wait → below ≡ limit_of t wait kind 0 → Answering t N s p c wait kind below
  answering N s p c kind below small L e = record {
    sound = L.sound;
    exits = λ v h. ap (λ (o : Out). target_of s o) (L.hears _ ∙
        ap (λ (o : Out). rise_all N (frames_of p c) o) (answer-exits N s.root p c kind v small L (omega (arith, e))));
  }
