-- A name takes the questions of its arguments and, in their place among the kinds, its answers.
use mathlib.Core.Path.{◌≡◌, refl, sym, ◌∙◌, ap}
use mathlib.Core.Bool.{Bool, true, false}
use mathlib.Core.List.{List, [], ◌++◌, append-nil, append_assoc}
use Prim.Native.Nat.{ℕ, zero, suc, ◌+◌, ◌-◌, ◌*◌, ◌/◌, ◌%◌, ◌≤◌, ◌<◌}
use native.Mathlib.Omega.{arith}
use native.Mathlib.Numerals.{add-one}
use native.Mathlib.Decide.{dec_lt}
use lib.Dec.{eqb, ltb}
use borrow.Author.Tests.{lt-ltb, le-ltb, ne_eqb}
use Rattle.language.specs.Choice.{pick}
use Rattle.language.specs.declared.Numbers.{Numbers}
use Rattle.sheet_rows.specs.Row.{word}
use Rattle.states_positions.specs.Row.{part_class, part_values}
use Rattle.states_words.specs.declared.Wait.{Wait}
use Rattle.states_path.specs.declared.Site.{Site}
use Rattle.states_words.specs.inner.Rows.{with_edges, past}
use Rattle.states_words.specs.inner.Waiting.{Calling, Argument, Arguments}
use Rattle.states_positions.specs.Types.{question_limit}
use Rattle.states_words.specs.inner.Moves.{answer_kind, is_question, limit_of, asking_of, block_edges, heard_edges}
use Rattle.states_words.specs.inner.Moves.{question_edges, asked_edges}
use Rattle.states_words.proofs.HeardAnswers.{no-choice, own-small, other-kind, limit-own}
use Rattle.states_words.proofs.Loops.{Wrote, told, wrote_none, wrote-append}

-- where a kind is none of questions, no type has questions of it
none-asked : (class m kind : ℕ) → is_question kind ≡ false → question_limit class m kind ≡ 0
unfolding is_question question_limit
none-asked class m kind h = go (eqb class 0) (eqb class 1) (eqb kind 0) (eqb kind 2) (eqb kind 3) (eqb kind 6) h
  where
    go : (c d r a g w : Bool) → pick r true (pick a true (pick g true w)) ≡ false →
        pick c (pick r 1 0) (pick d (pick a 1 0) (pick g 1 (pick w m 0))) ≡ 0
    go c d true a g w h = cc
    go c d false true g w h = cc
    go c d false false true w h = cc
    go c d false false false true h = cc
    go c d false false false false h = no-choice c 0 _ refl (no-choice d 0 0 refl refl)

-- a kind of answers is no kind of questions
no-question : (c q : ℕ) → is_question (answer_kind c q) ≡ false
unfolding is_question answer_kind
no-question c q = go (eqb c 0) (eqb q 6)
  where
    go : (a b : Bool) → is_question (pick a 1 (pick b 4 5)) ≡ false
    go true b = refl
    go false true = refl
    go false false = refl

-- the arguments that have moves are arguments, and they are all, or four
asking-within : (count : ℕ) → asking_of count ≤ count
unfolding asking_of
asking-within count = go (dec_lt 4 count)
  where
    go : Dec (4 < count) → asking_of count ≤ count
    go (yes h) = rw (lt-ltb 4 count h) (omega arith)
    go (no h) = rw (le-ltb 4 count (omega arith)) (omega arith)

asking-four : (count : ℕ) → asking_of count ≤ 4
unfolding asking_of
asking-four count = go (dec_lt 4 count)
  where
    go : Dec (4 < count) → asking_of count ≤ 4
    go (yes h) = rw (lt-ltb 4 count h) (omega arith)
    go (no h) = rw (le-ltb 4 count (omega arith)) (omega arith)

asking-all : (count arg : ℕ) → asking_of count < arg → arg ≤ 4 → count < arg
unfolding asking_of
asking-all count arg l f = go (dec_lt 4 count) l
  where
    go : Dec (4 < count) → asking_of count < arg → count < arg
    go (yes h) l = let g : 4 < arg = rw (lt-ltb 4 count h) at l in absurd (omega arith)
    go (no h) l = rw (le-ltb 4 count (omega arith)) at l

pub asking-few : (count : ℕ) → count ≤ 4 → count ≡ asking_of count
unfolding asking_of
asking-few count h = rw (le-ltb 4 count h)

pub arguments : (wait : Wait) (count : ℕ) → Calling wait → count ≡ asking_of wait.count → Arguments wait count
arguments wait count calls e =
    record { calls = calls; within = omega (arith, e, asking-within wait.count) }

pub argument : (wait : Wait) (count arg : ℕ) → Arguments wait count → arg < count → Argument wait (arg + 1)
argument wait count arg a h =
    record { within = record { calls = a.calls; within = omega (arith, a.within) }; some = omega arith }

-- the limit of the questions at an argument
pub limit-question : (t : List ℕ) (wait : Wait) (kind arg class m l : ℕ) → Argument wait arg →
    class ≡ part_class t wait.at (arg - 1) → m ≡ part_values t wait.at (arg - 1) → l ≡ question_limit class m kind →
    l ≡ limit_of t wait kind arg
unfolding limit_of
limit-question t wait kind arg class m l a c v e =
    rw (
      ne_eqb wait.kind 7 a.within.calls,
      ne_eqb arg 0 (λ z. omega (arith, a.some)),
      le-ltb wait.count arg a.within.within,
      ← c,
      ← v,
    ) e

module _ (t : List ℕ) (N : Numbers) (s : Site) (wait : Wait) where
  -- a limit of 0 leaves no edges
  no_block : (kind arg : ℕ) → limit_of t wait kind arg ≡ 0 → block_edges t N s wait kind arg ≡ []
  unfolding block_edges
  no_block kind arg h = rw h

  -- a kind that is none of questions has no edges at arguments
  no-asked : (kind arg : ℕ) → Calling wait → is_question kind ≡ false → (arg ≡ 0 → ⊥) →
      block_edges t N s wait kind arg ≡ []
  unfolding limit_of
  no-asked kind arg calls q n =
      no_block kind arg (rw (ne_eqb wait.kind 7 calls, ne_eqb arg 0 n)
      (no-choice (ltb wait.count arg) 0 _ refl (none-asked _ _ kind q)))

  no-questions : (kind : ℕ) → Calling wait → is_question kind ≡ false → (j : ℕ) → question_edges t N s wait kind j ≡ []
  unfolding question_edges
  no-questions kind calls q zero = refl
  no-questions kind calls q (suc j) =
      let h = no-questions kind calls q j in
      rw (h, no-asked kind (suc j) calls q (λ z. omega arith))

  pub questions-none : (kind count e : ℕ) (ws : List ℕ) → Calling wait → is_question kind ≡ false →
      Wrote ws s.n e (question_edges t N s wait kind count) e ws
  questions-none kind count e ws calls q = rw (no-questions kind calls q count) (wrote_none ws s.n e)

  -- the loop over arguments
  pub questions-first : (kind e : ℕ) (ws : List ℕ) → Wrote ws s.n e (question_edges t N s wait kind 0) e ws
  unfolding question_edges
  questions-first kind e ws = wrote_none ws s.n e

  pub questions-again : (kind e j e' e'' : ℕ) (ws ws' ws'' : List ℕ) →
      Wrote ws s.n e (question_edges t N s wait kind j) e' ws' →
      Wrote ws' s.n e' (block_edges t N s wait kind (j + 1)) e'' ws'' →
      Wrote ws s.n e (question_edges t N s wait kind (j + 1)) e'' ws''
  unfolding question_edges
  questions-again kind e j e' e'' ws ws' ws'' a b = rw (add-one) (wrote-append _ _ a (rw (add-one) at b))

  -- the loop over kinds
  pub asked-first : (count first kind e : ℕ) (ws : List ℕ) → kind ≡ first →
      Wrote ws s.n e (asked_edges t N s wait count first (kind - first)) e ws
  unfolding asked_edges
  asked-first count first kind e ws h =
      let z : kind - first ≡ 0 = omega arith in rw z (wrote_none ws s.n e)

  pub asked-again : (count first kind e e' e'' : ℕ) (ws ws' ws'' : List ℕ) → first ≤ kind →
      Wrote ws s.n e (asked_edges t N s wait count first (kind - first)) e' ws' →
      Wrote ws' s.n e' (question_edges t N s wait kind count) e'' ws'' →
      Wrote ws s.n e (asked_edges t N s wait count first (kind + 1 - first)) e'' ws''
  unfolding asked_edges
  asked-again count first kind e e' e'' ws ws' ws'' h a b =
      let z : kind + 1 - first ≡ suc (kind - first) = omega arith in
      let k : first + (kind - first) ≡ kind = omega arith in
      rw (z, k) (wrote-append _ _ a b)

  no_arguments : (first m : ℕ) → asked_edges t N s wait 0 first m ≡ []
  unfolding asked_edges question_edges
  no_arguments first zero = refl
  no_arguments first (suc m) = rw (no_arguments first m)

  asked-none : (first m e : ℕ) (ws : List ℕ) → Wrote ws s.n e (asked_edges t N s wait 0 first m) e ws
  asked-none first m e ws = rw (no_arguments first m) (wrote_none ws s.n e)

  block-step : (b k j : ℕ) → b ≡ 5 * k + j → j < 5 →
      heard_edges t N s wait (suc b) ≡ heard_edges t N s wait b ++ block_edges t N s wait k j
  unfolding heard_edges
  block-step b k j e h =
      let q : b / 5 ≡ k = omega arith in
      let r : b % 5 ≡ j = omega arith in
      rw (q, r)

  module _ (calls : Calling wait) (own : ℕ) (is : own ≡ answer_kind (word t wait.at 2) wait.kind) where
    -- the blocks without moves: other answers, questions of the kind of the answers, and what is no argument
    other-answers : (kind : ℕ) → (kind ≡ own → ⊥) → block_edges t N s wait kind 0 ≡ []
    other-answers kind n =
        no_block kind 0 (limit-own t wait calls kind ∙
        other-kind (word t wait.at 2) (word t wait.at 3) wait.kind wait.value kind (λ k. n (k ∙ sym is)))

    own-questions : (arg : ℕ) → (arg ≡ 0 → ⊥) → block_edges t N s wait own arg ≡ []
    own-questions arg n = no-asked own arg calls (rw is (no-question (word t wait.at 2) wait.kind)) n

    no-argument : (kind arg : ℕ) → wait.count < arg → block_edges t N s wait kind arg ≡ []
    unfolding limit_of
    no-argument kind arg h =
        no_block kind arg (rw (
          ne_eqb wait.kind 7 calls,
          ne_eqb arg 0 (λ z. omega arith),
          lt-ltb wait.count arg h,
        ))

    -- five blocks of a kind
    kind-asked : (k : ℕ) → (k ≡ own → ⊥) → (j b : ℕ) → b ≡ 5 * k + j → j < 5 →
        heard_edges t N s wait (suc b) ≡ heard_edges t N s wait (5 * k) ++ question_edges t N s wait k j
    unfolding question_edges
    kind-asked k n zero b e h =
        let f : b ≡ 5 * k = omega arith in
        block-step b k 0 e h ∙ rw (other-answers k n, f)
    kind-asked k n (suc j) b e h =
        let f : b ≡ suc (5 * k + j) = omega arith in
        let rec : heard_edges t N s wait (suc (5 * k + j)) ≡ heard_edges t N s wait
        (5 * k) ++ question_edges t N s wait k j =
        kind-asked k n j (5 * k + j) refl (omega arith) in
        block-step b k (suc j) e h ∙ rw (f, rec) (append_assoc (heard_edges t N s wait (5 * k)) _ _)

    own-answers : (j b : ℕ) → b ≡ 5 * own + j → j < 5 →
        heard_edges t N s wait (suc b) ≡ heard_edges t N s wait (5 * own) ++ block_edges t N s wait own 0
    own-answers zero b e h =
        let f : b ≡ 5 * own = omega arith in
        block-step b own 0 e h ∙ rw f
    own-answers (suc j) b e h =
        let f : b ≡ suc (5 * own + j) = omega arith in
        let rec : heard_edges t N s wait (suc (5 * own + j)) ≡
        heard_edges t N s wait (5 * own) ++ block_edges t N s wait own 0 =
        own-answers j (5 * own + j) refl (omega arith) in
        block-step b own (suc j) e h ∙ rw (own-questions (suc j) (λ z. omega arith), f, rec) (append-nil _)

    -- the arguments that have moves are enough
    enough : (k j : ℕ) → asking_of wait.count ≤ j → j ≤ 4 →
        question_edges t N s wait k j ≡ question_edges t N s wait k (asking_of wait.count)
    unfolding question_edges
    enough k zero h l = let z : asking_of wait.count ≡ 0 = omega arith in rw z
    enough k (suc j) h l = go (λ x. enough k j x (omega arith)) (dec_lt (asking_of wait.count) (suc j))
      where
        go : (asking_of wait.count ≤ j →
            question_edges t N s wait k j ≡ question_edges t N s wait k (asking_of wait.count)) →
            Dec (asking_of wait.count < suc j) →
            question_edges t N s wait k (suc j) ≡ question_edges t N s wait k (asking_of wait.count)
        go rec (yes x) =
            rw (no-argument k (suc j) (asking-all wait.count (suc j) x l)) (append-nil _ ∙ rec (omega arith))
        go rec (no x) = let z : asking_of wait.count ≡ suc j = omega arith in rw z

    module _ (count : ℕ) (all : count ≡ asking_of wait.count) where
      kind-step : (k : ℕ) → (k ≡ own → ⊥) → heard_edges t N s wait (5 * (k + 1)) ≡
          heard_edges t N s wait (5 * k) ++ question_edges t N s wait k count
      kind-step k n =
          let f : 5 * (k + 1) ≡ suc (5 * k + 4) = omega arith in
          rw (f, all, ← enough k 4 (asking-four wait.count) (omega arith))
          (kind-asked k n 4 (5 * k + 4) refl (omega arith))

      asked-before : (m : ℕ) → m ≤ own → heard_edges t N s wait (5 * m) ≡ asked_edges t N s wait count 0 m
      unfolding asked_edges heard_edges
      asked-before zero h = refl
      asked-before (suc m) h =
          let f : 5 * suc m ≡ 5 * (m + 1) = omega arith in
          let z : m ≡ 0 + m = omega arith in
          rw (f, kind-step m (λ x. omega arith), asked-before m (omega arith))
          (ap (λ (k : ℕ). asked_edges t N s wait count 0 m ++ question_edges t N s wait k count) z)

      asked-after : (m : ℕ) → heard_edges t N s wait (5 * (own + 1 + m)) ≡
          (asked_edges t N s wait count 0 own ++ block_edges t N s wait own 0) ++ asked_edges t N s wait count (own + 1) m
      unfolding asked_edges
      asked-after zero =
          let f : 5 * (own + 1 + 0) ≡ suc (5 * own + 4) = omega arith in
          rw (f, own-answers 4 (5 * own + 4) refl (omega arith), asked-before own (omega arith)) (sym (append-nil _))
      asked-after (suc m) =
          let f : 5 * (own + 1 + suc m) ≡ 5 * (own + 1 + m + 1) = omega arith in
          rw (f, kind-step (own + 1 + m) (λ z. omega arith), asked-after m)
          (append_assoc (asked_edges t N s wait count 0 own ++ block_edges t N s wait own 0) _ _)

      called-edges : heard_edges t N s wait 35 ≡
          (asked_edges t N s wait count 0 own ++ block_edges t N s wait own 0) ++
          asked_edges t N s wait count (own + 1) (7 - (own + 1))
      called-edges =
          let f : 5 * (own + 1 + (7 - (own + 1))) ≡ 35 =
          omega (arith, own-small (word t wait.at 2) wait.kind own is) in
          rw (← f) (asked-after (7 - (own + 1)))

  -- what is written for the kinds before that of the answers, for the answers, and for the kinds after it
  pub called-told : (class own count e₀ e₁ e₂ e₃ : ℕ) (ws₀ ws₁ ws₂ ws₃ : List ℕ) → Calling wait →
      class ≡ word t wait.at 2 → own ≡ answer_kind class wait.kind → count ≡ asking_of wait.count →
      Wrote ws₀ s.n e₀ (asked_edges t N s wait count 0 (own - 0)) e₁ ws₁ →
      Wrote ws₁ s.n e₁ (block_edges t N s wait own 0) e₂ ws₂ →
      Wrote ws₂ s.n e₂ (asked_edges t N s wait count (own + 1) (7 - (own + 1))) e₃ ws₃ →
      (e₃ ≡ past e₀ (heard_edges t N s wait 35)) × (ws₃ ≡ with_edges ws₀ s.n e₀ (heard_edges t N s wait 35))
  called-told class own count e₀ e₁ e₂ e₃ ws₀ ws₁ ws₂ ws₃ calls c k q a b d =
      let z : own - 0 ≡ own = omega arith in
      let is : own ≡ answer_kind (word t wait.at 2) wait.kind =
      k ∙ ap (λ (y : ℕ). answer_kind y wait.kind) c in
      let a' : Wrote ws₀ s.n e₀ (asked_edges t N s wait count 0 own) e₁ ws₁ = rw z at a in
      told (rw (called-edges calls own is count q) (wrote-append _ _ (wrote-append _ _ a' b) d))

  -- a name that may ask no argument takes only its answers
  pub plain-told : (class own e e' : ℕ) (ws ws' : List ℕ) → Calling wait → wait.count ≡ 0 →
      class ≡ word t wait.at 2 → own ≡ answer_kind class wait.kind →
      Wrote ws s.n e (block_edges t N s wait own 0) e' ws' →
      (e' ≡ past e (heard_edges t N s wait 35)) × (ws' ≡ with_edges ws s.n e (heard_edges t N s wait 35))
  plain-told class own e e' ws ws' calls z c k b =
      called-told class own 0 e e e' e' ws ws ws' ws' calls c k
      (asking-few 0 (omega arith) ∙ ap asking_of (sym z)) (asked-none 0 (own - 0) e ws) b
      (asked-none (own + 1) (7 - (own + 1)) e' ws')
