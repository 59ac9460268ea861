-- What is answered where the requirements hold. Assumes nothing.
use mathlib.Core.List.{List}
use mathlib.Core.Path.{◌∙◌, ◌≡◌, ap, subst, sym}
use Prim.Native.Nat.{◌*◌, ◌+◌, ◌-◌, ◌<◌, ◌≤◌, ℕ}
use native.Mathlib.Omega.{arith}
use lib.ListN.{get_or, length, set, take}
use Rattle.test_dfa.specs.Answer.{Answered}
use Rattle.dfa.specs.Graph.{Graph, rest, δ}
use Rattle.dfa_live.specs.Marks.{Markable}
use Rattle.dfa_difference.specs.Outcome.{Outcome, Setting, ToldApart}
use Rattle.dfa.specs.Reading.{FirstWord, reversed, walk}
use Rattle.dfa_search.specs.Spelled.{Spelling}
use Rattle.dfa.specs.Word.{accepting, after}
use Rattle.dfa_difference.specs.declared.Task.{Task}
use Rattle.std.specs.Prelude.{Option, None}
use Rattle.test_dfa.specs.declared.checked.Answer.TheVariants.{Distinguished, Equivalent}
use Rattle.dfa.proofs.laws.Reading.{first_word, reversed-length, reversed-reversed, walk-reversed}
use Rattle.dfa_search.proofs.Spell.{written-take}
use Rattle.dfa.proofs.laws.Rest.{rest_at, rest-length}

pub answer-alike : (G : List ℕ) (t : Task) (ws out : List ℕ) (v : Option ℕ) → v ≡ None → Outcome G t ws v
    → Answered G t out Equivalent
answer-alike G t ws out v e o w l = read t.p w
    ∙ subst (λ v. Outcome G t ws v) e o (reversed w) (omega (arith, reversed-length w)) ∙ sym (read t.q w)
  where
    read : (p : ℕ) (w : List ℕ) → accepting t.f t.g (walk (δ G t.n) p w) ≡ accepting t.f t.g
        (after (δ G t.n) p (reversed w))
    read p w = ap (accepting t.f t.g) (ap (walk (δ G t.n) p) (sym (reversed-reversed w)) ∙ walk-reversed
        (δ G t.n) p (reversed w))

-- ws before, w₁ compared, w₂ spelled
pub answer_word : (t : Task) (ws w₁ w₂ : List ℕ) (k r : ℕ) → Setting (rest (5 * t.n) ws) t
    → ToldApart (rest (5 * t.n) ws) t (take (5 * t.n) w₁) k
    → length w₁ ≡ length ws → length w₂ ≡ length w₁ → Spelling t.n k w₁ w₂ r → Answered (rest (5 * t.n) ws) t
    (rest (5 * t.n) w₂) (Distinguished r)
answer_word t ws w₁ w₂ k r set d l₁ l₂ s =
    let x = s.word d.word d.spelled in
    let b = d.first.short in
    let out = rest (5 * t.n) w₂ in
    let fits : length d.word ≤ length out = omega (
      arith,
      rest-length (5 * t.n) w₂,
      rest-length (5 * t.n) ws,
      set.graph.room,
    ) in (
      omega (arith, x.0, d.within),
      subst (λ v. FirstWord t.n (δ (rest (5 * t.n) ws) t.n) (accepting t.f t.g) t.p t.q v)
          (sym (ap (λ z. take z out) x.0 ∙ written-take d.word out fits x.1))
          (first_word _ _ _ _ _ d.word d.first),
    )

pub spell-room : (t : Task) (ws w₁ : List ℕ) → Setting (rest (5 * t.n) ws) t → length w₁ ≡ length ws
    → 5 * t.n + t.n ≤ length w₁
spell-room t ws w₁ s l = omega (arith, rest-length (5 * t.n) ws, s.graph.room)

pub setting-of : (t : Task) (ws : List ℕ) → Graph (rest (5 * t.n) ws) t.n → t.p < t.n → t.q < t.n
    → Setting (rest (5 * t.n) ws) t × (5 * t.n ≤ length ws)
setting-of t ws g p_lt q_lt = (
  record {
    graph = g;
    p_lt = p_lt;
    q_lt = q_lt;
  },
  omega (arith, g.room, rest-length (5 * t.n) ws),
)

pub words_long : (n : ℕ) (ws : List ℕ) → Graph (rest (5 * n) ws) n → 5 * n + n < length ws
words_long n ws g = omega (arith, g.room, rest-length (5 * n) ws)

-- what live_ok tests
pub markable-of : (n f a b : ℕ) (ws : List ℕ) → Graph (rest (5 * n) ws) n → f < n - 1
    → a ≡ get_or ws (5 * n + (n - 1)) 0 → b ≡ get_or ws (5 * n + n) 0 → a ≡ b → b ≤ 131072 → 6 * n + 1 + 3 * b ≤ length ws
    → Markable n f ws
markable-of n f a b ws g h ea eb e few room =
    let end : get_or (rest (5 * n) ws) n 0 ≡ b = rest_at (5 * n) ws n ∙ sym eb in
    record {
      single = record
          { graph = g; empty = rest_at (5 * n) ws (n - 1) ∙ sym ea ∙ e ∙ sym end; other = λ q. omega arith };
      end = omega arith;
      few = omega arith;
      room = omega arith;
      link_room = omega arith;
    }
