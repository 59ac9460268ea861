-- What the comparison answers that tests its requirements. Assumes nothing.
use Rattle.std.specs.Prelude.{List, ◌≡◌, ℕ, ◌≤◌, length, take}
use Rattle.dfa.specs.Graph.{δ}
use Rattle.dfa.specs.Reading.{FirstWord, walk}
use Rattle.dfa.specs.Word.{accepting}
use Rattle.dfa_difference.specs.declared.Task.{Task}
use Rattle.test_dfa.specs.declared.checked.Answer.{Answer}
use Rattle.test_dfa.specs.declared.checked.Answer.TheVariants.{Distinguished, Equivalent, Invalid}

-- no word of at most `most` letters tells the two states apart; or the first that does stands at the front of out
abbrev pub Answered : List ℕ → Task → List ℕ → Answer → Type 0
Answered G t out Invalid = Unit {0}
Answered G t out Equivalent = (w : List ℕ) → length w ≤ t.most
    → accepting t.f t.g (walk (δ G t.n) t.p w) ≡ accepting t.f t.g (walk (δ G t.n) t.q w)
Answered G t out (Distinguished len) = (len ≤ t.most) ×
    FirstWord t.n (δ G t.n) (accepting t.f t.g) t.p t.q (take len out)
