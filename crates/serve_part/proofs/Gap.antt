-- Two parts that have the same complete plays as sheets of their own play the same in the blocks that enclose them,
-- and so do the whole terms.
use Prim.Native.Nat.{ℕ}
use native.Mathlib.Omega.{arith}
use mathlib.Core.Path.{◌≡◌, refl, sym, ap₂, ◌∙◌, subst}
use mathlib.Core.Logic.{◌↔◌}
use mathlib.Core.List.{List, [], ◌∷◌, ◌++◌}
use lib.ListN.{length}
use Rattle.language.specs.Ty.{Ty, Question, Answer, Answers}
use Rattle.language.specs.Move.{question, answer, Move, move, Word}
use Rattle.language.specs.Play as play
use Rattle.language.specs.Play.{Plays, Complete}
use Rattle.language.specs.Term.{Term}
use Rattle.language.specs.declared.Numbers.{Numbers}
use Rattle.sheet_written.specs.Written.{Written, Name}
use Rattle.sheet_written.specs.Meaning.{Binder, Meaning, declared}
use Rattle.sheet_written.specs.Meaning.{meaning, ty_of, use_type, typed, Terms, no_terms, resolve}
use Rattle.sheet_written.specs.Fine.{Fine}
use Rattle.sheet_written.proofs.WellTyped.{KnownNames}
use Rattle.serve_part.specs.Around.{Around, filled, enclosing}
use Rattle.serve_part.specs.Part.{DeclaredAs, as_name, same_name, same_retired, same_free}
use Rattle.serve_part.proofs.Matching.{Match, shows-one}
use Rattle.serve_part.proofs.Twins.{Twin, an-outer, a_name, a-retired, no-twin, Twins, same_typed}
use Rattle.serve_part.proofs.Alone.{agrees}
use Rattle.serve_part.proofs.Filling.{Blocks, no_blocks, Plain, plain, known-blocks, Equal, same_type, equal}

-- words that end with one move each
not-empty : (w : Word) (x : Move) → [] ≡ w ++ (x ∷ []) → ⊥
not-empty [] x e = let z : ◌≡◌ {A = ℕ} 0 1 = cc in absurd (omega arith)
not-empty (y ∷ w) x e = let z : ◌≡◌ {A = ℕ} 0 1 = cc in absurd (omega arith)

last_of : (v w : Word) (x y : Move) → v ++ (x ∷ []) ≡ w ++ (y ∷ []) → (v ≡ w) × (x ≡ y)
last_of [] [] x y e = (refl, cc)
last_of [] (b ∷ w) x y e = let f : [] ≡ w ++ (y ∷ []) = cc in absurd (not-empty w y f)
last_of (a ∷ v) [] x y e = let f : [] ≡ v ++ (x ∷ []) = cc in absurd (not-empty v x f)
last_of (a ∷ v) (b ∷ w) x y e =
    let f : v ++ (x ∷ []) ≡ w ++ (y ∷ []) = cc in
    let g : a ≡ b = cc in
    let (h, i) = last_of v w x y f in
    (ap₂ ◌∷◌ g h, i)

-- a complete play is a play between its first question and its last answer
within : (T : Ty) (M : Term) (q : Question) (a : Answer) (w : Word) →
    Complete T M (move play.whole (question q) ∷ (w ++ (move play.whole (answer a) ∷ []))) → Plays M q a w
within T M q a w (q', a', w', x, p, e) =
    let f : q ≡ q' = cc in
    let g : w ++ (move play.whole (answer a) ∷ []) ≡ w' ++ (move play.whole (answer a') ∷ []) = cc in
    let (h, i) = last_of w w' (move play.whole (answer a)) (move play.whole (answer a')) g in
    let j : a ≡ a' = cc in
    rw (f, h, j) p

-- what an id is declared as has its type
as-type : {m m' : Meaning} → DeclaredAs m m' → use_type m ≡ use_type m'
unfolding use_type
as-type as_name = refl
as-type same_name = refl
as-type same_retired = refl
as-type same_free = refl

-- the names of a part's own sheet
abbrev pub Declares : List Name → List Binder → List Name → Type 0
Declares ns bs ns' = (id : ℕ) → DeclaredAs (meaning ns bs id) (declared ns' id)

-- the part has the same type in its own sheet
own-type : (ns ns' : List Name) (bs : List Binder) (m : Written) → Declares ns bs ns' →
    typed ns bs m ≡ typed ns' [] m
unfolding meaning
own-type ns ns' bs m h = same_typed ns ns' m bs [] (λ id. as-type (h id))

module _ (N : Numbers) (ns : List Name) (k : KnownNames ns) where
  -- what ids mean where the part begins
  first-twin : (ns' : List Name) (bs : List Binder) (ρ : Terms) (id : ℕ) {m m' : Meaning} → DeclaredAs m m' →
      meaning ns bs id ≡ m → Plain (length bs) ρ m → Twin N ns ns' bs id 0 ρ no_terms m m'
  unfolding Plain
  first-twin ns' bs ρ id as_name e (b, l, l', z) = an-outer e b l z
  first-twin ns' bs ρ id same_name e p = a_name e
  first-twin ns' bs ρ id same_retired e p = a-retired
  first-twin ns' bs ρ id same_free e p = no-twin

  first-twins : (ns' : List Name) (bs : List Binder) (ρ : Terms) → Blocks bs ρ → Declares ns bs ns' →
      Twins N ns ns' bs 0 ρ no_terms bs []
  unfolding meaning
  first-twins ns' bs ρ b h = record {
    twin = λ id. first-twin ns' bs ρ id (h id) refl (plain ns k b id);
    known = known-blocks ns k b;
  }

  -- the plays of a part in its blocks and in its own sheet
  alone : (ns' : List Name) (bs : List Binder) (ρ : Terms) (m : Written) → Blocks bs ρ → Declares ns bs ns' →
      Fine N ns bs m → (q : Question) (a : Answer) → Answers (ty_of N (typed ns bs m)) q a →
      Match ns bs 0 (Plays (resolve N ns bs ρ (length bs) m) q a) (Plays (resolve N ns' [] no_terms 0 m) q a)
  alone ns' bs ρ m b h f q a x =
      agrees N ns ns' bs m 0 (length bs) ρ no_terms bs [] (omega arith) (first-twins ns' bs ρ b h) f q a x

  -- the complete plays of a part's own sheet
  abbrev Own : List Name → Written → Word → Type 0
  Own ns' m u = Complete (ty_of N (typed ns' [] m)) (resolve N ns' [] no_terms 0 m) u

  -- where the complete plays of the one own sheet are plays of the other, so are the plays in the blocks
  one_way : (ns' ns'' : List Name) (bs : List Binder) (ρ : Terms) (m n : Written) → Blocks bs ρ →
      Declares ns bs ns' → Declares ns bs ns'' → Fine N ns bs m → Fine N ns bs n → typed ns bs m ≡ typed ns bs n →
      ((u : Word) → Own ns' m u → Own ns'' n u) → (q : Question) (a : Answer) → Answers (ty_of N (typed ns bs m)) q a →
      (u : Word) → Plays (resolve N ns bs ρ (length bs) m) q a u → Plays (resolve N ns bs ρ (length bs) n) q a u
  one_way ns' ns'' bs ρ m n b h h' f f' e g q a x u p =
      let y : Answers (ty_of N (typed ns' [] m)) q a = rw (own-type ns ns' bs m h) at x in
      let (w, s, r) = (alone ns' bs ρ m b h f q a x).0 u p in
      let o : Own ns'' n (move play.whole (question q) ∷ (w ++ (move play.whole (answer a) ∷ []))) =
      g (move play.whole (question q) ∷ (w ++ (move play.whole (answer a) ∷ []))) (q, a, w, y, r, refl) in
      let z : Plays (resolve N ns'' [] no_terms 0 n) q a w =
      within (ty_of N (typed ns'' [] n)) (resolve N ns'' [] no_terms 0 n) q a w o in
      let (v, t, c) = (alone ns'' bs ρ n b h' f' q a (rw e at x)).1 w z in
      subst (λ d. Plays (resolve N ns bs ρ (length bs) n) q a d) (shows-one ns bs t s) c

  -- THEOREM: parts with the same plays as sheets of their own make wholes with the same plays
  module _ (ns' ns'' : List Name) (C : Around) (m n : Written) (h : Declares ns (enclosing C []) ns')
      (h' : Declares ns (enclosing C []) ns'') (types : typed ns' [] m ≡ typed ns'' [] n)
      (plays : (u : Word) → Own ns' m u ↔ Own ns'' n u) where
    gap-type : typed ns (enclosing C []) m ≡ typed ns (enclosing C []) n
    gap-type = own-type ns ns' (enclosing C []) m h ∙ types ∙ sym (own-type ns ns'' (enclosing C []) n h')

    pub whole-type : typed ns [] (filled C m) ≡ typed ns [] (filled C n)
    whole-type = same_type N ns m n C [] gap-type

    pub whole-plays : Fine N ns [] (filled C m) → Fine N ns [] (filled C n) →
        Equal (ty_of N (typed ns [] (filled C m))) (resolve N ns [] no_terms 0 (filled C m))
        (resolve N ns [] no_terms 0 (filled C n))
    whole-plays f f' =
        equal N ns m n k C [] no_terms no_blocks
        (λ ρ b g g' q a x u. (
          one_way ns' ns'' (enclosing C []) ρ m n b h h' g g' gap-type (λ w. (plays w).0) q a x u,
          one_way ns'' ns' (enclosing C []) ρ n m b h' h g' g (sym gap-type) (λ w. (plays w).1) q a
              (rw gap-type at x) u,
        ))
        gap-type f f'
