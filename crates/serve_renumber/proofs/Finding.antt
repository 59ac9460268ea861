-- Answers of renumberings, one after the other.
use Prim.Native.Nat.{ℕ, ◌+◌}
use native.Mathlib.Omega.{arith}
use mathlib.Core.Path.{◌≡◌, sym, ap, ◌∙◌, subst}
use mathlib.Core.Bool.{Bool}
use mathlib.Core.List.{List, [], ◌++◌, append-nil}
use lib.ListN.{length, length-append}
use Rattle.sheet_written.specs.Written.{Written, Writtens, none, more}
use Rattle.sheet_written.specs.Renumber.{Change, Renumbering, renumbered, none_left, over, before, next}
use Rattle.serve_renumber.specs.Work.{Takes, notes}
use Rattle.serve_renumber.specs.Found.{Answer, stepped, Did, Found}
use Rattle.std.specs.Prelude.{Ok, Err}
use Rattle.serve_renumber.specs.declared.step.Step.{Step}
use Rattle.serve_renumber.proofs.Lists.{notes-append}

abbrev pub Posts : Type 0 → Type 1
Posts X = X → ℕ → List ℕ → Type 0

-- a step that is done is no refusal
pub not_full : {P : Type 0} (r : Answer) (w c p : ℕ) → r ≡ stepped w c → r ≡ Err p → P
not_full r w c p d f = absurd (cc)

same-step : (x y : Step) → ◌≡◌ {A = Answer} (Ok x) (Ok y) → x ≡ y
same-step x y e = cc

done-value : (w c v d : ℕ) → stepped w c ≡ stepped v d → w ≡ v
done-value w c v d e = ap (λ (x : Step). x.value) (same-step _ _ e)

pub done-changes : (w c v d : ℕ) → stepped w c ≡ stepped v d → c ≡ d
done-changes w c v d e = ap (λ (x : Step). x.changes) (same-step _ _ e)

module _ (n : ℕ) (l : List ℕ) (r : Answer) (b' l' k' : List ℕ) where
  -- made into something else
  pub found-over : {X Y : Type 0} (Post : Posts Y) (g : X → Y) (A : Renumbering X) →
      Found (λ x. Post (g x)) A n l r b' l' k' → Found Post (over g A) n l r b' l' k'
  unfolding Found over
  found-over Post g (renumbered x cs then) F = record {
    value = F.value;
    answer = F.answer;
    post = F.post;
    list = F.list;
    takes = F.takes;
  }
  found-over Post g (none_left p) F = F

  -- a weaker fact
  pub found-so : {X : Type 0} (Post Then : Posts X) (A : Renumbering X) →
      ((x : X) (w : ℕ) → Post x w b' → Then x w b') → Found Post A n l r b' l' k' → Found Then A n l r b' l' k'
  unfolding Found
  found-so Post Then (renumbered x cs then) h F = record {
    value = F.value;
    answer = F.answer;
    post = h x F.value F.post;
    list = F.list;
    takes = F.takes;
  }
  found-so Post Then (none_left p) h F = F

  -- a list of changes in other words
  did-same : {X : Type 0} (Post : Posts X) (x : X) (cs ds : List Change) (then : ℕ → Bool) → cs ≡ ds →
      Did Post x cs then n l r b' l' k' → Did Post x ds then n l r b' l' k'
  did-same Post x cs ds then e D = rw e at D

  did_so : {X Y : Type 0} (Post : Posts X) (Then : Posts Y) (x : X) (y : Y) (cs : List Change) (then : ℕ → Bool) →
      ((w : ℕ) → Post x w b' → Then y w b') → Did Post x cs then n l r b' l' k' → Did Then y cs then n l r b' l' k'
  did_so Post Then x y cs then h F = record {
    value = F.value;
    answer = F.answer;
    post = h F.value F.post;
    list = F.list;
    takes = F.takes;
  }

  -- no part, one, two or three
  pub parts_none : (Post : Posts Writtens) (Then : Posts Written) (W : Written) (taken : ℕ → Bool) →
      ((w : ℕ) → Post none w b' → Then W w b') → Found Post (renumbered none [] taken) n l r b' l' k' →
      Found Then (renumbered W [] taken) n l r b' l' k'
  unfolding Found
  parts_none Post Then W taken h F = did_so Post Then none W [] taken h F

  pub parts-one : (Post : Posts Writtens) (Then : Posts Written) (g : Written → Written) (A : Renumbering Written) →
      ((x : Written) (w : ℕ) → Post (more x none) w b' → Then (g x) w b') →
      Found Post (next A (λ x t. over (more x) (renumbered none [] t))) n l r b' l' k' →
      Found Then (over g A) n l r b' l' k'
  unfolding Found next over before
  parts-one Post Then g (renumbered x cs then) h F =
      did_so Post Then (more x none) (g x) cs then (h x)
      (did-same Post (more x none) (cs ++ []) cs then (append-nil cs) F)
  parts-one Post Then g (none_left p) h F = F

  last-two : (Post : Posts Writtens) (Then : Posts Written) (g : Written → Written → Written) (x : Written)
      (cs : List Change) (B : Renumbering Written) →
      ((y : Written) (w : ℕ) → Post (more x (more y none)) w b' → Then (g x y) w b') →
      Found Post (before cs (over (more x) (next B (λ y u. over (more y) (renumbered none [] u))))) n l r b' l' k' →
      Found Then (before cs (over (g x) B)) n l r b' l' k'
  unfolding Found next over before
  last-two Post Then g x cs (renumbered y ds then) h F =
      did_so Post Then (more x (more y none)) (g x y) (cs ++ ds) then (h y)
      (did-same Post (more x (more y none)) (cs ++ (ds ++ [])) (cs ++ ds) then (ap (λ z. cs ++ z) (append-nil ds)) F)
  last-two Post Then g x cs (none_left p) h F = F

  pub parts-two : (Post : Posts Writtens) (Then : Posts Written) (g : Written → Written → Written)
      (A : Renumbering Written) (B : (ℕ → Bool) → Renumbering Written) →
      ((x y : Written) (w : ℕ) → Post (more x (more y none)) w b' → Then (g x y) w b') →
      Found Post (next A (λ x t. over (more x) (next (B t) (λ y u. over (more y) (renumbered none [] u))))) n l r b'
      l' k' →
      Found Then (next A (λ x t. over (g x) (B t))) n l r b' l' k'
  unfolding Found next
  parts-two Post Then g (renumbered x cs then) B h F = last-two Post Then g x cs (B then) (h x) F
  parts-two Post Then g (none_left p) B h F = F

  last-three : (Post : Posts Writtens) (Then : Posts Written) (g : Written → Written → Written → Written) (x y :
      Written)
      (cs ds : List Change) (C : Renumbering Written) →
      ((z : Written) (w : ℕ) → Post (more x (more y (more z none))) w b' → Then (g x y z) w b') →
      Found Post (before cs (over (more x)
      (before ds (over (more y) (next C (λ z u. over (more z) (renumbered none [] u))))))) n l r b' l' k' →
      Found Then (before cs (before ds (over (g x y) C))) n l r b' l' k'
  unfolding Found next over before
  last-three Post Then g x y cs ds (renumbered z es then) h F =
      did_so Post Then (more x (more y (more z none))) (g x y z) (cs ++ (ds ++ es)) then (h z)
      (did-same Post (more x (more y (more z none))) (cs ++ (ds ++ (es ++ []))) (cs ++ (ds ++ es)) then
      (ap (λ v. cs ++ (ds ++ v)) (append-nil es)) F)
  last-three Post Then g x y cs ds (none_left p) h F = F

  middle-three : (Post : Posts Writtens) (Then : Posts Written) (g : Written → Written → Written → Written) (x :
      Written)
      (cs : List Change) (B : Renumbering Written) (C : (ℕ → Bool) → Renumbering Written) →
      ((y z : Written) (w : ℕ) → Post (more x (more y (more z none))) w b' → Then (g x y z) w b') →
      Found Post (before cs (over (more x)
      (next B (λ y t. over (more y) (next (C t) (λ z u. over (more z) (renumbered none [] u))))))) n l r b' l' k' →
      Found Then (before cs (next B (λ y t. over (g x y) (C t)))) n l r b' l' k'
  unfolding Found next over before
  middle-three Post Then g x cs (renumbered y ds then) C h F = last-three Post Then g x y cs ds (C then) (h y) F
  middle-three Post Then g x cs (none_left p) C h F = F

  pub parts-three : (Post : Posts Writtens) (Then : Posts Written) (g : Written → Written → Written → Written)
      (A : Renumbering Written) (B C : (ℕ → Bool) → Renumbering Written) →
      ((x y z : Written) (w : ℕ) → Post (more x (more y (more z none))) w b' → Then (g x y z) w b') →
      Found Post (next A (λ x t. over (more x) (next (B t)
      (λ y u. over (more y) (next (C u) (λ z v. over (more z) (renumbered none [] v))))))) n l r b' l' k' →
      Found Then (next A (λ x t. next (B t) (λ y u. over (g x y) (C u)))) n l r b' l' k'
  unfolding Found next
  parts-three Post Then g (renumbered x cs then) B C h F = middle-three Post Then g x cs (B then) C (h x) F
  parts-three Post Then g (none_left p) B C h F = F

  -- changes before
  found_before : {Y : Type 0} (Post : Posts Y) (B : Renumbering Y) (m c : ℕ) (l₀ : List ℕ) (cs : List Change) →
      n ≡ m + length cs → l ≡ notes m cs l₀ → Found Post B n l r b' l' k' → Found Post (before cs B) m l₀ r b' l' k'
  unfolding Found before
  found_before Post (renumbered y ds then) m c l₀ cs e g F =
      let i : n + length ds ≡ m + length (cs ++ ds) = omega (arith, length-append cs ds) in
      record {
        value = F.value;
        answer = F.answer ∙ ap (stepped F.value) i;
        post = F.post;
        list = F.list ∙ ap (λ x. notes n ds x) g ∙ ap (λ x. notes x ds (notes m cs l₀)) e ∙ sym
            (notes-append m cs ds l₀);
        takes = F.takes;
      }
  found_before Post (none_left p) m c l₀ cs e g F = F

-- an id was wanting
pub found-full : {X Y : Type 0} (Post : Posts X) (Then : Posts Y) (A : Renumbering X)
    (K : X → (ℕ → Bool) → Renumbering Y)
    (n p : ℕ) (l : List ℕ) (r : Answer) (b l₁ k b' l' k' : List ℕ) → Found Post A n l r b l₁ k → r ≡ Err p →
    Found Then (next A K) n l r b' l' k'
unfolding Found next
found-full Post Then (renumbered x cs then) K n p l r b l₁ k b' l' k' F e =
    not_full r F.value (n + length cs) p F.answer e
found-full Post Then (none_left q) K n p l r b l₁ k b' l' k' F e = F

-- one and then the next
pub found-next : {X Y : Type 0} (Post : Posts X) (Then : Posts Y) (A : Renumbering X)
    (K : X → (ℕ → Bool) → Renumbering Y)
    (n w c : ℕ) (l : List ℕ) (x r : Answer) (b₁ l₁ k₁ b' l' k' : List ℕ) → Found Post A n l x b₁ l₁ k₁ → x ≡ stepped w c →
    ((y : X) (then : ℕ → Bool) → Post y w b₁ → Takes k₁ then → Found Then (K y then) c l₁ r b' l' k') →
    Found Then (next A K) n l r b' l' k'
unfolding Found next
found-next Post Then (renumbered y cs then) K n w c l x r b₁ l₁ k₁ b' l' k' F e G =
    let i : stepped w c ≡ stepped F.value (n + length cs) = sym e ∙ F.answer in
    let v : F.value ≡ w = sym (done-value w c F.value (n + length cs) i) in
    let P : Post y w b₁ = subst (λ (z : ℕ). Post y z b₁) v F.post in
    found_before c l₁ r b' l' k' Then (K y then) n c l cs (done-changes w c F.value (n + length cs) i) F.list
    (G y then P F.takes)
found-next Post Then (none_left p) K n w c l x r b₁ l₁ k₁ b' l' k' F e G = not_full x w c p e F
