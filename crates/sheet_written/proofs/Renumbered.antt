-- A term that differs from one in order by ids of binders only, and whose ids are in order, is in order; so is a whole
-- sheet. Document 02 [4].
use Prim.Native.Nat.{ℕ, suc, ◌+◌}
use native.Mathlib.Omega.{arith}
use mathlib.Core.Path.{◌≡◌, refl, sym, ap, ◌∙◌}
use mathlib.Core.List.{List, [], ◌∷◌}
use lib.ListN.{length}
use Rattle.language.specs.declared.Numbers.{Numbers}
use Rattle.sheet_written.specs.Written.{Written}
use Rattle.sheet_written.specs.Written.{Parameter, Writtens, none, Name, Sheet}
use Rattle.sheet_written.specs.Meaning.{Binder, Meaning, private, argument, routine, named, retired, free, meaning}
use Rattle.sheet_written.specs.Meaning.{types_of}
use Rattle.sheet_written.specs.Fine.{depth, depths, FineUse, Fine, FineArgs, WellFormed}
use Rattle.sheet_written.specs.Ids.{FineIds, AllFineIds}
use Rattle.sheet_written.specs.Like.{Like, like_skip, like_diverge, like_truth, like_number, like_call, like_fetch}
use Rattle.sheet_written.specs.Like.{like_operate, like_assign, like_sequence, like_choose, like_while, like_new}
use Rattle.sheet_written.specs.Like.{like_procedure, Likes, like_none, like_more}
use Rattle.sheet_written.proofs.Renaming.{like-typed, like-sheet}

-- as many parts, one inside the other
mutual
  unfolding depth depths

  pub like-depth : {ns : List Name} {bs cs : List Binder} {W X : Written} → Like ns bs cs W X → depth W ≡ depth X
  like-depth like_skip = refl
  like-depth like_diverge = refl
  like-depth like_truth = refl
  like-depth like_number = refl
  like-depth (like_call e h a) = rw (like-depths a)
  like-depth (like_fetch x) = rw (like-depth x)
  like-depth (like_operate x y) = rw (like-depth x, like-depth y)
  like-depth (like_assign x y) = rw (like-depth x, like-depth y)
  like-depth (like_sequence x y) = rw (like-depth x, like-depth y)
  like-depth (like_choose b x y) = rw (like-depth b, like-depth x, like-depth y)
  like-depth (like_while x y) = rw (like-depth x, like-depth y)
  like-depth (like_new x) = rw (like-depth x)
  like-depth (like_procedure e x y) = rw (like-depth x, like-depth y)

  like-depths : {ns : List Name} {bs cs : List Binder} {ws ws' : Writtens} → Likes ns bs cs ws ws' →
      depths ws ≡ depths ws'
  like-depths like_none = refl
  like-depths (like_more x a) = rw (like-depth x, like-depths a)

length_types : (ps : List Parameter) → length ps ≡ length (types_of ps)
unfolding types_of
length_types [] = refl
length_types (p ∷ ps) = ap suc (length_types ps)

like-nothing : {ns : List Name} {bs cs : List Binder} {ws ws' : Writtens} → Likes ns bs cs ws ws' → ws ≡ none →
    ws' ≡ none
like-nothing like_none e = refl
like-nothing (like_more x a) e = let z : ◌≡◌ {A = ℕ} 0 1 = cc in absurd (omega arith)

-- a use
fine-use : (m : Meaning) (P P' : Type 0) (Q Q' : List ℕ → Type 0) → (P → P') → ((tys : List ℕ) → Q tys → Q' tys) →
    FineUse m P Q → FineUse m P' Q'
unfolding FineUse
fine-use (private k d) P P' Q Q' f g h = f h
fine-use (argument k ty) P P' Q Q' f g h = f h
fine-use (routine k ty tys) P P' Q Q' f g h = g tys h
fine-use (named often ty tys) P P' Q Q' f g h = g tys h
fine-use retired P P' Q Q' f g h = h
fine-use free P P' Q Q' f g h = h

module _ (N : Numbers) (ns : List Name) where
  -- THEOREM: in order
  mutual
    unfolding Fine FineArgs FineIds AllFineIds

    pub like-fine : {bs cs : List Binder} {W X : Written} → Like ns bs cs W X → Fine N ns bs W → FineIds ns X →
        Fine N ns cs X
    like-fine like_skip f g = tt
    like-fine like_diverge f g = f
    like-fine like_truth f g = f
    like-fine like_number f g = f
    like-fine (like_call {bs = bs} {cs = cs} {id' = id'} {ws = ws} {ws' = ws'} e h a) f g = (
      g.0,
      fine-use (meaning ns cs id') (ws ≡ none) (ws' ≡ none) (λ tys. FineArgs N ns bs ws tys)
          (λ tys. FineArgs N ns cs ws' tys) (like-nothing a) (λ tys x. like-fine-args a tys x g.1) (rw e at f.1),
    )
    like-fine (like_fetch x) f g = (like-fine x f.0 g, rw (like-typed N ns x) at f.1)
    like-fine (like_operate x y) f g = (
      f.0,
      like-fine x f.1 g.0,
      sym (like-typed N ns x) ∙ f.2,
      like-fine y f.3 g.1,
      sym (like-typed N ns y) ∙ f.4,
    )
    like-fine (like_assign x y) f g = (
      like-fine x f.0 g.0,
      rw (like-typed N ns x) at f.1,
      like-fine y f.2 g.1,
      ap (λ (k : ℕ). k + 2) (sym (like-typed N ns y)) ∙ f.3 ∙ like-typed N ns x,
    )
    like-fine (like_sequence x y) f g =
        (like-fine x f.0 g.0, sym (like-typed N ns x) ∙ f.1, like-fine y f.2 g.1)
    like-fine (like_choose b x y) f g = (
      like-fine b f.0 g.0,
      sym (like-typed N ns b) ∙ f.1,
      like-fine x f.2 g.1,
      like-fine y f.3 g.2,
      sym (like-typed N ns y) ∙ f.4 ∙ like-typed N ns x,
    )
    like-fine (like_while x y) f g = (
      like-fine x f.0 g.0,
      sym (like-typed N ns x) ∙ f.1,
      like-fine y f.2 g.1,
      sym (like-typed N ns y) ∙ f.3,
    )
    like-fine (like_new x) f g =
        (g.0, g.1, f.2, f.3, like-fine x f.4 g.2, sym (like-typed N ns x) ∙ f.5)
    like-fine (like_procedure {ps = ps} {ps' = ps'} e x y) f g =
        let l : length ps' ≡ length ps = length_types ps' ∙ ap length (sym e) ∙ sym (length_types ps) in (
          g.0,
          g.1,
          f.2,
          omega (arith, f.3),
          g.2,
          like-fine x f.5 g.3,
          sym (like-typed N ns x) ∙ f.6,
          like-fine y f.7 g.4,
        )

    like-fine-args : {bs cs : List Binder} {ws ws' : Writtens} → Likes ns bs cs ws ws' → (tys : List ℕ) →
        FineArgs N ns bs ws tys → AllFineIds ns ws' → FineArgs N ns cs ws' tys
    like-fine-args like_none [] f g = tt
    like-fine-args like_none (ty ∷ tys) f g = absurd f
    like-fine-args (like_more x a) [] f g = absurd f
    like-fine-args (like_more x a) (ty ∷ tys) f g =
        (like-fine x f.0 g.0, sym (like-typed N ns x) ∙ f.1, like-fine-args a tys f.2 g.1)

-- THEOREM: an accepted sheet stays accepted
pub like-accepted : (S : Sheet) (W : Written) → Like S.names [] [] S.term W → FineIds S.names W →
    WellFormed S →
    WellFormed (record { numbers = S.numbers; names = S.names; term = W })
like-accepted S W h g A =
    let e = like-sheet S W h in
    let d : depth S.term ≡ depth W = like-depth h in
    record {
      in_order = record {
        z_above = A.in_order.z_above;
        z_below = A.in_order.z_below;
        fine_names = A.in_order.fine_names;
        fine_term = like-fine S.numbers S.names h A.in_order.fine_term g;
      };
      rule_below = A.rule_below;
      few_names = A.few_names;
      shallow = omega (arith, A.shallow);
      small = rw (e.0, e.1) at A.small;
    }
