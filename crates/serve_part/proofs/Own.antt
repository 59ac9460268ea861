-- A part that is in order in its blocks is in order as a sheet of its own. Document 02 [3]: no binder inside it has the
-- id of a block around it.
use Prim.Native.Nat.{ℕ, ◌+◌}
use native.Mathlib.Omega.{arith}
use mathlib.Core.Path.{◌≡◌, refl, sym, ◌∙◌, subst}
use mathlib.Core.Bool.{Bool, true, false, ◌||◌}
use mathlib.Core.List.{List, [], ◌∷◌}
use lib.ListN.{length}
use lib.Dec.{eqb}
use Rattle.language.specs.declared.Numbers.{Numbers}
use Rattle.language.specs.Term.{Often}
use Rattle.sheet_written.specs.Written.{Written, skip, diverge, truth, number, call, fetch, operate, assign, sequence}
use Rattle.sheet_written.specs.Written.{while, choose, new, procedure, Parameter, Writtens, none, more, Name}
use Rattle.sheet_written.specs.Meaning.{Binder, a_block, a_parameter, a_procedure, Meaning, private, argument, routine}
use Rattle.sheet_written.specs.Meaning.{named, retired, free, declared, id_of, meant, meaning, inside, after, types_of}
use Rattle.sheet_written.specs.Meaning.{use_type, typed}
use Rattle.sheet_written.specs.Fine.{FineUse, FineParameters, Fine, FineArgs}
use Rattle.sheet_written.specs.Hiding.{is_held, Unheld, ApartParameters, Apart, AllApart}
use Rattle.sheet_written.proofs.Tests.{by-test}
use Rattle.serve_part.proofs.Twins.{same_typed}

pub or-false : (a b : Bool) → (a || b) ≡ false → (a ≡ false) × (b ≡ false)
or-false true b e = let z : ◌≡◌ {A = ℕ} 0 1 = cc in absurd (omega arith)
or-false false b e = (refl, e)

-- what an id means in the whole sheet and in the part's own
pub data Pair : Meaning → Meaning → Type 0 where
  both-private : {k l d : ℕ} → Pair (private k d) (private l d)
  both-argument : {k l ty : ℕ} → Pair (argument k ty) (argument l ty)
  both-routine : {k l ty : ℕ} {tys : List ℕ} → Pair (routine k ty tys) (routine l ty tys)
  now-named : {k d : ℕ} {o : Often} → Pair (private k d) (named o (2 + d) [])
  both-named : {o : Often} {ty : ℕ} {tys : List ℕ} → Pair (named o ty tys) (named o ty tys)
  both-retired : Pair retired retired
  both-free : Pair free free

pair-type : {s s' : Meaning} → Pair s s' → use_type s ≡ use_type s'
unfolding use_type
pair-type both-private = refl
pair-type both-argument = refl
pair-type both-routine = refl
pair-type now-named = refl
pair-type both-named = refl
pair-type both-retired = refl
pair-type both-free = refl

pair-meant : (k l : ℕ) (b : Binder) → Pair (meant k b) (meant l b)
unfolding meant
pair-meant k l (a_block id d) = both-private
pair-meant k l (a_parameter id ty) = both-argument
pair-meant k l (a_procedure id ty tys) = both-routine

module _ (N : Numbers) (ns ns' : List Name) where
  -- two scopes: the binders of the second are those of the first without the blocks around the part
  pub record Scopes (bs cs : List Binder) : Type 0 where
    pub pair : (id : ℕ) → Pair (meaning ns bs id) (meaning ns' cs id)
    pub unheld : (id : ℕ) → Unheld bs id → Unheld cs id
    pub undeclared : (id : ℕ) → Unheld bs id → declared ns id ≡ free → declared ns' id ≡ free

  scopes-more : (b : Binder) (bs cs : List Binder) → Scopes bs cs → Scopes (b ∷ bs) (b ∷ cs)
  unfolding meaning is_held Unheld
  scopes-more b bs cs s = record {
    pair = λ id. by-test (eqb (id_of b) id)
        (λ t. rw t (pair-meant (length bs) (length cs) b))
        (λ t. rw t (s.pair id));
    unheld = λ id h. let (x, y) = or-false (eqb (id_of b) id) (is_held bs id) h in rw x (s.unheld id y);
    undeclared = λ id h. s.undeclared id (or-false (eqb (id_of b) id) (is_held bs id) h).1;
  }

  scopes-inside : (ps : List Parameter) (bs cs : List Binder) → Scopes bs cs → Scopes (inside ps bs) (inside ps cs)
  unfolding inside
  scopes-inside [] bs cs s = s
  scopes-inside (p ∷ ps) bs cs s =
      let b : Binder = a_parameter p.id p.holds in
      scopes-inside ps (b ∷ bs) (b ∷ cs) (scopes-more b bs cs s)

  own-typed : (W : Written) (bs cs : List Binder) → Scopes bs cs → typed ns bs W ≡ typed ns' cs W
  own-typed W bs cs s = same_typed ns ns' W bs cs (λ id. pair-type (s.pair id))

  own-parameters : (ps earlier : List Parameter) (bs cs : List Binder) → Scopes bs cs → ApartParameters bs ps →
      FineParameters ns earlier ps → FineParameters ns' earlier ps
  unfolding ApartParameters FineParameters
  own-parameters [] earlier bs cs s a f = tt
  own-parameters (p ∷ ps) earlier bs cs s a f =
      (f.0, s.undeclared p.id a.0 f.1, f.2, f.3, own-parameters ps (p ∷ earlier) bs cs s a.1 f.4)

  apart-parameters : (ps : List Parameter) (bs cs : List Binder) → Scopes bs cs → ApartParameters bs ps →
      ApartParameters cs ps
  unfolding ApartParameters
  apart-parameters [] bs cs s a = tt
  apart-parameters (p ∷ ps) bs cs s a = (s.unheld p.id a.0, apart-parameters ps bs cs s a.1)

  no_arguments : (cs : List Binder) (ws : Writtens) → ws ≡ none → FineArgs N ns' cs ws []
  unfolding FineArgs
  no_arguments cs ws e = subst (λ x. FineArgs N ns' cs x []) (sym e) tt

  own-use : (bs cs : List Binder) (ws : Writtens) {s s' : Meaning} → Pair s s' →
      ((tys : List ℕ) → FineArgs N ns bs ws tys → FineArgs N ns' cs ws tys) →
      FineUse s (ws ≡ none) (λ tys. FineArgs N ns bs ws tys) → FineUse s' (ws ≡ none) (λ tys. FineArgs N ns' cs ws tys)
  unfolding FineUse
  own-use bs cs ws both-private g f = f
  own-use bs cs ws both-argument g f = f
  own-use bs cs ws (both-routine {tys = tys}) g f = g tys f
  own-use bs cs ws now-named g f = no_arguments cs ws f
  own-use bs cs ws (both-named {tys = tys}) g f = g tys f
  own-use bs cs ws both-retired g f = f
  own-use bs cs ws both-free g f = f

  -- THEOREM: in order there, in order here
  mutual
    unfolding Fine FineArgs Apart AllApart after

    pub own-fine : (W : Written) (bs cs : List Binder) → Scopes bs cs → Apart bs W → Fine N ns bs W → Fine N ns' cs W
    own-fine skip bs cs s a f = tt
    own-fine (diverge ty) bs cs s a f = f
    own-fine (truth b) bs cs s a f = f
    own-fine (number b) bs cs s a f = f
    own-fine (call id ws) bs cs s a f =
        (f.0, own-use bs cs ws (s.pair id) (λ tys g. own-fine-args ws bs cs tys s a g) f.1)
    own-fine (fetch v) bs cs s a f = (own-fine v bs cs s a f.0, rw (← own-typed v bs cs s) f.1)
    own-fine (operate op x y) bs cs s a f = (
      f.0,
      own-fine x bs cs s a.0 f.1,
      sym (own-typed x bs cs s) ∙ f.2,
      own-fine y bs cs s a.1 f.3,
      sym (own-typed y bs cs s) ∙ f.4,
    )
    own-fine (assign x y) bs cs s a f = (
      own-fine x bs cs s a.0 f.0,
      rw (← own-typed x bs cs s) f.1,
      own-fine y bs cs s a.1 f.2,
      rw (← own-typed x bs cs s, ← own-typed y bs cs s) f.3,
    )
    own-fine (sequence x y) bs cs s a f =
        (own-fine x bs cs s a.0 f.0, sym (own-typed x bs cs s) ∙ f.1, own-fine y bs cs s a.1 f.2)
    own-fine (choose b x y) bs cs s a f = (
      own-fine b bs cs s a.0 f.0,
      sym (own-typed b bs cs s) ∙ f.1,
      own-fine x bs cs s a.1 f.2,
      own-fine y bs cs s a.2 f.3,
      sym (own-typed y bs cs s) ∙ f.4 ∙ own-typed x bs cs s,
    )
    own-fine (while x y) bs cs s a f = (
      own-fine x bs cs s a.0 f.0,
      sym (own-typed x bs cs s) ∙ f.1,
      own-fine y bs cs s a.1 f.2,
      sym (own-typed y bs cs s) ∙ f.3,
    )
    own-fine (new id d c) bs cs s a f =
        let t = scopes-more (a_block id d) bs cs s in (
          f.0,
          s.undeclared id a.0 f.1,
          f.2,
          f.3,
          own-fine c (a_block id d ∷ bs) (a_block id d ∷ cs) t a.1 f.4,
          sym (own-typed c (a_block id d ∷ bs) (a_block id d ∷ cs) t) ∙ f.5,
        )
    own-fine (procedure id ty ps x y) bs cs s a f =
        let t = scopes-inside ps bs cs s in (
          f.0,
          s.undeclared id a.0 f.1,
          f.2,
          f.3,
          own-parameters ps [] bs cs s a.1 f.4,
          own-fine x (inside ps bs) (inside ps cs) t a.2 f.5,
          sym (own-typed x (inside ps bs) (inside ps cs) t) ∙ f.6,
          own-fine y (a_procedure id ty (types_of ps) ∷ bs) (a_procedure id ty (types_of ps) ∷ cs)
              (scopes-more (a_procedure id ty (types_of ps)) bs cs s) a.3 f.7,
        )

    own-fine-args : (ws : Writtens) (bs cs : List Binder) (tys : List ℕ) → Scopes bs cs → AllApart bs ws →
        FineArgs N ns bs ws tys → FineArgs N ns' cs ws tys
    own-fine-args none bs cs [] s a f = tt
    own-fine-args none bs cs (ty ∷ tys) s a f = absurd f
    own-fine-args (more w ws) bs cs [] s a f = absurd f
    own-fine-args (more w ws) bs cs (ty ∷ tys) s a f =
        (own-fine w bs cs s a.0 f.0, sym (own-typed w bs cs s) ∙ f.1, own-fine-args ws bs cs tys s a.1 f.2)

  mutual
    unfolding Apart AllApart after

    pub own-apart : (W : Written) (bs cs : List Binder) → Scopes bs cs → Apart bs W → Apart cs W
    own-apart skip bs cs s a = tt
    own-apart (diverge ty) bs cs s a = tt
    own-apart (truth b) bs cs s a = tt
    own-apart (number b) bs cs s a = tt
    own-apart (call id ws) bs cs s a = own-apart-args ws bs cs s a
    own-apart (fetch v) bs cs s a = own-apart v bs cs s a
    own-apart (operate op x y) bs cs s a = (own-apart x bs cs s a.0, own-apart y bs cs s a.1)
    own-apart (assign x y) bs cs s a = (own-apart x bs cs s a.0, own-apart y bs cs s a.1)
    own-apart (sequence x y) bs cs s a = (own-apart x bs cs s a.0, own-apart y bs cs s a.1)
    own-apart (choose b x y) bs cs s a =
        (own-apart b bs cs s a.0, own-apart x bs cs s a.1, own-apart y bs cs s a.2)
    own-apart (while x y) bs cs s a = (own-apart x bs cs s a.0, own-apart y bs cs s a.1)
    own-apart (new id d c) bs cs s a = (
      s.unheld id a.0,
      own-apart c (a_block id d ∷ bs) (a_block id d ∷ cs) (scopes-more (a_block id d) bs cs s)
          a.1,
    )
    own-apart (procedure id ty ps x y) bs cs s a = (
      s.unheld id a.0,
      apart-parameters ps bs cs s a.1,
      own-apart x (inside ps bs) (inside ps cs) (scopes-inside ps bs cs s) a.2,
      own-apart y (a_procedure id ty (types_of ps) ∷ bs) (a_procedure id ty (types_of ps) ∷ cs)
          (scopes-more (a_procedure id ty (types_of ps)) bs cs s) a.3,
    )

    own-apart-args : (ws : Writtens) (bs cs : List Binder) → Scopes bs cs → AllApart bs ws → AllApart cs ws
    own-apart-args none bs cs s a = tt
    own-apart-args (more w ws) bs cs s a = (own-apart w bs cs s a.0, own-apart-args ws bs cs s a.1)
