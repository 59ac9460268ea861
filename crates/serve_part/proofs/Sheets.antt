-- The sheet of a part: its names, its term and its depth are in order where the whole sheet is accepted.
use Prim.Native.Nat.{ℕ, ◌+◌, ◌≤◌, ◌<◌}
use native.Mathlib.Omega.{arith}
use mathlib.Core.Path.{◌≡◌, refl, sym, ap, ◌∙◌}
use mathlib.Core.Logic.{◌⊎◌, inl, inr}
use mathlib.Core.Bool.{Bool, true, false, ◌||◌}
use mathlib.Core.List.{List, [], ◌∷◌, ◌++◌}
use lib.Dec.{eqb}
use borrow.Author.Tests.{eq-eqb}
use Rattle.language.specs.declared.Numbers.{Numbers}
use Rattle.language.specs.Term.{freely}
use Rattle.sheet_written.specs.Written.{Written, Name, declare, retire, Sheet}
use Rattle.sheet_written.specs.Meaning.{Binder, a_block, a_parameter, a_procedure, Meaning, private, argument, routine}
use Rattle.sheet_written.specs.Meaning.{named, retired, free, declared, id_of, meaning}
use Rattle.sheet_written.specs.Fine.{depth, depths, FineUse, Fine, FineArgs, AllTypes, FineNames, InOrder}
use Rattle.sheet_written.specs.Hiding.{is_held, Unheld, Apart, AllApart}
use Rattle.sheet_records.specs.Limits.{greatest_rule, greatest_depth}
use Rattle.sheet_reader.specs.Fine.{Accepted}
use Rattle.serve_part.specs.Around.{Around, whole, in_call, in-fetch, in_left, in_right, in_target, in_source}
use Rattle.serve_part.specs.Around.{in_first, in_second, in_test, in_round, in_if, in_then, in_else, in-new, Among}
use Rattle.serve_part.specs.Around.{in_this, in_later, filled, all_filled, enclosing, all_enclosing}
use Rattle.serve_part.specs.Part.{DeclaredAs, as_name, same_name, same_retired, same_free, PartOf, declaring}
use Rattle.serve_part.specs.Part.{part_sheet, Lists, first, later}
use Rattle.serve_part.specs.Rules.{AnyOrder, PartAccepted}
use Rattle.serve_part.proofs.Filling.{all-some}
use Rattle.serve_part.proofs.Records.{id_in, News, declared-past, free-none, lists-either, no_record, any_order}
use Rattle.serve_part.proofs.Own.{or-false, Pair, now-named, both-named, both-retired, both-free, Scopes, own-fine}
use Rattle.serve_part.proofs.Own.{own-apart}

-- a part is no deeper than the whole
mutual
  unfolding filled all_filled depth depths

  deep : (C : Around) (m : Written) → depth m ≤ depth (filled C m)
  deep whole m = omega arith
  deep (in_call id A) m = omega (arith, deeps A m)
  deep (in-fetch C) m = omega (arith, deep C m)
  deep (in_left op C y) m = omega (arith, deep C m)
  deep (in_right op x C) m = omega (arith, deep C m)
  deep (in_target C y) m = omega (arith, deep C m)
  deep (in_source x C) m = omega (arith, deep C m)
  deep (in_first C y) m = omega (arith, deep C m)
  deep (in_second x C) m = omega (arith, deep C m)
  deep (in_test C y) m = omega (arith, deep C m)
  deep (in_round x C) m = omega (arith, deep C m)
  deep (in_if C x y) m = omega (arith, deep C m)
  deep (in_then b C y) m = omega (arith, deep C m)
  deep (in_else b x C) m = omega (arith, deep C m)
  deep (in-new id d C) m = omega (arith, deep C m)

  deeps : (A : Among) (m : Written) → depth m ≤ depths (all_filled A m)
  deeps (in_this C ws) m = omega (arith, deep C m)
  deeps (in_later w A) m = omega (arith, deeps A m)

-- blocks in order: their ids are not declared, and no two are the same
unfoldable Ordered : List Name → List Binder → Type 0
Ordered ns [] = Unit
Ordered ns (a_block id d ∷ bs) =
    (id < 255) × (declared ns id ≡ free) × (0 < d) × (d < 3) × Unheld bs id × Ordered ns bs
Ordered ns (a_parameter id ty ∷ bs) = ⊥
Ordered ns (a_procedure id ty tys ∷ bs) = ⊥

-- what holds of a part where it stands
record AtPart (N : Numbers) (ns : List Name) (bs : List Binder) (m : Written) : Type 0 where
  ordered : Ordered ns bs
  apart : Apart bs m
  in_order : Fine N ns bs m

-- a use with arguments has a list of their types
arguments : (s : Meaning) {A : Type 0} {Q : List ℕ → Type 0} → (A → ⊥) → FineUse s A Q → (tys : List ℕ) × Q tys
unfolding FineUse
arguments (private k d) h f = absurd (h f)
arguments (argument k ty) h f = absurd (h f)
arguments (routine k ty tys) h f = (tys, f)
arguments (named often ty tys) h f = (tys, f)
arguments retired h f = absurd f
arguments free h f = absurd f

module _ (N : Numbers) (ns : List Name) (m : Written) where
  mutual
    unfolding filled all_filled enclosing all_enclosing Fine FineArgs Apart AllApart Ordered

    at_part : (C : Around) (bs : List Binder) → Ordered ns bs → Apart bs (filled C m) → Fine N ns bs (filled C m) →
        AtPart N ns (enclosing C bs) m
    at_part whole bs o a f = record { ordered = o; apart = a; in_order = f }
    at_part (in_call id A) bs o a f =
        let (tys, g) = arguments (meaning ns bs id) (all-some A m) f.1 in
        at-parts A bs tys o a g
    at_part (in-fetch C) bs o a f = at_part C bs o a f.0
    at_part (in_left op C y) bs o a f = at_part C bs o a.0 f.1
    at_part (in_right op x C) bs o a f = at_part C bs o a.1 f.3
    at_part (in_target C y) bs o a f = at_part C bs o a.0 f.0
    at_part (in_source x C) bs o a f = at_part C bs o a.1 f.2
    at_part (in_first C y) bs o a f = at_part C bs o a.0 f.0
    at_part (in_second x C) bs o a f = at_part C bs o a.1 f.2
    at_part (in_test C y) bs o a f = at_part C bs o a.0 f.0
    at_part (in_round x C) bs o a f = at_part C bs o a.1 f.2
    at_part (in_if C x y) bs o a f = at_part C bs o a.0 f.0
    at_part (in_then b C y) bs o a f = at_part C bs o a.1 f.2
    at_part (in_else b x C) bs o a f = at_part C bs o a.2 f.3
    at_part (in-new id d C) bs o a f =
        at_part C (a_block id d ∷ bs) (f.0, f.1, f.2, f.3, a.0, o) a.1 f.4

    at-parts : (A : Among) (bs : List Binder) (tys : List ℕ) → Ordered ns bs → AllApart bs (all_filled A m) →
        FineArgs N ns bs (all_filled A m) tys → AtPart N ns (all_enclosing A bs) m
    at-parts (in_this C ws) bs [] o a f = absurd f
    at-parts (in_this C ws) bs (ty ∷ tys) o a f = at_part C bs o a.0 f.0
    at-parts (in_later w A) bs [] o a f = absurd f
    at-parts (in_later w A) bs (ty ∷ tys) o a f = at-parts A bs tys o a.1 f.2

ordered-news : (ns : List Name) (bs : List Binder) → Ordered ns bs → News bs
unfolding Ordered News
ordered-news ns [] o = tt
ordered-news ns (a_block id d ∷ bs) o = ordered-news ns bs o.5
ordered-news ns (a_parameter id ty ∷ bs) o = absurd o
ordered-news ns (a_procedure id ty tys ∷ bs) o = absurd o

-- the names: records put before others, the last first
onto : List Name → List Name → List Name
onto [] e = e
onto (n ∷ ns) e = onto ns (n ∷ e)

fine-append : (ns ms e : List Name) → FineNames e ns → FineNames (onto ns e) ms → FineNames e (ns ++ ms)
unfolding FineNames onto
fine-append [] ms e f g = g
fine-append (declare often id ty tys ∷ ns) ms e f g =
    (f.0, f.1, f.2, f.3, f.4, fine-append ns ms (declare often id ty tys ∷ e) f.5 g)
fine-append (retire id ∷ ns) ms e f g = (f.0, f.1, fine-append ns ms (retire id ∷ e) f.2 g)

onto-free : (ns e : List Name) (id : ℕ) → ((n : Name) → Lists n ns → id_in n ≡ id → ⊥) → declared e id ≡ free →
    declared (onto ns e) id ≡ free
unfolding onto
onto-free [] e id h f = f
onto-free (n ∷ ns) e id h f =
    onto-free ns (n ∷ e) id (λ k l. h k (later l)) (declared-past n e id (h n first) ∙ f)

-- what is declared is held
held_more : (a : Bool) {b : Bool} → b ≡ true → (a || b) ≡ true
held_more true e = refl
held_more false e = e

declaring-held : (bs : List Binder) (n : Name) → Lists n (declaring bs) → is_held bs (id_in n) ≡ true
unfolding declaring is_held id_of id_in
declaring-held [] n l = absurd (no_record l refl)
declaring-held (a_block id d ∷ bs) n l = go n (declaring-held bs n) (lists-either (declaring bs) l)
  where
    go : (n : Name) → (Lists n (declaring bs) → is_held bs (id_in n) ≡ true) →
        Lists n (declaring bs) ⊎ Lists n (declare freely id (2 + d) [] ∷ []) →
        (eqb id (id_in n) || is_held bs (id_in n)) ≡ true
    go n h (inl x) = held_more (eqb id (id_in n)) (h x)
    go n h (inr first) = rw (eq-eqb id id refl) refl
    go n h (inr (later x)) = elim x [ ]
declaring-held (a_parameter id ty ∷ bs) n l = held_more (eqb id (id_in n)) (declaring-held bs n l)
declaring-held (a_procedure id ty tys ∷ bs) n l = held_more (eqb id (id_in n)) (declaring-held bs n l)

fine-declaring : (ns : List Name) (bs : List Binder) → Ordered ns bs → FineNames (onto ns []) (declaring bs)
unfolding Ordered Unheld FineNames AllTypes declaring declared
fine-declaring ns [] o = tt
fine-declaring ns (a_block id d ∷ bs) o =
    fine-append (declaring bs) (declare freely id (2 + d) [] ∷ []) (onto ns []) (fine-declaring ns bs o.5) (
      o.0,
      onto-free (declaring bs) (onto ns []) id
          (λ n l e. unequal (sym o.4 ∙ ap (is_held bs) (sym e) ∙ declaring-held bs n l))
          (onto-free ns [] id (λ n l e. free-none l o.1 e) refl),
      omega (arith, o.3),
      omega arith,
      tt,
      tt,
    )
  where
    unequal : false ≡ true → ⊥
    unequal e = let z : ◌≡◌ {A = ℕ} 0 1 = cc in absurd (omega arith)
fine-declaring ns (a_parameter id ty ∷ bs) o = absurd o
fine-declaring ns (a_procedure id ty tys ∷ bs) o = absurd o

-- an id that no block holds means what it means without them
unheld-meaning : (ns : List Name) (bs : List Binder) (id : ℕ) → Unheld bs id → meaning ns bs id ≡ declared ns id
unfolding is_held Unheld meaning
unheld-meaning ns [] id h = refl
unheld-meaning ns (b ∷ bs) id h =
    let (x, y) = or-false (eqb (id_of b) id) (is_held bs id) h in rw x (unheld-meaning ns bs id y)

first-pair : {s s' : Meaning} → DeclaredAs s s' → Pair s s'
first-pair as_name = now-named
first-pair same_name = both-named
first-pair same_retired = both-retired
first-pair same_free = both-free

as-free : {s s' : Meaning} → DeclaredAs s s' → s ≡ free → s' ≡ free
as-free as_name e = let z : ◌≡◌ {A = ℕ} 0 1 = cc in absurd (omega arith)
as-free same_name e = let z : ◌≡◌ {A = ℕ} 0 1 = cc in absurd (omega arith)
as-free same_retired e = let z : ◌≡◌ {A = ℕ} 0 1 = cc in absurd (omega arith)
as-free same_free e = refl

first-scopes : (N : Numbers) (ns ns' : List Name) (bs : List Binder) →
    ((id : ℕ) → DeclaredAs (meaning ns bs id) (declared ns' id)) → Scopes N ns ns' bs []
unfolding meaning is_held Unheld
first-scopes N ns ns' bs h = record {
  pair = λ id. first-pair (h id);
  unheld = λ id u. refl;
  undeclared = λ id u e. as-free (h id) (unheld-meaning ns bs id u ∙ e);
}

-- what holds of a part of an accepted sheet
of-sheet : (S : Sheet) (C : Around) (m : Written) → Accepted S → S.term ≡ filled C m →
    AtPart S.numbers S.names (enclosing C []) m
unfolding Ordered
of-sheet S C m A e =
    at_part S.numbers S.names m C [] tt ((rw e at A).apart refl) (rw e at A).ordered.in_order.fine_term

-- THEOREM: the records of names may stand in any order
pub part-any-order : AnyOrder
unfolding part_sheet
part-any-order S P C m A e B numbers term h = record {
  numbers = rw numbers;
  names = any_order S.names P.names (enclosing C []) A.ordered.in_order.fine_names
      B.ordered.in_order.fine_names
      (ordered-news S.names (enclosing C []) (of-sheet S C m A e).ordered) h;
  term = term;
}

-- a sheet in order but for its length, its number of names and its size
pub record Nearly (P : Sheet) : Type 0 where
  pub in_order : InOrder P
  pub rule_below : P.numbers.rule ≤ greatest_rule
  pub shallow : depth P.term ≤ greatest_depth
  pub apart : Apart [] P.term

pub part-in-order : (S : Sheet) (C : Around) (m : Written) → Accepted S → S.term ≡ filled C m →
    Nearly (part_sheet S C m) × PartOf S C m (part_sheet S C m)
unfolding part_sheet
part-in-order S C m A e =
    let bs = enclosing C [] in
    let ns' = S.names ++ declaring bs in
    let x = of-sheet S C m A e in
    let f = fine-append S.names (declaring bs) [] A.ordered.in_order.fine_names
    (fine-declaring S.names bs x.ordered) in
    let names = any_order S.names ns' bs A.ordered.in_order.fine_names f
    (ordered-news S.names bs x.ordered)
    (λ n. (λ l. l, λ l. l)) in
    let s = first-scopes S.numbers S.names ns' bs names in (
      record {
        in_order = record {
          z_above = A.ordered.in_order.z_above;
          z_below = A.ordered.in_order.z_below;
          fine_names = f;
          fine_term = own-fine S.numbers S.names ns' m bs [] s x.apart x.in_order;
        };
        rule_below = A.ordered.rule_below;
        shallow = omega (arith, deep C m, A.ordered.shallow, ap depth e);
        apart = own-apart S.numbers S.names ns' m bs [] s x.apart;
      },
      record { numbers = refl; names = names; term = refl },
    )

-- THEOREM: the sheet of a part is accepted, but for its length, its number of names and its size
pub part-accepted : PartAccepted
part-accepted S C m A e short few small =
    let (O, p) = part-in-order S C m A e in (
      record {
        ordered = record {
          in_order = O.in_order;
          rule_below = O.rule_below;
          few_names = few;
          shallow = O.shallow;
          small = small;
        };
        short = short;
        apart = λ i. O.apart;
      },
      p,
    )
