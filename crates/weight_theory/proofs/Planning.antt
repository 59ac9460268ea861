-- How any record but one of kind 28 is weighed.
use Prim.Native.Nat.{ℕ, suc, ◌+◌, ◌*◌, ◌≤◌, ◌<◌}
use native.Mathlib.Omega.{arith}
use mathlib.Core.List.{List}
use mathlib.Core.Path.{◌≡◌, refl, sym, ap, ◌∙◌}
use lib.ListN.{length}
use Rattle.language.specs.declared.Numbers.{Numbers}
use Rattle.language.specs.Term.{Often}
use Rattle.sheet_parts.specs.Rule.{values}
use Rattle.sheet_written.specs.Written.{Written, call, Writtens, Name}
use Rattle.sheet_written.specs.Meaning.{meaning, routine, named}
use Rattle.sheet_written.specs.Fine.{Fine, FineUse, FineArgs, depth, depths}
use Rattle.sheet_written.specs.Context.{Context, binders}
use Rattle.sheet_rows.specs.PartKind.{KIND, DETAIL, PROCEDURE, ROUTINE}
use Rattle.sheet_rows.specs.Row.{word}
use Rattle.sheet_written.specs.Table.{PartRow, Shown, shown_skip, shown_diverge, shown_truth, shown_number}
use Rattle.sheet_written.specs.Table.{shown_private, shown_parameter, shown_use, shown_name, shown_fetch, shown_operate}
use Rattle.sheet_written.specs.Table.{shown_assign, shown_sequence, shown_choose, shown_while, shown_new, shown_procedure}
use Rattle.sheet_written.specs.Table.{ShownArgs, use_detail}
use Rattle.sheet_written.proofs.Types.{operands-values}
use Rattle.sheet_written.proofs.Contexts.{Found, Found-right, found}
use Rattle.weight_theory.specs.Weighed.{Ready, Given}
use Rattle.weight_theory.proofs.Plans.{Plan, plan-skip, plan-diverge, plan-truth, plan-number, plan-private}
use Rattle.weight_theory.proofs.Plans.{plan-parameter, plan-fetch, plan-operate, plan-assign, plan-sequence}
use Rattle.weight_theory.proofs.Plans.{plan-while, plan-choose, plan_new}
use Rattle.weight_theory.proofs.Calls.{plan-name, plan-use}

module _ (N : Numbers) (ns : List Name) (t : List ℕ) (l h k : ℕ) (long : length t ≡ 58313) where
  at-kind : {Γ : Context} {π : ℕ → ℕ} {at end kind : ℕ} {W : Written} → PartRow N ns t Γ kind W at end →
      Plan N ns t h k Γ π at end W kind (word t at DETAIL) →
      Plan N ns t h k Γ π at end W (word t at KIND) (word t at DETAIL)
  at-kind r p = rw r.kinded p

  -- the arguments of a name are in order
  named-args : (Γ : Context) (id ty : ℕ) (often : Often) (tys : List ℕ) (ws : Writtens) →
      meaning ns (binders Γ) id ≡ named often ty tys → Fine N ns (binders Γ) (call id ws) →
      (id < 256) × FineArgs N ns (binders Γ) ws tys
  unfolding Fine FineUse
  named-args Γ id ty often tys ws e f = (omega (arith, f.0), rw e at f.1)

  its-procedure : (Γ : Context) (id s ty : ℕ) (tys : List ℕ) → meaning ns (binders Γ) id ≡ routine s ty tys →
      Found Γ s tys
  unfolding Found-right
  its-procedure Γ id s ty tys e = rw e at (found ns Γ id)

  use-planned : (Γ : Context) (π : ℕ → ℕ) (at end from id s ty : ℕ) (tys : List ℕ) (ws : Writtens) →
      meaning ns (binders Γ) id ≡ routine s ty tys → word t at DETAIL ≡ use_detail (π s) (length tys) →
      length tys ≤ 4 → at < from → ShownArgs N ns t Γ π at 0 from end ws tys → depths ws ≤ l →
      length (binders Γ) + 4 * suc l ≤ 128 → h ≤ 93 → at < 4096 → Ready N ns t Γ π at h → k ≡ s →
      Plan N ns t h k Γ π at end (call id ws) ROUTINE (word t at DETAIL)
  use-planned Γ π at end from id s ty tys ws m w c b a d e g i R n =
      let X : Found Γ s tys = its-procedure Γ id s ty tys m in
      rw n (plan-use N ns t h s Γ π at end long (word t at DETAIL) tys X w i g
      (R.each X.around X.parameters X.body X.sees) l id ty from ws e m c b a d)

  planned : {Γ : Context} {π : ℕ → ℕ} {at end : ℕ} {W : Written} → Shown N ns t Γ π at end W →
      Fine N ns (binders Γ) W → depth W ≤ suc l → length (binders Γ) + 4 * suc l ≤ 128 → h ≤ 93 →
      Ready N ns t Γ π at h →
      ((id j ty : ℕ) (ws : Writtens) (tys : List ℕ) → W ≡ call id ws → meaning ns (binders Γ) id ≡ routine j ty tys →
      k ≡ j) →
      (word t at KIND ≡ PROCEDURE → ⊥) → Plan N ns t h k Γ π at end W (word t at KIND) (word t at DETAIL)
  unfolding depth depths Fine
  planned {Γ} {π} {at} {end} (shown_skip r) f d e g R j n =
      at-kind r (plan-skip N ns t h k Γ π at end long r.before)
  planned {Γ} {π} {at} {end} (shown_diverge {ty = ty} r) f d e g R j n =
      at-kind r (plan-diverge N ns t h k Γ π at end long ty r.before)
  planned {Γ} {π} {at} {end} (shown_truth {b = b} r v) f d e g R j n =
      at-kind r (plan-truth N ns t h k Γ π at end long b r.before)
  planned {Γ} {π} {at} {end} (shown_number {b = b} r v) f d e g R j n =
      at-kind r (plan-number N ns t h k Γ π at end long b r.before)
  planned {Γ} {π} {at} {end} (shown_private {id = id} {k = s} {d = v} m r w) f d e g R j n =
      at-kind r (plan-private N ns t h k Γ π at end long id s v m r.before)
  planned {Γ} {π} {at} {end} (shown_parameter {id = id} {k = s} {ty = ty} m r w) f d e g R j n =
      at-kind r (plan-parameter N ns t h k Γ π at end long id s ty (omega arith) m w r.before)
  planned {Γ} {π} {at} {end} (shown_use {from = from} {id = id} {k = s} {ty = ty} {tys = tys} {ws = ws} m r w c b a)
      f d e g R j n =
      at-kind r (use-planned Γ π at end from id s ty tys ws m w c b a (omega arith) e g
      (omega (arith, r.before, r.within)) R (j id s ty ws tys refl m))
  planned {Γ} {π} {at} {end} (shown_name {from = from} {id = id} {ty = ty} {often = often} {tys = tys} {ws = ws} m r w c
      b a) f d e g R j n =
      at-kind r (plan-name N ns t h k Γ π at end long id ty from often tys ws m w
      (named-args Γ id ty often tys ws m f).0 c b a
      (named-args Γ id ty often tys ws m f).1)
  planned {Γ} {π} {at} {end} (shown_fetch {a = a} {x = x} r p b s) f d e g R j n =
      at-kind r (plan-fetch N ns t h k Γ π at end long a x p b s)
  planned {Γ} {π} {at} {end} (shown_operate {a = a} {b = b} {op = op} {x = x} {y = y} r w p q i s u) f d e g R j n =
      at-kind r (plan-operate N ns t h k Γ π at end long a b op x y p q i s u
      (ap (values N) f.2 ∙ sym (operands-values N op)))
  planned {Γ} {π} {at} {end} (shown_assign {a = a} {b = b} {x = x} {y = y} r p q i s u) f d e g R j n =
      at-kind r (plan-assign N ns t h k Γ π at end long a b x y p q i s u)
  planned {Γ} {π} {at} {end} (shown_sequence {a = a} {b = b} {x = x} {y = y} r p q i s u) f d e g R j n =
      at-kind r (plan-sequence N ns t h k Γ π at end long a b x y p q i s u)
  planned {Γ} {π} {at} {end} (shown_choose {a = a} {b = b} {c = c} {q = q} {x = x} {y = y} r p p' p'' i s u v)
      f d e g R j n =
      at-kind r (plan-choose N ns t h k Γ π at end long a b c q x y p p' p'' i s u v)
  planned {Γ} {π} {at} {end} (shown_while {a = a} {b = b} {x = x} {y = y} r p q i s u) f d e g R j n =
      at-kind r (plan-while N ns t h k Γ π at end long a b x y p q i s u)
  planned {Γ} {π} {at} {end} (shown_new {a = a} {id = id} {d = v} {x = x} r w p i s) f d e g R j n =
      at-kind r (plan_new N ns t h k Γ π at end long a id v x w p i s)
  planned (shown_procedure r w p q b c x y) f d e g R j n = absurd (n r.kinded)

  pub plan : (Γ : Context) (π : ℕ → ℕ) (at end : ℕ) (W : Written) → Given N ns t Γ π at end W l h k →
      (word t at KIND ≡ PROCEDURE → ⊥) → Plan N ns t h k Γ π at end W (word t at KIND) (word t at DETAIL)
  plan Γ π at end W G n =
      planned G.shown G.fine G.deep G.few G.room G.ready G.numbered n
