-- Marks hold for every table that has the same rows and the same marks where a part stands.
use Prim.Native.Nat.{ℕ, ◌+◌, ◌≤◌, ◌<◌}
use native.Mathlib.Omega.{arith}
use mathlib.Core.List.{List}
use mathlib.Core.Path.{◌≡◌, ◌∙◌}
use lib.ListN.{length, get_or}
use Rattle.language.specs.declared.Numbers.{Numbers}
use Rattle.sheet_written.specs.Written.{Written, Writtens, Name}
use Rattle.sheet_written.specs.Context.{Context, in_block, in_procedure, in_scope}
use Rattle.sheet_rows.specs.Row.{word}
use Rattle.sheet_written.specs.Table.{Shown, shown_skip, shown_diverge, shown_truth, shown_number}
use Rattle.sheet_written.specs.Table.{shown_private, shown_parameter, shown_use, shown_name, shown_fetch, shown_operate}
use Rattle.sheet_written.specs.Table.{shown_assign, shown_sequence, shown_choose, shown_while, shown_new, shown_procedure}
use Rattle.sheet_written.specs.Table.{ShownArgs, shown_none, shown_more}
use Rattle.sheet_written.specs.Marks.{Marked, MarkedArgs}
use Rattle.weight_theory.proofs.Places.{places}

module _ (N : Numbers) (ns : List Name) (t t' M M' : List ℕ) where
  -- the rows and the marks from a place up to another are the same
  pub record SameRange (at end : ℕ) : Type 0 where
    pub rows : (p i : ℕ) → at ≤ p → p < end → i < 9 → word t' p i ≡ word t p i
    pub marks : (p : ℕ) → at ≤ p → p < end → get_or M' p 0 ≡ get_or M p 0

  inner : (at end a b : ℕ) → at ≤ a → b ≤ end → SameRange at end → SameRange a b
  inner at end a b h l S = record {
    rows = λ p i g m. S.rows p i (omega arith) (omega arith);
    marks = λ p g m. S.marks p (omega arith) (omega arith);
  }

  -- the place of a part, and the marks of that part
  moved : (Γ : Context) (at end i a : ℕ) (w : Written) → at < end → i < 9 → SameRange at end → word t at i ≡ a →
      Marked N ns t' M' Γ a w → Marked N ns t' M' Γ (word t' at i) w
  moved Γ at end i a w h l S p m = rw (S.rows at i (omega arith) h l ∙ p) m

  args_in : {Γ : Context} {π : ℕ → ℕ} {at j from end : ℕ} {ws : Writtens} {tys : List ℕ} →
      ShownArgs N ns t Γ π at j from end ws tys → from ≤ end
  args_in shown_none = omega arith
  args_in (shown_more p s r) = omega (arith, places N ns t s, args_in r)

  mutual
    unfolding Marked MarkedArgs

    range-agree : {Γ : Context} {π : ℕ → ℕ} {at end : ℕ} {W : Written} → Shown N ns t Γ π at end W →
        SameRange at end → Marked N ns t M Γ at W → Marked N ns t' M' Γ at W
    range-agree {Γ} {π} {at} {end} (shown_skip r) S m = S.marks at (omega arith) r.before ∙ m
    range-agree {Γ} {π} {at} {end} (shown_diverge r) S m = S.marks at (omega arith) r.before ∙ m
    range-agree {Γ} {π} {at} {end} (shown_truth r d) S m = S.marks at (omega arith) r.before ∙ m
    range-agree {Γ} {π} {at} {end} (shown_number r d) S m = S.marks at (omega arith) r.before ∙ m
    range-agree {Γ} {π} {at} {end} (shown_private e r d) S m = (S.marks at (omega arith) r.before ∙ m.0, tt)
    range-agree {Γ} {π} {at} {end} (shown_parameter e r d) S m = (S.marks at (omega arith) r.before ∙ m.0, tt)
    range-agree {Γ} {π} {at} {end} (shown_use e r d f b s) S m = (
      S.marks at (omega arith) r.before ∙ m.0,
      args-agree s (omega arith) r.before (omega arith) S m.1,
    )
    range-agree {Γ} {π} {at} {end} (shown_name e r d f b s) S m = (
      S.marks at (omega arith) r.before ∙ m.0,
      args-agree s (omega arith) r.before (omega arith) S m.1,
    )
    range-agree {Γ} {π} {at} {end} (shown_fetch {a = a} {x = x} r p b s) S m = (
      S.marks at (omega arith) r.before ∙ m.0,
      moved Γ at end 5 a x r.before (omega arith) S p
          (range-agree s (inner at end a end (omega arith) (omega arith) S) (rw p at m).1),
    )
    range-agree {Γ} {π} {at} {end} (shown_operate {a = a} {b = b} {x = x} {y = y} r d p q h s u) S m =
        let l : (a < b) × (b ≤ 4096) = places N ns t s in
        let g : (b < end) × (end ≤ 4096) = places N ns t u in (
          S.marks at (omega arith) r.before ∙ m.0,
          moved Γ at end 5 a x r.before (omega arith) S p
              (range-agree s (inner at end a b (omega arith) (omega arith) S) (rw p at m).1),
          moved Γ at end 6 b y r.before (omega arith) S q
              (range-agree u (inner at end b end (omega arith) (omega arith) S) (rw q at m).2),
        )
    range-agree {Γ} {π} {at} {end} (shown_assign {a = a} {b = b} {x = x} {y = y} r p q h s u) S m =
        let l : (a < b) × (b ≤ 4096) = places N ns t s in
        let g : (b < end) × (end ≤ 4096) = places N ns t u in (
          S.marks at (omega arith) r.before ∙ m.0,
          moved Γ at end 5 a x r.before (omega arith) S p
              (range-agree s (inner at end a b (omega arith) (omega arith) S) (rw p at m).1),
          moved Γ at end 6 b y r.before (omega arith) S q
              (range-agree u (inner at end b end (omega arith) (omega arith) S) (rw q at m).2),
        )
    range-agree {Γ} {π} {at} {end} (shown_sequence {a = a} {b = b} {x = x} {y = y} r p q h s u) S m =
        let l : (a < b) × (b ≤ 4096) = places N ns t s in
        let g : (b < end) × (end ≤ 4096) = places N ns t u in (
          S.marks at (omega arith) r.before ∙ m.0,
          moved Γ at end 5 a x r.before (omega arith) S p
              (range-agree s (inner at end a b (omega arith) (omega arith) S) (rw p at m).1),
          moved Γ at end 6 b y r.before (omega arith) S q
              (range-agree u (inner at end b end (omega arith) (omega arith) S) (rw q at m).2),
        )
    range-agree {Γ} {π} {at} {end} (shown_choose {a = a} {b = b} {c = c} {q = z} {x = x} {y = y} r p q o h s u v) S m =
        let l : (a < b) × (b ≤ 4096) = places N ns t s in
        let g : (b < c) × (c ≤ 4096) = places N ns t u in
        let k : (c < end) × (end ≤ 4096) = places N ns t v in (
          S.marks at (omega arith) r.before ∙ m.0,
          moved Γ at end 5 a z r.before (omega arith) S p
              (range-agree s (inner at end a b (omega arith) (omega arith) S) (rw p at m).1),
          moved Γ at end 6 b x r.before (omega arith) S q
              (range-agree u (inner at end b c (omega arith) (omega arith) S) (rw q at m).2),
          moved Γ at end 7 c y r.before (omega arith) S o
              (range-agree v (inner at end c end (omega arith) (omega arith) S) (rw o at m).3),
        )
    range-agree {Γ} {π} {at} {end} (shown_while {a = a} {b = b} {x = x} {y = y} r p q h s u) S m =
        let l : (a < b) × (b ≤ 4096) = places N ns t s in
        let g : (b < end) × (end ≤ 4096) = places N ns t u in (
          S.marks at (omega arith) r.before ∙ m.0,
          moved Γ at end 5 a x r.before (omega arith) S p
              (range-agree s (inner at end a b (omega arith) (omega arith) S) (rw p at m).1),
          moved Γ at end 6 b y r.before (omega arith) S q
              (range-agree u (inner at end b end (omega arith) (omega arith) S) (rw q at m).2),
        )
    range-agree {Γ} {π} {at} {end} (shown_new {a = a} {id = id} {d = d} {x = x} r w p b s) S m = (
      S.marks at (omega arith) r.before ∙ m.0,
      moved (in_block id d Γ) at end 5 a x r.before (omega arith) S p
          (range-agree s (inner at end a end (omega arith) (omega arith) S) (rw p at m).1),
    )
    range-agree {Γ} {π} {at} {end} (shown_procedure {a = a} {b = b} {id = id} {ty = ty} {ps = ps} {body = x} {rest = y}
        r w p q h f s u) S m =
        let l : (a < b) × (b ≤ 4096) = places N ns t s in
        let g : (b < end) × (end ≤ 4096) = places N ns t u in (
          S.marks at (omega arith) r.before ∙ m.0,
          moved (in_procedure ps Γ) at end 5 a x r.before (omega arith) S p
              (range-agree s (inner at end a b (omega arith) (omega arith) S) (rw p at m).1),
          moved (in_scope id ty ps x Γ) at end 6 b y r.before (omega arith) S q
              (range-agree u (inner at end b end (omega arith) (omega arith) S) (rw q at m).2),
        )

    args-agree : {Γ : Context} {π : ℕ → ℕ} {at j from end : ℕ} {ws : Writtens} {tys : List ℕ} →
        ShownArgs N ns t Γ π at j from end ws tys → j + length tys ≤ 4 → at < end → at < from → SameRange at end →
        MarkedArgs N ns t M Γ at j ws → MarkedArgs N ns t' M' Γ at j ws
    args-agree shown_none c h l S m = tt
    args-agree {Γ} {π} {at} {j} {from} {end} (shown_more {b = b} {w = w} p s r) c h l S m =
        let g : (from < b) × (b ≤ 4096) = places N ns t s in
        let k : b ≤ end = args_in r in (
          moved Γ at end (5 + j) from w h (omega arith) S p
              (range-agree s (inner at end from b (omega arith) (omega arith) S) (rw p at m).0),
          args-agree r (omega arith) h (omega arith) S m.1,
        )

-- a part is marked in every table that has its rows and its marks
pub marked-agree : (N : Numbers) (ns : List Name) (t t' M M' : List ℕ) {Γ : Context} {π : ℕ → ℕ} {at end : ℕ}
    {W : Written} → Shown N ns t Γ π at end W →
    ((p i : ℕ) → at ≤ p → p < end → i < 9 → word t' p i ≡ word t p i) →
    ((p : ℕ) → at ≤ p → p < end → get_or M' p 0 ≡ get_or M p 0) → Marked N ns t M Γ at W → Marked N ns t' M' Γ at W
marked-agree N ns t t' M M' s r m = range-agree N ns t t' M M' s (record { rows = r; marks = m })
