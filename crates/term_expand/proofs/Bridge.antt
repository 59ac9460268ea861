-- Shared rows in words represent a term as the automaton reads them.
use Prim.Native.Nat.{ℕ, zero, suc, ◌+◌, ◌*◌, ◌≤◌, ◌<◌}
use native.Mathlib.Omega.{arith}
use mathlib.Core.Path.{◌≡◌, refl, sym, ap, ap₂, ◌∙◌, subst}
use mathlib.Core.Option.{Option, some}
use mathlib.Core.Bool.{Bool, true, false}
use mathlib.Core.List.{List, ◌∷◌}
use Rattle.language.specs.Choice.{pick}
use Rattle.language.specs.Number.{numbers, finites}
use Rattle.language.specs.Operators.{takes_numbers}
use Rattle.language.specs.Ty.{Ty, command, expression, variable, questions, answers}
use Rattle.language.specs.Term as t
use Rattle.language.specs.Term.{Term, Args, Operation}
use Rattle.language.specs.Typing.{Scope, here, there, operands}
use Rattle.language.specs.Weight.{weight, weight_args}
use Rattle.language.specs.declared.Numbers.{Numbers}
use Rattle.language.specs.Term.{Often, onces}
use Rattle.language.specs.Weight.{use_weight}
use Rattle.sheet_written.specs.Held.{held}
use Rattle.sheet_written.specs.Nodes.{deep, deep_args}
use Rattle.sheet_written.specs.Shared as s
use Rattle.sheet_written.specs.Shared.{Parts, Row, Rep, Reps, rep_skip, rep_diverge, rep_const, rep_private}
use Rattle.sheet_written.specs.Shared.{rep_name, rep_fetch, rep_operate, rep_assign, rep_seq, rep_while, rep_cond, rep_new}
use Rattle.sheet_written.specs.Shared.{rep_none, rep_part, Fresh}
use Rattle.sheet_rows.specs.Rep as n
use Rattle.sheet_rows.specs.Row.{word}
use Rattle.sheet_rows.specs.Rep.{TyRow, count, r_skip, r_diverge, r_const, r_private, r_name, r_fetch, r_operate}
use Rattle.sheet_rows.specs.Rep.{r_assign, r_seq, r_cond, r_while, r_new, RepArgs, r_none, r_arg}
use Rattle.term_expand.specs.Words.{counted, argument_weights, Arguments, RowWords, Worded, of_skip, of_diverge, of_const}
use Rattle.term_expand.specs.Words.{of_private, of_name, of_fetch, of_operate, of_assign, of_seq, of_cond, of_while}
use Rattle.term_expand.specs.Words.{of_new, AllWorded, Valued, a_block, no_block}

-- a row has one type
ty-unique : (u : List ℕ) (r : ℕ) (S T : Ty) → TyRow u r S → TyRow u r T → S ≡ T
unfolding TyRow
ty-unique u r command command a b = refl
ty-unique u r command (expression m) a b = absurd (omega (arith, b.0))
ty-unique u r command (variable m) a b = absurd (omega (arith, b.0))
ty-unique u r (expression k) command a b = absurd (omega (arith, a.0))
ty-unique u r (expression k) (expression m) a b = ap expression (sym a.1 ∙ b.1)
ty-unique u r (expression k) (variable m) a b = absurd (omega (arith, a.0, b.0))
ty-unique u r (variable k) command a b = absurd (omega (arith, a.0))
ty-unique u r (variable k) (expression m) a b = absurd (omega (arith, a.0, b.0))
ty-unique u r (variable k) (variable m) a b = ap variable (sym a.1 ∙ b.1)

-- what is not over 4,096 is not held
not-held : (n : ℕ) → n ≤ 4096 → held n ≡ n
unfolding held
not-held n h = omega arith

-- one of many is not more than all
one_of : (m v : ℕ) → 0 < m → v ≤ m * v
one_of zero v h = absurd (omega arith)
one_of (suc m) v h = omega arith

some-operand : (o : Operation) → 0 < operands o
unfolding operands numbers finites
some-operand o = go (takes_numbers o.operator)
  where
    go : (b : Bool) → 0 < pick b (numbers o.over) 2
    go true = omega arith
    go false = omega arith

some-question : (T : Ty) → 0 < questions T
unfolding questions
some-question command = omega arith
some-question (expression m) = omega arith
some-question (variable m) = omega arith

-- the values of a variable whose block has a row
values_of : {u rs n : List ℕ} {i b : ℕ} → Valued u rs n → Scope rs i b → (m : ℕ) × Scope n i m × (word u b 4 ≡ m)
values_of {u = u} {i = i} {b = b} no_block x4 = elim x4 [ ]
values_of (a_block {m = m} e v) here = (m, here, e)
values_of (a_block e v) (there x) = let y = values_of v x in (y.0, there y.1, y.2)

-- as many arguments as parts
module _ (R : ℕ → Option Row) (Q : List ℕ → ℕ → Type 0) where
  as_many : {p : List ℕ} {xs : Parts} {args : Args} → Reps R Q p xs args → count args ≡ counted xs
  unfolding count counted
  as_many rep_none = refl
  as_many (rep_part x y) = ap suc (as_many y)

-- a row with parts that are multiplied has a factor
operands-some : {N : Numbers} {u : List ℕ} {r m a b : ℕ} {o : Operation} {T : Ty} → Worded N u r (s.operate m o a b) T →
    0 < m
operands-some {o = o} (of_operate c w d l ea eb ha hb) = some-operand o

values-some : {N : Numbers} {u : List ℕ} {r m a b : ℕ} {T : Ty} → Worded N u r (s.assign m a b) T → 0 < m
values-some (of_assign w z ea eb ha hb) = z

-- the row of a term
row : {u : List ℕ} {r kind w : ℕ} {T : Ty} (M : Term) → RowWords u r kind w T → weight M ≡ w → weight M ≤ 4096 →
    n.Represented u r kind M T
row {w = w} M x e l = record {
  inside = x.inside;
  kinded = x.kinded;
  weighed = x.weighed ∙ not-held w (omega arith) ∙ sym e;
  small = l;
  typed = x.typed;
}

-- the weight in the row of a term
rep-weight : {N : Numbers} {u : List ℕ} {left r : ℕ} {p k : List ℕ} {M : Term} {T : Ty} → n.Rep N u left r p k M T →
    word u r 1 ≡ weight M
rep-weight (r_skip x) = x.weighed
rep-weight (r_diverge x) = x.weighed
rep-weight (r_const x e l) = x.weighed
rep-weight (r_private x e a b) = x.weighed
rep-weight (r_name x l e c y) = x.weighed
rep-weight (r_fetch x y) = x.weighed
rep-weight (r_operate o x e l y z) = x.weighed
rep-weight (r_assign x y z) = x.weighed
rep-weight (r_seq x y z) = x.weighed
rep-weight (r_cond x y z q) = x.weighed
rep-weight (r_while x y z) = x.weighed
rep-weight (r_new x e f y) = x.weighed

-- one row, where its parts represent terms
module _ (N : Numbers) (u : List ℕ) (left r : ℕ) (p k : List ℕ) where
  abbrev Part : ℕ → Term → Ty → Type 0
  Part a M T = n.Rep N u left a p k M T

  abbrev Whole : Term → Ty → Type 0
  Whole M T = n.Rep N u (suc left) r p k M T

  -- the same part by the word that names it
  at-word : {a b : ℕ} {M : Term} {T : Ty} → b ≡ a → Part a M T → Part b M T
  at-word {M = M} {T} e x = subst (λ c. Part c M T) (sym e) x

  row-skip : {T : Ty} → Worded N u r s.skip T → Whole t.skip T
  unfolding weight
  row-skip (of_skip w) = r_skip (row t.skip w refl (omega arith))

  row-diverge : {T : Ty} → Worded N u r s.diverge T → Whole t.diverge T
  unfolding weight
  row-diverge (of_diverge w) = r_diverge (row t.diverge w refl (omega arith))

  row-const : {v : ℕ} {T : Ty} → Worded N u r (s.const v) T → Whole (t.const v) T
  unfolding weight
  row-const {v} (of_const w e l) = r_const (row (t.const v) w refl (omega arith)) e l

  row-private : {i b : ℕ} {T : Ty} → Worded N u r (s.private b) T → Scope p i b → Valued u p k → Whole (t.private i) T
  unfolding weight
  row-private {i} {b} (of_private {m = m} w e f) x v =
      let y = values_of v x in
      let g : y.0 ≡ m = sym y.2 ∙ f in
      r_private (row (t.private i) w refl (omega arith)) e x (subst (λ c. Scope k i c) g y.1)

  row-fetch : {a : ℕ} {X : Term} {T : Ty} → Worded N u r (s.fetch a) T → weight X ≤ 4096 →
      ((S : Ty) → TyRow u a S → Part a X S) → Whole (t.fetch X) T
  unfolding weight
  row-fetch {a} {X} (of_fetch {m = m} w e h) l f =
      let x = f (variable m) h in
      r_fetch (row (t.fetch X) w (sym (rep-weight x)) l) (at-word e x)

  row-operate : {m a b : ℕ} {o : Operation} {L M : Term} {T : Ty} → Worded N u r (s.operate m o a b) T →
      weight L + m * weight M ≤ 4096 → ((S : Ty) → TyRow u a S → Part a L S) → ((S : Ty) → TyRow u b S → Part b M S) →
      Whole (t.operate m o L M) T
  unfolding weight
  row-operate {a = a} {b} {o} {L} {M} (of_operate c w d l ea eb ha hb) le f g =
      let x = f (expression (operands o)) ha in
      let y = g (expression (operands o)) hb in
      r_operate c
      (row (t.operate (operands o) o L M) w
      (ap₂ (λ i j. i + operands o * j) (sym (rep-weight x)) (sym (rep-weight y))) le)
      d l (at-word ea x) (at-word eb y)

  row-assign : {m a b : ℕ} {X E : Term} {T : Ty} → Worded N u r (s.assign m a b) T → weight E + m * weight X ≤ 4096 →
      ((S : Ty) → TyRow u a S → Part a X S) → ((S : Ty) → TyRow u b S → Part b E S) → Whole (t.assign m X E) T
  unfolding weight
  row-assign {m} {a} {b} {X} {E} (of_assign w z ea eb ha hb) le f g =
      let x = f (variable m) ha in
      let y = g (expression m) hb in
      r_assign
      (row (t.assign m X E) w (ap₂ (λ i j. i + m * j) (sym (rep-weight y)) (sym (rep-weight x))) le)
      (at-word ea x) (at-word eb y)

  row-seq : {a b : ℕ} {C M : Term} {T : Ty} → Worded N u r (s.seq a b) T → weight C + weight M ≤ 4096 →
      ((S : Ty) → TyRow u a S → Part a C S) → ((S : Ty) → TyRow u b S → Part b M S) → Whole (t.seq C M) T
  unfolding weight
  row-seq {C = C} {M} {T} (of_seq w ea eb ha hb) le f g =
      let x = f command ha in
      let y = g T hb in
      r_seq (row (t.seq C M) w (ap₂ (λ i j. i + j) (sym (rep-weight x)) (sym (rep-weight y))) le)
      (at-word ea x) (at-word eb y)

  row-while : {a b : ℕ} {B C : Term} {T : Ty} → Worded N u r (s.while a b) T → weight B + weight C ≤ 4096 →
      ((S : Ty) → TyRow u a S → Part a B S) → ((S : Ty) → TyRow u b S → Part b C S) → Whole (t.while B C) T
  unfolding weight
  row-while {B = B} {C} (of_while w ea eb ha hb) le f g =
      let x = f (expression 2) ha in
      let y = g command hb in
      r_while (row (t.while B C) w (ap₂ (λ i j. i + j) (sym (rep-weight x)) (sym (rep-weight y))) le)
      (at-word ea x) (at-word eb y)

  row-cond : {a b c : ℕ} {B C M : Term} {T : Ty} → Worded N u r (s.cond a b c) T →
      weight B + (weight C + weight M) ≤ 4096 → ((S : Ty) → TyRow u a S → Part a B S) →
      ((S : Ty) → TyRow u b S → Part b C S) → ((S : Ty) → TyRow u c S → Part c M S) → Whole (t.cond B C M) T
  unfolding weight
  row-cond {B = B} {C} {M} {T} (of_cond w ea eb ec ha hb hc) le f g h =
      let x = f (expression 2) ha in
      let y = g T hb in
      let z = h T hc in
      r_cond
      (row (t.cond B C M) w
      (ap₂ (λ i j. i + j) (sym (rep-weight x)) (ap₂ (λ i j. i + j) (sym (rep-weight y)) (sym (rep-weight z)))) le)
      (at-word ea x) (at-word eb y) (at-word ec z)

  row_new : {m a : ℕ} {z : 0 < m} {C : Term} {T : Ty} → Worded N u r (s.new m a) T → m * weight C ≤ 4096 → Fresh p r →
      (word u r 4 ≡ m → (S : Ty) → TyRow u a S → n.Rep N u left a (r ∷ p) (m ∷ k) C S) → Whole (t.new m z C) T
  unfolding weight Fresh n.Fresh
  row_new {m} {a} {z} {C} (of_new w e ea ha) le fresh f =
      let x = f e command ha in
      r_new (row (t.new m z C) w (ap (λ i. m * i) (sym (rep-weight x))) le) e fresh
      (subst (λ c. n.Rep N u left c (r ∷ p) (m ∷ k) C command) (sym ea) x)

  -- the arguments of a name
  row-name : {i : ℕ} {o : Often} {S T : Ty} {xs : Parts} {args : Args} → Worded N u r (s.name i o S xs) T →
      use_weight o + weight_args args ≤ 4096 →
      count args ≡ counted xs →
      (Arguments u r 0 xs → RepArgs N u left r 0 p k args × (argument_weights u xs ≡ weight_args args)) →
      Whole (t.name i o S args) T
  unfolding weight
  row-name {i} {o} {S} {xs = xs} {args} (of_name w l e c z) le q f =
      let y = f z in
      r_name (row (t.name i o S args) w (ap (λ v. use_weight o + v) (sym y.1)) le) l
      (e ∙ ap (λ v. i + 256 * (v + 8 * onces o)) (sym q)) (omega (arith, q, c)) y.0

-- THEOREM: rows that represent a term, and are so in words, represent it for the automaton
module _ (N : Numbers) (u : List ℕ) (R : ℕ → Option Row) (all : AllWorded N u R) where
  abbrev Of : ℕ → ℕ → List ℕ → List ℕ → Term → Ty → Type 0
  Of left r p k M T = n.Rep N u left r p k M T

  -- a row is so in words with every type that its words say
  worded : (r : ℕ) (x : Row) → R r ≡ some x → (T : Ty) → TyRow u r T → Worded N u r x T
  worded r x e T h =
      let y = all r x e in
      subst (λ S. Worded N u r x S) (ty-unique u r y.0 T (typed-row y.1) h) y.1
    where
      typed-row : {x : Row} {S : Ty} → Worded N u r x S → TyRow u r S
      typed-row (of_skip w) = w.typed
      typed-row (of_diverge w) = w.typed
      typed-row (of_const w e l) = w.typed
      typed-row (of_private w e f) = w.typed
      typed-row (of_name w l e c z) = w.typed
      typed-row (of_fetch w e h) = w.typed
      typed-row (of_operate c w d l ea eb ha hb) = w.typed
      typed-row (of_assign w z ea eb ha hb) = w.typed
      typed-row (of_seq w ea eb ha hb) = w.typed
      typed-row (of_cond w ea eb ec ha hb hc) = w.typed
      typed-row (of_while w ea eb ha hb) = w.typed
      typed-row (of_new w e ea ha) = w.typed

  mutual
    unfolding deep weight deep_args weight_args argument_weights Arguments

    pub bridge : {p : List ℕ} {r : ℕ} {M : Term} → Rep R Fresh p r M → (k : List ℕ) → Valued u p k → (left : ℕ) →
        deep M ≤ left → weight M ≤ 4096 → (T : Ty) → TyRow u r T → Of left r p k M T
    bridge {p} {r} (rep_skip e) k v zero d l T h = absurd (omega arith)
    bridge {p} {r} (rep_skip e) k v (suc left) d l T h = row-skip N u left r p k (worded r s.skip e T h)
    bridge {p} {r} (rep_diverge e) k v zero d l T h = absurd (omega arith)
    bridge {p} {r} (rep_diverge e) k v (suc left) d l T h = row-diverge N u left r p k (worded r s.diverge e T h)
    bridge {p} {r} (rep_const e) k v zero d l T h = absurd (omega arith)
    bridge {p} {r} (rep_const {v = c} e) k v (suc left) d l T h =
        row-const N u left r p k (worded r (s.const c) e T h)
    bridge {p} {r} (rep_private e x) k v zero d l T h = absurd (omega arith)
    bridge {p} {r} (rep_private {v = b} e x) k v (suc left) d l T h =
        row-private N u left r p k (worded r (s.private b) e T h) x v
    bridge {p} {r} (rep_name e x) k v zero d l T h = absurd (omega arith)
    bridge {p} {r} (rep_name {i = i} {o = o} {T = S} {xs = xs} e x) k v (suc left) d l T h =
        row-name N u left r p k (worded r (s.name i o S xs) e T h) l (as_many R Fresh x)
        (λ z. bridges x r 0 k v left (omega arith) (omega arith) z)
    bridge {p} {r} (rep_fetch e x) k v zero d l T h = absurd (omega arith)
    bridge {p} {r} (rep_fetch {a = a} e x) k v (suc left) d l T h =
        row-fetch N u left r p k (worded r (s.fetch a) e T h) l
        (λ S g. bridge x k v left (omega arith) l S g)
    bridge {p} {r} (rep_operate e x y) k v zero d l T h = absurd (omega arith)
    bridge {p} {r} (rep_operate {m = m} {a = a} {b = b} {o = o} {M = M} e x y) k v (suc left) d l T h =
        let w = worded r (s.operate m o a b) e T h in
        let z = one_of m (weight M) (operands-some w) in
        row-operate N u left r p k w l
        (λ S g. bridge x k v left (omega arith) (omega arith) S g)
        (λ S g. bridge y k v left (omega arith) (omega arith) S g)
    bridge {p} {r} (rep_assign e x y) k v zero d l T h = absurd (omega arith)
    bridge {p} {r} (rep_assign {m = m} {a = a} {b = b} {X = X} e x y) k v (suc left) d l T h =
        let w = worded r (s.assign m a b) e T h in
        let z = one_of m (weight X) (values-some w) in
        row-assign N u left r p k w l
        (λ S g. bridge x k v left (omega arith) (omega arith) S g)
        (λ S g. bridge y k v left (omega arith) (omega arith) S g)
    bridge {p} {r} (rep_seq e x y) k v zero d l T h = absurd (omega arith)
    bridge {p} {r} (rep_seq {a = a} {b = b} e x y) k v (suc left) d l T h =
        row-seq N u left r p k (worded r (s.seq a b) e T h) l
        (λ S g. bridge x k v left (omega arith) (omega arith) S g)
        (λ S g. bridge y k v left (omega arith) (omega arith) S g)
    bridge {p} {r} (rep_while e x y) k v zero d l T h = absurd (omega arith)
    bridge {p} {r} (rep_while {a = a} {b = b} e x y) k v (suc left) d l T h =
        row-while N u left r p k (worded r (s.while a b) e T h) l
        (λ S g. bridge x k v left (omega arith) (omega arith) S g)
        (λ S g. bridge y k v left (omega arith) (omega arith) S g)
    bridge {p} {r} (rep_cond e x y z) k v zero d l T h = absurd (omega arith)
    bridge {p} {r} (rep_cond {a = a} {b = b} {c = c} e x y z) k v (suc left) d l T h =
        row-cond N u left r p k (worded r (s.cond a b c) e T h) l
        (λ S g. bridge x k v left (omega arith) (omega arith) S g)
        (λ S g. bridge y k v left (omega arith) (omega arith) S g)
        (λ S g. bridge z k v left (omega arith) (omega arith) S g)
    bridge {p} {r} (rep_new e f x) k v zero d l T h = absurd (omega arith)
    bridge {p} {r} (rep_new {m = m} {a = a} {h = z} {C = C} e f x) k v (suc left) d l T h =
        let y = one_of m (weight C) z in
        row_new N u left r p k (worded r (s.new m a) e T h) l f
        (λ q S g. bridge x (m ∷ k) (a_block q v) left (omega arith) (omega arith) S g)

    bridges : {p : List ℕ} {xs : Parts} {args : Args} → Reps R Fresh p xs args → (r j : ℕ) (k : List ℕ) → Valued u p k →
        (left : ℕ) → deep_args args ≤ left → weight_args args ≤ 4096 → Arguments u r j xs →
        RepArgs N u left r j p k args × (argument_weights u xs ≡ weight_args args)
    bridges rep_none r j k v left d l z = (r_none, refl)
    bridges {p} (rep_part {T = T} {a = a} {M = M} x y) r j k v left d l z =
        let q = one_of (questions T) (weight M) (some-question T) in
        let b = bridge x k v left (omega arith) (omega arith) T z.1 in
        let c = bridges y r (j + 1) k v left (omega arith) (omega arith) z.2 in (
          r_arg (subst (λ i. Of left i p k M T) (sym z.0) b) c.0,
          ap₂ (λ i o. questions T * i + answers T + o) (rep-weight b) c.1,
        )
