-- Equal cards have equal headings and types: a heading tells in a card where it ends.
use mathlib.Core.Bool.{Bool, cond, false, true}
use mathlib.Core.List.{List, [], ◌++◌, ◌∷◌, append_assoc}
use mathlib.Core.Path.{◌∙◌, ◌≡◌, ap, ap₂, refl, subst, sym}
use Prim.Native.Nat.{◌<◌, ◌≤◌, suc, ℕ}
use native.Mathlib.Omega.{arith}
use lib.ListN.{length, take}
use Rattle.language.specs.Move.{Word, record_of}
use Rattle.language.specs.Term.{freely, once}
use Rattle.sheet_records.specs.declared.edition.Edition.TheVariants.{Present}
use Rattle.sheet_written.specs.Fine.{FineNames}
use Rattle.sheet_written.specs.Written.{Name, Sheet, declare, retire}
use Rattle.sheet_written.specs.Width.{heading_width}
use Rattle.sheet_reader.specs.Encoding.{declare_kind, encode, encode_name, encode_names, encode_sheet}
use Rattle.sheet_reader.proofs.Padding.{padded-length}
use Rattle.sheet_reader.proofs.Right.{gives}
use Rattle.sheet_reader.proofs.Widths.{wide-heading}
use Rattle.serve_compare.specs.Plays.{CompletePlay}
use Rattle.card_bytes.specs.Kinds.{filed, move_kind}
use Rattle.card_bytes.proofs.laws.Kinds.{kind-least}
use Rattle.serve_card.specs.Card.{arc_bytes, arcs_bytes, card_bytes, table_bytes}
use Rattle.serve_card.specs.Positions.{Among, Arc, Beginning, Position, Table}
use Rattle.serve_card.specs.Rules.{OtherHeading}
use Rattle.serve_card.proofs.Lists.{head-same, none-some, split-same, tail-same}
use Rattle.serve_card.proofs.Plays.{leading-first}

-- how the bytes of positions begin: there are none, or the first position is not the end and has a move
data Front : List ℕ → Type 0 where
  bare : Front []
  filled : (k : ℕ) (rest : List ℕ) → 41 ≤ k → Front (40 ∷ 0 ∷ k ∷ rest)

-- a complete play has moves
no-empty : (S : Sheet) → CompletePlay S [] → ⊥
no-empty S (q, a, w, o, p, e) = let z : ◌≡◌ {A = ℕ} 0 1 = cc in absurd (omega arith)

-- the first position
module _ (S : Sheet) (p : Position) (T : List Position) (B : Table S (p ∷ T)) where
  abbrev at_first : B.leading 0 ≡ []
  at_first = leading-first S (p ∷ T) B (omega arith)

  -- it is not the end
  goes_on : p.end ≡ false
  goes_on = by p.end refl
    where
      by : (b : Bool) → p.end ≡ b → p.end ≡ false
      by false e = e
      by true e = absurd (no-empty S (subst (CompletePlay S) at_first ((B.ends 0 (omega arith)).0 e)))

  -- it has a move
  moves-on : p.arcs ≡ [] → ⊥
  unfolding Among
  moves-on n =
      let b = (B.first 0 (omega arith)).begins in
      by b.0 (subst (λ (x : Word). CompletePlay S (x ++ b.0)) at_first b.1)
    where
      by : (u : Word) → CompletePlay S u → ⊥
      by [] c = no-empty S c
      by (m ∷ u) c =
          let b : Beginning S (B.leading 0 ++ (m ∷ [])) =
          (u, subst (λ (x : Word). CompletePlay S ((x ++ (m ∷ [])) ++ u)) (sym at_first) c) in
          let f = B.all (B.leading 0 ++ (m ∷ [])) b in
          let a : Among p.arcs m f.0 = (B.moves 0 (omega arith) m f.0).1 (f.1.0, (b, f.1.1)) in
          absurd (subst (λ (y : List Arc). Among y m f.0) n a)

-- the bytes of a sheet's positions begin so
front : (S : Sheet) (T : List Position) → Table S T → Front (table_bytes S.numbers T)
unfolding table_bytes arcs_bytes arc_bytes filed
front S [] B = bare
front S (p ∷ T) B = by p.end p.arcs (goes_on S p T B) (moves-on S p T B)
  where
    by : (b : Bool) (xs : List Arc) → b ≡ false → (xs ≡ [] → ⊥)
        → Front ((40 ∷ cond b 1 0 ∷ arcs_bytes S.numbers xs) ++ table_bytes S.numbers T)
    by true xs e n = let z : ◌≡◌ {A = ℕ} 0 1 = cc in absurd (omega arith)
    by false [] e n = absurd (n refl)
    by false (a ∷ xs) e n = filled (move_kind (length (record_of S.numbers a.by))) _ (kind-least _)

kind-some : (n : Name) → (k : ℕ) × ((rest : List ℕ) × ((0 < k) × (encode_name n ≡ k ∷ rest)))
unfolding encode_name declare_kind
kind-some (declare freely id ty tys) = (1, (_, (omega arith, refl)))
kind-some (declare once id ty tys) = (3, (_, (omega arith, refl)))
kind-some (retire id) = (2, (_, (omega arith, refl)))

-- no name record begins with 0, and no position with a number above 40
zero-clash : (ms : List Name) (k b : ℕ) (r y : List ℕ) → 41 ≤ k → Front y → 0 ∷ k ∷ r ≡ encode_names ms ++ (b ∷ y) → ⊥
unfolding encode_names
zero-clash [] k b r y h bare e = none-some (sym (tail-same e))
zero-clash [] k b r y h (filled j s g) e = omega (arith, head-same (tail-same e))
zero-clash (m ∷ ms) k b r y h f e =
    let n = kind-some m in
    omega (arith, n.1.1.0, head-same (rw n.1.1.1 at e))

-- the type and the positions are not taken for a name record
name-clash : (earlier : List Name) (m : Name) (ms : List Name) (a b : ℕ) (x y : List ℕ) → FineNames earlier (m ∷ ms)
    → Front x → Front y → a ∷ x ≡ encode_names (m ∷ ms) ++ (b ∷ y) → ⊥
unfolding encode_names encode_name FineNames
name-clash earlier (declare often id ty tys) ms a b x y f bare g e = none-some (tail-same e)
name-clash earlier (declare often id ty tys) ms a b x y f (filled k r h) g e =
    omega (arith, f.3, head-same (tail-same (tail-same (tail-same e))))
name-clash earlier (retire id) ms a b x y f bare g e = none-some (tail-same e)
name-clash earlier (retire id) ms a b x y f (filled k r h) g e = zero-clash ms k b r y h g (tail-same (tail-same e))

-- a name record's length goes by its kind
same_width : (n m : Name) (x y : List ℕ) → encode_name n ++ x ≡ encode_name m ++ y
    → length (encode_name n) ≡ length (encode_name m)
unfolding encode_name declare_kind
same_width (declare o i t ts) (declare p j u us) x y e = omega (arith, padded-length 4 ts, padded-length 4 us)
same_width (declare freely i t ts) (retire j) x y e = absurd (omega (arith, head-same e))
same_width (declare once i t ts) (retire j) x y e = absurd (omega (arith, head-same e))
same_width (retire i) (declare freely j u us) x y e = absurd (omega (arith, head-same e))
same_width (retire i) (declare once j u us) x y e = absurd (omega (arith, head-same e))
same_width (retire i) (retire j) x y e = refl

fine-rest : (earlier : List Name) (n : Name) (ns : List Name) → FineNames earlier (n ∷ ns) → FineNames (n ∷ earlier) ns
unfolding FineNames
fine-rest earlier (declare often id ty tys) ns f = f.5
fine-rest earlier (retire id) ns f = f.2

-- the name records end where the type stands
names-one : (earlier past ns ms : List Name) (a b : ℕ) (x y : List ℕ) → FineNames earlier ns → FineNames past ms
    → Front x → Front y → encode_names ns ++ (a ∷ x) ≡ encode_names ms ++ (b ∷ y)
    → (encode_names ns ≡ encode_names ms) × (a ≡ b)
unfolding encode_names
names-one earlier past [] [] a b x y f g u v e = (refl, head-same e)
names-one earlier past [] (m ∷ ms) a b x y f g u v e = absurd (name-clash past m ms a b x y g u v e)
names-one earlier past (n ∷ ns) [] a b x y f g u v e = absurd (name-clash earlier n ns b a y x f v u (sym e))
names-one earlier past (n ∷ ns) (m ∷ ms) a b x y f g u v e =
    let d : encode_name n ++ (encode_names ns ++ (a ∷ x)) ≡ encode_name m ++ (encode_names ms ++ (b ∷ y)) =
    sym (append_assoc (encode_name n) (encode_names ns) (a ∷ x)) ∙ e
    ∙ append_assoc (encode_name m) (encode_names ms) (b ∷ y) in
    let p = split-same (encode_name n) (encode_name m) (encode_names ns ++ (a ∷ x)) (encode_names ms ++ (b ∷ y))
    (same_width n m (encode_names ns ++ (a ∷ x)) (encode_names ms ++ (b ∷ y)) d) d in
    let r = names-one (n ∷ earlier) (m ∷ past) ns ms a b x y (fine-rest earlier n ns f) (fine-rest past m ms g) u v
    p.1 in
    (ap₂ (λ (c d : List ℕ). c ++ d) p.0 r.0, r.1)

take-front : (xs ys : List ℕ) → take (length xs) (xs ++ ys) ≡ xs
take-front [] ys = refl
take-front (x ∷ xs) ys = ap (λ (z : List ℕ). x ∷ z) (take-front xs ys)

-- the heading: range, rule and name records
heading-bytes : (s : List ℕ) (S : Sheet) → s ≡ encode_sheet S
    → take (heading_width S) s ≡ S.numbers.z ∷ S.numbers.rule ∷ encode_names S.names
unfolding encode_sheet
heading-bytes s S e =
    let k : heading_width S ≡ suc (suc (length (encode_names S.names))) = omega (arith, wide-heading S) in
    ap₂ (λ (n : ℕ) (x : List ℕ). take n x) k e
    ∙ ap (λ (x : List ℕ). S.numbers.z ∷ S.numbers.rule ∷ x) (take-front (encode_names S.names) (encode S.term))

same-three : {x y u v : ℕ} {xs ys : List ℕ} → x ≡ y → u ≡ v → xs ≡ ys → x ∷ u ∷ xs ≡ y ∷ v ∷ ys
same-three e f g = rw (e, f, g)

-- THEOREM: equal cards have equal headings and types
pub other-heading : OtherHeading
unfolding card_bytes
other-heading old new c d C D e =
    let S = C.sheet in
    let T = D.sheet in
    let g = gives Present old S C.type C.size C.reads in
    let h = gives Present new T D.type D.size D.reads in
    let x = table_bytes S.numbers C.table in
    let y = table_bytes T.numbers D.table in
    let a = heading-bytes old S g.0 in
    let b = heading-bytes new T h.0 in
    let f : S.numbers.z ∷ S.numbers.rule ∷ (encode_names S.names ++ (C.type ∷ x))
    ≡ T.numbers.z ∷ T.numbers.rule ∷ (encode_names T.names ++ (D.type ∷ y)) =
    ap (λ (k : List ℕ). k ++ (C.type ∷ x)) (sym a) ∙ sym C.bytes ∙ e ∙ D.bytes
    ∙ ap (λ (k : List ℕ). k ++ (D.type ∷ y)) b in
    let r = names-one [] [] S.names T.names C.type D.type x y g.1.ordered.in_order.fine_names
    h.1.ordered.in_order.fine_names (front S C.table C.positions) (front T D.table D.positions)
    (tail-same (tail-same f)) in
    (a ∙ same-three (head-same f) (head-same (tail-same f)) r.0 ∙ sym b, r.1)
