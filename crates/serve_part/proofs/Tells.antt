-- Sheets whose bytes differ in a stretch that is a part of both differ in that part only.
use Prim.Native.Nat.{ℕ}
use native.Mathlib.Omega.{arith}
use mathlib.Core.Path.{◌≡◌, refl, sym, ap, ap₂, ◌∙◌}
use mathlib.Core.List.{List, [], ◌∷◌, ◌++◌, append-nil, append_assoc}
use lib.ListN.{length, get_or, take, drop}
use lib.Seq.{take_at, take-append_seam, drop_at, drop-append_seam}
use lib.Dec.{eqb}
use Rattle.language.specs.Choice.{pick}
use Rattle.language.specs.Term.{freely, once, onces}
use Rattle.sheet_records.specs.Limits.{greatest_depth}
use Rattle.sheet_records.specs.declared.edition.Edition.TheVariants.{Present}
use Rattle.sheet_written.specs.Written.{Written, Name, declare, retire, Sheet}
use Rattle.sheet_written.specs.Fine.{FineNames}
use Rattle.sheet_reader.specs.Encoding.{encode, declare_kind, encode_name, encode_names, encode_sheet}
use Rattle.sheet_reader.specs.Heading.{declare_at, retire_at}
use Rattle.sheet_reader.proofs.NameBytes.{declared-there, declared-is, declared-past}
use Rattle.sheet_reader.proofs.Right.{gives}
use Rattle.sheet_reader.proofs.Widths.{wide-heading}
use Rattle.serve_compare.specs.Promise.{Holds}
use Rattle.serve_compare.proofs.Unique.{held-accepted}
use Rattle.serve_part.specs.Around.{Around, filled}
use Rattle.serve_part.specs.Bytes.{StandsAt}
use Rattle.serve_part.specs.Rules.{BytesTell}
use Rattle.serve_part.proofs.Records.{fine-rest}
use Rattle.serve_part.proofs.Stretch.{Frame, put-before, frame, heading}
use Rattle.serve_part.proofs.Rereading.{hole, found, read, no_names, gap}

-- lists whose first parts are of one length
same_parts : (xs ys : List ℕ) {us vs : List ℕ} → length xs ≡ length ys → xs ++ us ≡ ys ++ vs → (xs ≡ ys) × (us ≡ vs)
same_parts xs ys {us} {vs} l e = (
  sym (take_at xs us (length ys) l) ∙ ap (take (length ys)) e ∙ take-append_seam ys vs,
  sym (drop_at xs us (length ys) l) ∙ ap (drop (length ys)) e ∙ drop-append_seam ys vs,
)

-- the hole where a part stands at the place of the gap
with-hole : {f : Written → List ℕ} {p : ℕ} (m : Written) (front rest : List ℕ) → Frame f p →
    f m ≡ front ++ (encode m ++ rest) → length front ≡ p → front ++ (encode hole ++ rest) ≡ f hole
with-hole m front rest F e l =
    let (a, b) = same_parts front F.before (l ∙ sym F.here) (sym e ∙ F.around m) in
    let c = (same_parts (encode m) (encode m) refl b).1 in
    ap₂ (λ (x y : List ℕ). x ++ (encode hole ++ y)) a c ∙ sym (F.around hole)

-- the first name of bytes, and what is behind it
name_in : List ℕ → Name
name_in s = pick (eqb (get_or s 0 0) 2) (retire_at s 0) (declare_at s 0 (pick (eqb (get_or s 0 0) 3) 1 0))

behind_name : List ℕ → List ℕ
behind_name s = drop (pick (eqb (get_or s 0 0) 2) 2 8) s

name-there : (e : List Name) (a : Name) (ns : List Name) (u : List ℕ) → FineNames e (a ∷ ns) →
    (name_in (encode_name a ++ u) ≡ a) × (behind_name (encode_name a ++ u) ≡ u)
unfolding FineNames onces declare_kind encode_name name_in behind_name retire_at
name-there e (declare freely id ty tys) ns u f =
    let s = encode_name (declare freely id ty tys) ++ u in
    let D = declared-there s 0 freely id ty tys u refl in
    (declared-is s [] 0 freely id ty tys u D f.3, declared-past s [] 0 freely id ty tys u D)
name-there e (declare once id ty tys) ns u f =
    let s = encode_name (declare once id ty tys) ++ u in
    let D = declared-there s 0 once id ty tys u refl in
    (declared-is s [] 0 once id ty tys u D f.3, declared-past s [] 0 once id ty tys u D)
name-there e (retire id) ns u f = (refl, refl)

-- names in order, before bytes that do not begin with a name's, are told by their bytes
same_names : (ns ms e e' : List Name) (X Y : List ℕ) → ((a : Name) (t : List ℕ) → X ≡ encode_name a ++ t → ⊥) →
    ((a : Name) (t : List ℕ) → Y ≡ encode_name a ++ t → ⊥) → FineNames e ns → FineNames e' ms →
    encode_names ns ++ X ≡ encode_names ms ++ Y → (ns ≡ ms) × (X ≡ Y)
unfolding encode_names
same_names [] [] e e' X Y x y f g h = (refl, h)
same_names [] (b ∷ ms) e e' X Y x y f g h =
    absurd (x b (encode_names ms ++ Y) (h ∙ append_assoc (encode_name b) (encode_names ms) Y))
same_names (a ∷ ns) [] e e' X Y x y f g h =
    absurd (y a (encode_names ns ++ X) (sym h ∙ append_assoc (encode_name a) (encode_names ns) X))
same_names (a ∷ ns) (b ∷ ms) e e' X Y x y f g h =
    let i = sym (append_assoc (encode_name a) (encode_names ns) X) ∙ h
    ∙ append_assoc (encode_name b) (encode_names ms) Y in
    let p = name-there e a ns (encode_names ns ++ X) f in
    let q = name-there e' b ms (encode_names ms ++ Y) g in
    let r = same_names ns ms (a ∷ e) (b ∷ e') X Y x y (fine-rest e a ns f).1 (fine-rest e' b ms g).1
    (sym p.1 ∙ ap behind_name i ∙ q.1) in
    (ap₂ (λ (z : Name) (zs : List Name). z ∷ zs) (sym p.0 ∙ ap name_in i ∙ q.0) r.0, r.1)

-- a sheet with the hole at the place of a part: its bytes, and its term as it is read
module _ (s : List ℕ) (S : Sheet) (C : Around) (m : Written) (h : Holds s S) where
  sheet-hole : (front rest : List ℕ) → s ≡ front ++ (encode m ++ rest) → StandsAt S C m (length front) →
      front ++ (encode hole ++ rest) ≡ heading S ++ encode (filled C hole)
  unfolding encode_sheet heading
  sheet-hole front rest e st =
      with-hole m front rest (put-before (heading S) refl (frame C))
      (ap (λ W. heading S ++ encode W) (sym st.term) ∙ sym (gives Present s S h.type h.size h.reads).0
      ∙ e)
      (omega (arith, st.here, wide-heading S))

  sheet-read : (n : Written) → S.term ≡ filled C m →
      read S.names n greatest_depth [] (encode (filled C hole)) ≡ found (filled C n) []
  sheet-read n e =
      let O = (held-accepted h).ordered in
      ap (read S.names n greatest_depth []) (sym (append-nil (encode (filled C hole))))
      ∙ gap S.names n S.numbers m greatest_depth C [] (rw e at O).in_order.fine_term (rw e at O).shallow []

-- THEOREM: the bytes tell that two sheets differ in one part only
pub bytes-tell : BytesTell
unfolding heading
bytes-tell old new S T C D m n h h' x st st' =
    let g : heading S ++ encode (filled C hole) ≡ heading T ++ encode (filled D hole) =
    sym (sheet-hole old S C m h x.before x.behind x.of_old st)
    ∙ sheet-hole new T D n h' x.before x.behind x.of_new st' in
    let p = sheet-read old S C m h n st.term in
    let q = sheet-read new T D n h' n st'.term in
    let (e, f) = same_names S.names T.names [] [] (encode (filled C hole)) (encode (filled D hole))
    (no_names S.names n greatest_depth [] p) (no_names T.names n greatest_depth [] q)
    (held-accepted h).ordered.in_order.fine_names (held-accepted h').ordered.in_order.fine_names
    (ap (drop 2) g) in
    let o : found (filled D n) [] ≡ found (filled C n) [] =
    sym q ∙ ap₂ (λ (ns : List Name) (l : List ℕ). read ns n greatest_depth [] l) (sym e) (sym f) ∙ p in
    record {
      numbers = ap₂ (λ (z y : ℕ). record { z = z; rule = y }) (ap (λ (l : List ℕ). get_or l 0 0) g)
          (ap (λ (l : List ℕ). get_or l 1 0) g);
      names = e;
      first = st.term;
      second = st'.term ∙ cc;
    }
