-- The pass over the records of a term, one after the other: what is left to go through, and the first that offends.
use Rattle.std.specs.Prelude.{Some, None}
use Prim.Native.Nat.{ℕ, ◌+◌, ◌≤◌, ◌<◌}
use native.Mathlib.Omega.{arith}
use mathlib.Core.Path.{◌≡◌, refl, sym, ap, ap₂, ◌∙◌, subst}
use mathlib.Core.Bool.{Bool, true, false, ◌&&◌}
use mathlib.Core.List.{List, [], ◌∷◌, ◌++◌, append-nil}
use lib.ListN.{length, get_or, drop, length-append}
use lib.Seq.{drop-append_seam, drop-drop, get_or-drop}
use lib.Dec.{ltb}
use Rattle.language.specs.Choice.{pick}
use Rattle.language.specs.declared.Numbers.{Numbers}
use Rattle.sheet_records.specs.Kind.{shape_of, body_in}
use Rattle.sheet_records.specs.declared.edition.Edition.TheVariants.{Present}
use Rattle.sheet_written.specs.Written.{Written, Name, Sheet}
use Rattle.sheet_written.specs.Meaning.{Binder}
use Rattle.sheet_written.specs.Fine.{Fine}
use Rattle.sheet_written.specs.Width.{width, heading_width}
use Rattle.sheet_reader.specs.Encoding.{encode, encode_names, encode_sheet}
use Rattle.sheet_reader.specs.Reader.{read_sheet, accepted}
use Rattle.sheet_reader.proofs.Right.{gives}
use Rattle.sheet_reader.proofs.Widths.{wide, wide-heading, width_some}
use Rattle.sheet_written.specs.Pieces.{Piece, pieces, own_width}
use Rattle.sheet_table.specs.inner.Seats.{Seated, seated, SeatedAll, seated_more}
use Rattle.serve_profile.specs.Offence.{loud, within, hit, offending, offences}
use Rattle.serve_profile.specs.inner.Pass.{loud_at, reach_at, offends_at, first_of, Finds}
use Rattle.serve_profile.proofs.Pieces.{Item, item, items, bytes_of, offs, total, offs-open, head_of, kind_of, bytes-open}
use Rattle.serve_profile.proofs.Pieces.{head-long, own_body, head-kind, width-open, FinePieces, fine-open}
use Rattle.serve_profile.proofs.Loud.{loud-right, Side, inner, outer, Reached, reaches}

-- terms that stand one after the other from a place on: each in order, with its rows, inside an expression or not
pub data Ready (N : Numbers) (ns : List Name) (t : List ℕ) (until : ℕ) : ℕ → List Item → Type 0 where
  no_more : {at : ℕ} → Ready N ns t until at []
  one_more : {at : ℕ} {x : Item} {xs : List Item} → Fine N ns x.around x.term →
      Seated ns t x.around at x.term →
      Side until at (at + width x.term) x.inner → Ready N ns t until (at + width x.term) xs →
      Ready N ns t until at (x ∷ xs)

module _ (N : Numbers) (ns : List Name) (t : List ℕ) where
  -- those after a part whose record is read
  ready-later : {until again at end p : ℕ} {j : Bool} (xs : List Item) → Reached until again at end j → end ≤ p →
      Ready N ns t until p xs → Ready N ns t again p xs
  ready-later [] R h no_more = no_more
  ready-later {p = p} (x ∷ xs) R h (one_more F S s Q) =
      one_more F S (R.later h (omega (arith, width_some x.term)) s)
      (ready-later {p = p + width x.term} xs R (omega (arith, h)) Q)

  -- the parts of a record and those after it
  ready-parts : {until at end : ℕ} {j : Bool} (ps : List Piece) (p : ℕ) (xs : List Item) → Side until at end j →
      at ≤ p → p + total ps ≡ end → FinePieces N ns ps → SeatedAll ns t p ps → Ready N ns t until end xs →
      Ready N ns t until p (items j ps xs)
  unfolding items item total FinePieces
  ready-parts {until} [] p xs s h e F S Q =
      let k : p ≡ p + 0 = omega arith in
      subst (λ (m : ℕ). Ready N ns t until m xs) (sym (k ∙ e)) Q
  ready-parts {until} {at} {end} (q ∷ ps) p xs s h e F (seated_more A S) Q =
      one_more F.0 A (side s)
      (ready-parts ps (p + width q.term) xs s (omega (arith, h)) (omega (arith, e)) F.1 S Q)
    where
      side : {j : Bool} → Side until at end j → Side until p (p + width q.term) j
      side (inner m) = inner (omega (arith, m, e))
      side (outer m) = outer (omega (arith, m, h))

-- what is left to go through from a place on
pub record Walking (S : Sheet) (s t : List ℕ) (until at : ℕ) : Type 0 where
  pub pending : List Item
  pub ready : Ready S.numbers S.names t until at pending
  pub lies : drop at s ≡ bytes_of pending
  pub ends : at + length (bytes_of pending) ≡ length s
  pub all : offences S ≡ offs S.names at pending

-- the first of what is left, opened
pub record Opened (S : Sheet) (s t : List ℕ) (until at kind next : ℕ) : Type 0 where
  pub here : Bool
  pub is_loud : Bool
  pub tests : ltb at (reach_at t at until) ≡ here
  pub louds : loud_at t at kind ≡ is_loud
  pub rest : List ℕ
  pub found : offences S ≡ hit here is_loud at ++ rest
  pub onward : hit here is_loud at ≡ [] → Walking S s t (reach_at t at until) next

pub open-first : (S : Sheet) (s t : List ℕ) (until at kind body next : ℕ) → Walking S s t until at → at < length s →
    kind ≡ get_or s at 0 → body ≡ body_in (shape_of kind) → next ≡ at + (1 + body) → Opened S s t until at kind next
unfolding bytes_of offs
open-first S s t until at kind body next G h e i z = go G.pending G.ready G.lies G.ends G.all
  where
    go : (xs : List Item) → Ready S.numbers S.names t until at xs → drop at s ≡ bytes_of xs →
        at + length (bytes_of xs) ≡ length s → offences S ≡ offs S.names at xs → Opened S s t until at kind next
    go [] Q L E A = absurd (omega (arith, E, h))
    go (x ∷ xs) (one_more F (seated Z R) d Q) L E A =
        let N : Numbers = S.numbers in
        let ns : List Name = S.names in
        let bs : List Binder = x.around in
        let W : Written = x.term in
        let j : Bool = within ns bs x.inner W in
        let k : kind ≡ kind_of W =
        e ∙ (let q : at ≡ at + 0 = omega arith in ap (λ (m : ℕ). get_or s m 0) q)
        ∙ sym (get_or-drop at s 0 0) ∙ ap (λ (u : List ℕ). get_or u 0 0) L ∙ head-kind W (bytes_of xs) in
        let C : Reached until (reach_at t at until) at (at + width W) j = reaches ns t N bs at until W x.inner Z d in
        let n : next ≡ at + own_width W =
        z ∙ ap (λ (m : ℕ). at + m)
        (ap (λ (m : ℕ). 1 + m) (i ∙ ap (λ (m : ℕ). body_in (shape_of m)) k) ∙ sym (own_body W)) in
        let ys : List Item = items j (pieces bs W) xs in
        let b : encode W ++ bytes_of xs ≡ head_of W ++ bytes_of ys = bytes-open bs j W xs in
        let f : offences S ≡ hit j (loud ns bs W) at ++ offs ns (at + own_width W) ys =
        A ∙ offs-open ns bs x.inner W at xs in
        let g : next ≡ at + length (head_of W) = n ∙ ap (λ (m : ℕ). at + m) (sym (head-long W)) in
        record {
          here = j;
          is_loud = loud ns bs W;
          tests = C.tests;
          louds = ap (λ (m : ℕ). loud_at t at m) k ∙ loud-right N ns t bs at W F Z R;
          rest = offs ns (at + own_width W) ys;
          found = f;
          onward = λ o. record {
            pending = ys;
            ready = subst (λ (m : ℕ). Ready N ns t (reach_at t at until) m ys) (sym n)
                (ready-parts N ns t (pieces bs W) (at + own_width W) xs C.side (omega arith)
                (omega (arith, width-open bs W)) (fine-open N ns bs W F) R
                (ready-later N ns t xs C (omega arith) Q));
            lies = ap (λ (m : ℕ). drop m s) g ∙ sym (drop-drop (length (head_of W)) at s)
                ∙ ap (drop (length (head_of W))) (L ∙ b) ∙ drop-append_seam (head_of W) (bytes_of ys);
            ends = omega (arith, E, g, ap length b, length-append (head_of W) (bytes_of ys));
            all = f ∙ ap (λ (u : List ℕ). u ++ offs ns (at + own_width W) ys) o
                ∙ ap (λ (m : ℕ). offs ns m ys) (sym n);
          };
        }

-- a turn of the loop, by what the record at the place is found to be
module _ (S : Sheet) (s t : List ℕ) (until at kind body next : ℕ) (G : Walking S s t until at) (h : at < length s)
    (e : kind ≡ get_or s at 0) (i : body ≡ body_in (shape_of kind)) (z : next ≡ at + (1 + body)) where
  abbrev O : Opened S s t until at kind next
  O = open-first S s t until at kind body next G h e i z

  offends-here : {b : Bool} → offends_at t at (reach_at t at until) kind ≡ b → (O.here && O.is_loud) ≡ b
  unfolding offends_at
  offends-here m = sym (ap₂ (λ (x y : Bool). x && y) O.tests O.louds) ∙ m

  -- it does not offend
  walk-on : offends_at t at (reach_at t at until) kind ≡ false → Walking S s t (reach_at t at until) next
  unfolding hit
  walk-on m = O.onward (ap (λ (b : Bool). pick b (at ∷ []) []) (offends-here m))

  -- it offends
  walk-found : offends_at t at (reach_at t at until) kind ≡ true → Some at ≡ first_of (offences S)
  unfolding hit first_of
  walk-found m = sym (ap first_of (O.found ∙ ap (λ (b : Bool). pick b (at ∷ []) [] ++ O.rest) (offends-here m)))

-- the whole term, and nothing more
walk_first : (S : Sheet) (s t : List ℕ) (root ty n : ℕ) → read_sheet s ≡ accepted S ty n → root ≡ heading_width S →
    Seated S.names t [] root S.term → Walking S s t 0 root
unfolding encode_sheet bytes_of offs offences
walk_first S s t root ty n e r Z =
    let g = gives Present s S ty n e in
    let H : List ℕ = S.numbers.z ∷ S.numbers.rule ∷ encode_names S.names in
    let h : root ≡ length H = omega (arith, r, wide-heading S) in
    let b : encode S.term ++ [] ≡ encode S.term = append-nil (encode S.term) in
    record {
      pending = record { around = []; term = S.term; inner = false } ∷ [];
      ready = one_more g.1.ordered.in_order.fine_term Z (outer (omega arith)) no_more;
      lies = ap₂ (λ (x : ℕ) (y : List ℕ). drop x y) h g.0 ∙ drop-append_seam H (encode S.term) ∙ sym b;
      ends = omega (arith, h, ap length b, ap length g.0, length-append (encode_names S.names) (encode S.term));
      all = ap (λ (k : ℕ). offending S.names [] false k S.term) (sym r)
          ∙ sym (append-nil (offending S.names [] false root S.term));
    }

item-some : (x : Item) (xs : List Item) → 0 < length (bytes_of (x ∷ xs))
unfolding bytes_of
item-some x xs = omega (arith, length-append (encode x.term) (bytes_of xs), wide x.term, width_some x.term)

-- nothing is left
walk-last : (S : Sheet) (s t : List ℕ) (until at : ℕ) → Walking S s t until at → length s ≤ at →
    None ≡ first_of (offences S)
unfolding first_of offs
walk-last S s t until at G h = go G.pending G.ends G.all
  where
    go : (xs : List Item) → at + length (bytes_of xs) ≡ length s → offences S ≡ offs S.names at xs →
        None ≡ first_of (offences S)
    go [] E A = rw A refl
    go (x ∷ xs) E A = absurd (omega (arith, E, h, item-some x xs))

-- what the loop keeps
abbrev pub Walks : List ℕ → List ℕ → ℕ → ℕ → ℕ → Type 0
Walks s t root until at =
    (S : Sheet) (ty n : ℕ) → read_sheet s ≡ accepted S ty n → root ≡ heading_width S →
    Seated S.names t [] root S.term → Walking S s t until at

pub walks-first : (s t : List ℕ) (root : ℕ) → Walks s t root 0 root
walks-first s t root = λ S ty n e r Z. walk_first S s t root ty n e r Z

module _ (s t : List ℕ) (root until again at kind body next : ℕ) (G : Walks s t root until at) (h : at < length s)
    (e : kind ≡ get_or s at 0) (u : again ≡ reach_at t at until) where
  pub walks-on : (m : Bool) → m ≡ offends_at t at again kind → m ≡ false → body ≡ body_in (shape_of kind) →
      next ≡ at + (1 + body) → Walks s t root again next
  walks-on m v w i z = λ S ty n a r Z.
      rw u (walk-on S s t until at kind body next (G S ty n a r Z) h e i z
      (ap (λ (k : ℕ). offends_at t at k kind) (sym u) ∙ sym v ∙ w))

  pub walks-found : (m : Bool) → m ≡ offends_at t at again kind → m ≡ true → Finds s t root (Some at)
  walks-found m v w = record {
    does = λ S ty n a r Z.
        walk-found S s t until at kind (body_in (shape_of kind)) (at + (1 + body_in (shape_of kind))) (G S ty n a r Z) h e
        refl refl (ap (λ (k : ℕ). offends_at t at k kind) (sym u) ∙ sym v ∙ w);
  }

pub walks-last : (s t : List ℕ) (root until at : ℕ) → Walks s t root until at → length s ≤ at → Finds s t root None
walks-last s t root until at G h = record { does = λ S ty n a r Z. walk-last S s t until at (G S ty n a r Z) h }
