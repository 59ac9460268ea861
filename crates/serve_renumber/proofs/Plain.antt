-- The records that bind and use no id: their parts, one after the other.
use Prim.Native.Nat.{ℕ, suc, ◌+◌}
use native.Mathlib.Omega.{arith}
use mathlib.Core.Path.{◌≡◌, refl, sym, ap, ◌∙◌, subst}
use mathlib.Core.Bool.{Bool}
use mathlib.Core.List.{List, [], ◌∷◌, ◌++◌, append-nil}
use lib.ListN.{length, get_or}
use Rattle.language.specs.declared.Numbers.{Numbers}
use Rattle.sheet_records.specs.Kind.{shape_of, body_in, parts_in}
use Rattle.sheet_written.specs.Written.{Written, skip, diverge, truth, number, call, fetch, operate, assign, sequence}
use Rattle.sheet_written.specs.Written.{while, choose, new, procedure, Writtens, none, more, Name}
use Rattle.sheet_written.specs.Meaning.{Binder}
use Rattle.sheet_written.specs.Fine.{Fine, depth, depths}
use Rattle.sheet_written.specs.Width.{width, widths}
use Rattle.sheet_written.specs.Renumber.{renumber, renumber_all}
use Rattle.sheet_reader.specs.Encoding.{encode, encodes}
use Rattle.serve_renumber.specs.Work.{Lies}
use Rattle.serve_renumber.specs.Found as found
use Rattle.serve_renumber.specs.Found.{Answer, stepped, Found, Given, Wrote, PartFound, AllFine, GivenAll, WroteAll, PartsFound}
use Rattle.serve_renumber.specs.Found.{CallFound, BlockFound, RoutineFound, Onward}
use Rattle.serve_renumber.proofs.Lists.{lies-head, lies-after, rewrites-after}
use Rattle.serve_renumber.proofs.Finding.{parts_none, parts-one, parts-two, parts-three}

-- the bytes of one term, two and three
pub one-bytes : (x : Written) → encode x ≡ encodes (more x none)
unfolding encodes
one-bytes x = sym (append-nil (encode x))

pub two_bytes : (x y : Written) → encode x ++ encode y ≡ encodes (more x (more y none))
unfolding encodes
two_bytes x y = ap (λ (z : List ℕ). encode x ++ z) (one-bytes y)

pub three-bytes : (x y z : Written) → encode x ++ (encode y ++ encode z) ≡ encodes (more x (more y (more z none)))
unfolding encodes
three-bytes x y z = ap (λ (u : List ℕ). encode x ++ u) (two_bytes y z)

-- a record W whose head H stays, with the parts ws
wrote-all : (at a : ℕ) (H : List ℕ) (W W' : Written) (ws ws' : Writtens) (b b' : List ℕ) (value : ℕ) →
    encode W ≡ H ++ encodes ws → encode W' ≡ H ++ encodes ws' → a ≡ at + length H → width W ≡ length H + widths ws →
    width W' ≡ length H + widths ws' → WroteAll a ws b ws' value b' → Wrote at W b W' value b'
wrote-all at a H W W' ws ws' b b' value e e' i m m' A = record {
  valued = omega (arith, A.valued, i, m);
  same = omega (arith, A.same, m, m');
  bytes = rw (e, e') (rewrites-after at a H (encodes ws) (encodes ws') b b' i A.bytes);
}

module _ (N : Numbers) (ns : List Name) (s scope k : List ℕ) (bs : List Binder) (f : ℕ → ℕ) (taken : ℕ → Bool)
    (left at n : ℕ) (r : Answer) (b l b' l' k' : List ℕ) where
  -- its parts are as they must be
  parts-given : (W : Written) (H : List ℕ) (ws : Writtens) (a : ℕ) → Given N ns s scope k bs f taken (suc left) at W →
      encode W ≡ H ++ encodes ws → a ≡ at + length H → width W ≡ length H + widths ws → depth W ≡ 1 + depths ws →
      AllFine N ns bs ws → GivenAll N ns s scope k bs f taken left a ws
  parts-given W H ws a G e i m d F = record {
    fine = F;
    deep = omega (arith, G.deep, d);
    lies = lies-after s H (encodes ws) (encodes ws) at a (subst (λ (z : List ℕ). Lies s at z) e G.lies) refl i;
    short = omega (arith, G.short, i, m);
    scoped = G.scoped;
    takes = G.takes;
  }

  -- what is found of them
  at-parts : (W : Written) (H : List ℕ) (ws : Writtens) (a count : ℕ) →
      PartsFound s scope b l k left a count n r b' l' k' → Given N ns s scope k bs f taken (suc left) at W →
      count ≡ found.number ws → encode W ≡ H ++ encodes ws → a ≡ at + length H → width W ≡ length H + widths ws →
      depth W ≡ 1 + depths ws → AllFine N ns bs ws →
      Found (WroteAll a ws b) (renumber_all bs f taken (length H + at) ws) n l r b' l' k'
  at-parts W H ws a count P G c e i m d F =
      subst (λ (z : ℕ). Found (WroteAll a ws b) (renumber_all bs f taken z ws) n l r b' l' k') (omega (arith, i))
      (P.does N ns bs f taken ws c (parts-given W H ws a G e i m d F))

  -- a record by its kind
  module _ (kind body count : ℕ) (e : kind ≡ get_or s at 0)
      (usage : kind ≡ 20 → CallFound s scope b l k left at n r b' l' k')
      (block : kind ≡ 27 → BlockFound s scope b l k left at n r b' l' k')
      (routine : kind ≡ 28 → RoutineFound s scope b l k left at n r b' l' k') (i : body ≡ body_in (shape_of kind))
      (c : count ≡ parts_in (shape_of kind)) (other : (kind ≡ 20 → ⊥) → (kind ≡ 27 → ⊥) → (kind ≡ 28 → ⊥) →
      PartsFound s scope b l k left (at + 1 + body) count n r b' l' k') where
    by_kind : (W : Written) → Given N ns s scope k bs f taken (suc left) at W →
        Found (Wrote at W b) (renumber bs f taken at W) n l r b' l' k'
    unfolding encode encodes width widths depth depths Fine AllFine found.number renumber renumber_all body_in parts_in
        shape_of
    by_kind skip G =
        let q : kind ≡ 16 = e ∙ lies-head s (16 ∷ []) at G.lies in
        let i' : body ≡ 0 = rw q at i in
        let c' : count ≡ 0 = rw q at c in
        let F = at-parts skip (16 ∷ []) none (at + 1 + body) count
        (other (λ z. omega (arith, q, z)) (λ z. omega (arith, q, z)) (λ z. omega (arith, q, z)))
        G c' refl (omega (arith, i')) refl refl tt in
        parts_none n l r b' l' k' (WroteAll (at + 1 + body) none b) (Wrote at skip b) skip taken
        (λ w A. wrote-all at (at + 1 + body) (16 ∷ []) skip skip none none b b' w refl refl (omega (arith, i'))
        refl refl A)
        F
    by_kind (diverge ty) G =
        let q : kind ≡ 17 = e ∙ lies-head s (17 ∷ ty ∷ []) at G.lies in
        let i' : body ≡ 1 = rw q at i in
        let c' : count ≡ 0 = rw q at c in
        let F = at-parts (diverge ty) (17 ∷ ty ∷ []) none (at + 1 + body) count
        (other (λ z. omega (arith, q, z)) (λ z. omega (arith, q, z)) (λ z. omega (arith, q, z)))
        G c' refl (omega (arith, i')) refl
        refl tt in
        parts_none n l r b' l' k' (WroteAll (at + 1 + body) none b) (Wrote at (diverge ty) b) (diverge ty) taken
        (λ w A. wrote-all at (at + 1 + body) (17 ∷ ty ∷ []) (diverge ty) (diverge ty) none none b b' w refl refl
        (omega (arith, i')) refl refl A) F
    by_kind (truth v) G =
        let q : kind ≡ 18 = e ∙ lies-head s (18 ∷ v ∷ []) at G.lies in
        let i' : body ≡ 1 = rw q at i in
        let c' : count ≡ 0 = rw q at c in
        let F = at-parts (truth v) (18 ∷ v ∷ []) none (at + 1 + body) count
        (other (λ z. omega (arith, q, z)) (λ z. omega (arith, q, z)) (λ z. omega (arith, q, z)))
        G c' refl (omega (arith, i')) refl refl tt in
        parts_none n l r b' l' k' (WroteAll (at + 1 + body) none b) (Wrote at (truth v) b) (truth v) taken
        (λ w A. wrote-all at (at + 1 + body) (18 ∷ v ∷ []) (truth v) (truth v) none none b b' w refl refl
        (omega (arith, i')) refl refl A) F
    by_kind (number v) G =
        let q : kind ≡ 19 = e ∙ lies-head s (19 ∷ v ∷ []) at G.lies in
        let i' : body ≡ 1 = rw q at i in
        let c' : count ≡ 0 = rw q at c in
        let F = at-parts (number v) (19 ∷ v ∷ []) none (at + 1 + body) count
        (other (λ z. omega (arith, q, z)) (λ z. omega (arith, q, z)) (λ z. omega (arith, q, z)))
        G c' refl (omega (arith, i')) refl refl
        tt in
        parts_none n l r b' l' k' (WroteAll (at + 1 + body) none b) (Wrote at (number v) b) (number v) taken
        (λ w A. wrote-all at (at + 1 + body) (19 ∷ v ∷ []) (number v) (number v) none none b b' w refl refl
        (omega (arith, i')) refl refl A) F
    by_kind (call id ws) G =
        (usage (e ∙ lies-head s (20 ∷ id ∷ encodes ws) at G.lies)).does N ns bs f taken id ws G
    by_kind (fetch x) G =
        let q : kind ≡ 21 = e ∙ lies-head s (21 ∷ encode x) at G.lies in
        let i' : body ≡ 0 = rw q at i in
        let c' : count ≡ 1 = rw q at c in
        let F = at-parts (fetch x) (21 ∷ []) (more x none) (at + 1 + body) count
        (other (λ z. omega (arith, q, z)) (λ z. omega (arith, q, z)) (λ z. omega (arith, q, z)))
        G c'
        (ap (λ (z : List ℕ). 21 ∷ z) (one-bytes x)) (omega (arith, i')) (omega arith) (omega arith)
        (G.fine.0, tt) in
        parts-one n l r b' l' k' (WroteAll (at + 1 + body) (more x none) b) (Wrote at (fetch x) b) fetch
        (renumber bs f taken (1 + at) x)
        (λ x' w A. wrote-all at (at + 1 + body) (21 ∷ []) (fetch x) (fetch x') (more x none) (more x' none) b b' w
        (ap (λ (z : List ℕ). 21 ∷ z) (one-bytes x)) (ap (λ (z : List ℕ). 21 ∷ z) (one-bytes x'))
        (omega (arith, i')) (omega arith) (omega arith) A) F
    by_kind (operate op x y) G =
        let q : kind ≡ 22 = e ∙ lies-head s (22 ∷ op ∷ (encode x ++ encode y)) at G.lies in
        let i' : body ≡ 1 = rw q at i in
        let c' : count ≡ 2 = rw q at c in
        let h : (x y : Written) → encode (operate op x y) ≡ (22 ∷ op ∷ []) ++ encodes (more x (more y none)) =
        λ x y. ap (λ (z : List ℕ). 22 ∷ op ∷ z) (two_bytes x y) in
        let F = at-parts (operate op x y) (22 ∷ op ∷ []) (more x (more y none)) (at + 1 + body) count
        (other (λ z. omega (arith, q, z)) (λ z. omega (arith, q, z)) (λ z. omega (arith, q, z)))
        G c' (h x y)
        (omega (arith, i')) (omega arith) (omega arith) (G.fine.1, (G.fine.3, tt)) in
        parts-two n l r b' l' k' (WroteAll (at + 1 + body) (more x (more y none)) b) (Wrote at (operate op x y) b)
        (operate op) (renumber bs f taken (2 + at) x) (λ t. renumber bs f t (2 + at + width x) y)
        (λ x' y' w A. wrote-all at (at + 1 + body) (22 ∷ op ∷ []) (operate op x y) (operate op x' y')
        (more x (more y none)) (more x' (more y' none)) b b' w (h x y) (h x' y') (omega (arith, i')) (omega arith)
        (omega arith) A) F
    by_kind (assign x y) G =
        let q : kind ≡ 23 = e ∙ lies-head s (23 ∷ (encode x ++ encode y)) at G.lies in
        let i' : body ≡ 0 = rw q at i in
        let c' : count ≡ 2 = rw q at c in
        let h : (x y : Written) → encode (assign x y) ≡ (23 ∷ []) ++ encodes (more x (more y none)) =
        λ x y. ap (λ (z : List ℕ). 23 ∷ z) (two_bytes x y) in
        let F = at-parts (assign x y) (23 ∷ []) (more x (more y none)) (at + 1 + body) count
        (other (λ z. omega (arith, q, z)) (λ z. omega (arith, q, z)) (λ z. omega (arith, q, z)))
        G c' (h x y)
        (omega (arith, i')) (omega arith) (omega arith) (G.fine.0, (G.fine.2, tt)) in
        parts-two n l r b' l' k' (WroteAll (at + 1 + body) (more x (more y none)) b) (Wrote at (assign x y) b)
        assign (renumber bs f taken (1 + at) x) (λ t. renumber bs f t (1 + at + width x) y)
        (λ x' y' w A. wrote-all at (at + 1 + body) (23 ∷ []) (assign x y) (assign x' y') (more x (more y none))
        (more x' (more y' none)) b b' w (h x y) (h x' y') (omega (arith, i')) (omega arith) (omega arith) A) F
    by_kind (sequence x y) G =
        let q : kind ≡ 24 = e ∙ lies-head s (24 ∷ (encode x ++ encode y)) at G.lies in
        let i' : body ≡ 0 = rw q at i in
        let c' : count ≡ 2 = rw q at c in
        let h : (x y : Written) → encode (sequence x y) ≡ (24 ∷ []) ++ encodes (more x (more y none)) =
        λ x y. ap (λ (z : List ℕ). 24 ∷ z) (two_bytes x y) in
        let F = at-parts (sequence x y) (24 ∷ []) (more x (more y none)) (at + 1 + body) count
        (other (λ z. omega (arith, q, z)) (λ z. omega (arith, q, z)) (λ z. omega (arith, q, z)))
        G c' (h x y)
        (omega (arith, i')) (omega arith) (omega arith) (G.fine.0, (G.fine.2, tt)) in
        parts-two n l r b' l' k' (WroteAll (at + 1 + body) (more x (more y none)) b) (Wrote at (sequence x y) b)
        sequence (renumber bs f taken (1 + at) x) (λ t. renumber bs f t (1 + at + width x) y)
        (λ x' y' w A. wrote-all at (at + 1 + body) (24 ∷ []) (sequence x y) (sequence x' y') (more x (more y none))
        (more x' (more y' none)) b b' w (h x y) (h x' y') (omega (arith, i')) (omega arith) (omega arith) A) F
    by_kind (choose x y z) G =
        let q : kind ≡ 25 = e ∙ lies-head s (25 ∷ (encode x ++ (encode y ++ encode z))) at G.lies in
        let i' : body ≡ 0 = rw q at i in
        let c' : count ≡ 3 = rw q at c in
        let h : (x y z : Written) → encode (choose x y z) ≡ (25 ∷ []) ++ encodes (more x (more y (more z none))) =
        λ x y z. ap (λ (u : List ℕ). 25 ∷ u) (three-bytes x y z) in
        let F = at-parts (choose x y z) (25 ∷ []) (more x (more y (more z none))) (at + 1 + body) count
        (other (λ z. omega (arith, q, z)) (λ z. omega (arith, q, z)) (λ z. omega (arith, q, z)))
        G c' (h x y z)
        (omega (arith, i')) (omega arith) (omega arith) (G.fine.0, (G.fine.2, (G.fine.3, tt))) in
        parts-three n l r b' l' k' (WroteAll (at + 1 + body) (more x (more y (more z none))) b)
        (Wrote at (choose x y z) b)
        choose (renumber bs f taken (1 + at) x) (λ t. renumber bs f t (1 + at + width x) y)
        (λ t. renumber bs f t (1 + at + width x + width y) z)
        (λ x' y' z' w A. wrote-all at (at + 1 + body) (25 ∷ []) (choose x y z) (choose x' y' z')
        (more x (more y (more z none))) (more x' (more y' (more z' none))) b b' w (h x y z) (h x' y' z')
        (omega (arith, i')) (omega arith) (omega arith) A) F
    by_kind (while x y) G =
        let q : kind ≡ 26 = e ∙ lies-head s (26 ∷ (encode x ++ encode y)) at G.lies in
        let i' : body ≡ 0 = rw q at i in
        let c' : count ≡ 2 = rw q at c in
        let h : (x y : Written) → encode (while x y) ≡ (26 ∷ []) ++ encodes (more x (more y none)) =
        λ x y. ap (λ (z : List ℕ). 26 ∷ z) (two_bytes x y) in
        let F = at-parts (while x y) (26 ∷ []) (more x (more y none)) (at + 1 + body) count
        (other (λ z. omega (arith, q, z)) (λ z. omega (arith, q, z)) (λ z. omega (arith, q, z)))
        G c' (h x y)
        (omega (arith, i')) (omega arith) (omega arith) (G.fine.0, (G.fine.2, tt)) in
        parts-two n l r b' l' k' (WroteAll (at + 1 + body) (more x (more y none)) b) (Wrote at (while x y) b)
        while (renumber bs f taken (1 + at) x) (λ t. renumber bs f t (1 + at + width x) y)
        (λ x' y' w A. wrote-all at (at + 1 + body) (26 ∷ []) (while x y) (while x' y') (more x (more y none))
        (more x' (more y' none)) b b' w (h x y) (h x' y') (omega (arith, i')) (omega arith) (omega arith) A) F
    by_kind (new id d x) G =
        (block (e ∙ lies-head s (27 ∷ id ∷ d ∷ encode x) at G.lies)).does N ns bs f taken id d x G
    by_kind (procedure id ty ps x y) G =
        (routine (e ∙ lies-head s (encode (procedure id ty ps x y)) at G.lies)).does N ns bs f taken id ty ps x y G

-- a part by its kind
part_by : (s scope b l k b' l' k' : List ℕ) (left m at n kind body count : ℕ) (r : Answer) → left ≡ suc m →
    kind ≡ get_or s at 0 → Onward r → (kind ≡ 20 → CallFound s scope b l k m at n r b' l' k') →
    (kind ≡ 27 → BlockFound s scope b l k m at n r b' l' k') →
    (kind ≡ 28 → RoutineFound s scope b l k m at n r b' l' k') →
    body ≡ body_in (shape_of kind) → count ≡ parts_in (shape_of kind) →
    ((kind ≡ 20 → ⊥) → (kind ≡ 27 → ⊥) → (kind ≡ 28 → ⊥) →
    PartsFound s scope b l k m (at + 1 + body) count n r b' l' k') → PartFound s scope b l k left at n r b' l' k'
part_by s scope b l k b' l' k' left m at n kind body count r d e h u v w i c o =
    rw d (record {
      onward = h;
      does = λ N ns bs f taken W G.
          by_kind N ns s scope k bs f taken m at n r b l b' l' k' kind body count e u v w i c o W G;
    })

pub part-call : (s scope b l k b' l' k' : List ℕ) (left m at n kind : ℕ) (r : Answer) → left ≡ suc m → kind ≡ get_or s at
    0 →
    kind ≡ 20 → CallFound s scope b l k m at n r b' l' k' → PartFound s scope b l k left at n r b' l' k'
part-call s scope b l k b' l' k' left m at n kind r d e h P =
    part_by s scope b l k b' l' k' left m at n kind (body_in (shape_of kind)) (parts_in (shape_of kind)) r d e P.onward
    (λ z. P) (λ z. absurd (omega (arith, h, z))) (λ z. absurd (omega (arith, h, z))) refl refl
    (λ x y z. absurd (x h))

pub part-block : (s scope b l k b' l' k' : List ℕ) (left m at n kind : ℕ) (r : Answer) → left ≡ suc m → kind ≡ get_or s
    at 0 →
    kind ≡ 27 → BlockFound s scope b l k m at n r b' l' k' → PartFound s scope b l k left at n r b' l' k'
part-block s scope b l k b' l' k' left m at n kind r d e h P =
    part_by s scope b l k b' l' k' left m at n kind (body_in (shape_of kind)) (parts_in (shape_of kind)) r d e P.onward
    (λ z. absurd (omega (arith, h, z))) (λ z. P) (λ z. absurd (omega (arith, h, z))) refl refl
    (λ x y z. absurd (y h))

pub part-routine : (s scope b l k b' l' k' : List ℕ) (left m at n kind : ℕ) (r : Answer) → left ≡ suc m →
    kind ≡ get_or s at 0 → kind ≡ 28 → RoutineFound s scope b l k m at n r b' l' k' →
    PartFound s scope b l k left at n r b' l' k'
part-routine s scope b l k b' l' k' left m at n kind r d e h P =
    part_by s scope b l k b' l' k' left m at n kind (body_in (shape_of kind)) (parts_in (shape_of kind)) r d e P.onward
    (λ z. absurd (omega (arith, h, z))) (λ z. absurd (omega (arith, h, z))) (λ z. P) refl refl
    (λ x y z. absurd (z h))

pub part-plain : (s scope b l k b' l' k' : List ℕ) (left m at n kind body count : ℕ) (r : Answer) → left ≡ suc m →
    kind ≡ get_or s at 0 → (kind ≡ 20 → ⊥) → (kind ≡ 27 → ⊥) → (kind ≡ 28 → ⊥) → body ≡ body_in (shape_of kind) →
    count ≡ parts_in (shape_of kind) → PartsFound s scope b l k m (at + 1 + body) count n r b' l' k' →
    PartFound s scope b l k left at n r b' l' k'
part-plain s scope b l k b' l' k' left m at n kind body count r d e u v w i c P =
    part_by s scope b l k b' l' k' left m at n kind body count r d e P.onward (λ z. absurd (u z)) (λ z. absurd (v z))
    (λ z. absurd (w z)) i c (λ x y z. P)
