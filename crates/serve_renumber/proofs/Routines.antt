-- A procedure: its id, its parameters, its term, and the term in which it may be used.
use Prim.Native.Nat.{ℕ, suc, ◌+◌, ◌<◌, min}
use native.Mathlib.Omega.{arith}
use mathlib.Core.Path.{◌≡◌, refl, sym, ap, ap₂, ◌∙◌, subst}
use mathlib.Core.Bool.{Bool}
use mathlib.Core.List.{List, [], ◌∷◌, ◌++◌}
use lib.ListN.{length, get_or, set}
use Rattle.language.specs.declared.Numbers.{Numbers}
use Rattle.sheet_written.specs.Written.{Written, procedure, Parameter, Name}
use Rattle.sheet_written.specs.Meaning.{Binder, a_procedure, id_of, meant, inside, after, types_of}
use Rattle.sheet_written.specs.Fine.{Fine, depth}
use Rattle.sheet_written.specs.Width.{width}
use Rattle.sheet_written.specs.Renumber.{put, map_inside, Renumbering, over, next, renumber_id, renumber_parameters, renumber}
use Rattle.sheet_written.proofs.Reach.{length_types}
use Rattle.sheet_reader.specs.Encoding.{pairs, encode}
use Rattle.serve_renumber.specs.Work.{Takes, bound_entry, arity, Scoped, Lies, Rewrites}
use Rattle.serve_renumber.specs.Found.{Answer, stepped, Found, Chosen, IdFound, WroteParameters, ParametersFound, Given, Wrote}
use Rattle.serve_renumber.specs.Found.{PartFound}
use Rattle.serve_renumber.specs.Found.{RoutineFound}
use Rattle.std.specs.Prelude.{Err}
use Rattle.serve_renumber.proofs.Lists.{lies-get, lies-after, lies-first, rewrites-after, rewrites-then, rewrites-byte}
use Rattle.sheet_reader.proofs.Pairs.{pairs-length}
use Rattle.sheet_reader.proofs.Widths.{wide}
use Rattle.serve_renumber.proofs.Entries.{scoped-bound}
use Rattle.serve_renumber.proofs.Finding.{found-over, found-so, found-full, found-next}
use Rattle.serve_renumber.proofs.Steps.{onward-full, id-at}

module _ (N : Numbers) (ns : List Name) (s scope k : List ℕ) (bs : List Binder) (f : ℕ → ℕ) (taken : ℕ → Bool)
    (left at i ty : ℕ) (ps : List Parameter) (x y : Written)
    (G : Given N ns s scope k bs f taken (suc left) at (procedure i ty ps x y)) where
  -- what follows the term, the parameters and the id
  rest_of : ℕ → List Parameter → Written → (ℕ → Bool) → Renumbering Written
  rest_of given qs x' then =
      over (procedure given ty qs x') (renumber (after i ty ps bs) (put i given f) then (12 + at + width x) y)

  body_of : ℕ → List Parameter → (ℕ → Bool) → Renumbering Written
  body_of given qs then =
      next (renumber (inside ps bs) (map_inside f ps qs) then (12 + at) x) (λ x' t. rest_of given qs x' t)

  parameters-of : ℕ → (ℕ → Bool) → Renumbering Written
  parameters-of given then = next (renumber_parameters bs then (4 + at) ps) (λ qs t. body_of given qs t)

  whole_of : renumber bs f taken at (procedure i ty ps x y)
      ≡ next (renumber_id bs taken (1 + at) i) (λ given t. parameters-of given t)
  unfolding renumber parameters-of body_of rest_of
  whole_of = refl

  -- its bytes
  tail : Lies s (at + 4) (pairs 4 ps ++ (encode x ++ encode y))
  unfolding encode
  tail = lies-after s (28 ∷ i ∷ ty ∷ length ps ∷ []) (pairs 4 ps ++ (encode x ++ encode y))
      (pairs 4 ps ++ (encode x ++ encode y)) at (at + 4) G.lies refl refl

  terms : Lies s (at + 12) (encode x ++ encode y)
  terms = lies-after s (pairs 4 ps) (encode x ++ encode y) (encode x ++ encode y) (at + 4) (at + 12) tail refl
      (omega (arith, pairs-length 4 ps))

  id-is : (id : ℕ) → id ≡ get_or s (at + 1) 0 → id ≡ i
  unfolding encode
  id-is id e = e ∙ lies-get s (encode (procedure i ty ps x y)) at 1 G.lies

  small : i < 255
  unfolding Fine
  small = G.fine.0

  few : length ps < 5
  unfolding Fine
  few = G.fine.3

  count-is : (count c : ℕ) → c ≡ get_or s (at + 3) 0 → count ≡ min c 4 → count ≡ length ps
  unfolding encode
  count-is count c e m =
      let d : c ≡ length ps = e ∙ lies-get s (encode (procedure i ty ps x y)) at 3 G.lies in
      omega (arith, d, m, few)

  -- the parameters
  parameters-at : (b l k₁ inner b₂ l₂ k₂ : List ℕ) (count n : ℕ) (r : Answer) (then : ℕ → Bool) →
      ParametersFound s scope scope b l k₁ (at + 4) count n r inner b₂ l₂ k₂ → count ≡ length ps → Takes k₁ then →
      Found (WroteParameters ns bs f (at + 4) 4 ps b inner) (renumber_parameters bs then (4 + at) ps) n l r b₂ l₂ k₂
  unfolding Fine
  parameters-at b l k₁ inner b₂ l₂ k₂ count n r then P c T =
      let p : at + 4 ≡ 4 + at = omega arith in
      subst (λ (a : ℕ). Found (WroteParameters ns bs f (at + 4) 4 ps b inner) (renumber_parameters bs then a ps) n l r
      b₂ l₂
      k₂) p
      (P.does ns bs bs f f then 4 [] ps G.fine.4 c (omega (arith, c, few))
      (lies-first s (pairs 4 ps) (encode x ++ encode y) (at + 4) tail) G.scoped G.scoped T)

  -- its term
  body_at : (inner b l k₁ b₂ l₂ k₂ : List ℕ) (n : ℕ) (r : Answer) (qs : List Parameter) (then : ℕ → Bool) →
      PartFound s inner b l k₁ left (at + 12) n r b₂ l₂ k₂ → Scoped ns (inside ps bs) (map_inside f ps qs) inner →
      Takes k₁ then →
      Found (Wrote (at + 12) x b) (renumber (inside ps bs) (map_inside f ps qs) then (12 + at) x) n l r b₂ l₂ k₂
  unfolding Fine depth width
  body_at inner b l k₁ b₂ l₂ k₂ n r qs then P S T =
      let p : at + 12 ≡ 12 + at = omega arith in
      subst (λ (a : ℕ). Found (Wrote (at + 12) x b) (renumber (inside ps bs) (map_inside f ps qs) then a x) n l r b₂
      l₂ k₂) p
      (P.does N ns (inside ps bs) (map_inside f ps qs) then x (record {
        fine = G.fine.5;
        deep = omega (arith, G.deep);
        lies = lies-first s (encode x) (encode y) (at + 12) terms;
        short = omega (arith, G.short);
        scoped = S;
        takes = T;
      }))

  -- the term in which it may be used
  rest_at : (outer b l k₁ b₂ l₂ k₂ : List ℕ) (n v given : ℕ) (r : Answer) (then : ℕ → Bool) →
      PartFound s outer b l k₁ left v n r b₂ l₂ k₂ → v ≡ at + 12 + width x →
      Scoped ns (after i ty ps bs) (put i given f) outer → Takes k₁ then →
      Found (Wrote v y b) (renumber (after i ty ps bs) (put i given f) then (12 + at + width x) y) n l r b₂ l₂ k₂
  unfolding Fine depth width
  rest_at outer b l k₁ b₂ l₂ k₂ n v given r then P e S T =
      subst (λ (a : ℕ). Found (Wrote v y b) (renumber (after i ty ps bs) (put i given f) then a y) n l r b₂ l₂ k₂)
      (omega (arith, e))
      (P.does N ns (after i ty ps bs) (put i given f) then y (record {
        fine = G.fine.7;
        deep = omega (arith, G.deep);
        lies = lies-after s (encode x) (encode y) (encode y) (at + 12) v terms refl (omega (arith, e, wide x));
        short = omega (arith, G.short, e);
        scoped = S;
        takes = T;
      }))

  -- its scope
  scope-after : (outer : List ℕ) (id w e count given : ℕ) → id ≡ i → w ≡ given → given < 255 → count ≡ length ps →
      e ≡ bound_entry w count → outer ≡ set scope id e → Scoped ns (after i ty ps bs) (put i given f) outer
  unfolding after id_of meant arity
  scope-after outer id w e count given t u g c d o =
      subst (λ (X : List ℕ). Scoped ns (a_procedure i ty (types_of ps) ∷ bs) (put i given f) X)
      (sym (o ∙ ap₂ (set scope) t (d ∙ ap (λ (X : ℕ). bound_entry X count) u)))
      (scoped-bound ns bs f scope (a_procedure i ty (types_of ps)) i given count G.scoped refl small
      (omega (arith, g)) (omega (arith, c, few)) (c ∙ sym (length_types ps)))

  -- all its bytes
  wrote : (b b₁ b₂ b₃ b' inner : List ℕ) (w given u v value : ℕ) (qs : List Parameter) (x' y' : Written) → w ≡ given →
      b₁ ≡ set b (at + 1) w → WroteParameters ns bs f (at + 4) 4 ps b₁ inner qs u b₂ → Wrote (at + 12) x b₂ x' v b₃ →
      Wrote v y b₃ y' value b' → Wrote at (procedure i ty ps x y) b (procedure given ty qs x' y') value b'
  unfolding encode width
  wrote b b₁ b₂ b₃ b' inner w given u v value qs x' y' e d P X Y =
      let T : List ℕ = pairs 4 ps ++ (encode x ++ encode y) in
      let U : List ℕ = pairs 4 qs ++ (encode x' ++ encode y') in
      let later : Rewrites (at + 12) (encode x ++ encode y) (encode x' ++ encode y') b₂ b' =
      rewrites-then (at + 12) v (encode x) (encode x') (encode y) (encode y') b₂ b₃ b'
      (omega (arith, wide x, wide x', X.same)) (omega (arith, X.valued, wide x)) X.bytes Y.bytes in
      let past : Rewrites (at + 4) T U b₁ b' =
      rewrites-then (at + 4) (at + 12) (pairs 4 ps) (pairs 4 qs) (encode x ++ encode y) (encode x' ++ encode y') b₁
      b₂ b'
      (omega (arith, pairs-length 4 ps, pairs-length 4 qs)) (omega (arith, pairs-length 4 ps)) P.bytes later in
      let all : Rewrites at (28 ∷ i ∷ ty ∷ length ps ∷ T) (28 ∷ given ∷ ty ∷ length ps ∷ U) b b' =
      rewrites-after at (at + 1) (28 ∷ []) (i ∷ ty ∷ length ps ∷ T) (given ∷ ty ∷ length ps ∷ U) b b' refl
      (rewrites-then (at + 1) (at + 2) (i ∷ []) (given ∷ []) (ty ∷ length ps ∷ T) (ty ∷ length ps ∷ U) b b₁ b' refl
      (omega arith) (rewrites-byte (at + 1) i given b b₁ (d ∙ ap (set b (at + 1)) e))
      (rewrites-after (at + 2) (at + 4) (ty ∷ length ps ∷ []) T U b₁ b' (omega arith) past)) in
      record {
        valued = omega (arith, X.valued, Y.valued);
        same = omega (arith, X.same, Y.same);
        bytes = subst (λ (m : ℕ). Rewrites at (28 ∷ i ∷ ty ∷ length ps ∷ T) (28 ∷ given ∷ ty ∷ m ∷ U) b b')
            (sym P.same) all;
      }

-- no id is left for its own
pub routine-full : (s scope b l k l₁ k₁ b' : List ℕ) (left at n id p : ℕ) (x : Answer) → id ≡ get_or s (at + 1) 0 →
    IdFound scope l k (at + 1) id n x l₁ k₁ → x ≡ Err p → RoutineFound s scope b l k left at n x b' l₁ k₁
routine-full s scope b l k l₁ k₁ b' left at n id p x i D e = record {
  onward = onward-full x p e;
  does = λ N ns bs f taken h ty ps X Y G.
      rw (whole_of N ns s scope k bs f taken left at h ty ps X Y G)
      (found-full (Chosen b) (Wrote at (procedure h ty ps X Y) b) (renumber_id bs taken (1 + at) h)
      (λ given t. parameters-of N ns s scope k bs f taken left at h ty ps X Y G given t) n p l x b l₁ k₁ b' l₁ k₁
      (id-at scope l k l₁ k₁ b at id h n x ns bs f taken D
      (id-is N ns s scope k bs f taken left at h ty ps X Y G id i)
      (small N ns s scope k bs f taken left at h ty ps X Y G) G.scoped G.takes) e);
}

-- for one of its parameters
pub routine-full-parameter : (s scope inner b l k b₁ l₁ k₁ b₂ l₂ k₂ : List ℕ) (left at n id c count w m p : ℕ) (x z :
    Answer) →
    id ≡ get_or s (at + 1) 0 → c ≡ get_or s (at + 3) 0 → count ≡ min c 4 → IdFound scope l k (at + 1) id n x l₁ k₁ →
    x ≡ stepped w m → ParametersFound s scope scope b₁ l₁ k₁ (at + 4) count m z inner b₂ l₂ k₂ → z ≡ Err p →
    RoutineFound s scope b l k left at n z b₂ l₂ k₂
unfolding parameters-of
routine-full-parameter s scope inner b l k b₁ l₁ k₁ b₂ l₂ k₂ left at n id c count w m p x z i j q D d P e = record {
  onward = onward-full z p e;
  does = λ N ns bs f taken h ty ps X Y G.
      rw (whole_of N ns s scope k bs f taken left at h ty ps X Y G)
      (found-next (Chosen b) (Wrote at (procedure h ty ps X Y) b) (renumber_id bs taken (1 + at) h)
      (λ given t. parameters-of N ns s scope k bs f taken left at h ty ps X Y G given t) n w m l x z b l₁ k₁ b₂ l₂ k₂
      (id-at scope l k l₁ k₁ b at id h n x ns bs f taken D
      (id-is N ns s scope k bs f taken left at h ty ps X Y G id i)
      (small N ns s scope k bs f taken left at h ty ps X Y G) G.scoped G.takes) d
      (λ given then C T.
      found-full (WroteParameters ns bs f (at + 4) 4 ps b₁ inner) (Wrote at (procedure h ty ps X Y) b)
      (renumber_parameters bs then (4 + at) ps)
      (λ qs t. body_of N ns s scope k bs f taken left at h ty ps X Y G given qs t) m p l₁ z b₂ l₂ k₂ b₂ l₂ k₂
      (parameters-at N ns s scope k bs f taken left at h ty ps X Y G b₁ l₁ k₁ inner b₂ l₂ k₂ count m z then P
      (count-is N ns s scope k bs f taken left at h ty ps X Y G count c j q) T) e));
}

-- in its term
pub routine-full-body : (s scope inner b l k b₁ l₁ k₁ b₂ l₂ k₂ b₃ l₃ k₃ : List ℕ)
    (left at n id c count w m u o p : ℕ) (x z r : Answer) →
    id ≡ get_or s (at + 1) 0 → c ≡ get_or s (at + 3) 0 → count ≡ min c 4 → IdFound scope l k (at + 1) id n x l₁ k₁ →
    x ≡ stepped w m → ParametersFound s scope scope b₁ l₁ k₁ (at + 4) count m z inner b₂ l₂ k₂ → z ≡ stepped u o →
    PartFound s inner b₂ l₂ k₂ left (at + 12) o r b₃ l₃ k₃ → r ≡ Err p → RoutineFound s scope b l k left at n r b₃
    l₃ k₃
unfolding parameters-of body_of
routine-full-body s scope inner b l k b₁ l₁ k₁ b₂ l₂ k₂ b₃ l₃ k₃ left at n id c count w m u o p x z r i j q D d P g B
    e =
    record {
      onward = onward-full r p e;
      does = λ N ns bs f taken h ty ps X Y G.
          rw (whole_of N ns s scope k bs f taken left at h ty ps X Y G)
          (found-next (Chosen b) (Wrote at (procedure h ty ps X Y) b) (renumber_id bs taken (1 + at) h)
          (λ given t. parameters-of N ns s scope k bs f taken left at h ty ps X Y G given t) n w m l x r b l₁ k₁ b₃
          l₃ k₃
          (id-at scope l k l₁ k₁ b at id h n x ns bs f taken D
          (id-is N ns s scope k bs f taken left at h ty ps X Y G id i)
          (small N ns s scope k bs f taken left at h ty ps X Y G) G.scoped G.takes) d
          (λ given then C T.
          found-next (WroteParameters ns bs f (at + 4) 4 ps b₁ inner) (Wrote at (procedure h ty ps X Y) b)
          (renumber_parameters bs then (4 + at) ps)
          (λ qs t. body_of N ns s scope k bs f taken left at h ty ps X Y G given qs t) m u o l₁ z r b₂ l₂ k₂ b₃
          l₃ k₃
          (parameters-at N ns s scope k bs f taken left at h ty ps X Y G b₁ l₁ k₁ inner b₂ l₂ k₂ count m z then P
          (count-is N ns s scope k bs f taken left at h ty ps X Y G count c j q) T) g
          (λ qs then' Q T'.
          found-full (Wrote (at + 12) X b₂) (Wrote at (procedure h ty ps X Y) b)
          (renumber (inside ps bs) (map_inside f ps qs) then' (12 + at) X)
          (λ x' t. rest_of N ns s scope k bs f taken left at h ty ps X Y G given qs x' t) o p l₂ r b₃ l₃ k₃
          b₃ l₃ k₃
          (body_at N ns s scope k bs f taken left at h ty ps X Y G inner b₂ l₂ k₂ b₃ l₃ k₃ o r qs then' B
          Q.scoped T') e)));
    }

-- to the end
pub routine-found : (s scope inner outer b l k b₁ l₁ k₁ b₂ l₂ k₂ b₃ l₃ k₃ b' l' k' : List ℕ)
    (left at n id c count w m u o v a e : ℕ) (x z y r : Answer) →
    id ≡ get_or s (at + 1) 0 → c ≡ get_or s (at + 3) 0 → count ≡ min c 4 → IdFound scope l k (at + 1) id n x l₁ k₁ →
    x ≡ stepped w m → b₁ ≡ set b (at + 1) w → ParametersFound s scope scope b₁ l₁ k₁ (at + 4) count m z inner b₂ l₂ k₂ →
    z ≡ stepped u o → PartFound s inner b₂ l₂ k₂ left (at + 12) o y b₃ l₃ k₃ → y ≡ stepped v a → e ≡ bound_entry w count →
    outer ≡ set scope id e → PartFound s outer b₃ l₃ k₃ left v a r b' l' k' →
    RoutineFound s scope b l k left at n r b' l' k'
unfolding parameters-of body_of rest_of
routine-found s scope inner outer b l k b₁ l₁ k₁ b₂ l₂ k₂ b₃ l₃ k₃ b' l' k' left at n id c count w m u o v a e x z y r
    i j q D d bb P g B h en oo R =
    record {
      onward = R.onward;
      does = λ N ns bs f taken j' ty ps X Y G.
          let here : id ≡ j' = id-is N ns s scope k bs f taken left at j' ty ps X Y G id i in
          let many : count ≡ length ps = count-is N ns s scope k bs f taken left at j' ty ps X Y G count c j q in
          rw (whole_of N ns s scope k bs f taken left at j' ty ps X Y G)
          (found-next (Chosen b) (Wrote at (procedure j' ty ps X Y) b) (renumber_id bs taken (1 + at) j')
          (λ given t. parameters-of N ns s scope k bs f taken left at j' ty ps X Y G given t) n w m l x r b l₁ k₁ b'
          l' k'
          (id-at scope l k l₁ k₁ b at id j' n x ns bs f taken D here
          (small N ns s scope k bs f taken left at j' ty ps X Y G) G.scoped G.takes) d
          (λ given then C T.
          found-next (WroteParameters ns bs f (at + 4) 4 ps b₁ inner) (Wrote at (procedure j' ty ps X Y) b)
          (renumber_parameters bs then (4 + at) ps)
          (λ qs t. body_of N ns s scope k bs f taken left at j' ty ps X Y G given qs t) m u o l₁ z r b₂ l₂ k₂ b'
          l' k'
          (parameters-at N ns s scope k bs f taken left at j' ty ps X Y G b₁ l₁ k₁ inner b₂ l₂ k₂ count m z then P
          many T) g
          (λ qs then' Q T'.
          found-next (Wrote (at + 12) X b₂) (Wrote at (procedure j' ty ps X Y) b)
          (renumber (inside ps bs) (map_inside f ps qs) then' (12 + at) X)
          (λ x' t. rest_of N ns s scope k bs f taken left at j' ty ps X Y G given qs x' t) o v a l₂ y r b₃ l₃ k₃
          b' l' k'
          (body_at N ns s scope k bs f taken left at j' ty ps X Y G inner b₂ l₂ k₂ b₃ l₃ k₃ o y qs then' B
          Q.scoped T') h
          (λ x' then'' W T''.
          let Z : Renumbering Written =
          renumber (after j' ty ps bs) (put j' given f) then'' (12 + at + width X) Y in
          found-over a l₃ r b' l' k' (Wrote at (procedure j' ty ps X Y) b) (procedure given ty qs x') Z
          (found-so a l₃ r b' l' k' (Wrote v Y b₃)
          (λ y'. Wrote at (procedure j' ty ps X Y) b (procedure given ty qs x' y')) Z
          (λ y' value U. wrote N ns s scope k bs f taken left at j' ty ps X Y G b b₁ b₂ b₃ b' inner w
          given u v
          value qs x' y' C.valued bb Q W U)
          (rest_at N ns s scope k bs f taken left at j' ty ps X Y G outer b₃ l₃ k₃ b' l' k' a v given r
          then''
          R W.valued
          (scope-after N ns s scope k bs f taken left at j' ty ps X Y G outer id w e count given here
          C.valued C.small many en oo) T''))))));
    }
