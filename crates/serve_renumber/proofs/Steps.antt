-- The steps of the pass: parts, uses, news, procedures and the other records.
use Prim.Native.Nat.{ℕ, suc, ◌+◌, ◌-◌, ◌≤◌, ◌<◌}
use native.Mathlib.Omega.{arith}
use mathlib.Core.Path.{◌≡◌, refl, sym, ap, ap₂, ◌∙◌, subst}
use mathlib.Core.Bool.{Bool}
use mathlib.Core.List.{List, [], ◌∷◌}
use lib.ListN.{length, get_or, set}
use Rattle.language.specs.declared.Numbers.{Numbers}
use Rattle.sheet_records.specs.Kind.{shape_of, body_in}
use Rattle.sheet_written.specs.Written.{Written, skip, diverge, truth, number, call, fetch, operate, assign, sequence}
use Rattle.sheet_written.specs.Written.{while, choose, new, procedure, Writtens, none, more, Name}
use Rattle.sheet_written.specs.Meaning.{Binder, a_block, id_of, meant, Meaning, private, argument, routine, named}
use Rattle.sheet_written.specs.Meaning.{retired, free, meaning}
use Rattle.sheet_written.specs.Fine.{Fine, FineUse, FineArgs, depth, depths}
use Rattle.sheet_written.specs.Width.{width, widths}
use Rattle.sheet_written.specs.Renumber.{put, over, renumber_id}
use Rattle.sheet_written.specs.Renumber.{renumber, renumber_all}
use Rattle.sheet_reader.specs.Encoding.{encode, encodes}
use Rattle.serve_renumber.specs.Work.{Takes, bound_entry, arguments_in, becomes_in, arity, Scoped}
use Rattle.serve_renumber.specs.Work.{notes}
use Rattle.serve_renumber.specs.Found as found
use Rattle.serve_renumber.specs.Found.{Answer, stepped, Found, Onward, Chosen, IdFound, Given}
use Rattle.serve_renumber.specs.Found.{Wrote, PartFound, AllFine, GivenAll, WroteAll, PartsFound, CallFound}
use Rattle.serve_renumber.specs.Found.{BlockFound}
use Rattle.std.specs.Prelude.{Ok, Err}
use Rattle.serve_renumber.specs.declared.step.Step.{Step}
use Rattle.serve_renumber.proofs.Lists.{lies-get, lies-after, lies-first, rewrites-same, rewrites-after}
use Rattle.serve_renumber.proofs.Lists.{rewrites-then, rewrites-byte}
use Rattle.sheet_reader.proofs.Widths.{wide, width_some}
use Rattle.serve_renumber.proofs.Entries.{scoped-bound}
use Rattle.serve_renumber.proofs.Finding.{found-over, found-so, found-full, found-next}

-- the place after the bytes of a use, a new and a procedure
pub past-use : (at : ℕ) {body : ℕ} → body ≡ body_in (shape_of 20) → at + 1 + body ≡ at + 2
unfolding body_in shape_of
past-use at e = omega (arith, e)

pub past-new : (at : ℕ) {body : ℕ} → body ≡ body_in (shape_of 27) → at + 1 + body ≡ at + 3
unfolding body_in shape_of
past-new at e = omega (arith, e)

pub past-procedure : (at : ℕ) {body : ℕ} → body ≡ body_in (shape_of 28) → at + 1 + body ≡ at + 12
unfolding body_in shape_of
past-procedure at e = omega (arith, e)

pub part-there : {s scope b l k b' l' k' : List ℕ} {left from at n : ℕ} {r : Answer} → from ≡ at →
    PartFound s scope b l k left from n r b' l' k' → PartFound s scope b l k left at n r b' l' k'
part-there {s} {scope} {b} {l} {k} {b'} {l'} {k'} {left} {n = n} {r = r} e F =
    subst (λ (a : ℕ). PartFound s scope b l k left a n r b' l' k') e F

pub onward-full : (r : Answer) (p : ℕ) → r ≡ Err p → Onward r
unfolding Onward
onward-full r p e = subst (λ (x : Answer). Onward x) (sym e) tt

depth-some : (W : Written) → 0 < depth W
unfolding depth
depth-some skip = omega arith
depth-some (diverge ty) = omega arith
depth-some (truth b) = omega arith
depth-some (number b) = omega arith
depth-some (call id ws) = omega arith
depth-some (fetch v) = omega arith
depth-some (operate op x y) = omega arith
depth-some (assign x y) = omega arith
depth-some (sequence x y) = omega arith
depth-some (choose b x y) = omega arith
depth-some (while x y) = omega arith
depth-some (new id d c) = omega arith
depth-some (procedure id ty ps x y) = omega arith

-- no level left, or no byte
pub part-deep : (s scope b l k : List ℕ) (left at n : ℕ) → left ≡ 0 → PartFound s scope b l k left at n (Err at) b l k
unfolding Onward
part-deep s scope b l k left at n e = record {
  onward = tt;
  does = λ N ns bs f taken W G. absurd (omega (arith, G.deep, depth-some W));
}

pub part-past : (s scope b l k : List ℕ) (left at n : ℕ) → 4096 ≤ at → PartFound s scope b l k left at n (Err at) b l k
unfolding Onward
part-past s scope b l k left at n e = record {
  onward = tt;
  does = λ N ns bs f taken W G. absurd (omega (arith, G.short, width_some W));
}

-- no part more
none-at : (at n : ℕ) (b l k : List ℕ) (bs : List Binder) (f : ℕ → ℕ) (taken : ℕ → Bool) (ws : Writtens) →
    found.number ws ≡ 0 → Takes k taken → Found (WroteAll at ws b) (renumber_all bs f taken at ws) n l (stepped at n) b l k
unfolding found.number renumber_all Found notes widths
none-at at n b l k bs f taken none e T =
    let m : n ≡ n + 0 = omega arith in
    record {
      value = at;
      answer = ap (stepped at) m;
      post = record { valued = omega arith; same = refl; bytes = rewrites-same at (encodes none) b };
      list = refl;
      takes = T;
    }
none-at at n b l k bs f taken (more w ws) e T = absurd (omega (arith, e))

pub no_part : (s scope b l k : List ℕ) (left at count n : ℕ) → count ≡ 0 → n ≤ at → at ≤ 8192 →
    PartsFound s scope b l k left at count n (stepped at n) b l k
unfolding Onward
no_part s scope b l k left at count n c m h = record {
  onward = (h, m);
  does = λ N ns bs f taken ws e G. none-at at n b l k bs f taken ws (sym e ∙ c) G.takes;
}

-- the first part, and those after it
module _ (N : Numbers) (ns : List Name) (s scope k : List ℕ) (bs : List Binder) (f : ℕ → ℕ) (taken : ℕ → Bool)
    (left at : ℕ) (w : Written) (ws : Writtens) (G : GivenAll N ns s scope k bs f taken left at (more w ws)) where
  first-given : Given N ns s scope k bs f taken left at w
  unfolding AllFine depths encodes widths
  first-given = record {
    fine = G.fine.0;
    deep = omega (arith, G.deep);
    lies = lies-first s (encode w) (encodes ws) at G.lies;
    short = omega (arith, G.short);
    scoped = G.scoped;
    takes = G.takes;
  }

  rest-given : (a : ℕ) (k' : List ℕ) (then : ℕ → Bool) → a ≡ at + width w → Takes k' then →
      GivenAll N ns s scope k' bs f then left a ws
  unfolding AllFine depths encodes widths
  rest-given a k' then e T = record {
    fine = G.fine.1;
    deep = omega (arith, G.deep);
    lies = lies-after s (encode w) (encodes ws) (encodes ws) at a G.lies refl (omega (arith, wide w, e));
    short = omega (arith, G.short, e);
    scoped = G.scoped;
    takes = T;
  }

-- no id is left in the first
pub parts-full : (s scope b l k b₁ l₁ k₁ : List ℕ) (left at count n p : ℕ) (x : Answer) → (count ≡ 0 → ⊥) →
    PartFound s scope b l k left at n x b₁ l₁ k₁ → x ≡ Err p → PartsFound s scope b l k left at count n x b₁ l₁ k₁
unfolding renumber_all found.number
parts-full s scope b l k b₁ l₁ k₁ left at count n p x c P e = record {
  onward = P.onward;
  does = λ N ns bs f taken ws i G. go N ns bs f taken ws i G;
}
  where
    go : (N : Numbers) (ns : List Name) (bs : List Binder) (f : ℕ → ℕ) (taken : ℕ → Bool) (ws : Writtens) →
        count ≡ found.number ws → GivenAll N ns s scope k bs f taken left at ws →
        Found (WroteAll at ws b) (renumber_all bs f taken at ws) n l x b₁ l₁ k₁
    go N ns bs f taken none i G = absurd (c i)
    go N ns bs f taken (more w ws) i G =
        found-full (Wrote at w b) (WroteAll at (more w ws) b) (renumber bs f taken at w)
        (λ w' then. over (more w') (renumber_all bs f then (at + width w) ws)) n p l x b₁ l₁ k₁ b₁ l₁ k₁
        (P.does N ns bs f taken w (first-given N ns s scope k bs f taken left at w ws G)) e

pub parts_more : (s scope b l k b₁ l₁ k₁ b' l' k' : List ℕ) (left at count n v c m : ℕ) (x r : Answer) → (count ≡ 0 → ⊥) →
    PartFound s scope b l k left at n x b₁ l₁ k₁ → x ≡ stepped v c → m ≡ count - 1 →
    PartsFound s scope b₁ l₁ k₁ left v m c r b' l' k' → PartsFound s scope b l k left at count n r b' l' k'
unfolding renumber_all found.number widths encodes
parts_more s scope b l k b₁ l₁ k₁ b' l' k' left at count n v c m x r z P e q Q = record {
  onward = Q.onward;
  does = λ N ns bs f taken ws i G. go N ns bs f taken ws i G;
}
  where
    go : (N : Numbers) (ns : List Name) (bs : List Binder) (f : ℕ → ℕ) (taken : ℕ → Bool) (ws : Writtens) →
        count ≡ found.number ws → GivenAll N ns s scope k bs f taken left at ws →
        Found (WroteAll at ws b) (renumber_all bs f taken at ws) n l r b' l' k'
    go N ns bs f taken none i G = absurd (z i)
    go N ns bs f taken (more w ws) i G =
        found-next (Wrote at w b) (WroteAll at (more w ws) b) (renumber bs f taken at w)
        (λ w' then. over (more w') (renumber_all bs f then (at + width w) ws)) n v c l x r b₁ l₁ k₁ b' l' k'
        (P.does N ns bs f taken w (first-given N ns s scope k bs f taken left at w ws G)) e
        (λ w' then W T.
        let here : v ≡ at + width w = W.valued in
        let F : Found (WroteAll v ws b₁) (renumber_all bs f then v ws) c l₁ r b' l' k' =
        Q.does N ns bs f then ws (omega (arith, i, q))
        (rest-given N ns s scope k bs f taken left at w ws G v k₁ then here T) in
        let F' : Found (WroteAll v ws b₁) (renumber_all bs f then (at + width w) ws) c l₁ r b' l' k' =
        subst (λ (a : ℕ). Found (WroteAll v ws b₁) (renumber_all bs f then a ws) c l₁ r b' l' k') here F in
        found-over c l₁ r b' l' k' (WroteAll at (more w ws) b) (more w') (renumber_all bs f then (at + width w) ws)
        (found-so c l₁ r b' l' k' (WroteAll v ws b₁) (λ ws'. WroteAll at (more w ws) b (more w' ws'))
        (renumber_all bs f then (at + width w) ws)
        (λ ws' value A. record {
          valued = omega (arith, A.valued, here);
          same = omega (arith, A.same, W.same);
          bytes = rewrites-then at v (encode w) (encode w') (encodes ws) (encodes ws') b b₁ b'
              (omega (arith, wide w, wide w', W.same)) (omega (arith, here, wide w)) W.bytes A.bytes;
        })
        F'))

-- an id byte
pub id-at : (scope l k l₁ k₁ b : List ℕ) (at id i n : ℕ) (x : Answer) (ns : List Name) (bs : List Binder) (f : ℕ → ℕ)
    (taken : ℕ → Bool) → IdFound scope l k (at + 1) id n x l₁ k₁ → id ≡ i → i < 255 → Scoped ns bs f scope →
    Takes k taken → Found (Chosen b) (renumber_id bs taken (1 + at) i) n l x b l₁ k₁
id-at scope l k l₁ k₁ b at id i n x ns bs f taken D e h S T =
    let F : Found (Chosen b) (renumber_id bs taken (at + 1) id) n l x b l₁ k₁ =
    D.does ns bs f taken b (omega (arith, h, e)) S T in
    let p : at + 1 ≡ 1 + at = omega arith in
    subst (λ (a : ℕ). Found (Chosen b) (renumber_id bs taken a i) n l x b l₁ k₁) p
    (subst (λ (a : ℕ). Found (Chosen b) (renumber_id bs taken (at + 1) a) n l x b l₁ k₁) e F)

-- the use of an id has the arguments that the id means
use-args : (N : Numbers) (ns : List Name) (bs : List Binder) (ws : Writtens) (tys : List ℕ) → FineArgs N ns bs ws tys →
    (length tys ≡ found.number ws) × AllFine N ns bs ws
unfolding FineArgs found.number AllFine
use-args N ns bs none [] F = (refl, tt)
use-args N ns bs none (ty ∷ tys) F = absurd F
use-args N ns bs (more w ws) [] F = absurd F
use-args N ns bs (more w ws) (ty ∷ tys) F =
    let h = use-args N ns bs ws tys F.2 in (ap suc h.0, (F.0, h.1))

use-none : (N : Numbers) (ns : List Name) (bs : List Binder) (ws : Writtens) → ws ≡ none →
    (0 ≡ found.number ws) × AllFine N ns bs ws
unfolding found.number AllFine
use-none N ns bs none e = (refl, tt)
use-none N ns bs (more w ws) e = absurd (cc)

pub use-arity : (N : Numbers) (ns : List Name) (bs : List Binder) (ws : Writtens) (m : Meaning) →
    FineUse m (ws ≡ none) (λ tys. FineArgs N ns bs ws tys) → (arity m ≡ found.number ws) × AllFine N ns bs ws
unfolding FineUse arity
use-arity N ns bs ws (private j d) F = use-none N ns bs ws F
use-arity N ns bs ws (argument j ty) F = use-none N ns bs ws F
use-arity N ns bs ws (routine j ty tys) F = use-args N ns bs ws tys F
use-arity N ns bs ws (named often ty tys) F = use-args N ns bs ws tys F
use-arity N ns bs ws retired F = absurd F
use-arity N ns bs ws free F = absurd F

-- a use
pub call-found : (s scope b l k b₁ b' l' k' : List ℕ) (left at n id e w count a : ℕ) (r : Answer) →
    id ≡ get_or s (at + 1) 0 → e ≡ get_or scope id 0 → w ≡ becomes_in e id → b₁ ≡ set b (at + 1) w → count ≡ arguments_in e →
    a ≡ at + 2 → PartsFound s scope b₁ l k left a count n r b' l' k' → CallFound s scope b l k left at n r b' l' k'
unfolding Fine depth encode width renumber
call-found s scope b l k b₁ b' l' k' left at n id e w count a r i j u v q o P = record {
  onward = P.onward;
  does = λ N ns bs f taken h ws G.
      let here : id ≡ h = i ∙ lies-get s (20 ∷ h ∷ encodes ws) at 1 G.lies in
      let small : h < 255 = G.fine.0 in
      let entry : e ≡ get_or scope h 0 = j ∙ ap (λ (x : ℕ). get_or scope x 0) here in
      let U = use-arity N ns bs ws (meaning ns bs h) G.fine.1 in
      let many : count ≡ found.number ws =
      q ∙ ap arguments_in entry ∙ G.scoped.counts h small ∙ U.0 in
      let new-id : w ≡ f h = u ∙ ap₂ becomes_in entry here ∙ G.scoped.becomes h small in
      let F : Found (WroteAll a ws b₁) (renumber_all bs f taken a ws) n l r b' l' k' =
      P.does N ns bs f taken ws many (record {
        fine = U.1;
        deep = omega (arith, G.deep);
        lies = lies-after s (20 ∷ h ∷ []) (encodes ws) (encodes ws) at a G.lies refl o;
        short = omega (arith, G.short, o);
        scoped = G.scoped;
        takes = G.takes;
      }) in
      let A : ℕ = 2 + at in
      let F' : Found (WroteAll a ws b₁) (renumber_all bs f taken A ws) n l r b' l' k' =
      subst (λ (x : ℕ). Found (WroteAll a ws b₁) (renumber_all bs f taken x ws) n l r b' l' k') (omega (arith, o)) F in
      found-over n l r b' l' k' (Wrote at (call h ws) b) (call (f h)) (renumber_all bs f taken A ws)
      (found-so n l r b' l' k' (WroteAll a ws b₁) (λ ws'. Wrote at (call h ws) b (call (f h) ws'))
      (renumber_all bs f taken A ws)
      (λ ws' value W. record {
        valued = omega (arith, W.valued, o);
        same = omega (arith, W.same);
        bytes = rewrites-after at (at + 1) (20 ∷ []) (h ∷ encodes ws) (f h ∷ encodes ws') b b' refl
            (rewrites-then (at + 1) a (h ∷ []) (f h ∷ []) (encodes ws) (encodes ws') b b₁ b' refl (omega (arith, o))
            (rewrites-byte (at + 1) h (f h) b b₁ (v ∙ ap (set b (at + 1)) new-id)) W.bytes);
      }) F');
}

-- a new
pub block-full : (s scope b l k l₁ k₁ b' : List ℕ) (left at n id p : ℕ) (x : Answer) → id ≡ get_or s (at + 1) 0 →
    IdFound scope l k (at + 1) id n x l₁ k₁ → x ≡ Err p → BlockFound s scope b l k left at n x b' l₁ k₁
unfolding Fine encode renumber
block-full s scope b l k l₁ k₁ b' left at n id p x i D e = record {
  onward = onward-full x p e;
  does = λ N ns bs f taken h d c G.
      let here : id ≡ h = i ∙ lies-get s (27 ∷ h ∷ d ∷ encode c) at 1 G.lies in
      found-full (Chosen b) (Wrote at (new h d c) b) (renumber_id bs taken (1 + at) h)
      (λ id' then. over (new id' d) (renumber (a_block h d ∷ bs) (put h id' f) then (3 + at) c)) n p l x b l₁ k₁ b'
      l₁ k₁ (id-at scope l k l₁ k₁ b at id h n x ns bs f taken D here G.fine.0 G.scoped G.takes) e;
}

pub block-found : (s scope inner b l k b₁ l₁ k₁ b' l' k' : List ℕ) (left at n id w m e a : ℕ) (x r : Answer) →
    id ≡ get_or s (at + 1) 0 → IdFound scope l k (at + 1) id n x l₁ k₁ → x ≡ stepped w m → b₁ ≡ set b (at + 1) w →
    e ≡ bound_entry w 0 → inner ≡ set scope id e → a ≡ at + 3 → PartFound s inner b₁ l₁ k₁ left a m r b' l' k' →
    BlockFound s scope b l k left at n r b' l' k'
unfolding Fine depth encode width renumber id_of arity meant
block-found s scope inner b l k b₁ l₁ k₁ b' l' k' left at n id w m e a x r i D q v u z o P = record {
  onward = P.onward;
  does = λ N ns bs f taken h d c G.
      let here : id ≡ h = i ∙ lies-get s (27 ∷ h ∷ d ∷ encode c) at 1 G.lies in
      found-next (Chosen b) (Wrote at (new h d c) b) (renumber_id bs taken (1 + at) h)
      (λ id' then. over (new id' d) (renumber (a_block h d ∷ bs) (put h id' f) then (3 + at) c)) n w m l x r b l₁ k₁
      b' l' k' (id-at scope l k l₁ k₁ b at id h n x ns bs f taken D here G.fine.0 G.scoped G.takes) q
      (λ given then C T.
      let A : ℕ = 3 + at in
      let I : Scoped ns (a_block h d ∷ bs) (put h given f) inner =
      subst (λ (X : List ℕ). Scoped ns (a_block h d ∷ bs) (put h given f) X)
      (sym (z ∙ ap₂ (set scope) here (u ∙ ap (λ (X : ℕ). bound_entry X 0) C.valued)))
      (scoped-bound ns bs f scope (a_block h d) h given 0 G.scoped refl G.fine.0
      (omega (arith, C.small)) (omega arith) refl) in
      let F : Found (Wrote a c b₁) (renumber (a_block h d ∷ bs) (put h given f) then a c) m l₁ r b' l' k' =
      P.does N ns (a_block h d ∷ bs) (put h given f) then c (record {
        fine = G.fine.4;
        deep = omega (arith, G.deep);
        lies = lies-after s (27 ∷ h ∷ d ∷ []) (encode c) (encode c) at a G.lies refl o;
        short = omega (arith, G.short, o);
        scoped = I;
        takes = T;
      }) in
      let F' : Found (Wrote a c b₁) (renumber (a_block h d ∷ bs) (put h given f) then A c) m l₁ r b' l' k' =
      subst (λ (X : ℕ). Found (Wrote a c b₁) (renumber (a_block h d ∷ bs) (put h given f) then X c) m l₁ r b'
      l' k')
      (omega (arith, o)) F in
      found-over m l₁ r b' l' k' (Wrote at (new h d c) b) (new given d)
      (renumber (a_block h d ∷ bs) (put h given f) then A c)
      (found-so m l₁ r b' l' k' (Wrote a c b₁) (λ c'. Wrote at (new h d c) b (new given d c'))
      (renumber (a_block h d ∷ bs) (put h given f) then A c)
      (λ c' value W. record {
        valued = omega (arith, W.valued, o);
        same = omega (arith, W.same);
        bytes = rewrites-after at (at + 1) (27 ∷ []) (h ∷ d ∷ encode c) (given ∷ d ∷ encode c') b b' refl
            (rewrites-then (at + 1) (at + 2) (h ∷ []) (given ∷ []) (d ∷ encode c) (d ∷ encode c') b b₁ b' refl
            (omega arith) (rewrites-byte (at + 1) h given b b₁ (v ∙ ap (set b (at + 1)) C.valued))
            (rewrites-after (at + 2) a (d ∷ []) (encode c) (encode c') b₁ b' (omega (arith, o)) W.bytes));
      })
      F'));
}

-- of a step that is done
pub onward-done : {x : Step} → Onward (Ok x) → (x.value ≤ 8192) × (x.changes ≤ x.value)
unfolding Onward
onward-done h = h
