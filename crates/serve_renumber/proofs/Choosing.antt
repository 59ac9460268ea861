-- The id of a binder, and those of parameters.
use Prim.Native.Nat.{ℕ, zero, suc, ◌+◌, ◌-◌, ◌≤◌, ◌<◌}
use native.Mathlib.Omega.{arith}
use mathlib.Core.Path.{◌≡◌, refl, sym, ap, ap₂, ◌∙◌, subst}
use mathlib.Core.Bool.{Bool, true, false}
use mathlib.Core.List.{List, [], ◌∷◌}
use lib.ListN.{length, get_or, set}
use borrow.Author.Tests.{lt-ltb, le-ltb}
use Rattle.sheet_written.specs.Written.{Parameter, Name}
use Rattle.sheet_written.specs.Meaning.{Binder, a_parameter, id_of, meant, inside}
use Rattle.sheet_written.specs.Fine.{FineParameters}
use Rattle.sheet_written.specs.Hiding.{is_held}
use Rattle.sheet_written.specs.Renumber.{put, map_inside, over, lowest, changed, renumber_id}
use Rattle.sheet_written.specs.Renumber.{with_id, renumber_parameters}
use Rattle.sheet_reader.specs.Encoding.{pairs}
use Rattle.serve_renumber.specs.Work.{marked, Takes, bound_entry, held_in, arity, Scoped, Lies, note, notes}
use Rattle.serve_renumber.specs.Found.{Answer, stepped, Found, Within, Chosen, IdFound, WroteParameters, ParametersFound}
use Rattle.std.specs.Prelude.{Ok, Err}
use Rattle.serve_renumber.specs.declared.step.Step.{Step}
use Rattle.serve_renumber.proofs.Lists.{lies-head, lies-after, rewrites-same, rewrites-after, rewrites-then}
use Rattle.serve_renumber.proofs.Lists.{rewrites-byte}
use Rattle.serve_renumber.proofs.Entries.{scoped-bound, takes-put, lowest-same}
use Rattle.serve_renumber.proofs.Finding.{found-over, found-so, found-full, found-next}

-- of a step that is done
pub within-done : {v d : ℕ} {x : Step} → Within v d (Ok x) → (x.value ≤ v) × (x.changes ≤ d)
unfolding Within
within-done h = h

-- no enclosing binder has the id
pub id-kept : (scope l k : List ℕ) (at id n e : ℕ) (h : Bool) → id < 256 → e ≡ get_or scope id 0 → h ≡ held_in e →
    h ≡ false → IdFound scope l k at id n (stepped id n) l k
unfolding Within renumber_id Found notes
id-kept scope l k at id n e h s i j f = record {
  within = (omega arith, omega arith);
  does = λ ns bs g taken b small S T. go bs taken b small (sym (S.helds id small) ∙ ap held_in (sym i) ∙ sym j ∙ f)
      T;
}
  where
    go : (bs : List Binder) (taken : ℕ → Bool) (b : List ℕ) → id < 255 → is_held bs id ≡ false → Takes k taken →
        Found (Chosen b) (renumber_id bs taken at id) n l (stepped id n) b l k
    go bs taken b small z T =
        let m : n ≡ n + 0 = omega arith in
        rw z (record {
          value = id;
          answer = ap (stepped id) m;
          post = record { valued = refl; small = small; bytes = refl };
          list = refl;
          takes = T;
        })

-- an enclosing binder has it, and no id is left
pub id-none : (scope l k : List ℕ) (at id n e low : ℕ) (h : Bool) → e ≡ get_or scope id 0 → h ≡ held_in e → h ≡ true →
    low ≡ lowest (marked k) → 255 ≤ low → IdFound scope l k at id n (Err at) l k
unfolding Within renumber_id changed Found
id-none scope l k at id n e low h i j f q c = record {
  within = tt;
  does = λ ns bs g taken b small S T.
      go bs taken b (sym (S.helds id small) ∙ ap held_in (sym i) ∙ sym j ∙ f) (q ∙ lowest-same k taken T);
}
  where
    go : (bs : List Binder) (taken : ℕ → Bool) (b : List ℕ) → is_held bs id ≡ true → low ≡ lowest taken →
        Found (Chosen b) (renumber_id bs taken at id) n l (Err at) b l k
    go bs taken b z y = rw (z, sym y, le-ltb low 255 c) refl

-- or the lowest is given
pub id-given : (scope l k l' k' : List ℕ) (at id n e low m : ℕ) (h : Bool) → e ≡ get_or scope id 0 → h ≡ held_in e →
    h ≡ true → low ≡ lowest (marked k) → low < 255 → l' ≡ note n (record { place = at; old = id; given = low }) l →
    k' ≡ set k low 1 → m ≡ n + 1 → IdFound scope l k at id n (stepped low m) l' k'
unfolding Within renumber_id changed Found notes
id-given scope l k l' k' at id n e low m h i j f q c w v a = record {
  within = (omega arith, omega arith);
  does = λ ns bs g taken b small S T.
      go bs taken b (sym (S.helds id small) ∙ ap held_in (sym i) ∙ sym j ∙ f) (q ∙ lowest-same k taken T) T;
}
  where
    go : (bs : List Binder) (taken : ℕ → Bool) (b : List ℕ) → is_held bs id ≡ true → low ≡ lowest taken →
        Takes k taken → Found (Chosen b) (renumber_id bs taken at id) n l (stepped low m) b l' k'
    go bs taken b z y T =
        rw (z, sym y, lt-ltb low 255 c) (record {
          value = low;
          answer = ap (stepped low) a;
          post = record { valued = refl; small = c; bytes = refl };
          list = w;
          takes = subst (λ (x : List ℕ). Takes x (put low true taken)) (sym v) (takes-put k taken low T);
        })

-- no parameter more
pub parameters-none : (s scope inner b l k : List ℕ) (at count n : ℕ) → count ≡ 0 →
    ParametersFound s scope inner b l k at count n (stepped 0 n) inner b l k
unfolding Within renumber_parameters Found notes inside map_inside
parameters-none s scope inner b l k at count n c = record {
  within = (omega arith, omega arith);
  does = λ ns bs cs f g taken many earlier ps F e m L S I T. go ns bs cs g taken many ps (sym e ∙ c) I T;
}
  where
    go : (ns : List Name) (bs cs : List Binder) (g : ℕ → ℕ) (taken : ℕ → Bool) (many : ℕ) (ps : List Parameter) →
        length ps ≡ 0 → Scoped ns cs g inner → Takes k taken →
        Found (WroteParameters ns cs g at many ps b inner) (renumber_parameters bs taken at ps) n l (stepped 0 n) b l k
    go ns bs cs g taken many [] e I T =
        let m : n ≡ n + 0 = omega arith in
        record {
          value = 0;
          answer = ap (stepped 0) m;
          post = record { same = refl; scoped = I; bytes = rewrites-same at (pairs many []) b };
          list = refl;
          takes = T;
        }
    go ns bs cs g taken many (p ∷ ps) e I T = absurd (omega (arith, e))

-- the id byte of the first
first-id : (s : List ℕ) (at many id : ℕ) (p : Parameter) (ps : List Parameter) → Lies s at (pairs (suc many) (p ∷ ps)) →
    id ≡ get_or s at 0 → id ≡ p.id
unfolding pairs
first-id s at many id p ps L e = e ∙ lies-head s (p.id ∷ p.holds ∷ pairs many ps) at L

rest-lies : (s : List ℕ) (at a many : ℕ) (p : Parameter) (ps : List Parameter) → Lies s at (pairs (suc many) (p ∷ ps)) →
    a ≡ at + 2 → Lies s a (pairs many ps)
unfolding pairs
rest-lies s at a many p ps L e = lies-after s (p.id ∷ p.holds ∷ []) (pairs many ps) (pairs many ps) at a L refl e

-- no id is left for it
pub parameters-full : (s scope inner b l k l₁ k₁ inner' b' : List ℕ) (at count n id p : ℕ) (x : Answer) →
    (count ≡ 0 → ⊥) → id ≡ get_or s at 0 → IdFound scope l k at id n x l₁ k₁ → x ≡ Err p →
    ParametersFound s scope inner b l k at count n x inner' b' l₁ k₁
unfolding Within renumber_parameters FineParameters
parameters-full s scope inner b l k l₁ k₁ inner' b' at count n id p x c i D e = record {
  within = subst (λ (y : Answer). Within 0 (n + count) y) (sym e) tt;
  does = λ ns bs cs f g taken many earlier ps F j m L S I T. go ns bs cs f g taken many earlier ps F j m L S T;
}
  where
    go : (ns : List Name) (bs cs : List Binder) (f g : ℕ → ℕ) (taken : ℕ → Bool) (many : ℕ)
        (earlier ps : List Parameter) → FineParameters ns earlier ps → count ≡ length ps → count ≤ many →
        Lies s at (pairs many ps) → Scoped ns bs f scope → Takes k taken →
        Found (WroteParameters ns cs g at many ps b inner') (renumber_parameters bs taken at ps) n l x b' l₁ k₁
    go ns bs cs f g taken many earlier [] F j m L S T = absurd (c j)
    go ns bs cs f g taken zero earlier (q ∷ qs) F j m L S T = absurd (omega (arith, j, m))
    go ns bs cs f g taken (suc many) earlier (q ∷ qs) F j m L S T =
        let z : id ≡ q.id = first-id s at many id q qs L i in
        let small : id < 255 = omega (arith, F.0) in
        let A : Found (Chosen b) (renumber_id bs taken at id) n l x b l₁ k₁ = D.does ns bs f taken b small S T in
        found-full (Chosen b) (WroteParameters ns cs g at (suc many) (q ∷ qs) b inner') (renumber_id bs taken at q.id)
        (λ v then. over (◌∷◌ (with_id q v)) (renumber_parameters bs then (2 + at) qs)) n p l x b l₁ k₁ b' l₁ k₁
        (subst (λ (y : ℕ). Found (Chosen b) (renumber_id bs taken at y) n l x b l₁ k₁) z A) e

-- one parameter, and the others
pub parameters-more : (s scope inner b l k l₁ k₁ b₁ inner₁ inner' b' l' k' : List ℕ) (at count n id w c e a m : ℕ)
    (x r : Answer) → (count ≡ 0 → ⊥) → id ≡ get_or s at 0 → IdFound scope l k at id n x l₁ k₁ → x ≡ stepped w c →
    b₁ ≡ set b at w → e ≡ bound_entry w 0 → inner₁ ≡ set inner id e → a ≡ at + 2 → m ≡ count - 1 →
    ParametersFound s scope inner₁ b₁ l₁ k₁ a m c r inner' b' l' k' →
    ParametersFound s scope inner b l k at count n r inner' b' l' k'
unfolding Within renumber_parameters FineParameters with_id inside map_inside pairs id_of arity meant
parameters-more s scope inner b l k l₁ k₁ b₁ inner₁ inner' b' l' k' at count n id w c e a m x r z i D d v u y o q P =
    record {
      within = within r P.within;
      does = λ ns bs cs f g taken many earlier ps F j h L S I T. go ns bs cs f g taken many earlier ps F j h L S I T;
    }
  where
    few : c ≤ n + 1
    few = (subst (λ (t : Answer). Within 255 (n + 1) t) d D.within).1

    within : (t : Answer) → Within 0 (c + m) t → Within 0 (n + count) t
    within (Ok step) h = (h.0, omega (arith, h.1, few, q, z))
    within (Err p) h = tt

    go : (ns : List Name) (bs cs : List Binder) (f g : ℕ → ℕ) (taken : ℕ → Bool) (many : ℕ)
        (earlier ps : List Parameter) → FineParameters ns earlier ps → count ≡ length ps → count ≤ many →
        Lies s at (pairs many ps) → Scoped ns bs f scope → Scoped ns cs g inner → Takes k taken →
        Found (WroteParameters ns cs g at many ps b inner') (renumber_parameters bs taken at ps) n l r b' l' k'
    go ns bs cs f g taken many earlier [] F j h L S I T = absurd (z j)
    go ns bs cs f g taken zero earlier (p ∷ ps) F j h L S I T = absurd (omega (arith, j, h))
    go ns bs cs f g taken (suc many) earlier (p ∷ ps) F j h L S I T =
        let t : id ≡ p.id = first-id s at many id p ps L i in
        let small : id < 255 = omega (arith, F.0) in
        let A : Found (Chosen b) (renumber_id bs taken at id) n l x b l₁ k₁ = D.does ns bs f taken b small S T in
        found-next (Chosen b) (WroteParameters ns cs g at (suc many) (p ∷ ps) b inner') (renumber_id bs taken at p.id)
        (λ v then. over (◌∷◌ (with_id p v)) (renumber_parameters bs then (2 + at) ps)) n w c l x r b l₁ k₁ b' l' k'
        (subst (λ (y : ℕ). Found (Chosen b) (renumber_id bs taken at y) n l x b l₁ k₁) t A) d
        (λ given then C K. later given then C K)
      where
        later : (given : ℕ) (then : ℕ → Bool) → Chosen b given w b → Takes k₁ then →
            Found (WroteParameters ns cs g at (suc many) (p ∷ ps) b inner')
            (over (◌∷◌ (with_id p given)) (renumber_parameters bs then (2 + at) ps)) c l₁ r b' l' k'
        later given then C K =
            let t : id ≡ p.id = first-id s at many id p ps L i in
            let I' : Scoped ns (a_parameter p.id p.holds ∷ cs) (put p.id given g) inner₁ =
            subst (λ (X : List ℕ). Scoped ns (a_parameter p.id p.holds ∷ cs) (put p.id given g) X)
            (sym (y ∙ ap₂ (set inner) t (u ∙ ap (λ (X : ℕ). bound_entry X 0) C.valued)))
            (scoped-bound ns cs g inner (a_parameter p.id p.holds) p.id given 0 I refl F.0
            (omega (arith, C.small)) (omega arith) refl) in
            let G : Found (WroteParameters ns (a_parameter p.id p.holds ∷ cs) (put p.id given g) a many ps
            b₁ inner')
            (renumber_parameters bs then a ps) c l₁ r b' l' k' =
            P.does ns bs (a_parameter p.id p.holds ∷ cs) f (put p.id given g) then many (p ∷ earlier) ps
            F.4 (omega (arith, q, j)) (omega (arith, q, j, h)) (rest-lies s at a many p ps L o) S I' K in
            let Post : List Parameter → ℕ → List ℕ → Type 0 =
            WroteParameters ns (a_parameter p.id p.holds ∷ cs) (put p.id given g) a many ps b₁ inner' in
            let Then : List Parameter → ℕ → List ℕ → Type 0 = WroteParameters ns cs g at (suc many) (p ∷ ps) b inner' in
            let A : ℕ = 2 + at in
            let G' : Found Post (renumber_parameters bs then A ps) c l₁ r b' l' k' =
            subst (λ (X : ℕ). Found Post (renumber_parameters bs then X ps) c l₁ r b' l' k') (omega (arith, o)) G in
            found-over c l₁ r b' l' k' Then (◌∷◌ (with_id p given)) (renumber_parameters bs then A ps)
            (found-so c l₁ r b' l' k' Post (λ qs. Then (with_id p given ∷ qs)) (renumber_parameters bs then A ps)
            (λ qs value W. record {
              same = ap suc W.same;
              scoped = W.scoped;
              bytes = rewrites-then at (at + 1) (p.id ∷ []) (given ∷ []) (p.holds ∷ pairs many ps)
                  (p.holds ∷ pairs many qs) b b₁ b' refl refl
                  (rewrites-byte at p.id given b b₁ (v ∙ ap (set b at) C.valued))
                  (rewrites-after (at + 1) a (p.holds ∷ []) (pairs many ps) (pairs many qs) b₁ b' (omega (arith, o))
                  W.bytes);
            }) G')
