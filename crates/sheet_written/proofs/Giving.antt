-- The renumbering makes a sheet mapped from the sheet as read, with ids in order and no binder hiding another. Document
-- 02 [4].
use Prim.Native.Nat.{ℕ, ◌+◌, ◌<◌}
use mathlib.Core.Path.{◌≡◌, refl, sym, ap, ◌∙◌, subst}
use mathlib.Core.Bool.{Bool, true, false}
use mathlib.Core.List.{List, [], ◌∷◌, ◌++◌}
use lib.Dec.{ltb}
use borrow.Author.Tests.{ltb-true}
use Rattle.sheet_written.specs.Written.{Written, skip, diverge, truth, number, call, fetch, operate, assign}
use Rattle.sheet_written.specs.Written.{sequence, while, choose, new, procedure, Parameter, Writtens, none, more}
use Rattle.sheet_written.specs.Written.{Name}
use Rattle.sheet_written.specs.Meaning.{Binder, a_block, a_parameter, a_procedure, free, declared, id_of, inside}
use Rattle.sheet_written.specs.Meaning.{after, types_of}
use Rattle.sheet_written.specs.Fine.{Unlike, FineParameters}
use Rattle.sheet_written.specs.Ids.{FineIds, AllFineIds}
use Rattle.sheet_written.specs.Mapped.{Clear, Binds, seen_inside, Mapped, to_skip, to_diverge}
use Rattle.sheet_written.specs.Mapped.{to_truth, to_number, to_call, to_fetch, to_operate, to_assign, to_sequence}
use Rattle.sheet_written.specs.Mapped.{to_choose, to_while, to_new, to_procedure, Mappeds, to_none, to_more}
use Rattle.sheet_written.specs.Hiding.{is_held, Unheld, ApartParameters, Apart, AllApart}
use Rattle.sheet_written.specs.Renumber.{put, map_inside}
use Rattle.sheet_written.specs.Renumber.{Change, Renumbering, renumbered, none_left, over, before, next, lowest}
use Rattle.sheet_written.specs.Renumber.{changed, renumber_id, with_id, renumber_parameters, renumber, renumber_all}
use Rattle.sheet_written.specs.Width.{width}
use Rattle.sheet_written.specs.Renumbering.{Olds}
use Rattle.sheet_written.proofs.Tests.{by-test}
use Rattle.sheet_written.proofs.Lowest.{true-false, not-true, put-here, put-past, put-true, by-id, held-here}
use Rattle.sheet_written.proofs.Lowest.{held-past, held-cases, lowest_free}
use Rattle.sheet_written.proofs.Known.{Marked, Known, AllKnown}

-- ids once taken stay taken
unfoldable pub Grows : (ℕ → Bool) → (ℕ → Bool) → Type 0
Grows taken then = (j : ℕ) → taken j ≡ true → then j ≡ true

-- parameters of a record that were renumbered, with what they became
unfoldable pub Earlier : (ℕ → Bool) → (ℕ → ℕ) → List Parameter → List Parameter → Type 0
Earlier seen f [] [] = Unit
Earlier seen f [] (e' ∷ es') = ⊥
Earlier seen f (e ∷ es) [] = ⊥
Earlier seen f (e ∷ es) (e' ∷ es') = (seen e.id ≡ true) × (f e.id ≡ e'.id) × Earlier seen f es es'

earlier-unlike : (seen : ℕ → Bool) (f : ℕ → ℕ) (a b : ℕ) (es es' : List Parameter) → Earlier seen f es es' →
    Clear seen f a b → Unlike a es → Unlike b es'
unfolding Earlier Clear Unlike
earlier-unlike seen f a b [] [] h c u = tt
earlier-unlike seen f a b [] (e' ∷ es') h c u = absurd h
earlier-unlike seen f a b (e ∷ es) [] h c u = absurd h
earlier-unlike seen f a b (e ∷ es) (e' ∷ es') h c u =
    (λ g. c e.id u.0 h.0 (h.1 ∙ g), earlier-unlike seen f a b es es' h.2 c u.1)

earlier-put : (seen : ℕ → Bool) (f : ℕ → ℕ) (a b : ℕ) (es es' : List Parameter) → Earlier seen f es es' → Unlike a es →
    Earlier (put a true seen) (put a b f) es es'
unfolding Earlier Unlike
earlier-put seen f a b [] [] h u = tt
earlier-put seen f a b [] (e' ∷ es') h u = absurd h
earlier-put seen f a b (e ∷ es) [] h u = absurd h
earlier-put seen f a b (e ∷ es) (e' ∷ es') h u =
    (put-true a seen e.id h.0, put-past a b f e.id u.0 ∙ h.1, earlier-put seen f a b es es' h.2 u.1)

olds-append : (P : ℕ → Type 0) (cs ds : List Change) → Olds P cs → Olds P ds → Olds P (cs ++ ds)
unfolding Olds
olds-append P [] ds h g = g
olds-append P (c ∷ cs) ds h g = (h.0, olds-append P cs ds h.1 g)

-- Old: what holds of the old ids
module _ (Old : ℕ → Type 0) where
  -- a part is renumbered, so that P
  pub record Good (P : Type 0) (taken : ℕ → Bool) (cs : List Change) (then : ℕ → Bool) : Type 0 where
    pub grows : Grows taken then
    pub olds : Olds Old cs
    pub so : P

  unfoldable pub AllGood : {X : Type 0} → (X → (ℕ → Bool) → Type 0) → (ℕ → Bool) → Renumbering X → Type 0
  AllGood P taken (renumbered x cs then) = Good (P x then) taken cs then
  AllGood P taken (none_left at) = Unit

  unchanged : (P : Type 0) (taken : ℕ → Bool) → P → Good P taken [] taken
  unfolding Grows Olds
  unchanged P taken p = record { grows = λ j e. e; olds = tt; so = p }

  good-over : {X Y : Type 0} (P : X → (ℕ → Bool) → Type 0) (Q : Y → (ℕ → Bool) → Type 0) (taken : ℕ → Bool) (g : X → Y)
      (a : Renumbering X) → AllGood P taken a → ((x : X) (then : ℕ → Bool) → P x then → Q (g x) then) →
      AllGood Q taken (over g a)
  unfolding AllGood over
  good-over P Q taken g (renumbered x cs then) h k =
      record { grows = h.grows; olds = h.olds; so = k x then h.so }
  good-over P Q taken g (none_left at) h k = tt

  good-before : {Y : Type 0} (P : Type 0) (Q : Y → (ℕ → Bool) → Type 0) (taken then : ℕ → Bool) (cs : List Change)
      (a : Renumbering Y) → Good P taken cs then → AllGood Q then a → AllGood Q taken (before cs a)
  unfolding AllGood before Grows
  good-before P Q taken then cs (renumbered y ds last) h g = record {
    grows = λ j e. g.grows j (h.grows j e);
    olds = olds-append Old cs ds h.olds g.olds;
    so = g.so;
  }
  good-before P Q taken then cs (none_left at) h g = tt

  good-next : {X Y : Type 0} (P : X → (ℕ → Bool) → Type 0) (Q : Y → (ℕ → Bool) → Type 0) (taken : ℕ → Bool)
      (a : Renumbering X) (k : X → (ℕ → Bool) → Renumbering Y) → AllGood P taken a →
      ((x : X) (then : ℕ → Bool) → P x then → Grows taken then → AllGood Q then (k x then)) → AllGood Q taken (next a k)
  unfolding AllGood next
  good-next P Q taken (renumbered x cs then) k h g =
      good-before (P x then) Q taken then cs (k x then) h (g x then h.so h.grows)
  good-next P Q taken (none_left at) k h g = tt

-- origin: the ids that were taken at first, those of the name records among them
module _ (ns : List Name) (origin : ℕ → Bool) (unnamed : (j : ℕ) → origin j ≡ false → declared ns j ≡ free) where
  -- the ids that binders have
  abbrev pub Old : ℕ → Type 0
  Old j = (j < 255) × (origin j ≡ true) × (declared ns j ≡ free)

  -- What is around a part: seen says which ids may be used, f what they become, bs are the enclosing binders as read
  -- and ds those as written.
  pub record Around (seen : ℕ → Bool) (f : ℕ → ℕ) (bs ds : List Binder) (taken : ℕ → Bool) : Type 0 where
    pub first : Grows origin taken
    pub sees : Grows origin seen
    pub becomes-taken : (j : ℕ) → seen j ≡ true → taken (f j) ≡ true
    pub becomes-itself : (j : ℕ) → seen j ≡ true → origin (f j) ≡ true → f j ≡ j
    pub below : (j : ℕ) → j < 255 → f j < 255
    pub held-taken : (j : ℕ) → is_held ds j ≡ true → taken j ≡ true
    pub held-as-read : (j : ℕ) → is_held ds j ≡ true → origin j ≡ true → is_held bs j ≡ true
    pub held-as-written : (j : ℕ) → is_held bs j ≡ true → is_held ds j ≡ true

  later : (seen : ℕ → Bool) (f : ℕ → ℕ) (bs ds : List Binder) (taken then : ℕ → Bool) → Around seen f bs ds taken →
      Grows taken then → Around seen f bs ds then
  unfolding Grows
  later seen f bs ds taken then r g = record {
    first = λ j e. g j (r.first j e);
    sees = r.sees;
    becomes-taken = λ j e. g (f j) (r.becomes-taken j e);
    becomes-itself = r.becomes-itself;
    below = r.below;
    held-taken = λ j e. g j (r.held-taken j e);
    held-as-read = r.held-as-read;
    held-as-written = r.held-as-written;
  }

  -- the id of a binder, a as read and b as written, where the binders in bs enclose it
  pub record GotId (bs : List Binder) (taken : ℕ → Bool) (a b : ℕ) (then : ℕ → Bool) : Type 0 where
    pub is-taken : then b ≡ true
    pub is-new : origin b ≡ true → b ≡ a
    pub hides : (b ≡ a → ⊥) → is_held bs a ≡ true
    pub small : b < 255
    pub is_free : declared ns b ≡ free
    pub clear : (j k : ℕ) → (j ≡ a → ⊥) → taken k ≡ true → (origin k ≡ true → k ≡ j) → k ≡ b → ⊥
    pub unheld : (held : Bool) → (held ≡ true → taken b ≡ true) →
        (held ≡ true → origin b ≡ true → is_held bs b ≡ true) → held ≡ false

  got-id : (bs : List Binder) (taken : ℕ → Bool) (at a : ℕ) → Grows origin taken → a < 255 → origin a ≡ true →
      declared ns a ≡ free →
      AllGood Old (λ b then. GotId bs taken a b then) taken (renumber_id bs taken at a)
  unfolding AllGood renumber_id changed Grows Olds
  got-id bs taken at a first small o d =
      by-test (is_held bs a)
      (λ t. rw t (by-test (ltb (lowest taken) 255)
      (λ u. let b : ℕ = lowest taken in
      let s : b < 255 = ltb-true b 255 u in
      let v : taken b ≡ false = lowest_free taken s in
      let w : origin b ≡ false = not-true (origin b) (λ e. true-false (taken b) (first b e) v) in
      rw u (record {
        grows = λ j e. put-true b taken j e;
        olds = ((small, o, d), tt);
        so = record {
          is-taken = put-here b true taken;
          is-new = λ e. true-false (origin b) e w;
          hides = λ n. t;
          small = s;
          is_free = unnamed b w;
          clear = λ j k n e h i. true-false (taken b) (ap taken (sym i) ∙ e) v;
          unheld = λ held h g. not-true held (λ e. true-false (taken b) (h e) v);
        };
      }))
      (λ u. rw u tt)))
      (λ t. rw t (unchanged Old (GotId bs taken a a taken) taken (record {
        is-taken = first a o;
        is-new = λ e. refl;
        hides = λ n. absurd (n refl);
        small = small;
        is_free = d;
        clear = λ j k n e h i. n (sym (sym i ∙ h (ap origin i ∙ o)));
        unheld = λ held h g. not-true held (λ e. true-false (is_held bs a) (g e o) t);
      })))

  -- no other id that may be used becomes the binder's
  got-clear : (seen : ℕ → Bool) (f : ℕ → ℕ) (bs bs' ds : List Binder) (taken then : ℕ → Bool) (a b : ℕ) →
      Around seen f bs ds taken → GotId bs' taken a b then → Clear seen f a b
  unfolding Clear
  got-clear seen f bs bs' ds taken then a b r g j n s e =
      g.clear j (f j) n (r.becomes-taken j s) (λ o. r.becomes-itself j s o) e

  -- what is around the part that a binder reaches over: c is the binder as read, d the binder as written, judged among
  -- those in bs'
  enter : (seen : ℕ → Bool) (f : ℕ → ℕ) (bs bs' ds : List Binder) (taken then : ℕ → Bool) (c d : Binder) →
      ((j : ℕ) → is_held bs' j ≡ true → is_held bs j ≡ true) → Around seen f bs ds taken → Grows taken then →
      GotId bs' taken (id_of c) (id_of d) then →
      Around (put (id_of c) true seen) (put (id_of c) (id_of d) f) (c ∷ bs) (d ∷ ds) then
  unfolding Grows
  enter seen f bs bs' ds taken then c d w r m g = record {
    first = λ j e. m j (r.first j e);
    sees = λ j e. put-true a seen j (r.sees j e);
    becomes-taken = λ j e. by-id j a
        (λ i. ap then (here j i) ∙ g.is-taken)
        (λ n. ap then (put-past a b f j n) ∙ m (f j) (r.becomes-taken j (sym (put-past a true seen j n) ∙ e)));
    becomes-itself = λ j e o. by-id j a
        (λ i. here j i ∙ g.is-new (ap origin (sym (here j i)) ∙ o) ∙ sym i)
        (λ n. put-past a b f j n ∙ r.becomes-itself j (sym (put-past a true seen j n) ∙ e)
        (ap origin (sym (put-past a b f j n)) ∙ o));
    below = λ j h. by-id j a (λ i. subst (λ (k : ℕ). k < 255) (sym (here j i)) g.small)
        (λ n. subst (λ (k : ℕ). k < 255) (sym (put-past a b f j n)) (r.below j h));
    held-taken = λ j e. held-cases d ds j e (λ i. ap then (sym i) ∙ g.is-taken) (λ h. m j (r.held-taken j h));
    held-as-read = λ j e o. held-cases d ds j e
        (λ i. held-here c bs j (sym (g.is-new (ap origin i ∙ o)) ∙ i))
        (λ h. held-past c bs j (r.held-as-read j h o));
    held-as-written = λ j e. held-cases c bs j e
        (λ i. by-id b a (λ s. held-here d ds j (s ∙ i))
        (λ n. held-past d ds j (r.held-as-written j (ap (is_held bs) (sym i) ∙ w a (g.hides n)))))
        (λ h. held-past d ds j (r.held-as-written j h));
  }
    where
      a : ℕ
      a = id_of c

      b : ℕ
      b = id_of d

      here : (j : ℕ) → j ≡ a → put a b f j ≡ b
      here j i = ap (put a b f) i ∙ put-here a b f

  -- the id as written is none of those around
  got-apart : (seen : ℕ → Bool) (f : ℕ → ℕ) (bs ds : List Binder) (taken then : ℕ → Bool) (a b : ℕ) →
      Around seen f bs ds taken → GotId bs taken a b then → Unheld ds b
  unfolding Unheld
  got-apart seen f bs ds taken then a b r g =
      g.unheld (is_held ds b) (r.held-taken b) (r.held-as-read b)

  -- Parameters of a record. The binders bs, as written ds, enclose the record; obs and nds are those and the earlier
  -- parameters, es and es' the earlier parameters.
  pub record GotParameters (ds : List Binder) (seen : ℕ → Bool) (f : ℕ → ℕ) (obs nds : List Binder)
      (es' ps qs : List Parameter) (then : ℕ → Bool) : Type 0 where
    pub binds : Binds seen f ps qs
    pub around : Around (seen_inside seen ps) (map_inside f ps qs) (inside ps obs) (inside qs nds) then
    pub apart : ApartParameters ds qs
    pub fine : FineParameters ns es' qs

  got-parameters : (ps : List Parameter) (seen₀ : ℕ → Bool) (f₀ : ℕ → ℕ) (bs ds : List Binder) (seen : ℕ → Bool)
      (f : ℕ → ℕ) (obs nds : List Binder) (taken : ℕ → Bool) (at : ℕ) (es es' : List Parameter) →
      ((j : ℕ) → is_held bs j ≡ true → is_held obs j ≡ true) → Around seen₀ f₀ bs ds taken →
      Around seen f obs nds taken → Marked origin ps → FineParameters ns es ps → Earlier seen f es es' →
      AllGood Old (λ qs then. GotParameters ds seen f obs nds es' ps qs then) taken
      (renumber_parameters bs taken at ps)
  unfolding AllGood renumber_parameters with_id Marked FineParameters Earlier Binds seen_inside map_inside inside
      ApartParameters id_of
  got-parameters [] seen₀ f₀ bs ds seen f obs nds taken at es es' w r₀ r k h e =
      unchanged Old (GotParameters ds seen f obs nds es' [] [] taken) taken
      (record { binds = tt; around = r; apart = tt; fine = tt })
  got-parameters (p ∷ ps) seen₀ f₀ bs ds seen f obs nds taken at es es' w r₀ r k h e =
      good-next Old (λ b then. GotId bs taken p.id b then)
      (λ qs then. GotParameters ds seen f obs nds es' (p ∷ ps) qs then) taken (renumber_id bs taken at p.id)
      (λ b then. over (◌∷◌ (with_id p b)) (renumber_parameters bs then (2 + at) ps))
      (got-id bs taken at p.id r.first h.0 k.0 h.1)
      (λ b then g m.
      let q : Parameter = record { id = b; holds = p.holds } in
      let c : Binder = a_parameter p.id p.holds in
      let d : Binder = a_parameter b p.holds in
      let cl : Clear seen f p.id b = got-clear seen f obs bs nds taken then p.id b r g in
      let seen' : ℕ → Bool = put p.id true seen in
      let f' : ℕ → ℕ = put p.id b f in
      good-over Old (λ qs last. GotParameters ds seen' f' (c ∷ obs) (d ∷ nds) (q ∷ es') ps qs last)
      (λ qs last. GotParameters ds seen f obs nds es' (p ∷ ps) qs last) then (◌∷◌ (with_id p b))
      (renumber_parameters bs then (2 + at) ps)
      (got-parameters ps seen₀ f₀ bs ds seen' f' (c ∷ obs) (d ∷ nds) then (2 + at) (p ∷ es) (q ∷ es')
      (λ j i. held-past c obs j (w j i)) (later seen₀ f₀ bs ds taken then r₀ m)
      (enter seen f obs bs nds taken then c d w r m g) k.1 h.4
      (put-here p.id true seen, put-here p.id b f, earlier-put seen f p.id b es es' e h.2))
      (λ qs last x. record {
        binds = (refl, cl, x.binds);
        around = x.around;
        apart = (got-apart seen₀ f₀ bs ds taken then p.id b r₀ g, x.apart);
        fine = (g.small, g.is_free, earlier-unlike seen f p.id b es es' e cl h.2, h.3, x.fine);
      }))

  -- a term as read and as written
  pub record Given (seen : ℕ → Bool) (f : ℕ → ℕ) (ds : List Binder) (W X : Written) : Type 0 where
    pub mapped : Mapped seen f W X
    pub fine : FineIds ns X
    pub apart : Apart ds X

  pub record AllGiven (seen : ℕ → Bool) (f : ℕ → ℕ) (ds : List Binder) (ws ws' : Writtens) : Type 0 where
    pub mapped : Mappeds seen f ws ws'
    pub fine : AllFineIds ns ws'
    pub apart : AllApart ds ws'

  -- two parts
  two : (seen : ℕ → Bool) (f : ℕ → ℕ) (bs ds : List Binder) (taken : ℕ → Bool) (at₁ at₂ : ℕ) (x y W : Written)
      (make : Written → Written → Written) → Around seen f bs ds taken →
      ((x' y' : Written) → Given seen f ds x x' → Given seen f ds y y' → Given seen f ds W (make x' y')) →
      AllGood Old (λ X then. Given seen f ds x X) taken (renumber bs f taken at₁ x) →
      ((then : ℕ → Bool) → Around seen f bs ds then →
      AllGood Old (λ X last. Given seen f ds y X) then (renumber bs f then at₂ y)) →
      AllGood Old (λ X then. Given seen f ds W X) taken
      (next (renumber bs f taken at₁ x) (λ x' then. over (make x') (renumber bs f then at₂ y)))
  two seen f bs ds taken at₁ at₂ x y W make r k g h =
      good-next Old (λ X then. Given seen f ds x X) (λ X then. Given seen f ds W X) taken (renumber bs f taken at₁ x)
      (λ x' then. over (make x') (renumber bs f then at₂ y)) g
      (λ x' then i m. good-over Old (λ X last. Given seen f ds y X) (λ X last. Given seen f ds W X) then (make x')
      (renumber bs f then at₂ y) (h then (later seen f bs ds taken then r m)) (λ y' last j. k x' y' i j))

  -- THEOREM: a term as written is mapped from the term as read, its ids are in order and none hides another
  mutual
    unfolding AllGood renumber renumber_all Known AllKnown FineIds AllFineIds Apart AllApart Grows Earlier id_of after

    pub give : (W : Written) (seen : ℕ → Bool) (f : ℕ → ℕ) (bs ds : List Binder) (taken : ℕ → Bool) (at : ℕ) →
        Around seen f bs ds taken → Known ns origin W →
        AllGood Old (λ X then. Given seen f ds W X) taken (renumber bs f taken at W)
    give skip seen f bs ds taken at r k =
        unchanged Old (Given seen f ds skip skip) taken (record { mapped = to_skip; fine = tt; apart = tt })
    give (diverge ty) seen f bs ds taken at r k =
        unchanged Old (Given seen f ds (diverge ty) (diverge ty)) taken
        (record { mapped = to_diverge; fine = tt; apart = tt })
    give (truth b) seen f bs ds taken at r k =
        unchanged Old (Given seen f ds (truth b) (truth b)) taken
        (record { mapped = to_truth; fine = tt; apart = tt })
    give (number b) seen f bs ds taken at r k =
        unchanged Old (Given seen f ds (number b) (number b)) taken
        (record { mapped = to_number; fine = tt; apart = tt })
    give (call id ws) seen f bs ds taken at r k =
        good-over Old (λ X then. AllGiven seen f ds ws X) (λ X then. Given seen f ds (call id ws) X) taken
        (call (f id)) (renumber_all bs f taken (2 + at) ws)
        (give_all ws seen f bs ds taken (2 + at) r k.2)
        (λ ws' then g. record {
          mapped = to_call (r.sees id k.1) refl g.mapped;
          fine = (r.below id k.0, g.fine);
          apart = g.apart;
        })
    give (fetch v) seen f bs ds taken at r k =
        good-over Old (λ X then. Given seen f ds v X) (λ X then. Given seen f ds (fetch v) X) taken fetch
        (renumber bs f taken (1 + at) v) (give v seen f bs ds taken (1 + at) r k)
        (λ v' then g. record { mapped = to_fetch g.mapped; fine = g.fine; apart = g.apart })
    give (operate op x y) seen f bs ds taken at r k =
        two seen f bs ds taken (2 + at) (2 + at + width x) x y (operate op x y) (operate op) r
        (λ x' y' g h. record {
          mapped = to_operate g.mapped h.mapped;
          fine = (g.fine, h.fine);
          apart = (g.apart, h.apart);
        })
        (give x seen f bs ds taken (2 + at) r k.0)
        (λ then s. give y seen f bs ds then (2 + at + width x) s k.1)
    give (assign x y) seen f bs ds taken at r k =
        two seen f bs ds taken (1 + at) (1 + at + width x) x y (assign x y) assign r
        (λ x' y' g h. record {
          mapped = to_assign g.mapped h.mapped;
          fine = (g.fine, h.fine);
          apart = (g.apart, h.apart);
        })
        (give x seen f bs ds taken (1 + at) r k.0)
        (λ then s. give y seen f bs ds then (1 + at + width x) s k.1)
    give (sequence x y) seen f bs ds taken at r k =
        two seen f bs ds taken (1 + at) (1 + at + width x) x y (sequence x y) sequence r
        (λ x' y' g h. record {
          mapped = to_sequence g.mapped h.mapped;
          fine = (g.fine, h.fine);
          apart = (g.apart, h.apart);
        })
        (give x seen f bs ds taken (1 + at) r k.0)
        (λ then s. give y seen f bs ds then (1 + at + width x) s k.1)
    give (choose b x y) seen f bs ds taken at r k =
        good-next Old (λ X then. Given seen f ds b X) (λ X then. Given seen f ds (choose b x y) X) taken
        (renumber bs f taken (1 + at) b)
        (λ b' then. next (renumber bs f then (1 + at + width b) x)
        (λ x' then'. over (choose b' x') (renumber bs f then' (1 + at + width b + width x) y)))
        (give b seen f bs ds taken (1 + at) r k.0)
        (λ b' then i m.
        let s : Around seen f bs ds then = later seen f bs ds taken then r m in
        two seen f bs ds then (1 + at + width b) (1 + at + width b + width x) x y (choose b x y) (choose b') s
        (λ x' y' g h. record {
          mapped = to_choose i.mapped g.mapped h.mapped;
          fine = (i.fine, g.fine, h.fine);
          apart = (i.apart, g.apart, h.apart);
        })
        (give x seen f bs ds then (1 + at + width b) s k.1)
        (λ last z. give y seen f bs ds last (1 + at + width b + width x) z k.2))
    give (while x y) seen f bs ds taken at r k =
        two seen f bs ds taken (1 + at) (1 + at + width x) x y (while x y) while r
        (λ x' y' g h. record {
          mapped = to_while g.mapped h.mapped;
          fine = (g.fine, h.fine);
          apart = (g.apart, h.apart);
        })
        (give x seen f bs ds taken (1 + at) r k.0)
        (λ then s. give y seen f bs ds then (1 + at + width x) s k.1)
    give (new id d c) seen f bs ds taken at r k =
        good-next Old (λ b then. GotId bs taken id b then) (λ X then. Given seen f ds (new id d c) X) taken
        (renumber_id bs taken (1 + at) id)
        (λ id' then. over (new id' d) (renumber (a_block id d ∷ bs) (put id id' f) then (3 + at) c))
        (got-id bs taken (1 + at) id r.first k.0 k.1 k.2)
        (λ b then g m.
        let seen' : ℕ → Bool = put id true seen in
        let f' : ℕ → ℕ = put id b f in
        good-over Old (λ X last. Given seen' f' (a_block b d ∷ ds) c X)
        (λ X last. Given seen f ds (new id d c) X) then (new b d)
        (renumber (a_block id d ∷ bs) f' then (3 + at) c)
        (give c seen' f' (a_block id d ∷ bs) (a_block b d ∷ ds) then (3 + at)
        (enter seen f bs bs ds taken then (a_block id d) (a_block b d) (λ j i. i) r m g) k.3)
        (λ c' last h. record {
          mapped = to_new (got-clear seen f bs bs ds taken then id b r g) h.mapped;
          fine = (g.small, g.is_free, h.fine);
          apart = (got-apart seen f bs ds taken then id b r g, h.apart);
        }))
    give (procedure id ty ps x y) seen f bs ds taken at r k =
        good-next Old (λ b then. GotId bs taken id b then) (λ X then. Given seen f ds (procedure id ty ps x y) X)
        taken (renumber_id bs taken (1 + at) id)
        (λ id' then. next (renumber_parameters bs then (4 + at) ps) (λ qs then'.
        next (renumber (inside ps bs) (map_inside f ps qs) then' (12 + at) x) (λ x' then''.
        over (procedure id' ty qs x')
        (renumber (after id ty ps bs) (put id id' f) then'' (12 + at + width x) y))))
        (got-id bs taken (1 + at) id r.first k.0 k.1 k.2)
        (λ b then₁ g m₁.
        let r₁ : Around seen f bs ds then₁ = later seen f bs ds taken then₁ r m₁ in
        good-next Old (λ qs then. GotParameters ds seen f bs ds [] ps qs then)
        (λ X then. Given seen f ds (procedure id ty ps x y) X) then₁ (renumber_parameters bs then₁ (4 + at) ps)
        (λ qs then'. next (renumber (inside ps bs) (map_inside f ps qs) then' (12 + at) x) (λ x' then''.
        over (procedure b ty qs x')
        (renumber (after id ty ps bs) (put id b f) then'' (12 + at + width x) y)))
        (got-parameters ps seen f bs ds seen f bs ds then₁ (4 + at) [] [] (λ j i. i) r₁ r₁ k.3 k.4 tt)
        (λ qs then₂ q m₂.
        let c : Binder = a_procedure id ty (types_of ps) in
        let d : Binder = a_procedure b ty (types_of qs) in
        let seen' : ℕ → Bool = put id true seen in
        let f' : ℕ → ℕ = put id b f in
        good-next Old
        (λ X then. Given (seen_inside seen ps) (map_inside f ps qs) (inside qs ds) x X)
        (λ X then. Given seen f ds (procedure id ty ps x y) X) then₂
        (renumber (inside ps bs) (map_inside f ps qs) then₂ (12 + at) x)
        (λ x' then''. over (procedure b ty qs x')
        (renumber (after id ty ps bs) (put id b f) then'' (12 + at + width x) y))
        (give x (seen_inside seen ps) (map_inside f ps qs) (inside ps bs) (inside qs ds) then₂ (12 + at)
        q.around k.5)
        (λ x' then₃ i m₃. good-over Old (λ X last. Given seen' f' (d ∷ ds) y X)
        (λ X last. Given seen f ds (procedure id ty ps x y) X) then₃ (procedure b ty qs x')
        (renumber (c ∷ bs) f' then₃ (12 + at + width x) y)
        (give y seen' f' (c ∷ bs) (d ∷ ds) then₃ (12 + at + width x)
        (later seen' f' (c ∷ bs) (d ∷ ds) then₁ then₃
        (enter seen f bs bs ds taken then₁ c d (λ j i. i) r m₁ g) (λ j e. m₃ j (m₂ j e)))
        k.6)
        (λ y' last h. record {
          mapped = to_procedure (got-clear seen f bs bs ds taken then₁ id b r g) q.binds i.mapped
              h.mapped;
          fine = (g.small, g.is_free, q.fine, i.fine, h.fine);
          apart = (got-apart seen f bs ds taken then₁ id b r g, q.apart, i.apart, h.apart);
        }))))

    give_all : (ws : Writtens) (seen : ℕ → Bool) (f : ℕ → ℕ) (bs ds : List Binder) (taken : ℕ → Bool) (at : ℕ) →
        Around seen f bs ds taken → AllKnown ns origin ws →
        AllGood Old (λ X then. AllGiven seen f ds ws X) taken (renumber_all bs f taken at ws)
    give_all none seen f bs ds taken at r k =
        unchanged Old (AllGiven seen f ds none none) taken (record { mapped = to_none; fine = tt; apart = tt })
    give_all (more w ws) seen f bs ds taken at r k =
        good-next Old (λ X then. Given seen f ds w X) (λ X then. AllGiven seen f ds (more w ws) X) taken
        (renumber bs f taken at w) (λ w' then. over (more w') (renumber_all bs f then (at + width w) ws))
        (give w seen f bs ds taken at r k.0)
        (λ w' then i m. good-over Old (λ X last. AllGiven seen f ds ws X)
        (λ X last. AllGiven seen f ds (more w ws) X) then (more w') (renumber_all bs f then (at + width w) ws)
        (give_all ws seen f bs ds then (at + width w) (later seen f bs ds taken then r m) k.1)
        (λ ws' last h. record {
          mapped = to_more i.mapped h.mapped;
          fine = (i.fine, h.fine);
          apart = (i.apart, h.apart);
        }))
