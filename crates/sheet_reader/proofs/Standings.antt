-- The standings agree with the name records and the enclosing binders.
use Prim.Native.Nat.{ℕ, suc, ◌+◌, ◌*◌, ◌≤◌, ◌<◌}
use native.Mathlib.Omega.{arith}
use native.Mathlib.Nat.{add-zero}
use mathlib.Core.Path.{◌≡◌, refl, sym, ap, ◌∙◌, subst}
use mathlib.Core.Bool.{Bool, true, false}
use mathlib.Core.List.{List, [], ◌∷◌}
use lib.ListN.{length, get_or, set, length-set, length-replicate, get_or-replicate}
use lib.Seq.{get_or-set_same, get_or-set_other}
use lib.Dec.{eqb}
use borrow.Author.Tests.{eqb-true, eqb-false, eq-eqb, lt-ltb, le-ltb}
use Rattle.language.specs.Choice.{pick}
use Rattle.language.specs.Term.{Often, onces}
use Rattle.language.proofs.AskOnceLaws.{onces-below}
use Rattle.sheet_records.specs.Standing.{declared_standing, variable_standing, parameter_standing, procedure_standing, standing_of}
use Rattle.sheet_records.specs.Standing.{is_named, is_held as is_taken}
use Rattle.sheet_parts.specs.Scope.{entered, passed, usable}
use Rattle.sheet_judgements.specs.Judge.{hides}
use Rattle.sheet_records.specs.declared.edition.Edition.{Edition}
use Rattle.sheet_records.specs.declared.edition.Edition.TheVariants.{Earlier, Present}
use Rattle.sheet_heads.specs.declared.head.Record.{Record}
use Rattle.sheet_records.specs.declared.standing.Standing.TheVariants.{Declared, Variable as Holding}
use Rattle.sheet_records.specs.declared.standing.Standing.TheVariants.{Parameter as Parametric, Procedure as Procedural}
use Rattle.sheet_records.proofs.StandingLaws.{is_free, is-retired, declared-again, variable-again, parameter-again}
use Rattle.sheet_records.proofs.StandingLaws.{procedure-again}
use Rattle.sheet_written.specs.Environment.{beyond}
use Rattle.sheet_written.specs.Written.{Name, declare, retire, Parameter}
use Rattle.sheet_written.specs.Meaning.{Binder, a_block, a_parameter, a_procedure, id_of, meant, Meaning, private, argument}
use Rattle.sheet_written.specs.Meaning.{routine, named, retired, free, declared, meaning, inside, types_of, after}
use Rattle.sheet_written.specs.Fine.{FineParameters}
use Rattle.sheet_written.specs.Hiding.{is_held, Unheld}
use Rattle.sheet_reader.specs.Reader.{nothing}

-- the body of a declaration at a place, and its bounds
pub record Declares (s : List ℕ) (p ty : ℕ) (tys : List ℕ) : Type 0 where
  pub result : get_or s (p + 2) 0 ≡ ty
  pub count : get_or s (p + 3) 0 ≡ length tys
  pub argument : (j : ℕ) → j < length tys → get_or s (p + 4 + j) 0 ≡ get_or tys j 0
  pub known : ty < 5
  pub few : length tys < 5
  pub inside : p < length s

-- the same of a procedure: its parameters' types stand in pairs
pub record Procedures (s : List ℕ) (p ty : ℕ) (tys : List ℕ) : Type 0 where
  pub result : get_or s (p + 2) 0 ≡ ty
  pub count : get_or s (p + 3) 0 ≡ length tys
  pub argument : (j : ℕ) → j < length tys → get_or s (p + 5 + 2 * j) 0 ≡ get_or tys j 0
  pub known : ty < 5
  pub few : length tys < 5
  pub inside : p < length s

-- the parameters from the one with number j on, as the pairs of the procedure at a place have them
unfoldable pub ParametersAt : List ℕ → ℕ → ℕ → List Parameter → Type 0
ParametersAt s place j [] = Unit
ParametersAt s place j (p ∷ ps) =
    (get_or s (place + 4 + 2 * j) 0 ≡ p.id) × (get_or s (place + 5 + 2 * j) 0 ≡ p.holds) × ParametersAt s place (suc j) ps

-- the standing c of a private variable: n binders enclose its use, and d is what the name records say of its id
pub record Variable (n : ℕ) (d : Meaning) (k h c : ℕ) : Type 0 where
  pub outer : k < n
  pub above : 0 < h
  pub below : h < 3
  pub stands : c ≡ variable_standing k h
  pub unnamed : d ≡ free

-- the same of a parameter
pub record Passed (n : ℕ) (d : Meaning) (k ty c : ℕ) : Type 0 where
  pub outer : k < n
  pub known : ty < 5
  pub stands : c ≡ parameter_standing k ty
  pub unnamed : d ≡ free

-- the same of a procedure; π says where the records of the procedures stand, by their numbers
pub record Routine (s : List ℕ) (π : ℕ → ℕ) (n : ℕ) (d : Meaning) (k ty : ℕ) (tys : List ℕ) (c : ℕ) : Type 0 where
  pub outer : k < n
  pub stands : c ≡ procedure_standing k (π k)
  pub bytes : Procedures s (π k) ty tys
  pub unnamed : d ≡ free

-- the standing c of a name
pub record Naming (s : List ℕ) (often : Often) (ty : ℕ) (tys : List ℕ) (c : ℕ) : Type 0 where
  pub place : ℕ
  pub stands : c ≡ declared_standing place (onces often)
  pub bytes : Declares s place ty tys

-- the standing c of an id, by what the id means
unfoldable pub Agrees : List ℕ → (ℕ → ℕ) → ℕ → Meaning → Meaning → ℕ → Type 0
Agrees s π n d (private k h) c = Variable n d k h c
Agrees s π n d (argument k ty) c = Passed n d k ty c
Agrees s π n d (routine k ty tys) c = Routine s π n d k ty tys c
Agrees s π n d (named often ty tys) c = Naming s often ty tys c
Agrees s π n d retired c = c ≡ 1
Agrees s π n d free c = c ≡ 0

pub record Matches (s : List ℕ) (ns : List Name) (bs : List Binder) (π : ℕ → ℕ) (st : List ℕ) : Type 0 where
  pub sized : length st ≡ 255
  pub short : length s ≤ 4096
  pub nested : length bs ≤ 128
  pub standing : (id : ℕ) → id < 255 → Agrees s π (length bs) (declared ns id) (meaning ns bs id) (get_or st id 0)

-- a test by its value
pub by-test : {P : Type 0} (t : Bool) → (t ≡ true → P) → (t ≡ false → P) → P
by-test true f g = f refl
by-test false f g = g refl

-- at first nothing is known
pub matches-nothing : (s : List ℕ) (π : ℕ → ℕ) → length s ≤ 4096 → Matches s [] [] π nothing
unfolding Agrees meaning declared
matches-nothing s π l = record {
  sized = length-replicate {A = ℕ} 255 0;
  short = l;
  nested = omega arith;
  standing = λ id h. get_or-replicate {A = ℕ} 255 id 0 0 h;
}

-- a standing set, and the others
set-standing :
    (s : List ℕ) (π : ℕ → ℕ) (st : List ℕ) (n k c : ℕ) (d m : ℕ → Meaning) → length st ≡ 255 → k < 255 →
    Agrees s π n (d k) (m k) c →
    ((id : ℕ) → id < 255 → eqb k id ≡ false → Agrees s π n (d id) (m id) (get_or st id 0)) →
    (id : ℕ) → id < 255 → Agrees s π n (d id) (m id) (get_or (set st k c) id 0)
set-standing s π st n k c d m l b h f id b' =
    by-test (eqb k id)
    (λ t. let e : k ≡ id = eqb-true k id t in
    subst (λ (x : ℕ). Agrees s π n (d x) (m x) (get_or (set st k c) x 0)) e
    (rw (get_or-set_same st k c 0 (omega arith)) h))
    (λ t. rw (get_or-set_other st k id c 0 (λ e. eqb-false k id t (sym e))) (f id b' t))

-- a name record more
pub matches-declare :
    {s st tys : List ℕ} {ns : List Name} {π : ℕ → ℕ} {id ty p : ℕ} (often : Often) → Matches s ns [] π st →
    id < 255 → Declares s p ty tys →
    Matches s (declare often id ty tys ∷ ns) [] π (set st id (declared_standing p (onces often)))
unfolding Agrees meaning declared
matches-declare {s} {st} {tys} {ns} {π} {id} {ty} {p} often M b D =
    let d : ℕ → Meaning = declared (declare often id ty tys ∷ ns) in
    record {
      sized = length-set st id _ ∙ M.sized;
      short = M.short;
      nested = M.nested;
      standing = set-standing s π st 0 id (declared_standing p (onces often)) d d M.sized b
          (rw (eq-eqb id id refl) (record { place = p; stands = refl; bytes = D }))
          (λ k b' t. rw t (M.standing k b'));
    }

pub matches-retire :
    {s st : List ℕ} {ns : List Name} {π : ℕ → ℕ} {id : ℕ} → Matches s ns [] π st → id < 255 →
    Matches s (retire id ∷ ns) [] π (set st id 1)
unfolding Agrees meaning declared
matches-retire {s} {st} {ns} {π} {id} M b =
    let d : ℕ → Meaning = declared (retire id ∷ ns) in
    record {
      sized = length-set st id _ ∙ M.sized;
      short = M.short;
      nested = M.nested;
      standing = set-standing s π st 0 id 1 d d M.sized b
          (rw (eq-eqb id id refl) refl)
          (λ k b' t. rw t (M.standing k b'));
    }

-- further in
agrees-inwards :
    (s : List ℕ) (π π' : ℕ → ℕ) (n n' : ℕ) (d m : Meaning) (c : ℕ) → n ≤ n' → ((k : ℕ) → k < n → π' k ≡ π k) →
    Agrees s π n d m c → Agrees s π' n' d m c
unfolding Agrees
agrees-inwards s π π' n n' d (private k h) c l f v = record {
  outer = omega (arith, v.outer);
  above = v.above;
  below = v.below;
  stands = v.stands;
  unnamed = v.unnamed;
}
agrees-inwards s π π' n n' d (argument k ty) c l f v = record {
  outer = omega (arith, v.outer);
  known = v.known;
  stands = v.stands;
  unnamed = v.unnamed;
}
agrees-inwards s π π' n n' d (routine k ty tys) c l f v =
    let e : π' k ≡ π k = f k v.outer in
    record {
      outer = omega (arith, v.outer);
      stands = rw e v.stands;
      bytes = rw e v.bytes;
      unnamed = v.unnamed;
    }
agrees-inwards s π π' n n' d (named often ty tys) c l f v = v
agrees-inwards s π π' n n' d retired c l f v = v
agrees-inwards s π π' n n' d free c l f v = v

-- one binder more, of which id and standing are given
module _
    {s st : List ℕ} {ns : List Name} {bs : List Binder} {π : ℕ → ℕ} (π' : ℕ → ℕ) (b : Binder) (id c : ℕ)
    (same : (k : ℕ) → k < length bs → π' k ≡ π k) (e : id_of b ≡ id)
    (a : Agrees s π' (suc (length bs)) (declared ns id) (meant (length bs) b) c) where
  matches-bound : Matches s ns bs π st → length bs < 128 → id < 255 → Matches s ns (b ∷ bs) π' (set st id c)
  unfolding meaning
  matches-bound M l h = record {
    sized = length-set st id c ∙ M.sized;
    short = M.short;
    nested = l;
    standing = set-standing s π' st (suc (length bs)) id c (declared ns) (meaning ns (b ∷ bs)) M.sized h
        (rw (e, eq-eqb id id refl) a)
        (λ k h' t. rw (e, t) (agrees-inwards s π π' (length bs) (suc (length bs)) (declared ns k) (meaning ns bs k)
        (get_or st k 0) (omega arith) same (M.standing k h')));
  }

-- inside a new
pub matches-entered :
    {s st : List ℕ} {ns : List Name} {bs : List Binder} {π : ℕ → ℕ} (r : Record) → Matches s ns bs π st →
    length bs < 128 → r.a < 255 → declared ns r.a ≡ free → 0 < r.b → r.b < 3 →
    Matches s ns (a_block r.a r.b ∷ bs) π (entered st r (length bs))
unfolding Agrees meant id_of entered
matches-entered {s} {st} {ns} {bs} {π} r M l b e d d' =
    matches-bound π (a_block r.a r.b) r.a (variable_standing (length bs) r.b) (λ k h. refl) refl
    (record { outer = omega arith; above = d; below = d'; stands = refl; unnamed = e }) M l b

-- places of procedures with one more
place-before : (n : ℕ) (π : ℕ → ℕ) (at k : ℕ) → k < n → beyond n π (λ (j : ℕ). at) k ≡ π k
unfolding beyond
place-before n π at k h = rw (lt-ltb k n h) refl

place_here : (n : ℕ) (π : ℕ → ℕ) (at : ℕ) → beyond n π (λ (j : ℕ). at) n ≡ at
unfolding beyond
place_here n π at = rw (le-ltb n n (omega arith)) refl

-- inside the term in which a procedure may be used
pub matches-usable :
    {s st : List ℕ} {ns : List Name} {bs : List Binder} {π : ℕ → ℕ} {ty : ℕ} (ps : List Parameter) (r : Record) →
    Matches s ns bs π st → length bs < 128 → r.a < 255 → declared ns r.a ≡ free →
    Procedures s r.place ty (types_of ps) →
    Matches s ns (after r.a ty ps bs) (beyond (length bs) π (λ j. r.place)) (usable st r (length bs))
unfolding Agrees meant id_of usable after
matches-usable {s} {st} {ns} {bs} {π} {ty} ps r M l b e P =
    let π' : ℕ → ℕ = beyond (length bs) π (λ j. r.place) in
    let h : π' (length bs) ≡ r.place = place_here (length bs) π r.place in
    matches-bound π' (a_procedure r.a ty (types_of ps)) r.a (procedure_standing (length bs) r.place)
    (λ k h. place-before (length bs) π r.place k h) refl
    (record { outer = omega arith; stands = rw h refl; bytes = rw h P; unnamed = e }) M l b

-- inside the term of a procedure: the parameters from the one with number j on
pub matches-passed :
    {s : List ℕ} {ns : List Name} {π : ℕ → ℕ} (st : List ℕ) (place number : ℕ) (ps : List Parameter) (j : ℕ)
    (bs : List Binder) (earlier : List Parameter) → Matches s ns bs π (passed s place number j st) →
    length bs ≡ number + j → length bs + length ps ≤ 128 → ParametersAt s place j ps → FineParameters ns earlier ps →
    Matches s ns (inside ps bs) π (passed s place number (j + length ps) st)
unfolding inside ParametersAt FineParameters Agrees meant id_of passed
matches-passed st place number [] j bs earlier M e l a f = rw (add-zero j) M
matches-passed {s} {ns} {π} st place number (p ∷ ps) j bs earlier M e l a f =
    let next : j + suc (length ps) ≡ suc j + length ps = omega arith in
    rw next (matches-passed st place number ps (suc j) (a_parameter p.id p.holds ∷ bs) (p ∷ earlier)
    (rw (a.0, a.1) (matches-bound π (a_parameter p.id p.holds) p.id
    (parameter_standing (number + j) p.holds) (λ k h. refl) refl
    (record { outer = omega arith; known = f.3; stands = rw e refl; unnamed = f.1 }) M (omega arith) f.0))
    (omega arith) (omega arith) a.2 f.4)

-- an id that means nothing is in no name record
free-declared : (ns : List Name) (bs : List Binder) (id : ℕ) → meaning ns bs id ≡ free → declared ns id ≡ free
unfolding meaning meant
free-declared ns [] id e = e
free-declared ns (b ∷ bs) id e = go b (eqb (id_of b) id) (free-declared ns bs id) e
  where
    go : (b : Binder) (t : Bool) → (meaning ns bs id ≡ free → declared ns id ≡ free) →
        pick t (meant (length bs) b) (meaning ns bs id) ≡ free → declared ns id ≡ free
    go (a_block k d) true f h = let z : ◌≡◌ {A = ℕ} 0 1 = cc in absurd (omega arith)
    go (a_parameter k ty) true f h = let z : ◌≡◌ {A = ℕ} 0 1 = cc in absurd (omega arith)
    go (a_procedure k ty tys) true f h = let z : ◌≡◌ {A = ℕ} 0 1 = cc in absurd (omega arith)
    go b false f h = f h

-- the id of a use: neither free nor retired
pub data Used (s : List ℕ) (π : ℕ → ℕ) (n : ℕ) (d : Meaning) (c : ℕ) : Meaning → Type 0 where
  used-private : {k h : ℕ} → Variable n d k h c → Used s π n d c (private k h)
  used-parameter : {k ty : ℕ} → Passed n d k ty c → Used s π n d c (argument k ty)
  used-routine : {k ty : ℕ} {tys : List ℕ} → Routine s π n d k ty tys c → Used s π n d c (routine k ty tys)
  used-name : {often : Often} {ty : ℕ} {tys : List ℕ} → Naming s often ty tys c → Used s π n d c (named often ty tys)

pub used-id :
    (s : List ℕ) (π : ℕ → ℕ) (n : ℕ) (d m : Meaning) (c : ℕ) → Agrees s π n d m c → (c ≡ 0 → ⊥) → (c ≡ 1 → ⊥) →
    Used s π n d c m
unfolding Agrees
used-id s π n d (private k h) c a f g = used-private a
used-id s π n d (argument k ty) c a f g = used-parameter a
used-id s π n d (routine k ty tys) c a f g = used-routine a
used-id s π n d (named often ty tys) c a f g = used-name a
used-id s π n d retired c a f g = absurd (g a)
used-id s π n d free c a f g = absurd (f a)

-- what the standings say
pub naming-says :
    {s : List ℕ} {c ty : ℕ} {often : Often} {tys : List ℕ} (v : Naming s often ty tys c) → length s ≤ 4096 →
    standing_of c ≡ Declared v.place (onces often)
naming-says {often = often} v l =
    ap standing_of v.stands
    ∙ declared-again v.place (onces often) (omega (arith, v.bytes.inside)) (onces-below often)

pub variable-says : {n k h c : ℕ} {d : Meaning} → Variable n d k h c → n ≤ 128 → standing_of c ≡ Holding k h
variable-says {n} {k} {h} v l =
    ap standing_of v.stands ∙ variable-again k h (omega (arith, v.outer)) (omega (arith, v.below))

pub passed-says : {n k ty c : ℕ} {d : Meaning} → Passed n d k ty c → n ≤ 128 → standing_of c ≡ Parametric k ty
passed-says {n} {k} {ty} v l =
    ap standing_of v.stands ∙ parameter-again k ty (omega (arith, v.outer)) (omega (arith, v.known))

pub routine-says :
    {s : List ℕ} {π : ℕ → ℕ} {n k ty c : ℕ} {d : Meaning} {tys : List ℕ} → Routine s π n d k ty tys c → n ≤ 128 →
    standing_of c ≡ Procedural k (π k)
routine-says {π = π} {k = k} v l = ap standing_of v.stands ∙ procedure-again k (π k) (omega (arith, v.outer))

-- the id of a binder: in no name record
pub binder-id :
    {s st : List ℕ} {ns : List Name} {bs : List Binder} {π : ℕ → ℕ} → Matches s ns bs π st → (id : ℕ) → id < 255 →
    is_named (standing_of (get_or st id 0)) ≡ false → declared ns id ≡ free
unfolding Agrees is_named
binder-id {s} {st} {ns} {bs} {π} M id b f = go (meaning ns bs id) refl (M.standing id b)
  where
    go : (m : Meaning) → meaning ns bs id ≡ m → Agrees s π (length bs) (declared ns id) m (get_or st id 0) →
        declared ns id ≡ free
    go (private k h) e a = a.unnamed
    go (argument k ty) e a = a.unnamed
    go (routine k ty tys) e a = a.unnamed
    go (named often ty tys) e a =
        let h : is_named (standing_of (get_or st id 0)) ≡ true = rw (naming-says a M.short) refl in
        let z : true ≡ false = sym h ∙ f in
        let z' : ◌≡◌ {A = ℕ} 0 1 = cc in absurd (omega arith)
    go retired e a =
        let h : is_named (standing_of (get_or st id 0)) ≡ true = rw (is-retired _ a) refl in
        let z : true ≡ false = sym h ∙ f in
        let z' : ◌≡◌ {A = ℕ} 0 1 = cc in absurd (omega arith)
    go free e a = free-declared ns bs id e

-- the other way round: an id in no name record can be taken by a binder
unfoldable Unnamed : Meaning → Type 0
Unnamed (private k h) = Unit
Unnamed (argument k ty) = Unit
Unnamed (routine k ty tys) = Unit
Unnamed (named often ty tys) = ⊥
Unnamed retired = ⊥
Unnamed free = Unit

unnamed-meant : (k : ℕ) (b : Binder) → Unnamed (meant k b)
unfolding Unnamed meant
unnamed-meant k (a_block id d) = tt
unnamed-meant k (a_parameter id ty) = tt
unnamed-meant k (a_procedure id ty tys) = tt

unnamed-meaning : (ns : List Name) (bs : List Binder) (id : ℕ) → declared ns id ≡ free → Unnamed (meaning ns bs id)
unfolding Unnamed meaning
unnamed-meaning ns [] id e = rw e tt
unnamed-meaning ns (b ∷ bs) id e =
    by-test (eqb (id_of b) id)
    (λ t. rw t (unnamed-meant (length bs) b))
    (λ t. rw t (unnamed-meaning ns bs id e))

pub binder-standing :
    {s st : List ℕ} {ns : List Name} {bs : List Binder} {π : ℕ → ℕ} → Matches s ns bs π st → (id : ℕ) → id < 255 →
    declared ns id ≡ free → is_named (standing_of (get_or st id 0)) ≡ false
unfolding Agrees Unnamed is_named
binder-standing {s} {st} {ns} {bs} {π} M id b e =
    go (meaning ns bs id) (unnamed-meaning ns bs id e) (M.standing id b)
  where
    go : (m : Meaning) → Unnamed m → Agrees s π (length bs) (declared ns id) m (get_or st id 0) →
        is_named (standing_of (get_or st id 0)) ≡ false
    go (private k h) u v = rw (variable-says v M.nested) refl
    go (argument k ty) u v = rw (passed-says v M.nested) refl
    go (routine k ty tys) u v = rw (routine-says v M.nested) refl
    go (named often ty tys) u v = absurd u
    go retired u v = absurd u
    go free u v = rw (is_free _ v) refl

-- an enclosing binder holds an id exactly if the id means one
unfoldable is_binding : Meaning → Bool
is_binding (private k h) = true
is_binding (argument k ty) = true
is_binding (routine k ty tys) = true
is_binding (named often ty tys) = false
is_binding retired = false
is_binding free = false

binding-meant : (k : ℕ) (b : Binder) → is_binding (meant k b) ≡ true
unfolding is_binding meant
binding-meant k (a_block id d) = refl
binding-meant k (a_parameter id ty) = refl
binding-meant k (a_procedure id ty tys) = refl

binding-declared : (ns : List Name) (id : ℕ) → is_binding (declared ns id) ≡ false
unfolding is_binding declared
binding-declared [] id = refl
binding-declared (declare often k ty tys ∷ ns) id =
    by-test (eqb k id) (λ t. rw t refl) (λ t. rw t (binding-declared ns id))
binding-declared (retire k ∷ ns) id = by-test (eqb k id) (λ t. rw t refl) (λ t. rw t (binding-declared ns id))

binding-held : (ns : List Name) (bs : List Binder) (id : ℕ) → is_binding (meaning ns bs id) ≡ is_held bs id
unfolding meaning is_held
binding-held ns [] id = binding-declared ns id
binding-held ns (b ∷ bs) id =
    by-test (eqb (id_of b) id) (λ t. rw t (binding-meant (length bs) b)) (λ t. rw t (binding-held ns bs id))

-- and so says its standing
pub held-standing :
    {s st : List ℕ} {ns : List Name} {bs : List Binder} {π : ℕ → ℕ} → Matches s ns bs π st → (id : ℕ) → id < 255 →
    is_taken (standing_of (get_or st id 0)) ≡ is_held bs id
unfolding Agrees is_binding is_taken
held-standing {s} {st} {ns} {bs} {π} M id b = go (meaning ns bs id) (M.standing id b) ∙ binding-held ns bs id
  where
    go : (m : Meaning) → Agrees s π (length bs) (declared ns id) m (get_or st id 0) →
        is_taken (standing_of (get_or st id 0)) ≡ is_binding m
    go (private k h) v = rw (variable-says v M.nested) refl
    go (argument k ty) v = rw (passed-says v M.nested) refl
    go (routine k ty tys) v = rw (routine-says v M.nested) refl
    go (named often ty tys) v = rw (naming-says v M.short) refl
    go retired v = rw (is-retired _ v) refl
    go free v = rw (is_free _ v) refl

-- an id hides none by its standing exactly if, by the present rule, no enclosing binder holds it
module _ (ed : Edition) {s st : List ℕ} {ns : List Name} {bs : List Binder} {π : ℕ → ℕ} (M : Matches s ns bs π st)
    (id : ℕ) (b : id < 255) where
  pub unhiding-apart : hides ed (standing_of (get_or st id 0)) ≡ false → ed ≡ Present → Unheld bs id
  unfolding hides Unheld
  unhiding-apart h e = sym (held-standing M id b) ∙ (rw e at h)

  pub apart-unhiding : (ed ≡ Present → Unheld bs id) → hides ed (standing_of (get_or st id 0)) ≡ false
  apart-unhiding = go ed
    where
      go : (e : Edition) → (e ≡ Present → Unheld bs id) → hides e (standing_of (get_or st id 0)) ≡ false
      go Earlier f = unfold hides in refl
      go Present f = unfold hides Unheld in held-standing M id b ∙ f refl

-- the standings of ids that are used are neither free nor retired
pub variable-taken : {n k h c : ℕ} {d : Meaning} → Variable n d k h c → (c ≡ 0 → ⊥) × (c ≡ 1 → ⊥)
unfolding variable_standing
variable-taken v = (λ z. omega (arith, v.stands), λ z. omega (arith, v.stands))

pub passed-taken : {n k ty c : ℕ} {d : Meaning} → Passed n d k ty c → (c ≡ 0 → ⊥) × (c ≡ 1 → ⊥)
unfolding parameter_standing
passed-taken v = (λ z. omega (arith, v.stands), λ z. omega (arith, v.stands))

pub routine-taken :
    {s : List ℕ} {π : ℕ → ℕ} {n k ty c : ℕ} {d : Meaning} {tys : List ℕ} → Routine s π n d k ty tys c →
    (c ≡ 0 → ⊥) × (c ≡ 1 → ⊥)
unfolding procedure_standing
routine-taken v = (λ z. omega (arith, v.stands), λ z. omega (arith, v.stands))

pub naming-taken : {s : List ℕ} {ty c : ℕ} {often : Often} {tys : List ℕ} → Naming s often ty tys c →
    (c ≡ 0 → ⊥) × (c ≡ 1 → ⊥)
unfolding declared_standing
naming-taken v = (λ z. omega (arith, v.stands), λ z. omega (arith, v.stands))
