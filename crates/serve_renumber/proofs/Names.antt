-- The name records, one after the other: their ids are taken, and the scope has their arguments.
use Prim.Native.Nat.{ℕ, ◌+◌, ◌*◌, ◌≤◌, ◌<◌}
use native.Mathlib.Omega.{arith}
use mathlib.Core.Path.{◌≡◌, refl, sym, ap, ap₂, ◌∙◌}
use mathlib.Core.Bool.{Bool, true, false, ◌||◌}
use mathlib.Core.List.{List, [], ◌∷◌}
use lib.ListN.{length, get_or, set, drop, length-set, length-append}
use lib.Seq.{get_or-set_same, get_or-set_other}
use lib.Dec.{eqb}
use Rattle.language.specs.Term.{Often, freely, once}
use borrow.Author.Tests.{eq-eqb, ne_eqb, lt-leb}
use Rattle.sheet_records.specs.Kind.{shape_of, body_in}
use Rattle.sheet_written.specs.Written.{Name, declare, retire, Sheet}
use Rattle.sheet_written.specs.Meaning.{Meaning, private, argument, routine, named, retired, free, declared, meaning}
use Rattle.sheet_written.specs.Fine.{FineNames}
use Rattle.sheet_written.specs.Hiding.{is_held}
use Rattle.sheet_written.specs.Width.{name_width, heading_width}
use Rattle.sheet_written.specs.Renumber.{put, is_named}
use Rattle.sheet_written.proofs.Lowest.{by-id, put-here, put-past}
use Rattle.sheet_reader.specs.Encoding.{encode, declare_kind, encode_name, encode_names, encode_sheet}
use Rattle.sheet_reader.specs.Reader.{accepted}
use Rattle.sheet_records.specs.declared.edition.Edition.TheVariants.{Earlier}
use Rattle.sheet_reader.proofs.Right.{gives}
use Rattle.serve_renumber.specs.Outcome.{read_earlier}
use Rattle.serve_renumber.specs.Work.{Takes, named_entry, name_entry, held_in, arguments_in, becomes_in, arity}
use Rattle.serve_renumber.specs.Work.{Scoped}
use Rattle.serve_renumber.specs.Work.{Lies}
use Rattle.serve_renumber.specs.Found.{Headed}
use Rattle.serve_renumber.proofs.Lists.{lies-get, lies-head, lies-after}
use Rattle.sheet_reader.proofs.Widths.{wide-name, wide-heading}
use Rattle.serve_renumber.proofs.Entries.{takes-put, takes_same}

-- what is meant by the first that means something
pub or_else : Meaning → Meaning → Meaning
or_else (private j d) m = private j d
or_else (argument j ty) m = argument j ty
or_else (routine j ty tys) m = routine j ty tys
or_else (named often ty tys) m = named often ty tys
or_else retired m = retired
or_else free m = m

or-free : (m : Meaning) → or_else m free ≡ m
unfolding or_else
or-free (private j d) = refl
or-free (argument j ty) = refl
or-free (routine j ty tys) = refl
or-free (named often ty tys) = refl
or-free retired = refl
or-free free = refl

pub or-false : (a : Bool) → (a || false) ≡ a
or-false true = refl
or-false false = refl

pub or_assoc : (a b c : Bool) → ((a || b) || c) ≡ (a || (b || c))
or_assoc true b c = refl
or_assoc false b c = refl

pub or_swap : (a b : Bool) → (a || b) ≡ (b || a)
or_swap true true = refl
or_swap true false = refl
or_swap false true = refl
or_swap false false = refl

-- an id put among those that are taken
pub put-or : (id : ℕ) (f : ℕ → Bool) (j : ℕ) → put id true f j ≡ (eqb id j || f j)
put-or id f j = by-id j id
    (λ t. rw (t, put-here id true f, eq-eqb id id refl) refl)
    (λ n. rw (put-past id true f j n, ne_eqb id j (λ t. n (sym t))) refl)

-- the names before a place, the last first, and those from it on
pub record Naming (S : Sheet) (s : List ℕ) (root : ℕ) (k scope : List ℕ) (at : ℕ) : Type 0 where
  pub earlier : List Name
  pub rest : List Name
  pub fine : FineNames earlier rest
  pub lies : Lies s at (encode_names rest)
  pub ends : at + length (encode_names rest) ≡ root
  pub takes : Takes k (is_named earlier)
  pub scoped : Scoped earlier [] (λ id. id) scope
  pub named-all : (id : ℕ) → (is_named earlier id || is_named rest id) ≡ is_named S.names id
  pub means-all : (id : ℕ) → or_else (declared earlier id) (declared rest id) ≡ declared S.names id

-- a name's entry
entry-held : (c : ℕ) → c ≤ 4 → held_in (named_entry c) ≡ false
unfolding held_in named_entry
entry-held c h = lt-leb 2048 (256 * c) (omega arith)

entry-becomes : (c id : ℕ) → c ≤ 4 → becomes_in (named_entry c) id ≡ id
unfolding becomes_in named_entry
entry-becomes c id h = rw (lt-leb 2048 (256 * c) (omega arith)) refl

entry-arguments : (c : ℕ) → c ≤ 4 → arguments_in (named_entry c) ≡ c
unfolding arguments_in named_entry
entry-arguments c h = omega arith

scoped-named : (ns : List Name) (n : Name) (scope : List ℕ) (id c : ℕ) → Scoped ns [] (λ j. j) scope → id < 255 → c ≤
    4 →
    c ≡ arity (declared (n ∷ ns) id) → ((j : ℕ) → (j ≡ id → ⊥) → declared (n ∷ ns) j ≡ declared ns j) →
    Scoped (n ∷ ns) [] (λ j. j) (set scope id (named_entry c))
unfolding is_held meaning
scoped-named ns n scope id c S s h a o =
    let e : ℕ = named_entry c in
    let inside : id < length scope = omega (arith, S.sized) in
    record {
      sized = length-set scope id e ∙ S.sized;
      helds = λ j l. by-id j id
          (λ t. rw (t, get_or-set_same scope id e 0 inside) (entry-held c h))
          (λ m. rw (get_or-set_other scope id j e 0 m) (S.helds j l));
      becomes = λ j l. by-id j id
          (λ t. rw (t, get_or-set_same scope id e 0 inside) (entry-becomes c id h))
          (λ m. rw (get_or-set_other scope id j e 0 m) (S.becomes j l));
      counts = λ j l. by-id j id
          (λ t. rw (t, get_or-set_same scope id e 0 inside) (entry-arguments c h ∙ a))
          (λ m. rw (get_or-set_other scope id j e 0 m, o j m) (S.counts j l));
    }

-- one name more
module _ (S : Sheet) (s : List ℕ) (root : ℕ) (k scope : List ℕ) (at : ℕ) (earlier rest : List Name)
    (takes : Takes k (is_named earlier)) (scoped : Scoped earlier [] (λ id. id) scope) where
  name-more : (n : Name) (id c next : ℕ) → id < 255 → c ≤ 4 → declared earlier id ≡ free →
      c ≡ arity (declared (n ∷ earlier) id) → (is_named (n ∷ earlier) ≡ λ j. (eqb id j || is_named earlier j)) →
      ((j : ℕ) → is_named (n ∷ rest) j ≡ (eqb id j || is_named rest j)) →
      ((j : ℕ) → (j ≡ id → ⊥) → declared (n ∷ earlier) j ≡ declared earlier j) →
      ((j : ℕ) → (j ≡ id → ⊥) → declared (n ∷ rest) j ≡ declared rest j) →
      (or_else (declared (n ∷ earlier) id) (declared rest id) ≡ or_else (declared earlier id) (declared (n ∷ rest) id)) →
      FineNames (n ∷ earlier) rest → Lies s at (encode_names (n ∷ rest)) → at + length (encode_names (n ∷ rest)) ≡ root →
      ((j : ℕ) → (is_named earlier j || is_named (n ∷ rest) j) ≡ is_named S.names j) →
      ((j : ℕ) → or_else (declared earlier j) (declared (n ∷ rest) j) ≡ declared S.names j) →
      next ≡ at + length (encode_name n) → Naming S s root (set k id 1) (set scope id (named_entry c)) next
  unfolding encode_names
  name-more n id c next h i f a m m' o o' q F L E A D w = record {
    earlier = n ∷ earlier;
    rest = rest;
    fine = F;
    lies = lies-after s (encode_name n) (encode_names rest) (encode_names rest) at next L refl w;
    ends = omega (arith, E, w, length-append (encode_name n) (encode_names rest));
    takes = takes_same (set k id 1) (put id true (is_named earlier)) (is_named (n ∷ earlier))
        (λ j. put-or id (is_named earlier) j ∙ ap (λ (g : ℕ → Bool). g j) (sym m))
        (takes-put k (is_named earlier) id takes);
    scoped = scoped-named earlier n scope id c scoped h i a o;
    named-all = λ j. ap (λ (g : ℕ → Bool). g j || is_named rest j) m
        ∙ ap (λ (b : Bool). b || is_named rest j) (or_swap (eqb id j) (is_named earlier j))
        ∙ or_assoc (is_named earlier j) (eqb id j) (is_named rest j)
        ∙ ap (λ (b : Bool). is_named earlier j || b) (sym (m' j)) ∙ A j;
    means-all = λ j. by-id j id
        (λ t. rw t (q ∙ D id))
        (λ z. ap₂ or_else (o j z) (sym (o' j z)) ∙ D j);
  }

-- both kinds of declare records
entry-often : (often : Often) (c : ℕ) → name_entry (declare_kind often) c ≡ named_entry c
unfolding name_entry declare_kind
entry-often freely c = refl
entry-often once c = refl

body-often : (often : Often) → body_in (shape_of (declare_kind often)) ≡ 7
unfolding body_in shape_of declare_kind
body-often freely = refl
body-often once = refl

-- a turn of the loop
name-again : (S : Sheet) (s : List ℕ) (root : ℕ) (k scope k' scope' : List ℕ) (at kind id c e body next : ℕ) →
    Naming S s root k scope at → at < root → kind ≡ get_or s at 0 → id ≡ get_or s (at + 1) 0 → k' ≡ set k id 1 →
    c ≡ get_or s (at + 3) 0 → e ≡ name_entry kind c → scope' ≡ set scope id e → body ≡ body_in (shape_of kind) →
    next ≡ at + (1 + body) → Naming S s root k' scope' next
unfolding FineNames encode_name encode_names name_width is_named declared arity or_else name_entry named_entry body_in shape_of
name-again S s root k scope k' scope' at kind id c e body next G h i j u v w x y z =
    go G.earlier G.rest G.fine G.lies G.ends G.takes G.scoped G.named-all G.means-all
  where
    go : (earlier rest : List Name) → FineNames earlier rest → Lies s at (encode_names rest) →
        at + length (encode_names rest) ≡ root → Takes k (is_named earlier) → Scoped earlier [] (λ id. id) scope →
        ((id : ℕ) → (is_named earlier id || is_named rest id) ≡ is_named S.names id) →
        ((id : ℕ) → or_else (declared earlier id) (declared rest id) ≡ declared S.names id) →
        Naming S s root k' scope' next
    go earlier [] F L E T C A D = absurd (omega (arith, E, h))
    go earlier (declare often a ty tys ∷ rest) F L E T C A D =
        let q : kind ≡ declare_kind often = i ∙ lies-head s (encode_names (declare often a ty tys ∷ rest)) at L in
        let p : id ≡ a = j ∙ lies-get s (encode_names (declare often a ty tys ∷ rest)) at 1 L in
        let m : c ≡ length tys = v ∙ lies-get s (encode_names (declare often a ty tys ∷ rest)) at 3 L in
        let w' : e ≡ named_entry c = w ∙ (ap (λ (x : ℕ). name_entry x c) q ∙ entry-often often c) in
        let y' : body ≡ 7 = y ∙ (ap (λ (x : ℕ). body_in (shape_of x)) q ∙ body-often often) in
        let N : Naming S s root (set k a 1) (set scope a (named_entry (length tys))) next =
        name-more S s root k scope at earlier rest T C (declare often a ty tys) a (length tys) next F.0
        (omega (arith, F.3)) F.1 (rw (eq-eqb a a refl) refl) refl (λ t. refl)
        (λ t n. rw (ne_eqb a t (λ g. n (sym g))) refl) (λ t n. rw (ne_eqb a t (λ g. n (sym g))) refl)
        (rw (eq-eqb a a refl, F.1) refl) F.5 L E A D
        (omega (arith, z, y', wide-name (declare often a ty tys))) in
        rw (u, x, p, w', m) N
    go earlier (retire a ∷ rest) F L E T C A D =
        let q : kind ≡ 2 = i ∙ lies-head s (encode_names (retire a ∷ rest)) at L in
        let p : id ≡ a = j ∙ lies-get s (encode_names (retire a ∷ rest)) at 1 L in
        let w' : e ≡ 0 = rw q at w in
        let y' : body ≡ 1 = rw q at y in
        let N : Naming S s root (set k a 1) (set scope a (named_entry 0)) next =
        name-more S s root k scope at earlier rest T C (retire a) a 0 next F.0
        (omega arith) F.1 (rw (eq-eqb a a refl) refl) refl (λ t. refl)
        (λ t n. rw (ne_eqb a t (λ g. n (sym g))) refl) (λ t n. rw (ne_eqb a t (λ g. n (sym g))) refl)
        (rw (eq-eqb a a refl, F.1) refl) F.2 L E A D
        (omega (arith, z, y')) in
        rw (u, x, p, w') N

-- the first name, and none more
name-first : (S : Sheet) (s : List ℕ) (root ty n : ℕ) (k scope : List ℕ) → read_earlier s ≡ accepted S ty n →
    root ≡ heading_width S → Takes k (λ id. false) → Scoped [] [] (λ id. id) scope → Naming S s root k scope 2
unfolding encode_sheet is_named declared or_else
name-first S s root ty n k scope e r T C =
    let g = gives Earlier s S ty n e in
    record {
      earlier = [];
      rest = S.names;
      fine = g.1.ordered.in_order.fine_names;
      lies = record { rest = encode S.term; here = ap (λ (x : List ℕ). drop 2 x) g.0 };
      ends = wide-heading S ∙ sym r;
      takes = takes_same k (λ id. false) (is_named []) (λ j. refl) T;
      scoped = C;
      named-all = λ j. refl;
      means-all = λ j. refl;
    }

name-some : (n : Name) (ns : List Name) → 0 < length (encode_names (n ∷ ns))
unfolding encode_names encode_name
name-some (declare often id ty tys) ns = omega arith
name-some (retire id) ns = omega arith

name-last : (S : Sheet) (s : List ℕ) (root : ℕ) (k scope : List ℕ) (at : ℕ) → Naming S s root k scope at → root ≤
    at →
    Takes k (is_named S.names) × Scoped S.names [] (λ id. id) scope
unfolding is_named declared meaning
name-last S s root k scope at G h = go G.earlier G.rest G.ends G.takes G.scoped G.named-all
    G.means-all
  where
    go : (earlier rest : List Name) → at + length (encode_names rest) ≡ root → Takes k (is_named earlier) →
        Scoped earlier [] (λ id. id) scope →
        ((id : ℕ) → (is_named earlier id || is_named rest id) ≡ is_named S.names id) →
        ((id : ℕ) → or_else (declared earlier id) (declared rest id) ≡ declared S.names id) →
        Takes k (is_named S.names) × Scoped S.names [] (λ id. id) scope
    go earlier [] E T C A D = (
      takes_same k (is_named earlier) (is_named S.names) (λ j. sym (or-false (is_named earlier j)) ∙ A j) T,
      record {
        sized = C.sized;
        helds = C.helds;
        becomes = C.becomes;
        counts = λ j l. C.counts j l ∙ ap arity (sym (or-free (declared earlier j)) ∙ D j);
      },
    )
    go earlier (n ∷ rest) E T C A D = absurd (omega (arith, E, h, name-some n rest))

-- what the loop keeps: where the sheet is accepted, the names before the place are dealt with
abbrev pub Named : List ℕ → ℕ → List ℕ → List ℕ → List ℕ → List ℕ → ℕ → Type 0
Named s root k₀ scope₀ k scope at =
    (S : Sheet) (ty n : ℕ) → read_earlier s ≡ accepted S ty n → root ≡ heading_width S →
    Takes k₀ (λ id. false) → Scoped [] [] (λ id. id) scope₀ → Naming S s root k scope at

pub named-first : (s : List ℕ) (root : ℕ) (k scope : List ℕ) → Named s root k scope k scope 2
named-first s root k scope = λ S ty n e r T C. name-first S s root ty n k scope e r T C

pub named_again : (s : List ℕ) (root : ℕ) (k₀ scope₀ k scope k' scope' : List ℕ) (at kind id c e body next : ℕ) →
    Named s root k₀ scope₀ k scope at → at < root → kind ≡ get_or s at 0 → id ≡ get_or s (at + 1) 0 → k' ≡ set k id 1 →
    c ≡ get_or s (at + 3) 0 → e ≡ name_entry kind c → scope' ≡ set scope id e → body ≡ body_in (shape_of kind) →
    next ≡ at + (1 + body) → Named s root k₀ scope₀ k' scope' next
named_again s root k₀ scope₀ k scope k' scope' at kind id c e body next G h i j u v w x y z =
    λ S ty n a r T C. name-again S s root k scope k' scope' at kind id c e body next (G S ty n a r T C) h i j u v w x
    y z

pub named-last : (s : List ℕ) (root : ℕ) (k₀ scope₀ k scope : List ℕ) (at : ℕ) → Named s root k₀ scope₀ k scope at →
    root ≤ at → Headed s root k₀ scope₀ k scope
named-last s root k₀ scope₀ k scope at G h = record {
  does = λ S ty n a r T C. name-last S s root k scope at (G S ty n a r T C) h;
}
