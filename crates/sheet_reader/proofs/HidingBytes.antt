-- Where binders hide others, the first of them is why something is refused: how that goes through the reader's steps.
use Rattle.std.specs.Prelude.{Result, Ok, Err}
use Prim.Native.Nat.{ℕ, suc, ◌+◌}
use native.Mathlib.Omega.{arith}
use mathlib.Core.Path.{◌≡◌, refl, sym, ap, ◌∙◌, subst}
use mathlib.Core.Bool.{Bool, true, false}
use mathlib.Core.List.{List, [], ◌∷◌, ◌++◌}
use Rattle.language.specs.Choice.{pick}
use Rattle.sheet_records.specs.declared.refusal.Refusal.{Refusal}
use Rattle.sheet_records.specs.Refusal.{refusal, id_enclosed}
use Rattle.sheet_judgements.specs.Judge.{and_then}
use Rattle.sheet_heads.specs.Head.{on_judged}
use Rattle.sheet_parts.specs.Rule.{accepts_part}
use Rattle.sheet_parts.specs.Scope.{opens, passed, usable}
use Rattle.sheet_parts.specs.declared.scope.Opens.TheVariants.{Routine as Terms}
use Rattle.sheet_heads.specs.declared.head.Record.{Record}
use Rattle.sheet_written.specs.Written.{Written}
use Rattle.sheet_written.specs.Meaning.{Binder}
use Rattle.sheet_written.specs.Hiding.{is_held, Hiding, hiding_id}
use Rattle.sheet_reader.specs.Reader.{Tree, Trees, leaf, branch, Answer, got, refused, bind, on_head, parts_of, scope_parts}
use Rattle.sheet_reader.specs.Reader.{read_record}
use Rattle.sheet_reader.proofs.Complete.{Read}

-- what is refused where some binder hides another, by a list of those that do
pub record Hides {X : Type 0} (hs : List Hiding) (A : Answer X) : Type 0 where
  pub stops : (h : Hiding) (gs : List Hiding) → hs ≡ h ∷ gs → A ≡ refused id_enclosed h.place

-- the same of a judgement, which is good where none does
pub record Says (hs : List Hiding) (J : Result (Unit {0}) Refusal) : Type 0 where
  pub clears : hs ≡ [] → J ≡ Ok tt
  pub stops : (h : Hiding) (gs : List Hiding) → hs ≡ h ∷ gs → J ≡ Err (refusal id_enclosed h.place)

pub none-hides : {X : Type 0} (A : Answer X) → Hides [] A
none-hides A = record { stops = λ h gs e. let z : ◌≡◌ {A = ℕ} 0 1 = cc in absurd (omega arith) }

-- the same list, written otherwise
pub hides-as : {X : Type 0} {A : Answer X} {hs ks : List Hiding} → ks ≡ hs → Hides hs A → Hides ks A
hides-as {A = A} e H = subst (λ (l : List Hiding). Hides l A) (sym e) H

pub says-as : {J : Result (Unit {0}) Refusal} {hs ks : List Hiding} → ks ≡ hs → Says hs J → Says ks J
says-as {J} e S = subst (λ (l : List Hiding). Says l J) (sym e) S

-- of two lists the first decides, and the second where that is empty
pub hides-either : {X : Type 0} (hs ks : List Hiding) (A : Answer X) → Hides hs A → (hs ≡ [] → Hides ks A) →
    Hides (hs ++ ks) A
hides-either [] ks A H f = f refl
hides-either (x ∷ xs) ks A H f = record {
  stops = λ h gs e.
      let e' : x ∷ (xs ++ ks) ≡ h ∷ gs = e in
      let k : x ≡ h = cc in
      H.stops x xs refl ∙ ap (λ (v : Hiding). refused id_enclosed v.place) k;
}

-- one judgement after another
pub says-good : {J : Result (Unit {0}) Refusal} → J ≡ Ok tt → Says [] J
says-good e = record {
  clears = λ k. e;
  stops = λ h gs k. let z : ◌≡◌ {A = ℕ} 0 1 = cc k in absurd (omega arith);
}

pub good-then : {J K : Result (Unit {0}) Refusal} {hs : List Hiding} → J ≡ Ok tt → Says hs K → Says hs (and_then J K)
unfolding and_then
good-then e S = rw e S

pub then-good : {J K : Result (Unit {0}) Refusal} {hs : List Hiding} → Says hs J → K ≡ Ok tt → Says hs (and_then J K)
unfolding and_then
then-good S e = record { clears = λ k. rw (S.clears k) e; stops = λ h gs k. rw (S.stops h gs k) refl }

pub says_then : {J K : Result (Unit {0}) Refusal} (hs ks : List Hiding) → Says hs J → Says ks K → Says (hs ++ ks) (and_then J K)
unfolding and_then
says_then [] ks S T = rw (S.clears refl) T
says_then (x ∷ xs) ks S T = record {
  clears = λ e.
      let e' : x ∷ (xs ++ ks) ≡ [] = e in
      let z : ◌≡◌ {A = ℕ} 0 1 = cc e' in absurd (omega arith);
  stops = λ h gs e.
      let e' : x ∷ (xs ++ ks) ≡ h ∷ gs = e in
      let k : x ≡ h = cc e' in
      rw (S.stops x xs refl) (ap (λ (v : Hiding). Err (refusal id_enclosed v.place)) k);
}

-- an id by whether an enclosing binder holds it
held-says : (bs : List Binder) (at id : ℕ) →
    Says (hiding_id bs at id) (pick (is_held bs id) (Err (refusal id_enclosed at)) (Ok tt))
unfolding hiding_id
held-says bs at id = go (is_held bs id)
  where
    go : (t : Bool) →
        Says (pick t (record { place = at; id = id } ∷ []) []) (pick t (Err (refusal id_enclosed at)) (Ok tt))
    go true = record {
      clears = λ e. let z : ◌≡◌ {A = ℕ} 0 1 = cc e in absurd (omega arith);
      stops = λ h gs e. let k : record { place = at; id = id } ≡ h = cc e in
          ap (λ (v : Hiding). Err (refusal id_enclosed v.place)) k;
    }
    go false = says-good refl

pub id-says : {J : Result (Unit {0}) Refusal} (bs : List Binder) (at id : ℕ) →
    J ≡ pick (is_held bs id) (Err (refusal id_enclosed at)) (Ok tt) → Says (hiding_id bs at id) J
id-says bs at id e = subst (λ (J : Result (Unit {0}) Refusal). Says (hiding_id bs at id) J) (sym e) (held-says bs at id)

-- a head that is judged, then the record
pub judged-hides : {J : Result (Unit {0}) Refusal} (hs ks : List Hiding) (r : Record) (k : Record → Answer Tree) → Says hs J →
    Hides ks (k r) → Hides (hs ++ ks) (on_head (on_judged J (Ok r)) k)
unfolding on_head on_judged
judged-hides hs ks r k S H =
    hides-either hs ks _ (record { stops = λ h gs e. rw (S.stops h gs e) refl }) (λ e. rw (S.clears e) H)

-- the parts of a record
module _ (rec : ℕ → Answer Tree) (s : List ℕ) (r : Record) (n j prev p : ℕ) where
  pub part-hides : {hs : List Hiding} → Hides hs (rec p) → Hides hs (parts_of rec s r (suc n) j prev p)
  unfolding parts_of bind
  part-hides H = record { stops = λ h gs e. rw (H.stops h gs e) refl }

  later-hides : {t : Tree} {ty next : ℕ} {hs : List Hiding} → rec p ≡ got t ty next →
      accepts_part r.rule s r j prev ty ≡ true → Hides hs (parts_of rec s r n (j + 1) ty next) →
      Hides hs (parts_of rec s r (suc n) j prev p)
  unfolding parts_of bind
  later-hides e a H = record { stops = λ h gs k. rw (e, a, H.stops h gs k) refl }

  pub parts-hide : {W : Written} {ty next : ℕ} (hs ks : List Hiding) → Hides hs (rec p) →
      (hs ≡ [] → Read s (rec p) W ty next) → accepts_part r.rule s r j prev ty ≡ true →
      Hides ks (parts_of rec s r n (j + 1) ty next) → Hides (hs ++ ks) (parts_of rec s r (suc n) j prev p)
  parts-hide hs ks H R a K = hides-either hs ks _ (part-hides H) (λ e. later-hides (R e).reads a K)

pub record-hides : (rec : List ℕ → ℕ → ℕ → Answer Tree) (s st : List ℕ) (around : ℕ) (r : Record) {hs : List Hiding} →
    Hides hs (scope_parts (opens r.rule) rec s st around r) → Hides hs (read_record rec s st around r)
unfolding read_record bind
record-hides rec s st around r H = record { stops = λ h gs e. rw (H.stops h gs e) refl }

-- the two terms of a procedure
module _ (rec : List ℕ → ℕ → ℕ → Answer Tree) (s st : List ℕ) (around : ℕ) (r : Record) where
  abbrev first_term : Answer Trees
  first_term = parts_of (rec (passed s r.place around r.b st) (around + r.b)) s r 1 0 0 r.next

  abbrev second_term : ℕ → ℕ → Answer Trees
  second_term ty next = parts_of (rec (usable st r around) (around + 1)) s r 1 1 ty next

  first-hides : {hs : List Hiding} → Hides hs first_term → Hides hs (scope_parts Terms rec s st around r)
  unfolding scope_parts bind
  first-hides H = record { stops = λ h gs e. rw (H.stops h gs e) refl }

  second-hides : {ts : Trees} {ty next : ℕ} {hs : List Hiding} → first_term ≡ got ts ty next →
      Hides hs (second_term ty next) → Hides hs (scope_parts Terms rec s st around r)
  unfolding scope_parts bind
  second-hides e H = record { stops = λ h gs k. rw (e, H.stops h gs k) refl }

  first_read : {t : Tree} {ty next : ℕ} →
      rec (passed s r.place around r.b st) (around + r.b) r.next ≡ got t ty next →
      accepts_part r.rule s r 0 0 ty ≡ true → first_term ≡ got (branch r.next t leaf) ty next
  unfolding parts_of bind
  first_read e a = rw (e, a) refl

  pub terms-hide : {W : Written} {ty next : ℕ} (hs ks : List Hiding) →
      Hides hs (rec (passed s r.place around r.b st) (around + r.b) r.next) →
      (hs ≡ [] → Read s (rec (passed s r.place around r.b st) (around + r.b) r.next) W ty next) →
      accepts_part r.rule s r 0 0 ty ≡ true → Hides ks (rec (usable st r around) (around + 1) next) →
      Hides (hs ++ ks) (scope_parts Terms rec s st around r)
  terms-hide {ty = ty} {next} hs ks H R a K =
      hides-either hs ks _
      (first-hides (part-hides (rec (passed s r.place around r.b st) (around + r.b)) s r 0 0 0 r.next H))
      (λ e. second-hides (first_read (R e).reads a)
      (part-hides (rec (usable st r around) (around + 1)) s r 0 1 ty next K))
