-- The name records of a sheet, one after the other: what was declared before, and what is read.
use Rattle.std.specs.Prelude.{Result}
use Prim.Native.Nat.{ℕ, zero, suc, ◌+◌, ◌-◌, ◌≤◌, ◌<◌}
use native.Mathlib.Omega.{arith}
use mathlib.Core.Path.{◌≡◌, refl, sym, ap, ◌∙◌, subst}
use mathlib.Core.List.{List, [], ◌∷◌, ◌++◌, append_assoc}
use lib.ListN.{length, get_or, drop}
use lib.Dec.{eqb, leb}
use borrow.Author.Tests.{eqb-true, eqb-false, leb-false}
use Rattle.language.specs.declared.Numbers.{Numbers}
use Rattle.language.specs.Term.{Often, freely, once, onces}
use Rattle.sheet_records.specs.declared.refusal.Refusal.{Refusal}
use Rattle.sheet_records.specs.Kind.{shape_of}
use Rattle.sheet_records.specs.Standing.{declared_standing}
use Rattle.sheet_records.specs.declared.edition.Edition.{Edition}
use Rattle.sheet_records.specs.declared.kind.Shape.{Shape}
use Rattle.sheet_records.specs.declared.kind.Shape.TheVariants.{Part, Declare, Retire, Unknown}
use Rattle.sheet_written.specs.Written.{Name, declare, retire}
use Rattle.sheet_written.specs.Meaning.{Meaning, private, argument, routine, named, retired, free, declared, meaning}
use Rattle.sheet_written.specs.Fine.{FineNames}
use Rattle.sheet_reader.specs.Encoding.{declare_kind, encode_name, encode_names}
use Rattle.sheet_reader.specs.Heading.{declare_of, retire_of, declare_at, retire_at}
use Rattle.sheet_reader.specs.Reader.{Tree, Answer, got, refused, bind, on_judged, read_part, Whole, whole, with_name}
use Rattle.sheet_reader.specs.Reader.{whole_of_shape, name_of, names_step, names_of}
use Rattle.sheet_reader.proofs.Parsed.{Byte, Parsed}
use Rattle.sheet_reader.proofs.Standings.{by-test, Agrees, Matches, matches-declare, matches-retire, variable-taken}
use Rattle.sheet_reader.proofs.Standings.{passed-taken, routine-taken, naming-taken}
use Rattle.sheet_reader.proofs.Answers.{All, one, none', all-holds, Holds, pick_all, bind_all}
use Rattle.sheet_reader.proofs.Heads.{Shaped, s-declare, s-once, s-retire, shaped}
use Rattle.sheet_reader.proofs.Parse.{parse-all}
use Rattle.sheet_reader.proofs.Judgement.{JudgedAll, good, bad, declare-all, retire-all}
use Rattle.sheet_reader.proofs.NameBytes.{often-again, good-declares, good-types, good-bytes, retire-bytes}
use Rattle.sheet_records.specs.declared.refusal.Reason.TheVariants.{OutOfRange}

-- what an id means by earlier name records, else by later ones
unfoldable pub or_else : Meaning → Meaning → Meaning
or_else (private i h) m = private i h
or_else (argument i ty) m = argument i ty
or_else (routine i ty tys) m = routine i ty tys
or_else (named often ty tys) m = named often ty tys
or_else retired m = retired
or_else free m = m

-- the name records of a sheet say what the earlier ones say, else what the later ones say
pub record Extends (names earlier ns : List Name) : Type 0 where
  pub same : (id : ℕ) → declared names id ≡ or_else (declared earlier id) (declared ns id)

pub extends-first : (ns : List Name) → Extends ns [] ns
unfolding or_else declared
extends-first ns = record { same = λ id. refl }

or-free : (m : Meaning) → or_else m free ≡ m
unfolding or_else
or-free (private i h) = refl
or-free (argument i ty) = refl
or-free (routine i ty tys) = refl
or-free (named often ty tys) = refl
or-free retired = refl
or-free free = refl

pub extends-last : {names earlier : List Name} → Extends names earlier [] → (id : ℕ) →
    declared names id ≡ declared earlier id
unfolding declared
extends-last {names} {earlier} E id = E.same id ∙ or-free (declared earlier id)

pub extends-declare :
    {names earlier : List Name} (often : Often) (k ty : ℕ) (tys : List ℕ) (ns : List Name) → declared earlier k ≡ free →
    Extends names earlier (declare often k ty tys ∷ ns) → Extends names (declare often k ty tys ∷ earlier) ns
unfolding or_else declared
extends-declare {names} {earlier} often k ty tys ns f E = record {
  same = λ id.
      by-test (eqb k id)
      (λ t. let g : declared earlier id ≡ free = subst (λ (x : ℕ). declared earlier x ≡ free) (eqb-true k id t) f in
      rw t (rw (t, g) at (E.same id)))
      (λ t. rw t (rw t at (E.same id)));
}

pub extends-retire :
    {names earlier : List Name} (k : ℕ) (ns : List Name) → declared earlier k ≡ free →
    Extends names earlier (retire k ∷ ns) → Extends names (retire k ∷ earlier) ns
unfolding or_else declared
extends-retire {names} {earlier} k ns f E = record {
  same = λ id.
      by-test (eqb k id)
      (λ t. let g : declared earlier id ≡ free = subst (λ (x : ℕ). declared earlier x ≡ free) (eqb-true k id t) f in
      rw t (rw (t, g) at (E.same id)))
      (λ t. rw t (rw t at (E.same id)));
}

-- name records that say the same
pub matches-same :
    {s st : List ℕ} {names earlier : List Name} {π : ℕ → ℕ} → ((id : ℕ) → declared names id ≡ declared earlier id) →
    Matches s earlier [] π st → Matches s names [] π st
unfolding meaning
matches-same E M = record {
  sized = M.sized;
  short = M.short;
  nested = M.nested;
  standing = λ id b. rw (E id) (M.standing id b);
}

-- an id is free by its standing exactly if it is free by the name records
module _ {s st : List ℕ} {ns : List Name} {π : ℕ → ℕ} (M : Matches s ns [] π st) (id : ℕ) (b : id < 255) where
  standing-free : get_or st id 0 ≡ 0 → declared ns id ≡ free
  unfolding meaning Agrees
  standing-free e = go (declared ns id) (M.standing id b)
    where
      go : (m : Meaning) → Agrees s π 0 (declared ns id) m (get_or st id 0) → m ≡ free
      go (private i h) v = absurd ((variable-taken v).0 e)
      go (argument i ty) v = absurd ((passed-taken v).0 e)
      go (routine i ty tys) v = absurd ((routine-taken v).0 e)
      go (named often ty tys) v = absurd ((naming-taken v).0 e)
      go retired v = absurd (omega arith)
      go free v = refl

  pub free-standing : declared ns id ≡ free → get_or st id 0 ≡ 0
  unfolding meaning Agrees
  free-standing e = rw e at (M.standing id b)

-- the rest of a sheet, as read from a place on, after the earlier name records: at most n name records and the term
pub data NamesRead (ed : Edition) (N : Numbers) (s : List ℕ) (π : ℕ → ℕ) (n : ℕ) (earlier : List Name) (at : ℕ) :
    Whole → ℕ → ℕ → Type 0
  where
    names-read :
        {ns : List Name} {root : ℕ} {t : Tree} {ty end : ℕ} → length ns ≤ n → FineNames earlier ns →
        drop at s ≡ encode_names ns ++ drop root s →
        ((names : List Name) → Extends names earlier ns → Parsed ed N s names 32 [] π root t ty end) →
        NamesRead ed N s π n earlier at (whole ns root t) ty end

judged-onto :
    {X : Type 0} {P : Type 0} (Q : X → ℕ → ℕ → Type 0) {j : Result (Unit {0}) Refusal} (k : Answer X) → JudgedAll P j → (P → All Q k)
    →
    All Q (on_judged j k)
unfolding on_judged
judged-onto Q k (good p) f = f p
judged-onto Q k bad f = none'

-- for each index, for all
all-each :
    {I X : Type 0} (P : I → X → ℕ → ℕ → Type 0) (A : Answer X) → ((i : I) → All (P i) A) →
    All (λ x ty n. (i : I) → P i x ty n) A
unfolding Holds
all-each P (got x ty n) f = one (λ i. all-holds (P i) (got x ty n) (f i))
all-each P (refused a b) f = none'

module _ (ed : Edition) (N : Numbers) (s : List ℕ) (π : ℕ → ℕ) where
  -- one name record more
  with-name :
      {n m at at' : ℕ} {earlier : List Name} (nm : Name) → n ≡ suc m → drop at s ≡ encode_name nm ++ drop at' s →
      ((ns : List Name) → FineNames (nm ∷ earlier) ns → FineNames earlier (nm ∷ ns)) →
      ((names ns : List Name) → Extends names earlier (nm ∷ ns) → Extends names (nm ∷ earlier) ns) →
      {x : Whole} {ty end : ℕ} → NamesRead ed N s π m (nm ∷ earlier) at' x ty end →
      NamesRead ed N s π n earlier at (with_name nm x) ty end
  unfolding with_name encode_names
  with-name nm e b f g (names-read {ns = ns} {root = root} l fine d p) =
      names-read {ns = nm ∷ ns} (omega arith) (f ns fine)
      (b ∙ ap (λ (y : List ℕ). encode_name nm ++ y) d
      ∙ sym (append_assoc (encode_name nm) (encode_names ns) (drop root s)))
      (λ names E. p names (g names ns E))

  -- the name records and the term from a place on, where rec reads what follows a name record
  module _
      (n : ℕ) (earlier : List Name) (st : List ℕ) (at : ℕ) (M : Matches s earlier [] π st)
      (rec : List ℕ → ℕ → Answer Whole)
      (sub : (m : ℕ) → n ≡ suc m → (ns : List Name) (st' : List ℕ) (at' : ℕ) → Matches s ns [] π st' →
      All (λ x ty end. NamesRead ed N s π m ns at' x ty end) (rec st' at')) where
    abbrev Here : Whole → ℕ → ℕ → Type 0
    Here x ty end = NamesRead ed N s π n earlier at x ty end

    reads-declare : (often : Often) → Byte s at (declare_kind often) →
        All Here (name_of rec n s st at 7 (declared_standing at (onces often)) (declare_of s st at)
        (declare_at s at (onces often)))
    unfolding name_of declare_at FineNames
    reads-declare often b =
        pick_all (All Here) (eqb n 0) (λ e. none') (λ e.
        let z = eqb-false n 0 e in
        let k : n ≡ suc (n - 1) = omega arith in
        judged-onto Here _ (declare-all s st at) (λ D.
        let F = D.id in
        let f = standing-free M (get_or s (at + 1) 0) F.below F.free in
        bind_all _ Here _ _
        (sub (n - 1) k (declare_at s at (onces often) ∷ earlier) _ (at + 1 + 7)
        (rw (often-again often) (matches-declare often M F.below (good-declares s st at D))))
        (λ x ty end q. one (with-name (declare_at s at (onces often)) k (good-bytes s st at D often b)
        (λ ns q. (F.below, f, D.type-known, (good-declares s st at D).few, good-types s st at D, q))
        (λ names ns E. extends-declare _ _ _ _ ns f E) q))))

    reads-retire : Byte s at 2 → All Here (name_of rec n s st at 1 1 (retire_of s st at) (retire_at s at))
    unfolding name_of retire_at FineNames
    reads-retire b =
        pick_all (All Here) (eqb n 0) (λ e. none') (λ e.
        let z = eqb-false n 0 e in
        let k : n ≡ suc (n - 1) = omega arith in
        judged-onto Here _ (retire-all s st at) (λ F.
        let f = standing-free M (get_or s (at + 1) 0) F.below F.free in
        bind_all _ Here _ _
        (sub (n - 1) k (retire_at s at ∷ earlier) _ (at + 1 + 1) (matches-retire M F.below))
        (λ x ty end q. one (with-name (retire_at s at) k (retire-bytes s st at F b) (λ ns q. (F.below, f, q))
        (λ names ns E. extends-retire _ ns f E) q))))

    reads-term : All Here (bind (read_part ed 32 N s st 0 at) (λ t ty end. got (whole [] at t) ty end))
    unfolding encode_names FineNames
    reads-term =
        bind_all _ Here (read_part ed 32 N s st 0 at) _
        (all-each {I = (names : List Name) × Extends names earlier []}
        (λ i t ty end. Parsed ed N s i.0 32 [] π at t ty end) (read_part ed 32 N s st 0 at)
        (λ i. parse-all ed N s i.0 32 [] π st at (matches-same (extends-last i.1) M) (omega arith)))
        (λ t ty end p. one (names-read {ns = []} (omega arith) tt refl (λ names E. p (names, E))))

    reads-step : All Here (names_step ed rec n N s st at)
    unfolding names_step whole_of_shape
    reads-step =
        pick_all (All Here) (leb (length s) at) (λ e. none')
        (λ e. go (shape_of (get_or s at 0)) (leb-false (length s) at e) (shaped (get_or s at 0)))
      where
        go : (x : Shape) → at < length s → Shaped (get_or s at 0) x → All Here (whole_of_shape x
            (λ body asks. name_of rec n s st at body (declared_standing at asks) (declare_of s st at) (declare_at s at asks))
            (λ body. name_of rec n s st at body 1 (retire_of s st at) (retire_at s at))
            (bind (read_part ed 32 N s st 0 at) (λ t ty end. got (whole [] at t) ty end))
            (refused OutOfRange at))
        go (Part body parts rule) l h = reads-term
        go (Declare body asks) l (s-declare e) = unfold onces declare_kind in reads-declare freely (l, e)
        go (Declare body asks) l (s-once e) = unfold onces declare_kind in reads-declare once (l, e)
        go (Retire body) l (s-retire e) = reads-retire (l, e)
        go Unknown l h = none'

  -- THEOREM: the rest of a sheet, as it is read
  pub names-all :
      (n : ℕ) (earlier : List Name) (st : List ℕ) (at : ℕ) → Matches s earlier [] π st →
      All (λ x ty end. NamesRead ed N s π n earlier at x ty end) (names_of ed n N s st at)
  unfolding names_of
  names-all zero earlier st at M = reads-step 0 earlier st at M _ (λ m e. absurd (omega arith))
  names-all (suc n) earlier st at M =
      let sub = names-all n in
      reads-step (suc n) earlier st at M (names_of ed n N s)
      (λ m e ns st' at' M'. let k : n ≡ m = omega arith in rw (← k) (sub ns st' at' M'))
