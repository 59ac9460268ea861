-- What document 02 [4] says of renumber holds (specs/Service).
use Prim.Native.Nat.{ℕ, ◌≤◌, ◌+◌, ◌<◌}
use native.Mathlib.Omega.{arith}
use mathlib.Core.Path.{◌≡◌, refl, sym, ap, ap₂, ◌∙◌, subst}
use mathlib.Core.Bool.{Bool, true, false, ◌||◌}
use mathlib.Core.Logic.{inl, inr}
use mathlib.Core.List.{List, []}
use lib.ListN.{length, length-append, get_or}
use lib.Dec.{ltb}
use borrow.Author.Tests.{le-ltb}
use Rattle.language.specs.Choice.{pick}
use Rattle.language.specs.Weight.{size}
use Rattle.sheet_records.specs.Refusal.{cause}
use Rattle.sheet_records.specs.declared.refusal.Cause.{Cause}
use Rattle.sheet_records.specs.declared.edition.Edition.{Edition}
use Rattle.sheet_records.specs.declared.edition.Edition.TheVariants.{Earlier, Present}
use Rattle.sheet_written.specs.Written.{Written, Sheet}
use Rattle.sheet_written.specs.Meaning.{ty_of, term_of, type_of}
use Rattle.sheet_written.specs.Rules.{with_term}
use Rattle.sheet_written.specs.Width.{width, heading_width}
use Rattle.sheet_written.specs.Renumber.{Change, Renumbering, renumbered, none_left, renumber_sheet, taken_at_first}
use Rattle.sheet_written.specs.Renumbering.{Renumbered, RenumberRule, UnalteredRule, GivenRule}
use Rattle.sheet_written.proofs.Renumbering.{renumber-rule, unaltered-rule, given-rule, within-sheet}
use Rattle.sheet_reader.specs.Encoding.{encode, encode_names, encode_sheet}
use Rattle.sheet_reader.specs.Fine as fine
use Rattle.sheet_reader.specs.Reader.{Checks, accepted, rejected, read_under}
use Rattle.sheet_judge.specs.Check.{NumberOf}
use Rattle.sheet_reader.proofs.Right.{gives, accepts}
use Rattle.sheet_judge.proofs.Places.{check-refused}
use Rattle.serve_renumber.specs.Outcome.{read_earlier, listed, Outcome, done, refused, written, checked, outcome}
use Rattle.serve_renumber.specs.Outcome.{RenumberedBy}
use Rattle.serve_renumber.specs.Service.{WrittenRule, EarlierAccepted, AcceptedRule, UnalteredService}
use Rattle.serve_renumber.specs.Service.{RenumberNumber, RenumberNumbers, RenumberUnique, WellWritten}
use Rattle.serve_renumber.proofs.Lists.{listed-length, listed_small}
use Rattle.sheet_reader.proofs.Widths.{wide, wide-heading}
use Rattle.sheet_written.proofs.Places.{Within}
use Rattle.sheet_records.specs.declared.refusal.Reason.{Reason}
use Rattle.sheet_records.specs.declared.refusal.Reason.TheVariants.{SpaceTooShort, NoIdLeft}
use Rattle.sheet_records.specs.declared.refusal.Sheets.TheVariants.{Old, Both}

-- what was written and changed
record Made (S : Sheet) (a : Renumbering Written) (b : List ℕ) (cs : List Change) : Type 0 where
  term : Written
  ids : ℕ → Bool
  renumbers : a ≡ renumbered term cs ids
  bytes : encode_sheet (with_term S term) ≡ b

clash : {P : Type 0} (x : Cause) (b : List ℕ) (cs : List Change) → refused x ≡ done b cs → P
clash x b cs e = absurd (cc)

done-bytes : (b c : List ℕ) (cs ds : List Change) → done b cs ≡ done c ds → b ≡ c
done-bytes b c cs ds e = cc

done-list : (b c : List ℕ) (cs ds : List Change) → done b cs ≡ done c ds → cs ≡ ds
done-list b c cs ds e = cc

from-written : (S : Sheet) (a : Renumbering Written) (b : List ℕ) (cs : List Change) → written S a ≡ done b cs →
    Made S a b cs
unfolding written
from-written S (renumbered W ds then) b cs e =
    let B : List ℕ = encode_sheet (with_term S W) in
    record {
      term = W;
      ids = then;
      renumbers = ap (λ (x : List Change). renumbered W x then) (done-list B b ds cs e);
      bytes = done-bytes B b ds cs e;
    }
from-written S (none_left p) b cs e = clash (cause NoIdLeft Old p) b cs e

from-lengths : (S : Sheet) (t : Bool) (a : Renumbering Written) (b : List ℕ) (cs : List Change) →
    pick t (refused (cause SpaceTooShort Both 0)) (written S a) ≡ done b cs → Made S a b cs
from-lengths S true a b cs e = clash (cause SpaceTooShort Both 0) b cs e
from-lengths S false a b cs e = from-written S a b cs e

made : (s : List ℕ) (room space : ℕ) (b : List ℕ) (cs : List Change) (S : Sheet) (ty n : ℕ) →
    outcome s room space ≡ done b cs → read_earlier s ≡ accepted S ty n → Made S (renumber_sheet S) b cs
unfolding outcome checked
made s room space b cs S ty n o e =
    from-lengths S (ltb room (length s) || ltb space 1020) (renumber_sheet S) b cs
    (sym (ap (checked (length s) room space) e) ∙ o)

-- with enough lent
enough : (s : List ℕ) (room space : ℕ) (S : Sheet) (ty n : ℕ) → read_earlier s ≡ accepted S ty n → length s ≤ room →
    1020 ≤ space → outcome s room space ≡ written S (renumber_sheet S)
unfolding outcome checked
enough s room space S ty n e h g = rw (e, le-ltb room (length s) h, le-ltb space 1020 g) refl

-- the bytes of a sheet with another term as long
same_bytes : (S : Sheet) (W : Written) → width S.term ≡ width W →
    length (encode_sheet (with_term S W)) ≡ length (encode_sheet S)
unfolding encode_sheet with_term
same_bytes S W h =
    omega (
      arith,
      h,
      wide W,
      wide S.term,
      length-append (encode_names S.names) (encode W),
      length-append (encode_names S.names) (encode S.term),
    )

-- THEOREM: the sheet written
pub written-rule : WrittenRule
unfolding WrittenRule RenumberRule GivenRule with_term written
written-rule s room space b cs S ty n o e =
    let M : Made S (renumber_sheet S) b cs = made s room space b cs S ty n o e in
    let W : Written = M.term in
    let T : Sheet = with_term S W in
    let g = gives Earlier s S ty n e in
    let R : Renumbered S W cs = renumber-rule S W cs M.ids g.1.ordered M.renumbers in
    let l : length (encode_sheet T) ≡ length (encode_sheet S) = same_bytes S W R.same_width in
    let A : (ed : Edition) → fine.AcceptedUnder ed T = λ ed.
    record { ordered = R.accepted.accepted; short = omega (arith, l, g.1.short); apart = λ p. R.accepted.apart } in
    let t : type_of S ≡ type_of T = R.same_sheets.same_type in
    let k : (ed : Edition) → read_under ed (encode_sheet T) ≡ accepted T ty n = λ ed.
    accepts ed T (A ed) ∙ ap₂ (accepted T) (sym (g.2 ∙ t))
    (sym (g.3 ∙ ap (λ (x : ℕ). size (ty_of S.numbers x) (term_of S)) g.2 ∙ R.same_size)) in
    let h : (ed : Edition) → read_under ed b ≡ accepted T ty n = λ ed.
    subst (λ (x : List ℕ). read_under ed x ≡ accepted T ty n) M.bytes (k ed) in
    record {
      term = W;
      reads = h Present;
      renumbers = R;
      taken = M.ids;
      gives = given-rule S W cs M.ids M.renumbers;
      same_length = ap length (sym M.bytes) ∙ l ∙ ap length (sym g.0);
      fits = omega (arith, R.few, listed-length cs);
      again = λ room' space' i j. enough b room' space' T ty n (h Earlier) i j ∙ ap (written T) R.again
          ∙ ap (λ (x : List ℕ). done x []) M.bytes;
    }

-- THEOREM: only an accepted sheet
pub accepted-rule : AcceptedRule
unfolding AcceptedRule outcome checked
accepted-rule s room space b cs o = go (read_earlier s) refl
  where
    go : (c : Checks) → read_earlier s ≡ c → EarlierAccepted s
    go (accepted S ty n) e = record { sheet = S; type = ty; size = n; reads = e }
    go (rejected n p) e = clash (cause n Old p) b cs (sym (ap (checked (length s) room space) e) ∙ o)

-- THEOREM: a sheet with nothing to change
pub unaltered-service : UnalteredService
unfolding UnalteredService UnalteredRule written encode_sheet with_term
unaltered-service s room space S ty n e h l g =
    enough s room space S ty n e l g ∙ ap (written S) (unaltered-rule S h)
    ∙ ap (λ (x : List ℕ). done x []) (sym (gives Earlier s S ty n e).0)

-- THEOREM: the numbers of refusals
refused-number : (x y : Cause) → refused x ≡ refused y → x.reason ≡ y.reason
refused-number x y e = let f : x ≡ y = cc in ap (λ (z : Cause). z.reason) f

pub renumber-numbers : RenumberNumbers
unfolding RenumberNumbers RenumberNumber outcome checked written
renumber-numbers s room space x o = go (read_earlier s) refl
  where
    of : (S : Sheet) (t : Bool) (a : Renumbering Written) → pick t (refused (cause SpaceTooShort Both 0)) (written S a) ≡ refused x →
        RenumberNumber x.reason
    of S true a e = inr (inl (sym (refused-number (cause SpaceTooShort Both 0) x e)))
    of S false (none_left p) e = inr (inr (sym (refused-number (cause NoIdLeft Old p) x e)))
    of S false (renumbered W cs then) e = clash x (encode_sheet (with_term S W)) cs (sym e)

    go : (c : Checks) → read_earlier s ≡ c → RenumberNumber x.reason
    go (accepted S ty n) e =
        of S (ltb room (length s) || ltb space 1020) (renumber_sheet S) (sym (ap (checked (length s) room space) e) ∙ o)
    go (rejected n p) e =
        let z : n ≡ x.reason = refused-number (cause n Old p) x (sym (ap (checked (length s) room space) e) ∙ o) in
        inl (subst (λ (k : Reason). NumberOf Earlier k) z (check-refused Earlier s e).known)

-- and their places: within a sheet that may be read
refused-place : (x y : Cause) → refused x ≡ refused y → x.place ≡ y.place
refused-place x y e = let f : x ≡ y = cc in ap (λ (z : Cause). z.place) f

sheet-end : (S : Sheet) → length (encode_sheet S) ≡ heading_width S + width S.term
unfolding encode_sheet
sheet-end S =
    omega (arith, wide-heading S, wide S.term, length-append (encode_names S.names) (encode S.term))

pub renumber-places : (s : List ℕ) (room space : ℕ) (x : Cause) → outcome s room space ≡ refused x → x.place ≤ 4096
unfolding outcome checked written Within
renumber-places s room space x o = go (read_earlier s) refl
  where
    of : (S : Sheet) → fine.AcceptedUnder Earlier S → (t : Bool) (a : Renumbering Written) → renumber_sheet S ≡ a →
        pick t (refused (cause SpaceTooShort Both 0)) (written S a) ≡ refused x → x.place ≤ 4096
    of S A true a r e = omega (arith, refused-place (cause SpaceTooShort Both 0) x e)
    of S A false (none_left p) r e =
        let h : ℕ = heading_width S in
        let w : Within {X = Written} h (h + width S.term) (none_left p) =
        subst (λ (y : Renumbering Written). Within h (h + width S.term) y) r (within-sheet S A.ordered) in
        omega (arith, refused-place (cause NoIdLeft Old p) x e, w.1, sheet-end S, A.short)
    of S A false (renumbered W cs then) r e = clash x (encode_sheet (with_term S W)) cs (sym e)

    go : (c : Checks) → read_earlier s ≡ c → x.place ≤ 4096
    go (accepted S ty n) e =
        of S (gives Earlier s S ty n e).1 (ltb room (length s) || ltb space 1020) (renumber_sheet S) refl
        (sym (ap (checked (length s) room space) e) ∙ o)
    go (rejected n p) e =
        omega (
          arith,
          refused-place (cause n Old p) x (sym (ap (checked (length s) room space) e) ∙ o),
          (check-refused Earlier s e).within,
        )

-- the list written has bytes
module _ {s : List ℕ} {S : Sheet} {ty n : ℕ} {b : List ℕ} {cs : List Change} (e : read_earlier s ≡ accepted S ty n)
    (W : WellWritten s S ty n b cs) where
  pub listed-bytes : (i : ℕ) → get_or (listed cs) i 0 < 256
  listed-bytes =
      let R = W.renumbers in
      listed_small cs S.term (heading_width S) (heading_width S + width S.term) (taken_at_first S) W.taken
      (omega (arith, sheet-end S, (gives Earlier s S ty n e).1.short)) R.places R.olds W.gives

-- THEOREM: one answer
pub renumber-unique : RenumberUnique
unfolding RenumberUnique RenumberedBy
renumber-unique s out list r q out' out'' list' list'' P Q =
    one (outcome s (length out) (length list)) P Q
  where
    one : (o : Outcome) → RenumberedBy o r out out' list list' → RenumberedBy o q out out'' list list'' →
        (r ≡ q) × (out' ≡ out'') × (list' ≡ list'')
    one (done b cs) P Q = (P.0 ∙ sym Q.0, P.1 ∙ sym Q.1, P.2 ∙ sym Q.2)
    one (refused x) P Q = (P.0 ∙ sym Q.0, P.1 ∙ sym Q.1, P.2 ∙ sym Q.2)
