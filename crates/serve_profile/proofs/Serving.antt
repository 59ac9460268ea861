-- What the service answers.
use Rattle.std.specs.Prelude.{Err}
use Prim.Native.Nat.{ℕ, suc, ◌+◌, ◌≤◌, ◌<◌}
use native.Mathlib.Omega.{arith}
use mathlib.Core.Path.{◌≡◌, refl, sym, ap, ◌∙◌, subst}
use mathlib.Core.Logic.{◌⊎◌, inl, inr}
use mathlib.Core.List.{List, [], ◌∷◌}
use lib.ListN.{length-append}
use Rattle.sheet_records.specs.Refusal.{cause, old_sheet, not_quiet}
use Rattle.sheet_records.specs.declared.edition.Edition.TheVariants.{Present}
use Rattle.sheet_records.specs.declared.refusal.Cause.{Cause}
use Rattle.sheet_written.specs.Written.{Sheet}
use Rattle.sheet_written.specs.Width.{width, heading_width}
use Rattle.sheet_reader.specs.Encoding.{encode, encode_names, encode_sheet}
use Rattle.sheet_reader.specs.Reader.{Checks, accepted, rejected, read_sheet}
use Rattle.sheet_reader.proofs.Right.{gives}
use Rattle.sheet_judge.specs.Check.{answered, checked_of}
use Rattle.sheet_judge.specs.Mark.{uses_of}
use Rattle.sheet_judge.proofs.Places.{check-refused}
use Rattle.sheet_reader.proofs.Widths.{wide, wide-heading}
use Rattle.serve_profile.specs.Offence.{is_expression, offences, InProfile}
use Rattle.serve_profile.specs.Quiet.{QuietPlays}
use Rattle.serve_profile.specs.Places.{Rising, PlacesRise}
use Rattle.serve_profile.specs.Profile.{held_to, profiled_of}
use Rattle.sheet_judge.proofs.Judging.{answered-type, answered-size}
use Rattle.serve_profile.specs.Service.{Passed, PassedRule, AsCheck, Offended, RefusedRule, WellRefused, ProfileNumbers}
use Rattle.serve_profile.proofs.Resolving.{quiet-plays}
use Rattle.serve_profile.proofs.Places.{places-rise}

-- THEOREM: a sheet that profile accepts
pub passed-rule : PassedRule
unfolding PassedRule profiled_of checked_of held_to InProfile QuietPlays
passed-rule s ty size uses e = go (read_sheet s) refl e
  where
    go : (c : Checks) → read_sheet s ≡ c → profiled_of c ≡ answered ty size uses → Passed s ty size uses
    go (rejected n p) r h = cc
    go (accepted S ty' size') r h = held (offences S) refl h
      where
        held : (ps : List ℕ) → offences S ≡ ps → held_to ps (answered ty' size' (uses_of S)) ≡ answered ty size uses →
            Passed s ty size uses
        held (p ∷ ps) o h = cc
        held [] o h =
            let a = answered-type h in
            let b = answered-size h in
            let r' : read_sheet s ≡ accepted S ty size =
            r ∙ ap (λ (k : ℕ). accepted S k size') a ∙ ap (accepted S ty) b in
            let g = gives Present s S ty size r' in
            record {
              sheet = S;
              reads = r';
              as_check = ap checked_of r ∙ h;
              in_profile = o;
              quiet = λ x u p. quiet-plays S g.1.ordered (ap is_expression (sym g.2) ∙ x) o u p;
            }

-- THEOREM: as check
as_check : AsCheck
unfolding AsCheck profiled_of held_to InProfile
as_check s f = go (read_sheet s) refl
  where
    go : (c : Checks) → read_sheet s ≡ c → profiled_of c ≡ checked_of c
    go (rejected n p) r = refl
    go (accepted S ty size) r = ap (λ (ps : List ℕ). held_to ps (checked_of (accepted S ty size))) (f S ty size r)

-- THEOREM: a sheet that profile refuses
refused-rule : RefusedRule
unfolding RefusedRule profiled_of held_to
refused-rule s x e = go (read_sheet s) refl e
  where
    go : (c : Checks) → read_sheet s ≡ c → profiled_of c ≡ Err x →
        (checked_of (read_sheet s) ≡ Err x) ⊎ Offended s x
    go (rejected n p) r h = inl (ap checked_of r ∙ h)
    go (accepted S ty size) r h = held (offences S) refl h
      where
        held : (ps : List ℕ) → offences S ≡ ps → held_to ps (checked_of (accepted S ty size)) ≡ Err x →
            (checked_of (read_sheet s) ≡ Err x) ⊎ Offended s x
        held [] o h = inl (ap checked_of r ∙ h)
        held (p ∷ ps) o h =
            let f : cause not_quiet old_sheet p ≡ x = cc in
            inr (record {
              sheet = S;
              type = ty;
              size = size;
              reads = r;
              others = ps;
              first = o ∙ ap (λ (y : Cause). y.place ∷ ps) f;
              number = sym (ap (λ (y : Cause). y.reason) f);
              named = sym (ap (λ (y : Cause). y.sheet) f);
            })

-- places that rise lie below the end
rising-below : (ps : List ℕ) (low high : ℕ) → Rising low high ps → low ≤ high
unfolding Rising
rising-below [] low high r = r
rising-below (p ∷ ps) low high r = omega (arith, r.0, rising-below ps (suc p) high r.1)

first_below : (p : ℕ) (ps : List ℕ) (low high : ℕ) → Rising low high (p ∷ ps) → p < high
unfolding Rising
first_below p ps low high r = omega (arith, rising-below ps (suc p) high r.1)

-- a place of the term is one of the sheet
term-within : (s : List ℕ) (S : Sheet) (ty size : ℕ) → read_sheet s ≡ accepted S ty size →
    heading_width S + width S.term ≤ 4096
unfolding encode_sheet
term-within s S ty size r =
    let g = gives Present s S ty size r in
    omega (
      arith,
      g.1.short,
      wide-heading S,
      wide S.term,
      length-append (encode_names S.names) (encode S.term),
    )

-- THEOREM: the numbers and the places of profile's refusals
pub profile-numbers : ProfileNumbers
unfolding ProfileNumbers RefusedRule PlacesRise checked_of
profile-numbers s x e = told (refused-rule s x e)
  where
    checked : (c : Checks) → read_sheet s ≡ c → checked_of c ≡ Err x → WellRefused x
    checked (accepted S ty size) r h = let z : ◌≡◌ {A = ℕ} 0 1 = cc in absurd (omega arith)
    checked (rejected n p) r h =
        let f : cause n old_sheet p ≡ x = cc in
        let R = check-refused Present s r in
        subst WellRefused f (record { numbered = inl R.known; placed = R.within })

    told : (checked_of (read_sheet s) ≡ Err x) ⊎ Offended s x → WellRefused x
    told (inl h) = checked (read_sheet s) refl h
    told (inr O) = record {
      numbered = inr O.number;
      placed = omega (
        arith,
        term-within s O.sheet O.type O.size O.reads,
        first_below x.place O.others (heading_width O.sheet)
            (heading_width O.sheet + width O.sheet.term)
            (subst (λ (ps : List ℕ). Rising (heading_width O.sheet)
            (heading_width O.sheet + width O.sheet.term) ps) O.first (places-rise O.sheet)),
      );
    }
