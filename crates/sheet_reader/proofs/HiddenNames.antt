-- The name records of a sheet that is in order by the earlier rule are read, and its term is refused where some binder
-- hides another.
use Prim.Native.Nat.{ℕ, zero, suc, ◌+◌, ◌≤◌, ◌<◌}
use native.Mathlib.Omega.{arith}
use native.Mathlib.Nat.{add-zero}
use mathlib.Core.Path.{◌≡◌, refl, sym, ap, ◌∙◌}
use mathlib.Core.List.{List, [], ◌∷◌, ◌++◌, append_assoc, append-nil}
use lib.ListN.{length, get_or, set, drop}
use lib.Dec.{eqb-suc-zero}
use borrow.Author.Tests.{lt-leb}
use Rattle.language.specs.declared.Numbers.{Numbers}
use Rattle.language.specs.Term.{Often, onces}
use Rattle.sheet_records.specs.Kind.{shape_of}
use Rattle.sheet_records.specs.Standing.{declared_standing}
use Rattle.sheet_records.specs.declared.edition.Edition.TheVariants.{Present}
use Rattle.sheet_written.specs.Written.{Written, Name, declare, retire}
use Rattle.sheet_written.specs.Fine.{depth, Fine, FineNames}
use Rattle.sheet_written.specs.Width.{name_width, names_width}
use Rattle.sheet_written.specs.Hiding.{Hiding, hiding}
use Rattle.sheet_reader.specs.Encoding.{encode, encode_name, encode_names}
use Rattle.sheet_reader.specs.Reader.{Answer, bind, on_judged, Whole, whole_of_shape, name_of, names_step, names_of}
use Rattle.sheet_reader.proofs.Parsed.{Byte}
use Rattle.sheet_reader.proofs.Standings.{Matches, matches-declare, matches-retire}
use Rattle.sheet_reader.proofs.Bytes.{byte-there, open-one}
use Rattle.sheet_reader.proofs.Judgement.{Fresh, Declaration, declare-is, retire-is}
use Rattle.sheet_reader.proofs.NameBytes.{Declared, declared-there, declared-good, declared-declares, declared-past}
use Rattle.sheet_reader.proofs.NameList.{Extends, extends-last, extends-declare, extends-retire, matches-same}
use Rattle.sheet_reader.proofs.NameList.{free-standing}
use Rattle.sheet_reader.proofs.CompleteNames.{declare-shape, kind-of}
use Rattle.sheet_reader.proofs.HidingBytes.{Hides, hides-as}
use Rattle.sheet_reader.proofs.HiddenBytes.{hidden-part}

module _ (N : Numbers) (s : List ℕ) (π : ℕ → ℕ) (names : List Name) (W : Written) (fine : Fine N names [] W)
    (shallow : depth W ≤ 32) where
  term-hides :
      (rec : List ℕ → ℕ → Answer Whole) (n : ℕ) (st : List ℕ) (at : ℕ) → Matches s names [] π st →
      drop at s ≡ encode W → Hides (hiding [] at W) (names_step Present rec n N s st at)
  unfolding names_step whole_of_shape bind
  term-hides rec n st at M e =
      let H = hidden-part N s names 32 W [] π st at [] fine shallow (e ∙ sym (append-nil (encode W))) M (omega arith) in
      let K = kind-of W in
      let b = byte-there s at K.kind K.tail (e ∙ K.bytes) in
      record { stops = λ h gs k. rw (lt-leb (length s) at b.0, b.1, K.shape, H.stops h gs k) refl }

  -- after a name record
  declare-hides :
      (rec : List ℕ → ℕ → Answer Whole) (n : ℕ) (st : List ℕ) (at : ℕ) (often : Often) (id ty : ℕ) (tys rest : List ℕ)
      {hs : List Hiding} → Declared s at often id ty tys rest → Declaration s st at →
      Hides hs (rec (set st id (declared_standing at (onces often))) (at + 1 + 7)) →
      Hides hs (names_step Present rec (suc n) N s st at)
  unfolding names_step whole_of_shape name_of on_judged bind
  declare-hides rec n st at often id ty tys rest D G H = record {
    stops = λ h gs k.
        rw (
          lt-leb (length s) at D.kind.0,
          D.kind.1,
          declare-shape often,
          eqb-suc-zero n,
          declare-is s st at G,
          D.id-byte.1,
          H.stops h gs k,
        ) refl;
  }

  retire-hides :
      (rec : List ℕ → ℕ → Answer Whole) (n : ℕ) (st : List ℕ) (at id : ℕ) {hs : List Hiding} → Byte s at 2 →
      Byte s (at + 1) id → id < 255 → get_or st id 0 ≡ 0 → Hides hs (rec (set st id 1) (at + 1 + 1)) →
      Hides hs (names_step Present rec (suc n) N s st at)
  unfolding names_step whole_of_shape shape_of name_of on_judged bind
  retire-hides rec n st at id b b' l f H =
      let F : Fresh s st (at + 1) = record { inside = b'.0; below = rw b'.1 l; free = rw b'.1 f } in
      record {
        stops = λ h gs k.
            rw (lt-leb (length s) at b.0, b.1, eqb-suc-zero n, retire-is s st at F, b'.1, H.stops h gs k) refl;
      }

  -- THEOREM: the rest of a sheet in whose term some binder hides another is refused at the first that does
  pub names-hide :
      (ns : List Name) (n : ℕ) (earlier : List Name) (st : List ℕ) (at : ℕ) → Matches s earlier [] π st →
      Extends names earlier ns → FineNames earlier ns → length ns ≤ n → drop at s ≡ encode_names ns ++ encode W →
      Hides (hiding [] (at + names_width ns) W) (names_of Present n N s st at)
  unfolding names_of FineNames encode_names encode_name names_width name_width
  names-hide [] zero earlier st at M E f l e =
      hides-as (ap (λ (i : ℕ). hiding [] i W) (add-zero at)) (term-hides _ 0 st at (matches-same (extends-last E) M) e)
  names-hide [] (suc n) earlier st at M E f l e =
      hides-as (ap (λ (i : ℕ). hiding [] i W) (add-zero at))
      (term-hides _ (suc n) st at (matches-same (extends-last E) M) e)
  names-hide (nm ∷ ns) zero earlier st at M E f l e = absurd (omega arith)
  names-hide (declare often id ty tys ∷ ns) (suc n) earlier st at M E f l e =
      let D = declared-there s at often id ty tys (encode_names ns ++ encode W)
      (e ∙ append_assoc (encode_name (declare often id ty tys)) (encode_names ns) (encode W)) in
      let G = declared-good s st at often id ty tys _ D f.0 (free-standing M id f.0 f.1) f.2 f.3
      f.4 in
      let w : at + (8 + names_width ns) ≡ at + 1 + 7 + names_width ns = omega arith in
      hides-as (ap (λ (i : ℕ). hiding [] i W) w)
      (declare-hides (names_of Present n N s) n st at often id ty tys _ D G
      (names-hide ns n (declare often id ty tys ∷ earlier) (set st id (declared_standing at (onces often)))
      (at + 1 + 7)
      (matches-declare often M f.0 (declared-declares s st at often id ty tys _ D f.2 f.3))
      (extends-declare often id ty tys ns f.1 E) f.5 (omega arith)
      (declared-past s st at often id ty tys _ D)))
  names-hide (retire id ∷ ns) (suc n) earlier st at M E f l e =
      let o = open-one s at 2 id (encode_names ns ++ encode W)
      (e ∙ append_assoc (encode_name (retire id)) (encode_names ns) (encode W)) in
      let w : at + (2 + names_width ns) ≡ at + 1 + 1 + names_width ns = omega arith in
      hides-as (ap (λ (i : ℕ). hiding [] i W) w)
      (retire-hides (names_of Present n N s) n st at id o.0 o.1 f.0 (free-standing M id f.0 f.1)
      (names-hide ns n (retire id ∷ earlier) (set st id 1) (at + 1 + 1) (matches-retire M f.0)
      (extends-retire id ns f.1 E) f.2 (omega arith) o.2))
