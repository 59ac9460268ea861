-- The name records and the term of a sheet that is in order are read.
use Prim.Native.Nat.{ℕ, zero, suc, ◌+◌, ◌≤◌, ◌<◌}
use native.Mathlib.Omega.{arith}
use mathlib.Core.Path.{◌≡◌, refl, sym, ap, ◌∙◌}
use mathlib.Core.List.{List, [], ◌∷◌, ◌++◌, append_assoc, append-nil}
use lib.ListN.{length, get_or, set, drop, length-append}
use lib.Dec.{eqb-suc-zero}
use borrow.Author.Tests.{lt-leb}
use Rattle.language.specs.declared.Numbers.{Numbers}
use Rattle.language.specs.Term.{Often, freely, once, onces}
use Rattle.sheet_records.specs.Kind.{shape_of}
use Rattle.sheet_records.specs.Standing.{declared_standing}
use Rattle.sheet_records.specs.declared.edition.Edition.{Edition}
use Rattle.sheet_records.specs.declared.edition.Edition.TheVariants.{Present}
use Rattle.sheet_records.specs.declared.kind.Rule.{Rule}
use Rattle.sheet_records.specs.declared.kind.Rule.TheVariants.{Skip, Diverge, Truth, Number, Use, Fetch, Operate, Assign}
use Rattle.sheet_records.specs.declared.kind.Rule.TheVariants.{Sequence, If, While, New, Procedure}
use Rattle.sheet_records.specs.declared.kind.Shape.TheVariants.{Part, Declare}
use Rattle.sheet_written.specs.Written.{Written, skip, diverge, truth, number, call, fetch, operate, assign, sequence}
use Rattle.sheet_written.specs.Written.{while, choose, new, procedure, Name, declare, retire}
use Rattle.sheet_written.specs.Meaning.{typed}
use Rattle.sheet_written.specs.Fine.{depth, Fine, FineNames}
use Rattle.sheet_written.specs.Hiding.{Apart}
use Rattle.sheet_reader.specs.Encoding.{encode, padded, declare_kind, encode_name, encode_names}
use Rattle.sheet_reader.specs.Heading.{retire_at}
use Rattle.sheet_reader.specs.Reader.{Tree, Answer, got, bind, on_judged, Whole, whole, with_name, whole_of_shape, name_of}
use Rattle.sheet_reader.specs.Reader.{names_step, names_of, written}
use Rattle.sheet_reader.proofs.Parsed.{Byte}
use Rattle.sheet_reader.proofs.Standings.{Matches, matches-declare, matches-retire}
use Rattle.sheet_reader.proofs.Bytes.{byte-there, open-one}
use Rattle.sheet_reader.proofs.Complete.{complete-part}
use Rattle.sheet_reader.proofs.Judgement.{Fresh, Declaration, declare-is, retire-is}
use Rattle.sheet_reader.proofs.Padding.{padded-length}
use Rattle.sheet_reader.proofs.NameBytes.{Declared, declared-there, declared-good, declared-declares, declared-is}
use Rattle.sheet_reader.proofs.NameBytes.{declared-past}
use Rattle.sheet_reader.proofs.NameList.{Extends, extends-last, extends-declare, extends-retire, matches-same}
use Rattle.sheet_reader.proofs.NameList.{free-standing}

-- the kind byte of a term is a part's, and so none of a name record's
pub record Kind (W : Written) : Type 0 where
  pub kind : ℕ
  pub tail : List ℕ
  pub body : ℕ
  pub parts : ℕ
  pub rule : Rule
  pub bytes : encode W ≡ kind ∷ tail
  pub shape : shape_of kind ≡ Part body parts rule
  pub high : 2 < kind

pub kind-of : (W : Written) → Kind W
unfolding encode shape_of
kind-of skip =
    record { kind = 16; tail = _; body = 0; parts = 0; rule = Skip; bytes = refl; shape = refl; high = omega arith }
kind-of (diverge ty) =
    record { kind = 17; tail = _; body = 1; parts = 0; rule = Diverge; bytes = refl; shape = refl; high = omega arith }
kind-of (truth b) =
    record { kind = 18; tail = _; body = 1; parts = 0; rule = Truth; bytes = refl; shape = refl; high = omega arith }
kind-of (number b) =
    record { kind = 19; tail = _; body = 1; parts = 0; rule = Number; bytes = refl; shape = refl; high = omega arith }
kind-of (call id ws) =
    record { kind = 20; tail = _; body = 1; parts = 0; rule = Use; bytes = refl; shape = refl; high = omega arith }
kind-of (fetch v) =
    record { kind = 21; tail = _; body = 0; parts = 1; rule = Fetch; bytes = refl; shape = refl; high = omega arith }
kind-of (operate op l r) =
    record { kind = 22; tail = _; body = 1; parts = 2; rule = Operate; bytes = refl; shape = refl; high = omega arith }
kind-of (assign v e) =
    record { kind = 23; tail = _; body = 0; parts = 2; rule = Assign; bytes = refl; shape = refl; high = omega arith }
kind-of (sequence c m) =
    record { kind = 24; tail = _; body = 0; parts = 2; rule = Sequence; bytes = refl; shape = refl; high = omega arith }
kind-of (choose b m n) =
    record { kind = 25; tail = _; body = 0; parts = 3; rule = If; bytes = refl; shape = refl; high = omega arith }
kind-of (while b c) =
    record { kind = 26; tail = _; body = 0; parts = 2; rule = While; bytes = refl; shape = refl; high = omega arith }
kind-of (new id d c) =
    record { kind = 27; tail = _; body = 2; parts = 1; rule = New; bytes = refl; shape = refl; high = omega arith }
kind-of (procedure id ty ps x y) =
    record { kind = 28; tail = _; body = 11; parts = 2; rule = Procedure; bytes = refl; shape = refl; high = omega arith }

-- the shape of a declare record
pub declare-shape : (often : Often) → shape_of (declare_kind often) ≡ Declare 7 (onces often)
unfolding shape_of declare_kind onces
declare-shape freely = refl
declare-shape once = refl

-- the rest of a sheet that is read: the name records ns, then the term W
pub record RestRead (s : List ℕ) (A : Answer Whole) (ns : List Name) (W : Written) (ty end : ℕ) : Type 0 where
  pub root : ℕ
  pub tree : Tree
  pub reads : A ≡ got (whole ns root tree) ty end
  pub writes : written s tree ≡ W

module _ (ed : Edition) (N : Numbers) (s : List ℕ) (π : ℕ → ℕ) (names : List Name) (W : Written)
    (fine : Fine N names [] W) (apart : ed ≡ Present → Apart [] W)
    (shallow : depth W ≤ 32) where
  abbrev Rest : List Name → Answer Whole → ℕ → Type 0
  Rest ns A at = RestRead s A ns W (typed names [] W) (at + length (encode_names ns ++ encode W))

  complete-term :
      (rec : List ℕ → ℕ → Answer Whole) (n : ℕ) (st : List ℕ) (at : ℕ) → Matches s names [] π st → drop at s ≡ encode W
      →
      Rest [] (names_step ed rec n N s st at) at
  unfolding names_step whole_of_shape bind encode_names
  complete-term rec n st at M e =
      let R =
      complete-part ed N s names 32 W [] π st at [] fine apart shallow (e ∙ sym (append-nil (encode W))) M (omega arith) in
      let K = kind-of W in
      let b = byte-there s at K.kind K.tail (e ∙ K.bytes) in
      record {
        root = at;
        tree = R.tree;
        reads = rw (lt-leb (length s) at b.0, b.1, K.shape, R.reads) refl;
        writes = R.writes;
      }

  -- the rest after a name record
  complete-declare :
      (rec : List ℕ → ℕ → Answer Whole) (n : ℕ) (st : List ℕ) (at : ℕ) (often : Often) (id ty : ℕ) (tys : List ℕ)
      (ns : List Name) → Declared s at often id ty tys (encode_names ns ++ encode W) → Declaration s st at →
      length tys < 5 → Rest ns (rec (set st id (declared_standing at (onces often))) (at + 1 + 7)) (at + 1 + 7) →
      Rest (declare often id ty tys ∷ ns) (names_step ed rec (suc n) N s st at) at
  unfolding names_step whole_of_shape name_of on_judged bind with_name encode_names encode_name
  complete-declare rec n st at often id ty tys ns D G c R =
      let ty' = typed names [] W in
      let e : at + 1 + 7 + length (encode_names ns ++ encode W)
      ≡ at + length ((encode_name (declare often id ty tys) ++ encode_names ns) ++ encode W) =
      omega (
        arith,
        ap length (append_assoc (padded 4 tys) (encode_names ns) (encode W)),
        length-append (padded 4 tys) (encode_names ns ++ encode W),
        padded-length 4 tys,
      ) in
      record {
        root = R.root;
        tree = R.tree;
        writes = R.writes;
        reads =
            rw (
              lt-leb (length s) at D.kind.0,
              D.kind.1,
              declare-shape often,
              eqb-suc-zero n,
              declare-is s st at G,
              D.id-byte.1,
              declared-is s st at often id ty tys _ D c,
              R.reads,
            )
            (ap (λ (x : ℕ). got (whole (declare often id ty tys ∷ ns) R.root R.tree) ty' x) e);
      }

  complete-retire :
      (rec : List ℕ → ℕ → Answer Whole) (n : ℕ) (st : List ℕ) (at id : ℕ) (ns : List Name) →
      Byte s at 2 → Byte s (at + 1) id → id < 255 → get_or st id 0 ≡ 0 →
      Rest ns (rec (set st id 1) (at + 1 + 1)) (at + 1 + 1) →
      Rest (retire id ∷ ns) (names_step ed rec (suc n) N s st at) at
  unfolding names_step whole_of_shape shape_of name_of on_judged bind with_name encode_names encode_name retire_at
  complete-retire rec n st at id ns b b' l f R =
      let ty' = typed names [] W in
      let e : at + 1 + 1 + length (encode_names ns ++ encode W)
      ≡ at + length ((encode_name (retire id) ++ encode_names ns) ++ encode W) = omega arith in
      let F : Fresh s st (at + 1) = record { inside = b'.0; below = rw b'.1 l; free = rw b'.1 f } in
      record {
        root = R.root;
        tree = R.tree;
        writes = R.writes;
        reads = rw (lt-leb (length s) at b.0, b.1, eqb-suc-zero n, retire-is s st at F, b'.1, R.reads)
            (ap (λ (x : ℕ). got (whole (retire id ∷ ns) R.root R.tree) ty' x) e);
      }

  -- THEOREM: the rest of a sheet that is in order is read
  pub complete-names :
      (ns : List Name) (n : ℕ) (earlier : List Name) (st : List ℕ) (at : ℕ) → Matches s earlier [] π st →
      Extends names earlier ns → FineNames earlier ns → length ns ≤ n → drop at s ≡ encode_names ns ++ encode W →
      Rest ns (names_of ed n N s st at) at
  unfolding names_of FineNames encode_names encode_name
  complete-names [] zero earlier st at M E f l e = complete-term _ 0 st at (matches-same (extends-last E) M) e
  complete-names [] (suc n) earlier st at M E f l e =
      complete-term _ (suc n) st at (matches-same (extends-last E) M) e
  complete-names (nm ∷ ns) zero earlier st at M E f l e = absurd (omega arith)
  complete-names (declare often id ty tys ∷ ns) (suc n) earlier st at M E f l e =
      let D = declared-there s at often id ty tys (encode_names ns ++ encode W)
      (e ∙ append_assoc (encode_name (declare often id ty tys)) (encode_names ns) (encode W)) in
      let G = declared-good s st at often id ty tys _ D f.0 (free-standing M id f.0 f.1) f.2 f.3
      f.4 in
      complete-declare (names_of ed n N s) n st at often id ty tys ns D G f.3
      (complete-names ns n (declare often id ty tys ∷ earlier) (set st id (declared_standing at (onces often)))
      (at + 1 + 7)
      (matches-declare often M f.0 (declared-declares s st at often id ty tys _ D f.2 f.3))
      (extends-declare often id ty tys ns f.1 E) f.5 (omega arith)
      (declared-past s st at often id ty tys _ D))
  complete-names (retire id ∷ ns) (suc n) earlier st at M E f l e =
      let o = open-one s at 2 id (encode_names ns ++ encode W)
      (e ∙ append_assoc (encode_name (retire id)) (encode_names ns) (encode W)) in
      complete-retire (names_of ed n N s) n st at id ns o.0 o.1 f.0 (free-standing M id f.0 f.1)
      (complete-names ns n (retire id ∷ earlier) (set st id 1) (at + 1 + 1) (matches-retire M f.0)
      (extends-retire id ns f.1 E) f.2 (omega arith) o.2)
