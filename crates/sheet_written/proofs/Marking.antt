-- The mark of a sheet: its bits by uses, how many are set, and the first record that is wanting.
use Prim.Native.Nat.{ℕ, zero, suc, ◌+◌, ◌-◌, ◌*◌, ◌/◌, ◌%◌, ◌^◌, ◌≤◌, ◌<◌, min}
use native.Mathlib.Omega.{arith}
use native.Mathlib.Nat.{pow-suc}
use mathlib.Core.Path.{◌≡◌, refl, sym, ap, ap₂, ◌∙◌, subst}
use mathlib.Core.Logic.{◌⊎◌, inl, inr}
use mathlib.Core.Bool.{Bool, true, false, ◌||◌, ◌&&◌, not, false≢true}
use mathlib.Core.List.{List, [], ◌∷◌}
use mathlib.Core.Option.{Option, none as nothing, some}
use borrow.Author.Tests.{eqb-true, eq-eqb}
use lib.Dec.{eqb}
use lib.ListN.{length}
use lib.Bits.{bit_and, and_step, and_zero_r}
use lib.Count.{ones, ones_step, count_trailing_zeros, trailing_of_zero, under}
use lib.Pow.{pow_pos, shr-shr}
use Rattle.language.specs.Choice.{pick}
use Rattle.language.specs.Term.{Often}
use Rattle.sheet_written.specs.Written.{Written, skip, diverge, truth, number, call, fetch, operate, assign}
use Rattle.sheet_written.specs.Written.{sequence, while, choose, new, procedure, Writtens, none, more}
use Rattle.sheet_written.specs.Written.{Name, declare, retire, Sheet}
use Rattle.sheet_written.specs.Meaning.{Binder, Meaning, private, argument, routine, named, retired, free}
use Rattle.sheet_written.specs.Meaning.{a_block, meaning, inside, after}
use Rattle.sheet_written.specs.Uses.{is_name, uses, some_uses, is_declared, is_used, bit, bits, count, first_from, mark_of}
use Rattle.sheet_written.specs.Uses.{UseIn, here, in_argument, in-fetch, in_left, in_right, in_target, in_value}
use Rattle.sheet_written.specs.Uses.{in_first, in_second, in_test, in_then, in_else, in_guard, in_loop, in_block}
use Rattle.sheet_written.specs.Uses.{in_procedure, in_scope, UseAmong, among_first, among_rest, Touched, record_at}
use Rattle.sheet_written.specs.Uses.{UsedRecord, DeclaredRecord, Unset, FirstUnset, MarkRule, used_of, unused_of}

or-either : {P : Type 0} (a b : Bool) → (a ≡ true → P) → (b ≡ true → P) → (a || b) ≡ true → P
or-either true b f g e = f refl
or-either false b f g e = g e

or_left : (a b : Bool) → a ≡ true → (a || b) ≡ true
or_left a b e = rw e refl

or_right : (a b : Bool) → b ≡ true → (a || b) ≡ true
or_right true b e = refl
or_right false b e = e

and_first : (a b : Bool) → (a && b) ≡ true → a ≡ true
and_first true b e = refl
and_first false b e = absurd (false≢true e)

and_second : (a b : Bool) → (a && b) ≡ true → b ≡ true
and_second true b e = e
and_second false b e = absurd (false≢true e)

-- a use of the id k that means a name, in a term and among arguments
module _ (ns : List Name) (k : ℕ) where
  record Found (P : List Binder → Type 0) : Type 0 where
    around : List Binder
    found_in : P around
    name : is_name (meaning ns around k) ≡ true

  found_at : {P Q : List Binder → Type 0} → ((cs : List Binder) → P cs → Q cs) → Found P → Found Q
  found_at f F = record { around = F.around; found_in = f F.around F.found_in; name = F.name }

  mutual
    unfolding uses some_uses

    found : (bs : List Binder) (W : Written) → uses ns k bs W ≡ true → Found (λ cs. UseIn bs W cs k)
    found bs skip e = absurd (false≢true e)
    found bs (diverge ty) e = absurd (false≢true e)
    found bs (truth b) e = absurd (false≢true e)
    found bs (number b) e = absurd (false≢true e)
    found bs (call id ws) e = or-either (eqb id k && is_name (meaning ns bs id)) (some_uses ns k bs ws)
        (λ h.
        let i : id ≡ k = eqb-true id k (and_first (eqb id k) (is_name (meaning ns bs id)) h) in
        record {
          around = bs;
          found_in = subst (λ j. UseIn bs (call id ws) bs j) i here;
          name = subst (λ j. is_name (meaning ns bs j) ≡ true) i
              (and_second (eqb id k) (is_name (meaning ns bs id)) h);
        })
        (λ h. found_at (λ cs u. in_argument u) (found_among bs ws h)) e
    found bs (fetch v) e = found_at (λ cs u. in-fetch u) (found bs v e)
    found bs (operate op x y) e = or-either (uses ns k bs x) (uses ns k bs y)
        (λ h. found_at (λ cs u. in_left u) (found bs x h)) (λ h. found_at (λ cs u. in_right u) (found bs y h)) e
    found bs (assign x y) e = or-either (uses ns k bs x) (uses ns k bs y)
        (λ h. found_at (λ cs u. in_target u) (found bs x h)) (λ h. found_at (λ cs u. in_value u) (found bs y h)) e
    found bs (sequence x y) e = or-either (uses ns k bs x) (uses ns k bs y)
        (λ h. found_at (λ cs u. in_first u) (found bs x h)) (λ h. found_at (λ cs u. in_second u) (found bs y h)) e
    found bs (choose b x y) e = or-either (uses ns k bs b) (uses ns k bs x || uses ns k bs y)
        (λ h. found_at (λ cs u. in_test u) (found bs b h))
        (λ h. or-either (uses ns k bs x) (uses ns k bs y)
        (λ g. found_at (λ cs u. in_then u) (found bs x g)) (λ g. found_at (λ cs u. in_else u) (found bs y g)) h) e
    found bs (while x y) e = or-either (uses ns k bs x) (uses ns k bs y)
        (λ h. found_at (λ cs u. in_guard u) (found bs x h)) (λ h. found_at (λ cs u. in_loop u) (found bs y h)) e
    found bs (new id d c) e = found_at (λ cs u. in_block u) (found (a_block id d ∷ bs) c e)
    found bs (procedure id ty ps x y) e = or-either (uses ns k (inside ps bs) x) (uses ns k (after id ty ps bs) y)
        (λ h. found_at (λ cs u. in_procedure u) (found (inside ps bs) x h))
        (λ h. found_at (λ cs u. in_scope u) (found (after id ty ps bs) y h)) e

    found_among : (bs : List Binder) (ws : Writtens) → some_uses ns k bs ws ≡ true → Found (λ cs. UseAmong bs ws cs k)
    found_among bs none e = absurd (false≢true e)
    found_among bs (more w ws) e = or-either (uses ns k bs w) (some_uses ns k bs ws)
        (λ h. found_at (λ cs u. among_first u) (found bs w h)) (λ h. found_at (λ cs u. among_rest u) (found_among bs ws h)) e

module _ (ns : List Name) where
  mutual
    unfolding uses some_uses

    touches : {bs cs : List Binder} {k : ℕ} {W : Written} → UseIn bs W cs k → is_name (meaning ns cs k) ≡ true →
        uses ns k bs W ≡ true
    touches {bs} {k = k} (here {ws = ws}) n =
        or_left (eqb k k && is_name (meaning ns bs k)) (some_uses ns k bs ws) (rw (eq-eqb k k refl) n)
    touches {bs} {k = k} (in_argument {id = id} u) n =
        or_right (eqb id k && is_name (meaning ns bs id)) _ (touches-among u n)
    touches (in-fetch u) n = touches u n
    touches (in_left u) n = or_left _ _ (touches u n)
    touches {bs} {k = k} (in_right {x = x} u) n = or_right (uses ns k bs x) _ (touches u n)
    touches (in_target u) n = or_left _ _ (touches u n)
    touches {bs} {k = k} (in_value {x = x} u) n = or_right (uses ns k bs x) _ (touches u n)
    touches (in_first u) n = or_left _ _ (touches u n)
    touches {bs} {k = k} (in_second {x = x} u) n = or_right (uses ns k bs x) _ (touches u n)
    touches (in_test u) n = or_left _ _ (touches u n)
    touches {bs} {k = k} (in_then {b = b} {y = y} u) n =
        or_right (uses ns k bs b) _ (or_left _ (uses ns k bs y) (touches u n))
    touches {bs} {k = k} (in_else {b = b} {x = x} u) n =
        or_right (uses ns k bs b) _ (or_right (uses ns k bs x) _ (touches u n))
    touches (in_guard u) n = or_left _ _ (touches u n)
    touches {bs} {k = k} (in_loop {x = x} u) n = or_right (uses ns k bs x) _ (touches u n)
    touches (in_block u) n = touches u n
    touches (in_procedure u) n = or_left _ _ (touches u n)
    touches {bs} {k = k} (in_scope {ps = ps} {x = x} u) n = or_right (uses ns k (inside ps bs) x) _ (touches u n)

    touches-among : {bs cs : List Binder} {k : ℕ} {ws : Writtens} → UseAmong bs ws cs k → is_name (meaning ns cs k) ≡ true →
        some_uses ns k bs ws ≡ true
    touches-among (among_first u) n = or_left _ _ (touches u n)
    touches-among {bs} {k = k} (among_rest {w = w} u) n = or_right (uses ns k bs w) _ (touches-among u n)

-- what is a name has its types
record Typed (m : Meaning) : Type 0 where
  often : Often
  result : ℕ
  arguments : List ℕ
  means : m ≡ named often result arguments

name_typed : (m : Meaning) → is_name m ≡ true → Typed m
unfolding is_name
name_typed (private k d) e = absurd (false≢true e)
name_typed (argument k ty) e = absurd (false≢true e)
name_typed (routine k ty tys) e = absurd (false≢true e)
name_typed (named often ty tys) e = record { often = often; result = ty; arguments = tys; means = refl }
name_typed retired e = absurd (false≢true e)
name_typed free e = absurd (false≢true e)

touched : (S : Sheet) (id : ℕ) → uses S.names id [] S.term ≡ true → Touched S id
touched S id e =
    let F = found S.names id [] S.term e in
    let T = name_typed (meaning S.names F.around id) F.name in
    record {
      binders = F.around;
      found = F.found_in;
      often = T.often;
      type = T.result;
      types = T.arguments;
      means = T.means;
    }

touches-name : (S : Sheet) (id : ℕ) → Touched S id → uses S.names id [] S.term ≡ true
unfolding is_name
touches-name S id T = touches S.names T.found (rw T.means refl)

-- a bit, and the bits after it
bit-odd : (b : Bool) (m : ℕ) → (bit b + 2 * m) % 2 ≡ bit b
unfolding bit
bit-odd true m = omega arith
bit-odd false m = omega arith

bit-half : (b : Bool) (m : ℕ) → (bit b + 2 * m) / 2 ≡ m
unfolding bit
bit-half true m = omega arith
bit-half false m = omega arith

bit-set : (b : Bool) → bit b ≡ 1 → b ≡ true
unfolding bit
bit-set true e = refl
bit-set false e = absurd (omega arith)

-- the bits further on
one_more : (i : ℕ) → suc i ≡ 1 + i
one_more i = omega arith

bits-next : (f : Name → Bool) (n : Name) (ns : List Name) (i : ℕ) →
    (bits f (n ∷ ns) / 2 ^ suc i) % 2 ≡ (bits f ns / 2 ^ i) % 2
unfolding bits
bits-next f n ns i =
    ap (λ k. k % 2)
    (ap (λ k. bits f (n ∷ ns) / 2 ^ k) (one_more i) ∙ (sym (shr-shr (bits f (n ∷ ns)) 1 i)
    ∙ ap (λ k. k / 2 ^ i) (bit-half (f n) (bits f ns))))

-- bit i is that of record i
lowest-bit : (n : ℕ) → (n / 2 ^ 0) % 2 ≡ n % 2
lowest-bit n = omega arith

no_bits : (i : ℕ) → (0 / 2 ^ i) % 2 ≡ 1 → ⊥
no_bits zero e = omega arith
no_bits (suc i) e = no_bits i (ap (λ k. k % 2) (shr-shr 0 1 i ∙ ap (λ k. 0 / 2 ^ k) (sym (one_more i))) ∙ e)

bits-mark : (S : Sheet) (ns : List Name) (i : ℕ) → (bits (is_used S) ns / 2 ^ i) % 2 ≡ 1 → UsedRecord S (record_at i ns)
unfolding bits record_at is_used UsedRecord
bits-mark S [] i e = no_bits i e
bits-mark S (declare often id ty tys ∷ ns) zero e =
    touched S id (bit-set _ (sym (lowest-bit (bits (is_used S) (declare often id ty tys ∷ ns))
    ∙ bit-odd _ (bits (is_used S) ns)) ∙ e))
bits-mark S (retire id ∷ ns) zero e =
    false≢true (bit-set _ (sym (lowest-bit (bits (is_used S) (retire id ∷ ns)) ∙ bit-odd false (bits (is_used S) ns)) ∙ e))
bits-mark S (n ∷ ns) (suc i) e = bits-mark S ns i (sym (bits-next (is_used S) n ns i) ∙ e)

mark_bits : (S : Sheet) (ns : List Name) (i : ℕ) → UsedRecord S (record_at i ns) → (bits (is_used S) ns / 2 ^ i) % 2 ≡ 1
unfolding bits record_at is_used UsedRecord bit
mark_bits S [] i u = absurd u
mark_bits S (declare often id ty tys ∷ ns) zero u =
    lowest-bit (bits (is_used S) (declare often id ty tys ∷ ns))
    ∙ (bit-odd (is_used S (declare often id ty tys)) (bits (is_used S) ns) ∙ ap bit (touches-name S id u))
mark_bits S (retire id ∷ ns) zero u = absurd u
mark_bits S (n ∷ ns) (suc i) u = bits-next (is_used S) n ns i ∙ mark_bits S ns i u

-- so many bits are set
pub bits-ones : (f : Name → Bool) (ns : List Name) → ones (bits f ns) ≡ count f ns
unfolding bits count ones
bits-ones f [] = refl
bits-ones f (n ∷ ns) =
    ones_step (bits f (n ∷ ns))
    ∙ ap₂ (λ x y. x + ones y) (bit-odd (f n) (bits f ns)) (bit-half (f n) (bits f ns))
    ∙ ap (λ x. bit (f n) + x) (bits-ones f ns)

-- the bit of a record
bit_at : (f : Name → Bool) (ns : List Name) (i : ℕ) (m : Name) → record_at i ns ≡ some m →
    (bits f ns / 2 ^ i) % 2 ≡ bit (f m)
unfolding record_at bits
bit_at f [] i m e = let z : ◌≡◌ {A = ℕ} 0 1 = cc in absurd (omega arith)
bit_at f (n ∷ ns) zero m e =
    let k : n ≡ m = cc e in
    lowest-bit (bits f (n ∷ ns)) ∙ bit-odd (f n) (bits f ns) ∙ ap (λ (x : Name). bit (f x)) k
bit_at f (n ∷ ns) (suc i) m e = bits-next f n ns i ∙ bit_at f ns i m e

-- the record with number n, of those that begin with number i, is among these
record Hit (f : Name → Bool) (ns : List Name) (i n : ℕ) : Type 0 where
  index : ℕ
  name : Name
  numbered : n ≡ i + index
  there : record_at index ns ≡ some name
  among : f name ≡ true

record First (f : Name → Bool) (ns : List Name) (i n : ℕ) : Type 0 where
  before : (k : ℕ) (m : Name) → i + k < n → record_at k ns ≡ some m → f m ≡ true → ⊥
  here-or : (n ≡ 32) ⊎ Hit f ns i n

first-among : (f : Name → Bool) (ns : List Name) (i : ℕ) → First f ns i (first_from i f ns)
unfolding first_from record_at
first-among f [] i = record {
  before = λ k m l e h. let z : ◌≡◌ {A = ℕ} 0 1 = cc e in absurd (omega arith);
  here-or = inl refl;
}
first-among f (n ∷ ns) i = go (f n) refl (first-among f ns (suc i))
  where
    go : (t : Bool) → f n ≡ t → First f ns (suc i) (first_from (suc i) f ns) →
        First f (n ∷ ns) i (pick t i (first_from (suc i) f ns))
    go true t R = record {
      before = λ k m l e h. absurd (omega (arith, l));
      here-or = inr (record { index = 0; name = n; numbered = omega arith; there = refl; among = t });
    }
    go false t R = record { before = earlier; here-or = further R.here-or }
      where
        earlier : (k : ℕ) (m : Name) → i + k < first_from (suc i) f ns → record_at k (n ∷ ns) ≡ some m → f m ≡ true → ⊥
        earlier zero m l e h =
            let k : n ≡ m = cc e in
            false≢true (sym t ∙ ap f k ∙ h)
        earlier (suc k) m l e h = R.before k m (omega arith) e h

        further : (first_from (suc i) f ns ≡ 32) ⊎ Hit f ns (suc i) (first_from (suc i) f ns) →
            (first_from (suc i) f ns ≡ 32) ⊎ Hit f (n ∷ ns) i (first_from (suc i) f ns)
        further (inl e) = inl e
        further (inr H) = inr (record {
          index = suc H.index;
          name = H.name;
          numbered = omega (arith, H.numbered);
          there = H.there;
          among = H.among;
        })

-- a declared record without its bit is one that is declared and not used
module _ (S : Sheet) where
  abbrev lacks : Name → Bool
  lacks n = is_declared n && not (is_used S n)

  bit-clear : (b : Bool) → bit b ≡ 0 → not b ≡ true
  unfolding bit
  bit-clear true e = absurd (omega arith)
  bit-clear false e = refl

  clear-bit : (b : Bool) → not b ≡ true → bit b ≡ 0
  unfolding bit
  clear-bit true e = absurd (false≢true e)
  clear-bit false e = refl

  unset-lacks : (i : ℕ) (n : Name) → record_at i S.names ≡ some n → Unset S i → lacks n ≡ true
  unfolding Unset DeclaredRecord is_declared mark_of
  unset-lacks i (declare often id ty tys) e u =
      bit-clear _ (sym (bit_at (is_used S) S.names i (declare often id ty tys) e) ∙ u.1)
  unset-lacks i (retire id) e u = absurd (rw e at u.0)

  lacks-unset : (i : ℕ) (n : Name) → record_at i S.names ≡ some n → lacks n ≡ true → Unset S i
  unfolding Unset DeclaredRecord is_declared mark_of
  lacks-unset i (declare often id ty tys) e h =
      (rw e tt, bit_at (is_used S) S.names i (declare often id ty tys) e ∙ clear-bit _ h)
  lacks-unset i (retire id) e h = absurd (false≢true h)

  unset-record : (i : ℕ) → ((n : Name) → record_at i S.names ≡ some n → ⊥) → Unset S i → ⊥
  unfolding Unset DeclaredRecord
  unset-record i f u = go (record_at i S.names) refl u.0
    where
      go : (o : Option Name) → record_at i S.names ≡ o → DeclaredRecord o → ⊥
      go nothing e d = d
      go (some n) e d = f n e

  first-unset : FirstUnset S (unused_of S)
  unfolding unused_of
  first-unset =
      let F = first-among lacks S.names 0 in
      record {
        first = λ i l u. unset-record i (λ n e. F.before i n (omega (arith, l)) e (unset-lacks i n e u)) u;
        unset = here-or-32 F.here-or;
      }
    where
      here-or-32 : (first_from 0 lacks S.names ≡ 32) ⊎ Hit lacks S.names 0 (first_from 0 lacks S.names) →
          (first_from 0 lacks S.names ≡ 32) ⊎ Unset S (first_from 0 lacks S.names)
      here-or-32 (inl e) = inl e
      here-or-32 (inr H) =
          let e : H.index ≡ first_from 0 lacks S.names = omega (arith, H.numbered) in
          inr (subst (λ (x : ℕ). Unset S x) e (lacks-unset H.index H.name H.there H.among))

-- THEOREM: a bit of the mark is set exactly if some use in the sheet means the name of its record, so many are set, and
-- the first that is not set is the one given
pub mark-rule : (S : Sheet) → MarkRule S
unfolding mark_of used_of
mark-rule S = record {
  set = λ i. (bits-mark S S.names i, mark_bits S S.names i);
  counted = sym (bits-ones (is_used S) S.names);
  unused = first-unset S;
}

-- as many bits as records
bits_below : (f : Name → Bool) (ns : List Name) (k : ℕ) → length ns ≤ k → bits f ns < 2 ^ k
unfolding bits bit
bits_below f [] k h = pow_pos k
bits_below f (n ∷ ns) zero h = absurd (omega arith)
bits_below f (n ∷ ns) (suc k) h =
    let l : bits f ns < 2 ^ k = bits_below f ns k (omega arith) in
    let m : 2 ^ suc k ≡ 2 ^ k * 2 = pow-suc 2 k in
    by_bit (f n) (bits f ns) (2 ^ k) (2 ^ suc k) l m
  where
    by_bit : (b : Bool) (m p q : ℕ) → m < p → q ≡ p * 2 → bit b + 2 * m < q
    by_bit true m p q l e = omega arith
    by_bit false m p q l e = omega arith

-- the first record that is among one kind and not among the other, by the bits of both: of k bits, of which the first
-- has number i, where i and k make 32
module _ (f g : Name → Bool) where
  abbrev pub wanting : Name → Bool
  wanting n = g n && not (f n)

  abbrev pub wanted : (k : ℕ) (ns : List Name) → ℕ
  wanted k ns = bit_and ((2 ^ k - 1) - bits f ns) (bits g ns)

  -- the lowest bit, and the rest
  wanted-odd : (a b : Bool) (m d p q : ℕ) → m < p → q ≡ p * 2 →
      bit_and ((q - 1) - (bit a + 2 * m)) (bit b + 2 * d) % 2 ≡ bit (b && not a)
  unfolding bit
  wanted-odd a b m d p q l e = go a b (and_step ((q - 1) - (bit a + 2 * m)) (bit b + 2 * d))
    where
      go : (a b : Bool) → bit_and ((q - 1) - (bit a + 2 * m)) (bit b + 2 * d) ≡
          bit_and (((q - 1) - (bit a + 2 * m)) / 2) ((bit b + 2 * d) / 2) * 2
          + min (((q - 1) - (bit a + 2 * m)) % 2) ((bit b + 2 * d) % 2) →
          bit_and ((q - 1) - (bit a + 2 * m)) (bit b + 2 * d) % 2 ≡ bit (b && not a)
      go true true s = omega (arith, s)
      go true false s = omega (arith, s)
      go false true s = omega (arith, s)
      go false false s = omega (arith, s)

  wanted-half : (a b : Bool) (m d p q : ℕ) → m < p → q ≡ p * 2 →
      bit_and ((q - 1) - (bit a + 2 * m)) (bit b + 2 * d) / 2 ≡ bit_and ((p - 1) - m) d
  unfolding bit
  wanted-half a b m d p q l e =
      halved (and_step ((q - 1) - (bit a + 2 * m)) (bit b + 2 * d))
      ∙ ap₂ bit_and (left a) (bit-half b d)
    where
      halved : bit_and ((q - 1) - (bit a + 2 * m)) (bit b + 2 * d) ≡
          bit_and (((q - 1) - (bit a + 2 * m)) / 2) ((bit b + 2 * d) / 2) * 2
          + min (((q - 1) - (bit a + 2 * m)) % 2) ((bit b + 2 * d) % 2) →
          bit_and ((q - 1) - (bit a + 2 * m)) (bit b + 2 * d) / 2 ≡
          bit_and (((q - 1) - (bit a + 2 * m)) / 2) ((bit b + 2 * d) / 2)
      halved s = omega (arith, s)

      left : (a : Bool) → ((q - 1) - (bit a + 2 * m)) / 2 ≡ (p - 1) - m
      left true = omega arith
      left false = omega arith

  pub first-wanted : (ns : List Name) (k i : ℕ) → length ns ≤ k → i + k ≡ 32 →
      i + count_trailing_zeros k (wanted k ns) ≡ first_from i wanting ns
  unfolding bits bit first_from count_trailing_zeros
  first-wanted [] k i h e =
      ap (λ x. i + count_trailing_zeros k x) (and_zero_r ((2 ^ k - 1) - 0)) ∙ (ap (λ x. i + x) (trailing_of_zero k) ∙ e)
  first-wanted (n ∷ ns) zero i h e = absurd (omega arith)
  first-wanted (n ∷ ns) (suc k) i h e =
      let l : bits f ns < 2 ^ k = bits_below f ns k (omega arith) in
      let o = wanted-odd (f n) (g n) (bits f ns) (bits g ns) (2 ^ k) (2 ^ suc k) l (pow-suc 2 k) in
      let q = wanted-half (f n) (g n) (bits f ns) (bits g ns) (2 ^ k) (2 ^ suc k) l (pow-suc 2 k) in
      let r = first-wanted ns k (suc i) (omega arith) (omega arith) in
      ap₂ (λ x y. i + under x (count_trailing_zeros k y)) o q ∙ by-test (g n && not (f n)) r
    where
      by-test : (b : Bool) → suc i + count_trailing_zeros k (wanted k ns) ≡ first_from (suc i) wanting ns →
          i + under (bit b) (count_trailing_zeros k (wanted k ns)) ≡ pick b i (first_from (suc i) wanting ns)
      by-test true r = omega arith
      by-test false r = omega (arith, r)
