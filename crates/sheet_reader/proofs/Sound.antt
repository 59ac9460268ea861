-- What a reading spelled out says of the term as written.
use Prim.Native.Nat.{ℕ, suc, ◌+◌, ◌-◌, ◌≤◌, ◌<◌}
use native.Mathlib.Omega.{arith}
use mathlib.Core.Path.{◌≡◌, refl, sym, ap, ap₂, ◌∙◌}
use mathlib.Core.Bool.{true}
use mathlib.Core.List.{List, [], ◌∷◌, ◌++◌}
use lib.ListN.{length, drop, get_or}
use Rattle.language.specs.Number.{in_range}
use Rattle.language.specs.declared.Numbers.{Numbers}
use Rattle.language.specs.Term.{Often}
use Rattle.sheet_parts.specs.Rule.{operand_type, result_type}
use Rattle.sheet_records.specs.declared.edition.Edition.{Edition}
use Rattle.sheet_records.specs.declared.edition.Edition.TheVariants.{Present}
use Rattle.sheet_records.specs.declared.kind.Rule.{Rule}
use Rattle.sheet_records.specs.declared.kind.Rule.TheVariants.{Skip, Diverge, Truth, Number, Use, Fetch, Operate, Assign}
use Rattle.sheet_records.specs.declared.kind.Rule.TheVariants.{Sequence, If, While, New, Procedure}
use Rattle.sheet_heads.specs.declared.head.Record.{Record}
use Rattle.sheet_written.specs.Written.{Written, Writtens, none, more, skip, diverge, truth, number, call, fetch, operate}
use Rattle.sheet_written.specs.Written.{assign, sequence, while, choose, new, procedure, Parameter, Name}
use Rattle.sheet_written.specs.Meaning.{Binder, a_block, private, argument, routine, named, free, declared, meaning}
use Rattle.sheet_written.specs.Meaning.{inside, after, use_type, typed}
use Rattle.sheet_written.specs.Fine.{depth, depths, FineUse, Fine, FineArgs}
use Rattle.sheet_written.specs.Hiding.{Unheld, ApartParameters, Apart, AllApart}
use Rattle.sheet_written.proofs.Types.{result-below}
use Rattle.sheet_reader.specs.Encoding.{pairs, encode, encodes}
use Rattle.sheet_reader.specs.Reader.{Tree, node, Trees, leaf, branch, parameters_of, build, first, rest, written}
use Rattle.sheet_reader.specs.Reader.{writtens}
use Rattle.sheet_reader.proofs.Bytes.{one_byte, two_bytes, three-bytes, join}
use Rattle.sheet_reader.proofs.Parsed.{Byte, Pairs, Parsed, p-skip, p-diverge, p-truth, p-number, p-private}
use Rattle.sheet_reader.proofs.Parsed.{p-parameter, p-use, p-name, p-fetch, p-operate, p-assign, p-sequence, p-if}
use Rattle.sheet_reader.proofs.Parsed.{p-while, p-new, p-procedure, ParsedArgs, p-none, p-more}

-- a part that was read by the rule of an edition: its place and bytes, its scope and types, its type and its depth
pub record Sound (ed : Edition) (N : Numbers) (s : List ℕ) (ns : List Name) (left : ℕ) (bs : List Binder) (at : ℕ)
    (W : Written) (ty next : ℕ) : Type 0 where
  pub forward : at < next
  pub inside : next ≤ length s
  pub bytes : drop at s ≡ encode W ++ drop next s
  pub fine : Fine N ns bs W
  pub apart : ed ≡ Present → Apart bs W
  pub types : typed ns bs W ≡ ty
  pub shallow : depth W ≤ left
  pub known : ty < 5

pub record SoundArgs (ed : Edition) (N : Numbers) (s : List ℕ) (ns : List Name) (left : ℕ) (bs : List Binder) (at : ℕ)
    (ws : Writtens) (tys : List ℕ) (next : ℕ) : Type 0 where
  pub forward : at ≤ next
  pub inside : at ≤ length s → next ≤ length s
  pub bytes : drop at s ≡ encodes ws ++ drop next s
  pub fine : FineArgs N ns bs ws tys
  pub apart : ed ≡ Present → AllApart bs ws
  pub shallow : depths ws ≤ left

module _ (ed : Edition) (N : Numbers) (s : List ℕ) (ns : List Name) (left : ℕ) (bs : List Binder) (at : ℕ) where
  abbrev Part : ℕ → Written → ℕ → ℕ → Type 0
  Part = Sound ed N s ns left bs

  abbrev Whole : Written → ℕ → ℕ → Type 0
  Whole = Sound ed N s ns (suc left) bs at

  sound-skip : Byte s at 16 → Whole skip 0 (at + 1)
  unfolding encode Fine Apart typed depth
  sound-skip b = record {
    forward = omega arith;
    inside = omega arith;
    bytes = one_byte s at 16 b;
    fine = tt;
    apart = λ p. tt;
    types = refl;
    shallow = omega arith;
    known = omega arith;
  }

  sound-diverge : {a : ℕ} → Byte s at 17 → Byte s (at + 1) a → a < 5 → Whole (diverge a) a (at + 2)
  unfolding encode Fine Apart typed depth
  sound-diverge {a} b c l = record {
    forward = omega arith;
    inside = omega arith;
    bytes = two_bytes s at 17 a b c;
    fine = l;
    apart = λ p. tt;
    types = refl;
    shallow = omega arith;
    known = l;
  }

  sound-truth : {a : ℕ} → Byte s at 18 → Byte s (at + 1) a → a < 2 → Whole (truth a) 1 (at + 2)
  unfolding encode Fine Apart typed depth
  sound-truth {a} b c l = record {
    forward = omega arith;
    inside = omega arith;
    bytes = two_bytes s at 18 a b c;
    fine = l;
    apart = λ p. tt;
    types = refl;
    shallow = omega arith;
    known = omega arith;
  }

  sound-number :
      {a : ℕ} → Byte s at 19 → Byte s (at + 1) a → a < 256 → in_range N a ≡ true → Whole (number a) 2 (at + 2)
  unfolding encode Fine Apart typed depth
  sound-number {a} b c l e = record {
    forward = omega arith;
    inside = omega arith;
    bytes = two_bytes s at 19 a b c;
    fine = (l, e);
    apart = λ p. tt;
    types = refl;
    shallow = omega arith;
    known = omega arith;
  }

  sound-private :
      {a i h : ℕ} → Byte s at 20 → Byte s (at + 1) a → a < 255 → meaning ns bs a ≡ private i h → h < 3 →
      Whole (call a none) (2 + h) (at + 2)
  unfolding encode Fine Apart FineUse typed use_type depth
  sound-private {a} b c l e k = record {
    forward = omega arith;
    inside = omega arith;
    bytes = two_bytes s at 20 a b c;
    fine = (l, rw e refl);
    apart = λ p. tt;
    types = rw e refl;
    shallow = omega arith;
    known = omega arith;
  }

  sound-parameter :
      {a k ty : ℕ} → Byte s at 20 → Byte s (at + 1) a → a < 255 → meaning ns bs a ≡ argument k ty → ty < 5 →
      Whole (call a none) ty (at + 2)
  unfolding encode Fine Apart FineUse typed use_type depth
  sound-parameter {a} b c l e k = record {
    forward = omega arith;
    inside = omega arith;
    bytes = two_bytes s at 20 a b c;
    fine = (l, rw e refl);
    apart = λ p. tt;
    types = rw e refl;
    shallow = omega arith;
    known = k;
  }

  sound-use :
      {a k ty next : ℕ} {ws : Writtens} {tys : List ℕ} → Byte s at 20 → Byte s (at + 1) a → a < 255 →
      meaning ns bs a ≡ routine k ty tys → ty < 5 → SoundArgs ed N s ns left bs (at + 2) ws tys next →
      Whole (call a ws) ty next
  unfolding encode Fine Apart FineUse typed use_type depth
  sound-use {a} {k} {ty} {next} {ws} {tys} b c l e k' A = record {
    forward = omega (arith, A.forward);
    inside = A.inside (omega arith);
    bytes = two_bytes s at 20 a b c ∙ ap (λ (x : List ℕ). 20 ∷ a ∷ x) A.bytes;
    fine = (l, rw e A.fine);
    apart = A.apart;
    types = rw e refl;
    shallow = omega (arith, A.shallow);
    known = k';
  }

  sound-name :
      {a ty next : ℕ} {often : Often} {ws : Writtens} {tys : List ℕ} → Byte s at 20 → Byte s (at + 1) a → a < 255 →
      meaning ns bs a ≡ named often ty tys → ty < 5 → SoundArgs ed N s ns left bs (at + 2) ws tys next →
      Whole (call a ws) ty next
  unfolding encode Fine Apart FineUse typed use_type depth
  sound-name {a} {ty} {next} {often} {ws} {tys} b c l e k A = record {
    forward = omega (arith, A.forward);
    inside = A.inside (omega arith);
    bytes = two_bytes s at 20 a b c ∙ ap (λ (x : List ℕ). 20 ∷ a ∷ x) A.bytes;
    fine = (l, rw e A.fine);
    apart = A.apart;
    types = rw e refl;
    shallow = omega (arith, A.shallow);
    known = k;
  }

  sound-fetch :
      {ty next : ℕ} {v : Written} → Byte s at 21 → Part (at + 1) v ty next → 3 ≤ ty → Whole (fetch v) (ty - 2) next
  unfolding encode Fine Apart typed depth
  sound-fetch {ty} {next} {v} b P l = record {
    forward = omega (arith, P.forward);
    inside = P.inside;
    bytes = one_byte s at 21 b ∙ ap (λ (x : List ℕ). 21 ∷ x) P.bytes;
    fine = (P.fine, rw P.types l);
    apart = P.apart;
    types = ap (λ (n : ℕ). n - 2) P.types;
    shallow = omega (arith, P.shallow);
    known = omega (arith, P.known);
  }

  sound-operate :
      {a mid next : ℕ} {l r : Written} → Byte s at 22 → Byte s (at + 1) a → a < 9 →
      Part (at + 2) l (operand_type a) mid → Part mid r (operand_type a) next → Whole (operate a l r) (result_type a) next
  unfolding encode Fine Apart typed depth
  sound-operate {a} {mid} {next} {l} {r} b c k L R = record {
    forward = omega (arith, L.forward, R.forward);
    inside = R.inside;
    bytes = two_bytes s at 22 a b c
        ∙ ap (λ (x : List ℕ). 22 ∷ a ∷ x) (join (encode l) (encode r) (drop next s) L.bytes R.bytes);
    fine = (k, L.fine, L.types, R.fine, R.types);
    apart = λ p. (L.apart p, R.apart p);
    types = refl;
    shallow = omega (arith, L.shallow, R.shallow);
    known = result-below N a;
  }

  sound-assign :
      {ty mid next : ℕ} {l r : Written} → Byte s at 23 → Part (at + 1) l (ty + 2) mid → 0 < ty →
      Part mid r ty next → Whole (assign l r) 0 next
  unfolding encode Fine Apart typed depth
  sound-assign {ty} {mid} {next} {l} {r} b L k R = record {
    forward = omega (arith, L.forward, R.forward);
    inside = R.inside;
    bytes = one_byte s at 23 b
        ∙ ap (λ (x : List ℕ). 23 ∷ x) (join (encode l) (encode r) (drop next s) L.bytes R.bytes);
    fine = (L.fine, rw L.types (omega arith), R.fine, rw (L.types, R.types) refl);
    apart = λ p. (L.apart p, R.apart p);
    types = refl;
    shallow = omega (arith, L.shallow, R.shallow);
    known = omega arith;
  }

  sound-sequence :
      {ty mid next : ℕ} {l r : Written} → Byte s at 24 → Part (at + 1) l 0 mid → Part mid r ty next →
      Whole (sequence l r) ty next
  unfolding encode Fine Apart typed depth
  sound-sequence {ty} {mid} {next} {l} {r} b L R = record {
    forward = omega (arith, L.forward, R.forward);
    inside = R.inside;
    bytes = one_byte s at 24 b
        ∙ ap (λ (x : List ℕ). 24 ∷ x) (join (encode l) (encode r) (drop next s) L.bytes R.bytes);
    fine = (L.fine, L.types, R.fine);
    apart = λ p. (L.apart p, R.apart p);
    types = R.types;
    shallow = omega (arith, L.shallow, R.shallow);
    known = R.known;
  }

  sound-if :
      {ty mid mid' next : ℕ} {b m n : Written} → Byte s at 25 → Part (at + 1) b 1 mid → Part mid m ty mid' →
      Part mid' n ty next → Whole (choose b m n) ty next
  unfolding encode Fine Apart typed depth
  sound-if {ty} {mid} {mid'} {next} {b} {m} {n} k B L R = record {
    forward = omega (arith, B.forward, L.forward, R.forward);
    inside = R.inside;
    bytes = one_byte s at 25 k ∙ ap (λ (x : List ℕ). 25 ∷ x)
        (join (encode b) (encode m ++ encode n) (drop next s) B.bytes
        (join (encode m) (encode n) (drop next s) L.bytes R.bytes));
    fine = (B.fine, B.types, L.fine, R.fine, R.types ∙ sym L.types);
    apart = λ p. (B.apart p, L.apart p, R.apart p);
    types = L.types;
    shallow = omega (arith, B.shallow, L.shallow, R.shallow);
    known = R.known;
  }

  sound-while :
      {mid next : ℕ} {l r : Written} → Byte s at 26 → Part (at + 1) l 1 mid → Part mid r 0 next →
      Whole (while l r) 0 next
  unfolding encode Fine Apart typed depth
  sound-while {mid} {next} {l} {r} b L R = record {
    forward = omega (arith, L.forward, R.forward);
    inside = R.inside;
    bytes = one_byte s at 26 b
        ∙ ap (λ (x : List ℕ). 26 ∷ x) (join (encode l) (encode r) (drop next s) L.bytes R.bytes);
    fine = (L.fine, L.types, R.fine, R.types);
    apart = λ p. (L.apart p, R.apart p);
    types = refl;
    shallow = omega (arith, L.shallow, R.shallow);
    known = R.known;
  }

  sound-new :
      {a d next : ℕ} {c : Written} → Byte s at 27 → Byte s (at + 1) a → a < 255 → declared ns a ≡ free →
      (ed ≡ Present → Unheld bs a) → Byte s (at + 2) d → 0 < d → d < 3 → Sound ed N s ns left (a_block a d ∷ bs) (at + 3) c 0 next →
      Whole (new a d c) 0 next
  unfolding encode Fine Apart typed depth
  sound-new {a} {d} {next} {c} b b' l f v b'' k k' C = record {
    forward = omega (arith, C.forward);
    inside = C.inside;
    bytes = three-bytes s at 27 a d b b' b'' ∙ ap (λ (x : List ℕ). 27 ∷ a ∷ d ∷ x) C.bytes;
    fine = (l, f, k, k', C.fine, C.types);
    apart = λ p. (v p, C.apart p);
    types = refl;
    shallow = omega (arith, C.shallow);
    known = omega arith;
  }

  sound-procedure :
      {a n ty last mid next : ℕ} {ps : List Parameter} {x y : Written} → Byte s at 28 → Byte s (at + 1) a → a < 255 →
      declared ns a ≡ free → (ed ≡ Present → Unheld bs a) → Byte s (at + 2) ty → ty < 5 → Byte s (at + 3) n → n < 5 →
      Pairs s ns at n ps → (ed ≡ Present → ApartParameters bs ps) →
      Sound ed N s ns left (inside ps bs) (at + 12) x ty mid → Sound ed N s ns left (after a ty ps bs) mid y last next →
      Whole (procedure a ty ps x y) last next
  unfolding encode Fine Apart typed depth
  sound-procedure {a} {n} {ty} {last} {mid} {next} {ps} {x} {y} b b' l f v t k c h P u X Y =
      let m : at + 2 + 1 ≡ at + 3 = omega arith in
      let m' : at + 2 + 2 ≡ at + 4 = omega arith in
      let e : n ≡ length ps = sym P.counted in
      record {
        forward = omega (arith, X.forward, Y.forward);
        inside = Y.inside;
        bytes = two_bytes s at 28 a b b' ∙ ap (λ (z : List ℕ). 28 ∷ a ∷ z)
            (two_bytes s (at + 2) ty n t (rw m c)
            ∙ ap₂ (λ (i : ℕ) (z : List ℕ). ty ∷ i ∷ z) e
            (ap (λ (i : ℕ). drop i s) m' ∙ join (pairs 4 ps) (encode x ++ encode y) (drop next s) P.bytes
            (join (encode x) (encode y) (drop next s) X.bytes Y.bytes)));
        fine = (l, f, k, rw P.counted h, P.fine, X.fine, X.types, Y.fine);
        apart = λ p. (v p, u p, X.apart p, Y.apart p);
        types = Y.types;
        shallow = omega (arith, X.shallow, Y.shallow);
        known = Y.known;
      }

  -- arguments
  sound_none : SoundArgs ed N s ns left bs at none [] at
  unfolding encodes FineArgs AllApart depths
  sound_none = record {
    forward = omega arith;
    inside = λ l. l;
    bytes = refl;
    fine = tt;
    apart = λ p. tt;
    shallow = omega arith;
  }

  sound_more :
      {ty mid next : ℕ} {tys : List ℕ} {t : Written} {ts : Writtens} → Part at t ty mid →
      SoundArgs ed N s ns left bs mid ts tys next → SoundArgs ed N s ns left bs at (more t ts) (ty ∷ tys) next
  unfolding encodes FineArgs AllApart depths
  sound_more {ty} {mid} {next} {tys} {t} {ts} P A = record {
    forward = omega (arith, P.forward, A.forward);
    inside = λ l. A.inside P.inside;
    bytes = join (encode t) (encodes ts) (drop next s) P.bytes A.bytes;
    fine = (P.fine, P.types, A.fine);
    apart = λ p. (P.apart p, A.apart p);
    shallow = omega (arith, P.shallow, A.shallow);
  }

-- the term as written, by the rule of the record
built :
    (s : List ℕ) (r : Record) (rule : Rule) (ty around end : ℕ) (ts : Trees) → r.rule ≡ rule →
    written s (node r ty around end ts) ≡ build rule s r (writtens s ts)
unfolding written
built s r rule ty around end ts e = ap (λ (x : Rule). build x s r (writtens s ts)) e

-- THEOREM: a reading spelled out is sound
module _ {ed : Edition} (N : Numbers) (s : List ℕ) (ns : List Name) where
  sounds :
      (left : ℕ) → ((bs : List Binder) (π : ℕ → ℕ) (at : ℕ) (t : Tree) (ty next : ℕ) →
      Parsed ed N s ns left bs π at t ty next → Sound ed N s ns left bs at (written s t) ty next) →
      {bs : List Binder} {π : ℕ → ℕ} {at : ℕ} {ts : Trees} {tys : List ℕ} {next : ℕ} →
      ParsedArgs ed N s ns left bs π at ts tys next → SoundArgs ed N s ns left bs at (writtens s ts) tys next
  unfolding writtens
  sounds left f (p-none {at = at} {bs = bs}) = sound_none ed N s ns left bs at
  sounds left f (p-more {at = at} {bs = bs} p q) =
      sound_more ed N s ns left bs at (f _ _ _ _ _ _ p) (sounds left f q)

  pub sound :
      (left : ℕ) {bs : List Binder} {π : ℕ → ℕ} {at : ℕ} {t : Tree} {ty next : ℕ} →
      Parsed ed N s ns left bs π at t ty next → Sound ed N s ns left bs at (written s t) ty next
  unfolding writtens build first rest
  sound Prim.Native.Nat.zero x = elim x [ ]
  sound (suc left) (p-skip {at = at} {bs = bs} {r = r} S) =
      rw (built s r Skip 0 (length bs) (at + 1) leaf S.ruled) (sound-skip ed N s ns left bs at S.byte)
  sound (suc left) (p-diverge {at = at} {bs = bs} {r = r} S b l) =
      rw (built s r Diverge r.a (length bs) (at + 2) leaf S.ruled) (sound-diverge ed N s ns left bs at S.byte b l)
  sound (suc left) (p-truth {at = at} {bs = bs} {r = r} S b l) =
      rw (built s r Truth 1 (length bs) (at + 2) leaf S.ruled) (sound-truth ed N s ns left bs at S.byte b l)
  sound (suc left) (p-number {at = at} {bs = bs} {r = r} S b l e) =
      rw (built s r Number 2 (length bs) (at + 2) leaf S.ruled) (sound-number ed N s ns left bs at S.byte b l e)
  sound (suc left) (p-private {at = at} {h = h} {bs = bs} {r = r} S b l e k k' d c) =
      rw (built s r Use (2 + h) (length bs) (at + 2) leaf S.ruled)
      (sound-private ed N s ns left bs at S.byte b l e k')
  sound (suc left) (p-parameter {at = at} {ty = ty} {bs = bs} {r = r} S b l e k d c) =
      rw (built s r Use ty (length bs) (at + 2) leaf S.ruled) (sound-parameter ed N s ns left bs at S.byte b l e k)
  sound (suc left) (p-use {at = at} {ty = ty} {next = next} {bs = bs} {r = r} {ts = ts} S b l e k f g d d' c q) =
      rw (built s r Use ty (length bs) next ts S.ruled)
      (sound-use ed N s ns left bs at S.byte b l e k (sounds left (λ bs' π' at' t ty n p. sound left p) q))
  sound (suc left) (p-name {at = at} {ty = ty} {next = next} {bs = bs} {r = r} {ts = ts} S b l e k f g d c q) =
      rw (built s r Use ty (length bs) next ts S.ruled)
      (sound-name ed N s ns left bs at S.byte b l e k (sounds left (λ bs' π' at' t ty n p. sound left p) q))
  sound (suc left) (p-fetch {at = at} {ty = ty} {next = next} {bs = bs} {r = r} {t = t} S p l) =
      rw (built s r Fetch (ty - 2) (length bs) next (branch (at + 1) t leaf) S.ruled)
      (sound-fetch ed N s ns left bs at S.byte (sound left p) l)
  sound (suc left) (p-operate {at = at} {mid = mid} {next = next} {bs = bs} {r = r} {t = t} {u = u} S b l p q) =
      rw (built s r Operate (result_type r.a) (length bs) next (branch (at + 2) t (branch mid u leaf)) S.ruled)
      (sound-operate ed N s ns left bs at S.byte b l (sound left p) (sound left q))
  sound (suc left) (p-assign {at = at} {mid = mid} {next = next} {bs = bs} {r = r} {t = t} {u = u} S p l q) =
      rw (built s r Assign 0 (length bs) next (branch (at + 1) t (branch mid u leaf)) S.ruled)
      (sound-assign ed N s ns left bs at S.byte (sound left p) l (sound left q))
  sound (suc left) (p-sequence {at = at} {ty = ty} {mid = mid} {next = next} {bs = bs} {r = r} {t = t} {u = u} S p q) =
      rw (built s r Sequence ty (length bs) next (branch (at + 1) t (branch mid u leaf)) S.ruled)
      (sound-sequence ed N s ns left bs at S.byte (sound left p) (sound left q))
  sound (suc left) (p-if {at = at} {ty = ty} {one = m} {two = n} {next = next} {bs = bs} {r = r} {b = b} {t = t}
      {u = u} S p q o) =
      rw (built s r If ty (length bs) next (branch (at + 1) b (branch m t (branch n u leaf))) S.ruled)
      (sound-if ed N s ns left bs at S.byte (sound left p) (sound left q) (sound left o))
  sound (suc left) (p-while {at = at} {mid = mid} {next = next} {bs = bs} {r = r} {t = t} {u = u} S p q) =
      rw (built s r While 0 (length bs) next (branch (at + 1) t (branch mid u leaf)) S.ruled)
      (sound-while ed N s ns left bs at S.byte (sound left p) (sound left q))
  sound (suc left) (p-new {at = at} {next = next} {bs = bs} {r = r} {t = t} S b l f v b' k k' p) =
      rw (built s r New 0 (length bs) next (branch (at + 3) t leaf) S.ruled)
      (sound-new ed N s ns left bs at S.byte b l f v b' k k' (sound left p))
  sound (suc left) (p-procedure {at = at} {ty = ty} {last = last} {mid = mid} {next = next} {ps = ps} {bs = bs} {r = r}
      {t = t} {u = u} S b l f v b' k c h P w p q) =
      let e : get_or s (r.place + 2) 0 ≡ ty = rw S.place b'.1 in
      let e' : parameters_of r.b (drop (r.place + 4) s) ≡ ps = rw S.place P.are in
      rw (built s r Procedure last (length bs) next (branch (at + 12) t (branch mid u leaf)) S.ruled, e, e')
      (sound-procedure ed N s ns left bs at S.byte b l f v b' k c h P w (sound left p) (sound left q))
