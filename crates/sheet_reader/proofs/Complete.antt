-- Every term that is in order is read.
use Prim.Native.Nat.{ℕ, zero, suc, ◌+◌, ◌*◌, ◌≤◌, ◌<◌}
use native.Mathlib.Omega.{arith}
use native.Mathlib.Numerals.{add-one}
use native.Mathlib.Nat.{add-zero, zero-add}
use mathlib.Core.Path.{◌≡◌, refl, sym, ap, ap₂, ◌∙◌, subst}
use mathlib.Core.Bool.{true}
use mathlib.Core.List.{List, [], ◌∷◌, ◌++◌, append_assoc}
use lib.ListN.{length, get_or, drop, length-append}
use borrow.Author.Tests.{eq-eqb, le-leb}
use Rattle.language.specs.Number.{in_range}
use Rattle.language.specs.declared.Numbers.{Numbers}
use Rattle.sheet_records.specs.Standing.{standing_of, count_of, result_of, argument_of}
use Rattle.sheet_parts.specs.Scope.{opens, entered, passed, usable}
use Rattle.sheet_parts.specs.Rule.{operand_type, accepts_part, part_type}
use Rattle.sheet_records.specs.declared.edition.Edition.{Edition}
use Rattle.sheet_records.specs.declared.edition.Edition.TheVariants.{Present}
use Rattle.sheet_records.specs.declared.kind.Rule.TheVariants.{Use, Fetch, Operate, Assign, Sequence, If, While, New}
use Rattle.sheet_records.specs.declared.kind.Rule.TheVariants.{Procedure}
use Rattle.sheet_parts.specs.declared.scope.Opens.TheVariants.{Routine as Terms}
use Rattle.sheet_heads.specs.declared.head.Record.{Record}
use Rattle.sheet_written.specs.Environment.{beyond}
use Rattle.sheet_written.specs.Written.{Written, Writtens, none, more, skip, diverge, truth, number, call, fetch, operate}
use Rattle.sheet_written.specs.Written.{assign, sequence, while, choose, new, procedure, Parameter, Name}
use Rattle.sheet_written.specs.Meaning.{Binder, a_block, Meaning, private, argument, routine, named, retired, free}
use Rattle.sheet_written.specs.Meaning.{declared, meaning, inside, after, use_type, typed}
use Rattle.sheet_written.specs.Fine.{depth, depths, FineUse, FineParameters, Fine, FineArgs}
use Rattle.sheet_written.specs.Hiding.{Apart, AllApart}
use Rattle.sheet_reader.specs.Encoding.{pairs, encode, encodes}
use Rattle.sheet_reader.specs.Reader.{Tree, node, Trees, leaf, branch, Answer, got, bind, on_head, parts_of, joined}
use Rattle.sheet_reader.specs.Reader.{scope_parts, read_record, read_part, build, first, rest, written, writtens}
use Rattle.sheet_reader.proofs.Parsed.{Byte, Pairs}
use Rattle.sheet_reader.proofs.Standings.{Agrees, Matches, matches-entered, matches-passed, matches-usable}
use Rattle.sheet_reader.proofs.Standings.{binder-standing, apart-unhiding, naming-says, variable-says, passed-says, routine-says}
use Rattle.sheet_reader.proofs.Standings.{variable-taken, passed-taken, routine-taken, naming-taken}
use Rattle.sheet_reader.proofs.Heads.{made, Heads, h-skip, h-diverge, h-truth, h-number, h-use, h-fetch, h-operate}
use Rattle.sheet_reader.proofs.Heads.{h-assign, h-sequence, h-if, h-while, h-new, h-procedure, head-is}
use Rattle.sheet_reader.proofs.Bytes.{byte-there, past_one, past, open_none, open-one, open-two, two-parts}
use Rattle.sheet_reader.proofs.Pairs.{pairs-length, inside-length}
use Rattle.sheet_reader.proofs.Parameters.{pairs-at, pairs-procedures, pairs-body, pairs-there}

-- a part that is read as the term W, with its type and the place after it
pub record Read (s : List ℕ) (A : Answer Tree) (W : Written) (ty next : ℕ) : Type 0 where
  pub tree : Tree
  pub reads : A ≡ got tree ty next
  pub writes : written s tree ≡ W

pub record ReadArgs (s : List ℕ) (A : Answer Trees) (ws : Writtens) (next : ℕ) : Type 0 where
  pub trees : Trees
  pub last : ℕ
  pub reads : A ≡ got trees last next
  pub writes : writtens s trees ≡ ws

-- the reader's steps
part_step :
    (rec : ℕ → Answer Tree) (s : List ℕ) (r : Record) (n j prev p : ℕ) {t : Tree} {ts : Trees} {ty next last end : ℕ} →
    rec p ≡ got t ty next → accepts_part r.rule s r j prev ty ≡ true →
    parts_of rec s r n (j + 1) ty next ≡ got ts last end →
    parts_of rec s r (suc n) j prev p ≡ got (branch p t ts) last end
unfolding parts_of bind
part_step rec s r n j prev p e a f = rw (e, a, f) refl

record-step :
    (rec : List ℕ → ℕ → ℕ → Answer Tree) (s st : List ℕ) (around : ℕ) (r : Record) {ts : Trees} {last end : ℕ} →
    scope_parts (opens r.rule) rec s st around r ≡ got ts last end →
    read_record rec s st around r
    ≡ got (node r (part_type r.rule s r last) around end ts) (part_type r.rule s r last) end
unfolding read_record bind
record-step rec s st around r e = rw e refl

terms-step :
    (rec : List ℕ → ℕ → ℕ → Answer Tree) (s st : List ℕ) (around : ℕ) (r : Record) {ts us : Trees}
    {ty mid last end : ℕ} →
    parts_of (rec (passed s r.place around r.b st) (around + r.b)) s r 1 0 0 r.next ≡ got ts ty mid →
    parts_of (rec (usable st r around) (around + 1)) s r 1 1 ty mid ≡ got us last end →
    scope_parts Terms rec s st around r ≡ got (joined ts us) last end
unfolding scope_parts bind
terms-step rec s st around r e f = rw (e, f) refl

reading :
    {s : List ℕ} {A : Answer Tree} {t : Tree} {W : Written} {ty ty' n n' : ℕ} → A ≡ got t ty n → written s t ≡ W →
    ty ≡ ty' → n ≡ n' → Read s A W ty' n'
reading {s} {A} {t} {W} {ty} {ty'} {n} {n'} e f a c = record { tree = t; reads = rw (← a, ← c) e; writes = f }

module _
    (ed : Edition) (N : Numbers) (s : List ℕ) (ns : List Name) (left : ℕ) (bs : List Binder) (st : List ℕ) (at : ℕ) where
  abbrev sub : List ℕ → ℕ → ℕ → Answer Tree
  sub = read_part ed left N s

  abbrev rec : ℕ → Answer Tree
  rec = read_part ed left N s st (length bs)

  abbrev Part : ℕ → Written → Type 0
  Part p W = Read s (rec p) W (typed ns bs W) (p + length (encode W))

  abbrev Whole : Written → Type 0
  Whole W = Read s (read_part ed (suc left) N s st (length bs) at) W (typed ns bs W) (at + length (encode W))

  pub record-read :
      {r : Record} → Heads ed s st N at r →
      read_part ed (suc left) N s st (length bs) at ≡ read_record sub s st (length bs) r
  unfolding read_part on_head
  record-read {r} h = rw (head-is ed s st N at left r h) refl

  complete-skip : Byte s at 16 → Whole skip
  unfolding opens scope_parts parts_of part_type encode typed written writtens build
  complete-skip b =
      let h = h-skip b in
      reading (record-read h ∙ record-step sub s st (length bs) _ refl) refl refl (omega arith)

  complete-fetch : (v : Written) → Byte s at 21 → Fine N ns bs (fetch v) → Part (at + 1 + 0) v → Whole (fetch v)
  unfolding Fine opens scope_parts parts_of accepts_part part_type encode typed written writtens build first
  complete-fetch v b f p =
      let r = made s at Fetch 1 0 0 (at + 1 + 0) in
      reading (record-read (h-fetch b) ∙ record-step sub s st (length bs) r
      (part_step rec s r 0 0 0 (at + 1 + 0) p.reads (le-leb 3 (typed ns bs v) f.1) refl))
      (ap (λ (x : Written). fetch x) p.writes) refl (omega arith)

  complete-diverge : (a : ℕ) → Byte s at 17 → Byte s (at + 1) a → a < 5 → Whole (diverge a)
  unfolding opens scope_parts parts_of part_type encode typed written writtens build
  complete-diverge a b c l =
      reading (record-read (h-diverge b c l) ∙ record-step sub s st (length bs) _ refl) refl refl (omega arith)

  complete-truth : (a : ℕ) → Byte s at 18 → Byte s (at + 1) a → a < 2 → Whole (truth a)
  unfolding opens scope_parts parts_of part_type encode typed written writtens build
  complete-truth a b c l =
      reading (record-read (h-truth b c l) ∙ record-step sub s st (length bs) _ refl) refl refl (omega arith)

  complete-number : (a : ℕ) → Byte s at 19 → Byte s (at + 1) a → a < 256 → in_range N a ≡ true → Whole (number a)
  unfolding opens scope_parts parts_of part_type encode typed written writtens build
  complete-number a b c l e =
      reading (record-read (h-number b c l e) ∙ record-step sub s st (length bs) _ refl) refl refl (omega arith)

  complete-operate :
      (op : ℕ) (l r : Written) → Byte s at 22 → Byte s (at + 1) op → Fine N ns bs (operate op l r) →
      Part (at + 1 + 1) l →
      Part (at + 1 + 1 + length (encode l)) r → Whole (operate op l r)
  unfolding Fine opens scope_parts parts_of accepts_part part_type encode typed written writtens build first rest
  complete-operate op l r b c f p q =
      let x = made s at Operate 2 op 0 (at + 1 + 1) in
      reading (record-read (h-operate b c f.0) ∙ record-step sub s st (length bs) x
      (part_step rec s x 1 0 0 (at + 1 + 1) p.reads (eq-eqb (typed ns bs l) (operand_type op) f.2)
      (part_step rec s x 0 1 (typed ns bs l) (at + 1 + 1 + length (encode l)) q.reads
      (eq-eqb (typed ns bs r) (operand_type op) f.4) refl)))
      (ap₂ (λ (x y : Written). operate op x y) p.writes q.writes) refl
      (omega (arith, length-append (encode l) (encode r)))

  complete-assign :
      (l r : Written) → Byte s at 23 → Fine N ns bs (assign l r) → Part (at + 1 + 0) l →
      Part (at + 1 + 0 + length (encode l)) r → Whole (assign l r)
  unfolding Fine opens scope_parts parts_of accepts_part part_type encode typed written writtens build first rest
  complete-assign l r b f p q =
      let x = made s at Assign 2 0 0 (at + 1 + 0) in
      reading (record-read (h-assign b) ∙ record-step sub s st (length bs) x
      (part_step rec s x 1 0 0 (at + 1 + 0) p.reads (le-leb 3 (typed ns bs l) f.1)
      (part_step rec s x 0 1 (typed ns bs l) (at + 1 + 0 + length (encode l)) q.reads
      (eq-eqb (typed ns bs r + 2) (typed ns bs l) f.3) refl)))
      (ap₂ (λ (x y : Written). assign x y) p.writes q.writes) refl
      (omega (arith, length-append (encode l) (encode r)))

  complete-sequence :
      (l r : Written) → Byte s at 24 → Fine N ns bs (sequence l r) → Part (at + 1 + 0) l →
      Part (at + 1 + 0 + length (encode l)) r → Whole (sequence l r)
  unfolding Fine opens scope_parts parts_of accepts_part part_type encode typed written writtens build first rest
  complete-sequence l r b f p q =
      let x = made s at Sequence 2 0 0 (at + 1 + 0) in
      reading (record-read (h-sequence b) ∙ record-step sub s st (length bs) x
      (part_step rec s x 1 0 0 (at + 1 + 0) p.reads (eq-eqb (typed ns bs l) 0 f.1)
      (part_step rec s x 0 1 (typed ns bs l) (at + 1 + 0 + length (encode l)) q.reads refl refl)))
      (ap₂ (λ (x y : Written). sequence x y) p.writes q.writes) refl
      (omega (arith, length-append (encode l) (encode r)))

  complete-choose :
      (b m n : Written) → Byte s at 25 → Fine N ns bs (choose b m n) → Part (at + 1 + 0) b →
      Part (at + 1 + 0 + length (encode b)) m → Part (at + 1 + 0 + length (encode b) + length (encode m)) n →
      Whole (choose b m n)
  unfolding Fine opens scope_parts parts_of accepts_part part_type encode typed written writtens build first rest
  complete-choose b m n k f p q o =
      let x = made s at If 3 0 0 (at + 1 + 0) in
      reading (record-read (h-if k) ∙ record-step sub s st (length bs) x
      (part_step rec s x 2 0 0 (at + 1 + 0) p.reads (eq-eqb (typed ns bs b) 1 f.1)
      (part_step rec s x 1 1 (typed ns bs b) (at + 1 + 0 + length (encode b)) q.reads refl
      (part_step rec s x 0 2 (typed ns bs m) (at + 1 + 0 + length (encode b) + length (encode m)) o.reads
      (eq-eqb (typed ns bs n) (typed ns bs m) f.4) refl))))
      (ap (λ (x : Written). choose x (written s q.tree) (written s o.tree)) p.writes
      ∙ ap₂ (λ (x y : Written). choose b x y) q.writes o.writes) f.4
      (omega (arith, length-append (encode b) (encode m ++ encode n), length-append (encode m) (encode n)))

  complete-while :
      (l r : Written) → Byte s at 26 → Fine N ns bs (while l r) → Part (at + 1 + 0) l →
      Part (at + 1 + 0 + length (encode l)) r → Whole (while l r)
  unfolding Fine opens scope_parts parts_of accepts_part part_type encode typed written writtens build first rest
  complete-while l r b f p q =
      let x = made s at While 2 0 0 (at + 1 + 0) in
      reading (record-read (h-while b) ∙ record-step sub s st (length bs) x
      (part_step rec s x 1 0 0 (at + 1 + 0) p.reads (eq-eqb (typed ns bs l) 1 f.1)
      (part_step rec s x 0 1 (typed ns bs l) (at + 1 + 0 + length (encode l)) q.reads
      (eq-eqb (typed ns bs r) 0 f.3) refl)))
      (ap₂ (λ (x y : Written). while x y) p.writes q.writes) refl
      (omega (arith, length-append (encode l) (encode r)))

  complete-new :
      {π : ℕ → ℕ} (a d : ℕ) (c : Written) → Byte s at 27 → Byte s (at + 1) a → Byte s (at + 2) d →
      Matches s ns bs π st → Fine N ns bs (new a d c) →
      (ed ≡ Present → Apart bs (new a d c)) →
      Read s (sub (entered st (made s at New 1 a d (at + 1 + 2)) (length bs)) (suc (length bs)) (at + 1 + 2)) c
      (typed ns (a_block a d ∷ bs) c) (at + 1 + 2 + length (encode c)) →
      Whole (new a d c)
  unfolding Fine Apart opens scope_parts parts_of accepts_part part_type encode typed written writtens build first rest
  complete-new a d c b b' b'' M f u p =
      let x = made s at New 1 a d (at + 1 + 2) in
      let k = binder-standing M a f.0 f.1 in
      let rec' = sub (entered st x (length bs)) (length bs + 1) in
      reading (record-read (h-new b b' f.0 k (apart-unhiding ed M a f.0 (λ q. (u q).0)) b'' f.2 f.3) ∙ record-step sub s st (length bs) x
      (part_step rec' s x 0 0 0 (at + 1 + 2) (rw (← add-one (length bs)) at p.reads) (eq-eqb _ 0 f.5) refl))
      (ap (λ (x : Written). new a d x) p.writes) refl (omega arith)

  complete-procedure :
      {π : ℕ → ℕ} (a ty : ℕ) (ps : List Parameter) (x y : Written) → Byte s at 28 → Byte s (at + 1) a →
      Byte s (at + 2) ty → Byte s (at + 3) (length ps) → Pairs s ns at (length ps) ps → Matches s ns bs π st →
      Fine N ns bs (procedure a ty ps x y) → (ed ≡ Present → Apart bs (procedure a ty ps x y)) →
      Read s (sub (passed s at (length bs) (length ps) st) (length bs + length ps) (at + 12)) x
      (typed ns (inside ps bs) x) (at + 12 + length (encode x)) →
      Read s (sub (usable st (made s at Procedure 2 a (length ps) (at + 12)) (length bs)) (length bs + 1)
      (at + 12 + length (encode x))) y
      (typed ns (after a ty ps bs) y) (at + 12 + length (encode x) + length (encode y)) →
      Whole (procedure a ty ps x y)
  unfolding Fine Apart opens parts_of joined accepts_part part_type encode typed written writtens build first rest
  complete-procedure a ty ps x y b b' b'' c P M f u p q =
      let r = made s at Procedure 2 a (length ps) (at + 12) in
      let n : at + 1 + 11 ≡ at + 12 = omega arith in
      let B = pairs-body P ed M b' f.0 f.1 (λ q. (u q).0) b'' f.2 c f.3 (λ q. (u q).1) in
      let h₀ : Heads ed s st N at (made s at Procedure 2 (get_or s (at + 1) 0) (get_or s (at + 3) 0) (at + 1 + 11)) =
      h-procedure b B in
      let h : Heads ed s st N at r = rw (b'.1, c.1, n) at h₀ in
      reading (record-read h ∙ record-step sub s st (length bs) r
      (terms-step sub s st (length bs) r
      (part_step (sub (passed s at (length bs) (length ps) st) (length bs + length ps)) s r 0 0 0 (at + 12)
      p.reads (eq-eqb _ (get_or s (at + 2) 0) (f.6 ∙ sym b''.1)) refl)
      (part_step (sub (usable st r (length bs)) (length bs + 1)) s r 0 1 (typed ns (inside ps bs) x)
      (at + 12 + length (encode x))
      q.reads refl refl)))
      (rw (b''.1, P.are, p.writes, q.writes) refl) refl
      (omega (
        arith,
        length-append (pairs 4 ps) (encode x ++ encode y),
        pairs-length 4 ps,
        length-append (encode x) (encode y),
      ))

  -- arguments j, j + 1, .. of a use
  module _ (m a c : ℕ) where
    abbrev Args : Writtens → List ℕ → ℕ → ℕ → ℕ → Type 0
    Args ws tys j prev p =
        ReadArgs s (parts_of rec s (made s at Use m a c (at + 1 + 1)) (length tys) j prev p) ws (p + length (encodes ws))

    complete-none : (j prev p : ℕ) → Args none [] j prev p
    unfolding parts_of encodes writtens
    complete-none j prev p =
        record { trees = leaf; last = prev; reads = ap (λ (n : ℕ). got leaf prev n) (sym (add-zero p)); writes = refl }

    complete-more :
        (w : Written) (ws : Writtens) (ty : ℕ) (tys : List ℕ) (j prev p : ℕ) → typed ns bs w ≡ ty →
        argument_of s (standing_of c) j ≡ ty → Part p w →
        Args ws tys (j + 1) (typed ns bs w) (p + length (encode w)) →
        Args (more w ws) (ty ∷ tys) j prev p
    unfolding accepts_part encodes writtens
    complete-more w ws ty tys j prev p e e' P A =
        let x = made s at Use m a c (at + 1 + 1) in
        let d = typed ns bs w in
        let k = part_step rec s x (length tys) j prev p P.reads (eq-eqb d _ (e ∙ sym e')) A.reads in
        let z : p + length (encode w) + length (encodes ws) ≡ p + length (encode w ++ encodes ws) =
        omega (arith, length-append (encode w) (encodes ws)) in
        record {
          trees = branch p P.tree A.trees;
          last = A.last;
          reads = k ∙ ap (λ (v : ℕ). got (branch p P.tree A.trees) A.last v) z;
          writes = ap₂ (λ (u : Written) (v : Writtens). more u v) P.writes A.writes;
        }

  -- a use without arguments, by what its standing says
  complete-bare :
      (a : ℕ) → Byte s at 20 → Byte s (at + 1) a → a < 255 →
      (get_or st a 0 ≡ 0 → ⊥) × (get_or st a 0 ≡ 1 → ⊥) → count_of s (standing_of (get_or st a 0)) ≡ 0 →
      result_of s (standing_of (get_or st a 0)) ≡ use_type (meaning ns bs a) → Whole (call a none)
  unfolding opens scope_parts parts_of part_type encode encodes typed written writtens build
  complete-bare a b b' l t e e' =
      let u = record-read (h-use b b' l t.0 t.1) in
      reading ((rw e at u) ∙ record-step sub s st (length bs) (made s at Use 0 a (get_or st a 0) (at + 1 + 1)) refl) refl
      e' (omega arith)

  -- a use with arguments, by what its standing says
  complete-using :
      (a : ℕ) (ws : Writtens) (tys : List ℕ) → Byte s at 20 → Byte s (at + 1) a → a < 255 →
      (get_or st a 0 ≡ 0 → ⊥) × (get_or st a 0 ≡ 1 → ⊥) → count_of s (standing_of (get_or st a 0)) ≡ length tys →
      result_of s (standing_of (get_or st a 0)) ≡ use_type (meaning ns bs a) →
      Args (length tys) a (get_or st a 0) ws tys 0 0 (at + 1 + 1) → Whole (call a ws)
  unfolding opens scope_parts part_type encode typed written build
  complete-using a ws tys b b' l t e e' A =
      let u = record-read (h-use b b' l t.0 t.1) in
      reading ((rw e at u)
      ∙ record-step sub s st (length bs) (made s at Use (length tys) a (get_or st a 0) (at + 1 + 1)) A.reads)
      (ap (λ (x : Writtens). call a x) A.writes) e' (omega arith)

-- a part has a depth
pub depth-above : (W : Written) → 0 < depth W
unfolding depth
depth-above skip = omega arith
depth-above (diverge ty) = omega arith
depth-above (truth b) = omega arith
depth-above (number b) = omega arith
depth-above (call id ws) = omega arith
depth-above (fetch v) = omega arith
depth-above (operate op l r) = omega arith
depth-above (assign v e) = omega arith
depth-above (sequence c m) = omega arith
depth-above (choose b m n) = omega arith
depth-above (while b c) = omega arith
depth-above (new id d c) = omega arith
depth-above (procedure id ty ps x y) = omega arith

module _ (ed : Edition) (N : Numbers) (s : List ℕ) (ns : List Name) where
  -- every part of at most so many levels is read
  abbrev Reads : ℕ → Type 0
  Reads left =
      (W : Written) (bs : List Binder) (π : ℕ → ℕ) (st : List ℕ) (at : ℕ) (rest : List ℕ) → Fine N ns bs W →
      (ed ≡ Present → Apart bs W) → depth W ≤ left → drop at s ≡ encode W ++ rest → Matches s ns bs π st → length bs + 4 * left ≤ 128 →
      Read s (read_part ed left N s st (length bs) at) W (typed ns bs W) (at + length (encode W))

  complete-args :
      (left : ℕ) (bs : List Binder) (π : ℕ → ℕ) (st : List ℕ) (at m a c : ℕ) → Reads left → Matches s ns bs π st →
      length bs + 4 * left ≤ 128 →
      (ws : Writtens) (tys : List ℕ) (j prev p : ℕ) (rest : List ℕ) → FineArgs N ns bs ws tys →
      (ed ≡ Present → AllApart bs ws) → depths ws ≤ left →
      drop p s ≡ encodes ws ++ rest →
      ((k : ℕ) → k < length tys → argument_of s (standing_of c) (j + k) ≡ get_or tys k 0) →
      Args ed N s ns left bs st at m a c ws tys j prev p
  unfolding FineArgs AllApart depths encodes
  complete-args left bs π st at m a c R M l none [] j prev p rest f u d e g =
      complete-none ed N s ns left bs st at m a c j prev p
  complete-args left bs π st at m a c R M l none (ty ∷ tys) j prev p rest f u d e g = absurd f
  complete-args left bs π st at m a c R M l (more w ws) [] j prev p rest f u d e g = absurd f
  complete-args left bs π st at m a c R M l (more w ws) (ty ∷ tys) j prev p rest f u d e g =
      let e' : drop p s ≡ encode w ++ (encodes ws ++ rest) = e ∙ append_assoc (encode w) (encodes ws) rest in
      complete-more ed N s ns left bs st at m a c w ws ty tys j prev p f.1
      (ap (λ (x : ℕ). argument_of s (standing_of c) x) (sym (add-zero j)) ∙ g 0 (omega arith))
      (R w bs π st p (encodes ws ++ rest) f.0 (λ q. (u q).0) (omega arith) e' M l)
      (complete-args left bs π st at m a c R M l ws tys (j + 1) (typed ns bs w) (p + length (encode w)) rest f.2
      (λ q. (u q).1) (omega arith)
      (past s p (encode w) (encodes ws ++ rest) e')
      (λ k i. ap (λ (x : ℕ). argument_of s (standing_of c) x) (shift j k) ∙ g (suc k) (omega arith)))
    where
      shift : (j k : ℕ) → j + 1 + k ≡ j + suc k
      shift j k = omega arith

  -- a use, by what its id means
  complete-call :
      (left : ℕ) (bs : List Binder) (π : ℕ → ℕ) (st : List ℕ) (at a : ℕ) (ws : Writtens) (rest : List ℕ) → Reads left →
      a < 255 → depths ws ≤ left → drop at s ≡ 20 ∷ a ∷ (encodes ws ++ rest) → Matches s ns bs π st →
      length bs + 4 * left ≤ 128 →
      (ed ≡ Present → AllApart bs ws) → (m : Meaning) → meaning ns bs a ≡ m → FineUse m (ws ≡ none) (λ tys. FineArgs N ns bs ws tys) →
      Agrees s π (length bs) (declared ns a) m (get_or st a 0) → Whole ed N s ns left bs st at (call a ws)
  unfolding FineUse Agrees use_type count_of result_of argument_of
  complete-call left bs π st at a ws rest R l d e M k w (private i h) q f v =
      let o = open-one s at 20 a _ e in
      let y = variable-says v M.nested in
      subst (λ (x : Writtens). Whole ed N s ns left bs st at (call a x)) (sym f)
      (complete-bare ed N s ns left bs st at a o.0 o.1 l (variable-taken v) (rw y refl) (rw (y, q) refl))
  complete-call left bs π st at a ws rest R l d e M k w (argument i ty) q f v =
      let o = open-one s at 20 a _ e in
      let y = passed-says v M.nested in
      subst (λ (x : Writtens). Whole ed N s ns left bs st at (call a x)) (sym f)
      (complete-bare ed N s ns left bs st at a o.0 o.1 l (passed-taken v) (rw y refl) (rw (y, q) refl))
  complete-call left bs π st at a ws rest R l d e M k w (routine i ty tys) q f v =
      let o = open-one s at 20 a _ e in
      let y = routine-says v M.nested in
      complete-using ed N s ns left bs st at a ws tys o.0 o.1 l (routine-taken v) (rw y v.bytes.count)
      (rw (y, q) v.bytes.result)
      (complete-args left bs π st at (length tys) a (get_or st a 0) R M k ws tys 0 0 (at + 1 + 1) rest f w d o.2
      (λ j i. rw (y, zero-add j) (v.bytes.argument j i)))
  complete-call left bs π st at a ws rest R l d e M k w (named often ty tys) q f v =
      let o = open-one s at 20 a _ e in
      let y = naming-says v M.short in
      complete-using ed N s ns left bs st at a ws tys o.0 o.1 l (naming-taken v) (rw y v.bytes.count)
      (rw (y, q) v.bytes.result)
      (complete-args left bs π st at (length tys) a (get_or st a 0) R M k ws tys 0 0 (at + 1 + 1) rest f w d o.2
      (λ j i. rw (y, zero-add j) (v.bytes.argument j i)))
  complete-call left bs π st at a ws rest R l d e M k w retired q f v = absurd f
  complete-call left bs π st at a ws rest R l d e M k w free q f v = absurd f

  -- the bytes of a procedure, and what follows
  pub record Opened (at a ty : ℕ) (ps : List Parameter) (x y rest : List ℕ) : Type 0 where
    pub kind : Byte s at 28
    pub id : Byte s (at + 1) a
    pub type : Byte s (at + 2) ty
    pub count : Byte s (at + 3) (length ps)
    pub pairs-are : Pairs s ns at (length ps) ps
    pub first-term : drop (at + 12) s ≡ x ++ (y ++ rest)
    pub second-term : drop (at + 12 + length x) s ≡ y ++ rest

  pub open-procedure :
      (at a ty : ℕ) (ps : List Parameter) (x y rest : List ℕ) →
      drop at s ≡ 28 ∷ a ∷ ty ∷ length ps ∷ ((pairs 4 ps ++ (x ++ y)) ++ rest) → length ps < 5 →
      FineParameters ns [] ps → Opened at a ty ps x y rest
  open-procedure at a ty ps x y rest e l f =
      let n : at + 1 + 1 ≡ at + 2 = omega arith in
      let n' : at + 2 + 1 ≡ at + 3 = omega arith in
      let n'' : at + 3 + 1 ≡ at + 4 = omega arith in
      let e₁ = past_one s at 28 _ e in
      let e₂ = rw n at (past_one s (at + 1) a _ e₁) in
      let e₃ = rw n' at (past_one s (at + 2) ty _ e₂) in
      let e₄ = rw n'' at (past_one s (at + 3) (length ps) _ e₃) in
      let P = pairs-there s ns at ps ((x ++ y) ++ rest) (e₄ ∙ append_assoc (pairs 4 ps) (x ++ y) rest) l f in
      let t = two-parts s (at + 12) x y rest P.1 in
      record {
        kind = byte-there s at 28 _ e;
        id = byte-there s (at + 1) a _ e₁;
        type = byte-there s (at + 2) ty _ e₂;
        count = byte-there s (at + 3) (length ps) _ e₃;
        pairs-are = P.0;
        first-term = t.0;
        second-term = t.1;
      }

  complete-routine :
      (left : ℕ) (bs : List Binder) (π : ℕ → ℕ) (st : List ℕ) (at a ty : ℕ) (ps : List Parameter) (x y : Written)
      (rest : List ℕ) → Reads left → Fine N ns bs (procedure a ty ps x y) →
      (ed ≡ Present → Apart bs (procedure a ty ps x y)) → depth x ≤ left → depth y ≤ left →
      drop at s ≡ encode (procedure a ty ps x y) ++ rest → Matches s ns bs π st → length bs + 4 * suc left ≤ 128 →
      Whole ed N s ns left bs st at (procedure a ty ps x y)
  unfolding Fine Apart encode passed after
  complete-routine left bs π st at a ty ps x y rest R f u dx dy e M l =
      let O = open-procedure at a ty ps (encode x) (encode y) rest e f.3 f.4 in
      let P = O.pairs-are in
      let r = made s at Procedure 2 a (length ps) (at + 12) in
      let D = pairs-procedures P O.type O.count f.2 f.3 in
      let c = f.3 in
      let k : length (inside ps bs) ≡ length bs + length ps = inside-length ps bs in
      let M' = matches-passed st at (length bs) ps 0 bs [] M (omega arith) (omega arith) (pairs-at P) f.4 in
      let X = R x (inside ps bs) π (passed s at (length bs) (length ps) st) (at + 12) (encode y ++ rest) f.5 (λ q. (u q).2) dx
      O.first-term (rw (zero-add (length ps)) at M') (omega arith) in
      let Y = R y (after a ty ps bs) (beyond (length bs) π (λ j. at)) (usable st r (length bs))
      (at + 12 + length (encode x)) rest f.7 (λ q. (u q).3) dy O.second-term
      (matches-usable ps r M (omega arith) f.0 f.1 D) (omega arith) in
      complete-procedure ed N s ns left bs st at a ty ps x y O.kind O.id O.type O.count P M f u
      (rw k at X) (rw (add-one (length bs)) Y)

  -- THEOREM: every part that is in order is read
  pub complete-part : (left : ℕ) → Reads left
  unfolding Fine Apart encode depth
  complete-part zero W bs π st at rest f u d e M l = absurd (omega (arith, depth-above W))
  complete-part (suc left) skip bs π st at rest f u d e M l =
      complete-skip ed N s ns left bs st at (open_none s at 16 _ e).0
  complete-part (suc left) (diverge a) bs π st at rest f u d e M l =
      let o = open-one s at 17 a _ e in complete-diverge ed N s ns left bs st at a o.0 o.1 f
  complete-part (suc left) (truth a) bs π st at rest f u d e M l =
      let o = open-one s at 18 a _ e in complete-truth ed N s ns left bs st at a o.0 o.1 f
  complete-part (suc left) (number a) bs π st at rest f u d e M l =
      let o = open-one s at 19 a _ e in complete-number ed N s ns left bs st at a o.0 o.1 f.0 f.1
  complete-part (suc left) (call a ws) bs π st at rest f u d e M l =
      let R = complete-part left in
      complete-call left bs π st at a ws rest R f.0 (omega arith) e M (omega arith) u (meaning ns bs a) refl f.1
      (M.standing a f.0)
  complete-part (suc left) (fetch v) bs π st at rest f u d e M l =
      let R = complete-part left in
      let o = open_none s at 21 _ e in
      complete-fetch ed N s ns left bs st at v o.0 f
      (R v bs π st (at + 1 + 0) rest f.0 u (omega arith) o.1 M (omega arith))
  complete-part (suc left) (operate op x y) bs π st at rest f u d e M l =
      let R = complete-part left in
      let o = open-one s at 22 op _ e in
      let t = two-parts s (at + 1 + 1) (encode x) (encode y) rest o.2 in
      complete-operate ed N s ns left bs st at op x y o.0 o.1 f
      (R x bs π st (at + 1 + 1) (encode y ++ rest) f.1 (λ q. (u q).0) (omega arith) t.0 M (omega arith))
      (R y bs π st (at + 1 + 1 + length (encode x)) rest f.3 (λ q. (u q).1) (omega arith) t.1 M (omega arith))
  complete-part (suc left) (assign x y) bs π st at rest f u d e M l =
      let R = complete-part left in
      let o = open_none s at 23 _ e in
      let t = two-parts s (at + 1 + 0) (encode x) (encode y) rest o.1 in
      complete-assign ed N s ns left bs st at x y o.0 f
      (R x bs π st (at + 1 + 0) (encode y ++ rest) f.0 (λ q. (u q).0) (omega arith) t.0 M (omega arith))
      (R y bs π st (at + 1 + 0 + length (encode x)) rest f.2 (λ q. (u q).1) (omega arith) t.1 M (omega arith))
  complete-part (suc left) (sequence x y) bs π st at rest f u d e M l =
      let R = complete-part left in
      let o = open_none s at 24 _ e in
      let t = two-parts s (at + 1 + 0) (encode x) (encode y) rest o.1 in
      complete-sequence ed N s ns left bs st at x y o.0 f
      (R x bs π st (at + 1 + 0) (encode y ++ rest) f.0 (λ q. (u q).0) (omega arith) t.0 M (omega arith))
      (R y bs π st (at + 1 + 0 + length (encode x)) rest f.2 (λ q. (u q).1) (omega arith) t.1 M (omega arith))
  complete-part (suc left) (choose b x y) bs π st at rest f u d e M l =
      let R = complete-part left in
      let o = open_none s at 25 _ e in
      let t = two-parts s (at + 1 + 0) (encode b) (encode x ++ encode y) rest o.1 in
      let v = two-parts s (at + 1 + 0 + length (encode b)) (encode x) (encode y) rest t.1 in
      complete-choose ed N s ns left bs st at b x y o.0 f
      (R b bs π st (at + 1 + 0) ((encode x ++ encode y) ++ rest) f.0 (λ q. (u q).0) (omega arith) t.0 M
      (omega arith))
      (R x bs π st (at + 1 + 0 + length (encode b)) (encode y ++ rest) f.2 (λ q. (u q).1) (omega arith) v.0 M
      (omega arith))
      (R y bs π st (at + 1 + 0 + length (encode b) + length (encode x)) rest f.3 (λ q. (u q).2) (omega arith) v.1 M
      (omega arith))
  complete-part (suc left) (while x y) bs π st at rest f u d e M l =
      let R = complete-part left in
      let o = open_none s at 26 _ e in
      let t = two-parts s (at + 1 + 0) (encode x) (encode y) rest o.1 in
      complete-while ed N s ns left bs st at x y o.0 f
      (R x bs π st (at + 1 + 0) (encode y ++ rest) f.0 (λ q. (u q).0) (omega arith) t.0 M (omega arith))
      (R y bs π st (at + 1 + 0 + length (encode x)) rest f.2 (λ q. (u q).1) (omega arith) t.1 M (omega arith))
  complete-part (suc left) (new a k c) bs π st at rest f u d e M l =
      let R = complete-part left in
      let o = open-two s at 27 a k _ e in
      let r = made s at New 1 a k (at + 1 + 2) in
      complete-new ed N s ns left bs st at a k c o.0 o.1 o.2 M f u
      (R c (a_block a k ∷ bs) π (entered st r (length bs)) (at + 1 + 2) rest f.4 (λ q. (u q).1) (omega arith)
      o.3
      (matches-entered r M (omega arith) f.0 f.1 f.2 f.3) (omega arith))
  complete-part (suc left) (procedure a ty ps x y) bs π st at rest f u d e M l =
      let R = complete-part left in
      complete-routine left bs π st at a ty ps x y rest R f u (omega arith) (omega arith) e M l
