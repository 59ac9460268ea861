-- What the reader reads is a reading spelled out.
use Prim.Native.Nat.{ℕ, zero, suc, ◌+◌, ◌*◌, ◌≤◌, ◌<◌}
use native.Mathlib.Omega.{arith}
use native.Mathlib.Numerals.{add-one}
use native.Mathlib.Nat.{zero-add}
use mathlib.Core.Path.{◌≡◌, refl, sym, ap, ◌∙◌}
use mathlib.Core.Bool.{true}
use mathlib.Core.List.{List, [], ◌∷◌}
use lib.ListN.{length, get_or, drop}
use borrow.Author.Tests.{eqb-true, leb-true}
use Rattle.language.specs.Number.{in_range}
use Rattle.language.specs.declared.Numbers.{Numbers}
use Rattle.language.specs.Term.{Often}
use Rattle.sheet_records.specs.Standing.{standing_of, count_of, result_of, argument_of}
use Rattle.sheet_parts.specs.Rule.{operand_type, accepts_part, part_type}
use Rattle.sheet_heads.specs.Head.{head_of}
use Rattle.sheet_parts.specs.Scope.{opens, entered, passed, usable}
use Rattle.sheet_records.specs.declared.edition.Edition.{Edition}
use Rattle.sheet_records.specs.declared.edition.Edition.TheVariants.{Present}
use Rattle.sheet_records.specs.declared.kind.Rule.{Rule}
use Rattle.sheet_records.specs.declared.kind.Rule.TheVariants.{Skip, Diverge, Truth, Number, Use, Fetch, Operate, Assign}
use Rattle.sheet_records.specs.declared.kind.Rule.TheVariants.{Sequence, If, While, New, Procedure}
use Rattle.sheet_heads.specs.declared.head.Record.{Record}
use Rattle.sheet_written.specs.Environment.{beyond}
use Rattle.sheet_written.specs.Written.{Name, Parameter}
use Rattle.sheet_written.specs.Meaning.{Binder, a_block, Meaning, private, argument, routine, named, free, declared}
use Rattle.sheet_written.specs.Meaning.{meaning, inside, after}
use Rattle.sheet_written.specs.Hiding.{Unheld, ApartParameters}
use Rattle.sheet_reader.specs.Reader.{Tree, node, Trees, leaf, branch, Answer, got, bind, parts_of, joined, scope_parts}
use Rattle.sheet_reader.specs.Reader.{read_record, read_part, parameters_of}
use Rattle.sheet_reader.proofs.Parsed.{Byte, Stands, Pairs, Parsed, p-skip, p-diverge, p-truth, p-number, p-private}
use Rattle.sheet_reader.proofs.Parsed.{p-parameter, p-use, p-name, p-fetch, p-operate, p-assign, p-sequence, p-if}
use Rattle.sheet_reader.proofs.Parsed.{p-while, p-new, p-procedure, ParsedArgs, p-none, p-more}
use Rattle.sheet_reader.proofs.Answers.{All, one, all_map, bind_all, head-all, head-refused, parts_more}
use Rattle.sheet_reader.proofs.Answers.{record-all}
use Rattle.sheet_reader.proofs.Standings.{Variable, Passed, Routine, Naming, Matches, matches-entered, matches-usable}
use Rattle.sheet_reader.proofs.Standings.{matches-passed, Used, used-private, used-parameter, used-routine, used-name}
use Rattle.sheet_reader.proofs.Standings.{used-id, binder-id, unhiding-apart, naming-says, variable-says, passed-says, routine-says}
use Rattle.sheet_reader.proofs.Heads.{made, Heads, h-skip, h-diverge, h-truth, h-number, h-use, h-fetch, h-operate}
use Rattle.sheet_reader.proofs.Heads.{h-assign, h-sequence, h-if, h-while, h-new, h-procedure, heads}
use Rattle.sheet_reader.proofs.Pairs.{inside-length}
use Rattle.sheet_reader.proofs.Parameters.{body-pairs, body-apart, pairs-at, pairs-procedures}
use Rattle.sheet_records.specs.declared.refusal.Reason.TheVariants.{TooDeep}

stands :
    {s : List ℕ} {at kind parts a b n : ℕ} (body : ℕ) {rule : Rule} → Byte s at kind → n ≡ at + 1 + body →
    Stands s (made s at rule parts a b n) at kind body rule
stands body h e = record { byte = h; place = refl; kinded = h.1; ruled = refl; next = e }

-- the place after a body
after_none : (at : ℕ) → at + 1 + 0 ≡ at + 1
after_none at = omega arith

after_one : (at : ℕ) → at + 1 + 1 ≡ at + 2
after_one at = omega arith

after_two : (at : ℕ) → at + 1 + 2 ≡ at + 3
after_two at = omega arith

after-eleven : (at : ℕ) → at + 1 + 11 ≡ at + 12
after-eleven at = omega arith

-- a list of one part
data Single (R : Tree → ℕ → ℕ → Type 0) (at : ℕ) : Trees → ℕ → ℕ → Type 0 where
  single : {t : Tree} {ty next : ℕ} → R t ty next → Single R at (branch at t leaf) ty next

-- the record at a place, whose parts rec reads inside the binders bs
module _
    (ed : Edition) (N : Numbers) (s : List ℕ) (ns : List Name) (left : ℕ) (bs : List Binder) (π : ℕ → ℕ) (at : ℕ) where
  abbrev Part : ℕ → Tree → ℕ → ℕ → Type 0
  Part p t ty n = Parsed ed N s ns left bs π p t ty n

  abbrev Whole : Tree → ℕ → ℕ → Type 0
  Whole t ty n = Parsed ed N s ns (suc left) bs π at t ty n

  module _
      (rec : List ℕ → ℕ → ℕ → Answer Tree) (st : List ℕ) (sub : (p : ℕ) → All (Part p) (rec st (length bs) p)) where
    part :
        (r : Record) (Q : Trees → ℕ → ℕ → Type 0) (n j prev p : ℕ) →
        ((t : Tree) (ty next : ℕ) → Part p t ty next → accepts_part r.rule s r j prev ty ≡ true →
        All (λ ts last end. Q (branch p t ts) last end) (parts_of (rec st (length bs)) s r n (j + 1) ty next)) →
        All Q (parts_of (rec st (length bs)) s r (suc n) j prev p)
    part r Q n j prev p f = parts_more Part (rec st (length bs)) s r Q n j prev p (sub p) f

    abbrev Reading : Record → Type 0
    Reading r = All Whole (read_record rec s st (length bs) r)

    reads-fetch : Byte s at 21 → Reading (made s at Fetch 1 0 0 (at + 1 + 0))
    unfolding opens scope_parts accepts_part part_type parts_of
    reads-fetch h =
        let r = made s at Fetch 1 0 0 (at + 1) in
        rw (after_none at) (record-all rec s st (length bs) r Whole
        (part r _ 0 0 0 (at + 1) (λ t ty next p e.
        one (p-fetch (stands 0 h (omega arith)) p (leb-true 3 ty e)))))

    reads-operate :
        {a : ℕ} → Byte s at 22 → Byte s (at + 1) a → a < 9 → Reading (made s at Operate 2 a 0 (at + 1 + 1))
    unfolding opens scope_parts accepts_part part_type parts_of
    reads-operate {a} h b l =
        let r = made s at Operate 2 a 0 (at + 2) in
        rw (after_one at) (record-all rec s st (length bs) r Whole
        (part r _ 1 0 0 (at + 2) (λ t ty mid p e. part r _ 0 1 ty mid (λ u ty' next q e'.
        let k = eqb-true ty (operand_type a) e in
        let k' = eqb-true ty' (operand_type a) e' in
        one (p-operate (stands 1 h (omega arith)) b l (rw k at p) (rw k' at q))))))

    reads-assign : Byte s at 23 → Reading (made s at Assign 2 0 0 (at + 1 + 0))
    unfolding opens scope_parts accepts_part part_type parts_of
    reads-assign h =
        let r = made s at Assign 2 0 0 (at + 1) in
        rw (after_none at) (record-all rec s st (length bs) r Whole
        (part r _ 1 0 0 (at + 1) (λ t ty mid p e. part r _ 0 1 ty mid (λ u ty' next q e'.
        let k = sym (eqb-true (ty' + 2) ty e') in
        one (p-assign (stands 0 h (omega arith)) (rw k at p) (omega (arith, leb-true 3 ty e)) q)))))

    reads-sequence : Byte s at 24 → Reading (made s at Sequence 2 0 0 (at + 1 + 0))
    unfolding opens scope_parts accepts_part part_type parts_of
    reads-sequence h =
        let r = made s at Sequence 2 0 0 (at + 1) in
        rw (after_none at) (record-all rec s st (length bs) r Whole
        (part r _ 1 0 0 (at + 1) (λ t ty mid p e. part r _ 0 1 ty mid (λ u ty' next q e'.
        let k = eqb-true ty 0 e in
        one (p-sequence (stands 0 h (omega arith)) (rw k at p) q)))))

    reads-if : Byte s at 25 → Reading (made s at If 3 0 0 (at + 1 + 0))
    unfolding opens scope_parts accepts_part part_type parts_of
    reads-if h =
        let r = made s at If 3 0 0 (at + 1) in
        rw (after_none at) (record-all rec s st (length bs) r Whole
        (part r _ 2 0 0 (at + 1) (λ t ty mid p e. part r _ 1 1 ty mid (λ u ty' mid' q e'.
        part r _ 0 2 ty' mid' (λ x ty'' next o e''.
        let k = eqb-true ty 1 e in
        let k' = sym (eqb-true ty'' ty' e'') in
        one (p-if (stands 0 h (omega arith)) (rw k at p) (rw k' at q) o))))))

    reads-while : Byte s at 26 → Reading (made s at While 2 0 0 (at + 1 + 0))
    unfolding opens scope_parts accepts_part part_type parts_of
    reads-while h =
        let r = made s at While 2 0 0 (at + 1) in
        rw (after_none at) (record-all rec s st (length bs) r Whole
        (part r _ 1 0 0 (at + 1) (λ t ty mid p e. part r _ 0 1 ty mid (λ u ty' next q e'.
        let k = eqb-true ty 1 e in
        let k' = eqb-true ty' 0 e' in
        one (p-while (stands 0 h (omega arith)) (rw k at p) (rw k' at q))))))

    -- arguments j, j + 1, .. of types tys
    reads-args :
        (m a c n : ℕ) (tys : List ℕ) (j prev p : ℕ) →
        ((k : ℕ) → k < length tys → argument_of s (standing_of c) (j + k) ≡ get_or tys k 0) →
        All (λ ts last n. ParsedArgs ed N s ns left bs π p ts tys n)
        (parts_of (rec st (length bs)) s (made s at Use m a c n) (length tys) j prev p)
    unfolding accepts_part parts_of
    reads-args m a c n [] j prev p f = one p-none
    reads-args m a c n (ty ∷ tys) j prev p f =
        let sub' : (ty' mid : ℕ) → _ = λ ty' mid. reads-args m a c n tys (j + 1) ty' mid
        (λ k l. ap (λ (x : ℕ). argument_of s (standing_of c) x) (omega arith) ∙ f (suc k) (omega arith)) in
        part (made s at Use m a c n) _ (length tys) j prev p (λ t ty' mid q e.
        let k : ty' ≡ ty = eqb-true ty' _ e ∙ ap (λ (x : ℕ). argument_of s (standing_of c) x) (omega arith)
        ∙ f 0 (omega arith) in
        all_map _ _ _ (λ ts last end o. p-more (rw k at q) o) (sub' ty' mid))

    -- a use with arguments, by what its standing says
    reads-call :
        (a c : ℕ) {ty : ℕ} {tys : List ℕ} → count_of s (standing_of c) ≡ length tys → result_of s (standing_of c) ≡ ty →
        ((j : ℕ) → j < length tys → argument_of s (standing_of c) j ≡ get_or tys j 0) →
        ((ts : Trees) (end : ℕ) → ParsedArgs ed N s ns left bs π (at + 2) ts tys end →
        Whole (node (made s at Use (length tys) a c (at + 2)) ty (length bs) end ts) ty end) →
        Reading (made s at Use (count_of s (standing_of c)) a c (at + 1 + 1))
    unfolding opens scope_parts part_type
    reads-call a c {ty} {tys} e e' f g =
        let r = made s at Use (length tys) a c (at + 2) in
        rw (e, after_one at) (record-all rec s st (length bs) r Whole
        (all_map _ _ _ (λ ts last end q. rw e' (g ts end q))
        (reads-args (length tys) a c (at + 2) tys 0 0 (at + 2) (λ j u. rw (zero-add j) (f j u)))))

    reads-name :
        (c a : ℕ) {ty : ℕ} {often : Often} {tys : List ℕ} → Byte s at 20 → Byte s (at + 1) a → a < 255 →
        length s ≤ 4096 → meaning ns bs a ≡ named often ty tys → Naming s often ty tys c →
        Reading (made s at Use (count_of s (standing_of c)) a c (at + 1 + 1))
    unfolding count_of result_of argument_of
    reads-name c a {ty} {often} {tys} h b l n e v =
        let o = naming-says v n in
        reads-call a c (rw o v.bytes.count) (rw o v.bytes.result) (λ j u. rw o (v.bytes.argument j u))
        (λ ts end q. p-name (stands 1 h (omega arith)) b l e v.bytes.known refl v.bytes.few
        (omega (arith, v.bytes.inside)) v.stands q)

    reads-use :
        (c a : ℕ) {k ty : ℕ} {tys : List ℕ} → Byte s at 20 → Byte s (at + 1) a → a < 255 → length s ≤ 4096 →
        length bs ≤ 128 → meaning ns bs a ≡ routine k ty tys →
        Routine s π (length bs) (declared ns a) k ty tys c →
        Reading (made s at Use (count_of s (standing_of c)) a c (at + 1 + 1))
    unfolding count_of result_of argument_of
    reads-use c a {k} {ty} {tys} h b l n n' e v =
        let o = routine-says v n' in
        reads-call a c (rw o v.bytes.count) (rw o v.bytes.result) (λ j u. rw o (v.bytes.argument j u))
        (λ ts end q. p-use (stands 1 h (omega arith)) b l e v.bytes.known refl v.bytes.few
        (omega (arith, v.outer)) (omega (arith, v.bytes.inside)) v.stands q)

    reads-private :
        (c a : ℕ) {k h : ℕ} → Byte s at 20 → Byte s (at + 1) a → a < 255 → length bs ≤ 128 →
        meaning ns bs a ≡ private k h → Variable (length bs) (declared ns a) k h c →
        Reading (made s at Use (count_of s (standing_of c)) a c (at + 1 + 1))
    unfolding opens scope_parts part_type parts_of count_of result_of
    reads-private c a {k} {h} z b l n e v =
        let r = made s at Use 0 a c (at + 2) in
        let o = variable-says v n in
        let e' : result_of s (standing_of c) ≡ 2 + h = rw o refl in
        rw (o, after_one at) (record-all rec s st (length bs) r Whole (one (rw e'
        (p-private (stands 1 z (sym (after_one at))) b l e v.above v.below (omega (arith, v.outer))
        v.stands))))

    reads-parameter :
        (c a : ℕ) {k ty : ℕ} → Byte s at 20 → Byte s (at + 1) a → a < 255 → length bs ≤ 128 →
        meaning ns bs a ≡ argument k ty → Passed (length bs) (declared ns a) k ty c →
        Reading (made s at Use (count_of s (standing_of c)) a c (at + 1 + 1))
    unfolding opens scope_parts part_type parts_of count_of result_of
    reads-parameter c a {k} {ty} z b l n e v =
        let r = made s at Use 0 a c (at + 2) in
        let o = passed-says v n in
        let e' : result_of s (standing_of c) ≡ ty = rw o refl in
        rw (o, after_one at) (record-all rec s st (length bs) r Whole (one (rw e'
        (p-parameter (stands 1 z (sym (after_one at))) b l e v.known (omega (arith, v.outer)) v.stands))))

    -- records without parts
    reads-skip : Byte s at 16 → Reading (made s at Skip 0 0 0 (at + 1 + 0))
    unfolding opens scope_parts part_type parts_of
    reads-skip h =
        rw (after_none at) (record-all rec s st (length bs) (made s at Skip 0 0 0 (at + 1)) Whole
        (one (p-skip (stands 0 h (sym (after_none at))))))

    reads-diverge :
        (a : ℕ) → Byte s at 17 → Byte s (at + 1) a → a < 5 → Reading (made s at Diverge 0 a 0 (at + 1 + 1))
    unfolding opens scope_parts part_type parts_of
    reads-diverge a h b l =
        rw (after_one at) (record-all rec s st (length bs) (made s at Diverge 0 a 0 (at + 2)) Whole
        (one (p-diverge (stands 1 h (sym (after_one at))) b l)))

    reads-truth :
        (a : ℕ) → Byte s at 18 → Byte s (at + 1) a → a < 2 → Reading (made s at Truth 0 a 0 (at + 1 + 1))
    unfolding opens scope_parts part_type parts_of
    reads-truth a h b l =
        rw (after_one at) (record-all rec s st (length bs) (made s at Truth 0 a 0 (at + 2)) Whole
        (one (p-truth (stands 1 h (sym (after_one at))) b l)))

    reads-number :
        (a : ℕ) → Byte s at 19 → Byte s (at + 1) a → a < 256 → in_range N a ≡ true →
        Reading (made s at Number 0 a 0 (at + 1 + 1))
    unfolding opens scope_parts part_type parts_of
    reads-number a h b l e =
        rw (after_one at) (record-all rec s st (length bs) (made s at Number 0 a 0 (at + 2)) Whole
        (one (p-number (stands 1 h (sym (after_one at))) b l e)))

  -- a new, whose part rec reads inside one binder more
  reads-new :
      (a d : ℕ) (rec : List ℕ → ℕ → ℕ → Answer Tree) (st : List ℕ) →
      ((p : ℕ) → All (λ t ty n. Parsed ed N s ns left (a_block a d ∷ bs) π p t ty n)
      (rec (entered st (made s at New 1 a d (at + 1 + 2)) (length bs)) (length bs + 1) p)) →
      Byte s at 27 → Byte s (at + 1) a → a < 255 → declared ns a ≡ free → (ed ≡ Present → Unheld bs a) →
      Byte s (at + 2) d → 0 < d → d < 3 →
      All Whole (read_record rec s st (length bs) (made s at New 1 a d (at + 1 + 2)))
  unfolding opens scope_parts accepts_part part_type parts_of
  reads-new a d rec st sub h b l e u b' l' l'' =
      let r = made s at New 1 a d (at + 1 + 2) in
      let Q : ℕ → Tree → ℕ → ℕ → Type 0 = λ p t ty n. Parsed ed N s ns left (a_block a d ∷ bs) π p t ty n in
      record-all rec s st (length bs) r Whole
      (parts_more Q (rec (entered st r (length bs)) (length bs + 1)) s r _ 0 0 0 (at + 1 + 2) (sub (at + 1 + 2))
      (λ t ty next p f. one
      (rw (after_two at) (p-new (stands 2 h (sym (after_two at))) b l e u b' l' l''
      (rw (eqb-true ty 0 f, after_two at) at p)))))

  -- a procedure, whose terms rec reads in their scopes
  module _ (a n : ℕ) (ps : List Parameter) (rec : List ℕ → ℕ → ℕ → Answer Tree) (st : List ℕ) where
    abbrev Term : ℕ → Tree → ℕ → ℕ → Type 0
    Term p t ty n = Parsed ed N s ns left (inside ps bs) π p t ty n

    abbrev Using : ℕ → Tree → ℕ → ℕ → Type 0
    Using p t ty n = Parsed ed N s ns left (after a (get_or s (at + 2) 0) ps bs) (beyond (length bs) π (λ j. at)) p t ty n

    -- the term has the procedure's type
    abbrev First : Tree → ℕ → ℕ → Type 0
    First t ty next = Term (at + 12) t (get_or s (at + 2) 0) next

    abbrev routine_at : Record
    routine_at = made s at Procedure 2 a n (at + 12)

    abbrev Closed : Trees → ℕ → ℕ → Type 0
    Closed ts last end = Whole (node routine_at last (length bs) end ts) last end

    module _
        (sub : (p : ℕ) → All (Term p) (rec (passed s at (length bs) n st) (length bs + n) p))
        (sub' : (p : ℕ) → All (Using p) (rec (usable st routine_at (length bs)) (length bs + 1) p))
        (h : Byte s at 28) (b : Byte s (at + 1) a) (l : a < 255) (e : declared ns a ≡ free)
        (v : ed ≡ Present → Unheld bs a) (w : at + 2 < length s) (k : get_or s (at + 2) 0 < 5) (c : Byte s (at + 3) n)
        (f : n < 5) (P : Pairs s ns at n ps) (v' : ed ≡ Present → ApartParameters bs ps) where
      reads-finish :
          (t : Tree) (mid : ℕ) → Term (at + 12) t (get_or s (at + 2) 0) mid → (us : Trees) (last end : ℕ) →
          Single (Using mid) mid us last end → All Closed (got (joined (branch (at + 12) t leaf) us) last end)
      unfolding joined
      reads-finish t mid p us last end (single q) =
          one (p-procedure (stands 11 h (sym (after-eleven at))) b l e v (w, refl) k c f P v' p q)

      reads_second :
          (ts : Trees) (ty mid : ℕ) → Single First (at + 12) ts ty mid →
          All Closed (bind (parts_of (rec (usable st routine_at (length bs)) (length bs + 1)) s routine_at 1 1 ty mid)
          (λ us last end. got (joined ts us) last end))
      unfolding parts_of
      reads_second ts ty mid (single {t = t} p) =
          bind_all (Single (Using mid) mid) Closed
          (parts_of (rec (usable st routine_at (length bs)) (length bs + 1)) s routine_at 1 1 ty mid) _
          (parts_more Using (rec (usable st routine_at (length bs)) (length bs + 1)) s routine_at _ 0 1 ty mid
          (sub' mid) (λ u last next q e'. one (single q)))
          (λ us last end S. reads-finish t mid p us last end S)

      reads-procedure : All Whole (read_record rec s st (length bs) routine_at)
      unfolding opens scope_parts accepts_part part_type parts_of
      reads-procedure =
          record-all rec s st (length bs) routine_at Whole
          (bind_all (Single First (at + 12)) Closed
          (parts_of (rec (passed s at (length bs) n st) (length bs + n)) s routine_at 1 0 0 (at + 12)) _
          (parts_more Term (rec (passed s at (length bs) n st) (length bs + n)) s routine_at _ 0 0 0 (at + 12)
          (sub (at + 12)) (λ t ty next p q. one (single (rw (eqb-true ty _ q) at p))))
          (λ ts ty mid S. reads_second ts ty mid S))

  -- a record, whose parts the reader reads
  reads-record :
      (st : List ℕ) (r : Record) (rec : List ℕ → ℕ → ℕ → Answer Tree) → Matches s ns bs π st → length bs + 4 ≤ 128 →
      ((bs' : List Binder) (π' : ℕ → ℕ) (st' : List ℕ) → Matches s ns bs' π' st' → length bs' ≤ length bs + 4 →
      (p : ℕ) → All (λ t ty n. Parsed ed N s ns left bs' π' p t ty n) (rec st' (length bs') p)) →
      Heads ed s st N at r → All Whole (read_record rec s st (length bs) r)
  unfolding passed after
  reads-record st r rec M d sub (h-skip h) = reads-skip rec st (sub bs π st M (omega arith)) h
  reads-record st r rec M d sub (h-diverge h b l) = reads-diverge rec st (sub bs π st M (omega arith)) _ h b l
  reads-record st r rec M d sub (h-truth h b l) = reads-truth rec st (sub bs π st M (omega arith)) _ h b l
  reads-record st r rec M d sub (h-number h b l e) = reads-number rec st (sub bs π st M (omega arith)) _ h b l e
  reads-record st r rec M d sub (h-use {a = a} h b l f g) =
      go (meaning ns bs a) refl
      (used-id s π (length bs) (declared ns a) (meaning ns bs a) (get_or st a 0) (M.standing a l) f g)
    where
      go : (m : Meaning) → meaning ns bs a ≡ m → Used s π (length bs) (declared ns a) (get_or st a 0) m →
          All Whole (read_record rec s st (length bs)
          (made s at Use (count_of s (standing_of (get_or st a 0))) a (get_or st a 0) (at + 1 + 1)))
      go m e (used-private v) =
          reads-private rec st (sub bs π st M (omega arith)) (get_or st a 0) a h b l M.nested e v
      go m e (used-parameter v) =
          reads-parameter rec st (sub bs π st M (omega arith)) (get_or st a 0) a h b l M.nested e v
      go m e (used-routine v) =
          reads-use rec st (sub bs π st M (omega arith)) (get_or st a 0) a h b l M.short M.nested e v
      go m e (used-name v) = reads-name rec st (sub bs π st M (omega arith)) (get_or st a 0) a h b l M.short e v
  reads-record st r rec M d sub (h-fetch h) = reads-fetch rec st (sub bs π st M (omega arith)) h
  reads-record st r rec M d sub (h-operate h b l) = reads-operate rec st (sub bs π st M (omega arith)) h b l
  reads-record st r rec M d sub (h-assign h) = reads-assign rec st (sub bs π st M (omega arith)) h
  reads-record st r rec M d sub (h-sequence h) = reads-sequence rec st (sub bs π st M (omega arith)) h
  reads-record st r rec M d sub (h-if h) = reads-if rec st (sub bs π st M (omega arith)) h
  reads-record st r rec M d sub (h-while h) = reads-while rec st (sub bs π st M (omega arith)) h
  reads-record st r rec M d sub (h-new {a = a} {d = k} h b l f u b' l' l'') =
      let e = binder-id M a l f in
      reads-new a k rec st
      (rw (add-one (length bs)) (sub (a_block a k ∷ bs) π _
      (matches-entered (made s at New 1 a k (at + 1 + 2)) M (omega arith) l e l' l'') (omega arith)))
      h b l e (unhiding-apart ed M a l u) b' l' l''
  reads-record st r rec M d sub (h-procedure h B) =
      let a = get_or s (at + 1) 0 in
      let n = get_or s (at + 3) 0 in
      let ps = parameters_of n (drop (at + 4) s) in
      let P : Pairs s ns at n ps = body-pairs ed M at B in
      let e = binder-id M a B.id.below B.id.unnamed in
      let D = pairs-procedures P (B.type-within, refl) (B.count-within, refl) B.type-known B.few in
      rw (after-eleven at) (reads-procedure a n ps rec st
      (scope-term P B.few)
      (rw (add-one (length bs)) (sub (after a (get_or s (at + 2) 0) ps bs) (beyond (length bs) π (λ j. at)) _
      (matches-usable ps (made s at Procedure 2 a n (at + 12)) M (omega arith) B.id.below e D) (scope-use ps)))
      h (B.id.within, refl) B.id.below e (unhiding-apart ed M a B.id.below B.id.unhiding) B.type-within
      B.type-known (B.count-within, refl) B.few P (body-apart ed M at B))
    where
      scope-use : (ps : List Parameter) → length (after (get_or s (at + 1) 0) (get_or s (at + 2) 0) ps bs) ≤ length bs + 4
      scope-use ps = omega arith

      scope-term :
          {n : ℕ} {ps : List Parameter} → Pairs s ns at n ps → n < 5 → (p : ℕ) →
          All (λ t ty n. Parsed ed N s ns left (inside ps bs) π p t ty n)
          (rec (passed s at (length bs) n st) (length bs + n) p)
      scope-term {n} {ps} P f p =
          let c = P.counted in
          let e : 0 + length ps ≡ n = omega arith in
          let k : length (inside ps bs) ≡ length bs + n = inside-length ps bs ∙ omega arith in
          let M' : Matches s ns (inside ps bs) π (passed s at (length bs) (0 + length ps) st) =
          matches-passed st at (length bs) ps 0 bs [] M (omega arith) (omega arith) (pairs-at P) P.fine in
          rw k at (sub (inside ps bs) π (passed s at (length bs) n st) (rw e at M') (omega arith) p)

-- THEOREM: what the reader reads is a reading spelled out
pub parse-all :
    (ed : Edition) (N : Numbers) (s : List ℕ) (ns : List Name) (left : ℕ) (bs : List Binder) (π : ℕ → ℕ) (st : List ℕ)
    (at : ℕ) → Matches s ns bs π st → length bs + 4 * left ≤ 128 →
    All (λ t ty n. Parsed ed N s ns left bs π at t ty n) (read_part ed left N s st (length bs) at)
unfolding read_part
parse-all ed N s ns zero bs π st at M l = head-refused _ (head_of ed s st N 0 at) TooDeep at
parse-all ed N s ns (suc left) bs π st at M l =
    let sub = parse-all ed N s ns left in
    head-all (Heads ed s st N at) _ (head_of ed s st N (suc left) at) _ (heads ed s st N at left)
    (λ r h. reads-record ed N s ns left bs π at st r (read_part ed left N s) M (omega arith)
    (λ bs' π' st' M' l' p. sub bs' π' st' p M' (omega arith)) h)
