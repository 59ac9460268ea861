-- A term that is in order by the earlier rule, in which some binder hides another, is refused by the present one with
-- 16 at the id byte of the first that does.
use Rattle.std.specs.Prelude.{Result, Ok, Err}
use Prim.Native.Nat.{ℕ, zero, suc, ◌+◌, ◌*◌, ◌≤◌, ◌<◌}
use native.Mathlib.Omega.{arith}
use native.Mathlib.Numerals.{add-one}
use native.Mathlib.Nat.{add-zero, zero-add}
use mathlib.Core.Path.{◌≡◌, refl, sym, ap, ap₂, ◌∙◌, subst}
use mathlib.Core.Bool.{Bool, true, false}
use mathlib.Core.List.{List, [], ◌∷◌, ◌++◌, append_assoc}
use lib.ListN.{length, get_or, drop}
use lib.Dec.{eqb-suc-zero}
use borrow.Author.Tests.{eq-eqb, le-leb, lt-leb, lt-ltb}
use Rattle.language.specs.declared.Numbers.{Numbers}
use Rattle.sheet_records.specs.declared.refusal.Refusal.{Refusal}
use Rattle.sheet_records.specs.Kind.{shape_of}
use Rattle.sheet_records.specs.Refusal.{refusal, id_enclosed}
use Rattle.sheet_records.specs.Standing.{standing_of, count_of, argument_of, is_named}
use Rattle.sheet_judgements.specs.Judge.{and_then, hides, apart, unlike, parameter_id, pair, procedure_of}
use Rattle.sheet_heads.specs.Head.{on_byte, with_body, new_of, on_judged, procedure_head, body_of, blank, head_of_shape, head_of}
use Rattle.sheet_parts.specs.Scope.{opens, entered, passed, usable}
use Rattle.sheet_parts.specs.Rule.{operand_type, accepts_part}
use Rattle.sheet_records.specs.declared.edition.Edition.TheVariants.{Earlier, Present}
use Rattle.sheet_records.specs.declared.kind.Rule.{Rule}
use Rattle.sheet_records.specs.declared.kind.Rule.TheVariants.{Use, Fetch, Operate, Assign, Sequence, If, While, New}
use Rattle.sheet_records.specs.declared.kind.Rule.TheVariants.{Procedure}
use Rattle.sheet_parts.specs.declared.scope.Opens.TheVariants.{Nothing}
use Rattle.sheet_heads.specs.declared.head.Record.{Record}
use Rattle.sheet_written.specs.Environment.{beyond}
use Rattle.sheet_written.specs.Written.{Written, Writtens, none, more, skip, diverge, truth, number, call, fetch, operate}
use Rattle.sheet_written.specs.Written.{assign, sequence, while, choose, new, procedure, Parameter, Name}
use Rattle.sheet_written.specs.Meaning.{Binder, a_block, Meaning, private, argument, routine, named, retired, free}
use Rattle.sheet_written.specs.Meaning.{declared, meaning, inside, after, typed}
use Rattle.sheet_written.specs.Fine.{depth, depths, FineUse, Fine, FineArgs}
use Rattle.sheet_written.specs.Width.{width}
use Rattle.sheet_written.specs.Hiding.{is_held, Hiding, hiding_id, hiding_parameters, hiding, all_hiding, ApartRule}
use Rattle.sheet_written.proofs.Hidings.{unheld-id, apart-rule}
use Rattle.sheet_reader.specs.Encoding.{encode, encodes}
use Rattle.sheet_reader.specs.Reader.{Tree, Answer, refused, on_head, parts_of, scope_parts, read_record, read_part}
use Rattle.sheet_reader.proofs.Parsed.{Byte}
use Rattle.sheet_reader.proofs.Standings.{Agrees, Matches, ParametersAt, matches-entered, matches-passed}
use Rattle.sheet_reader.proofs.Standings.{matches-usable, binder-standing, held-standing, apart-unhiding}
use Rattle.sheet_reader.proofs.Standings.{naming-says, routine-says, routine-taken, naming-taken}
use Rattle.sheet_reader.proofs.Judgement.{below-is}
use Rattle.sheet_reader.proofs.Bodies.{Given, Blank, Pair, Body, bound-is, pair_is}
use Rattle.sheet_reader.proofs.Heads.{made, Heads, h-use, h-fetch, h-operate, h-assign, h-sequence, h-if, h-while}
use Rattle.sheet_reader.proofs.Heads.{h-new, byte-is}
use Rattle.sheet_reader.proofs.Bytes.{past, open_none, open-one, open-two, two-parts}
use Rattle.sheet_reader.proofs.Pairs.{inside-length}
use Rattle.sheet_reader.proofs.Parameters.{pairs-at, pairs-procedures, pairs-body}
use Rattle.sheet_reader.proofs.Widths.{wide}
use Rattle.sheet_reader.proofs.Complete.{Read, record-read, depth-above, open-procedure, complete-part}
use Rattle.sheet_reader.proofs.HidingBytes.{Hides, Says, none-hides, hides-as, says-as, hides-either, says-good, good-then}
use Rattle.sheet_reader.proofs.HidingBytes.{then-good, says_then, id-says, judged-hides, part-hides, parts-hide, record-hides}
use Rattle.sheet_reader.proofs.HidingBytes.{terms-hide}

-- the record of a procedure whose body is good by the earlier rule
module _ {s st : List ℕ} {ns : List Name} {bs : List Binder} {π : ℕ → ℕ} (M : Matches s ns bs π st) (at : ℕ) where
  -- the id at a place
  apart-says : (p id : ℕ) → get_or s p 0 ≡ id → id < 255 → Says (hiding_id bs p id) (apart Present s st p)
  unfolding apart hides
  apart-says p id e l = id-says bs p id (rw (e, held-standing M id l) refl)

  used-says : (j id : ℕ) → j < get_or s (at + 3) 0 → get_or s (at + 4 + 2 * j) 0 ≡ id → Given Earlier s st at j →
      Says (hiding_id bs (at + 4 + 2 * j) id) (pair Present s st at j)
  unfolding pair parameter_id unlike
  used-says j id h e G =
      rw (lt-ltb j (get_or s (at + 3) 0) h)
      (then-good
      (good-then (bound-is s st (at + 4 + 2 * j) G.id)
      (good-then (rw G.unlike refl)
      (apart-says (at + 4 + 2 * j) id e (subst (λ (x : ℕ). x < 255) e G.id.below))))
      (below-is s (at + 5 + 2 * j) 5 G.within G.known))

  blank-is : (j : ℕ) → get_or s (at + 3) 0 ≤ j → Blank s at j → pair Present s st at j ≡ Ok tt
  blank-is j h B =
      pair_is Present s st at j (record { used = λ l. absurd (omega (arith, h, l)); padding = λ l. B })

  -- n pairs, from pair j on
  unfoldable chain : ℕ → ℕ → Result (Unit {0}) Refusal
  chain zero j = Ok tt
  chain (suc n) j = and_then (pair Present s st at j) (chain n (suc j))

  chain-says : (n j : ℕ) (ps : List Parameter) → ParametersAt s at j ps → get_or s (at + 3) 0 ≤ j + length ps →
      (0 < length ps → j + length ps ≤ get_or s (at + 3) 0) → length ps ≤ n → j + n ≤ 4 →
      ((k : ℕ) → k < 4 → Pair Earlier s st at k) → Says (hiding_parameters bs (at + 4 + 2 * j) ps) (chain n j)
  unfolding chain hiding_parameters ParametersAt
  chain-says zero j [] a c d l m P = says-good refl
  chain-says zero j (p ∷ ps) a c d l m P = absurd (omega arith)
  chain-says (suc n) j [] a c d l m P =
      good-then (blank-is j (omega arith) ((P j (omega arith)).padding (omega arith)))
      (chain-says n (suc j) [] tt (omega arith) (λ z. absurd (omega (arith, z))) (omega arith) (omega arith) P)
  chain-says (suc n) j (p ∷ ps) a c d l m P =
      let q = at + 4 + 2 * j in
      let h : j + suc (length ps) ≤ get_or s (at + 3) 0 = d (omega arith) in
      let e : 2 + q ≡ at + 4 + 2 * suc j = omega arith in
      says_then (hiding_id bs q p.id) (hiding_parameters bs (2 + q) ps)
      (used-says j p.id (omega arith) a.0 ((P j (omega arith)).used (omega arith)))
      (says-as (ap (λ (x : ℕ). hiding_parameters bs x ps) e)
      (chain-says n (suc j) ps a.2 (omega arith) (λ z. omega arith) (omega arith) (omega arith) P))

  and-good : (J : Result (Unit {0}) Refusal) → and_then J (Ok tt) ≡ J
  unfolding and_then
  and-good (Ok x) = refl
  and-good (Err x) = refl

  procedure-says : (id : ℕ) (ps : List Parameter) → Body Earlier s st at → get_or s (at + 1) 0 ≡ id →
      ParametersAt s at 0 ps → get_or s (at + 3) 0 ≡ length ps →
      Says (hiding_id bs (at + 1) id ++ hiding_parameters bs (at + 4) ps) (procedure_of Present s st at)
  unfolding procedure_of chain
  procedure-says id ps B e a c =
      let f : at + 4 ≡ at + 4 + 2 * 0 = omega arith in
      let C = chain-says 4 0 ps a (omega arith) (λ z. omega arith) (omega (arith, B.few)) (omega arith) B.pairs in
      let D = rw (and-good (pair Present s st at 3)) at C in
      good-then (bound-is s st (at + 1) B.id)
      (says_then (hiding_id bs (at + 1) id) (hiding_parameters bs (at + 4) ps)
      (apart-says (at + 1) id e (subst (λ (x : ℕ). x < 255) e B.id.below))
      (good-then (below-is s (at + 2) 5 B.type-within B.type-known)
      (good-then (below-is s (at + 3) 5 B.count-within B.few)
      (says-as (ap (λ (x : ℕ). hiding_parameters bs x ps) f) D))))

-- a part that is read where nothing hides, and refused where something does
module _ (N : Numbers) (s : List ℕ) (ns : List Name) where
  record Done (left : ℕ) (W : Written) (bs : List Binder) (st : List ℕ) (at : ℕ) : Type 0 where
    hidden : Hides (hiding bs at W) (read_part Present left N s st (length bs) at)
    clear : hiding bs at W ≡ [] →
        Read s (read_part Present left N s st (length bs) at) W (typed ns bs W) (at + length (encode W))

  module _ (left : ℕ) (bs : List Binder) (st : List ℕ) (at : ℕ) where
    abbrev sub : List ℕ → ℕ → ℕ → Answer Tree
    sub = read_part Present left N s

    abbrev rec : ℕ → Answer Tree
    rec = read_part Present left N s st (length bs)

    abbrev Whole : List Hiding → Type 0
    Whole hs = Hides hs (read_part Present (suc left) N s st (length bs) at)

    from-record : {r : Record} {hs : List Hiding} → Heads Present s st N at r →
        Hides hs (scope_parts (opens r.rule) sub s st (length bs) r) → Whole hs
    from-record {r} h H = record {
      stops = λ g gs e.
          record-read Present N s ns left bs st at h ∙ (record-hides sub s st (length bs) r H).stops g gs e;
    }

    one-hides : (v : Written) (p : ℕ) → Heads Present s st N at (made s at Fetch 1 0 0 p) → Done left v bs st p →
        Whole (hiding bs p v)
    unfolding opens scope_parts
    one-hides v p h D = from-record h (part-hides rec s (made s at Fetch 1 0 0 p) 0 0 0 p D.hidden)

    -- two parts in the scope of the record
    two-hide : (rule : Rule) (a p u v : ℕ) (x y : Written) → Heads Present s st N at (made s at rule 2 a 0 p) →
        opens rule ≡ Nothing → u ≡ p → v ≡ p + length (encode x) →
        accepts_part rule s (made s at rule 2 a 0 p) 0 0 (typed ns bs x) ≡ true → Done left x bs st p →
        Done left y bs st (p + length (encode x)) → Whole (hiding bs u x ++ hiding bs v y)
    unfolding scope_parts
    two-hide rule a p u v x y h o e f k D E =
        let r = made s at rule 2 a 0 p in
        let q = p + length (encode x) in
        let H = parts-hide rec s r 1 0 0 p (hiding bs p x) (hiding bs q y) D.hidden D.clear k
        (part-hides rec s r 0 1 (typed ns bs x) q E.hidden) in
        hides-as (ap₂ (λ (i j : ℕ). hiding bs i x ++ hiding bs j y) e f) (from-record h (rw o H))

    three-hide : (b x y : Written) → Byte s at 25 → typed ns bs b ≡ 1 → Done left b bs st (at + 1 + 0) →
        Done left x bs st (at + 1 + 0 + length (encode b)) →
        Done left y bs st (at + 1 + 0 + length (encode b) + length (encode x)) → Whole (hiding bs at (choose b x y))
    unfolding opens scope_parts accepts_part hiding
    three-hide b x y k f D E F =
        let r = made s at If 3 0 0 (at + 1 + 0) in
        let p = at + 1 + 0 in
        let q = p + length (encode b) in
        let w = q + length (encode x) in
        let e : 1 + at ≡ p = omega arith in
        let e' : 1 + at + width b ≡ q = omega (arith, wide b) in
        let e'' : 1 + at + width b + width x ≡ w = omega (arith, wide b, wide x) in
        let H = parts-hide rec s r 2 0 0 p (hiding bs p b) (hiding bs q x ++ hiding bs w y) D.hidden D.clear
        (eq-eqb (typed ns bs b) 1 f)
        (parts-hide rec s r 1 1 (typed ns bs b) q (hiding bs q x) (hiding bs w y) E.hidden E.clear refl
        (part-hides rec s r 0 2 (typed ns bs x) w F.hidden)) in
        hides-as
        (ap₂ (λ (l m : List Hiding). l ++ m) (ap (λ (i : ℕ). hiding bs i b) e)
        (ap₂ (λ (i j : ℕ). hiding bs i x ++ hiding bs j y) e' e''))
        (from-record (h-if k) H)

    -- a new on the id of an enclosing binder
    new-head : {a : ℕ} → Byte s at 27 → Byte s (at + 1) a → a < 255 → is_named (standing_of (get_or st a 0)) ≡ false →
        hides Present (standing_of (get_or st a 0)) ≡ true →
        head_of Present s st N (suc left) at ≡ Err (refusal id_enclosed (at + 1))
    unfolding head_of shape_of head_of_shape body_of new_of on_byte blank
    new-head (l, e) b h f u = rw (lt-leb (length s) at l, e, eqb-suc-zero left, byte-is s (at + 1) 255 b h, f, u) refl

    new-refused : {π : ℕ → ℕ} (a : ℕ) → Matches s ns bs π st → Byte s at 27 → Byte s (at + 1) a → a < 255 →
        declared ns a ≡ free → Whole (hiding_id bs (at + 1) a)
    unfolding hiding_id read_part on_head hides
    new-refused a M b b' l f = record { stops = λ h gs e. go h gs e (is_held bs a) refl }
      where
        go : (h : Hiding) (gs : List Hiding) → hiding_id bs (at + 1) a ≡ h ∷ gs → (t : Bool) → is_held bs a ≡ t →
            read_part Present (suc left) N s st (length bs) at ≡ refused id_enclosed h.place
        go h gs e true t =
            let e' : record { place = at + 1; id = a } ∷ [] ≡ h ∷ gs = rw t at e in
            let k : record { place = at + 1; id = a } ≡ h = cc e' in
            rw (new-head b b' l (binder-standing M a l f) (held-standing M a l ∙ t))
            (ap (λ (v : Hiding). refused id_enclosed v.place) k)
        go h gs e false t =
            let e' : [] ≡ h ∷ gs = rw t at e in
            let z : ◌≡◌ {A = ℕ} 0 1 = cc e' in absurd (omega arith)

    new-hides : {π : ℕ → ℕ} (a d : ℕ) (c : Written) → Matches s ns bs π st → Byte s at 27 → Byte s (at + 1) a →
        Byte s (at + 2) d → Fine N ns bs (new a d c) →
        Hides (hiding (a_block a d ∷ bs) (at + 1 + 2) c)
        (sub (entered st (made s at New 1 a d (at + 1 + 2)) (length bs)) (suc (length bs)) (at + 1 + 2)) →
        Whole (hiding bs at (new a d c))
    unfolding Fine opens scope_parts hiding
    new-hides a d c M b b' b'' f H =
        let r = made s at New 1 a d (at + 1 + 2) in
        let e : 1 + at ≡ at + 1 = omega arith in
        let e' : 3 + at ≡ at + 1 + 2 = omega arith in
        let hs = hiding_id bs (at + 1) a in
        let ks = hiding (a_block a d ∷ bs) (at + 1 + 2) c in
        hides-as
        (ap₂ (λ (l m : List Hiding). l ++ m) (ap (λ (i : ℕ). hiding_id bs i a) e)
        (ap (λ (i : ℕ). hiding (a_block a d ∷ bs) i c) e'))
        (hides-either hs ks _ (new-refused a M b b' f.0 f.1) (λ z.
        from-record
        (h-new b b' f.0 (binder-standing M a f.0 f.1)
        (apart-unhiding Present M a f.0 (λ q. unheld-id bs (at + 1) a z)) b'' f.2 f.3)
        (part-hides (sub (entered st r (length bs)) (length bs + 1)) s r 0 0 0 (at + 1 + 2)
        (rw (← add-one (length bs)) at H))))

    -- arguments j, j + 1, .. of a use
    use-hides : (a : ℕ) (ws : Writtens) (tys : List ℕ) → Byte s at 20 → Byte s (at + 1) a → a < 255 →
        (get_or st a 0 ≡ 0 → ⊥) × (get_or st a 0 ≡ 1 → ⊥) → count_of s (standing_of (get_or st a 0)) ≡ length tys →
        Hides (all_hiding bs (at + 1 + 1) ws)
        (parts_of rec s (made s at Use (length tys) a (get_or st a 0) (at + 1 + 1)) (length tys) 0 0 (at + 1 + 1)) →
        Whole (hiding bs at (call a ws))
    unfolding opens scope_parts hiding
    use-hides a ws tys b b' l t e H =
        let h : Heads Present s st N at
        (made s at Use (count_of s (standing_of (get_or st a 0))) a (get_or st a 0) (at + 1 + 1)) =
        h-use b b' l t.0 t.1 in
        let k : 2 + at ≡ at + 1 + 1 = omega arith in
        hides-as (ap (λ (i : ℕ). all_hiding bs i ws) k) (from-record (rw e at h) H)

    -- the head of a procedure
    procedure-head : Byte s at 28 → head_of Present s st N (suc left) at
        ≡ on_judged (procedure_of Present s st at)
        (Ok (made s at Procedure 2 (get_or s (at + 1) 0) (get_or s (at + 3) 0) (at + 1 + 11)))
    unfolding head_of shape_of head_of_shape body_of procedure_head with_body blank
    procedure-head (l, e) = rw (lt-leb (length s) at l, e, eqb-suc-zero left) refl

    procedure-hides : (r : Record) (hs ks : List Hiding) → Byte s at 28 →
        made s at Procedure 2 (get_or s (at + 1) 0) (get_or s (at + 3) 0) (at + 1 + 11) ≡ r →
        Says hs (procedure_of Present s st at) → Hides ks (read_record sub s st (length bs) r) → Whole (hs ++ ks)
    unfolding read_part
    procedure-hides r hs ks b e S H =
        rw (procedure-head b, e) (judged-hides hs ks r (λ x. read_record sub s st (length bs) x) S H)

  abbrev Hidden : ℕ → Type 0
  Hidden left =
      (W : Written) (bs : List Binder) (π : ℕ → ℕ) (st : List ℕ) (at : ℕ) (rest : List ℕ) → Fine N ns bs W →
      depth W ≤ left → drop at s ≡ encode W ++ rest → Matches s ns bs π st → length bs + 4 * left ≤ 128 →
      Hides (hiding bs at W) (read_part Present left N s st (length bs) at)

  done :
      (left : ℕ) → Hidden left → (W : Written) (bs : List Binder) (π : ℕ → ℕ) (st : List ℕ) (at : ℕ) (rest : List ℕ) →
      Fine N ns bs W → depth W ≤ left → drop at s ≡ encode W ++ rest → Matches s ns bs π st →
      length bs + 4 * left ≤ 128 → Done left W bs st at
  unfolding ApartRule
  done left R W bs π st at rest f d e M l = record {
    hidden = R W bs π st at rest f d e M l;
    clear = λ z. complete-part Present N s ns left W bs π st at rest f (λ q. (apart-rule W bs at).1 z) d e M l;
  }

  args-hide :
      (left : ℕ) (bs : List Binder) (π : ℕ → ℕ) (st : List ℕ) (at m a c : ℕ) → Hidden left → Matches s ns bs π st →
      length bs + 4 * left ≤ 128 →
      (ws : Writtens) (tys : List ℕ) (j prev p : ℕ) (rest : List ℕ) → FineArgs N ns bs ws tys → depths ws ≤ left →
      drop p s ≡ encodes ws ++ rest →
      ((k : ℕ) → k < length tys → argument_of s (standing_of c) (j + k) ≡ get_or tys k 0) →
      Hides (all_hiding bs p ws)
      (parts_of (rec left bs st at) s (made s at Use m a c (at + 1 + 1)) (length tys) j prev p)
  unfolding FineArgs depths encodes all_hiding accepts_part
  args-hide left bs π st at m a c R M l none [] j prev p rest f d e g = none-hides _
  args-hide left bs π st at m a c R M l none (ty ∷ tys) j prev p rest f d e g = absurd f
  args-hide left bs π st at m a c R M l (more w ws) [] j prev p rest f d e g = absurd f
  args-hide left bs π st at m a c R M l (more w ws) (ty ∷ tys) j prev p rest f d e g =
      let r = made s at Use m a c (at + 1 + 1) in
      let e' : drop p s ≡ encode w ++ (encodes ws ++ rest) = e ∙ append_assoc (encode w) (encodes ws) rest in
      let D = done left R w bs π st p (encodes ws ++ rest) f.0 (omega arith) e' M l in
      let q = p + length (encode w) in
      let t : argument_of s (standing_of c) j ≡ ty =
      ap (λ (x : ℕ). argument_of s (standing_of c) x) (sym (add-zero j)) ∙ g 0 (omega arith) in
      let K = args-hide left bs π st at m a c R M l ws tys (j + 1) (typed ns bs w) q rest f.2 (omega arith)
      (past s p (encode w) (encodes ws ++ rest) e')
      (λ k i. ap (λ (x : ℕ). argument_of s (standing_of c) x) (shift j k) ∙ g (suc k) (omega arith)) in
      hides-as (ap (λ (n : ℕ). hiding bs p w ++ all_hiding bs (p + n) ws) (sym (wide w)))
      (parts-hide (rec left bs st at) s r (length tys) j prev p (hiding bs p w) (all_hiding bs q ws) D.hidden
      D.clear (eq-eqb (typed ns bs w) _ (f.1 ∙ sym t)) K)
    where
      shift : (j k : ℕ) → j + 1 + k ≡ j + suc k
      shift j k = omega arith

  -- a use, by what its id means
  call-hides :
      (left : ℕ) (bs : List Binder) (π : ℕ → ℕ) (st : List ℕ) (at a : ℕ) (ws : Writtens) (rest : List ℕ) → Hidden left →
      a < 255 → depths ws ≤ left → drop at s ≡ 20 ∷ a ∷ (encodes ws ++ rest) → Matches s ns bs π st →
      length bs + 4 * left ≤ 128 → (m : Meaning) → FineUse m (ws ≡ none) (λ tys. FineArgs N ns bs ws tys) →
      Agrees s π (length bs) (declared ns a) m (get_or st a 0) → Whole left bs st at (hiding bs at (call a ws))
  unfolding FineUse Agrees count_of argument_of hiding all_hiding
  call-hides left bs π st at a ws rest R l d e M k (private i h) f v = rw f (none-hides _)
  call-hides left bs π st at a ws rest R l d e M k (argument i ty) f v = rw f (none-hides _)
  call-hides left bs π st at a ws rest R l d e M k (routine i ty tys) f v =
      let o = open-one s at 20 a _ e in
      let y = routine-says v M.nested in
      use-hides left bs st at a ws tys o.0 o.1 l (routine-taken v) (rw y v.bytes.count)
      (args-hide left bs π st at (length tys) a (get_or st a 0) R M k ws tys 0 0 (at + 1 + 1) rest f d o.2
      (λ j i. rw (y, zero-add j) (v.bytes.argument j i)))
  call-hides left bs π st at a ws rest R l d e M k (named often ty tys) f v =
      let o = open-one s at 20 a _ e in
      let y = naming-says v M.short in
      use-hides left bs st at a ws tys o.0 o.1 l (naming-taken v) (rw y v.bytes.count)
      (args-hide left bs π st at (length tys) a (get_or st a 0) R M k ws tys 0 0 (at + 1 + 1) rest f d o.2
      (λ j i. rw (y, zero-add j) (v.bytes.argument j i)))
  call-hides left bs π st at a ws rest R l d e M k retired f v = absurd f
  call-hides left bs π st at a ws rest R l d e M k free f v = absurd f

  routine-hides :
      (left : ℕ) (bs : List Binder) (π : ℕ → ℕ) (st : List ℕ) (at a ty : ℕ) (ps : List Parameter) (x y : Written)
      (rest : List ℕ) → Hidden left → Fine N ns bs (procedure a ty ps x y) → depth x ≤ left → depth y ≤ left →
      drop at s ≡ encode (procedure a ty ps x y) ++ rest → Matches s ns bs π st → length bs + 4 * suc left ≤ 128 →
      Whole left bs st at (hiding bs at (procedure a ty ps x y))
  unfolding Fine encode passed after hiding opens accepts_part
  routine-hides left bs π st at a ty ps x y rest R f dx dy e M l =
      let O = open-procedure Present N s ns at a ty ps (encode x) (encode y) rest e f.3 f.4 in
      let P = O.pairs-are in
      let r = made s at Procedure 2 a (length ps) (at + 12) in
      let w : at + 1 + 11 ≡ at + 12 = omega arith in
      let D = pairs-procedures P O.type O.count f.2 f.3 in
      let k : length (inside ps bs) ≡ length bs + length ps = inside-length ps bs in
      let never : Earlier ≡ Present → ⊥ = λ q. let z : ◌≡◌ {A = ℕ} 0 1 = cc q in omega (arith, z) in
      let B = pairs-body P Earlier M O.id f.0 f.1 (λ q. absurd (never q)) O.type f.2 O.count f.3
      (λ q. absurd (never q)) in
      let M' = matches-passed st at (length bs) ps 0 bs [] M (omega arith) (omega arith) (pairs-at P) f.4 in
      let X = done left R x (inside ps bs) π (passed s at (length bs) (length ps) st) (at + 12) (encode y ++ rest)
      f.5 dx O.first-term (rw (zero-add (length ps)) at M') (omega arith) in
      let Y = R y (after a ty ps bs) (beyond (length bs) π (λ j. at)) (usable st r (length bs))
      (at + 12 + length (encode x)) rest f.7 dy O.second-term
      (matches-usable ps r M (omega arith) f.0 f.1 D) (omega arith) in
      let hs = hiding (inside ps bs) (at + 12) x in
      let ks = hiding (after a ty ps bs) (at + 12 + length (encode x)) y in
      let is = hiding_id bs (at + 1) a in
      let js = hiding_parameters bs (at + 4) ps in
      let S = procedure-says M at a ps B O.id.1 (pairs-at P) O.count.1 in
      let T = terms-hide (sub left bs st at) s st (length bs) r hs ks (rw k at X.hidden) (rw k at X.clear)
      (eq-eqb _ (get_or s (at + 2) 0) (f.6 ∙ sym O.type.1)) (rw (add-one (length bs)) Y) in
      let H = procedure-hides left bs st at r (is ++ js) (hs ++ ks) O.kind (rw (O.id.1, O.count.1, w) refl) S
      (record-hides (sub left bs st at) s st (length bs) r T) in
      let e₁ : 1 + at ≡ at + 1 = omega arith in
      let e₂ : 4 + at ≡ at + 4 = omega arith in
      let e₃ : 12 + at ≡ at + 12 = omega arith in
      let e₄ : 12 + at + width x ≡ at + 12 + length (encode x) = omega (arith, wide x) in
      hides-as
      (ap₂ (λ (u v : ℕ). hiding_id bs u a ++ (hiding_parameters bs v ps
      ++ (hiding (inside ps bs) (12 + at) x ++ hiding (after a ty ps bs) (12 + at + width x) y))) e₁ e₂
      ∙ ap₂ (λ (u v : ℕ). is ++ (js ++ (hiding (inside ps bs) u x ++ hiding (after a ty ps bs) v y))) e₃ e₄
      ∙ sym (append_assoc is js (hs ++ ks)))
      H

  -- THEOREM: a part in which some binder hides another is refused at the first that does
  pub hidden-part : (left : ℕ) → Hidden left
  unfolding Fine encode depth hiding opens accepts_part
  hidden-part zero W bs π st at rest f d e M l = absurd (omega (arith, depth-above W))
  hidden-part (suc left) skip bs π st at rest f d e M l = none-hides _
  hidden-part (suc left) (diverge a) bs π st at rest f d e M l = none-hides _
  hidden-part (suc left) (truth a) bs π st at rest f d e M l = none-hides _
  hidden-part (suc left) (number a) bs π st at rest f d e M l = none-hides _
  hidden-part (suc left) (call a ws) bs π st at rest f d e M l =
      let R = hidden-part left in
      call-hides left bs π st at a ws rest R f.0 (omega arith) e M (omega arith) (meaning ns bs a) f.1
      (M.standing a f.0)
  hidden-part (suc left) (fetch v) bs π st at rest f d e M l =
      let R = hidden-part left in
      let o = open_none s at 21 _ e in
      let p : 1 + at ≡ at + 1 + 0 = omega arith in
      hides-as (ap (λ (i : ℕ). hiding bs i v) p)
      (one-hides left bs st at v (at + 1 + 0) (h-fetch o.0)
      (done left R v bs π st (at + 1 + 0) rest f.0 (omega arith) o.1 M (omega arith)))
  hidden-part (suc left) (operate op x y) bs π st at rest f d e M l =
      let R = hidden-part left in
      let o = open-one s at 22 op _ e in
      let p = at + 1 + 1 in
      let t = two-parts s p (encode x) (encode y) rest o.2 in
      two-hide left bs st at Operate op p (2 + at) (2 + at + width x) x y (h-operate o.0 o.1 f.0) refl
      (omega arith) (omega (arith, wide x)) (eq-eqb (typed ns bs x) (operand_type op) f.2)
      (done left R x bs π st p (encode y ++ rest) f.1 (omega arith) t.0 M (omega arith))
      (done left R y bs π st (p + length (encode x)) rest f.3 (omega arith) t.1 M (omega arith))
  hidden-part (suc left) (assign x y) bs π st at rest f d e M l =
      let R = hidden-part left in
      let o = open_none s at 23 _ e in
      let p = at + 1 + 0 in
      let t = two-parts s p (encode x) (encode y) rest o.1 in
      two-hide left bs st at Assign 0 p (1 + at) (1 + at + width x) x y (h-assign o.0) refl
      (omega arith) (omega (arith, wide x)) (le-leb 3 (typed ns bs x) f.1)
      (done left R x bs π st p (encode y ++ rest) f.0 (omega arith) t.0 M (omega arith))
      (done left R y bs π st (p + length (encode x)) rest f.2 (omega arith) t.1 M (omega arith))
  hidden-part (suc left) (sequence x y) bs π st at rest f d e M l =
      let R = hidden-part left in
      let o = open_none s at 24 _ e in
      let p = at + 1 + 0 in
      let t = two-parts s p (encode x) (encode y) rest o.1 in
      two-hide left bs st at Sequence 0 p (1 + at) (1 + at + width x) x y (h-sequence o.0) refl
      (omega arith) (omega (arith, wide x)) (eq-eqb (typed ns bs x) 0 f.1)
      (done left R x bs π st p (encode y ++ rest) f.0 (omega arith) t.0 M (omega arith))
      (done left R y bs π st (p + length (encode x)) rest f.2 (omega arith) t.1 M (omega arith))
  hidden-part (suc left) (choose b x y) bs π st at rest f d e M l =
      let R = hidden-part left in
      let o = open_none s at 25 _ e in
      let p = at + 1 + 0 in
      let t = two-parts s p (encode b) (encode x ++ encode y) rest o.1 in
      let v = two-parts s (p + length (encode b)) (encode x) (encode y) rest t.1 in
      three-hide left bs st at b x y o.0 f.1
      (done left R b bs π st p ((encode x ++ encode y) ++ rest) f.0 (omega arith) t.0 M (omega arith))
      (done left R x bs π st (p + length (encode b)) (encode y ++ rest) f.2 (omega arith) v.0 M (omega arith))
      (done left R y bs π st (p + length (encode b) + length (encode x)) rest f.3 (omega arith) v.1 M
      (omega arith))
  hidden-part (suc left) (while x y) bs π st at rest f d e M l =
      let R = hidden-part left in
      let o = open_none s at 26 _ e in
      let p = at + 1 + 0 in
      let t = two-parts s p (encode x) (encode y) rest o.1 in
      two-hide left bs st at While 0 p (1 + at) (1 + at + width x) x y (h-while o.0) refl
      (omega arith) (omega (arith, wide x)) (eq-eqb (typed ns bs x) 1 f.1)
      (done left R x bs π st p (encode y ++ rest) f.0 (omega arith) t.0 M (omega arith))
      (done left R y bs π st (p + length (encode x)) rest f.2 (omega arith) t.1 M (omega arith))
  hidden-part (suc left) (new a k c) bs π st at rest f d e M l =
      let R = hidden-part left in
      let o = open-two s at 27 a k _ e in
      let r = made s at New 1 a k (at + 1 + 2) in
      new-hides left bs st at a k c M o.0 o.1 o.2 f
      (R c (a_block a k ∷ bs) π (entered st r (length bs)) (at + 1 + 2) rest f.4 (omega arith) o.3
      (matches-entered r M (omega arith) f.0 f.1 f.2 f.3) (omega arith))
  hidden-part (suc left) (procedure a ty ps x y) bs π st at rest f d e M l =
      let R = hidden-part left in
      routine-hides left bs π st at a ty ps x y rest R f (omega arith) (omega arith) e M l
