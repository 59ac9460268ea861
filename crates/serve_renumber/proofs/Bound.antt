-- The records of a term, one after the other: the ids that they bind are taken.
use Prim.Native.Nat.{ℕ, zero, suc, ◌+◌, ◌≤◌, ◌<◌, min}
use native.Mathlib.Omega.{arith}
use mathlib.Core.Path.{◌≡◌, refl, sym, ap, ap₂, ◌∙◌, subst}
use mathlib.Core.Bool.{Bool, true, false, ◌||◌}
use mathlib.Core.List.{List, [], ◌∷◌, ◌++◌, append_assoc, append-nil}
use lib.ListN.{length, get_or, set, drop, length-append}
use lib.Seq.{drop-append_seam, drop-drop}
use lib.Dec.{eqb}
use Rattle.language.specs.declared.Numbers.{Numbers}
use Rattle.sheet_records.specs.Kind.{shape_of, body_in}
use Rattle.sheet_written.specs.Written.{Written, skip, diverge, truth, number, call, fetch, operate, assign, sequence}
use Rattle.sheet_written.specs.Written.{while, choose, new, procedure, Parameter, Writtens, none, more, Name, Sheet}
use Rattle.sheet_written.specs.Meaning.{Binder, a_block, inside, after, meaning}
use Rattle.sheet_written.specs.Fine.{Fine}
use Rattle.sheet_written.specs.Width.{heading_width}
use Rattle.sheet_written.specs.Renumber.{holds_id, put, is_named, is_bound, is_bound_in, taken_at_first}
use Rattle.sheet_written.proofs.Tests.{by-test}
use Rattle.sheet_reader.specs.Encoding.{pairs, encode, encodes, encode_names, encode_sheet}
use Rattle.sheet_reader.specs.Reader.{accepted}
use Rattle.sheet_records.specs.declared.edition.Edition.TheVariants.{Earlier}
use Rattle.sheet_reader.proofs.Right.{gives}
use Rattle.serve_renumber.specs.Outcome.{read_earlier}
use Rattle.serve_renumber.specs.Work.{Takes, took_parameters, took_ids, Lies}
use Rattle.serve_renumber.specs.Found.{AllFine, Taken}
use Rattle.serve_renumber.proofs.Leaves.{took-new, took-procedure, took-nothing}
use Rattle.serve_renumber.proofs.Lists.{lies-get, lies-head, lies-after, lies-first}
use Rattle.sheet_reader.proofs.Pairs.{pairs-length}
use Rattle.sheet_reader.proofs.Widths.{wide, wide-heading, width_some}
use Rattle.serve_renumber.proofs.Entries.{takes-put, takes_same}
use Rattle.serve_renumber.proofs.Steps.{use-arity}
use Rattle.serve_renumber.proofs.Plain.{one-bytes, two_bytes, three-bytes}
use Rattle.serve_renumber.proofs.Names.{or-false, or_assoc, or_swap, put-or}

-- terms that are in order, each in its scope
pub data Pending (N : Numbers) (ns : List Name) : Writtens → Type 0 where
  no_more : Pending N ns none
  one_more : {w : Written} {ws : Writtens} (bs : List Binder) → Fine N ns bs w → Pending N ns ws → Pending N ns
      (more w ws)

-- terms and then others
joined : Writtens → Writtens → Writtens
joined none us = us
joined (more w ws) us = more w (joined ws us)

joined_bytes : (ws us : Writtens) → encodes (joined ws us) ≡ encodes ws ++ encodes us
unfolding joined encodes
joined_bytes none us = refl
joined_bytes (more w ws) us =
    ap (λ (x : List ℕ). encode w ++ x) (joined_bytes ws us) ∙ sym (append_assoc (encode w) (encodes ws) (encodes us))

joined-bound : (ws us : Writtens) (id : ℕ) → is_bound_in (joined ws us) id ≡ (is_bound_in ws id || is_bound_in us id)
unfolding joined is_bound_in
joined-bound none us id = refl
joined-bound (more w ws) us id =
    ap (λ (x : Bool). is_bound w id || x) (joined-bound ws us id)
    ∙ sym (or_assoc (is_bound w id) (is_bound_in ws id) (is_bound_in us id))

module _ (N : Numbers) (ns : List Name) where
  joined-pending : (ws us : Writtens) → Pending N ns ws → Pending N ns us → Pending N ns (joined ws us)
  unfolding joined
  joined-pending none us no_more P = P
  joined-pending (more w ws) us (one_more bs F Q) P = one_more bs F (joined-pending ws us Q P)

  all-pending : (bs : List Binder) (ws : Writtens) → AllFine N ns bs ws → Pending N ns ws
  unfolding AllFine
  all-pending bs none F = no_more
  all-pending bs (more w ws) F = one_more bs F.0 (all-pending bs ws F.1)

-- the ids of parameters
put_all : List Parameter → (ℕ → Bool) → ℕ → Bool
put_all [] taken = taken
put_all (p ∷ ps) taken = put_all ps (put p.id true taken)

put-all : (ps : List Parameter) (taken : ℕ → Bool) (j : ℕ) → put_all ps taken j ≡ (holds_id j ps || taken j)
unfolding put_all holds_id
put-all [] taken j = refl
put-all (p ∷ ps) taken j =
    put-all ps (put p.id true taken) j ∙ ap (λ (x : Bool). holds_id j ps || x) (put-or p.id taken j)
    ∙ by-test (eqb p.id j)
    (λ t. rw (t, or_swap (holds_id j ps) true) refl)
    (λ t. rw t refl)

took-all : (s k : List ℕ) (taken : ℕ → Bool) (ps : List Parameter) (many at : ℕ) → Takes k taken → length ps ≤ many →
    Lies s at (pairs many ps) → Takes (took_parameters s at (length ps) k) (put_all ps taken)
unfolding took_parameters put_all pairs
took-all s k taken [] many at T h L = T
took-all s k taken (p ∷ ps) zero at T h L = absurd (omega (arith, h))
took-all s k taken (p ∷ ps) (suc many) at T h L =
    let e : get_or s at 0 ≡ p.id = lies-head s (p.id ∷ p.holds ∷ pairs many ps) at L in
    subst (λ (x : ℕ). Takes (took_parameters s (at + 2) (length ps) (set k x 1)) (put_all ps (put p.id true taken)))
    (sym e)
    (took-all s (set k p.id 1) (put p.id true taken) ps many (at + 2) (takes-put k taken p.id T)
    (omega (arith, h)) (lies-after s (p.id ∷ p.holds ∷ []) (pairs many ps) (pairs many ps) at (at + 2) L refl refl))

-- a sum of four
shuffle : (h g t b : Bool) → ((h || (g || t)) || b) ≡ (t || (g || (h || b)))
shuffle true true true b = refl
shuffle true true false b = refl
shuffle true false true b = refl
shuffle true false false b = refl
shuffle false true true b = refl
shuffle false true false b = refl
shuffle false false true b = refl
shuffle false false false b = refl

-- a record opened: the ids that it binds are taken, and its parts are to come
record Opened (N : Numbers) (ns : List Name) (s : List ℕ) (at kind body : ℕ) (k : List ℕ) (taken : ℕ → Bool) (w :
    Written) :
    Type 0 where
  head : List ℕ
  parts : Writtens
  then : ℕ → Bool
  fine : Pending N ns parts
  bytes : encode w ≡ head ++ encodes parts
  long : length head ≡ 1 + body
  takes : Takes (took_ids s at kind (min (get_or s (at + 3) 0) 4) k) then
  bound : (id : ℕ) → (then id || is_bound_in parts id) ≡ (taken id || is_bound w id)

-- a record that binds nothing
plain : (N : Numbers) (ns : List Name) (s : List ℕ) (at kind body : ℕ) (k : List ℕ) (taken : ℕ → Bool) (w : Written)
    (H : List ℕ) (ws : Writtens) (c : ℕ) → kind ≡ c → (c ≡ 27 → ⊥) → (c ≡ 28 → ⊥) → Takes k taken → Pending N ns ws →
    encode w ≡ H ++ encodes ws → length H ≡ 1 + body → ((id : ℕ) → is_bound_in ws id ≡ is_bound w id) →
    Opened N ns s at kind body k taken w
plain N ns s at kind body k taken w H ws c q m n T P e l B = record {
  head = H;
  parts = ws;
  then = taken;
  fine = P;
  bytes = e;
  long = l;
  takes = subst (λ (x : List ℕ). Takes x taken) (took-nothing s k at kind (min (get_or s (at + 3) 0) 4)
      (λ z. m (sym q ∙ z))
      (λ z. n (sym q ∙ z))) T;
  bound = λ id. ap (λ (x : Bool). taken id || x) (B id);
}

module _ (N : Numbers) (ns : List Name) (s : List ℕ) (at kind body : ℕ) (k : List ℕ) (taken : ℕ → Bool)
    (e : kind ≡ get_or s at 0) (i : body ≡ body_in (shape_of kind)) (T : Takes k taken) where
  open-term : (bs : List Binder) (w : Written) → Fine N ns bs w → Lies s at (encode w) → Opened N ns s at kind body k
      taken w
  unfolding encode encodes Fine AllFine is_bound is_bound_in body_in shape_of took_ids
  open-term bs skip F L =
      let q : kind ≡ 16 = e ∙ lies-head s (16 ∷ []) at L in
      let i' : body ≡ 0 = rw q at i in
      plain N ns s at kind body k taken skip (16 ∷ []) none 16 q (λ z. omega (arith, z)) (λ z. omega (arith, z)) T
      no_more
      refl (omega (arith, i')) (λ id. refl)
  open-term bs (diverge ty) F L =
      let q : kind ≡ 17 = e ∙ lies-head s (17 ∷ ty ∷ []) at L in
      let i' : body ≡ 1 = rw q at i in
      plain N ns s at kind body k taken (diverge ty) (17 ∷ ty ∷ []) none 17 q (λ z. omega (arith, z))
      (λ z. omega (arith, z)) T no_more refl (omega (arith, i')) (λ id. refl)
  open-term bs (truth v) F L =
      let q : kind ≡ 18 = e ∙ lies-head s (18 ∷ v ∷ []) at L in
      let i' : body ≡ 1 = rw q at i in
      plain N ns s at kind body k taken (truth v) (18 ∷ v ∷ []) none 18 q (λ z. omega (arith, z))
      (λ z. omega (arith, z)) T
      no_more refl (omega (arith, i')) (λ id. refl)
  open-term bs (number v) F L =
      let q : kind ≡ 19 = e ∙ lies-head s (19 ∷ v ∷ []) at L in
      let i' : body ≡ 1 = rw q at i in
      plain N ns s at kind body k taken (number v) (19 ∷ v ∷ []) none 19 q (λ z. omega (arith, z))
      (λ z. omega (arith, z))
      T no_more refl (omega (arith, i')) (λ id. refl)
  open-term bs (call a ws) F L =
      let q : kind ≡ 20 = e ∙ lies-head s (20 ∷ a ∷ encodes ws) at L in
      let i' : body ≡ 1 = rw q at i in
      plain N ns s at kind body k taken (call a ws) (20 ∷ a ∷ []) ws 20 q (λ z. omega (arith, z))
      (λ z. omega (arith, z)) T
      (all-pending N ns bs ws (use-arity N ns bs ws (meaning ns bs a) F.1).1) refl (omega (arith, i'))
      (λ id. refl)
  open-term bs (fetch x) F L =
      let q : kind ≡ 21 = e ∙ lies-head s (21 ∷ encode x) at L in
      let i' : body ≡ 0 = rw q at i in
      plain N ns s at kind body k taken (fetch x) (21 ∷ []) (more x none) 21 q (λ z. omega (arith, z))
      (λ z. omega (arith, z)) T (one_more bs F.0 no_more) (ap (λ (z : List ℕ). 21 ∷ z) (one-bytes x))
      (omega (arith, i')) (λ id. or-false (is_bound x id))
  open-term bs (operate op x y) F L =
      let q : kind ≡ 22 = e ∙ lies-head s (22 ∷ op ∷ (encode x ++ encode y)) at L in
      let i' : body ≡ 1 = rw q at i in
      plain N ns s at kind body k taken (operate op x y) (22 ∷ op ∷ []) (more x (more y none)) 22 q
      (λ z. omega (arith, z))
      (λ z. omega (arith, z)) T (one_more bs F.1 (one_more bs F.3 no_more))
      (ap (λ (z : List ℕ). 22 ∷ op ∷ z) (two_bytes x y)) (omega (arith, i'))
      (λ id. ap (λ (z : Bool). is_bound x id || z) (or-false (is_bound y id)))
  open-term bs (assign x y) F L =
      let q : kind ≡ 23 = e ∙ lies-head s (23 ∷ (encode x ++ encode y)) at L in
      let i' : body ≡ 0 = rw q at i in
      plain N ns s at kind body k taken (assign x y) (23 ∷ []) (more x (more y none)) 23 q (λ z. omega (arith, z))
      (λ z. omega (arith, z)) T (one_more bs F.0 (one_more bs F.2 no_more))
      (ap (λ (z : List ℕ). 23 ∷ z) (two_bytes x y)) (omega (arith, i'))
      (λ id. ap (λ (z : Bool). is_bound x id || z) (or-false (is_bound y id)))
  open-term bs (sequence x y) F L =
      let q : kind ≡ 24 = e ∙ lies-head s (24 ∷ (encode x ++ encode y)) at L in
      let i' : body ≡ 0 = rw q at i in
      plain N ns s at kind body k taken (sequence x y) (24 ∷ []) (more x (more y none)) 24 q (λ z. omega (arith, z))
      (λ z. omega (arith, z)) T (one_more bs F.0 (one_more bs F.2 no_more))
      (ap (λ (z : List ℕ). 24 ∷ z) (two_bytes x y)) (omega (arith, i'))
      (λ id. ap (λ (z : Bool). is_bound x id || z) (or-false (is_bound y id)))
  open-term bs (choose x y z) F L =
      let q : kind ≡ 25 = e ∙ lies-head s (25 ∷ (encode x ++ (encode y ++ encode z))) at L in
      let i' : body ≡ 0 = rw q at i in
      plain N ns s at kind body k taken (choose x y z) (25 ∷ []) (more x (more y (more z none))) 25 q
      (λ u. omega (arith, u)) (λ u. omega (arith, u)) T
      (one_more bs F.0 (one_more bs F.2 (one_more bs F.3 no_more)))
      (ap (λ (u : List ℕ). 25 ∷ u) (three-bytes x y z)) (omega (arith, i'))
      (λ id. ap (λ (u : Bool). is_bound x id || (is_bound y id || u)) (or-false (is_bound z id)))
  open-term bs (while x y) F L =
      let q : kind ≡ 26 = e ∙ lies-head s (26 ∷ (encode x ++ encode y)) at L in
      let i' : body ≡ 0 = rw q at i in
      plain N ns s at kind body k taken (while x y) (26 ∷ []) (more x (more y none)) 26 q (λ z. omega (arith, z))
      (λ z. omega (arith, z)) T (one_more bs F.0 (one_more bs F.2 no_more))
      (ap (λ (z : List ℕ). 26 ∷ z) (two_bytes x y)) (omega (arith, i'))
      (λ id. ap (λ (z : Bool). is_bound x id || z) (or-false (is_bound y id)))
  open-term bs (new a d x) F L =
      let q : kind ≡ 27 = e ∙ lies-head s (27 ∷ a ∷ d ∷ encode x) at L in
      let i' : body ≡ 2 = rw q at i in
      let p : get_or s (at + 1) 0 ≡ a = lies-get s (27 ∷ a ∷ d ∷ encode x) at 1 L in
      record {
        head = 27 ∷ a ∷ d ∷ [];
        parts = more x none;
        then = put a true taken;
        fine = one_more (a_block a d ∷ bs)
            F.4 no_more;
        bytes = ap (λ (z : List ℕ). 27 ∷ a ∷ d ∷ z) (one-bytes x);
        long = omega (arith, i');
        takes = subst (λ (z : List ℕ). Takes z (put a true taken))
            (took-new s k (set k a 1) at kind a (min (get_or s (at + 3) 0) 4) q (sym p) refl) (takes-put k taken a T);
        bound = λ id. ap₂ (λ (u v : Bool). u || v) (put-or a taken id ∙ or_swap (eqb a id) (taken id))
            (or-false (is_bound x id))
            ∙ or_assoc (taken id) (eqb a id) (is_bound x id);
      }
  open-term bs (procedure a ty ps x y) F L =
      let q : kind ≡ 28 = e ∙ lies-head s (encode (procedure a ty ps x y)) at L in
      let i' : body ≡ 11 = rw q at i in
      let p : get_or s (at + 1) 0 ≡ a = lies-get s (encode (procedure a ty ps x y)) at 1 L in
      let m : get_or s (at + 3) 0 ≡ length ps = lies-get s (encode (procedure a ty ps x y)) at 3 L in
      let m' : min (length ps) 4 ≡ length ps = omega (arith, F.3) in
      let tail : Lies s (at + 4) (pairs 4 ps ++ (encode x ++ encode y)) =
      lies-after s (28 ∷ a ∷ ty ∷ length ps ∷ []) (pairs 4 ps ++ (encode x ++ encode y))
      (pairs 4 ps ++ (encode x ++ encode y)) at (at + 4) L refl refl in
      record {
        head = 28 ∷ a ∷ ty ∷ length ps ∷ pairs 4 ps;
        parts = more x (more y none);
        then = put_all ps (put a true taken);
        fine = one_more (inside ps bs) F.5 (one_more (after a ty ps bs) F.7 no_more);
        bytes = ap (λ (z : List ℕ). 28 ∷ a ∷ ty ∷ length ps ∷ (pairs 4 ps ++ z)) (two_bytes x y);
        long = omega (arith, i', pairs-length 4 ps);
        takes = subst (λ (z : List ℕ). Takes z (put_all ps (put a true taken)))
            (took-procedure s k (set k a 1) (took_parameters s (at + 4) (length ps) (set k a 1)) at kind a (length ps)
            (length ps) (λ z. omega (arith, q, z)) q (sym p) (sym m) (sym m') refl refl)
            (took-all s (set k a 1) (put a true taken) ps 4 (at + 4) (takes-put k taken a T)
            (omega (arith, F.3)) (lies-first s (pairs 4 ps) (encode x ++ encode y) (at + 4) tail));
        bound = λ id.
            let h : Bool = holds_id id ps in
            let g : Bool = eqb a id in
            let t : Bool = taken id in
            let b : Bool = is_bound x id || is_bound y id in
            ap₂ (λ (u v : Bool). u || (is_bound x id || v))
            (put-all ps (put a true taken) id ∙ ap (λ (u : Bool). h || u) (put-or a taken id)) (or-false (is_bound y id))
            ∙ shuffle h g t b;
      }

-- what is left to go through from a place on
pub record Bounding (S : Sheet) (s k : List ℕ) (at : ℕ) : Type 0 where
  pub pending : Writtens
  pub fine : Pending S.numbers S.names pending
  pub lies : drop at s ≡ encodes pending
  pub ends : at + length (encodes pending) ≡ length s
  pub taken : ℕ → Bool
  pub takes : Takes k taken
  pub all : (id : ℕ) → (taken id || is_bound_in pending id) ≡ taken_at_first S id

-- a turn of the loop
bound-again : (S : Sheet) (s k k' : List ℕ) (at kind body next : ℕ) → Bounding S s k at → at < length s →
    kind ≡ get_or s at 0 → k' ≡ took_ids s at kind (min (get_or s (at + 3) 0) 4) k → body ≡ body_in (shape_of kind) →
    next ≡ at + (1 + body) → Bounding S s k' next
unfolding encodes is_bound_in
bound-again S s k k' at kind body next G h e u i z =
    go G.pending G.fine G.lies G.ends G.all
  where
    go : (ws : Writtens) → Pending S.numbers S.names ws → drop at s ≡ encodes ws →
        at + length (encodes ws) ≡ length s → ((id : ℕ) → (G.taken id || is_bound_in ws id) ≡ taken_at_first S id) →
        Bounding S s k' next
    go none no_more L E A = absurd (omega (arith, E, h))
    go (more w ws) (one_more bs F P) L E A =
        let O : Opened S.numbers S.names s at kind body k G.taken w =
        open-term S.numbers S.names s at kind body k G.taken e i G.takes bs w F
        (record { rest = encodes ws; here = L }) in
        let H : List ℕ = O.head in
        let vs : Writtens = O.parts in
        let b : encode w ++ encodes ws ≡ H ++ (encodes vs ++ encodes ws) =
        ap (λ (x : List ℕ). x ++ encodes ws) O.bytes ∙ append_assoc H (encodes vs) (encodes ws) in
        let n : next ≡ at + length H = omega (arith, z, O.long) in
        let l : length (encode w) ≡ length H + length (encodes vs) = ap length O.bytes ∙ length-append H
        (encodes vs) in
        record {
          pending = joined vs ws;
          fine = joined-pending S.numbers S.names vs ws O.fine P;
          lies = ap (λ (x : ℕ). drop x s) n ∙ sym (drop-drop (length H) at s) ∙ ap (drop (length H)) (L ∙ b)
              ∙ drop-append_seam H (encodes vs ++ encodes ws) ∙ sym (joined_bytes vs ws);
          ends = omega (
            arith,
            E,
            n,
            l,
            length-append (encode w) (encodes ws),
            ap length (joined_bytes vs ws),
            length-append (encodes vs) (encodes ws),
          );
          taken = O.then;
          takes = subst (λ (x : List ℕ). Takes x O.then) (sym u) O.takes;
          all = λ id. ap (λ (x : Bool). O.then id || x) (joined-bound vs ws id)
              ∙ sym (or_assoc (O.then id) (is_bound_in vs id) (is_bound_in ws id))
              ∙ ap (λ (x : Bool). x || is_bound_in ws id) (O.bound id)
              ∙ or_assoc (G.taken id) (is_bound w id) (is_bound_in ws id) ∙ A id;
        }

-- the term, and nothing more
bound-first : (S : Sheet) (s k : List ℕ) (root ty n : ℕ) → read_earlier s ≡ accepted S ty n → root ≡ heading_width
    S →
    Takes k (is_named S.names) → Bounding S s k root
unfolding encode_sheet encodes is_bound_in taken_at_first
bound-first S s k root ty n e r T =
    let g = gives Earlier s S ty n e in
    let H : List ℕ = S.numbers.z ∷ S.numbers.rule ∷ encode_names S.names in
    let h : root ≡ length H = omega (arith, r, wide-heading S) in
    let b : encode S.term ++ [] ≡ encode S.term = append-nil (encode S.term) in
    record {
      pending = more S.term none;
      fine = one_more [] g.1.ordered.in_order.fine_term no_more;
      lies = ap₂ (λ (x : ℕ) (y : List ℕ). drop x y) h g.0 ∙ drop-append_seam H (encode S.term) ∙ sym b;
      ends = omega (arith, h, ap length b, ap length g.0, length-append (encode_names S.names) (encode S.term));
      taken = is_named S.names;
      takes = T;
      all = λ id. ap (λ (x : Bool). is_named S.names id || x) (or-false (is_bound S.term id));
    }

term-some : (w : Written) (ws : Writtens) → 0 < length (encodes (more w ws))
unfolding encodes
term-some w ws = omega (arith, length-append (encode w) (encodes ws), wide w, width_some w)

bound-last : (S : Sheet) (s k : List ℕ) (at : ℕ) → Bounding S s k at → length s ≤ at → Takes k (taken_at_first S)
unfolding is_bound_in
bound-last S s k at G h = go G.pending G.ends G.all
  where
    go : (ws : Writtens) → at + length (encodes ws) ≡ length s →
        ((id : ℕ) → (G.taken id || is_bound_in ws id) ≡ taken_at_first S id) → Takes k (taken_at_first S)
    go none E A = takes_same k G.taken (taken_at_first S) (λ id. sym (or-false (G.taken id)) ∙ A id) G.takes
    go (more w ws) E A = absurd (omega (arith, E, h, term-some w ws))

-- what the loop keeps
abbrev pub Bounds : List ℕ → ℕ → List ℕ → List ℕ → ℕ → Type 0
Bounds s root k₀ k at =
    (S : Sheet) (ty n : ℕ) → read_earlier s ≡ accepted S ty n → root ≡ heading_width S → Takes k₀ (is_named S.names) →
    Bounding S s k at

pub bounds-first : (s : List ℕ) (root : ℕ) (k : List ℕ) → Bounds s root k k root
bounds-first s root k = λ S ty n e r T. bound-first S s k root ty n e r T

pub bounds-again : (s : List ℕ) (root : ℕ) (k₀ k k' : List ℕ) (at kind body next : ℕ) → Bounds s root k₀ k at →
    at < length s → kind ≡ get_or s at 0 → k' ≡ took_ids s at kind (min (get_or s (at + 3) 0) 4) k →
    body ≡ body_in (shape_of kind) → next ≡ at + (1 + body) → Bounds s root k₀ k' next
bounds-again s root k₀ k k' at kind body next G h e u i z =
    λ S ty n a r T. bound-again S s k k' at kind body next (G S ty n a r T) h e u i z

pub bounds-last : (s : List ℕ) (root : ℕ) (k₀ k : List ℕ) (at : ℕ) → Bounds s root k₀ k at → length s ≤ at →
    Taken s root k₀ k
bounds-last s root k₀ k at G h = record { does = λ S ty n a r T. bound-last S s k at (G S ty n a r T) h }
