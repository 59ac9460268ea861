-- The whole sheet: from the pass over its term to the service.
use Prim.Native.Nat.{ℕ, ◌+◌, ◌*◌, ◌≤◌, ◌<◌}
use native.Mathlib.Omega.{arith}
use mathlib.Core.Path.{◌≡◌, refl, sym, ap, ap₂, ◌∙◌, subst}
use mathlib.Core.Bool.{Bool, false}
use mathlib.Core.List.{List, [], ◌∷◌, ◌++◌, append_assoc, append-nil}
use lib.ListN.{length, take, drop, replicate, length-append, length-drop, length-replicate, get_or-replicate}
use lib.Seq.{drop-append_seam, take-length, take_at}
use lib.Dec.{eqb}
use borrow.Author.Tests.{lt-ltb, le-ltb}
use Rattle.sheet_records.specs.Refusal.{cause}
use Rattle.sheet_records.specs.declared.refusal.Refusal.{Refusal}
use Rattle.sheet_records.specs.declared.refusal.Cause.{Cause}
use Rattle.sheet_written.specs.Written.{Written, Sheet}
use Rattle.sheet_written.specs.Meaning.{declared, meaning}
use Rattle.sheet_written.specs.Rules.{with_term}
use Rattle.sheet_written.specs.Hiding.{is_held}
use Rattle.sheet_written.specs.Width.{width, heading_width}
use Rattle.sheet_written.specs.Renumber.{Change, Renumbering, renumbered, none_left, renumber, renumber_sheet, taken_at_first}
use Rattle.sheet_written.proofs.Renumbering.{renumber-rule}
use Rattle.sheet_written.specs.Renumbering.{RenumberRule}
use Rattle.sheet_reader.specs.Encoding.{encode, encode_names, encode_sheet}
use Rattle.sheet_reader.specs.Reader.{accepted, rejected}
use Rattle.sheet_records.specs.declared.edition.Edition.TheVariants.{Earlier as Former}
use Rattle.sheet_reader.proofs.Right.{gives}
use Rattle.sheet_judge.specs.declared.judge.Judgement.{Judgement}
use Rattle.serve_renumber.specs.Outcome.{read_earlier, listed, written, checked, outcome, RenumberedBy, RenumberPromise}
use Rattle.serve_renumber.specs.Work.{Takes, Scoped, held_in, becomes_in, arguments_in, arity, Lies, Rewrites}
use Rattle.serve_renumber.specs.Found.{Answer, stepped, Found, Wrote, PartFound, AcceptedAt, EarlierJudged, Headed, Taken}
use Rattle.serve_renumber.specs.Found.{WroteSheet, Worked, Renumbers}
use Rattle.std.specs.Prelude.{Result, Ok, Err}
use Rattle.serve_renumber.proofs.Lists.{notes-listed, listed-length}
use Rattle.sheet_reader.proofs.Widths.{wide, wide-heading}
use Rattle.serve_renumber.proofs.Finding.{found-so, not_full, done-changes}
use Rattle.sheet_records.specs.declared.refusal.Reason.TheVariants.{SpaceTooShort, NoIdLeft}
use Rattle.sheet_records.specs.declared.refusal.Sheets.TheVariants.{Old, Both}

-- nothing is taken or in scope at first
takes-nothing : Takes (replicate 255 0) (λ id. false)
takes-nothing = record {
  sized = length-replicate {A = ℕ} 255 0;
  marks = λ id l. ap (λ (x : ℕ). eqb x 1) (get_or-replicate 255 id 0 0 l);
}

scoped-nothing : Scoped [] [] (λ id. id) (replicate 255 0)
unfolding held_in becomes_in arguments_in is_held meaning declared arity
scoped-nothing = record {
  sized = length-replicate {A = ℕ} 255 0;
  helds = λ id l. ap held_in (get_or-replicate 255 id 0 0 l);
  becomes = λ id l. ap (λ (x : ℕ). becomes_in x id) (get_or-replicate 255 id 0 0 l);
  counts = λ id l. ap arguments_in (get_or-replicate 255 id 0 0 l);
}

-- an accepted sheet
module _ (S : Sheet) (s : List ℕ) (root ty n : ℕ) (e : read_earlier s ≡ accepted S ty n) (r : root ≡ heading_width S)
  where
    -- the bytes before the term
    heading : List ℕ
    heading = S.numbers.z ∷ S.numbers.rule ∷ encode_names S.names

    sheet-bytes : (W : Written) → encode_sheet (with_term S W) ≡ heading ++ encode W
    unfolding encode_sheet with_term heading
    sheet-bytes W = refl

    own-bytes : s ≡ heading ++ encode S.term
    unfolding encode_sheet heading
    own-bytes = (gives Former s S ty n e).0

    heading-long : length heading ≡ root
    unfolding heading
    heading-long = omega (arith, r, wide-heading S)

    long : length s ≡ root + width S.term
    long = omega (arith, ap length own-bytes, length-append heading (encode S.term), heading-long, wide S.term)

    short : length s ≤ 4096
    short = subst (λ (x : List ℕ). length x ≤ 4096) (sym (gives Former s S ty n e).0) (gives Former s S ty n e).1.short

    term-lies : Lies s root (encode S.term)
    term-lies = record {
      rest = [];
      here = ap₂ (λ (x : ℕ) (y : List ℕ). drop x y) (sym heading-long) own-bytes ∙ drop-append_seam heading
          (encode S.term)
          ∙ sym (append-nil (encode S.term));
    }

    -- the pass over its term
    term_found : (b l scope k b₁ b' l' k' : List ℕ) (x : Answer) → Scoped S.names [] (λ id. id) scope →
        Takes k (taken_at_first S) → b₁ ≡ take (length s) s ++ drop (length s) b →
        PartFound s scope b₁ l k 32 root 0 x b' l' k' → Found (WroteSheet S b) (renumber_sheet S) 0 l x b' l' k'
    unfolding renumber_sheet Rewrites
    term_found b l scope k b₁ b' l' k' x C T c P =
        let F : Found (Wrote root S.term b₁) (renumber [] (λ id. id) (taken_at_first S) root S.term) 0 l x b' l' k' =
        P.does S.numbers S.names [] (λ id. id) (taken_at_first S) S.term (record {
          fine = (gives Former s S ty n e).1.ordered.in_order.fine_term;
          deep = (gives Former s S ty n e).1.ordered.shallow;
          lies = term-lies;
          short = omega (arith, long, short);
          scoped = C;
          takes = T;
        }) in
        let F' : Found (Wrote root S.term b₁) (renumber [] (λ id. id) (taken_at_first S) (heading_width S) S.term) 0
        l x b'
        l' k' =
        subst (λ (a : ℕ). Found (Wrote root S.term b₁) (renumber [] (λ id. id) (taken_at_first S) a S.term) 0 l x
        b' l'
        k') r F in
        let R : List ℕ = drop (length s) b in
        let start : b₁ ≡ heading ++ (encode S.term ++ R) =
        c ∙ ap (λ (y : List ℕ). y ++ R) (take-length s ∙ own-bytes) ∙ append_assoc heading (encode S.term) R in
        let same : length s ≡ length (encode_sheet S) = ap length (gives Former s S ty n e).0 in
        found-so 0 l x b' l' k' (Wrote root S.term b₁) (WroteSheet S b)
        (renumber [] (λ id. id) (taken_at_first S) (heading_width S) S.term)
        (λ W value A. record {
          wide = omega (
            arith,
            ap length (sheet-bytes W),
            length-append heading (encode W),
            wide W,
            A.same,
            long,
            heading-long,
            same,
          );
          bytes = opened b₁ b' W A R start ∙ sym (append_assoc heading (encode W) R)
              ∙ ap₂ (λ (y : List ℕ) (z : ℕ). y ++ drop z b) (sym (sheet-bytes W)) same;
        }) F'
      where
        opened : (b₁ b' : List ℕ) (W : Written) {value : ℕ} → Wrote root S.term b₁ W value b' → (R : List ℕ) →
            b₁ ≡ heading ++ (encode S.term ++ R) → b' ≡ heading ++ (encode W ++ R)
        opened b₁ b' W A R q = A.bytes heading R heading-long q

-- the copy renumbered
pub worked : (s b l k₀ scope₀ k₁ scope₁ k₂ b₁ b' l' k' : List ℕ) (root : ℕ) (x : Answer) → k₀ ≡ replicate 255 0 →
    scope₀ ≡ replicate 255 0 → Headed s root k₀ scope₀ k₁ scope₁ → Taken s root k₁ k₂ →
    b₁ ≡ take (length s) s ++ drop (length s) b → PartFound s scope₁ b₁ l k₂ 32 root 0 x b' l' k' →
    Worked s root b l x b' l'
worked s b l k₀ scope₀ k₁ scope₁ k₂ b₁ b' l' k' root x i j H T c P = record {
  taken = k';
  few = P.onward;
  does = λ S ty n e r h.
      let A = H.does S ty n e r (subst (λ (k : List ℕ). Takes k (λ id. false)) (sym i) takes-nothing)
      (subst (λ (k : List ℕ). Scoped [] [] (λ id. id) k) (sym j) scoped-nothing) in
      term_found S s root ty n e r b l scope₁ k₂ b₁ b' l' k' x A.1 (T.does S ty n e r A.0) c P;
}

pub accepted-short : {s : List ℕ} {root : ℕ} → AcceptedAt s root → length s ≤ 4096
accepted-short {s} {root} A = short A.sheet s root A.type A.size A.reads A.rooted

pub accepted-root : {s : List ℕ} {root : ℕ} → AcceptedAt s root → root ≤ 4096
accepted-root {s} {root} A =
    omega (arith, accepted-short A, long A.sheet s root A.type A.size A.reads A.rooted)

-- a renumbering to the end, with n changes
pub record Finished (S : Sheet) (s b l b' l' : List ℕ) (n : ℕ) : Type 0 where
  pub term : Written
  pub changes : List Change
  pub ids : ℕ → Bool
  pub renumbers : renumber_sheet S ≡ renumbered term changes ids
  pub count : n ≡ length changes
  pub few : n ≤ 254
  pub wide : length (encode_sheet (with_term S term)) ≡ length s
  pub bytes : b' ≡ encode_sheet (with_term S term) ++ drop (length s) b
  pub list : l' ≡ listed changes ++ drop (4 * n) l

finished-so : (S : Sheet) (s b l b' l' : List ℕ) (root ty m v n : ℕ) (x : Answer) → read_earlier s ≡ accepted S ty m →
    root ≡ heading_width S → Worked s root b l x b' l' → x ≡ stepped v n → length s ≤ length b → 1020 ≤ length l →
    Finished S s b l b' l' n
unfolding Found RenumberRule
finished-so S s b l b' l' root ty m v n x e r W d h g = go (renumber_sheet S) refl (W.does S ty m e r h)
  where
    go : (a : Renumbering Written) → renumber_sheet S ≡ a → Found (WroteSheet S b) a 0 l x b' l' W.taken →
        Finished S s b l b' l' n
    go (renumbered T cs then) q F =
        let f : length cs ≤ 254 = (renumber-rule S T cs then (gives Former s S ty m e).1.ordered q).few in
        let c : n ≡ length cs =
        done-changes v n F.value (0 + length cs) (sym d ∙ F.answer) ∙ omega arith in
        let same : length s ≡ length (encode_sheet S) = ap length (gives Former s S ty m e).0 in
        record {
          term = T;
          changes = cs;
          ids = then;
          renumbers = q;
          count = c;
          few = omega (arith, f, c);
          wide = F.post.wide ∙ sym same;
          bytes = F.post.bytes ∙ ap (λ (z : ℕ). encode_sheet (with_term S T) ++ drop z b) (sym same);
          list = F.list ∙ notes-listed cs 0 [] l (omega arith) (omega (arith, f, g))
              ∙ ap (λ (z : ℕ). listed cs ++ drop (4 * z) l) (sym c);
        }
    go (none_left p) q F = not_full x v n p d F

-- what follows of the lengths
pub record Room (s b' l' : List ℕ) (n : ℕ) : Type 0 where
  pub bytes : length b' ≡ 4096
  pub list : length l' ≡ 1020
  pub few : n ≤ 254

pub room : (s b l b' l' : List ℕ) (root v n : ℕ) (x : Answer) → AcceptedAt s root → Worked s root b l x b' l' →
    x ≡ stepped v n → length b ≡ 4096 → length l ≡ 1020 → Room s b' l' n
room s b l b' l' root v n x A W d h g =
    let i : length s ≤ 4096 = accepted-short A in
    let F : Finished A.sheet s b l b' l' n =
    finished-so A.sheet s b l b' l' root A.type A.size v n x A.reads A.rooted W d (omega (arith, i, h))
    (omega (arith, g)) in
    let B : List ℕ = encode_sheet (with_term A.sheet F.term) in
    record {
      bytes = omega (
        arith,
        i,
        h,
        ap length F.bytes,
        length-append B (drop (length s) b),
        F.wide,
        length-drop (length s) b,
      );
      list = omega (
        arith,
        g,
        F.few,
        F.count,
        ap length F.list,
        length-append (listed F.changes)
            (drop (4 * n) l),
        listed-length F.changes,
        length-drop (4 * n) l,
      );
      few = F.few;
    }

same_place : (p q : ℕ) → ◌≡◌ {A = Answer} (Err p) (Err q) → p ≡ q
same_place p q e = cc

-- the answers
pub renumbers-full : (s b l b' l' out list : List ℕ) (root p : ℕ) (x : Answer) → Worked s root b l x b' l' → x ≡ Err p →
    AcceptedAt s root → length b ≡ 4096 → {z : Cause} → z ≡ cause NoIdLeft Old p → Renumbers s root (Err z) out out list list
unfolding Found written RenumberedBy
renumbers-full s b l b' l' out list root p x W d A h {z = z} f = record {
  does = λ S ty n e r. go S (renumber_sheet S) (W.does S ty n e r (omega (arith, h, accepted-short A)));
}
  where
    go : (S : Sheet) (a : Renumbering Written) → Found (WroteSheet S b) a 0 l x b' l' W.taken →
        RenumberedBy (written S a) (Err z) out out list list
    go S (renumbered T cs then) F = not_full x F.value (0 + length cs) p F.answer d
    go S (none_left q) F = (ap Err (f ∙ ap (cause NoIdLeft Old) (same_place p q (sym d ∙ F))), refl, refl)

pub renumbers-done : (s b l b' l' out out' list list' : List ℕ) (root v n m : ℕ) (x : Answer) → Worked s root b l x b'
    l' →
    x ≡ stepped v n → AcceptedAt s root → length b ≡ 4096 → length l ≡ 1020 →
    out' ≡ take (length s) b' ++ drop (length s) out → list' ≡ take (4 * n) l' ++ drop (4 * n) list → m ≡ n →
    Renumbers s root (Ok m) out out' list list'
unfolding written RenumberedBy
renumbers-done s b l b' l' out out' list list' root v n m x W d A h g o q i = record {
  does = λ S ty z e r.
      let F : Finished S s b l b' l' n =
      finished-so S s b l b' l' root ty z v n x e r W d (omega (arith, accepted-short A, h)) (omega (arith, g)) in
      let B : List ℕ = encode_sheet (with_term S F.term) in
      let L : List ℕ = listed F.changes in
      let k : length L ≡ 4 * n = omega (arith, listed-length F.changes, F.count) in
      subst (λ (a : Renumbering Written). RenumberedBy (written S a) (Ok m) out out' list list')
      (sym F.renumbers) (
        ap Ok (i ∙ F.count),
        o ∙ ap₂ (λ (y z : List ℕ). y ++ z) (ap (take (length s)) F.bytes ∙ take_at B (drop (length s) b) (length s)
            F.wide) (ap (λ (y : ℕ). drop y out) (sym F.wide)),
        q ∙ ap₂ (λ (y z : List ℕ). y ++ z) (ap (take (4 * n)) F.list ∙ take_at L (drop (4 * n) l) (4 * n) k)
            (ap (λ (y : ℕ). drop y list) (sym k)),
      );
}

-- the service
pub accepted-of : (s : List ℕ) (y : Result Judgement Refusal) (x : Judgement) → EarlierJudged s y → y ≡ Ok x →
    AcceptedAt s x.root
unfolding EarlierJudged
accepted-of s y x E e = rw e at E

turned : (s : List ℕ) (y : Result Judgement Refusal) (x : Refusal) → EarlierJudged s y → y ≡ Err x →
    read_earlier s ≡ rejected x.reason x.place
unfolding EarlierJudged
turned s y x E e = rw e at E

pub service-refused : (s out list : List ℕ) (y : Result Judgement Refusal) (x : Refusal) {z : Cause} →
    EarlierJudged s y → y ≡ Err x → z ≡ cause x.reason Old x.place →
    RenumberPromise s (Err z) out out list list
unfolding outcome checked RenumberedBy
service-refused s out list y x E e g = rw (turned s y x E e) (ap Err g, refl, refl)

pub service-short : (s out list : List ℕ) (root : ℕ) (x : Cause) → AcceptedAt s root → length out < length s →
    x ≡ cause SpaceTooShort Both 0 → RenumberPromise s (Err x) out out list list
unfolding outcome checked RenumberedBy
service-short s out list root x A h e = rw (A.reads, lt-ltb (length out) (length s) h) (ap Err e, refl, refl)

pub service-narrow : (s out list : List ℕ) (root : ℕ) (x : Cause) → AcceptedAt s root → length s ≤ length out →
    length list < 1020 → x ≡ cause SpaceTooShort Both 0 → RenumberPromise s (Err x) out out list list
unfolding outcome checked RenumberedBy
service-narrow s out list root x A h g e =
    rw (A.reads, le-ltb (length out) (length s) h, lt-ltb (length list) 1020 g) (ap Err e, refl, refl)

pub service-done : (s out out' list list' : List ℕ) (root : ℕ) (r : Result ℕ Cause) → AcceptedAt s root →
    length s ≤ length out → 1020 ≤ length list → Renumbers s root r out out' list list' →
    RenumberPromise s r out out' list list'
unfolding outcome checked
service-done s out out' list list' root r A h g R =
    rw (A.reads, le-ltb (length out) (length s) h, le-ltb (length list) 1020 g)
    (R.does A.sheet A.type A.size A.reads A.rooted)
