-- What a head says: the record by its kind, with the tests that its body passed.
use Rattle.std.specs.Prelude.{Result, Ok}
use Prim.Native.Nat.{ℕ, suc, ◌+◌, ◌<◌}
use native.Mathlib.Omega.{arith}
use mathlib.Core.Path.{◌≡◌, refl}
use mathlib.Core.Bool.{true, false}
use mathlib.Core.List.{List}
use lib.ListN.{length, get_or}
use lib.Dec.{eqb, leb, eqb-suc-zero}
use borrow.Author.Tests.{eqb-true, eqb-false, leb-false, lt-leb, ne_eqb}
use Rattle.language.specs.Choice.{pick}
use Rattle.language.specs.Number.{in_range}
use Rattle.language.specs.declared.Numbers.{Numbers}
use Rattle.sheet_records.specs.declared.refusal.Refusal.{Refusal}
use Rattle.sheet_records.specs.Kind.{shape_of}
use Rattle.sheet_records.specs.Standing.{standing_of, is_named, count_of}
use Rattle.sheet_judgements.specs.Judge.{hides, procedure_of}
use Rattle.sheet_records.specs.declared.edition.Edition.{Edition}
use Rattle.sheet_heads.specs.Head.{byte_of, on_byte, with_body, limited, constant, used, use_of, data_byte, new_of, on_judged}
use Rattle.sheet_heads.specs.Head.{procedure_head, body_of, blank, head_of_shape, head_of}
use Rattle.sheet_records.specs.declared.kind.Rule.{Rule}
use Rattle.sheet_records.specs.declared.kind.Rule.TheVariants.{Skip, Diverge, Truth, Number, Use, Fetch, Operate, Assign}
use Rattle.sheet_records.specs.declared.kind.Rule.TheVariants.{Sequence, If, While, New, Procedure}
use Rattle.sheet_records.specs.declared.kind.Shape.{Shape}
use Rattle.sheet_records.specs.declared.kind.Shape.TheVariants.{Part, Declare, Retire, Unknown}
use Rattle.sheet_heads.specs.declared.head.Record.{Record}
use Rattle.sheet_reader.proofs.Parsed.{Byte}
use Rattle.sheet_reader.proofs.Answers.{HeadAll, pick_all}
use Rattle.sheet_reader.proofs.Judgement.{JudgedAll, good, bad}
use Rattle.sheet_reader.proofs.Bodies.{Body, procedure-all, procedure-is}

-- a kind byte and its shape
pub data Shaped (k : ℕ) : Shape → Type 0 where
  s-declare : k ≡ 1 → Shaped k (Declare 7 0)
  s-retire : k ≡ 2 → Shaped k (Retire 1)
  s-once : k ≡ 3 → Shaped k (Declare 7 1)
  s-skip : k ≡ 16 → Shaped k (Part 0 0 Skip)
  s-diverge : k ≡ 17 → Shaped k (Part 1 0 Diverge)
  s-truth : k ≡ 18 → Shaped k (Part 1 0 Truth)
  s-number : k ≡ 19 → Shaped k (Part 1 0 Number)
  s-use : k ≡ 20 → Shaped k (Part 1 0 Use)
  s-fetch : k ≡ 21 → Shaped k (Part 0 1 Fetch)
  s-operate : k ≡ 22 → Shaped k (Part 1 2 Operate)
  s-assign : k ≡ 23 → Shaped k (Part 0 2 Assign)
  s-sequence : k ≡ 24 → Shaped k (Part 0 2 Sequence)
  s_if : k ≡ 25 → Shaped k (Part 0 3 If)
  s-while : k ≡ 26 → Shaped k (Part 0 2 While)
  s-new : k ≡ 27 → Shaped k (Part 2 1 New)
  s-procedure : k ≡ 28 → Shaped k (Part 11 2 Procedure)
  s-unknown : Shaped k Unknown

pub shaped : (k : ℕ) → Shaped k (shape_of k)
unfolding shape_of
shaped k =
    or 1 s-declare (or 2 s-retire (or 3 s-once (or 16 s-skip (or 17 s-diverge
    (or 18 s-truth (or 19 s-number (or 20 s-use
    (or 21 s-fetch (or 22 s-operate (or 23 s-assign (or 24 s-sequence (or 25 s_if (or 26 s-while (or 27 s-new
    (or 28 s-procedure s-unknown)))))))))))))))
  where
    or : {a b : Shape} (n : ℕ) → (k ≡ n → Shaped k a) → Shaped k b → Shaped k (pick (eqb k n) a b)
    or n f g = pick_all (Shaped k) (eqb k n) (λ e. f (eqb-true k n e)) (λ e. g)

-- a record at a place, with its parts, its body bytes and the place after it
abbrev pub made : List ℕ → ℕ → Rule → ℕ → ℕ → ℕ → ℕ → Record
made s at rule parts a b n =
    record { place = at; kind = get_or s at 0; rule = rule; parts = parts; a = a; b = b; next = n }

-- the record at a place, by its kind
pub data Heads (ed : Edition) (s st : List ℕ) (N : Numbers) (at : ℕ) : Record → Type 0 where
  h-skip : Byte s at 16 → Heads ed s st N at (made s at Skip 0 0 0 (at + 1 + 0))
  h-diverge : {a : ℕ} → Byte s at 17 → Byte s (at + 1) a → a < 5 →
      Heads ed s st N at (made s at Diverge 0 a 0 (at + 1 + 1))
  h-truth : {a : ℕ} → Byte s at 18 → Byte s (at + 1) a → a < 2 → Heads ed s st N at (made s at Truth 0 a 0 (at + 1 + 1))
  h-number : {a : ℕ} → Byte s at 19 → Byte s (at + 1) a → a < 256 → in_range N a ≡ true →
      Heads ed s st N at (made s at Number 0 a 0 (at + 1 + 1))
  h-use : {a : ℕ} → Byte s at 20 → Byte s (at + 1) a → a < 255 → (get_or st a 0 ≡ 0 → ⊥) → (get_or st a 0 ≡ 1 → ⊥) →
      Heads ed s st N at
      (made s at Use (count_of s (standing_of (get_or st a 0))) a (get_or st a 0) (at + 1 + 1))
  h-fetch : Byte s at 21 → Heads ed s st N at (made s at Fetch 1 0 0 (at + 1 + 0))
  h-operate : {a : ℕ} → Byte s at 22 → Byte s (at + 1) a → a < 9 →
      Heads ed s st N at (made s at Operate 2 a 0 (at + 1 + 1))
  h-assign : Byte s at 23 → Heads ed s st N at (made s at Assign 2 0 0 (at + 1 + 0))
  h-sequence : Byte s at 24 → Heads ed s st N at (made s at Sequence 2 0 0 (at + 1 + 0))
  h-if : Byte s at 25 → Heads ed s st N at (made s at If 3 0 0 (at + 1 + 0))
  h-while : Byte s at 26 → Heads ed s st N at (made s at While 2 0 0 (at + 1 + 0))
  h-new : {a d : ℕ} → Byte s at 27 → Byte s (at + 1) a → a < 255 → is_named (standing_of (get_or st a 0)) ≡ false →
      hides ed (standing_of (get_or st a 0)) ≡ false → Byte s (at + 2) d → 0 < d → d < 3 → Heads ed s st N at (made s at New 1 a d (at + 1 + 2))
  h-procedure : Byte s at 28 → Body ed s st at →
      Heads ed s st N at (made s at Procedure 2 (get_or s (at + 1) 0) (get_or s (at + 3) 0) (at + 1 + 11))

-- a body byte that was read
byte-all :
    (P : Record → Type 0) (s : List ℕ) (at limit : ℕ) (f : ℕ → Result Record Refusal) →
    ((b : ℕ) → Byte s at b → b < limit → HeadAll P (f b)) → HeadAll P (on_byte (byte_of s at limit) f)
unfolding byte_of on_byte HeadAll
byte-all P s at limit f h =
    pick_all (λ x. HeadAll P (on_byte x f)) (leb (length s) at) (λ e. tt)
    (λ e. pick_all (λ x. HeadAll P (on_byte x f)) (leb limit (get_or s at 0)) (λ e'. tt)
    (λ e'. h (get_or s at 0) (leb-false (length s) at e, refl) (leb-false limit (get_or s at 0) e')))

module _ (ed : Edition) (s st : List ℕ) (N : Numbers) (at : ℕ) where
  abbrev Fit : Result Record Refusal → Type 0
  Fit = HeadAll (Heads ed s st N at)

  number-fit : Byte s at 19 → Fit (constant s N (blank at (get_or s at 0) 1 0 Number))
  unfolding constant HeadAll blank with_body
  number-fit h =
      byte-all _ s (at + 1) 256 _ (λ a b l. pick_all Fit (in_range N a) (λ e. h-number h b l e) (λ e. tt))

  use-fit : Byte s at 20 → Fit (use_of s st (blank at (get_or s at 0) 1 0 Use))
  unfolding use_of HeadAll blank used
  use-fit h =
      byte-all _ s (at + 1) 255 _ (λ a b l.
      pick_all Fit (eqb (get_or st a 0) 0) (λ e. tt)
      (λ e. pick_all Fit (eqb (get_or st a 0) 1) (λ e'. tt)
      (λ e'. h-use h b l (eqb-false (get_or st a 0) 0 e) (eqb-false (get_or st a 0) 1 e'))))

  new-fit : Byte s at 27 → Fit (new_of ed s st (blank at (get_or s at 0) 2 1 New))
  unfolding new_of HeadAll blank with_body data_byte
  new-fit h =
      byte-all _ s (at + 1) 255 _ (λ a b l.
      pick_all Fit (is_named (standing_of (get_or st a 0))) (λ e. tt)
      (λ e. pick_all Fit (hides ed (standing_of (get_or st a 0))) (λ u. tt)
      (λ u. byte-all _ s (at + 2) 3 _ (λ d b' l'.
      pick_all Fit (eqb d 0) (λ e'. tt)
      (λ e'. h-new h b l e u b' (omega (arith, above d (eqb-false d 0 e'))) l')))))
    where
      above : (d : ℕ) → (d ≡ 0 → ⊥) → 0 < d
      above d h = omega arith

  judged-fit :
      {P : Type 0} (j : Result (Unit {0}) Refusal) (k : Result Record Refusal) → JudgedAll P j → (P → Fit k) → Fit (on_judged j k)
  unfolding on_judged HeadAll
  judged-fit j k (good p) f = f p
  judged-fit j k bad f = tt

  procedure-fit : Byte s at 28 → Fit (procedure_head ed s st (blank at (get_or s at 0) 11 2 Procedure))
  unfolding procedure_head HeadAll blank with_body
  procedure-fit h = judged-fit (procedure_of ed s st at) _ (procedure-all ed s st at) (λ b. h-procedure h b)

  -- the body, by the kind
  body-fit :
      (x : Shape) → at < length s → Shaped (get_or s at 0) x →
      Fit (head_of_shape x at (λ body parts rule. body_of ed rule s st N (blank at (get_or s at 0) body parts rule)))
  unfolding HeadAll head_of_shape body_of limited blank with_body
  body-fit x l (s-declare e) = tt
  body-fit x l (s-once e) = tt
  body-fit x l (s-retire e) = tt
  body-fit x l (s-skip e) = h-skip (l, e)
  body-fit x l (s-diverge e) = byte-all _ s (at + 1) 5 _ (λ a b l'. h-diverge (l, e) b l')
  body-fit x l (s-truth e) = byte-all _ s (at + 1) 2 _ (λ a b l'. h-truth (l, e) b l')
  body-fit x l (s-number e) = number-fit (l, e)
  body-fit x l (s-use e) = use-fit (l, e)
  body-fit x l (s-fetch e) = h-fetch (l, e)
  body-fit x l (s-operate e) = byte-all _ s (at + 1) 9 _ (λ a b l'. h-operate (l, e) b l')
  body-fit x l (s-assign e) = h-assign (l, e)
  body-fit x l (s-sequence e) = h-sequence (l, e)
  body-fit x l (s_if e) = h-if (l, e)
  body-fit x l (s-while e) = h-while (l, e)
  body-fit x l (s-new e) = new-fit (l, e)
  body-fit x l (s-procedure e) = procedure-fit (l, e)
  body-fit x l s-unknown = tt

  -- a head is a record of some kind
  pub heads : (left : ℕ) → Fit (head_of ed s st N (suc left) at)
  unfolding head_of HeadAll
  heads left =
      pick_all Fit (leb (length s) at) (λ e. tt)
      (λ e. rw (eqb-suc-zero left)
      (body-fit (shape_of (get_or s at 0)) (leb-false (length s) at e) (shaped (get_or s at 0))))

-- and a record of some kind is the head
pub byte-is : (s : List ℕ) (p limit : ℕ) {a : ℕ} → Byte s p a → a < limit → byte_of s p limit ≡ Ok a
unfolding byte_of
byte-is s p limit {a} (l, e) h = rw (lt-leb (length s) p l, e, lt-leb limit a h) refl

pub head-is :
    (ed : Edition) (s st : List ℕ) (N : Numbers) (at left : ℕ) (r : Record) → Heads ed s st N at r →
    head_of ed s st N (suc left) at ≡ Ok r
unfolding head_of shape_of head_of_shape body_of limited constant use_of new_of data_byte procedure_head on_byte on_judged with_body
    used blank
head-is ed s st N at left r (h-skip (l, e)) = rw (lt-leb (length s) at l, e, eqb-suc-zero left) refl
head-is ed s st N at left r (h-diverge (l, e) b h) =
    rw (lt-leb (length s) at l, e, eqb-suc-zero left, byte-is s (at + 1) 5 b h) refl
head-is ed s st N at left r (h-truth (l, e) b h) =
    rw (lt-leb (length s) at l, e, eqb-suc-zero left, byte-is s (at + 1) 2 b h) refl
head-is ed s st N at left r (h-number (l, e) b h i) =
    rw (lt-leb (length s) at l, e, eqb-suc-zero left, byte-is s (at + 1) 256 b h, i) refl
head-is ed s st N at left r (h-use {a = a} (l, e) b h f g) =
    rw (
      lt-leb (length s) at l,
      e,
      eqb-suc-zero left,
      byte-is s (at + 1) 255 b h,
      ne_eqb (get_or st a 0) 0 f,
      ne_eqb (get_or st a 0) 1 g,
    ) refl
head-is ed s st N at left r (h-fetch (l, e)) = rw (lt-leb (length s) at l, e, eqb-suc-zero left) refl
head-is ed s st N at left r (h-operate (l, e) b h) =
    rw (lt-leb (length s) at l, e, eqb-suc-zero left, byte-is s (at + 1) 9 b h) refl
head-is ed s st N at left r (h-assign (l, e)) = rw (lt-leb (length s) at l, e, eqb-suc-zero left) refl
head-is ed s st N at left r (h-sequence (l, e)) = rw (lt-leb (length s) at l, e, eqb-suc-zero left) refl
head-is ed s st N at left r (h-if (l, e)) = rw (lt-leb (length s) at l, e, eqb-suc-zero left) refl
head-is ed s st N at left r (h-while (l, e)) = rw (lt-leb (length s) at l, e, eqb-suc-zero left) refl
head-is ed s st N at left r (h-new {a = a} {d = d} (l, e) b h f u b' k k') =
    rw (
      lt-leb (length s) at l,
      e,
      eqb-suc-zero left,
      byte-is s (at + 1) 255 b h,
      f,
      u,
      byte-is s (at + 2) 3 b' k',
      ne_eqb d 0 (λ z. omega arith),
    ) refl
head-is ed s st N at left r (h-procedure (l, e) B) =
    rw (lt-leb (length s) at l, e, eqb-suc-zero left, procedure-is ed s st at B) refl
