-- The bytes of a term around a part.
use Prim.Native.Nat.{ℕ, ◌+◌}
use native.Mathlib.Omega.{arith}
use mathlib.Core.Path.{◌≡◌, refl, sym, ap, ap₂, ◌∙◌}
use mathlib.Core.List.{List, [], ◌∷◌, ◌++◌, append-nil, append_assoc}
use lib.ListN.{length, length-append}
use Rattle.language.specs.declared.Numbers.{Numbers}
use Rattle.sheet_written.specs.Written.{Written, Name, Sheet}
use Rattle.sheet_reader.specs.Encoding.{encode, encodes, encode_names, encode_sheet}
use Rattle.sheet_reader.proofs.Widths.{wide-heading}
use Rattle.serve_part.specs.Around.{Around, whole, in_call, in-fetch, in_left, in_right, in_target, in_source}
use Rattle.serve_part.specs.Around.{in_first, in_second, in_test, in_round, in_if, in_then, in_else, in-new}
use Rattle.serve_part.specs.Around.{Among, in_this, in_later, filled, all_filled}
use Rattle.serve_part.specs.Bytes.{bytes_before, all_before}
use Rattle.serve_part.specs.Rules.{BytesDiffer}

-- the bytes before and behind the gap, whatever stands in it, and how many are before it
pub record Frame (f : Written → List ℕ) (place : ℕ) : Type 0 where
  pub before : List ℕ
  pub behind : List ℕ
  pub around : (m : Written) → f m ≡ before ++ (encode m ++ behind)
  pub here : length before ≡ place

-- with bytes put before, and bytes put after
pub put-before : {f : Written → List ℕ} {k p : ℕ} (xs : List ℕ) → p ≡ length xs + k → Frame f k →
    Frame (λ m. xs ++ f m) p
put-before xs e F = record {
  before = xs ++ F.before;
  behind = F.behind;
  around = λ m. ap (λ (z : List ℕ). xs ++ z) (F.around m)
      ∙ sym (append_assoc xs F.before (encode m ++ F.behind));
  here = length-append xs F.before ∙ omega (arith, e, F.here);
}

put-after : {f : Written → List ℕ} {p : ℕ} (ys : List ℕ) → Frame f p → Frame (λ m. f m ++ ys) p
put-after ys F = record {
  before = F.before;
  behind = F.behind ++ ys;
  around = λ m. ap (λ (z : List ℕ). z ++ ys) (F.around m)
      ∙ append_assoc F.before (encode m ++ F.behind) ys
      ∙ ap (λ (z : List ℕ). F.before ++ z) (append_assoc (encode m) F.behind ys);
  here = F.here;
}

mutual
  unfolding filled all_filled encode encodes bytes_before all_before

  pub frame : (C : Around) → Frame (λ m. encode (filled C m)) (bytes_before C)
  frame whole = record { before = []; behind = []; around = λ m. sym (append-nil (encode m)); here = refl }
  frame (in_call id A) = put-before (20 ∷ id ∷ []) (omega arith) (frames A)
  frame (in-fetch C) = put-before (21 ∷ []) (omega arith) (frame C)
  frame (in_left op C y) = put-before (22 ∷ op ∷ []) (omega arith) (put-after (encode y) (frame C))
  frame (in_right op x C) = put-before (22 ∷ op ∷ encode x) (omega arith) (frame C)
  frame (in_target C y) = put-before (23 ∷ []) (omega arith) (put-after (encode y) (frame C))
  frame (in_source x C) = put-before (23 ∷ encode x) (omega arith) (frame C)
  frame (in_first C y) = put-before (24 ∷ []) (omega arith) (put-after (encode y) (frame C))
  frame (in_second x C) = put-before (24 ∷ encode x) (omega arith) (frame C)
  frame (in_test C y) = put-before (26 ∷ []) (omega arith) (put-after (encode y) (frame C))
  frame (in_round x C) = put-before (26 ∷ encode x) (omega arith) (frame C)
  frame (in_if C x y) = put-before (25 ∷ []) (omega arith) (put-after (encode x ++ encode y) (frame C))
  frame (in_then b C y) = put-before (25 ∷ encode b) (omega arith) (put-after (encode y) (frame C))
  frame (in_else b x C) =
      put-before {k = length (encode x) + bytes_before C} (25 ∷ encode b) (omega arith)
      (put-before (encode x) refl (frame C))
  frame (in-new id d C) = put-before (27 ∷ id ∷ d ∷ []) (omega arith) (frame C)

  frames : (A : Among) → Frame (λ m. encodes (all_filled A m)) (all_before A)
  frames (in_this C ws) = put-after (encodes ws) (frame C)
  frames (in_later w A) = put-before (encode w) refl (frames A)

-- the bytes up to the term
unfoldable pub heading : Sheet → List ℕ
heading S = S.numbers.z ∷ S.numbers.rule ∷ encode_names S.names

-- THEOREM: the bytes are the same before and after the part, which stands at one place in both
pub bytes-differ : BytesDiffer
unfolding encode_sheet heading
bytes-differ S T C m n d =
    let F = put-before (heading S) refl (frame C) in (
      record {
        before = F.before;
        behind = F.behind;
        of_old = ap (λ W. heading S ++ encode W) d.first ∙ F.around m;
        of_new = ap₂ (λ (N : Numbers) (ns : List Name). N.z ∷ N.rule ∷ (encode_names ns ++ encode T.term))
            (sym d.numbers) (sym d.names)
            ∙ ap (λ W. heading S ++ encode W) d.second ∙ F.around n;
      },
      record { term = d.first; here = omega (arith, F.here, wide-heading S) },
      record {
        term = d.second;
        here = omega (arith, F.here, wide-heading T, ap (λ (ns : List Name). length (encode_names ns)) d.names);
      },
    )
