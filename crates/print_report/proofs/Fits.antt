-- Where there is room for the text, out begins with it, the rest of out is as it was, and the count is its length.
use Prim.Native.Nat.{ℕ, suc, ◌+◌, ◌≤◌}
use native.Mathlib.Omega.{arith}
use native.Mathlib.Nat.{zero-add}
use native.Mathlib.Numerals.{add-one}
use mathlib.Core.Path.{◌≡◌, sym, ap, ◌∙◌}
use mathlib.Core.List.{List, [], ◌∷◌, ◌++◌}
use lib.Dec.{ltb}
use lib.ListN.{length, drop, set, length-set}
use lib.Seq.{sets, sets-eq, length-take-le}
use borrow.Author.Tests.{ltb-true}
use Rattle.language.proofs.NumberLaws.{by-test}
use Rattle.print_text.specs.Page.{Page, page, pushed, pushes, Counts}
use Rattle.print_text.specs.Text.{text_of}
use Rattle.print_report.specs.Reported.{Reported}
use Rattle.print_text.proofs.Pages.{pushed_room}

-- the cursor stays within
pushed-within : (v : ℕ) (p : Page) → p.at ≤ length p.out → (pushed v p).at ≤ length (pushed v p).out
unfolding pushed
pushed-within v p h =
    by-test (ltb p.at (length p.out))
    (λ t. rw (t, length-set) (omega (arith, ltb-true p.at (length p.out) t)))
    (λ t. rw t h)

pushes-within : (xs : List ℕ) (p : Page) → p.at ≤ length p.out → (pushes xs p).at ≤ length (pushes xs p).out
unfolding pushes
pushes-within [] p h = h
pushes-within (x ∷ xs) p h = pushes-within xs (pushed x p) (pushed-within x p h)

pub counts : (xs out out' : List ℕ) (n : ℕ) → page out' n ≡ pushes xs (page out 0) → Counts n out'
counts xs out out' n e =
    let h : n ≤ length out' = rw (← e) at (pushes-within xs (page out 0) (omega arith)) in
    (h, sym (length-take-le n out' h))

-- a text at a place
at_place : (xs out : List ℕ) (at : ℕ) → at + length xs ≤ length out →
    pushes xs (page out at) ≡ page (sets out at xs) (at + length xs)
unfolding pushes
at_place [] out at h = ap (page out) (omega arith)
at_place (x ∷ xs) out at h =
    rw (
      ← pushed_room out at x (omega arith),
      add-one,
      at_place xs (set out at x) (suc at) (rw length-set (omega arith)),
    )
    (ap (page (sets (set out at x) (suc at) xs)) (omega arith))

-- a text at the start
pub at-start : (xs out : List ℕ) → length xs ≤ length out →
    pushes xs (page out 0) ≡ page (xs ++ drop (length xs) out) (length xs)
at-start xs out h = rw (at_place xs out 0 (omega arith), sets-eq xs out 0 (omega arith), zero-add)

-- of report: the text of its answer
module _ {old new ws space out : List ℕ} {count : ℕ} {ws' space' out' : List ℕ}
    (R : Reported old new ws space out count ws' space' out') where
  abbrev pub text : List ℕ
  text = text_of old new R.answer space'

  pub reported-fits : length text ≤ length out → (out' ≡ text ++ drop (length text) out) × (count ≡ length text)
  reported-fits h =
      let e = R.written ∙ at-start text out h in
      (ap (λ (p : Page). p.out) e, ap (λ (p : Page). p.at) e)
