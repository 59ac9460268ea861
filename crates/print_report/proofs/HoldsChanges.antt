-- The buffer of the program renumber holds every text that it can print: there are at most 254 changes, of 14 bytes
-- each, after one line.
use Prim.Native.Nat.{ℕ, ◌≤◌, ◌<◌}
use native.Mathlib.Omega.{arith}
use mathlib.Core.Path.{◌≡◌, refl, ap, ◌∙◌}
use mathlib.Core.Logic.{inl, inr}
use lib.ListN.{length, drop, get_or-append}
use lib.Seq.{take-append_seam}
use Rattle.sheet_judge.specs.Check.{NumberOf}
use Rattle.serve_renumber.specs.Outcome.{Outcome, done, refused, outcome, listed, RenumberedBy}
use Rattle.serve_renumber.specs.Service.{WrittenRule, AcceptedRule, RenumberNumber, RenumberNumbers}
use Rattle.serve_renumber.proofs.Lists.{listed-length}
use Rattle.serve_renumber.proofs.Serving.{written-rule, accepted-rule, renumber-numbers, renumber-places, listed-bytes}
use Rattle.print_text.specs.Page.{Page}
use Rattle.print_report.specs.Changes.{renumber_text}
use Rattle.print_report.specs.Program.{RenumberBufferHolds, RenumberPrintsWhole}
use Rattle.print_report.proofs.Fits.{at-start}
use Rattle.print_report.proofs.Short.{looser, refused-short, changed-short}
use Rattle.sheet_records.specs.Refusal.{number_of}
use Rattle.sheet_records.specs.declared.refusal.Reason.{Reason}

-- a refusal's number has two digits
small-number : (k : Reason) → RenumberNumber k → number_of k < 100
unfolding RenumberNumber NumberOf
small-number k (inl h) = omega (arith, h.1)
small-number k (inr (inl h)) = let n = ap number_of h in omega (arith, n)
small-number k (inr (inr h)) = let n = ap number_of h in omega (arith, n)

-- THEOREM: the buffer holds every text
renumber-buffer-holds : RenumberBufferHolds
unfolding RenumberedBy renumber_text WrittenRule AcceptedRule RenumberNumbers
renumber-buffer-holds s output list r output' list' p = go (outcome s (length output) (length list)) refl p
  where
    go : (x : Outcome) → outcome s (length output) (length list) ≡ x → RenumberedBy x r output output' list list' →
        length (renumber_text r list') ≤ 4096
    go (done b cs) e h =
        let A = accepted-rule s (length output) (length list) b cs e in
        let W = written-rule s (length output) (length list) b cs A.sheet A.type A.size e A.reads in
        let few = W.renumbers.few in
        let k = listed-length cs in
        let q = changed-short (length cs) list' (omega (arith, few)) (λ j l.
        rw (h.2, get_or-append (listed cs) (drop (length (listed cs)) list) 0 j (omega (arith, l, k)))
        (listed-bytes A.reads W j)) in
        rw h.0 (looser 4096 (omega (arith, few)) q).holds
    go (refused x) e h =
        let n = small-number x.reason (renumber-numbers s (length output) (length list) x e) in
        let q = refused-short x n (omega (arith, renumber-places s (length output) (length list) x e)) in
        rw h.0 (looser 4096 (omega arith) q).holds

-- THEOREM: what is printed is the whole text
pub renumber-prints-whole : RenumberPrintsWhole
renumber-prints-whole s output list out t output' list' out' b R =
    let h = renumber-buffer-holds s output list R.answer output' list' R.promised in
    let e = R.written ∙ at-start (renumber_text R.answer list') out (omega arith) in
    rw (ap (λ (p : Page). p.out) e, ap (λ (p : Page). p.at) e) (take-append_seam _ _)
