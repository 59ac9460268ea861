-- The play of an entry of the queue: spelled in the working words, and written.
use mathlib.Core.Path.{◌≡◌, sym, ap, ◌∙◌, subst}
use mathlib.Core.List.{List}
use Prim.Native.Nat.{ℕ, ◌+◌, ◌*◌, ◌≤◌, ◌<◌}
use native.Mathlib.Omega.{arith}
use lib.ListN.{length, get_or, take, drop}
use lib.Dec.{eqb}
use borrow.Author.Tests.{eq-eqb, ne_eqb}
use Rattle.language.specs.Choice.{pick}
use Rattle.dfa.specs.Graph.{rest}
use Rattle.dfa_search.specs.Spelled.{Trail, Spelled, Spelling}
use Rattle.dfa.specs.Reading.{reversed}
use Rattle.dfa.proofs.laws.Reading.{reversed-length, reversed-reversed}
use Rattle.dfa_search.proofs.Spell.{written-take, spelled-length}
use Rattle.dfa.proofs.laws.Rest.{rest-is, rest-length}
use Rattle.dfa_search.proofs.Trace.{trail-spelled}
use Rattle.play_words.specs.Shown.{Shown}
use Rattle.std.specs.Prelude.{Some}
use lib.Seq.{sets}
use Rattle.play_records.specs.Bytes.{records_by}
use Rattle.sheet_records.specs.declared.refusal.Sheets.{Sheets}
use Rattle.sheet_records.specs.declared.refusal.Sheets.TheVariants.{Old, New}

module _ (n k r : ℕ) (ws ws' : List ℕ) (t : Trail n (take (5 * n) ws) k) (s : Spelling n k ws ws' r) where
  -- the word has fewer letters than there are states
  few-moves : r < n
  few-moves =
      let w = trail-spelled n (take (5 * n) ws) k t in
      omega (arith, (s.word w.0 w.1).0, spelled-length n (take (5 * n) ws) k w.0 w.1, t.below)

  module _ (room : 32 * n ≤ length ws) (same : length ws' ≡ length ws) where
    -- what write_play asks for
    pub play-room : (r ≤ 8193) × (5 * n + r ≤ length ws')
    play-room = (omega (arith, few-moves, t.few), omega (arith, few-moves))

    -- the letters stand from word 5 n on
    letters-stand : (u : List ℕ) → Spelled n (take (5 * n) ws) k u → take r (drop (5 * n) ws') ≡ reversed u
    letters-stand u h =
        let x = s.word u h in
        let out = rest (5 * n) ws' in
        let fits : length u ≤ length out = omega (arith, few-moves, x.0, rest-length (5 * n) ws') in
        ap (λ v. take r v) (sym (rest-is (5 * n) ws')) ∙ ap (λ j. take j out) x.0 ∙ written-take u out fits x.1

    module _ (last f : ℕ) (space space' : List ℕ) (read : last ≡ get_or ws (n + 4 * k) 0)
        (put : space' ≡ sets space 0 (records_by (take r (drop (5 * n) ws')))) where
      -- the play is shown
      shown : (which : Sheets) → pick (eqb (get_or ws (n + 4 * k) 0) f) Old New ≡ which →
          Shown n k f ws space (Some (record { sheet = which; moves = r })) space'
      shown which e =
          let w = trail-spelled n (take (5 * n) ws) k t in
          record {
            letters = reversed w.0;
            spelled = subst (λ v. Spelled n (take (5 * n) ws) k v) (sym (reversed-reversed w.0)) w.1;
            answer = rw (e, reversed-length w.0, (s.word w.0 w.1).0);
            written = put ∙ ap (λ v. sets space 0 (records_by v)) (letters-stand w.0 w.1);
          }

      -- as a play of the old sheet, where it ends at f
      pub shown-old : last ≡ f → Shown n k f ws space (Some (record { sheet = Old; moves = r })) space'
      shown-old e = shown Old (rw (eq-eqb _ _ (sym read ∙ e)))

      -- else of the new one
      pub shown_new : (last ≡ f → ⊥) → Shown n k f ws space (Some (record { sheet = New; moves = r })) space'
      shown_new e = shown New (rw (ne_eqb _ _ (λ h. e (read ∙ h))))
