-- The text of an answer, by what its lines write.
use Prim.Native.Nat.{ℕ}
use native.Mathlib.Omega.{arith}
use mathlib.Core.Path.{◌≡◌, refl, sym, ◌∙◌}
use mathlib.Core.List.{List}
use Rattle.std.specs.Prelude.{Option, Some, None, Result, Ok, Err}
use lib.ListN.{get_or}
use Rattle.sheet_records.specs.declared.edition.Edition.TheVariants.{Present}
use Rattle.sheet_records.specs.declared.refusal.Cause.{Cause}
use Rattle.sheet_written.specs.Written.{Sheet}
use Rattle.sheet_written.specs.Uses.{declared_in}
use Rattle.sheet_reader.specs.Reader.{Checks, accepted, rejected, read_sheet}
use Rattle.sheet_judge.specs.Check.{checked_of}
use Rattle.sheet_judge.specs.Masks.{declared_at}
use Rattle.sheet_judge.specs.declared.mark.Uses.{Uses}
use Rattle.sheet_judge.specs.declared.check.Checked.{Checked}
use Rattle.sheet_judge.proofs.Masking.{counted}
use Rattle.serve_compare.specs.declared.Comparison.{Comparison}
use Rattle.play_words.specs.declared.Difference.{Difference}
use Rattle.print_text.specs.Page.{Page, pushes}
use Rattle.print_text.specs.Text.{ascii, refused_text, sizes_text, uses_text, apart_text, move_text, first_move}
use Rattle.print_text.specs.Text.{moves_text, size_in, declared_of, sheets_text, found_text, text_of}
use Rattle.print_text.proofs.Pages.{after}

-- the size that check finds
size-as : (x : Checks) {c : Checked} → checked_of x ≡ Ok c → c.size ≡ size_in x
unfolding checked_of size_in
size-as (accepted S ty size) e = cc
size-as (rejected number place) e = let z : ◌≡◌ {A = ℕ} 0 1 = cc in absurd (omega arith)

-- the names declared, where check accepts
declared-as : (x : Checks) {c : Checked} (n : ℕ) → checked_of x ≡ Ok c →
    ((S : Sheet) (t m : ℕ) → x ≡ accepted S t m → n ≡ declared_in S) → n ≡ declared_of x
unfolding checked_of declared_of
declared-as (accepted S ty size) n e h = h S ty size refl
declared-as (rejected number place) n e h = let z : ◌≡◌ {A = ℕ} 0 1 = cc in absurd (omega arith)

-- neither, where it refuses
none-as : (x : Checks) {y : Cause} → checked_of x ≡ Err y → (0 ≡ size_in x) × (0 ≡ declared_of x)
unfolding checked_of size_in declared_of
none-as (accepted S ty size) e = let z : ◌≡◌ {A = ℕ} 0 1 = cc in absurd (omega arith)
none-as (rejected number place) e = (refl, refl)

pub size-found : (s : List ℕ) {x : Result Checked Cause} {c : Checked} → x ≡ checked_of (read_sheet s) →
    x ≡ Ok c → c.size ≡ size_in (read_sheet s)
size-found s d e = size-as (read_sheet s) (sym d ∙ e)

pub declared-found : (s : List ℕ) (n : ℕ) {x : Result Checked Cause} {c : Checked} → x ≡ checked_of (read_sheet s) →
    x ≡ Ok c → n ≡ declared_at s → n ≡ declared_of (read_sheet s)
declared-found s n d e h = declared-as (read_sheet s) n (sym d ∙ e) (λ S t m r. h ∙ counted Present s S t m r)

pub no-figures : (s : List ℕ) {x : Result Checked Cause} {y : Cause} → x ≡ checked_of (read_sheet s) → x ≡ Err y →
    (0 ≡ size_in (read_sheet s)) × (0 ≡ declared_of (read_sheet s))
no-figures s d e = none-as (read_sheet s) (sym d ∙ e)

-- the lines of two sheets
pub sheets-lines : {q r : Page} (p : Page) (old new : List ℕ) (u v : Uses) (x y a b : ℕ) →
    x ≡ size_in (read_sheet old) → y ≡ size_in (read_sheet new) → a ≡ declared_of (read_sheet old) →
    b ≡ declared_of (read_sheet new) → q ≡ pushes (sizes_text x y) p →
    r ≡ pushes (uses_text u.used a v.used b) q → r ≡ pushes (sheets_text old new u v) p
unfolding sheets_text
sheets-lines p old new u v x y a b d e f g h k =
    rw (← d, ← e, ← f, ← g) (after p (sizes_text x y) (uses_text u.used a v.used b) h k)

-- the line of a move
pub move-line : {q : Page} (p : Page) (s : List ℕ) (k i j v : ℕ) → k ≡ get_or s 0 0 → i ≡ get_or s 1 0 → j ≡ get_or s 2 0 →
    v ≡ get_or s 3 0 → q ≡ pushes (move_text k i j v) p → q ≡ pushes (first_move s) p
unfolding first_move
move-line p s k i j v a b c d h = rw (← a, ← b, ← c, ← d) h

-- the whole text
module _ (p : Page) (old new space : List ℕ) {r : Result Comparison Cause} where
  pub text-refused : {q : Page} {x : Cause} → r ≡ Err x → q ≡ pushes (refused_text x) p →
      q ≡ pushes (text_of old new r space) p
  unfolding text_of
  text-refused e h = rw e h

  pub text_same : {q q' : Page} {c : Comparison} → r ≡ Ok c → c.found ≡ None →
      q ≡ pushes (sheets_text old new c.old c.new) p → q' ≡ pushes (ascii "same\n") q →
      q' ≡ pushes (text_of old new r space) p
  unfolding text_of found_text
  text_same e f h l = rw (e, f) (after p _ (ascii "same\n") h l)

  pub text-apart : {q q' q'' : Page} {c : Comparison} {d : Difference} → r ≡ Ok c → c.found ≡ Some d →
      q ≡ pushes (sheets_text old new c.old c.new) p → q' ≡ pushes (apart_text d.sheet d.moves) q →
      q'' ≡ pushes (moves_text d.moves space) q' → q'' ≡ pushes (text_of old new r space) p
  unfolding text_of found_text
  text-apart e f h l k = rw (e, f) (after p _ _ (after p _ _ h l) k)
