-- A byte that is below its limit.
use Prim.Native.Nat.{ℕ, ◌<◌}
use mathlib.Core.Path.{◌≡◌, refl}
use mathlib.Core.Bool.{Bool, true, false}
use mathlib.Core.List.{List}
use lib.ListN.{length, get_or}
use lib.Dec.{leb}
use borrow.Author.Tests.{leb-false}
use Rattle.language.specs.Choice.{pick}
use Rattle.sheet_heads.specs.Head.{byte_of, on_byte}
use Rattle.sheet_records.specs.Refusal.{refusal}
use Rattle.sheet_heads.specs.declared.head.Record.{Record}
use Rattle.std.specs.Prelude.{Result, Ok, Err}
use Rattle.sheet_records.specs.declared.refusal.Refusal.{Refusal}
use Rattle.sheet_records.specs.declared.refusal.Reason.TheVariants.{CutShort, OutOfRange}

pub bad-good : {x : Refusal} {r : Record} → Err x ≡ Ok r → ⊥
bad-good h = cc

pub good-same : {r r' : Record} → ◌≡◌ {A = Result Record Refusal} (Ok r) (Ok r') → r ≡ r'
good-same h = cc

-- what is made of an accepted byte
pub byte-good :
    (s : List ℕ) (at limit : ℕ) (k : ℕ → Result Record Refusal) (r : Record) → on_byte (byte_of s at limit) k ≡ Ok r →
    (at < length s) × (get_or s at 0 < limit) × (k (get_or s at 0) ≡ Ok r)
unfolding byte_of on_byte
byte-good s at limit k r = go (leb (length s) at) (leb limit (get_or s at 0)) refl refl
  where
    go : (t u : Bool) → leb (length s) at ≡ t → leb limit (get_or s at 0) ≡ u →
        on_byte (pick t (Err (refusal CutShort (length s))) (pick u (Err (refusal OutOfRange at)) (Ok (get_or s at 0)))) k ≡ Ok r →
        (at < length s) × (get_or s at 0 < limit) × (k (get_or s at 0) ≡ Ok r)
    go true u e f h = absurd (bad-good h)
    go false true e f h = absurd (bad-good h)
    go false false e f h = (leb-false (length s) at e, leb-false limit (get_or s at 0) f, h)
