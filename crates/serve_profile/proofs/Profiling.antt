-- The answer of the service, from what judging the sheet and the pass over its records found.
use Rattle.std.specs.Prelude.{Result, Ok, Err, Option, Some, None}
use Prim.Native.Nat.{ℕ, ◌≤◌}
use mathlib.Core.Path.{◌≡◌, refl, sym, ap, ◌∙◌, subst}
use mathlib.Core.List.{List, [], ◌∷◌}
use lib.ListN.{length}
use Rattle.sheet_records.specs.Refusal.{refusal, cause, old_sheet, not_quiet}
use Rattle.sheet_records.specs.declared.edition.Edition.TheVariants.{Present}
use Rattle.sheet_records.specs.declared.refusal.Refusal.{Refusal}
use Rattle.sheet_records.specs.declared.refusal.Cause.{Cause}
use Rattle.sheet_reader.specs.Reader.{read_sheet}
use Rattle.sheet_reader.proofs.Right.{gives}
use Rattle.sheet_judge.specs.Check.{answered, checked_of}
use Rattle.sheet_judge.specs.Judged.{Judged, JudgedBy}
use Rattle.sheet_judge.specs.declared.judge.Judgement.{Judgement}
use Rattle.sheet_judge.specs.declared.check.Checked.{Checked}
use Rattle.serve_profile.specs.Offence.{offences}
use Rattle.serve_profile.specs.inner.Pass.{first_of, Finds}
use Rattle.serve_profile.specs.Profile.{held_to, profiled_of}

held-quiet : (ps : List ℕ) → None ≡ first_of ps → (x : Result Checked Cause) → x ≡ held_to ps x
unfolding first_of held_to
held-quiet [] h x = refl
held-quiet (p ∷ ps) h x = cc

held-loud : (p : ℕ) (ps : List ℕ) → Some p ≡ first_of ps → (x : Result Checked Cause) →
    Err (cause not_quiet old_sheet p) ≡ held_to ps x
unfolding first_of held_to
held-loud p [] h x = cc
held-loud p (q ∷ ps) h x = let e : p ≡ q = cc in rw e refl

-- a sheet that check refuses
pub profiled-refused : (s u : List ℕ) {y : Result Judgement Refusal} {x : Refusal} {q : Cause} →
    JudgedBy Present s y u → y ≡ Err x → q ≡ cause x.reason old_sheet x.place → Err q ≡ profiled_of (read_sheet s)
unfolding JudgedBy profiled_of checked_of
profiled-refused s u J e g = let j = rw e at J in rw (g, j) refl

module _ (s u : List ℕ) {y : Result Judgement Refusal} {x : Judgement} (J : JudgedBy Present s y u) (e : y ≡ Ok x)
  where
    judged : Judged Present s x.root x.ty x.size x.uses u
    unfolding JudgedBy
    judged = rw e at J

    -- a sheet that check accepts has at most 4,096 bytes
    pub judged-short : length s ≤ 4096
    judged-short =
        let g = gives Present s judged.sheet x.ty x.size judged.accepts in
        subst (λ (b : List ℕ). length b ≤ 4096) (sym g.0) g.1.short

    found : {r : Option ℕ} → Finds s u x.root r → r ≡ first_of (offences judged.sheet)
    found F = F.does judged.sheet x.ty x.size judged.accepts judged.rooted judged.seats

    -- nothing offends
    pub profiled-quiet : {r : Option ℕ} → Finds s u x.root r → r ≡ None →
        answered x.ty x.size x.uses ≡ profiled_of (read_sheet s)
    unfolding profiled_of checked_of
    profiled-quiet F n =
        rw judged.accepts (ap (answered x.ty x.size) judged.used
        ∙ held-quiet (offences judged.sheet) (sym n ∙ found F) _)

    -- a record offends
    pub profiled-loud : {r : Option ℕ} {p : ℕ} {z : Refusal} {q : Cause} → Finds s u x.root r → r ≡ Some p →
        z ≡ refusal not_quiet p → q ≡ cause z.reason old_sheet z.place → Err q ≡ profiled_of (read_sheet s)
    unfolding profiled_of
    profiled-loud {p = p} F n f g =
        rw (judged.accepts, g, f) (held-loud p (offences judged.sheet) (sym n ∙ found F) _)
