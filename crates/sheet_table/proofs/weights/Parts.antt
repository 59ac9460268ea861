-- Parts that are read and weighed one after the other: their forms are on the stack in this order, their marks are set.
use Prim.Native.Nat.{ℕ, suc, ◌+◌, ◌*◌, ◌≤◌, ◌<◌}
use native.Mathlib.Omega.{arith}
use mathlib.Core.Path.{◌≡◌, ◌∙◌, subst}
use mathlib.Core.List.{List}
use lib.ListN.{length}
use Rattle.language.specs.declared.Numbers.{Numbers}
use Rattle.sheet_rows.specs.Row.{linked}
use Rattle.sheet_written.specs.Written.{Written, Name}
use Rattle.sheet_written.specs.Form.{form_of}
use Rattle.sheet_written.specs.Context.{Context, binders, forms}
use Rattle.sheet_written.specs.Table.{BINDERS, Shown}
use Rattle.sheet_written.specs.Marks.{Marked}
use Rattle.weight_theory.specs.Stack.{all_words, marks_in, slot_of, height_of}
use Rattle.weight_theory.specs.Shows.{Shows}
use Rattle.weight_theory.specs.Weighed.{many, Ready, Formed}
use Rattle.weight_theory.proofs.FormLaws.{shows_kept}
use Rattle.weight_theory.proofs.Same.{marked-agree}
use Rattle.sheet_reader.specs.Reader.{Tree, Trees, leaf, branch, written, writtens}
use Rattle.sheet_reader.specs.table.Fill.{fill, fills}
use Rattle.sheet_table.proofs.Rows.{length-linked}
use Rattle.sheet_table.proofs.Spans.{Placed, forward, length-fill}
use Rattle.sheet_table.proofs.Stored.{StoredParts, stored-none, stored_more, place, head, tail}
use Rattle.sheet_table.proofs.weights.Keeping.{Kept, kept-none, kept_then, kept_less, kept-linked, height-linked}
use Rattle.sheet_table.proofs.weights.ReadyAlong.{Behind, behind-later, ready-kept}

module _ (N : Numbers) (ns : List Name) where
  -- a part of Γ at a place, of at most so many levels, may be read where the stack has h forms
  pub record Starts (t : List ℕ) (Γ : Context) (π : ℕ → ℕ) (at h left : ℕ) : Type 0 where
    pub long : length t ≡ all_words
    pub height : height_of t ≡ h
    pub room : h + 3 * left ≤ 96
    pub few : length (binders Γ) + 4 * left ≤ BINDERS
    pub behind : Behind Γ π at
    pub ready : Ready N ns t Γ π at h

  -- the part W of Γ was read and weighed: its form is the last one, and it is marked
  pub record Done (t u : List ℕ) (Γ : Context) (at : ℕ) (W : Written) (h : ℕ) : Type 0 where
    pub shows : Shows u h (form_of N ns (binders Γ) (forms N ns Γ) W)
    pub height : height_of u ≡ suc h
    pub slot : slot_of u at ≡ h
    pub marked : Marked N ns u (marks_in u) Γ at W
    pub kept : Kept t u 0 at h

module _ (N : Numbers) (s : List ℕ) (ns : List Name) where
  -- what reading the part x of Γ does
  pub record Part (Γ : Context) (π : ℕ → ℕ) (left at : ℕ) (x : Tree) (next : ℕ) : Type 0 where
    pub placed : Placed s at next x
    pub shown : (t : List ℕ) → length t ≡ 58313 → Shown N ns (fill N x t) Γ π at next (written s x)
    pub does : (t : List ℕ) (h : ℕ) → Starts N ns t Γ π at h left → Done N ns t (fill N x t) Γ at (written s x) h

  -- parts one after the other
  pub data PartsOf (Γ : Context) (π : ℕ → ℕ) (left : ℕ) : ℕ → Trees → ℕ → Type 0 where
    no_part : {at : ℕ} → PartsOf Γ π left at leaf at
    a-part : {at mid next : ℕ} {x : Tree} {xs : Trees} → Part Γ π left at x mid → PartsOf Γ π left mid xs next →
        PartsOf Γ π left at (branch at x xs) next

  -- parts j, j + 1, .. of the record at p, which begin at a place, were read from the table t to the table u, where the
  -- stack had h forms
  pub record PartsDone (t u : List ℕ) (Γ : Context) (p j from next : ℕ) (ts : Trees) (h : ℕ) : Type 0 where
    pub height : height_of u ≡ h + many (writtens s ts)
    pub early : Kept t u 0 p h
    pub between : Kept t u (suc p) from h
    pub formed : (v : List ℕ) → Kept u v from next (h + many (writtens s ts)) → StoredParts N v p j ts →
        Formed N ns v Γ p h j (writtens s ts)

  module _ (short : length s ≤ 4096) where
    -- one part
    pub one-done : {Γ : Context} {π : ℕ → ℕ} {left at next : ℕ} {x : Tree} → Part Γ π left at x next →
        (p j : ℕ) (t : List ℕ) (h : ℕ) → p < at → j < 4 → Starts N ns (linked p j at t) Γ π at h left →
        PartsDone t (fill N x (linked p j at t)) Γ p j at next (branch at x leaf) h
    unfolding many writtens Formed
    one-done {Γ} {π} {left} {at} {next} {x} P p j t h b g S =
        let l : List ℕ = linked p j at t in
        let u : List ℕ = fill N x l in
        let D : Done N ns l u Γ at (written s x) h = P.does l h S in
        let f : at < next = forward P.placed.span in
        let w : next ≤ length s = P.placed.within in
        record {
          height = D.height ∙ omega arith;
          early = kept_then (kept-linked p j at t 0 p h (omega arith) g (λ q a c e. omega arith))
              (kept_less 0 p h (omega arith) (omega arith) (omega arith) D.kept);
          between = kept_then (kept-linked p j at t (suc p) at h (omega arith) g (λ q a c e. omega arith))
              (kept_less (suc p) at h (omega arith) (omega arith) (omega arith) D.kept);
          formed = λ v K T. (
            shows_kept u v h _ (λ i c. K.forms h i (omega arith) c) D.shows,
            rw (place T)
                (marked-agree N ns u v (marks_in u) (marks_in v) (P.shown l S.long)
                (λ q i a c d. K.rows q i a c d) (λ q a c. K.marks q a c) D.marked),
            tt,
          );
        }

    -- parts of Γ, behind whose procedures the record stands
    pub parts-done : {Γ : Context} {π : ℕ → ℕ} {left from next : ℕ} {ts : Trees} → PartsOf Γ π left from ts next →
        (p j : ℕ) (t : List ℕ) (h₀ h : ℕ) → p < from → p < 4096 → j + many (writtens s ts) ≤ 4 → length t ≡ 58313 →
        height_of t ≡ h → h + many (writtens s ts) + 3 * left ≤ 97 → length (binders Γ) + 4 * left ≤ 128 →
        Behind Γ π p → h₀ ≤ h → Ready N ns t Γ π p h₀ → PartsDone t (fills N ts p j t) Γ p j from next ts h
    unfolding many writtens Formed fills
    parts-done no_part p j t h₀ h b c g l e room few B o R = record {
      height = e ∙ omega arith;
      early = kept-none t 0 p h;
      between = kept-none t (suc p) _ h;
      formed = λ v K T. tt;
    }
    parts-done {Γ} {π} {left} (a-part {at} {mid} {next} {x} {xs} P Ps) p j t h₀ h b c g l e room few B o R =
        let k : List ℕ = linked p j at t in
        let u : List ℕ = fill N x k in
        let K₀ : Kept t k 0 p h₀ = kept-linked p j at t 0 p h₀ c (omega arith) (λ q a d f. omega arith) in
        let S : Starts N ns k Γ π at h left = record {
          long = length-linked p j at t ∙ l;
          height = height-linked p j at t c (omega arith) ∙ e;
          room = omega arith;
          few = few;
          behind = behind-later Γ π p at (omega arith) B;
          ready = ready-kept N ns t k Γ π p at h₀ h B (omega arith) o K₀ R;
        } in
        let f : at < mid = forward P.placed.span in
        let O = one-done P p j t h b (omega arith) S in
        let R' : Ready N ns u Γ π p h₀ =
        ready-kept N ns t u Γ π p p h₀ h₀ B (omega arith) (omega arith)
        (kept_less 0 p h₀ (omega arith) (omega arith) o O.early) R in
        let Q = parts-done Ps p (j + 1) u h₀ (suc h) (omega arith) c (omega arith) (length-fill N x k ∙ S.long)
        (O.height ∙ omega arith) (omega arith) few B (omega arith) R' in
        record {
          height = Q.height ∙ omega arith;
          early = kept_then O.early (kept_less 0 p h (omega arith) (omega arith) (omega arith) Q.early);
          between = kept_then O.between
              (kept_less (suc p) at h (omega arith) (omega arith) (omega arith) Q.between);
          formed = λ v K T.
              let A = O.formed v
              (kept_then (kept_less at mid (h + 1) (omega arith) (omega arith) (omega arith) Q.between)
              (kept_less at mid (h + 1) (omega arith) (omega (arith, onward Ps)) (omega arith) K))
              (stored_more (place T) (head T) stored-none) in
              let i : j + 1 ≡ suc j = omega arith in (
                A.0,
                A.1,
                subst (λ n. Formed N ns v Γ p (suc h) n (writtens s xs)) i
                    (Q.formed v
                    (kept_less mid next (suc h + many (writtens s xs)) (omega arith) (omega arith) (omega arith) K)
                    (tail T)),
              );
        }
      where
        onward : {Γ : Context} {π : ℕ → ℕ} {left from next : ℕ} {ts : Trees} → PartsOf Γ π left from ts next →
            from ≤ next
        onward no_part = omega arith
        onward (a-part P Ps) = omega (arith, forward P.placed.span, onward Ps)
