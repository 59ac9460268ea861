-- Three ways to compare a part alone that do not do.
use Prim.Native.Nat.{ℕ, ◌≤◌}
use native.Mathlib.Omega.{arith}
use mathlib.Core.Path.{◌≡◌, refl, ap, ap₂, ◌∙◌}
use mathlib.Core.Logic.{inl, inr}
use mathlib.Core.List.{List, [], ◌∷◌, ◌++◌}
use lib.ListN.{length}
use Rattle.language.specs.Number.{numbers}
use Rattle.language.specs.Ty.{run, read, write, done, ok, value, to_run}
use Rattle.language.specs.Ty as types
use Rattle.language.specs.Move.{Event, question, answer, move, private, Word}
use Rattle.language.specs.Play.{Plays, Complete, reading, writing, Stable, quiet, reads, writes, kept, hide, whole}
use Rattle.language.specs.Weight.{weight, size}
use Rattle.sheet_parts.specs.Rule.{values}
use Rattle.sheet_written.specs.Written.{Written, skip, diverge, truth, call, fetch, assign, sequence, choose, new, none}
use Rattle.sheet_written.specs.Written.{procedure, Sheet}
use Rattle.sheet_written.specs.Meaning.{declared, id_of, meant, meaning, inside, after, types_of, ty_of, use_type, typed}
use Rattle.sheet_written.specs.Meaning.{by_meaning, no_terms, with-level, with-body, with_passed, resolve, term_of, type_of}
use Rattle.sheet_written.specs.Environment.{beyond}
use Rattle.sheet_written.specs.Rules.{with_term}
use Rattle.sheet_written.specs.Fine.{FineUse, FineParameters, Fine, FineArgs, FineNames, depth, depths}
use Rattle.sheet_written.specs.Hiding.{is_held, Unheld, ApartParameters, Apart, AllApart}
use Rattle.sheet_reader.specs.Encoding.{pairs, encode, encodes, encode_names, encode_sheet}
use Rattle.sheet_reader.specs.Fine.{Accepted}
use Rattle.serve_compare.specs.Plays.{Alike}
use Rattle.serve_part.specs.Around as around
use Rattle.serve_part.specs.Around.{filled, enclosing}
use Rattle.serve_part.specs.Wrong.{Undeclared, OwnBlock, InScope}

-- Z = 1, rule 0, no names
abbrev sheet : Written → Sheet
sheet W = record { numbers = record { z = 1; rule = 0 }; names = []; term = W }

-- v := true, where v has the id 0; and if !v then skip else diverge
abbrev write-it : Written
write-it = assign (call 0 none) (truth 1)

abbrev read-it : Written
read-it = choose (fetch (call 0 none)) skip (diverge 0)

-- such a sheet is accepted
accepted-as : (W : Written) → Fine (record { z = 1; rule = 0 }) [] [] W → Apart [] W → depth W ≤ 32 →
    size (ty_of (record { z = 1; rule = 0 }) (type_of (sheet W))) (term_of (sheet W)) ≤ 4096 →
    length (encode_sheet (sheet W)) ≤ 4096 → Accepted (sheet W)
unfolding FineNames
accepted-as W f a shallow small short = record {
  ordered = record {
    in_order = record { z_above = omega arith; z_below = omega arith; fine_names = tt; fine_term = f };
    rule_below = omega arith;
    few_names = omega arith;
    shallow = shallow;
    small = small;
  };
  short = short;
  apart = λ e. a;
}

writes-it : Accepted (sheet (new 0 1 write-it))
unfolding FineNames Fine FineArgs FineUse declared meaning id_of meant typed use_type Apart AllApart Unheld is_held
    encode_sheet encode_names encode encodes depth depths size weight term_of type_of ty_of resolve by_meaning values numbers
    types.questions types.answers
writes-it =
    accepted-as (new 0 1 write-it)
    (omega arith, refl, omega arith, omega arith, ((omega arith, refl), omega arith, omega arith, refl), refl)
    (refl, (tt, tt)) (omega arith) (omega arith) (omega arith)

skips : Accepted (sheet (new 0 1 skip))
unfolding FineNames Fine FineArgs FineUse declared meaning id_of meant typed use_type Apart AllApart Unheld is_held
    encode_sheet encode_names encode encodes depth depths size weight term_of type_of ty_of resolve by_meaning values numbers
    types.questions types.answers
skips =
    accepted-as (new 0 1 skip)
    (omega arith, refl, omega arith, omega arith, tt, refl)
    (refl, tt) (omega arith) (omega arith) (omega arith)

diverges : Accepted (sheet (new 0 1 (diverge 0)))
unfolding FineNames Fine FineArgs FineUse declared meaning id_of meant typed use_type Apart AllApart Unheld is_held
    encode_sheet encode_names encode encodes depth depths size weight term_of type_of ty_of resolve by_meaning values numbers
    types.questions types.answers
diverges =
    accepted-as (new 0 1 (diverge 0))
    (omega arith, refl, omega arith, omega arith, omega arith, refl)
    (refl, tt) (omega arith) (omega arith) (omega arith)

writes_reads : Accepted (sheet (new 0 1 (sequence write-it read-it)))
unfolding FineNames Fine FineArgs FineUse declared meaning id_of meant typed use_type Apart AllApart Unheld is_held
    encode_sheet encode_names encode encodes depth depths size weight term_of type_of ty_of resolve by_meaning values numbers
    types.questions types.answers
writes_reads =
    accepted-as (new 0 1 (sequence write-it read-it)) (
      omega arith,
      refl,
      omega arith,
      omega arith,
      (
        ((omega arith, refl), omega arith, omega arith, refl),
        refl,
        (((omega arith, refl), omega arith), refl, tt, omega arith, refl),
      ),
      refl,
    )
    (refl, ((tt, tt), (tt, tt, tt))) (omega arith) (omega arith) (omega arith)

skips-reads : Accepted (sheet (new 0 1 (sequence skip read-it)))
unfolding FineNames Fine FineArgs FineUse declared meaning id_of meant typed use_type Apart AllApart Unheld is_held
    encode_sheet encode_names encode encodes depth depths size weight term_of type_of ty_of resolve by_meaning values numbers
    types.questions types.answers
skips-reads =
    accepted-as (new 0 1 (sequence skip read-it)) (
      omega arith,
      refl,
      omega arith,
      omega arith,
      (tt, refl, (((omega arith, refl), omega arith), refl, tt, omega arith, refl)),
      refl,
    )
    (refl, (tt, (tt, tt, tt))) (omega arith) (omega arith) (omega arith)

-- the play of a command that makes no moves
abbrev at_once : Word
at_once = move whole (question run) ∷ move whole (answer done) ∷ []

-- the moves of `v := true`, and of !v that is true
abbrev written-true : Word
written-true = move (private 0) (question (write 1)) ∷ move (private 0) (answer ok) ∷ []

abbrev read-true : Word
read-true = move (private 0) (question read) ∷ move (private 0) (answer (value 1)) ∷ []

-- THEOREM: the plays of a part without the private variables around it do not do. `new v in v := true` ends, and
-- `new v in diverge` does not; without v declared neither part has a play. The sheet of `v := true` alone is refused,
-- by 5
pub undeclared-wrong : Undeclared → ⊥
unfolding with_term filled type_of term_of resolve by_meaning meaning declared id_of meant typed ty_of use_type with-level
    beyond no_terms values numbers Plays kept hide
undeclared-wrong h =
    let (q, a, w, x, (v, p, s, f), g) =
    (h (sheet (new 0 1 write-it)) (sheet (new 0 1 (diverge 0))) (around.in-new 0 1 around.whole) write-it (diverge 0)
    writes-it diverges (record { numbers = refl; names = refl; first = refl; second = refl }) refl
    (λ u. ((λ (q, a, w, x, (d, b, (l, r, f, p, z)), e). absurd z), (λ (q, a, w, x, z, e). absurd z))) at_once).0 (
      run,
      done,
      [],
      to_run,
      (
        written-true,
        (refl, (1, omega arith), ([], written-true, refl, (refl, refl), (writing, refl))),
        writes (omega arith) quiet,
        refl,
      ),
      refl,
    ) in
    p

-- a variable that holds false is not read as true
not-true : {m : ℕ} {es : List Event} → Stable m 0 es → es ≡ question read ∷ answer (value 1) ∷ [] → ⊥
not-true quiet e = let z : ◌≡◌ {A = ℕ} 0 1 = cc in absurd (omega arith)
not-true (reads s) e = let z : ◌≡◌ {A = ℕ} 0 1 = cc in absurd (omega arith)
not-true (writes l s) e = let z : ◌≡◌ {A = ℕ} 0 1 = cc in absurd (omega arith)

-- THEOREM: nor do those of a part in a block of its own. `new v in v := true` and `new v in skip` are accepted and the
-- same; before `if !v then skip else diverge` the one part lets the block end and the other does not
pub own-block-wrong : OwnBlock → ⊥
unfolding with_term filled enclosing type_of term_of resolve by_meaning meaning declared id_of meant typed ty_of use_type
    with-level beyond no_terms values numbers Plays kept hide
own-block-wrong h =
    never ((h (sheet (new 0 1 (sequence write-it read-it))) (sheet (new 0 1 (sequence skip read-it))) 0 1
    (around.in_first around.whole read-it) write-it skip writes_reads skips-reads refl refl refl refl refl writes-it
    skips alike at_once).0 (
      run,
      done,
      [],
      to_run,
      (
        written-true ++ read-true,
        (
          written-true,
          read-true,
          refl,
          (refl, (1, omega arith), ([], written-true, refl, (refl, refl), (writing, refl))),
          inl (read-true, [], refl, (reading, refl), (refl, refl)),
        ),
        writes (omega arith) (reads quiet),
        refl,
      ),
      refl,
    ))
  where
    alike : (u : Word) → Alike (sheet (new 0 1 write-it)) (sheet (new 0 1 skip)) u
    alike u = (
      (λ (q, a, w, x, (v, (d, b, (l, r, f, p, z)), s, g), e).
          (q, a, w, x, ([], (d, refl), quiet, g ∙ ap hide (f ∙ ap₂ ◌++◌ p.1 z.1)), e)),
      (λ (q, a, w, x, (v, (d, f), s, g), e). (
        q,
        a,
        w,
        x,
        (
          written-true,
          (d, (1, omega arith), ([], written-true, refl, (refl, refl), (writing, refl))),
          writes {x = 1} (omega arith) quiet,
          g ∙ ap hide f,
        ),
        e,
      )),
    )

    by : {v l r : Word} → Stable 2 0 (kept v) → v ≡ l ++ r → l ≡ [] →
        ((t : Word) × (t' : Word) × (r ≡ t ++ t') × (t ≡ read-true) × (t' ≡ [])) → ⊥
    by s f e (t, t', g, i, j) = not-true s (ap kept (f ∙ ap₂ ◌++◌ e (g ∙ ap₂ ◌++◌ i j)))

    never : Complete types.command (term_of (sheet (new 0 1 (sequence skip read-it)))) at_once → ⊥
    never (q, a, w, x, (v, (l, r, f, (d, e), inl (t, t', g, (y, i), (k, j))), s, o), z) = by s f e (t, t', g, i, j)
    never (q, a, w, x, (v, (l, r, f, (d, e), inr (t, t', g, y, i)), s, o), z) = absurd i

-- procedures of no parameters that skip, with the term in which they may be used
uses-it : Accepted (sheet (procedure 0 0 [] skip (call 0 none)))
unfolding FineNames FineParameters Fine FineArgs FineUse declared meaning id_of meant inside after types_of typed use_type
    Apart AllApart ApartParameters Unheld is_held encode_sheet encode_names encode encodes pairs depth depths size weight
    term_of type_of ty_of resolve by_meaning with-body beyond values numbers types.questions types.answers
uses-it =
    accepted-as (procedure 0 0 [] skip (call 0 none))
    (omega arith, refl, omega arith, omega arith, tt, tt, refl, (omega arith, tt))
    (refl, tt, tt, tt) (omega arith) (omega arith) (omega arith)

uses-it-not : Accepted (sheet (procedure 0 0 [] skip (diverge 0)))
unfolding FineNames FineParameters Fine FineArgs FineUse declared meaning id_of meant inside after types_of typed use_type
    Apart AllApart ApartParameters Unheld is_held encode_sheet encode_names encode encodes pairs depth depths size weight
    term_of type_of ty_of resolve by_meaning with-body beyond values numbers types.questions types.answers
uses-it-not =
    accepted-as (procedure 0 0 [] skip (diverge 0))
    (omega arith, refl, omega arith, omega arith, tt, tt, refl, omega arith)
    (refl, tt, tt, tt) (omega arith) (omega arith) (omega arith)

-- THEOREM: nor do those of a part taken out of the term in which a procedure may be used. A use of one that skips
-- ends, and diverge does not; without the procedure neither part has a play. The sheet of the use alone is refused, by 5
pub in-scope-wrong : InScope → ⊥
unfolding with_term type_of term_of resolve by_meaning meaning declared id_of meant inside after types_of typed ty_of use_type
    with-body with_passed beyond no_terms Plays
in-scope-wrong h =
    let (q, a, w, x, p, g) =
    (h (sheet (procedure 0 0 [] skip (call 0 none))) (sheet (procedure 0 0 [] skip (diverge 0))) 0 0 [] skip
    (call 0 none) (diverge 0) uses-it uses-it-not refl refl refl refl refl
    (λ u. ((λ (q, a, w, x, z, e). absurd z), (λ (q, a, w, x, z, e). absurd z))) at_once).0
    (run, done, [], to_run, (refl, refl), refl) in
    p
