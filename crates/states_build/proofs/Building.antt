-- The automata that the code builds, by what filling, closing and settling give.
use Prim.Native.Nat.{ℕ, ◌+◌, ◌*◌, ◌≤◌}
use mathlib.Core.Path.{◌≡◌, sym, ap}
use mathlib.Core.List.{List}
use Rattle.language.specs.declared.Numbers.{Numbers}
use Rattle.states_step.specs.walk.Shows.{Words}
use Rattle.dfa.specs.Graph.{rest, Graph}
use Rattle.dfa_silent.specs.Silent.{Silent, Settling}
use Rattle.states_path.specs.declared.Site.{Site}
use Rattle.states_path.specs.States.{spots_of}
use Rattle.states_words.specs.inner.Moves.{edges_after, filled_of}
use Rattle.states_words.specs.inner.Rows.{closed_of}
use Rattle.states_words.specs.inner.Sheets.{OneSheet, TwoSheets}
use Rattle.states_words.proofs.SheetRows.{spots-fit}
use Rattle.states_words.proofs.Filled.{one-sheet, two-sheets}
use Rattle.states_build.specs.inner.Built.{OneReady, OneBuilt, TwoReady, TwoBuilt}
use Rattle.states_build.proofs.Room.{asked-suffices}

-- the site of a sheet whose first state is o, in an automaton of n states
abbrev site : ℕ → ℕ → ℕ → Site
site root n o = record { root = root; n = n; o = o }

-- the states are few enough for the path
pub one-fits : {N : Numbers} {t : List ℕ} {root all : ℕ} {ws : List ℕ} → OneReady N t root all ws → Words t →
    spots_of t root ≤ 65536
one-fits {root = root} R W = spots-fit (site root 0 0) (R.ready W)

pub old-fits : {N : Numbers} {t u : List ℕ} {root other all more : ℕ} {ws : List ℕ} →
    TwoReady N t u root other all more ws → Words t → spots_of t root ≤ 65536
old-fits {root = root} R W = spots-fit (site root 0 0) (R.ready W)

pub new-fits : {N : Numbers} {t u : List ℕ} {root other all more : ℕ} {ws : List ℕ} →
    TwoReady N t u root other all more ws → Words u → spots_of u other ≤ 65536
new-fits {other = other} R W = spots-fit (site other 0 0) (R.other_ready W)

-- one sheet, filled and closed
module _ {N : Numbers} {t : List ℕ} {root all : ℕ} {ws : List ℕ} (R : OneReady N t root all ws) (W : Words t)
    {ws₁ ws₂ : List ℕ} {e : ℕ} (f : ws₁ ≡ filled_of t N (site root (all + 1) 0) ws 0)
    (a : e ≡ edges_after t N (site root (all + 1) 0) 0) (c : ws₂ ≡ closed_of ws₁ (all + 1) e) where
  -- it is an explicit automaton
  one-closed : OneSheet N R.type R.term (all + 1) ws ws₂
  one-closed =
      one-sheet (R.ready W) (ap (λ (x : ℕ). x + 1) (sym R.sized))
      (asked-suffices N all (R.ready W).z_below R.room) f a c

  -- it can be settled
  pub one-settles : Graph (rest (5 * (all + 1)) ws₂) (all + 1) × Silent (all + 1) ws₂
  one-settles = (one-closed.graph, one-closed.silent)

  -- settled, it is built
  pub one-built : {ws₃ : List ℕ} →
      Settling (all + 1) ws₂ (rest (5 * (all + 1)) ws₂) (rest (5 * (all + 1)) ws₃) →
      OneBuilt N R.type R.term (all + 1) ws₃
  one-built S = record {
    silent_words = ws₂;
    unsettled = rest (5 * (all + 1)) ws₂;
    shows = one-closed.shows;
    graph = one-closed.graph;
    quiet = one-closed.silent;
    settled = S;
    barren = one-closed.barren;
    few = one-closed.few;
  }

-- two sheets, filled one after the other and closed
module _ {N : Numbers} {t u : List ℕ} {root other all more : ℕ} {ws : List ℕ}
    (R : TwoReady N t u root other all more ws) (W : Words t) (Y : Words u) {ws₁ ws₂ ws₃ : List ℕ} {e₁ e₂ : ℕ}
    (f : ws₁ ≡ filled_of t N (site root (all + more + 1) 0) ws 0)
    (a : e₁ ≡ edges_after t N (site root (all + more + 1) 0) 0)
    (g : ws₂ ≡ filled_of u N (site other (all + more + 1) all) ws₁ e₁)
    (b : e₂ ≡ edges_after u N (site other (all + more + 1) all) e₁)
    (c : ws₃ ≡ closed_of ws₂ (all + more + 1) e₂) where
  -- they are explicit automata
  two-closed : TwoSheets N R.type R.term R.other_term (all + more + 1) ws ws₃
  two-closed =
      two-sheets (R.ready W) (R.other_ready Y) (rw (R.sized, R.other_sized))
      (asked-suffices N (all + more) (R.ready W).z_below R.room) f a (rw R.sized g)
      (rw R.sized b) c

  -- they can be settled
  pub two-settles : Graph (rest (5 * (all + more + 1)) ws₃) (all + more + 1) × Silent (all + more + 1) ws₃
  two-settles = (two-closed.graph, two-closed.silent)

  -- settled, they are built
  pub two-built : {ws₄ : List ℕ} →
      Settling (all + more + 1) ws₃ (rest (5 * (all + more + 1)) ws₃) (rest (5 * (all + more + 1)) ws₄) →
      TwoBuilt N R.type R.term R.other_term (all + more + 1) ws₄
  two-built S = record {
    silent_words = ws₃;
    unsettled = rest (5 * (all + more + 1)) ws₃;
    shows = two-closed.shows_old;
    other_shows = two-closed.shows_new;
    graph = two-closed.graph;
    quiet = two-closed.silent;
    settled = S;
  }
