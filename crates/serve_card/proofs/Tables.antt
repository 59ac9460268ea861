-- A sheet has one table of positions, and sheets with the same plays have the same.
use mathlib.Core.Bool.{Bool, false, true}
use mathlib.Core.List.{List, [], ◌++◌, ◌∷◌}
use mathlib.Core.Logic.{◌↔◌, ◌⊎◌, inl, inr}
use mathlib.Core.Path.{◌∙◌, ◌≡◌, ap, refl, subst, sym}
use Prim.Native.Nat.{◌<◌, ◌≤◌, suc, zero, ℕ}
use native.Mathlib.Decide.{dec_lt, ℕ_discrete}
use native.Mathlib.Omega.{arith}
use lib.ListN.{get_or, length}
use lib.Seq.{ext_get_or}
use Rattle.language.specs.Move.{Before, Move, Word}
use Rattle.states_words.specs.Letter.{AllSmall}
use Rattle.states_words.proofs.Ranges.{sheet-small}
use Rattle.sheet_written.specs.Written.{Sheet}
use Rattle.sheet_reader.specs.Fine.{Accepted}
use Rattle.serve_compare.specs.Plays.{Alike, CompletePlay}
use Rattle.serve_compare.proofs.PlayOrder.{before-total}
use Rattle.serve_card.specs.Positions.{Ascending, Beginning, FirstBeginning, OnePosition, Position, Table}
use Rattle.serve_card.specs.Positions.{no_position}
use Rattle.serve_card.specs.Smallest.{OneTable}
use Rattle.serve_card.proofs.Bytes.{SmallTable, same-position}
use Rattle.serve_card.proofs.Order.{arcs-same, before-apart, small-begin, small-last}

pub append-nothing : (b : Word) → b ++ [] ≡ b
append-nothing [] = refl
append-nothing (m ∷ b) = ap (λ (x : Word). m ∷ x) (append-nothing b)

-- a sheet in order
module _ (S : Sheet) (A : Accepted S) where
  pub few : S.numbers.z ≤ 125
  few = omega (arith, A.ordered.in_order.z_below)

  pub begin-small : (b : Word) → Beginning S b → AllSmall S.numbers b
  begin-small b h = small-begin S.numbers b h.0 (sheet-small S A.ordered (b ++ h.0) h.1)

  one-sym : (b c : Word) → OnePosition S b c → OnePosition S c b
  one-sym b c h u = ((h u).1, (h u).0)

  -- a position has one first beginning
  pub first_one : (b c : Word) → FirstBeginning S b → FirstBeginning S c → OnePosition S b c → b ≡ c
  first_one b c f g h =
      go (before-total S.numbers few b c (begin-small b f.begins) (begin-small c g.begins))
    where
      go : Before S.numbers b c ⊎ ((b ≡ c) ⊎ Before S.numbers c b) → b ≡ c
      go (inl l) = absurd (g.least b l h)
      go (inr (inl e)) = e
      go (inr (inr l)) = absurd (f.least c l (one-sym b c h))

  module _ (T : List Position) (B : Table S T) where
    -- all moves of a table have letters
    pub table-small : SmallTable S.numbers T
    table-small k h m j a =
        let b = ((B.moves k h m j).0 a).1.0 in
        small-last S.numbers (B.leading k) m (begin-small (B.leading k ++ (m ∷ [])) b)

    leading-small : (k : ℕ) → k < length T → AllSmall S.numbers (B.leading k)
    leading-small k h = begin-small (B.leading k) (B.first k h).begins

    -- the first beginnings tell the positions apart
    leading-less : (k j : ℕ) → k < length T → j < length T
        → Before S.numbers (B.leading k) (B.leading j) → k < j
    leading-less k j a b l = go (dec_lt k j) (ℕ_discrete k j)
      where
        go : Dec (k < j) → Dec (k ≡ j) → k < j
        go (yes h) d = h
        go (no h) (yes e) =
            let m : Before S.numbers (B.leading j) (B.leading j) = rw e at l in
            absurd (before-apart S.numbers few (B.leading j) (B.leading j) (leading-small j b) (leading-small j b)
            m m)
        go (no h) (no e) =
            absurd (before-apart S.numbers few (B.leading j) (B.leading k) (leading-small j b) (leading-small k a)
            (B.rising j k (omega arith) a) l)

    pub leading-one : (k j : ℕ) → k < length T → j < length T → B.leading k ≡ B.leading j → k ≡ j
    leading-one k j a b e = go (dec_lt k j) (dec_lt j k)
      where
        never : Before S.numbers (B.leading j) (B.leading j) → ⊥
        never m =
            before-apart S.numbers few (B.leading j) (B.leading j) (leading-small j b) (leading-small j b) m m

        go : Dec (k < j) → Dec (j < k) → k ≡ j
        go (yes l) d = absurd (never (rw e at (B.rising k j l b)))
        go (no l) (yes g) = absurd (never (rw e at (B.rising j k g a)))
        go (no l) (no g) = omega arith

  -- two tables of one sheet have the same first beginnings
  module _ (T U : List Position) (B : Table S T) (C : Table S U) where
    -- the position of U with the first beginning of position k of T
    found : (k : ℕ) → k < length T → (j : ℕ) × ((j < length U) × (B.leading k ≡ C.leading j))
    found k h =
        let at = C.all (B.leading k) (B.first k h).begins in
        let f = C.first at.0 at.1.0 in
        (at.0, (at.1.0, first_one (B.leading k) (C.leading at.0) (B.first k h) f at.1.1))

    not-before : (k j : ℕ) → k < length T → j < length U → B.leading k ≡ C.leading j → k ≤ j
    not-before zero j h g e = omega arith
    not-before (suc k) j h g e =
        let f = found k (omega arith) in
        let le : k ≤ f.0 = not-before k f.0 (omega arith) f.1.0 f.1.1 in
        let less : Before S.numbers (C.leading f.0) (C.leading j) =
        rw (f.1.1, e) at (B.rising k (suc k) (omega arith) h) in
        let lt : f.0 < j = leading-less U C f.0 j f.1.0 g less in
        omega arith

    not-longer : length T ≤ length U
    not-longer = go (length T) (omega arith)
      where
        go : (n : ℕ) → n ≤ length T → n ≤ length U
        go zero h = omega arith
        go (suc n) h =
            let f = found n (omega arith) in
            let le : n ≤ f.0 = not-before n f.0 (omega arith) f.1.0 f.1.1 in
            omega (arith, f.1.0)

  same_truth : (a b : Bool) (X Y : Type 0) → (a ≡ true) ↔ X → (b ≡ true) ↔ Y → (X → Y) → (Y → X) → a ≡ b
  same_truth true b X Y h k f g = sym (k.1 (f (h.0 refl)))
  same_truth false true X Y h k f g = h.1 (g (k.0 refl))
  same_truth false false X Y h k f g = refl

  -- what a move of a position says, by its first beginning and that of the next position
  abbrev Leads : Word → Move → Word → Type 0
  Leads b m c = Beginning S (b ++ (m ∷ [])) × OnePosition S (b ++ (m ∷ [])) c

  leads-same : (b b' c c' : Word) (m : Move) → b ≡ b' → c ≡ c' → Leads b m c → Leads b' m c'
  leads-same b b' c c' m e f l = rw (← e, ← f) l

  module _ (T U : List Position) (B : Table S T) (C : Table S U) where
    same_length : length T ≡ length U
    same_length = omega (arith, not-longer T U B C, not-longer U T C B)

    same-leading : (k : ℕ) → k < length T → B.leading k ≡ C.leading k
    same-leading k h =
        let f = found T U B C k h in
        let g = found U T C B f.0 f.1.0 in
        let le : k ≤ f.0 = not-before T U B C k f.0 h f.1.0 f.1.1 in
        let ge : f.0 ≤ g.0 = not-before U T C B f.0 g.0 f.1.0 g.1.0 g.1.1 in
        let back : g.0 ≡ k = leading-one T B g.0 k g.1.0 h (sym (f.1.1 ∙ g.1.1)) in
        let is : f.0 ≡ k = omega arith in
        f.1.1 ∙ ap C.leading is

    -- a sheet has one table
    pub same-table : T ≡ U
    same-table = ext_get_or no_position T U same_length positions
      where
        positions : (k : ℕ) → k < length T → get_or T k no_position ≡ get_or U k no_position
        positions k h =
            let g : k < length U = omega (arith, same_length) in
            same-position (get_or T k no_position) (get_or U k no_position)
            (same_truth (get_or T k no_position).end (get_or U k no_position).end (CompletePlay S (B.leading k))
            (CompletePlay S (C.leading k)) (B.ends k h) (C.ends k g)
            (λ x. subst (CompletePlay S) (same-leading k h) x) (λ x. subst (CompletePlay S) (sym (same-leading k h)) x))
            (arcs-same S.numbers few (get_or T k no_position).arcs (get_or U k no_position).arcs (B.ordered k h)
            (C.ordered k g) (table-small T B k h) (table-small U C k g)
            (λ m j. (
              (λ x. let l = (B.moves k h m j).0 x in (C.moves k g m j).1 (
                omega (arith, same_length, l.0),
                leads-same (B.leading k) (C.leading k) (B.leading j) (C.leading j) m (same-leading k h)
                    (same-leading j l.0) l.1,
              )),
              (λ x. let l = (C.moves k g m j).0 x in let s : j < length T = omega (arith, same_length, l.0) in
                  (B.moves k h m j).1 (
                    s,
                    leads-same (C.leading k) (B.leading k) (C.leading j) (B.leading j) m (sym (same-leading k h))
                        (sym (same-leading j s)) l.1,
                  )),
            )))

-- THEOREM: there is one table of positions
pub one_table : OneTable
one_table S A T U B C = same-table S A T U B C

-- sheets of the same numbers with the same plays
module _ (S S' : Sheet) (n : S.numbers ≡ S'.numbers) (e : (u : Word) → Alike S S' u) where
  one-to : (b c : Word) → OnePosition S b c → OnePosition S' b c
  one-to b c h u = (λ a. (e (c ++ u)).0 ((h u).0 ((e (b ++ u)).1 a)), λ a. (e (b ++ u)).0 ((h u).1 ((e (c ++ u)).1 a)))

  one_from : (b c : Word) → OnePosition S' b c → OnePosition S b c
  one_from b c h u = (λ a. (e (c ++ u)).1 ((h u).0 ((e (b ++ u)).0 a)), λ a. (e (b ++ u)).1 ((h u).1 ((e (c ++ u)).0 a)))

  begin-to : (b : Word) → Beginning S b → Beginning S' b
  begin-to b h = (h.0, (e (b ++ h.0)).0 h.1)

  begin-from : (b : Word) → Beginning S' b → Beginning S b
  begin-from b h = (h.0, (e (b ++ h.0)).1 h.1)

  -- have the same table
  table_of : (T : List Position) → Table S T → Table S' T
  table_of T B = record {
    leading = B.leading;
    first = λ k h. record {
      begins = begin-to (B.leading k) (B.first k h).begins;
      least = λ c l a. (B.first k h).least c (subst (λ N. Before N c (B.leading k)) (sym n) l)
          (one_from c (B.leading k) a);
    };
    rising = λ j k l h. subst (λ N. Before N (B.leading j) (B.leading k)) n (B.rising j k l h);
    all = λ b h. let f = B.all b (begin-from b h) in (f.0, (f.1.0, one-to b (B.leading f.0) f.1.1));
    ends = λ k h. (
      (λ t. (e (B.leading k)).0 ((B.ends k h).0 t)),
      (λ t. (B.ends k h).1 ((e (B.leading k)).1 t)),
    );
    ordered = λ k h. subst (λ N. Ascending N (get_or T k no_position).arcs) n (B.ordered k h);
    moves = λ k h m j. (
      (λ x. let l = (B.moves k h m j).0 x in (
        l.0,
        (begin-to (B.leading k ++ (m ∷ [])) l.1.0, one-to (B.leading k ++ (m ∷ [])) (B.leading j) l.1.1),
      )),
      (λ x. (B.moves k h m j).1 (
        x.0,
        (begin-from (B.leading k ++ (m ∷ [])) x.1.0, one_from (B.leading k ++ (m ∷ [])) (B.leading j) x.1.1),
      )),
    );
  }

-- sheets with the same plays have the same table
pub table-of-same : (S S' : Sheet) → Accepted S' → S.numbers ≡ S'.numbers → ((u : Word) → Alike S S' u)
    → (T U : List Position) → Table S T → Table S' U → T ≡ U
table-of-same S S' A n e T U B C = same-table S' A T U (table_of S S' n e T B) C
