-- Records that make a row, but for declared names.
use Prim.Native.Nat.{ℕ, suc, ◌+◌, ◌*◌, ◌-◌, ◌≤◌, ◌<◌}
use native.Mathlib.Omega.{arith}
use mathlib.Core.Path.{◌≡◌, refl, sym, ap, ◌∙◌}
use mathlib.Core.List.{List, [], ◌∷◌}
use lib.ListN.{length, get_or}
use Rattle.language.specs.Number.{code, from_byte}
use Rattle.language.specs.Typing.{operands}
use Rattle.language.specs.declared.Numbers.{Numbers}
use Rattle.sheet_parts.specs.Rule.{values}
use Rattle.sheet_written.specs.Written.{Written, skip, diverge, truth, number, call, fetch, operate, assign, sequence}
use Rattle.sheet_written.specs.Written.{while, choose, Writtens, none, more, Name}
use Rattle.sheet_written.specs.Meaning.{private, meaning, typed}
use Rattle.sheet_written.specs.Fine.{Fine, depth}
use Rattle.sheet_written.specs.Made.{made}
use Rattle.sheet_written.specs.Context.{Context, binders}
use Rattle.sheet_written.specs.Shared as s
use Rattle.sheet_written.specs.Expand.{Slots, operation, of_skip, of_diverge, of_truth, of_number, of_private, of_fetch}
use Rattle.sheet_written.specs.Expand.{of_operate, of_assign, of_sequence, of_choose, of_while}
use Rattle.sheet_rows.specs.PartKind.{SKIP, DIVERGE, CONSTANT, FETCH, OPERATE, ASSIGN, SEQUENCE, IF, WHILE, PRIVATE}
use Rattle.sheet_rows.specs.PartKind.{KIND, DETAIL, PARTS, WEIGHT}
use Rattle.sheet_rows.specs.Row.{word}
use Rattle.sheet_written.specs.Table.{PartRow, Shown, shown_none, shown_more, Few}
use Rattle.sheet_written.specs.Marks.{Marked, MarkedArgs}
use Rattle.sheet_written.proofs.Types.{operands-values}
use Rattle.term_closing.specs.Rows.{ROWS, row_weight, TERM-WORDS}
use Rattle.term_expand.specs.Local.{Local}
use Rattle.term_closing.specs.Close.{first_bits, parts_of, first_values, detail_of}
use Rattle.term_expand.specs.Contract.{turns, Expanded, Closed}
use Rattle.term_expand.proofs.Places.{shown-row}
use Rattle.term_expand.proofs.Slotting.{shows-block}
use Rattle.term_expand.proofs.Running.{Site, Passed, rows_of, many, Good}
use Rattle.term_expand.proofs.Decoding.{row-skip, row-diverge, row-const, row-private, row-fetch, row-operate}
use Rattle.term_expand.proofs.Decoding.{row-assign, row-seq, row-while, row-cond, weight-one, weight-diverge}
use Rattle.term_expand.proofs.Decoding.{weight-constant, weight-private, weight-fetch, weight-operate, weight-assign}
use Rattle.term_expand.proofs.Decoding.{weight-sequence, weight-while, weight-if}
use Rattle.term_expand.proofs.Closing.{sum_made, Built, Wrote, close, leaf-count, one-part, two-parts, three-parts}
use Rattle.term_expand.proofs.Closing.{right}

-- a part begins after the part that it is of, and there are turns for it
pub reach : (at end left : ℕ) → at < end → end ≤ 4096 → turns at end ≤ left → (x y : ℕ) → at < x → x < y → y ≤ end →
    turns x y ≤ left - 1
unfolding turns
reach at end left h l u x y p q r = omega arith

module _ (N : Numbers) (ns : List Name) (t marks slots : List ℕ) (Γ : Context) (ε : Slots) (π : ℕ → ℕ)
    (level left at end : ℕ) {rows after : List ℕ} {n m : ℕ} (C : Closed t marks slots level left at rows after n m)
    (S : Site N ns t marks slots Γ ε π at level)
    (R : (x y : ℕ) → at < x → x < y → y ≤ end → turns x y ≤ left)
    (Q : Passed Γ ε n) (Z : length rows ≡ TERM-WORDS) where
  -- a record with no part
  leaf : (W : Written) (kind : ℕ) → PartRow N ns t Γ kind W at end → parts_of kind (word t at DETAIL) ≡ 0 → n < ROWS →
      ((T : List ℕ) → Wrote N ns t marks slots Γ ε π level left at C S T → Built N ns T Γ ε W n (suc n)) →
      Expanded N ns Γ ε W rows after n n m
  unfolding many MarkedArgs Good sum_made first_bits
  leaf W kind p e h f =
      let k : parts_of (word t at KIND) (word t at DETAIL) ≡ 0 = rw p.kinded e in
      close N ns t marks slots Γ ε π level left at C S Γ ε W none [] end end (omega arith) k shown_none tt tt (omega
      arith)
      p.before R Q (λ T w. w) Z
      (λ T w g. rw (leaf-count N ns t marks slots Γ ε π level left at C S T h g) (f T w))

  pub skip-row : PartRow N ns t Γ SKIP skip at end → n + rows_of N ns Γ skip ≤ ROWS → Expanded N ns Γ ε skip rows
      after n n m
  unfolding made parts_of Local row_weight
  skip-row p r =
      leaf skip SKIP p refl (omega arith) (λ T w. record {
        expands = of_skip (row-skip N ns T n (w.kinded ∙ p.kinded));
        local = right N ns t marks slots Γ ε π level left at C S Γ skip end SKIP T s.skip p w
            (weight-one t C.between at C.a C.b C.c C.d p.kinded);
      })

  pub diverge-row : (ty : ℕ) → PartRow N ns t Γ DIVERGE (diverge ty) at end → n + rows_of N ns Γ (diverge ty) ≤ ROWS →
      Expanded N ns Γ ε (diverge ty) rows after n n m
  unfolding made parts_of Local row_weight
  diverge-row ty p r =
      leaf (diverge ty) DIVERGE p refl (omega arith) (λ T w. record {
        expands = of_diverge (row-diverge N ns T n (w.kinded ∙ p.kinded));
        local = right N ns t marks slots Γ ε π level left at C S Γ (diverge ty) end DIVERGE T s.diverge p w
            (weight-diverge t C.between at C.a C.b C.c C.d p.kinded);
      })

  -- the detail of a row that has it from the table
  detail-constant : word t at KIND ≡ CONSTANT → detail_of t slots at ≡ word t at DETAIL
  unfolding detail_of
  detail-constant k = rw k

  pub truth-row : (b : ℕ) → PartRow N ns t Γ CONSTANT (truth b) at end → word t at DETAIL ≡ b →
      n + rows_of N ns Γ (truth b) ≤ ROWS → Expanded N ns Γ ε (truth b) rows after n n m
  unfolding made parts_of Local row_weight
  truth-row b p e r =
      leaf (truth b) CONSTANT p refl (omega arith) (λ T w. record {
        expands = of_truth (row-const N ns T n b (w.kinded ∙ p.kinded) (w.detailed ∙ (detail-constant p.kinded
            ∙ e)));
        local = right N ns t marks slots Γ ε π level left at C S Γ (truth b) end CONSTANT T (s.const b) p w
            (weight-constant t C.between at C.a C.b C.c C.d p.kinded);
      })

  pub number-row : (b : ℕ) → PartRow N ns t Γ CONSTANT (number b) at end → word t at DETAIL ≡ code N (from_byte b) →
      n + rows_of N ns Γ (number b) ≤ ROWS → Expanded N ns Γ ε (number b) rows after n n m
  unfolding made parts_of Local row_weight
  number-row b p e r =
      let v : ℕ = code N (from_byte b) in
      leaf (number b) CONSTANT p refl (omega arith) (λ T w. record {
        expands = of_number (row-const N ns T n v (w.kinded ∙ p.kinded) (w.detailed ∙ (detail-constant p.kinded
            ∙ e)));
        local = right N ns t marks slots Γ ε π level left at C S Γ (number b) end CONSTANT T (s.const v) p w
            (weight-constant t C.between at C.a C.b C.c C.d p.kinded);
      })

  detail-private : (k : ℕ) → word t at KIND ≡ PRIVATE → word t at DETAIL ≡ k → detail_of t slots at ≡ get_or slots k 0
  unfolding detail_of
  detail-private k e f = rw (e, f)

  pub private-row : (id k d : ℕ) (ws : Writtens) → meaning ns (binders Γ) id ≡ private k d →
      PartRow N ns t Γ PRIVATE (call id ws) at end → word t at DETAIL ≡ k → n < ROWS →
      Expanded N ns Γ ε (call id ws) rows after n n m
  unfolding parts_of Local row_weight
  private-row id k d ws e p f r =
      leaf (call id ws) PRIVATE p refl r (λ T w. record {
        expands = of_private e (row-private N ns T n (ε.block k) (w.kinded ∙ p.kinded)
            (w.detailed ∙ (detail-private k p.kinded f ∙ shows-block ns slots ε (binders Γ) id k d S.shows e)));
        local = right N ns t marks slots Γ ε π level left at C S Γ (call id ws) end PRIVATE T (s.private (ε.block
            k)) p w
            (weight-private t C.between at C.a C.b C.c C.d p.kinded);
      })

  pub fetch-row : (x : Written) (a : ℕ) → PartRow N ns t Γ FETCH (fetch x) at end → word t at PARTS ≡ a → at < a →
      Shown N ns t Γ π a end x → Marked N ns t marks Γ at (fetch x) → Fine N ns (binders Γ) (fetch x) →
      Few Γ (fetch x) → n + rows_of N ns Γ (fetch x) ≤ ROWS → Expanded N ns Γ ε (fetch x) rows after n n m
  unfolding made parts_of Local row_weight many MarkedArgs Good sum_made first_bits Marked Fine Few depth
  fetch-row x a p e h g k f l r =
      close N ns t marks slots Γ ε π level left at C S Γ ε (fetch x) (more x none) (0 ∷ []) a end (omega arith)
      (rw p.kinded refl) (shown_more e g shown_none) (k.1, tt) (f.0, omega arith, tt) (omega arith) h R Q
      (λ T w. w) Z
      (λ T w g.
      let y = one-part N ns t marks slots Γ ε π level left at C S T x (omega arith) g in
      record {
        expands = of_fetch y.expands (row-fetch N ns T n C.a (w.kinded ∙ p.kinded) w.first);
        local = (
          right N ns t marks slots Γ ε π level left at C S Γ (fetch x) end FETCH T (s.fetch C.a) p w
              (weight-fetch t C.between at C.a C.b C.c C.d p.kinded ∙ sym y.weighs),
          y.local,
        );
      })

  detail-operate : word t at KIND ≡ OPERATE → detail_of t slots at ≡ word t at DETAIL
  unfolding detail_of
  detail-operate k = rw k

  -- the values of the first part
  first_of : (x : Written) (a b : ℕ) → word t at PARTS ≡ a → Shown N ns t Γ π a b x →
      first_values t at ≡ values N (typed ns (binders Γ) x)
  unfolding first_values
  first_of x a b e g = rw e (shown-row N ns t g).1.valued

  pub operate-row : (op : ℕ) (x y : Written) (a b : ℕ) → PartRow N ns t Γ OPERATE (operate op x y) at end →
      word t at DETAIL ≡ op → word t at PARTS ≡ a → word t at (PARTS + 1) ≡ b → at < a → Shown N ns t Γ π a b x →
      Shown N ns t Γ π b end y → Marked N ns t marks Γ at (operate op x y) → Fine N ns (binders Γ) (operate op x y) →
      Few Γ (operate op x y) → n + rows_of N ns Γ (operate op x y) ≤ ROWS →
      Expanded N ns Γ ε (operate op x y) rows after n n m
  unfolding made parts_of Local row_weight many MarkedArgs Good sum_made first_bits Marked Fine Few depth
  operate-row op x y a b p o e e' h g g' k f l r =
      close N ns t marks slots Γ ε π level left at C S Γ ε (operate op x y) (more x (more y none)) (0 ∷ 0 ∷ []) a end
      (omega arith) (rw p.kinded refl) (shown_more e g (shown_more e' g' shown_none)) (k.1, (k.2, tt))
      (f.1, omega arith, (f.3, omega arith, tt)) (omega arith) h R Q (λ T w. w) Z
      (λ T w z.
      let q = two-parts N ns t marks slots Γ ε π level left at C S T x y (omega arith) z in
      let v : first_values t at ≡ operands (operation N op) =
      first_of x a b e g ∙ (ap (λ (i : ℕ). values N i) f.2 ∙ sym (operands-values N op)) in
      let c : word C.between C.a WEIGHT + first_values t at * word C.between C.b WEIGHT
      ≡ word T C.a WEIGHT + operands (operation N op) * word T C.b WEIGHT =
      rw (v, q.1.weighs, q.2.weighs) refl in
      record {
        expands = of_operate q.1.expands q.2.expands (row-operate N ns T n op C.a C.b
            (w.kinded ∙ p.kinded) (w.detailed ∙ (detail-operate p.kinded ∙ o)) w.first w.second);
        local = (
          right N ns t marks slots Γ ε π level left at C S Γ (operate op x y) end OPERATE T
              (s.operate (operands (operation N op)) (operation N op) C.a C.b) p w
              (weight-operate t C.between at C.a C.b C.c C.d p.kinded ∙ c),
          q.1.local,
          q.2.local,
        );
      })

  detail-assign : word t at KIND ≡ ASSIGN → detail_of t slots at ≡ first_values t at
  unfolding detail_of
  detail-assign k = rw k

  pub assign-row : (x y : Written) (a b : ℕ) → PartRow N ns t Γ ASSIGN (assign x y) at end →
      word t at PARTS ≡ a → word t at (PARTS + 1) ≡ b → at < a → Shown N ns t Γ π a b x →
      Shown N ns t Γ π b end y → Marked N ns t marks Γ at (assign x y) → Fine N ns (binders Γ) (assign x y) →
      Few Γ (assign x y) → n + rows_of N ns Γ (assign x y) ≤ ROWS → Expanded N ns Γ ε (assign x y) rows after n n m
  unfolding made parts_of Local row_weight many MarkedArgs Good sum_made first_bits Marked Fine Few depth
  assign-row x y a b p e e' h g g' k f l r =
      close N ns t marks slots Γ ε π level left at C S Γ ε (assign x y) (more x (more y none)) (0 ∷ 0 ∷ []) a end
      (omega arith) (rw p.kinded refl) (shown_more e g (shown_more e' g' shown_none)) (k.1, (k.2, tt))
      (f.0, omega arith, (f.2, omega arith, tt)) (omega arith) h R Q (λ T w. w) Z
      (λ T w z.
      let q = two-parts N ns t marks slots Γ ε π level left at C S T x y (omega arith) z in
      let v : first_values t at ≡ values N (typed ns (binders Γ) x) = first_of x a b e g in
      let c : word C.between C.b WEIGHT + first_values t at * word C.between C.a WEIGHT
      ≡ word T C.b WEIGHT + values N (typed ns (binders Γ) x) * word T C.a WEIGHT =
      rw (v, q.1.weighs, q.2.weighs) refl in
      record {
        expands = of_assign q.1.expands q.2.expands (row-assign N ns T n (values N (typed ns (binders Γ) x))
            C.a C.b (w.kinded ∙ p.kinded) (w.detailed ∙ (detail-assign p.kinded ∙ v)) w.first w.second);
        local = (
          right N ns t marks slots Γ ε π level left at C S Γ (assign x y) end ASSIGN T
              (s.assign (values N (typed ns (binders Γ) x)) C.a C.b) p w
              (weight-assign t C.between at C.a C.b C.c C.d p.kinded ∙ c),
          q.1.local,
          q.2.local,
        );
      })

  pub sequence-row : (x y : Written) (a b : ℕ) → PartRow N ns t Γ SEQUENCE (sequence x y) at end →
      word t at PARTS ≡ a → word t at (PARTS + 1) ≡ b → at < a → Shown N ns t Γ π a b x →
      Shown N ns t Γ π b end y → Marked N ns t marks Γ at (sequence x y) → Fine N ns (binders Γ) (sequence x y) →
      Few Γ (sequence x y) → n + rows_of N ns Γ (sequence x y) ≤ ROWS → Expanded N ns Γ ε (sequence x y) rows after n n m
  unfolding made parts_of Local row_weight many MarkedArgs Good sum_made first_bits Marked Fine Few depth
  sequence-row x y a b p e e' h g g' k f l r =
      close N ns t marks slots Γ ε π level left at C S Γ ε (sequence x y) (more x (more y none)) (0 ∷ 0 ∷ []) a end
      (omega arith) (rw p.kinded refl) (shown_more e g (shown_more e' g' shown_none)) (k.1, (k.2, tt))
      (f.0, omega arith, (f.2, omega arith, tt)) (omega arith) h R Q (λ T w. w) Z
      (λ T w z.
      let q = two-parts N ns t marks slots Γ ε π level left at C S T x y (omega arith) z in
      record {
        expands = of_sequence q.1.expands q.2.expands (row-seq N ns T n C.a C.b
            (w.kinded ∙ p.kinded) w.first w.second);
        local = (
          right N ns t marks slots Γ ε π level left at C S Γ (sequence x y) end SEQUENCE T (s.seq C.a
              C.b) p w
              (weight-sequence t C.between at C.a C.b C.c C.d p.kinded
              ∙ rw (q.1.weighs, q.2.weighs) refl),
          q.1.local,
          q.2.local,
        );
      })

  pub while-row : (x y : Written) (a b : ℕ) → PartRow N ns t Γ WHILE (while x y) at end →
      word t at PARTS ≡ a → word t at (PARTS + 1) ≡ b → at < a → Shown N ns t Γ π a b x →
      Shown N ns t Γ π b end y → Marked N ns t marks Γ at (while x y) → Fine N ns (binders Γ) (while x y) →
      Few Γ (while x y) → n + rows_of N ns Γ (while x y) ≤ ROWS → Expanded N ns Γ ε (while x y) rows after n n m
  unfolding made parts_of Local row_weight many MarkedArgs Good sum_made first_bits Marked Fine Few depth
  while-row x y a b p e e' h g g' k f l r =
      close N ns t marks slots Γ ε π level left at C S Γ ε (while x y) (more x (more y none)) (0 ∷ 0 ∷ []) a end
      (omega arith) (rw p.kinded refl) (shown_more e g (shown_more e' g' shown_none)) (k.1, (k.2, tt))
      (f.0, omega arith, (f.2, omega arith, tt)) (omega arith) h R Q (λ T w. w) Z
      (λ T w z.
      let q = two-parts N ns t marks slots Γ ε π level left at C S T x y (omega arith) z in
      record {
        expands = of_while q.1.expands q.2.expands (row-while N ns T n C.a C.b
            (w.kinded ∙ p.kinded) w.first w.second);
        local = (
          right N ns t marks slots Γ ε π level left at C S Γ (while x y) end WHILE T (s.while C.a C.b) p w
              (weight-while t C.between at C.a C.b C.c C.d p.kinded
              ∙ rw (q.1.weighs, q.2.weighs) refl),
          q.1.local,
          q.2.local,
        );
      })

  pub choose-row : (u x y : Written) (a b c : ℕ) → PartRow N ns t Γ IF (choose u x y) at end →
      word t at PARTS ≡ a → word t at (PARTS + 1) ≡ b → word t at (PARTS + 2) ≡ c → at < a → Shown N ns t Γ π a b u →
      Shown N ns t Γ π b c x → Shown N ns t Γ π c end y → Marked N ns t marks Γ at (choose u x y) →
      Fine N ns (binders Γ) (choose u x y) → Few Γ (choose u x y) → n + rows_of N ns Γ (choose u x y) ≤ ROWS →
      Expanded N ns Γ ε (choose u x y) rows after n n m
  unfolding made parts_of Local row_weight many MarkedArgs Good sum_made first_bits Marked Fine Few depth
  choose-row u x y a b c p e e' e'' h g g' g'' k f l r =
      close N ns t marks slots Γ ε π level left at C S Γ ε (choose u x y) (more u (more x (more y none))) (0 ∷ 0 ∷ 0
      ∷ []) a
      end (omega arith) (rw p.kinded refl)
      (shown_more e g (shown_more e' g' (shown_more e'' g'' shown_none))) (k.1, (k.2, (k.3, tt)))
      (f.0, omega arith, (f.2, omega arith, (f.3, omega arith, tt))) (omega arith) h R Q (λ T w. w) Z
      (λ T w z.
      let q = three-parts N ns t marks slots Γ ε π level left at C S T u x y (omega arith) z in
      record {
        expands = of_choose q.2.expands q.3.expands q.4.expands (row-cond N ns T n C.a C.b C.c
            (w.kinded ∙ p.kinded) w.first w.second w.third);
        local = (
          right N ns t marks slots Γ ε π level left at C S Γ (choose u x y) end IF T
              (s.cond C.a C.b C.c) p w
              (weight-if t C.between at C.a C.b C.c C.d p.kinded
              ∙ rw (q.2.weighs, q.3.weighs, q.4.weighs) refl),
          q.2.local,
          q.3.local,
          q.4.local,
        );
      })
