-- A record that is no procedure is read and weighed.
use Prim.Native.Nat.{ℕ, suc, ◌+◌, ◌≤◌, ◌<◌}
use native.Mathlib.Omega.{arith}
use mathlib.Core.Path.{◌≡◌, refl, sym, ap, ◌∙◌}
use mathlib.Core.Bool.{Bool, true, false, false≢true}
use mathlib.Core.List.{List}
use lib.ListN.{length}
use lib.Dec.{eqb}
use Rattle.language.specs.declared.Numbers.{Numbers}
use Rattle.sheet_records.specs.Standing.{standing_of}
use Rattle.sheet_records.specs.declared.edition.Edition.{Edition}
use Rattle.sheet_records.specs.declared.kind.Rule.{Rule}
use Rattle.sheet_records.specs.declared.kind.Rule.TheVariants.{Use}
use Rattle.sheet_records.specs.declared.standing.Standing.TheVariants.{Procedure}
use Rattle.sheet_heads.specs.declared.head.Record.{Record}
use Rattle.sheet_written.specs.Written as w
use Rattle.sheet_written.specs.Written.{Written, Writtens, Name}
use Rattle.sheet_written.specs.Meaning.{Binder, Meaning, routine, meaning}
use Rattle.sheet_written.specs.Context.{Context, binders}
use Rattle.weight_theory.specs.Weighed.{many, parts_in, Ready, Formed, PartsFormed}
use Rattle.sheet_reader.specs.Reader.{Tree, node, Trees, written, writtens, build}
use Rattle.sheet_reader.specs.table.Fill.{fill}
use Rattle.sheet_reader.specs.table.Notes.{uses_name}
use Rattle.sheet_reader.specs.table.Number.{number_in, used_number}
use Rattle.sheet_reader.proofs.Parsed.{Stands, Parsed}
use Rattle.sheet_table.proofs.Spans.{placed, forward}
use Rattle.sheet_table.proofs.weights.Keeping.{kept_less}
use Rattle.sheet_table.proofs.weights.ReadyAlong.{Behind}
use Rattle.sheet_table.proofs.weights.Parts.{Starts, Done, PartsOf, parts-done}
use Rattle.sheet_table.proofs.weights.Record.{Numbered, closing}

-- the kind of a record says whether it may be a use of a name
pub other-kind : (r : Record) {kind : ℕ} → r.kind ≡ kind → eqb kind 20 ≡ false → uses_name r ≡ true → r.a < 256
unfolding uses_name
other-kind r {kind} e f g =
    let z : false ≡ true = sym (rw (e, f) refl) ∙ g in
    absurd (false≢true z)

-- the number of the procedure that a record uses
pub used-number : (r : Record) {k at : ℕ} → r.kind ≡ 20 → standing_of r.b ≡ Procedure k at → used_number r ≡ k
unfolding used_number number_in
used-number r e f = rw (e, f) refl

-- whether a term is a use
unfoldable pub is_call : Written → Bool
is_call w.skip = false
is_call (w.diverge ty) = false
is_call (w.truth b) = false
is_call (w.number b) = false
is_call (w.call id ws) = true
is_call (w.fetch x) = false
is_call (w.operate op x y) = false
is_call (w.assign x y) = false
is_call (w.sequence x y) = false
is_call (w.choose b x y) = false
is_call (w.while x y) = false
is_call (w.new id d x) = false
is_call (w.procedure id ty ps body rest) = false

-- a term that is no use, and a use by what its id means
module _ (N : Numbers) (s : List ℕ) (ns : List Name) where
  pub no-use : (Γ : Context) (W : Written) (k : ℕ) → is_call W ≡ false → Numbered N s ns Γ W k
  unfolding is_call
  no-use Γ W k f id j ty ws tys e m = absurd (false≢true (sym f ∙ ap is_call e))

  pub no-routine : {bs : List Binder} (Γ : Context) (id : ℕ) (ws : Writtens) (k : ℕ) (m : Meaning) →
      binders Γ ≡ bs → meaning ns bs id ≡ m → ((j ty : ℕ) (tys : List ℕ) → m ≡ routine j ty tys → ⊥) →
      Numbered N s ns Γ (w.call id ws) k
  no-routine Γ id ws k m e g f id' j ty ws' tys q r =
      let i : id ≡ id' = cc in
      absurd (f j ty tys (sym (ap (λ y. meaning ns y id) e ∙ g) ∙ (ap (meaning ns (binders Γ)) i ∙ r)))

  pub the-routine : {bs : List Binder} (Γ : Context) (id : ℕ) (ws : Writtens) (k n ty : ℕ) (tys : List ℕ) →
      binders Γ ≡ bs → meaning ns bs id ≡ routine n ty tys → k ≡ n → Numbered N s ns Γ (w.call id ws) k
  the-routine Γ id ws k n ty tys e g f id' j ty' ws' tys' q r =
      let i : id ≡ id' = cc in
      let z : routine n ty tys ≡ routine j ty' tys' =
      sym (ap (λ y. meaning ns y id) e ∙ g) ∙ (ap (meaning ns (binders Γ)) i ∙ r) in
      let c : n ≡ j = cc in
      f ∙ c

module _ (N : Numbers) (s : List ℕ) (ns : List Name) (short : length s ≤ 4096) where
  -- what reading the part x of Γ does
  abbrev pub Does : Context → (ℕ → ℕ) → ℕ → ℕ → Tree → Type 0
  Does Γ π left at x =
      (t : List ℕ) (h : ℕ) → Starts N ns t Γ π at h left → Done N ns t (fill N x t) Γ at (written s x) h

  -- a record whose parts stand in Γ', with no procedure more around them
  plain : {ed : Edition} {left at from ty next : ℕ} {bs : List Binder} {π : ℕ → ℕ} {r : Record} {ts : Trees} →
      Parsed ed N s ns (suc left) bs π at (node r ty (length bs) next ts) ty next → (Γ : Context) → binders Γ ≡ bs →
      (W : Written) → written s (node r ty (length bs) next ts) ≡ W → r.place ≡ at →
      (uses_name r ≡ true → r.a < 256) → Numbered N s ns Γ W (used_number r) →
      (Γ' : Context) → length (binders Γ') ≤ length (binders Γ) + 4 → (Behind Γ π at → Behind Γ' π at) →
      ((t : List ℕ) (h : ℕ) → Ready N ns t Γ π at h → Ready N ns t Γ' π at h) →
      PartsOf N s ns Γ' π left from ts next → at < from → many (writtens s ts) ≤ 4 →
      parts_in W ≡ many (writtens s ts) →
      ((v : List ℕ) (h : ℕ) → Formed N ns v Γ' at h 0 (writtens s ts) → PartsFormed N ns v Γ at h W) →
      Does Γ π (suc left) at (node r ty (length bs) next ts)
  plain {at = at} {from = from} {next = next} {ts = ts} d Γ e W w p small n Γ' few B R Ps b four count f t h S =
      let P = placed N s ns d in
      let l : at < next = forward P.span in
      let g : next ≤ length s = P.within in
      let m : ℕ = many (writtens s ts) in
      let D = parts-done N s ns short Ps at 0 t h h b (omega arith) (omega arith) S.long S.height
      (omega (arith, S.room)) (omega (arith, S.few)) (B S.behind) (omega arith) (R t h S.ready) in
      closing N s ns short d Γ e W w p small n t h S (record {
        height = D.height ∙ ap (λ i. h + i) (sym count);
        early = D.early;
        formed = λ v K T.
            f v h (D.formed v (kept_less from next (h + m) (omega arith) (omega arith) (omega arith) K) T);
      })

  -- a record that is no use
  pub other : {ed : Edition} {left at from ty next kind body : ℕ} {rule : Rule} {bs : List Binder} {π : ℕ → ℕ}
      {r : Record} {ts : Trees} → Parsed ed N s ns (suc left) bs π at (node r ty (length bs) next ts) ty next →
      (Γ : Context) → binders Γ ≡ bs → Stands s r at kind body rule → eqb kind 20 ≡ false → (W : Written) →
      written s (node r ty (length bs) next ts) ≡ W → is_call W ≡ false →
      (Γ' : Context) → length (binders Γ') ≤ length (binders Γ) + 4 → (Behind Γ π at → Behind Γ' π at) →
      ((t : List ℕ) (h : ℕ) → Ready N ns t Γ π at h → Ready N ns t Γ' π at h) →
      PartsOf N s ns Γ' π left from ts next → at < from → many (writtens s ts) ≤ 4 →
      parts_in W ≡ many (writtens s ts) →
      ((v : List ℕ) (h : ℕ) → Formed N ns v Γ' at h 0 (writtens s ts) → PartsFormed N ns v Γ at h W) →
      Does Γ π (suc left) at (node r ty (length bs) next ts)
  other {r = r} d Γ e st k W w c Γ' few B R Ps b four count f =
      plain d Γ e W w st.place (other-kind r st.kinded k) (no-use N s ns Γ W (used_number r) c) Γ' few B R Ps b
      four count f

  -- one whose parts stand in Γ itself
  pub same : {ed : Edition} {left at from ty next kind body : ℕ} {rule : Rule} {bs : List Binder} {π : ℕ → ℕ}
      {r : Record} {ts : Trees} → Parsed ed N s ns (suc left) bs π at (node r ty (length bs) next ts) ty next →
      (Γ : Context) → binders Γ ≡ bs → Stands s r at kind body rule → eqb kind 20 ≡ false → (W : Written) →
      written s (node r ty (length bs) next ts) ≡ W → is_call W ≡ false →
      PartsOf N s ns Γ π left from ts next → at < from → many (writtens s ts) ≤ 4 → parts_in W ≡ many (writtens s ts) →
      ((v : List ℕ) (h : ℕ) → Formed N ns v Γ at h 0 (writtens s ts) → PartsFormed N ns v Γ at h W) →
      Does Γ π (suc left) at (node r ty (length bs) next ts)
  same d Γ e st k W w c Ps b four count f =
      other d Γ e st k W w c Γ (omega arith) (λ B. B) (λ t h R. R) Ps b four count f

  -- a use
  pub called : {ed : Edition} {left at from ty next body : ℕ} {bs : List Binder} {π : ℕ → ℕ} {r : Record}
      {ts : Trees} → Parsed ed N s ns (suc left) bs π at (node r ty (length bs) next ts) ty next → (Γ : Context) →
      binders Γ ≡ bs → Stands s r at 20 body Use → r.a < 255 →
      Numbered N s ns Γ (w.call r.a (writtens s ts)) (used_number r) → PartsOf N s ns Γ π left from ts next →
      at < from → many (writtens s ts) ≤ 4 → Does Γ π (suc left) at (node r ty (length bs) next ts)
  unfolding written build parts_in PartsFormed
  called {r = r} {ts = ts} d Γ e st g n Ps b four =
      plain d Γ e (w.call r.a (writtens s ts)) (rw st.ruled refl) st.place (λ z. omega arith) n Γ (omega arith)
      (λ B. B) (λ t h R. R) Ps b four refl (λ v h f. f)
