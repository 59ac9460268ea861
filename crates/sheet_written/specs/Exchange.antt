-- Terms as written that are the same but for arguments that are not used. Document 02 [1]: an argument is played where
-- its parameter is used; one whose parameter has the coefficient 0 is played nowhere.
use Rattle.std.specs.Prelude.{ℕ, suc, ◌+◌, ◌≡◌, List, ◌∷◌, length}
use Rattle.language.specs.declared.Numbers.{Numbers}
use Rattle.sheet_written.specs.Written.{Written, call, fetch, operate, assign, sequence}
use Rattle.sheet_written.specs.Written.{while, choose, new, procedure, Parameter, Writtens, none, more, Name}
use Rattle.sheet_written.specs.Meaning.{Binder, a_block, Meaning, meaning, inside, after, typed, by_meaning}
use Rattle.sheet_written.specs.Form.{Forms, with_form, form_of}

-- whether argument j is used: those of declared names are, those of a procedure by their parameters' coefficients
unfoldable pub used_by : Forms → Meaning → ℕ → ℕ
used_by φ m j = by_meaning m 1 (λ k. 1) (λ k. 1) (λ k. (φ.form k).of (k + j)) (λ often ty tys. 1)

mutual
  pub data Exchanged (N : Numbers) (ns : List Name) : List Binder → Forms → Written → Written → Type 0 where
    as_before : {bs : List Binder} {φ : Forms} {x : Written} → Exchanged N ns bs φ x x
    in_call : {bs : List Binder} {φ : Forms} {id : ℕ} {ws ws' : Writtens} →
        ExchangedArgs N ns bs φ (used_by φ (meaning ns bs id)) 0 ws ws' → Exchanged N ns bs φ (call id ws) (call id ws')
    in-fetch : {bs : List Binder} {φ : Forms} {x x' : Written} → Exchanged N ns bs φ x x' →
        Exchanged N ns bs φ (fetch x) (fetch x')
    in-operate : {bs : List Binder} {φ : Forms} {op : ℕ} {x x' y y' : Written} → Exchanged N ns bs φ x x' →
        Exchanged N ns bs φ y y' → Exchanged N ns bs φ (operate op x y) (operate op x' y')
    in-assign : {bs : List Binder} {φ : Forms} {x x' y y' : Written} → Exchanged N ns bs φ x x' →
        Exchanged N ns bs φ y y' → Exchanged N ns bs φ (assign x y) (assign x' y')
    in_sequence : {bs : List Binder} {φ : Forms} {x x' y y' : Written} → Exchanged N ns bs φ x x' →
        Exchanged N ns bs φ y y' → Exchanged N ns bs φ (sequence x y) (sequence x' y')
    in_choose : {bs : List Binder} {φ : Forms} {b b' x x' y y' : Written} → Exchanged N ns bs φ b b' →
        Exchanged N ns bs φ x x' → Exchanged N ns bs φ y y' → Exchanged N ns bs φ (choose b x y) (choose b' x' y')
    in-while : {bs : List Binder} {φ : Forms} {x x' y y' : Written} → Exchanged N ns bs φ x x' →
        Exchanged N ns bs φ y y' → Exchanged N ns bs φ (while x y) (while x' y')
    in-new : {bs : List Binder} {φ : Forms} {id d : ℕ} {x x' : Written} → Exchanged N ns (a_block id d ∷ bs) φ x x' →
        Exchanged N ns bs φ (new id d x) (new id d x')
    in_procedure : {bs : List Binder} {φ : Forms} {id ty : ℕ} {ps : List Parameter} {x x' y y' : Written} →
        Exchanged N ns (inside ps bs) φ x x' →
        Exchanged N ns (after id ty ps bs) (with_form (length bs) (form_of N ns (inside ps bs) φ x) (length ps) φ) y y' →
        Exchanged N ns bs φ (procedure id ty ps x y) (procedure id ty ps x' y')

  -- the arguments from number j on
  pub data ExchangedArgs (N : Numbers) (ns : List Name) : List Binder → Forms → (ℕ → ℕ) → ℕ → Writtens → Writtens →
      Type 0 where
    no_more : {bs : List Binder} {φ : Forms} {used : ℕ → ℕ} {j : ℕ} → ExchangedArgs N ns bs φ used j none none
    one_more : {bs : List Binder} {φ : Forms} {used : ℕ → ℕ} {j : ℕ} {w w' : Written} {ws ws' : Writtens} →
        Exchanged N ns bs φ w w' → ExchangedArgs N ns bs φ used (suc j) ws ws' →
        ExchangedArgs N ns bs φ used j (more w ws) (more w' ws')
    -- any other of its type
    one_unused : {bs : List Binder} {φ : Forms} {used : ℕ → ℕ} {j : ℕ} {w w' : Written} {ws ws' : Writtens} →
        used j ≡ 0 → typed ns bs w ≡ typed ns bs w' → ExchangedArgs N ns bs φ used (suc j) ws ws' →
        ExchangedArgs N ns bs φ used j (more w ws) (more w' ws')
