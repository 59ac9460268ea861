-- A sheet whose binders get ids clear of those that may be used stands for the same term, document 02 [4].
use Prim.Native.Nat.{ℕ, suc}
use mathlib.Core.Path.{◌≡◌, refl, sym, ap, ◌∙◌}
use mathlib.Core.Bool.{Bool, true}
use mathlib.Core.List.{List, [], ◌∷◌}
use lib.ListN.{length}
use lib.Dec.{eqb}
use borrow.Author.Tests.{eqb-true, eqb-false}
use Rattle.language.specs.Choice.{pick}
use Rattle.sheet_written.specs.Written.{Written, Parameter, Writtens, Name, Sheet}
use Rattle.sheet_written.specs.Meaning.{Binder, a_block, a_parameter, a_procedure, argument, routine}
use Rattle.sheet_written.specs.Meaning.{id_of, meant, meaning, inside, after, types_of, term_of, type_of}
use Rattle.sheet_written.specs.Like.{IsNamed, Like, like_skip, like_diverge, like_truth, like_number, like_call}
use Rattle.sheet_written.specs.Like.{like_fetch, like_operate, like_assign, like_sequence, like_choose, like_while}
use Rattle.sheet_written.specs.Like.{like_new, like_procedure, Likes, like_none, like_more}
use Rattle.sheet_written.specs.Mapped.{Clear, Binds, seen_inside, Mapped, to_skip, to_diverge}
use Rattle.sheet_written.specs.Mapped.{to_truth, to_number, to_call, to_fetch, to_operate, to_assign, to_sequence}
use Rattle.sheet_written.specs.Mapped.{to_choose, to_while, to_new, to_procedure, Mappeds, to_none, to_more}
use Rattle.sheet_written.specs.Renumber.{put, map_inside}
use Rattle.sheet_written.proofs.Tests.{by-test}
use Rattle.sheet_written.proofs.Scopes.{unnamed-meant, meaning-here, meaning-past}
use Rattle.sheet_written.proofs.Renaming.{like-sheet}

module _ (ns : List Name) where
  -- an id that may be used means here what it becomes means there
  pub record Carried (seen : ℕ → Bool) (f : ℕ → ℕ) (bs cs : List Binder) : Type 0 where
    pub many : length bs ≡ length cs
    pub same : (j : ℕ) → seen j ≡ true → meaning ns bs j ≡ meaning ns cs (f j)
    pub names : (j : ℕ) → seen j ≡ true → IsNamed (meaning ns bs j) → j ≡ f j

  carried_here : (seen : ℕ → Bool) (f : ℕ → ℕ) (c d : Binder) (bs cs : List Binder) → Carried seen f bs cs →
      Clear seen f (id_of c) (id_of d) → ((k : ℕ) → meant k c ≡ meant k d) →
      Carried (put (id_of c) true seen) (put (id_of c) (id_of d) f) (c ∷ bs) (d ∷ cs)
  unfolding put Clear
  carried_here seen f c d bs cs r h m = record { many = ap suc r.many; same = same'; names = names' }
    where
      same' : (j : ℕ) → pick (eqb j (id_of c)) true (seen j) ≡ true →
          meaning ns (c ∷ bs) j ≡ meaning ns (d ∷ cs) (pick (eqb j (id_of c)) (id_of d) (f j))
      same' j s =
          by-test (eqb j (id_of c))
          (λ t. rw t (meaning-here ns c bs j (sym (eqb-true j (id_of c) t)) ∙ ap (λ (k : ℕ). meant k c) r.many
          ∙ m (length cs) ∙ sym (meaning-here ns d cs (id_of d) refl)))
          (λ t. let s' : seen j ≡ true = rw t at s in
          let n : j ≡ id_of c → ⊥ = eqb-false j (id_of c) t in
          rw t (meaning-past ns c bs j (λ e. n (sym e)) ∙ r.same j s'
          ∙ sym (meaning-past ns d cs (f j) (λ e. h j n s' (sym e)))))

      names' : (j : ℕ) → pick (eqb j (id_of c)) true (seen j) ≡ true → IsNamed (meaning ns (c ∷ bs) j) →
          j ≡ pick (eqb j (id_of c)) (id_of d) (f j)
      names' j s x =
          by-test (eqb j (id_of c))
          (λ t. absurd (unnamed-meant (length bs) c (rw (meaning-here ns c bs j (sym (eqb-true j (id_of c) t))) at x)))
          (λ t. let s' : seen j ≡ true = rw t at s in
          let n : j ≡ id_of c → ⊥ = eqb-false j (id_of c) t in
          rw t (r.names j s' (rw (meaning-past ns c bs j (λ e. n (sym e))) at x)))

  -- parameters
  carried-inside : (ps qs : List Parameter) (seen : ℕ → Bool) (f : ℕ → ℕ) (bs cs : List Binder) → Binds seen f ps qs →
      Carried seen f bs cs → Carried (seen_inside seen ps) (map_inside f ps qs) (inside ps bs) (inside qs cs)
  unfolding Binds seen_inside map_inside inside id_of meant
  carried-inside [] [] seen f bs cs b r = r
  carried-inside [] (q ∷ qs) seen f bs cs b r = absurd b
  carried-inside (p ∷ ps) [] seen f bs cs b r = absurd b
  carried-inside (p ∷ ps) (q ∷ qs) seen f bs cs b r =
      carried-inside ps qs (put p.id true seen) (put p.id q.id f) (a_parameter p.id p.holds ∷ bs)
      (a_parameter q.id q.holds ∷ cs) b.2
      (carried_here seen f (a_parameter p.id p.holds) (a_parameter q.id q.holds) bs cs r b.1
      (λ k. ap (argument k) b.0))

  types-bound : (ps qs : List Parameter) (seen : ℕ → Bool) (f : ℕ → ℕ) → Binds seen f ps qs → types_of ps ≡ types_of qs
  unfolding Binds types_of
  types-bound [] [] seen f b = refl
  types-bound [] (q ∷ qs) seen f b = absurd b
  types-bound (p ∷ ps) [] seen f b = absurd b
  types-bound (p ∷ ps) (q ∷ qs) seen f b =
      rw (b.0, types-bound ps qs (put p.id true seen) (put p.id q.id f) b.2)

  -- THEOREM: the sheet mapped is like the sheet
  mutual
    unfolding after id_of meant

    pub mapped-like : {seen : ℕ → Bool} {f : ℕ → ℕ} {W X : Written} → Mapped seen f W X → (bs cs : List Binder) →
        Carried seen f bs cs → Like ns bs cs W X
    mapped-like to_skip bs cs r = like_skip
    mapped-like to_diverge bs cs r = like_diverge
    mapped-like to_truth bs cs r = like_truth
    mapped-like to_number bs cs r = like_number
    mapped-like (to_call {f = f} {a = a} {b = b} s e h) bs cs r =
        let x : meaning ns bs a ≡ meaning ns cs b = r.same a s ∙ ap (meaning ns cs) (sym e) in
        let y : IsNamed (meaning ns bs a) → a ≡ b = λ n. r.names a s n ∙ sym e in
        like_call x y (mappeds-like h bs cs r)
    mapped-like (to_fetch x) bs cs r = like_fetch (mapped-like x bs cs r)
    mapped-like (to_operate x y) bs cs r = like_operate (mapped-like x bs cs r) (mapped-like y bs cs r)
    mapped-like (to_assign x y) bs cs r = like_assign (mapped-like x bs cs r) (mapped-like y bs cs r)
    mapped-like (to_sequence x y) bs cs r = like_sequence (mapped-like x bs cs r) (mapped-like y bs cs r)
    mapped-like (to_choose c x y) bs cs r =
        like_choose (mapped-like c bs cs r) (mapped-like x bs cs r) (mapped-like y bs cs r)
    mapped-like (to_while x y) bs cs r = like_while (mapped-like x bs cs r) (mapped-like y bs cs r)
    mapped-like (to_new {s = s} {f = f} {a = a} {b = b} {d = d} h x) bs cs r =
        like_new (mapped-like x (a_block a d ∷ bs) (a_block b d ∷ cs)
        (carried_here s f (a_block a d) (a_block b d) bs cs r h (λ k. refl)))
    mapped-like (to_procedure {s = s} {f = f} {a = a} {b = b} {ty = ty} {ps = ps} {qs = qs} h g x y) bs cs r =
        let e : types_of ps ≡ types_of qs = types-bound ps qs s f g in
        like_procedure e (mapped-like x (inside ps bs) (inside qs cs) (carried-inside ps qs s f bs cs g r))
        (mapped-like y (a_procedure a ty (types_of ps) ∷ bs) (a_procedure b ty (types_of qs) ∷ cs)
        (carried_here s f (a_procedure a ty (types_of ps)) (a_procedure b ty (types_of qs)) bs cs r h
        (λ k. ap (routine k ty) e)))

    mappeds-like : {seen : ℕ → Bool} {f : ℕ → ℕ} {ws ws' : Writtens} → Mappeds seen f ws ws' → (bs cs : List Binder) →
        Carried seen f bs cs → Likes ns bs cs ws ws'
    mappeds-like to_none bs cs r = like_none
    mappeds-like (to_more x a) bs cs r = like_more (mapped-like x bs cs r) (mappeds-like a bs cs r)

-- THEOREM: a whole sheet; at first the names that are declared or retired may be used, and stay
pub mapped-sheet : (S : Sheet) (W : Written) (seen : ℕ → Bool) → Mapped seen (λ j. j) S.term W →
    (term_of S ≡ term_of (record { numbers = S.numbers; names = S.names; term = W }))
    × (type_of S ≡ type_of (record { numbers = S.numbers; names = S.names; term = W }))
mapped-sheet S W seen h =
    like-sheet S W (mapped-like S.names h [] []
    (record { many = refl; same = λ j s. refl; names = λ j s n. refl }))
