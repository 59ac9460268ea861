-- Where a value leads with which what is inside some levels exits: to its copy of a part, or as a falsehood.
use mathlib.Core.Path.{◌≡◌, refl, sym, ◌∙◌, ap}
use mathlib.Core.List.{List}
use Prim.Native.Nat.{ℕ, suc, ◌+◌, ◌<◌}
use native.Mathlib.Omega.{arith}
use native.Mathlib.Nat.{mod-eq_of_lt}
use borrow.Author.Tests.{lt-ltb, le-ltb}
use Rattle.language.specs.declared.Numbers.{Numbers}
use Rattle.states_positions.specs.declared.Frame.{Frame}
use Rattle.states_positions.specs.declared.Out.{Out}
use Rattle.states_positions.specs.declared.Out.TheVariants.{Go, Exit}
use Rattle.states_positions.specs.Row.{sum_of, mul_add_of}
use Rattle.states_rise.specs.Up.{exit_value, exit_result, exit_operate, exits_of}
use Rattle.states_path.specs.declared.Site.{Site}
use Rattle.states_path.specs.States.{target_of}
use Rattle.states_path.specs.Path.{rise_all, up_of, left_of}
use Rattle.states_path.specs.Levels.{frame_of, frames_of, Sound}
use Rattle.states_path.specs.Kept.{start_of}
use Rattle.states_path.specs.Ways.{value_to}
use Rattle.states_path.proofs.Unequal.{operate-unequal}
use Rattle.states_path.proofs.PathCode.{fewer}
use Rattle.states_path.proofs.PathExits.{exit-up, exit-all, up-low}
use Rattle.states_path.proofs.PathSteps.{block-zero, lead_plain}

-- what a frame makes of a value
exits-copy : (N : Numbers) (f : Frame) (v : ℕ) → f.role ≡ 3 → v < f.c →
    exits_of N f 5 v 0 0 ≡ Go (mul_add_of v f.b f.a) 0 0
unfolding exits_of exit_value
exits-copy N f v e h = rw (e, lt-ltb v f.c h)

exits-unequal : (N : Numbers) (f : Frame) (v : ℕ) → f.role ≡ 4 → f.b ≡ 4 → f.a < 65536 → v < f.c → v < 65536 →
    (v ≡ f.a → ⊥) → exits_of N f 5 v 0 0 ≡ Exit 5 0 0 0
unfolding exits_of exit_operate exit_result
exits-unequal N f v e d a h b n =
    rw (e, d, lt-ltb v f.c h, mod-eq_of_lt a, mod-eq_of_lt b, operate-unequal N f.a v (λ z. n (sym z)))

-- where a value leads: by the innermost frame that does not pass it on
left-zero : (i v : ℕ) → left_of i 0 v ≡ v
unfolding left_of
left-zero i v = rw (le-ltb i 0 (omega arith))

module _ (N : Numbers) (s : Site) (p : List ℕ) (c : ℕ) (S : Sound p c) (j : ℕ) (e : up_of (frames_of p c) ≡ suc j) where
  value-up : (v : ℕ) → rise_all N (frames_of p c) (Exit 5 v 0 0)
      ≡ rise_all N (frames_of p j) (exits_of N (frame_of p j) 5 v 0 0)
  value-up v =
      let d = block-zero p c 0 S refl in
      ap (λ (o : Out). rise_all N (frames_of p c) o) (sym (exit-all N p c 0 0 0 S d 5 v))
      ∙ exit-up N p c 0 0 0 S d c j 5 v (omega arith) e
      ∙ ap (λ (y : ℕ). rise_all N (frames_of p j) (exits_of N (frame_of p j) 5 v y y)) (left-zero j 0)

  inside : Sound p j
  inside = fewer p c j S (omega (arith, e, up-low p c))

  -- as a falsehood, where it is the right operand of *equal* and not the left one
  pub unequal-leads : (v : ℕ) → (frame_of p j).role ≡ 4 → (frame_of p j).b ≡ 4 → (frame_of p j).a < 65536 →
      v < (frame_of p j).c → v < 65536 → (v ≡ (frame_of p j).a → ⊥) →
      value_to N s (frames_of p c) v ≡ target_of s (rise_all N (frames_of p j) (Exit 5 0 0 0))
  unfolding value_to
  unequal-leads v r q a h b n =
      ap (λ (o : Out). target_of s o) (value-up v ∙ ap (λ (o : Out). rise_all N (frames_of p j) o)
      (exits-unequal N (frame_of p j) v r q a h b n))

  -- to its copy, where a part selects by it
  pub copy-leads : (v to : ℕ) → (frame_of p j).role ≡ 3 → v < (frame_of p j).c →
      mul_add_of v (frame_of p j).b (frame_of p j).a < 2147418112 →
      to ≡ sum_of s.o (start_of p j + mul_add_of v (frame_of p j).b (frame_of p j).a) →
      to ≡ target_of s (rise_all N (frames_of p c) (Exit 5 v 0 0))
  copy-leads v to r h b d =
      lead_plain N s p j (mul_add_of v (frame_of p j).b (frame_of p j).a) 0 0 (start_of p j) 0 inside b refl
      (block-zero p j 0 inside refl) to refl d
      ∙ ap (λ (o : Out). target_of s o) (sym (value-up v ∙ ap (λ (o : Out). rise_all N (frames_of p j) o)
      (exits-copy N (frame_of p j) v r h)))
