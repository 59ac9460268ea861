-- The machine of a scoped term plays exactly its plays.
use Prim.Native.Nat.{ℕ, suc}
use Rattle.language.specs.Term.{Term, skip, diverge, const, private, name, fetch, operate, assign, seq}
use Rattle.language.specs.Term.{while, cond, new, Args, no_args, arg}
use Rattle.states_machine.proofs.Machine.{Correct, CorrectArgs}
use Rattle.states_machine.proofs.Straight.{skip-correct, diverge-correct, const-correct, fetch-correct, seq-correct}
use Rattle.states_machine.proofs.Straight.{operate-correct, assign-correct, cond-correct}
use Rattle.states_machine.proofs.Loop.{while-correct}
use Rattle.states_machine.proofs.Variable.{private-correct, new-correct}
use Rattle.states_machine.proofs.Name.{no-args-correct, arg-correct, name-correct}
use Rattle.states_machine.proofs.Scope.{Scoped, ScopedArgs, tidy}

-- executions of the machine of a scoped term, from its entry, are its plays
mutual
  unfolding Scoped

  pub correct : (M : Term) (d : ℕ) → Scoped M d → Correct M
  correct skip d s = skip-correct
  correct diverge d s = diverge-correct
  correct (const x) d s = const-correct x
  correct (private i) d s = private-correct i
  correct (name i o T args) d s = name-correct i o T args (correct_args args d s)
  correct (fetch X) d s = fetch-correct X (correct X d s)
  correct (operate m o L R) d s = operate-correct m o L R (correct L d s.0) (correct R d s.1)
  correct (assign m X E) d s = assign-correct m X E (correct X d s.0) (correct E d s.1)
  correct (seq C M) d s = seq-correct C M (correct C d s.0) (correct M d s.1)
  correct (while B C) d s = while-correct B C (correct B d s.0) (correct C d s.1)
  correct (cond B M N) d s = cond-correct B M N (correct B d s.0) (correct M d s.1) (correct N d s.2)
  correct (new m h C) d s = new-correct m h C (suc d) (tidy C (suc d) s) (correct C (suc d) s)

  -- and so does the machine of its arguments
  correct_args : (args : Args) (d : ℕ) → ScopedArgs args d → CorrectArgs args
  correct_args no_args d s = no-args-correct
  correct_args (arg T M args) d s = arg-correct T M args (correct M d s.0) (correct_args args d s.1)
