use Rattle.serve_profile.proofs.offence.+any_loud.Given as goal

abbrev pub decreases-any_loud : goal.decreases-any_loud
decreases-any_loud l = l.left
