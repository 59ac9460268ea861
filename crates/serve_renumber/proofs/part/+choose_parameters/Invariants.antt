use Rattle.serve_renumber.proofs.part.+choose_parameters.Given as goal

abbrev pub decreases-choose_parameters : goal.decreases-choose_parameters
decreases-choose_parameters l = l.count
