use Rattle.serve_renumber.proofs.taken.+take_parameters.Given as goal

abbrev pub decreases-take_parameters : goal.decreases-take_parameters
decreases-take_parameters l = l.count
