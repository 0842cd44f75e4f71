use Rattle.plan_tree.proofs.states.states_of_sets.Goals as goal
use Rattle.plan_tree.proofs.Sets.{states_of_sets}

pub returns : goal.returns
returns c = record { alike = states_of_sets }
