use Rattle.plan_tree.proofs.states.reached_states.Goals as goal
use Rattle.plan_tree.proofs.Reached.{reached_is, reached_shaped}

pub returns-clause-stands : goal.returns-clause-stands
returns-clause-stands c = reached_is

pub returns-clause-shaped : goal.returns-clause-shaped
returns-clause-shaped c = reached_shaped
