use Rattle.plan_tree.proofs.states.pages_take_steps.Goals as goal
use Rattle.plan_tree.proofs.Runs.{takes_steps}

pub returns : goal.returns
returns c = record { steps = takes_steps }
