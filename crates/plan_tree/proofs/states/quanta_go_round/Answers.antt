use Rattle.plan_tree.proofs.states.quanta_go_round.Goals as goal
use Rattle.plan_tree.proofs.Runs.{goes_round}

pub returns : goal.returns
returns c = record { round = goes_round }
