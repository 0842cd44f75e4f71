use Rattle.plan_tree.proofs.states.parts_join.Goals as goal
use Rattle.plan_tree.proofs.Runs.{one_run_of, parts_join}

pub returns-clause-run : goal.returns-clause-run
returns-clause-run c = one_run_of

pub returns-clause-join : goal.returns-clause-join
returns-clause-join c = parts_join
