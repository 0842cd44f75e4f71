use Rattle.plan_tree.proofs.states.one_run.Goals as goal
use Rattle.plan_tree.proofs.Runs.{one_run, one_page}

pub returns-clause-run : goal.returns-clause-run
returns-clause-run c = one_run

pub returns-clause-page : goal.returns-clause-page
returns-clause-page c = one_page
