use Rattle.plan_tree.proofs.law.traces_end.Goals as goal
use Rattle.plan_tree.proofs.Traces.{traces_end, some_steps}

pub returns-clause-ends : goal.returns-clause-ends
returns-clause-ends c = traces_end

pub returns-clause-steps : goal.returns-clause-steps
returns-clause-steps c = some_steps
