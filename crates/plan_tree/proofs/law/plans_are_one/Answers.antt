use Rattle.plan_tree.proofs.law.plans_are_one.Goals as goal
use Rattle.plan_tree.proofs.Ordered.{plan_is, plans_same}

pub returns-clause-plan : goal.returns-clause-plan
returns-clause-plan c = plan_is

pub returns-clause-alike : goal.returns-clause-alike
returns-clause-alike c = plans_same
