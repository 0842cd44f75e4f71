use Rattle.plan_tree.proofs.law.rows_of_pattern.Goals as goal
use Rattle.plan_tree.proofs.Traces.{rows_of-pattern}

pub returns : goal.returns
returns c = record { rows = rows_of-pattern }
