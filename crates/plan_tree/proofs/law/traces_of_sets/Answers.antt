use Rattle.plan_tree.proofs.law.traces_of_sets.Goals as goal
use Rattle.plan_tree.proofs.Traces.{trace_same}

pub returns : goal.returns
returns c = record { same = trace_same }
