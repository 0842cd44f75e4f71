use Rattle.plan_tree.proofs.law.entries_extend.Goals as goal
use Rattle.plan_tree.proofs.Made.{extended_is}

pub returns : goal.returns
returns c = record { extended = extended_is }
