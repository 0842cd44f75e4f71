use Rattle.sparql_tree.proofs.law.any_order.Goals as goal
use Rattle.sparql_tree.proofs.Full.{any_order}

pub returns : goal.returns
returns c = record { any_order = any_order }
