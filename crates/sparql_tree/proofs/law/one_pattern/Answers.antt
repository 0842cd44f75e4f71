use Rattle.sparql_tree.proofs.law.one_pattern.Goals as goal
use Rattle.sparql_tree.proofs.Full.{one_more}

pub returns : goal.returns
returns c = record { joined = one_more }
