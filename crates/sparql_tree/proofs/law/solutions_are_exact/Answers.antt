use Rattle.sparql_tree.proofs.law.solutions_are_exact.Goals as goal
use Rattle.sparql_tree.proofs.Full.{exact}

pub returns : goal.returns
returns c = record { exact = exact }
