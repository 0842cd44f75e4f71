use Rattle.sparql_tree.proofs.law.names_are_apart.Goals as goal
use Rattle.sparql_tree.proofs.Visible.{apart}

pub returns : goal.returns
returns c = record { apart = apart }
