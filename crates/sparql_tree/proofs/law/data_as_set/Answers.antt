use Rattle.sparql_tree.proofs.law.data_as_set.Goals as goal
use Rattle.sparql_tree.proofs.Data.{solutions_same}

pub returns : goal.returns
returns c = record { same = solutions_same }
