use Rattle.sparql_read.proofs.Texts.{one-tree}
use Rattle.sparql_read.proofs.law.one_tree.Goals as goal

pub returns : goal.returns
returns c = one-tree
