use Rattle.btree_scan.proofs.Bytes.{written_from_tree}
use Rattle.btree_scan.proofs.law.trees_are_written.Goals as goal

pub returns : goal.returns
returns c = λ tree es image there. written_from_tree tree es image there
