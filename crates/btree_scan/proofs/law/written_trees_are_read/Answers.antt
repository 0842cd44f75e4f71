use Rattle.btree_scan.proofs.Written.{lists_from_written}
use Rattle.btree_scan.proofs.law.written_trees_are_read.Goals as goal

pub returns : goal.returns
returns c = λ tree es image written. lists_from_written tree es image written
