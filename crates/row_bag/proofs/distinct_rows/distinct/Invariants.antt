use Rattle.std.proofs.Common.{◌≡◌, take}
use Rattle.term_core.specs.Bags.{distinct}
use Rattle.row_bag.specs.Hashes.{whole_hash, Indexes}
use Rattle.row_bag.specs.Rows.{same_row}
use Rattle.row_bag.proofs.distinct_rows.distinct.Given as goal

abbrev pub invariant-loop-row : goal.invariant-loop-row
invariant-loop-row l = (l.out ≡ distinct same_row (take l.row-index l.rows)) × Indexes whole_hash l.out l.index
