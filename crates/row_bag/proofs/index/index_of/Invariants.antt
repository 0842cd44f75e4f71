use Rattle.std.proofs.Common.{take}
use Rattle.row_bag.specs.Hashes.{hash_at, Indexes}
use Rattle.row_bag.proofs.index.index_of.Given as goal

abbrev pub invariant-loop-row : goal.invariant-loop-row
invariant-loop-row l = Indexes (hash_at l.names) (take l.row-index l.rows) l.index
