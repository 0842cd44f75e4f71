use Rattle.std.proofs.Common.{◌≡◌, drop, length}
use Rattle.row_bag.specs.Rows.{same_entries}
use Rattle.row_bag.proofs.pairs.are_same_entries.Given as goal

abbrev pub invariant-loop-k : goal.invariant-loop-k
invariant-loop-k l = (same_entries (drop l.k l.a) (drop l.k l.b) ≡ same_entries l.a l.b) × (length l.a ≡ length l.b)
