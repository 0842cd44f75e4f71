use Rattle.std.proofs.Common.{take}
use Rattle.row_bag.specs.Rows.{BindsAll}
use Rattle.row_bag.proofs.names.all_names.Given as goal

abbrev pub invariant-loop-row : goal.invariant-loop-row
invariant-loop-row l = BindsAll l.bound (take l.row-index l.rows)
