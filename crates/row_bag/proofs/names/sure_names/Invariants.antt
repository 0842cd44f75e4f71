use Rattle.std.proofs.Common.{◌≡◌, true}
use Rattle.row_bag.specs.Rows.{are_bound}
use Rattle.row_bag.proofs.names.sure_names.Given as goal

abbrev pub invariant-loop-entry : goal.invariant-loop-entry
invariant-loop-entry l = (are_bound l.names.items l.left ≡ true) × (are_bound l.names.items l.right ≡ true)
