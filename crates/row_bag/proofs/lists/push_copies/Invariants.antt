use Rattle.std.proofs.Common.{◌≡◌, ◌++◌, take}
use Rattle.row_bag.proofs.lists.push_copies.Given as goal

abbrev pub invariant-loop-row : goal.invariant-loop-row
invariant-loop-row l = l.out ≡ l.initial.out ++ take l.row-index l.rows
