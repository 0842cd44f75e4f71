use Rattle.std.proofs.Common.{◌≡◌, take}
use Rattle.sparql_value.specs.Solutions.{differences}
use Rattle.row_bag.proofs.difference.minus.Given as goal

abbrev pub invariant-loop-a : goal.invariant-loop-a
invariant-loop-a l = l.out ≡ differences (take l.a-index l.left) l.right
