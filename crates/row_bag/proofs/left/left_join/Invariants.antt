use Rattle.std.proofs.Common.{◌≡◌, take}
use Rattle.std.specs.Prelude.{option_map}
use Rattle.std.specs.Option.{option_copied}
use Rattle.sparql_tree.specs.ExprTrees.{tree_of}
use Rattle.sparql_value.specs.Solutions.{left_joins}
use Rattle.row_bag.proofs.left.left_join.Given as goal

abbrev pub invariant-loop-a : goal.invariant-loop-a
invariant-loop-a l = l.out ≡ left_joins (option_map tree_of (option_copied l.condition)) (take l.a-index l.left) l.right
