use Rattle.std.proofs.Common.{◌≡◌, ◌++◌, map, drop}
use Rattle.sparql_tree.specs.GroupTrees.{item_of}
use Rattle.sparql_tree.specs.Breaches as spec
use Rattle.sparql_scope.proofs.grouping.add_item_names.Given as goal

-- behind what was found, what is left adds what all add
abbrev pub invariant-loop-item : goal.invariant-loop-item
invariant-loop-item l = l.found ++ spec.item_names (map item_of (drop l.item-index l.items)) ≡ l.fn.found ++ spec.item_names (map item_of l.items)
