use Rattle.std.proofs.Common.{◌≡◌, ◌++◌, map, drop}
use Rattle.sparql_tree.specs.GroupTrees.{order_of}
use Rattle.sparql_tree.specs.Breaches as spec
use Rattle.sparql_scope.proofs.grouping.order_outside.Given as goal

-- behind what was found, what is left adds what all add
abbrev pub invariant-loop-key : goal.invariant-loop-key
invariant-loop-key l = l.found ++ spec.orders_outside (map order_of (drop l.key-index l.order)) ≡ spec.orders_outside (map order_of l.order)
