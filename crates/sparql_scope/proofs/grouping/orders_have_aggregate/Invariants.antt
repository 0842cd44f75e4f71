use Rattle.std.proofs.Common.{◌≡◌, map, drop}
use Rattle.std.specs.List.{list_any}
use Rattle.sparql_tree.specs.GroupTrees.{order_of}
use Rattle.sparql_tree.specs.Breaches as spec
use Rattle.sparql_scope.proofs.grouping.orders_have_aggregate.Given as goal

-- what is left decides
abbrev pub invariant-loop-key : goal.invariant-loop-key
invariant-loop-key l = list_any spec.order_has_aggregate (map order_of (drop l.key-index l.order))
    ≡ list_any spec.order_has_aggregate (map order_of l.order)
