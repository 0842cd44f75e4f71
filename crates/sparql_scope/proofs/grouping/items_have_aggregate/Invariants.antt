use Rattle.std.proofs.Common.{◌≡◌, map, drop}
use Rattle.std.specs.List.{list_any}
use Rattle.sparql_tree.specs.GroupTrees.{item_of}
use Rattle.sparql_tree.specs.Breaches as spec
use Rattle.sparql_tree.specs.Scopes.{has_aggregate}
use Rattle.sparql_scope.proofs.grouping.items_have_aggregate.Given as goal

-- what is left decides
abbrev pub invariant-loop-item : goal.invariant-loop-item
invariant-loop-item l = list_any has_aggregate (spec.item_values (map item_of (drop l.item-index l.items)))
    ≡ list_any has_aggregate (spec.item_values (map item_of l.items))
