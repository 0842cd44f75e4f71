use Rattle.std.proofs.Common.{◌≡◌, [], map, take, drop}
use Rattle.sparql_tree.specs.GroupTrees.{item_of, query_of}
use Rattle.sparql_tree.specs.Breaches as spec
use Rattle.sparql_tree.specs.Breaches.{first_name}
use Rattle.sparql_scope.specs.Named.{AreNamed}
use Rattle.sparql_scope.proofs.breach.first_of_items.Given as goal

-- what is left decides, where the items before are named
abbrev pub invariant-loop-item : goal.invariant-loop-item
invariant-loop-item l = record {
  same : first_name (spec.item_breaches (query_of l.query) (map item_of (take l.item-index l.query.items)) (map item_of (drop l.item-index l.query.items)))
      ≡ first_name (spec.item_breaches (query_of l.query) [] (query_of l.query).items);
  named : AreNamed l.named (query_of l.query) (map item_of (take l.item-index l.query.items));
}
