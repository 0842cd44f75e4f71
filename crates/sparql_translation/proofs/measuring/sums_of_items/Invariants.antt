use Rattle.std.proofs.Common.{take, map}
use Rattle.sparql_tree.specs.Groups as tree
use Rattle.sparql_tree.specs.Breaches.{item_values}
use Rattle.sparql_tree.specs.GroupTrees.{item_of, key_of, order_of}
use Rattle.sparql_translation.specs.Measures.{AreSums}
use Rattle.sparql_translation.proofs.measuring.sums_of_items.Given as goal

abbrev pub invariant-loop-item : goal.invariant-loop-item
invariant-loop-item l = AreSums l.sums (item_values (map item_of (take l.item-index l.items)))
