use Rattle.std.proofs.Common.{take, map}
use Rattle.sparql_tree.specs.Groups as tree
use Rattle.sparql_tree.specs.Breaches.{item_values}
use Rattle.sparql_tree.specs.GroupTrees.{item_of, key_of, order_of}
use Rattle.sparql_translation.specs.Measures.{AreSums}
use Rattle.sparql_translation.proofs.measuring.sums_of_order.Given as goal

abbrev pub invariant-loop-key : goal.invariant-loop-key
invariant-loop-key l = AreSums l.sums (map (λ (key : tree.OrderKey). key.value) (map order_of (take l.key-index l.keys)))
