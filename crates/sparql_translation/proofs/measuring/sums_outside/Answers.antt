use Rattle.std.proofs.Common.{map, subst}
use Rattle.sparql_tree.specs.Breaches.{item_values}
use Rattle.sparql_tree.specs.ExprTrees.{trees_of}
use Rattle.sparql_tree.specs.Groups as tree
use Rattle.sparql_tree.specs.GroupTrees.{item_of, key_of, order_of}
use Rattle.sparql_translation.specs.Measures.{AreSums}
use Rattle.sparql_translation.proofs.measuring.sums_outside.Goals as goal

pub returns : goal.returns
returns c =
    let having = subst (λ vs. AreSums c.sums_of_all-having.result (trees_of vs)) c.as_slice.ensures c.sums_of_all-having.ensures in
    let order = subst (λ ks. AreSums c.sums_of_order.result (map (λ (key : tree.OrderKey). key.value) (map order_of ks))) c.as_slice-2.ensures c.sums_of_order.ensures in
    let keys = subst (λ ks. AreSums c.sums_of_keys.result (map (λ (key : tree.GroupKey). key.value) (map key_of ks))) c.as_slice-3.ensures c.sums_of_keys.ensures in
    let items = subst (λ ts. AreSums c.sums_of_items.result (item_values (map item_of ts))) c.as_slice-4.ensures c.sums_of_items.ensures in
    c.with_sums.ensures _ _ items (c.with_sums-behind_items.ensures _ _ keys (c.with_sums-behind_keys.ensures _ _ having order))
