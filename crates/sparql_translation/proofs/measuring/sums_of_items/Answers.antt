use Rattle.std.proofs.Common.{take, subst, sym, ap, map, ◌∙◌, ◌∷◌, []}
use Rattle.std.proofs.lemmas.List.{map-append}
use Rattle.sparql_tree.specs.Breaches.{item_values}
use Rattle.sparql_tree.specs.GroupTrees.{item_of}
use Rattle.sparql_translation.specs.Measures.{AreSums}
use Rattle.std.proofs.lemmas.Grind.{flat_map-append}
use Rattle.sparql_translation.proofs.Steps.{taken}
use Rattle.sparql_translation.proofs.measuring.sums_of_items.Goals as goal

pub loop-item-preserved : goal.loop-item-preserved
loop-item-preserved c =
    let xs = c.args.items.now in
    let i = c.loop-item.item-index in
    let x = c.item-item.result in
    subst (AreSums c.with_item-sums.result)
    (sym (ap (λ ys. item_values (map item_of ys)) (taken xs i x c.loop-item-test.true c.item-item.is)
    ∙ (ap item_values (map-append item_of (take i xs) (x ∷ [])) ∙ flat_map-append _ (map item_of (take i xs)) (item_of x ∷ []))))
    (c.with_item-sums.ensures _ c.loop-item.invariant)
