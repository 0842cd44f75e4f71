use Rattle.std.proofs.Common.{take, subst, sym, ap, ◌∙◌}
use Rattle.sparql_tree.specs.Groups as tree
use Rattle.sparql_tree.specs.GroupTrees.{elements_of}
use Rattle.sparql_tree.specs.Translation.{filters_in}
use Rattle.sparql_translation.specs.Measures.{AreSums}
use Rattle.sparql_translation.proofs.Elements.{filters_behind}
use Rattle.sparql_translation.proofs.Steps.{taken}
use Rattle.sparql_translation.proofs.measuring.sums_of_filters.Goals as goal

pub loop-element-preserved : goal.loop-element-preserved
loop-element-preserved c =
    let xs = c.args.elements.now in
    let i = c.loop-element.element-index in
    subst (AreSums c.with_filter-sums.result)
    (sym (ap (λ ys. filters_in (tree.elements (elements_of ys))) (taken xs i c.element-item.result c.loop-element-test.true c.element-item.is) ∙ filters_behind (take i xs) c.element-item.result))
    (c.with_filter-sums.ensures _ c.loop-element.invariant)
