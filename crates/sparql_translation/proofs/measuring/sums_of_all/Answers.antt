use Rattle.std.proofs.Common.{take, subst, sym, ap, map, ◌∙◌, ◌∷◌, []}
use Rattle.std.proofs.lemmas.List.{map-append}
use Rattle.sparql_tree.specs.ExprTrees.{tree_of}
use Rattle.sparql_translation.specs.Measures.{AreSums}
use Rattle.sparql_translation.proofs.Steps.{taken}
use Rattle.sparql_translation.proofs.measuring.sums_of_all.Goals as goal

pub loop-value-preserved : goal.loop-value-preserved
loop-value-preserved c =
    let xs = c.args.values.now in
    let i = c.loop-value.value-index in
    let x = c.value-item.result in
    subst (AreSums c.with_expression-sums.result)
    (sym (ap (map tree_of) (taken xs i x c.loop-value-test.true c.value-item.is) ∙ map-append tree_of (take i xs) (x ∷ [])))
    (c.with_expression-sums.ensures _ c.loop-value.invariant)
