use Rattle.std.proofs.Common.{◌≡◌, ◌∙◌, ◌+◌, ◌++◌, ◌∷◌, [], take, ap}
use Rattle.sparql_tree.specs.Groups as tree
use Rattle.sparql_tree.specs.GroupTrees.{element_of, elements_of}
use Rattle.sparql_tree.specs.Translation.{filters_in}
use Rattle.sparql_translation.proofs.Elements.{filters_behind}
use Rattle.sparql_translation.proofs.Steps.{taken}
use Rattle.sparql_translation.proofs.translation.filters_of.Goals as goal

pub loop-part-preserved : goal.loop-part-preserved
loop-part-preserved c =
    let xs = c.args.parts.now in
    let i = c.loop-part.part-index in
    let x = c.part-item.result in
    let more : filters_in (tree.elements (elements_of (take (i + 1) xs))) ≡ filters_in (tree.elements (elements_of (take i xs))) ++ filters_in (tree.elements (element_of x ∷ [])) =
    ap (λ ys. filters_in (tree.elements (elements_of ys))) (taken xs i x c.loop-part-test.true c.part-item.is) ∙ filters_behind (take i xs) x in
    cc c.in_ok-add_filter.ensures
