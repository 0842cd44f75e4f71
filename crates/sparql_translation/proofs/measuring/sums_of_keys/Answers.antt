use Rattle.std.proofs.Common.{take, subst, sym, ap, map, ◌∙◌, ◌∷◌, []}
use Rattle.std.proofs.lemmas.List.{map-append}
use Rattle.sparql_tree.specs.Groups as tree
use Rattle.sparql_tree.specs.GroupTrees.{key_of}
use Rattle.sparql_translation.specs.Measures.{AreSums}
use Rattle.sparql_translation.proofs.Steps.{taken}
use Rattle.sparql_translation.proofs.measuring.sums_of_keys.Goals as goal

pub loop-key-preserved : goal.loop-key-preserved
loop-key-preserved c =
    let xs = c.args.keys.now in
    let i = c.loop-key.key-index in
    let x = c.key-item.result in
    subst (AreSums c.with_expression-sums.result)
    (sym (ap (λ ys. map (λ (key : tree.GroupKey). key.value) (map key_of ys)) (taken xs i x c.loop-key-test.true c.key-item.is)
    ∙ (ap (map (λ (key : tree.GroupKey). key.value)) (map-append key_of (take i xs) (x ∷ []))
    ∙ map-append (λ (key : tree.GroupKey). key.value) (map key_of (take i xs)) (key_of x ∷ []))))
    (c.with_expression-sums.ensures _ c.loop-key.invariant)
