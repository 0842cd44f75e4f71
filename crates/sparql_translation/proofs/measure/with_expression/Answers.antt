use Rattle.std.proofs.Common.{arith, length-append, [], ◌∷◌}
use Rattle.sparql_tree.specs.ExprTrees.{tree_of}
use Rattle.sparql_translation.proofs.Conditions.{deepest_behind, weight_behind}
use Rattle.sparql_translation.proofs.measure.with_expression.Goals as goal

pub returns : goal.returns
returns c = λ es h. record {
  number = omega (arith, length-append es (tree_of c.args.value.now ∷ []));
  depth = omega (arith, deepest_behind es (tree_of c.args.value.now ∷ []));
  weight = omega (arith, weight_behind es (tree_of c.args.value.now ∷ []));
}
