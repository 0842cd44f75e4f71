use Rattle.std.proofs.Common.{arith, length-append}
use Rattle.sparql_tree.specs.Exprs.{Expr}
use Rattle.sparql_translation.proofs.Conditions.{deepest_behind, weight_behind}
use Rattle.sparql_translation.proofs.measure.with_sums.Goals as goal

pub returns : goal.returns
returns c = λ es fs h k. record {
  number = omega (arith, length-append es fs);
  depth = omega (arith, deepest_behind es fs);
  weight = omega (arith, weight_behind es fs);
}
