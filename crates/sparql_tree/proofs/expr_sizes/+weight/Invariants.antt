use Rattle.std.proofs.Common.{◌≡◌, ◌≤◌, ◌-◌, ◌^◌, ◌+◌, drop}
use Rattle.sparql_tree.specs.Exprs.{exprs, operands}
use Rattle.sparql_tree.specs.ExprTrees.{trees_of, signs_of, factors_of}
use Rattle.sparql_tree.specs.Sizes.{counted, weight_of, operand_weight}
use Rattle.sparql_tree.proofs.expr_sizes.+weight.Given as goal

-- what is counted is small; the weight so far and that of what is left are the weight of all
abbrev pub invariant-weigh-loop-value : goal.invariant-weigh-loop-value
invariant-weigh-loop-value l = record {
  small : l.weight ≤ 2 ^ 64 - 1;
  whole : counted (l.weight + weight_of (exprs (trees_of (drop l.value-index l.values)))) ≡ counted (weight_of (exprs (trees_of l.values)));
}

abbrev pub invariant-weigh_signs-loop-signed : goal.invariant-weigh_signs-loop-signed
invariant-weigh_signs-loop-signed l = record {
  small : l.weight ≤ 2 ^ 64 - 1;
  whole : counted (l.weight + operand_weight (operands (signs_of (drop l.signed-index l.values)))) ≡ counted (operand_weight (operands (signs_of l.values)));
}

abbrev pub invariant-weigh_factors-loop-factor : goal.invariant-weigh_factors-loop-factor
invariant-weigh_factors-loop-factor l = record {
  small : l.weight ≤ 2 ^ 64 - 1;
  whole : counted (l.weight + operand_weight (operands (factors_of (drop l.factor-index l.values)))) ≡ counted (operand_weight (operands (factors_of l.values)));
}
