use Rattle.std.proofs.Common.{◌≡◌, ◌≤◌, ◌-◌, ◌^◌, drop, max}
use Rattle.sparql_tree.specs.Exprs.{exprs, operands}
use Rattle.sparql_tree.specs.ExprTrees.{trees_of, signs_of, factors_of}
use Rattle.sparql_tree.specs.Sizes.{counted, deepest_of, deepest_operand}
use Rattle.sparql_tree.proofs.expr_sizes.+depth.Given as goal

-- what is counted is small; the depth so far and that of what is left are the depth of all
abbrev pub invariant-deepest-loop-value : goal.invariant-deepest-loop-value
invariant-deepest-loop-value l = record {
  small : l.depth ≤ 2 ^ 64 - 1;
  whole : counted (max l.depth (deepest_of (exprs (trees_of (drop l.value-index l.values))))) ≡ counted (deepest_of (exprs (trees_of l.values)));
}

abbrev pub invariant-deepest_sign-loop-signed : goal.invariant-deepest_sign-loop-signed
invariant-deepest_sign-loop-signed l = record {
  small : l.depth ≤ 2 ^ 64 - 1;
  whole : counted (max l.depth (deepest_operand (operands (signs_of (drop l.signed-index l.values))))) ≡ counted (deepest_operand (operands (signs_of l.values)));
}

abbrev pub invariant-deepest_factor-loop-factor : goal.invariant-deepest_factor-loop-factor
invariant-deepest_factor-loop-factor l = record {
  small : l.depth ≤ 2 ^ 64 - 1;
  whole : counted (max l.depth (deepest_operand (operands (factors_of (drop l.factor-index l.values))))) ≡ counted (deepest_operand (operands (factors_of l.values)));
}
