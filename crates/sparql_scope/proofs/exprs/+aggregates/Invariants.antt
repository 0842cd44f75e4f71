use Rattle.std.proofs.Common.{◌≡◌, drop}
use Rattle.std.specs.List.{list_any}
use Rattle.sparql_tree.specs.ExprTrees.{trees_of, signs_of, factors_of}
use Rattle.sparql_tree.specs.Scopes as spec
use Rattle.sparql_scope.specs.Parts.{operand_has_aggregate}
use Rattle.sparql_scope.proofs.exprs.+aggregates.Given as goal

-- what is left decides
abbrev pub invariant-have_aggregate-loop-value : goal.invariant-have_aggregate-loop-value
invariant-have_aggregate-loop-value l = list_any spec.has_aggregate (trees_of (drop l.value-index l.values)) ≡ list_any spec.has_aggregate (trees_of l.values)

abbrev pub invariant-signed_have_aggregate-loop-signed : goal.invariant-signed_have_aggregate-loop-signed
invariant-signed_have_aggregate-loop-signed l = list_any operand_has_aggregate (signs_of (drop l.signed-index l.values)) ≡ list_any operand_has_aggregate (signs_of l.values)

abbrev pub invariant-factors_have_aggregate-loop-factor : goal.invariant-factors_have_aggregate-loop-factor
invariant-factors_have_aggregate-loop-factor l = list_any operand_has_aggregate (factors_of (drop l.factor-index l.values)) ≡ list_any operand_has_aggregate (factors_of l.values)
