use Rattle.std.proofs.Common.{◌≡◌, ◌++◌, drop}
use Rattle.std.specs.Prelude.{flat_map}
use Rattle.sparql_tree.specs.ExprTrees.{trees_of, signs_of, factors_of}
use Rattle.sparql_tree.specs.Scopes as spec
use Rattle.plan_course.specs.Parts.{outside_operand}
use Rattle.plan_course.proofs.outside.+outside.Given as goal

-- behind what was added, what is left adds what all add
abbrev pub invariant-add_outside_all-loop-value : goal.invariant-add_outside_all-loop-value
invariant-add_outside_all-loop-value l = l.found ++ flat_map spec.outside (trees_of (drop l.value-index l.values)) ≡ l.fn.found ++ flat_map spec.outside (trees_of l.values)

abbrev pub invariant-add_outside_signs-loop-signed : goal.invariant-add_outside_signs-loop-signed
invariant-add_outside_signs-loop-signed l = l.found ++ flat_map outside_operand (signs_of (drop l.signed-index l.values)) ≡ l.fn.found ++ flat_map outside_operand (signs_of l.values)

abbrev pub invariant-add_outside_factors-loop-factor : goal.invariant-add_outside_factors-loop-factor
invariant-add_outside_factors-loop-factor l = l.found ++ flat_map outside_operand (factors_of (drop l.factor-index l.values)) ≡ l.fn.found ++ flat_map outside_operand (factors_of l.values)
