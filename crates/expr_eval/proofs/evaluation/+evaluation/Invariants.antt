use Rattle.std.proofs.Common.{◌≡◌, drop, Some, None}
use Rattle.std.specs.Prelude.{IsTrue}
use Rattle.term_core.specs.Numbers.{is_kept}
use Rattle.xsd_num.specs.Values.{number_of}
use Rattle.sparql_tree.specs.Exprs.{exprs, operands}
use Rattle.sparql_tree.specs.ExprTrees.{trees_of, signs_of, factors_of}
use Rattle.sparql_value.specs.Operators as operators
use Rattle.sparql_value.specs.Functions as functions
use Rattle.sparql_value.specs.Evaluation.{values_under, operands_under}
use Rattle.expr_eval.specs.Founds.{term_of}
use Rattle.expr_eval.specs.Tagged.{tagging_within}
use Rattle.expr_eval.proofs.Steps.{not_yet, so_far}
use Rattle.expr_eval.proofs.evaluation.+evaluation.Given as goal

-- what is known and what is left decide
abbrev pub invariant-any_true-loop-part : goal.invariant-any_true-loop-part
invariant-any_true-loop-part l = operators.either (not_yet l.unknown) (operators.any_true (values_under (exprs (trees_of (drop l.part-index l.parts))) l.row))
    ≡ operators.any_true (values_under (exprs (trees_of l.parts)) l.row)

abbrev pub invariant-all_true-loop-part : goal.invariant-all_true-loop-part
invariant-all_true-loop-part l = operators.both (so_far l.unknown) (operators.all_true (values_under (exprs (trees_of (drop l.part-index l.parts))) l.row))
    ≡ operators.all_true (values_under (exprs (trees_of l.parts)) l.row)

abbrev pub invariant-membership-loop-item : goal.invariant-membership-loop-item
invariant-membership-loop-item l = operators.either (not_yet l.unknown) (operators.in_list (Some (term_of l.left)) (values_under (exprs (trees_of (drop l.item-index l.items))) l.row))
    ≡ operators.in_list (Some (term_of l.left)) (values_under (exprs (trees_of l.items)) l.row)

-- behind what was computed, what is left gives the whole
abbrev pub invariant-sum-loop-signed : goal.invariant-sum-loop-signed
invariant-sum-loop-signed l = record {
  kept : IsTrue (is_kept (number_of l.total));
  whole : operators.chain operators.adding (Some (number_of l.total)) (operands_under (operands (signs_of (drop l.signed-index l.rest))) l.row)
      ≡ operators.chain operators.adding (Some (number_of l.fn.first)) (operands_under (operands (signs_of l.rest)) l.row);
}

abbrev pub invariant-product-loop-factor : goal.invariant-product-loop-factor
invariant-product-loop-factor l = record {
  kept : IsTrue (is_kept (number_of l.total));
  whole : operators.chain operators.multiplying (Some (number_of l.total)) (operands_under (operands (factors_of (drop l.factor-index l.rest))) l.row)
      ≡ operators.chain operators.multiplying (Some (number_of l.fn.first)) (operands_under (operands (factors_of l.rest)) l.row);
}

-- what is left decides
abbrev pub invariant-first_valued-loop-e : goal.invariant-first_valued-loop-e
invariant-first_valued-loop-e l = functions.first_valued (values_under (exprs (trees_of (drop l.e-index l.arguments))) l.row)
    ≡ functions.first_valued (values_under (exprs (trees_of l.arguments)) l.row)

-- behind what was joined, what is left gives the whole
abbrev pub invariant-concat-loop-e : goal.invariant-concat-loop-e
invariant-concat-loop-e l = functions.concat_behind (tagging_within l.string) (values_under (exprs (trees_of (drop l.e-index l.arguments))) l.row)
    ≡ functions.concat_behind None (values_under (exprs (trees_of l.arguments)) l.row)
