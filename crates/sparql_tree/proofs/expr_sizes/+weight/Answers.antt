use Rattle.std.proofs.Common.{◌≤◌, ◌+◌, length, ap, sym, ◌∙◌, arith}
use Rattle.std.proofs.lemmas.Grind.{common_steps}
use Rattle.std.proofs.lemmas.List.{drop_all}
use Rattle.sparql_tree.specs.Exprs.{exprs, operands}
use Rattle.sparql_tree.specs.ExprTrees.{trees_of, signs_of, factors_of}
use Rattle.sparql_tree.specs.Sizes.{counted, weight_of, operand_weight}
use Rattle.sparql_tree.proofs.Counted.{sum_is}
use Rattle.sparql_tree.proofs.expr_sizes.+weight.Goals as goal

pub weigh-returns : goal.weigh-returns
weigh-returns t c =
    let past : length c.args.values.now ≤ c.loop-value.value-index = grind (arith, common_steps) in
    sym (sum_is c.loop-value.weight c.loop-value.invariant.small)
    ∙ ap (λ left. counted (c.loop-value.weight + weight_of (exprs (trees_of left)))) (sym (drop_all c.loop-value.value-index c.args.values.now past))
    ∙ c.loop-value.invariant.whole

pub weigh_signs-returns : goal.weigh_signs-returns
weigh_signs-returns t c =
    let past : length c.args.values.now ≤ c.loop-signed.signed-index = grind (arith, common_steps) in
    sym (sum_is c.loop-signed.weight c.loop-signed.invariant.small)
    ∙ ap (λ left. counted (c.loop-signed.weight + operand_weight (operands (signs_of left)))) (sym (drop_all c.loop-signed.signed-index c.args.values.now past))
    ∙ c.loop-signed.invariant.whole

pub weigh_factors-returns : goal.weigh_factors-returns
weigh_factors-returns t c =
    let past : length c.args.values.now ≤ c.loop-factor.factor-index = grind (arith, common_steps) in
    sym (sum_is c.loop-factor.weight c.loop-factor.invariant.small)
    ∙ ap (λ left. counted (c.loop-factor.weight + operand_weight (operands (factors_of left)))) (sym (drop_all c.loop-factor.factor-index c.args.values.now past))
    ∙ c.loop-factor.invariant.whole
