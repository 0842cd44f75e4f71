use Rattle.std.proofs.Common.{◌≤◌, max, length, ap, sym, ◌∙◌, arith}
use Rattle.std.proofs.lemmas.Grind.{common_steps}
use Rattle.std.proofs.lemmas.List.{drop_all}
use Rattle.sparql_tree.specs.Exprs.{exprs, operands}
use Rattle.sparql_tree.specs.ExprTrees.{trees_of, signs_of, factors_of}
use Rattle.sparql_tree.specs.Sizes.{counted, deepest_of, deepest_operand}
use Rattle.sparql_tree.proofs.Counted.{greatest_is}
use Rattle.sparql_tree.proofs.expr_sizes.+depth.Goals as goal

pub deepest-returns : goal.deepest-returns
deepest-returns t c =
    let past : length c.args.values.now ≤ c.loop-value.value-index = grind (arith, common_steps) in
    sym (greatest_is c.loop-value.depth c.loop-value.invariant.small)
    ∙ ap (λ left. counted (max c.loop-value.depth (deepest_of (exprs (trees_of left))))) (sym (drop_all c.loop-value.value-index c.args.values.now past))
    ∙ c.loop-value.invariant.whole

pub deepest_sign-returns : goal.deepest_sign-returns
deepest_sign-returns t c =
    let past : length c.args.values.now ≤ c.loop-signed.signed-index = grind (arith, common_steps) in
    sym (greatest_is c.loop-signed.depth c.loop-signed.invariant.small)
    ∙ ap (λ left. counted (max c.loop-signed.depth (deepest_operand (operands (signs_of left))))) (sym (drop_all c.loop-signed.signed-index c.args.values.now past))
    ∙ c.loop-signed.invariant.whole

pub deepest_factor-returns : goal.deepest_factor-returns
deepest_factor-returns t c =
    let past : length c.args.values.now ≤ c.loop-factor.factor-index = grind (arith, common_steps) in
    sym (greatest_is c.loop-factor.depth c.loop-factor.invariant.small)
    ∙ ap (λ left. counted (max c.loop-factor.depth (deepest_operand (operands (factors_of left))))) (sym (drop_all c.loop-factor.factor-index c.args.values.now past))
    ∙ c.loop-factor.invariant.whole
