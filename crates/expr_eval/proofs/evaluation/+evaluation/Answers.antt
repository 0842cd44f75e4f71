use Rattle.std.proofs.Common.{◌≡◌, ◌<◌, ◌≤◌, sym, subst, length, get_or, arith, rules, ◌∙◌, Some, None}
use Rattle.std.proofs.lemmas.Grind.{common_steps}
use Rattle.expr_eval.specs.Answers.{FindsTerm}
use Rattle.expr_eval.proofs.Steps.{argument_there, argument_past, one_of_is, sum_fails, product_fails}
use Rattle.xsd_num.specs.Values.{number_of}
use Rattle.expr_eval.specs.Founds.{term_of}
use Rattle.expr_eval.proofs.evaluation.+evaluation.Goals as goal

pub argument-returns-in-Some : goal.argument-returns-in-Some
argument-returns-in-Some t c =
    let small : c.args.place < length c.args.arguments.now = first_of (search rules, grind (arith, common_steps)) in
    let is : c.in-Some.e.now ≡ get_or c.args.arguments.now c.args.place c.in-Some.e.now = first_of (search rules, grind (arith, common_steps)) in
    subst (λ v. FindsTerm v c.find.result) (sym (argument_there c.args.place c.args.arguments.now c.args.row.now c.in-Some.e.now small is)) c.find.ensures

pub argument-returns-in-None : goal.argument-returns-in-None
argument-returns-in-None t c =
    let past : length c.args.arguments.now ≤ c.args.place = first_of (search rules, grind (arith, common_steps)) in
    argument_past c.args.place c.args.arguments.now c.args.row.now past

pub find-returns-in-Ok : goal.find-returns-in-Ok
find-returns-in-Ok t c =
    subst (λ v. FindsTerm v c.membership.result)
    (sym (one_of_is c.args.e.now c.in-OneOf.left c.in-OneOf.items c.in-OneOf.negated c.args.row.now c.deref-in-OneOf.result.now c.deref-in-Ok.result.now
    (Some (term_of c.in-Ok.left)) c.in-OneOf.is c.deref-in-OneOf.ensures c.deref-in-Ok.ensures.value c.in-Ok.ensures.0))
    c.membership.ensures

pub find-returns-in-Err-Error : goal.find-returns-in-Err-Error
find-returns-in-Err-Error t c =
    let none = rw c.in-Err-Error.field-0-is at c.in-Err-Error.ensures in
    subst (λ v. FindsTerm v c.no_member.result)
    (sym (one_of_is c.args.e.now c.in-OneOf.left c.in-OneOf.items c.in-OneOf.negated c.args.row.now c.deref-in-OneOf.result.now c.deref-in-Err-Error.result.now
    None c.in-OneOf.is c.deref-in-OneOf.ensures c.deref-in-Err-Error.ensures.value none))
    (c.no_member.ensures c.args.row.now)

pub sum-returns-in-Err-Error : goal.sum-returns-in-Err-Error
sum-returns-in-Err-Error t c =
    let none = rw c.in-Err-Error.field-0-is at c.in-Err-Error.ensures in
    let small : c.loop-signed.signed-index < length c.args.rest.now = first_of (search rules, grind (arith, common_steps)) in
    sym c.loop-signed.invariant.whole ∙ sum_fails c.args.rest.now c.loop-signed.signed-index c.signed-item.result c.args.row.now
    (Some (number_of c.loop-signed.total)) small c.signed-item.is none

pub product-returns-in-Err-Error : goal.product-returns-in-Err-Error
product-returns-in-Err-Error t c =
    let none = rw c.in-Err-Error.field-0-is at c.in-Err-Error.ensures in
    let small : c.loop-factor.factor-index < length c.args.rest.now = first_of (search rules, grind (arith, common_steps)) in
    sym c.loop-factor.invariant.whole ∙ product_fails c.args.rest.now c.loop-factor.factor-index c.factor-item.result c.args.row.now
    (Some (number_of c.loop-factor.total)) small c.factor-item.is none
