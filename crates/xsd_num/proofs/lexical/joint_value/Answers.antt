use Rattle.std.proofs.Common.{◌∙◌}
use Rattle.term_core.specs.Numbers.{value_after}
use Rattle.xsd_num.proofs.Digits.{value_grows, none_below}
use Rattle.xsd_num.proofs.lexical.joint_value.Goals as goal

pub returns-in_err-value_after : goal.returns-in_err-value_after
returns-in_err-value_after c =
    c.from_residual.ensures
    ∙ none_below (value_after 0 c.args.whole.now) (value_after (value_after 0 c.args.whole.now) c.args.fraction.now) c.value_after.result
    c.value_after.ensures c.in_err-value_after.was (value_grows (value_after 0 c.args.whole.now) c.args.fraction.now)
