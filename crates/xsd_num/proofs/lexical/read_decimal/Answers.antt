use Rattle.std.proofs.Common.{◌∙◌, sym}
use Rattle.xsd_num.proofs.Texts.{decimal_read, decimal_digits}
use Rattle.xsd_num.proofs.Trims.{least_kept}
use Rattle.xsd_num.proofs.lexical.read_decimal.Goals as goal

pub decimal_of-requires-clause-whole : goal.decimal_of-requires-clause-whole
decimal_of-requires-clause-whole c = (decimal_digits c.split_point.result.0.now c.split_point.result.1.now (sym c.are_decimal.ensures ∙ c.if-are_decimal.true)).0

pub decimal_of-requires-clause-fraction : goal.decimal_of-requires-clause-fraction
decimal_of-requires-clause-fraction c = (decimal_digits c.split_point.result.0.now c.split_point.result.1.now (sym c.are_decimal.ensures ∙ c.if-are_decimal.true)).1

pub returns-then-are_decimal-clause-exact : goal.returns-then-are_decimal-clause-exact
returns-then-are_decimal-clause-exact c =
    decimal_read c.args.text.now c.split_sign-minus.result.1.now c.split_point.result.0.now c.split_point.result.1.now c.split_sign-minus.result.0 c.decimal_of.result
    c.split_sign-minus.ensures.minus c.split_sign-minus.ensures.rest c.split_point.ensures.before c.split_point.ensures.behind
    (sym c.are_decimal.ensures ∙ c.if-are_decimal.true) c.decimal_of.ensures

pub returns-then-are_decimal-clause-kept : goal.returns-then-are_decimal-clause-kept
returns-then-are_decimal-clause-kept c = least_kept _ _ _ c.decimal_of.result c.decimal_of.ensures
