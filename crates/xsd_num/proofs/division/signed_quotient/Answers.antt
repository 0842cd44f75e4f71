use Rattle.std.proofs.Common.{◌+◌, ◌*◌, ◌/◌, ◌^◌, ◌∙◌, sym, ap}
use Rattle.xsd_num.specs.Values.{found}
use Rattle.term_core.specs.Numbers.{held_decimal}
use Rattle.xsd_num.proofs.Quotients.{quotient_is, none_held, below_some}
use Rattle.xsd_num.proofs.division.signed_quotient.Goals as goal

pub returns-in_err-magnitude : goal.returns-in_err-magnitude
returns-in_err-magnitude c =
    ap found c.from_residual.ensures
    ∙ sym (none_held c.args.minus (c.args.dividend / c.args.divisor * 10 ^ c.trimmed-fraction.result.1 + c.trimmed-fraction.result.0) c.trimmed-fraction.result.1
    (sym c.joined.ensures ∙ c.in_err-magnitude.was))
    ∙ quotient_is c.args.minus c.args.dividend c.args.divisor c.fraction_of-fraction.result c.trimmed-fraction.result
    c.requires.positive c.fraction_of-fraction.ensures.exact c.trimmed-fraction.ensures.exact

pub returns : goal.returns
returns c =
    c.held_decimal.ensures
    ∙ sym (ap (λ k. held_decimal c.args.minus (k, c.trimmed-fraction.result.1))
    (below_some (c.args.dividend / c.args.divisor * 10 ^ c.trimmed-fraction.result.1 + c.trimmed-fraction.result.0) c.in_ok-magnitude.magnitude
    (sym c.joined.ensures ∙ c.in_ok-magnitude.was)))
    ∙ quotient_is c.args.minus c.args.dividend c.args.divisor c.fraction_of-fraction.result c.trimmed-fraction.result
    c.requires.positive c.fraction_of-fraction.ensures.exact c.trimmed-fraction.ensures.exact
