use Rattle.std.proofs.Common.{◌+◌, ◌-◌, ◌*◌, ◌∙◌, get_or}
use Rattle.term_core.specs.Numbers.{value_after}
use Rattle.xsd_num.proofs.Digits.{value_from}
use Rattle.sparql_grammar.proofs.Counts.{none_below}
use Rattle.sparql_grammar.proofs.queries.value.Goals as goal

pub returns-in_err-n : goal.returns-in_err-n
returns-in_err-n c =
    c.from_residual.ensures
    ∙ none_below (c.loop-digit.n * 10 + (get_or c.args.digits.now c.loop-digit.digit-index 0 - 48)) (value_after 0 c.args.digits.now) c.digit_after.result
    c.digit_after.ensures c.in_err-n.was
    (rw c.loop-digit.invariant.value at (value_from c.loop-digit.n c.loop-digit.digit-index c.args.digits.now c.loop-digit-test.true))
