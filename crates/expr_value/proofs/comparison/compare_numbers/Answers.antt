use Rattle.std.proofs.Common.{◌∙◌}
use Rattle.expr_value.proofs.Integers.{integers_by_value}
use Rattle.expr_value.proofs.comparison.compare_numbers.Goals as goal

pub returns-in-Whole-Whole : goal.returns-in-Whole-Whole
returns-in-Whole-Whole c =
    rw (c.in-Whole-Whole.is-0, c.in-Whole-Whole.is-1)
    (c.cmp.ensures ∙ integers_by_value c.numbers_are_in_order.ensures.by_value c.in-Whole-Whole.a c.in-Whole-Whole.b)
