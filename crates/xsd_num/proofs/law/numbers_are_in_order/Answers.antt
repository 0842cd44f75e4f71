use Rattle.std.proofs.lemmas.Cmp.{on_total, int_cmp_total}
use Rattle.term_core.specs.Numbers.{numerator, scale, at_scale}
use Rattle.xsd_num.proofs.Scales.{order_by_value, ties_by_value}
use Rattle.xsd_num.proofs.law.numbers_are_in_order.Goals as goal

pub returns-clause-total : goal.returns-clause-total
returns-clause-total c = on_total (at_scale 18) int_cmp_total

pub returns-clause-by_value : goal.returns-clause-by_value
returns-clause-by_value c a b h g = order_by_value (numerator a) (numerator b) (scale a) (scale b) h g

pub returns-clause-ties : goal.returns-clause-ties
returns-clause-ties c a b h g = ties_by_value (numerator a) (numerator b) (scale a) (scale b) h g
