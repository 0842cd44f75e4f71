use Rattle.xsd_num.proofs.Sums.{sum_value, difference_value, product_value, quotient_value}
use Rattle.xsd_num.proofs.law.answers_are_exact.Goals as goal

pub returns-clause-sums : goal.returns-clause-sums
returns-clause-sums c x y z e = sum_value x y z e

pub returns-clause-differences : goal.returns-clause-differences
returns-clause-differences c x y z e = difference_value x y z e

pub returns-clause-products : goal.returns-clause-products
returns-clause-products c x y z e = product_value x y z e

pub returns-clause-quotients : goal.returns-clause-quotients
returns-clause-quotients c x y z e = quotient_value x y z e
