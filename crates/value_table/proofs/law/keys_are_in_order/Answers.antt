use Rattle.value_table.proofs.KeyOrder.{keys_total, keys_tie, keys_by_less}
use Rattle.value_table.proofs.law.keys_are_in_order.Goals as goal

pub returns-clause-total : goal.returns-clause-total
returns-clause-total c = keys_total

pub returns-clause-ties : goal.returns-clause-ties
returns-clause-ties c = keys_tie

pub returns-clause-by_less : goal.returns-clause-by_less
returns-clause-by_less c = keys_by_less
