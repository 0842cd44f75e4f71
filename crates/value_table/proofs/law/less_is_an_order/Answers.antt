use Rattle.value_table.proofs.Less.{one_of_three, less_chain, less_alike, less_alike_right}
use Rattle.value_table.proofs.Comparing.{untold_back}
use Rattle.value_table.proofs.law.less_is_an_order.Goals as goal

pub returns-clause-one : goal.returns-clause-one
returns-clause-one c = one_of_three

pub returns-clause-turned : goal.returns-clause-turned
returns-clause-turned c a b = (untold_back a b, untold_back b a)

pub returns-clause-chained : goal.returns-clause-chained
returns-clause-chained c = less_chain

pub returns-clause-alike : goal.returns-clause-alike
returns-clause-alike c = less_alike

pub returns-clause-alike_right : goal.returns-clause-alike_right
returns-clause-alike_right c = less_alike_right
