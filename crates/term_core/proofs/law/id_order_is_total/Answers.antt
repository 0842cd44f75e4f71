use Rattle.std.proofs.Common.{refl}
use Rattle.term_core.proofs.IdOrder.{ids_total, same_ids}
use Rattle.term_core.proofs.law.id_order_is_total.Goals as goal

pub returns-clause-total : goal.returns-clause-total
returns-clause-total c = ids_total

pub returns-clause-exact : goal.returns-clause-exact
returns-clause-exact c = same_ids

pub returns-clause-derived : goal.returns-clause-derived
returns-clause-derived c a b = refl
