use Rattle.std.proofs.lemmas.Cmp.{nat_list_cmp_total}
use Rattle.term_core.specs.OrderLaws.{same_bytes}
use Rattle.term_core.proofs.law.bytes_order_is_total.Goals as goal

pub returns-clause-total : goal.returns-clause-total
returns-clause-total c = nat_list_cmp_total

pub returns-clause-exact : goal.returns-clause-exact
returns-clause-exact c = same_bytes
