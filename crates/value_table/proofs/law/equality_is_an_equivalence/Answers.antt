use Rattle.std.proofs.Common.{◌∙◌}
use Rattle.value_table.proofs.Equality.{equal_itself, equal_turned, equal_alike}
use Rattle.value_table.proofs.law.equality_is_an_equivalence.Goals as goal

pub returns-clause-itself : goal.returns-clause-itself
returns-clause-itself c = equal_itself

pub returns-clause-turned : goal.returns-clause-turned
returns-clause-turned c = equal_turned

pub returns-clause-alike : goal.returns-clause-alike
returns-clause-alike c = equal_alike

pub returns-clause-chained : goal.returns-clause-chained
returns-clause-chained c x y z e f = equal_alike x y z e ∙ f
