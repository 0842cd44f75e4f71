use Rattle.sparql_print.proofs.Constraints.{spells-one}
use Rattle.sparql_print.proofs.law.one_constraint.Goals as goal

pub returns : goal.returns
returns c = spells-one
