use Rattle.sparql_scope.proofs.Kept.{variables_new}
use Rattle.sparql_scope.proofs.law.variables_are_new.Goals as goal

pub returns : goal.returns
returns c = variables_new
