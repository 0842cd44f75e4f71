use Rattle.sparql_print.proofs.VariableNames.{spelled-variable}
use Rattle.sparql_print.proofs.law.spelled_names_are_variables.Goals as goal

pub returns : goal.returns
returns c = spelled-variable
