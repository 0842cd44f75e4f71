use Rattle.sparql_value.proofs.Names.{same_value, restricted_value}
use Rattle.sparql_value.proofs.law.names_decide.Goals as goal

pub returns : goal.returns
returns c = record { alike = same_value; enough = restricted_value }
