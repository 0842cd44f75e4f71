use Rattle.sparql_read.proofs.Refused.{one_cause}
use Rattle.sparql_read.proofs.law.one_cause.Goals as goal

pub returns : goal.returns
returns c = one_cause
