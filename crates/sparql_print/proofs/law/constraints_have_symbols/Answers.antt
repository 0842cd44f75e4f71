use Rattle.sparql_print.proofs.Constraints.{within-limits}
use Rattle.sparql_print.proofs.law.constraints_have_symbols.Goals as goal

pub returns : goal.returns
returns c = within-limits
