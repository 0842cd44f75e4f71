use Rattle.sparql_print.proofs.Constraints.{text-spells}
use Rattle.sparql_print.proofs.law.text_reads_back.Goals as goal

pub returns : goal.returns
returns c = text-spells
