use Rattle.sparql_translation.proofs.Splits.{whole}
use Rattle.sparql_translation.proofs.law.splits_keep_solutions.Goals as goal

pub returns : goal.returns
returns c = whole
