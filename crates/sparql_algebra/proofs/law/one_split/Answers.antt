use Rattle.sparql_algebra.proofs.Accepting.{one_split}
use Rattle.sparql_algebra.proofs.law.one_split.Goals as goal

pub returns : goal.returns
returns c = one_split
