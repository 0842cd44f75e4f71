use Rattle.sparql_scope.proofs.Kept.{labels_apart}
use Rattle.sparql_scope.proofs.law.labels_are_apart.Goals as goal

pub returns : goal.returns
returns c = labels_apart
