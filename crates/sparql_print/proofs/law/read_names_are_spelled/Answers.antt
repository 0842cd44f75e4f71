use Rattle.sparql_print.proofs.ReadQueries.{item-names, scope-names}
use Rattle.sparql_print.proofs.law.read_names_are_spelled.Goals as goal

pub returns : goal.returns
returns c = record { items = item-names; scope = scope-names }
