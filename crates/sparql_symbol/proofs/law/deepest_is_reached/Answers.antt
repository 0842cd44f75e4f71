use Rattle.sparql_symbol.proofs.Firsts.{deepest-is}
use Rattle.sparql_symbol.proofs.law.deepest_is_reached.Goals as goal

pub returns : goal.returns
returns c = deepest-is
