use Rattle.sparql_symbol.proofs.Firsts.{finds-first}
use Rattle.sparql_symbol.proofs.law.named_is_first.Goals as goal

pub returns : goal.returns
returns c = finds-first
