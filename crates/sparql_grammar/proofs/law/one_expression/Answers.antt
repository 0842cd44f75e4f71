use Rattle.sparql_grammar.proofs.Spelled.{one_expression}
use Rattle.sparql_grammar.proofs.law.one_expression.Goals as goal

pub returns : goal.returns
returns c = one_expression
