use Rattle.sparql_lex.proofs.Readings.{one-kind}
use Rattle.sparql_lex.proofs.law.one_kind.Goals as goal

pub returns : goal.returns
returns c = one-kind
