use Rattle.sparql_lex.proofs.Readings.{one-tokens, one-fault}
use Rattle.sparql_lex.proofs.law.one_reading.Goals as goal

pub returns : goal.returns
returns c = record { tokens = one-tokens; fault = one-fault }
