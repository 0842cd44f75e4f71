use Rattle.sparql_lex.proofs.Readings.{not-both, always}
use Rattle.sparql_lex.proofs.law.tokens_or_fault.Goals as goal

pub returns : goal.returns
returns c = record { not_both = not-both; always = always }
