use Rattle.sparql_read.proofs.Refused.{not_both, always}
use Rattle.sparql_read.proofs.law.accepted_or_refused.Goals as goal

pub returns : goal.returns
returns c = record { not_both = not_both; always = always }
