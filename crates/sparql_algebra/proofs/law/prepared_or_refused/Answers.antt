use Rattle.sparql_algebra.proofs.Accepting.{not_both, always}
use Rattle.sparql_algebra.proofs.law.prepared_or_refused.Goals as goal

pub returns : goal.returns
returns c = record { not_both = not_both; always = always }
