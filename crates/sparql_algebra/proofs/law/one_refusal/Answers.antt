use Rattle.sparql_algebra.proofs.Accepting.{one_refusal}
use Rattle.sparql_algebra.proofs.law.one_refusal.Goals as goal

pub returns : goal.returns
returns c = one_refusal
