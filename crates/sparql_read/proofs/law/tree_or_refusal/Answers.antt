use Rattle.sparql_read.proofs.Texts.{not-both, always}
use Rattle.sparql_read.proofs.law.tree_or_refusal.Goals as goal

pub returns : goal.returns
returns c = record { not_both = not-both; always = always }
