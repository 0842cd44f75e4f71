use Rattle.sparql_read.proofs.Texts.{one-refusal}
use Rattle.sparql_read.proofs.law.one_cause_of_no_tree.Goals as goal

pub returns : goal.returns
returns c = one-refusal
