use Rattle.nt_text.proofs.Judged.{one_list, one_cause, no_both, always}
use Rattle.nt_text.proofs.law.documents_have_one_answer.Goals as goal

pub returns-clause-triples : goal.returns-clause-triples
returns-clause-triples c = one_list

pub returns-clause-cause : goal.returns-clause-cause
returns-clause-cause c = one_cause

pub returns-clause-either : goal.returns-clause-either
returns-clause-either c = no_both

pub returns-clause-always : goal.returns-clause-always
returns-clause-always c = always
