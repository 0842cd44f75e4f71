use Rattle.term_dict.proofs.Reading.{term_back}
use Rattle.term_dict.proofs.law.records_are_read.Goals as goal

pub returns : goal.returns
returns c = term_back
