use Rattle.nt_text.proofs.Written.{written}
use Rattle.nt_text.proofs.ReadBack.{lines_written, read_back}
use Rattle.nt_text.proofs.law.written_triples_read_back.Goals as goal

pub returns-clause-one : goal.returns-clause-one
returns-clause-one c = written

pub returns-clause-lines : goal.returns-clause-lines
returns-clause-lines c = lines_written

pub returns-clause-read : goal.returns-clause-read
returns-clause-read c = read_back
