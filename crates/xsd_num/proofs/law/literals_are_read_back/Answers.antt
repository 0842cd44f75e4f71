use Rattle.xsd_num.proofs.Readback.{reads_back}
use Rattle.xsd_num.proofs.law.literals_are_read_back.Goals as goal

pub returns : goal.returns
returns c a h k = reads_back a h k
